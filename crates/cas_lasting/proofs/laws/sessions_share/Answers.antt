use Rattle.std.proofs.Common.{refl}
use Rattle.cas_lasting.proofs.laws.sessions_share.Goals as goal

pub returns : goal.returns
returns g c h s session calls stands = (
  record {
    limits = stands.limits;
    tables = stands.tables;
    clock = stands.clock;
    session = refl;
    calls = refl;
    disk = stands.disk;
    count = stands.count;
    shards = stands.shards;
    entered = stands.entered;
    memory = stands.memory;
    filled = stands.filled;
  },
  λ found told lasts. record {
    keeps = lasts.keeps;
    tables = lasts.tables;
    shards = lasts.shards;
    few = lasts.few;
    ordered = lasts.ordered;
    next = lasts.next;
    counted = lasts.counted;
    acknowledged = lasts.acknowledged;
    whole = lasts.whole;
    behind = lasts.behind;
    files = lasts.files;
    changes = lasts.changes;
    frontiers = lasts.frontiers;
    trimmed = lasts.trimmed;
  },
)
