-- What the reference's fields are to its definitions. Own.
use Rattle.cas_reference.specs.Kept.{Kept}
use Rattle.cas_reference.specs.Replies.{Store}
use Rattle.cas_reference.specs.declared.accepted.Accepted.{Accepted}
use Rattle.cas_reference.specs.declared.reference.Reference.{Reference}

-- what it keeps of writes
abbrev pub kept : Accepted → Kept
kept a = record { mutations = a.mutations.items; met = a.met.items }

-- the store that it is
abbrev pub held : Reference → Store
held r = record { limits = r.limits; kind = r.kind; seconds = r.seconds; tables = r.tables.items; kept = kept r.accepted }
