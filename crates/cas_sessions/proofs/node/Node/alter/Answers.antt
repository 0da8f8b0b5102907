use Rattle.std.proofs.Common.{◌∙◌, List, length, Err, refl, sym, ap, subst, arith}
use Rattle.std.proofs.lemmas.Option.{slice_get_read}
use Rattle.cas_types.specs.declared.schema.TableSchema.{TableSchema}
use Rattle.cas_bind.specs.Tables.{AreTables}
use Rattle.cas_bind.specs.declared.bound.Bound.TheVariants as bounds
use Rattle.cas_changes.specs.declared.entry.Entry.TheVariants.{AddColumns}
use Rattle.cas_history.specs.Items.{listed, log_list}
use Rattle.cas_shard.specs.Stands.{Stands}
use Rattle.cas_recovery.proofs.Places.{get_within}
use Rattle.cas_lasting.proofs.Tables.{adds_no_keys, altered_by, has_spelling, is_short, mapped, moves_done, moves_not, moves_nowhere, under_altered}
use Rattle.cas_sessions.specs.Calls.{reply_of}
use Rattle.cas_sessions.specs.declared.answer.Fault.{Fault}
use Rattle.cas_recovery.specs.Restored.{HaveMemory, HaveNoMore, MayBeRead, RememberAll}
use Rattle.cas_lasting.specs.Nodes.{RememberJust}
use Rattle.cas_lasting.proofs.Filing.{readable_altered, unmade_altered}
use Rattle.cas_lasting.proofs.Remembering.{all_altered, memory_altered, remember_altered}
use Rattle.cas_lasting.proofs.Sounding.{sound_told}
use Rattle.cas_sessions.proofs.Telling.{printed, true_of_end}
use Rattle.cas_lasting.proofs.Crashing.{amid_defined, amid_nothing, fits_told}
use Rattle.cas_disk.proofs.Moments.{no_call}
use Rattle.cas_journal.specs.Stores.{SameTables}
use Rattle.cas_lasting.proofs.Listing.{going_on, lists_nothing, lists_told, lists_untold}
use Rattle.cas_lasting.proofs.Going.{numbers_none}
use Rattle.cas_sessions.proofs.node.Node.alter.Goals as goal

pub returns-in-Err-clause-changes : goal.returns-in-Err-clause-changes
returns-in-Err-clause-changes g c = λ clock. moves_nowhere _ _ (AddColumns c.args.addition.table c.args.addition.columns) (bounds.Alter c.args.addition)

pub define-requires-clause-spelled : goal.define-requires-clause-spelled
define-requires-clause-spelled g c =
    has_spelling c.args.self.now.tables.items (bounds.Alter c.args.addition) (AddColumns c.args.addition.table c.args.addition.columns) c.requires.told

pub define-requires-clause-short : goal.define-requires-clause-short
define-requires-clause-short g c =
    is_short c.args.self.now.tables.items (bounds.Alter c.args.addition) (AddColumns c.args.addition.table c.args.addition.columns) c.requires.told

pub returns-in-Err-define-clause-changes : goal.returns-in-Err-define-clause-changes
returns-in-Err-define-clause-changes g c = λ clock.
    let short = is_short c.args.self.now.tables.items (bounds.Alter c.args.addition) (AddColumns c.args.addition.table c.args.addition.columns) c.requires.told in
    moves_not _ _ _ _ (AddColumns c.args.addition.table c.args.addition.columns) (bounds.Alter c.args.addition) c.requires.told c.args.self.now.sound.some
    (record {
      limits = refl;
      shards = refl;
      places = refl;
      numbers = refl;
      clock = refl;
      list = ap (λ log. listed log_list log.pass.saw) c.define.ensures.log;
      session = c.define.ensures.session.0;
      calls = c.define.ensures.session.1;
      accepted = c.define.ensures.accepted;
      committed = c.define.ensures.committed;
      reads = refl;
      last_file = ap (λ q. q.last) c.define.ensures.numbers;
      live = refl;
    })
    c.define.ensures.count (reply_of (Err c.fault_for.result)) c.in-Err-define.fault c.define.ensures.tables tt (ap (λ (x : Fault). reply_of (Err x)) c.fault_for.ensures ∙ printed c.in-Err-define.fault) refl short c.in-Err-define.ensures.outcome c.in-Err-define.ensures.reach
    (λ what most e. c.in-Err-define.ensures.full what most (ap Err e)) c.in-Err-define.ensures.kept refl

pub index_mut-requires : goal.index_mut-requires
index_mut-requires g c =
    let lt = get_within c.args.self.now.tables.items c.args.addition.table c.requires.there.0 c.requires.there.1 in
    omega (arith, c.args.self.now.tables.ok.0, lt)

pub returns-clause-changes : goal.returns-clause-changes
returns-clause-changes g c = λ clock.
    let ts = c.args.self.now.tables.items in
    let a = c.args.addition in
    let lt = get_within ts a.table c.requires.there.0 c.requires.there.1 in
    let new =
    altered_by ts a c.index.result.now c.index_mut.result.now c.in-Ok.columns c.args.self.now.sound.tables.numbered
    (slice_get_read ts (length ts) a.table c.index.result.now refl lt c.index.ensures)
    (slice_get_read ts (length ts) a.table c.index_mut.result.now refl lt c.index_mut.ensures.value) c.in-Ok.ensures in
    moves_done _ _ _ _ (AddColumns a.table a.columns) (bounds.Alter a) c.requires.told c.args.self.now.sound.some
    (record {
      limits = refl;
      shards = refl;
      places = refl;
      numbers = refl;
      clock = refl;
      list = ap (λ log. listed log_list log.pass.saw) c.define.ensures.log;
      session = c.define.ensures.session.0;
      calls = c.define.ensures.session.1;
      accepted = c.define.ensures.accepted;
      committed = c.define.ensures.committed;
      reads = refl;
      last_file = ap (λ q. q.last) c.define.ensures.numbers;
      live = refl;
    })
    c.define.ensures.count c.define.ensures.tables tt (new ∙ sym (mapped ts a))
    (λ z y so. subst (λ (us : List TableSchema). Stands us z y) (sym new) (under_altered a (adds_no_keys ts a c.requires.told) ts z y so))
    (λ ws k. subst (λ (us : List TableSchema). RememberJust us ws c.args.self.now.shards.items) (sym new)
    (remember_altered a (adds_no_keys ts a c.requires.told) ts ws c.args.self.now.shards.items k))
    (λ ms k. subst (λ (us : List TableSchema). RememberAll us ms c.args.self.now.shards.items) (sym new)
    (all_altered a (adds_no_keys ts a c.requires.told) ts c.args.self.now.shards.items ms k))
    c.in_default.ensures.outcome c.in_default.ensures.reach c.in_default.ensures.kept (λ said are many. are)

pub invariant_of-self-2 : goal.invariant_of-self-2
invariant_of-self-2 g c =
    let ts = c.args.self.now.tables.items in
    let a = c.args.addition in
    let lt = get_within ts a.table c.requires.there.0 c.requires.there.1 in
    let new =
    altered_by ts a c.index.result.now c.index_mut.result.now c.in-Ok.columns c.args.self.now.sound.tables.numbered
    (slice_get_read ts (length ts) a.table c.index.result.now refl lt c.index.ensures)
    (slice_get_read ts (length ts) a.table c.index_mut.result.now refl lt c.index_mut.ensures.value) c.in-Ok.ensures in
    let n = c.args.self.now in
    let bare = adds_no_keys ts a c.requires.told in
    record {
      sound = sound_told _ _ _ _ _ _ _ _ n.sound c.define.ensures.size (subst AreTables (sym (new ∙ sym (mapped ts a))) c.requires.told.kept);
      readable = subst (λ (us : List TableSchema). MayBeRead us n.shards.items) (sym new) (readable_altered ts n.shards.items n.unmade n.readable a bare);
      unmade = subst (λ (us : List TableSchema). HaveNoMore us n.shards.items) (sym new) (unmade_altered ts n.shards.items n.unmade n.readable a bare);
      kept = subst (λ (us : List TableSchema). HaveMemory us n.shards.items) (sym new) (memory_altered a bare ts n.shards.items n.kept);
      seated = n.seated;
      unlisted = λ k past. n.unlisted k (omega (arith, past, ap (λ q. q.last) c.define.ensures.numbers));
    }

pub returns-in-Err-define-clause-told : goal.returns-in-Err-define-clause-told
returns-in-Err-define-clause-told g c =
    true_of_end _ c.in-Err-define.fault c.fault_for.result _ _ _ _ c.fault_for.ensures c.in-Err-define.ensures.outcome
    (ap (λ log. listed log_list log.pass.saw) c.define.ensures.log)

pub returns-in-Err-clause-crash : goal.returns-in-Err-clause-crash
returns-in-Err-clause-crash g c = λ clock h found told stands lasts. amid_nothing h found _ _ told stands lasts _

pub returns-in-Err-define-clause-crash : goal.returns-in-Err-define-clause-crash
returns-in-Err-define-clause-crash g c = λ clock h found told stands lasts.
    amid_defined h found _ _ told stands lasts _ (AddColumns c.args.addition.table c.args.addition.columns) _ (ap (λ log. listed log_list log.pass.saw) c.define.ensures.log)
    (fits_told h found _ _ told (bounds.Alter c.args.addition) (AddColumns c.args.addition.table c.args.addition.columns) c.requires.told c.args.self.now.sound.some lasts) tt
    (c.define.ensures.crash told lasts.keeps.lasts (fits_told h found _ _ told (bounds.Alter c.args.addition) (AddColumns c.args.addition.table c.args.addition.columns) c.requires.told c.args.self.now.sound.some lasts))

pub returns-clause-crash : goal.returns-clause-crash
returns-clause-crash g c = λ clock h found told stands lasts.
    amid_defined h found _ _ told stands lasts _ (AddColumns c.args.addition.table c.args.addition.columns) _ (ap (λ log. listed log_list log.pass.saw) c.define.ensures.log)
    (fits_told h found _ _ told (bounds.Alter c.args.addition) (AddColumns c.args.addition.table c.args.addition.columns) c.requires.told c.args.self.now.sound.some lasts) tt
    (c.define.ensures.crash told lasts.keeps.lasts (fits_told h found _ _ told (bounds.Alter c.args.addition) (AddColumns c.args.addition.table c.args.addition.columns) c.requires.told c.args.self.now.sound.some lasts))

pub returns-in-Err-clause-tables : goal.returns-in-Err-clause-tables
returns-in-Err-clause-tables g c = no_call SameTables _

pub returns-in-Err-define-clause-tables : goal.returns-in-Err-define-clause-tables
returns-in-Err-define-clause-tables g c = c.define.ensures.tables

pub returns-clause-tables : goal.returns-clause-tables
returns-clause-tables g c = c.define.ensures.tables

pub returns-in-Err-clause-lists : goal.returns-in-Err-clause-lists
returns-in-Err-clause-lists g c = λ clock. lists_nothing _ _

pub returns-in-Err-define-clause-lists : goal.returns-in-Err-define-clause-lists
returns-in-Err-define-clause-lists g c = λ clock h found told stands lasts.
    lists_untold _ _ _ told lasts.keeps.lasts (Unit {0}) (AddColumns c.args.addition.table c.args.addition.columns) _ _ _ c.in-Err-define.fault tt c.in-Err-define.ensures.outcome c.in-Err-define.ensures.untouched
    (c.define.ensures.crash told lasts.keeps.lasts (fits_told h found _ _ told (bounds.Alter c.args.addition) (AddColumns c.args.addition.table c.args.addition.columns) c.requires.told c.args.self.now.sound.some lasts))

pub returns-clause-lists : goal.returns-clause-lists
returns-clause-lists g c = λ clock h found told stands lasts.
    lists_told _ _ _ told lasts.keeps.lasts (AddColumns c.args.addition.table c.args.addition.columns) tt (going_on _ _ _ _ _ c.in_default.ensures.outcome).0
    (c.define.ensures.crash told lasts.keeps.lasts (fits_told h found _ _ told (bounds.Alter c.args.addition) (AddColumns c.args.addition.table c.args.addition.columns) c.requires.told c.args.self.now.sound.some lasts))

pub returns-in-Err-clause-numbers : goal.returns-in-Err-clause-numbers
returns-in-Err-clause-numbers g c = λ clock. numbers_none _ _ refl refl

pub returns-in-Err-define-clause-numbers : goal.returns-in-Err-define-clause-numbers
returns-in-Err-define-clause-numbers g c = λ clock. numbers_none _ _ (ap (λ log. listed log_list log.pass.saw) c.define.ensures.log) refl

pub returns-clause-numbers : goal.returns-clause-numbers
returns-clause-numbers g c = λ clock. numbers_none _ _ (ap (λ log. listed log_list log.pass.saw) c.define.ensures.log) refl

pub returns-in-Err-define-clause-counts : goal.returns-in-Err-define-clause-counts
returns-in-Err-define-clause-counts g c = (
  omega (arith, c.define.ensures.session.1),
  omega (arith, c.define.ensures.accepted),
  omega (arith, ap (λ q. q.last) c.define.ensures.numbers),
)

pub returns-clause-counts : goal.returns-clause-counts
returns-clause-counts g c = (
  omega (arith, c.define.ensures.session.1),
  omega (arith, c.define.ensures.accepted),
  omega (arith, ap (λ q. q.last) c.define.ensures.numbers),
)
