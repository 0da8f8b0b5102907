use Rattle.std.proofs.Common.{◌∙◌, List, Err, refl, sym, ap, subst, arith}
use Rattle.cas_types.specs.declared.schema.TableSchema.{TableSchema}
use Rattle.cas_bind.specs.Tables.{AreTables}
use Rattle.cas_bind.specs.declared.bound.Bound.TheVariants as bounds
use Rattle.cas_changes.specs.declared.entry.Entry.TheVariants.{Schema}
use Rattle.cas_history.specs.Items.{listed, log_list}
use Rattle.cas_shard.specs.Stands.{Stands}
use Rattle.cas_lasting.proofs.Tables.{created, has_spelling, is_short, moves_done, moves_not, moves_reserved, pushed, under_created}
use Rattle.cas_sessions.specs.Calls.{reply_of}
use Rattle.cas_sessions.specs.declared.answer.Fault.{Fault}
use Rattle.cas_recovery.specs.Restored.{HaveMemory, HaveNoMore, MayBeRead, RememberAll}
use Rattle.cas_lasting.specs.Nodes.{RememberJust}
use Rattle.cas_lasting.proofs.Filing.{readable_created, unmade_created}
use Rattle.cas_lasting.proofs.Remembering.{all_created, memory_created, remember_created}
use Rattle.cas_lasting.proofs.Sounding.{sound_reserved, sound_told}
use Rattle.cas_sessions.proofs.Telling.{printed, true_of_end}
use Rattle.cas_lasting.proofs.Crashing.{amid_defined, amid_nothing, fits_told}
use Rattle.cas_disk.proofs.Moments.{no_call}
use Rattle.cas_journal.specs.Stores.{SameTables}
use Rattle.cas_lasting.proofs.Listing.{going_on, lists_nothing, lists_told, lists_untold}
use Rattle.cas_lasting.proofs.Going.{numbers_none}
use Rattle.std.specs.Prelude.{◌++◌, replicate}
use Rattle.cas_lasting.proofs.Frontiers.{frontiers_created}
use Rattle.cas_sessions.proofs.node.Node.create.Goals as goal

pub returns-in-Err-clause-changes : goal.returns-in-Err-clause-changes
returns-in-Err-clause-changes g c = λ clock. moves_reserved _ _ (Schema c.args.table) (bounds.Create c.args.table) c.make_place.new.tables.items c.make_place.new.frontiers.items c.make_place.ensures.same.0
    c.make_place.ensures.same.1

pub define-requires-clause-spelled : goal.define-requires-clause-spelled
define-requires-clause-spelled g c = has_spelling c.args.self.now.tables.items (bounds.Create c.args.table) (Schema c.args.table) c.requires.told

pub define-requires-clause-short : goal.define-requires-clause-short
define-requires-clause-short g c = is_short c.args.self.now.tables.items (bounds.Create c.args.table) (Schema c.args.table) c.requires.told

pub returns-in-Err-define-clause-changes : goal.returns-in-Err-define-clause-changes
returns-in-Err-define-clause-changes g c = λ clock.
    let short = is_short c.args.self.now.tables.items (bounds.Create c.args.table) (Schema c.args.table) c.requires.told in
    moves_not _ _ _ _ (Schema c.args.table) (bounds.Create c.args.table) c.requires.told c.args.self.now.sound.some
    (record {
      limits = refl;
      shards = refl;
      places = refl;
      numbers = refl;
      clock = refl;
      list = ap (λ log. listed log_list log.pass.saw) c.define.ensures.log;
      session = c.define.ensures.session.0;
      calls = c.define.ensures.session.1;
      accepted = c.define.ensures.accepted;
      committed = c.define.ensures.committed;
      reads = refl;
      last_file = ap (λ q. q.last) c.define.ensures.numbers;
      live = refl;
    })
    c.define.ensures.count (reply_of (Err c.fault_for.result)) c.in-Err-define.fault c.define.ensures.tables tt (ap (λ (x : Fault). reply_of (Err x)) c.fault_for.ensures ∙ printed c.in-Err-define.fault) c.make_place.ensures.same.0 short c.in-Err-define.ensures.outcome c.in-Err-define.ensures.reach
    (λ what most e. c.in-Err-define.ensures.full what most (ap Err e)) c.in-Err-define.ensures.kept c.make_place.ensures.same.1

pub returns-clause-changes : goal.returns-clause-changes
returns-clause-changes g c = λ clock.
    let ts = c.args.self.now.tables.items in
    let new =
    pushed ts c.make_place.new.tables.items c.push_reserved.new.self.items c.args.table c.table_of.result c.make_place.ensures.same.0 c.push_reserved.ensures.items c.table_of.ensures in
    moves_done _ _ _ _ (Schema c.args.table) (bounds.Create c.args.table) c.requires.told c.args.self.now.sound.some
    (record {
      limits = refl;
      shards = refl;
      places = refl;
      numbers = refl;
      clock = refl;
      list = ap (λ log. listed log_list log.pass.saw) c.define.ensures.log;
      session = c.define.ensures.session.0;
      calls = c.define.ensures.session.1;
      accepted = c.define.ensures.accepted;
      committed = c.define.ensures.committed;
      reads = refl;
      last_file = ap (λ q. q.last) c.define.ensures.numbers;
      live = refl;
    })
    c.define.ensures.count c.define.ensures.tables tt (new ∙ sym (created ts c.args.table))
    (λ z y so. subst (λ (us : List TableSchema). Stands us z y) (sym new) (under_created ts c.args.table z y so))
    (λ ws k. subst (λ (us : List TableSchema). RememberJust us ws c.args.self.now.shards.items) (sym new) (remember_created ts ws c.args.self.now.shards.items c.args.table k))
    (λ ms k. subst (λ (us : List TableSchema). RememberAll us ms c.args.self.now.shards.items) (sym new) (all_created ts c.args.self.now.shards.items c.args.table ms k))
    c.in_default-define.ensures.outcome c.in_default-define.ensures.reach c.in_default-define.ensures.kept
    (λ said are many.
    c.begin_frontiers.ensures ∙ ap (λ fs. fs ++ replicate c.args.self.now.limits.shards 0) c.make_place.ensures.same.1
    ∙ frontiers_created said c.args.table c.args.self.now.frontiers.items c.args.self.now.limits.shards are many)

pub invariant_of-self-2 : goal.invariant_of-self-2
invariant_of-self-2 g c =
    let ts = c.args.self.now.tables.items in
    let new =
    pushed ts c.make_place.new.tables.items c.push_reserved.new.self.items c.args.table c.table_of.result c.make_place.ensures.same.0 c.push_reserved.ensures.items c.table_of.ensures in
    let n = c.args.self.now in
    record {
      sound = sound_told _ _ _ _ _ _ _ _ n.sound c.define.ensures.size (subst AreTables (sym (new ∙ sym (created ts c.args.table))) c.requires.told.kept);
      readable = subst (λ (us : List TableSchema). MayBeRead us n.shards.items) (sym new) (readable_created ts n.shards.items n.unmade n.readable c.args.table);
      unmade = subst (λ (us : List TableSchema). HaveNoMore us n.shards.items) (sym new) (unmade_created ts n.shards.items n.unmade n.readable c.args.table);
      kept = subst (λ (us : List TableSchema). HaveMemory us n.shards.items) (sym new) (memory_created ts n.shards.items c.args.table n.kept);
      seated = n.seated;
      unlisted = λ k past. n.unlisted k (omega (arith, past, ap (λ q. q.last) c.define.ensures.numbers));
    }

pub returns-in-Err-define-clause-told : goal.returns-in-Err-define-clause-told
returns-in-Err-define-clause-told g c =
    true_of_end _ c.in-Err-define.fault c.fault_for.result _ _ _ _ c.fault_for.ensures c.in-Err-define.ensures.outcome
    (ap (λ log. listed log_list log.pass.saw) c.define.ensures.log)

pub returns-in-Err-clause-crash : goal.returns-in-Err-clause-crash
returns-in-Err-clause-crash g c = λ clock h found told stands lasts. amid_nothing h found _ _ told stands lasts _

pub returns-in-Err-define-clause-crash : goal.returns-in-Err-define-clause-crash
returns-in-Err-define-clause-crash g c = λ clock h found told stands lasts.
    amid_defined h found _ _ told stands lasts _ (Schema c.args.table) _ (ap (λ log. listed log_list log.pass.saw) c.define.ensures.log)
    (fits_told h found _ _ told (bounds.Create c.args.table) (Schema c.args.table) c.requires.told c.args.self.now.sound.some lasts) tt
    (c.define.ensures.crash told lasts.keeps.lasts (fits_told h found _ _ told (bounds.Create c.args.table) (Schema c.args.table) c.requires.told c.args.self.now.sound.some lasts))

pub returns-clause-crash : goal.returns-clause-crash
returns-clause-crash g c = λ clock h found told stands lasts.
    amid_defined h found _ _ told stands lasts _ (Schema c.args.table) _ (ap (λ log. listed log_list log.pass.saw) c.define.ensures.log)
    (fits_told h found _ _ told (bounds.Create c.args.table) (Schema c.args.table) c.requires.told c.args.self.now.sound.some lasts) tt
    (c.define.ensures.crash told lasts.keeps.lasts (fits_told h found _ _ told (bounds.Create c.args.table) (Schema c.args.table) c.requires.told c.args.self.now.sound.some lasts))

-- the list of its tables got a place more, and they are the same
pub invariant_of-self : goal.invariant_of-self
invariant_of-self g c =
    let n = c.args.self.now in
    let same = c.make_place.ensures.same.0 in
    record {
      sound = sound_reserved _ _ _ _ _ _ _ n.sound same;
      readable = subst (λ (us : List TableSchema). MayBeRead us n.shards.items) (sym same) n.readable;
      unmade = subst (λ (us : List TableSchema). HaveNoMore us n.shards.items) (sym same) n.unmade;
      kept = subst (λ (us : List TableSchema). HaveMemory us n.shards.items) (sym same) n.kept;
      seated = n.seated;
      unlisted = n.unlisted;
    }

pub invariant_of-self-in-Err-define : goal.invariant_of-self-in-Err-define
invariant_of-self-in-Err-define g c =
    let n = c.args.self.now in
    let same = c.make_place.ensures.same.0 in
    record {
      sound = sound_told _ _ _ _ _ _ _ _ n.sound c.define.ensures.size (subst AreTables (sym same) n.sound.tables);
      readable = subst (λ (us : List TableSchema). MayBeRead us n.shards.items) (sym same) n.readable;
      unmade = subst (λ (us : List TableSchema). HaveNoMore us n.shards.items) (sym same) n.unmade;
      kept = subst (λ (us : List TableSchema). HaveMemory us n.shards.items) (sym same) n.kept;
      seated = n.seated;
      unlisted = λ k past. n.unlisted k (omega (arith, past, ap (λ q. q.last) c.define.ensures.numbers));
    }

pub returns-in-Err-clause-tables : goal.returns-in-Err-clause-tables
returns-in-Err-clause-tables g c = no_call SameTables _

pub returns-in-Err-define-clause-tables : goal.returns-in-Err-define-clause-tables
returns-in-Err-define-clause-tables g c = c.define.ensures.tables

pub returns-clause-tables : goal.returns-clause-tables
returns-clause-tables g c = c.define.ensures.tables

pub returns-in-Err-clause-lists : goal.returns-in-Err-clause-lists
returns-in-Err-clause-lists g c = λ clock. lists_nothing _ _

pub returns-in-Err-define-clause-lists : goal.returns-in-Err-define-clause-lists
returns-in-Err-define-clause-lists g c = λ clock h found told stands lasts.
    lists_untold _ _ _ told lasts.keeps.lasts (Unit {0}) (Schema c.args.table) _ _ _ c.in-Err-define.fault tt c.in-Err-define.ensures.outcome c.in-Err-define.ensures.untouched
    (c.define.ensures.crash told lasts.keeps.lasts (fits_told h found _ _ told (bounds.Create c.args.table) (Schema c.args.table) c.requires.told c.args.self.now.sound.some lasts))

pub returns-clause-lists : goal.returns-clause-lists
returns-clause-lists g c = λ clock h found told stands lasts.
    lists_told _ _ _ told lasts.keeps.lasts (Schema c.args.table) tt (going_on _ _ _ _ _ c.in_default-define.ensures.outcome).0
    (c.define.ensures.crash told lasts.keeps.lasts (fits_told h found _ _ told (bounds.Create c.args.table) (Schema c.args.table) c.requires.told c.args.self.now.sound.some lasts))

pub returns-in-Err-clause-numbers : goal.returns-in-Err-clause-numbers
returns-in-Err-clause-numbers g c = λ clock. numbers_none _ _ refl refl

pub returns-in-Err-define-clause-numbers : goal.returns-in-Err-define-clause-numbers
returns-in-Err-define-clause-numbers g c = λ clock. numbers_none _ _ (ap (λ log. listed log_list log.pass.saw) c.define.ensures.log) refl

pub returns-clause-numbers : goal.returns-clause-numbers
returns-clause-numbers g c = λ clock. numbers_none _ _ (ap (λ log. listed log_list log.pass.saw) c.define.ensures.log) refl

pub returns-in-Err-define-clause-counts : goal.returns-in-Err-define-clause-counts
returns-in-Err-define-clause-counts g c = (
  omega (arith, c.define.ensures.session.1),
  omega (arith, c.define.ensures.accepted),
  omega (arith, ap (λ q. q.last) c.define.ensures.numbers),
)

pub returns-clause-counts : goal.returns-clause-counts
returns-clause-counts g c = (
  omega (arith, c.define.ensures.session.1),
  omega (arith, c.define.ensures.accepted),
  omega (arith, ap (λ q. q.last) c.define.ensures.numbers),
)
