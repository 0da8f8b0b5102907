-- What a shard has in memory of a table, where a table got columns, or where there are tables more.
use Rattle.std.proofs.Common.{◌≡◌, ◌<◌, ℕ, zero, suc, List, [], ◌∷◌, ◌++◌, length, refl, sym, ◌∙◌, subst, arith}
use Rattle.std.specs.List.{AllByRecursion}
use Rattle.std.specs.Prelude.{slice_get}
use Rattle.std.proofs.lemmas.Option.{slice_get_past}
use Rattle.cas_types.specs.declared.schema.Column.{Column}
use Rattle.cas_types.specs.declared.schema.TableSchema.{TableSchema}
use Rattle.cas_bounds.specs.declared.order.Ordered.{Ordered}
use Rattle.cas_atoms.specs.declared.atom.Mutation.{Mutation}
use Rattle.cas_memtable.specs.Kept.{HoldJust, MayHold, StandInEach, all_of}
use Rattle.cas_memtable.specs.Memtables.{IsOfColumns}
use Rattle.cas_memtable.specs.declared.memtable.MemPart.{MemPart}
use Rattle.cas_widened.specs.Laws.{AreAdded}
use Rattle.cas_widened.proofs.Atoms.{mutations_stay}
use Rattle.cas_widened.proofs.Columns.{same_order}
use Rattle.cas_widened.proofs.Memory.{memtables_stay}
use Rattle.cas_shard.specs.Flushing.{memtables_at}
use Rattle.cas_shard.proofs.InMemory.{nothing_in_memory}
use Rattle.cas_flushing.specs.Laws.{AddedColumnsStay, NewTablesHoldNothing}

each : {X : Type 0} (P Q : X → Type 0) (xs : List X) → ((x : X) → P x → Q x) → AllByRecursion P xs → AllByRecursion Q xs
each P Q [] goes all = tt
each P Q (x ∷ xs) goes all = (goes x all.0, each P Q xs goes all.1)

just_stays : (columns more : List Column) (ms : List MemPart) (ws : List Mutation) → AreAdded more → HoldJust columns ms ws → HoldJust (columns ++ more) ms ws
just_stays columns more ms ws added just = record {
  places = just.places;
  held = record {
    stand = subst (λ (order : List Ordered). StandInEach order ms just.places) (sym (same_order columns more added)) just.held.stand;
    of = each (IsOfColumns columns) (IsOfColumns (columns ++ more)) ms (λ m. memtables_stay columns more m added) just.held.of;
    may = each (MayHold columns) (MayHold (columns ++ more)) (all_of just.places) (λ w. mutations_stay columns more w added) just.held.may;
  };
  all = just.all;
}

pub added_columns_stay : AddedColumnsStay
added_columns_stay tables wider n ws x widened has t at =
    let (before, more, there, columns, added) = widened t at in
    subst (λ (cs : List Column). HoldJust cs (memtables_at (slice_get x.stores n)) ws) (sym columns)
    (just_stays before.columns more (memtables_at (slice_get x.stores n)) ws added (has before there))

first_of : (ts us : List TableSchema) (n : ℕ) → n < length ts → slice_get (ts ++ us) n ≡ slice_get ts n
first_of [] us n few = absurd (omega (arith, few))
first_of (t ∷ ts) us zero few = refl
first_of (t ∷ ts) us (suc n) few = first_of ts us n (omega (arith, few))

pub new_tables_hold_nothing : NewTablesHoldNothing
new_tables_hold_nothing = record {
  others = λ tables more n ws x few has t at. has t (sym (first_of tables more n few) ∙ at);
  nothing = λ tables n x few t at.
      subst (λ o. HoldJust t.columns (memtables_at o) []) (sym (slice_get_past x.stores n few)) (nothing_in_memory t.columns);
}
