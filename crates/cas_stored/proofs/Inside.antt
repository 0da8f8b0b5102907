-- What holds of a table's store as it is inside holds of what is seen of it.
use Rattle.std.proofs.Common.{◌≡◌, ℕ, Bool, Option, List, [], ◌∷◌, ◌++◌, length, drop, not, ◌&&◌, ◌==◌, refl, subst}
use Rattle.std.specs.Prelude.{if◌then◌else◌, map}
use Rattle.cas_cell.specs.declared.deletion.Deletion.{Deletion}
use Rattle.cas_types.specs.declared.schema.Column.{Column}
use Rattle.cas_bounds.specs.declared.cuts.Slice.{Slice}
use Rattle.cas_bounds.specs.declared.order.Ordered.{Ordered}
use Rattle.cas_atoms.specs.declared.atom.Mutation.{Mutation}
use Rattle.cas_streams.specs.declared.fragment.Fragment.{Fragment}
use Rattle.cas_memtable.specs.Memtables.{IsOfColumns}
use Rattle.cas_memtable.specs.declared.memtable.MemPart.{MemPart}
use Rattle.cas_memtable.specs.Kept.{ShowPartition, StandInEach, all_of, begun, memtables_of}
use Rattle.cas_sstread.specs.Loading.{Held}
use Rattle.cas_view.specs.Views.{File}
use Rattle.cas_stored.specs.Reading.{AreReadIn}
use Rattle.cas_stored.specs.Stored.{AreOfTable, HoldEach, HoldsEach, IsFileOf, IsStoredOf, ShowStored, StandInFile, StoredTable, flushed}
use Rattle.std.specs.List.{AllByRecursion}
use Rattle.cas_stored.specs.Inner.Files.{FilesGiveBehind}
use Rattle.cas_stored.proofs.Flushing.{adopt_holds, swap_holds, swap_of}
use Rattle.cas_stored.proofs.Showing.{sources_show}
use Rattle.cas_stored.proofs.Storing.{memory_begun_if}

module _ (was now : StoredTable) (is : was ≡ now) where
  pub freezes : (order : List Ordered) (ns : List MemPart) (ok : Bool) (wss : List (List Mutation))
      → ((vss : List (List Mutation)) → StandInEach order (memtables_of was.parts) vss → StandInEach order ns (if ok && not (was.parts.active.bytes == 0) then begun vss else vss))
      → HoldsEach order now wss → HoldEach order was.files ns (if ok && not (now.parts.active.bytes == 0) then begun wss else wss)
  freezes order ns ok wss memory =
      subst (λ (t : StoredTable). HoldsEach order t wss → HoldEach order was.files ns (if ok && not (t.parts.active.bytes == 0) then begun wss else wss)) is
      (memory_begun_if order (memtables_of was.parts) ns (ok && not (was.parts.active.bytes == 0)) memory was.files wss)

  pub swaps : (order : List Ordered) (ns : List MemPart) (view : List (File Held)) (f : File Held) (count : ℕ) (ws : List Mutation) (wss : List (List Mutation))
      → ((vss : List (List Mutation)) → StandInEach order (memtables_of was.parts) vss → StandInEach order ns (drop count vss)) → view ≡ now.files ++ f ∷ []
      → HoldsEach order now wss → StandInFile order f ws → HoldEach order view ns (flushed (length now.files) count ws wss)
  swaps order ns view f count ws wss memory =
      subst (λ (t : StoredTable). view ≡ t.files ++ f ∷ [] → HoldsEach order t wss → StandInFile order f ws → HoldEach order view ns (flushed (length t.files) count ws wss)) is
      (λ grown holds stands. swap_holds order (memtables_of was.parts) ns was.files view view f count ws wss memory refl grown holds stands)

  pub swaps_of : (columns : List Column) (ns : List MemPart) (view : List (File Held)) (f : File Held)
      → (AllByRecursion (IsOfColumns columns) (memtables_of was.parts) → AllByRecursion (IsOfColumns columns) ns) → view ≡ now.files ++ f ∷ []
      → IsStoredOf columns now → IsFileOf columns f → AreOfTable columns view ns
  swaps_of columns ns view f memory =
      subst (λ (t : StoredTable). view ≡ t.files ++ f ∷ [] → IsStoredOf columns t → IsFileOf columns f → AreOfTable columns view ns) is
      (swap_of columns (memtables_of was.parts) ns was.files view view f memory refl)

  pub adopts : (order : List Ordered) (view : List (File Held)) (vss wss : List (List Mutation)) → now.files ≡ [] → HoldsEach order now wss → HoldEach order view [] vss
      → HoldEach order view (memtables_of was.parts) (vss ++ wss)
  adopts order view vss wss =
      subst (λ (t : StoredTable). t.files ≡ [] → HoldsEach order t wss → HoldEach order view [] vss → HoldEach order view (memtables_of was.parts) (vss ++ wss)) is
      (λ none holds files. adopt_holds order (memtables_of was.parts) view vss wss files (subst (λ fs. HoldEach order fs (memtables_of was.parts) wss) none holds))

  pub adopts_of : (columns : List Column) (view : List (File Held)) → IsStoredOf columns now → AllByRecursion (IsFileOf columns) view → AreOfTable columns view (memtables_of was.parts)
  adopts_of columns view =
      subst (λ (t : StoredTable). IsStoredOf columns t → AllByRecursion (IsFileOf columns) view → AreOfTable columns view (memtables_of was.parts)) is
      (λ of files. record { files = files; memtables = of.memtables })

  pub shows : {M X : Type 0} (make : M → X) (tells : X → Option (List Fragment)) (tops : X → Option Deletion) (order : List Ordered) (s : Slice) (key asked : List ℕ) (fs : List (File Held))
      (wss : List (List Mutation)) (memory : List M) (old xs ys : List X) → asked ≡ key → fs ≡ was.files → old ≡ [] → ys ≡ xs ++ map make memory
      → ((vss : List (List Mutation)) → StandInEach order (memtables_of was.parts) vss
      → ShowPartition (λ m. tells (make m)) (λ m. tops (make m)) order s key (memtables_of was.parts) (all_of vss) memory)
      → HoldsEach order now wss → AreReadIn s now.files → FilesGiveBehind asked s tops tells fs old xs
      → ShowStored tells tops order s key now.files (memtables_of now.parts) (all_of wss) ys
  shows make tells tops order s key asked fs wss memory old xs ys own same none all partition =
      subst
      (λ (t : StoredTable).
      HoldsEach order t wss → AreReadIn s t.files → FilesGiveBehind asked s tops tells fs old xs
      → ShowStored tells tops order s key t.files (memtables_of t.parts) (all_of wss) ys) is
      (sources_show make tells tops order s key asked fs was.files (memtables_of was.parts) wss memory old xs ys own same none all partition)
