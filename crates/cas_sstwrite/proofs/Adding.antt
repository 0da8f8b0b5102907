-- What a source says was written, or why it wasn't.
use Rattle.std.proofs.Common.{◌≡◌, ℕ, false, List, [], ◌∷◌, length, Option, None, Some, Ok, ap, arith}
use Rattle.cas_cell.specs.declared.deletion.Deletion.{Deletion}
use Rattle.cas_streams.specs.Sources.{TakesFirst}
use Rattle.cas_streams.specs.declared.fragment.Fragment.{Fragment}
use Rattle.cas_index.specs.declared.entries.PartitionEntry.{PartitionEntry}
use Rattle.cas_sstwrite.specs.declared.fault.Measure.TheVariants.{FileBytes, BlockBytes, Partitions}
use Rattle.cas_sstwrite.specs.declared.fault.WriteFault.TheVariants.{Failed, Order, TooMany, Unfit, Mem}
use Rattle.cas_sstwrite.specs.declared.fault.PartitionFault.{PartitionFault}
use Rattle.cas_sstwrite.specs.declared.fault.PartitionFault.TheVariants.{Write, Source}
use Rattle.cas_sstwrite.specs.declared.held.TableWriter.{TableWriter}
use Rattle.cas_sstwrite.specs.Rooms.{AreHeld}
use Rattle.cas_sstwrite.specs.Causes.{WhyNot}
use Rattle.cas_sstwrite.specs.Inner.Parts.{BeginWith, Says}
use Rattle.cas_sstwrite.specs.Inner.Adding.{AddsOne, Adds, AddsFirst, AddsTold, WrittenFault, is_nothing}

pub says_of : (E : Type 0) (fs : List Fragment) (after : Option (List Fragment)) (first : Option Fragment) → TakesFirst {E = E} fs after (Ok first) → Says first after fs
says_of E fs after None takes = takes.0
says_of E fs after (Some f) takes = (takes.0, takes.2, takes.1)

adds_all : {D F : Type 0} (number_of : D → ℕ) (written : D → List ℕ → Type 0) (key : List ℕ) (top : Option Deletion) (first : Option Fragment) (given : List Fragment)
    (old new : TableWriter D F) → BeginWith first given → is_nothing top first ≡ false → AddsOne number_of written key top given old new → Adds number_of written key top given old new
adds_all number_of written key None None [] old new begin some adds = absurd (cc)
adds_all number_of written key None None (f ∷ fs) old new begin some adds = adds
adds_all number_of written key None (Some f) [] old new begin some adds = absurd (cc (begin.1))
adds_all number_of written key None (Some f) (g ∷ fs) old new begin some adds = adds
adds_all number_of written key (Some d) first given old new begin some adds = adds

pub adds_told : (E : Type 0) {D F : Type 0} (number_of : D → ℕ) (written : D → List ℕ → Type 0) (key : List ℕ) (top : Option Deletion) (first : Option Fragment)
    (old new : TableWriter D F) (told after : Option (List Fragment)) → is_nothing top first ≡ false
    → ((fs : List Fragment) → told ≡ Some fs → TakesFirst {E = E} fs after (Ok first))
    → AddsFirst number_of written key top first old new after → AddsTold number_of written key top old new told
adds_told E number_of written key top first old new told after some takes adds = record {
  given = adds.given;
  adds = adds_all number_of written key top first adds.given old new adds.front some adds.adds;
  all = λ fs is. adds.all fs (says_of E fs after first (takes fs is));
}

-- a table file can hold what was written
pub adds_held : {D F : Type 0} (number_of : D → ℕ) (written : D → List ℕ → Type 0) (key : List ℕ) (top : Option Deletion) (fs : List Fragment) (old new : TableWriter D F)
    → Adds number_of written key top fs old new → AreHeld fs
adds_held number_of written key None [] old new adds = ((omega arith, tt), tt)
adds_held number_of written key None (f ∷ fs) old new adds = (adds.statics, adds.held)
adds_held number_of written key (Some d) fs old new adds = (adds.statics, adds.held)

-- of a file that is the same
pub adds_kept : {D F : Type 0} (number_of : D → ℕ) (written : D → List ℕ → Type 0) (key : List ℕ) (top : Option Deletion) (fs : List Fragment) (old new : TableWriter D F)
    → Adds number_of written key top fs old new → (new.header ≡ old.header) × (new.level ≡ old.level)
adds_kept number_of written key None [] old new adds = (ap (λ w. w.header) adds, ap (λ w. w.level) adds)
adds_kept number_of written key None (f ∷ fs) old new adds = (adds.header, adds.level)
adds_kept number_of written key (Some d) fs old new adds = (adds.header, adds.level)

pub written_why : (E : Type 0) (entries : List PartitionEntry) (place : ℕ) (key : List ℕ) (top : Option Deletion) (fs : List Fragment) (e : PartitionFault E)
    → WrittenFault (length entries) place key top fs e → WhyNot entries place key top fs e
written_why E entries place key top fs (Source e) why = tt
written_why E entries place key top fs (Write Failed) why = tt
written_why E entries place key top fs (Write Order) why = absurd why
written_why E entries place key top fs (Write (TooMany FileBytes limit)) why = why
written_why E entries place key top fs (Write (TooMany BlockBytes limit)) why = why
written_why E entries place key top fs (Write (TooMany Partitions limit)) why = why
written_why E entries place key top fs (Write Unfit) why = why
written_why E entries place key top fs (Write Mem) why = tt
