-- What the fault of a call tells beside its reply.
use Rattle.std.proofs.Common.{◌≡◌, ◌+◌, ℕ, List, [], ◌∷◌, ◌++◌, Option, None, Some, Result, Ok, Err, sym, ap, ◌∙◌, refl, subst}
use Rattle.std.specs.Prelude.{IfOk}
use Rattle.cas_atoms.specs.declared.atom.Mutation.{Mutation}
use Rattle.cas_blocks.specs.declared.fault.TableFault.{TableFault}
use Rattle.cas_blocks.specs.declared.fault.TableFault.TheVariants as table_fault
use Rattle.cas_gates.specs.declared.first.First.{First}
use Rattle.cas_history.specs.declared.item.Item.{Item}
use Rattle.cas_history.specs.declared.item.Item.TheVariants.{Wrote}
use Rattle.cas_journal.specs.Ends.{Prepares, Ends}
use Rattle.cas_journal.specs.declared.fault.JournalFault.{JournalFault}
use Rattle.cas_journal.specs.declared.fault.JournalFault.TheVariants.{TooLarge, TooMany, Stopped, Failed, Mem}
use Rattle.cas_room.specs.declared.event.Event.{Event}
use Rattle.cas_room.specs.declared.event.Event.TheVariants as event
use Rattle.cas_bind.specs.declared.bound.Bound.{Bound}
use Rattle.cas_effects.specs.declared.refusal.Refusal.{Refusal}
use Rattle.cas_sessions.specs.declared.answer.Answer.{Answer}
use Rattle.cas_sessions.specs.declared.answer.Answer.TheVariants.{Done, Wrote as WroteOne, Rows}
use Rattle.cas_sessions.specs.declared.answer.Fault.{Fault}
use Rattle.cas_sessions.specs.Calls.{IsTrueOf, TellsPlace, reply_of}
use Rattle.cas_lasting.specs.Nodes.{State}
use Rattle.cas_lasting.specs.Inner.Printed.{reply_for}
use Rattle.cas_sessions.specs.Inner.Faults.{IsOther, fault_for, fault_of_table}

stopped_by : (T : Type 0) (first kept : Option First) (before now : ℕ) (g : First) → Ends {T = T} first kept before now (Err (Stopped g)) → first ≡ Some g
stopped_by T None kept before now g p = absurd p
stopped_by T (Some h) kept before now g p = cc

-- a definition that wasn't made
pub true_of_end : (T : Type 0) (f : JournalFault) (x : Fault) (s t : State) (before now : ℕ) → x ≡ fault_for f
    → Ends {T = T} s.journal.first t.journal.first before now (Err f) → t.list ≡ s.list → IsTrueOf (Err x) s t
true_of_end T f x s t before now is ends same = subst (λ (y : Fault). IsTrueOf (Err y) s t) (sym is) (by f ends)
  where
    by : (f : JournalFault) → Ends {T = T} s.journal.first t.journal.first before now (Err f) → IsTrueOf (Err (fault_for f)) s t
    by (TooLarge length limit) p = tt
    by (TooMany what limit) p = tt
    by (Stopped first) p = stopped_by T s.journal.first t.journal.first before now first p
    by Failed p = same
    by Mem p = tt

-- a mutation that wasn't accepted
pub true_of_prepare : (T : Type 0) (f : JournalFault) (x : Fault) (s t : State) (long most before now : ℕ) → x ≡ fault_for f
    → Prepares {T = T} long most s.journal.first t.journal.first before now (Err f) → t.list ≡ s.list → IsTrueOf (Err x) s t
true_of_prepare T f x s t long most before now is prepares same = subst (λ (y : Fault). IsTrueOf (Err y) s t) (sym is) (by f prepares)
  where
    by : (f : JournalFault) → Prepares {T = T} long most s.journal.first t.journal.first before now (Err f) → IsTrueOf (Err (fault_for f)) s t
    by (TooLarge length limit) p = tt
    by (TooMany what limit) p = tt
    by (Stopped first) p = stopped_by (Unit {0}) s.journal.first t.journal.first before now first p.1
    by Failed p = same
    by Mem p = tt

-- a mutation that was accepted
pub true_of_accepted : (list new : List (Item Event)) (m : Mutation) (session calls now number : ℕ) → new ≡ list ++ Wrote m.shard session (calls + 1) m.number (event.Accepted m) ∷ []
    → now ≡ calls + 1 → number ≡ m.number → (q : Mutation) × (q.number ≡ number) × (new ≡ list ++ Wrote q.shard session now number (event.Accepted q) ∷ [])
true_of_accepted list new m session calls now number is counted same = (
  m,
  sym same,
  is ∙ ap (λ (k : ℕ). list ++ Wrote m.shard session k m.number (event.Accepted m) ∷ []) (sym counted)
      ∙ ap (λ (k : ℕ). list ++ Wrote m.shard session now k (event.Accepted m) ∷ []) (sym same),
)

-- and acknowledged
pub true_of_wrote : (list new : List (Item Event)) (m : Mutation) (session calls now number table shard : ℕ) → m.table ≡ table → m.shard ≡ shard
    → new ≡ list ++ Wrote m.shard session (calls + 1) m.number (event.Accepted m) ∷ [] → now ≡ calls + 1 → number ≡ m.number
    → (q : Mutation) × (q.number ≡ number) × (q.table ≡ table) × (q.shard ≡ shard) × (new ≡ list ++ Wrote shard session now number (event.Accepted q) ∷ [])
true_of_wrote list new m session calls now number table shard of_table of_shard is counted same = (
  m,
  sym same,
  of_table,
  of_shard,
  is ∙ ap (λ (k : ℕ). list ++ Wrote m.shard session k m.number (event.Accepted m) ∷ []) (sym counted)
      ∙ ap (λ (k : ℕ). list ++ Wrote k session now m.number (event.Accepted m) ∷ []) of_shard
      ∙ ap (λ (k : ℕ). list ++ Wrote shard session now k (event.Accepted m) ∷ []) (sym same),
)

-- a SELECT of which nothing is shown
pub true_of_read : (f : TableFault) (x : Fault) (s t : State) → x ≡ fault_of_table f → IsTrueOf (Err x) s t
true_of_read f x s t is = subst (λ (y : Fault). IsTrueOf (Err y) s t) (sym is) (by f)
  where
    by : (f : TableFault) → IsTrueOf (Err (fault_of_table f)) s t
    by table_fault.Read = tt
    by (table_fault.BadBlock n at) = tt
    by table_fault.Mem = tt

-- an answer that isn't a mutation's tells no place
pub other_place : (r : Result Answer Fault) (b : Result Bound Refusal) → IfOk r IsOther → IfOk r (λ a. TellsPlace a b)
other_place (Ok Done) b other = tt
other_place (Ok (WroteOne number table shard)) b other = absurd other
other_place (Ok (Rows rows shard front now)) b other = tt
other_place (Err f) b other = tt

-- what is printed for the fault that the room's is answered as
pub printed : (f : JournalFault) → reply_of (Err (fault_for f)) ≡ reply_for f
printed (TooLarge length limit) = refl
printed (TooMany what limit) = refl
printed (Stopped first) = refl
printed Failed = refl
printed Mem = refl
