-- For crates above: which mutation may be taken, and that it may be taken once room was made.
use Rattle.std.proofs.Common.{◌≡◌, ℕ, ◌+◌, ◌==◌, Bool, true, false, List, [], ◌∷◌, ◌++◌, refl, sym, ap, subst, ◌∙◌, append_assoc}
use Rattle.std.specs.Prelude.{if◌then◌else◌}
use Rattle.std.proofs.lemmas.Bool.{eqb-false, eqb-true}
use Rattle.std.proofs.lemmas.Grind.{flat_map-append}
use Rattle.std.proofs.lemmas.List.{append-nil}
use Rattle.cas_types.specs.declared.schema.TableSchema.{TableSchema}
use Rattle.cas_atoms.specs.declared.atom.Mutation.{Mutation}
use Rattle.cas_changes.specs.declared.entry.Entry.{Entry}
use Rattle.cas_changes.specs.declared.entry.Entry.TheVariants.{NewSegment}
use Rattle.cas_changes.specs.Saying.{Saying, said_by}
use Rattle.cas_manifest.proofs.Appends.{said_more}
use Rattle.cas_mutations.specs.Allowed.{FitsRecord}
use Rattle.cas_replay.specs.Grammar.{AreInOrder, AscendByOne, numbers_of}
use Rattle.cas_journal.specs.Stores.{Told, MadeRoom, named, took}
use Rattle.cas_journal.specs.Journals.{MayTake}

-- segments that are named leave the tables as they are
pub named_tables : (entries : List Entry) (numbers : List ℕ) → (said_by (entries ++ named numbers)).tables ≡ (said_by entries).tables
named_tables entries [] = ap (λ (l : List Entry). (said_by l).tables) (append-nil entries)
named_tables entries (n ∷ numbers) =
    ap (λ (l : List Entry). (said_by l).tables) (sym (append_assoc entries (NewSegment n ∷ []) (named numbers)))
    ∙ named_tables (entries ++ NewSegment n ∷ []) numbers ∙ ap (λ (s : Saying). s.tables) (said_more entries (NewSegment n))

-- and the shards
pub named_shards : (entries : List Entry) (numbers : List ℕ) → (said_by (entries ++ named numbers)).shards ≡ (said_by entries).shards
named_shards entries [] = ap (λ (l : List Entry). (said_by l).shards) (append-nil entries)
named_shards entries (n ∷ numbers) =
    ap (λ (l : List Entry). (said_by l).shards) (sym (append_assoc entries (NewSegment n ∷ []) (named numbers)))
    ∙ named_shards (entries ++ NewSegment n ∷ []) numbers ∙ ap (λ (s : Saying). s.shards) (said_more entries (NewSegment n))

pub may_still_take : (t u : Told) (m : Mutation) → MadeRoom t u → MayTake t m → MayTake u m
may_still_take t u m made may =
    let tables : (said_by u.entries).tables ≡ (said_by t.entries).tables =
    ap (λ (l : List Entry). (said_by l).tables) made.entries ∙ named_tables t.entries made.numbers in
    let shards : (said_by u.entries).shards ≡ (said_by t.entries).shards =
    ap (λ (l : List Entry). (said_by l).shards) made.entries ∙ named_shards t.entries made.numbers in
    record {
      fits = subst (λ (n : ℕ). FitsRecord (said_by u.entries).tables n m) (sym shards)
          (subst (λ (ts : List TableSchema). FitsRecord ts (said_by t.entries).shards m) (sym tables) may.fits);
      next = subst (λ (ms : List Mutation). AreInOrder (ms ++ m ∷ [])) (sym made.taken) may.next;
    }

-- ---- which may be taken

-- the numbers of a shard, with one mutation more
numbers_more : (n : ℕ) (ms : List Mutation) (m : Mutation) → numbers_of n (ms ++ m ∷ []) ≡ numbers_of n ms ++ (if m.shard == n then m.number ∷ [] else [])
numbers_more n ms m =
    flat_map-append (λ (x : Mutation). if x.shard == n then x.number ∷ [] else []) ms (m ∷ [])
    ∙ ap (λ (l : List ℕ). numbers_of n ms ++ l) (append-nil (if m.shard == n then m.number ∷ [] else []))

ascend_before : (ns : List ℕ) (n : ℕ) → AscendByOne (ns ++ n ∷ []) → AscendByOne ns
ascend_before [] n ascend = tt
ascend_before (a ∷ []) n ascend = tt
ascend_before (a ∷ b ∷ ns) n ascend = (ascend.0, ascend_before (b ∷ ns) n ascend.1)

ascend_behind : (ns : List ℕ) (n : ℕ) → AscendByOne (ns ++ n ∷ []) → AscendByOne ((ns ++ n ∷ []) ++ (n + 1) ∷ [])
ascend_behind [] n ascend = (refl, tt)
ascend_behind (a ∷ []) n ascend = (ascend.0, (refl, tt))
ascend_behind (a ∷ b ∷ ns) n ascend = (ascend.0, ascend_behind (b ∷ ns) n ascend.1)

module _ (ms : List Mutation) (m : Mutation) (comes : AscendByOne (numbers_of m.shard ms ++ m.number ∷ [])) where
  order_by : (n : ℕ) (b : Bool) → (m.shard == n) ≡ b → AscendByOne (numbers_of n ms) → AscendByOne (numbers_of n ms ++ (if b then m.number ∷ [] else []))
  order_by n true is ordered = subst (λ (k : ℕ). AscendByOne (numbers_of k ms ++ m.number ∷ [])) (eqb-true m.shard n is) comes
  order_by n false is ordered = subst AscendByOne (sym (append-nil (numbers_of n ms))) ordered

  -- with the next of its shard, those in order stay in order
  pub next_in_order : AreInOrder ms → AreInOrder (ms ++ m ∷ [])
  next_in_order ordered n = subst AscendByOne (sym (numbers_more n ms m)) (order_by n (m.shard == n) refl (ordered n))

  next_by : (n : ℕ) (b : Bool) → (m.shard == n) ≡ b → (before after : ℕ) → (m.shard ≡ n → after ≡ m.number + 1) → ((m.shard ≡ n → ⊥) → after ≡ before)
      → AscendByOne (numbers_of n ms ++ before ∷ []) → AscendByOne ((numbers_of n ms ++ (if b then m.number ∷ [] else [])) ++ after ∷ [])
  next_by n true is before after here others ascend =
      subst (λ (k : ℕ). AscendByOne ((numbers_of n ms ++ m.number ∷ []) ++ k ∷ [])) (sym (here (eqb-true m.shard n is)))
      (subst (λ (k : ℕ). AscendByOne ((numbers_of k ms ++ m.number ∷ []) ++ (m.number + 1) ∷ [])) (eqb-true m.shard n is)
      (ascend_behind (numbers_of m.shard ms) m.number comes))
  next_by n false is before after here others ascend =
      subst (λ (k : ℕ). AscendByOne ((numbers_of n ms ++ []) ++ k ∷ [])) (sym (others (eqb-false m.shard n is)))
      (subst (λ (l : List ℕ). AscendByOne (l ++ before ∷ [])) (sym (append-nil (numbers_of n ms))) ascend)

  -- which number is the next of a shard, once it was taken: one above its own of its own shard, and as before of the others
  pub next_after : (n before after : ℕ) → (m.shard ≡ n → after ≡ m.number + 1) → ((m.shard ≡ n → ⊥) → after ≡ before)
      → AscendByOne (numbers_of n ms ++ before ∷ []) → AscendByOne (numbers_of n (ms ++ m ∷ []) ++ after ∷ [])
  next_after n before after here others ascend =
      subst (λ (l : List ℕ). AscendByOne (l ++ after ∷ [])) (sym (numbers_more n ms m)) (next_by n (m.shard == n) refl before after here others ascend)

-- where each shard has a next number, all are in order
pub in_order_before : (ms : List Mutation) (next : ℕ → ℕ) → ((n : ℕ) → AscendByOne (numbers_of n ms ++ next n ∷ [])) → AreInOrder ms
in_order_before ms next ascend n = ascend_before (numbers_of n ms) (next n) (ascend n)

-- a mutation of the tables may be taken where it has the next number of its shard
pub may_take : (t : Told) (m : Mutation) → FitsRecord (said_by t.entries).tables (said_by t.entries).shards m → AreInOrder t.taken
    → AscendByOne (numbers_of m.shard t.taken ++ m.number ∷ []) → MayTake t m
may_take t m fits ordered comes = record { fits = fits; next = next_in_order t.taken m comes ordered }

-- and then it is in order with the others
pub took_in_order : (t : Told) (m : Mutation) → AreInOrder t.taken → AscendByOne (numbers_of m.shard t.taken ++ m.number ∷ []) → AreInOrder (took m t).taken
took_in_order t m ordered comes = next_in_order t.taken m comes ordered

-- and each shard has a next number: its own the one above it, the others the same
pub took_next : (t : Told) (m : Mutation) (next now : ℕ → ℕ) → AscendByOne (numbers_of m.shard t.taken ++ m.number ∷ [])
    → ((n : ℕ) → AscendByOne (numbers_of n t.taken ++ next n ∷ [])) → now m.shard ≡ m.number + 1 → ((n : ℕ) → (m.shard ≡ n → ⊥) → now n ≡ next n)
    → (n : ℕ) → AscendByOne (numbers_of n (took m t).taken ++ now n ∷ [])
took_next t m next now comes ascend here others n =
    next_after t.taken m comes n (next n) (now n) (λ same. subst (λ (k : ℕ). now k ≡ m.number + 1) same here) (others n) (ascend n)
