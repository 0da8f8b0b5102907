-- The mutations of an open store are numbered on.
use Rattle.std.proofs.Common.{◌≡◌, ◌≢◌, ⊎_elim, ◌∙◌, ◌<◌, ◌+◌, ◌==◌, ℕ, zero, suc, Bool, Some, List, [], ◌∷◌, ◌++◌, length, refl, sym, ap, subst, append-nil, append_assoc, arith}
use Rattle.std.specs.Prelude.{if◌then◌else◌, slice_get, slice_set}
use Rattle.std.proofs.lemmas.Grind.{flat_map-append}
use Rattle.std.proofs.lemmas.List.{flat_map_more}
use Rattle.std.proofs.lemmas.Option.{same_Some}
use Rattle.cas_atoms.specs.declared.atom.Mutation.{Mutation}
use Rattle.cas_history.specs.declared.item.Item.TheVariants.{Wrote}
use Rattle.cas_replay.specs.Grammar.{AscendByOne, numbers_of}
use Rattle.cas_room.specs.declared.event.Event.TheVariants as event
use Rattle.cas_room.specs.Rooms.{accepted_in, mutation_of}
use Rattle.cas_shard.specs.Stands.{ShardState}
use Rattle.cas_recovery.proofs.Places.{get_here, get_other, get_within, is_other, is_same, length_set, same_place}
use Rattle.cas_lasting.specs.Nodes.{State}
use Rattle.cas_lasting.specs.Numbering.{NumbersOn}
use Rattle.cas_lasting.specs.Inner.Going.{SameNumbers}

-- ---- numbers

-- up to one number and on from there
ascend_on : (k e f : ℕ) (xs ys : List ℕ) → AscendByOne (k ∷ xs ++ (e + 1) ∷ []) → AscendByOne (e ∷ ys ++ (f + 1) ∷ []) → AscendByOne (k ∷ (xs ++ ys) ++ (f + 1) ∷ [])
ascend_on k e f [] ys first second = let same : e ≡ k = omega (arith, first.0) in subst (λ j. AscendByOne (j ∷ ys ++ (f + 1) ∷ [])) same second
ascend_on k e f (x ∷ xs) ys first second = (first.0, ascend_on x e f xs ys first.1 second)

-- the first of them
pub ascend_front : (k : ℕ) (xs ys : List ℕ) → AscendByOne (k ∷ xs ++ ys) → AscendByOne (k ∷ xs)
ascend_front k [] ys ascend = tt
ascend_front k (x ∷ xs) ys ascend = (ascend.0, ascend_front x xs ys ascend.1)

pub numbers_both : (n : ℕ) (ms ns : List Mutation) → numbers_of n (ms ++ ns) ≡ numbers_of n ms ++ numbers_of n ns
numbers_both n ms ns = flat_map-append {A = ℕ} (λ (m : Mutation). if m.shard == n then m.number ∷ [] else []) ms ns

none_on : (n : ℕ) (x y : ShardState) → x ≡ y → AscendByOne (x.number ∷ (y.number + 1) ∷ [])
none_on n x y same = (subst (λ (z : ShardState). z.number + 1 ≡ x.number + 1) same refl, tt)

pub got : {X : Type 0} (xs : List X) (n : ℕ) → n < length xs → (x : X) × (slice_get xs n ≡ Some x)
got [] n low = absurd (omega (arith, low))
got (x ∷ xs) zero low = (x, refl)
got (x ∷ xs) (suc n) low = got xs n (omega (arith, low))

-- ---- calls

-- nothing was accepted
pub numbers_none : (s t : State) → t.list ≡ s.list → t.shards ≡ s.shards → NumbersOn s t
numbers_none s t list shards = record {
  fresh = [];
  list = ap accepted_in list ∙ sym (append-nil (accepted_in s.list));
  count = ap length shards;
  shards = λ n x y there here. none_on n x y (same_Some x y (sym there ∙ subst (λ xs. slice_get xs n ≡ Some y) shards here));
}

-- nothing was accepted, and each shard has its last number
pub numbers_kept : (s t : State) → t.list ≡ s.list → length t.shards ≡ length s.shards → SameNumbers s.shards t.shards → NumbersOn s t
numbers_kept s t list count same = record {
  fresh = [];
  list = ap accepted_in list ∙ sym (append-nil (accepted_in s.list));
  count = count;
  shards = λ n x y there here.
      let (w, at, number) = same n y here in
      (ap (λ (k : ℕ). k + 1) (number ∙ ap (λ (q : ShardState). q.number) (same_Some w x (sym at ∙ there))), tt);
}

-- one call more
pub numbers_more : (s t u : State) → NumbersOn s t → NumbersOn t u → NumbersOn s u
numbers_more s t u one two = record {
  fresh = one.fresh ++ two.fresh;
  list = two.list ∙ ap (λ l. l ++ two.fresh) one.list ∙ append_assoc (accepted_in s.list) one.fresh two.fresh;
  count = two.count ∙ one.count;
  shards = λ n x z there here.
      let (y, mid) = got t.shards n (subst (λ k. n < k) (sym one.count) (get_within s.shards n x there)) in
      subst (λ l. AscendByOne (x.number ∷ l ++ (z.number + 1) ∷ [])) (sym (numbers_both n one.fresh two.fresh))
      (ascend_on x.number y.number z.number (numbers_of n one.fresh) (numbers_of n two.fresh) (one.shards n x y there mid) (two.shards n y z mid here));
}

-- one shard is another
module _ (s t : State) (k : ℕ) (x z : ShardState) (there : slice_get s.shards k ≡ Some x) (shards : t.shards ≡ slice_set s.shards k z) where
  still_many : length t.shards ≡ length s.shards
  still_many = ap length shards ∙ length_set s.shards k z

  at : (n : ℕ) (b : ShardState) → slice_get t.shards n ≡ Some b → slice_get (slice_set s.shards k z) n ≡ Some b
  at n b here = subst (λ xs. slice_get xs n ≡ Some b) shards here

  each : (fresh : List Mutation) → AscendByOne (x.number ∷ numbers_of k fresh ++ (z.number + 1) ∷ []) → ((n : ℕ) → n ≢ k → numbers_of n fresh ≡ [])
      → (n : ℕ) (a b : ShardState) → slice_get s.shards n ≡ Some a → slice_get t.shards n ≡ Some b
      → AscendByOne (a.number ∷ numbers_of n fresh ++ (b.number + 1) ∷ [])
  each fresh one none n a b before now = ⊎_elim (λ e. in_it e) (λ other. in_other other) (same_place n k)
    where
      in_it : n ≡ k → AscendByOne (a.number ∷ numbers_of n fresh ++ (b.number + 1) ∷ [])
      in_it e =
          let a_is : x ≡ a = same_Some x a (sym there ∙ subst (λ j. slice_get s.shards j ≡ Some a) e before) in
          let b_is : z ≡ b = same_Some z b (sym (get_here s.shards k x z there) ∙ subst (λ j. slice_get (slice_set s.shards k z) j ≡ Some b) e (at n b now)) in
          subst (λ j. AscendByOne (a.number ∷ numbers_of j fresh ++ (b.number + 1) ∷ [])) (sym e)
          (subst (λ (w : ShardState). AscendByOne (w.number ∷ numbers_of k fresh ++ (b.number + 1) ∷ [])) a_is
          (subst (λ (w : ShardState). AscendByOne (x.number ∷ numbers_of k fresh ++ (w.number + 1) ∷ [])) b_is one))

      in_other : n ≢ k → AscendByOne (a.number ∷ numbers_of n fresh ++ (b.number + 1) ∷ [])
      in_other other =
          let same : a ≡ b = same_Some a b (sym before ∙ sym (get_other s.shards k n z other) ∙ at n b now) in
          subst (λ l. AscendByOne (a.number ∷ l ++ (b.number + 1) ∷ [])) (sym (none n other)) (none_on n a b same)

  -- it met a reading
  pub numbers_raised : t.list ≡ s.list → z.number ≡ x.number → NumbersOn s t
  numbers_raised list number = record {
    fresh = [];
    list = ap accepted_in list ∙ sym (append-nil (accepted_in s.list));
    count = still_many;
    shards = each [] (ap (λ j. j + 1) number, tt) (λ n other. refl);
  }

  -- it took a mutation
  pub numbers_taken : (m : Mutation) (session call : ℕ) → t.list ≡ s.list ++ Wrote m.shard session call m.number (event.Accepted m) ∷ [] → m.shard ≡ k
      → m.number ≡ x.number + 1 → z.number ≡ m.number → NumbersOn s t
  numbers_taken m session call list here next number = record {
    fresh = m ∷ [];
    list = ap accepted_in list ∙ sym (flat_map_more mutation_of [] s.list (Wrote m.shard session call m.number (event.Accepted m)));
    count = still_many;
    shards = each (m ∷ [])
        (subst (λ l. AscendByOne (x.number ∷ l ++ (z.number + 1) ∷ [])) (sym its_own) (next, (ap (λ j. j + 1) number, tt)))
        (λ n other. ap (λ (b : Bool). (if b then m.number ∷ [] else []) ++ []) (is_other m.shard n (λ e. other (e ∙ here))));
  }
    where
      its_own : numbers_of k (m ∷ []) ≡ m.number ∷ []
      its_own = ap (λ (b : Bool). (if b then m.number ∷ [] else []) ++ []) (ap (λ j. j == k) here ∙ is_same k)
