-- Which mutations stand in a memtable after a call on it, and in all memtables of a table.
use Rattle.std.proofs.Common.{◌≡◌, ◌≢◌, ◌⊎◌, inl, inr, ◌≤◌, ℕ, zero, suc, ℤ, Bool, true, false, Option, None, List, [], ◌∷◌, ◌++◌, length, Result, Ok, Err, OnOk, refl, sym, ap, ◌∙◌, subst, arith, append-nil, append_assoc}
use Rattle.std.specs.Prelude.{◌==◌, map, drop, is_ok, OnErr, if◌then◌else◌}
use Rattle.std.specs.List.{AllByRecursion}
use Rattle.std.specs.Ordering.{is_eq}
use Rattle.std.specs.Cmp.{Equal-is}
use Rattle.std.proofs.lemmas.Cmp.{tied_itself}
use Rattle.std.proofs.lemmas.Bool.{true≢false}
use Rattle.std.proofs.lemmas.Bool.Decides.{nat_tests}
use Rattle.std.proofs.lemmas.Option.{none-some}
use Rattle.std.proofs.lemmas.Grind.{flat_map-append}
use Rattle.cas_types.specs.Values.{bytes_cmp}
use Rattle.cas_types.specs.declared.schema.Column.{Column}
use Rattle.cas_types.proofs.OrderLaws.{bytes_orders}
use Rattle.cas_bounds.specs.declared.order.Ordered.{Ordered}
use Rattle.cas_atoms.specs.Coordinates.{same_bytes}
use Rattle.cas_atoms.specs.Winners.{Same}
use Rattle.cas_atoms.specs.declared.atom.Atom.{Atom}
use Rattle.cas_atoms.specs.declared.atom.Mutation.{Mutation}
use Rattle.cas_laws.proofs.JoinProofs.{join_laws}
use Rattle.cas_streams.specs.NoMore.{SaysNoMore}
use Rattle.cas_streams.specs.Streams.{IsThere}
use Rattle.cas_streams.proofs.NoMore.{no_more_itself, no_more_kept, no_more_then}
use Rattle.cas_partition.specs.Ends.{AreAtEnds}
use Rattle.cas_partition.specs.Partitions.{AllFit, AreAtomsOf}
use Rattle.cas_memtable.specs.Memtables.{held_at, atoms_held, atoms_of, changes_held, changes_of, least_held, least_of, least_with, bytes_with, IsOfColumns, MakesPlaces, Joins}
use Rattle.cas_memtable.specs.declared.memtable.MemPart.{MemPart}
use Rattle.cas_memtable.specs.Kept.{atoms_at, atoms_under, bytes_of, StandIn, StandInEach, with_one, begun, all_of}

-- ---- lists of atoms

same_same : (A : List Atom) → Same A A
same_same A = record { covers = λ x. refl; lives = λ r. refl; cells = λ x. refl }

then_same : (A B C : List Atom) → Same A B → Same B C → Same A C
then_same A B C a b = record { covers = λ x. a.covers x ∙ b.covers x; lives = λ r. a.lives r ∙ b.lives r; cells = λ x. a.cells x ∙ b.cells x }

pub least_both : (xs : List Atom) (o : Option ℤ) (ys : List Atom) → least_with o (xs ++ ys) ≡ least_with (least_with o xs) ys
least_both [] o ys = refl
least_both (x ∷ xs) o ys = least_both xs _ ys

-- an atom of the first list or of the second
pub either_there : (A B : List Atom) → IsThere (A ++ B) → IsThere A ⊎ IsThere B
either_there [] B there = inr there
either_there (a ∷ A) B there = inl tt

pub there_front : (A B : List Atom) → IsThere A → IsThere (A ++ B)
there_front [] B there = absurd there
there_front (a ∷ A) B there = tt

pub there_back : (A B : List Atom) → IsThere B → IsThere (A ++ B)
there_back [] B there = there
there_back (a ∷ A) B there = tt

there_first : (A B C : List Atom) → (IsThere A → IsThere B) → IsThere (A ++ C) → IsThere (B ++ C)
there_first [] B C goes there = there_back B C there
there_first (a ∷ A) B C goes there = there_front B C (goes tt)

-- ---- keys

same_key : (k q : List ℕ) → ((q ≡ k) × (same_bytes k q ≡ true)) ⊎ ((q ≢ k) × (same_bytes k q ≡ false))
same_key k q =
    elim (is_eq (bytes_cmp k q)) as (λ b. is_eq (bytes_cmp k q) ≡ b → ((q ≡ k) × (is_eq (bytes_cmp k q) ≡ true)) ⊎ ((q ≢ k) × (is_eq (bytes_cmp k q) ≡ false))) [
      | true ↦ λ e. inl (sym (bytes_orders.ties k q ((Equal-is (bytes_cmp k q)).0 e)), e)
      | false ↦ λ e. inr ((λ x. true≢false (sym (ap is_eq (ap (bytes_cmp k) x ∙ tied_itself bytes_orders.total k)) ∙ e)), e)
    ] refl

one_under : (key : List ℕ) (w : Mutation) → atoms_under key (w ∷ []) ≡ atoms_at key w
one_under key w = append-nil (atoms_at key w)

pub more_under : (key : List ℕ) (ws : List Mutation) (vs : List Mutation) → atoms_under key (ws ++ vs) ≡ atoms_under key ws ++ atoms_under key vs
more_under key ws vs = flat_map-append (atoms_at key) ws vs

at_own : (w : Mutation) (key : List ℕ) → same_bytes w.key key ≡ true → atoms_at key w ≡ w.atoms
at_own w key e = ap (λ (b : Bool). if b then w.atoms else []) e

at_other : (w : Mutation) (key : List ℕ) → same_bytes w.key key ≡ false → atoms_at key w ≡ []
at_other w key e = ap (λ (b : Bool). if b then w.atoms else []) e

-- with one mutation more, what is written under its key, and under another one
own_under : (w : Mutation) (ws : List Mutation) (key : List ℕ) → same_bytes w.key key ≡ true → atoms_under key (ws ++ w ∷ []) ≡ atoms_under key ws ++ w.atoms
own_under w ws key e = more_under key ws (w ∷ []) ∙ ap (λ l. atoms_under key ws ++ l) (one_under key w ∙ at_own w key e)

other_under : (w : Mutation) (ws : List Mutation) (key : List ℕ) → same_bytes w.key key ≡ false → atoms_under key (ws ++ w ∷ []) ≡ atoms_under key ws
other_under w ws key e = more_under key ws (w ∷ []) ∙ ap (λ l. atoms_under key ws ++ l) (one_under key w ∙ at_other w key e) ∙ append-nil (atoms_under key ws)

pub bytes_both : (bytes : ℕ) (ws vs : List Mutation) → bytes_of bytes (ws ++ vs) ≡ bytes_of (bytes_of bytes ws) vs
bytes_both bytes [] vs = refl
bytes_both bytes (w ∷ ws) vs = bytes_both (bytes_with bytes w) ws vs

bytes_more : (bytes : ℕ) (ws : List Mutation) (w : Mutation) → bytes_of bytes (ws ++ w ∷ []) ≡ bytes_with (bytes_of bytes ws) w
bytes_more bytes [] w = refl
bytes_more bytes (v ∷ ws) w = bytes_more (bytes_with bytes v) ws w

-- ---- one memtable

pub none_stands : (order : List Ordered) (m : MemPart) → ((key : List ℕ) → held_at m key ≡ None) → m.bytes ≡ 0 → StandIn order m []
none_stands order m none bytes = record {
  of = λ key h is. absurd (none-some h (sym (none key) ∙ is));
  same = λ key. subst (λ o. Same (atoms_held o) []) (sym (none key)) (same_same []);
  no_more = λ key. subst (λ o. SaysNoMore (atoms_held o) []) (sym (none key)) (no_more_itself []);
  some = λ key there. absurd there;
  ends = λ key. subst (λ o. AreAtEnds [] (changes_held o)) (sym (none key)) tt;
  least = λ key. ap least_held (none key);
  bytes = bytes;
}

pub none_of_columns : (columns : List Column) (m : MemPart) → ((key : List ℕ) → held_at m key ≡ None) → IsOfColumns columns m
none_of_columns columns m none key h is = absurd (none-some h (sym (none key) ∙ is))

pub made_stands : (order : List Ordered) (w : Mutation) (m n : MemPart) (ws : List Mutation) → StandIn order m ws → AreAtomsOf order w.atoms → MakesPlaces w m n → StandIn order n ws
made_stands order w m n ws stands are makes = record {
  of = makes.of order stands.of are;
  same = λ key. then_same (atoms_of n key) (atoms_of m key) (atoms_under key ws) (makes.same order stands.of are key) (stands.same key);
  no_more = λ key. no_more_then (atoms_of n key) (atoms_of m key) (atoms_under key ws) (makes.no_more order stands.of are key) (stands.no_more key);
  some = λ key there. makes.some key (stands.some key there);
  ends = λ key. makes.ends key (atoms_under key ws) (stands.ends key);
  least = λ key. makes.least key ∙ stands.least key;
  bytes = makes.bytes ∙ stands.bytes;
}

module _ (order : List Ordered) (w : Mutation) (m n : MemPart) (ws : List Mutation) (stands : StandIn order m ws) (are : AreAtomsOf order w.atoms) (joins : Joins w m n) where
  abbrev Now : List ℕ → List Atom
  Now key = atoms_under key (ws ++ w ∷ [])

  own : (key : List ℕ) → same_bytes w.key key ≡ true → atoms_under key ws ++ w.atoms ≡ Now key
  own key e = sym (own_under w ws key e)

  own_same : same_bytes w.key w.key ≡ true → Same (atoms_of n w.key) (Now w.key)
  own_same e =
      subst (Same (atoms_of n w.key)) (own w.key e)
      (then_same (atoms_of n w.key) (atoms_of m w.key ++ w.atoms) (atoms_under w.key ws ++ w.atoms) (joins.joined order stands.of are)
      (join_laws.kept (atoms_of m w.key) (atoms_under w.key ws) w.atoms (stands.same w.key)))

  own_no_more : same_bytes w.key w.key ≡ true → SaysNoMore (atoms_of n w.key) (Now w.key)
  own_no_more e =
      subst (SaysNoMore (atoms_of n w.key)) (own w.key e)
      (no_more_then (atoms_of n w.key) (atoms_of m w.key ++ w.atoms) (atoms_under w.key ws ++ w.atoms) (joins.no_more order stands.of are)
      (no_more_kept (atoms_of m w.key) (atoms_under w.key ws) w.atoms (stands.no_more w.key)))

  own_least : same_bytes w.key w.key ≡ true → least_of n w.key ≡ least_with None (Now w.key)
  own_least e = joins.least ∙ ap (λ o. least_with o w.atoms) (stands.least w.key) ∙ sym (least_both (atoms_under w.key ws) None w.atoms) ∙ ap (least_with None) (own w.key e)

  abbrev Found : List ℕ → Type 0
  Found key = ((key ≡ w.key) × (same_bytes w.key key ≡ true)) ⊎ ((key ≢ w.key) × (same_bytes w.key key ≡ false))

  other : (key : List ℕ) → same_bytes w.key key ≡ false → atoms_under key ws ≡ Now key
  other key e = sym (other_under w ws key e)

  same_at : (key : List ℕ) → Found key → Same (atoms_of n key) (Now key)
  same_at key (inl e) = subst (λ q. Same (atoms_of n q) (Now q)) (sym e.0) (own_same (subst (λ q. same_bytes w.key q ≡ true) e.0 e.1))
  same_at key (inr h) = subst (λ o. Same (atoms_held o) (Now key)) (sym (joins.others key h.0)) (subst (Same (atoms_of m key)) (other key h.1) (stands.same key))

  no_more_at : (key : List ℕ) → Found key → SaysNoMore (atoms_of n key) (Now key)
  no_more_at key (inl e) = subst (λ q. SaysNoMore (atoms_of n q) (Now q)) (sym e.0) (own_no_more (subst (λ q. same_bytes w.key q ≡ true) e.0 e.1))
  no_more_at key (inr h) = subst (λ o. SaysNoMore (atoms_held o) (Now key)) (sym (joins.others key h.0)) (subst (SaysNoMore (atoms_of m key)) (other key h.1) (stands.no_more key))

  own_some : same_bytes w.key w.key ≡ true → IsThere (Now w.key) → IsThere (atoms_of n w.key)
  own_some e there =
      joins.some order stands.of are
      (there_first (atoms_under w.key ws) (atoms_of m w.key) w.atoms (stands.some w.key) (subst IsThere (sym (own w.key e)) there))

  some_at : (key : List ℕ) → Found key → IsThere (Now key) → IsThere (atoms_of n key)
  some_at key (inl e) = subst (λ q. IsThere (Now q) → IsThere (atoms_of n q)) (sym e.0) (own_some (subst (λ q. same_bytes w.key q ≡ true) e.0 e.1))
  some_at key (inr h) = λ there. subst (λ o. IsThere (atoms_held o)) (sym (joins.others key h.0)) (stands.some key (subst IsThere (sym (other key h.1)) there))

  own_ends : same_bytes w.key w.key ≡ true → AreAtEnds (Now w.key) (changes_of n w.key)
  own_ends e = subst (λ l. AreAtEnds l (changes_of n w.key)) (own w.key e) (joins.ends order stands.of are (atoms_under w.key ws) (stands.ends w.key))

  ends_at : (key : List ℕ) → Found key → AreAtEnds (Now key) (changes_of n key)
  ends_at key (inl e) = subst (λ q. AreAtEnds (Now q) (changes_of n q)) (sym e.0) (own_ends (subst (λ q. same_bytes w.key q ≡ true) e.0 e.1))
  ends_at key (inr h) = subst (λ o. AreAtEnds (Now key) (changes_held o)) (sym (joins.others key h.0)) (subst (λ l. AreAtEnds l (changes_of m key)) (other key h.1) (stands.ends key))

  least_at : (key : List ℕ) → Found key → least_of n key ≡ least_with None (Now key)
  least_at key (inl e) = subst (λ q. least_of n q ≡ least_with None (Now q)) (sym e.0) (own_least (subst (λ q. same_bytes w.key q ≡ true) e.0 e.1))
  least_at key (inr h) = ap least_held (joins.others key h.0) ∙ stands.least key ∙ ap (least_with None) (other key h.1)

  pub joined_stands : StandIn order n (ws ++ w ∷ [])
  joined_stands = record {
    of = joins.of order stands.of are;
    same = λ key. same_at key (same_key w.key key);
    no_more = λ key. no_more_at key (same_key w.key key);
    some = λ key. some_at key (same_key w.key key);
    ends = λ key. ends_at key (same_key w.key key);
    least = λ key. least_at key (same_key w.key key);
    bytes = joins.bytes ∙ ap (λ b. bytes_with b w) stands.bytes ∙ sym (bytes_more 0 ws w);
  }

-- ---- all memtables

-- the last memtable, and those before it
pub record Ended (order : List Ordered) (ms : List MemPart) (m : MemPart) (wss : List (List Mutation)) : Type 0 where
  pub before : List (List Mutation)
  pub last : List Mutation
  pub is : wss ≡ before ++ last ∷ []
  pub each : StandInEach order ms before
  pub stands : StandIn order m last

pub ended : (order : List Ordered) (ms : List MemPart) (m : MemPart) (wss : List (List Mutation)) → StandInEach order (ms ++ m ∷ []) wss → Ended order ms m wss
ended order [] m [] h = absurd h
ended order [] m (ws ∷ []) h = record { before = []; last = ws; is = refl; each = tt; stands = h.0 }
ended order [] m (ws ∷ vs ∷ wss) h = absurd h.1
ended order (k ∷ ms) m [] h = absurd h
ended order (k ∷ ms) m (ws ∷ wss) h =
    let e : Ended order ms m wss = ended order ms m wss h.1 in
    record { before = ws ∷ e.before; last = e.last; is = ap (λ l. ws ∷ l) e.is; each = (h.0, e.each); stands = e.stands }

pub one_more : (order : List Ordered) (ms : List MemPart) (m : MemPart) (wss : List (List Mutation)) (ws : List Mutation) → StandInEach order ms wss → StandIn order m ws
    → StandInEach order (ms ++ m ∷ []) (wss ++ ws ∷ [])
one_more order [] m [] ws h s = (s, tt)
one_more order [] m (vs ∷ wss) ws h s = absurd h
one_more order (k ∷ ms) m [] ws h s = absurd h
one_more order (k ∷ ms) m (vs ∷ wss) ws h s = (h.0, one_more order ms m wss ws h.1 s)

with_last : (w : Mutation) (wss : List (List Mutation)) (ws : List Mutation) → with_one w (wss ++ ws ∷ []) ≡ wss ++ (ws ++ w ∷ []) ∷ []
with_last w [] ws = refl
with_last w (vs ∷ []) ws = refl
with_last w (vs ∷ us ∷ wss) ws = ap (λ l. vs ∷ l) (with_last w (us ∷ wss) ws)

-- the last memtable changed, and says the same
pub last_kept : (order : List Ordered) (ms : List MemPart) (m n : MemPart) (wss : List (List Mutation)) → ((ws : List Mutation) → StandIn order m ws → StandIn order n ws)
    → StandInEach order (ms ++ m ∷ []) wss → StandInEach order (ms ++ n ∷ []) wss
last_kept order ms m n wss goes h =
    let e : Ended order ms m wss = ended order ms m wss h in
    subst (StandInEach order (ms ++ n ∷ [])) (sym e.is) (one_more order ms n e.before e.last e.each (goes e.last e.stands))

-- a mutation more stands in it
pub last_joined : (order : List Ordered) (w : Mutation) (ms : List MemPart) (m n : MemPart) (wss : List (List Mutation))
    → ((ws : List Mutation) → StandIn order m ws → StandIn order n (ws ++ w ∷ []))
    → StandInEach order (ms ++ m ∷ []) wss → StandInEach order (ms ++ n ∷ []) (with_one w wss)
last_joined order w ms m n wss goes h =
    let e : Ended order ms m wss = ended order ms m wss h in
    subst (StandInEach order (ms ++ n ∷ [])) (sym (ap (with_one w) e.is ∙ with_last w e.before e.last))
    (one_more order ms n e.before (e.last ++ w ∷ []) e.each (goes e.last e.stands))

-- the first ones are let go of
pub rest_stand : (order : List Ordered) (n : ℕ) (ms : List MemPart) (wss : List (List Mutation)) → StandInEach order ms wss → StandInEach order (drop n ms) (drop n wss)
rest_stand order zero ms wss h = h
rest_stand order (suc n) [] [] h = tt
rest_stand order (suc n) [] (ws ∷ wss) h = absurd h
rest_stand order (suc n) (m ∷ ms) [] h = absurd h
rest_stand order (suc n) (m ∷ ms) (ws ∷ wss) h = rest_stand order n ms wss h.1

-- ---- memtables of a table with some columns

pub last_of : (P : MemPart → Type 0) (ms : List MemPart) (m n : MemPart) → (P m → P n) → AllByRecursion P (ms ++ m ∷ []) → AllByRecursion P (ms ++ n ∷ [])
last_of P [] m n h each = (h each.0, tt)
last_of P (k ∷ ms) m n h each = (each.0, last_of P ms m n h each.1)

pub one_more_of : (P : MemPart → Type 0) (ms : List MemPart) (m : MemPart) → AllByRecursion P ms → P m → AllByRecursion P (ms ++ m ∷ [])
one_more_of P [] m each h = (h, tt)
one_more_of P (k ∷ ms) m each h = (each.0, one_more_of P ms m each.1 h)

pub rest_of : (P : MemPart → Type 0) (n : ℕ) (ms : List MemPart) → AllByRecursion P ms → AllByRecursion P (drop n ms)
rest_of P zero ms each = each
rest_of P (suc n) [] each = tt
rest_of P (suc n) (m ∷ ms) each = rest_of P n ms each.1

-- ---- the frozen ones let go of

pub rest_before : {X : Type 0} (n : ℕ) (xs : List X) (x : X) → n ≤ length xs → drop n (xs ++ x ∷ []) ≡ drop n xs ++ x ∷ []
rest_before zero xs x h = refl
rest_before (suc n) [] x h = absurd (omega (arith, h))
rest_before (suc n) (y ∷ xs) x h = rest_before n xs x (omega (arith, h))

pub rest_mapped : {X Y : Type 0} (f : X → Y) (n : ℕ) (xs : List X) → map f (drop n xs) ≡ drop n (map f xs)
rest_mapped f zero xs = refl
rest_mapped f (suc n) [] = refl
rest_mapped f (suc n) (x ∷ xs) = rest_mapped f n xs

pub mapped_count : {X Y : Type 0} (f : X → Y) (xs : List X) → length (map f xs) ≡ length xs
mapped_count f [] = refl
mapped_count f (x ∷ xs) = ap suc (mapped_count f xs)

pub mapped_more : {X Y : Type 0} (f : X → Y) (xs : List X) (x : X) → map f (xs ++ x ∷ []) ≡ map f xs ++ f x ∷ []
mapped_more f [] x = refl
mapped_more f (y ∷ xs) x = ap (λ l. f y ∷ l) (mapped_more f xs x)

-- ---- a memtable is frozen

pub not_zero : (n : ℕ) → (n ≡ 0 → ⊥) → (n == 0) ≡ false
not_zero n h = grind (arith, nat_tests, h)

-- the memtables after a freeze: all that were there, and a new one
pub freeze_keeps : (order : List Ordered) (now old : List MemPart) (one m n : MemPart) (wss : List (List Mutation)) → now ≡ old ++ one ∷ [] → one ≡ m
    → ((key : List ℕ) → held_at n key ≡ None) → n.bytes ≡ 0 → StandInEach order (old ++ m ∷ []) wss → StandInEach order (now ++ n ∷ []) (begun wss)
freeze_keeps order now old one m n wss e is none bytes each =
    subst (λ l. StandInEach order (l ++ n ∷ []) (begun wss)) (sym (e ∙ ap (λ k. old ++ k ∷ []) is)) (one_more order (old ++ m ∷ []) n wss [] each (none_stands order n none bytes))

pub freeze_of : (P : MemPart → Type 0) (now old : List MemPart) (one m n : MemPart) → now ≡ old ++ one ∷ [] → one ≡ m → P n → AllByRecursion P (old ++ m ∷ []) → AllByRecursion P (now ++ n ∷ [])
freeze_of P now old one m n e is new each =
    subst (λ l. AllByRecursion P (l ++ n ∷ [])) (sym (e ∙ ap (λ k. old ++ k ∷ []) is)) (one_more_of P (old ++ m ∷ []) n each new)

-- the oldest ones are let go of
pub forget_keeps : (order : List Ordered) (n : ℕ) (now old : List MemPart) (m : MemPart) (wss : List (List Mutation)) → n ≤ length old → now ≡ drop n old
    → StandInEach order (old ++ m ∷ []) wss → StandInEach order (now ++ m ∷ []) (drop n wss)
forget_keeps order n now old m wss few e each =
    subst (λ l. StandInEach order l (drop n wss)) (rest_before n old m few ∙ ap (λ l. l ++ m ∷ []) (sym e)) (rest_stand order n (old ++ m ∷ []) wss each)

pub forget_of : (P : MemPart → Type 0) (n : ℕ) (now old : List MemPart) (m : MemPart) → n ≤ length old → now ≡ drop n old → AllByRecursion P (old ++ m ∷ []) → AllByRecursion P (now ++ m ∷ [])
forget_of P n now old m few e each = subst (AllByRecursion P) (rest_before n old m few ∙ ap (λ l. l ++ m ∷ []) (sym e)) (rest_of P n (old ++ m ∷ []) each)

-- the loop that lets go of them has come to its end
pub all_gone : (order : List Ordered) {X : Type 0} (f : X → MemPart) (gone count : ℕ) (new old : List X) (m n : MemPart) (wss : List (List Mutation)) → count ≤ gone → gone ≤ count
    → count ≤ length old → new ≡ drop gone old → n ≡ m → StandInEach order (map f old ++ m ∷ []) wss → StandInEach order (map f new ++ n ∷ []) (drop count wss)
all_gone order f gone count new old m n wss done within few e same each =
    let ended : gone ≡ count = omega (arith, done, within) in
    subst (λ k. StandInEach order (map f new ++ k ∷ []) (drop count wss)) (sym same)
    (forget_keeps order count (map f new) (map f old) m wss (subst (λ k. count ≤ k) (sym (mapped_count f old)) few)
    (ap (map f) (e ∙ ap (λ k. drop k old) ended) ∙ rest_mapped f count old) each)

pub all_gone_of : (P : MemPart → Type 0) {X : Type 0} (f : X → MemPart) (gone count : ℕ) (new old : List X) (m n : MemPart) → count ≤ gone → gone ≤ count
    → count ≤ length old → new ≡ drop gone old → n ≡ m → AllByRecursion P (map f old ++ m ∷ []) → AllByRecursion P (map f new ++ n ∷ [])
all_gone_of P f gone count new old m n done within few e same each =
    let ended : gone ≡ count = omega (arith, done, within) in
    subst (λ k. AllByRecursion P (map f new ++ k ∷ [])) (sym same)
    (forget_of P count (map f new) (map f old) m (subst (λ k. count ≤ k) (sym (mapped_count f old)) few)
    (ap (map f) (e ∙ ap (λ k. drop k old) ended) ∙ rest_mapped f count old) each)

-- ---- all mutations

all_last : (wss : List (List Mutation)) (ws : List Mutation) → all_of (wss ++ ws ∷ []) ≡ all_of wss ++ ws
all_last wss ws = flat_map-append (λ vs. vs) wss (ws ∷ []) ∙ ap (λ l. all_of wss ++ l) (append-nil ws)

-- with one mutation more
pub all_joined : (order : List Ordered) (ms : List MemPart) (m : MemPart) (w : Mutation) (wss : List (List Mutation)) → StandInEach order (ms ++ m ∷ []) wss
    → all_of (with_one w wss) ≡ all_of wss ++ w ∷ []
all_joined order ms m w wss each =
    let e : Ended order ms m wss = ended order ms m wss each in
    ap (λ l. all_of (with_one w l)) e.is ∙ ap all_of (with_last w e.before e.last) ∙ all_last e.before (e.last ++ w ∷ []) ∙ sym (append_assoc (all_of e.before) e.last (w ∷ []))
    ∙ ap (λ l. l ++ w ∷ []) (sym (all_last e.before e.last) ∙ ap all_of (sym e.is))

-- with a memtable more
pub all_begun : (wss : List (List Mutation)) → all_of (begun wss) ≡ all_of wss
all_begun wss = all_last wss [] ∙ append-nil (all_of wss)

-- ---- a mutation that was joined at once, or for which place was made

module _ {E : Type 0} (w : Mutation) (m n : MemPart) where
  pub inserted_keeps : (r : Result (Unit {0}) E) (order : List Ordered) (ms : List MemPart) (wss : List (List Mutation)) → OnOk r (Joins w m n) → OnErr r (MakesPlaces w m n)
      → AreAtomsOf order w.atoms → StandInEach order (ms ++ m ∷ []) wss → StandInEach order (ms ++ n ∷ []) (if is_ok r then with_one w wss else wss)
  inserted_keeps (Ok x) order ms wss joins makes are h = last_joined order w ms m n wss (λ ws stands. joined_stands order w m n ws stands are joins) h
  inserted_keeps (Err e) order ms wss joins makes are h = last_kept order ms m n wss (λ ws stands. made_stands order w m n ws stands are makes) h

  pub inserted_fits : (r : Result (Unit {0}) E) (columns : List Column) → OnOk r (Joins w m n) → OnErr r (MakesPlaces w m n) → AllFit columns w.atoms → IsOfColumns columns m
      → IsOfColumns columns n
  inserted_fits (Ok x) columns joins makes fit of = joins.fits columns of fit
  inserted_fits (Err e) columns joins makes fit of = makes.fits columns of fit

  pub inserted_bytes : (r : Result (Unit {0}) E) → OnOk r (Joins w m n) → OnErr r (MakesPlaces w m n) → n.bytes ≡ (if is_ok r then bytes_with m.bytes w else m.bytes)
  inserted_bytes (Ok x) joins makes = joins.bytes
  inserted_bytes (Err e) joins makes = makes.bytes
