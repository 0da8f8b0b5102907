-- What calls on the map of partitions do to what a memtable says.
use Rattle.std.proofs.Common.{◌≡◌, ℕ, ℤ, Bool, true, false, cond, Option, None, Some, is_some, IsSome, List, ◌++◌, Result, Ok, Err, OnOk, IsErr, ◌⊎◌, inl, inr, refl, sym, ap, ◌∙◌, subst}
use Rattle.std.specs.Prelude.{OnErr}
use Rattle.std.proofs.lemmas.Bool.{true≢false}
use Rattle.std.proofs.lemmas.Option.{none-some}
use Rattle.std.proofs.lemmas.Cmp.{tied_itself}
use Rattle.std.specs.Option.{unwrap_or}
use Rattle.std.specs.Cmp.{Equal-is}
use Rattle.std.specs.Ordering.{is_eq}
use Rattle.cas_types.specs.Values.{bytes_cmp}
use Rattle.cas_types.specs.declared.schema.Column.{Column}
use Rattle.cas_types.proofs.OrderLaws.{bytes_orders}
use Rattle.cas_bounds.specs.declared.order.Ordered.{Ordered}
use Rattle.cas_atoms.specs.Winners.{Same}
use Rattle.cas_atoms.specs.declared.atom.Atom.{Atom}
use Rattle.cas_atoms.specs.declared.atom.Mutation.{Mutation}
use Rattle.cas_streams.specs.NoMore.{SaysNoMore}
use Rattle.cas_streams.specs.Streams.{IsThere}
use Rattle.cas_streams.proofs.NoMore.{no_more_itself}
use Rattle.cas_partition.specs.Ends.{AreAtEnds}
use Rattle.cas_partition.specs.Partitions.{partition_atoms, IsOf, HavePlaces, JoinsAll, MakesPlaces as MakesIn, IsOfTable as IsPartitionOf}
use Rattle.cas_partition.specs.declared.partition.Partition.{Partition}
use Rattle.cas_memtable.specs.Memtables.{held_at, atoms_held, atoms_of, changes_held, least_held, least_with, bytes_with, IsOfTable, IsOfColumns, PlacesIn, HasPlaces, MakesPlaces, Joins}
use Rattle.cas_memtable.specs.Inner.Steps.{IsBlank, StaysOrBlank, Puts, ReservesAt, ReservesIn, AppliesAt, Inserts}
use Rattle.cas_memtable.specs.declared.memtable.Held.{Held}
use Rattle.cas_memtable.specs.declared.memtable.MemPart.{MemPart}

abbrev Look : Type 0
Look = List ℕ → Option Held

equal_keys : (k q : List ℕ) → is_eq (bytes_cmp k q) ≡ true → k ≡ q
equal_keys k q e = bytes_orders.ties k q ((Equal-is (bytes_cmp k q)).0 e)

own_key : (k : List ℕ) → is_eq (bytes_cmp k k) ≡ true
own_key k = ap is_eq (tied_itself bytes_orders.total k)

-- ---- a blank partition

pub stays : (o : Option Held) → StaysOrBlank o o
stays None = inl refl
stays (Some h) = refl

pub stays_there : (o p : Option Held) → p ≡ o → StaysOrBlank o p
stays_there o p e = subst (StaysOrBlank o) (sym e) (stays o)

pub blank_put : (key : List ℕ) (h : Held) (before after : Look) → IsBlank h → is_some (before key) ≡ false → Puts key h before after → (q : List ℕ) → StaysOrBlank (before q) (after q)
blank_put key h before after blank none puts q =
    elim (is_eq (bytes_cmp key q)) as (λ b. is_eq (bytes_cmp key q) ≡ b → StaysOrBlank (before q) (after q)) [
      | true ↦ λ e.
          let is : after q ≡ Some h = puts q ∙ ap (λ b. cond b (Some h) (before q)) e in
          let same : key ≡ q = equal_keys key q e in
          fresh (before q) (after q) is (sym (ap (λ k. is_some (before k)) same) ∙ none)
      | false ↦ λ e. stays_there (before q) (after q) (puts q ∙ ap (λ b. cond b (Some h) (before q)) e)
    ] refl
  where
    fresh : (o p : Option Held) → p ≡ Some h → is_some o ≡ false → StaysOrBlank o p
    fresh None p is e = inr (h, is, blank)
    fresh (Some g) p is e = absurd (true≢false e)

pub put_there : (key : List ℕ) (h : Held) (before after : Look) → Puts key h before after → after key ≡ Some h
put_there key h before after puts = puts key ∙ ap (λ b. cond b (Some h) (before key)) (own_key key)

stays_atoms : (o p : Option Held) → StaysOrBlank o p → atoms_held p ≡ atoms_held o
stays_atoms (Some h) p e = ap atoms_held e
stays_atoms None p (inl e) = ap atoms_held e
stays_atoms None p (inr b) = ap atoms_held b.1 ∙ b.2.empty

stays_ends : (ws : List Atom) (o p : Option Held) → StaysOrBlank o p → AreAtEnds ws (changes_held o) → AreAtEnds ws (changes_held p)
stays_ends ws (Some h) p e moves = subst (λ q. AreAtEnds ws (changes_held q)) (sym e) moves
stays_ends ws None p (inl e) moves = subst (λ q. AreAtEnds ws (changes_held q)) (sym e) moves
stays_ends ws None p (inr b) moves = subst (λ q. AreAtEnds ws (changes_held q)) (sym b.1) (b.2.ends ws)

stays_least : (o p : Option Held) → StaysOrBlank o p → least_held p ≡ least_held o
stays_least (Some h) p e = ap least_held e
stays_least None p (inl e) = ap least_held e
stays_least None p (inr b) = ap least_held b.1 ∙ b.2.least

-- a fact of each partition that a blank one has, too
stays_fact : (P : Partition → Type 0) → ((h : Held) → IsBlank h → P h.partition) → (o p : Option Held) → StaysOrBlank o p → ((h : Held) → o ≡ Some h → P h.partition)
    → (g : Held) → p ≡ Some g → P g.partition
stays_fact P blank (Some h) p e all g is = subst (λ k. P k.partition) (ap (λ o. unwrap_or o h) (sym e ∙ is)) (all h refl)
stays_fact P blank None p (inl e) all g is = absurd (none-some g (sym e ∙ is))
stays_fact P blank None p (inr b) all g is = subst (λ k. P k.partition) (ap (λ o. unwrap_or o b.0) (sym b.1 ∙ is)) (blank b.0 b.2)

-- ---- what is written through at a key

-- no place was made
pub untouched : {E : Type 0} (key : List ℕ) (atoms : List Atom) (before after : Look) (result : Result (Unit {0}) E) → IsErr result → ((q : List ℕ) → after q ≡ before q)
    → ReservesIn key atoms before after result
untouched key atoms before after result fails same = record { middle = before; kept = λ q. stays (before q); reserved = inl (fails, same) }

-- place was made in what was held
pub reserves : {E : Type 0} (key : List ℕ) (atoms : List Atom) (g : Held) (p : Partition) (before after : Look) (result : Result (Unit {0}) E) → Some g ≡ before key
    → Puts key (record { partition = p; least = g.least }) before after → MakesIn atoms g.partition p → OnOk result (HavePlaces p atoms) → ReservesIn key atoms before after result
reserves key atoms g p before after result found puts makes places = record {
  middle = before;
  kept = λ q. stays (before q);
  reserved = inr (g, sym found, record { held = record { partition = p; least = g.least }; puts = puts; least = refl; makes = makes; places = places });
}

-- in a partition that was blank and is held now
pub reserves_new : {E : Type 0} (key copy : List ℕ) (atoms : List Atom) (b p : Partition) (before after : Look) (result : Result (Unit {0}) E) → copy ≡ key → before key ≡ None
    → IsBlank (record { partition = b; least = None }) → MakesIn atoms b p → OnOk result (HavePlaces p atoms) → Puts copy (record { partition = p; least = None }) before after
    → ReservesIn key atoms before after result
reserves_new key copy atoms b p before after result same none blank makes places puts =
    let first : Held = record { partition = b; least = None } in
    let held : Held = record { partition = p; least = None } in
    let middle : Look = λ q. cond (is_eq (bytes_cmp key q)) (Some first) (before q) in
    record {
      middle = middle;
      kept = blank_put key first before middle blank (ap is_some none) (λ q. refl);
      reserved = inr (
        first,
        put_there key first before middle (λ q. refl),
        record {
          held = held;
          puts = λ q. puts q ∙ ap (λ k. cond (is_eq (bytes_cmp k q)) (Some held) (before q)) same ∙ over (is_eq (bytes_cmp key q)) (Some held) (Some first) (before q);
          least = refl;
          makes = makes;
          places = places;
        },
      );
    }
  where
    over : (b : Bool) (x y z : Option Held) → cond b x z ≡ cond b x (cond b y z)
    over true x y z = refl
    over false x y z = refl

pub applies : (key : List ℕ) (atoms : List Atom) (h g : Held) (p : Partition) (least : Option ℤ) (before after : Look) → before key ≡ Some h → Some g ≡ before key
    → Puts key (record { partition = p; least = least }) before after → least ≡ least_with g.least atoms → JoinsAll atoms g.partition p → AppliesAt key atoms h before after
applies key atoms h g p least before after is found puts lessened joins =
    let same : g ≡ h = ap (λ o. unwrap_or o g) (found ∙ is) in
    record {
      held = record { partition = p; least = least };
      puts = puts;
      least = lessened ∙ ap (λ k. least_with k.least atoms) same;
      joins = subst (λ k. JoinsAll atoms k.partition p) same joins;
    }

-- ---- whole memtables

pub none_apart : {G : Type 0} (h : Held) (o : Option Held) → None ≡ o → o ≡ Some h → G
none_apart h o e is = absurd (none-some h (e ∙ is))

held_there : (o : Option Held) → IsSome o → (h : Held) × (o ≡ Some h)
held_there None s = absurd (true≢false (sym s))
held_there (Some h) s = (h, refl)

at_key : (key q : List ℕ) (h : Held) (before after : Look) → Puts key h before after → (is_eq (bytes_cmp key q) ≡ true × (after q ≡ Some h)) ⊎ (is_eq (bytes_cmp key q) ≡ false × (after q ≡ before q))
at_key key q h before after puts =
    elim (is_eq (bytes_cmp key q)) as (λ b. is_eq (bytes_cmp key q) ≡ b → (is_eq (bytes_cmp key q) ≡ true × (after q ≡ Some h)) ⊎ (is_eq (bytes_cmp key q) ≡ false × (after q ≡ before q))) [
      | true ↦ λ e. inl (e, puts q ∙ ap (λ b. cond b (Some h) (before q)) e)
      | false ↦ λ e. inr (e, puts q ∙ ap (λ b. cond b (Some h) (before q)) e)
    ] refl

same_is : (A B : List Atom) → A ≡ B → Same A B
same_is A B e = subst (Same A) e (record { covers = λ x. refl; lives = λ c. refl; cells = λ x. refl })

no_more_is : (A B : List Atom) → A ≡ B → SaysNoMore A B
no_more_is A B e = subst (SaysNoMore A) e (no_more_itself A)

module _ {E : Type 0} (w : Mutation) (m n : MemPart) (mid : Look) (result : Result (Unit {0}) E) (kept : (q : List ℕ) → StaysOrBlank (held_at m q) (mid q)) (bytes : n.bytes ≡ m.bytes) where
  -- nothing but blank partitions came
  pub only_blank : ((q : List ℕ) → held_at n q ≡ mid q) → MakesPlaces w m n
  only_blank same = record {
    same = λ order of atoms q. same_is (atoms_of n q) (atoms_of m q) (ap atoms_held (same q) ∙ stays_atoms (held_at m q) (mid q) (kept q));
    no_more = λ order of atoms q. no_more_is (atoms_of n q) (atoms_of m q) (ap atoms_held (same q) ∙ stays_atoms (held_at m q) (mid q) (kept q));
    some = λ q there. subst IsThere (sym (ap atoms_held (same q) ∙ stays_atoms (held_at m q) (mid q) (kept q))) there;
    ends = λ q ws moves. subst (λ o. AreAtEnds ws (changes_held o)) (sym (same q)) (stays_ends ws (held_at m q) (mid q) (kept q) moves);
    of = λ order of atoms q g is. stays_fact (IsOf order) (λ h b. b.of order) (held_at m q) (mid q) (kept q) (of q) g (sym (same q) ∙ is);
    fits = λ columns t fit q g is. stays_fact (IsPartitionOf columns) (λ h b. b.table columns) (held_at m q) (mid q) (kept q) (t q) g (sym (same q) ∙ is);
    least = λ q. ap least_held (same q) ∙ stays_least (held_at m q) (mid q) (kept q);
    bytes = bytes;
  }

  module _ (there : IsSome (mid w.key)) (reserved : (h : Held) → mid w.key ≡ Some h → ReservesAt w.key w.atoms h mid (held_at n) result) where
    pub places_made : OnOk result (HasPlaces n w)
    places_made =
        let (h, is) = held_there (mid w.key) there in
        let r : ReservesAt w.key w.atoms h mid (held_at n) result = reserved h is in
        also result (HavePlaces r.held.partition w.atoms) (HasPlaces n w) (λ p. subst (λ o. PlacesIn o w.atoms) (sym (put_there w.key r.held mid (held_at n) r.puts)) p) r.places
      where
        also : (r : Result (Unit {0}) E) (P Q : Type 0) → (P → Q) → OnOk r P → OnOk r Q
        also (Ok x) P Q f p = f p
        also (Err e) P Q f p = tt

    pub makes_all : MakesPlaces w m n
    makes_all =
        let (h, is) = held_there (mid w.key) there in
        let r : ReservesAt w.key w.atoms h mid (held_at n) result = reserved h is in
        let of_mid : (order : List Ordered) → IsOfTable order m → (q : List ℕ) (g : Held) → mid q ≡ Some g → IsOf order g.partition =
        λ order of q g e. stays_fact (IsOf order) (λ b blank. blank.of order) (held_at m q) (mid q) (kept q) (of q) g e in
        let table_mid : (columns : List Column) → IsOfColumns columns m → (q : List ℕ) (g : Held) → mid q ≡ Some g → IsPartitionOf columns g.partition =
        λ columns t q g e. stays_fact (IsPartitionOf columns) (λ b blank. blank.table columns) (held_at m q) (mid q) (kept q) (t q) g e in
        record {
          same = λ order of atoms q. elim (at_key w.key q r.held mid (held_at n) r.puts) [
            | inl hit ↦
                let k : w.key ≡ q = equal_keys w.key q hit.0 in
                let before : atoms_of m q ≡ partition_atoms h.partition = sym (stays_atoms (held_at m q) (mid q) (kept q)) ∙ ap (λ z. atoms_held (mid z)) (sym k) ∙ ap atoms_held is in
                subst (λ B. Same (atoms_of n q) B) (sym before) (subst (λ A. Same A (partition_atoms h.partition)) (sym (ap atoms_held hit.1)) (r.makes.same order (of_mid order of w.key h is) atoms))
            | inr miss ↦ same_is (atoms_of n q) (atoms_of m q) (ap atoms_held miss.1 ∙ stays_atoms (held_at m q) (mid q) (kept q))
          ];
          no_more = λ order of atoms q. elim (at_key w.key q r.held mid (held_at n) r.puts) [
            | inl hit ↦
                let k : w.key ≡ q = equal_keys w.key q hit.0 in
                let before : atoms_of m q ≡ partition_atoms h.partition = sym (stays_atoms (held_at m q) (mid q) (kept q)) ∙ ap (λ z. atoms_held (mid z)) (sym k) ∙ ap atoms_held is in
                subst (λ B. SaysNoMore (atoms_of n q) B) (sym before)
                (subst (λ A. SaysNoMore A (partition_atoms h.partition)) (sym (ap atoms_held hit.1)) (r.makes.no_more order (of_mid order of w.key h is) atoms))
            | inr miss ↦ no_more_is (atoms_of n q) (atoms_of m q) (ap atoms_held miss.1 ∙ stays_atoms (held_at m q) (mid q) (kept q))
          ];
          some = λ q there. elim (at_key w.key q r.held mid (held_at n) r.puts) [
            | inl hit ↦
                let k : w.key ≡ q = equal_keys w.key q hit.0 in
                let before : atoms_of m q ≡ partition_atoms h.partition = sym (stays_atoms (held_at m q) (mid q) (kept q)) ∙ ap (λ z. atoms_held (mid z)) (sym k) ∙ ap atoms_held is in
                subst IsThere (sym (ap atoms_held hit.1)) (r.makes.some (subst IsThere before there))
            | inr miss ↦ subst IsThere (sym (ap atoms_held miss.1 ∙ stays_atoms (held_at m q) (mid q) (kept q))) there
          ];
          ends = λ q ws moves.
              let before : AreAtEnds ws (changes_held (mid q)) = stays_ends ws (held_at m q) (mid q) (kept q) moves in
              elim (at_key w.key q r.held mid (held_at n) r.puts) [
                | inl hit ↦
                    let there : mid q ≡ Some h = sym (ap mid (equal_keys w.key q hit.0)) ∙ is in
                    subst (λ o. AreAtEnds ws (changes_held o)) (sym hit.1) (r.makes.ends ws (subst (λ o. AreAtEnds ws (changes_held o)) there before))
                | inr miss ↦ subst (λ o. AreAtEnds ws (changes_held o)) (sym miss.1) before
              ];
          of = λ order of atoms q g e. elim (at_key w.key q r.held mid (held_at n) r.puts) [
            | inl hit ↦ subst (λ k. IsOf order k.partition) (ap (λ o. unwrap_or o g) (sym hit.1 ∙ e)) (r.makes.of order (of_mid order of w.key h is) atoms)
            | inr miss ↦ of_mid order of q g (sym miss.1 ∙ e)
          ];
          fits = λ columns t fit q g e. elim (at_key w.key q r.held mid (held_at n) r.puts) [
            | inl hit ↦ subst (λ k. IsPartitionOf columns k.partition) (ap (λ o. unwrap_or o g) (sym hit.1 ∙ e)) (r.makes.fits columns (table_mid columns t w.key h is) fit)
            | inr miss ↦ table_mid columns t q g (sym miss.1 ∙ e)
          ];
          least = λ q. elim (at_key w.key q r.held mid (held_at n) r.puts) [
            | inl hit ↦
                let k : w.key ≡ q = equal_keys w.key q hit.0 in
                ap least_held hit.1 ∙ r.least ∙ sym (ap least_held is) ∙ ap (λ z. least_held (mid z)) k ∙ stays_least (held_at m q) (mid q) (kept q)
            | inr miss ↦ ap least_held miss.1 ∙ stays_least (held_at m q) (mid q) (kept q)
          ];
          bytes = bytes;
        }

-- a memtable whose partitions did so
module _ {E : Type 0} (w : Mutation) (m n : MemPart) (result : Result (Unit {0}) E) (did : ReservesIn w.key w.atoms (held_at m) (held_at n) result) (bytes : n.bytes ≡ m.bytes) where
  there_in : (h : Held) → did.middle w.key ≡ Some h → IsSome (did.middle w.key)
  there_in h is = ap is_some is

  reserved_in : (h : Held) → did.middle w.key ≡ Some h → ReservesAt w.key w.atoms h did.middle (held_at n) result
      → (g : Held) → did.middle w.key ≡ Some g → ReservesAt w.key w.atoms g did.middle (held_at n) result
  reserved_in h is r g also = subst (λ k. ReservesAt w.key w.atoms k did.middle (held_at n) result) (ap (λ o. unwrap_or o h) (sym is ∙ also)) r

  pub places_in : OnOk result (HasPlaces n w)
  places_in = elim did.reserved [
    | inl none ↦ never result (HasPlaces n w) none.0
    | inr made ↦ places_made w m n did.middle result did.kept bytes (there_in made.0 made.1) (reserved_in made.0 made.1 made.2)
  ]
    where
      never : (r : Result (Unit {0}) E) (Q : Type 0) → IsErr r → OnOk r Q
      never (Ok x) Q e = absurd (true≢false (sym e))
      never (Err e) Q f = tt

  pub makes_in : MakesPlaces w m n
  makes_in = elim did.reserved [
    | inl none ↦ only_blank w m n did.middle result did.kept bytes none.1
    | inr made ↦ makes_all w m n did.middle result did.kept bytes (there_in made.0 made.1) (reserved_in made.0 made.1 made.2)
  ]

-- in what was held at its key, or in a blank partition
pub joins_from : (w : Mutation) (m n : MemPart) (h : Held) → StaysOrBlank (held_at m w.key) (Some h) → AppliesAt w.key w.atoms h (held_at m) (held_at n) → n.bytes ≡ bytes_with m.bytes w
    → Joins w m n
joins_from w m n h kept r bytes =
    let o : Option Held = held_at m w.key in
    let now : held_at n w.key ≡ Some r.held = put_there w.key r.held (held_at m) (held_at n) r.puts in
    let is : partition_atoms h.partition ≡ atoms_of m w.key = stays_atoms o (Some h) kept in
    let of_h : (order : List Ordered) → IsOfTable order m → IsOf order h.partition =
    λ order of. stays_fact (IsOf order) (λ b blank. blank.of order) o (Some h) kept (of w.key) h refl in
    let table_h : (columns : List Column) → IsOfColumns columns m → IsPartitionOf columns h.partition =
    λ columns t. stays_fact (IsPartitionOf columns) (λ b blank. blank.table columns) o (Some h) kept (t w.key) h refl in
    record {
      joined = λ order of atoms.
          subst (λ B. Same (atoms_of n w.key) (B ++ w.atoms)) is
          (subst (λ A. Same A (partition_atoms h.partition ++ w.atoms)) (sym (ap atoms_held now)) (r.joins.joined order (of_h order of) atoms));
      no_more = λ order of atoms.
          subst (λ B. SaysNoMore (atoms_of n w.key) (B ++ w.atoms)) is
          (subst (λ A. SaysNoMore A (partition_atoms h.partition ++ w.atoms)) (sym (ap atoms_held now)) (r.joins.no_more order (of_h order of) atoms));
      some = λ order of atoms there.
          subst IsThere (sym (ap atoms_held now)) (r.joins.some order (of_h order of) atoms (subst (λ B. IsThere (B ++ w.atoms)) (sym is) there));
      ends = λ order of atoms ws moves.
          subst (λ k. AreAtEnds (ws ++ w.atoms) (changes_held k)) (sym now) (r.joins.ends order (of_h order of) atoms ws (stays_ends ws o (Some h) kept moves));
      of = λ order of atoms q g e. elim (at_key w.key q r.held (held_at m) (held_at n) r.puts) [
        | inl hit ↦ subst (λ k. IsOf order k.partition) (ap (λ k. unwrap_or k g) (sym hit.1 ∙ e)) (r.joins.of order (of_h order of) atoms)
        | inr miss ↦ of q g (sym miss.1 ∙ e)
      ];
      fits = λ columns t fit q g e. elim (at_key w.key q r.held (held_at m) (held_at n) r.puts) [
        | inl hit ↦ subst (λ k. IsPartitionOf columns k.partition) (ap (λ k. unwrap_or k g) (sym hit.1 ∙ e)) (r.joins.fits columns (table_h columns t) fit)
        | inr miss ↦ t q g (sym miss.1 ∙ e)
      ];
      least = ap least_held now ∙ r.least ∙ ap (λ l. least_with l w.atoms) (stays_least o (Some h) kept);
      others = λ q apart. elim (at_key w.key q r.held (held_at m) (held_at n) r.puts) [
        | inl hit ↦ absurd (apart (sym (equal_keys w.key q hit.0)))
        | inr miss ↦ miss.1
      ];
      bytes = bytes;
    }

found_place : (o : Option Held) (atoms : List Atom) → PlacesIn o atoms → (h : Held) × (o ≡ Some h)
found_place None atoms p = absurd p
found_place (Some h) atoms p = (h, refl)

pub joins_all : (w : Mutation) (m n : MemPart) → HasPlaces m w → ((h : Held) → held_at m w.key ≡ Some h → AppliesAt w.key w.atoms h (held_at m) (held_at n)) → n.bytes ≡ bytes_with m.bytes w → Joins w m n
joins_all w m n places applied bytes =
    let (h, is) = found_place (held_at m w.key) w.atoms places in
    joins_from w m n h (subst (λ o. StaysOrBlank o (Some h)) (sym is) refl) (applied h is) bytes

-- ---- joined at once

-- to what was held
pub inserts_held : (key : List ℕ) (atoms : List Atom) (g : Held) (p : Partition) (least : Option ℤ) (before after : Look) → Some g ≡ before key
    → Puts key (record { partition = p; least = least }) before after → least ≡ least_with g.least atoms → JoinsAll atoms g.partition p → (h : Held) × StaysOrBlank (before key) (Some h) × AppliesAt key atoms h before after
inserts_held key atoms g p least before after found puts lessened joins =
    (g, subst (λ o. StaysOrBlank o (Some g)) found refl, applies key atoms g g p least before after (sym found) found puts lessened joins)

-- to a blank partition
pub inserts_new : (key : List ℕ) (atoms : List Atom) (b p : Partition) (least : Option ℤ) (before after : Look) → before key ≡ None
    → IsBlank (record { partition = b; least = None }) → Puts key (record { partition = p; least = least }) before after → least ≡ least_with None atoms → JoinsAll atoms b p
    → (h : Held) × StaysOrBlank (before key) (Some h) × AppliesAt key atoms h before after
inserts_new key atoms b p least before after none blank puts lessened joins =
    let first : Held = record { partition = b; least = None } in (
      first,
      subst (λ o. StaysOrBlank o (Some first)) (sym none) (inr (first, refl, blank)),
      record { held = record { partition = p; least = least }; puts = puts; least = lessened; joins = joins },
    )

-- or not at all
pub not_inserted : {E : Type 0} (key : List ℕ) (atoms : List Atom) (before after : Look) (r : Result (Unit {0}) E) → IsErr r → ReservesIn key atoms before after r → Inserts key atoms before after r
not_inserted key atoms before after (Ok x) fails did = absurd (true≢false (sym fails))
not_inserted key atoms before after (Err e) fails did = did

pub not_placed : {E : Type 0} (r : Result (Unit {0}) E) (Q : Type 0) → IsErr r → OnOk r Q
not_placed (Ok x) Q fails = absurd (true≢false (sym fails))
not_placed (Err e) Q fails = tt

pub on_err : {E : Type 0} (r : Result (Unit {0}) E) (Q : Type 0) → Q → OnErr r Q
on_err (Ok x) Q q = tt
on_err (Err e) Q q = q
