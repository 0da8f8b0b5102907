-- Partitions of the keys so far, one key more, and all of them.
use Rattle.std.proofs.Common.{◌≡◌, ℕ, ◌+◌, Bool, true, false, cond, not, Option, None, Some, List, [], ◌∷◌, ◌++◌, length, refl, sym, ap, ◌∙◌, subst, append-nil}
use Rattle.std.proofs.lemmas.Bool.{true≢false}
use Rattle.std.proofs.lemmas.Cmp.{tied_itself}
use Rattle.std.proofs.lemmas.Grind.{flat_map-append}
use Rattle.std.specs.List.{AllByRecursion, last_or}
use Rattle.std.specs.Ordering.{is_lt, is_gt, is_eq, ordering_reverse}
use Rattle.std.specs.declared.cmp.Ordering.{Ordering}
use Rattle.std.specs.declared.cmp.Ordering.TheVariants.{Less, Equal, Greater}
use Rattle.cas_types.specs.Values.{bytes_cmp}
use Rattle.cas_types.proofs.OrderLaws.{bytes_orders}
use Rattle.cas_cell.specs.declared.deletion.Deletion.{Deletion}
use Rattle.cas_bounds.specs.declared.order.Ordered.{Ordered}
use Rattle.cas_atoms.specs.Coordinates.{same_bytes}
use Rattle.cas_atoms.specs.Winners.{Same}
use Rattle.cas_atoms.specs.declared.atom.Atom.{Atom}
use Rattle.cas_atoms.specs.declared.atom.Mutation.{Mutation}
use Rattle.cas_laws.proofs.ShownProofs.{equal_bytes}
use Rattle.cas_streams.specs.Flat.{changes, flat}
use Rattle.cas_streams.specs.NoMore.{SaysNoMore}
use Rattle.cas_streams.specs.Streams.{IsThere}
use Rattle.cas_streams.specs.declared.fragment.Fragment.{Fragment}
use Rattle.cas_streams.proofs.NoMore.{no_more_itself}
use Rattle.cas_partition.specs.Ends.{AllAtEnds}
use Rattle.cas_index.specs.Entries.{is_next_key}
use Rattle.cas_index.specs.declared.entries.PartitionEntry.{PartitionEntry}
use Rattle.cas_memtable.specs.Memtables.{is_above}
use Rattle.cas_memtable.specs.declared.memtable.MemPart.{MemPart}
use Rattle.cas_memtable.specs.Kept.{StandInEach, IsNextKey, all_of, atoms_under, has_key}
use Rattle.cas_fragments.specs.declared.heads.Version.{Version}
use Rattle.cas_tables.specs.Contents.{Partition}
use Rattle.cas_tables.specs.Places.{head_of, text_of, blocks, block_entries, entries}
use Rattle.cas_sstwrite.specs.Writers.{partition_of}
use Rattle.cas_flush.specs.Flushed.{said_at, said_under, AreOf, any, is_below}
use Rattle.cas_flush.specs.Inner.Keys.{is_reached}
use Rattle.cas_flush.proofs.Holding.{has_there, has_none}

-- ---- keys

itself : (k : List ℕ) → bytes_cmp k k ≡ Equal
itself k = tied_itself bytes_orders.total k

turned : (a b : List ℕ) → bytes_cmp b a ≡ ordering_reverse (bytes_cmp a b)
turned a b = bytes_orders.total.antisymm b a

lt_less : (o : Ordering) → is_lt o ≡ true → o ≡ Less
lt_less Less e = refl
lt_less Equal e = absurd (true≢false (sym e))
lt_less Greater e = absurd (true≢false (sym e))

not_true : (b : Bool) → not b ≡ true → b ≡ false
not_true true e = absurd (true≢false (sym e))
not_true false e = refl

not_false : (b : Bool) → not b ≡ false → b ≡ true
not_false true e = refl
not_false false e = absurd (true≢false e)

then_below : (a b c : List ℕ) → is_lt (bytes_cmp a b) ≡ true → is_lt (bytes_cmp b c) ≡ true → is_lt (bytes_cmp a c) ≡ true
then_below a b c e f = ap is_lt (bytes_orders.total.trans a b c (lt_less (bytes_cmp a b) e) (lt_less (bytes_cmp b c) f))

-- neither below nor above is the same
between : (o : Ordering) → is_lt o ≡ false → is_gt o ≡ false → is_eq o ≡ true
between Less e f = absurd (true≢false e)
between Equal e f = refl
between Greater e f = absurd (true≢false f)

apart : (a b : List ℕ) → (a ≡ b → ⊥) → same_bytes a b ≡ false
apart a b h = elim (same_bytes a b) as (λ t. same_bytes a b ≡ t → t ≡ false) [ true ↦ λ e. absurd (h (equal_bytes a b e)) | false ↦ λ e. refl ] refl

own : (a : List ℕ) → same_bytes a a ≡ true
own a = ap is_eq (itself a)

greater_turned : (o : Ordering) → o ≡ Less → is_gt (ordering_reverse o) ≡ true
greater_turned o e = ap (λ r. is_gt (ordering_reverse r)) e

-- ---- how far

-- what isn't above a key that was reached is reached with the next one
reached_on : (after : Option (List ℕ)) (next k : List ℕ) → is_above after next ≡ true → is_reached after k ≡ true → is_reached (Some next) k ≡ true
reached_on None next k above e = absurd (true≢false (sym e))
reached_on (Some a) next k above e =
    elim (is_lt (bytes_cmp next k)) as (λ b. is_lt (bytes_cmp next k) ≡ b → not b ≡ true) [
      | true ↦ λ f. absurd (true≢false (sym (then_below a next k above f) ∙ not_true (is_lt (bytes_cmp a k)) e))
      | false ↦ λ f. refl
    ] refl

-- and is below the next one
reached_below : (after : Option (List ℕ)) (next k : List ℕ) → is_above after next ≡ true → is_reached after k ≡ true → is_below next k ≡ true
reached_below None next k above e = absurd (true≢false (sym e))
reached_below (Some a) next k above e = by (bytes_cmp k a) refl
  where
    by : (o : Ordering) → bytes_cmp k a ≡ o → is_lt (bytes_cmp k next) ≡ true
    by Less f = then_below k a next (ap is_lt f) above
    by Equal f = ap (λ q. is_lt (bytes_cmp q next)) (bytes_orders.ties k a f) ∙ above
    by Greater f = absurd (true≢false (sym (ap is_lt (turned k a ∙ ap ordering_reverse f)) ∙ not_true (is_lt (bytes_cmp a k)) e))

next_reached : (next : List ℕ) → is_reached (Some next) next ≡ true
next_reached next = ap (λ o. not (is_lt o)) (itself next)

-- the next key itself wasn't
not_reached : (after : Option (List ℕ)) (next k : List ℕ) → is_above after next ≡ true → is_reached after k ≡ true → next ≡ k → ⊥
not_reached after next k above e same = true≢false (sym e ∙ ap (λ q. not (is_above after q)) (sym same) ∙ ap not above)

-- ---- what partitions say under a key

said_none : (passes : List ℕ → Bool) (ps : List Partition) (key : List ℕ) → AllByRecursion (λ p. passes p.key ≡ true) ps → passes key ≡ false → said_under key ps ≡ []
said_none passes [] key within e = refl
said_none passes (p ∷ ps) key within e =
    (λ i. cond (apart p.key key (λ same. true≢false (sym within.0 ∙ ap passes same ∙ e)) i) (flat p.stream.top p.stream.fragments) [] ++ said_none passes ps key within.1 e i)

said_both : (key : List ℕ) (ps qs : List Partition) → said_under key (ps ++ qs) ≡ said_under key ps ++ said_under key qs
said_both key ps qs = flat_map-append (said_at key) ps qs

one_said : (key : List ℕ) (p : Partition) → same_bytes p.key key ≡ true → said_under key (p ∷ []) ≡ flat p.stream.top p.stream.fragments
one_said key p e = ap (λ b. cond b (flat p.stream.top p.stream.fragments) [] ++ []) e ∙ append-nil (flat p.stream.top p.stream.fragments)

one_silent : (key : List ℕ) (p : Partition) → same_bytes p.key key ≡ false → said_under key (p ∷ []) ≡ []
one_silent key p e = ap (λ b. cond b (flat p.stream.top p.stream.fragments) [] ++ []) e

said_here : (next key : List ℕ) (top : Option Deletion) (fs : List Fragment) → same_bytes next key ≡ true → said_under key (partition_of next top fs) ≡ flat top fs
said_here next key None [] e = refl
said_here next key None (f ∷ fs) e = one_said key (record { key = next; stream = record { top = None; fragments = f ∷ fs } }) e
said_here next key (Some d) fs e = one_said key (record { key = next; stream = record { top = Some d; fragments = fs } }) e

said_elsewhere : (next key : List ℕ) (top : Option Deletion) (fs : List Fragment) → same_bytes next key ≡ false → said_under key (partition_of next top fs) ≡ []
said_elsewhere next key None [] e = refl
said_elsewhere next key None (f ∷ fs) e = one_silent key (record { key = next; stream = record { top = None; fragments = f ∷ fs } }) e
said_elsewhere next key (Some d) fs e = one_silent key (record { key = next; stream = record { top = Some d; fragments = fs } }) e

-- a fact of the key is one of the partition, if there is one
one_of : (P : Partition → Type 0) (next : List ℕ) (top : Option Deletion) (fs : List Fragment) → ((p : Partition) → p.key ≡ next → P p) → AllByRecursion P (partition_of next top fs)
one_of P next None [] h = tt
one_of P next None (f ∷ fs) h = (h (record { key = next; stream = record { top = None; fragments = f ∷ fs } }) refl, tt)
one_of P next (Some d) fs h = (h (record { key = next; stream = record { top = Some d; fragments = fs } }) refl, tt)

-- the ends of its markers
one_at_ends : (B : List ℕ → List Atom) (next : List ℕ) (top : Option Deletion) (fs : List Fragment) → AllAtEnds (B next) (changes fs)
    → AllByRecursion (λ p. AllAtEnds (B p.key) (changes p.stream.fragments)) (partition_of next top fs)
one_at_ends B next None [] at = tt
one_at_ends B next None (f ∷ fs) at = (at, tt)
one_at_ends B next (Some d) fs at = (at, tt)

all_both : (P : Partition → Type 0) (ps qs : List Partition) → AllByRecursion P ps → AllByRecursion P qs → AllByRecursion P (ps ++ qs)
all_both P [] qs a b = b
all_both P (p ∷ ps) qs a b = (a.0, all_both P ps qs a.1 b)

all_on : (P Q : Partition → Type 0) (ps : List Partition) → ((p : Partition) → P p → Q p) → AllByRecursion P ps → AllByRecursion Q ps
all_on P Q [] h all = tt
all_on P Q (p ∷ ps) h all = (h p all.0, all_on P Q ps h all.1)

same_is : (A B : List Atom) → A ≡ B → Same A B
same_is A B e = subst (Same A) e (record { covers = λ x. refl; lives = λ r. refl; cells = λ x. refl })

no_more_is : (A B : List Atom) → A ≡ B → SaysNoMore A B
no_more_is A B e = subst (SaysNoMore A) e (no_more_itself A)

-- a fact of what is said and of what was written, where both are these
where_both : (R : List Atom → List Atom → Type 0) (A B X Y : List Atom) → A ≡ X → B ≡ Y → R X Y → R A B
where_both R A B X Y e f r = subst (λ Z. R A Z) (sym f) (subst (λ Z. R Z Y) (sym e) r)

-- ---- one key after another

pub none_reached : (ws : List Mutation) → AreOf (is_reached None) ws []
none_reached ws = record { same = λ key e. absurd (true≢false (sym e)); no_more = λ key e. absurd (true≢false (sym e)); all = λ key e. absurd (true≢false (sym e)); written = tt; ends = tt; within = tt }

module _ (order : List Ordered) (ms : List MemPart) (wss : List (List Mutation)) (each : StandInEach order ms wss) (after : Option (List ℕ)) where
  abbrev Now : List ℕ → List Atom
  Now key = atoms_under key (all_of wss)

  -- a key that isn't reached, and that no memtable has
  silent : (ps : List Partition) (key : List ℕ) → AreOf (is_reached after) (all_of wss) ps → is_above after key ≡ true → said_under key ps ≡ []
  silent ps key are above = said_none (is_reached after) ps key are.within (ap not above)

  module _ (next : List ℕ) (is : IsNextKey ms after (Some next)) where
    no_other : (key : List ℕ) → is_above after key ≡ true → is_lt (bytes_cmp next key) ≡ false → (next ≡ key → ⊥) → has_key ms key ≡ false
    no_other key above low differs =
        elim (has_key ms key) as (λ b. has_key ms key ≡ b → b ≡ false) [
          | true ↦ λ h. absurd (differs (equal_bytes next key (between (bytes_cmp next key) low (is.2 key above h))))
          | false ↦ λ h. refl
        ] refl

    module _ (ps : List Partition) (top : Option Deletion) (fs : List Fragment) (are : AreOf (is_reached after) (all_of wss) ps) where
      abbrev Then : List ℕ → List Atom
      Then key = said_under key (ps ++ partition_of next top fs)

      -- a relation of what is said and what was written at each key reached by then
      at_each : (R : List Atom → List Atom → Type 0) → ((A : List Atom) → R A A) → ((key : List ℕ) → is_reached after key ≡ true → R (said_under key ps) (Now key))
          → R (flat top fs) (Now next) → (key : List ℕ) → is_reached (Some next) key ≡ true → R (Then key) (Now key)
      at_each R self old here key reached =
          elim (is_above after key) as (λ b. is_above after key ≡ b → R (Then key) (Now key)) [
            | true ↦ λ above. by_key above
            | false ↦ λ below.
                let before : is_reached after key ≡ true = ap not below in
                where_both R (Then key) (Now key) (said_under key ps) (Now key)
                (said_both key ps (partition_of next top fs)
                ∙ ap (λ l. said_under key ps ++ l) (said_elsewhere next key top fs (apart next key (not_reached after next key is.0 before)))
                ∙ append-nil (said_under key ps)) refl (old key before)
          ] refl
        where
          by_key : is_above after key ≡ true → R (Then key) (Now key)
          by_key above =
              elim (same_bytes next key) as (λ b. same_bytes next key ≡ b → R (Then key) (Now key)) [
                | true ↦ λ e.
                    where_both R (Then key) (Now key) (flat top fs) (Now next)
                    (said_both key ps (partition_of next top fs) ∙ (λ i. silent ps key are above i ++ said_here next key top fs e i))
                    (ap Now (sym (equal_bytes next key e))) here
                | false ↦ λ e.
                    where_both R (Then key) (Now key) [] []
                    (said_both key ps (partition_of next top fs) ∙ (λ i. silent ps key are above i ++ said_elsewhere next key top fs e i))
                    (has_none order key ms wss each
                    (no_other key above (not_true (is_lt (bytes_cmp next key)) reached) (λ same. true≢false (sym (ap (same_bytes next) (sym same) ∙ own next) ∙ e)))) (self [])
              ] refl

      pub reached_next : Same (flat top fs) (Now next) → SaysNoMore (flat top fs) (Now next) → (IsThere (Now next) → IsThere (flat top fs)) → AllAtEnds (Now next) (changes fs)
          → AreOf (is_reached (Some next)) (all_of wss) (ps ++ partition_of next top fs)
      reached_next same no_more some at = record {
        same = at_each Same (λ A. same_is A A refl) are.same same;
        no_more = at_each SaysNoMore no_more_itself are.no_more no_more;
        all = at_each (λ A B. IsThere B → IsThere A) (λ A there. there) are.all some;
        written = all_both (λ p. IsThere (Now p.key)) ps (partition_of next top fs) are.written
            (one_of (λ p. IsThere (Now p.key)) next top fs (λ p e. subst (λ k. IsThere (Now k)) (sym e) (has_there order next ms wss each is.1)));
        ends = all_both (λ p. AllAtEnds (Now p.key) (changes p.stream.fragments)) ps (partition_of next top fs) are.ends (one_at_ends Now next top fs at);
        within = all_both (λ p. is_reached (Some next) p.key ≡ true) ps (partition_of next top fs)
            (all_on (λ p. is_reached after p.key ≡ true) (λ p. is_reached (Some next) p.key ≡ true) ps (λ p. reached_on after next p.key is.0) are.within)
            (one_of (λ p. is_reached (Some next) p.key ≡ true) next top fs (λ p e. ap (is_reached (Some next)) e ∙ next_reached next));
      }

    below_only : (key : List ℕ) → is_above after key ≡ true → is_below next key ≡ true → has_key ms key ≡ false
    below_only key above low =
        elim (has_key ms key) as (λ b. has_key ms key ≡ b → b ≡ false) [
          | true ↦ λ h.
              absurd (true≢false (sym (greater_turned (bytes_cmp key next) (lt_less (bytes_cmp key next) low)) ∙ ap is_gt (sym (turned key next)) ∙ is.2 key above h))
          | false ↦ λ h. refl
        ] refl

    -- the keys below the next one
    pub all_below : (ps : List Partition) → AreOf (is_reached after) (all_of wss) ps → AreOf (is_below next) (all_of wss) ps
    all_below ps are = record {
      same = λ key low. at_each Same (λ A. same_is A A refl) are.same key low;
      no_more = λ key low. at_each SaysNoMore no_more_itself are.no_more key low;
      all = λ key low. at_each (λ A B. IsThere B → IsThere A) (λ A there. there) are.all key low;
      written = are.written;
      ends = are.ends;
      within = all_on (λ p. is_reached after p.key ≡ true) (λ p. is_below next p.key ≡ true) ps (λ p. reached_below after next p.key is.0) are.within;
    }
      where
        at_each : (R : List Atom → List Atom → Type 0) → ((A : List Atom) → R A A) → ((key : List ℕ) → is_reached after key ≡ true → R (said_under key ps) (Now key))
            → (key : List ℕ) → is_below next key ≡ true → R (said_under key ps) (Now key)
        at_each R self old key low =
            elim (is_above after key) as (λ b. is_above after key ≡ b → R (said_under key ps) (Now key)) [
              | true ↦ λ above.
                  where_both R (said_under key ps) (Now key) [] [] (silent ps key are above) (has_none order key ms wss each (below_only key above low)) (self [])
              | false ↦ λ below. old key (ap not below)
            ] refl

  -- no key is left
  pub all_reached : IsNextKey ms after None → (ps : List Partition) → AreOf (is_reached after) (all_of wss) ps → AreOf any (all_of wss) ps
  all_reached none ps are = record {
    same = λ key e. at_each Same (λ A. same_is A A refl) are.same key;
    no_more = λ key e. at_each SaysNoMore no_more_itself are.no_more key;
    all = λ key e. at_each (λ A B. IsThere B → IsThere A) (λ A there. there) are.all key;
    written = are.written;
    ends = are.ends;
    within = all_on (λ p. is_reached after p.key ≡ true) (λ p. any p.key ≡ true) ps (λ p h. refl) are.within;
  }
    where
      at_each : (R : List Atom → List Atom → Type 0) → ((A : List Atom) → R A A) → ((key : List ℕ) → is_reached after key ≡ true → R (said_under key ps) (Now key))
          → (key : List ℕ) → R (said_under key ps) (Now key)
      at_each R self old key =
          elim (is_above after key) as (λ b. is_above after key ≡ b → R (said_under key ps) (Now key)) [
            | true ↦ λ above. where_both R (said_under key ps) (Now key) [] [] (silent ps key are above) (has_none order key ms wss each (none key above)) (self [])
            | false ↦ λ below. old key (ap not below)
          ] refl

-- ---- keys in order

abbrev entry_at : Version → ℕ → Partition → PartitionEntry
entry_at version place p = record { key = p.key; place = place; blocks = block_entries (place + length (head_of version p)) None (blocks p) }

last_below : (version : Version) (place : ℕ) (before : PartitionEntry) (ps : List Partition) (key : List ℕ) → is_lt (bytes_cmp before.key key) ≡ true
    → AllByRecursion (λ p. is_below key p.key ≡ true) ps → is_next_key (last_or (Some before) (entries version place ps)) key ≡ true
last_below version place before [] key low all = low
last_below version place before (p ∷ ps) key low all = last_below version (place + length (text_of version p)) (entry_at version place p) ps key all.0 all.1

pub next_in_order : (version : Version) (place : ℕ) (ps : List Partition) (key : List ℕ) → AllByRecursion (λ p. is_below key p.key ≡ true) ps → is_next_key (last_or None (entries version place ps)) key ≡ true
next_in_order version place [] key all = refl
next_in_order version place (p ∷ ps) key all = last_below version (place + length (text_of version p)) (entry_at version place p) ps key all.0 all.1
