-- What is noted of segments, once one of them changed or came.
use Rattle.std.proofs.Common.{◌≡◌, inl, ℕ, zero, suc, ◌+◌, ◌<◌, ◌≤◌, ◌==◌, max, Bool, true, false, List, [], ◌∷◌, ◌++◌, length, map, Result, Ok, Err, refl, sym, ap, subst, ◌∙◌, arith, append_assoc}
use Rattle.std.specs.Prelude.{slice_set, slice_index_or, if◌then◌else◌, OnOk}
use Rattle.std.specs.List.{AllByRecursion}
use Rattle.std.proofs.lemmas.Bool.{eq-eqb}
use Rattle.cas_atoms.specs.declared.atom.Mutation.{Mutation}
use Rattle.cas_log.specs.Segment.{joined}
use Rattle.cas_replay.specs.declared.tops.Tops.{Tops}
use Rattle.cas_replay.specs.Tops.{place_in, top_at, AreNoted, AreTopsOf, AreNotesOf}
use Rattle.cas_replay.proofs.Noted.{still_noted as stay_noted_all, still_tops, tops_front, one_more_noted as one_more_noted_all, one_more_top}
use Rattle.cas_changes.specs.declared.entry.Entry.TheVariants.{NewSegment}
use Rattle.cas_changes.specs.Saying.{Saying, after, is_listed}
use Rattle.cas_journal.specs.Stores.{Found, found_in}
use Rattle.cas_journal.specs.Notes.{noted_with, IsNoted, Know, Noted, EachNoted, HasRoom, HasRoomIn}
use Rattle.cas_journal.specs.Inner.Noting.{StayNoted}
use Rattle.cas_journal.specs.declared.notes.Note.{Note}
use Rattle.cas_journal.specs.declared.notes.Notes.{Notes}
use Rattle.cas_journal.proofs.Lists.{all_front, all_back, all_mapped}

-- ---- one segment

module _ (shards : ℕ) (found : Found) (a b : Note) (same : b.segment ≡ a.segment) where
  -- where no number changes, its mutations stay noted
  pub still_noted : ((at : ℕ) → top_at b.tops at ≡ top_at a.tops at) → (ms : List Mutation) → IsNoted shards found a ms → IsNoted shards found b ms
  still_noted is ms was = record {
    noted = stay_noted_all shards a.tops b.tops (λ at. let e : top_at b.tops at ≡ top_at a.tops at = is at in omega (arith, e)) ms was.noted;
    exact = subst (λ (n : ℕ). AreTopsOf shards b.tops (noted_with found n ms)) (sym same) (still_tops shards a.tops b.tops is (noted_with found a.segment ms) was.exact);
  }

  -- one mutation more is noted
  pub one_more_noted : (m : Mutation) → ((at : ℕ) → top_at b.tops at ≡ (if at == place_in shards m then max (top_at a.tops at) m.number else top_at a.tops at))
      → (ms : List Mutation) → IsNoted shards found a ms → IsNoted shards found b (ms ++ m ∷ [])
  one_more_noted m raised ms was =
      let others : List Mutation = if is_listed found.segments a.segment then found.mutations else [] in
      record {
        noted = one_more_noted_all shards a.tops b.tops m raised ms was.noted;
        exact = subst (λ (n : ℕ). AreTopsOf shards b.tops (noted_with found n (ms ++ m ∷ []))) (sym same)
            (subst (λ (l : List Mutation). AreTopsOf shards b.tops l) (append_assoc others ms (m ∷ [])) (one_more_top shards a.tops b.tops m raised (others ++ ms) was.exact));
      }

-- ---- all segments

module _ (shards : ℕ) (found : Found) where
  -- one segment more, without mutations
  pub each_more : (notes : List Note) (n : Note) (parts : List (List Mutation)) → ((place : ℕ) → top_at n.tops place ≡ 0) → EachNoted shards found notes parts
      → EachNoted shards found (notes ++ n ∷ []) (parts ++ [] ∷ [])
  each_more [] n [] none each = (record { noted = tt; exact = λ place. inl (none place) }, tt)
  each_more (x ∷ notes) n (ms ∷ parts) none each = (each.0, each_more notes n parts none each.1)
  each_more [] n (ms ∷ parts) none each = absurd each
  each_more (x ∷ notes) n [] none each = absurd each

  -- one of them changed
  pub one_changed : (notes : List Note) (i : ℕ) (d y : Note) (parts : List (List Mutation)) → i < length notes
      → ((ms : List Mutation) → IsNoted shards found (slice_index_or notes i d) ms → IsNoted shards found y ms)
      → EachNoted shards found notes parts → EachNoted shards found (slice_set notes i y) parts
  one_changed [] i d y parts within says each = absurd (omega (arith, within))
  one_changed (x ∷ notes) zero d y [] within says each = absurd each
  one_changed (x ∷ notes) zero d y (ms ∷ parts) within says each = (says ms each.0, each.1)
  one_changed (x ∷ notes) (suc i) d y [] within says each = absurd each
  one_changed (x ∷ notes) (suc i) d y (ms ∷ parts) within says each = (each.0, one_changed notes i d y parts (omega (arith, within)) says each.1)

  -- the last of them changed, with its mutations
  pub last_changed : (notes : List Note) (i : ℕ) (d y : Note) (parts : List (List Mutation)) (ms now : List Mutation) → length notes ≡ i + 1
      → (IsNoted shards found (slice_index_or notes i d) ms → IsNoted shards found y now)
      → EachNoted shards found notes (parts ++ ms ∷ []) → EachNoted shards found (slice_set notes i y) (parts ++ now ∷ [])
  last_changed [] i d y parts ms now long says each = absurd (omega (arith, long))
  last_changed (x ∷ []) zero d y [] ms now long says each = (says each.0, tt)
  last_changed (x ∷ []) zero d y (p ∷ []) ms now long says each = absurd each.1
  last_changed (x ∷ []) zero d y (p ∷ q ∷ parts) ms now long says each = absurd each.1
  last_changed (x ∷ []) (suc i) d y parts ms now long says each = absurd (omega (arith, long))
  last_changed (x ∷ z ∷ notes) zero d y parts ms now long says each = absurd (omega (arith, long))
  last_changed (x ∷ z ∷ notes) (suc i) d y [] ms now long says each = absurd each.1
  last_changed (x ∷ z ∷ notes) (suc i) d y (p ∷ parts) ms now long says each =
      (each.0, last_changed (z ∷ notes) i d y parts ms now (omega (arith, long)) says each.1)

-- the numbers of the segments stay
pub same_numbers : (notes : List Note) (i : ℕ) (d y : Note) → y.segment ≡ (slice_index_or notes i d).segment
    → map (λ (n : Note). n.segment) (slice_set notes i y) ≡ map (λ (n : Note). n.segment) notes
same_numbers [] i d y same = refl
same_numbers (x ∷ notes) zero d y same = ap (λ (k : ℕ). k ∷ map (λ (n : Note). n.segment) notes) same
same_numbers (x ∷ notes) (suc i) d y same = ap (λ (l : List ℕ). x.segment ∷ l) (same_numbers notes i d y same)

-- ---- room in the last

pub last_room : (notes : List Note) (i : ℕ) (y : Note) (place : ℕ) → length notes ≡ i + 1 → HasRoom y.tops place → HasRoomIn (slice_set notes i y) place
last_room [] i y place long room = absurd (omega (arith, long))
last_room (x ∷ []) zero y place long room = room
last_room (x ∷ []) (suc i) y place long room = absurd (omega (arith, long))
last_room (x ∷ z ∷ notes) zero y place long room = absurd (omega (arith, long))
last_room (x ∷ z ∷ []) (suc zero) y place long room = room
last_room (x ∷ z ∷ []) (suc (suc i)) y place long room = absurd (omega (arith, long))
last_room (x ∷ z ∷ w ∷ notes) (suc zero) y place long room = absurd (omega (arith, long))
last_room (x ∷ z ∷ w ∷ notes) (suc (suc i)) y place long room = last_room (z ∷ w ∷ notes) (suc i) y place (omega (arith, long)) room

-- the room of the last
pub room_of_last : (notes : List Note) (i : ℕ) (d : Note) (place : ℕ) → length notes ≡ i + 1 → HasRoomIn notes place → HasRoom (slice_index_or notes i d).tops place
room_of_last [] i d place long room = absurd (omega (arith, long))
room_of_last (x ∷ []) zero d place long room = room
room_of_last (x ∷ []) (suc i) d place long room = absurd (omega (arith, long))
room_of_last (x ∷ z ∷ notes) zero d place long room = absurd (omega (arith, long))
room_of_last (x ∷ z ∷ notes) (suc i) d place long room = room_of_last (z ∷ notes) i d place (omega (arith, long)) room

-- and of one that came
pub new_room : (notes : List Note) (n : Note) (place : ℕ) → HasRoom n.tops place → HasRoomIn (notes ++ n ∷ []) place
new_room [] n place room = room
new_room (x ∷ []) n place room = room
new_room (x ∷ z ∷ notes) n place room = new_room (z ∷ notes) n place room

pub then_room : {X E : Type 0} (r : Result X E) (P Q : Type 0) → OnOk r P → (P → Q) → OnOk r Q
then_room (Ok x) P Q so says = says so
then_room (Err e) P Q so says = so

-- ---- what the manifest lists

pub stay_noted : (a b : Notes) → b.shards ≡ a.shards
    → ((found : Found) (ns : List ℕ) (parts : List (List Mutation)) → Know a found ns parts → Know b found ns parts) → StayNoted a b
stay_noted a b shards know found s parts noted = (shards ∙ noted.0, know found s.segments parts noted.1)

-- a segment is named
pub named_noted : (a m b : Notes) (found : Found) (s : Saying) (n : ℕ) → m ≡ a → b.shards ≡ m.shards
    → ((found : Found) (ns : List ℕ) (parts : List (List Mutation)) → Know m found ns parts → Know b found (ns ++ n ∷ []) (parts ++ [] ∷ []))
    → (parts : List (List Mutation)) → Noted a found s parts → Noted b found (after s (NewSegment n)) (parts ++ [] ∷ [])
named_noted a m b found s n same shards know parts noted =
    let was : Noted m found s parts = subst (λ (x : Notes). Noted x found s parts) (sym same) noted in
    (shards ∙ was.0, know found s.segments parts was.1)

-- ---- segments that are noted together

-- each has these
abbrev pub AreSame : Tops → List Note → Type 0
AreSame tops notes = AllByRecursion (λ (n : Note). (at : ℕ) → top_at n.tops at ≡ top_at tops at) notes

pub none_same : (tops : Tops) (notes : List Note) → map (λ (n : Note). n.segment) notes ≡ [] → AreSame tops notes
none_same tops [] is = tt
none_same tops (n ∷ notes) is = absurd cc

pub same_more : (tops : Tops) (notes : List Note) (n : Note) → AreSame tops notes → ((at : ℕ) → top_at n.tops at ≡ top_at tops at) → AreSame tops (notes ++ n ∷ [])
same_more tops [] n same one = (one, tt)
same_more tops (x ∷ notes) n same one = (same.0, same_more tops notes n same.1 one)

-- each number is in its list
listed_more : (x n : ℕ) (ns : List ℕ) (is : Bool) → (x == n) ≡ is → is_listed ns n ≡ true → is_listed (x ∷ ns) n ≡ true
listed_more x n ns true is listed = rw is refl
listed_more x n ns false is listed = rw is listed

all_listed : (ns : List ℕ) → AllByRecursion (λ n. is_listed ns n ≡ true) ns
all_listed [] = tt
all_listed (n ∷ ns) =
    let same : (n == n) ≡ true = eq-eqb n n refl in
    (rw same refl, all_mapped (λ k. is_listed ns k ≡ true) (λ k. is_listed (n ∷ ns) k ≡ true) (λ k listed. listed_more n k ns (n == k) refl listed) ns (all_listed ns))

module _ (shards : ℕ) (tops : Tops) (found : Found) (exact : AreTopsOf shards tops found.mutations) where
  -- one of those that were found, which has these mutations
  of_found : (n : Note) → ((at : ℕ) → top_at n.tops at ≡ top_at tops at) → is_listed found.segments n.segment ≡ true → (ms : List Mutation) → AreNoted shards tops ms
      → IsNoted shards found n ms
  of_found n same listed ms noted = record {
    noted = stay_noted_all shards tops n.tops (λ at. let e : top_at n.tops at ≡ top_at tops at = same at in omega (arith, e)) ms noted;
    exact = rw listed (tops_front shards n.tops found.mutations ms (still_tops shards tops n.tops same found.mutations exact));
  }

  each_found : (notes : List Note) (ns : List ℕ) (parts : List (List Mutation)) → map (λ (n : Note). n.segment) notes ≡ ns → AreSame tops notes → length parts ≡ length notes
      → AllByRecursion (λ n. is_listed found.segments n ≡ true) ns → AreNoted shards tops (joined parts) → EachNoted shards found notes parts
  each_found [] ns [] is same long listed noted = tt
  each_found [] ns (ms ∷ parts) is same long listed noted = absurd (omega (arith, long))
  each_found (n ∷ notes) ns [] is same long listed noted = absurd (omega (arith, long))
  each_found (n ∷ notes) ns (ms ∷ parts) is same long listed noted =
      let all : AllByRecursion (λ k. is_listed found.segments k ≡ true) (n.segment ∷ map (λ (x : Note). x.segment) notes) =
      subst (λ (l : List ℕ). AllByRecursion (λ k. is_listed found.segments k ≡ true) l) (sym is) listed in (
        of_found n same.0 all.0 ms (all_front (λ m. m.number ≤ top_at tops (place_in shards m)) ms (joined parts) noted),
        each_found notes (map (λ (x : Note). x.segment) notes) parts refl same.1 (omega (arith, long)) all.1
            (all_back (λ m. m.number ≤ top_at tops (place_in shards m)) ms (joined parts) noted),
      )

-- each of the segments is noted with what all of them have
pub each_same : (shards : ℕ) (tops : Tops) (notes : List Note) (ns : List ℕ) (parts : List (List Mutation)) → map (λ (n : Note). n.segment) notes ≡ ns → AreSame tops notes
    → length parts ≡ length notes → AreNotesOf shards tops (joined parts) → EachNoted shards (found_in ns (joined parts)) notes parts
each_same shards tops notes ns parts is same long of_all =
    each_found shards tops (found_in ns (joined parts)) of_all.exact notes ns parts is same long (all_listed ns) of_all.noted
