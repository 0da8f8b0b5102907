-- Atoms of one row one after another: their places, and what they add to a partition.
use Rattle.std.proofs.Common.{◌≡◌, inl, inr, Option, Some, List, [], ◌∷◌, ◌++◌, refl, sym, ◌∙◌, subst}
use Rattle.std.proofs.lemmas.Option.{none-some}
use Rattle.std.specs.List.{AllByRecursion}
use Rattle.cas_types.specs.declared.tag.TypeTag.{TypeTag}
use Rattle.cas_bounds.specs.declared.map_key.MapKey.{MapKey}
use Rattle.cas_atoms.specs.declared.atom.Atom.{Atom}
use Rattle.cas_partition.specs.Placed.{wanted, given}
use Rattle.cas_partition.specs.Partitions.{HasPlace, HavePlaces, with_spot, MakesPlaces, JoinsAll}
use Rattle.cas_partition.specs.Inner.Made.{MadePlaces}
use Rattle.cas_partition.specs.Inner.Runs.{room_row, IsInRow, with_room, with_rooms, IsPart, PartlyMade, joined_spot, joined_at, joined_spots}
use Rattle.cas_partition.specs.declared.spot.Spot.{Spot}
use Rattle.cas_partition.specs.declared.spot.Content.{Content}
use Rattle.cas_partition.specs.declared.spot.Room.{Room}
use Rattle.cas_partition.specs.declared.spot.Room.TheVariants.{Whole, Cuts, At}
use Rattle.cas_partition.specs.declared.spot.Addition.{Addition}
use Rattle.cas_partition.specs.declared.spot.Addition.TheVariants as gives
use Rattle.cas_partition.specs.declared.partition.Partition.{Partition}
use Rattle.cas_partition.proofs.OneAtom.{MakesPlace, Joins}
use Rattle.cas_partition.proofs.RunLists.{given_row, same_row, spot_set}
use Rattle.cas_partition.proofs.Taking.{with_spots, one_spot, spot_there, same_spots, spot_joins}
use Rattle.cas_partition.proofs.Lists.{Making, making, one_made, all_made, all_there, first_made, made_more, Joining, joining, one_joined, all_joined, made_then_joined}

-- ---- places

room_made : (k : Option MapKey) (a : Atom) (w : Room) (q : Partition) → wanted a ≡ w → room_row w ≡ Some k
    → MakesPlace a q (with_spots q (with_room w q.spots)) × HasPlace (with_spots q (with_room w q.spots)) a
room_made k a Whole q e in_row = absurd (none-some k in_row)
room_made k a (Cuts lo hi) q e in_row = absurd (none-some k in_row)
room_made k a (At s tag) q e in_row = (one_spot a q (with_spot s tag q.spots) s tag e refl, spot_there a q (with_spot s tag q.spots) s tag e refl)

rooms_made : (k : Option MapKey) (all run : List Atom) (p q : Partition) → AllByRecursion (IsInRow k) run → Making all run p q → Making all [] p (with_spots q (with_rooms run q.spots))
rooms_made k all [] p q of m = m
rooms_made k all (a ∷ run) p q of m =
    let (one, there) = room_made k a (wanted a) q refl of.0 in
    rooms_made k all run p (with_spots q (with_room (wanted a) q.spots)) of.1 (one_made all a run p q (with_spots q (with_room (wanted a) q.spots)) m one there)

pub run_placed : (a : Atom) (s : Spot) (tag : Option TypeTag) (run : List Atom) (p : Partition) (es : List (Spot × Content)) → wanted a ≡ At s tag → AllByRecursion (IsInRow s.row) run
    → es ≡ with_rooms run (with_spot s tag p.spots) → MadePlaces (a ∷ run) p (with_spots p es)
run_placed a s tag run p es w of e =
    let q : Partition = with_spots p (with_spot s tag p.spots) in
    let m : Making (a ∷ run) [] p (with_spots q (with_rooms run q.spots)) =
    rooms_made s.row (a ∷ run) run p q of
    (one_made (a ∷ run) a run p p q (making (a ∷ run) p) (one_spot a p (with_spot s tag p.spots) s tag w refl) (spot_there a p (with_spot s tag p.spots) s tag w refl)) in
    subst (λ l. MadePlaces (a ∷ run) p (with_spots p l)) (sym e) (all_made (a ∷ run) p (with_spots q (with_rooms run q.spots)) m, all_there (a ∷ run) p (with_spots q (with_rooms run q.spots)) m)

of_first : (k : Option MapKey) (first later : List Atom) → AllByRecursion (IsInRow k) (first ++ later) → AllByRecursion (IsInRow k) first
of_first k [] later all = tt
of_first k (a ∷ first) later all = (all.0, of_first k first later all.1)

part_of_run : (a : Atom) (s : Spot) (tag : Option TypeTag) (run : List Atom) (p : Partition) (es : List (Spot × Content)) → wanted a ≡ At s tag → AllByRecursion (IsInRow s.row) run
    → PartlyMade with_rooms run p.spots (with_spot s tag p.spots) es → MakesPlaces (a ∷ run) p (with_spots p es)
part_of_run a s tag run p es w of (inl same) = first_made a run p (with_spots p es) (same_spots a p es same)
part_of_run a s tag run p es w of (inr part) =
    subst (λ l. MakesPlaces (a ∷ l) p (with_spots p es)) (sym part.are)
    (made_more (a ∷ part.first) part.later p (with_spots p es)
    (run_placed a s tag part.first p es w (of_first s.row part.first part.later (subst (AllByRecursion (IsInRow s.row)) part.are of)) part.is).0)

-- and of more atoms than those of the row
pub run_partly : (a : Atom) (s : Spot) (tag : Option TypeTag) (others run later : List Atom) (p : Partition) (es : List (Spot × Content)) → wanted a ≡ At s tag → run ++ later ≡ others
    → AllByRecursion (IsInRow s.row) run → PartlyMade with_rooms run p.spots (with_spot s tag p.spots) es → MakesPlaces (a ∷ others) p (with_spots p es)
run_partly a s tag others run later p es w e of part =
    subst (λ l. MakesPlaces (a ∷ l) p (with_spots p es)) e (made_more (a ∷ run) later p (with_spots p es) (part_of_run a s tag run p es w of part))

-- ---- atoms are joined

addition_joins : (k : Option MapKey) (a : Atom) (g : Addition) (q : Partition) → given a ≡ g → given_row g ≡ Some k → HasPlace q a → Joins a q (with_spots q (joined_at g q.spots))
addition_joins k a (gives.Whole d) q e in_row there = absurd (none-some k in_row)
addition_joins k a (gives.Range lo hi d) q e in_row there = absurd (none-some k in_row)
addition_joins k a (gives.At s c) q e in_row there = spot_joins a s c e q (joined_spot s c q.spots) (λ old is. spot_set s old c q.spots is) there

additions_join : (k : Option MapKey) (all run : List Atom) (p q : Partition) → AllByRecursion (IsInRow k) run → Joining all run p q → Joining all [] p (with_spots q (joined_spots run q.spots))
additions_join k all [] p q of m = m
additions_join k all (a ∷ run) p q of m =
    let r : Partition = with_spots q (joined_at (given a) q.spots) in
    additions_join k all run p r of.1 (one_joined all (a ∷ run) a run p q r refl m (addition_joins k a (given a) q refl (same_row a ∙ of.0) m.there.0))

pub run_is_joined : (a : Atom) (s : Spot) (c : Content) (run : List Atom) (p : Partition) (es : List (Spot × Content)) → given a ≡ gives.At s c → AllByRecursion (IsInRow s.row) run
    → es ≡ joined_spots run (joined_spot s c p.spots) → HavePlaces p (a ∷ run) → JoinsAll (a ∷ run) p (with_spots p es)
run_is_joined a s c run p es g of e there =
    let q : Partition = with_spots p (joined_spot s c p.spots) in
    let one : Joins a p q = spot_joins a s c g p (joined_spot s c p.spots) (λ old is. spot_set s old c p.spots is) there.0 in
    subst (λ l. JoinsAll (a ∷ run) p (with_spots p l)) (sym e)
    (all_joined (a ∷ run) [] p (with_spots q (joined_spots run q.spots)) refl
    (additions_join s.row (a ∷ run) run p q of (one_joined (a ∷ run) (a ∷ run) a run p p q refl (joining (a ∷ run) (a ∷ run) p refl there) one)))

-- ---- both

run_made : (k : Option MapKey) (run : List Atom) (p : Partition) → AllByRecursion (IsInRow k) run → MadePlaces run p (with_spots p (with_rooms run p.spots))
run_made k run p of =
    let q : Partition = with_spots p (with_rooms run p.spots) in
    let m : Making run [] p q = rooms_made k run run p p of (making run p) in (all_made run p q m, all_there run p q m)

pub run_inserted : (k : Option MapKey) (run : List Atom) (p : Partition) (es : List (Spot × Content)) → AllByRecursion (IsInRow k) run
    → es ≡ joined_spots run (with_rooms run p.spots) → JoinsAll run p (with_spots p es)
run_inserted k run p es of e =
    let q : Partition = with_spots p (with_rooms run p.spots) in
    let r : Partition = with_spots q (joined_spots run q.spots) in
    let (made, there) = run_made k run p of in
    subst (λ l. JoinsAll run p (with_spots p l)) (sym e)
    (made_then_joined run p q r made (all_joined run [] q r refl (additions_join k run run q q of (joining run run q refl there))))

pub some_made : (k : Option MapKey) (run : List Atom) (p : Partition) (es : List (Spot × Content)) → AllByRecursion (IsInRow k) run
    → IsPart run (λ first. es ≡ with_rooms first p.spots) → MakesPlaces run p (with_spots p es)
some_made k run p es of part =
    let q : Partition = with_spots p (with_rooms part.first p.spots) in
    subst (λ l. MakesPlaces l p (with_spots p es)) (sym part.are)
    (subst (λ l. MakesPlaces (part.first ++ part.later) p (with_spots p l)) (sym part.is)
    (made_more part.first part.later p q (run_made k part.first p (of_first k part.first part.later (subst (AllByRecursion (IsInRow k)) part.are of))).0))
