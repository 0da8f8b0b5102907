-- Lists of atoms, for which place is made and which are joined one after another.
use Rattle.std.proofs.Common.{◌≡◌, ◌<◌, List, [], ◌∷◌, ◌++◌, length, refl, sym, ◌∙◌, subst, append_assoc, arith}
use Rattle.std.proofs.lemmas.List.{append-nil}
use Rattle.std.specs.List.{AllByRecursion}
use Rattle.cas_types.specs.declared.schema.Column.{Column}
use Rattle.cas_bounds.specs.declared.order.Ordered.{Ordered}
use Rattle.cas_atoms.specs.Fits.{Fits}
use Rattle.cas_atoms.specs.Winners.{Same}
use Rattle.cas_atoms.specs.declared.atom.Atom.{Atom}
use Rattle.cas_laws.proofs.JoinProofs.{join_laws}
use Rattle.cas_streams.specs.NoMore.{SaysNoMore}
use Rattle.cas_streams.specs.Streams.{IsThere}
use Rattle.cas_streams.proofs.NoMore.{no_more_itself, no_more_then, no_more_kept}
use Rattle.cas_partition.specs.Ends.{AreAtEnds}
use Rattle.cas_partition.specs.Partitions.{partition_atoms, IsOf, IsAtomOf, HasPlace, AreAtomsOf, IsOfTable, AllFit, HavePlaces, MakesPlaces, JoinsAll}
use Rattle.cas_partition.specs.Inner.Made.{MadePlaces}
use Rattle.cas_partition.specs.declared.partition.Partition.{Partition}
use Rattle.cas_partition.proofs.OneAtom.{MakesPlace, Joins}
use Rattle.cas_partition.proofs.Something.{there_more}

same_itself : (A : List Atom) → Same A A
same_itself A = record { covers = λ x. refl; lives = λ c. refl; cells = λ x. refl }

same_then : {A B C : List Atom} → Same A B → Same B C → Same A C
same_then a b = record { covers = λ x. a.covers x ∙ b.covers x; lives = λ c. a.lives c ∙ b.lives c; cells = λ x. a.cells x ∙ b.cells x }

-- ---- places

-- place was made for some first atoms of the list, and is still to be made for the rest
pub record Making (all rest : List Atom) (p q : Partition) : Type 0 where
  pub same : (order : List Ordered) → IsOf order p → AreAtomsOf order all → Same (partition_atoms q) (partition_atoms p)
  pub no_more : (order : List Ordered) → IsOf order p → AreAtomsOf order all → SaysNoMore (partition_atoms q) (partition_atoms p)
  pub some : IsThere (partition_atoms p) → IsThere (partition_atoms q)
  pub ends : (ws : List Atom) → AreAtEnds ws p.ranges → AreAtEnds ws q.ranges
  pub of : (order : List Ordered) → IsOf order p → AreAtomsOf order all → IsOf order q × AreAtomsOf order rest
  pub fits : (columns : List Column) → IsOfTable columns p → AllFit columns all → IsOfTable columns q × AllFit columns rest
  pub others : (b : Atom) → HasPlace p b → HasPlace q b
  pub made : (r : Partition) → ((b : Atom) → HasPlace q b → HasPlace r b) → HavePlaces r rest → HavePlaces r all

pub making : (all : List Atom) (p : Partition) → Making all all p p
making all p = record {
  same = λ order of atoms. same_itself (partition_atoms p);
  no_more = λ order of atoms. no_more_itself (partition_atoms p);
  some = λ is. is;
  ends = λ ws moves. moves;
  of = λ order of atoms. (of, atoms);
  fits = λ columns t all_fit. (t, all_fit);
  others = λ b h. h;
  made = λ r kept h. h;
}

pub one_made : (all : List Atom) (a : Atom) (rest : List Atom) (p q r : Partition) → Making all (a ∷ rest) p q → MakesPlace a q r → HasPlace r a → Making all rest p r
one_made all a rest p q r m one there = record {
  same = λ order of atoms. let (now, left) = m.of order of atoms in same_then (one.same order now left.0) (m.same order of atoms);
  no_more = λ order of atoms.
      no_more_then (partition_atoms r) (partition_atoms q) (partition_atoms p) (one.no_more order (m.of order of atoms).0) (m.no_more order of atoms);
  some = λ is. one.some (m.some is);
  ends = λ ws moves. one.ends ws (m.ends ws moves);
  of = λ order of atoms. let (now, left) = m.of order of atoms in (one.of order now left.0, left.1);
  fits = λ columns t all_fit. let (now, left) = m.fits columns t all_fit in (one.fits columns now left.0, left.1);
  others = λ b h. one.others b (m.others b h);
  made = λ s kept h. m.made s (λ b g. kept b (one.others b g)) (kept a there, h);
}

pub all_made : (all : List Atom) (p q : Partition) → Making all [] p q → MakesPlaces all p q
all_made all p q m = record { same = m.same; no_more = m.no_more; some = m.some; ends = m.ends; of = λ order of atoms. (m.of order of atoms).0; fits = λ columns t all_fit. (m.fits columns t all_fit).0; others = m.others }

pub all_there : (all : List Atom) (p q : Partition) → Making all [] p q → HavePlaces q all
all_there all p q m = m.made q (λ b h. h) tt

pub some_made : (all run : List Atom) (p q r : Partition) → Making all run p q → MakesPlaces run q r → MakesPlaces all p r
some_made all run p q r m one = record {
  same = λ order of atoms. let (now, left) = m.of order of atoms in same_then (one.same order now left) (m.same order of atoms);
  no_more = λ order of atoms.
      let (now, left) = m.of order of atoms in
      no_more_then (partition_atoms r) (partition_atoms q) (partition_atoms p) (one.no_more order now left) (m.no_more order of atoms);
  some = λ is. one.some (m.some is);
  ends = λ ws moves. one.ends ws (m.ends ws moves);
  of = λ order of atoms. let (now, left) = m.of order of atoms in one.of order now left;
  fits = λ columns t all_fit. let (now, left) = m.fits columns t all_fit in one.fits columns now left;
  others = λ b h. one.others b (m.others b h);
}

-- ---- several at once

parted : (P : Atom → Type 0) (A B : List Atom) → AllByRecursion P (A ++ B) → AllByRecursion P A × AllByRecursion P B
parted P [] B all = (tt, all)
parted P (a ∷ A) B all = let (left, right) = parted P A B all.1 in ((all.0, left), right)

met : (P : Atom → Type 0) (A B : List Atom) → AllByRecursion P A → AllByRecursion P B → AllByRecursion P (A ++ B)
met P [] B left right = right
met P (a ∷ A) B left right = (left.0, met P A B left.1 right)

kept_places : (q r : Partition) (atoms : List Atom) → ((b : Atom) → HasPlace q b → HasPlace r b) → HavePlaces q atoms → HavePlaces r atoms
kept_places q r [] h there = tt
kept_places q r (a ∷ atoms) h there = (h a there.0, kept_places q r atoms h there.1)

pub run_made : (all run rest : List Atom) (p q r : Partition) → Making all (run ++ rest) p q → MadePlaces run q r → Making all rest p r
run_made all run rest p q r m (one, there) = record {
  same = λ order of atoms. let (now, left) = m.of order of atoms in same_then (one.same order now (parted (IsAtomOf order) run rest left).0) (m.same order of atoms);
  no_more = λ order of atoms.
      let (now, left) = m.of order of atoms in
      no_more_then (partition_atoms r) (partition_atoms q) (partition_atoms p) (one.no_more order now (parted (IsAtomOf order) run rest left).0) (m.no_more order of atoms);
  some = λ is. one.some (m.some is);
  ends = λ ws moves. one.ends ws (m.ends ws moves);
  of = λ order of atoms. let (now, left) = m.of order of atoms in let (mine, others) = parted (IsAtomOf order) run rest left in (one.of order now mine, others);
  fits = λ columns t all_fit. let (now, left) = m.fits columns t all_fit in let (mine, others) = parted (Fits columns) run rest left in (one.fits columns now mine, others);
  others = λ b h. one.others b (m.others b h);
  made = λ s kept h. m.made s (λ b g. kept b (one.others b g)) (met (HasPlace s) run rest (kept_places r s run kept there) h);
}

-- what was made for some first ones
pub made_more : (first later : List Atom) (p q : Partition) → MakesPlaces first p q → MakesPlaces (first ++ later) p q
made_more first later p q one = record {
  same = λ order of atoms. one.same order of (parted (IsAtomOf order) first later atoms).0;
  no_more = λ order of atoms. one.no_more order of (parted (IsAtomOf order) first later atoms).0;
  some = one.some;
  ends = one.ends;
  of = λ order of atoms. one.of order of (parted (IsAtomOf order) first later atoms).0;
  fits = λ columns t all_fit. one.fits columns t (parted (Fits columns) first later all_fit).0;
  others = one.others;
}

pub single_made : (a : Atom) (p q : Partition) → MakesPlace a p q → HasPlace q a → MadePlaces (a ∷ []) p q
single_made a p q one there =
    let m : Making (a ∷ []) [] p q = one_made (a ∷ []) a [] p p q (making (a ∷ []) p) one there in (all_made (a ∷ []) p q m, all_there (a ∷ []) p q m)

pub first_made : (a : Atom) (others : List Atom) (p q : Partition) → MakesPlace a p q → MakesPlaces (a ∷ others) p q
first_made a others p q one = made_more (a ∷ []) others p q (record {
  same = λ order of atoms. one.same order of atoms.0;
  no_more = λ order of atoms. one.no_more order of;
  some = one.some;
  ends = one.ends;
  of = λ order of atoms. one.of order of atoms.0;
  fits = λ columns t all_fit. one.fits columns t all_fit.0;
  others = one.others;
})

-- ---- joins

-- some first atoms of the list were joined, and the rest have their places
pub record Joining (all rest : List Atom) (p q : Partition) : Type 0 where
  pub joined : (order : List Ordered) → IsOf order p → AreAtomsOf order all → Same (partition_atoms q ++ rest) (partition_atoms p ++ all)
  pub no_more : (order : List Ordered) → IsOf order p → AreAtomsOf order all → SaysNoMore (partition_atoms q ++ rest) (partition_atoms p ++ all)
  pub some : (order : List Ordered) → IsOf order p → AreAtomsOf order all → IsThere (partition_atoms p ++ all) → IsThere (partition_atoms q ++ rest)
  pub first : List Atom
  pub first_are : all ≡ first ++ rest
  pub ends : (order : List Ordered) → IsOf order p → AreAtomsOf order all → (ws : List Atom) → AreAtEnds ws p.ranges → AreAtEnds (ws ++ first) q.ranges
  pub of : (order : List Ordered) → IsOf order p → AreAtomsOf order all → IsOf order q × AreAtomsOf order rest
  pub fits : (columns : List Column) → IsOfTable columns p → AllFit columns all → IsOfTable columns q × AllFit columns rest
  pub others : (b : Atom) → HasPlace p b → HasPlace q b
  pub there : HavePlaces q rest

pub joining : (all rest : List Atom) (p : Partition) → rest ≡ all → HavePlaces p all → Joining all rest p p
joining all rest p e there = subst (λ l. Joining all l p p) (sym e) (record {
  first = [];
  first_are = refl;
  ends = λ order of atoms ws moves. subst (λ l. AreAtEnds l p.ranges) (sym (append-nil ws)) moves;
  joined = λ order of atoms. same_itself (partition_atoms p ++ all);
  no_more = λ order of atoms. no_more_itself (partition_atoms p ++ all);
  some = λ order of atoms is. is;
  of = λ order of atoms. (of, atoms);
  fits = λ columns t all_fit. (t, all_fit);
  others = λ b h. h;
  there = there;
})

pub one_joined : (all rest : List Atom) (a : Atom) (others : List Atom) (p q r : Partition) → rest ≡ a ∷ others → Joining all rest p q → Joins a q r → Joining all others p r
one_joined all rest a others p q r e h one =
    let m : Joining all (a ∷ others) p q = subst (λ l. Joining all l p q) e h in
    record {
      no_more = λ order of atoms.
          no_more_then (partition_atoms r ++ others) ((partition_atoms q ++ a ∷ []) ++ others) (partition_atoms p ++ all)
          (no_more_kept (partition_atoms r) (partition_atoms q ++ a ∷ []) others (one.no_more order (m.of order of atoms).0))
          (subst (λ l. SaysNoMore l (partition_atoms p ++ all)) (sym (append_assoc (partition_atoms q) (a ∷ []) others)) (m.no_more order of atoms));
      some = λ order of atoms is. let (now, left) = m.of order of atoms in there_more (partition_atoms r) others (one.some order now left.0);
      first = m.first ++ a ∷ [];
      first_are = m.first_are ∙ sym (append_assoc m.first (a ∷ []) others);
      ends = λ order of atoms ws moves.
          let (now, left) = m.of order of atoms in
          subst (λ l. AreAtEnds l r.ranges) (append_assoc ws m.first (a ∷ [])) (one.ends order now left.0 (ws ++ m.first) (m.ends order of atoms ws moves));
      joined = λ order of atoms.
          let (now, left) = m.of order of atoms in
          same_then (join_laws.kept (partition_atoms r) (partition_atoms q ++ a ∷ []) others (one.joined order now left.0))
          (subst (λ l. Same l (partition_atoms p ++ all)) (sym (append_assoc (partition_atoms q) (a ∷ []) others)) (m.joined order of atoms));
      of = λ order of atoms. let (now, left) = m.of order of atoms in (one.of order now left.0, left.1);
      fits = λ columns t all_fit. let (now, left) = m.fits columns t all_fit in (one.fits columns now left.0, left.1);
      others = λ b g. one.others b (m.others b g);
      there = kept_places q r others one.others m.there.1;
    }

pub all_joined : (all rest : List Atom) (p q : Partition) → rest ≡ [] → Joining all rest p q → JoinsAll all p q
all_joined all rest p q e h =
    let m : Joining all [] p q = subst (λ l. Joining all l p q) e h in
    record {
      no_more = λ order of atoms. subst (λ l. SaysNoMore l (partition_atoms p ++ all)) (append-nil (partition_atoms q)) (m.no_more order of atoms);
      some = λ order of atoms is. subst IsThere (append-nil (partition_atoms q)) (m.some order of atoms is);
      ends = λ order of atoms ws moves. subst (λ l. AreAtEnds (ws ++ l) q.ranges) (sym (m.first_are ∙ append-nil m.first)) (m.ends order of atoms ws moves);
      joined = λ order of atoms. subst (λ l. Same l (partition_atoms p ++ all)) (append-nil (partition_atoms q)) (m.joined order of atoms);
      of = λ order of atoms. (m.of order of atoms).0;
      fits = λ columns t all_fit. (m.fits columns t all_fit).0;
      others = m.others;
    }

-- several at once
there_behind : (R : List Atom) (a : Atom) (others : List Atom) → IsThere (R ++ a ∷ others)
there_behind [] a others = tt
there_behind (b ∷ R) a others = tt

more_there : (run Q R others : List Atom) → (IsThere (Q ++ run) → IsThere R) → IsThere (Q ++ (run ++ others)) → IsThere (R ++ others)
more_there run Q R [] h is = subst IsThere (sym (append-nil R)) (h (subst (λ l. IsThere (Q ++ l)) (append-nil run) is))
more_there run Q R (a ∷ others) h is = there_behind R a others

pub run_joined : (all run others : List Atom) (p q r : Partition) → Joining all (run ++ others) p q → JoinsAll run q r → Joining all others p r
run_joined all run others p q r m one = record {
  no_more = λ order of atoms.
      let (now, left) = m.of order of atoms in
      no_more_then (partition_atoms r ++ others) ((partition_atoms q ++ run) ++ others) (partition_atoms p ++ all)
      (no_more_kept (partition_atoms r) (partition_atoms q ++ run) others (one.no_more order now (parted (IsAtomOf order) run others left).0))
      (subst (λ l. SaysNoMore l (partition_atoms p ++ all)) (sym (append_assoc (partition_atoms q) run others)) (m.no_more order of atoms));
  some = λ order of atoms is.
      let (now, left) = m.of order of atoms in
      more_there run (partition_atoms q) (partition_atoms r) others (one.some order now (parted (IsAtomOf order) run others left).0) (m.some order of atoms is);
  first = m.first ++ run;
  first_are = m.first_are ∙ sym (append_assoc m.first run others);
  ends = λ order of atoms ws moves.
      let (now, left) = m.of order of atoms in
      subst (λ l. AreAtEnds l r.ranges) (append_assoc ws m.first run) (one.ends order now (parted (IsAtomOf order) run others left).0 (ws ++ m.first) (m.ends order of atoms ws moves));
  joined = λ order of atoms.
      let (now, left) = m.of order of atoms in
      same_then (join_laws.kept (partition_atoms r) (partition_atoms q ++ run) others (one.joined order now (parted (IsAtomOf order) run others left).0))
      (subst (λ l. Same l (partition_atoms p ++ all)) (sym (append_assoc (partition_atoms q) run others)) (m.joined order of atoms));
  of = λ order of atoms. let (now, left) = m.of order of atoms in let (mine, rest) = parted (IsAtomOf order) run others left in (one.of order now mine, rest);
  fits = λ columns t all_fit. let (now, left) = m.fits columns t all_fit in let (mine, rest) = parted (Fits columns) run others left in (one.fits columns now mine, rest);
  others = λ b g. one.others b (m.others b g);
  there = kept_places q r others one.others (parted (HasPlace q) run others m.there).1;
}

pub single_joined : (a : Atom) (p q : Partition) → HasPlace p a → Joins a p q → JoinsAll (a ∷ []) p q
single_joined a p q there one = all_joined (a ∷ []) [] p q refl (one_joined (a ∷ []) (a ∷ []) a [] p p q refl (joining (a ∷ []) (a ∷ []) p refl (there, tt)) one)

-- some first ones have their places
pub first_there : (run later : List Atom) (p : Partition) → HavePlaces p (run ++ later) → HavePlaces p run
first_there run later p there = (parted (HasPlace p) run later there).0

pub none_left : (all rest : List Atom) (p q : Partition) → length rest < 1 → Making all rest p q → Making all [] p q
none_left all [] p q few m = m
none_left all (a ∷ rest) p q few m = absurd (omega arith)

-- ---- both

there_kept : (P Q others : List Atom) → (IsThere P → IsThere Q) → IsThere (P ++ others) → IsThere (Q ++ others)
there_kept P Q [] h is = subst IsThere (sym (append-nil Q)) (h (subst IsThere (append-nil P) is))
there_kept P Q (a ∷ others) h is = there_behind Q a others

-- place was made for the atoms, and then they were joined
pub made_then_joined : (all : List Atom) (p q r : Partition) → MakesPlaces all p q → JoinsAll all q r → JoinsAll all p r
made_then_joined all p q r made joins = record {
  joined = λ order of atoms.
      same_then (joins.joined order (made.of order of atoms) atoms) (join_laws.kept (partition_atoms q) (partition_atoms p) all (made.same order of atoms));
  no_more = λ order of atoms.
      no_more_then (partition_atoms r) (partition_atoms q ++ all) (partition_atoms p ++ all) (joins.no_more order (made.of order of atoms) atoms)
      (no_more_kept (partition_atoms q) (partition_atoms p) all (made.no_more order of atoms));
  some = λ order of atoms is. joins.some order (made.of order of atoms) atoms (there_kept (partition_atoms p) (partition_atoms q) all made.some is);
  ends = λ order of atoms ws moves. joins.ends order (made.of order of atoms) atoms ws (made.ends ws moves);
  of = λ order of atoms. joins.of order (made.of order of atoms) atoms;
  fits = λ columns t all_fit. joins.fits columns (made.fits columns t all_fit) all_fit;
  others = λ b h. joins.others b (made.others b h);
}
