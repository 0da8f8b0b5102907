-- The places of rows and the cuts between them are read exactly, and are as long as the log's measure says.
use Rattle.std.proofs.Common.{◌≡◌, ℕ, suc, ◌<◌, ◌≤◌, ◌+◌, ◌^◌, leb, Bool, true, false, List, [], ◌∷◌, ◌++◌, length, take, drop, get_or, ◌-◌, Result, Ok, Err, refl, sym, ap, subst, ◌∙◌, append_assoc, arith}
use Rattle.std.specs.Int.{is_in_range}
use Rattle.std.specs.List.{flat_map, sum_by}
use Rattle.std.proofs.lemmas.Bool.{leb-true, le-leb, and_parts, and_from}
use Rattle.std.proofs.lemmas.List.{take_all, length-append, append-nil, length-take-le}
use Rattle.std.proofs.lemmas.List.Sums.{sum_by-cons}
use Rattle.cas_types.specs.Values.{is_value}
use Rattle.cas_types.specs.declared.tag.TypeTag.{TypeTag}
use Rattle.cas_bounds.specs.declared.order.Ordered.{Ordered}
use Rattle.cas_bounds.specs.declared.cuts.Clustering.{Clustering}
use Rattle.cas_bounds.specs.declared.cuts.Cut.{Cut}
use Rattle.cas_codec.specs.declared.fault.ReadFault.{ReadFault}
use Rattle.cas_codec.specs.Reading.{Left, Read, Gives, ◌>>=◌, checked, u8_at, flag_at, bytes16_at}
use Rattle.cas_codec.specs.Fields.{u8, flag, bytes16}
use Rattle.cas_codec.specs.Exact.{IsExact}
use Rattle.cas_codec.proofs.Exactness.{done, exact_then, exact_done, exact_checked, exact_map}
use Rattle.cas_codec.proofs.FieldLaws.{u8_field, flag_field, bytes16_field}
use Rattle.cas_codec.proofs.FieldLengths.{u8_long, flag_long, bytes16_long}
use Rattle.cas_atoms.specs.LogLength.{short_length, values_length, cut_length}
use Rattle.cas_atoms.specs.Fits.{FitsValue, FitsValues, FitsClustering, FitsCut}
use Rattle.cas_records.specs.Spelling.{values_bytes, clustering_bytes, cut_bytes}
use Rattle.cas_records.specs.Reading.{value_at, values_at, clustering_at, cut_at}
use Rattle.cas_records.specs.Inner.Values.{after_values}

-- ---- how a row of readings comes by the values

pub values_none : (front : List (List ℕ)) (left : Left) → after_values front (values_at [] left) ≡ Ok (front, left)
unfolding after_values values_at
values_none front left = ap (λ (vs : List (List ℕ)). done (vs, left)) (append-nil front)

pub values_through : (order : List Ordered) (front : List (List ℕ)) (left : Left) → length order < 1 → after_values front (values_at order left) ≡ Ok (front, left)
values_through [] front left none = values_none front left
values_through (o ∷ os) front left none = absurd (omega arith)

regrouped : (front : List (List ℕ)) (v : List ℕ) (read : Read (List (List ℕ)))
    → after_values front (read >>= λ others. Ok (v ∷ others.0, others.1)) ≡ after_values (front ++ v ∷ []) read
unfolding after_values
regrouped front v (Ok r) = ap (λ (vs : List (List ℕ)). done (vs, r.1)) (sym (append_assoc front (v ∷ []) r.0))
regrouped front v (Err f) = refl

pub values_more : (front : List (List ℕ)) (o : Ordered) (os : List Ordered) (v : List ℕ) (left after : Left) → value_at o.tag left ≡ Ok (v, after)
    → after_values front (values_at (o ∷ os) left) ≡ after_values (front ++ v ∷ []) (values_at os after)
unfolding values_at
values_more front o os v left after e = rw e (regrouped front v (values_at os after))

-- the same of a list whose first column the reader looked up
pub values_step : (order : List Ordered) (d : Ordered) (front : List (List ℕ)) (v : List ℕ) (left after : Left) → 1 ≤ length order
    → value_at (get_or order 0 d).tag left ≡ Ok (v, after)
    → after_values front (values_at order left) ≡ after_values (front ++ v ∷ []) (values_at (take (length order - 1) (drop 1 order)) after)
values_step [] d front v left after some e = absurd (omega arith)
values_step (o ∷ os) d front v left after some e =
    let all : take (length (o ∷ os) - 1) os ≡ os = take_all (length (o ∷ os) - 1) os (omega arith) in
    values_more front o os v left after e ∙ ap (λ (vs : List Ordered). after_values (front ++ v ∷ []) (values_at vs after)) (sym all)

-- how a reader ends that ends as another does
pub gives_same : {X Y : Type 0} (view : X → Y) (r : Result X ReadFault) (new : Left) (one other : Read Y) → one ≡ other → Gives view r new other → Gives view r new one
gives_same {X} {Y} view r new one other e g = subst (λ (read : Read Y). Gives view r new read) (sym e) g

pub values_fault : (front : List (List ℕ)) (o : Ordered) (os : List Ordered) (left : Left) (f : ReadFault) → value_at o.tag left ≡ Err f
    → after_values front (values_at (o ∷ os) left) ≡ Err f
unfolding after_values values_at
values_fault front o os left f e = rw e refl

-- of a sole column, which the reader looked up, the value is read
pub sole_value : (order : List Ordered) (d : Ordered) (v : List ℕ) (left after : Left) → 1 ≤ length order → length order < 2
    → value_at (get_or order 0 d).tag left ≡ Ok (v, after) → values_at order left ≡ Ok (v ∷ [], after)
unfolding values_at
sole_value [] d v left after some few e = absurd (omega arith)
sole_value (o ∷ []) d v left after some few e = rw e refl
sole_value (o ∷ p ∷ os) d v left after some few e = absurd (omega arith)

pub sole_fault : (order : List Ordered) (d : Ordered) (left : Left) (f : ReadFault) → 1 ≤ length order → length order < 2
    → value_at (get_or order 0 d).tag left ≡ Err f → values_at order left ≡ Err f
unfolding values_at
sole_fault [] d left f some few e = absurd (omega arith)
sole_fault (o ∷ []) d left f some few e = rw e refl
sole_fault (o ∷ p ∷ os) d left f some few e = absurd (omega arith)

pub values_from_none : (read : Read (List (List ℕ))) → after_values [] read ≡ read
unfolding after_values
values_from_none (Ok r) = refl
values_from_none (Err f) = refl

pub values_longer : (v : List ℕ) (vs : List (List ℕ)) → sum_by short_length (v ∷ vs) ≡ short_length v + sum_by short_length vs
values_longer v vs = sum_by-cons short_length v vs

-- ---- values

value_exact : (tag : TypeTag) → IsExact (FitsValue tag) bytes16 (value_at tag)
unfolding value_at checked
value_exact tag = exact_checked (λ b. length b < 2 ^ 16) bytes16 bytes16_at (is_value tag) bytes16_field.exact

abbrev HasHead : List ℕ → List (List ℕ) → Type 0
HasHead v [] = ⊥
HasHead v (w ∷ ws) = w ≡ v

tail_of : List (List ℕ) → List (List ℕ)
tail_of [] = []
tail_of (v ∷ vs) = vs

no_values : (vs : List (List ℕ)) → FitsValues [] vs → (vs ≡ []) × (flat_map bytes16 vs ≡ [])
no_values [] fit = (refl, refl)
no_values (v ∷ vs) fit = absurd fit

head_of : (o : Ordered) (os : List Ordered) (vs : List (List ℕ)) → FitsValues (o ∷ os) vs → (v : List ℕ) × FitsValue o.tag v × HasHead v vs
head_of o os [] fit = absurd fit
head_of o os (v ∷ vs) fit = (v, fit.0, refl)

after_head : (o : Ordered) (os : List Ordered) (v : List ℕ) (vs : List (List ℕ)) → FitsValues (o ∷ os) vs × HasHead v vs
    → (ws : List (List ℕ)) × FitsValues os ws × (v ∷ ws ≡ vs)
after_head o os v [] fit = absurd fit.0
after_head o os v (w ∷ ws) fit = (ws, fit.0.1, ap (λ (h : List ℕ). h ∷ ws) (sym fit.1))

head_spelled : (v : List ℕ) (vs : List (List ℕ)) → HasHead v vs → flat_map bytes16 vs ≡ bytes16 v ++ flat_map bytes16 (tail_of vs)
unfolding tail_of
head_spelled v [] is = absurd is
head_spelled v (w ∷ ws) is = ap (λ (h : List ℕ). bytes16 h ++ flat_map bytes16 ws) is

values_exact : (order : List Ordered) → IsExact (FitsValues order) (flat_map bytes16) (values_at order)
unfolding values_at tail_of
values_exact [] = exact_done (FitsValues []) (flat_map bytes16) [] tt (λ vs fit. no_values vs fit)
values_exact (o ∷ os) =
    exact_then (FitsValue o.tag) bytes16 (value_at o.tag) (FitsValues (o ∷ os)) (flat_map bytes16) (λ v vs. HasHead v vs) (λ v vs. flat_map bytes16 (tail_of vs))
    (λ before v left. values_at os left >>= λ others. Ok (v ∷ others.0, others.1))
    (value_exact o.tag)
    (λ before v fits-v. exact_map (FitsValues os) (flat_map bytes16) (values_at os)
    (λ vs. FitsValues (o ∷ os) vs × HasHead v vs) (λ vs. flat_map bytes16 (tail_of vs)) (λ others. v ∷ others)
    (values_exact os)
    (λ others fit. (((fits-v, fit), refl), refl))
    (λ vs fit. after_head o os v vs fit))
    (λ vs fit. head_of o os vs fit)
    (λ v vs fit is. head_spelled v vs is)

pub values_count : (order : List Ordered) (vs : List (List ℕ)) → FitsValues order vs → length vs ≡ length order
values_count [] [] fit = refl
values_count [] (v ∷ vs) fit = absurd fit
values_count (o ∷ os) [] fit = absurd fit
values_count (o ∷ os) (v ∷ vs) fit = ap (λ (n : ℕ). suc n) (values_count os vs fit.1)

-- ---- the number of values

abbrev IsCount : ℕ → ℕ → ℕ → Type 0
IsCount least greatest n = (n < 2 ^ 8) × (is_in_range least greatest n ≡ true)

count_exact : (least greatest : ℕ) → IsExact (IsCount least greatest) u8 (checked (is_in_range least greatest) u8_at)
count_exact least greatest = exact_checked (λ n. n < 2 ^ 8) u8 u8_at (is_in_range least greatest) u8_field.exact

count_within : (least greatest n : ℕ) → least ≤ n → n ≤ greatest → is_in_range least greatest n ≡ true
count_within least greatest n a b = and_from (leb least n) (leb n greatest) (le-leb least n a) (le-leb n greatest b)

within_count : (least greatest n : ℕ) → is_in_range least greatest n ≡ true → (least ≤ n) × (n ≤ greatest)
within_count least greatest n e =
    let p = and_parts (leb least n) (leb n greatest) e in
    (leb-true least n p.0, leb-true n greatest p.1)

-- ---- the place of a row

pub made_clustering : List Ordered → List (List ℕ) → Clustering
made_clustering order values = record { values = values; order = order }

clustering_is : (order : List Ordered) (c : Clustering) → c.order ≡ order → made_clustering order c.values ≡ c
unfolding made_clustering
clustering_is order c is = ap (λ (o : List Ordered). made_clustering o c.values) (sym is)

pub clustering_exact : (order : List Ordered) → IsExact (FitsClustering order) clustering_bytes (clustering_at order)
unfolding clustering_at made_clustering
clustering_exact order =
    exact_then (IsCount (length order) (length order)) u8 (checked (is_in_range (length order) (length order)) u8_at) (FitsClustering order) clustering_bytes
    (λ n c. length c.values ≡ n) (λ n c. flat_map bytes16 c.values)
    (λ before n left. values_at order left >>= λ values. Ok (made_clustering order values.0, values.1))
    (count_exact (length order) (length order))
    (λ before n count. exact_map (FitsValues order) (flat_map bytes16) (values_at order)
    (λ c. FitsClustering order c × (length c.values ≡ n)) (λ c. flat_map bytes16 c.values) (λ vs. made_clustering order vs)
    (values_exact order)
    (λ vs fit.
    let same = values_count order vs fit in
    let w = within_count (length order) (length order) n count.1 in
    let most : length order ≤ n = w.0 in
    let least : n ≤ length order = w.1 in
    let short : n < 2 ^ 8 = count.0 in
    let is : length vs ≡ length order = same in
    (((refl, fit, omega arith), omega arith), refl))
    (λ c fit. (c.values, fit.0.1, clustering_is order c fit.0.0)))
    (λ c fit.
    let is : length c.values ≡ length order = values_count order c.values fit.1 in
    let short : length order < 2 ^ 8 = fit.2 in
    (length c.values, (omega arith, count_within (length order) (length order) (length c.values) (omega arith) (omega arith)), refl))
    (λ n c fit is. ap (λ (m : ℕ). u8 m ++ flat_map bytes16 c.values) is)

-- ---- cuts

pub made_cut : List Ordered → Bool → List (List ℕ) → Cut
made_cut order after prefix = record { prefix = prefix; after = after; order = order }

cut_is : (order : List Ordered) (after : Bool) (c : Cut) → c.order ≡ order → c.after ≡ after → made_cut order after c.prefix ≡ c
unfolding made_cut
cut_is order after c o a =
    ap (λ (x : List Ordered). made_cut x after c.prefix) (sym o) ∙ ap (λ (x : Bool). made_cut c.order x c.prefix) (sym a)

-- a prefix of so many values
cut_prefix_fits : (order : List Ordered) (n : ℕ) (vs : List (List ℕ)) → n < 2 ^ 8 → n ≤ length order → FitsValues (take n order) vs
    → (length vs ≡ n) × FitsValues (take (length vs) order) vs × (length vs ≤ length order) × (length vs < 2 ^ 8)
cut_prefix_fits order n vs short most fit =
    let is : length vs ≡ n = values_count (take n order) vs fit ∙ length-take-le n order most in
    (is, subst (λ (m : ℕ). FitsValues (take m order) vs) (sym is) fit, omega arith, omega arith)

abbrev HasSide : List Ordered → Bool → Cut → Type 0
HasSide order after c = FitsCut order c × (c.after ≡ after)

prefix_exact : (order : List Ordered) (after : Bool) → IsExact (HasSide order after) (λ c. values_bytes c.prefix)
    (λ left. checked (is_in_range 0 (length order)) u8_at left >>= λ count. values_at (take count.0 order) count.1
    >>= λ prefix. Ok (made_cut order after prefix.0, prefix.1))
unfolding made_cut
prefix_exact order after =
    exact_then (IsCount 0 (length order)) u8 (checked (is_in_range 0 (length order)) u8_at) (HasSide order after) (λ c. values_bytes c.prefix)
    (λ n c. length c.prefix ≡ n) (λ n c. flat_map bytes16 c.prefix)
    (λ before n left. values_at (take n order) left >>= λ prefix. Ok (made_cut order after prefix.0, prefix.1))
    (count_exact 0 (length order))
    (λ before n count. exact_map (FitsValues (take n order)) (flat_map bytes16) (values_at (take n order))
    (λ c. HasSide order after c × (length c.prefix ≡ n)) (λ c. flat_map bytes16 c.prefix) (λ vs. made_cut order after vs)
    (values_exact (take n order))
    (λ vs fit.
    let p = cut_prefix_fits order n vs count.0 (within_count 0 (length order) n count.1).1 fit in
    ((((refl, p.1, p.2, p.3), refl), p.0), refl))
    (λ c fit. (c.prefix, subst (λ (m : ℕ). FitsValues (take m order) c.prefix) fit.1 fit.0.0.1, cut_is order after c fit.0.0.0 fit.0.1)))
    (λ c fit. (length c.prefix, (fit.0.3, count_within 0 (length order) (length c.prefix) (omega arith) fit.0.2), refl))
    (λ n c fit is. ap (λ (m : ℕ). u8 m ++ flat_map bytes16 c.prefix) is)

pub cut_exact : (order : List Ordered) → IsExact (FitsCut order) cut_bytes (cut_at order)
unfolding cut_at made_cut
cut_exact order =
    exact_then (λ x. Unit {0}) flag flag_at (FitsCut order) cut_bytes (λ a c. c.after ≡ a) (λ a c. values_bytes c.prefix)
    (λ before a left. checked (is_in_range 0 (length order)) u8_at left >>= λ count. values_at (take count.0 order) count.1
    >>= λ prefix. Ok (made_cut order a prefix.0, prefix.1))
    flag_field.exact
    (λ before a fit. prefix_exact order a)
    (λ c fit. (c.after, tt, refl))
    (λ a c fit is. ap (λ (b : Bool). flag b ++ values_bytes c.prefix) is)

-- ---- lengths

each_long : (vs : List (List ℕ)) → length (flat_map bytes16 vs) ≡ sum_by short_length vs
each_long [] = refl
each_long (v ∷ vs) =
    length-append (bytes16 v) (flat_map bytes16 vs) ∙ omega (arith, bytes16_long v, each_long vs, values_longer v vs)

pub clustering_long : (c : Clustering) → length (clustering_bytes c) ≡ values_length c.values
clustering_long c =
    omega (arith, length-append (u8 (length c.values)) (flat_map bytes16 c.values), u8_long (length c.values), each_long c.values)

pub cut_long : (c : Cut) → length (cut_bytes c) ≡ cut_length c
cut_long c =
    omega (
      arith,
      length-append (flag c.after) (values_bytes c.prefix),
      length-append (u8 (length c.prefix)) (flat_map bytes16 c.prefix),
      flag_long c.after,
      u8_long (length c.prefix),
      each_long c.prefix,
    )

-- ---- what a reader of a place and of a cut comes by

pub clustering_answer : (order slice copy : List Ordered) (n m count : ℕ) (left mid after : Left) (values : List (List ℕ))
    → n ≡ length order → m ≡ length order → slice ≡ order → copy ≡ order
    → checked (is_in_range n m) u8_at left ≡ Ok (count, mid) → values_at slice mid ≡ Ok (values, after)
    → clustering_at order left ≡ Ok (record { values = values; order = copy }, after)
unfolding clustering_at made_clustering
clustering_answer order slice copy n m count left mid after values n-is m-is slice-is copy-is e f =
    let least = subst (λ (k : ℕ). checked (is_in_range k m) u8_at left ≡ done (count, mid)) n-is e in
    let counted = subst (λ (k : ℕ). checked (is_in_range (length order) k) u8_at left ≡ done (count, mid)) m-is least in
    let sliced = subst (λ (s : List Ordered). values_at s mid ≡ done (values, after)) slice-is f in
    rw (copy-is, counted, sliced) refl

pub cut_answer : (order slice copy : List Ordered) (n count : ℕ) (left flagged mid after : Left) (side : Bool) (values : List (List ℕ))
    → n ≡ length order → slice ≡ order → copy ≡ order → flag_at left ≡ Ok (side, flagged)
    → checked (is_in_range 0 n) u8_at flagged ≡ Ok (count, mid) → values_at (take count slice) mid ≡ Ok (values, after)
    → cut_at order left ≡ Ok (record { prefix = values; after = side; order = copy }, after)
unfolding cut_at made_cut
cut_answer order slice copy n count left flagged mid after side values n-is slice-is copy-is d e f =
    let counted = subst (λ (m : ℕ). checked (is_in_range 0 m) u8_at flagged ≡ done (count, mid)) n-is e in
    let sliced = subst (λ (s : List Ordered). values_at (take count s) mid ≡ done (values, after)) slice-is f in
    rw (copy-is, d, counted, sliced) refl
