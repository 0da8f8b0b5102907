-- What constants, terms and literals give is of the types and shapes of their columns.
use Rattle.std.proofs.Common.{◌≡◌, ℕ, ℤ, pos, negsuc, ◌==◌, ◌≤◌, ◌<◌, ◌^◌, nat_le, int_le, Bool, true, false, cond, ◌&&◌, List, [], ◌∷◌, ◌++◌, map, fold, length, Option, None, Some, is_some, IfSome, refl, sym, ap, ◌∙◌, subst, arith}
use Rattle.std.specs.Bool.{then_some}
use Rattle.std.specs.Int.{w64, cast_unsigned, to_be_bytes, from_be_bytes}
use Rattle.std.specs.List.{AllByRecursion, filter_map, cons_option}
use Rattle.std.specs.BTreeMap.{insert_entry}
use Rattle.std.specs.Ordering.{match_ordering}
use Rattle.std.specs.declared.cmp.Ordering.{Ordering}
use Rattle.std.specs.declared.cmp.Ordering.TheVariants.{Less, Equal, Greater}
use Rattle.std.proofs.lemmas.Bool.Decides.{nat_tests}
use Rattle.std.proofs.lemmas.Int.{ints}
use Rattle.std.proofs.lemmas.Nat.{from_be_bytes-to_be_bytes_8}
use Rattle.cas_types.specs.Schemas.{is_plain, is_map, is_list, path_type, type_or_blob}
use Rattle.cas_types.specs.Values.{bytes_cmp, is_value}
use Rattle.cas_types.specs.declared.limits.TheConstants.{LAST_NANOSECOND}
use Rattle.cas_types.specs.declared.schema.Column.{Column}
use Rattle.cas_types.specs.declared.schema.Shape.{Shape}
use Rattle.cas_types.specs.declared.schema.Shape.TheVariants as shape
use Rattle.cas_types.specs.declared.tag.TypeTag.{TypeTag}
use Rattle.cas_types.specs.declared.tag.TypeTag.TheVariants.{Ascii, BigInt, Blob, Boolean, Date, Int, SmallInt, Text, Time, Timestamp, TimeUuid, TinyInt, Uuid}
use Rattle.cas_atoms.specs.Fits.{is_path, is_path_in, is_cell_value, is_content}
use Rattle.cas_effects.specs.FitsBound.{FitsGiven}
use Rattle.cas_effects.specs.declared.effect.Elements.{Elements}
use Rattle.cas_effects.specs.declared.effect.Elements.TheVariants as elements
use Rattle.cql_parse.specs.declared.term.Constant.{Constant}
use Rattle.cql_parse.specs.declared.term.Constant.TheVariants as constant
use Rattle.cql_parse.specs.declared.term.Element.{Element}
use Rattle.cql_parse.specs.declared.term.Element.TheVariants as element
use Rattle.cql_parse.specs.declared.term.Entry.{Entry}
use Rattle.cql_parse.specs.declared.term.Literal.{Literal}
use Rattle.cql_parse.specs.declared.term.Literal.TheVariants as literal
use Rattle.cql_parse.specs.declared.term.Term.{Term}
use Rattle.cql_parse.specs.declared.term.Term.TheVariants as term
use Rattle.cas_terms.specs.Constants.{is_in_range, text_bytes, number_bytes, blob_bytes, uuid_bytes, boolean_bytes, constant_bytes}
use Rattle.cas_terms.specs.Terms.{term_value, literal_value, literal_values, entry_from, entry_value, with_entry, by_path, elements_in, entries_in, set_elements, map_elements, given_elements, whole_elements, prepended_elements, removed_elements, entry_elements, removal_fits, key_fits}

-- ---- constants

abbrev pub IsOf : TypeTag → List ℕ → Type 0
IsOf tag b = is_value tag b ≡ true

if_holds : {X : Type 0} (P : X → Type 0) (b : Bool) (x : X) → (b ≡ true → P x) → IfSome (then_some b x) P
if_holds P true x p = p refl
if_holds P false x p = tt

text_is : (tag : TypeTag) (t : List ℕ) → IfSome (text_bytes tag t) (IsOf tag)
unfolding text_bytes
text_is Ascii t = if_holds (IsOf Ascii) _ t (λ e. e)
text_is Text t = if_holds (IsOf Text) _ t (λ e. e)
text_is BigInt t = tt
text_is Blob t = tt
text_is Boolean t = tt
text_is Date t = tt
text_is Int t = tt
text_is SmallInt t = tt
text_is Time t = tt
text_is Timestamp t = tt
text_is TimeUuid t = tt
text_is TinyInt t = tt
text_is Uuid t = tt

in_day : (n : ℤ) → is_in_range (pos 0) (pos LAST_NANOSECOND) n ≡ true → IsOf Time (to_be_bytes w64 (cast_unsigned w64 n))
in_day (negsuc n) e = cc
in_day (pos n) e =
    let few : n ≤ LAST_NANOSECOND = grind (arith, ints) in
    ap (λ m. nat_le m LAST_NANOSECOND) (from_be_bytes-to_be_bytes_8 n (omega arith)) ∙ grind (arith, nat_tests)

number_is : (tag : TypeTag) (n : ℤ) → IfSome (number_bytes tag n) (IsOf tag)
unfolding number_bytes
number_is TinyInt n = if_holds (IsOf TinyInt) _ _ (λ e. refl)
number_is SmallInt n = if_holds (IsOf SmallInt) _ _ (λ e. refl)
number_is Int n = if_holds (IsOf Int) _ _ (λ e. refl)
number_is BigInt n = if_holds (IsOf BigInt) _ _ (λ e. refl)
number_is Timestamp n = if_holds (IsOf Timestamp) _ _ (λ e. refl)
number_is Date n = if_holds (IsOf Date) _ _ (λ e. refl)
number_is Time n = if_holds (IsOf Time) _ _ (in_day n)
number_is Ascii n = tt
number_is Blob n = tt
number_is Boolean n = tt
number_is Text n = tt
number_is TimeUuid n = tt
number_is Uuid n = tt

blob_is : (tag : TypeTag) (b : List ℕ) → IfSome (blob_bytes tag b) (IsOf tag)
unfolding blob_bytes
blob_is Blob b = refl
blob_is Ascii b = tt
blob_is BigInt b = tt
blob_is Boolean b = tt
blob_is Date b = tt
blob_is Int b = tt
blob_is SmallInt b = tt
blob_is Text b = tt
blob_is Time b = tt
blob_is Timestamp b = tt
blob_is TimeUuid b = tt
blob_is TinyInt b = tt
blob_is Uuid b = tt

uuid_is : (tag : TypeTag) (u : List ℕ) → IfSome (uuid_bytes tag u) (IsOf tag)
unfolding uuid_bytes
uuid_is Uuid u = if_holds (IsOf Uuid) _ u (λ e. e)
uuid_is TimeUuid u = if_holds (IsOf TimeUuid) _ u (λ e. e)
uuid_is Ascii u = tt
uuid_is BigInt u = tt
uuid_is Blob u = tt
uuid_is Boolean u = tt
uuid_is Date u = tt
uuid_is Int u = tt
uuid_is SmallInt u = tt
uuid_is Text u = tt
uuid_is Time u = tt
uuid_is Timestamp u = tt
uuid_is TinyInt u = tt

boolean_is : (tag : TypeTag) (b : Bool) → IfSome (boolean_bytes tag b) (IsOf tag)
unfolding boolean_bytes
boolean_is Boolean true = refl
boolean_is Boolean false = refl
boolean_is Ascii b = tt
boolean_is BigInt b = tt
boolean_is Blob b = tt
boolean_is Date b = tt
boolean_is Int b = tt
boolean_is SmallInt b = tt
boolean_is Text b = tt
boolean_is Time b = tt
boolean_is Timestamp b = tt
boolean_is TimeUuid b = tt
boolean_is TinyInt b = tt
boolean_is Uuid b = tt

pub constant_is : (tag : TypeTag) (k : Constant) → IfSome (constant_bytes tag k) (IsOf tag)
unfolding constant_bytes
constant_is tag (constant.Text t) = text_is tag t
constant_is tag (constant.Number n) = number_is tag n
constant_is tag (constant.Blob b) = blob_is tag b
constant_is tag (constant.Uuid u) = uuid_is tag u
constant_is tag (constant.Boolean b) = boolean_is tag b

pub term_is : (tag : TypeTag) (t : Term) → IfSome (term_value tag t) (IsOf tag)
unfolding term_value
term_is tag (term.Constant c) = constant_is tag c
term_is tag (term.Literal x) = tt
term_is tag term.Null = tt

element_is : (tag : TypeTag) (x : Element) → IfSome (literal_value tag x) (IsOf tag)
unfolding literal_value
element_is tag (element.Constant c) = constant_is tag c
element_is tag element.Null = tt
element_is tag (element.Nested n) = tt

-- ---- literals

module _ {X Y : Type 0} (P : Y → Type 0) (f : X → Option Y) (each : (x : X) → IfSome (f x) P) where
  put : (o : Option Y) (ys : List Y) → IfSome o P → AllByRecursion P ys → AllByRecursion P (cons_option o ys)
  put None ys p all = all
  put (Some y) ys p all = (p, all)

  given_all : (xs : List X) → AllByRecursion P (filter_map f xs)
  given_all [] = tt
  given_all (x ∷ xs) = put (f x) (filter_map f xs) (each x) (given_all xs)

module _ {X Y : Type 0} (P : X → Type 0) (Q : Y → Type 0) (f : X → Y) (each : (x : X) → P x → Q (f x)) where
  map_all : (xs : List X) → AllByRecursion P xs → AllByRecursion Q (map f xs)
  map_all [] all = tt
  map_all (x ∷ xs) all = (each x all.0, map_all xs all.1)

-- an entry whose path and whose value are as they should
module _ (P : List ℕ → Type 0) (Q : Option (List ℕ) → Type 0) where
  abbrev Both : List ℕ × Option (List ℕ) → Type 0
  Both e = P e.0 × Q e.1

  inserted : (es : List (List ℕ × Option (List ℕ))) (k : List ℕ) (v : Option (List ℕ)) → AllByRecursion Both es → P k → Q v → AllByRecursion Both (insert_entry bytes_cmp es k v)
  inserted [] k v all p q = ((p, q), tt)
  inserted (e ∷ es) k v all p q =
      elim (bytes_cmp k e.0) as (λ r. AllByRecursion Both (match_ordering r ((k, v) ∷ e ∷ es) ((e.0, v) ∷ es) (e ∷ insert_entry bytes_cmp es k v))) [
        | Less ↦ ((p, q), all)
        | Equal ↦ ((all.0.0, q), all.1)
        | Greater ↦ (all.0, inserted es k v all.1 p q)
      ]

  folded : (es acc : List (List ℕ × Option (List ℕ))) → AllByRecursion Both acc → AllByRecursion Both es → AllByRecursion Both (fold with_entry acc es)
  folded [] acc done all = done
  folded (e ∷ es) acc done all = folded es (with_entry acc e) (inserted acc e.0 e.1 done all.0.0 all.0.1) all.1

  ordered : (es : List (List ℕ × Option (List ℕ))) → AllByRecursion Both es → AllByRecursion Both (by_path es)
  unfolding by_path
  ordered es all = folded es [] tt all

-- elements of the column, whose paths may be of any length
abbrev pub AreOf : Column → Elements → Type 0
AreOf c (elements.At es) = AllByRecursion (λ e. (is_path c e.0 ≡ true) × FitsGiven c e.1) es
AreOf c (elements.Appended vs) = (c.shape ≡ shape.List) × AllByRecursion (λ v. is_cell_value c v ≡ true) vs
AreOf c (elements.Prepended vs) = (c.shape ≡ shape.List) × AllByRecursion (λ v. is_cell_value c v ≡ true) vs

module _ (c : Column) where
  -- the column's paths are values of its type where it is a set or a map
  abbrev HasPaths : Type 0
  HasPaths = (b : List ℕ) → IsOf c.tag b → is_path c b ≡ true

  set_paths : c.shape ≡ shape.Set → HasPaths
  unfolding is_path
  set_paths e b is = ap (λ s. is_path_in s c.tag b) e ∙ is

  map_paths : c.shape ≡ shape.Map → HasPaths
  unfolding is_path
  map_paths e b is = ap (λ s. is_path_in s c.tag b) e ∙ is

  no_bytes : c.shape ≡ shape.Set → is_cell_value c [] ≡ true
  unfolding is_cell_value
  no_bytes e = ap (λ s. is_content s c.tag c.second []) e

  in_list : c.shape ≡ shape.List → (b : List ℕ) → IsOf c.tag b → is_cell_value c b ≡ true
  unfolding is_cell_value
  in_list e b is = ap (λ s. is_content s c.tag c.second b) e ∙ is

  in_map : c.shape ≡ shape.Map → (b : List ℕ) → IsOf (type_or_blob c.second) b → is_cell_value c b ≡ true
  unfolding is_cell_value
  in_map e b is = ap (λ s. is_content s c.tag c.second b) e ∙ is

  pub in_one : c.shape ≡ shape.One → (b : List ℕ) → IsOf c.tag b → is_cell_value c b ≡ true
  unfolding is_cell_value
  in_one e b is = ap (λ s. is_content s c.tag c.second b) e ∙ is

  sets : (there : Bool) (xs : List Element) → HasPaths → FitsGiven c (then_some there []) → AreOf c (set_elements there c.tag xs)
  unfolding set_elements
  sets there xs paths given =
      ordered (λ p. is_path c p ≡ true) (FitsGiven c) _
      (map_all (IsOf c.tag) (λ e. (is_path c e.0 ≡ true) × FitsGiven c e.1) (λ v. (v, then_some there [])) (λ v is. (paths v is, given)) (literal_values c.tag xs)
      (given_all (IsOf c.tag) (literal_value c.tag) (element_is c.tag) xs))

  entry_of : (k v : Option (List ℕ)) → HasPaths → c.shape ≡ shape.Map → IfSome k (IsOf c.tag) → IfSome v (IsOf (type_or_blob c.second))
      → IfSome (entry_from k v) (λ e. (is_path c e.0 ≡ true) × FitsGiven c e.1)
  entry_of None v paths e key value = tt
  entry_of (Some k) None paths e key value = tt
  entry_of (Some k) (Some v) paths e key value = (paths k key, in_map e v value)

  maps : (es : List Entry) → c.shape ≡ shape.Map → AreOf c (map_elements c.tag (type_or_blob c.second) es)
  unfolding map_elements entry_value
  maps es e =
      ordered (λ p. is_path c p ≡ true) (FitsGiven c) _
      (given_all (λ x. (is_path c x.0 ≡ true) × FitsGiven c x.1) (entry_value c.tag (type_or_blob c.second))
      (λ x. entry_of _ _ (map_paths e) e (element_is c.tag x.key) (element_is (type_or_blob c.second) x.value)) es)

  lists : (xs : List Element) → c.shape ≡ shape.List → AllByRecursion (λ v. is_cell_value c v ≡ true) (literal_values c.tag xs)
  lists xs e = given_all (λ v. is_cell_value c v ≡ true) (literal_value c.tag) (λ x. weaker (literal_value c.tag x) (element_is c.tag x)) xs
    where
      weaker : (o : Option (List ℕ)) → IfSome o (IsOf c.tag) → IfSome o (λ v. is_cell_value c v ≡ true)
      weaker None is = tt
      weaker (Some v) is = in_list e v is

  by_shape : (x : Literal) (s : Shape) → c.shape ≡ s → AreOf c (elim s [
    | shape.One ↦ elements.At []
    | shape.Set ↦ set_elements true c.tag (elements_in x)
    | shape.List ↦ elements.Appended (literal_values c.tag (elements_in x))
    | shape.Map ↦ map_elements c.tag (type_or_blob c.second) (entries_in x)
  ])
  by_shape x shape.One e = tt
  by_shape x shape.Set e = sets true (elements_in x) (set_paths e) (no_bytes e)
  by_shape x shape.List e = (e, lists (elements_in x) e)
  by_shape x shape.Map e = maps (entries_in x) e

  pub given_are : (x : Literal) → AreOf c (given_elements c x)
  unfolding given_elements
  given_are x = by_shape x c.shape refl

  pub whole_are : (t : Term) → AreOf c (whole_elements c t)
  unfolding whole_elements
  whole_are (term.Literal x) = given_are x
  whole_are (term.Constant k) = given_are literal.Braces
  whole_are term.Null = given_are literal.Braces

  pub prepended_are : (x : Literal) → c.shape ≡ shape.List → AreOf c (prepended_elements c.tag x)
  unfolding prepended_elements
  prepended_are x e = (e, lists (elements_in x) e)

  -- a column whose elements have paths is a set or a map
  paths_of : (s : Shape) → c.shape ≡ s → is_some (path_type s c.tag) ≡ true → HasPaths
  paths_of shape.One e has = cc
  paths_of shape.Set e has = set_paths e
  paths_of shape.List e has = cc
  paths_of shape.Map e has = map_paths e

  first : (a b : Bool) → (a && b) ≡ true → a ≡ true
  first true b e = refl
  first false b e = cc

  pub removed_are : (x : Literal) → removal_fits c x ≡ true → AreOf c (removed_elements c.tag x)
  unfolding removed_elements removal_fits
  removed_are x fits = sets false (elements_in x) (paths_of c.shape refl (first _ _ fits)) tt

  is_a_map : (s : Shape) → is_map s ≡ true → s ≡ shape.Map
  is_a_map shape.One e = cc
  is_a_map shape.Set e = cc
  is_a_map shape.List e = cc
  is_a_map shape.Map e = refl

  entry_by : (k v : Option (List ℕ)) → c.shape ≡ shape.Map → IfSome k (IsOf c.tag) → IfSome v (IsOf (type_or_blob c.second)) → AreOf c (entry_elements k v)
  entry_by None v e key value = tt
  entry_by (Some k) None e key value = ((map_paths e k key, tt), tt)
  entry_by (Some k) (Some v) e key value = ((map_paths e k key, in_map e v value), tt)

  pub entry_are : (k : Constant) (v : Option (List ℕ)) → key_fits c k ≡ true → IfSome v (IsOf (type_or_blob c.second)) → AreOf c (entry_elements (constant_bytes c.tag k) v)
  unfolding key_fits
  entry_are k v fits value = entry_by (constant_bytes c.tag k) v (is_a_map c.shape (first _ _ fits)) (constant_is c.tag k) value
