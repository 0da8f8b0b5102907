-- What stands for a kind, a shape, a type, a strategy or a unit is read exactly.
use Rattle.std.proofs.Common.{◌≡◌, ◌≢◌, ℕ, zero, suc, ◌<◌, ◌≤◌, ◌^◌, leb, eqb, Bool, true, false, ◌&&◌, refl, ap, ◌∙◌, arith}
use Rattle.std.specs.Int.{is_in_range}
use Rattle.std.proofs.lemmas.Bool.{leb-true, le-leb, eqb-true, eqb-false, and_parts, and_from}
use Rattle.cas_types.specs.declared.tag.TypeTag.{TypeTag}
use Rattle.cas_types.specs.declared.tag.TypeTag.TheVariants.{Ascii, BigInt, Blob, Boolean, Date, Int, SmallInt, Text, Time, Timestamp, TimeUuid, TinyInt, Uuid}
use Rattle.cas_types.specs.declared.schema.Kind.{Kind}
use Rattle.cas_types.specs.declared.schema.Kind.TheVariants.{Partition, Ascending, Descending, Static, Regular}
use Rattle.cas_types.specs.declared.schema.Shape.{Shape}
use Rattle.cas_types.specs.declared.schema.Shape.TheVariants as shape
use Rattle.cas_types.specs.declared.schema.Strategy.{Strategy}
use Rattle.cas_types.specs.declared.schema.Strategy.TheVariants.{SizeTiered, Leveled, TimeWindow}
use Rattle.cas_types.specs.declared.schema.Unit.{Unit as WindowUnit}
use Rattle.cas_types.specs.declared.schema.Unit.TheVariants.{Minutes, Hours, Days}
use Rattle.cas_codec.specs.Reading.{checked, u8_at}
use Rattle.cas_codec.specs.Fields.{u8}
use Rattle.cas_codec.specs.Exact.{IsExact}
use Rattle.cas_codec.proofs.Exactness.{exact_checked, exact_map}
use Rattle.cas_codec.proofs.FieldLaws.{u8_field}
use Rattle.cas_schemas.specs.Codes.{kind_code, shape_code, tag_code, strategy_code, unit_code, kind_of, shape_of, tag_of, strategy_of, unit_of, coded_at}

pub ends : (least greatest n : ℕ) → is_in_range least greatest n ≡ true → (least ≤ n) × (n ≤ greatest)
ends least greatest n e =
    let both = and_parts (leb least n) (leb n greatest) e in
    (leb-true least n both.0, leb-true n greatest both.1)

pub within : (least greatest n : ℕ) → least ≤ n → n ≤ greatest → is_in_range least greatest n ≡ true
within least greatest n low high = and_from (leb least n) (leb n greatest) (le-leb least n low) (le-leb n greatest high)

-- the test holds of each number up to the last
abbrev holds_to : ℕ → (ℕ → Bool) → Bool
holds_to zero test = test zero
holds_to (suc last) test = test (suc last) && holds_to last test

holds_at : (last : ℕ) (test : ℕ → Bool) → holds_to last test ≡ true → (n : ℕ) → n ≤ last → test n ≡ true
holds_at zero test all zero low = all
holds_at zero test all (suc n) low = absurd (omega arith)
holds_at (suc last) test all n low =
    let both = and_parts (test (suc last)) (holds_to last test) all in
    elim (eqb n (suc last)) as (λ b. eqb n (suc last) ≡ b → test n ≡ true) [
      | true ↦ λ is. ap test (eqb-true n (suc last) is) ∙ both.0
      | false ↦ λ other. holds_at last test both.1 n (let differ : n ≢ suc last = eqb-false n (suc last) other in omega (arith, differ))
    ] refl

-- a value's code is one up to the last, and stands for the value
abbrev IsCoded : {A : Type 0} → ℕ → (ℕ → A) → (A → ℕ) → A → Type 0
IsCoded last of code a = (code a ≤ last) × (of (code a) ≡ a)

-- bytes of codes are read exactly where each code up to the last is its value's
coded : {A : Type 0} (last : ℕ) (of : ℕ → A) (code : A → ℕ) → last < 2 ^ 8 → ((a : A) → IsCoded last of code a)
    → holds_to last (λ n. eqb (code (of n)) n) ≡ true → IsExact (λ a. Unit {0}) (λ a. u8 (code a)) (coded_at last of)
unfolding coded_at
coded {A} last of code short are found =
    exact_map (λ n. (n < 2 ^ 8) × (is_in_range 0 last n ≡ true)) u8 (checked (is_in_range 0 last) u8_at) (λ a. Unit {0}) (λ a. u8 (code a)) of
    (exact_checked (λ n. n < 2 ^ 8) u8 u8_at (is_in_range 0 last) u8_field.exact)
    (λ n fit. (tt, ap u8 (eqb-true (code (of n)) n (holds_at last (λ n. eqb (code (of n)) n) found n (ends 0 last n fit.1).1))))
    (λ a fit. (code a, (omega (arith, (are a).0, short), within 0 last (code a) (omega arith) (are a).0), (are a).1))

kind_codes : (a : Kind) → IsCoded 4 kind_of kind_code a
kind_codes Partition = (omega arith, refl)
kind_codes Ascending = (omega arith, refl)
kind_codes Descending = (omega arith, refl)
kind_codes Regular = (omega arith, refl)
kind_codes Static = (omega arith, refl)

pub kind_exact : IsExact (λ a. Unit {0}) (λ a. u8 (kind_code a)) (coded_at 4 kind_of)
kind_exact = coded 4 kind_of kind_code (omega arith) kind_codes refl

shape_codes : (a : Shape) → IsCoded 3 shape_of shape_code a
shape_codes shape.One = (omega arith, refl)
shape_codes shape.Set = (omega arith, refl)
shape_codes shape.List = (omega arith, refl)
shape_codes shape.Map = (omega arith, refl)

pub shape_exact : IsExact (λ a. Unit {0}) (λ a. u8 (shape_code a)) (coded_at 3 shape_of)
shape_exact = coded 3 shape_of shape_code (omega arith) shape_codes refl

tag_codes : (a : TypeTag) → IsCoded 12 tag_of tag_code a
tag_codes Ascii = (omega arith, refl)
tag_codes BigInt = (omega arith, refl)
tag_codes Blob = (omega arith, refl)
tag_codes Boolean = (omega arith, refl)
tag_codes Date = (omega arith, refl)
tag_codes Int = (omega arith, refl)
tag_codes SmallInt = (omega arith, refl)
tag_codes Text = (omega arith, refl)
tag_codes Time = (omega arith, refl)
tag_codes Timestamp = (omega arith, refl)
tag_codes TimeUuid = (omega arith, refl)
tag_codes TinyInt = (omega arith, refl)
tag_codes Uuid = (omega arith, refl)

pub tag_exact : IsExact (λ a. Unit {0}) (λ a. u8 (tag_code a)) (coded_at 12 tag_of)
tag_exact = coded 12 tag_of tag_code (omega arith) tag_codes refl

strategy_codes : (a : Strategy) → IsCoded 2 strategy_of strategy_code a
strategy_codes SizeTiered = (omega arith, refl)
strategy_codes Leveled = (omega arith, refl)
strategy_codes TimeWindow = (omega arith, refl)

pub strategy_exact : IsExact (λ a. Unit {0}) (λ a. u8 (strategy_code a)) (coded_at 2 strategy_of)
strategy_exact = coded 2 strategy_of strategy_code (omega arith) strategy_codes refl

unit_codes : (a : WindowUnit) → IsCoded 2 unit_of unit_code a
unit_codes Minutes = (omega arith, refl)
unit_codes Hours = (omega arith, refl)
unit_codes Days = (omega arith, refl)

pub unit_exact : IsExact (λ a. Unit {0}) (λ a. u8 (unit_code a)) (coded_at 2 unit_of)
unit_exact = coded 2 unit_of unit_code (omega arith) unit_codes refl
