-- A block further, or the end of a partition.
use Rattle.std.proofs.Common.{◌≡◌, ℕ, ◌+◌, ◌<◌, Bool, true, false, List, [], ◌∷◌, ◌++◌, length, Option, None, Some, Ok, inl, inr, refl, sym, ap, subst, ◌∙◌, arith}
use Rattle.std.specs.Prelude.{is_some, is_none, not, IsSome, slice_get}
use Rattle.std.specs.Option.{option_to_list}
use Rattle.cas_types.specs.declared.schema.Column.{Column}
use Rattle.cas_cell.specs.declared.deletion.Deletion.{Deletion}
use Rattle.cas_bounds.specs.declared.order.Ordered.{Ordered}
use Rattle.cas_bounds.specs.declared.cuts.Cut.{Cut}
use Rattle.cas_codec.specs.Reading.{Left, bytes32_at}
use Rattle.cas_codec.specs.declared.fault.ReadFault.TheVariants.{Short, Bad}
use Rattle.cas_codec.proofs.Exactness.{read_left}
use Rattle.cas_codec.proofs.FieldLengths.{bytes32_long}
use Rattle.cas_streams.specs.Streams.{IsThere}
use Rattle.cas_streams.specs.Places.{place_of}
use Rattle.cas_streams.specs.declared.fragment.Fragment.{Fragment}
use Rattle.cas_streams.specs.declared.fragment.Fragment.TheVariants as fragment
use Rattle.cas_fragments.specs.Allowed.{AreShort}
use Rattle.cas_fragments.specs.Spelling.{body_bytes, block_bytes}
use Rattle.cas_fragments.specs.Blocks.{Reached, past_all, last_place}
use Rattle.cas_fragments.specs.Laws.{IsBlock}
use Rattle.cas_fragments.specs.Reading.{body_at, next_block_at}
use Rattle.cas_fragments.proofs.BlockLoop.{past_pushed}
use Rattle.cas_fragments.proofs.LengthLaws.{has_spelling}
use Rattle.cas_index.specs.Allowed.{HasRoom}
use Rattle.cas_tables.specs.Places.{first_cut, block_entries}
use Rattle.cas_blocks.proofs.NextBlock.{next_is, next_bad}
use Rattle.cas_sstread.specs.Loading.{IsBadAt}
use Rattle.cas_verify.specs.Inner.Walks.{HasCut, IsFirst}
use Rattle.cas_verify.proofs.Turns.{bad_then}

-- ---- the next block isn't there

module _ (order : List Ordered) (columns : List Column) (ends goes_on : Bool) (r : Reached) (left : Left) where
  pub body_bad : (at : ℕ) → IsBadAt (bytes32_at left) at → IsBadAt (next_block_at order columns ends goes_on r left) at
  unfolding next_block_at
  body_bad at bad = bad_then (bytes32_at left) _ at bad

  pub inner_bad : (body : List ℕ) (new : Left) (at : ℕ) → bytes32_at left ≡ Ok (body, new) → 0 < length body → goes_on ≡ true
      → IsBadAt (body_at order columns r (read_left body (left.at + 4))) at → IsBadAt (next_block_at order columns ends goes_on r left) at
  inner_bad body new at there some goes (inl e) = inl (next_bad order columns ends goes_on r left body new there some goes (Short at) e)
  inner_bad body new at there some goes (inr e) = inr (next_bad order columns ends goes_on r left body new there some goes (Bad at) e)

  -- ---- by the bytes as the code has them
  pub block_bad : (body bytes : List ℕ) (new : Left) → bytes32_at left ≡ Ok (body, new) → body ≡ bytes → 0 < length bytes → goes_on ≡ true → (at : ℕ)
      → IsBadAt (body_at order columns r (read_left bytes (left.at + 4))) at → IsBadAt (next_block_at order columns ends goes_on r left) at
  block_bad body bytes new there same some goes at bad = inner_bad bytes new at (there ∙ ap (λ (b : List ℕ). Ok (b, new)) same) some goes bad

  pub block_read : (body bytes : List ℕ) (new after : Left) (fs : List Fragment) (p : List Fragment × Left) → bytes32_at left ≡ Ok (body, new) → body ≡ bytes
      → 0 < length bytes → goes_on ≡ true → body_at order columns r (read_left bytes (left.at + 4)) ≡ Ok p → p.0 ≡ fs → new ≡ after
      → next_block_at order columns ends goes_on r left ≡ Ok (Some fs, after)
  block_read body bytes new after fs p there same some goes is which behind =
      next_is order columns ends goes_on r left bytes new (there ∙ ap (λ (b : List ℕ). Ok (b, new)) same) some goes p.0 p.1 is
      ∙ (λ i. Ok (Some (which i), behind i))

-- ---- what a block is

pub first_of : (columns : List Column) (r : Reached) (fs : List Fragment) → IsBlock columns r fs → IsFirst fs
first_of columns r [] block = absurd block.some
first_of columns r (fragment.Static cs ∷ fs) block = absurd block.fit.0
first_of columns r (fragment.Row row ∷ fs) block = (has_spelling columns (fragment.Row row) block.fit.0).0
first_of columns r (fragment.Marker cut d ∷ fs) block = has_spelling columns (fragment.Marker cut d) block.fit.0

pub first_there : (fs : List Fragment) → IsFirst fs → IsThere fs
first_there [] first = first
first_there (f ∷ fs) first = tt

pub first_has : (fs : List Fragment) (f : Fragment) → Some f ≡ slice_get fs 0 → IsFirst fs → HasCut f
first_has [] f e first = absurd first
first_has (g ∷ fs) f e first = let same : g ≡ f = cc in subst HasCut same first

pub first_none : (fs : List Fragment) → None ≡ slice_get fs 0 → IsFirst fs → ⊥
first_none [] e first = first
first_none (g ∷ fs) e first = absurd cc

cut_short : (f : Fragment) → HasCut f → AreShort (first_cut f).prefix
cut_short (fragment.Static cs) has = absurd has
cut_short (fragment.Row r) has = has
cut_short (fragment.Marker cut d) has = has

-- the entry of a block has room, and is what the index is to tell
pub entry_room : (f : Fragment) (cut : Cut) (place : ℕ) (now : Option Deletion) → HasCut f → cut ≡ first_cut f → HasRoom (record { cut = cut; place = place; in_force = now })
entry_room f cut place now has is =
    let short : AreShort cut.prefix = subst (λ (c : Cut). AreShort c.prefix) (sym is) (cut_short f has) in record { few = short.0; short = short.1 }

pub entry_told : (fs : List Fragment) (f : Fragment) (cut : Cut) (place : ℕ) (now : Option Deletion) → Some f ≡ slice_get fs 0 → cut ≡ first_cut f
    → record { cut = cut; place = place; in_force = now } ∷ [] ≡ block_entries place now (fs ∷ [])
entry_told [] f cut place now e is = absurd cc
entry_told (g ∷ fs) f cut place now e is =
    let same : f ≡ g = cc in ap (λ (c : Cut). record { cut = c; place = place; in_force = now } ∷ []) (is ∙ ap first_cut same)

-- the last of the fragments was taken
pub reached_pop : (r : Reached) (fs front : List Fragment) (last : Option Fragment) (force : Option Deletion) → fs ≡ front ++ option_to_list last → IsSome last
    → force ≡ (past_all r fs).force → record { last = last_place last; force = force } ≡ past_all r fs
reached_pop r fs front None force e some same = absurd (let no : false ≡ true = some in cc)
reached_pop r fs front (Some x) force e some same =
    let last : place_of x ≡ (past_all r fs).last = sym (ap (λ gs. (past_all r gs).last) e ∙ ap (λ (q : Reached). q.last) (past_pushed r front x)) in
    λ i. record { last = last i; force = same i }

pub block_long : (fs : List Fragment) → length (block_bytes fs) ≡ 4 + length (body_bytes fs)
block_long fs = bytes32_long (body_bytes fs)

pub none_is : {X : Type 0} (o : Option X) → is_none o ≡ true → o ≡ None
none_is None e = refl
none_is (Some x) e = absurd cc

pub first_some : (fs : List Fragment) → IsFirst fs → 0 < length fs
first_some [] first = absurd first
first_some (f ∷ fs) first = omega arith

pub none_by : {X : Type 0} (o : Option X) (b : Bool) → is_some o ≡ not b → b ≡ is_none o
none_by None true e = refl
none_by None false e = absurd cc
none_by (Some x) true e = absurd cc
none_by (Some x) false e = refl
