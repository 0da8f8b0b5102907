-- What a partition comes to as its fragments are taken one by one.
use Rattle.std.proofs.Common.{◌≡◌, ℕ, ◌+◌, ◌<◌, ◌≤◌, true, false, cond, List, [], ◌∷◌, ◌++◌, length, Option, None, refl, sym, ap, ◌∙◌, append_assoc, arith}
use Rattle.std.specs.List.{AllByRecursion, flat_map}
use Rattle.std.proofs.lemmas.Bool.{leb-true, le-leb}
use Rattle.std.proofs.lemmas.Grind.{flat_map-append}
use Rattle.std.proofs.lemmas.List.{append-nil, length-append}
use Rattle.cas_atoms.specs.declared.atom.Atom.{Atom}
use Rattle.cas_cell.specs.declared.deletion.Deletion.{Deletion}
use Rattle.cas_codec.specs.Fields.{u32}
use Rattle.cas_codec.proofs.FieldLengths.{u32_long}
use Rattle.cas_streams.specs.Flat.{changes, at_end}
use Rattle.cas_streams.specs.Joined.{opened}
use Rattle.cas_streams.specs.declared.fragment.Fragment.{Fragment}
use Rattle.cas_streams.specs.declared.fragment.Fragment.TheVariants as fragment
use Rattle.cas_facts.specs.Told.{top_told, told, all_told}
use Rattle.cas_fragments.specs.Spelling.{fragment_bytes, body_bytes, block_bytes}
use Rattle.cas_fragments.specs.Blocks.{is_full, last_block, blocks_from, behind_statics}
use Rattle.cas_fragments.specs.Laws.{joined}
use Rattle.cas_fragments.specs.declared.blocks.TheConstants.{BLOCK_LEAST}
use Rattle.cas_tables.specs.Places.{block_entries}
use Rattle.cas_index.specs.declared.entries.BlockEntry.{BlockEntry}
use Rattle.cas_sstwrite.specs.Rooms.{IsHeld}
use Rattle.cas_sstwrite.specs.Inner.Parts.{waiting, with_block, with_entry, entry_of}

-- ---- one fragment more

pub more_behind : (gs : List Fragment) (f : Fragment) (rest : List Fragment) → IsHeld f → behind_statics (gs ++ f ∷ []) ++ rest ≡ behind_statics gs ++ f ∷ rest
more_behind [] (fragment.Static cs) rest held = absurd held
more_behind [] (fragment.Row r) rest held = refl
more_behind [] (fragment.Marker cut d) rest held = refl
more_behind (fragment.Static cs ∷ gs) f rest held = append_assoc gs (f ∷ []) rest
more_behind (fragment.Row r ∷ gs) f rest held = append_assoc (fragment.Row r ∷ gs) (f ∷ []) rest
more_behind (fragment.Marker cut d ∷ gs) f rest held = append_assoc (fragment.Marker cut d ∷ gs) (f ∷ []) rest

pub one_behind : (gs : List Fragment) (f : Fragment) → IsHeld f → behind_statics (gs ++ f ∷ []) ≡ behind_statics gs ++ f ∷ []
one_behind gs f held = sym (append-nil (behind_statics (gs ++ f ∷ []))) ∙ more_behind gs f [] held

pub at_both : (now : Option Deletion) (xs ys : List Fragment) → at_end now (changes (xs ++ ys)) ≡ at_end (at_end now (changes xs)) (changes ys)
at_both now [] ys = refl
at_both now (fragment.Static cs ∷ xs) ys = at_both now xs ys
at_both now (fragment.Row r ∷ xs) ys = at_both now xs ys
at_both now (fragment.Marker cut d ∷ xs) ys = at_both d xs ys

at_one : (now : Option Deletion) (f : Fragment) → at_end now (changes (f ∷ [])) ≡ opened now f
at_one now (fragment.Static cs) = refl
at_one now (fragment.Row r) = refl
at_one now (fragment.Marker cut d) = refl

pub force_more : (gs : List Fragment) (f : Fragment) (now : Option Deletion) → IsHeld f → now ≡ at_end None (changes (behind_statics gs))
    → opened now f ≡ at_end None (changes (behind_statics (gs ++ f ∷ [])))
force_more gs f now held e =
    ap (λ d. opened d f) e
    ∙ sym (at_one (at_end None (changes (behind_statics gs))) f)
    ∙ sym (at_both None (behind_statics gs) (f ∷ []))
    ∙ ap (λ (xs : List Fragment). at_end None (changes xs)) (sym (one_behind gs f held))

pub told_more : (A : List Atom) (top : Option Deletion) (gs : List Fragment) (f : Fragment) → (A ++ all_told top gs) ++ told f ≡ A ++ all_told top (gs ++ f ∷ [])
told_more A top gs f =
    append_assoc A (all_told top gs) (told f)
    ∙ ap (λ (t : List Atom). A ++ t) (append_assoc (top_told top) (flat_map told gs) (told f)
    ∙ ap (λ (t : List Atom). top_told top ++ t) (ap (λ (t : List Atom). flat_map told gs ++ t) (sym (append-nil (told f))) ∙ sym (flat_map-append told gs (f ∷ []))))

-- ---- what waits

not_empty : (xs : List ℕ) → 0 < length xs → with_block xs ≡ xs
not_empty [] some = absurd (omega arith)
not_empty (x ∷ xs) some = refl

pub waits_long : (f : Fragment) (fs : List Fragment) → length (waiting (f ∷ fs)) ≡ 4 + length (body_bytes (f ∷ fs))
waits_long f fs = omega (arith, length-append (u32 0) (body_bytes (f ∷ fs)), u32_long 0)

pub waiting_some : (fs : List Fragment) (f : Fragment) → waiting (fs ++ f ∷ []) ≡ u32 0 ++ body_bytes (fs ++ f ∷ [])
waiting_some [] f = refl
waiting_some (g ∷ fs) f = refl

body_more : (fs : List Fragment) (f : Fragment) → body_bytes (fs ++ f ∷ []) ≡ body_bytes fs ++ fragment_bytes f
body_more fs f = flat_map-append fragment_bytes fs (f ∷ []) ∙ ap (λ (t : List ℕ). body_bytes fs ++ t) (append-nil (fragment_bytes f))

pub buffer_more : (begun : List Fragment) (f : Fragment) → with_block (waiting begun) ++ fragment_bytes f ≡ waiting (begun ++ f ∷ [])
buffer_more [] f = ap (λ (t : List ℕ). u32 0 ++ t) (sym (append-nil (fragment_bytes f)))
buffer_more (g ∷ gs) f =
    ap (λ (t : List ℕ). t ++ fragment_bytes f) (not_empty (waiting (g ∷ gs)) (omega (arith, waits_long g gs)))
    ∙ append_assoc (u32 0) (body_bytes (g ∷ gs)) (fragment_bytes f)
    ∙ ap (λ (t : List ℕ). u32 0 ++ t) (sym (body_more (g ∷ gs) f))

-- ---- what the index is to tell

pub entries_last : (place : ℕ) (now : Option Deletion) (bs : List (List Fragment)) (g : Fragment) (gs : List Fragment) → AllByRecursion (λ b. is_full b ≡ true) bs
    → block_entries place now (bs ++ (g ∷ gs) ∷ [])
    ≡ block_entries place now bs ++ entry_of g (place + length (flat_map block_bytes bs)) (at_end now (changes (joined bs))) ∷ []
entries_last place now [] g gs full = ap (λ n. entry_of g n now ∷ []) (let e : place ≡ place + 0 = omega arith in e)
entries_last place now ([] ∷ bs) g gs full = absurd (cc (full.0))
entries_last place now ((f ∷ fs) ∷ bs) g gs full =
    let block : List ℕ = block_bytes (f ∷ fs) in
    let more : ℕ = length (flat_map block_bytes bs) in
    let long : (place + length block) + more ≡ place + length (block ++ flat_map block_bytes bs) = omega (arith, length-append block (flat_map block_bytes bs)) in
    ap (λ (es : List BlockEntry). entry_of f place now ∷ es)
    (entries_last (place + length block) (at_end now (changes (f ∷ fs))) bs g gs full.1
    ∙ ap (λ n. block_entries (place + length block) (at_end now (changes (f ∷ fs))) bs ++ entry_of g n (at_end (at_end now (changes (f ∷ fs))) (changes (joined bs))) ∷ []) long
    ∙ ap (λ d. block_entries (place + length block) (at_end now (changes (f ∷ fs))) bs ++ entry_of g (place + length (block ++ flat_map block_bytes bs)) d ∷ []) (sym (at_both now (f ∷ fs) (joined bs))))

pub last_more : (begun : List Fragment) (f : Fragment) → last_block (begun ++ f ∷ []) ≡ (begun ++ f ∷ []) ∷ []
last_more [] f = refl
last_more (g ∷ gs) f = refl

pub entries_more : (start : ℕ) (done : List (List Fragment)) (begun : List Fragment) (f : Fragment) (place : ℕ) (now : Option Deletion) (es : List BlockEntry)
    → AllByRecursion (λ b. is_full b ≡ true) done → place ≡ start + length (flat_map block_bytes done) → now ≡ at_end None (changes (joined done ++ begun))
    → es ≡ block_entries start None (done ++ last_block begun)
    → with_entry (waiting begun) es (entry_of f place now) ≡ block_entries start None (done ++ (begun ++ f ∷ []) ∷ [])
entries_more start done [] f place now es full at force e =
    ap (λ (xs : List BlockEntry). xs ++ entry_of f place now ∷ []) (e ∙ ap (block_entries start None) (append-nil done))
    ∙ ap (λ n. block_entries start None done ++ entry_of f n now ∷ []) at
    ∙ ap (λ d. block_entries start None done ++ entry_of f (start + length (flat_map block_bytes done)) d ∷ [])
    (force ∙ ap (λ (xs : List Fragment). at_end None (changes xs)) (append-nil (joined done)))
    ∙ sym (entries_last start None done f [] full)
entries_more start done (g ∷ gs) f place now es full at force e =
    kept (waiting (g ∷ gs)) (omega (arith, waits_long g gs))
    ∙ e ∙ entries_last start None done g gs full ∙ sym (entries_last start None done g (gs ++ f ∷ []) full)
  where
    kept : (xs : List ℕ) → 0 < length xs → with_entry xs es (entry_of f place now) ≡ es
    kept [] some = absurd (omega arith)
    kept (x ∷ xs) some = refl

-- ---- where blocks are cut

pub cut_wait : (begun : List Fragment) (f : Fragment) (rest : List Fragment) → is_full (begun ++ f ∷ []) ≡ false → blocks_from begun (f ∷ rest) ≡ blocks_from (begun ++ f ∷ []) rest
cut_wait begun f rest e = ap (λ b. cond b ((begun ++ f ∷ []) ∷ blocks_from [] rest) (blocks_from (begun ++ f ∷ []) rest)) e

pub cut_end : (begun : List Fragment) (f : Fragment) (rest : List Fragment) → is_full (begun ++ f ∷ []) ≡ true → blocks_from begun (f ∷ rest) ≡ (begun ++ f ∷ []) ∷ blocks_from [] rest
cut_end begun f rest e = ap (λ b. cond b ((begun ++ f ∷ []) ∷ blocks_from [] rest) (blocks_from (begun ++ f ∷ []) rest)) e

pub full_at : (fs : List Fragment) → BLOCK_LEAST ≤ length (body_bytes fs) → is_full fs ≡ true
full_at fs h = le-leb BLOCK_LEAST (length (body_bytes fs)) h

pub not_full : (fs : List Fragment) → length (body_bytes fs) < BLOCK_LEAST → is_full fs ≡ false
not_full fs below = elim (is_full fs) as (λ t. is_full fs ≡ t → t ≡ false) [
  | true ↦ λ e. absurd (let le : BLOCK_LEAST ≤ length (body_bytes fs) = leb-true BLOCK_LEAST (length (body_bytes fs)) e in omega arith)
  | false ↦ λ e. refl
] refl
