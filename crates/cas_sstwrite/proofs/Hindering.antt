-- Why a partition isn't written.
use Rattle.std.proofs.Common.{◌≡◌, ℕ, ◌+◌, ◌<◌, ◌≤◌, ◌^◌, List, [], ◌∷◌, ◌++◌, length, drop, Option, refl, ap, subst, ◌∙◌, arith}
use Rattle.std.specs.List.{AllByRecursion, flat_map}
use Rattle.std.proofs.lemmas.Grind.{flat_map-append}
use Rattle.std.proofs.lemmas.List.{length-append, drop_at}
use Rattle.cas_cell.specs.declared.deletion.Deletion.{Deletion}
use Rattle.cas_codec.specs.Fields.{u32}
use Rattle.cas_codec.proofs.FieldLengths.{u32_long, bytes32_long}
use Rattle.cas_streams.specs.declared.fragment.Fragment.{Fragment}
use Rattle.cas_facts.specs.declared.facts.Facts.{Facts}
use Rattle.cas_fragments.specs.Spelling.{body_bytes, block_bytes}
use Rattle.cas_fragments.specs.Blocks.{blocks_from, blocks_of, blocks_bytes, behind_statics}
use Rattle.cas_fragments.specs.declared.blocks.TheConstants.{BLOCK_LEAST}
use Rattle.cas_sstwrite.specs.Rooms.{IsHeld}
use Rattle.cas_sstwrite.specs.declared.fault.Measure.TheVariants.{FileBytes, BlockBytes, Partitions}
use Rattle.cas_sstwrite.specs.declared.fault.WriteFault.{WriteFault}
use Rattle.cas_sstwrite.specs.declared.fault.WriteFault.TheVariants.{Failed, Order, TooMany, Unfit, Mem}
use Rattle.cas_sstwrite.specs.declared.held.Part.{Part}
use Rattle.cas_sstwrite.specs.Inner.Sinks.{LongFault}
use Rattle.cas_sstwrite.specs.Inner.Parts.{waiting, Taken, Added, AddFault, BlockFault, SealFault, Hinders, ended}
use Rattle.cas_sstwrite.proofs.Cutting.{cut_end, full_at}
use Rattle.cas_sstwrite.proofs.Taking.{body_waits, whole_text}

pub too_long : (place a b : ℕ) (e : WriteFault) → a ≡ 4 + b → LongFault place a e → BlockFault place b e
too_long place a b Failed long why = tt
too_long place a b Order long why = absurd why
too_long place a b (TooMany FileBytes limit) long why = (why.0, omega (arith, why.1))
too_long place a b (TooMany BlockBytes limit) long why = absurd why
too_long place a b (TooMany Partitions limit) long why = absurd why
too_long place a b Unfit long why = absurd why
too_long place a b Mem long why = tt

held_at : (rows : List Fragment) (f : Fragment) (rest : List Fragment) → AllByRecursion IsHeld (rows ++ f ∷ rest) → IsHeld f
held_at [] f rest all = all.0
held_at (r ∷ rows) f rest all = held_at rows f rest all.1

pub hinder_add : (start : ℕ) (rows : List Fragment) (f : Fragment) (rest : List Fragment) (e : WriteFault) → AddFault f e → Hinders start (rows ++ f ∷ rest) e
hinder_add start rows f rest Failed why = absurd why
hinder_add start rows f rest Order why = absurd why
hinder_add start rows f rest (TooMany what limit) why = absurd why
hinder_add start rows f rest Unfit why = λ all. why (held_at rows f rest all)
hinder_add start rows f rest Mem why = tt

long_at : (done : List (List Fragment)) (b : List Fragment) (others : List (List Fragment))
    → length (flat_map block_bytes done) + (4 + length (body_bytes b)) ≤ length (blocks_bytes (done ++ b ∷ others))
long_at done b others =
    omega (
      arith,
      ap length (flat_map-append block_bytes done (b ∷ others)),
      length-append (flat_map block_bytes done) (block_bytes b ++ flat_map block_bytes others),
      length-append (block_bytes b) (flat_map block_bytes others),
      bytes32_long (body_bytes b),
      length-append (flat_map block_bytes (done ++ b ∷ others)) (u32 0),
    )

short_at : (done : List (List Fragment)) (b : List Fragment) (others : List (List Fragment)) → AllByRecursion (λ b. length (body_bytes b) < 2 ^ 32) (done ++ b ∷ others)
    → length (body_bytes b) < 2 ^ 32
short_at [] b others all = all.0
short_at (c ∷ done) b others all = short_at done b others all.1

-- a block that stands among those of the rows isn't written
pub hinder_at : (start place : ℕ) (rows : List Fragment) (done : List (List Fragment)) (b : List Fragment) (others : List (List Fragment)) (long : ℕ) (e : WriteFault)
    → blocks_of rows ≡ done ++ b ∷ others → place ≡ start + length (flat_map block_bytes done) → long ≡ length (body_bytes b) → BlockFault place long e → Hinders start rows e
hinder_at start place rows done b others long Failed blocks at same why = tt
hinder_at start place rows done b others long Order blocks at same why = absurd why
hinder_at start place rows done b others long (TooMany FileBytes limit) blocks at same why =
    (why.0, omega (arith, why.1, long_at done b others, ap (λ bs. length (blocks_bytes bs)) blocks))
hinder_at start place rows done b others long (TooMany BlockBytes limit) blocks at same why =
    (why.0, λ all. let low : length (body_bytes b) < 2 ^ 32 = short_at done b others (subst (AllByRecursion (λ b. length (body_bytes b) < 2 ^ 32)) blocks all) in absurd (omega (arith, why.1)))
hinder_at start place rows done b others long (TooMany Partitions limit) blocks at same why = absurd why
hinder_at start place rows done b others long Unfit blocks at same why = absurd why
hinder_at start place rows done b others long Mem blocks at same why = tt

pub hinder_block : (start : ℕ) (before : Option Facts) (top : Option Deletion) (gs : List Fragment) (p q : Part) (f : Fragment) (text : List ℕ) (place : ℕ) (rest : List Fragment)
    (e : WriteFault) → Taken start before top gs p text → place ≡ start + length text → Added f place p q → 4 + BLOCK_LEAST ≤ length q.buffer.items
    → BlockFault place (length (drop 4 q.buffer.items)) e → Hinders start (behind_statics gs ++ f ∷ rest) e
hinder_block start before top gs p q f text place rest e t at a long why =
    let block : List Fragment = t.begun ++ f ∷ [] in
    let body : drop 4 q.buffer.items ≡ body_bytes block = body_waits start before top gs p q f text place t a in
    let most : BLOCK_LEAST ≤ length (body_bytes block) = subst (λ (xs : List ℕ). BLOCK_LEAST ≤ length xs) body (least q.buffer.items long) in
    hinder_at start place (behind_statics gs ++ f ∷ rest) t.done block (blocks_from [] rest) (length (drop 4 q.buffer.items)) e
    (t.cut (f ∷ rest) ∙ ap (λ (bs : List (List Fragment)). t.done ++ bs) (cut_end t.begun f rest (full_at block most)))
    (at ∙ ap (λ (xs : List ℕ). start + length xs) t.text) (ap length body) why
  where
    least : (xs : List ℕ) → 4 + BLOCK_LEAST ≤ length xs → BLOCK_LEAST ≤ length (drop 4 xs)
    least (a ∷ b ∷ c ∷ d ∷ xs) low = omega arith
    least (a ∷ b ∷ c ∷ []) low = absurd (omega arith)
    least (a ∷ b ∷ []) low = absurd (omega arith)
    least (a ∷ []) low = absurd (omega arith)
    least [] low = absurd (omega arith)

-- ---- the end

drop_waiting : (begun : List Fragment) → length (drop 4 (waiting begun)) ≡ length (body_bytes begun)
drop_waiting [] = refl
drop_waiting (g ∷ gs) = ap length (drop_at (u32 0) (body_bytes (g ∷ gs)) 4 (u32_long 0))

pub hinder_seal : (start : ℕ) (before : Option Facts) (top : Option Deletion) (gs : List Fragment) (p : Part) (text : List ℕ) (e : WriteFault)
    → Taken start before top gs p text → SealFault (length (drop 4 p.buffer.items)) e → Hinders start (behind_statics gs) e
hinder_seal start before top gs p text Failed t why = absurd why
hinder_seal start before top gs p text Order t why = absurd why
hinder_seal start before top gs p text (TooMany FileBytes limit) t why = absurd why
hinder_seal start before top gs p text (TooMany BlockBytes limit) t why =
    let same : length (drop 4 p.buffer.items) ≡ length (body_bytes t.begun) = ap (λ (xs : List ℕ). length (drop 4 xs)) t.buffer ∙ drop_waiting t.begun in
    absurd (omega (arith, why.1, t.early))
hinder_seal start before top gs p text (TooMany Partitions limit) t why = absurd why
hinder_seal start before top gs p text Unfit t why = absurd why
hinder_seal start before top gs p text Mem t why = tt

pub hinder_end : (start : ℕ) (before : Option Facts) (top : Option Deletion) (gs : List Fragment) (p : Part) (text : List ℕ) (place : ℕ) (e : WriteFault)
    → Taken start before top gs p text → place ≡ start + length text → LongFault place (length (ended p.buffer.items)) e → Hinders start (behind_statics gs) e
hinder_end start before top gs p text place Failed t at why = tt
hinder_end start before top gs p text place Order t at why = absurd why
hinder_end start before top gs p text place (TooMany FileBytes limit) t at why =
    (why.0, omega (arith, why.1, length-append text (ended p.buffer.items), ap length (whole_text start before top gs p text t)))
hinder_end start before top gs p text place (TooMany BlockBytes limit) t at why = absurd why
hinder_end start before top gs p text place (TooMany Partitions limit) t at why = absurd why
hinder_end start before top gs p text place Unfit t at why = absurd why
hinder_end start before top gs p text place Mem t at why = tt
