-- A fragment is taken, and a partition ends.
use Rattle.std.proofs.Common.{◌≡◌, ℕ, ◌+◌, ◌*◌, ◌<◌, ◌≤◌, ◌^◌, true, cond, List, [], ◌∷◌, ◌++◌, length, drop, Option, None, refl, sym, ap, subst, ◌∙◌, append_assoc, arith}
use Rattle.std.specs.List.{AllByRecursion, flat_map}
use Rattle.std.proofs.lemmas.Bool.{leb-true, le-leb}
use Rattle.std.proofs.lemmas.Grind.{flat_map-append}
use Rattle.std.proofs.lemmas.List.{append-nil, length-append, drop_at}
use Rattle.cas_cell.specs.declared.deletion.Deletion.{Deletion}
use Rattle.cas_codec.specs.Fields.{u32, bytes32}
use Rattle.cas_codec.proofs.FieldLengths.{u32_long, bytes32_long}
use Rattle.cas_info.specs.declared.info.TheConstants.{FILE_LIMIT}
use Rattle.cas_streams.specs.Flat.{changes, at_end}
use Rattle.cas_streams.specs.declared.fragment.Fragment.{Fragment}
use Rattle.cas_facts.specs.Facts.{AreFactsSoFar}
use Rattle.cas_facts.specs.Told.{all_told}
use Rattle.cas_facts.specs.declared.facts.Facts.{Facts}
use Rattle.cas_fragments.specs.Spelling.{fragment_bytes, body_bytes, block_bytes}
use Rattle.cas_fragments.specs.Blocks.{is_full, last_block, blocks_from, blocks_of, blocks_bytes, behind_statics}
use Rattle.cas_fragments.specs.Laws.{joined}
use Rattle.cas_fragments.specs.declared.blocks.TheConstants.{BLOCK_LEAST}
use Rattle.cas_tables.specs.Places.{block_entries}
use Rattle.cas_sstwrite.specs.declared.held.Part.{Part}
use Rattle.cas_sstwrite.specs.declared.held.Sink.{Sink}
use Rattle.cas_sstwrite.specs.Rooms.{IsHeld}
use Rattle.cas_sstwrite.specs.Inner.Sinks.{Took}
use Rattle.cas_sstwrite.specs.Inner.Parts.{waiting, Taken, with_block, with_entry, entry_of, Added, Closes, Goes, Ends, ended}
use Rattle.cas_sstwrite.proofs.Cutting.{more_behind, one_behind, force_more, told_more, waits_long, waiting_some, buffer_more, last_more, entries_more, cut_wait, cut_end, full_at, not_full}

-- ---- a fragment

-- what waits once the fragment does
pub now_waits : (start : ℕ) (before : Option Facts) (top : Option Deletion) (gs : List Fragment) (p q : Part) (f : Fragment) (text : List ℕ) (place : ℕ)
    → (t : Taken start before top gs p text) → Added f place p q → q.buffer.items ≡ u32 0 ++ body_bytes (t.begun ++ f ∷ [])
now_waits start before top gs p q f text place t a =
    a.buffer ∙ ap (λ (xs : List ℕ). with_block xs ++ fragment_bytes f) t.buffer ∙ buffer_more t.begun f ∙ waiting_some t.begun f

pub body_waits : (start : ℕ) (before : Option Facts) (top : Option Deletion) (gs : List Fragment) (p q : Part) (f : Fragment) (text : List ℕ) (place : ℕ)
    → (t : Taken start before top gs p text) → Added f place p q → drop 4 q.buffer.items ≡ body_bytes (t.begun ++ f ∷ [])
body_waits start before top gs p q f text place t a =
    ap (λ (xs : List ℕ). drop 4 xs) (now_waits start before top gs p q f text place t a) ∙ drop_at (u32 0) (body_bytes (t.begun ++ f ∷ [])) 4 (u32_long 0)

long_waits : (start : ℕ) (before : Option Facts) (top : Option Deletion) (gs : List Fragment) (p q : Part) (f : Fragment) (text : List ℕ) (place : ℕ)
    → (t : Taken start before top gs p text) → Added f place p q → length q.buffer.items ≡ 4 + length (body_bytes (t.begun ++ f ∷ []))
long_waits start before top gs p q f text place t a =
    ap length (now_waits start before top gs p q f text place t a)
    ∙ (let e : length (u32 0 ++ body_bytes (t.begun ++ f ∷ [])) ≡ 4 + length (body_bytes (t.begun ++ f ∷ [])) =
    omega (arith, length-append (u32 0) (body_bytes (t.begun ++ f ∷ [])), u32_long 0) in e)

entries_now : (start : ℕ) (before : Option Facts) (top : Option Deletion) (gs : List Fragment) (p q : Part) (f : Fragment) (text : List ℕ) (place : ℕ)
    → (t : Taken start before top gs p text) → place ≡ start + length text → Added f place p q
    → q.entries.items ≡ block_entries start None (t.done ++ (t.begun ++ f ∷ []) ∷ [])
entries_now start before top gs p q f text place t at a =
    a.entries
    ∙ ap (λ (xs : List ℕ). with_entry xs p.entries.items (entry_of f place p.force)) t.buffer
    ∙ entries_more start t.done t.begun f place p.force p.entries.items t.full
    (at ∙ ap (λ (xs : List ℕ). start + length xs) t.text)
    (t.force ∙ ap (λ (xs : List Fragment). at_end None (changes xs)) t.rows) t.entries

facts_now : (start : ℕ) (before : Option Facts) (top : Option Deletion) (gs : List Fragment) (p q : Part) (f : Fragment) (text : List ℕ) (place : ℕ)
    → Taken start before top gs p text → Added f place p q
    → (A : List _) → AreFactsSoFar A before → AreFactsSoFar (A ++ all_told top (gs ++ f ∷ [])) q.seen.facts
facts_now start before top gs p q f text place t a A h =
    subst (λ xs. AreFactsSoFar xs q.seen.facts) (told_more A top gs f) (a.seen (A ++ all_told top gs) (t.facts A h))

rows_now : (start : ℕ) (before : Option Facts) (top : Option Deletion) (gs : List Fragment) (p q : Part) (f : Fragment) (text : List ℕ) (place : ℕ)
    → (t : Taken start before top gs p text) → Added f place p q → behind_statics (gs ++ f ∷ []) ≡ joined t.done ++ (t.begun ++ f ∷ [])
rows_now start before top gs p q f text place t a =
    one_behind gs f a.held ∙ ap (λ (xs : List Fragment). xs ++ f ∷ []) t.rows ∙ append_assoc (joined t.done) t.begun (f ∷ [])

one_held : (fs : List Fragment) (f : Fragment) → AllByRecursion IsHeld fs → IsHeld f → AllByRecursion IsHeld (fs ++ f ∷ [])
one_held [] f all one = (one, tt)
one_held (g ∷ fs) f all one = (all.0, one_held fs f all.1 one)

held_now : (start : ℕ) (before : Option Facts) (top : Option Deletion) (gs : List Fragment) (p q : Part) (f : Fragment) (text : List ℕ) (place : ℕ)
    → Taken start before top gs p text → Added f place p q → AllByRecursion IsHeld (behind_statics (gs ++ f ∷ []))
held_now start before top gs p q f text place t a = subst (AllByRecursion IsHeld) (sym (one_behind gs f a.held)) (one_held (behind_statics gs) f t.held a.held)

pub waits : (start : ℕ) (before : Option Facts) (top : Option Deletion) (gs : List Fragment) (p q : Part) (f : Fragment) (text : List ℕ) (place : ℕ)
    → Taken start before top gs p text → place ≡ start + length text → Added f place p q → length q.buffer.items < 4 + BLOCK_LEAST
    → Taken start before top (gs ++ f ∷ []) q text
waits start before top gs p q f text place t at a below =
    let early : length (body_bytes (t.begun ++ f ∷ [])) < BLOCK_LEAST = omega (arith, long_waits start before top gs p q f text place t a) in
    record {
      done = t.done;
      begun = t.begun ++ f ∷ [];
      rows = rows_now start before top gs p q f text place t a;
      cut = λ rest. ap blocks_of (more_behind gs f rest a.held) ∙ t.cut (f ∷ rest)
          ∙ ap (λ (bs : List (List Fragment)). t.done ++ bs) (cut_wait t.begun f rest (not_full (t.begun ++ f ∷ []) early));
      text = t.text;
      buffer = now_waits start before top gs p q f text place t a ∙ sym (waiting_some t.begun f);
      entries = entries_now start before top gs p q f text place t at a
          ∙ ap (λ (bs : List (List Fragment)). block_entries start None (t.done ++ bs)) (sym (last_more t.begun f));
      force = a.force ∙ force_more gs f p.force a.held t.force;
      full = t.full;
      short = t.short;
      held = held_now start before top gs p q f text place t a;
      early = early;
      facts = facts_now start before top gs p q f text place t a;
    }

-- ---- a block

all_more : (P : List Fragment → Type 0) (bs : List (List Fragment)) (b : List Fragment) → AllByRecursion P bs → P b → AllByRecursion P (bs ++ b ∷ [])
all_more P [] b all one = (one, tt)
all_more P (c ∷ bs) b all one = (all.0, all_more P bs b all.1 one)

pub nothing_more : {D : Type 0} (number_of : D → ℕ) (written : D → List ℕ → Type 0) (s : Sink D) → Took number_of written [] s s
nothing_more number_of written s = record {
  text = λ b h. (b, h, sym (append-nil b));
  place = let e : s.place ≡ s.place + 0 = omega arith in e;
  number = refl;
}

pub goes_on : {D : Type 0} (number_of : D → ℕ) (written : D → List ℕ → Type 0) (start : ℕ) (before : Option Facts) (top : Option Deletion) (gs : List Fragment)
    (s : Sink D) (p q : Part) (f : Fragment) (text : List ℕ)
    → Taken start before top gs p text → s.place ≡ start + length text → Added f s.place p q → length q.buffer.items < 4 + BLOCK_LEAST
    → Goes number_of written start before top (gs ++ f ∷ []) s s q text
goes_on number_of written start before top gs s p q f text t at a below = record {
  more = [];
  took = nothing_more number_of written s;
  taken = subst (Taken start before top (gs ++ f ∷ []) q) (sym (append-nil text)) (waits start before top gs p q f text s.place t at a below);
}

pub closes : {D : Type 0} (number_of : D → ℕ) (written : D → List ℕ → Type 0) (start : ℕ) (before : Option Facts) (top : Option Deletion) (gs : List Fragment)
    (s u : Sink D) (p q r : Part) (f : Fragment) (text : List ℕ)
    → Taken start before top gs p text → s.place ≡ start + length text → Added f s.place p q → 4 + BLOCK_LEAST ≤ length q.buffer.items
    → Closes number_of written (drop 4 q.buffer.items) s u q r → Goes number_of written start before top (gs ++ f ∷ []) s u r text
closes number_of written start before top gs s u p q r f text t at a long c =
    let block : List Fragment = t.begun ++ f ∷ [] in
    let body : drop 4 q.buffer.items ≡ body_bytes block = body_waits start before top gs p q f text s.place t a in
    let full : is_full block ≡ true = full_at block (omega (arith, long_waits start before top gs p q f text s.place t a)) in
    let short : length (body_bytes block) < 2 ^ 32 = subst (λ (xs : List ℕ). length xs < 2 ^ 32) body c.short in
    record {
      more = block_bytes block;
      took = subst (λ (xs : List ℕ). Took number_of written (bytes32 xs) s u) body c.took;
      taken = record {
        done = t.done ++ block ∷ [];
        begun = [];
        rows = rows_now start before top gs p q f text s.place t a
            ∙ ap (λ (xs : List Fragment). joined t.done ++ xs) (sym (append-nil block))
            ∙ sym (flat_map-append (λ b. b) t.done (block ∷ [])) ∙ sym (append-nil (joined (t.done ++ block ∷ [])));
        cut = λ rest. ap blocks_of (more_behind gs f rest a.held) ∙ t.cut (f ∷ rest)
            ∙ ap (λ (bs : List (List Fragment)). t.done ++ bs) (cut_end t.begun f rest full) ∙ sym (append_assoc t.done (block ∷ []) (blocks_from [] rest));
        text = ap (λ (xs : List ℕ). xs ++ block_bytes block) t.text
            ∙ ap (λ (xs : List ℕ). flat_map block_bytes t.done ++ xs) (sym (append-nil (block_bytes block)))
            ∙ sym (flat_map-append block_bytes t.done (block ∷ []));
        buffer = c.buffer;
        entries = c.entries ∙ entries_now start before top gs p q f text s.place t at a ∙ ap (block_entries start None) (sym (append-nil (t.done ++ block ∷ [])));
        force = c.force ∙ a.force ∙ force_more gs f p.force a.held t.force;
        full = all_more (λ b. is_full b ≡ true) t.done block t.full full;
        short = all_more (λ b. length (body_bytes b) < 2 ^ 32) t.done block t.short short;
        held = held_now start before top gs p q f text s.place t a;
        early = omega arith;
        facts = λ A h. subst (λ w. AreFactsSoFar (A ++ all_told top (gs ++ f ∷ [])) w.facts) (sym c.seen) (facts_now start before top gs p q f text s.place t a A h);
      };
    }

-- ---- the end

pub all_blocks : (start : ℕ) (before : Option Facts) (top : Option Deletion) (gs : List Fragment) (p : Part) (text : List ℕ) → (t : Taken start before top gs p text)
    → blocks_of (behind_statics gs) ≡ t.done ++ last_block t.begun
all_blocks start before top gs p text t = ap blocks_of (sym (append-nil (behind_statics gs))) ∙ t.cut []

pub ended_waiting : (begun : List Fragment) → ended (waiting begun) ≡ flat_map block_bytes (last_block begun) ++ u32 0
ended_waiting [] = refl
ended_waiting (g ∷ gs) =
    let body : List ℕ = body_bytes (g ∷ gs) in
    ap (λ b. cond b (bytes32 (drop 4 (waiting (g ∷ gs)))) (waiting (g ∷ gs)) ++ u32 0) (le-leb 4 (length (waiting (g ∷ gs))) (omega (arith, waits_long g gs)))
    ∙ ap (λ (xs : List ℕ). bytes32 xs ++ u32 0) (drop_at (u32 0) body 4 (u32_long 0))
    ∙ ap (λ (xs : List ℕ). xs ++ u32 0) (sym (append-nil (bytes32 body)))

pub whole_text : (start : ℕ) (before : Option Facts) (top : Option Deletion) (gs : List Fragment) (p : Part) (text : List ℕ) → Taken start before top gs p text
    → text ++ ended p.buffer.items ≡ blocks_bytes (blocks_of (behind_statics gs))
whole_text start before top gs p text t =
    ap (λ (xs : List ℕ). text ++ ended xs) t.buffer
    ∙ ap (λ (xs : List ℕ). text ++ xs) (ended_waiting t.begun)
    ∙ ap (λ (xs : List ℕ). xs ++ (flat_map block_bytes (last_block t.begun) ++ u32 0)) t.text
    ∙ sym (append_assoc (flat_map block_bytes t.done) (flat_map block_bytes (last_block t.begun)) (u32 0))
    ∙ ap (λ (xs : List ℕ). xs ++ u32 0) (sym (flat_map-append block_bytes t.done (last_block t.begun)))
    ∙ ap blocks_bytes (sym (all_blocks start before top gs p text t))

entries_few : (place : ℕ) (now : Option Deletion) (bs : List (List Fragment)) → length (block_entries place now bs) ≤ length bs
entries_few place now [] = omega arith
entries_few place now ([] ∷ bs) = omega (arith, entries_few place now bs)
entries_few place now ((f ∷ fs) ∷ bs) = omega (arith, entries_few (place + length (block_bytes (f ∷ fs))) (at_end now (changes (f ∷ fs))) bs)

full_long : (bs : List (List Fragment)) → AllByRecursion (λ b. is_full b ≡ true) bs → BLOCK_LEAST * length bs ≤ length (flat_map block_bytes bs)
full_long [] full = omega arith
full_long (b ∷ bs) full =
    let low : BLOCK_LEAST ≤ length (body_bytes b) = leb-true BLOCK_LEAST (length (body_bytes b)) full.0 in
    omega (arith, full_long bs full.1, length-append (block_bytes b) (flat_map block_bytes bs), bytes32_long (body_bytes b))

last_few : (begun : List Fragment) → length (last_block begun) ≤ 1
last_few [] = omega arith
last_few (f ∷ fs) = omega arith

short_last : (bs : List (List Fragment)) (begun : List Fragment) → AllByRecursion (λ b. length (body_bytes b) < 2 ^ 32) bs → length (body_bytes begun) < BLOCK_LEAST
    → AllByRecursion (λ b. length (body_bytes b) < 2 ^ 32) (bs ++ last_block begun)
short_last [] [] all early = tt
short_last [] (f ∷ fs) all early = (omega arith, tt)
short_last (b ∷ bs) begun all early = (all.0, short_last bs begun all.1 early)

pub ends : {D : Type 0} (number_of : D → ℕ) (written : D → List ℕ → Type 0) (start : ℕ) (before : Option Facts) (top : Option Deletion) (gs : List Fragment)
    (s u : Sink D) (p q : Part) (text : List ℕ)
    → Taken start before top gs p text → s.place ≡ start + length text → s.place ≤ FILE_LIMIT → Took number_of written (ended p.buffer.items) s u
    → q.entries.items ≡ p.entries.items → q.seen ≡ p.seen → Ends number_of written start before top gs s u q text
ends number_of written start before top gs s u p q text t at low took same seen =
    let blocks : blocks_of (behind_statics gs) ≡ t.done ++ last_block t.begun = all_blocks start before top gs p text t in
    let entries : q.entries.items ≡ block_entries start None (t.done ++ last_block t.begun) = same ∙ t.entries in
    record {
      more = ended p.buffer.items;
      took = took;
      whole = whole_text start before top gs p text t;
      entries = entries ∙ ap (block_entries start None) (sym blocks);
      few = omega (
        arith,
        ap length entries,
        entries_few start None (t.done ++ last_block t.begun),
        length-append t.done (last_block t.begun),
        last_few t.begun,
        full_long t.done t.full,
        ap length t.text,
      );
      held = t.held;
      short = subst (AllByRecursion (λ b. length (body_bytes b) < 2 ^ 32)) (sym blocks) (short_last t.done t.begun t.short t.early);
      facts = λ A h. subst (λ w. AreFactsSoFar (A ++ all_told top gs) w.facts) (sym seen) (t.facts A h);
    }
