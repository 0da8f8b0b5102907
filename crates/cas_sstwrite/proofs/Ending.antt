-- The fragments of a partition are taken, the first and the others, and it ends.
use Rattle.std.proofs.Common.{◌≡◌, ℕ, ◌+◌, List, [], ◌∷◌, ◌++◌, length, Option, None, Some, refl, sym, ap, subst, ◌∙◌, append_assoc}
use Rattle.std.proofs.lemmas.List.{append-nil}
use Rattle.cas_atoms.specs.declared.atom.Atom.{Atom}
use Rattle.cas_atoms.specs.declared.row.RowColumn.{RowColumn}
use Rattle.cas_atoms.specs.declared.row.Row.{Row}
use Rattle.cas_bounds.specs.declared.cuts.Cut.{Cut}
use Rattle.cas_cell.specs.declared.deletion.Deletion.{Deletion}
use Rattle.cas_streams.specs.declared.fragment.Fragment.{Fragment}
use Rattle.cas_streams.specs.declared.fragment.Fragment.TheVariants as fragment
use Rattle.cas_facts.specs.Facts.{AreFactsSoFar}
use Rattle.cas_facts.specs.Told.{told, all_told}
use Rattle.cas_facts.specs.declared.facts.Facts.{Facts}
use Rattle.cas_fragments.specs.Blocks.{behind_statics}
use Rattle.cas_sstwrite.specs.declared.fault.WriteFault.{WriteFault}
use Rattle.cas_sstwrite.specs.declared.held.Part.{Part}
use Rattle.cas_sstwrite.specs.declared.held.Sink.{Sink}
use Rattle.cas_sstwrite.specs.Inner.Parts.{Taken, Goes, GoesOn, Ends, WroteRows, Says, Hinders}
use Rattle.cas_sstwrite.proofs.Cutting.{told_more}
use Rattle.cas_sstwrite.proofs.Taking.{nothing_more}
use Rattle.cas_sstwrite.proofs.Rowing.{took_both, place_then}

-- ---- the static row

pub static_taken : {D : Type 0} (number_of : D → ℕ) (written : D → List ℕ → Type 0) (start : ℕ) (before : Option Facts) (top : Option Deletion) (s : Sink D) (p q : Part)
    (text : List ℕ) (cs : List RowColumn) → Taken start before top [] p text → q.buffer.items ≡ p.buffer.items → q.entries.items ≡ p.entries.items → q.force ≡ p.force
    → ((A : List Atom) → AreFactsSoFar A p.seen.facts → AreFactsSoFar (A ++ told (fragment.Static cs)) q.seen.facts)
    → Goes number_of written start before top (fragment.Static cs ∷ []) s s q text
static_taken number_of written start before top s p q text cs t buffer entries force seen = record {
  more = [];
  took = nothing_more number_of written s;
  taken = subst (Taken start before top (fragment.Static cs ∷ []) q) (sym (append-nil text)) (record {
    done = t.done;
    begun = t.begun;
    rows = t.rows;
    cut = t.cut;
    text = t.text;
    buffer = buffer ∙ t.buffer;
    entries = entries ∙ t.entries;
    force = force ∙ t.force;
    full = t.full;
    short = t.short;
    held = tt;
    early = t.early;
    facts = λ A h. subst (λ xs. AreFactsSoFar xs q.seen.facts) (told_more A top [] (fragment.Static cs)) (seen (A ++ all_told top []) (t.facts A h));
  });
}

-- ---- the first and the others

pub goes_then : {D : Type 0} (number_of : D → ℕ) (written : D → List ℕ → Type 0) (start : ℕ) (before : Option Facts) (top : Option Deletion) (f : Fragment)
    (s t u : Sink D) (p q : Part) (text : List ℕ) (told : Option (List Fragment)) → s.place ≡ start + length text
    → Goes number_of written start before top (f ∷ []) s t p text
    → ((start : ℕ) (before : Option Facts) (top : Option Deletion) (gs : List Fragment) (text : List ℕ) → Taken start before top gs p text → t.place ≡ start + length text
    → GoesOn number_of written start before top gs t u q text told)
    → GoesOn number_of written start before top (f ∷ []) s u q text told
goes_then number_of written start before top f s t u p q text told at goes on =
    let then = on start before top (f ∷ []) (text ++ goes.more) goes.taken (place_then number_of written start goes.more text s t at goes.took) in
    record {
      given = then.given;
      goes = record {
        more = goes.more ++ then.goes.more;
        took = took_both number_of written goes.more then.goes.more s t u goes.took then.goes.took;
        taken = subst (Taken start before top (f ∷ then.given) q) (append_assoc text goes.more then.goes.more) then.goes.taken;
      };
      all = then.all;
    }

-- ---- the end

pub none_ends : {D : Type 0} (number_of : D → ℕ) (written : D → List ℕ → Type 0) (start : ℕ) (before : Option Facts) (top : Option Deletion)
    (s t : Sink D) (q : Part) (text : List ℕ) (told : Option (List Fragment)) → Ends number_of written start before top [] s t q text
    → WroteRows number_of written start before top None s t q text told
none_ends number_of written start before top s t q text told ends = record {
  given = [];
  ends = ends;
  front = refl;
  all = λ fs says. sym says;
}

pub some_ends : {D : Type 0} (number_of : D → ℕ) (written : D → List ℕ → Type 0) (start : ℕ) (before : Option Facts) (top : Option Deletion) (f : Fragment)
    (s t u : Sink D) (p q : Part) (text : List ℕ) (told : Option (List Fragment)) → s.place ≡ start + length text
    → GoesOn number_of written start before top (f ∷ []) s t p text told
    → ((start : ℕ) (before : Option Facts) (top : Option Deletion) (gs : List Fragment) (text : List ℕ) → Taken start before top gs p text → t.place ≡ start + length text
    → Ends number_of written start before top gs t u q text)
    → WroteRows number_of written start before top (Some f) s u q text told
some_ends number_of written start before top f s t u p q text told at on end =
    let ends = end start before top (f ∷ on.given) (text ++ on.goes.more) on.goes.taken (place_then number_of written start on.goes.more text s t at on.goes.took) in
    record {
      given = f ∷ on.given;
      ends = record {
        more = on.goes.more ++ ends.more;
        took = took_both number_of written on.goes.more ends.more s t u on.goes.took ends.took;
        whole = sym (append_assoc text on.goes.more ends.more) ∙ ends.whole;
        entries = ends.entries;
        few = ends.few;
        short = ends.short;
        held = ends.held;
        facts = ends.facts;
      };
      front = (on.given, refl);
      all = λ fs says. ap (λ (xs : List Fragment). f ∷ xs) (on.all says.0 says.1) ∙ sym says.2;
    }

-- why the end isn't written, of a partition whose fragments were taken
pub end_wrong : {D : Type 0} (number_of : D → ℕ) (written : D → List ℕ → Type 0) (start : ℕ) (before : Option Facts) (top : Option Deletion) (f : Fragment)
    (s t : Sink D) (p : Part) (text : List ℕ) (told : Option (List Fragment)) (e : WriteFault) → s.place ≡ start + length text
    → GoesOn number_of written start before top (f ∷ []) s t p text told
    → ((start : ℕ) (before : Option Facts) (top : Option Deletion) (gs : List Fragment) (text : List ℕ) → Taken start before top gs p text → t.place ≡ start + length text
    → Hinders start (behind_statics gs) e)
    → (fs : List Fragment) → Says (Some f) told fs → Hinders start (behind_statics fs) e
end_wrong number_of written start before top f s t p text told e at on why fs says =
    subst (λ (xs : List Fragment). Hinders start (behind_statics xs) e) (ap (λ (xs : List Fragment). f ∷ xs) (on.all says.0 says.1) ∙ sym says.2)
    (why start before top (f ∷ on.given) (text ++ on.goes.more) on.goes.taken (place_then number_of written start on.goes.more text s t at on.goes.took))

-- ---- the first fragment, by what it is

pub static_first : {D : Type 0} (number_of : D → ℕ) (written : D → List ℕ → Type 0) (start : ℕ) (before : Option Facts) (top : Option Deletion) (s : Sink D) (p q : Part)
    (text : List ℕ) (f : Fragment) (cs : List RowColumn) → f ≡ fragment.Static cs → Taken start before top [] p text → q.buffer.items ≡ p.buffer.items
    → q.entries.items ≡ p.entries.items → q.force ≡ p.force
    → ((A : List Atom) → AreFactsSoFar A p.seen.facts → AreFactsSoFar (A ++ told f) q.seen.facts)
    → Goes number_of written start before top (f ∷ []) s s q text
static_first number_of written start before top s p q text (fragment.Static ds) cs is t buffer entries force seen =
    static_taken number_of written start before top s p q text ds t buffer entries force seen
static_first number_of written start before top s p q text (fragment.Row r) cs is t buffer entries force seen = absurd (cc)
static_first number_of written start before top s p q text (fragment.Marker cut d) cs is t buffer entries force seen = absurd (cc)

pub row_behind : (f : Fragment) (r : Row) (rest : List Fragment) → f ≡ fragment.Row r → f ∷ rest ≡ behind_statics (f ∷ rest)
row_behind (fragment.Static cs) r rest is = absurd (cc)
row_behind (fragment.Row x) r rest is = refl
row_behind (fragment.Marker cut d) r rest is = refl

pub marker_behind : (f : Fragment) (cut : Cut) (d : Option Deletion) (rest : List Fragment) → f ≡ fragment.Marker cut d → f ∷ rest ≡ behind_statics (f ∷ rest)
marker_behind (fragment.Static cs) cut d rest is = absurd (cc)
marker_behind (fragment.Row r) cut d rest is = refl
marker_behind (fragment.Marker x y) cut d rest is = refl

pub says_none : (first : Option Fragment) (told : Option (List Fragment)) (fs : List Fragment) → first ≡ None → Says first told fs → fs ≡ []
says_none None told fs is says = says
says_none (Some f) told fs is says = absurd (cc)

pub says_some : (first : Option Fragment) (told : Option (List Fragment)) (fs : List Fragment) (f : Fragment) → first ≡ Some f → Says first told fs → Says (Some f) told fs
says_some None told fs f is says = absurd (cc)
says_some (Some g) told fs f is says = let same : g ≡ f = cc in (says.0, says.1, says.2 ∙ ap (λ (x : Fragment). x ∷ says.0) same)
