-- The fragments of a source are taken one by one.
use Rattle.std.proofs.Common.{◌≡◌, ℕ, ◌+◌, List, [], ◌∷◌, ◌++◌, length, Option, None, Some, Ok, refl, sym, ap, subst, ◌∙◌, append_assoc, arith}
use Rattle.std.proofs.lemmas.List.{append-nil, length-append}
use Rattle.cas_disk.specs.Disk.{Appends}
use Rattle.cas_cell.specs.declared.deletion.Deletion.{Deletion}
use Rattle.cas_streams.specs.Sources.{TakesFirst}
use Rattle.cas_streams.specs.Streams.{IsThere}
use Rattle.cas_streams.specs.declared.fragment.Fragment.{Fragment}
use Rattle.cas_streams.specs.declared.fragment.Fragment.TheVariants as fragment
use Rattle.cas_facts.specs.declared.facts.Facts.{Facts}
use Rattle.cas_fragments.specs.Blocks.{behind_statics}
use Rattle.cas_sstwrite.specs.declared.fault.WriteFault.{WriteFault}
use Rattle.cas_sstwrite.specs.declared.held.Part.{Part}
use Rattle.cas_sstwrite.specs.declared.held.Sink.{Sink}
use Rattle.cas_sstwrite.specs.Inner.Sinks.{Took}
use Rattle.cas_sstwrite.specs.Inner.Parts.{Taken, Goes, GoneOn, GoesOn, Hinders}
use Rattle.cas_sstwrite.proofs.Taking.{nothing_more}

pub took_both : {D : Type 0} (number_of : D → ℕ) (written : D → List ℕ → Type 0) (x y : List ℕ) (s t u : Sink D) → Took number_of written x s t → Took number_of written y t u
    → Took number_of written (x ++ y) s u
took_both number_of written x y s t u a b = record {
  text = λ bytes h. back x y bytes (written s.draft) (b.text bytes h) a.text;
  place = let e : u.place ≡ s.place + length (x ++ y) = omega (arith, a.place, b.place, length-append x y) in e;
  number = b.number ∙ a.number;
}
  where
    back : (x y bytes : List ℕ) (old : List ℕ → Type 0) {mid : List ℕ → Type 0} → (m : List ℕ) × mid m × (bytes ≡ m ++ y) → Appends x old mid
        → (o : List ℕ) × old o × (bytes ≡ o ++ (x ++ y))
    back x y bytes old m first =
        let o = first m.0 m.1 in
        (o.0, o.1, m.2 ∙ ap (λ (t : List ℕ). t ++ y) o.2 ∙ append_assoc o.0 x y)

pub behind_there : (gs xs : List Fragment) → IsThere gs → behind_statics (gs ++ xs) ≡ behind_statics gs ++ xs
behind_there [] xs there = absurd there
behind_there (fragment.Static cs ∷ gs) xs there = refl
behind_there (fragment.Row r ∷ gs) xs there = refl
behind_there (fragment.Marker cut d ∷ gs) xs there = refl

pub gone_none : {D : Type 0} (number_of : D → ℕ) (written : D → List ℕ → Type 0) (start : ℕ) (before : Option Facts) (top : Option Deletion) (gs : List Fragment)
    (s : Sink D) (p : Part) (text : List ℕ) (told : Option (List Fragment)) → Taken start before top gs p text → GoneOn number_of written start before top gs s s p text told told
gone_none number_of written start before top gs s p text told taken = record {
  given = [];
  goes = record {
    more = [];
    took = nothing_more number_of written s;
    taken = subst (Taken start before top (gs ++ []) p) (sym (append-nil text)) (subst (λ (xs : List Fragment). Taken start before top xs p text) (sym (append-nil gs)) taken);
  };
  left = λ fs e. (fs, e, refl);
}

-- what a taking of the fragment says, whatever came before
abbrev pub Takes : {D : Type 0} → (D → ℕ) → (D → List ℕ → Type 0) → Fragment → Part → Sink D → Sink D → Part → Type 0
Takes number_of written f p t u q =
    (start : ℕ) (before : Option Facts) (top : Option Deletion) (gs : List Fragment) (text : List ℕ) → Taken start before top gs p text → t.place ≡ start + length text
    → Goes number_of written start before top (gs ++ f ∷ []) t u q text

pub place_then : {D : Type 0} (number_of : D → ℕ) (written : D → List ℕ → Type 0) (start : ℕ) (more text : List ℕ) (s t : Sink D)
    → s.place ≡ start + length text → Took number_of written more s t → t.place ≡ start + length (text ++ more)
place_then number_of written start more text s t at took = omega (arith, at, took.place, length-append text more)

pub gone_more : {D : Type 0} (number_of : D → ℕ) (written : D → List ℕ → Type 0) (start : ℕ) (before : Option Facts) (top : Option Deletion) (gs : List Fragment)
    (s t u : Sink D) (p q : Part) (text : List ℕ) (told now next : Option (List Fragment)) (f : Fragment) → s.place ≡ start + length text
    → GoneOn number_of written start before top gs s t p text told now → Takes number_of written f p t u q
    → ((fs : List Fragment) → now ≡ Some fs → (rest : List Fragment) × (fs ≡ f ∷ rest) × (next ≡ Some rest))
    → GoneOn number_of written start before top gs s u q text told next
gone_more number_of written start before top gs s t u p q text told now next f at gone takes first =
    let then = takes start before top (gs ++ gone.given) (text ++ gone.goes.more) gone.goes.taken (place_then number_of written start gone.goes.more text s t at gone.goes.took) in
    record {
      given = gone.given ++ f ∷ [];
      goes = record {
        more = gone.goes.more ++ then.more;
        took = took_both number_of written gone.goes.more then.more s t u gone.goes.took then.took;
        taken = subst (Taken start before top (gs ++ (gone.given ++ f ∷ [])) q) (append_assoc text gone.goes.more then.more)
            (subst (λ (xs : List Fragment). Taken start before top xs q ((text ++ gone.goes.more) ++ then.more)) (append_assoc gs gone.given (f ∷ [])) then.taken);
      };
      left = λ fs e. further fs (gone.left fs e);
    }
  where
    further : (fs : List Fragment) → (rest : List Fragment) × (now ≡ Some rest) × (fs ≡ gone.given ++ rest)
        → (rest : List Fragment) × (next ≡ Some rest) × (fs ≡ (gone.given ++ f ∷ []) ++ rest)
    further fs l =
        let n = first l.0 l.1 in
        (n.0, n.2, l.2 ∙ ap (λ (xs : List Fragment). gone.given ++ xs) n.1 ∙ sym (append_assoc gone.given (f ∷ []) n.0))

pub gone_all : {D : Type 0} (number_of : D → ℕ) (written : D → List ℕ → Type 0) (start : ℕ) (before : Option Facts) (top : Option Deletion) (gs : List Fragment)
    (s t : Sink D) (p : Part) (text : List ℕ) (told now : Option (List Fragment)) → GoneOn number_of written start before top gs s t p text told now
    → ((fs : List Fragment) → now ≡ Some fs → fs ≡ []) → GoesOn number_of written start before top gs s t p text told
gone_all number_of written start before top gs s t p text told now gone none = record {
  given = gone.given;
  goes = gone.goes;
  all = λ fs e. let l = gone.left fs e in sym (l.2 ∙ ap (λ (xs : List Fragment). gone.given ++ xs) (none l.0 l.1) ∙ append-nil gone.given);
}

-- a fragment that isn't taken hinders all
pub gone_wrong : {D : Type 0} (number_of : D → ℕ) (written : D → List ℕ → Type 0) (start : ℕ) (before : Option Facts) (top : Option Deletion) (gs : List Fragment)
    (s t : Sink D) (p : Part) (text : List ℕ) (told now : Option (List Fragment)) (f : Fragment) (e : WriteFault) → s.place ≡ start + length text → IsThere gs
    → GoneOn number_of written start before top gs s t p text told now
    → ((start : ℕ) (before : Option Facts) (top : Option Deletion) (gs : List Fragment) (text : List ℕ) → Taken start before top gs p text
    → t.place ≡ start + length text → (rest : List Fragment) → Hinders start (behind_statics gs ++ f ∷ rest) e)
    → ((fs : List Fragment) → now ≡ Some fs → (rest : List Fragment) × (fs ≡ f ∷ rest))
    → (fs : List Fragment) → told ≡ Some fs → Hinders start (behind_statics (gs ++ fs)) e
gone_wrong number_of written start before top gs s t p text told now f e at there gone why first fs is =
    let l = gone.left fs is in
    let n = first l.0 l.1 in
    subst (λ (xs : List Fragment). Hinders start xs e)
    (ap (λ (xs : List Fragment). xs ++ f ∷ n.0) (behind_there gs gone.given there)
    ∙ append_assoc (behind_statics gs) gone.given (f ∷ n.0)
    ∙ sym (behind_there gs (gone.given ++ f ∷ n.0) there)
    ∙ ap (λ (xs : List Fragment). behind_statics (gs ++ xs)) (sym (l.2 ∙ ap (λ (xs : List Fragment). gone.given ++ xs) n.1)))
    (why start before top (gs ++ gone.given) (text ++ gone.goes.more) gone.goes.taken (place_then number_of written start gone.goes.more text s t at gone.goes.took) n.0)

-- ---- what a source answers

pub first_some : (E : Type 0) (fs : List Fragment) (next : Option (List Fragment)) (v : Option Fragment) (f : Fragment) → TakesFirst {E = E} fs next (Ok v) → v ≡ Some f
    → (rest : List Fragment) × (fs ≡ f ∷ rest) × (next ≡ Some rest)
first_some E fs next None f first is = absurd (cc)
first_some E fs next (Some g) f first is =
    let same : g ≡ f = cc in (first.0, first.1 ∙ ap (λ (x : Fragment). x ∷ first.0) same, first.2)

pub first_none : (E : Type 0) (fs : List Fragment) (next : Option (List Fragment)) (v : Option Fragment) → TakesFirst {E = E} fs next (Ok v) → v ≡ None → fs ≡ []
first_none E fs next None first is = first.0
first_none E fs next (Some g) first is = absurd (cc)
