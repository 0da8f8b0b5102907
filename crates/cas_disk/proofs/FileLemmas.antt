-- Files in memory as an image.
use Rattle.std.proofs.Common.{◌≡◌, inl, inr, Bool, true, false, not, if◌then◌else◌, ℕ, List, [], ◌∷◌, ◌++◌, filter, Option, None, Some, refl, sym, ◌∙◌, ap, Vec}
use Rattle.std.specs.declared.alloc.Global.{Global}
use Rattle.std.proofs.lemmas.Bool.{cases_Bool}
use Rattle.cas_disk.specs.declared.name.Name.{Name}
use Rattle.cas_disk.specs.declared.event.Stored.{Stored}
use Rattle.cas_disk.specs.Names.{same_name}
use Rattle.cas_disk.specs.Disk.{Image}
use Rattle.cas_disk.specs.Inner.Past.{image_of, with_file}
use Rattle.cas_disk.specs.Inner.PastLaws.{same_is}

abbrev File : Type 0
File = Option (List ℕ)

abbrev absent : File
absent = None

-- the files whose names pass
abbrev pub those : (Name → Bool) → List Stored → List Stored
those p files = filter (λ (f : Stored). p f.name) files

if_step : (same pass whole : Bool) (here rest : File) → (same ≡ true → pass ≡ whole) → (kept : List Stored) (f : Stored) (k : Name) → same_name f.name k ≡ same → Some f.bytes.items ≡ here → image_of kept k ≡ (if whole then rest else absent)
    → image_of (if pass then f ∷ kept else kept) k ≡ (if whole then (if same then here else rest) else absent)
if_step true true true here rest agree kept f k e is IH = ap (λ (b : Bool). if b then Some f.bytes.items else image_of kept k) e ∙ is
if_step true false false here rest agree kept f k e is IH = IH
if_step true true false here rest agree kept f k e is IH = absurd (cc (agree refl))
if_step true false true here rest agree kept f k e is IH = absurd (cc (agree refl))
if_step false true whole here rest agree kept f k e is IH = ap (λ (b : Bool). if b then Some f.bytes.items else image_of kept k) e ∙ IH
if_step false false whole here rest agree kept f k e is IH = IH

same_or : (b : Bool) → absent ≡ (if b then absent else absent)
same_or true = refl
same_or false = refl

pub image_of-those : (p : Name → Bool) (files : List Stored) (k : Name) → image_of (those p files) k ≡ (if p k then image_of files k else None)
image_of-those p [] k = same_or (p k)
image_of-those p (f ∷ files) k = if_step (same_name f.name k) (p f.name) (p k) (Some f.bytes.items) (image_of files k) (λ e. ap p (same_is f.name k e)) (those p files) f k refl refl (image_of-those p files k)

-- the first of two that is there
abbrev pub or_else : File → File → File
or_else None other = other
or_else (Some file) _ = Some file

pub image_of-push : (files : List Stored) (f : Stored) (k : Name) → image_of (files ++ f ∷ []) k ≡ or_else (image_of files k) (if same_name f.name k then Some f.bytes.items else None)
image_of-push [] f k = refl
image_of-push (g ∷ files) f k = elim (cases_Bool (same_name g.name k)) [
  | inl is ↦ ap (λ (b : Bool). if b then Some g.bytes.items else image_of (files ++ f ∷ []) k) is ∙ sym (ap (λ (b : Bool). or_else (if b then Some g.bytes.items else image_of files k) (if same_name f.name k then Some f.bytes.items else None)) is)
  | inr isnt ↦ ap (λ (b : Bool). if b then Some g.bytes.items else image_of (files ++ f ∷ []) k) isnt ∙ image_of-push files f k ∙ sym (ap (λ (b : Bool). or_else (if b then Some g.bytes.items else image_of files k) (if same_name f.name k then Some f.bytes.items else None)) isnt)
]

-- the files but for one
abbrev pub others : Name → List Stored → List Stored
others n files = those (λ k. not (same_name n k)) files

not_if : (b : Bool) (file : File) → (if not b then file else absent) ≡ (if b then absent else file)
not_if true file = refl
not_if false file = refl

pub image_of-others : (n : Name) (files : List Stored) → image_of (others n files) ≡ with_file n None (image_of files)
image_of-others n files = λ i k. (image_of-those (λ m. not (same_name n m)) files k ∙ not_if (same_name n k) (image_of files k)) i

else_if : (b : Bool) (file old : File) → or_else (if b then absent else old) (if b then file else absent) ≡ (if b then file else old)
else_if true file old = refl
else_if false file None = refl
else_if false file (Some old) = refl

pub image_of-set : (n : Name) (bytes : Vec ℕ Global) (files : List Stored) → image_of (others n files ++ record { name = n; bytes = bytes } ∷ []) ≡ with_file n (Some bytes.items) (image_of files)
image_of-set n bytes files = λ i k. (image_of-push (others n files) (record { name = n; bytes = bytes }) k
    ∙ ap (λ (c : Image). or_else (c k) (if same_name n k then Some bytes.items else None)) (image_of-others n files)
    ∙ else_if (same_name n k) (Some bytes.items) (image_of files k)) i

-- one file more of a copy
pub image_of-copy : (copy before : List Stored) (g f : Stored) → image_of copy ≡ image_of before → g.name ≡ f.name → g.bytes.items ≡ f.bytes.items → image_of (copy ++ g ∷ []) ≡ image_of (before ++ f ∷ [])
image_of-copy copy before g f same name bytes = λ i k. (image_of-push copy g k ∙ (λ j. or_else (same j k) (if same_name (name j) k then Some (bytes j) else None)) ∙ sym (image_of-push before f k)) i
