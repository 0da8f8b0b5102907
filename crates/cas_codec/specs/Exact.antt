-- What it means that a reading is exact: it takes the spellings of a field and nothing else.
-- Own.
use Rattle.std.specs.Prelude.{◌≡◌, ℕ, ◌+◌, ◌<◌, List, ◌++◌, length, All, Result, Ok, Err}
use Rattle.cas_codec.specs.declared.fault.ReadFault.{ReadFault}
use Rattle.cas_codec.specs.declared.fault.ReadFault.TheVariants.{Short, Bad, Mem}
use Rattle.cas_codec.specs.Reading.{Left, Read}

-- each number of the list is a byte
pub record AreBytes (bytes : List ℕ) : Type 0 where
  pub each : All (λ b. b < 256) bytes

-- the bytes begin with this text, and new is what follows it
pub record Begins (text : List ℕ) (old new : Left) : Type 0 where
  pub bytes : old.bytes ≡ text ++ new.bytes
  pub at : new.at ≡ old.at + length text

-- What is read stands there, spelled as it must be; and what is spelled so is read, whatever follows.
pub record IsExact {A : Type 0} (Fits : A → Type 0) (spelling : A → List ℕ) (reading : Left → Read A) : Type 0 where
  pub found : (old new : Left) (x : A) → AreBytes old.bytes → reading old ≡ Ok (x, new) → Fits x × Begins (spelling x) old new
  pub again : (x : A) (rest : List ℕ) (at : ℕ) → Fits x
      → reading (record { bytes = spelling x ++ rest; at = at }) ≡ Ok (x, record { bytes = rest; at = at + length (spelling x) })

-- no spelling begins another: where two stand at one place they are one, and so is what follows
abbrev pub IsPrefixFree : {A : Type 0} → (A → Type 0) → (A → List ℕ) → Type 0
IsPrefixFree {A} Fits spelling = (x y : A) (rest others : List ℕ) → Fits x → Fits y
    → spelling x ++ rest ≡ spelling y ++ others → (x ≡ y) × (rest ≡ others)

-- the bytes are the beginning of a spelling, and not the whole of it
pub record IsCutShort {A : Type 0} (Fits : A → Type 0) (spelling : A → List ℕ) (bytes : List ℕ) : Type 0 where
  pub value : A
  pub more : List ℕ
  pub fits : Fits value
  pub lacks : 0 < length more
  pub spelled : bytes ++ more ≡ spelling value

-- however the bytes go on, no spelling begins them
abbrev pub HasNone : {A : Type 0} → (A → Type 0) → (A → List ℕ) → List ℕ → Type 0
HasNone {A} Fits spelling bytes = (x : A) (more rest : List ℕ) → Fits x → bytes ++ more ≡ spelling x ++ rest → ⊥

-- why a field isn't there; the place is its first byte's
abbrev pub Refuses : {A : Type 0} → (A → Type 0) → (A → List ℕ) → Left → ReadFault → Type 0
Refuses Fits spelling left (Short at) = (at ≡ left.at) × IsCutShort Fits spelling left.bytes
Refuses Fits spelling left (Bad at) = (at ≡ left.at) × HasNone Fits spelling left.bytes
Refuses Fits spelling left Mem = ⊥

-- a field: its reading is exact, its spellings tell where they end, and where the reading refuses the field isn't there
pub record IsField {A : Type 0} (Fits : A → Type 0) (spelling : A → List ℕ) (reading : Left → Read A) : Type 0 where
  pub exact : IsExact Fits spelling reading
  pub alone : IsPrefixFree Fits spelling
  pub refused : (left : Left) (f : ReadFault) → AreBytes left.bytes → reading left ≡ Err f → Refuses Fits spelling left f

-- How a reader of a field ends, which stood at old and stands at new: with a value whose spelling stood there, or
-- with why none stood there, and then the reader stands where it stood.
abbrev pub Reads : {X A : Type 0} → (X → A) → (A → Type 0) → (A → List ℕ) → Result X ReadFault → Left → Left → Type 0
Reads view Fits spelling (Ok x) old new = Fits (view x) × Begins (spelling (view x)) old new
Reads view Fits spelling (Err f) old new = Refuses Fits spelling old f × (new ≡ old)
