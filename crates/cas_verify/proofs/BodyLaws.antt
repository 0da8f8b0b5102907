-- A block's bytes: where none stand, the place is that of their number.
use Rattle.std.proofs.Common.{◌≡◌, ℕ, ◌+◌, ◌≤◌, Bool, true, false, cond, ltb, List, length, take, drop, Result, Ok, Err, inl, refl, ap, ◌∙◌}
use Rattle.std.specs.Int.{w32, from_be_bytes}
use Rattle.cas_codec.specs.Reading.{Left, Read, ◌>>=◌, bytes_at, unsigned_at, u32_at, bytes32_at}
use Rattle.cas_codec.specs.declared.fault.ReadFault.{ReadFault}
use Rattle.cas_codec.specs.declared.fault.ReadFault.TheVariants.{Short}
use Rattle.cas_codec.proofs.Exactness.{read_left}
use Rattle.cas_blocks.specs.Inner.Bodies.{NoBody, IsBody}
use Rattle.cas_blocks.specs.Reading.{left_at}
use Rattle.cas_blocks.proofs.Bodies.{left_behind}
use Rattle.cas_sstread.specs.Loading.{IsBadAt}
use Rattle.cas_sstread.specs.declared.fault.TableFault.{TableFault}
use Rattle.cas_sstread.specs.declared.fault.TableFault.TheVariants as table_fault
use Rattle.cas_verify.specs.Inner.Ends.{IsFault}

-- a reading that gives a value, or is short at that place
abbrev IsShortAt : {A : Type 0} → ℕ → Read A → Type 0
IsShortAt {A} place (Ok p) = Unit {0}
IsShortAt place (Err f) = f ≡ Short place

bytes_short : (place n : ℕ) (left : Left) → IsShortAt place (bytes_at place n left)
unfolding bytes_at
bytes_short place n left = go (ltb (length left.bytes) n)
  where
    go : (b : Bool) → IsShortAt place (cond {A = Read (List ℕ)} b (Err (Short place)) (Ok (take n left.bytes, read_left (drop n left.bytes) (left.at + n))))
    go true = refl
    go false = tt

then_short : {A B : Type 0} (place : ℕ) (r : Read A) (f : A × Left → Read B) → IsShortAt place r → ((p : A × Left) → IsShortAt place (f p)) → IsShortAt place (r >>= f)
then_short place (Ok p) f e later = later p
then_short place (Err g) f e later = e

u32_short : (left : Left) → IsShortAt left.at (u32_at left)
unfolding u32_at unsigned_at
u32_short left = then_short left.at (bytes_at left.at 4 left) (λ (front : List ℕ × Left). Ok (from_be_bytes w32 front.0, front.1)) (bytes_short left.at 4 left) (λ p. tt)

body_short : (left : Left) → IsShortAt left.at (bytes32_at left)
unfolding bytes32_at
body_short left = then_short left.at (u32_at left) (λ (count : ℕ × Left). bytes_at left.at count.0 count.1) (u32_short left) (λ p. bytes_short left.at p.0 p.1)

short_is : {A : Type 0} (place : ℕ) (r : Read A) (f : ReadFault) → IsShortAt place r → r ≡ Err f → r ≡ Err (Short place)
short_is place (Ok p) f e is = absurd cc
short_is place (Err g) f e is = ap (λ h. Err h) e

pub no_body : (left : Left) → NoBody left → IsBadAt (bytes32_at left) left.at
no_body left none = inl (short_is left.at (bytes32_at left) none.0 (body_short left) none.1)

-- the bytes, and what is left behind them
pub body_then : (file body : List ℕ) (end place : ℕ) → place + 4 + length body ≤ end → IsBody body (left_at file end place)
    → bytes32_at (left_at file end place) ≡ Ok (body, left_at file end (place + 4 + length body))
body_then file body end place within is = is ∙ ap (λ (l : Left). Ok (body, l)) (left_behind file end place (length body) within)

-- ---- faults

-- a fault of a step is one of what follows
pub fault_then : {Y V : Type 0} (number : ℕ) (f : TableFault) (read : Result Y ReadFault) (all : Result V ReadFault)
    → ((at : ℕ) → IsBadAt read at → IsBadAt all at) → IsFault number f read → IsFault number f all
fault_then number table_fault.ReadFault read all later is = tt
fault_then number (table_fault.BadBlock n at) read all later is = (is.0, later at is.1)
fault_then number table_fault.Mem read all later is = tt
