-- A block's bytes behind their number.
use Rattle.std.proofs.Common.{◌≡◌, ℕ, ◌+◌, ◌-◌, ◌<◌, ◌≤◌, ◌^◌, Bool, true, false, cond, ltb, List, length, take, drop, None, Some, Ok, Err, refl, sym, ap, ◌∙◌, arith, length-take, length-drop}
use Rattle.std.proofs.lemmas.Bool.{ltb-true, ltb-false}
use Rattle.std.proofs.lemmas.List.{take-take, drop-take, drop-drop, take_all}
use Rattle.std.specs.Int.{w32, from_be_bytes}
use Rattle.cas_codec.specs.declared.fault.ReadFault.{ReadFault}
use Rattle.cas_codec.specs.declared.fault.ReadFault.TheVariants.{Short, Bad, Mem}
use Rattle.cas_codec.specs.Reading.{Left, Read, ◌>>=◌, bytes_at, unsigned_at, u32_at, bytes32_at, Gives}
use Rattle.cas_codec.specs.Fields.{u32}
use Rattle.cas_codec.specs.Exact.{Refuses}
use Rattle.cas_codec.proofs.Exactness.{read_left, ok_is}
use Rattle.cas_blocks.specs.Reading.{left_at}
use Rattle.cas_blocks.specs.Inner.Bodies.{TellsLength, NoBody, IsBody}

-- ---- fields

abbrev later : ℕ → Left → Left
later n left = read_left (drop n left.bytes) (left.at + n)

bytes_there : (place n : ℕ) (left : Left) → n ≤ length left.bytes → bytes_at place n left ≡ Ok (take n left.bytes, later n left)
unfolding bytes_at
bytes_there place n left long = go (ltb (length left.bytes) n) refl
  where
    go : (b : Bool) → ltb (length left.bytes) n ≡ b → cond {A = Read (List ℕ)} b (Err (Short place)) (Ok (take n left.bytes, later n left)) ≡ Ok (take n left.bytes, later n left)
    go true e = absurd (let less : length left.bytes < n = ltb-true (length left.bytes) n e in omega arith)
    go false e = refl

bytes_lack : (place n : ℕ) (left : Left) → length left.bytes < n → bytes_at place n left ≡ Err (Short place)
unfolding bytes_at
bytes_lack place n left less = go (ltb (length left.bytes) n) refl
  where
    go : (b : Bool) → ltb (length left.bytes) n ≡ b → cond {A = Read (List ℕ)} b (Err (Short place)) (Ok (take n left.bytes, later n left)) ≡ Err (Short place)
    go true e = refl
    go false e = absurd (let more : n ≤ length left.bytes = ltb-false (length left.bytes) n e in omega arith)

u32_there : (left : Left) → 4 ≤ length left.bytes → u32_at left ≡ Ok (from_be_bytes w32 (take 4 left.bytes), later 4 left)
unfolding u32_at unsigned_at
u32_there left long = ap (λ r. r >>= λ (front : List ℕ × Left). Ok (from_be_bytes w32 front.0, front.1)) (bytes_there left.at 4 left long)

pub u32_lacks : (left : Left) → length left.bytes < 4 → u32_at left ≡ Err (Short left.at)
unfolding u32_at unsigned_at
u32_lacks left less = ap (λ r. r >>= λ (front : List ℕ × Left). Ok (from_be_bytes w32 front.0, front.1)) (bytes_lack left.at 4 left less)

-- a number of four bytes that was read, and one that wasn't
u32_ok : (left new : Left) (n : ℕ) → u32_at left ≡ Ok (n, new) → (4 ≤ length left.bytes) × (n ≡ from_be_bytes w32 (take 4 left.bytes))
u32_ok left new n e = go (ltb (length left.bytes) 4) refl
  where
    go : (b : Bool) → ltb (length left.bytes) 4 ≡ b → (4 ≤ length left.bytes) × (n ≡ from_be_bytes w32 (take 4 left.bytes))
    go true t = absurd (let none = u32_lacks left (ltb-true (length left.bytes) 4 t) in cc)
    go false t =
        let long : 4 ≤ length left.bytes = ltb-false (length left.bytes) 4 t in
        (long, ap (λ (p : ℕ × Left). p.0) (ok_is (n, new) (from_be_bytes w32 (take 4 left.bytes), later 4 left) (sym e ∙ u32_there left long)))

u32_err : (left : Left) (f : ReadFault) → u32_at left ≡ Err f → length left.bytes < 4
u32_err left f e = go (ltb (length left.bytes) 4) refl
  where
    go : (b : Bool) → ltb (length left.bytes) 4 ≡ b → length left.bytes < 4
    go true t = ltb-true (length left.bytes) 4 t
    go false t = absurd (let there = u32_there left (ltb-false (length left.bytes) 4 t) in cc)

-- ---- in a file

left_long : (file : List ℕ) (end place : ℕ) → length (left_at file end place).bytes ≤ end - place
left_long file end place = omega (arith, length-take (end - place) (drop place file))

-- the first bytes up to the end are the file's
front_is : (n : ℕ) (file : List ℕ) (end place : ℕ) → n ≤ end - place → take n (left_at file end place).bytes ≡ take n (drop place file)
front_is n file end place within = take-take n (end - place) (drop place file) within

pub length_told : (file : List ℕ) (end place n : ℕ) (reader new : Left) → 4 ≤ end - place → reader.bytes ≡ take 4 (drop place file)
    → u32_at reader ≡ Ok (n, new) → TellsLength (Some n) (left_at file end place)
length_told file end place n reader new within is e =
    let was = u32_ok reader new n e in
    let long : 4 ≤ length (take (end - place) (drop place file)) =
    omega (arith, was.0, ap length is, length-take 4 (drop place file), length-take (end - place) (drop place file)) in
    let whole : take 4 reader.bytes ≡ reader.bytes = take_all 4 reader.bytes (omega (arith, ap length is, length-take 4 (drop place file))) in
    let same : take 4 (take (end - place) (drop place file)) ≡ take 4 reader.bytes = front_is 4 file end place within ∙ sym is ∙ sym whole in
    u32_there (left_at file end place) long
    ∙ ap (λ (m : ℕ). Ok (m, later 4 (left_at file end place))) (ap (from_be_bytes w32) same ∙ sym was.1)

lacks : (reader new : Left) (f : ReadFault) → Gives (λ (n : ℕ). n) (Err f) new (u32_at reader) → Refuses (λ n. n < 2 ^ 32) u32 reader f → length reader.bytes < 4
lacks reader new (Short at) e refuses = u32_err reader (Short at) e
lacks reader new (Bad at) e refuses = u32_err reader (Bad at) e
lacks reader new Mem e refuses = absurd refuses

pub length_lacks : (file : List ℕ) (end place : ℕ) (reader new : Left) (f : ReadFault) → 4 ≤ end - place → reader.bytes ≡ take 4 (drop place file)
    → Gives (λ (n : ℕ). n) (Err f) new (u32_at reader) → Refuses (λ n. n < 2 ^ 32) u32 reader f → TellsLength None (left_at file end place)
length_lacks file end place reader new f within is e refuses =
    let short : length reader.bytes < 4 = lacks reader new f e refuses in
    omega (arith, ap length is, length-take 4 (drop place file), length-take (end - place) (drop place file))

pub no_room : (file : List ℕ) (end place : ℕ) → end - place < 4 → TellsLength None (left_at file end place)
no_room file end place less = omega (arith, left_long file end place)

-- ---- bodies

pub no_length : (left : Left) → TellsLength None left → NoBody left
unfolding bytes32_at
no_length left short =
    (Short left.at, ap (λ r. r >>= λ (count : ℕ × Left). bytes_at left.at count.0 count.1) (u32_lacks left short))

lacks_body : (left : Left) (n : ℕ) → TellsLength (Some n) left → length (drop 4 left.bytes) < n → NoBody left
unfolding bytes32_at
lacks_body left n told less = (
  Short left.at,
  ap (λ r. r >>= λ (count : ℕ × Left). bytes_at left.at count.0 count.1) told ∙ bytes_lack left.at n (later 4 left) less,
)

has_body : (left : Left) (n : ℕ) → TellsLength (Some n) left → n ≤ length (drop 4 left.bytes)
    → bytes32_at left ≡ Ok (take n (drop 4 left.bytes), read_left (drop n (drop 4 left.bytes)) (left.at + 4 + n))
unfolding bytes32_at
has_body left n told long =
    ap (λ r. r >>= λ (count : ℕ × Left). bytes_at left.at count.0 count.1) told ∙ bytes_there left.at n (later 4 left) long

pub too_long : (file : List ℕ) (end place n : ℕ) → TellsLength (Some n) (left_at file end place) → end - place - 4 < n → NoBody (left_at file end place)
too_long file end place n told more =
    lacks_body (left_at file end place) n told (omega (arith, length-drop 4 (take (end - place) (drop place file)), left_long file end place))

pub cut_short : (file body : List ℕ) (end place n : ℕ) → TellsLength (Some n) (left_at file end place) → body ≡ take n (drop (place + 4) file)
    → length body < n → NoBody (left_at file end place)
cut_short file body end place n told is less =
    lacks_body (left_at file end place) n told
    (omega (
      arith,
      length-drop 4 (take (end - place) (drop place file)),
      length-take (end - place) (drop place file),
      length-drop place file,
      ap length is,
      length-take n (drop (place + 4) file),
      length-drop (place + 4) file,
    ))

inner_is : (file : List ℕ) (end place n : ℕ) → n ≤ end - place - 4 → 4 ≤ end - place
    → take n (drop 4 (left_at file end place).bytes) ≡ take n (drop (place + 4) file)
inner_is file end place n within room =
    let split : end - place ≡ 4 + (end - place - 4) = omega arith in
    ap (λ (m : ℕ). take n (drop 4 (take m (drop place file)))) split
    ∙ ap (take n) (drop-take 4 (end - place - 4) (drop place file))
    ∙ take-take n (end - place - 4) (drop 4 (drop place file)) within
    ∙ ap (take n) (drop-drop 4 place file)

pub body_read : (file body : List ℕ) (end place n : ℕ) → TellsLength (Some n) (left_at file end place) → body ≡ take n (drop (place + 4) file)
    → n ≤ end - place - 4 → 4 ≤ end - place → length body ≤ n → n ≤ length body → IsBody body (left_at file end place)
body_read file body end place n told is within room most least =
    let same : take n (drop 4 (left_at file end place).bytes) ≡ body = inner_is file end place n within room ∙ sym is in
    let long : length body ≡ n = omega arith in
    has_body (left_at file end place) n told
    (omega (arith, ap length same, length-take n (drop 4 (take (end - place) (drop place file)))))
    ∙ ap (λ (t : List ℕ). Ok (t, read_left (drop n (drop 4 (left_at file end place).bytes)) (place + 4 + n))) same
    ∙ ap (λ (m : ℕ). Ok (body, read_left (drop m (drop 4 (left_at file end place).bytes)) (place + 4 + m))) (sym long)

-- what is left behind a body
pub left_behind : (file : List ℕ) (end place n : ℕ) → place + 4 + n ≤ end
    → read_left (drop n (drop 4 (left_at file end place).bytes)) (place + 4 + n) ≡ left_at file end (place + 4 + n)
left_behind file end place n within =
    let split : end - place ≡ 4 + (n + (end - (place + 4 + n))) = omega arith in
    let order : n + (4 + place) ≡ place + 4 + n = omega arith in
    ap (λ (t : List ℕ). read_left t (place + 4 + n)) (
    ap (λ (m : ℕ). drop n (drop 4 (take m (drop place file)))) split
    ∙ ap (drop n) (drop-take 4 (n + (end - (place + 4 + n))) (drop place file))
    ∙ drop-take n (end - (place + 4 + n)) (drop 4 (drop place file))
    ∙ ap (λ (t : List ℕ). take (end - (place + 4 + n)) (drop n t)) (drop-drop 4 place file)
    ∙ ap (take (end - (place + 4 + n))) (drop-drop n (place + 4) file)
    )
