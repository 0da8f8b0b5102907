-- A file that is read piece by piece.
use Rattle.std.proofs.Common.{◌≡◌, ⊎_elim, ℕ, ◌+◌, ◌<◌, List, ◌++◌, length, take, drop, Option, sym, ◌∙◌, ap, subst, arith, length-append, length-take, length-drop, take-append-drop}
use Rattle.std.proofs.lemmas.List.{take-take, drop-take, drop-drop, take_all}
use Rattle.cas_disk.specs.declared.name.Name.{Name}
use Rattle.cas_disk.specs.Disk.{Image, Disk, During, Follows, Same, Gives, bytes_of}
use Rattle.cas_disk.proofs.Moments.{one_call_more, reads_on}
use Rattle.cas_files.specs.Ahead.{AreNext}

-- calls that change nothing, one after another
pub same_more : (a b z : Disk) → During Same a b → During Same b z → During Same a z
same_more a b z first second = one_call_more Same Same a b z first second (λ d c was mid same. same) (λ e d c was before mid same k. same k ∙ before k)

pub reads_more : (a b z : Disk) → Follows Same a.reads b.reads → Follows Same b.reads z.reads → Follows Same a.reads z.reads
reads_more a b z first second c read =
    let (d, was, same) = second c read in
    let (e, before, still) = first d was in
    (e, before, λ k. same k ∙ still k)

take_both : (n m : ℕ) (xs : List ℕ) → take n xs ++ take m (drop n xs) ≡ take (n + m) xs
take_both n m xs =
    (λ i. sym (take-take n (n + m) xs (omega arith)) i ++ sym (drop-take n m xs) i) ∙ take-append-drop n (take (n + m) xs)

-- the next bytes, and those behind them
pub piece_more : (at count place : ℕ) (file bytes piece : List ℕ) → AreNext at file bytes → place ≡ at + length bytes → Gives file place count piece
    → AreNext at file (bytes ++ take count piece)
piece_more at count place file bytes piece so_far is gives =
    let n = length bytes in
    let same : take count piece ≡ take count (drop n (drop at file)) =
    gives.bytes ∙ ap (λ (k : ℕ). take count (drop k file)) is ∙ ap (λ (l : List ℕ). take count l) (sym (drop-drop n at file)) in
    let long : length (bytes ++ take count piece) ≡ n + count =
    omega (arith, length-append bytes (take count piece), ap length gives.bytes, length-take count (drop place file), length-drop place file, gives.within) in
    record {
      next = (λ i. so_far.next i ++ same i) ∙ take_both n count (drop at file) ∙ ap (λ (k : ℕ). take k (drop at file)) (sym long);
    }

-- where none are given the file has no more
pub piece_last : (at count place : ℕ) (file bytes piece : List ℕ) → AreNext at file bytes → place ≡ at + length bytes → Gives file place count piece
    → count ≡ 0 → 0 < length piece → bytes ≡ drop at file
piece_last at count place file bytes piece so_far is gives none some =
    so_far.next ∙ take_all (length bytes) (drop at file) (⊎_elim (λ no_room. absurd (omega arith)) (λ end. omega (arith, end, is, length-drop at file))
    (gives.end none))

-- what is given now of a file was there at the start
pub given_at_start : (start now : Disk) → During Same start now → Follows Same start.reads now.reads → (n : Name) (at count : ℕ) (piece : List ℕ)
    → ((c : Image) → now.reads c → Gives (bytes_of (c n)) at count piece) → (c : Image) → start.reads c → Gives (bytes_of (c n)) at count piece
given_at_start start now during reads n at count piece given c read =
    let (d, still, same) = reads_on start now during reads c read in
    subst (λ (x : Option (List ℕ)). Gives (bytes_of x) at count piece) (same n) (given d still)
