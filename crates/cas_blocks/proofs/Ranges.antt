-- A range of a file that is filled piece by piece.
use Rattle.std.proofs.Common.{◌≡◌, ℕ, ◌+◌, ◌≤◌, List, ◌++◌, length, take, drop, refl, sym, ◌∙◌, ap, arith, length-drop, take-append-drop}
use Rattle.std.proofs.lemmas.List.{take-take, drop-take, drop-drop, take_at, drop_at, length-take-le}
use Rattle.std.proofs.lemmas.Slice.{take-put_mid}
use borrow.Rule.Slice.PartMut.{put_mid}
use Rattle.cas_disk.specs.Disk.{Gives}
use Rattle.cas_blocks.specs.Inner.Ranges.{IsFront}

take_both : (n m : ℕ) (xs : List ℕ) → take n xs ++ take m (drop n xs) ≡ take (n + m) xs
take_both n m xs =
    (λ i. sym (take-take n (n + m) xs (omega arith)) i ++ sym (drop-take n m xs) i) ∙ take-append-drop n (take (n + m) xs)

-- so many of two lists one behind the other
take_past : (n m : ℕ) (xs ys : List ℕ) → length xs ≡ n → take (n + m) (xs ++ ys) ≡ xs ++ take m ys
take_past n m xs ys long = sym (take_both n m (xs ++ ys)) ∙ (λ i. take_at xs ys n long i ++ take m (drop_at xs ys n long i))

pub filled_more : (at filled given k : ℕ) (file items piece : List ℕ) → filled ≤ length items → length piece ≡ k → given ≤ length piece
    → IsFront file at filled items → Gives file (at + filled) given piece → IsFront file at (filled + given) (put_mid filled k items piece)
filled_more at filled given k file items piece low long few front gives =
    let whole : take (filled + length piece) (put_mid filled k items piece) ≡ take filled items ++ piece =
    take-put_mid filled k items piece (filled + length piece) refl low in
    let is : length (take filled items) ≡ filled = length-take-le filled items low in
    record {
      there = sym (take-take (filled + given) (filled + length piece) (put_mid filled k items piece) (omega arith))
          ∙ ap (take (filled + given)) whole ∙ take_past filled given (take filled items) piece is
          ∙ (λ i. front.there i ++ (gives.bytes ∙ ap (take given) (sym (drop-drop filled at file))) i)
          ∙ take_both filled given (drop at file);
      within = omega (arith, front.within, gives.within, length-drop at file);
    }
