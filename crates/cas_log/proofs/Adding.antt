-- How a record is added to a block: the next gate is taken away, and put back behind the record.
use Rattle.std.proofs.Common.{◌≡◌, ℕ, ◌+◌, List, [], ◌∷◌, ◌++◌, length, take, drop, refl, ◌∙◌, ap, arith, append_assoc, length-append}
use Rattle.std.proofs.lemmas.List.{take_at, drop_at}
use Rattle.cas_codec.specs.Fields.{u32}
use Rattle.cas_log.specs.Segment.{lengths, written}

lengths_long : (long count : ℕ) → length (lengths long count) ≡ 8
unfolding lengths u32
lengths_long long count = refl

module _ (records more block : List ℕ) (n before : ℕ) (is : block ≡ written records before) (long : length block ≡ n + 1) where
  -- the block without the next gate, and a record behind it
  abbrev pub added : List ℕ
  added = take n block ++ more

  -- behind the lengths it has the records, and that one behind them
  pub records_added : drop 8 added ≡ records ++ more
  records_added =
      let head = lengths (length records) before in
      let reach : length (head ++ records) ≡ n = omega (arith, ap length is, length-append (head ++ records) (0 ∷ []), long) in
      ap (λ (l : List ℕ). drop 8 (take n l ++ more)) is
      ∙ ap (λ (l : List ℕ). drop 8 (l ++ more)) (take_at (head ++ records) (0 ∷ []) n reach)
      ∙ ap (λ (l : List ℕ). drop 8 l) (append_assoc head records more)
      ∙ drop_at head (records ++ more) 8 (lengths_long (length records) before)
