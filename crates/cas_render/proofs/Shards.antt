-- A table in one shard more.
use Rattle.std.proofs.Common.{◌≡◌, ◌+◌, ℕ, List, [], ◌∷◌, ◌++◌, map, sym, ap, ◌∙◌, append_assoc, arith}
use Rattle.std.specs.List.{range_with_len}
use Rattle.std.proofs.lemmas.List.FromFn.{map-range_with_len_more}
use Rattle.cas_render.specs.declared.reply.Listed.{Listed}

pub one_more : (f : ℕ → Listed) (start before now : List Listed) (k : ℕ) (x : Listed) → before ≡ start ++ map f (range_with_len 0 k) → now ≡ before ++ x ∷ []
    → x ≡ f k → now ≡ start ++ map f (range_with_len 0 (k + 1))
one_more f start before now k x had more is =
    more ∙ ap (λ xs. xs ++ x ∷ []) had ∙ append_assoc start (map f (range_with_len 0 k)) (x ∷ [])
    ∙ ap (λ y. start ++ (map f (range_with_len 0 k) ++ y ∷ [])) is ∙ ap (λ xs. start ++ xs) (sym (map-range_with_len_more f 0 k k (omega arith)))
