-- The two writes of a block behind a gate: what they put there, and what a crash may leave of each.
use Rattle.std.proofs.Common.{◌≡◌, ◌≢◌, ℕ, ◌+◌, ◌≤◌, max, List, [], ◌∷◌, ◌++◌, length, take, drop, Option, Some, refl, sym, ◌∙◌, ap, subst, arith, append_assoc, length-append, take-append-drop}
use Rattle.std.proofs.lemmas.List.{take_at, take_all, append-nil}
use Rattle.std.proofs.Math.Seq.{drop-append-add, drop-nil}
use Rattle.cas_disk.specs.Disk.{Torn, MayTear, put_at}
use Rattle.cas_gates.specs.Gates.{MayOpen, MayOpenOver}

-- ---- what stands before a write stays

passed : (a b : List ℕ) (at n : ℕ) → length a ≡ at → drop (at + n) (a ++ b) ≡ drop n b
passed a b at n is = ap (λ (m : ℕ). drop (m + n) (a ++ b)) (sym is) ∙ drop-append-add a b n

module _ (a b old : List ℕ) (at : ℕ) (is : length a ≡ at) (parts : old ≡ a ++ b) where
  put_behind : (bytes : List ℕ) → put_at at bytes old ≡ a ++ bytes ++ drop (length bytes) b
  put_behind bytes =
      ap (λ (l : List ℕ). put_at at bytes l) parts
      ∙ ap (λ (l : List ℕ). l ++ bytes ++ drop (at + length bytes) (a ++ b)) (take_at a b at is)
      ∙ ap (λ (l : List ℕ). a ++ bytes ++ l) (passed a b at (length bytes) is)

  -- and of what stood behind it all but the first n bytes
  torn_behind : (n : ℕ) (file : List ℕ) → Torn at n old file
      → (rest : List ℕ) × (file ≡ a ++ rest) × (take (length (drop n b)) (drop n rest) ≡ drop n b) × (length b ≤ length rest) × (length rest ≤ max (length b) n)
  torn_behind n file torn =
      let rest = drop at file in
      let stays : take at old ≡ a = ap (λ (l : List ℕ). take at l) parts ∙ take_at a b at is in
      let begins : take at file ≡ a = ap (λ (m : ℕ). take m file) (sym (ap length stays ∙ is)) ∙ torn.before ∙ stays in
      let split : file ≡ a ++ rest = sym (take-append-drop at file) ∙ ap (λ (l : List ℕ). l ++ rest) begins in
      let was : drop (at + n) old ≡ drop n b = ap (λ (l : List ℕ). drop (at + n) l) parts ∙ passed a b at n is in
      let now : drop (at + n) file ≡ drop n rest = ap (λ (l : List ℕ). drop (at + n) l) split ∙ passed a rest at n is in (
        rest,
        split,
        (λ i. take (length (sym was i)) (sym now i)) ∙ torn.after ∙ was,
        omega (arith, torn.no_shorter, ap length parts, ap length split, length-append a b, length-append a rest),
        omega (arith, torn.no_longer, is, ap length parts, ap length split, length-append a b, length-append a rest),
      )

-- ---- a gate and its block

-- a block that stands behind a gate of any kind
any_gate : (front block rest : List ℕ) (found : Option (List ℕ)) → found ≡ Some (front ++ rest) → take (length block) (drop 1 rest) ≡ block
    → length block + 1 ≡ length rest → MayOpen front block found
any_gate front block [] found is behind long = absurd (omega (arith, long))
any_gate front block (gate ∷ rest) found is behind long = record {
  gate = gate;
  rest = rest;
  is = is;
  whole = λ one. sym (take_all (length block) rest (omega (arith, long))) ∙ behind;
}

module _ (front block : List ℕ) (gate : ℕ) (at : length front ≡ gate) where
  shut_long : length (front ++ 0 ∷ []) ≡ gate + 1
  shut_long = omega (arith, at, length-append front (0 ∷ []))

  pub block_put : put_at (gate + 1) block (front ++ 0 ∷ []) ≡ front ++ 0 ∷ block
  block_put =
      put_behind (front ++ 0 ∷ []) [] (front ++ 0 ∷ []) (gate + 1) shut_long (sym (append-nil (front ++ 0 ∷ []))) block
      ∙ ap (λ (l : List ℕ). (front ++ 0 ∷ []) ++ block ++ l) (drop-nil (length block))
      ∙ append-nil ((front ++ 0 ∷ []) ++ block)
      ∙ append_assoc front (0 ∷ []) block

  pub gate_put : put_at gate (1 ∷ []) (front ++ 0 ∷ block) ≡ front ++ 1 ∷ block
  gate_put = put_behind front (0 ∷ block) (front ++ 0 ∷ block) gate at refl (1 ∷ []) ∙ append_assoc front (1 ∷ []) block

  -- the first write leaves the gate closed
  pub stays_closed : (n : ℕ) (old found : Option (List ℕ)) → old ≡ Some (front ++ 0 ∷ []) → MayTear (gate + 1) n old found → MayOpen front block found
  stays_closed n old found was tear =
      let (file, is, torn) = subst (λ (o : Option (List ℕ)). MayTear (gate + 1) n o found) was tear in
      let (rest, split, _, _, _) = torn_behind (front ++ 0 ∷ []) [] (front ++ 0 ∷ []) (gate + 1) shut_long (sym (append-nil (front ++ 0 ∷ []))) n file torn in
      record { gate = 0; rest = rest; is = is ∙ ap (λ (l : List ℕ). Some l) (split ∙ append_assoc front (0 ∷ []) rest); whole = λ one. absurd (omega arith) }

  -- the second one leaves the block whole
  pub stays_whole : (old found : Option (List ℕ)) → old ≡ Some (front ++ 0 ∷ block) → MayTear gate 1 old found → MayOpen front block found
  stays_whole old found was tear =
      let (file, is, torn) = subst (λ (o : Option (List ℕ)). MayTear gate 1 o found) was tear in
      let (rest, split, behind, no_shorter, no_longer) = torn_behind front (0 ∷ block) (front ++ 0 ∷ block) gate at refl 1 file torn in
      any_gate front block rest found (is ∙ ap (λ (l : List ℕ). Some l) split) behind (omega (arith, no_shorter, no_longer))

-- ---- the same where something follows the closed gate

-- a block, and what is left behind it, that stand behind a gate of any kind
any_gate_over : (front block left rest : List ℕ) (found : Option (List ℕ)) → found ≡ Some (front ++ rest) → take (length (block ++ left)) (drop 1 rest) ≡ block ++ left
    → length (block ++ left) + 1 ≡ length rest → MayOpenOver front block found
any_gate_over front block left [] found is behind long = absurd (omega (arith, long))
any_gate_over front block left (gate ∷ rest) found is behind long = record {
  gate = gate;
  rest = rest;
  is = is;
  whole = λ one. (left, sym (take_all (length (block ++ left)) rest (omega (arith, long))) ∙ behind);
}

module _ (front block : List ℕ) (gate : ℕ) (at : length front ≡ gate) (closed : ℕ) where
  closed_long : length (front ++ closed ∷ []) ≡ gate + 1
  closed_long = omega (arith, at, length-append front (closed ∷ []))

  pub block_put_over : (rest : List ℕ) → put_at (gate + 1) block (front ++ closed ∷ rest) ≡ front ++ closed ∷ (block ++ drop (length block) rest)
  block_put_over rest =
      put_behind (front ++ closed ∷ []) rest (front ++ closed ∷ rest) (gate + 1) closed_long (sym (append_assoc front (closed ∷ []) rest)) block
      ∙ append_assoc (front ++ closed ∷ []) block (drop (length block) rest)
      ∙ append_assoc front (closed ∷ []) (block ++ drop (length block) rest)

  pub gate_put_over : (rest : List ℕ) → put_at gate (1 ∷ []) (front ++ closed ∷ rest) ≡ front ++ 1 ∷ rest
  gate_put_over rest = put_behind front (closed ∷ rest) (front ++ closed ∷ rest) gate at refl (1 ∷ []) ∙ append_assoc front (1 ∷ []) rest

  -- the first write leaves the gate closed
  pub stays_closed_over : closed ≢ 1 → (rest : List ℕ) (n : ℕ) (old found : Option (List ℕ)) → old ≡ Some (front ++ closed ∷ rest) → MayTear (gate + 1) n old found
      → MayOpenOver front block found
  stays_closed_over shut rest n old found was tear =
      let (file, is, torn) = subst (λ (o : Option (List ℕ)). MayTear (gate + 1) n o found) was tear in
      let (behind, split, _, _, _) = torn_behind (front ++ closed ∷ []) rest (front ++ closed ∷ rest) (gate + 1) closed_long (sym (append_assoc front (closed ∷ []) rest)) n file torn in
      record { gate = closed; rest = behind; is = is ∙ ap (λ (l : List ℕ). Some l) (split ∙ append_assoc front (closed ∷ []) behind); whole = λ one. absurd (shut one) }

  -- the second one leaves the block whole
  pub stays_whole_over : (left : List ℕ) (old found : Option (List ℕ)) → old ≡ Some (front ++ closed ∷ (block ++ left)) → MayTear gate 1 old found → MayOpenOver front block found
  stays_whole_over left old found was tear =
      let (file, is, torn) = subst (λ (o : Option (List ℕ)). MayTear gate 1 o found) was tear in
      let (rest, split, behind, no_shorter, no_longer) = torn_behind front (closed ∷ (block ++ left)) (front ++ closed ∷ (block ++ left)) gate at refl 1 file torn in
      any_gate_over front block left rest found (is ∙ ap (λ (l : List ℕ). Some l) split) behind (omega (arith, no_shorter, no_longer))
