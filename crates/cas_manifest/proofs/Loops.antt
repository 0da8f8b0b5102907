-- A loop over the blocks of a manifest, of which i of at most n are read.
use Rattle.std.proofs.Common.{◌≡◌, ◌≢◌, ℕ, suc, ◌+◌, ◌-◌, ◌<◌, ◌≤◌, Bool, Ok, Err, sym, ◌∙◌, ap, arith}
use Rattle.std.proofs.lemmas.Bool.Decides.{nat_tests}
use Rattle.std.specs.Prelude.{if◌then◌else◌, ◌==◌, false}
use Rattle.cas_codec.specs.declared.fault.ReadFault.{ReadFault}
use Rattle.cas_codec.specs.declared.fault.ReadFault.TheVariants.{Short}
use Rattle.cas_codec.specs.Reading.{Left, Read, ◌>>=◌, u8_at}
use Rattle.cas_manifest.specs.Reading.{Far, next_at, blocks_at}

abbrev pub the_far : Far → Far
the_far far = far

abbrev pub far_at : Far → ℕ → Far × ℕ
far_at far at = (far, at)

abbrev pub far_read : Far → ℕ → Left → Read (Far × ℕ)
far_read far at left = Ok ((far, at), left)

module _ (n i : ℕ) (far : Far) (left : Left) (whole : Read (Far × ℕ)) (so_far : blocks_at (n - i) far left ≡ whole) where
  -- what follows a gate
  abbrev beyond : ℕ × Left → Read (Far × ℕ)
  beyond gate = if gate.0 == 1 then (next_at far gate.1 >>= λ next. blocks_at (n - (i + 1)) next.0 next.1) else Ok ((far, left.at), gate.1)

  a_gate : i < n → (u8_at left >>= beyond) ≡ whole
  unfolding blocks_at
  a_gate more =
      let k : n - i ≡ suc (n - (i + 1)) = omega arith in
      sym (ap (λ (j : ℕ). blocks_at j far left) k) ∙ so_far

  pub no_gate : i < n → (f : ReadFault) → u8_at left ≡ Err f → whole ≡ Err f
  no_gate more f e = sym (a_gate more) ∙ ap (λ (r : Read ℕ). r >>= beyond) e

  pub shut_gate : i < n → (gate : ℕ) (after : Left) → gate ≢ 1 → u8_at left ≡ Ok (gate, after) → whole ≡ Ok ((far, left.at), after)
  shut_gate more gate after shut e =
      let no : (gate == 1) ≡ false = grind (arith, nat_tests) in
      sym (a_gate more) ∙ ap (λ (r : Read ℕ). r >>= beyond) e
      ∙ ap (λ (b : Bool). if b then (next_at far after >>= λ next. blocks_at (n - (i + 1)) next.0 next.1) else Ok ((far, left.at), after)) no

  opened_gate : i < n → (gate : ℕ) → gate ≡ 1 → (after : Left) → u8_at left ≡ Ok (gate, after) → (next_at far after >>= λ next. blocks_at (n - (i + 1)) next.0 next.1) ≡ whole
  opened_gate more gate one after e =
      sym (ap (λ (r : Read ℕ). r >>= beyond) (e ∙ ap (λ (g : ℕ). Ok (g, after)) one)) ∙ a_gate more

  pub one_block : i < n → (gate : ℕ) → gate ≡ 1 → (after : Left) (now : Far) (rest : Left) → u8_at left ≡ Ok (gate, after) → next_at far after ≡ Ok (now, rest)
      → blocks_at (n - (i + 1)) now rest ≡ whole
  one_block more gate one after now rest e is =
      sym (ap (λ (r : Read Far). r >>= λ next. blocks_at (n - (i + 1)) next.0 next.1) is) ∙ opened_gate more gate one after e

  pub bad_block : i < n → (gate : ℕ) → gate ≡ 1 → (after : Left) (f : ReadFault) → u8_at left ≡ Ok (gate, after) → next_at far after ≡ Err f → whole ≡ Err f
  bad_block more gate one after f e is =
      sym (opened_gate more gate one after e) ∙ ap (λ (r : Read Far). r >>= λ next. blocks_at (n - (i + 1)) next.0 next.1) is

  pub too_many : n ≤ i → whole ≡ Err (Short left.at)
  unfolding blocks_at
  too_many through =
      let k : n - i ≡ 0 = omega arith in
      sym so_far ∙ ap (λ (j : ℕ). blocks_at j far left) k
