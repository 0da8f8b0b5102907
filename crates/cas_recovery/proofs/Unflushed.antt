-- A store without table files: all mutations of its log are above the frontiers.
use Rattle.std.proofs.Common.{◌≡◌, true, cond, List, [], ◌∷◌, filter, refl, ap, ◌∙◌, arith}
use Rattle.std.proofs.lemmas.Bool.{lt-ltb}
use Rattle.std.specs.List.{AllByRecursion}
use Rattle.cas_atoms.specs.declared.atom.Mutation.{Mutation}
use Rattle.cas_mutations.specs.Allowed.{FitsRecord}
use Rattle.cas_changes.specs.declared.said.Part.{Part}
use Rattle.cas_changes.specs.Saying.{Saying, part_of, no_part}
use Rattle.cas_opening.specs.Opening.{is_above}
use Rattle.cas_recovery.specs.Found.{IsUnflushed}
use Rattle.cas_recovery.proofs.Places.{get_within}

one_above : (s : Saying) (m : Mutation) → IsUnflushed s → FitsRecord s.tables s.shards m → is_above s m ≡ true
one_above s m none fit =
    let part : part_of s m.table m.shard ≡ no_part = none.parts m.table m.shard (get_within s.tables m.table fit.table fit.there) fit.fits.shard in
    let low : (part_of s m.table m.shard).frontier ≡ 0 = ap (λ (p : Part). p.frontier) part in
    lt-ltb (part_of s m.table m.shard).frontier m.number (omega (arith, low, fit.fits.number.0))

module _ (s : Saying) (none : IsUnflushed s) where
  all_above : (ms : List Mutation) → AllByRecursion (FitsRecord s.tables s.shards) ms → filter (is_above s) ms ≡ ms
  all_above [] fit = refl
  all_above (m ∷ ms) fit = ap (λ b. cond b (m ∷ filter (is_above s) ms) (filter (is_above s) ms)) (one_above s m none fit.0) ∙ ap (λ l. m ∷ l) (all_above ms fit.1)

pub all_given : (s : Saying) (ms : List Mutation) → IsUnflushed s → AllByRecursion (FitsRecord s.tables s.shards) ms → filter (is_above s) ms ≡ ms
all_given s ms none fit = all_above s none ms fit
