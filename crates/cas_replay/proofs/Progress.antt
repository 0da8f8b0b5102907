-- What is kept of what was read, and what is handed on of it.
use Rattle.std.proofs.Common.{◌≡◌, ℕ, cond, true, false, append_assoc, List, [], ◌∷◌, ◌++◌, filter, Option, Ok, Err, refl, sym, ap, subst, ◌∙◌}
use Rattle.std.proofs.lemmas.List.{append-nil}
use Rattle.std.proofs.lemmas.List.Elements.{filter-append}
use Rattle.cas_types.specs.Limits.{IsShardCount}
use Rattle.cas_types.specs.declared.schema.TableSchema.{TableSchema}
use Rattle.cas_codec.specs.declared.fault.ReadFault.TheVariants.{Bad}
use Rattle.cas_codec.specs.Reading.{Left, checked}
use Rattle.cas_codec.proofs.Exactness.{bind_ok, test_ok}
use Rattle.cas_atoms.specs.declared.atom.Mutation.{Mutation}
use Rattle.cas_mutations.specs.Allowed.{AreTables, FitsRecord}
use Rattle.cas_mutations.specs.Reading.{record_at}
use Rattle.cas_replay.specs.Reading.{follows, next_at, is_above}
use Rattle.cas_replay.specs.Replays.{IsOfALog}
use Rattle.cas_replay.specs.Grammar.{AreOfALog}
use Rattle.cas_replay.specs.Inner.Steps.{StayALog}
use Rattle.cas_replay.specs.Inner.Progress.{Went}
use Rattle.cas_replay.specs.declared.lasts.Lasts.{Lasts}
use Rattle.cas_replay.proofs.Order.{in_order}
use Rattle.cas_replay.proofs.SegmentLaws.{fit_both}

-- ---- what is handed on

module _ (shards : ℕ) (frontiers : List ℕ) (took : List Mutation → Type 0) (first before : List Mutation) (m : Mutation) where
  pub handed_more : is_above shards frontiers m ≡ true → took ((first ++ filter (is_above shards frontiers) before) ++ m ∷ [])
      → took (first ++ filter (is_above shards frontiers) (before ++ m ∷ []))
  handed_more above was =
      let one : filter (is_above shards frontiers) (m ∷ []) ≡ m ∷ [] = rw above refl in
      subst took (append_assoc first (filter (is_above shards frontiers) before) (m ∷ [])
      ∙ ap (λ (l : List Mutation). first ++ l) (ap (λ (l : List Mutation). filter (is_above shards frontiers) before ++ l) (sym one)
      ∙ sym (filter-append (is_above shards frontiers) before (m ∷ [])))) was

  pub passed_over : is_above shards frontiers m ≡ false → took (first ++ filter (is_above shards frontiers) before)
      → took (first ++ filter (is_above shards frontiers) (before ++ m ∷ []))
  passed_over below was =
      let none : filter (is_above shards frontiers) (m ∷ []) ≡ [] = rw below refl in
      subst took (ap (λ (l : List Mutation). first ++ l) (sym (append-nil (filter (is_above shards frontiers) before))
      ∙ ap (λ (l : List Mutation). filter (is_above shards frontiers) before ++ l) (sym none) ∙ sym (filter-append (is_above shards frontiers) before (m ∷ [])))) was

-- ---- mutations that a log may have

-- a log has no mutations before the first
pub none_yet : (tables : List TableSchema) (shards : ℕ) → AreOfALog tables shards []
none_yet tables shards = record { fit = tt; ordered = λ shard. tt }

module _ (tables : List TableSchema) (shards : ℕ) where
  next_follows : (before : List Mutation) (left after : Left) (m : Mutation) → next_at tables shards before left ≡ Ok (m, after) → follows before m ≡ true
  unfolding next_at checked
  next_follows before left after m e =
      let p = bind_ok (record_at tables shards left) (λ (found : Mutation × Left). cond (follows before found.0) (Ok found) (Err (Bad left.at))) (m, after) e in
      let q = test_ok (follows before p.0.0) (Bad left.at) p.0 (m, after) p.2 in
      ap (λ (y : Mutation × Left). follows before y.0) (sym q.1) ∙ q.0

  pub stay_more : (before : List Mutation) (left after : Left) (m : Mutation) → (AreTables tables → IsShardCount shards → FitsRecord tables shards m)
      → next_at tables shards before left ≡ Ok (m, after) → StayALog tables shards before (before ++ m ∷ [])
  stay_more before left after m fits e are some of_log = record {
    fit = fit_both (FitsRecord tables shards) before (m ∷ []) of_log.fit (fits are some, tt);
    ordered = in_order before (m ∷ []) of_log.ordered (next_follows before left after m e, tt);
  }

  -- what was taken since nothing was read
  pub of_a_log : (frontiers : List ℕ) (took : List Mutation → Type 0) (lasts : Lasts) (says : List Mutation → Type 0) → Went tables shards frontiers took lasts [] says
      → (given : List Mutation) × took given × IsOfALog tables shards frontiers given
  of_a_log frontiers took lasts says went = (
    filter (is_above shards frontiers) went.after,
    went.stands.handed,
    record { all = went.after; are = λ are some. went.stay are some (none_yet tables shards); above = refl },
  )
