-- What the manifest says of table files isn't ahead of a store, after a step.
use Rattle.std.proofs.Common.{◌≡◌, ◌≢◌, ◌⊎◌, inl, inr, ◌≤◌, ◌+◌, ◌*◌, ℕ, zero, suc, List, [], ◌∷◌, ◌++◌, Some, refl, sym, ap, ◌∙◌, subst, arith}
use Rattle.std.specs.Prelude.{replicate, slice_get, slice_set, unwrap_or}
use Rattle.std.proofs.lemmas.Option.{same_Some}
use Rattle.std.specs.List.{AllByRecursion}
use Rattle.cas_changes.specs.Saying.{Saying, after, no_part, part_of, place_in, said_by}
use Rattle.cas_changes.specs.declared.said.Part.{Part}
use Rattle.cas_changes.specs.declared.entry.Entry.{Entry as ManifestEntry}
use Rattle.cas_changes.specs.declared.entry.Entry.TheVariants as entry
use Rattle.cas_journal.specs.Ends.{IsDefinition}
use Rattle.cas_journal.specs.Stores.{named}
use Rattle.cas_shard.specs.Stands.{ShardState}
use Rattle.cas_recovery.specs.Restored.{IsBehind}
use Rattle.cas_recovery.proofs.Places.{get_here, get_other, same_place}
use Rattle.cas_recovery.proofs.Within.{named_alone}
use Rattle.cas_lasting.specs.Nodes.{State}

-- ---- the manifest tells the same, and the store is the same or further

pub still_behind : (said : Saying) (s t : State) → t.shards ≡ s.shards → t.last_file ≡ s.last_file → t.live ≡ s.live → IsBehind said s.shards s.last_file s.live
    → IsBehind said t.shards t.last_file t.live
still_behind said s t shards last live is = record {
  frontiers = λ n table x there. is.frontiers n table x (subst (λ (xs : List ShardState). slice_get xs n ≡ Some x) shards there);
  numbers = subst (λ (k : ℕ). AllByRecursion (λ m. m ≤ k) said.numbers) (sym last) is.numbers;
  listed = is.listed ∙ sym live;
}

-- a shard is in another state, whose number didn't fall
pub behind_with : (said : Saying) (s t : State) (n : ℕ) (x y : ShardState) → slice_get s.shards n ≡ Some x → t.shards ≡ slice_set s.shards n y → x.number ≤ y.number
    → t.last_file ≡ s.last_file → t.live ≡ s.live → IsBehind said s.shards s.last_file s.live → IsBehind said t.shards t.last_file t.live
behind_with said s t n x y there shards rises last live is = record {
  frontiers = λ k table z got. at k table z (subst (λ (xs : List ShardState). slice_get xs k ≡ Some z) shards got) (same_place k n);
  numbers = subst (λ (k : ℕ). AllByRecursion (λ m. m ≤ k) said.numbers) (sym last) is.numbers;
  listed = is.listed ∙ sym live;
}
  where
    at : (k table : ℕ) (z : ShardState) → slice_get (slice_set s.shards n y) k ≡ Some z → (k ≡ n) ⊎ (k ≢ n) → (part_of said table k).frontier ≤ z.number
    at k table z got (inl here) =
        let at_k : slice_get (slice_set s.shards n y) k ≡ Some y =
        subst (λ (j : ℕ). slice_get (slice_set s.shards n y) j ≡ Some y) (sym here) (get_here s.shards n x y there) in
        let same : y.number ≡ z.number = ap (λ (q : ShardState). q.number) (same_Some y z (sym at_k ∙ got)) in
        let was = is.frontiers k table x (subst (λ (j : ℕ). slice_get s.shards j ≡ Some x) (sym here) there) in
        omega (arith, was, rises, same)
    at k table z got (inr other) = is.frontiers k table z (sym (get_other s.shards n k y other) ∙ got)

-- ---- the manifest tells more

-- where no more is said of table files
pub behind_said : (said now : Saying) (shards : List ShardState) (last live : ℕ) → now.shards ≡ said.shards → now.parts ≡ said.parts → now.numbers ≡ said.numbers
    → now.listed ≡ said.listed → IsBehind said shards last live → IsBehind now shards last live
behind_said said now shards last live same parts numbers listed is = record {
  frontiers = λ n table x there.
      let part : part_of now table n ≡ part_of said table n =
      ap (λ (ps : List Part). unwrap_or (slice_get ps (place_in now table n)) no_part) parts
      ∙ ap (λ (k : ℕ). unwrap_or (slice_get said.parts (table * k + n)) no_part) same in
      let was = is.frontiers n table x there in
      omega (arith, ap (λ (p : Part). p.frontier) part, was);
  numbers = subst (AllByRecursion (λ k. k ≤ last)) (sym numbers) is.numbers;
  listed = listed ∙ is.listed;
}

-- segments that are named say nothing of table files
pub behind_named : (entries : List ManifestEntry) (numbers : List ℕ) (shards : List ShardState) (last live : ℕ) → IsBehind (said_by entries) shards last live
    → IsBehind (said_by (entries ++ named numbers)) shards last live
behind_named entries numbers shards last live is =
    let (segments, segment, same) = named_alone entries numbers in
    let still : IsBehind (record (said_by entries) { segments = segments; last_segment = segment }) shards last live =
    record { frontiers = is.frontiers; numbers = is.numbers; listed = is.listed } in
    subst (λ (said : Saying). IsBehind said shards last live) (sym same) still

-- no table's part is another where new tables have none
pub part_more : (ps : List Part) (n k : ℕ) → unwrap_or (slice_get (ps ++ replicate n no_part) k) no_part ≡ unwrap_or (slice_get ps k) no_part
part_more [] zero k = refl
part_more [] (suc n) zero = refl
part_more [] (suc n) (suc k) = part_more [] n k
part_more (p ∷ ps) n zero = refl
part_more (p ∷ ps) n (suc k) = part_more ps n k

-- a definition says nothing of them
pub behind_defined : (said : Saying) (x : ManifestEntry) (shards : List ShardState) (last live : ℕ) → IsDefinition x → IsBehind said shards last live
    → IsBehind (after said x) shards last live
behind_defined said (entry.Schema t) shards last live defines is = record {
  frontiers = λ n table x there.
      let same = ap (λ (p : Part). p.frontier) (part_more said.parts said.shards (place_in said table n)) in
      let was = is.frontiers n table x there in
      omega (arith, same, was);
  numbers = is.numbers;
  listed = is.listed;
}
behind_defined said (entry.AddColumns table columns) shards last live defines is =
    record { frontiers = is.frontiers; numbers = is.numbers; listed = is.listed }
behind_defined said (entry.Store n) shards last live defines is = absurd defines
behind_defined said (entry.NewSegment n) shards last live defines is = absurd defines
behind_defined said (entry.DropSegment n) shards last live defines is = absurd defines
behind_defined said (entry.Change c) shards last live defines is = absurd defines
