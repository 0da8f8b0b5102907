-- The frontiers of a store's tables, after an entry.
use Rattle.std.proofs.Common.{◌≡◌, ℕ, zero, suc, ◌+◌, ◌*◌, List, [], ◌∷◌, ◌++◌, map, refl, sym, ap, ◌∙◌}
use Rattle.std.proofs.lemmas.List.{map-append}
use Rattle.std.specs.Prelude.{replicate, slice_set}
use Rattle.cas_types.specs.declared.schema.TableSchema.{TableSchema}
use Rattle.cas_changes.specs.Saying.{Saying, after, change_after, frontiers_in, no_part, part_after, part_of, place_in}
use Rattle.cas_changes.specs.declared.entry.Change.{Change}
use Rattle.cas_changes.specs.declared.entry.Entry.TheVariants.{Schema}
use Rattle.cas_changes.specs.declared.said.Part.{Part}

map_set : (parts : List Part) (k : ℕ) (p : Part) → map (λ (q : Part). q.frontier) (slice_set parts k p) ≡ slice_set (map (λ (q : Part). q.frontier) parts) k p.frontier
map_set [] k p = refl
map_set (q ∷ parts) zero p = refl
map_set (q ∷ parts) (suc k) p = ap (λ (ns : List ℕ). q.frontier ∷ ns) (map_set parts k p)

none_yet : (n : ℕ) → map (λ (q : Part). q.frontier) (replicate n no_part) ≡ replicate n 0
none_yet zero = refl
none_yet (suc n) = ap (λ (ns : List ℕ). 0 ∷ ns) (none_yet n)

-- of a change of table files
pub frontiers_changed : (s : Saying) (c : Change) (fs : List ℕ) (shards : ℕ) → fs ≡ frontiers_in s → shards ≡ s.shards
    → slice_set fs (c.table * shards + c.shard) c.frontier ≡ frontiers_in (change_after s c)
frontiers_changed s c fs shards are many =
    (λ i. slice_set (are i) (c.table * many i + c.shard) c.frontier) ∙ sym (map_set s.parts (place_in s c.table c.shard) (part_after (part_of s c.table c.shard) c))

-- of a table
pub frontiers_created : (s : Saying) (t : TableSchema) (fs : List ℕ) (shards : ℕ) → fs ≡ frontiers_in s → shards ≡ s.shards
    → fs ++ replicate shards 0 ≡ frontiers_in (after s (Schema t))
frontiers_created s t fs shards are many =
    (λ i. are i ++ replicate (many i) 0) ∙ ap (λ (ns : List ℕ). frontiers_in s ++ ns) (sym (none_yet s.shards))
    ∙ sym (map-append (λ (q : Part). q.frontier) s.parts (replicate s.shards no_part))
