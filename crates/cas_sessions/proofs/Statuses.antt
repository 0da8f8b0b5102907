-- What is listed of the table files of memory, in the words of the history that it stands for.
use Rattle.std.proofs.Common.{◌≡◌, ◌+◌, ◌<◌, ◌≤◌, ℕ, Some, List, [], ◌∷◌, ◌++◌, get_or, length, map, take, sym, ap, ◌∙◌, subst}
use Rattle.std.specs.Prelude.{slice_get}
use Rattle.std.specs.List.{flat_map}
use Rattle.std.proofs.lemmas.List.{flat_map_more, take_all, take_more}
use Rattle.cas_types.specs.declared.schema.TableSchema.{TableSchema}
use Rattle.cas_render.specs.Listing.{in_order, in_shards, listed_cmp, listed_of, status_of}
use Rattle.cas_render.specs.declared.reply.Listed.{Listed}
use Rattle.cas_shard.specs.Stands.{ShardState, files_at}
use Rattle.cas_lasting.specs.History.{History}
use Rattle.cas_lasting.specs.Nodes.{State, StandsFor, files_in, files_of}
use Rattle.cas_lasting.specs.Status.{file_numbers, status}

-- a table in the shard of that number
pub listed_there : (shards : List ShardState) (place : ℕ) (x : ShardState) (t : TableSchema) (numbers : List ℕ) (l : Listed) → slice_get shards place ≡ Some x
    → numbers ≡ map (λ f. f.info.number) (files_at (slice_get x.stores t.number)) → l ≡ listed_of t place numbers
    → l ≡ listed_of t place (file_numbers (files_in shards) place t.number)
listed_there shards place x t numbers l there are is =
    is ∙ ap (listed_of t place) (are ∙ ap (λ o. map (λ f. f.info.number) (files_of o t.number)) (sym there))

-- one table more
pub more_listed : (f : TableSchema → List Listed) (ts us : List TableSchema) (k : ℕ) (t : TableSchema) (before now : List Listed) → us ≡ ts → k < length us
    → t ≡ get_or us k t → before ≡ flat_map f (take k ts) → now ≡ before ++ f t → now ≡ flat_map f (take (k + 1) ts)
more_listed f ts us k t before now same within is had more =
    let here : t ≡ get_or ts k t = is ∙ ap (λ xs. get_or xs k t) same in
    let inside : k < length ts = subst (λ xs. k < length xs) same within in
    more ∙ ap (λ xs. xs ++ f t) had ∙ flat_map_more f [] (take k ts) t ∙ ap (flat_map f) (ap (λ w. take k ts ++ w ∷ []) here ∙ sym (take_more ts k t inside))

-- and no table more
pub all_listed : (f : TableSchema → List Listed) (ts us : List TableSchema) (k : ℕ) (all : List Listed) → us ≡ ts → length us ≤ k
    → all ≡ flat_map f (take k ts) → all ≡ flat_map f ts
all_listed f ts us k all same long had = had ∙ ap (flat_map f) (take_all k ts (subst (λ xs. length xs ≤ k) same long))

-- all that is listed, in order
pub status_stands : (s : State) (all l : List Listed) (h : History) → StandsFor h s → all ≡ flat_map (in_shards s.limits.shards (file_numbers (files_in s.shards))) s.tables
    → l ≡ in_order listed_cmp all → l ≡ status h
unfolding status_of
status_stands s all l h stands are is =
    is ∙ ap (in_order listed_cmp) are ∙ (λ j. status_of (sym stands.tables j) (sym stands.limits j).shards (file_numbers (sym stands.disk j).files))
