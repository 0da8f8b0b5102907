-- What memtables hold, one mutation after another, after a call on them.
use Rattle.std.proofs.Common.{◌≡◌, ◌≤◌, ℕ, Bool, true, false, List, [], ◌∷◌, ◌++◌, length, drop, sym, ap, ◌∙◌, subst}
use Rattle.std.specs.Prelude.{if◌then◌else◌, map}
use Rattle.std.specs.List.{AllByRecursion}
use Rattle.cas_types.specs.declared.schema.Column.{Column}
use Rattle.cas_bounds.specs.ClusteringOrder.{clustering_order}
use Rattle.cas_bounds.specs.declared.order.Ordered.{Ordered}
use Rattle.cas_atoms.specs.declared.atom.Mutation.{Mutation}
use Rattle.cas_streams.proofs.Weaves.{all_and}
use Rattle.cas_partition.specs.Partitions.{AreAtomsOf}
use Rattle.cas_partition.proofs.Tabling.{all_fit_of}
use Rattle.cas_memtable.specs.Memtables.{IsOfColumns}
use Rattle.cas_memtable.specs.declared.memtable.MemPart.{MemPart}
use Rattle.cas_memtable.specs.Kept.{HoldJust, MayHold, StandInEach, all_of, begun, with_one}
use Rattle.cas_memtable.proofs.Keeping.{all_begun, all_joined, mapped_count, rest_before, rest_mapped}

module _ (columns : List Column) (ms ns : List MemPart) (of : AllByRecursion (IsOfColumns columns) ms → AllByRecursion (IsOfColumns columns) ns) (ws : List Mutation)
    (just : HoldJust columns ms ws) where
  -- place was made for a mutation
  pub just_reserved : (w : Mutation) → MayHold columns w
      → ((order : List Ordered) (wss : List (List Mutation)) → StandInEach order ms wss → AreAtomsOf order w.atoms → StandInEach order ns wss) → HoldJust columns ns ws
  just_reserved w may keeps = record {
    places = just.places;
    held = record { stand = keeps (clustering_order columns) just.places just.held.stand (all_fit_of columns w.atoms may.1); of = of just.held.of; may = just.held.may };
    all = just.all;
  }

  -- it was joined
  pub just_joined : (front : List MemPart) (m : MemPart) (w : Mutation) → ms ≡ front ++ m ∷ [] → MayHold columns w
      → ((order : List Ordered) (wss : List (List Mutation)) → StandInEach order ms wss → AreAtomsOf order w.atoms → StandInEach order ns (with_one w wss))
      → HoldJust columns ns (ws ++ w ∷ [])
  just_joined front m w are may keeps =
      let order : List Ordered = clustering_order columns in
      let all : all_of (with_one w just.places) ≡ all_of just.places ++ w ∷ []
      = all_joined order front m w just.places (subst (λ l. StandInEach order l just.places) are just.held.stand) in
      record {
        places = with_one w just.places;
        held = record {
          stand = keeps order just.places just.held.stand (all_fit_of columns w.atoms may.1);
          of = of just.held.of;
          may = subst (AllByRecursion (MayHold columns)) (sym all) (all_and (MayHold columns) (all_of just.places) (w ∷ []) just.held.may (may, tt));
        };
        all = all ∙ ap (λ l. l ++ w ∷ []) just.all;
      }

  -- or not
  pub just_joined_if : (b : Bool) (front : List MemPart) (m : MemPart) (w : Mutation) → ms ≡ front ++ m ∷ [] → MayHold columns w
      → ((order : List Ordered) (wss : List (List Mutation)) → StandInEach order ms wss → AreAtomsOf order w.atoms
      → StandInEach order ns (if b then with_one w wss else wss)) → HoldJust columns ns (if b then ws ++ w ∷ [] else ws)
  just_joined_if true front m w are may keeps = just_joined front m w are may keeps
  just_joined_if false front m w are may keeps = just_reserved w may keeps

  -- a memtable was begun, or not
  pub just_begun : (b : Bool) → ((order : List Ordered) (wss : List (List Mutation)) → StandInEach order ms wss → StandInEach order ns (if b then begun wss else wss))
      → HoldJust columns ns ws
  just_begun true keeps = record {
    places = begun just.places;
    held = record {
      stand = keeps (clustering_order columns) just.places just.held.stand;
      of = of just.held.of;
      may = subst (AllByRecursion (MayHold columns)) (sym (all_begun just.places)) just.held.may;
    };
    all = all_begun just.places ∙ just.all;
  }
  just_begun false keeps = record {
    places = just.places;
    held = record { stand = keeps (clustering_order columns) just.places just.held.stand; of = of just.held.of; may = just.held.may };
    all = just.all;
  }

-- so many of the oldest were let go of
pub memory_left : {X : Type 0} (f : X → MemPart) (count : ℕ) (old new : List X) (m n : MemPart) → count ≤ length old → new ≡ drop count old → n ≡ m
    → map f new ++ n ∷ [] ≡ drop count (map f old ++ m ∷ [])
memory_left f count old new m n few gone same =
    (λ i. map f (gone i) ++ same i ∷ []) ∙ ap (λ l. l ++ m ∷ []) (rest_mapped f count old)
    ∙ sym (rest_before count (map f old) m (subst (λ k. count ≤ k) (sym (mapped_count f old)) few))
