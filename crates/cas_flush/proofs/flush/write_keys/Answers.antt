use Rattle.std.proofs.Common.{ℕ, List, [], ◌++◌, map, Option, Some, refl, ap, ◌∙◌, subst, arith}
use Rattle.std.specs.Arc.{arc_value}
use Rattle.std.specs.Option.{option_copied}
use Rattle.cas_types.specs.declared.schema.Column.{Column}
use Rattle.cas_bounds.specs.ClusteringOrder.{clustering_order}
use Rattle.cas_atoms.specs.declared.atom.Mutation.{Mutation}
use Rattle.cas_memtable.specs.declared.memtable.MemPart.{MemPart}
use Rattle.cas_memtable.specs.Kept.{HoldMutations, IsNextKey, all_of}
use Rattle.cas_sstwrite.proofs.Results.{passed_on}
use Rattle.cas_sstwrite.specs.Writers.{Writes, partition_of}
use Rattle.cas_flush.specs.Inner.Keys.{IsWhole, StopsAt}
use Rattle.cas_flush.proofs.Counting.{fewer_left}
use Rattle.cas_flush.proofs.Reaching.{none_reached, reached_next, all_below, all_reached}
use Rattle.cas_flush.proofs.Writing.{may_stand, stops_at}
use Rattle.cas_flush.proofs.flush.write_keys.Goals as goal

pub loop-key-init : goal.loop-key-init
loop-key-init g c = record {
  sound = c.requires.sound;
  kept = (refl, refl);
  written = λ columns wss hold whole w. ([], λ vss stand. none_reached (all_of vss), w);
  count = record { kept = omega arith; rose = λ never. absurd never };
}

pub loop-key-preserved : goal.loop-key-preserved
loop-key-preserved g c =
    let ms : List MemPart = map arc_value c.args.memtables.now in
    let after : Option (List ℕ) = option_copied c.loop-key.last in
    let key : List ℕ = c.in-Some.key.now in
    let is : IsNextKey ms after (Some key) = subst (IsNextKey ms after) (ap option_copied c.in-Some.is) c.next_key.ensures in
    record {
      sound = c.in_ok-write_key.ensures.sound;
      kept = (c.in_ok-write_key.ensures.kept.0 ∙ c.loop-key.invariant.kept.0, c.in_ok-write_key.ensures.kept.1 ∙ c.loop-key.invariant.kept.1);
      written = λ columns wss hold whole w.
          let (ps, are, writes) = c.loop-key.invariant.written columns wss hold whole w in
          let one = c.in_ok-write_key.ensures.written columns wss ps hold whole writes in (
            ps ++ partition_of key one.top one.fragments,
            λ vss stand. reached_next (clustering_order columns) ms vss stand after key is ps one.top one.fragments (are vss stand) (one.same vss stand) (one.no_more vss stand)
                (one.some vss stand) (one.ends vss stand),
            one.writes,
          );
      count = record { kept = omega (arith, c.loop-key.invariant.count.kept, c.write_key.ensures.count.kept); rose = λ never. absurd never };
    }

pub loop-key-smaller : goal.loop-key-smaller
loop-key-smaller g c =
    let ms : List MemPart = map arc_value c.args.memtables.now in
    let after : Option (List ℕ) = option_copied c.loop-key.last in
    fewer_left ms after c.in-Some.key.now (subst (IsNextKey ms after) (ap option_copied c.in-Some.is) c.next_key.ensures)

pub returns-clause-written : goal.returns-clause-written
returns-clause-written g c columns wss hold whole w =
    let ms : List MemPart = map arc_value c.args.memtables.now in
    let after : Option (List ℕ) = option_copied c.loop-key.last in
    let (ps, are, writes) = c.loop-key.invariant.written columns wss hold whole w in (
      ps,
      λ vss stand. all_reached (clustering_order columns) ms vss stand after (subst (IsNextKey ms after) (ap option_copied c.in_default.is) c.next_key.ensures) ps (are vss stand),
      writes,
    )

pub returns-in_err-write_key-clause-why : goal.returns-in_err-write_key-clause-why
returns-in_err-write_key-clause-why g c =
    let ms : List MemPart = map arc_value c.args.memtables.now in
    let after : Option (List ℕ) = option_copied c.loop-key.last in
    let key : List ℕ = c.in-Some.key.now in
    let is : IsNextKey ms after (Some key) = subst (IsNextKey ms after) (ap option_copied c.in-Some.is) c.next_key.ensures in
    let now = c.loop-key.writer in
    let old = c.args.writer.now in
    let e = c.in_err-write_key.field-0.0 in
    passed_on c.from_residual.result e
    (λ f. (columns : List Column) (wss : List (List Mutation)) → HoldMutations columns ms wss → IsWhole columns c.args.slice.now
    → Writes g.D.Draft.number g.D.Draft.written columns old [] → StopsAt columns old.header old.level ms f)
    c.from_residual.ensures.1
    (λ columns wss hold whole w.
    let (ps, are, writes) = c.loop-key.invariant.written columns wss hold whole w in
    subst (λ h. StopsAt columns h old.level ms e) c.loop-key.invariant.kept.0
    (subst (λ n. StopsAt columns now.header n ms e) c.loop-key.invariant.kept.1
    (stops_at columns now.header now.level ms wss ps key e hold.stand (may_stand g.D.Draft.number g.D.Draft.written columns now ps writes)
    (λ vss stand. all_below (clustering_order columns) ms vss stand after key is ps (are vss stand))
    (c.in_err-write_key.ensures.why columns wss ps hold whole writes))))
