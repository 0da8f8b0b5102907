use Rattle.std.proofs.Common.{inl, ◌≡◌, ◌<◌, ◌+◌, ℕ, List, [], ◌∷◌, ◌++◌, filter, length, get_or, take, drop, drop-cons, add-one, refl, sym, ap, subst, Result, Ok, Err, arith}
use Rattle.std.proofs.lemmas.List.{append-nil, drop_all, take_more}
use Rattle.cas_codec.specs.declared.fault.ReadFault.{ReadFault}
use Rattle.cas_atoms.specs.declared.atom.Mutation.{Mutation}
use Rattle.cas_disk.specs.declared.name.Name.TheVariants.{Log}
use Rattle.cas_disk.proofs.Moments.{no_call}
use Rattle.cas_files.proofs.Files.{same_more, reads_more}
use Rattle.cas_replay.specs.Reading.{segment_of, log_of, segment_in, is_above, above_in}
use Rattle.cas_replay.specs.Replays.{IsFront, Last}
use Rattle.cas_replay.specs.Inner.Progress.{GoesThrough}
use Rattle.cas_replay.proofs.Whole.{at_start, by_segment, log_more, log_fault, log_through, last_more}
use Rattle.cas_replay.proofs.Answering.{log_refused}
use Rattle.cas_replay.proofs.Fronts.{behind_segment}
use Rattle.cas_replay.proofs.Progress.{none_yet, of_a_log}
use Rattle.cas_replay.specs.declared.tops.Tops.{Tops}
use Rattle.cas_replay.proofs.log.replay_to.Goals as goal

pub loop-segment-init : goal.loop-segment-init
loop-segment-init g c = record {
  went = λ first has. record {
    after = [];
    stands = record { last = c.none-lasts.ensures.last; noted = record { noted = tt; exact = λ place. inl (c.none-lasts.ensures.tops place) }; handed = subst (λ (l : List Mutation). g.T.TakesMutations.has_taken l c.args.taker.now) (sym (append-nil first)) has };
    stay = λ are some so. so;
    so = λ image read. refl;
  };
  lasts = λ image left. tt;
  reads = λ image read. (image, read, λ k. refl);
  during = no_call _ (g.F.Folder.disk c.args.folder.now);
  faults = omega arith;
}

pub loop-segment-preserved : goal.loop-segment-preserved
loop-segment-preserved g c =
    let disk = g.F.Folder.disk in
    let all = c.args.segments.now in
    let i = c.loop-segment.segment-index in
    let more : i < length all = c.loop-segment-test.true in
    let n = get_or all i 0 in
    let is : drop i all ≡ n ∷ drop (i + 1) all = rw add-one (drop-cons all i 0 more) in
    record {
      went = λ first has.
          let went = c.loop-segment.invariant.went first has in
          let turn = c.in_default.ensures.went first went.after went.stands in
          record {
            after = turn.after;
            stands = turn.stands;
            stay = λ are some so. turn.stay are some (went.stay are some so);
            so = λ image read.
                let one = at_start (disk c.args.folder.now) (disk c.loop-segment.folder) c.loop-segment.invariant.during c.loop-segment.invariant.reads (Log n) (Log n) refl
                (λ f. segment_of c.args.tables.now c.args.shards n went.after f ≡ Ok turn.after) turn.so image read in
                log_more c.args.tables.now c.args.shards (segment_in image) n (drop (i + 1) all) (drop i all) went.after _ (went.so image read) is turn.after one;
          };
      lasts = subst (λ (l : List ℕ). Last l (disk c.replay_segment.new.folder)) (sym (take_more all i 0 more))
          (last_more (take i all) n (disk c.loop-segment.folder) (disk c.replay_segment.new.folder) c.replay_segment.ensures.during c.replay_segment.ensures.reads c.loop-segment.invariant.lasts c.in_default.ensures.lasts);
      reads = reads_more (disk c.args.folder.now) (disk c.loop-segment.folder) (disk c.replay_segment.new.folder) c.loop-segment.invariant.reads c.replay_segment.ensures.reads;
      during = same_more (disk c.args.folder.now) (disk c.loop-segment.folder) (disk c.replay_segment.new.folder) c.loop-segment.invariant.during c.replay_segment.ensures.during;
      faults = omega (arith, c.loop-segment.invariant.faults, c.replay_segment.ensures.count);
    }

pub returns-in-Err-clause-exact : goal.returns-in-Err-clause-exact
returns-in-Err-clause-exact g c first has image read =
    let disk = g.F.Folder.disk in
    let all = c.args.segments.now in
    let i = c.loop-segment.segment-index in
    let more : i < length all = c.loop-segment-test.true in
    let n = get_or all i 0 in
    let is : drop i all ≡ n ∷ drop (i + 1) all = rw add-one (drop-cons all i 0 more) in
    let went = c.loop-segment.invariant.went first has in
    let turn = c.in-Err.ensures.went first went.after went.stands in
    let part = segment_of c.args.tables.now c.args.shards n went.after (segment_in image n) in
    let one = at_start (disk c.args.folder.now) (disk c.loop-segment.folder) c.loop-segment.invariant.during c.loop-segment.invariant.reads (Log n) (Log n) refl
    (λ f. GoesThrough {X = Unit {0}} turn.after n (Err c.in-Err.fault) (segment_of c.args.tables.now c.args.shards n went.after f)) turn.so image read in
    log_refused (Unit {0}) Tops c.args.shards c.args.frontiers.now (λ ms. g.T.TakesMutations.has_taken (first ++ ms) c.replay_segment.new.taker) turn.after n
    c.in-Err.fault part (log_of c.args.tables.now c.args.shards (segment_in image) all []) one
    (λ f e. log_fault c.args.tables.now c.args.shards (segment_in image) n (drop (i + 1) all) (drop i all) went.after _ (went.so image read) is f e)
    (λ front. subst (λ (r : Result (List Mutation) (ℕ × ReadFault)). IsFront (λ ms. ms) turn.after r)
    (by_segment c.args.tables.now c.args.shards (segment_in image) n (drop (i + 1) all) (drop i all) went.after _ (went.so image read) is)
    (behind_segment c.args.tables.now c.args.shards (segment_in image) n (drop (i + 1) all) turn.after part front))
    turn.stands.handed

pub returns-in-Err-clause-taken : goal.returns-in-Err-clause-taken
returns-in-Err-clause-taken g c first has =
    let went = c.loop-segment.invariant.went first has in
    let turn = c.in-Err.ensures.went first went.after went.stands in
    of_a_log c.args.tables.now c.args.shards c.args.frontiers.now _ _ (λ _. Unit {0}) (record {
      after = turn.after;
      stands = turn.stands;
      stay = λ are some so. turn.stay are some (went.stay are some so);
      so = tt;
    })

pub returns-in-Err-clause-reads : goal.returns-in-Err-clause-reads
returns-in-Err-clause-reads g c = let disk = g.F.Folder.disk in reads_more (disk c.args.folder.now) (disk c.loop-segment.folder) (disk c.replay_segment.new.folder) c.loop-segment.invariant.reads c.replay_segment.ensures.reads

pub returns-in-Err-clause-during : goal.returns-in-Err-clause-during
returns-in-Err-clause-during g c = let disk = g.F.Folder.disk in same_more (disk c.args.folder.now) (disk c.loop-segment.folder) (disk c.replay_segment.new.folder) c.loop-segment.invariant.during c.replay_segment.ensures.during

pub returns-clause-exact : goal.returns-clause-exact
returns-clause-exact g c first has image read =
    let went = c.loop-segment.invariant.went first has in (
      filter (is_above c.args.shards c.args.frontiers.now) went.after,
      went.stands.handed,
      ap (above_in c.args.shards c.args.frontiers.now)
          (log_through c.args.tables.now c.args.shards (segment_in image) went.after _ (drop c.loop-segment.segment-index c.args.segments.now)
          (drop_all c.loop-segment.segment-index c.args.segments.now c.loop-segment-test.false) (went.so image read)),
    )

pub returns-clause-replayed : goal.returns-clause-replayed
returns-clause-replayed g c first has =
    let went = c.loop-segment.invariant.went first has in (
      filter (is_above c.args.shards c.args.frontiers.now) went.after,
      went.stands.handed,
      record {
        all = went.after;
        are = λ are some. went.stay are some (none_yet c.args.tables.now c.args.shards);
        above = refl;
        read = λ image read.
            log_through c.args.tables.now c.args.shards (segment_in image) went.after _ (drop c.loop-segment.segment-index c.args.segments.now)
            (drop_all c.loop-segment.segment-index c.args.segments.now c.loop-segment-test.false) (went.so image read);
      },
      went.stands.noted,
    )

pub returns-clause-taken : goal.returns-clause-taken
returns-clause-taken g c first has = of_a_log c.args.tables.now c.args.shards c.args.frontiers.now _ _ _ (c.loop-segment.invariant.went first has)
