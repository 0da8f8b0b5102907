use Rattle.std.proofs.Common.{◌≡◌, true, false, ◌∷◌, List, drop, drop-cons, get_or, ◌+◌, ◌<◌, add-one, length, sym, ◌∙◌, subst, arith}
use Rattle.std.proofs.lemmas.List.{drop_all}
use Rattle.cas_disk.specs.declared.name.Entry.{Entry}
use Rattle.cas_disk.specs.declared.name.Name.TheVariants.{Manifest}
use Rattle.cas_opening.specs.Inner.Sweeping.{stays_of, Sweeps}
use Rattle.cas_disk.proofs.Moments.{no_call}
use Rattle.cas_opening.proofs.Sweeps.{sweeps_more, removed_sweeps, AreAmong, all_among, kept_first, removed_first, none_left}
use Rattle.cas_opening.proofs.sweeping.sweep_files.Goals as goal
use Rattle.cas_opening.proofs.sweeping.sweep_files.Goals.{then-not-stays+in_ok-remove, else-not-stays}

pub loop-file-init : goal.loop-file-init
loop-file-init g c =
    let disk = g.F.Folder.disk in
    let stays = stays_of c.args.segments.now c.args.tables.now in
    record {
      during = no_call (Sweeps stays) (disk c.args.folder.now);
      still = all_among stays c.args.files.now (disk c.args.folder.now) c.requires;
      faults = omega arith;
    }

pub returns-in_err-remove-clause-during : goal.returns-in_err-remove-clause-during
returns-in_err-remove-clause-during g c =
    let disk = g.F.Folder.disk in
    let stays = stays_of c.args.segments.now c.args.tables.now in
    let e : Entry = get_or c.args.files.now c.loop-file.file-index (record { name = Manifest; size = 0 }) in
    sweeps_more stays (disk c.args.folder.now) (disk c.loop-file.folder) (disk c.remove.new.self) c.loop-file.invariant.during
    (removed_sweeps stays e.name (disk c.loop-file.folder) (disk c.remove.new.self) (sym c.stays.ensures ∙ c.if-not-stays.true) c.remove.ensures.during)

pub loop-file-preserved : goal.loop-file-preserved
loop-file-preserved g c =
    let disk = g.F.Folder.disk in
    let stays = stays_of c.args.segments.now c.args.tables.now in
    let files = c.args.files.now in
    let i = c.loop-file.file-index in
    let e : Entry = get_or files i (record { name = Manifest; size = 0 }) in
    let more : i < length files = c.loop-file-test.true in
    let is : drop i files ≡ e ∷ drop (i + 1) files = rw add-one (drop-cons files i (record { name = Manifest; size = 0 }) more) in
    let before : AreAmong stays (e ∷ drop (i + 1) files) (disk c.loop-file.folder) =
    subst (λ (l : List Entry). AreAmong stays l (disk c.loop-file.folder)) is c.loop-file.invariant.still in
    elim c.if-not-stays.branch [
      | then-not-stays+in_ok-remove w ↦
          let goes : stays e.name ≡ false = sym c.stays.ensures ∙ w.if-not-stays.true in
          rw w.folder-is (record {
            during = sweeps_more stays (disk c.args.folder.now) (disk c.loop-file.folder) (disk w.remove.new.self) c.loop-file.invariant.during
                (removed_sweeps stays e.name (disk c.loop-file.folder) (disk w.remove.new.self) goes w.remove.ensures.during);
            still = removed_first stays e (drop (i + 1) files) (disk c.loop-file.folder) (disk w.remove.new.self) w.in_ok-remove.ensures.gone before;
            faults = omega (arith, c.loop-file.invariant.faults, w.remove.ensures.count);
          })
      | else-not-stays w ↦
          let kept : stays e.name ≡ true = sym c.stays.ensures ∙ w.if-not-stays.false in
          rw w.folder-is (record {
            during = c.loop-file.invariant.during;
            still = kept_first stays e (drop (i + 1) files) (disk c.loop-file.folder) kept before;
            faults = c.loop-file.invariant.faults;
          })
    ]

pub returns-clause-gone : goal.returns-clause-gone
returns-clause-gone g c =
    let disk = g.F.Folder.disk in
    none_left (stays_of c.args.segments.now c.args.tables.now) (drop c.loop-file.file-index c.args.files.now) (disk c.loop-file.folder)
    (drop_all c.loop-file.file-index c.args.files.now c.loop-file-test.false) c.loop-file.invariant.still
