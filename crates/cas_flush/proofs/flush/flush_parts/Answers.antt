use Rattle.std.proofs.Common.{◌≡◌, ℕ, true, false, not, List, [], map, Option, None, Some, is_some, refl, sym, ap, ◌∙◌, subst}
use denote.Ref.{Bor}
use Rattle.std.proofs.lemmas.Bool.{true≢false}
use Rattle.std.specs.Arc.{arc_value}
use Rattle.std.specs.Option.{option_copied}
use Rattle.cas_bounds.specs.ClusteringOrder.{clustering_order}
use Rattle.cas_atoms.specs.declared.atom.Mutation.{Mutation}
use Rattle.cas_memtable.specs.declared.memtable.MemPart.{MemPart}
use Rattle.cas_memtable.specs.Kept.{HoldMutations, IsNextKey, all_of, has_key}
use Rattle.cas_sstwrite.specs.Finished.{Finishes}
use Rattle.cas_sstwrite.specs.Writers.{contents_of}
use Rattle.cas_sstwrite.proofs.Results.{passed_on}
use Rattle.cas_flush.specs.Flushed.{FlushFault}
use Rattle.cas_flush.proofs.Reaching.{none_reached, all_reached}
use Rattle.cas_flush.proofs.Writing.{stop_fault, end_fault, contents_are, may_stand}
use Rattle.cas_flush.proofs.flush.flush_parts.Goals as goal

-- where there is a first key, something is held
first_held : (ms : List MemPart) (o : Option (Bor (List ℕ))) → IsNextKey ms None (option_copied o) → is_some o ≡ true → ((key : List ℕ) → has_key ms key ≡ false) → ⊥
first_held ms None is some none = true≢false (sym some)
first_held ms (Some k) is some none = true≢false (sym is.1 ∙ none k.now)

no_first : (ms : List MemPart) (o : Option (Bor (List ℕ))) → is_some o ≡ false → IsNextKey ms None (option_copied o) → IsNextKey ms None None
no_first ms None e is = is
no_first ms (Some k) e is = absurd (true≢false e)

pub returns-then-is_none-clause-written : goal.returns-then-is_none-clause-written
returns-then-is_none-clause-written g c number empty wss hold =
    let ms : List MemPart = map arc_value c.args.memtables.now in (
      [],
      λ vss stand. all_reached (clustering_order c.args.columns.now) ms vss stand None
          (no_first ms c.next_key.result (c.is_none.ensures ∙ ap not c.if-is_none.true) c.next_key.ensures) [] (none_reached (all_of vss)),
      refl,
    )

pub returns-in_err-write_keys-clause-nothing : goal.returns-in_err-write_keys-clause-nothing
returns-in_err-write_keys-clause-nothing g c none =
    absurd (first_held (map arc_value c.args.memtables.now) c.next_key.result c.next_key.ensures (c.is_none.ensures ∙ ap not c.if-is_none.false) none)

pub returns-in_err-write_keys-clause-why : goal.returns-in_err-write_keys-clause-why
returns-in_err-write_keys-clause-why g c =
    let columns = c.args.columns.now in
    let w = c.in_ok-writer.writer in
    let e = c.in_err-write_keys.field-0.0 in
    passed_on c.from_residual-in_err-write_keys.result e
    (λ f. g.D.Draft.number c.args.draft ≡ c.args.header.number → ((bytes : List ℕ) → g.D.Draft.written c.args.draft bytes → bytes ≡ [])
    → (wss : List (List Mutation)) → HoldMutations columns (map arc_value c.args.memtables.now) wss
    → FlushFault columns c.args.header (map arc_value c.args.memtables.now) f)
    c.from_residual-in_err-write_keys.ensures.1
    (λ number empty wss hold.
    stop_fault columns w.header w.level c.args.header (map arc_value c.args.memtables.now) e c.in_ok-writer.ensures.header.0 c.in_ok-writer.ensures.header.1
    (c.in_err-write_keys.ensures.why columns wss hold c.in_ok-slice.ensures (c.in_ok-writer.ensures.begun number empty columns)))

pub returns-in-Ok-clause-written : goal.returns-in-Ok-clause-written
returns-in-Ok-clause-written g c number empty wss hold =
    let columns = c.args.columns.now in
    let (ps, are, w) = c.in_ok-write_keys.ensures.written columns wss hold c.in_ok-slice.ensures (c.in_ok-writer.ensures.begun number empty columns) in (
      ps,
      are,
      subst (λ d. Finishes g.D.Draft.number g.D.Draft.written columns d c.in-Ok.finished)
          (contents_are c.write_keys.new.writer c.args.header ps (c.in_ok-write_keys.ensures.kept.0 ∙ c.in_ok-writer.ensures.header.0)
          (c.in_ok-write_keys.ensures.kept.1 ∙ c.in_ok-writer.ensures.header.1)) (c.in-Ok.ensures.finished columns ps w),
    )

pub returns-in-Ok-clause-nothing : goal.returns-in-Ok-clause-nothing
returns-in-Ok-clause-nothing g c none =
    absurd (first_held (map arc_value c.args.memtables.now) c.next_key.result c.next_key.ensures (c.is_none.ensures ∙ ap not c.if-is_none.false) none)

pub returns-in-Err-clause-nothing : goal.returns-in-Err-clause-nothing
returns-in-Err-clause-nothing g c none =
    absurd (first_held (map arc_value c.args.memtables.now) c.next_key.result c.next_key.ensures (c.is_none.ensures ∙ ap not c.if-is_none.false) none)

pub returns-in-Err-clause-why : goal.returns-in-Err-clause-why
returns-in-Err-clause-why g c number empty wss hold =
    let columns = c.args.columns.now in
    let (ps, are, w) = c.in_ok-write_keys.ensures.written columns wss hold c.in_ok-slice.ensures (c.in_ok-writer.ensures.begun number empty columns) in
    let ms : List MemPart = map arc_value c.args.memtables.now in
    subst (FlushFault columns c.args.header ms) (sym c.fault_of.ensures)
    (end_fault columns c.args.header ms ps (contents_of c.write_keys.new.writer ps) c.in-Err.fault
    (may_stand g.D.Draft.number g.D.Draft.written columns c.write_keys.new.writer ps w) are
    (contents_are c.write_keys.new.writer c.args.header ps (c.in_ok-write_keys.ensures.kept.0 ∙ c.in_ok-writer.ensures.header.0)
    (c.in_ok-write_keys.ensures.kept.1 ∙ c.in_ok-writer.ensures.header.1))
    (c.in-Err.ensures.why c.in_ok-write_keys.ensures.sound columns ps w))
