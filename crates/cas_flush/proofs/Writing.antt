-- What the writer says of a key, and of a file, as a flush says it.
use Rattle.std.proofs.Common.{◌≡◌, ◌⊎◌, inl, inr, ℕ, true, List, ◌++◌, length, Option, Some, refl, sym, ap, ◌∙◌, subst}
use Rattle.std.proofs.lemmas.Bool.{true≢false}
use Rattle.std.specs.List.{AllByRecursion}
use Rattle.cas_types.specs.declared.schema.Column.{Column}
use Rattle.cas_cell.specs.declared.deletion.Deletion.{Deletion}
use Rattle.cas_bounds.specs.ClusteringOrder.{clustering_order}
use Rattle.cas_bounds.specs.declared.cuts.Slice.{Slice}
use Rattle.cas_atoms.specs.declared.atom.Mutation.{Mutation}
use Rattle.cas_streams.specs.Joined.{Stream}
use Rattle.cas_streams.specs.Merged.{merged}
use Rattle.cas_streams.specs.declared.fragment.Fragment.{Fragment}
use Rattle.cas_index.specs.declared.entries.PartitionEntry.{PartitionEntry}
use Rattle.cas_memtable.specs.declared.memtable.MemPart.{MemPart}
use Rattle.cas_memtable.specs.Kept.{HoldMutations, ShowPartition, StandInEach, all_of, has_key}
use Rattle.cas_tables.specs.declared.header.Header.{Header}
use Rattle.cas_tables.specs.Contents.{Partition, Contents}
use Rattle.cas_tables.specs.Files.{index_of, front_bytes}
use Rattle.cas_tables.specs.Spelling.{header_bytes}
use Rattle.cas_sstwrite.specs.declared.fault.Measure.TheVariants.{FileBytes, BlockBytes, Partitions}
use Rattle.cas_sstwrite.specs.declared.fault.PartitionFault.{PartitionFault}
use Rattle.cas_sstwrite.specs.declared.fault.PartitionFault.TheVariants.{Write, Source}
use Rattle.cas_sstwrite.specs.declared.fault.WriteFault.{WriteFault}
use Rattle.cas_sstwrite.specs.declared.fault.WriteFault.TheVariants.{Failed, Order, TooMany, Unfit, Mem}
use Rattle.cas_sstwrite.specs.declared.held.TableWriter.{TableWriter}
use Rattle.cas_sstwrite.specs.Causes.{Causes, WhyNot}
use Rattle.cas_sstwrite.specs.Finished.{FinishFault}
use Rattle.cas_sstwrite.specs.Rooms.{AreHeld}
use Rattle.cas_sstwrite.specs.Writers.{Writes, FitsStream, contents_of, partition_of}
use Rattle.cas_flush.specs.Flushed.{any, is_below, at_level_0, FlushFault, Hinders, MayStand, SayWhatIsHeld, SaysWhatIsUnder}
use Rattle.cas_flush.specs.Inner.Keys.{IsWhole, told, Refuses, KeyFault, Stops, StopsAt, WritesKey}
use Rattle.cas_flush.proofs.Holding.{has_there, key_fits, merge_at_cuts, merge_fits, merge_formed, told_same, told_no_more, told_some, told_ends}
use Rattle.cas_flush.proofs.Reaching.{next_in_order}

-- ---- a key

-- what the writer says of the merge is said of the key
pub key_written : {D E M : Type 0} (number_of : D → ℕ) (written : D → List ℕ → Type 0) (tells : M → Option (List Fragment)) (tops : M → Option Deletion) (columns : List Column)
    (s : Slice) → (whole : IsWhole columns s) → (key given : List ℕ) (ms : List MemPart) (wss : List (List Mutation)) → (hold : HoldMutations columns ms wss) → (xs : List M)
    → (each : (vss : List (List Mutation)) → StandInEach (clustering_order columns) ms vss → ShowPartition tells tops (clustering_order columns) s key ms (all_of vss) xs)
    → (told : Option (List Fragment)) (over : Option Deletion) (old new : TableWriter D E)
    (ps : List Partition) → given ≡ key → has_key ms key ≡ true → told ≡ Some (merged (each wss hold.stand).streams).fragments → over ≡ (merged (each wss hold.stand).streams).top
    → Writes number_of written columns old ps → ((fs : List Fragment) → told ≡ Some fs → AreHeld fs)
    → ((columns : List Column) (ps : List Partition) (fs : List Fragment) → Writes number_of written columns old ps → told ≡ Some fs → FitsStream columns given over fs
    → Writes number_of written columns new (ps ++ partition_of given over fs))
    → WritesKey number_of written columns new ps key ms
key_written number_of written tells tops columns s whole key given ms wss hold xs each told over old new ps same has tells_all top_is w held goes =
    let shows : ShowPartition tells tops (clustering_order columns) s key ms (all_of wss) xs = each wss hold.stand in
    let m : Stream = merged shows.streams in
    let fit : FitsStream columns key m.top m.fragments =
    merge_fits tells tops columns s whole key ms wss xs shows hold (has_there (clustering_order columns) key ms wss hold.stand has) (held m.fragments tells_all) in
    record {
      top = m.top;
      fragments = m.fragments;
      same = λ vss stand. told_same tells tops columns s whole key ms vss xs (each vss stand) shows.streams shows.told;
      no_more = λ vss stand. told_no_more tells tops columns s whole key ms vss xs (each vss stand) shows.streams shows.told;
      some = λ vss stand. told_some tells tops columns s whole key ms vss xs (each vss stand) shows.streams shows.told;
      ends = λ vss stand. told_ends tells tops columns s whole key ms vss xs (each vss stand) shows.streams shows.told;
      writes = subst (λ q. Writes number_of written columns new (ps ++ partition_of q m.top m.fragments)) same
          (subst (λ d. Writes number_of written columns new (ps ++ partition_of given d m.fragments)) top_is
          (goes columns ps m.fragments w tells_all
          (subst (λ q. FitsStream columns q over m.fragments) (sym same) (subst (λ d. FitsStream columns key d m.fragments) (sym top_is) fit))));
    }

-- ---- faults

-- what was written may stand in a file
pub may_stand : {D E : Type 0} (number_of : D → ℕ) (written : D → List ℕ → Type 0) (columns : List Column) (w : TableWriter D E) (ps : List Partition)
    → Writes number_of written columns w ps → MayStand columns ps
may_stand number_of written columns w ps writes = record { each = writes.each; ascend = writes.ascend }

-- the writer's reason, in terms of the file
pub key_fault : {D E F : Type 0} (number_of : D → ℕ) (written : D → List ℕ → Type 0) (columns : List Column) (w : TableWriter D E) (ps : List Partition)
    (key : List ℕ) (ms : List MemPart) (m : Stream) (e : PartitionFault F) → Writes number_of written columns w ps → SaysWhatIsUnder columns ms key m
    → WhyNot w.entries.items w.sink.place key m.top m.fragments e → KeyFault columns (contents_of w ps) key ms (told e)
key_fault number_of written columns w ps key ms m (Source e) writes says why = inl refl
key_fault number_of written columns w ps key ms m (Write e) writes says why = inr (record {
  stream = m;
  says = says;
  causes = subst (λ (es : List PartitionEntry). Causes es (length (front_bytes (contents_of w ps))) key m.top m.fragments e) writes.entries
      (subst (λ n. Causes w.entries.items n key m.top m.fragments e) writes.place why);
})

-- of the merge
pub key_refused : {D E M F : Type 0} (number_of : D → ℕ) (written : D → List ℕ → Type 0) (tells : M → Option (List Fragment)) (tops : M → Option Deletion) (columns : List Column)
    (s : Slice) → (whole : IsWhole columns s) → (key given : List ℕ) (ms : List MemPart) (wss : List (List Mutation)) → (hold : HoldMutations columns ms wss) → (xs : List M)
    → (each : (vss : List (List Mutation)) → StandInEach (clustering_order columns) ms vss → ShowPartition tells tops (clustering_order columns) s key ms (all_of vss) xs)
    → (told_all : Option (List Fragment)) (over : Option Deletion) (w : TableWriter D E)
    (ps : List Partition) (e : PartitionFault F) → given ≡ key → has_key ms key ≡ true → told_all ≡ Some (merged (each wss hold.stand).streams).fragments
    → over ≡ (merged (each wss hold.stand).streams).top
    → Writes number_of written columns w ps → ((fs : List Fragment) → told_all ≡ Some fs → WhyNot w.entries.items w.sink.place given over fs e)
    → KeyFault columns (contents_of w ps) key ms (told e)
key_refused number_of written tells tops columns s whole key given ms wss hold xs each told_all over w ps e same has tells_all top_is writes why =
    let shows : ShowPartition tells tops (clustering_order columns) s key ms (all_of wss) xs = each wss hold.stand in
    let m : Stream = merged shows.streams in
    let says : SaysWhatIsUnder columns ms key m = record {
      key_fits = key_fits columns key (all_of wss) hold.may (has_there (clustering_order columns) key ms wss hold.stand has);
      formed = merge_formed tells tops columns s whole key ms wss xs shows hold;
      cuts = merge_at_cuts tells tops columns s whole key ms wss xs shows hold;
      same = λ vss stand. told_same tells tops columns s whole key ms vss xs (each vss stand) shows.streams shows.told;
      no_more = λ vss stand. told_no_more tells tops columns s whole key ms vss xs (each vss stand) shows.streams shows.told;
      ends = λ vss stand. told_ends tells tops columns s whole key ms vss xs (each vss stand) shows.streams shows.told;
    } in
    key_fault number_of written columns w ps key ms m e writes says
    (subst (λ q. WhyNot w.entries.items w.sink.place q m.top m.fragments e) same
    (subst (λ d. WhyNot w.entries.items w.sink.place given d m.fragments e) top_is (why m.fragments tells_all)))

-- keys are never out of order
in_order : (columns : List Column) (header : Header) (level : ℕ) (ms : List MemPart) (ps : List Partition) (key : List ℕ) (e : WriteFault)
    → AllByRecursion (λ p. is_below key p.key ≡ true) ps
    → Refuses columns (record { header = header; level = level; partitions = ps }) key ms e → e ≡ Order → ⊥
in_order columns header level ms ps key e within why is =
    true≢false (sym (next_in_order header.version (length (header_bytes header)) ps key within)
    ∙ subst (λ f. Causes (index_of (record { header = header; level = level; partitions = ps }))
    (length (front_bytes (record { header = header; level = level; partitions = ps }))) key why.stream.top why.stream.fragments f) is why.causes)

pub stops_at : (columns : List Column) (header : Header) (level : ℕ) (ms : List MemPart) (wss : List (List Mutation)) (ps : List Partition) (key : List ℕ) (e : WriteFault)
    → StandInEach (clustering_order columns) ms wss → MayStand columns ps → SayWhatIsHeld columns ms (is_below key) ps
    → KeyFault columns (record { header = header; level = level; partitions = ps }) key ms e → StopsAt columns header level ms e
stops_at columns header level ms wss ps key e stand may below (inl is) = inl is
stops_at columns header level ms wss ps key e stand may below (inr why) =
    inr (record {
      before = ps;
      key = key;
      stand = may;
      below = below;
      why = why;
      order = in_order columns header level ms ps key e (below wss stand).within why;
    })

hinders : (columns : List Column) (header : Header) (ms : List MemPart) (e : WriteFault) → Stops columns header 0 ms e → Hinders columns header ms e
hinders columns header ms e s = record {
  before = s.before;
  key = s.key;
  stream = s.why.stream;
  stand = s.stand;
  below = s.below;
  says = s.why.says;
  causes = s.why.causes;
}

stop_faults : (columns : List Column) (header : Header) (ms : List MemPart) (e : WriteFault) → Stops columns header 0 ms e → FlushFault columns header ms e
stop_faults columns header ms Failed s = tt
stop_faults columns header ms Order s = s.order refl
stop_faults columns header ms (TooMany what limit) s = inl (hinders columns header ms (TooMany what limit) s)
stop_faults columns header ms Unfit s = hinders columns header ms Unfit s
stop_faults columns header ms Mem s = tt

pub stop_fault : (columns : List Column) (header : Header) (level : ℕ) (given : Header) (ms : List MemPart) (e : WriteFault) → header ≡ given → level ≡ 0
    → StopsAt columns header level ms e → FlushFault columns given ms e
stop_fault columns header level given ms e same first s = go (subst (λ h. StopsAt columns h 0 ms e) same (subst (λ n. StopsAt columns header n ms e) first s))
  where
    go : StopsAt columns given 0 ms e → FlushFault columns given ms e
    go (inl is) = subst (FlushFault columns given ms) (sym is) tt
    go (inr s) = stop_faults columns given ms e s

pub mem_fault : (columns : List Column) (header : Header) (ms : List MemPart) (e : WriteFault) → e ≡ Mem → FlushFault columns header ms e
mem_fault columns header ms e is = subst (FlushFault columns header ms) (sym is) tt

pub begin_fault : (columns : List Column) (header : Header) (ms : List MemPart) (e : WriteFault) → (e ≡ Failed) ⊎ (e ≡ Mem) → FlushFault columns header ms e
begin_fault columns header ms e (inl is) = subst (FlushFault columns header ms) (sym is) tt
begin_fault columns header ms e (inr is) = subst (FlushFault columns header ms) (sym is) tt

pub end_fault : {E : Type 0} (columns : List Column) (header : Header) (ms : List MemPart) (ps : List Partition) (c : Contents) (e : PartitionFault E) → MayStand columns ps
    → SayWhatIsHeld columns ms any ps → c ≡ at_level_0 header ps → FinishFault c e → FlushFault columns header ms (told e)
end_fault columns header ms ps c (Write Failed) may are is why = tt
end_fault columns header ms ps c (Write Order) may are is why = absurd why
end_fault columns header ms ps c (Write (TooMany FileBytes limit)) may are is why =
    inr (record {
      partitions = ps;
      stand = may;
      all = are;
      why = subst (λ d. FinishFault {E = Unit {0}} d (Write (TooMany FileBytes limit))) is why;
    })
end_fault columns header ms ps c (Write (TooMany BlockBytes limit)) may are is why = absurd why
end_fault columns header ms ps c (Write (TooMany Partitions limit)) may are is why = absurd why
end_fault columns header ms ps c (Write Unfit) may are is why = absurd why
end_fault columns header ms ps c (Write Mem) may are is why = tt
end_fault columns header ms ps c (Source e) may are is why = tt

-- the disk failed exactly where the writer says so
pub told_failed : {E : Type 0} (e : PartitionFault E) → told e ≡ Failed → e ≡ Write Failed
told_failed (Write e) is = ap Write is
told_failed (Source e) is = cc

-- ---- the file

pub contents_are : {D E : Type 0} (w : TableWriter D E) (header : Header) (ps : List Partition) → w.header ≡ header → w.level ≡ 0 → contents_of w ps ≡ at_level_0 header ps
contents_are w header ps h l = λ i. record { header = h i; level = l i; partitions = ps }
