-- What the sources of a table's files and memtables show of a partition.
use Rattle.std.proofs.Common.{◌≡◌, ℕ, true, false, Option, None, Some, Result, Ok, List, [], ◌∷◌, ◌++◌, refl, sym, ap, ◌∙◌, subst, append_assoc}
use Rattle.std.specs.Prelude.{map}
use Rattle.std.specs.Option.{option_to_list}
use Rattle.std.proofs.lemmas.Bool.{true≢false}
use Rattle.cas_cell.specs.declared.deletion.Deletion.{Deletion}
use Rattle.cas_bounds.specs.ClusteringOrder.{clustering_order}
use Rattle.cas_bounds.specs.declared.cuts.Slice.{Slice}
use Rattle.cas_bounds.specs.declared.order.Ordered.{Ordered}
use Rattle.cas_atoms.specs.Winners.{Same}
use Rattle.cas_atoms.specs.declared.atom.Atom.{Atom}
use Rattle.cas_atoms.specs.declared.atom.Mutation.{Mutation}
use Rattle.cas_laws.specs.Inside.{SameIn}
use Rattle.cas_laws.proofs.JoinProofs.{same_where_joins}
use Rattle.cas_streams.specs.Flat.{flat}
use Rattle.cas_streams.specs.Merged.{flat_of, flats}
use Rattle.cas_streams.specs.NoMore.{SaysNoMore}
use Rattle.cas_streams.specs.Slices.{IsSliceOf, cut_to}
use Rattle.cas_streams.specs.Streams.{IsOrdered, WellFormed}
use Rattle.cas_streams.specs.declared.fragment.Fragment.{Fragment}
use Rattle.cas_streams.proofs.Cutting.{cut_is_well_formed, cut_keeps_the_slice}
use Rattle.cas_streams.proofs.NoMore.{no_more_then}
use Rattle.cas_merge.specs.Told.{streams_told, told_first}
use Rattle.cas_memtable.specs.declared.memtable.MemPart.{MemPart}
use Rattle.cas_memtable.specs.Kept.{ShowPartition, StandInEach, all_of, atoms_under}
use Rattle.cas_memtable.proofs.Keeping.{more_under}
use Rattle.cas_tables.specs.Fitting.{FitsPartition}
use Rattle.cas_blocks.specs.declared.fault.TableFault.{TableFault}
use Rattle.cas_sstread.specs.Loading.{Held}
use Rattle.cas_stored.specs.Contents.{AnswersOf, HasNone, IsCut}
use Rattle.cas_view.specs.Views.{File, may_hold}
use Rattle.cas_stored.specs.Stored.{HoldEach, SaysWhatIsWritten, ShowStored, StandInFile}
use Rattle.cas_stored.specs.Reading.{AreReadIn, IsReadIn}
use Rattle.cas_stored.specs.Inner.Files.{FileAnswers, FilesGive, FilesGiveBehind}
use Rattle.cas_stored.proofs.CutSays.{cut_no_more}
use Rattle.cas_stored.proofs.Gathering.{files_alone}
use Rattle.cas_stored.proofs.Lists.{both_no_more, each_one, front_none}

pub same_then : (s : Slice) (A B C : List Atom) → SameIn s A B → Same B C → SameIn s A C
same_then s A B C a b = record { covers = λ x i. a.covers x i ∙ b.covers x; lives = λ r i. a.lives r i ∙ b.lives r; cells = λ x i. a.cells x i ∙ b.cells x }

module _ {X : Type 0} (tells : X → Option (List Fragment)) (tops : X → Option Deletion) (order : List Ordered) (s : Slice) (key : List ℕ) (ms : List MemPart) where
  abbrev Shown : List (File Held) → List Mutation → List X → Type 0
  Shown fs ws xs = ShowStored tells tops order s key fs ms ws xs

  -- ---- one file more

  module _ (f : File Held) (fs : List (File Held)) (ws rest : List Mutation) (xs : List X) (stands : StandInFile order f ws) (reads : IsReadIn s f)
      (shown : Shown fs rest xs) where
    both : atoms_under key (ws ++ rest) ≡ atoms_under key ws ++ atoms_under key rest
    both = more_under key ws rest

    -- that has nothing under the key
    none_first : HasNone stands.contents key → Shown (f ∷ fs) (ws ++ rest) xs
    none_first none =
        let same : atoms_under key (ws ++ rest) ≡ atoms_under key rest = both ∙ ap (λ l. l ++ atoms_under key rest) (stands.none key none) in record {
          streams = shown.streams;
          told = shown.told;
          ordered = shown.ordered;
          same = subst (SameIn s (flats shown.streams)) (sym same) shown.same;
          no_more = subst (SaysNoMore (flats shown.streams)) (sym same) shown.no_more;
          formed = λ columns is of. shown.formed columns is (record { files = of.files.1; memtables = of.memtables });
          none = λ e. same ∙ shown.none e;
          some = λ e. shown.some (sym same ∙ e);
        }

    -- that has a partition of the key
    module _ (x : X) (cut : IsCut stands.contents key s (tops x) (tells x)) where
      abbrev own : List Fragment
      own = cut.partition.stream.fragments

      abbrev its : List Ordered
      its = clustering_order f.table.columns

      abbrev said : List Atom
      said = flat (tops x) (cut_to s own)

      abbrev whole : List Atom
      whole = flat (tops x) own

      says : SaysWhatIsWritten ws cut.partition
      says = stands.says cut.partition cut.there

      fits : FitsPartition f.table.columns cut.partition
      fits = each_one (FitsPartition f.table.columns) stands.contents.partitions cut.partition stands.of.fits.each cut.there

      slice : IsSliceOf its s
      slice = record { lo = reads.slice.0; hi = reads.slice.1 }

      under : flat_of cut.partition.stream ≡ whole
      under = ap (λ t. flat t own) (sym cut.top_is)

      own_same : SameIn s said (atoms_under key ws)
      own_same =
          same_then s said whole (atoms_under key ws) (cut_keeps_the_slice.same its s (tops x) own slice fits.well_formed.ordered)
          (subst (λ k. Same whole (atoms_under k ws)) cut.key_is (subst (λ l. Same l (atoms_under cut.partition.key ws)) under says.same))

      own_no_more : SaysNoMore said (atoms_under key ws)
      own_no_more =
          no_more_then said whole (atoms_under key ws) (cut_no_more its s (tops x) own fits.well_formed.ordered)
          (subst (λ k. SaysNoMore whole (atoms_under k ws)) cut.key_is (subst (λ l. SaysNoMore l (atoms_under cut.partition.key ws)) under says.no_more))

      one_first : Shown (f ∷ fs) (ws ++ rest) (x ∷ xs)
      one_first = record {
        streams = record { top = tops x; fragments = cut_to s own } ∷ shown.streams;
        told = (λ i. told_first (tops x) (cut.comes i) (shown.told i));
        ordered = (subst (λ o. IsOrdered o (cut_to s own)) stands.ordered (cut_keeps_the_slice.ordered its s own slice fits.well_formed.ordered), shown.ordered);
        same = subst (SameIn s (said ++ flats shown.streams)) (sym both) (same_where_joins _ said (atoms_under key ws) (flats shown.streams) (atoms_under key rest) own_same shown.same);
        no_more = subst (SaysNoMore (said ++ flats shown.streams)) (sym both) (both_no_more said (atoms_under key ws) (flats shown.streams) (atoms_under key rest) own_no_more shown.no_more);
        formed = λ columns is of. (
          subst (λ cs. WellFormed cs (cut_to s own)) of.files.0 (cut_is_well_formed f.table.columns s own slice fits.well_formed),
          shown.formed columns is (record { files = of.files.1; memtables = of.memtables }),
        );
        none = λ e. cc;
        some = λ e. absurd (says.written (ap (λ k. atoms_under k ws) cut.key_is ∙ front_none (atoms_under key ws) (atoms_under key rest) (sym both ∙ e)));
      }

    -- a file whose range denies the key has nothing under it
    denied : may_hold f.info key ≡ false → HasNone stands.contents key
    denied out p there is = true≢false (sym (stands.range p there) ∙ ap (may_hold f.info) is ∙ out)

    first_shown : (o : Option X) → FileAnswers f key s tops tells (Ok o) → Shown (f ∷ fs) (ws ++ rest) (option_to_list o ++ xs)
    first_shown o answers =
        elim (may_hold f.info key) as (λ b. may_hold f.info key ≡ b → Shown (f ∷ fs) (ws ++ rest) (option_to_list o ++ xs)) [
          | true ↦ λ held. found o (answers.contents held stands.contents stands.facts stands.of)
          | false ↦ λ out. outside o out (answers.outside out)
        ] refl
      where
        found : (o : Option X) → AnswersOf stands.contents key s tops tells (Ok o) → Shown (f ∷ fs) (ws ++ rest) (option_to_list o ++ xs)
        found None none = none_first none
        found (Some x) cut = one_first x cut

        outside : (o : Option X) → may_hold f.info key ≡ false → ◌≡◌ {A = Result (Option X) TableFault} (Ok o) (Ok None) → Shown (f ∷ fs) (ws ++ rest) (option_to_list o ++ xs)
        outside None out e = none_first (denied out)
        outside (Some x) out e = absurd cc

  -- ---- all files, and memory behind them

  pub files_show : (ys : List X) → ((wss : List (List Mutation)) → StandInEach order ms wss → Shown [] (all_of wss) ys) → (fs : List (File Held)) (wss : List (List Mutation)) (xs : List X)
      → HoldEach order fs ms wss → AreReadIn s fs → FilesGive key s tops tells fs xs → Shown fs (all_of wss) (xs ++ ys)
  files_show ys memory [] wss xs holds reads gives = subst (λ l. Shown [] (all_of wss) (l ++ ys)) (sym gives) (memory wss holds)
  files_show ys memory (f ∷ fs) [] xs holds reads gives = absurd holds
  files_show ys memory (f ∷ fs) (ws ∷ wss) xs holds reads gives =
      subst (Shown (f ∷ fs) (ws ++ all_of wss)) (sym (ap (λ l. l ++ ys) gives.3 ∙ append_assoc (option_to_list gives.0) gives.1 ys))
      (first_shown f fs ws (all_of wss) (gives.1 ++ ys) holds.0 reads.0 (files_show ys memory fs wss gives.1 holds.1 reads.1 gives.4) gives.0 gives.2)

-- ---- memory

-- what sources tell, of which others are made that tell the same
told_alike : {M X : Type 0} (make : M → X) (tells : X → Option (List Fragment)) (tops : X → Option Deletion) (sources : List M)
    → streams_told tells tops (map make sources) ≡ streams_told (λ m. tells (make m)) (λ m. tops (make m)) sources
told_alike make tells tops [] = refl
told_alike make tells tops (m ∷ ms) = ap (told_first (tops (make m)) (tells (make m))) (told_alike make tells tops ms)

none_made : {M X : Type 0} (make : M → X) (sources : List M) → map make sources ≡ [] → sources ≡ []
none_made make [] e = refl
none_made make (m ∷ ms) e = cc

-- the sources of memtables show a partition of a table without files
pub memory_alone : {M : Type 0} (tells : M → Option (List Fragment)) (tops : M → Option Deletion) (order : List Ordered) (s : Slice) (key : List ℕ)
    (ms : List MemPart) (ws : List Mutation) (sources : List M) → ShowPartition tells tops order s key ms ws sources → ShowStored tells tops order s key [] ms ws sources
memory_alone tells tops order s key ms ws sources shows = record {
  streams = shows.streams;
  told = shows.told;
  ordered = shows.ordered;
  same = shows.same;
  no_more = shows.no_more;
  formed = λ columns is of. shows.formed columns is of.memtables;
  none = shows.none;
  some = shows.some;
}

-- so do those that are made of them
pub memory_shows : {M X : Type 0} (make : M → X) (tells : X → Option (List Fragment)) (tops : X → Option Deletion) (order : List Ordered) (s : Slice) (key : List ℕ)
    (ms : List MemPart) (ws : List Mutation) (sources : List M) → ShowPartition (λ m. tells (make m)) (λ m. tops (make m)) order s key ms ws sources
    → ShowStored tells tops order s key [] ms ws (map make sources)
memory_shows make tells tops order s key ms ws sources shows = record {
  streams = shows.streams;
  told = told_alike make tells tops sources ∙ shows.told;
  ordered = shows.ordered;
  same = shows.same;
  no_more = shows.no_more;
  formed = λ columns is of. shows.formed columns is of.memtables;
  none = λ e. shows.none (none_made make sources e);
  some = λ e. ap (map make) (shows.some e);
}

-- the sources of files, and behind them those of memtables
pub sources_show : {M X : Type 0} (make : M → X) (tells : X → Option (List Fragment)) (tops : X → Option Deletion) (order : List Ordered) (s : Slice) (key asked : List ℕ) (fs view : List (File Held))
    (ms : List MemPart) (wss : List (List Mutation)) (memory : List M) (old xs ys : List X) → asked ≡ key → fs ≡ view → old ≡ [] → ys ≡ xs ++ map make memory
    → ((vss : List (List Mutation)) → StandInEach order ms vss → ShowPartition (λ m. tells (make m)) (λ m. tops (make m)) order s key ms (all_of vss) memory)
    → HoldEach order view ms wss → AreReadIn s view → FilesGiveBehind asked s tops tells fs old xs → ShowStored tells tops order s key view ms (all_of wss) ys
sources_show make tells tops order s key asked fs view ms wss memory old xs ys own same none all shows holds reads gives =
    subst (ShowStored tells tops order s key view ms (all_of wss)) (sym all)
    (files_show tells tops order s key ms (map make memory) (λ vss each. memory_shows make tells tops order s key ms (all_of vss) memory (shows vss each)) view wss xs holds reads
    (subst (λ l. FilesGive key s tops tells l xs) same
    (subst (λ k. FilesGive k s tops tells fs xs) own (files_alone asked s tops tells fs old xs none gives))))
