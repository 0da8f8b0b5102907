-- A check of a table's files: what is said of them one after another, and what becomes of the store.
use Rattle.std.proofs.Common.{◌≡◌, ◌≤◌, ◌<◌, ◌+◌, ℕ, zero, suc, false, List, [], ◌∷◌, ◌++◌, get_or, length, map, take, Option, Some, Result, refl, sym, ap, ◌∙◌, subst, append-nil, append_assoc, arith}
use Rattle.std.specs.Prelude.{slice_get}
use Rattle.std.specs.Arc.{arc_value}
use Rattle.std.specs.List.{flat_map, range_with_len}
use Rattle.std.proofs.lemmas.List.{flat_map_more, map_more}
use Rattle.std.proofs.lemmas.List.Folds.{flat_map-map}
use Rattle.std.proofs.lemmas.List.FromFn.{map-range_with_len_more}
use Rattle.cas_types.specs.declared.schema.TableSchema.{TableSchema}
use Rattle.cas_bounds.specs.ClusteringOrder.{clustering_order}
use Rattle.cas_bounds.specs.declared.cuts.Slice.{Slice}
use Rattle.cas_bounds.specs.declared.order.Ordered.{Ordered}
use Rattle.cas_disk.specs.Disk.{Disk}
use Rattle.cas_recovery.specs.Restored.{MayBeRead}
use Rattle.cas_types.specs.Limits.{IsNarrow}
use Rattle.cas_render.specs.declared.reply.Verdict.{Verdict}
use Rattle.cas_shard.specs.Stands.{ShardState, files_at}
use Rattle.cas_sstread.specs.Loading.{Held}
use Rattle.cas_stored.specs.Reading.{AreReadIn}
use Rattle.cas_terms.specs.Columns.{table_named}
use Rattle.cas_view.specs.Views.{File, file_of, files_of as files_in_view}
use Rattle.cas_view.specs.declared.view.OpenFile.{OpenFile}
use Rattle.cql_parse.specs.declared.syntax.TableName.{TableName}
use Rattle.cas_sessions.specs.declared.answer.Fault.{Fault}
use Rattle.cas_sessions.specs.declared.answer.Fault.TheVariants.{Refused, Stopped, Disk as Failed, Read, BadBlock, Mem}
use Rattle.cas_lasting.specs.History.{History, DiskState, shard_at}
use Rattle.cas_lasting.specs.Nodes.{State, Moves, files_in, files_of}
use Rattle.cas_sessions.specs.Verifying.{AreVerdicts, EndsVerified, IsVerdict, IsWhyUnread, Verifies, VerifiesNamed, table_files}
use Rattle.cas_sessions.specs.Inner.Verifying.{AddVerdicts, AreNarrow, AreNarrowIn}
use Rattle.cas_sessions.proofs.FlushMaking.{quiet_reads}
use Rattle.cas_lasting.proofs.Explaining.{explains_still, goes_nowhere, keep_files_none}
use Rattle.cas_lasting.proofs.Filled.{stands_filled}
use Rattle.cas_lasting.proofs.FlushSteps.{quiet_lasts, quiet_stands, with_disk, with_state}
use Rattle.cas_lasting.proofs.Lasting.{lasts_as}

-- ---- narrow files

-- a slice of a table that orders its rows so
abbrev some_slice : List Ordered → Slice
some_slice order = record { lo = record { prefix = []; after = false; order = order }; hi = record { prefix = []; after = false; order = order } }

narrow_each : (s : Slice) (fs : List (File Held)) → AreReadIn s fs → AreNarrow fs
narrow_each s [] all = tt
narrow_each s (f ∷ fs) all = (all.0.narrow, narrow_each s fs all.1)

-- files that may be read in each slice are
pub narrow_in : (tables : List TableSchema) (shards : List ShardState) (t : TableSchema) → MayBeRead tables shards → slice_get tables t.number ≡ Some t
    → AreNarrowIn t.number shards
narrow_in tables shards t read at n x there =
    let s = some_slice (clustering_order t.columns) in
    narrow_each s (files_at (slice_get x.stores t.number)) (read n x there t.number t at s (refl, refl))

-- ---- one file after another

-- so is each of them
pub narrow_at : (fs : List (OpenFile Held)) (k : ℕ) (f : OpenFile Held) → AreNarrow (files_in_view fs) → k < length fs → f ≡ get_or fs k f
    → IsNarrow (arc_value f.table).columns
narrow_at [] k f all within is = absurd (omega (arith, within))
narrow_at (g ∷ fs) zero f all within is = subst (λ (w : OpenFile Held). IsNarrow (arc_value w.table).columns) (sym is) all.0
narrow_at (g ∷ fs) (suc k) f all within is = narrow_at fs k f all.1 (omega (arith, within)) is

both : (fs gs : List (File Held)) (vs ws : List Verdict) → AreVerdicts fs vs → AreVerdicts gs ws → AreVerdicts (fs ++ gs) (vs ++ ws)
both [] gs [] ws one other = other
both [] gs (v ∷ vs) ws one other = absurd one
both (f ∷ fs) gs [] ws one other = absurd one
both (f ∷ fs) gs (v ∷ vs) ws one other = (one.0, both fs gs vs ws one.1 other)

pub none_added : (vs : List Verdict) → AddVerdicts [] vs vs
none_added vs = ([], sym (append-nil vs), tt)

-- a file more
pub one_added : (fs : List (OpenFile Held)) (k : ℕ) (f : OpenFile Held) (before mid now : List Verdict) (v : Verdict) → k < length fs → f ≡ get_or fs k f
    → AddVerdicts (files_in_view (take k fs)) before mid → now ≡ mid ++ v ∷ [] → IsVerdict (file_of f) v
    → AddVerdicts (files_in_view (take (k + 1) fs)) before now
one_added fs k f before mid now v within is (more, are, so) added verdict =
    let here : files_in_view (take (k + 1) fs) ≡ files_in_view (take k fs) ++ file_of f ∷ [] =
    map_more file_of fs k f within ∙ ap (λ (w : OpenFile Held). files_in_view (take k fs) ++ file_of w ∷ []) (sym is) in (
      more ++ v ∷ [],
      added ∙ ap (λ vs. vs ++ v ∷ []) are ∙ append_assoc before more (v ∷ []),
      subst (λ gs. AreVerdicts gs (more ++ v ∷ [])) (sym here) (both (files_in_view (take k fs)) (file_of f ∷ []) more (v ∷ []) so (verdict, tt)),
    )

-- ---- one shard after another

one_shard_more : (files : ℕ → ℕ → List (File Held)) (k table : ℕ) → table_files files (k + 1) table ≡ table_files files k table ++ files k table
one_shard_more files k table =
    let at = λ (n : ℕ). files n table in
    let each = λ (fs : List (File Held)). fs in
    sym (flat_map-map each at (range_with_len 0 (k + 1))) ∙ ap (flat_map each) (map-range_with_len_more at 0 k k (omega arith))
    ∙ sym (flat_map_more each [] (map at (range_with_len 0 k)) (at k)) ∙ ap (λ fs. fs ++ files k table) (flat_map-map each at (range_with_len 0 k))

pub shard_added : (shards : List ShardState) (k table : ℕ) (x : ShardState) (fs : List (File Held)) (mid now : List Verdict) → slice_get shards k ≡ Some x
    → fs ≡ files_at (slice_get x.stores table) → AreVerdicts (table_files (files_in shards) k table) mid → AddVerdicts fs mid now
    → AreVerdicts (table_files (files_in shards) (k + 1) table) now
shard_added shards k table x fs mid now there are so (more, is, also) =
    let here : files_in shards k table ≡ fs = ap (λ o. files_of o table) there ∙ sym are in
    let all : table_files (files_in shards) (k + 1) table ≡ table_files (files_in shards) k table ++ fs =
    one_shard_more (files_in shards) k table ∙ ap (λ gs. table_files (files_in shards) k table ++ gs) here in
    subst (λ vs. AreVerdicts (table_files (files_in shards) (k + 1) table) vs) (sym is)
    (subst (λ gs. AreVerdicts gs (mid ++ more)) (sym all) (both (table_files (files_in shards) k table) fs mid more so also))

-- ---- why not

pub later_unread : (a b c : ℕ) (f : Fault) → a ≤ b → IsWhyUnread b c f → IsWhyUnread a c f
later_unread a b c (Refused why) le is = is
later_unread a b c (Stopped first) le is = is
later_unread a b c (Failed number) le is = is
later_unread a b c Read le rose = omega (arith, le, rose)
later_unread a b c (BadBlock number at) le is = is
later_unread a b c Mem le is = is

-- ---- the store

named : (h : History) (tables : List TableSchema) (name : TableName) (o : Option TableSchema) (r : Result (List Verdict) Fault) (after : History)
    → h.tables ≡ tables → table_named tables name ≡ o → VerifiesNamed h o r after → Verifies h name r after
named h tables name o r after same is so = subst (λ x. VerifiesNamed h x r after) (sym (ap (λ ts. table_named ts name) same ∙ is)) so

pub verifies_table : (name : TableName) (t : TableSchema) (s : State) (d : Disk) (reads : ℕ) (r : Result (List Verdict) Fault)
    → table_named s.tables name ≡ Some t → s.reads ≤ reads → EndsVerified (table_files (files_in s.shards) (length s.shards) t.number) s.reads reads r
    → Moves (λ h after. Verifies h name r after) s (record s { reads = reads }) d d
verifies_table name t s d reads r is le ends h stands =
    let u = record s { reads = reads } in
    let quiet = quiet_reads s d reads le in
    let le_h : h.disk.reads ≤ reads = subst (λ (x : DiskState). x.reads ≤ reads) (sym stands.disk) le in
    let ends_h : EndsVerified (table_files h.disk.files (length h.shards) t.number) h.disk.reads reads r =
    subst (λ (x : DiskState). EndsVerified (table_files x.files (length h.shards) t.number) x.reads reads r) (sym stands.disk)
    (subst (λ n. EndsVerified (table_files (files_in s.shards) n t.number) s.reads reads r) (sym stands.count) ends) in (
      with_disk h u,
      named h s.tables name (Some t) r (with_disk h u) stands.tables is
          (reads, le_h, ends_h, ap (λ (x : DiskState). record h { disk = record x { reads = reads } }) (sym stands.disk)),
      record {
        stands = stands_filled (with_state h u) h.filled u stands.filled (quiet_stands s u d d quiet h stands);
        lasts = λ found told lasts. (
          told,
          lasts_as h (with_disk h u) found u d told refl refl (λ on. on) (quiet_lasts s u d d quiet h found told lasts),
          λ openings explained.
              explains_still openings h (with_disk h u) found s u d d told (λ n. goes_nowhere (shard_at h n)) refl refl (keep_files_none told d) (λ ms have. have) explained,
        );
      },
    )
