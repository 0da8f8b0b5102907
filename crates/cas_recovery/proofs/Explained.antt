-- Where no mutation stands in a table file, what the log has of a shard it may have been.
use Rattle.std.proofs.Common.{◌≡◌, ◌<◌, ◌≤◌, ◌≤ℤ◌, ◌+◌, inl, inr, ◌==◌, max, pos, ℕ, ℤ, zero, suc, Bool, true, false, List, [], ◌∷◌, ◌++◌, length, refl, sym, ap, ◌∙◌, subst, arith}
use Rattle.std.proofs.lemmas.Grind.{flat_map-append}
use Rattle.std.proofs.lemmas.Int.{clamps, ints}
use Rattle.std.specs.Prelude.{if◌then◌else◌}
use Rattle.std.specs.Int.{int_max}
use Rattle.std.specs.List.{AllByRecursion, fold}
use Rattle.cas_types.specs.declared.schema.TableSchema.{TableSchema}
use Rattle.cas_atoms.specs.declared.atom.Mutation.{Mutation}
use Rattle.cas_disk.specs.Disk.{Disk}
use Rattle.cas_mutations.specs.Allowed.{FitsRecord}
use Rattle.cas_changes.specs.declared.entry.Entry.{Entry as ManifestEntry}
use Rattle.cas_changes.specs.declared.said.Part.{Part}
use Rattle.cas_changes.specs.declared.said.ShardTimes.{ShardTimes}
use Rattle.cas_changes.specs.declared.said.TheConstants.{FIRST_DRAWN}
use Rattle.cas_changes.specs.Saying.{Saying, said_by, part_of, no_part, no_times}
use Rattle.cas_replay.specs.Grammar.{AreOfALog, AscendByOne, numbers_of}
use Rattle.cas_shard.specs.declared.entry.Entry.TheVariants.{Wrote}
use Rattle.cas_shard.specs.declared.entry.ShardOpening.{ShardOpening}
use Rattle.cas_shard.specs.Entries.{last_number}
use Rattle.cas_shard.specs.Shards.{empty_shard, found_shard, restored}
use Rattle.cas_shard.specs.Stands.{ShardState, Stands, mutations_of, of_table}
use Rattle.cas_shard.proofs.Memory.{say_alike}
use Rattle.cas_recovery.specs.Found.{IsUnflushed, found_in}
use Rattle.cas_recovery.specs.Laws.{LogExplains}
use Rattle.cas_recovery.specs.Openings.{IsOpening, MayHaveBeen, SayAll, greatest_frontier, times_of, unflushed_of}
use Rattle.cas_recovery.proofs.Founding.{Reads, given_reads, goes_on, log_given, step}
use Rattle.cas_recovery.proofs.Places.{get_within, is_other}
use Rattle.cas_recovery.proofs.Unflushed.{all_given}
use Rattle.cas_recovery.proofs.Within.{at_place}

-- ---- what is told of a shard without a mutation

-- a shard's drawn timestamp and its moment are not before those
record Begun (o : ShardOpening) : Type 0 where
  drawn : FIRST_DRAWN ≤ℤ o.drawn
  moment : pos 0 ≤ℤ o.moment

begun_restored : (o : ShardOpening) (m : Mutation) → Begun o → Begun (restored m o)
begun_restored o m is = record { drawn = by m.drawn; moment = omega (arith, ints, clamps, is.moment) }
  where
    by : (b : Bool) → FIRST_DRAWN ≤ℤ (if b then int_max o.drawn m.at else o.drawn)
    by true = omega (arith, ints, clamps, is.drawn)
    by false = is.drawn

module _ (n : ℕ) where
  begun_by : (b : Bool) (o : ShardOpening) (m : Mutation) → Begun o → Begun (if b then restored m o else o)
  begun_by true o m is = begun_restored o m is
  begun_by false o m is = is

  all_begun : (ms : List Mutation) (o : ShardOpening) → Begun o → Begun (fold (step n) o ms)
  all_begun [] o is = is
  all_begun (m ∷ ms) o is = all_begun ms (step n o m) (begun_by (m.shard == n) o m is)

  found_begun : (ms : List Mutation) → Begun (found_in n ms)
  found_begun ms = all_begun ms empty_shard (record { drawn = omega (arith, ints); moment = omega (arith, ints) })

raised_from : (a b : ℤ) → b ≤ℤ a → a ≡ int_max a b
raised_from a b low = omega (arith, ints, clamps, low)

-- ---- no mutation of another table

module _ (n table : ℕ) where
  none_by : (b : Bool) (o : ShardOpening) (m : Mutation) → (m.table == table) ≡ false → mutations_of table o.entries ≡ []
      → mutations_of table (if b then restored m o else o).entries ≡ []
  none_by true o m other none =
      flat_map-append (of_table table) o.entries (Wrote 0 0 m ∷ []) ∙ ap (λ l. l ++ mutations_of table (Wrote 0 0 m ∷ [])) none
      ∙ ap (λ (b : Bool). (if b then m ∷ [] else []) ++ []) other
  none_by false o m other none = none

  none_of : (tables : List TableSchema) (shards : ℕ) → length tables ≤ table → (ms : List Mutation) (o : ShardOpening) → AllByRecursion (FitsRecord tables shards) ms
      → mutations_of table o.entries ≡ [] → mutations_of table (fold (step n) o ms).entries ≡ []
  none_of tables shards high [] o fit none = none
  none_of tables shards high (m ∷ ms) o fit none =
      let low = get_within tables m.table fit.0.table fit.0.there in
      none_of tables shards high ms (step n o m) fit.1 (none_by (m.shard == n) o m (is_other m.table table (λ e. absurd (omega (arith, e, low, high)))) none)

-- ---- the opening

module _ (entries : List ManifestEntry) (mutations : List Mutation) (log : AreOfALog (said_by entries).tables (said_by entries).shards mutations) (none : IsUnflushed (said_by entries)) where
  abbrev s : Saying
  s = said_by entries

  pub all_unflushed : unflushed_of s mutations ≡ mutations
  all_unflushed = all_given s mutations none log.fit

  module _ (n : ℕ) (low : n < s.shards) where
    no_frontier : (count : ℕ) → count ≤ length s.tables → greatest_frontier s n count ≡ 0
    no_frontier zero few = refl
    no_frontier (suc k) few =
        let before = no_frontier k (omega (arith, few)) in
        let part : part_of s k n ≡ no_part = none.parts k n (omega (arith, few)) low in
        let front : (part_of s k n).frontier ≡ 0 = ap (λ (p : Part). p.frontier) part in
        let both : max (greatest_frontier s n k) (part_of s k n).frontier ≡ 0 = omega (arith, before, front) in
        both

    no_told : times_of s n ≡ no_times
    no_told = at_place (λ t. t ≡ no_times) s.times n no_times none.times refl

    pub explained : (folder : Disk) → IsOpening s mutations folder n (found_in n mutations)
    explained folder =
        let reads : Reads _ (found_in n mutations) = given_reads s.tables s.shards n mutations (log_given s.tables s.shards mutations log) in
        let begun : Begun (found_in n mutations) = found_begun n mutations in
        let all : found_in n (unflushed_of s mutations) ≡ found_in n mutations = ap (found_in n) all_unflushed in
        record {
          rise = reads.rises;
          number = omega (arith, ap (λ (o : ShardOpening). o.number) all, no_frontier (length s.tables) (omega arith));
          goes_on = goes_on _ (found_in n mutations) (log.ordered n) reads;
          drawn = raised_from (found_in n mutations).drawn FIRST_DRAWN begun.drawn
              ∙ ap (λ (o : ShardOpening). int_max o.drawn FIRST_DRAWN) (sym all)
              ∙ ap (λ (t : ShardTimes). int_max (found_in n (unflushed_of s mutations)).drawn t.drawn) (sym no_told);
          moment = raised_from (found_in n mutations).moment (pos 0) begun.moment
              ∙ ap (λ (o : ShardOpening). int_max o.moment (pos 0)) (sym all)
              ∙ ap (λ (t : ShardTimes). int_max (found_in n (unflushed_of s mutations)).moment t.moment) (sym no_told);
          says = λ table t there.
              let above : List Mutation = mutations_of table (found_in n (unflushed_of s mutations)).entries in
              let whole : List Mutation = mutations_of table (found_in n mutations).entries in
              let part : part_of s table n ≡ no_part = none.parts table n (get_within s.tables table t there) low in
              subst (λ (p : Part). SayAll folder t n p.listed above whole) (sym part) (record {
                written = [];
                stand = λ c left. tt;
                says = say_alike above whole (ap (λ (o : ShardOpening). mutations_of table o.entries) all);
              });
          no_others = λ table high. none_of n table s.tables s.shards high mutations empty_shard log.fit refl;
        }

-- whatever a shard may have been, it is by all that is asked of one with table files
pub as_opening : (entries : List ManifestEntry) (mutations : List Mutation) → AreOfALog (said_by entries).tables (said_by entries).shards mutations → (folder : Disk) (n : ℕ) (o : ShardOpening)
    → n < (said_by entries).shards → MayHaveBeen (said_by entries) mutations folder n o → IsOpening (said_by entries) mutations folder n o
as_opening entries mutations log folder n o low (inl (tells, is)) = is
as_opening entries mutations log folder n o low (inr (none, e)) =
    subst (IsOpening (said_by entries) mutations folder n) (sym e) (explained entries mutations log none n low folder)

pub log_explains : (folder : Disk) → LogExplains folder
log_explains folder entries mutations log none n low = explained entries mutations log none n low folder

-- where a shard stands for what it may have been, the log's numbers go on behind its own
pub opened_goes_on : (entries : List ManifestEntry) (mutations : List Mutation) → AreOfALog (said_by entries).tables (said_by entries).shards mutations → (folder : Disk) (n : ℕ) (o : ShardOpening)
    → n < (said_by entries).shards → MayHaveBeen (said_by entries) mutations folder n o → (tables : List TableSchema) (x : ShardState) → Stands tables (found_shard o) x
    → AscendByOne (numbers_of n mutations ++ (x.number + 1) ∷ [])
unfolding last_number
opened_goes_on entries mutations log folder n o low may tables x stands =
    let number : x.number ≡ o.number = stands.number in
    subst (λ (k : ℕ). AscendByOne (numbers_of n mutations ++ (k + 1) ∷ [])) (sym number) (as_opening entries mutations log folder n o low may).goes_on
