-- What entries that may follow one another say of table files and of shards is within limits.
use Rattle.std.proofs.Common.{◌≡◌, ◌≤◌, ◌≤ℤ◌, ◌+◌, ◌*◌, ℕ, zero, suc, Bool, true, false, not, cond, Option, List, [], ◌∷◌, ◌++◌, length, filter, sym, ap, ◌∙◌, subst, arith, append-nil, append_assoc, length-append}
use Rattle.std.proofs.Math.Nat.{mul-le-mul_right, suc-mul}
use Rattle.std.proofs.lemmas.Int.{ints}
use Rattle.std.proofs.lemmas.List.{length-map, length-replicate}
use Rattle.std.proofs.lemmas.Option.{slice_get_past}
use Rattle.std.specs.Prelude.{replicate, slice_get, slice_set, unwrap_or}
use Rattle.std.specs.List.{AllByRecursion, fold}
use Rattle.cas_types.specs.Limits.{IsMoment}
use Rattle.cas_types.specs.declared.limits.TheConstants.{LAST_DRAWN, MUTATION_LIMIT}
use Rattle.cas_info.specs.Allowed.{FitsInfo}
use Rattle.cas_info.specs.declared.info.TableInfo.{TableInfo}
use Rattle.cas_schemas.specs.Each.{EachFits}
use Rattle.cas_changes.specs.declared.entry.Entry.{Entry}
use Rattle.cas_changes.specs.declared.entry.Entry.TheVariants as entry
use Rattle.cas_changes.specs.declared.said.Part.{Part}
use Rattle.cas_changes.specs.declared.said.ShardTimes.{ShardTimes}
use Rattle.cas_changes.specs.Allowed.{FitsEntry}
use Rattle.cas_changes.specs.Saying.{Saying, after, is_listed, no_part, no_times, nothing, part_after, part_of, place_in, said_by, times_after, with_columns}
use Rattle.cas_manifest.specs.File.{MayFollow}
use Rattle.cas_manifest.proofs.Appends.{said_more}
use Rattle.cas_journal.specs.Stores.{named}
use Rattle.cas_opening.proofs.Saids.{sound}
use Rattle.cas_shard.proofs.Preparing.{later_begun, later_low}
use Rattle.cas_recovery.specs.Openings.{times_of}
use Rattle.cas_recovery.specs.Inner.Filling.{IsWithin}
use Rattle.cas_recovery.proofs.Places.{length_set}

-- ---- lists

pub all_filtered : {A : Type 0} (P : A → Type 0) (p : A → Bool) (xs : List A) → AllByRecursion P xs → AllByRecursion P (filter p xs)
all_filtered P p [] all = tt
all_filtered P p (x ∷ xs) all =
    let rest = all_filtered P p xs all.1 in
    elim (p x) as (λ b. AllByRecursion P (cond b (x ∷ filter p xs) (filter p xs))) [ true ↦ (all.0, rest) | false ↦ rest ]

all_both : {A : Type 0} (P : A → Type 0) (xs ys : List A) → AllByRecursion P xs → AllByRecursion P ys → AllByRecursion P (xs ++ ys)
all_both P [] ys all more = more
all_both P (x ∷ xs) ys all more = (all.0, all_both P xs ys all.1 more)

all_same : {A : Type 0} (P : A → Type 0) (x : A) → P x → (n : ℕ) → AllByRecursion P (replicate n x)
all_same P x is zero = tt
all_same P x is (suc n) = (is, all_same P x is n)

all_set : {A : Type 0} (P : A → Type 0) (xs : List A) (n : ℕ) (x : A) → AllByRecursion P xs → P x → AllByRecursion P (slice_set xs n x)
all_set P [] n x all is = tt
all_set P (y ∷ ys) zero x all is = (is, all.1)
all_set P (y ∷ ys) (suc n) x all is = (all.0, all_set P ys n x all.1 is)

pub at_place : {A : Type 0} (P : A → Type 0) (xs : List A) (n : ℕ) (d : A) → AllByRecursion P xs → P d → P (unwrap_or (slice_get xs n) d)
at_place P [] n d all is = is
at_place P (y ∷ ys) zero d all is = all.0
at_place P (y ∷ ys) (suc n) d all is = at_place P ys n d all.1 is

-- ---- parts and times

record PartFits (p : Part) : Type 0 where
  frontier : p.frontier ≤ MUTATION_LIMIT
  listed : AllByRecursion FitsInfo p.listed

record TimesFit (t : ShardTimes) : Type 0 where
  moment : IsMoment t.moment
  drawn : t.drawn ≤ℤ LAST_DRAWN

record Fit (s : Saying) : Type 0 where
  parts : AllByRecursion PartFits s.parts
  times : AllByRecursion TimesFit s.times
  few : length s.parts ≤ length s.tables * s.shards

no_part_fits : PartFits no_part
no_part_fits = record { frontier = omega arith; listed = tt }

no_times_fit : TimesFit no_times
no_times_fit = record { moment = (omega (arith, ints), omega (arith, ints)); drawn = omega (arith, ints) }

-- ---- one entry more

infos_fit : (P : List TableInfo → TableInfo → Type 0) (before is : List TableInfo) → EachFits (λ ns i. FitsInfo i × P ns i) before is → AllByRecursion FitsInfo is
infos_fit P before [] each = tt
infos_fit P before (i ∷ is) each = (each.0.0, infos_fit P (before ++ i ∷ []) is each.1)

fit_after : (s : Saying) (e : Entry) → Fit s → FitsEntry s e → Fit (after s e)
fit_after s (entry.Store shards) is fit = record {
  parts = is.parts;
  times = all_same TimesFit no_times no_times_fit shards;
  few = let none : length s.parts ≤ length s.tables * 0 = subst (λ (k : ℕ). length s.parts ≤ length s.tables * k) fit.0 is.few in omega (arith, none);
}
fit_after s (entry.Schema t) is fit = record {
  parts = all_both PartFits s.parts (replicate s.shards no_part) is.parts (all_same PartFits no_part no_part_fits s.shards);
  times = is.times;
  few =
      let parts : length (s.parts ++ replicate s.shards no_part) ≡ length s.parts + s.shards =
      length-append s.parts (replicate s.shards no_part) ∙ ap (λ (k : ℕ). length s.parts + k) (length-replicate s.shards no_part) in
      let tables : length (s.tables ++ t ∷ []) ≡ suc (length s.tables) = omega (arith, length-append s.tables (t ∷ [])) in
      let places : length (s.tables ++ t ∷ []) * s.shards ≡ length s.tables * s.shards + s.shards =
      ap (λ (k : ℕ). k * s.shards) tables ∙ suc-mul (length s.tables) s.shards in
      omega (arith, parts, places, is.few);
}
fit_after s (entry.NewSegment n) is fit = record { parts = is.parts; times = is.times; few = is.few }
fit_after s (entry.DropSegment n) is fit = record { parts = is.parts; times = is.times; few = is.few }
fit_after s (entry.Change c) is fit =
    let part : Part = part_of s c.table c.shard in
    let times : ShardTimes = unwrap_or (slice_get s.times c.shard) no_times in
    let had : PartFits part = at_place PartFits s.parts (place_in s c.table c.shard) no_part is.parts no_part_fits in
    let was : TimesFit times = at_place TimesFit s.times c.shard no_times is.times no_times_fit in
    record {
      parts = all_set PartFits s.parts (place_in s c.table c.shard) (part_after part c) is.parts (record {
        frontier = fit.1.frontier.1;
        listed = all_both FitsInfo (filter (λ i. not (is_listed c.removed i.number)) part.listed) c.added
            (all_filtered FitsInfo (λ i. not (is_listed c.removed i.number)) part.listed had.listed) (infos_fit _ [] c.added fit.1.added);
      });
      times = all_set TimesFit s.times c.shard (times_after times c) is.times (record {
        moment = later_begun times.moment c.moment was.moment fit.1.moment;
        drawn = later_low times.drawn c.drawn was.drawn fit.1.drawn.1;
      });
      few = subst (λ (k : ℕ). k ≤ length s.tables * s.shards) (sym (length_set s.parts (place_in s c.table c.shard) (part_after part c))) is.few;
    }
fit_after s (entry.AddColumns table columns) is fit = record {
  parts = is.parts;
  times = is.times;
  few = subst (λ (k : ℕ). length s.parts ≤ k * s.shards) (sym (length-map s.tables (with_columns table columns))) is.few;
}

fit_all : (s : Saying) (entries : List Entry) → Fit s → MayFollow s entries → Fit (fold after s entries)
fit_all s [] is follow = is
fit_all s (e ∷ entries) is follow = fit_all (after s e) entries (fit_after s e is follow.0.0) follow.1

said_fits : (entries : List Entry) → MayFollow nothing entries → Fit (said_by entries)
unfolding said_by
said_fits entries follow = fit_all nothing entries (record { parts = tt; times = tt; few = omega arith }) follow

pub within : (entries : List Entry) → MayFollow nothing entries → IsWithin (said_by entries)
within entries follow =
    let fit : Fit (said_by entries) = said_fits entries follow in
    let part : (table shard : ℕ) → PartFits (part_of (said_by entries) table shard) = λ table shard.
    at_place PartFits (said_by entries).parts (place_in (said_by entries) table shard) no_part fit.parts no_part_fits in
    let times : (shard : ℕ) → TimesFit (times_of (said_by entries) shard) = λ shard. at_place TimesFit (said_by entries).times shard no_times fit.times no_times_fit in
    record {
      numbers = λ i t there. ((sound entries follow).tables i t there).0;
      frontiers = λ table shard. (part table shard).frontier;
      no_more = λ table shard high.
          let past : length (said_by entries).tables * (said_by entries).shards ≤ table * (said_by entries).shards = mul-le-mul_right (said_by entries).shards high in
          ap (λ (o : Option Part). (unwrap_or o no_part).frontier) (slice_get_past (said_by entries).parts (place_in (said_by entries) table shard) (omega (arith, fit.few, past)));
      listed = λ table shard. (part table shard).listed;
      moments = λ shard. (times shard).moment;
      drawn = λ shard. (times shard).drawn;
    }

-- ---- segments that are named

-- of what is said they change the segments alone
pub named_alone : (entries : List Entry) (numbers : List ℕ)
    → (segments : List ℕ) × (last : ℕ) × (said_by (entries ++ named numbers) ≡ record (said_by entries) { segments = segments; last_segment = last })
named_alone entries [] = ((said_by entries).segments, (said_by entries).last_segment, ap said_by (append-nil entries))
named_alone entries (n ∷ numbers) =
    let (segments, last, is) = named_alone (entries ++ entry.NewSegment n ∷ []) numbers in (
      segments,
      last,
      ap said_by (sym (append_assoc entries (entry.NewSegment n ∷ []) (named numbers))) ∙ is
          ∙ ap (λ (s : Saying). record s { segments = segments; last_segment = last }) (said_more entries (entry.NewSegment n)),
    )
