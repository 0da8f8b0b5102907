-- What is given of each shard: its mutations rise, and the shard's number is that of the last.
use Rattle.std.proofs.Common.{◌≡◌, ◌<◌, ◌≤◌, ◌+◌, ◌==◌, max, ℕ, Bool, true, false, List, [], ◌∷◌, ◌++◌, refl, sym, ◌∙◌, subst, arith, append-nil, append_assoc}
use Rattle.std.proofs.lemmas.List.Sums.{fold-append}
use Rattle.std.proofs.lemmas.Grind.{flat_map-append}
use Rattle.std.specs.Prelude.{if◌then◌else◌, filter}
use Rattle.std.specs.List.{AllByRecursion, fold}
use Rattle.cas_types.specs.declared.schema.TableSchema.{TableSchema}
use Rattle.cas_atoms.specs.declared.atom.Mutation.{Mutation}
use Rattle.cas_mutations.specs.Allowed.{FitsRecord}
use Rattle.cas_replay.specs.Grammar.{AreOfALog, AscendByOne, numbers_of}
use Rattle.cas_shard.specs.declared.entry.Entry.TheVariants.{Wrote}
use Rattle.cas_shard.specs.declared.entry.ShardOpening.{ShardOpening}
use Rattle.cas_shard.specs.Entries.{last_number, number_after}
use Rattle.cas_shard.specs.Shards.{empty_shard, found_shard, restored}
use Rattle.cas_shard.specs.Stands.{NumbersRise}
use Rattle.cas_shard.proofs.Numbering.{one_restored}
use Rattle.cas_recovery.specs.Found.{found_in}
use Rattle.cas_recovery.specs.Inner.Restoring.{MayBeGiven, Rise}
use Rattle.cas_recovery.proofs.Within.{all_filtered}

-- ---- numbers

-- the last of these, where it was n before them
abbrev last_in : ℕ → List ℕ → ℕ
last_in n [] = n
last_in n (m ∷ ms) = last_in m ms

last_pushed : (n : ℕ) (ms : List ℕ) (m : ℕ) → last_in n (ms ++ m ∷ []) ≡ m
last_pushed n [] m = refl
last_pushed n (k ∷ ms) m = last_pushed k ms m

-- what comes behind is above the last
behind_last : (n : ℕ) (ms : List ℕ) (m : ℕ) (rest : List ℕ) → Rise n (ms ++ m ∷ rest) → last_in n ms < m
behind_last n [] m rest rise = rise.0
behind_last n (k ∷ ms) m rest rise = behind_last k ms m rest rise.1

from_lower : (k n : ℕ) (ms : List ℕ) → k ≤ n → Rise n ms → Rise k ms
from_lower k n [] low rise = tt
from_lower k n (m ∷ ms) low rise = (omega (arith, low, rise.0), rise.1)

pub front_rises : (n : ℕ) (ms rest : List ℕ) → Rise n (ms ++ rest) → Rise n ms
front_rises n [] rest rise = tt
front_rises n (m ∷ ms) rest rise = (rise.0, front_rises m ms rest rise.1)

-- numbers that ascend by one rise, and the next goes on behind the last
by_one_rise : (n m : ℕ) (ms : List ℕ) → n < m → AscendByOne (m ∷ ms) → Rise n (m ∷ ms)
by_one_rise n m [] low ascend = (low, tt)
by_one_rise n m (k ∷ ms) low ascend = (low, by_one_rise m k ms (omega (arith, ascend.0)) ascend.1)

by_one_goes_on : (n m : ℕ) (ms : List ℕ) → AscendByOne (m ∷ ms) → AscendByOne (m ∷ ms ++ (last_in n (m ∷ ms) + 1) ∷ [])
by_one_goes_on n m [] ascend = (refl, tt)
by_one_goes_on n m (k ∷ ms) ascend = (ascend.0, by_one_goes_on m k ms ascend.1)

-- ---- what was given so far

pub record Reads (pre : List ℕ) (o : ShardOpening) : Type 0 where
  pub rises : NumbersRise (found_shard o)
  pub last : last_number 0 o.entries ≡ o.number
  pub number : o.number ≡ last_in 0 pre

-- where numbers ascend by one, they go on behind the shard's
pub goes_on : (pre : List ℕ) (o : ShardOpening) → AscendByOne pre → Reads pre o → AscendByOne (pre ++ (o.number + 1) ∷ [])
goes_on [] o ascend so = tt
goes_on (p ∷ pre) o ascend so = subst (λ (k : ℕ). AscendByOne (p ∷ pre ++ (k + 1) ∷ [])) (sym so.number) (by_one_goes_on 0 p pre ascend)

pub is_above : (pre : List ℕ) (o : ShardOpening) (n : ℕ) (rest : List ℕ) → Rise 0 (pre ++ n ∷ rest) → Reads pre o → last_number 0 o.entries < n
is_above pre o n rest rise so = let low = behind_last 0 pre n rest rise in omega (arith, so.last, so.number, low)

pub none_read : Reads [] empty_shard
unfolding last_number
none_read = record { rises = record { ascend = tt; found = omega arith; rise = tt }; last = refl; number = refl }

pub one_read : (pre : List ℕ) (o : ShardOpening) (m : Mutation) (rest : List ℕ) → Rise 0 (pre ++ m.number ∷ rest) → Reads pre o → Reads (pre ++ m.number ∷ []) (restored m o)
unfolding last_number
one_read pre o m rest rise so =
    let above = is_above pre o m.number rest rise so in
    let greatest : max o.number m.number ≡ m.number = omega (arith, above, so.last) in
    record {
      rises = one_restored m o so.rises above;
      last = fold-append number_after 0 o.entries (Wrote 0 0 m ∷ []) ∙ sym greatest;
      number = greatest ∙ sym (last_pushed 0 pre m.number);
    }

-- ---- a log

abbrev pub step : ℕ → ShardOpening → Mutation → ShardOpening
step n o m = if m.shard == n then restored m o else o

pub one_more : (n : ℕ) (done : List Mutation) (m : Mutation) → found_in n (done ++ m ∷ []) ≡ step n (found_in n done) m
one_more n done m = fold-append (step n) empty_shard done (m ∷ [])

pub numbers_more : (n : ℕ) (done : List Mutation) (m : Mutation) (rest : List Mutation)
    → numbers_of n (done ++ m ∷ rest) ≡ numbers_of n done ++ ((if m.shard == n then m.number ∷ [] else []) ++ numbers_of n rest)
numbers_more n done m rest = flat_map-append {A = ℕ} (λ (x : Mutation). if x.shard == n then x.number ∷ [] else []) done (m ∷ rest)

module _ (n : ℕ) where
  reads_by : (b : Bool) (pre : List ℕ) (o : ShardOpening) (m : Mutation) (others : List ℕ)
      → Rise 0 (pre ++ ((if b then m.number ∷ [] else []) ++ others)) → Reads pre o
      → Reads (pre ++ (if b then m.number ∷ [] else [])) (if b then restored m o else o)
  reads_by true pre o m others rise so = one_read pre o m others rise so
  reads_by false pre o m others rise so = subst (λ (l : List ℕ). Reads l o) (sym (append-nil pre)) so

  reads_all : (pre : List ℕ) (o : ShardOpening) (ms : List Mutation) → Rise 0 (pre ++ numbers_of n ms) → Reads pre o → Reads (pre ++ numbers_of n ms) (fold (step n) o ms)
  reads_all pre o [] rise so = subst (λ (l : List ℕ). Reads l o) (sym (append-nil pre)) so
  reads_all pre o (m ∷ ms) rise so =
      let joined = append_assoc pre (if m.shard == n then m.number ∷ [] else []) (numbers_of n ms) in
      subst (λ (l : List ℕ). Reads l (fold (step n) (step n o m) ms)) joined
      (reads_all (pre ++ (if m.shard == n then m.number ∷ [] else [])) (step n o m) ms (subst (Rise 0) (sym joined) rise)
      (reads_by (m.shard == n) pre o m (numbers_of n ms) rise so))

  pub found_reads : (ms : List Mutation) → Rise 0 (numbers_of n ms) → Reads (numbers_of n ms) (found_in n ms)
  found_reads ms rise = reads_all [] empty_shard ms rise none_read

-- ---- mutations of a log

module _ (n : ℕ) where
  some_by : (b : Bool) (k : ℕ) (others : List ℕ) → 1 ≤ k → AllByRecursion (λ m. 1 ≤ m) others → AllByRecursion (λ m. 1 ≤ m) ((if b then k ∷ [] else []) ++ others)
  some_by true k others one some = (one, some)
  some_by false k others one some = some

  numbers_some : (tables : List TableSchema) (shards : ℕ) (ms : List Mutation) → AllByRecursion (FitsRecord tables shards) ms → AllByRecursion (λ m. 1 ≤ m) (numbers_of n ms)
  numbers_some tables shards [] fit = tt
  numbers_some tables shards (m ∷ ms) fit = some_by (m.shard == n) m.number (numbers_of n ms) fit.0.fits.number.0 (numbers_some tables shards ms fit.1)

all_rise : (ns : List ℕ) → AllByRecursion (λ m. 1 ≤ m) ns → AscendByOne ns → Rise 0 ns
all_rise [] some ascend = tt
all_rise (m ∷ ms) some ascend = by_one_rise 0 m ms (omega (arith, some.0)) ascend

pub log_given : (tables : List TableSchema) (shards : ℕ) (ms : List Mutation) → AreOfALog tables shards ms → MayBeGiven tables shards ms
log_given tables shards ms log = record { fit = log.fit; rise = λ n. all_rise (numbers_of n ms) (numbers_some n tables shards ms log.fit) (log.ordered n) }

-- so may be those of them that some test lets through
module _ (p : Mutation → Bool) (n : ℕ) where
  rise_by : (b c : Bool) (k m : ℕ) (some all : List ℕ) → ((j : ℕ) → Rise j all → Rise j some) → Rise k ((if c then m ∷ [] else []) ++ all)
      → Rise k ((if b then (if c then m ∷ [] else []) else []) ++ some)
  rise_by true true k m some all goes rise = (rise.0, goes m rise.1)
  rise_by true false k m some all goes rise = goes k rise
  rise_by false true k m some all goes rise = goes k (from_lower k m all (omega (arith, rise.0)) rise.1)
  rise_by false false k m some all goes rise = goes k rise

  numbers_if : (b : Bool) (m : Mutation) (ms : List Mutation)
      → numbers_of n (if b then m ∷ ms else ms) ≡ (if b then (if m.shard == n then m.number ∷ [] else []) else []) ++ numbers_of n ms
  numbers_if true m ms = refl
  numbers_if false m ms = refl

  rest_rises : (ms : List Mutation) (k : ℕ) → Rise k (numbers_of n ms) → Rise k (numbers_of n (filter p ms))
  rest_rises [] k rise = tt
  rest_rises (m ∷ ms) k rise =
      subst (Rise k) (sym (numbers_if (p m) m (filter p ms)))
      (rise_by (p m) (m.shard == n) k m.number (numbers_of n (filter p ms)) (numbers_of n ms) (rest_rises ms) rise)

pub some_given : (p : Mutation → Bool) (tables : List TableSchema) (shards : ℕ) (ms : List Mutation) → MayBeGiven tables shards ms → MayBeGiven tables shards (filter p ms)
some_given p tables shards ms given = record {
  fit = all_filtered (FitsRecord tables shards) p ms given.fit;
  rise = λ n. rest_rises p n ms 0 (given.rise n);
}

pub given_reads : (tables : List TableSchema) (shards n : ℕ) (ms : List Mutation) → MayBeGiven tables shards ms → Reads (numbers_of n ms) (found_in n ms)
given_reads tables shards n ms given = found_reads n ms (given.rise n)
