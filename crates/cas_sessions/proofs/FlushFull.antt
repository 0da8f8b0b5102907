-- A flush of one shard, where its memtable is full.
use Rattle.std.proofs.Common.{◌≡◌, ◌<◌, ◌≤◌, ◌+◌, ℕ, true, false, List, length, Option, None, Some, Result, Ok, Err, is_some, refl, sym, ap, ◌∙◌, subst, arith}
use Rattle.std.specs.Prelude.{slice_get, IfOk, IfErr, IfSome}
use Rattle.std.proofs.lemmas.Bool.{le-ltb, lt-ltb}
use Rattle.cas_types.specs.declared.schema.TableSchema.{TableSchema}
use Rattle.cas_disk.specs.Disk.{Disk, Image, Leaves}
use Rattle.cas_gates.specs.declared.first.First.{First}
use Rattle.cas_changes.specs.declared.entry.Change.{Change}
use Rattle.cas_sessions.specs.declared.answer.Fault.{Fault}
use Rattle.cas_sessions.specs.declared.answer.Fault.TheVariants.{Refused, Stopped, Disk as Failed, Read, BadBlock, Mem}
use Rattle.cas_sessions.specs.Calls.{IsTrueOf}
use Rattle.cas_lasting.specs.Entered.{IsLeftAmid}
use Rattle.cas_sessions.specs.Filling.{EndsIn, FlushesFull, FlushesIf, FlushesIn, Settles, is_full, listed_of}
use Rattle.cas_lasting.specs.Flushed.{filled_with, rest_with, AscendTo, SaySomething, changes_by, numbers_in}
use Rattle.cas_lasting.specs.History.{DiskState, History, shard_at}
use Rattle.cas_lasting.specs.Nodes.{GoesOnTo, KeepsAll, LastsForOne, Moves, State, StandsFor, disk_of, filled_of}
use Rattle.cas_sessions.specs.Inner.Flushing.{FlushesOne, IsOwn}
use Rattle.cas_lasting.proofs.Filled.{filled_are}
use Rattle.cas_sessions.proofs.FlushAll.{true_of_flush, went_to}
use Rattle.cas_lasting.proofs.Parts.{there_at}

-- the bytes that the history tells are those of the memtable
pub as_full : (h : History) (s : State) (n table : ℕ) → n < length s.shards → StandsFor h s → h.filled n table ≡ filled_of s n table
as_full h s n table low stands =
    let (x, at) = there_at s.shards n low in
    sym (stands.filled n table x at) ∙ filled_are s n table x at

pub full_is : (h : History) (s : State) (n table : ℕ) → n < length s.shards → StandsFor h s → s.limits.memtable < filled_of s n table → is_full h n table ≡ true
full_is h s n table low stands more =
    let bytes : h.filled n table ≡ filled_of s n table = as_full h s n table low stands in
    let limit : h.limits.memtable ≡ s.limits.memtable = ap (λ l. l.memtable) stands.limits in
    lt-ltb h.limits.memtable (h.filled n table) (omega (arith, more, bytes, limit))

pub not_full_is : (h : History) (s : State) (n table : ℕ) → n < length s.shards → StandsFor h s → filled_of s n table ≤ s.limits.memtable → is_full h n table ≡ false
not_full_is h s n table low stands few =
    let bytes : h.filled n table ≡ filled_of s n table = as_full h s n table low stands in
    let limit : h.limits.memtable ≡ s.limits.memtable = ap (λ l. l.memtable) stands.limits in
    le-ltb h.limits.memtable (h.filled n table) (omega (arith, few, bytes, limit))

-- ---- nothing is done

nowhere : (h : History) (s : State) (d : Disk) → StandsFor h s → GoesOnTo h h s s d d
nowhere h s d stands = record { stands = stands; lasts = λ found told lasts. (told, lasts, λ openings explained. explained) }

-- it isn't full
pub settles_idle : (s : State) (d : Disk) (n table : ℕ) → n < length s.shards → filled_of s n table ≤ s.limits.memtable → Moves (λ h after. Settles h n table (Ok None) after) s s d d
settles_idle s d n table low few h stands =
    (h, subst (λ b. FlushesIf b h n table (Ok None) h) (sym (not_full_is h s n table low stands few)) (refl, refl), nowhere h s d stands)

-- an earlier fault stopped the store
pub settles_stopped : (s : State) (d : Disk) (n table : ℕ) (first : First) → n < length s.shards → s.limits.memtable < filled_of s n table → s.journal.first ≡ Some first
    → Moves (λ h after. Settles h n table (Err (Stopped first)) after) s s d d
settles_stopped s d n table first low more is h stands = (
  h,
  subst (λ b. FlushesIf b h n table (Err (Stopped first)) h) (sym (full_is h s n table low stands more)) (ap (λ (x : DiskState). x.stopped) stands.disk ∙ ap is_some is, refl),
  nowhere h s d stands,
)

-- ---- it is flushed

where_own : {T : Type 0} (r : Result T Fault) {A : Type 0} → A → IfErr r (λ f. A)
where_own (Ok x) a = tt
where_own (Err f) a = a

if_said : (c : Option Change) (s : State) (n table : ℕ) (h : History) → IfSome c (λ x. (h : History) → StandsFor h s → SaySomething (h.unflushed n table)) → StandsFor h s
    → IfSome c (λ x. SaySomething (h.unflushed n table))
if_said None s n table h says stands = tt
if_said (Some c) s n table h says stands = says h stands

-- not for an earlier fault
fully : (h : History) (n table : ℕ) (r : Result (Option ℕ) Fault) (after : History) → IfErr r IsOwn
    → (t : TableSchema) × (slice_get h.tables table ≡ Some t) × (t.number ≡ table) × FlushesIn h t n r after → FlushesFull h n table r after
fully h n table (Ok told) after own is = is
fully h n table (Err (Refused why)) after own is = is
fully h n table (Err (Stopped first)) after own is = absurd own
fully h n table (Err (Failed number)) after own is = is
fully h n table (Err Read) after own is = is
fully h n table (Err (BadBlock number at)) after own is = is
fully h n table (Err Mem) after own is = is

module _ (t : TableSchema) (n table : ℕ) (r : Result (Option ℕ) Fault) (s u : State) (d e : Disk) (one : FlushesOne t n r s u d e) (at_t : slice_get s.tables table ≡ Some t) (number : t.number ≡ table)
    (going : s.journal.first ≡ None) (low : n < length s.shards) (more : s.limits.memtable < filled_of s n table) where
  pub settles_full : (c : Image) → d.reads c → LastsForOne s d → Moves (λ h after. Settles h n table r after) s u d e
  settles_full c reads lasts h stands =
      let (now, (ends, none)) = one.moves c reads (where_own r lasts) h stands in
      let after : History = record h {
        unflushed = rest_with t.number n one.change h.unflushed;
        filled = filled_with t.number n one.begun h.filled;
        changes = changes_by h.changes one.change;
        trimmed = false;
        disk = disk_of u;
      } in
      let began : h.disk ≡ disk_of s = stands.disk in
      let flushes : FlushesIn h t n r after = record {
        change = one.change;
        disk = disk_of u;
        begun = one.begun;
        going = ap (λ (x : DiskState). x.stopped) began ∙ ap is_some going;
        ends = subst (λ (x : DiskState). EndsIn t n (shard_at h n) (h.unflushed n t.number) one.change r x (disk_of u)) (sym began) ends;
        tells = one.answer;
        some = if_said one.change s n t.number h one.some stands;
        none = none;
        begins = one.begins;
        numbers = subst (λ (x : DiskState). AscendTo x.last_file (numbers_in one.change) u.last_file) (sym began) one.numbered;
        last_file = omega (arith, one.numbers, ap (λ (x : DiskState). x.last_file) began);
        drawn = subst (λ (x : DiskState). IfOk r (λ told. u.last_file ≡ x.last_file + length (listed_of told))) (sym began) one.drawn;
        faults = omega (arith, one.beside.faults, ap (λ (x : DiskState). x.faults) began);
        reads = omega (arith, one.beside.reads, ap (λ (x : DiskState). x.reads) began);
        follows = refl;
      } in (
        after,
        subst (λ b. FlushesIf b h n table r after) (sym (full_is h s n table low stands more))
            (fully h n table r after one.own (t, ap (λ (ts : List TableSchema). slice_get ts table) stands.tables ∙ at_t, number, flushes)),
        went_to h (rest_with t.number n one.change h.unflushed) (filled_with t.number n one.begun h.filled) (changes_by h.changes one.change) s u d e (c, reads) stands now
            (one.fills h.filled stands.filled) (λ found was lasts. one.lasts h found was stands.tables lasts),
      )

pub full_keeps : (t : TableSchema) (n : ℕ) (r : Result (Option ℕ) Fault) (s u : State) (d e : Disk) → FlushesOne t n r s u d e → KeepsAll s u d e
full_keeps t n r s u d e one h found told stands was =
    subst (λ l. Leaves (IsLeftAmid found l h) d e) (sym one.beside.list) (one.lasts h found told stands.tables was).1

-- what its fault tells
pub true_of_full : (r : Result (Option ℕ) Fault) (s u : State) → IfErr r IsOwn → u.list ≡ s.list → IfErr r (λ f. IsTrueOf (Err f) s u)
true_of_full (Ok told) s u own list = tt
true_of_full (Err f) s u own list = true_of_flush f s u own list
