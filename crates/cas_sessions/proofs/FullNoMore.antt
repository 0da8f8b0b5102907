-- Behind a flush that was tried a memtable isn't full any more.
use Rattle.std.proofs.Common.{◌≡◌, ℕ, Bool, true, false, Option, Result, Ok, Err, refl, ap, ◌∙◌, arith}
use Rattle.std.specs.Prelude.{◌==◌, ◌&&◌, if◌then◌else◌}
use Rattle.std.proofs.lemmas.Bool.{le-ltb}
use Rattle.cas_types.specs.declared.schema.TableSchema.{TableSchema}
use Rattle.cas_recovery.proofs.Places.{is_same}
use Rattle.cas_sessions.specs.declared.answer.Fault.{Fault}
use Rattle.cas_sessions.specs.declared.answer.Fault.TheVariants.{Refused, Stopped, Disk as Failed, Read, BadBlock, Mem}
use Rattle.cas_sessions.specs.Filling.{FlushesIf, FlushesIn, is_full}
use Rattle.cas_lasting.specs.Flushed.{filled_with}
use Rattle.cas_lasting.specs.History.{History}
use Rattle.cas_sessions.specs.Laws.{FullNoMore, WasTried}

new_is_empty : (table n : ℕ) (b : Bool) (before : ℕ → ℕ → ℕ) → b ≡ true → filled_with table n b before n table ≡ 0
new_is_empty table n b before begun =
    ap (λ (x : Bool). filled_with table n x before n table) begun ∙ ap (λ (x : Bool). if x && (table == table) then 0 else before n table) (is_same n)
    ∙ ap (λ (x : Bool). if x then 0 else before n table) (is_same table)

emptied : (h after : History) (t : TableSchema) (n table : ℕ) (r : Result (Option ℕ) Fault) → t.number ≡ table → (one : FlushesIn h t n r after) → one.begun ≡ true
    → is_full after n table ≡ false
emptied h after t n table r number one begun =
    let empty : filled_with t.number n one.begun h.filled n table ≡ 0 =
    ap (λ (k : ℕ). filled_with k n one.begun h.filled n table) number ∙ new_is_empty table n one.begun h.filled begun in
    ap (λ (x : History). is_full x n table) one.follows ∙ le-ltb h.limits.memtable (filled_with t.number n one.begun h.filled n table) (omega (arith, empty))

pub full_no_more : FullNoMore
full_no_more h n table r after so tried = by (is_full h n table) refl r so tried
  where
    by : (b : Bool) → is_full h n table ≡ b → (r : Result (Option ℕ) Fault) → FlushesIf b h n table r after → WasTried r → is_full after n table ≡ false
    by false none r so tried = ap (λ (x : History). is_full x n table) so.1 ∙ none
    by true full (Ok told) so tried = emptied h after so.0 n table (Ok told) so.2 so.3 so.3.begins
    by true full (Err (Refused why)) so tried = emptied h after so.0 n table (Err (Refused why)) so.2 so.3 so.3.begins
    by true full (Err (Stopped first)) so tried = absurd tried
    by true full (Err (Failed number)) so tried = emptied h after so.0 n table (Err (Failed number)) so.2 so.3 so.3.begins
    by true full (Err Read) so tried = emptied h after so.0 n table (Err Read) so.2 so.3 so.3.begins
    by true full (Err (BadBlock number at)) so tried = emptied h after so.0 n table (Err (BadBlock number at)) so.2 so.3 so.3.begins
    by true full (Err Mem) so tried = absurd tried
