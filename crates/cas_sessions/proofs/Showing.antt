-- What a SELECT is answered of which nothing is shown.
use Rattle.std.proofs.Common.{◌≡◌, ℕ, ℤ, List, length, Err, refl, sym, ap, ◌∙◌, subst}
use Rattle.std.specs.Prelude.{Result, IsErrOf}
use Rattle.cas_bind.specs.declared.bound.BoundRead.{BoundRead}
use Rattle.cas_io.specs.Causes.{Rose}
use Rattle.cas_blocks.specs.declared.fault.TableFault.{TableFault}
use Rattle.cas_blocks.specs.declared.fault.TableFault.TheVariants as table_fault
use Rattle.cas_sstread.specs.Loading.{Held}
use Rattle.cas_stored.specs.Reading.{IsWhyNotShown}
use Rattle.cas_view.specs.Views.{File}
use Rattle.cas_shard.specs.Shards.{ShardHistory}
use Rattle.cas_sessions.specs.declared.answer.Fault.{Fault}
use Rattle.cas_sessions.specs.Calls.{reply_of}
use Rattle.cas_lasting.specs.History.{Shows}
use Rattle.cas_sessions.specs.Inner.Faults.{fault_of_table}

not_want : table_fault.Read ≡ table_fault.Mem → ⊥
not_want e = cc

-- why the tally rose, by what was answered
pub rose_by : {T : Type 0} (r : Result T TableFault) (f : TableFault) (before now : ℕ) → r ≡ Err f → (IsErrOf r table_fault.Read → Rose before now) → f ≡ table_fault.Read
    → Rose before now
rose_by r f before now is rose e = rose (is ∙ ap Err e)

shows_why : (files : List (File Held)) (before now : ℕ) (s : ShardHistory) (reading : ℤ) (q : BoundRead) (fault : TableFault) → IsWhyNotShown files q.query.key q.query.slice fault
    → (fault ≡ table_fault.Read → Rose before now) → (length files ≡ 0 → fault ≡ table_fault.Mem) → Shows files before now s reading q (reply_of (Err (fault_of_table fault)))
shows_why files before now s reading q table_fault.Read why rose memory = (λ none. not_want (memory (ap length none)), rose refl)
shows_why files before now s reading q (table_fault.BadBlock n at) why rose memory = why
shows_why files before now s reading q table_fault.Mem why rose memory = tt

-- the same of the fault that it is answered as
pub shows_fault : (files : List (File Held)) (before now : ℕ) (s : ShardHistory) (reading : ℤ) (q : BoundRead) (fault : TableFault) (f : Fault) → f ≡ fault_of_table fault
    → IsWhyNotShown files q.query.key q.query.slice fault → (fault ≡ table_fault.Read → Rose before now) → (length files ≡ 0 → fault ≡ table_fault.Mem)
    → Shows files before now s reading q (reply_of (Err f))
shows_fault files before now s reading q fault f is why rose memory =
    subst (λ (g : Fault). Shows files before now s reading q (reply_of (Err g))) (sym is) (shows_why files before now s reading q fault why rose memory)
