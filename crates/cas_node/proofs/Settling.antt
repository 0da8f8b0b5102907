-- What comes of the flush behind a statement, and of dropping segments behind that.
use Rattle.std.proofs.Common.{◌≡◌, ◌⊎◌, inl, inr, ℕ, Bool, true, false, Option, None, Result, Ok, Err, ap, ◌∙◌, subst, sym}
use Rattle.std.specs.Prelude.{◌||◌}
use Rattle.cas_types.specs.declared.schema.TableSchema.{TableSchema}
use Rattle.cas_bind.specs.declared.bound.Bound.{Bound}
use Rattle.cas_bind.specs.declared.bound.Bound.TheVariants as bound
use Rattle.cas_effects.specs.declared.effect.BoundWrite.{BoundWrite}
use Rattle.cas_effects.specs.declared.refusal.Refusal.{Refusal}
use Rattle.cas_render.specs.declared.reply.Reply.{Reply}
use Rattle.cas_render.specs.declared.reply.Reply.TheVariants as reply
use Rattle.cas_sessions.specs.declared.answer.Fault.{Fault}
use Rattle.cas_sessions.specs.declared.answer.Fault.TheVariants as fault
use Rattle.cas_sessions.specs.Dropping.{DropsSegments}
use Rattle.cas_sessions.specs.Filling.{FlushesIf, FlushesIn, Settles, is_full}
use Rattle.cas_lasting.specs.History.{History}
use Rattle.cas_node.specs.Lines.{DropsBehind, LeavesRoom, SettlesBehind, is_want, lists_one}

-- nothing came of it, or a flush of one shard
pub either : (h : History) (n table : ℕ) (r : Result (Option ℕ) Fault) (after : History) → Settles h n table r after
    → (after ≡ h) ⊎ ((t : TableSchema) × FlushesIn h t n r after)
either h n table r after so = by (is_full h n table) r so
  where
    by : (b : Bool) (r : Result (Option ℕ) Fault) → FlushesIf b h n table r after → (after ≡ h) ⊎ ((t : TableSchema) × FlushesIn h t n r after)
    by false r so = inl so.1
    by true (Ok told) so = inr (so.0, so.3)
    by true (Err (fault.Stopped first)) so = inl so.1
    by true (Err (fault.Refused why)) so = inr (so.0, so.3)
    by true (Err (fault.Disk number)) so = inr (so.0, so.3)
    by true (Err fault.Read) so = inr (so.0, so.3)
    by true (Err (fault.BadBlock number at)) so = inr (so.0, so.3)
    by true (Err fault.Mem) so = inr (so.0, so.3)

-- what holds up to there and goes on through dropping segments holds behind a flush
module _ (P : History → History → Type 0) (dropped : (h k after : History) (r : Result ℕ Fault) → P h k → DropsSegments k r after → P h after) where
  pub then_dropped : (listed want : Bool) (h k after : History) → P h k → DropsBehind listed want k after → P h after
  then_dropped false want h k after so drops = subst (P h) (sym drops.1) so
  then_dropped true want h k after so drops = dropped h k after drops.0 so drops.2

-- what holds where nothing changes, and of each such flush, and goes on through dropping segments, holds behind a statement
module _ (P : History → History → Type 0) (same : (h after : History) → after ≡ h → P h after)
    (flushed : (h after : History) (t : TableSchema) (n : ℕ) (r : Result (Option ℕ) Fault) → FlushesIn h t n r after → P h after)
    (dropped : (h k after : History) (r : Result ℕ Fault) → P h k → DropsSegments k r after → P h after) where
  pub settled : (h : History) (n table : ℕ) (r : Result (Option ℕ) Fault) (after : History) → Settles h n table r after → P h after
  settled h n table r after so = by (either h n table r after so)
    where
      by : (after ≡ h) ⊎ ((t : TableSchema) × FlushesIn h t n r after) → P h after
      by (inl is) = same h after is
      by (inr one) = flushed h after one.0 n r one.1

  written : (w : BoundWrite) (r : Reply) (want : Bool) (h after : History) → SettlesBehind (Ok (bound.Write w)) r want h after → P h after
  written w (reply.Wrote number) want h after so = then_dropped P dropped (lists_one so.0) so.2 h so.1 after (settled h w.shard w.table so.0 so.1 so.4) so.5
  written w reply.Done want h after so = same h after so.1
  written w (reply.Rows rows shard front now) want h after so = same h after so.1
  written w (reply.Flushed files) want h after so = same h after so.1
  written w (reply.Verified files) want h after so = same h after so.1
  written w (reply.Status tables) want h after so = same h after so.1
  written w (reply.Refused why) want h after so = same h after so.1
  written w (reply.Failed f) want h after so = same h after so.1

  pub behind : (b : Result Bound Refusal) (r : Reply) (want : Bool) (h after : History) → SettlesBehind b r want h after → P h after
  behind (Err x) r want h after so = same h after so.1
  behind (Ok (bound.Create t)) r want h after so = same h after so.1
  behind (Ok (bound.Alter a)) r want h after so = same h after so.1
  behind (Ok (bound.Write w)) r want h after so = written w r want h after so
  behind (Ok (bound.Read q)) r want h after so = same h after so.1

-- ---- where there is room

-- nothing comes of a memtable that isn't full
pub not_full : (h : History) (n table : ℕ) (r : Result (Option ℕ) Fault) (after : History) → is_full h n table ≡ false → Settles h n table r after → (r ≡ Ok None) × (after ≡ h)
not_full h n table r after room so = subst (λ b. FlushesIf b h n table r after) room so

room_written : (w : BoundWrite) (r : Reply) (want : Bool) (h after : History) → LeavesRoom (Ok (bound.Write w)) r h → SettlesBehind (Ok (bound.Write w)) r want h after
    → (want ≡ false) × (after ≡ h)
room_written w (reply.Wrote number) want h after room so =
    let (told, mid, starved, is, settles, drops) = so in
    let none = not_full h w.shard w.table told mid room settles in
    let quiet : DropsBehind false starved mid after = subst (λ (r : Result (Option ℕ) Fault). DropsBehind (lists_one r) starved mid after) none.0 drops in
    (is ∙ ap (λ (r : Result (Option ℕ) Fault). is_want r || starved) none.0 ∙ quiet.0, quiet.1 ∙ none.1)
room_written w reply.Done want h after room so = so
room_written w (reply.Rows rows shard front now) want h after room so = so
room_written w (reply.Flushed files) want h after room so = so
room_written w (reply.Verified files) want h after room so = so
room_written w (reply.Status tables) want h after room so = so
room_written w (reply.Refused why) want h after room so = so
room_written w (reply.Failed f) want h after room so = so

pub room_behind : (b : Result Bound Refusal) (r : Reply) (want : Bool) (h after : History) → LeavesRoom b r h → SettlesBehind b r want h after → (want ≡ false) × (after ≡ h)
room_behind (Err x) r want h after room so = so
room_behind (Ok (bound.Create t)) r want h after room so = so
room_behind (Ok (bound.Alter a)) r want h after room so = so
room_behind (Ok (bound.Write w)) r want h after room so = room_written w r want h after room so
room_behind (Ok (bound.Read q)) r want h after room so = so
