-- A statement is carried out: it is performed, and then a memtable that is full is flushed, and segments are dropped behind that.
use Rattle.std.proofs.Common.{◌≡◌, ◌⊎◌, inl, inr, ◌<◌, ◌≤◌, ℕ, ℤ, Bool, false, length, Option, None, Some, Result, Ok, Err, refl, sym, ap, ◌∙◌, subst, arith}
use Rattle.std.proofs.lemmas.Bool.{ltb-false}
use Rattle.std.specs.Prelude.{◌||◌, IfOk, IfSome}
use Rattle.cas_disk.specs.Disk.{Disk}
use Rattle.cas_bind.specs.Meaning.{meaning}
use Rattle.cas_bind.specs.declared.bound.Bound.{Bound}
use Rattle.cas_bind.specs.declared.bound.Bound.TheVariants as bound
use Rattle.cas_effects.specs.declared.effect.BoundWrite.{BoundWrite}
use Rattle.cas_effects.specs.declared.refusal.Refusal.{Refusal}
use Rattle.cas_render.specs.declared.reply.Failure.TheVariants as failure
use Rattle.cas_render.specs.declared.reply.Reply.{Reply}
use Rattle.cas_render.specs.declared.reply.Reply.TheVariants as reply
use Rattle.cas_words.specs.declared.words.ClockKind.{ClockKind}
use Rattle.cql_parse.specs.declared.syntax.Statement.{Statement}
use Rattle.cas_sessions.specs.declared.answer.Answer.{Answer}
use Rattle.cas_sessions.specs.declared.answer.Answer.TheVariants.{Done, Wrote, Rows}
use Rattle.cas_sessions.specs.declared.answer.Fault.{Fault}
use Rattle.cas_sessions.specs.declared.answer.Fault.TheVariants as fault
use Rattle.cas_sessions.specs.Calls.{IsTrueOf, TellsPlace, reply_of}
use Rattle.cas_sessions.specs.Filling.{FlushesIf, Settles, is_full}
use Rattle.cas_lasting.specs.History.{Does, History}
use Rattle.cas_lasting.specs.Listing.{KeepsListing}
use Rattle.cas_lasting.specs.Nodes.{GoesOnTo, Moves, OrWant, State, StandsFor, filled_of}
use Rattle.cas_sessions.proofs.FlushFull.{as_full}
use Rattle.cas_lasting.proofs.Listing.{listing_twice, lists_nothing}
use Rattle.cas_node.specs.Inner.Serving.{HasRoomFor, Knows, ListsIf, MovesIf, PerformsRoomily, PerformsSo, SettledFor, place_of}
use Rattle.cas_node.specs.Lines.{DropsBehind, LeavesRoom, SettlesAndDrops, SettlesBehind, Tells, is_want, lists_one}
use Rattle.cas_node.proofs.SessionLemmas.{on_from}

-- ---- the memtable that was written to

module _ (s t : State) (d e : Disk) (n table : ℕ) (r : Result (Option ℕ) Fault) (low : n < length s.shards)
    (idle : filled_of s n table ≤ s.limits.memtable → (r ≡ Ok None) × (t ≡ s) × (e ≡ d)) where
  small : (h : History) → StandsFor h s → is_full h n table ≡ false → filled_of s n table ≤ s.limits.memtable
  small h stands room =
      let few = ltb-false h.limits.memtable (h.filled n table) room in
      let bytes : h.filled n table ≡ filled_of s n table = as_full h s n table low stands in
      let limit : h.limits.memtable ≡ s.limits.memtable = ap (λ l. l.memtable) stands.limits in
      omega (arith, few, bytes, limit)

  flushed : (Knows s d → Moves (λ h after. Settles h n table r after) s t d e)
      → MovesIf (λ h. Knows s d ⊎ (is_full h n table ≡ false)) (λ h after. Settles h n table r after) s t d e
  flushed moves h stands (inl known) = moves known h stands
  flushed moves h stands (inr room) =
      let (none, still, quiet) = idle (small h stands room) in (
        h,
        subst (λ (b : Bool). FlushesIf b h n table r h) (sym room) (none, refl),
        subst (λ (u : State). GoesOnTo h h s u d e) (sym still)
            (subst (λ (f : Disk). GoesOnTo h h s s d f) (sym quiet) (record { stands = stands; lasts = λ found told lasts. (told, lasts, λ openings explained. explained) })),
      )

  module _ (u : State) (f : Disk) (listed starved : Bool) (same : listed ≡ lists_one r) where
    pub settles : (want : Bool) → want ≡ is_want r || starved → (Knows s d → Moves (λ h after. Settles h n table r after) s t d e)
        → Moves (λ h after. DropsBehind listed starved h after) t u e f
        → MovesIf (λ h. Knows s d ⊎ (is_full h n table ≡ false)) (λ h after. SettlesAndDrops n table want h after) s u d f
    settles want is moves drops h stands known =
        let (mid, settled, one) = flushed moves h stands known in
        let (after, dropped, two) = drops mid one.stands in
        (after, (r, mid, starved, is, settled, subst (λ b. DropsBehind b starved mid after) same dropped), on_from h mid after s t u d e f one two)

    pub settles_listing : (listed ≡ false → f ≡ e) → ListsIf (λ h. is_full h n table ≡ false) s d f
    settles_listing kept h found told stands lasts room =
        let (none, still, quiet) = idle (small h stands room) in
        subst (λ (k : Disk). KeepsListing s d k) (sym (kept (same ∙ ap lists_one none) ∙ quiet)) (lists_nothing s d) h found told stands lasts

-- the same, where it is looked at by its place
pub settled_at : (place : Option (ℕ × ℕ)) (table shard : ℕ) (want : Bool) (s t : State) (d e : Disk) → place ≡ Some (table, shard)
    → MovesIf (λ h. Knows s d ⊎ (is_full h shard table ≡ false)) (λ h after. SettlesAndDrops shard table want h after) s t d e
    → MovesIf (λ h. Knows s d ⊎ HasRoomFor place h) (λ h after. SettledFor place want h after) s t d e
settled_at place table shard want s t d e is moves =
    subst (λ o. MovesIf (λ h. Knows s d ⊎ HasRoomFor o h) (λ h after. SettledFor o want h after) s t d e) (sym is) moves

-- ---- the answer

-- where a mutation was accepted its table and its shard are there
pub place_there : (r : Result Answer Fault) (s t : State) → IsTrueOf r s t → IfSome (place_of r) (λ p. (p.0 < length t.tables) × (p.1 < t.limits.shards))
place_there (Ok Done) s t true_of = tt
place_there (Ok (Wrote number table shard)) s t true_of = (true_of.0, true_of.1)
place_there (Ok (Rows rows shard front now)) s t true_of = tt
place_there (Err f) s t true_of = tt

want_places_none : (r : Result Answer Fault) → reply_of r ≡ reply.Failed failure.Memory → place_of r ≡ None
want_places_none (Ok Done) is = refl
want_places_none (Ok (Wrote number table shard)) is = absurd cc
want_places_none (Ok (Rows rows shard front now)) is = refl
want_places_none (Err f) is = refl

room_for : (b : Result Bound Refusal) (r : Result Answer Fault) (h : History) → IfOk r (λ a. TellsPlace a b) → LeavesRoom b (reply_of r) h → HasRoomFor (place_of r) h
room_for b (Ok Done) h place room = tt
room_for b (Ok (Rows rows shard front now)) h place room = tt
room_for b (Err f) h place room = tt
room_for (Err x) (Ok (Wrote number table shard)) h place room = absurd place
room_for (Ok (bound.Create t)) (Ok (Wrote number table shard)) h place room = absurd place
room_for (Ok (bound.Alter a)) (Ok (Wrote number table shard)) h place room = absurd place
room_for (Ok (bound.Read q)) (Ok (Wrote number table shard)) h place room = absurd place
room_for (Ok (bound.Write w)) (Ok (Wrote number table shard)) h place room = (λ i. is_full h (place.1 i) (place.0 i)) ∙ room

-- no mutation was accepted
abbrev IsOther : Reply → Type 0
IsOther (reply.Wrote number) = ⊥
IsOther r = Unit {0}

other_than_write : (w : BoundWrite) (r : Reply) (want : Bool) (h after : History) → IsOther r → (want ≡ false) × (after ≡ h) → SettlesBehind (Ok (bound.Write w)) r want h after
other_than_write w (reply.Wrote number) want h after other so = absurd other
other_than_write w reply.Done want h after other so = so
other_than_write w (reply.Rows rows shard front now) want h after other so = so
other_than_write w (reply.Flushed files) want h after other so = so
other_than_write w (reply.Verified files) want h after other so = so
other_than_write w (reply.Status tables) want h after other so = so
other_than_write w (reply.Refused why) want h after other so = so
other_than_write w (reply.Failed f) want h after other so = so

calm_behind : (b : Result Bound Refusal) (r : Reply) (want : Bool) (h after : History) → IsOther r → (want ≡ false) × (after ≡ h) → SettlesBehind b r want h after
calm_behind (Err x) r want h after other so = so
calm_behind (Ok (bound.Create t)) r want h after other so = so
calm_behind (Ok (bound.Alter a)) r want h after other so = so
calm_behind (Ok (bound.Write w)) r want h after other so = other_than_write w r want h after other so
calm_behind (Ok (bound.Read q)) r want h after other so = so

settles_behind : (b : Result Bound Refusal) (r : Result Answer Fault) (want : Bool) (h after : History) → IfOk r (λ a. TellsPlace a b) → SettledFor (place_of r) want h after
    → SettlesBehind b (reply_of r) want h after
settles_behind b (Ok Done) want h after place so = calm_behind b reply.Done want h after tt so
settles_behind b (Ok (Rows rows shard front now)) want h after place so = calm_behind b (reply.Rows rows shard front now) want h after tt so
settles_behind b (Err (fault.Refused why)) want h after place so = calm_behind b (reply.Refused why) want h after tt so
settles_behind b (Err (fault.Stopped first)) want h after place so = calm_behind b (reply.Failed failure.Stopped) want h after tt so
settles_behind b (Err (fault.Disk number)) want h after place so = calm_behind b (reply.Failed failure.Disk) want h after tt so
settles_behind b (Err fault.Read) want h after place so = calm_behind b (reply.Failed failure.Read) want h after tt so
settles_behind b (Err (fault.BadBlock number at)) want h after place so = calm_behind b (reply.Failed (failure.Block number at)) want h after tt so
settles_behind b (Err fault.Mem) want h after place so = calm_behind b (reply.Failed failure.Memory) want h after tt so
settles_behind (Err x) (Ok (Wrote number table shard)) want h after place so = absurd place
settles_behind (Ok (bound.Create t)) (Ok (Wrote number table shard)) want h after place so = absurd place
settles_behind (Ok (bound.Alter a)) (Ok (Wrote number table shard)) want h after place so = absurd place
settles_behind (Ok (bound.Read q)) (Ok (Wrote number table shard)) want h after place so = absurd place
settles_behind (Ok (bound.Write w)) (Ok (Wrote number table shard)) want h after place so =
    subst (λ (k : ℕ). SettlesAndDrops w.shard k want h after) place.0 (subst (λ (k : ℕ). SettlesAndDrops k table want h after) place.1 so)

-- ---- both, one after the other

module _ (kind : ClockKind) (Gives : ℤ → Type 0) (x : Statement) (s m : State) (d e : Disk) (r : Result Answer Fault) (want : Bool)
    (does : Moves (λ h after. OrWant (reply_of r) (λ h after. Does kind Gives h (meaning s.limits.shards s.tables x) (reply_of r) after) h after) s m d e)
    (place : IfOk r (λ a. TellsPlace a (meaning s.limits.shards s.tables x))) where
  abbrev means : History → Result Bound Refusal
  means h = meaning h.limits.shards h.tables x

  same_meaning : (h : History) → StandsFor h s → meaning s.limits.shards s.tables x ≡ means h
  same_meaning h stands = λ i. meaning (sym stands.limits i).shards (sym stands.tables i) x

  -- what is known goes on being known
  knows_on : (Tells d → Tells e) → Knows s d → Knows m e
  knows_on tells (told, (j, found, was, stands, lasts)) =
      let (k, so, goes) = does j stands in
      let (later, still, explains) = goes.lasts found was lasts in
      (tells told, (k, found, later, goes.stands, still))

  carried : (t : State) (f : Disk) → (Tells d → Tells e) → MovesIf (λ h. Knows m e ⊎ HasRoomFor (place_of r) h) (λ h after. SettledFor (place_of r) want h after) m t e f
      → MovesIf (λ h. Knows s d ⊎ PerformsRoomily kind Gives x h) (λ h after. PerformsSo kind Gives x (record { reply = Some (reply_of r); want = want }) h after) s t d f
  carried t f tells settled h stands known =
      let (between, answered, one) = does h stands in by between one answered
    where
      by : (between : History) → GoesOnTo h between s m d e
          → OrWant (reply_of r) (λ h after. Does kind Gives h (meaning s.limits.shards s.tables x) (reply_of r) after) h between
          → (after : History) × PerformsSo kind Gives x (record { reply = Some (reply_of r); want = want }) h after × GoesOnTo h after s t d f
      by between one (inl (is, same)) =
          let none : place_of r ≡ None = want_places_none r is in
          let (after, so, two) = settled between one.stands (inr (subst (λ o. HasRoomFor o between) (sym none) tt)) in
          let (quiet, left) = subst (λ o. SettledFor o want between after) none so in
          (after, inl ((λ i. record { reply = Some (is i); want = quiet i }), left ∙ same), on_from h between after s m t d e f one two)
      by between one (inr performed) =
          let b : Result Bound Refusal = meaning s.limits.shards s.tables x in
          let own : Does kind Gives h (means h) (reply_of r) between = subst (λ c. Does kind Gives h c (reply_of r) between) (same_meaning h stands) performed in
          let its_place : IfOk r (λ a. TellsPlace a (means h)) = subst (λ c. IfOk r (λ a. TellsPlace a c)) (same_meaning h stands) place in
          let (after, so, two) = settled between one.stands (so_known between own its_place known) in
          (after, inr (reply_of r, between, refl, own, settles_behind (means h) r want between after its_place so), on_from h between after s m t d e f one two)
        where
          so_known : (between : History) → Does kind Gives h (means h) (reply_of r) between → IfOk r (λ a. TellsPlace a (means h)) → Knows s d ⊎ PerformsRoomily kind Gives x h
              → Knows m e ⊎ HasRoomFor (place_of r) between
          so_known between own its_place (inl knows) = inl (knows_on tells knows)
          so_known between own its_place (inr roomy) = inr (room_for (means h) r between its_place (roomy (reply_of r) between own))

  -- the same, where reply and place are called otherwise
  pub carried_out : (t : State) (f : Disk) (q : Reply) (p : Option (ℕ × ℕ)) → q ≡ reply_of r → p ≡ place_of r → (Tells d → Tells e)
      → MovesIf (λ h. Knows m e ⊎ HasRoomFor p h) (λ h after. SettledFor p want h after) m t e f
      → MovesIf (λ h. Knows s d ⊎ PerformsRoomily kind Gives x h) (λ h after. PerformsSo kind Gives x (record { reply = Some q; want = want }) h after) s t d f
  carried_out t f q p is_reply is_place tells settled h stands known =
      let (after, so, goes) = carried t f tells
      (subst (λ o. MovesIf (λ h. Knows m e ⊎ HasRoomFor o h) (λ h after. SettledFor o want h after) m t e f) is_place settled) h stands known in
      (after, subst (λ k. PerformsSo kind Gives x (record { reply = Some k; want = want }) h after) (sym is_reply) so, goes)

  -- of the files
  pub carried_listing : (f : Disk) (p : Option (ℕ × ℕ)) → p ≡ place_of r → KeepsListing s d e → ListsIf (HasRoomFor p) m e f → ListsIf (PerformsRoomily kind Gives x) s d f
  carried_listing f p is_place first second h found told stands lasts roomy =
      let (between, answered, one) = does h stands in
      let (later, still, explains) = one.lasts found told lasts in
      listing_twice d e f (first h found told stands lasts)
      (second between found later one.stands still (subst (λ o. HasRoomFor o between) (sym is_place) (room between answered)))
    where
      room : (between : History) → OrWant (reply_of r) (λ h after. Does kind Gives h (meaning s.limits.shards s.tables x) (reply_of r) after) h between → HasRoomFor (place_of r) between
      room between (inl (is, same)) = subst (λ o. HasRoomFor o between) (sym (want_places_none r is)) tt
      room between (inr performed) =
          room_for (means h) r between (subst (λ c. IfOk r (λ a. TellsPlace a c)) (same_meaning h stands) place)
          (roomy (reply_of r) between (subst (λ c. Does kind Gives h c (reply_of r) between) (same_meaning h stands) performed))
