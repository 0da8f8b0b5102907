-- What a line does with a store, from what its parts do.
use Rattle.std.proofs.Common.{◌≡◌, inl, inr, ℕ, ℤ, Bool, true, false, List, [], ◌∷◌, length, Result, Ok, Some, refl, sym, ap, subst, arith}
use Rattle.std.specs.Prelude.{◌⊎◌, ◌==◌, not}
use Rattle.std.proofs.lemmas.Bool.Decides.{nat_tests}
use Rattle.cas_types.specs.Limits.{IsMoment}
use Rattle.cas_disk.specs.Disk.{Disk}
use Rattle.cas_effects.specs.declared.refusal.TheConstants.{NOT_HERE}
use Rattle.cas_lines.specs.Lines.{Says}
use Rattle.cas_lines.specs.declared.line.Line.{Line}
use Rattle.cas_lines.specs.declared.line.Line.TheVariants as line
use Rattle.cas_lines.proofs.LineReading.{clock_is_moment}
use Rattle.cas_render.specs.declared.reply.Reply.{Reply}
use Rattle.cas_render.specs.declared.reply.Reply.TheVariants as reply
use Rattle.cas_render.specs.declared.reply.Verdict.{Verdict}
use Rattle.cas_words.specs.declared.words.ClockKind.{ClockKind}
use Rattle.cas_words.specs.declared.words.ClockKind.TheVariants as clock
use Rattle.cql_parse.specs.declared.syntax.Statement.{Statement}
use Rattle.cql_parse.specs.declared.syntax.TableName.{TableName}
use Rattle.cas_sessions.specs.declared.answer.Fault.{Fault}
use Rattle.cas_sessions.specs.Dropping.{DropsSegments}
use Rattle.cas_sessions.specs.Flushes.{Flushes}
use Rattle.cas_lasting.specs.History.{History, shard_at}
use Rattle.cas_lasting.specs.Status.{status}
use Rattle.cas_sessions.specs.Verifying.{Verifies}
use Rattle.cas_node.specs.declared.upshot.Upshot.{Upshot}
use Rattle.cas_node.specs.Inner.Serving.{Knows, ListsIf, MovesIf, PerformsRoomily, PerformsSo}
use Rattle.cas_node.specs.Lines.{Answers, DropsBehind, FlushesAndDrops, FlushesNone, SetsClock, is_want, lists_any, reply_of_flush, reply_of_verify, replied}
use Rattle.cas_node.proofs.SessionLemmas.{on_from}
use Rattle.cas_lasting.specs.Listing.{KeepsListing}
use Rattle.cas_lasting.specs.Nodes.{State, StandsFor, GoesOnTo, Moves, OrWant}
use Rattle.cas_lasting.proofs.Explaining.{explains_still, goes_nowhere, keep_files_none}
use Rattle.cas_sessions.proofs.Answering.{moves_as}

-- ---- a line

module _ (kind : ClockKind) (Gives : ℤ → Type 0) where
  pub answers_clock : (s t : State) (d e : Disk) (text : List ℕ) (l : Line) (n m : ℤ) (r : Reply)
      → Moves (λ h after. SetsClock kind h m r after) s t d e → m ≡ n → Says text l → l ≡ line.Clock n → Moves (λ h after. Answers kind Gives h text (replied (Some r)) after) s t d e
  answers_clock s t d e text l n m r moves same says is h stands =
      let (after, so, goes) = moves h stands in
      (after, inr (line.Clock n, subst (λ l. Says text l) is says, (r, refl, subst (λ k. SetsClock kind h k r after) same so)), goes)

-- ---- a flush

-- it listed a file where it answers a number
pub listed_any : (numbers : List ℕ) → not (length numbers == 0) ≡ lists_any (Ok numbers)
listed_any [] = refl
listed_any (n ∷ numbers) = let some : (length (n ∷ numbers) == 0) ≡ false = grind (arith, nat_tests) in ap not some

module _ (s t : State) (d e : Disk) (name : TableName) (told : Result (List ℕ) Fault) (flushes : Moves (λ h after. Flushes h name told after) s t d e) (o : Upshot)
    (is : o.reply ≡ Some (reply_of_flush told)) where
  -- segments may have been dropped behind it
  pub flushed_and_dropped : (u : State) (f : Disk) (listed : Bool) → listed ≡ lists_any told → Moves (λ h after. DropsBehind listed o.want h after) t u e f
      → Moves (λ h after. FlushesAndDrops h name o after) s u d f
  flushed_and_dropped u f listed same drops h stands =
      let (mid, flushed, one) = flushes h stands in
      let (after, dropped, two) = drops mid one.stands in
      (after, (told, mid, is, flushed, subst (λ b. DropsBehind b o.want mid after) same dropped), on_from h mid after s t u d e f one two)

  -- or nothing was listed
  pub flushed_alone : lists_any told ≡ false → o.want ≡ false → Moves (λ h after. FlushesAndDrops h name o after) s t d e
  flushed_alone none fed h stands =
      let (after, flushed, goes) = flushes h stands in
      (after, (told, after, is, flushed, subst (λ b. DropsBehind b o.want after after) (sym none) (fed, refl)), goes)

-- ---- dropping segments behind it

-- nothing is done where none was listed
pub drops_none : (s : State) (d : Disk) (listed : Bool) → listed ≡ false → Moves (λ h after. DropsBehind listed false h after) s s d d
drops_none s d listed is h stands = (
  h,
  subst (λ b. DropsBehind b false h h) (sym is) (refl, refl),
  record { stands = stands; lasts = λ found told lasts. (told, lasts, λ openings explained. explained) },
)

pub drops_some : (s t : State) (d e : Disk) (listed want : Bool) (r : Result ℕ Fault) → listed ≡ true → want ≡ is_want r → Moves (λ h after. DropsSegments h r after) s t d e
    → Moves (λ h after. DropsBehind listed want h after) s t d e
drops_some s t d e listed want r is fed moves =
    moves_as s t d e (λ h after. DropsSegments h r after) (λ h after. DropsBehind listed want h after) moves
    (λ h after stands so. subst (λ b. DropsBehind b want h after) (sym is) (r, fed, so))

-- ---- a line that flushes a table

-- it isn't one that doesn't
pub says_flush : (kind : ClockKind) (Gives : ℤ → Type 0) (h : History) (text : List ℕ) (l : Line) (name : TableName) → Says text l → l ≡ line.Flush name
    → FlushesNone kind Gives h text → ⊥
says_flush kind Gives h text l name says is none = none.0 name (subst (λ l. Says text l) is says)

module _ (kind : ClockKind) (Gives : ℤ → Type 0) where
  pub answers_flush : (s t : State) (d e : Disk) (text : List ℕ) (l : Line) (name : TableName) (o : Upshot)
      → (Knows s d → Moves (λ h after. FlushesAndDrops h name o after) s t d e) → Says text l → l ≡ line.Flush name
      → MovesIf (λ h. Knows s d ⊎ FlushesNone kind Gives h text) (λ h after. Answers kind Gives h text o after) s t d e
  answers_flush s t d e text l name o moves says is h stands (inl known) =
      let (after, so, goes) = moves known h stands in
      (after, inr (line.Flush name, subst (λ l. Says text l) is says, so), goes)
  answers_flush s t d e text l name o moves says is h stands (inr none) = absurd (says_flush kind Gives h text l name says is none)

-- what a check answers, and becomes of the store
abbrev pub Verified : TableName → Reply → History → History → Type 0
Verified name r h after = (told : Result (List Verdict) Fault) × (r ≡ reply_of_verify told) × Verifies h name told after

module _ (kind : ClockKind) (Gives : ℤ → Type 0) where
  pub answers_verify : (s t : State) (d e : Disk) (text : List ℕ) (l : Line) (name : TableName) (r : Reply) → Moves (λ h after. Verified name r h after) s t d e
      → Says text l → l ≡ line.Verify name → Moves (λ h after. Answers kind Gives h text (replied (Some r)) after) s t d e
  answers_verify s t d e text l name r moves says is =
      moves_as s t d e (Verified name r) (λ h after. Answers kind Gives h text (replied (Some r)) after) moves
      (λ h after stands so. inr (line.Verify name, subst (λ l. Says text l) is says, (so.0, ap (λ q. replied (Some q)) so.1, so.2)))

-- what `\status` answers; it changes nothing
abbrev pub Listed : Reply → History → History → Type 0
Listed r h after = (r ≡ reply.Status (status h)) × (after ≡ h)

module _ (kind : ClockKind) (Gives : ℤ → Type 0) where
  pub answers_status : (s : State) (d : Disk) (text : List ℕ) (l : Line) (r : Reply) → ((h : History) → StandsFor h s → OrWant r (Listed r) h h)
      → Says text l → l ≡ line.Status → Moves (λ h after. Answers kind Gives h text (replied (Some r)) after) s s d d
  answers_status s d text l r lists says is h stands =
      (h, answers (lists h stands), record { stands = stands; lasts = λ found told lasts. (told, lasts, λ openings explained. explained) })
    where
      answers : OrWant r (Listed r) h h → Answers kind Gives h text (replied (Some r)) h
      answers (inl want) = inl (ap (λ q. replied (Some q)) want.0, refl)
      answers (inr listed) = inr (line.Status, subst (λ l. Says text l) is says, (ap (λ q. replied (Some q)) listed.0, refl))

-- ---- a statement

-- a line that says it is answered as it is carried out
pub answers_statement : (kind : ClockKind) (Gives : ℤ → Type 0) (h after : History) (text : List ℕ) (l : Line) (x : Statement) (o : Upshot) → Says text l → l ≡ line.Statement x
    → PerformsSo kind Gives x o h after → Answers kind Gives h text o after
answers_statement kind Gives h after text l x o says is (inl want) = inl want
answers_statement kind Gives h after text l x o says is (inr so) = inr (line.Statement x, subst (λ l. Says text l) is says, so)

module _ (kind : ClockKind) (Gives : ℤ → Type 0) (s : State) (d e : Disk) (text : List ℕ) (l : Line) (x : Statement) (says : Says text l) (is : l ≡ line.Statement x) where
  roomily : (h : History) → FlushesNone kind Gives h text → PerformsRoomily kind Gives x h
  roomily h none = none.1 x (subst (λ l. Says text l) is says)

  known_so : (h : History) → Knows s d ⊎ FlushesNone kind Gives h text → Knows s d ⊎ PerformsRoomily kind Gives x h
  known_so h (inl known) = inl known
  known_so h (inr none) = inr (roomily h none)

  pub answers_performed : (t : State) (o : Upshot) → MovesIf (λ h. Knows s d ⊎ PerformsRoomily kind Gives x h) (λ h after. PerformsSo kind Gives x o h after) s t d e
      → MovesIf (λ h. Knows s d ⊎ FlushesNone kind Gives h text) (λ h after. Answers kind Gives h text o after) s t d e
  answers_performed t o moves h stands known =
      let (after, so, goes) = moves h stands (known_so h known) in
      (after, answers_statement kind Gives h after text l x o says is so, goes)

  pub lists_performed : ListsIf (PerformsRoomily kind Gives x) s d e → ListsIf (λ h. FlushesNone kind Gives h text) s d e
  lists_performed lists h found told stands lasts none = lists h found told stands lasts (roomily h none)

-- ---- what comes of a line is called otherwise

pub as_replied : (kind : ClockKind) (Gives : ℤ → Type 0) (If : History → Type 0) (s t : State) (d e : Disk) (text : List ℕ) (o p : Upshot) → o ≡ p
    → MovesIf If (λ h after. Answers kind Gives h text p after) s t d e → MovesIf If (λ h after. Answers kind Gives h text o after) s t d e
as_replied kind Gives If s t d e text o p is moves h stands so =
    let (after, answers, goes) = moves h stands so in
    (after, subst (λ q. Answers kind Gives h text q after) (sym is) answers, goes)

-- ---- whatever is known

pub in_any_case : (If : History → Type 0) (P : History → History → Type 0) (s t : State) (d e : Disk) → Moves P s t d e → MovesIf If P s t d e
in_any_case If P s t d e moves h stands so = moves h stands

pub lists_in_any_case : (If : History → Type 0) (s : State) (d e : Disk) → KeepsListing s d e → ListsIf If s d e
lists_in_any_case If s d e lists h found told stands lasts so = lists h found told stands lasts

-- ---- the clock

pub says_moment : (text : List ℕ) (l : Line) (n m : ℤ) → m ≡ n → Says text l → l ≡ line.Clock n → IsMoment m
says_moment text l n m same says is = subst IsMoment (sym same) (clock_is_moment text n (subst (λ l. Says text l) is says))

with_clock : (h : History) (s : State) (n : ℤ) (d : Disk) → StandsFor h s → GoesOnTo h (record h { clock = n }) s (record s { clock = n }) d d
with_clock h s n d stands = record {
  stands = record {
    limits = stands.limits;
    tables = stands.tables;
    clock = refl;
    session = stands.session;
    calls = stands.calls;
    disk = stands.disk;
    count = stands.count;
    shards = stands.shards;
    entered = stands.entered;
    memory = stands.memory;
    filled = stands.filled;
  };
  lasts = λ found told lasts. (
    told,
    record {
      keeps = lasts.keeps;
      tables = lasts.tables;
      shards = lasts.shards;
      few = lasts.few;
      ordered = lasts.ordered;
      next = lasts.next;
      counted = lasts.counted;
      acknowledged = lasts.acknowledged;
      whole = lasts.whole;
      behind = lasts.behind;
      files = lasts.files;
      changes = lasts.changes;
      frontiers = lasts.frontiers;
      trimmed = lasts.trimmed;
    },
    λ openings explained.
        explains_still openings h (record h { clock = n }) found s (record s { clock = n }) d d told (λ k. goes_nowhere (shard_at h k)) refl refl (keep_files_none told d)
        (λ ms have. have) explained,
  );
}

pub sets_clock : (kind : ClockKind) (s : State) (n m : ℤ) (d : Disk) → kind ≡ clock.Manual → m ≡ n
    → Moves (λ h after. SetsClock kind h n reply.Done after) s (record s { clock = m }) d d
sets_clock kind s n m d is same h stands =
    (record h { clock = m }, subst (λ k. SetsClock k h n reply.Done (record h { clock = m })) (sym is) (refl, ap (λ k. record h { clock = k }) same), with_clock h s m d stands)

pub refuses_clock : (kind : ClockKind) (s : State) (n : ℤ) (d : Disk) → kind ≡ clock.System → Moves (λ h after. SetsClock kind h n (reply.Refused NOT_HERE) after) s s d d
refuses_clock kind s n d is h stands =
    (h, subst (λ k. SetsClock k h n (reply.Refused NOT_HERE) h) (sym is) (refl, refl), record { stands = stands; lasts = λ found told lasts. (told, lasts, λ openings explained. explained) })
