-- What a call answers a text.
use Rattle.std.proofs.Common.{inl, inr, ℕ, ℤ, Bool, List, Ok, Err, refl, sym, ap, subst}
use Rattle.cas_disk.specs.Disk.{Disk}
use Rattle.cas_bind.specs.Meaning.{meaning}
use Rattle.cas_lines.specs.declared.line.Line.{Line}
use Rattle.cas_lines.specs.declared.line.Line.TheVariants as line
use Rattle.cas_render.specs.declared.reply.Reply.{Reply}
use Rattle.cas_words.specs.declared.words.ClockKind.TheVariants as clock
use Rattle.cql_parse.specs.declared.syntax.Statement.{Statement}
use Rattle.cas_lasting.specs.History.{History, Does}
use Rattle.cas_lasting.specs.Nodes.{State, StandsFor, GoesOnTo, Moves, OrWant}
use Rattle.cas_sessions.specs.Calls.{IfTaken, IsSpelled, IsTrueOf, Performed, Performs, reply_of}
use Rattle.cas_sessions.specs.declared.answer.Fault.{Fault}
use Rattle.cas_sessions.specs.Inner.Texts.{Finds, Refuses}
use Rattle.cas_sessions.proofs.Answering.{says_spelled}

-- nothing changes
still : (h : History) (s : State) (d : Disk) → StandsFor h s → GoesOnTo h h s s d d
still h s d stands = record { stands = stands; lasts = λ found told lasts. (told, lasts, λ openings explained. explained) }

-- ---- a text of which nothing is performed

refused_so : (defines : Bool) (Gives : ℤ → Type 0) (h : History) (l : Line) (f : Fault) → Refuses defines l f → Performed defines Gives h l (reply_of (Err f)) h
refused_so defines Gives h line.Blank f is = (ap (λ (x : Fault). reply_of (Err x)) is, refl)
refused_so defines Gives h line.Syntax f is = (ap (λ (x : Fault). reply_of (Err x)) is, refl)
refused_so defines Gives h (line.Clock n) f is = (ap (λ (x : Fault). reply_of (Err x)) is, refl)
refused_so defines Gives h (line.Flush t) f is = (ap (λ (x : Fault). reply_of (Err x)) is, refl)
refused_so defines Gives h (line.Verify t) f is = (ap (λ (x : Fault). reply_of (Err x)) is, refl)
refused_so defines Gives h line.Status f is = (ap (λ (x : Fault). reply_of (Err x)) is, refl)
refused_so defines Gives h (line.Statement x) f (other, is) =
    subst (λ b. IfTaken b (reply_of (Err f)) h h (Does clock.System Gives h (meaning h.limits.shards h.tables x) (reply_of (Err f)) h)) (sym other)
    (ap (λ (y : Fault). reply_of (Err y)) is, refl)

pub performs_nothing : (defines : Bool) (Gives : ℤ → Type 0) (text : List ℕ) (f : Fault) (s : State) (d : Disk) → Finds defines text (Err f)
    → Moves (Performs defines Gives text (reply_of (Err f))) s s d d
unfolding Finds
performs_nothing defines Gives text f s d (inl want) h stands = (h, inl (ap (λ (x : Fault). reply_of (Err x)) want, refl), still h s d stands)
performs_nothing defines Gives text f s d (inr (l, says, refuses)) h stands = (h, inr (l, says, refused_so defines Gives h l f refuses), still h s d stands)

refused_truly : (defines : Bool) (l : Line) (f : Fault) (s : State) → Refuses defines l f → IsTrueOf (Err f) s s
refused_truly defines line.Blank f s is = subst (λ (x : Fault). IsTrueOf (Err x) s s) (sym is) tt
refused_truly defines line.Syntax f s is = subst (λ (x : Fault). IsTrueOf (Err x) s s) (sym is) tt
refused_truly defines (line.Clock n) f s is = subst (λ (x : Fault). IsTrueOf (Err x) s s) (sym is) tt
refused_truly defines (line.Flush t) f s is = subst (λ (x : Fault). IsTrueOf (Err x) s s) (sym is) tt
refused_truly defines (line.Verify t) f s is = subst (λ (x : Fault). IsTrueOf (Err x) s s) (sym is) tt
refused_truly defines line.Status f s is = subst (λ (x : Fault). IsTrueOf (Err x) s s) (sym is) tt
refused_truly defines (line.Statement x) f s (other, is) = subst (λ (x : Fault). IsTrueOf (Err x) s s) (sym is) tt

pub tells_nothing : (defines : Bool) (text : List ℕ) (f : Fault) (s : State) → Finds defines text (Err f) → IsTrueOf (Err f) s s
unfolding Finds
tells_nothing defines text f s (inl want) = subst (λ (x : Fault). IsTrueOf (Err x) s s) (sym want) tt
tells_nothing defines text f s (inr (l, says, refuses)) = refused_truly defines l f s refuses

-- ---- a text that is a statement

pub found_spelled : (defines : Bool) (text : List ℕ) (x : Statement) → Finds defines text (Ok x) → IsSpelled x
unfolding Finds
found_spelled defines text x (says, taken) = says_spelled text (line.Statement x) x says refl

-- it is performed
pub performs_statement : (defines : Bool) (Gives : ℤ → Type 0) (text : List ℕ) (x : Statement) (r : Reply) (s t : State) (d e : Disk)
    → Moves (λ h after. OrWant r (λ h after. Does clock.System Gives h (meaning s.limits.shards s.tables x) r after) h after) s t d e
    → Finds defines text (Ok x) → Moves (Performs defines Gives text r) s t d e
unfolding Finds
performs_statement defines Gives text x r s t d e moves (says, taken) h stands =
    let (after, so, goes) = moves h stands in
    (after, by h after stands so, goes)
  where
    by : (h after : History) → StandsFor h s → OrWant r (λ h after. Does clock.System Gives h (meaning s.limits.shards s.tables x) r after) h after
        → Performs defines Gives text r h after
    by h after stands (inl want) = inl want
    by h after stands (inr does) =
        let of : Does clock.System Gives h (meaning h.limits.shards h.tables x) r after =
        subst (λ l. Does clock.System Gives h (meaning l.shards h.tables x) r after) (sym stands.limits)
        (subst (λ ts. Does clock.System Gives h (meaning s.limits.shards ts x) r after) (sym stands.tables) does) in
        inr (
          line.Statement x,
          says,
          subst (λ b. IfTaken b r h after (Does clock.System Gives h (meaning h.limits.shards h.tables x) r after)) (sym taken) of,
        )
