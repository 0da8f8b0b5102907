use Rattle.std.proofs.Common.{◌≡◌, ◌∙◌, ℕ, ◌+◌, ◌<◌, true, false, ap, sym, subst, ⊎_elim}
use Rattle.cas_history.specs.Log.{Has}
use Rattle.cas_history.proofs.Parts.{owned}
use Rattle.std.specs.Prelude.{Result, Ok, Err, Some, IfOk, OnErr}
use Rattle.cas_refs.specs.Counts.{at, pins_of}
use Rattle.cas_refs.specs.declared.Pin.{Pin}
use Rattle.cas_refs.specs.declared.Full.{Full}
use Rattle.cas_refs.specs.declared.RefBook.{RefBook}
use Rattle.cas_history.specs.Items.{items, changes_list}
use Rattle.cas_history.specs.Last.{files_of}
use Rattle.cas_lifecycle.specs.Books.{is_live, Booked}
use Rattle.cas_lifecycle.proofs.Books.{live_is, shard_live, booked_sees, booked_more}
use Rattle.cas_history.proofs.Lists.{same_or}
use Rattle.cas_lifecycle.proofs.book.Book.pin.Goals as goal

pub pin-requires : goal.pin-requires
pin-requires g c =
    let self = c.args.self.now in
    let changes = c.args.changes.now in
    let shown = c.look.ensures in
    let r = changes_list changes.shard in
    record {
      live = live_is (at self.refs c.args.file)
          (shard_live self.refs _ self.pass self.booked shown.known.0 shown.legal changes.shard c.args.file changes.owns.0
          (subst (λ l. Has (files_of l) c.args.file) (shown.known.1.0.1 r (owned items changes.pass r changes.owns.1)) c.requires.has));
    }

still : (old new : RefBook) (file : ℕ) (res : Result Pin Full)
    → IfOk res (λ p. (p.id ≡ file) × (pins_of (at old file) < 4294967295) × (at new file ≡ Some (record { pins = pins_of (at old file) + 1; retired = false })))
    → OnErr res ((pins_of (at old file) ≡ 4294967295) × (at new file ≡ at old file))
    → is_live (at old file) ≡ true → is_live (at new file) ≡ true
still old new file (Ok p) ok full live = ap is_live ok.2
still old new file (Err f) ok full live = ap is_live full.1 ∙ live

pub invariant_of-self : goal.invariant_of-self
invariant_of-self g c =
    let self = c.args.self.now in
    let shown = c.look.ensures in
    let file = c.args.file in
    let after = c.pin.new.self in
    let seen = subst (Booked self.refs) (sym shown.one) (booked_sees self.refs _ self.pass self.booked shown.known.0) in
    record {
      booked = booked_more self.refs after _ seen
          (λ s low k has live.
          ⊎_elim
          (λ is. subst (λ m. is_live (at after m) ≡ true) (sym is)
          (still self.refs after file c.pin.result c.pin.ensures.ok c.pin.ensures.full (subst (λ m. is_live (at self.refs m) ≡ true) is live)))
          (λ not. ap is_live (c.pin.ensures.others k not) ∙ live)
          (same_or k file));
    }
