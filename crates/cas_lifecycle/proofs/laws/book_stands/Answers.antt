use Rattle.std.proofs.Common.{◌∙◌, sym, subst}
use Rattle.cas_history.proofs.Parts.{owned}
use Rattle.cas_history.specs.Items.{items, changes_list, book_changes}
use Rattle.cas_lifecycle.specs.Books.{Booked}
use Rattle.cas_lifecycle.proofs.Books.{booked_sees}
use Rattle.cas_history.proofs.Shares.{book_copies}
use Rattle.cas_lifecycle.proofs.laws.book_stands.Goals as goal

pub invariant_of-book : goal.invariant_of-book
invariant_of-book g c =
    let book = c.args.book.now in
    let shown = c.look.ensures in
    record { booked = subst (Booked book.refs) (sym shown.two) (booked_sees book.refs _ book.pass book.booked shown.known.1.0) }

pub returns-clause-law : goal.returns-clause-law
returns-clause-law g c =
    let changes = c.args.changes.now in
    let book = c.args.book.now in
    let r = book_changes changes.shard in
    let shown = c.look.ensures in
    let list = shown.known.0.1 (changes_list changes.shard) (owned items changes.pass (changes_list changes.shard) changes.owns.1) in
    let copy = shown.known.1.0.1 r (owned items book.pass r (book.booked.owns changes.shard changes.owns.0)) in
    list ∙ (book_copies changes.shard changes.owns.0 _ shown.legal ∙ sym copy)
