use Rattle.std.proofs.Common.{◌∙◌, ap, subst}
use Rattle.cas_history.specs.Log.{Has}
use Rattle.cas_refs.specs.Counts.{at}
use Rattle.cas_history.specs.Items.{listed, book_changes}
use Rattle.cas_history.specs.Last.{files_of}
use Rattle.cas_lifecycle.specs.Books.{is_live}
use Rattle.cas_lifecycle.proofs.Books.{live_is, booked_more}
use Rattle.cas_lifecycle.proofs.book.Book.retire.Goals as goal

pub retire-requires : goal.retire-requires
retire-requires g c = record { live = live_is (at c.args.self.now.refs c.args.file) c.requires.live }

pub invariant_of-self : goal.invariant_of-self
invariant_of-self g c =
    let self = c.args.self.now in
    record {
      booked = booked_more self.refs c.retire.new.self self.pass self.booked
          (λ s low k has live.
          ap is_live (c.retire.ensures.others k (λ is. c.requires.gone s low (subst (λ m. Has (files_of (listed (book_changes s) self.pass.saw)) m) is has))) ∙ live);
    }
