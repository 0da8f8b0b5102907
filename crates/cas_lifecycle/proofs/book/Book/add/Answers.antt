use Rattle.std.proofs.Common.{◌∙◌, ap, sym, true≢false}
use Rattle.cas_refs.specs.Counts.{at}
use Rattle.cas_lifecycle.specs.Books.{is_live}
use Rattle.cas_lifecycle.proofs.Books.{booked_more}
use Rattle.cas_lifecycle.proofs.book.Book.add.Goals as goal

pub invariant_of-self : goal.invariant_of-self
invariant_of-self g c =
    let self = c.args.self.now in
    record {
      booked = booked_more self.refs c.add.new.self self.pass self.booked
          (λ s low k has live.
          ap is_live (c.add.ensures.others k (λ is. true≢false (sym live ∙ (ap (λ m. is_live (at self.refs m)) is ∙ ap is_live c.requires.new)))) ∙ live);
    }
