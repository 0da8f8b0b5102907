use Rattle.std.proofs.Common.{List, ◌++◌, ◌∷◌, [], sym, ◌∙◌, ap, subst, arith}
use Rattle.cas_disk.specs.declared.name.Entry.{Entry}
use Rattle.cas_disk.specs.Disk.{IsListing}
use Rattle.cas_disk.specs.Inner.Listed.{is_listed}
use Rattle.cas_disk.specs.Inner.Past.{image_of}
use Rattle.cas_disk.proofs.Listings.{listed_already, listed_too}
use Rattle.cas_disk.proofs.listing.list_file.Goals as goal

pub returns-then-is_listed : goal.returns-then-is_listed
returns-then-is_listed c files is =
    let entries = c.args.entries.now.items in
    listed_already files entries c.args.file.now (sym (ap (λ (l : List Entry). is_listed c.args.file.now.name l) c.deref.ensures.value) ∙ sym c.is_listed.ensures ∙ c.if-is_listed.true) is

pub returns : goal.returns
returns c files is =
    let entries = c.args.entries.now.items in
    subst (λ (l : List Entry). IsListing (image_of (files ++ c.args.file.now ∷ [])) l) (sym c.in_ok-push.ensures.items)
    (listed_too files entries c.args.file.now c.len.result (omega arith) (sym (ap (λ (l : List Entry). is_listed c.args.file.now.name l) c.deref.ensures.value) ∙ sym c.is_listed.ensures ∙ c.if-is_listed.false) is)
