use Rattle.std.proofs.Common.{sym, subst, List, []}
use Rattle.cas_atoms.specs.declared.atom.Mutation.{Mutation}
use Rattle.cas_opening.specs.Opening.{IsOpenedWith, IsReadWith}
use Rattle.cas_opening.proofs.Opens.{kept_ends}
use Rattle.cas_opening.proofs.opening.open.Goals as goal

pub open_to-requires-clause-taker : goal.open_to-requires-clause-taker
open_to-requires-clause-taker g c = ([], c.new-mutations.ensures.items)

pub returns-in-Ok-clause-opens : goal.returns-in-Ok-clause-opens
returns-in-Ok-clause-opens g c image read bytes entries ms opens =
    let (given, is, ends) = c.in-Ok.ensures.opens [] c.new-mutations.ensures.items image read bytes entries ms opens in
    subst (λ (l : List Mutation). IsOpenedWith entries ms l c.in-Ok.store.journal c.in-Ok.store.said (g.F.Folder.disk c.open_to.new.folder)) (sym is) ends

pub returns-in-Err-clause-opens : goal.returns-in-Err-clause-opens
returns-in-Err-clause-opens g c image read bytes entries ms opens =
    let (given, is, ends) = c.in-Err.ensures.opens [] c.new-mutations.ensures.items image read bytes entries ms opens in
    kept_ends entries ms given (g.F.Folder.disk c.open_to.new.folder) c.in-Err.fault ends

pub returns-in-Ok-clause-read : goal.returns-in-Ok-clause-read
returns-in-Ok-clause-read g c =
    let (entries, ms, given, is, reads, tells) = c.in-Ok.ensures.read [] c.new-mutations.ensures.items in
    (entries, ms, subst (λ (l : List Mutation). IsReadWith entries ms l c.in-Ok.store.journal c.in-Ok.store.said) (sym is) reads, tells)
