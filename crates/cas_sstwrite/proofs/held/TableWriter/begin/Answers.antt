use Rattle.std.proofs.Common.{◌++◌, List, ℕ, refl, ap, subst, ◌∙◌}
use Rattle.cas_tables.specs.Spelling.{header_bytes}
use Rattle.cas_sstwrite.specs.Inner.Sinks.{Took}
use Rattle.cas_sstwrite.proofs.Writing.{nothing_written}
use Rattle.cas_sstwrite.proofs.held.TableWriter.begin.Goals as goal

pub returns-clause-begun : goal.returns-clause-begun
returns-clause-begun g c number empty columns =
    nothing_written g.D.Draft.number g.D.Draft.written columns c.args.draft c.new-sink.result c.append.new.self _ c.requires.header c.requires.version c.requires.level number empty
    c.new-sink.ensures
    (subst (λ (xs : List ℕ). Took g.D.Draft.number g.D.Draft.written xs c.new-sink.result c.append.new.self)
    (c.deref.ensures.value ∙ c.in_ok-put_header.ensures.written ∙ ap (λ (xs : List ℕ). xs ++ header_bytes c.args.header) c.new-start.ensures.items) c.in_ok-append.ensures.took)
    refl c.new.ensures.items c.new-2.ensures
