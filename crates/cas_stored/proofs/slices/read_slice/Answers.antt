use Rattle.cas_stored.proofs.ContentsRead.{answers_of}
use Rattle.cas_stored.proofs.slices.read_slice.Goals as goal

pub returns-clause-contents : goal.returns-clause-contents
returns-clause-contents g c = λ contents facts of.
    answers_of c.args.table.now c.requires.narrow contents facts of c.args.key.now c.args.slice.now c.requires.one _ _ c.find_slice.result c.find_slice.ensures.told
