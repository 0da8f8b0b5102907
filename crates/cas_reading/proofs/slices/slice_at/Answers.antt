use Rattle.cas_reading.proofs.Heads.{entry_fault}
use Rattle.cas_reading.proofs.slices.slice_at.Goals as goal

pub returns-in-Err-clause-told : goal.returns-in-Err-clause-told
returns-in-Err-clause-told g c = λ e is.
    entry_fault c.args.table.now c.args.key.now e c.in-Err.fault _ _ _ _ _ _ c.file_of-file.ensures.contents
    c.file_of-file.ensures.version c.file_of-file.ensures.columns c.file_of-file.ensures.number c.file_of-file.ensures.end (c.place-place.ensures.place e is) c.in-Err.ensures.told
