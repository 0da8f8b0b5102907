use Rattle.cas_view.specs.Views.{file_of}
use Rattle.cas_stored.proofs.Gathering.{files_behind}
use Rattle.cas_stored.proofs.files.+put_files.Goals as goal

pub returns-in_ok-put-in-len1-up-clause-gives : goal.returns-in_ok-put-in-len1-up-clause-gives
returns-in_ok-put-in-len1-up-clause-gives g m c =
    files_behind c.args.key.now c.args.slice.now _ _ file_of c.args.files.now c.file-item.result c.args.sources.now.items c.put.new.sources.items c.put_files.new.sources.items
    c.in_ok-file_source-in-len1-up.field-0 c.put_files.result c.in-len1-up.len_at_least c.file-item.is c.in_ok-file_source-in-len1-up.ensures.answers c.in_ok-put-in-len1-up.ensures c.put_files.ensures.gives
