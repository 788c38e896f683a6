use Rattle.lrs_cli_files.proofs.stored.StoredFilesFiles.close.Goals as goal

pub returns : goal.returns
returns g c = record { found = λ content may. rw c.tables_of.ensures at (c.closed_files-closed.ensures content (rw c.replace.ensures.after at may)) }
