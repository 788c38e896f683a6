use Rattle.sqlite_wal.specs.Files.{image_at}
use Rattle.sqlite.specs.Files.{file_state}
use Rattle.lrs_store_files.proofs.FoundLemmas.{opened_found}
use Rattle.lrs_store_files.proofs.files.open_tables_at.Goals as goal

pub taken-requires-clause-found : goal.taken-requires-clause-found
taken-requires-clause-found g c clean =
    let opened = c.in_ok-conn.ensures.opened clean in
    opened_found (image_at g.S.Start) (file_state c.in_ok-conn.conn) opened.0 opened.1 (c.in_ok-conn.ensures.found clean).reads

pub returns-in-Ok-clause-found : goal.returns-in-Ok-clause-found
returns-in-Ok-clause-found g c = c.in-Ok.ensures.found (image_at g.S.Start) c.in_ok-conn.ensures.found

pub returns-in-Err-taken-clause-left : goal.returns-in-Err-taken-clause-left
returns-in-Err-taken-clause-left g c = c.in-Err-taken.ensures.left (image_at g.S.Start) c.in_ok-conn.ensures.found

pub returns-in-Err-taken-clause-cause : goal.returns-in-Err-taken-clause-cause
returns-in-Err-taken-clause-cause g c is = c.in-Err-taken.ensures.cause is (image_at g.S.Start) c.in_ok-conn.ensures.found
