use Rattle.sqlite.specs.Files.{file_state}
use Rattle.lrs_store_files.proofs.FoundLemmas.{has_found, left_connected}
use Rattle.lrs_store_files.proofs.RefusedLemmas.{refused_tables}
use Rattle.lrs_store_files.proofs.files.taken.Goals as goal

pub returns-in-Ok-clause-found : goal.returns-in-Ok-clause-found
returns-in-Ok-clause-found g c image found clean =
    let early = c.in-Ok.ensures.clean clean in
    let opened = c.requires.opened early in
    let it = found early in
    has_found image (file_state c.args.conn) (file_state c.in-Ok.tables.conn) it.reads it.holds (opened.1 opened.0.is_open).0 opened.0.clean c.in-Ok.ensures.rows

pub returns-in-Err-clause-left : goal.returns-in-Err-clause-left
returns-in-Err-clause-left g c image found = left_connected image c.args.conn c.in-Err.conn c.requires.opened (λ clean. (found clean).reads) c.in-Err.ensures.left

pub returns-in-Err-clause-cause : goal.returns-in-Err-clause-cause
returns-in-Err-clause-cause g c is image found =
    refused_tables image c.args.conn c.in-Err.conn c.requires.opened (λ clean. (found clean).reads) c.in-Err.ensures.left c.requires.fresh.unlimited (λ known. c.in-Err.ensures.failed known is)
