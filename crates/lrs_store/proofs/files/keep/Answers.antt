use Rattle.sqlite.specs.Files.{file_state}
use Rattle.lrs_store.proofs.OpenedLemmas.{has_opened, holds_still, each_row, opened_second}
use Rattle.lrs_store.proofs.RefusedLemmas.{taken_for}
use Rattle.lrs_store.proofs.files.keep.Goals as goal

pub returns-in-Ok-clause-found : goal.returns-in-Ok-clause-found
returns-in-Ok-clause-found g c image rows clean =
    has_opened image (file_state c.args.tables.conn) (file_state c.in-Ok.keeper.conn) (rows (c.in-Ok.ensures.clean clean)) c.in-Ok.ensures.content

pub returns-in-Ok-clause-untouched : goal.returns-in-Ok-clause-untouched
returns-in-Ok-clause-untouched g c image second rows =
    let old = file_state c.args.tables.conn in
    each_row image old (file_state c.in-Ok.keeper.conn) (c.in-Ok.ensures.untouched (opened_second image old second rows)) rows

pub returns-in-Err-clause-still : goal.returns-in-Err-clause-still
returns-in-Err-clause-still g c image rows = holds_still image (file_state c.args.tables.conn) (file_state c.in-Err.conn) rows c.in-Err.ensures.err

pub returns-in-Err-clause-rows : goal.returns-in-Err-clause-rows
returns-in-Err-clause-rows g c t e image rows = each_row image (file_state c.args.tables.conn) (file_state c.in-Err.conn) (c.in-Err.ensures.still t e) rows

pub returns-in-Err-clause-untouched : goal.returns-in-Err-clause-untouched
returns-in-Err-clause-untouched g c image second rows =
    let old = file_state c.args.tables.conn in
    each_row image old (file_state c.in-Err.conn) (c.in-Err.ensures.untouched (opened_second image old second rows)) rows

pub returns-in-Err-clause-cause : goal.returns-in-Err-clause-cause
returns-in-Err-clause-cause g c is image rows clean =
    let opened = c.requires.open (c.in-Err.ensures.clean clean) in
    taken_for image (file_state c.args.tables.conn) c.in-Err.conn opened c.requires.unlimited rows (λ second. c.in-Err.ensures.failed second is clean) (c.in-Err.ensures.cause is clean)
