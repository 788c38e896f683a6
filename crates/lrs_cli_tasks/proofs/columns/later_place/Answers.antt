use Rattle.lrs_sheet_records.specs.Words.{parts_of}
use Rattle.lrs_cli_tasks.proofs.Picking.{behind_found, behind_unread, place_before}
use Rattle.lrs_cli_tasks.proofs.columns.later_place.Goals as goal

pub returns-in-Ok-clause-found : goal.returns-in-Ok-clause-found
returns-in-Ok-clause-found c = place_before (parts_of 44 c.args.names.now) c.args.classes.now c.args.name.now c.in-Ok.place c.in-Ok.ensures.found

pub returns-in-Err-clause-found : goal.returns-in-Err-clause-found
returns-in-Err-clause-found c =
    behind_found (parts_of 44 c.args.names.now) c.args.classes.now c.args.name.now c.in-Err.count c.in-Err.ensures.none c.in-Err.ensures.count c.place_behind.result c.place_behind.ensures.found

pub returns-in-Err-clause-unread : goal.returns-in-Err-clause-unread
returns-in-Err-clause-unread c =
    behind_unread (parts_of 44 c.args.names.now) c.args.classes.now c.args.name.now c.in-Err.count c.in-Err.ensures.none c.in-Err.ensures.count c.place_behind.result c.place_behind.ensures.unread
