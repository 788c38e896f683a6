use Rattle.lrs_cli_sheets.proofs.Trying.{is_known}
use Rattle.lrs_cli_sheets.proofs.Audited.{made_as_named, none_read}
use Rattle.lrs_cli_sheets.proofs.inventory_difference.made_by_log.Goals as goal

pub returns-in-Ok-clause-made : goal.returns-in-Ok-clause-made
returns-in-Ok-clause-made g c =
    let known = g.S.Sheets.text_of c.args.world.now.sheets.now c.args.name.now in
    made_as_named (λ desk. desk.image) c.as_slice.result.now known c.made_from.result (is_known _ c.in-Ok.text.items known c.in-Ok.ensures c.as_slice.ensures.value) c.made_from.ensures.made

pub returns-in-Err-clause-none : goal.returns-in-Err-clause-none
returns-in-Err-clause-none g c = none_read c.unopened.result c.unopened.ensures
