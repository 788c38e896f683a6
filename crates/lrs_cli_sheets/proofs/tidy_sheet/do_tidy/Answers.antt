use Rattle.lrs_cli_sheets.proofs.Trying.{is_known}
use Rattle.lrs_cli_sheets.proofs.Tidied.{tidied_as_named}
use Rattle.lrs_cli_sheets.proofs.tidy_sheet.do_tidy.Goals as goal

pub returns-in-Ok-clause-ended : goal.returns-in-Ok-clause-ended
returns-in-Ok-clause-ended g c =
    let known = g.S.Sheets.text_of c.args.world.now.sheets.now c.args.name.now in
    tidied_as_named c.args.kind c.as_slice.result.now known (is_known _ c.in-Ok.text.items known c.in-Ok.ensures c.as_slice.ensures.value)
    (g.W.Write.contents c.args.to) {W = g.row.W.Denot} g.W.Write.contents c.tidy_bytes.result c.tidy_bytes.ensures.ended
