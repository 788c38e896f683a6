use Rattle.std.proofs.Common.{rules, Some}
use Rattle.lrs_sheet_records.specs.Kinds.{edit_fields}
use Rattle.lrs_sheet_records.specs.Records.{text_at, texts_of}
use Rattle.lrs_sheet_records.specs.Shapes.{Fits, LinkOrRoute}
use Rattle.lrs_sheet_records.proofs.Asked.{link-fits}
use Rattle.lrs_sheet_records.proofs.question.where_on_link.Goals as goal

pub returns-in_err-link : goal.returns-in_err-link
returns-in_err-link c =
    let fits : Fits (texts_of (edit_fields c.args.row.now)) (Some LinkOrRoute) (text_at (edit_fields c.args.row.now) 2) = link-fits (texts_of (edit_fields c.args.row.now)) (text_at (edit_fields c.args.row.now) 2) c.requires.link in
    search rules

pub returns-in_err-mm : goal.returns-in_err-mm
returns-in_err-mm c =
    let fits : Fits (texts_of (edit_fields c.args.row.now)) (Some LinkOrRoute) (text_at (edit_fields c.args.row.now) 2) = link-fits (texts_of (edit_fields c.args.row.now)) (text_at (edit_fields c.args.row.now) 2) c.requires.link in
    search rules

pub returns-in_err-nothing_from : goal.returns-in_err-nothing_from
returns-in_err-nothing_from c =
    let fits : Fits (texts_of (edit_fields c.args.row.now)) (Some LinkOrRoute) (text_at (edit_fields c.args.row.now) 2) = link-fits (texts_of (edit_fields c.args.row.now)) (text_at (edit_fields c.args.row.now) 2) c.requires.link in
    search rules
