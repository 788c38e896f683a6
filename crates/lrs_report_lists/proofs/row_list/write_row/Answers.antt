use Rattle.std.proofs.Common.{ap}
use Rattle.lrs_report_lists.specs.LinkRows.{row_text, row_text_with}
use Rattle.lrs_report_lists.proofs.Writing.{as_text}
use Rattle.lrs_report_lists.proofs.row_list.write_row.Goals as goal

pub returns : goal.returns
returns g c =
    as_text c.write_in_form.result _ _ _ (row_text c.args.form c.args.assets.now.rows c.args.route.now c.args.row.now) c.write_in_form.ensures
    (ap (λ a. row_text_with c.args.form a c.args.route.now c.args.row.now) c.asset_numbered.ensures)
