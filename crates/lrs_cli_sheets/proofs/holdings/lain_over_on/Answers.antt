use Rattle.std.proofs.Common.{◌∙◌, Some, ap, sym}
use Rattle.std.specs.Option.{option_map}
use Rattle.lrs_report_answers.specs.AssetStretches.{row_of_span}
use Rattle.lrs_cli_sheets.proofs.holdings.lain_over_on.Goals as goal

pub returns-in-Some : goal.returns-in-Some
returns-in-Some c = record {
  on = c.args.route_row.now;
  named = c.requires.named;
  stretch = c.in-Ok.stretch;
  located = c.in-Ok.ensures.answer;
  first = ap (option_map (row_of_span c.args.route_row.now.route.name)) (sym c.in-Some.ensures) ∙ ap Some (sym c.found_row.ensures);
}
