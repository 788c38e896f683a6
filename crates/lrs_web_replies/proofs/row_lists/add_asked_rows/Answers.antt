use Rattle.std.proofs.Common.{[], ap, sym, ◌∙◌, filter}
use Rattle.std.specs.Prelude.{Option}
use Rattle.std.specs.List.{flat_map}
use Rattle.std.specs.Option.{option_map_or}
use Rattle.lrs_measure.specs.Texts.{Name}
use Rattle.lrs_machine.specs.declared.image.RouteRow.{RouteRow}
use Rattle.lrs_report_lists.specs.WantedRows.{is_of_route}
use Rattle.lrs_report_lists.proofs.Chosen.{all_chosen, named_alone}
use Rattle.lrs_web_replies.proofs.Paging.{as_items, told_alone_of}
use Rattle.lrs_web_replies.specs.Listings.{rows_of}
use Rattle.lrs_web_replies.proofs.row_lists.add_asked_rows.Goals as goal

pub returns-in-Some : goal.returns-in-Some
returns-in-Some c =
    let items = rows_of c.args.wanted.now c.args.assets.now.rows in
    let routes = c.args.routes.now.rows in
    let asked = λ (o : Option Name). flat_map items (filter (is_of_route o) routes) in
    as_items c.add_rows_of_some.result c.args.text.now c.add_rows_of_some.new.text _ (asked c.args.wanted.now.route) c.add_rows_of_some.ensures
    (ap (λ (o : Option RouteRow). option_map_or items o []) c.find.ensures ∙ told_alone_of items _ ∙ ap (flat_map items) (sym (named_alone c.in-Some.name routes c.requires.routes_order)) ∙ ap asked (sym c.in-Some.is))

pub returns-in-None : goal.returns-in-None
returns-in-None c =
    let items = rows_of c.args.wanted.now c.args.assets.now.rows in
    let routes = c.args.routes.now.rows in
    let asked = λ (o : Option Name). flat_map items (filter (is_of_route o) routes) in
    as_items c.add_each_row.result c.args.text.now c.add_each_row.new.text _ (asked c.args.wanted.now.route) c.add_each_row.ensures
    (ap (flat_map items) (sym (all_chosen routes)) ∙ ap asked (sym c.in-None.is))
