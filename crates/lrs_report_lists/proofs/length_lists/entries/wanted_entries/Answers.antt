use Rattle.std.proofs.Common.{ap, sym, ◌∙◌, filter, arith, sum_by, Bor}
use Rattle.std.specs.Prelude.{Option}
use Rattle.std.specs.List.{list_all}
use Rattle.std.specs.Option.{option_map}
use Rattle.std.proofs.lemmas.Result.{IfOk-weaker}
use Rattle.lrs_measure.specs.Texts.{Name}
use Rattle.lrs_image.specs.Change.{is_named}
use Rattle.lrs_report_lists.specs.WantedRows.{is_of_route}
use Rattle.lrs_report_lists.proofs.Chosen.{all_chosen, named_alone}
use Rattle.lrs_report_lists.specs.Length.Parts.{entries_of, has_rows_on, list_of, route_length}
use Rattle.lrs_report_lists.proofs.Length.Whole.{some_no_longer, some_rows_on}
use Rattle.lrs_report_lists.proofs.length_lists.entries.wanted_entries.Goals as goal

pub found_entries-requires : goal.found_entries-requires
found_entries-requires c =
    let routes = c.args.routes.now.rows in
    let name = c.in-Some.name.now in
    let chosen = ap list_of c.find.ensures ∙ sym (named_alone name routes c.requires.routes_order) in
    let fewer = some_no_longer (is_named name) routes in
    let same = ap (sum_by route_length) chosen in
    record {
      order = c.requires.assets_order;
      rows = ap (list_all has_rows_on) chosen ∙ some_rows_on (is_named name) routes c.requires.rows;
      fit = omega (arith, fewer, same);
    }

pub returns-in-Some : goal.returns-in-Some
returns-in-Some c =
    let routes = c.args.routes.now.rows in
    let name = c.in-Some.name.now in
    let entries = entries_of c.args.assets.now.rows 0 in
    let asked = λ (o : Option (Bor Name)). entries (filter (is_of_route (option_map (λ r. r.now) o)) routes) in
    IfOk-weaker c.found_entries.result _ _ (λ es h. h ∙ ap entries (ap list_of c.find.ensures ∙ sym (named_alone name routes c.requires.routes_order)) ∙ ap asked (sym c.in-Some.is)) c.found_entries.ensures

pub returns-in-None : goal.returns-in-None
returns-in-None c =
    let routes = c.args.routes.now.rows in
    let entries = entries_of c.args.assets.now.rows 0 in
    let asked = λ (o : Option (Bor Name)). entries (filter (is_of_route (option_map (λ r. r.now) o)) routes) in
    IfOk-weaker c.all_entries.result _ _ (λ es h. h ∙ ap entries (sym (all_chosen routes)) ∙ ap asked (sym c.in-None.is)) c.all_entries.ensures
