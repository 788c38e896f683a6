use Rattle.std.proofs.Common.{true, ap, sym, ◌∙◌, append-nil, arith, sum_by, Bor}
use Rattle.std.specs.Prelude.{Option}
use Rattle.std.specs.List.{list_all}
use Rattle.std.specs.Option.{option_map}
use Rattle.std.proofs.lemmas.Bool.{and_parts}
use Rattle.std.proofs.lemmas.Result.{IfOk-weaker}
use Rattle.lrs_machine.specs.declared.image.RouteRow.{RouteRow}
use Rattle.lrs_report_lists.specs.Length.Parts.{entries_of, entries_on, has_rows_on, list_of, route_length}
use Rattle.lrs_report_lists.proofs.length_lists.entries.found_entries.Goals as goal

pub route_entries-requires : goal.route_entries-requires
route_entries-requires c =
    let e = c.in-Some.route_row.now in
    let on = ap (λ (o : Option (Bor RouteRow)). list_all has_rows_on (list_of (option_map (λ x. x.now) o))) (sym c.in-Some.is) ∙ c.requires.rows in
    let sum = ap (λ (o : Option (Bor RouteRow)). sum_by route_length (list_of (option_map (λ x. x.now) o))) c.in-Some.is in
    record {
      order = c.requires.order;
      rows = (and_parts (has_rows_on e) true on).0;
      fits = omega (arith, sum);
    }

pub returns-in-Some : goal.returns-in-Some
returns-in-Some c =
    let assets = c.args.assets.now.rows in
    IfOk-weaker c.route_entries.result _ _ (λ es h. h ∙ sym (append-nil (entries_on assets 0 c.in-Some.route_row.now.spans))
    ∙ ap (λ (o : Option (Bor RouteRow)). entries_of assets 0 (list_of (option_map (λ x. x.now) o))) (sym c.in-Some.is)) c.route_entries.ensures
