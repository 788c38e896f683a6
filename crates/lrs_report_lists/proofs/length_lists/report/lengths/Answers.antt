use Rattle.std.proofs.Common.{subst₂, sym, filter, List}
use Rattle.std.specs.Prelude.{IsPermutation}
use Rattle.std.specs.Option.{option_map}
use Rattle.std.proofs.lemmas.Result.{IfOk-weaker}
use Rattle.lrs_measure.proofs.Filters.{all-filter}
use Rattle.lrs_image.specs.OpenLists.{image_of}
use Rattle.lrs_image.proofs.Tables.{assets_in_order, routes_in_order}
use Rattle.lrs_report_lists.specs.WantedRows.{is_of_route}
use Rattle.lrs_report_lists.specs.declared.length_lists.entries.LengthEntry.{LengthEntry}
use Rattle.lrs_report_lists.proofs.Length.Whole.{lengths_are, lengths_fit, rows_are_known, rows_on_routes, some_rows_on}
use Rattle.lrs_report_lists.proofs.Length.Holders.{has_known}
use Rattle.lrs_report_lists.proofs.length_lists.report.lengths.Goals as goal

pub wanted_entries-requires : goal.wanted_entries-requires
wanted_entries-requires c =
    let i = image_of c.args.kept.now in
    let sound = c.requires.sound in
    record { assets_order = assets_in_order i sound; routes_order = routes_in_order i sound; rows = rows_on_routes i sound; fit = lengths_fit i sound }

pub returns : goal.returns
returns c =
    let i = image_of c.args.kept.now in
    let chosen = is_of_route (option_map (λ r. r.now) c.args.route) in
    let known = all-filter (has_known i.assets) chosen i.routes (rows_are_known i c.requires.sound) in
    let same = subst₂ (λ (xs ys : List LengthEntry). IsPermutation xs ys) c.in_ok-entries.ensures (sym c.deref.ensures.value) c.sort.ensures.same in
    IfOk-weaker c.table_of.result _ _ (λ rows table. lengths_are i.assets (filter chosen i.routes) c.deref.result.now (assets_in_order i c.requires.sound) (some_rows_on chosen i.routes (rows_on_routes i c.requires.sound)) known same rows table) c.table_of.ensures
