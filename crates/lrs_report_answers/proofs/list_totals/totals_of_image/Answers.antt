use Rattle.std.proofs.Common.{◌≡◌, ◌∙◌, map, ap}
use Rattle.std.proofs.lemmas.Result.{IfOk-weaker}
use Rattle.lrs_measure.specs.Lists.{each_two}
use Rattle.lrs_machine.specs.declared.image.RouteRow.{RouteRow}
use Rattle.lrs_machine.specs.Image.{state_of}
use Rattle.lrs_machine.specs.Sound.{asset_before, class_before}
use Rattle.lrs_report.specs.ListTotals.{list_totals}
use Rattle.lrs_report_answers.specs.Totals.{totals_of}
use Rattle.lrs_report_answers.proofs.Tally.Listed.{lists_total}
use Rattle.lrs_report_answers.proofs.list_totals.totals_of_image.Goals as goal

pub totals-requires-clause-classes_order : goal.totals-requires-clause-classes_order
totals-requires-clause-classes_order c = ap (each_two class_before) c.as_slice-2.ensures ∙ (lists_total c.args.image.now c.requires).classes_order

pub totals-requires-clause-assets_order : goal.totals-requires-clause-assets_order
totals-requires-clause-assets_order c = ap (each_two asset_before) c.as_slice-3.ensures ∙ (lists_total c.args.image.now c.requires).assets_order

pub returns : goal.returns
returns c =
    let i = c.args.image.now in
    let counted = list_totals c.as_slice-2.result.now c.as_slice-3.result.now (map (λ s. s.now) c.deref.result.now) c.as_slice-4.result.now c.as_slice-5.result.now in
    let rows : map (λ s. s.now) c.deref.result.now ≡ map (λ e. e.spans) i.routes =
    (λ j. map (λ s. s.now) (c.deref.ensures.value j)) ∙ c.in_ok-spans.ensures ∙ (λ j. map (λ (e : RouteRow). e.spans) (c.as_slice.ensures j)) in
    let same : counted ≡ totals_of (state_of i) =
    (λ j. list_totals (c.as_slice-2.ensures j) (c.as_slice-3.ensures j) (rows j) (c.as_slice-4.ensures j) (c.as_slice-5.ensures j)) ∙ (lists_total i c.requires).totals in
    IfOk-weaker c.totals.result (λ found. found.items ≡ counted) (λ found. found.items ≡ totals_of (state_of i)) (λ found h. h ∙ same) c.totals.ensures
