use Rattle.std.proofs.Common.{List, filter, sum_by, arith, ◌^◌, ◌<◌, subst, sym}
use Rattle.std.specs.Prelude.{IsPermutation}
use Rattle.std.proofs.lemmas.Result.{IfOk-weaker}
use Rattle.lrs_machine.specs.Image.{state_of}
use Rattle.lrs_report_lists.specs.Length.Parts.{route_length}
use Rattle.lrs_report_lists.specs.WantedRows.{is_of_route}
use Rattle.lrs_report_lists.proofs.Length.Whole.{lengths_fit, some_no_longer}
use Rattle.lrs_report_answers.specs.declared.combinations.Combination.{Combination}
use Rattle.lrs_report_answers.proofs.Combined.Routes.{combined, fit}
use Rattle.lrs_report_answers.proofs.combinations.all_combinations.Goals as goal

pub returns : goal.returns
returns c =
    let i = c.args.inventory.now in
    let s = state_of i in
    let chosen = is_of_route c.args.route in
    let routes = filter chosen i.routes in
    let entries = c.in_ok-entries.entries.items in
    let sorted = c.deref.result.now in
    let whole = lengths_fit i c.prove_sound.ensures in
    let fewer = some_no_longer chosen i.routes in
    let few : sum_by route_length routes < 2 ^ 64 = omega (arith, whole, fewer) in
    let same = subst (λ (ys : List Combination). IsPermutation entries ys) (sym c.deref.ensures.value) c.sort.ensures.same in
    IfOk-weaker c.table_of.result _ _ (λ rows table. combined s c.args.classes.now routes entries sorted rows c.in_ok-entries.ensures same (table (fit s c.args.classes.now routes entries sorted rows c.in_ok-entries.ensures same few))) c.table_of.ensures
