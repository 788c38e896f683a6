use Rattle.std.proofs.Common.{subst, sym, ℕ, List}
use Rattle.std.specs.Prelude.{IsPermutation}
use Rattle.lrs_report_lists.proofs.Length.Numbered.{holders_are}
use Rattle.lrs_report_lists.proofs.length_lists.held_assets.count_assets.Goals as goal

pub returns : goal.returns
returns c =
    let numbers = c.in_ok-numbers.numbers.items in
    let same = subst (λ (ns : List ℕ). IsPermutation numbers ns) (sym c.deref.ensures.value) c.sort.ensures.same in
    holders_are c.args.entries.now numbers c.deref.result.now c.count_numbers.result c.in_ok-numbers.ensures same c.count_numbers.ensures
