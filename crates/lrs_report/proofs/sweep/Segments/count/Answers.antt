use Rattle.std.proofs.Common.{◌<◌, length, sym, ap, ◌∙◌, arith}
use Rattle.std.specs.Option.{option_copied}
use Rattle.std.proofs.lemmas.Option.{slice_get_within}
use Rattle.lrs_report.proofs.sweep.Segments.count.Goals as goal

pub overflow_add-count : goal.overflow_add-count
overflow_add-count g c =
    let some : 0 < length c.loop-count.left = slice_get_within c.loop-count.left 0 _ (sym c.first.ensures ∙ ap option_copied c.in-Some.is) in
    let all = c.loop-count.invariant in
    let few = c.in_ok-left.ensures.few in
    omega (arith, some, all, few)
