use Rattle.std.proofs.Common.{◌≡◌, suc, [], sym, arith}
use Rattle.lrs_element.proofs.Apart.{first_repeated_at}
use Rattle.lrs_element.proofs.checks.first_repeated.Goals as goal

pub returns : goal.returns
returns c =
    let e : c.loop-clean.repeats ≡ suc c.loop-clean.clean = omega (arith, c.loop-clean.invariant.order) in
    sym (first_repeated_at [] c.loop-clean.clean c.args.pieces.now c.loop-clean.invariant.clean (rw e at c.loop-clean.invariant.repeats))
