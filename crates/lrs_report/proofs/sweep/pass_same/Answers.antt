use Rattle.std.proofs.Common.{◌≡◌, map, sym, ap, ◌∙◌, arith}
use Rattle.std.proofs.lemmas.Grind.{common_steps}
use Rattle.lrs_report.specs.Columns.{first_value}
use Rattle.lrs_report.proofs.Passing.{least_ahead, one_step, step_more}
use Rattle.lrs_report.proofs.Swept.{values_equal}
use Rattle.lrs_report.proofs.sweep.pass_same.Goals as goal

pub loop-to-init : goal.loop-to-init
loop-to-init g c = one_step c.args.from c.args.len c.go_on-to.result c.args.values.now c.args.columns.now.items c.go_on-to.new.columns.items c.requires.columns c.requires.within c.requires.values c.go_on-to.ensures.end c.go_on-to.ensures.columns

pub loop-to-smaller : goal.loop-to-smaller
loop-to-smaller g c =
    let t = c.loop-to-test.true in
    let e = c.go_on-to-in-loop-to.ensures.end in
    let a = least_ahead c.loop-to.to c.args.len c.loop-to.columns.items c.loop-to.invariant.columns t in
    omega (arith, t, e, a)

pub loop-to-preserved : goal.loop-to-preserved
loop-to-preserved g c =
    let same : c.args.values.now ≡ map first_value c.loop-to.columns.items =
    values_equal c.args.values.now (map first_value c.deref.result.now) (sym c.have.ensures ∙ c.if-have.true) ∙ ap (map first_value) c.deref.ensures.value in
    step_more c.args.from c.loop-to.to c.go_on-to-in-loop-to.result c.args.len c.args.values.now c.args.columns.now.items c.loop-to.columns.items c.go_on-to-in-loop-to.new.columns.items
    c.loop-to.invariant
    (one_step c.loop-to.to c.args.len c.go_on-to-in-loop-to.result c.args.values.now c.loop-to.columns.items c.go_on-to-in-loop-to.new.columns.items c.loop-to.invariant.columns c.loop-to-test.true same
    c.go_on-to-in-loop-to.ensures.end c.go_on-to-in-loop-to.ensures.columns)

pub returns-else-have-clause-passed : goal.returns-else-have-clause-passed
returns-else-have-clause-passed g c = grind (arith, common_steps)

pub returns-else-have-clause-other : goal.returns-else-have-clause-other
returns-else-have-clause-other g c = grind (arith, common_steps)

pub returns-after-loop-to-clause-passed : goal.returns-after-loop-to-clause-passed
returns-after-loop-to-clause-passed g c = grind (arith, common_steps)

pub returns-after-loop-to-clause-other : goal.returns-after-loop-to-clause-other
returns-after-loop-to-clause-other g c = grind (arith, common_steps)
