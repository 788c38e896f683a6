use Rattle.std.proofs.Common.{◌≡◌, ◌+◌, ◌-◌, subst, arith, get_or}
use Rattle.std.proofs.lemmas.Grind.{common_steps}
use Rattle.lrs_events.specs.declared.part.Part.{Part}
use Rattle.lrs_events.specs.declared.side.LinkSide.TheVariants.{Left}
use Rattle.lrs_image_sound.proofs.Summed.{IsSummed, summed_more, beyond, carried_within}
use Rattle.lrs_image_sound.proofs.sums.sums_are_within.Goals as goal

pub returns-then-more-most-clause-beyond : goal.returns-then-more-most-clause-beyond
returns-then-more-most-clause-beyond c =
    let xs = c.args.sorted.now in
    let i = c.loop-part.part-index in
    let none : Part = record { edit = 0; asset = 0; link = 0; from = 0; to = 0; side = Left } in
    let within = carried_within xs c.args.most i c.loop-part.last c.loop-part.sum c.carried-before.result none c.loop-part-test.true c.requires.order c.loop-part.invariant c.carried-before.ensures.same c.carried-before.ensures.other in
    let size = c.places-more.ensures in
    let test = c.if-more-most.true in
    beyond xs c.args.most i c.loop-part.last c.loop-part.sum c.carried-before.result none c.loop-part-test.true c.requires.order c.loop-part.invariant c.carried-before.ensures.same c.carried-before.ensures.other
    (omega (arith, within, size, test))

pub loop-part-preserved : goal.loop-part-preserved
loop-part-preserved c =
    let xs = c.args.sorted.now in
    let i = c.loop-part.part-index in
    let none : Part = record { edit = 0; asset = 0; link = 0; from = 0; to = 0; side = Left } in
    let within = carried_within xs c.args.most i c.loop-part.last c.loop-part.sum c.carried-before.result none c.loop-part-test.true c.requires.order c.loop-part.invariant c.carried-before.ensures.same c.carried-before.ensures.other in
    let size = c.places-more.ensures in
    let test = c.if-more-most.false in
    let x = get_or xs i none in
    let sum : c.carried-before.result + (x.to - x.from) ≡ c.carried-before.result + c.places-more.result = omega (arith, size) in
    subst (λ n. IsSummed xs c.args.most (i + 1) x.asset n) sum
    (summed_more xs c.args.most i c.loop-part.last c.loop-part.sum c.carried-before.result none c.loop-part-test.true c.requires.order c.loop-part.invariant c.carried-before.ensures.same c.carried-before.ensures.other
    (omega (arith, within, size, test)))

pub returns : goal.returns
returns c = grind (arith, common_steps)
