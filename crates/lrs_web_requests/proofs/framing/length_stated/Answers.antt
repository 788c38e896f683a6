use Rattle.std.proofs.Common.{arith, length, ◌<◌}
use Rattle.lrs_web_requests.proofs.LengthLemmas.{stated_none, stated_large, stated_fits}
use Rattle.lrs_web_requests.proofs.framing.length_stated.Goals as goal

pub returns-in-None : goal.returns-in-None
returns-in-None c =
    let some : 0 < length c.args.value.now = grind arith in
    stated_none c.args.value.now some c.if-value-gt-MOST_DIGITS.false c.in-None.ensures

pub returns-in-Some : goal.returns-in-Some
returns-in-Some c =
    let some : 0 < length c.args.value.now = grind arith in
    stated_large c.args.value.now c.in-Some.number some c.if-value-gt-MOST_DIGITS.false c.in-Some.ensures c.if-number-gt-MOST_BODY.true

pub returns-in-Some-2 : goal.returns-in-Some-2
returns-in-Some-2 c =
    let some : 0 < length c.args.value.now = grind arith in
    stated_fits c.args.value.now c.in-Some.number some c.if-value-gt-MOST_DIGITS.false c.in-Some.ensures c.if-number-gt-MOST_BODY.false
