use Rattle.std.proofs.Common.{◌<◌, arith, get_or, length}
use Rattle.std.proofs.lemmas.Int.Digits.{digits_more, digits_value_more}
use Rattle.std.proofs.lemmas.Str.{digit_value_digit}
use Rattle.std.proofs.lemmas.Str.Parse.{digit_from_value}
use Rattle.lrs_measure.proofs.Digits.{AllDigits-at, above_front}
use Rattle.lrs_measure.proofs.numerals.read_digits.Goals as goal

pub returns-then-not-is_ascii_digit : goal.returns-then-not-is_ascii_digit
returns-then-not-is_ascii_digit c h =
    let digit = digit_from_value (get_or c.args.bytes.now c.loop-byte.byte-index 0) (AllDigits-at c.args.bytes.now c.loop-byte.byte-index c.loop-byte-test.true h.0.1) in
    omega (arith, digit, c.if-not-is_ascii_digit.ensures.cases)

pub returns-in_err-tens : goal.returns-in_err-tens
returns-in_err-tens c = rw c.from_residual.ensures (λ h.
    let above = above_front c.args.bytes.now c.loop-byte.byte-index c.loop-byte.value c.loop-byte-test.true c.loop-byte.invariant.1 in
    c.in_err-tens.ensures (omega arith))

pub returns-in_err-value : goal.returns-in_err-value
returns-in_err-value c = rw c.from_residual-in_err-value.ensures (λ h.
    let above = above_front c.args.bytes.now c.loop-byte.byte-index c.loop-byte.value c.loop-byte-test.true c.loop-byte.invariant.1 in
    let digit = digit_value_digit (get_or c.args.bytes.now c.loop-byte.byte-index 0) c.if-not-is_ascii_digit.ensures.cases in
    c.in_err-value.ensures (omega (arith, c.in_ok-tens.ensures.1, digit)))

pub loop-byte-preserved : goal.loop-byte-preserved
loop-byte-preserved c =
    let at : c.loop-byte.byte-index < length c.args.bytes.now = omega arith in
    let more = digits_value_more 10 c.args.bytes.now c.loop-byte.byte-index at in
    let digit = digit_value_digit (get_or c.args.bytes.now c.loop-byte.byte-index 0) c.if-not-is_ascii_digit.ensures.cases in (
      digits_more 10 c.args.bytes.now c.loop-byte.byte-index at c.loop-byte.invariant.0 c.if-not-is_ascii_digit.ensures.bound,
      omega (arith, more, digit, c.loop-byte.invariant.1, c.in_ok-tens.ensures.1, c.in_ok-value.ensures.1),
    )
