use Rattle.std.proofs.Common.{rules, ◌≡◌, Err, sym}
use Rattle.lrs_store_image.proofs.OfContent.{none_first, begins_so, begins_not}
use Rattle.lrs_store_image.proofs.steps.begin.Goals as goal

pub returns-then-no_first-clause-begins : goal.returns-then-no_first-clause-begins
returns-then-no_first-clause-begins c = none_first c.args.named c.args.routes (sym c.if-no_first.ensures)

pub returns-in_err-read_registers-clause-begins : goal.returns-in_err-read_registers-clause-begins
returns-in_err-read_registers-clause-begins c =
    let is : c.from_residual.result ≡ Err c.in_err-read_registers.field-0.0 = search rules in
    begins_not c.args.named c.args.routes (sym c.if-no_first.ensures) c.read_registers.result c.from_residual.result c.in_err-read_registers.field-0.0 c.in_err-read_registers.was is
    c.read_registers.ensures.unsound c.read_registers.ensures.never

pub returns-clause-begins : goal.returns-clause-begins
returns-clause-begins c = begins_so c.args.named c.args.routes (sym c.if-no_first.ensures) c.in_ok-read_registers.field-0 c.in_ok-read_registers.ensures.image
