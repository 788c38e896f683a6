use Rattle.std.proofs.Common.{IfOk, subst}
use Rattle.lrs_machine.specs.declared.image.Image.{Image}
use Rattle.lrs_cli_sheets.specs.Differences.{EndsSince}
use Rattle.lrs_cli_sheets.proofs.inventory_difference.do_since.Goals as goal

pub returns-clause-ended : goal.returns-clause-ended
returns-clause-ended g c =
    subst (λ (i : Image). IfOk c.tell_since_edit.result (λ done. EndsSince c.args.edit i (g.W.Write.contents c.args.to) (g.W.Write.contents done.0) done.1))
    c.inventory.ensures c.tell_since_edit.ensures.ended
