use Rattle.std.proofs.Common.{refl}
use Rattle.lrs_cli_sheets.proofs.Audited.{compared}
use Rattle.lrs_cli_sheets.proofs.audit.made_differs.Goals as goal

pub returns-in-Ok-clause-audited : goal.returns-in-Ok-clause-audited
returns-in-Ok-clause-audited g c =
    compared c.args.inventory.now c.remake.new.desk.image _ _ _ c.difference_from.result refl refl
    c.requires.whole c.in-Ok.ensures.made c.difference_from.ensures
