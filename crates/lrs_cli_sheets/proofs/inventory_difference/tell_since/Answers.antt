use Rattle.lrs_cli_sheets.proofs.Audited.{told_since}
use Rattle.lrs_cli_sheets.proofs.inventory_difference.tell_since.Goals as goal

pub returns-in-Ok-clause-ended : goal.returns-in-Ok-clause-ended
returns-in-Ok-clause-ended g c =
    told_since {W = g.row.W.Denot} g.W.Write.contents c.args.edit c.args.inventory.now c.remake.new.desk.image c.args.log.now (g.W.Write.contents c.args.to) c.tell_from.result
    c.requires.before c.tell_from.ensures.sound c.in-Ok.ensures.made c.tell_from.ensures.ended
