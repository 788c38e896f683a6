use Rattle.std.proofs.Common.{refl}
use Rattle.lrs_cli_sheets.proofs.Audited.{audited_as}
use Rattle.lrs_cli_sheets.proofs.audit.do_audit.Goals as goal

pub returns-in-Ok-Some : goal.returns-in-Ok-Some
returns-in-Ok-Some g c = record {
  ended = (audited_as _ _ _ _ c.inventory.ensures c.in-Ok-Some.field-0-is c.in-Ok-Some.ensures.audited, refl);
  failed = tt;
}
