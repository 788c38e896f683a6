use Rattle.lrs_sheet.proofs.Determined.{sheet_determines_reply}
use Rattle.lrs_sheet.proofs.laws.a_sheet_determines_its_reply.Goals as goal

pub returns : goal.returns
returns c = sheet_determines_reply
