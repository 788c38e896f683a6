use Rattle.std.proofs.Common.{◌≡◌, Bool}
use Rattle.lrs_sheet_records.specs.Words.{sign_text}
use Rattle.lrs_sheet_advice.proofs.ListWords.{read_is}
use Rattle.lrs_sheet_advice.proofs.part.is_direction.Goals as goal

pub returns : goal.returns
returns c = read_is (λ (forward : Bool). c.args.text.now ≡ sign_text forward) c.is_forward.result c.is_some.result c.is_some.ensures c.is_forward.ensures.some c.is_forward.ensures.none
