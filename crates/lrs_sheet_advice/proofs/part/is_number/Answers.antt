use Rattle.std.proofs.Common.{ℕ}
use Rattle.lrs_sheet_records.specs.Words.{SaysNumber}
use Rattle.lrs_sheet_advice.proofs.ListWords.{read_is}
use Rattle.lrs_sheet_advice.proofs.part.is_number.Goals as goal

pub returns : goal.returns
returns c = read_is (λ (n : ℕ). SaysNumber c.args.low c.args.high c.args.text.now n) c.number.result c.is_some.result c.is_some.ensures c.number.ensures.some c.number.ensures.none
