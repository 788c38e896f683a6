use Rattle.std.proofs.Common.{arith}
use Rattle.lrs_sheet_records.proofs.Wording.{more-parts}
use Rattle.lrs_sheet_records.proofs.list.only_part.Goals as goal

pub returns-in-Some-clause-none : goal.returns-in-Some-clause-none
returns-in-Some-clause-none c = more-parts (λ rest. rest.now) c.cut_at.result.1 _ c.cut_at.result.0.now (λ none. grind (arith, none, c.in-Some.is)) c.cut_at.ensures.more
