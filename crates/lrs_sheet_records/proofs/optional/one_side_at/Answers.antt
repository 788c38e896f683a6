use Rattle.std.proofs.Common.{rules}
use Rattle.lrs_events.specs.declared.side.LinkSide.TheVariants.{Left, Right}
use Rattle.lrs_sheet_records.specs.Shapes.{LinkSideOf}
use Rattle.lrs_sheet_records.proofs.optional.one_side_at.Goals as goal

pub returns-then-eq : goal.returns-then-eq
returns-then-eq c = (search rules, (LinkSideOf Left, search rules))

pub returns-then-eq-2 : goal.returns-then-eq-2
returns-then-eq-2 c = (search rules, (LinkSideOf Right, search rules))
