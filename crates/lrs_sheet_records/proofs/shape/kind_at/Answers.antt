use Rattle.std.proofs.Common.{rules}
use Rattle.lrs_sheet_records.specs.Shapes.{KindOf}
use Rattle.lrs_events.specs.declared.class.Kind.TheVariants.{Point, Stretch, Exclusive}
use Rattle.lrs_sheet_records.proofs.shape.kind_at.Goals as goal

pub returns-then-eq : goal.returns-then-eq
returns-then-eq c = (search rules, (KindOf Point, search rules))

pub returns-then-eq-2 : goal.returns-then-eq-2
returns-then-eq-2 c = (search rules, (KindOf Stretch, search rules))

pub returns-then-eq-3 : goal.returns-then-eq-3
returns-then-eq-3 c = (search rules, (KindOf Exclusive, search rules))
