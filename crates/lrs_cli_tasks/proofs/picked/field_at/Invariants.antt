use Rattle.std.proofs.Common.{◌≡◌, ◌-◌}
use Rattle.lrs_cli_tasks.specs.Columns.{field_at}
use Rattle.lrs_cli_tasks.proofs.picked.field_at.Given as goal

abbrev pub invariant-loop-turn : goal.invariant-loop-turn
invariant-loop-turn l = field_at l.line l.place ≡ field_at l.rest (l.place - l._turn)
