use Rattle.std.proofs.Common.{◌≡◌, ◌++◌, drop, map}
use Rattle.std.specs.Prelude.{filter}
use Rattle.lrs_events.specs.LaneLists.Lane.{is_met}
use Rattle.lrs_report_answers.specs.DrawnRows.{drawn_row}
use Rattle.lrs_report_answers.proofs.bands.rows_within.Given as goal

abbrev pub invariant-loop-row : goal.invariant-loop-row
invariant-loop-row l =
    l.drawn.items ++ map (drawn_row l.assets.rows l.is_point) (filter (is_met l.scale.from l.scale.to) (drop l.row-index l.rows))
    ≡ map (drawn_row l.assets.rows l.is_point) (filter (is_met l.scale.from l.scale.to) l.rows)
