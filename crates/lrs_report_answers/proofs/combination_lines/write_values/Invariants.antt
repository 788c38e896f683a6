use Rattle.std.proofs.Common.{map, take}
use Rattle.std.specs.Io.KnownBytes.{Appends}
use Rattle.lrs_report_answers.specs.Combinations.{fields_behind}
use Rattle.lrs_report_answers.specs.Overlay.{value_field}
use Rattle.lrs_report_answers.proofs.combination_lines.write_values.Given as goal

abbrev pub invariant-loop-value : goal.invariant-loop-value
invariant-loop-value g l = Appends (g.W.Write.contents l.fn.writer) (g.W.Write.contents l.writer) (fields_behind (map value_field (take l.value-index l.values)))
