use Rattle.std.proofs.Common.{take}
use Rattle.std.specs.Io.KnownBytes.{Appends}
use Rattle.lrs_report_answers.specs.Combinations.{fields_behind}
use Rattle.lrs_report_answers.proofs.combination_lines.write_names.Given as goal

abbrev pub invariant-loop-class : goal.invariant-loop-class
invariant-loop-class g l = Appends (g.W.Write.contents l.fn.writer) (g.W.Write.contents l.writer) (fields_behind (take l.class-index l.classes))
