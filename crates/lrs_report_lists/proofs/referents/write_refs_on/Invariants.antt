use Rattle.std.proofs.Common.{take}
use Rattle.std.specs.List.{flat_map}
use Rattle.std.specs.Io.KnownBytes.{Appends}
use Rattle.lrs_report_lists.specs.Lines.{ref_line}
use Rattle.lrs_report_lists.proofs.referents.write_refs_on.Given as goal

abbrev pub invariant-loop-referent : goal.invariant-loop-referent
invariant-loop-referent g l = Appends (g.W.Write.contents l.fn.writer) (g.W.Write.contents l.writer) (flat_map (ref_line l.exact l.route) (take l.referent-index l.refs))
