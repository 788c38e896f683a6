use Rattle.std.proofs.Common.{take}
use Rattle.std.specs.List.{flat_map}
use Rattle.std.specs.Io.KnownBytes.{Appends}
use Rattle.lrs_sheet_log.specs.RouteSheets.{command_line, set_on}
use Rattle.lrs_sheet_log.proofs.route_sheet.write_referents.Given as goal

abbrev pub invariant-loop-referent : goal.invariant-loop-referent
invariant-loop-referent g l = Appends (g.W.Write.contents l.fn.writer) (g.W.Write.contents l.writer) (flat_map (λ x. command_line (set_on l.route.name x)) (take l.referent-index l.refs))
