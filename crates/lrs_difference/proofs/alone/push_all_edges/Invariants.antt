use Rattle.std.proofs.Common.{◌≡◌, ◌++◌, take}
use Rattle.std.specs.List.{flat_map}
use Rattle.lrs_difference.specs.Sweep.{edges_of}
use Rattle.lrs_difference.proofs.alone.push_all_edges.Given as goal

abbrev pub invariant-loop-stretch : goal.invariant-loop-stretch
invariant-loop-stretch l = l.edges.items ≡ l.fn.edges.items ++ flat_map edges_of (take l.stretch-index l.held)
