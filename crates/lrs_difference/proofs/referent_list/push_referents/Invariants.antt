use Rattle.std.proofs.Common.{◌≡◌, ◌++◌, map, take}
use Rattle.std.specs.List.{flat_map}
use Rattle.lrs_difference.specs.Placed.{entry_of, entry_on}
use Rattle.lrs_difference.proofs.referent_list.push_referents.Given as goal

abbrev pub invariant-loop-referent : goal.invariant-loop-referent
invariant-loop-referent l = map entry_of l.entries.items ≡ map entry_of l.fn.entries.items ++ flat_map (entry_on l.course) (take l.referent-index l.referents)
