use Rattle.std.proofs.Common.{◌≡◌, ◌++◌, map}
use Rattle.std.specs.List.{flat_map}
use Rattle.lrs_machine.specs.Image.{referents_on}
use Rattle.lrs_difference.specs.Placed.{entry_of}
use Rattle.lrs_difference.proofs.referent_list.gathered.Given as goal

abbrev pub invariant-loop-row : goal.invariant-loop-row
invariant-loop-row l = map entry_of l.entries.items ++ flat_map referents_on l.row-iterator ≡ flat_map referents_on l.routes.rows
