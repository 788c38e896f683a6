use Rattle.std.proofs.Common.{take}
use Rattle.std.specs.List.{filter_map}
use Rattle.lrs_inventory.specs.Prelude.{referent_entry}
use Rattle.lrs_inventory.specs.Places.{HaveCome}
use Rattle.lrs_inventory.proofs.referents.ReferentIndex.add_all.Given as goal

abbrev pub invariant-loop-referent : goal.invariant-loop-referent
invariant-loop-referent l = HaveCome l.fn.self l.self (filter_map (referent_entry l.course) (take l.referent-index l.referents))
