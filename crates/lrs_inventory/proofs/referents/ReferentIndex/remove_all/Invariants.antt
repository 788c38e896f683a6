use Rattle.std.proofs.Common.{◌≡◌, take}
use Rattle.std.specs.FinMap as map
use Rattle.lrs_inventory.specs.Prelude.{Name}
use Rattle.lrs_inventory.proofs.Standing.{out_of}
use Rattle.lrs_inventory.proofs.referents.ReferentIndex.remove_all.Given as goal

abbrev pub invariant-loop-name : goal.invariant-loop-name
invariant-loop-name l = (name : Name) → map.get l.self name ≡ out_of (take l.name-index l.names) (map.get l.fn.self) name
