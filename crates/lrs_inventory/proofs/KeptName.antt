-- A route that keeps its name owes no keys.
use Rattle.std.proofs.Common.{◌≡◌}
use Rattle.std.proofs.lemmas.Bool.{both_ways}
use Rattle.std.specs.Cmp.Lexicographic.{bytes_decides}
use Rattle.lrs_inventory.specs.Prelude.{same_name, RouteRow, RouteChange}
use Rattle.lrs_image.specs.Change.{IsRenamedWhole}

pub keeps_name : (c : RouteChange) (e : RouteRow) → c.route ≡ c.name → IsRenamedWhole c e
keeps_name c e same apart = absurd (both_ways (same_name c.route c.name) apart ((bytes_decides c.route c.name).1 same))
