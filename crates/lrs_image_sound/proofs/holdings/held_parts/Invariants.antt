use Rattle.std.proofs.Common.{take}
use Rattle.lrs_image_sound.proofs.Rowed.{AreMade}
use Rattle.lrs_image_sound.proofs.holdings.held_parts.Given as goal

abbrev pub invariant-loop-route_row : goal.invariant-loop-route_row
invariant-loop-route_row l = AreMade (take l.route_row-index l.routes) l.held.items
