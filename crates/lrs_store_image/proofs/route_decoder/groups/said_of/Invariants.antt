use Rattle.std.proofs.Common.{◌≡◌, map, take}
use Rattle.lrs_store_tables.specs.Contents.Decoders.{OfRoute}
use Rattle.lrs_store_image.proofs.route_decoder.groups.said_of.Given as goal

abbrev pub invariant-loop-row : goal.invariant-loop-row
invariant-loop-row g l = l.said.items ≡ map (λ (r : OfRoute g.row.T.Denot). r.said) (take l.row-index l.row-items)
