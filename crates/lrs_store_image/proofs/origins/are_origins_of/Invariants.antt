use Rattle.std.proofs.Common.{◌≡◌, drop}
use Rattle.lrs_store_tables.specs.Contents.Content.{are_origins_of}
use Rattle.lrs_store_image.proofs.origins.are_origins_of.Given as goal

abbrev pub invariant-loop-i : goal.invariant-loop-i
invariant-loop-i l = are_origins_of l.assets l.origins ≡ are_origins_of (drop l.i l.assets) (drop l.i l.origins)
