use Rattle.std.proofs.Common.{◌≡◌, take}
use Rattle.std.specs.List.{flat_map}
use Rattle.lrs_drafts.specs.Holdings.{stretch_of}
use Rattle.lrs_drafts.proofs.holdings.stretches_among.Given as goal

abbrev pub invariant-loop-stretch : goal.invariant-loop-stretch
invariant-loop-stretch l = l.found.items ≡ flat_map (stretch_of l.asset) (take l.stretch-index l.held)
