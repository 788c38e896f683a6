use Rattle.std.proofs.Common.{◌≡◌, ◌++◌, map, filter, take}
use Rattle.lrs_image_sound.specs.Ends.{start_of}
use Rattle.lrs_image_sound.specs.Pairs.{is_in}
use Rattle.lrs_image_sound.proofs.ends.push_starts.Given as goal

abbrev pub invariant-loop-part : goal.invariant-loop-part
invariant-loop-part l = l.ends.items ≡ l.initial.ends.items ++ map start_of (filter (is_in l.chunk) (take l.part-index l.parts))
