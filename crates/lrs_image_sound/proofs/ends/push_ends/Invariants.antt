use Rattle.std.proofs.Common.{◌≡◌, ◌++◌, map, filter, take}
use Rattle.lrs_image_sound.specs.Ends.{end_of}
use Rattle.lrs_image_sound.specs.Pairs.{is_in}
use Rattle.lrs_image_sound.proofs.ends.push_ends.Given as goal

abbrev pub invariant-loop-part : goal.invariant-loop-part
invariant-loop-part l = l.ends.items ≡ l.initial.ends.items ++ map end_of (filter (is_in l.chunk) (take l.part-index l.parts))
