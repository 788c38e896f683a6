use Rattle.std.proofs.Common.{Some, take}
use Rattle.std.specs.List.{flat_map}
use Rattle.std.specs.Io.KnownBytes.{Appends}
use Rattle.lrs_web_replies.specs.Parts.{entered_part}
use Rattle.lrs_web_replies.proofs.ledgers.add_each_entered.Given as goal

abbrev pub invariant-loop-part : goal.invariant-loop-part
invariant-loop-part l = Appends (Some l.fn.bytes.items) (Some l.bytes.items) (flat_map (entered_part l.asset l.edits) (take l.part-index l.entered))
