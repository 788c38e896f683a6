use Rattle.std.proofs.Common.{Some, take}
use Rattle.std.specs.List.{flat_map}
use Rattle.std.specs.Io.KnownBytes.{Appends}
use Rattle.lrs_web_replies.specs.Parts.{left_part}
use Rattle.lrs_web_replies.proofs.ledgers.add_each_left.Given as goal

abbrev pub invariant-loop-gone : goal.invariant-loop-gone
invariant-loop-gone l = Appends (Some l.fn.bytes.items) (Some l.bytes.items) (flat_map (left_part l.asset l.edits) (take l.gone-index l.ledger))
