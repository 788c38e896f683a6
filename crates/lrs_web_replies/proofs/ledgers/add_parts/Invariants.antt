use Rattle.std.proofs.Common.{Some, take}
use Rattle.std.specs.List.{flat_map}
use Rattle.std.specs.Io.KnownBytes.{Appends}
use Rattle.lrs_image.specs.OpenLists.{image_of}
use Rattle.lrs_web_replies.specs.Parts.{gone_part}
use Rattle.lrs_web_replies.proofs.ledgers.add_parts.Given as goal

abbrev pub invariant-loop-gone : goal.invariant-loop-gone
invariant-loop-gone l = Appends (Some l.fn.bytes.items) (Some l.bytes.items) (flat_map (gone_part l.wanted (image_of l.kept)) (take l.gone-index l.ledger))
