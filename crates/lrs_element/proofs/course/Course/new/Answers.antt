use Rattle.std.proofs.Common.{sym}
use Rattle.lrs_element.proofs.Finding.{filled_from_none}
use Rattle.lrs_element.proofs.course.Course.new.Goals as goal

pub first_repeated-requires : goal.first_repeated-requires
first_repeated-requires g c = filled_from_none (g.L.KnownLinks.links c.args.links.now) c.args.pieces.now (sym c.in_default-first_bad_piece.ensures)

pub fewest_of-requires : goal.fewest_of-requires
fewest_of-requires g c = filled_from_none (g.L.KnownLinks.links c.args.links.now) c.args.pieces.now (sym c.in_default-first_bad_piece.ensures)
