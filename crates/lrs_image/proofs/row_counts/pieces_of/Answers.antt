use Rattle.std.proofs.Common.{ap, ◌∙◌}
use Rattle.lrs_element.specs.Course.{piece_count}
use Rattle.lrs_image.proofs.row_counts.pieces_of.Goals as goal

pub returns : goal.returns
returns c = c.pieces.ensures.fewest.fewest ∙ ap piece_count c.pieces.ensures.course
