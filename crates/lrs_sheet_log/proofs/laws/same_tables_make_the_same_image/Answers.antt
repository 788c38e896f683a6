use Rattle.lrs_sheet_log.proofs.Tables.{tables_make_images}
use Rattle.lrs_sheet_log.proofs.laws.same_tables_make_the_same_image.Goals as goal

pub returns : goal.returns
returns c = tables_make_images
