use Rattle.lrs_image.specs.OpenLists.{image_of}
use Rattle.lrs_image.proofs.Tables.{routes_in_order}
use Rattle.lrs_drafts.proofs.routes.row_of.Goals as goal

pub find-requires : goal.find-requires
find-requires c = record { order = routes_in_order (image_of c.args.kept.now) c.requires.sound }
