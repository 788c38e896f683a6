use Rattle.lrs_image.specs.OpenLists.{image_of}
use Rattle.lrs_image.proofs.Tables.{links_in_order}
use Rattle.lrs_drafts.proofs.ground.link_of.Goals as goal

pub find-requires : goal.find-requires
find-requires c = record { order = links_in_order (image_of c.args.kept.now) c.requires.sound }
