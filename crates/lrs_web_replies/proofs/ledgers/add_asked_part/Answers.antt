use Rattle.lrs_image.specs.OpenLists.{image_of}
use Rattle.lrs_image.proofs.Tables.{assets_in_order}
use Rattle.lrs_web_replies.proofs.ledgers.add_asked_part.Goals as goal

pub asset_numbered-asset-requires : goal.asset_numbered-asset-requires
asset_numbered-asset-requires c = record { order = assets_in_order (image_of c.args.kept.now) c.requires.sound }
