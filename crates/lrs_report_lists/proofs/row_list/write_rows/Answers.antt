use Rattle.lrs_image.specs.OpenLists.{image_of}
use Rattle.lrs_image.proofs.Tables.{assets_in_order, routes_in_order}
use Rattle.lrs_report_lists.proofs.row_list.write_rows.Goals as goal

pub write_asked-requires : goal.write_asked-requires
write_asked-requires g c = record { assets_order = assets_in_order (image_of c.args.kept.now) c.requires.sound; routes_order = routes_in_order (image_of c.args.kept.now) c.requires.sound }
