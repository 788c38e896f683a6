use Rattle.lrs_image.specs.OpenLists.{image_of}
use Rattle.lrs_image.proofs.Tables.{assets_in_order}
use Rattle.lrs_report_answers.proofs.HeldBy.{holders_are}
use Rattle.lrs_report_answers.proofs.hits.holders.Goals as goal

pub hits_of-requires : goal.hits_of-requires
hits_of-requires c = record { order = assets_in_order (image_of c.args.kept.now) c.requires.sound }

pub returns : goal.returns
returns c =
    holders_are (image_of c.args.kept.now) c.args.row.now c.requires.sound c.requires.known c.args.at c.in_ok-rows.rows.items c.deref.result.now c.hits_of.result c.deref.ensures.value c.in_ok-rows.ensures.rows c.in_ok-rows.ensures.order c.hits_of.ensures
