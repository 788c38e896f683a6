use Rattle.std.proofs.Common.{subst, sym}
use Rattle.lrs_machine.specs.Sound.{IsSound}
use Rattle.lrs_image.specs.OpenLists.{image_of}
use Rattle.lrs_image.proofs.Tables.{links_in_order}
use Rattle.lrs_report_answers.proofs.places.place.link_of.Goals as goal

pub find-requires : goal.find-requires
find-requires c = record { order = links_in_order (image_of c.kept.result.now) (subst IsSound (sym c.kept.ensures.image) c.kept.ensures.sound) }
