use Rattle.std.proofs.Common.{sym, ◌∙◌}
use Rattle.std.specs.List.{find}
use Rattle.std.specs.Cmp.Lexicographic.{texts_ties}
use Rattle.lrs_image.specs.OpenLists.{image_of}
use Rattle.lrs_image.proofs.Tables.{routes_in_order}
use Rattle.lrs_report_answers.proofs.route.row_of.Goals as goal

pub find-requires : goal.find-requires
find-requires c = record { order = routes_in_order (image_of c.args.kept.now) c.requires.sound }

pub returns : goal.returns
returns c = c.find.ensures ∙ (λ j. find (λ e. sym (texts_ties e.route.name c.args.name.now) j) (image_of c.args.kept.now).routes)
