use Rattle.std.proofs.Common.{Bor, refl}
use Rattle.std.specs.Option.{option_map}
use Rattle.lrs_measure.specs.Texts.{Name}
use Rattle.lrs_image.specs.OpenLists.{image_of}
use Rattle.lrs_report_lists.specs.Lists.{marks_text}
use Rattle.lrs_report_lists.proofs.Writing.{appends_last}
use Rattle.lrs_report_lists.proofs.marks.write_marks.Goals as goal

pub returns : goal.returns
returns g c =
    appends_last c.write_route_lines.result (g.W.Write.contents c.args.writer.now) (g.W.Write.contents c.write_all.new.self) (g.W.Write.contents c.write_route_lines.new.writer) _ _ (marks_text (option_map (λ (n : Bor Name). n.now) c.args.route) (image_of c.args.kept.now)) c.in_ok-write_all.ensures.bytes c.write_route_lines.ensures refl
