use Rattle.std.proofs.Common.{◌∷◌, ◌++◌, [], ap, ◌∙◌}
use Rattle.std.specs.Prelude.{codes, List, ℕ}
use Rattle.lrs_measure.specs.FractionTexts.{metres_text}
use Rattle.lrs_events.specs.Names.{side_text}
use Rattle.lrs_report.specs.Drawings.Strips.{title_text}
use Rattle.lrs_report.proofs.Writing.{appends_more, appends_last}
use Rattle.lrs_report.proofs.Drawings.StripColumns.{title_parts}
use Rattle.lrs_report.proofs.diagrams.strip_text.write_title.Goals as goal

pub returns : goal.returns
returns g c =
    let start = g.W.Write.contents c.args.writer.now in
    let first = g.W.Write.contents c.write_all.new.self in
    let second = g.W.Write.contents c.write_all-2.new.self in
    let side = side_text c.args.side in
    let one = appends_more start first second _ _ c.in_ok-write_all.ensures.bytes c.in_ok-write_all-2.ensures.bytes in
    appends_last c.writeln.result start second (g.W.Write.contents c.writeln.new.self) _ _ (title_text c.args.route.now c.args.side c.args.len) one c.writeln.ensures.bytes
    ((λ i. codes "STRIP " ++ (c.bytes.ensures.text i ++ 32 ∷ (side ++ 32 ∷ (metres_text (c.new-length.ensures i) ++ 10 ∷ [])))) ∙ ap (λ (z : List ℕ). codes "STRIP " ++ z) (title_parts c.args.route.now side (metres_text c.args.len)))
