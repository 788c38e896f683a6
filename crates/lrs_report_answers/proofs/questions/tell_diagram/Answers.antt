use Rattle.std.proofs.Common.{List, Ok, refl, subst}
use Rattle.lrs_measure.specs.Texts.{Name}
use Rattle.lrs_image.specs.OpenLists.{image_of}
use Rattle.lrs_machine.specs.declared.image.Image.{Image}
use Rattle.lrs_report_answers.specs.DrawnRows.{IsDrawn}
use Rattle.lrs_report_answers.proofs.questions.tell_diagram.Goals as goal

pub returns-clause-answer : goal.returns-clause-answer
returns-clause-answer c = (
  c.in_ok-drawn.drawn,
  subst (λ (i : Image). IsDrawn i c.args.route c.args.classes c.args.from c.args.to (Ok c.in_ok-drawn.drawn)) c.kept.ensures.image
      (subst (λ (names : List Name). IsDrawn (image_of c.kept.result.now) c.args.route names c.args.from c.args.to (Ok c.in_ok-drawn.drawn)) c.as_slice.ensures c.in_ok-drawn.ensures),
  refl,
)
