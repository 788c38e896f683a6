use Rattle.std.proofs.Common.{◌≡◌, ◌∙◌, true, ap, subst, sym}
use Rattle.std.specs.Prelude.{List}
use Rattle.lrs_measure.specs.Lists.{each_two}
use Rattle.lrs_events.specs.declared.class.Class.{Class}
use Rattle.lrs_events.specs.declared.side.Side.TheVariants.{L}
use Rattle.lrs_machine.specs.declared.image.Image.{Image}
use Rattle.lrs_machine.specs.Segments.{segment_fault}
use Rattle.lrs_machine.specs.Sound.{class_before}
use Rattle.lrs_image.proofs.Tables.{classes_in_order}
use Rattle.lrs_report_answers.proofs.OfState.{classes_are}
use Rattle.lrs_report_answers.proofs.class_faults.class_fault.Goals as goal

pub fault_of-requires : goal.fault_of-requires
fault_of-requires c = subst (λ (i : Image). each_two class_before i.classes ≡ true) (sym c.kept.ensures.image) (classes_in_order c.args.inventory.now c.kept.ensures.sound)

pub returns : goal.returns
returns c =
    let i = c.args.inventory.now in
    c.fault_of.ensures
    ∙ ap (λ (j : Image). segment_fault j.classes c.args.wanted.now L) c.kept.ensures.image
    ∙ ap (λ (classes : List Class). segment_fault classes c.args.wanted.now L) (sym (classes_are i))
