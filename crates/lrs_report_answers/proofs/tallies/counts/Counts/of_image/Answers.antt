use Rattle.std.proofs.Common.{ap, ◌∙◌}
use Rattle.lrs_measure.specs.Lists.{each_two}
use Rattle.lrs_measure.specs.Texts.{name_before}
use Rattle.lrs_image.specs.OpenLists.{image_of}
use Rattle.lrs_image.proofs.Tables.{assets_in_order, classes_in_order}
use Rattle.lrs_report_answers.specs.Tally.Counts.{names_of, with_entered, with_gone}
use Rattle.lrs_report_answers.proofs.Tally.Counted.{first_in_order}
use Rattle.lrs_report_answers.proofs.Tally.Summed.{all_counted}
use Rattle.lrs_report_answers.proofs.tallies.counts.Counts.of_image.Goals as goal

pub count_rows-requires-clause-order : goal.count_rows-requires-clause-order
count_rows-requires-clause-order c =
    ap (λ cs. each_two name_before (names_of cs)) c.in_ok-no_counts.ensures ∙ first_in_order (image_of c.args.kept.now).classes (classes_in_order (image_of c.args.kept.now) c.requires.sound)

pub count_rows-requires-clause-assets : goal.count_rows-requires-clause-assets
count_rows-requires-clause-assets c = assets_in_order (image_of c.args.kept.now) c.requires.sound

pub returns : goal.returns
returns c =
    let i = image_of c.args.kept.now in
    record {
      classes = c.count_rows.ensures.classes ∙ ap (λ cs. with_gone i.assets i.gone (with_entered i.assets i.entered cs)) c.in_ok-no_counts.ensures ∙ all_counted i c.requires.sound;
      entered = c.count_rows.ensures.entered;
      gone = c.count_rows.ensures.gone;
    }
