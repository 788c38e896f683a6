use Rattle.std.proofs.Common.{drop, ap, ◌∙◌}
use Rattle.lrs_measure.specs.Lists.{each_two}
use Rattle.lrs_measure.specs.Texts.{name_before}
use Rattle.lrs_image.specs.OpenLists.{image_of}
use Rattle.lrs_image.proofs.Tables.{assets_in_order}
use Rattle.lrs_report_answers.specs.Tally.Counts.{names_of, with_entered, with_gone}
use Rattle.lrs_report_answers.proofs.Tally.Growing.{names_ordered, class_placed, all_grown, entered_counted, gone_counted}
use Rattle.lrs_report_answers.proofs.tallies.counts.Counts.catch_up.Goals as goal

pub put_some_class-requires-clause-order : goal.put_some_class-requires-clause-order
put_some_class-requires-clause-order c = class_placed (image_of c.args.kept.now) c.args.class c.args.self.now c.requires.behind

pub count_rows-requires-clause-order : goal.count_rows-requires-clause-order
count_rows-requires-clause-order c =
    ap (λ cs. each_two name_before (names_of cs)) c.put_some_class.ensures ∙ names_ordered (image_of c.args.kept.now) c.args.class c.args.self.now c.requires.behind

pub count_rows-requires-clause-assets : goal.count_rows-requires-clause-assets
count_rows-requires-clause-assets c = assets_in_order (image_of c.args.kept.now) c.requires.behind.sound

pub count_rows-requires-clause-entered : goal.count_rows-requires-clause-entered
count_rows-requires-clause-entered c = entered_counted (image_of c.args.kept.now) c.args.class c.args.self.now c.requires.behind

pub count_rows-requires-clause-gone : goal.count_rows-requires-clause-gone
count_rows-requires-clause-gone c = gone_counted (image_of c.args.kept.now) c.args.class c.args.self.now c.requires.behind

pub returns : goal.returns
returns c =
    let i = image_of c.args.kept.now in
    let old = c.args.self.now in
    record {
      classes = c.count_rows.ensures.classes ∙ ap (λ cs. with_gone i.assets (drop old.gone i.gone) (with_entered i.assets (drop old.entered i.entered) cs)) c.put_some_class.ensures ∙ all_grown i c.args.class old c.requires.behind;
      entered = c.count_rows.ensures.entered;
      gone = c.count_rows.ensures.gone;
    }
