use Rattle.std.proofs.Common.{◌∙◌, sym, insert}
use Rattle.lrs_measure.specs.OrderedLists.{place_by}
use Rattle.lrs_measure.proofs.Insertions.{insert_by-place}
use Rattle.lrs_report_answers.specs.Tally.Counts.{no_count, count_before}
use Rattle.lrs_report_answers.proofs.tallies.tally.put_class.Goals as goal

pub returns : goal.returns
returns c =
    let counts = c.args.counts.now.items in
    let count = no_count c.args.class.now in
    c.insert_at.ensures
    ∙ (λ j. insert counts ((c.place_for-at.ensures.place ∙ (λ k. place_by (count_before (c.no_count-count.ensures k)) (c.deref.ensures.value k))) j) (c.no_count-count.ensures j))
    ∙ sym (insert_by-place count_before count counts)
