use Rattle.std.proofs.Common.{ap, sym, ◌∙◌, fold, take_all}
use Rattle.std.proofs.lemmas.List.Sums.{fold_more}
use Rattle.lrs_report_lists.specs.declared.length_lists.held_lengths.HeldLength.{HeldLength}
use Rattle.lrs_report_lists.specs.Length.Parts.{longer, nothing_held, reaches}
use Rattle.lrs_report_lists.proofs.Length.Swept.{swept}
use Rattle.lrs_report_lists.proofs.length_lists.held_lengths.held_length.Goals as goal

pub loop-entry-preserved : goal.loop-entry-preserved
loop-entry-preserved c =
    let step = longer (reaches c.args.reach) in
    record {
      so_far = c.longer-counted.ensures.more ∙ (λ i. step (c.loop-entry.invariant.so_far i) (c.entry-item.is i)) ∙ sym (fold_more step nothing_held c.args.entries.now c.loop-entry.entry-index c.entry-item.result c.loop-entry-test.true);
      fits = c.longer-counted.ensures.fits;
    }

pub returns : goal.returns
returns c = λ n ends.
    ap (λ (t : HeldLength). t.total) (c.loop-entry.invariant.so_far ∙ ap (fold (longer (reaches c.args.reach)) nothing_held) (take_all c.loop-entry.entry-index c.args.entries.now c.loop-entry-test.false))
    ∙ swept (reaches c.args.reach) n c.args.entries.now c.requires.order ends
