use Rattle.std.proofs.Common.{◌≤◌, ◌+◌, ◌∙◌, ap, length, take, drop, rules, ℕ}
use Rattle.std.proofs.lemmas.List.{length-take-le}
use Rattle.lrs_sheet.specs.Replies.{answer_count}
use Rattle.std.proofs.lemmas.Result.{err_from_is_err_and}
use Rattle.lrs_machine.specs.Image.{state_of}
use Rattle.lrs_sheet.proofs.Done.{along, leaves-after}
use Rattle.lrs_sheet.proofs.Together.{counts_done, does_more, stops_among, the_rest, within_rest}
use Rattle.lrs_sheet.proofs.queue.do_all.Goals as goal

pub returns-in_err-done-clause-stops : goal.returns-in_err-done-clause-stops
returns-in_err-done-clause-stops g c =
    let p = err_from_is_err_and c.from_residual.result c.from_residual.ensures.1 in
    rw (p.1, p.2)
    (stops_among g.K.Holder.may_hold c.args.commands.now c.loop-done.done c.args.desk.now c.loop-done.desk (g.W.Write.contents c.args.writer.now) (g.W.Write.contents c.loop-done.writer) c.args.tally.now c.loop-done.tally c.loop-done-test.true c.loop-done.invariant.does c.loop-done.invariant.desk
    c.do_first.new.desk (g.W.Write.contents c.do_first.new.writer) c.in_err-done.field-0.0 (rw (the_rest c.loop-done.done c.args.commands.now) at c.in_err-done.ensures.stops))

pub returns-in_err-done-clause-desk : goal.returns-in_err-done-clause-desk
returns-in_err-done-clause-desk g c =
    leaves-after (Unit {0}) ℕ c.args.desk.now c.loop-done.desk c.do_first.new.desk c.in_err-done.field-0.0 c.from_residual.result (search rules) (λ is. rw is at c.in_err-done.ensures.stops) c.loop-done.invariant.desk c.in_err-done.ensures.desk

pub loop-done-preserved : goal.loop-done-preserved
loop-done-preserved g c =
    let few : c.in_ok-done.field-0 ≤ length (drop c.loop-done.done c.args.commands.now) = rw (the_rest c.loop-done.done c.args.commands.now) at c.in_ok-done.ensures.few.1 in
    let does = does_more g.K.Holder.may_hold c.args.commands.now c.loop-done.done c.args.desk.now c.loop-done.desk (g.W.Write.contents c.args.writer.now) (g.W.Write.contents c.loop-done.writer) c.args.tally.now c.loop-done.tally c.loop-done-test.true c.loop-done.invariant.does c.loop-done.invariant.desk
    c.in_ok-done.field-0 c.do_first.new.desk (g.W.Write.contents c.do_first.new.writer) c.do_first.new.tally (rw (the_rest c.loop-done.done c.args.commands.now) at c.in_ok-done.ensures.does) in
    let fits = within_rest c.loop-done.done c.in_ok-done.field-0 c.args.commands.now c.loop-done.invariant.few few in
    record {
      few = fits;
      does = does;
      desk = along c.args.desk.now c.loop-done.desk c.do_first.new.desk c.loop-done.invariant.desk c.in_ok-done.ensures.desk;
      count = counts_done c.args.desk.now.limits (take (c.loop-done.done + c.in_ok-done.field-0) c.args.commands.now) (state_of c.args.desk.now.image) (state_of c.do_first.new.desk.image) (g.W.Write.contents c.args.writer.now) (g.W.Write.contents c.do_first.new.writer) c.args.tally.now c.do_first.new.tally does
          ∙ ap (λ k. answer_count c.args.tally.now + k) (length-take-le (c.loop-done.done + c.in_ok-done.field-0) c.args.commands.now fits);
    }
