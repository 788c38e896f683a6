use Rattle.std.proofs.Common.{◌+◌, ◌∙◌, ap, arith}
use Rattle.std.proofs.lemmas.Grind.{common_steps}
use Rattle.lrs_sheet.proofs.Answering.{wrote-more, tallied-more, whole}
use Rattle.lrs_sheet.proofs.Done.{count-more-answer}
use Rattle.lrs_sheet.proofs.queue.write_answers.Goals as goal

pub loop-place-preserved : goal.loop-place-preserved
loop-place-preserved g c = record {
  written = wrote-more c.args.commands.now c.args.answers.now c.loop-place.place c.index-commands-place.result _ c.requires.few c.loop-place-test.true c.index-commands-place.is (grind (arith, common_steps, c.loop-place-test.true))
      (g.W.Write.contents c.args.writer.now) (g.W.Write.contents c.loop-place.writer) (g.W.Write.contents c.write_answer.new.writer) c.loop-place.invariant.written c.in_ok-write_answer.ensures.written;
  counted = tallied-more c.args.commands.now c.args.answers.now c.loop-place.place c.index-commands-place.result _ c.requires.few c.loop-place-test.true c.index-commands-place.is (grind (arith, common_steps, c.loop-place-test.true))
      c.args.tally.now c.loop-place.tally c.write_answer.new.tally c.loop-place.invariant.counted c.in_ok-write_answer.ensures.counted;
  count = rw c.in_ok-write_answer.ensures.counted (count-more-answer c.loop-place.tally _ ∙ ap (λ n. n + 1) c.loop-place.invariant.count ∙ omega arith);
}

pub returns-clause-written : goal.returns-clause-written
returns-clause-written g c = rw (← whole c.args.commands.now c.args.answers.now c.loop-place.place (omega (arith, c.loop-place-test.false)) c.loop-place.auto.place-end) c.loop-place.invariant.written

pub returns-clause-counted : goal.returns-clause-counted
returns-clause-counted g c = rw (← whole c.args.commands.now c.args.answers.now c.loop-place.place (omega (arith, c.loop-place-test.false)) c.loop-place.auto.place-end) c.loop-place.invariant.counted
