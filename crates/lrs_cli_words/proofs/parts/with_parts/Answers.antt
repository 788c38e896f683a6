use Rattle.clap.specs.Words.{app_of}
use Rattle.lrs_cli_words.specs.Parts.{with_part}
use Rattle.lrs_cli_words.proofs.Folded.{one_more}
use Rattle.lrs_cli_words.proofs.parts.with_parts.Goals as goal

pub loop-part-preserved : goal.loop-part-preserved
loop-part-preserved c = record {
  so_far = one_more with_part (app_of c.args.line) _ _ c.args.parts.now c.loop-part.part-index _ c.loop-part-test.true c.loop-part.invariant.so_far c.in_ok-line.ensures.app;
  local = c.in_ok-line.ensures.local;
}
