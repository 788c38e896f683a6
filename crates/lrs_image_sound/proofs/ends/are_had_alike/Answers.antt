use Rattle.std.proofs.Common.{◌++◌, refl, sym, ◌∙◌, arith}
use Rattle.std.proofs.lemmas.Bool.{false≢true}
use Rattle.lrs_image_sound.proofs.Chunked.{all_chunks, one_chunk, one_more}
use Rattle.lrs_image_sound.proofs.ends.are_had_alike.Goals as goal

pub returns-then-not-branch : goal.returns-then-not-branch
returns-then-not-branch c =
    let xs = c.args.first.now ++ c.args.more.now in
    (λ h. absurd (false≢true h), λ h. absurd (false≢true (sym c.if-not-branch.true ∙ c.in_ok-are_alike_in.ensures.1 (one_chunk c.loop-chunk.chunk xs c.args.all.now h))))

pub loop-chunk-preserved : goal.loop-chunk-preserved
loop-chunk-preserved c = one_more c.loop-chunk.chunk (c.args.first.now ++ c.args.more.now) c.args.all.now c.loop-chunk.invariant (c.in_ok-are_alike_in.ensures.0 c.if-not-branch.false)

pub returns : goal.returns
returns c =
    let last = c.loop-chunk-test.false in
    (λ h. all_chunks (c.args.first.now ++ c.args.more.now) c.args.all.now (λ k below. c.loop-chunk.invariant k (omega (arith, below, last))), λ h. refl)
