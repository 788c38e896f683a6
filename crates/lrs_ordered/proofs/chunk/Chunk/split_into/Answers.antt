use Rattle.std.proofs.Common.{[], ◌∷◌, ◌++◌, length, reverse, append_assoc, sym, ap, ◌∙◌, arith}
use Rattle.std.proofs.lemmas.Grind.{common_steps}
use Rattle.std.proofs.lemmas.List.{length-append, reverse-append}
use Rattle.lrs_ordered.proofs.chunk.Chunk.split_into.Goals as goal

pub loop-all-preserved : goal.loop-all-preserved
loop-all-preserved g c =
    let before = c.loop-all.invariant in
    let row = c.pop.result in
    let front = c.pop.new.self in
    let rear = c.loop-all.rear in
    let less = ap length c.pop.ensures ∙ length-append front (row ∷ []) in
    let more = ap length c.push.ensures ∙ length-append rear (row ∷ []) in
    let all = before.all in
    let test = c.loop-all-test.true in
    record {
      all = omega (arith, less, all);
      place = omega (arith, test);
      most = before.most;
      sum = let sum = before.sum in omega (arith, more, sum, test);
      whole = ap (λ z. front ++ z) (ap reverse c.push.ensures ∙ reverse-append rear (row ∷ [])) ∙ sym (append_assoc front (row ∷ []) (reverse rear)) ∙ ap (λ z. z ++ reverse rear) (sym c.pop.ensures) ∙ before.whole;
    }

pub returns-clause-front : goal.returns-clause-front
returns-clause-front g c = grind (arith, common_steps)

pub returns-clause-rear : goal.returns-clause-rear
returns-clause-rear g c = grind (arith, common_steps)

pub returns-clause-len : goal.returns-clause-len
returns-clause-len g c = grind (arith, common_steps)

pub returns-clause-len_rear : goal.returns-clause-len_rear
returns-clause-len_rear g c = grind (arith, common_steps)
