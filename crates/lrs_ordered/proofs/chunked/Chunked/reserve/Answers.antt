use Rattle.std.proofs.Common.{arith}
use Rattle.std.proofs.lemmas.Grind.{common_steps}
use Rattle.lrs_ordered.proofs.chunked.Chunked.reserve.Goals as goal

pub returns-then-self-more-2-clause-rows : goal.returns-then-self-more-2-clause-rows
returns-then-self-more-2-clause-rows g c = grind (arith, common_steps)

pub returns-then-self-more-2-clause-kept : goal.returns-then-self-more-2-clause-kept
returns-then-self-more-2-clause-kept g c = grind (arith, common_steps)

pub returns-then-self-more-2-clause-room : goal.returns-then-self-more-2-clause-room
returns-then-self-more-2-clause-room g c = grind (arith, common_steps)

pub returns-in_ok-make_spares-clause-rows : goal.returns-in_ok-make_spares-clause-rows
returns-in_ok-make_spares-clause-rows g c = grind (arith, common_steps)

pub returns-in_ok-make_spares-clause-kept : goal.returns-in_ok-make_spares-clause-kept
returns-in_ok-make_spares-clause-kept g c = grind (arith, common_steps)

pub returns-in_ok-make_spares-clause-room : goal.returns-in_ok-make_spares-clause-room
returns-in_ok-make_spares-clause-room g c = grind (arith, common_steps)

pub returns-else-self-more-clause-rows : goal.returns-else-self-more-clause-rows
returns-else-self-more-clause-rows g c = grind (arith, common_steps)

pub returns-else-self-more-clause-kept : goal.returns-else-self-more-clause-kept
returns-else-self-more-clause-kept g c = grind (arith, common_steps)

pub returns-else-self-more-clause-room : goal.returns-else-self-more-clause-room
returns-else-self-more-clause-room g c = grind (arith, common_steps)
