use Rattle.std.proofs.Common.{refl}
use Rattle.sqlite_trees.specs.View.{doubt}
use Rattle.lrs_store.proofs.memory.new_store.Goals as goal

pub returns-in-Ok-make_store-clause-made : goal.returns-in-Ok-make_store-clause-made
unfolding doubt
returns-in-Ok-make_store-clause-made c = c.in-Ok-make_store.ensures.made refl
