use Rattle.std.proofs.Common.{refl}
use Rattle.lrs_store_tables.specs.Contents.Content.{content_of}
use Rattle.lrs_store_tables.proofs.new_store.new_rows_hold_nothing.Goals as goal

pub returns : goal.returns
unfolding content_of
returns c = refl
