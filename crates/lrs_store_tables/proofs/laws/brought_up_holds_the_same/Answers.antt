use Rattle.lrs_store_tables.proofs.Contents.BroughtUp.{brought_up_holds_the_same}
use Rattle.lrs_store_tables.proofs.laws.brought_up_holds_the_same.Goals as goal

pub returns : goal.returns
returns c = brought_up_holds_the_same
