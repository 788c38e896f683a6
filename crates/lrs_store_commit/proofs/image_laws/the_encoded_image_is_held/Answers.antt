use Rattle.lrs_store_commit.proofs.Laws.Restored.{encoded_holds}
use Rattle.lrs_store_commit.proofs.image_laws.the_encoded_image_is_held.Goals as goal

pub returns : goal.returns
returns c = encoded_holds
