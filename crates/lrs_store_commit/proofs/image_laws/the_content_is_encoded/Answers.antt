use Rattle.lrs_store_commit.proofs.Laws.Held.{content_is_encoded}
use Rattle.lrs_store_commit.proofs.image_laws.the_content_is_encoded.Goals as goal

pub returns : goal.returns
returns c = content_is_encoded
