use Rattle.lrs_store_commit.proofs.Laws.Named.{content_has_texts}
use Rattle.lrs_store_commit.proofs.image_laws.texts_of_the_content_are_of_their_kinds.Goals as goal

pub returns : goal.returns
returns c = content_has_texts
