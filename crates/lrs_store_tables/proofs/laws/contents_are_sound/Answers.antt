use Rattle.lrs_store_tables.proofs.Contents.Contents.{content_is_sound}
use Rattle.lrs_store_tables.proofs.laws.contents_are_sound.Goals as goal

pub returns : goal.returns
returns c = content_is_sound
