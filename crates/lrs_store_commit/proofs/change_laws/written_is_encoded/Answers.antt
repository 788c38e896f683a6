use Rattle.lrs_store_commit.proofs.Laws.ChangeWritten.{written_is_encoded}
use Rattle.lrs_store_commit.proofs.change_laws.written_is_encoded.Goals as goal

pub returns : goal.returns
returns c = written_is_encoded
