use Rattle.sqlite.specs.Files.{file_state}
use Rattle.lrs_store.proofs.OpenedLemmas.{content_opened}
use Rattle.lrs_cli_files.proofs.Opened.{if_ok}
use Rattle.lrs_cli_files.proofs.stored.StoredFilesFiles.open.Goals as goal

pub returns-in-Ok : goal.returns-in-Ok
returns-in-Ok g c = record {
  opened = if_ok c.keep_at.result (λ k kept content may.
      let held = rw kept at may in
      content_opened _ (file_state c.in-Ok.tables.conn) (c.in-Ok.ensures.found held.0) content held) c.keep_at.ensures.kept;
}
