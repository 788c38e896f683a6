use Rattle.std.proofs.Common.{subst}
use Rattle.sqlite.specs.Files.{file_state}
use Rattle.sqlite_store.specs.Laws.{settled_at, stays_at}
use Rattle.lrs_store_tables.specs.HeldRows.{MayHold}
use Rattle.lrs_store.specs.TableKeeper.HeldImages.{finds_left}
use Rattle.lrs_store.proofs.ReopenedLemmas.{reopened, one_content}
use Rattle.lrs_store.proofs.restart.close_and_open.Goals as goal

pub returns-in-Ok-open_files : goal.returns-in-Ok-open_files
returns-in-Ok-open_files g c = record {
  files = c.in-Ok.files;
  copied = c.in-Ok.ensures.copied;
  opened = c.in-Ok-open_files.ensures.found;
  found = λ unbroken clean after content.
      let old = c.args.tables.conn in
      let new = c.in-Ok-open_files.opened.conn in
      let copied = c.in-Ok.ensures.copied clean in
      let found = reopened old new c.in-Ok.files copied (c.in-Ok-open_files.ensures.found after) (c.prove_serving.ensures.ready unbroken) c.prove_serving.ensures.live (stays_at old.store g.met.D.Disk.seen_may_stay copied.was_open) in
      let there = finds_left (file_state new).may_leave (file_state new).committed.trees after (stays_at new.store g.met.D.Disk.seen_may_stay (c.in-Ok-open_files.ensures.open after)) in (
        found content,
        λ had. subst (MayHold (file_state new)) (one_content old new c.in-Ok.files (λ db left. settled_at old.store g.met.D.Disk.seen_may_stay db copied.was_open left) there.0 content (found there.0 there.1) had) there.1,
      );
}
