use Rattle.std.proofs.Common.{sym, ◌∙◌}
use Rattle.sqlite_store.specs.Laws.{stays_at}
use Rattle.lrs_store.proofs.ReopenedLemmas.{found_held}
use Rattle.lrs_store.proofs.close.closed_files.Goals as goal

pub returns-else-is_broken : goal.returns-else-is_broken
returns-else-is_broken g c = λ content found.
    let old = c.args.keeper.conn in
    let unbroken = sym c.has_failed-is_broken.ensures ∙ c.if-is_broken.false in
    found_held old c.in-Ok.files c.in-Ok.ensures.copied (c.prove_serving.ensures.ready unbroken) c.prove_serving.ensures.live (stays_at old.store g.met.D.Disk.seen_may_stay) content found
