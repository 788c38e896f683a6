use Rattle.std.proofs.Common.{sym, subst, ◌∙◌}
use Rattle.sqlite_trees.proofs.Doubt.{clean_of}
use Rattle.sqlite_store.specs.FileStore.{view}
use Rattle.sqlite_store.specs.Laws.{settled_at}
use Rattle.sqlite.specs.Files.{AreFound}
use Rattle.lrs_store_questions.specs.Readings.{HasContent}
use Rattle.lrs_store_questions.proofs.access.files_for_questions.Goals as goal

pub returns-in-None-clause-held : goal.returns-in-None-clause-held
returns-in-None-clause-held g c x may =
    let made = c.in-Ok.ensures.ok (clean_of (view c.in-Ok.store).is_clean may.0) in
    let is = settled_at c.in-Ok.store g.met.D.Disk.seen_may_stay may.1.0 made.is_open may.1.1 ∙ sym made.settled in
    record { trees = (view c.in-Ok.store).trees; reads = made.found; holds = made.holds; content = subst (HasContent x) is may.1.2 }

pub returns-in-None-clause-still : goal.returns-in-None-clause-still
returns-in-None-clause-still g c clean found may =
    let made = c.in-Ok.ensures.ok clean in
    let is = settled_at c.in-Ok.store g.met.D.Disk.seen_may_stay found made.is_open may ∙ sym made.settled in
    (subst (AreFound g.D.Disk c.args.files) (sym is) made.found, λ db held. is ∙ made.holds db held)

pub returns-in-Some-clause-unharmed : goal.returns-in-Some-clause-unharmed
returns-in-Some-clause-unharmed g c clean found may =
    let made = c.in-Ok.ensures.ok clean in
    let is = settled_at c.in-Ok.store g.met.D.Disk.seen_may_stay found made.is_open may ∙ sym made.settled in
    (subst (AreFound g.D.Disk c.args.files) (sym is) made.found, λ db held. is ∙ made.holds db held)
