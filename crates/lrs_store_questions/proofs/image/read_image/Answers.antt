use Rattle.std.proofs.Common.{Err, refl, subst, sym}
use Rattle.sqlite_trees.specs.View.{IsClean}
use Rattle.lrs_store_questions.specs.Readings.{IsTold, Says}
use Rattle.lrs_store_questions.proofs.ReadLemmas.{may_tell, there, told, told_ok}
use Rattle.lrs_store_questions.proofs.image.read_image.Goals as goal

pub returns-clause-there : goal.returns-clause-there
returns-clause-there g c content says =
    there c.args.store.now c.rollback.new.self c.read_content.new.store content c.rollback.ensures.undone (g.met.S.Store.broken_if_shut c.rollback.new.self) (c.read_content.ensures.seen content says)
    (g.met.S.Store.settled c.read_content.new.store)

pub returns-clause-told : goal.returns-clause-told
returns-clause-told g c =
    told_ok c.read_content.result (IsClean (g.S.Store.view c.read_content.new.store) → IsTold g.S.Store.view c.read_content.new.store) (λ content says.
    told c.args.store.now c.rollback.new.self c.read_content.new.store content c.rollback.ensures.undone (g.met.S.Store.broken_if_shut c.rollback.new.self) (c.read_content.ensures.seen content says))

pub returns-clause-named : goal.returns-clause-named
returns-clause-named g c = λ t is.
    may_tell c.args.store.now c.rollback.new.self c.read_content.new.store (Err t) c.rollback.ensures.undone (g.met.S.Store.broken_if_shut c.rollback.new.self)
    (c.read_content.ensures.seen (Err t) (subst (λ r. Says r (Err t)) (sym is) refl)) (g.met.S.Store.settled c.read_content.new.store) (g.met.S.Store.stays c.read_content.new.store)
