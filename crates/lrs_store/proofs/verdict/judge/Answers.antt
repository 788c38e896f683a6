use Rattle.lrs_store.proofs.JudgedLemmas.{unsound_there, sound_there}
use Rattle.lrs_store.proofs.verdict.judge.Goals as goal

pub returns-in-Ok-clause-unsound : goal.returns-in-Ok-clause-unsound
returns-in-Ok-clause-unsound g c t is =
    unsound_there c.args.store.now c.rollback.new.self c.rows_of.new.store c.in-Ok.rows c.rollback.ensures.undone
    (g.met.S.Store.broken_if_shut c.rollback.new.self) (g.met.S.Store.settled c.rows_of.new.store) c.in-Ok.ensures.found t (c.fault_of.ensures.unsound t is)

pub returns-in-Ok-clause-store : goal.returns-in-Ok-clause-store
returns-in-Ok-clause-store g c is =
    sound_there c.args.store.now c.rollback.new.self c.rows_of.new.store c.in-Ok.rows c.rollback.ensures.undone
    (g.met.S.Store.broken_if_shut c.rollback.new.self) (g.met.S.Store.settled c.rows_of.new.store) c.in-Ok.ensures.found g.S.Store.faults (c.fault_of.ensures.store is)
