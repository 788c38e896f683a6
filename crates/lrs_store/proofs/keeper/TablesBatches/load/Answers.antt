use Rattle.std.proofs.Common.{Result, subst}
use Rattle.sqlite.specs.Held.{state}
use Rattle.lrs_machine.specs.declared.image.Image.{Image}
use Rattle.lrs_machine.specs.declared.table.Table.{Table}
use Rattle.lrs_store_tables.specs.StoredRows.{LeavesStore}
use Rattle.lrs_store_tables.specs.HeldRows.{MayHold}
use Rattle.lrs_store.specs.TableKeeper.KeeperView.{KeeperView}
use Rattle.lrs_store.proofs.TableKeeper.OpeningLemmas.{found_before}
use Rattle.lrs_store.proofs.TableKeeper.Sound.{found_sound}
use Rattle.lrs_store.proofs.keeper.TablesBatches.load.Goals as goal

pub returns-then-self-clause-found : goal.returns-then-self-clause-found
returns-then-self-clause-found g c = found_sound (state g.S.Store c.self.inside.conn)

pub returns-in-Ok-clause-found : goal.returns-in-Ok-clause-found
returns-in-Ok-clause-found g c = found_sound (state g.S.Store c.load_from.new.conn)

pub returns-in-Err-clause-found : goal.returns-in-Err-clause-found
returns-in-Err-clause-found g c = found_sound (state g.S.Store c.load_from.new.conn)

pub returns-in-Err-clause-unsound : goal.returns-in-Err-clause-unsound
returns-in-Err-clause-unsound g c t e = (c.in-Err.ensures.unsound t e).only

pub returns-in-Err-clause-named : goal.returns-in-Err-clause-named
returns-in-Err-clause-named g c t e = (c.in-Err.ensures.unsound t e).found

pub returns-in-Ok-clause-content : goal.returns-in-Ok-clause-content
returns-in-Ok-clause-content g c = subst (λ (v : KeeperView g.row.S.Denot g.row.R.Denot). (x : Result Image Table) → MayHold (state g.S.Store c.load_from.new.conn) x → MayHold (state g.S.Store v.conn) x) c.self.view_is (found_before (state g.S.Store c.self.inside.conn) (state g.S.Store c.load_from.new.conn) c.load_from.ensures.survives)

pub returns-in-Ok-clause-rows : goal.returns-in-Ok-clause-rows
returns-in-Ok-clause-rows g c = subst (λ (v : KeeperView g.row.S.Denot g.row.R.Denot). LeavesStore (state g.S.Store v.conn) (state g.S.Store c.load_from.new.conn)) c.self.view_is c.load_from.ensures.survives

pub returns-in-Err-clause-content : goal.returns-in-Err-clause-content
returns-in-Err-clause-content g c = subst (λ (v : KeeperView g.row.S.Denot g.row.R.Denot). (x : Result Image Table) → MayHold (state g.S.Store c.load_from.new.conn) x → MayHold (state g.S.Store v.conn) x) c.self.view_is (found_before (state g.S.Store c.self.inside.conn) (state g.S.Store c.load_from.new.conn) c.load_from.ensures.survives)

pub returns-in-Err-clause-rows : goal.returns-in-Err-clause-rows
returns-in-Err-clause-rows g c = subst (λ (v : KeeperView g.row.S.Denot g.row.R.Denot). LeavesStore (state g.S.Store v.conn) (state g.S.Store c.load_from.new.conn)) c.self.view_is c.load_from.ensures.survives
