use Rattle.std.proofs.Common.{Ok, Err, Result, inl, inr, ap, ◌∙◌, arith}
use Rattle.sqlite.specs.State.{HasCleanDisk}
use Rattle.sqlite.specs.Held.{state}
use Rattle.lrs_image.specs.declared.keeper.LoadFault.{LoadFault}
use Rattle.lrs_image.specs.declared.keeper.LoadFault.TheVariants.{Memory}
use Rattle.lrs_store_tables.proofs.RowLemmas.{leaves_then}
use Rattle.lrs_store.proofs.TableKeeper.OpeningLemmas.{found_before, second_still, other_still}
use Rattle.lrs_store.proofs.migration.rewrite.Goals as goal

abbrev fault_in : {A : Type 0} → Result A LoadFault → LoadFault
fault_in (Ok x) = Memory
fault_in (Err fault) = fault

pub returns-in-Ok-clause-content : goal.returns-in-Ok-clause-content
returns-in-Ok-clause-content g c x h = found_before (state g.S.Store c.args.conn.now) (state g.S.Store c.held_image.new.conn) c.held_image.ensures.survives x (c.write_second.ensures.content x h)

pub returns-in-Err-clause-unsound : goal.returns-in-Err-clause-unsound
returns-in-Err-clause-unsound g c t e = c.in-Err.ensures.unsound t (ap (λ f. Err f) (ap fault_in e))

pub returns-in-Ok-clause-untouched : goal.returns-in-Ok-clause-untouched
returns-in-Ok-clause-untouched g c second =
    let a = state g.S.Store c.args.conn.now in
    let b = state g.S.Store c.held_image.new.conn in
    let read = c.held_image.ensures.survives in
    leaves_then a b (state g.S.Store c.write_second.new.conn) read (c.write_second.ensures.untouched (second_still a b read second) (other_still a b read c.requires.other))

pub returns-in-Ok-clause-cause : goal.returns-in-Ok-clause-cause
returns-in-Ok-clause-cause g c is clean = inr (c.in-Ok.image, c.write_second.ensures.still)

pub returns-in-Err-clause-cause : goal.returns-in-Err-clause-cause
returns-in-Err-clause-cause g c is clean = inl (c.held_image.ensures.failed (c.in-Err.is ∙ ap (λ f. Err f) (ap fault_in is)) clean)

pub returns-in-Ok-clause-autocommit : goal.returns-in-Ok-clause-autocommit
returns-in-Ok-clause-autocommit g c = c.write_second.ensures.autocommit

pub returns-in-Ok-clause-clean : goal.returns-in-Ok-clause-clean
returns-in-Ok-clause-clean g c clean = let late : HasCleanDisk (state g.S.Store c.held_image.new.conn) = c.write_second.ensures.clean clean in omega (arith, late, c.held_image.ensures.survives.clean)

pub returns-in-Ok-clause-ready : goal.returns-in-Ok-clause-ready
returns-in-Ok-clause-ready g c = c.write_second.ensures.ready

pub returns-in-Ok-clause-open : goal.returns-in-Ok-clause-open
returns-in-Ok-clause-open g c = c.write_second.ensures.open

pub returns-in-Ok-clause-second : goal.returns-in-Ok-clause-second
returns-in-Ok-clause-second g c = c.write_second.ensures.second

pub returns-in-Ok-clause-unsound : goal.returns-in-Ok-clause-unsound
returns-in-Ok-clause-unsound g c t e = absurd (c.write_second.ensures.never t e)

pub returns-in-Ok-clause-still : goal.returns-in-Ok-clause-still
returns-in-Ok-clause-still g c t e = absurd (c.write_second.ensures.never t e)

pub returns-in-Ok-clause-limit : goal.returns-in-Ok-clause-limit
returns-in-Ok-clause-limit g c = c.write_second.ensures.limit ∙ c.held_image.ensures.survives.limit

pub returns-in-Err-clause-autocommit : goal.returns-in-Err-clause-autocommit
returns-in-Err-clause-autocommit g c = c.held_image.ensures.autocommit

pub returns-in-Err-clause-clean : goal.returns-in-Err-clause-clean
returns-in-Err-clause-clean g c clean = omega (arith, clean, c.held_image.ensures.survives.clean)

pub returns-in-Err-clause-content : goal.returns-in-Err-clause-content
returns-in-Err-clause-content g c = found_before (state g.S.Store c.args.conn.now) (state g.S.Store c.held_image.new.conn) c.held_image.ensures.survives

pub returns-in-Err-clause-still : goal.returns-in-Err-clause-still
returns-in-Err-clause-still g c t e = c.held_image.ensures.survives

pub returns-in-Err-clause-untouched : goal.returns-in-Err-clause-untouched
returns-in-Err-clause-untouched g c second = c.held_image.ensures.survives

pub returns-in-Err-clause-limit : goal.returns-in-Err-clause-limit
returns-in-Err-clause-limit g c = c.held_image.ensures.survives.limit
