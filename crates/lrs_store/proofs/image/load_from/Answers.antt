use Rattle.sqlite.specs.Held.{state}
use Rattle.lrs_store_tables.proofs.Contents.Contents.{content_is_sound}
use Rattle.lrs_store_tables.specs.Rows.{tables_of}
use Rattle.lrs_store.proofs.TableKeeper.LoadLemmas.{loaded_edits, loaded_image, loaded_none, finds_unsound}
use Rattle.lrs_store.proofs.TableKeeper.OpeningLemmas.{second_still}
use Rattle.lrs_store.proofs.image.load_from.Goals as goal

pub returns-in-Ok-image_of-clause-image : goal.returns-in-Ok-image_of-clause-image
returns-in-Ok-image_of-clause-image g c =
    loaded_image (state g.S.Store c.read_checked.new.conn) (tables_of c.in-Ok.rows) c.in-Ok.ensures.rows c.in-Ok-image_of.image c.in-Ok-image_of.ensures.image

pub returns-in-Ok-image_of-clause-edits : goal.returns-in-Ok-image_of-clause-edits
returns-in-Ok-image_of-clause-edits g c =
    loaded_edits (state g.S.Store c.read_checked.new.conn) (tables_of c.in-Ok.rows) c.in-Ok.ensures.rows c.in-Ok-image_of.image c.in-Ok-image_of.ensures.image

pub returns-in-Ok-image_of-clause-sound : goal.returns-in-Ok-image_of-clause-sound
returns-in-Ok-image_of-clause-sound g c = content_is_sound (tables_of c.in-Ok.rows) c.in-Ok-image_of.image c.in-Ok-image_of.ensures.image.holds

pub returns-in-Err-image_of-clause-unsound : goal.returns-in-Err-image_of-clause-unsound
returns-in-Err-image_of-clause-unsound g c t e =
    let new = state g.S.Store c.read_checked.new.conn in
    let second = second_still (state g.S.Store c.args.conn.now) new c.read_checked.ensures.survives c.requires.second in
    finds_unsound g.S.Store g.met.S.Store.stays c.read_checked.new.conn t c.in-Ok.ensures.open (loaded_none new (tables_of c.in-Ok.rows) c.in-Ok.ensures.rows second t (c.in-Err-image_of.ensures.unsound t e))
