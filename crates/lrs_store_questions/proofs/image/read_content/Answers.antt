use Rattle.std.proofs.Common.{rules, ◌≡◌, Err, ◌∙◌}
use Rattle.lrs_store_image.specs.Steps.{edits_in, tables_with, content_of_held}
use Rattle.lrs_store_files.specs.SeenRows.{HasLedgers, HasEdits}
use Rattle.lrs_store_files.proofs.SeeingLemmas.{seen_both}
use Rattle.lrs_store_questions.specs.Readings.{HasFirst}
use Rattle.lrs_store_questions.proofs.ReadLemmas.{ledgers_in, read_is_sound, said_first, said_second, said_third}
use Rattle.lrs_store_questions.proofs.image.read_content.Goals as goal

pub returns-in_err-begun-clause-seen : goal.returns-in_err-begun-clause-seen
returns-in_err-begun-clause-seen g c content says =
    let is : c.from_residual.result ≡ Err c.in_err-begun.field-0.0 = search rules in
    said_first c.in-Ok.rows.0 c.in-Ok.rows.1 c.begin.result c.from_residual.result c.in_err-begun.field-0.0 c.in_err-begun.was is c.begin.ensures.begins c.in-Ok.ensures.seen content says

pub returns-in_err-held-clause-seen : goal.returns-in_err-held-clause-seen
returns-in_err-held-clause-seen g c content says =
    let n = c.in-Ok.rows.0 in
    let r = c.in-Ok.rows.1 in
    let l = c.in-Ok-read_ledgers.rows in
    let is : c.from_residual-in_err-held.result ≡ Err c.in_err-held.field-0.0 = search rules in
    said_second n r c.in_ok-begun.begun c.in_ok-begun.ensures.begins l.0.items l.1.items c.with_ledgers.result c.from_residual-in_err-held.result c.in_err-held.field-0.0 c.in_err-held.was is c.with_ledgers.ensures.holds
    (seen_both (HasFirst n r) (HasLedgers l.0.items l.1.items) c.in-Ok.ensures.seen c.in-Ok-read_ledgers.ensures.seen) content says

pub returns-in-Ok-read_edits-clause-seen : goal.returns-in-Ok-read_edits-clause-seen
returns-in-Ok-read_edits-clause-seen g c =
    let n = c.in-Ok.rows.0 in
    let r = c.in-Ok.rows.1 in
    let l = c.in-Ok-read_ledgers.rows in
    let e = c.in-Ok-read_edits.edits.items in
    let o = c.in-Ok-read_edits.origins.items in
    said_third n r c.in_ok-begun.begun c.in_ok-begun.ensures.begins l.0.items l.1.items c.in_ok-held.held c.in_ok-held.ensures.holds e o c.finish.result c.finish.ensures
    (seen_both (λ db. HasFirst n r db × HasLedgers l.0.items l.1.items db) (HasEdits e o) (seen_both (HasFirst n r) (HasLedgers l.0.items l.1.items) c.in-Ok.ensures.seen c.in-Ok-read_ledgers.ensures.seen) c.in-Ok-read_edits.ensures.seen)

pub returns-in-Ok-read_edits-clause-sound : goal.returns-in-Ok-read_edits-clause-sound
returns-in-Ok-read_edits-clause-sound g c =
    let l = ledgers_in c.in-Ok-read_ledgers.rows.0.items c.in-Ok-read_ledgers.rows.1.items in
    let e = edits_in c.in-Ok-read_edits.edits.items c.in-Ok-read_edits.origins.items in
    read_is_sound (tables_with c.in-Ok.rows.0 c.in-Ok.rows.1 l e) (content_of_held c.in_ok-held.held e) c.finish.result (c.in_ok-begun.ensures.begins l e ∙ c.in_ok-held.ensures.holds e) c.finish.ensures
