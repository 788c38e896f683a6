use Rattle.std.proofs.Common.{arith, ◌≡◌, ◌<◌, ◌+◌, ◌∙◌, length, take, Some, Option, sym, ap, subst, rules}
use Rattle.std.proofs.lemmas.Grind.{common_steps}
use Rattle.sqlite_value.specs.Order.{Row as Cells}
use Rattle.lrs_machine.specs.declared.image.Edit.{Edit}
use Rattle.lrs_store_tables.specs.Contents.Decoders.{each_of, edit_of, Numbered}
use Rattle.lrs_store_tables.specs.StoredRows.{edit_in}
use Rattle.lrs_store_tables.proofs.SaidRows.{each_of-more, each_of-at}
use Rattle.lrs_store_image.proofs.edits.all_said.Goals as goal

abbrev of : Cells → Option (Numbered Edit)
of r = edit_of (edit_in r)

pub returns-in_default : goal.returns-in_default
returns-in_default c =
    let rows = c.args.rows.now in
    let i = c.loop-row.row-index in
    let bound : i < length rows = search rules in
    sym (each_of-at of rows i c.row-item.result bound (ap of (sym c.row-item.is) ∙ sym c.in_ok-edit.ensures ∙ c.in_default.is))

pub loop-row-preserved : goal.loop-row-preserved
loop-row-preserved c =
    let rows = c.args.rows.now in
    let i = c.loop-row.row-index in
    let bound : i < length rows = search rules in
    let more = each_of-more of rows i c.row-item.result c.in-Some.edit c.loop-row.found.items bound c.loop-row.invariant (ap of (sym c.row-item.is) ∙ sym c.in_ok-edit.ensures ∙ c.in-Some.is) in
    subst (λ zs. each_of of (take (i + 1) rows) ≡ Some zs) (sym c.in_ok-push.ensures.items) more

pub returns : goal.returns
returns c = grind (arith, common_steps)
