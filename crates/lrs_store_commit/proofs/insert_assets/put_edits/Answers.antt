use Rattle.std.proofs.Common.{◌≡◌, ◌∙◌, length, Ok, subst}
use Rattle.std.specs.List.{flat_map}
use Rattle.sqlite_value.specs.Order.{Row}
use Rattle.sqlite.specs.State.{ExecutesInside}
use Rattle.sqlite.specs.Held.{state}
use Rattle.sqlite.specs.Values.{bound}
use Rattle.lrs_image.specs.declared.change.Change.{Change}
use Rattle.lrs_store_tables.specs.Contents.Encoders.{edit_row, numbered}
use Rattle.lrs_store_tables.specs.Cells.{edit_cells}
use Rattle.lrs_store_tables.specs.Schema.{insert_eight_edits}
use Rattle.lrs_store_commit.proofs.CellLemmas.{cells_of_numbered}
use Rattle.lrs_store_commit.proofs.EntryRows.{many_numbered}
use Rattle.lrs_store_commit.proofs.InsertedEight.{edits_added}
use Rattle.lrs_store_commit.proofs.insert_assets.put_edits.Goals as goal

pub returns-clause-changes : goal.returns-clause-changes
returns-clause-changes g c = record {
  same_reference = c.execute.ensures.same_reference;
  does = λ clean writing.
      let entries = c.args.entries.now in
      let old = state g.S.Store c.args.tx.now.conn.now in
      let new = state g.S.Store c.execute.new.self.conn.now in
      let rows = numbered (λ k (x : Change). edit_row k x.edit) c.args.n entries in
      let given : bound c.fill_eight.new.cells ≡ flat_map edit_cells rows = c.in_ok-fill_eight.ensures.filled ∙ cells_of_numbered edit_cells (λ k (x : Change). edit_row k x.edit) c.args.n entries in
      let eight : length rows ≡ 8 = many_numbered (λ k (x : Change). edit_row k x.edit) c.args.n entries ∙ c.requires.eight in
      edits_added rows old new c.in_ok-execute.field-0 eight writing
      (subst (λ (params : Row). ExecutesInside 0 insert_eight_edits params old new (Ok c.in_ok-execute.field-0)) given (c.in_ok-execute.ensures.runs clean writing.begun));
  survives = c.execute.ensures.survives;
}
