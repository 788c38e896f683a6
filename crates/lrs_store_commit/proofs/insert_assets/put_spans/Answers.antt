use Rattle.std.proofs.Common.{◌≡◌, ◌∙◌, length, Ok, subst}
use Rattle.std.specs.List.{flat_map}
use Rattle.sqlite_value.specs.Order.{Row}
use Rattle.sqlite.specs.State.{ExecutesInside}
use Rattle.sqlite.specs.Held.{state}
use Rattle.sqlite.specs.Values.{bound}
use Rattle.lrs_store_tables.specs.Cells.{span_cells}
use Rattle.lrs_store_commit.specs.NewAssets.{span_rows}
use Rattle.lrs_store_tables.specs.Schema.{insert_eight_spans}
use Rattle.lrs_store_commit.proofs.CellLemmas.{cells_of_all}
use Rattle.lrs_store_commit.proofs.EntryRows.{many_spans}
use Rattle.lrs_store_commit.proofs.InsertedEight.{spans_added}
use Rattle.lrs_store_commit.proofs.insert_assets.put_spans.Goals as goal

pub returns : goal.returns
returns g c = record {
  same_reference = c.execute.ensures.same_reference;
  does = λ clean writing.
      let entries = c.args.entries.now in
      let old = state g.S.Store c.args.tx.now.conn.now in
      let new = state g.S.Store c.execute.new.self.conn.now in
      let rows = flat_map span_rows entries in
      let given : bound c.fill_eight.new.cells ≡ flat_map span_cells rows = c.in_ok-fill_eight.ensures.filled ∙ cells_of_all span_cells span_rows 0 entries in
      let eight : length rows ≡ 8 = many_spans entries c.requires.there ∙ c.requires.eight in
      spans_added rows old new c.in_ok-execute.field-0 eight writing
      (subst (λ (params : Row). ExecutesInside 0 insert_eight_spans params old new (Ok c.in_ok-execute.field-0)) given (c.in_ok-execute.ensures.runs clean writing.begun));
  survives = c.execute.ensures.survives;
}
