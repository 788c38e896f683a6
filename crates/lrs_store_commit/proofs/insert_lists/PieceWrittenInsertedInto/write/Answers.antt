use Rattle.std.proofs.Common.{Ok, subst, ◌∷◌, [], pos, ap, ◌∙◌}
use Rattle.sqlite_value.specs.declared.value.Value.TheVariants.{Int}
use Rattle.sqlite_value.specs.Order.{Row}
use Rattle.sqlite.specs.State.{ExecutesInside}
use Rattle.sqlite.specs.Held.{state}
use Rattle.lrs_store_tables.specs.Contents.Encoders.{piece_row}
use Rattle.lrs_store_tables.specs.Schema.{insert_piece}
use Rattle.lrs_store_tables.proofs.Inserted.{piece_added}
use Rattle.lrs_store_commit.proofs.CellLemmas.{behind_text}
use Rattle.lrs_store_commit.proofs.insert_lists.PieceWrittenInsertedInto.write.Goals as goal

pub returns : goal.returns
returns g c = record {
  same_reference = c.execute.ensures.same_reference;
  does = λ clean writing.
      let old = state g.S.Store c.args.tx.now.conn.now in
      let new = state g.S.Store c.execute.new.self.conn.now in
      let x = c.args.self.now in
      let given = behind_text _ _ c.fill_numbers.new.cells _ c.bytes.ensures.text (c.in_ok-fill_numbers.ensures.filled ∙ ap (λ d. Int (pos c.args.n) ∷ Int (pos x.link) ∷ Int (pos x.from) ∷ Int (pos x.to) ∷ Int (pos d) ∷ []) c.direction_number-direction.ensures) in
      piece_added (piece_row c.args.of.now.route c.args.n x) old new c.in_ok-execute.field-0 writing
      (subst (λ (params : Row). ExecutesInside 0 insert_piece params old new (Ok c.in_ok-execute.field-0)) given (c.in_ok-execute.ensures.runs clean writing.begun));
  survives = c.execute.ensures.survives;
}
