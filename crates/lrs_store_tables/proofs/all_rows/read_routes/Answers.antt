use Rattle.lrs_store_tables.proofs.RowLemmas.{both, fails_behind, read_as, handed_on}
use Rattle.lrs_store_tables.proofs.all_rows.read_routes.Goals as goal

pub returns-in_err-piece : goal.returns-in_err-piece
returns-in_err-piece g c = handed_on c.from_residual.result c.from_residual.ensures.1 c.in_err-piece.ensures

pub returns-in_err-mark : goal.returns-in_err-mark
returns-in_err-mark g c = handed_on c.from_residual-in_err-mark.result c.from_residual-in_err-mark.ensures.1 (fails_behind c.in_ok-piece.ensures c.in_err-mark.ensures)

pub returns-in_err-referent : goal.returns-in_err-referent
returns-in_err-referent g c = handed_on c.from_residual-in_err-referent.result c.from_residual-in_err-referent.ensures.1 (fails_behind (both c.in_ok-piece.ensures c.in_ok-mark.ensures) c.in_err-referent.ensures)

pub returns-in_err-span : goal.returns-in_err-span
returns-in_err-span g c = handed_on c.from_residual-in_err-span.result c.from_residual-in_err-span.ensures.1 (fails_behind (both (both c.in_ok-piece.ensures c.in_ok-mark.ensures) c.in_ok-referent.ensures) c.in_err-span.ensures)

pub returns : goal.returns
returns g c = read_as (both (both (both c.in_ok-piece.ensures c.in_ok-mark.ensures) c.in_ok-referent.ensures) c.in_ok-span.ensures) (λ t h. record { piece = h.0.0.0; mark = h.0.0.1; referent = h.0.1; span = h.1 })
