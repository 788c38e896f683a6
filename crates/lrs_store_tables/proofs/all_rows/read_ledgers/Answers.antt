use Rattle.lrs_store_tables.proofs.RowLemmas.{both, fails_behind, read_as, handed_on}
use Rattle.lrs_store_tables.proofs.all_rows.read_ledgers.Goals as goal

pub returns-in_err-entered : goal.returns-in_err-entered
returns-in_err-entered g c = handed_on c.from_residual.result c.from_residual.ensures.1 c.in_err-entered.ensures

pub returns-in_err-gone : goal.returns-in_err-gone
returns-in_err-gone g c = handed_on c.from_residual-in_err-gone.result c.from_residual-in_err-gone.ensures.1 (fails_behind c.in_ok-entered.ensures c.in_err-gone.ensures)

pub returns-in_err-edit : goal.returns-in_err-edit
returns-in_err-edit g c = handed_on c.from_residual-in_err-edit.result c.from_residual-in_err-edit.ensures.1 (fails_behind (both c.in_ok-entered.ensures c.in_ok-gone.ensures) c.in_err-edit.ensures)

pub returns-in_err-origin : goal.returns-in_err-origin
returns-in_err-origin g c = handed_on c.from_residual-in_err-origin.result c.from_residual-in_err-origin.ensures.1 (fails_behind (both (both c.in_ok-entered.ensures c.in_ok-gone.ensures) c.in_ok-edit.ensures) c.in_err-origin.ensures)

pub returns : goal.returns
returns g c = read_as (both (both (both c.in_ok-entered.ensures c.in_ok-gone.ensures) c.in_ok-edit.ensures) c.in_ok-origin.ensures) (λ t h. record { entered = h.0.0.0; gone = h.0.0.1; edit = h.0.1; origin = h.1 })
