use Rattle.lrs_store_tables.proofs.RowLemmas.{both, fails_behind, read_as, handed_on}
use Rattle.lrs_store_tables.proofs.all_rows.read_rows.Goals as goal

pub returns-in_err-named : goal.returns-in_err-named
returns-in_err-named g c = handed_on c.from_residual.result c.from_residual.ensures.1 c.in_err-named.ensures

pub returns-in_err-routes : goal.returns-in_err-routes
returns-in_err-routes g c = handed_on c.from_residual-in_err-routes.result c.from_residual-in_err-routes.ensures.1 (fails_behind c.in_ok-named.ensures c.in_err-routes.ensures)

pub returns-in_err-ledgers : goal.returns-in_err-ledgers
returns-in_err-ledgers g c = handed_on c.from_residual-in_err-ledgers.result c.from_residual-in_err-ledgers.ensures.1 (fails_behind (both c.in_ok-named.ensures c.in_ok-routes.ensures) c.in_err-ledgers.ensures)

pub returns : goal.returns
returns g c = read_as (both (both c.in_ok-named.ensures c.in_ok-routes.ensures) c.in_ok-ledgers.ensures) (λ t h. record { version = h.0.0.version; link = h.0.0.link; class = h.0.0.class; asset = h.0.0.asset; piece = h.0.1.piece; mark = h.0.1.mark; ref = h.0.1.referent; span = h.0.1.span; entered = h.1.entered; gone = h.1.gone; edit = h.1.edit; origin = h.1.origin })
