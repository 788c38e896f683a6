use Rattle.lrs_store_tables.proofs.RowLemmas.{both, fails_behind, read_as, handed_on}
use Rattle.lrs_store_tables.proofs.all_rows.read_named.Goals as goal

pub returns-in_err-version : goal.returns-in_err-version
returns-in_err-version g c = handed_on c.from_residual.result c.from_residual.ensures.1 c.in_err-version.ensures

pub returns-in_err-link : goal.returns-in_err-link
returns-in_err-link g c = handed_on c.from_residual-in_err-link.result c.from_residual-in_err-link.ensures.1 (fails_behind c.in_ok-version.ensures c.in_err-link.ensures)

pub returns-in_err-class : goal.returns-in_err-class
returns-in_err-class g c = handed_on c.from_residual-in_err-class.result c.from_residual-in_err-class.ensures.1 (fails_behind (both c.in_ok-version.ensures c.in_ok-link.ensures) c.in_err-class.ensures)

pub returns-in_err-asset : goal.returns-in_err-asset
returns-in_err-asset g c = handed_on c.from_residual-in_err-asset.result c.from_residual-in_err-asset.ensures.1 (fails_behind (both (both c.in_ok-version.ensures c.in_ok-link.ensures) c.in_ok-class.ensures) c.in_err-asset.ensures)

pub returns : goal.returns
returns g c = read_as (both (both (both c.in_ok-version.ensures c.in_ok-link.ensures) c.in_ok-class.ensures) c.in_ok-asset.ensures) (λ t h. record { version = h.0.0.0; link = h.0.0.1; class = h.0.1; asset = h.1 })
