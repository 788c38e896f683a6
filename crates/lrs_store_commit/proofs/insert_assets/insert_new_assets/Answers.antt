use Rattle.lrs_store_commit.specs.NewAssets.{with_assets_of, with_origins_of, with_spans_of, with_parts_of, with_edits_of}
use Rattle.lrs_store_commit.proofs.EntryRows.{steady-origins, steady-spans, steady-parts, steady-edits}
use Rattle.lrs_store_commit.proofs.Last.{then_makes, fails_behind, handed_on}
use Rattle.lrs_store_commit.proofs.insert_assets.insert_new_assets.Goals as goal

pub returns-clause-changes : goal.returns-clause-changes
returns-clause-changes g c =
    let n = c.args.n in
    let cs = c.args.entries.now in
    let two = then_makes (with_assets_of cs) (with_origins_of cs) (steady-origins cs) c.in_ok-put_assets.ensures c.in_ok-put_origins.ensures in
    let three = then_makes (λ t. with_origins_of cs (with_assets_of cs t)) (with_spans_of cs) (steady-spans cs) two c.in_ok-put_spans.ensures in
    let four = then_makes (λ t. with_spans_of cs (with_origins_of cs (with_assets_of cs t))) (with_parts_of cs) (steady-parts cs) three c.in_ok-put_parts.ensures in
    then_makes (λ t. with_parts_of cs (with_spans_of cs (with_origins_of cs (with_assets_of cs t)))) (with_edits_of n cs) (steady-edits n cs) four c.in_ok-put_edits.ensures.changes

pub returns-in_err-put_origins-clause-changes : goal.returns-in_err-put_origins-clause-changes
returns-in_err-put_origins-clause-changes g c = handed_on c.from_residual-in_err-put_origins.result c.from_residual-in_err-put_origins.ensures.1 (fails_behind c.in_ok-put_assets.ensures c.in_err-put_origins.ensures)

pub returns-in_err-put_spans-clause-changes : goal.returns-in_err-put_spans-clause-changes
returns-in_err-put_spans-clause-changes g c = handed_on c.from_residual-in_err-put_spans.result c.from_residual-in_err-put_spans.ensures.1 (fails_behind c.in_ok-put_assets.ensures (fails_behind c.in_ok-put_origins.ensures c.in_err-put_spans.ensures))

pub returns-in_err-put_parts-clause-changes : goal.returns-in_err-put_parts-clause-changes
returns-in_err-put_parts-clause-changes g c = handed_on c.from_residual-in_err-put_parts.result c.from_residual-in_err-put_parts.ensures.1 (fails_behind c.in_ok-put_assets.ensures (fails_behind c.in_ok-put_origins.ensures (fails_behind c.in_ok-put_spans.ensures c.in_err-put_parts.ensures)))

pub returns-in_err-put_edits-clause-changes : goal.returns-in_err-put_edits-clause-changes
returns-in_err-put_edits-clause-changes g c = handed_on c.from_residual-in_err-put_edits.result c.from_residual-in_err-put_edits.ensures.1 (fails_behind c.in_ok-put_assets.ensures (fails_behind c.in_ok-put_origins.ensures (fails_behind c.in_ok-put_spans.ensures (fails_behind c.in_ok-put_parts.ensures c.in_err-put_edits.ensures.changes))))
