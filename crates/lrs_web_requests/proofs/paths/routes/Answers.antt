use Rattle.lrs_web_requests.specs.Routes.{rows}
use Rattle.lrs_web_requests.proofs.paths.routes.Goals as goal

pub returns : goal.returns
unfolding rows
returns c =
    let a = c.in_ok-add_answers.ensures in
    let b = c.in_ok-add_summaries.ensures in
    let d = c.in_ok-add_lists.ensures in
    let e = c.in_ok-add_sheets.ensures in
    let f = c.in_ok-add_drafts.ensures in
    let g = c.in_ok-add_tables.ensures in
    rw (g, f, e, d, b, a, c.new-router.ensures)
