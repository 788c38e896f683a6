use Rattle.matchit.proofs.OnLiterals.{matchit_on_literals}
use Rattle.lrs_web_requests.specs.Routes.{rows}
use Rattle.lrs_web_requests.proofs.paths.add_drafts.Goals as goal

pub returns : goal.returns
unfolding matchit_on_literals rows
returns c =
    let i1 = c.in_ok-insert.ensures in
    let i2 = c.in_ok-insert-2.ensures in
    let i3 = c.in_ok-insert-3.ensures in
    let i4 = c.in_ok-insert-4.ensures in
    let i5 = c.in_ok-insert-5.ensures in
    let i6 = c.in_ok-insert-6.ensures in
    let i7 = c.in_ok-insert-7.ensures in
    rw (i7.1, i6.1, i5.1, i4.1, i3.1, i2.1, i1.1)
