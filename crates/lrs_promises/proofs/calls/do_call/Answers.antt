use Rattle.lrs_promises.proofs.calls.do_call.Goals as goal

pub returns-in-Edits-clause-done : goal.returns-in-Edits-clause-done
returns-in-Edits-clause-done g c = rw c.in-Edits.is (rw c.as_slice.ensures.value at c.do_sheet.ensures.done)

pub returns-in-Survey-clause-done : goal.returns-in-Survey-clause-done
returns-in-Survey-clause-done g c = rw c.in-Survey.is (rw c.as_slice-in-Survey.ensures.value at c.do_sheet-in-Survey.ensures.done)

pub returns-in-Request-clause-done : goal.returns-in-Request-clause-done
returns-in-Request-clause-done g c = rw c.in-Request.is (rw c.as_slice-in-Request.ensures.value at c.do_request.ensures.done)

pub returns-in-Edits-clause-left : goal.returns-in-Edits-clause-left
returns-in-Edits-clause-left g c = rw c.in-Edits.is (rw c.as_slice.ensures.value at c.do_sheet.ensures.left)

pub returns-in-Survey-clause-left : goal.returns-in-Survey-clause-left
returns-in-Survey-clause-left g c = rw c.in-Survey.is (rw c.as_slice-in-Survey.ensures.value at c.do_sheet-in-Survey.ensures.left)

pub returns-in-Request-clause-left : goal.returns-in-Request-clause-left
returns-in-Request-clause-left g c = rw c.in-Request.is (rw c.as_slice-in-Request.ensures.value at c.do_request.ensures.left)
