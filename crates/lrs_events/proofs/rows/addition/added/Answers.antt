use Rattle.lrs_events.proofs.Row.Exchanged.{HasAdded, has_added}
use Rattle.lrs_events.proofs.Row.Slices.{slice_in_order}
use Rattle.lrs_events.proofs.rows.addition.added.Goals as goal

done : (c : goal.In_ok-from_slice-2) → HasAdded c.args.rows.now c.args.span c.in_ok-from_slice.field-0.items c.in_ok-from_slice-2.field-0.items
done c =
    has_added c.args.rows.now c.place_of-at.result c.args.span c.start_of-start.result.0 c.start_of-start.result.1 c.end_of-end.result.0 c.end_of-end.result.1
    c.in_ok-from_slice.field-0.items c.in_ok-from_slice-2.field-0.items c.place_of-at.ensures.within c.end_of-end.ensures.within c.requires.rows c.requires.row c.requires.free
    c.place_of-at.ensures.place c.start_of-start.ensures c.end_of-end.ensures.end c.in_ok-from_slice.ensures.items c.in_ok-from_slice-2.ensures.items

pub returns-clause-gone : goal.returns-clause-gone
returns-clause-gone c = (done c).few

pub returns-clause-kept : goal.returns-clause-kept
returns-clause-kept c = (done c).kept

pub returns-clause-change : goal.returns-clause-change
returns-clause-change c = (done c).change

pub returns-clause-more : goal.returns-clause-more
returns-clause-more c = (done c).more

pub returns-clause-in_order : goal.returns-clause-in_order
returns-clause-in_order c = slice_in_order c.args.rows.now c.in_ok-from_slice.field-0.items c.start_of-start.result.0 c.end_of-end.result.0 c.requires.rows c.in_ok-from_slice.ensures.items
