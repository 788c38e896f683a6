use Rattle.lrs_events.proofs.Row.Seams.{added_seam}
use Rattle.lrs_events.proofs.rows.joins.push_seam.Goals as goal

pub returns : goal.returns
returns c =
    added_seam c.args.first.now c.args.row c.place_of-at.result c.start_of-start.result.0 c.start_of-start.result.1
    c.args.change.now.gone.items c.args.change.now.come.items c.extend_from_slice.new.self.items c.push.new.self.items
    c.requires.rows c.requires.row c.place_of-at.ensures.place c.start_of-start.ensures c.in_ok-extend_from_slice.ensures.items c.in_ok-push.ensures.items
