use Rattle.lrs_report_answers.proofs.Place.Spots.{is_place_in, IsPlaceIn}
use Rattle.lrs_report_answers.proofs.places.question.whereabouts.Goals as goal

here : (c : goal.In-Ok) → IsPlaceIn c.args.inventory.now (c.in-Ok.row.now, c.in-Ok.chainage)
here c = is_place_in c.args.inventory.now c.prove_sound.ensures (c.in-Ok.row.now, c.in-Ok.chainage) c.args.spot c.in-Ok.ensures.ok

pub answer_at-requires-clause-known : goal.answer_at-requires-clause-known
answer_at-requires-clause-known c = (here c).known

pub answer_at-requires-clause-on_route : goal.answer_at-requires-clause-on_route
answer_at-requires-clause-on_route c = (here c).on_route
