use Rattle.lrs_position.specs.Locations.{located_or_fault}
use Rattle.lrs_position.specs.Translations.{alignment_of, referent_at}
use Rattle.lrs_report_answers.proofs.Place.Spots.{refused_spot}
use Rattle.lrs_report_answers.proofs.places.place.millimetre_at.Goals as goal

pub returns-in-Err-clause-err : goal.returns-in-Err-clause-err
returns-in-Err-clause-err c =
    let r = c.args.row.now.route in
    refused_spot c.args.row.now c.in-Err.fault (located_or_fault (alignment_of r) (referent_at r.refs) c.args.position) c.in-Err.ensures.answer
