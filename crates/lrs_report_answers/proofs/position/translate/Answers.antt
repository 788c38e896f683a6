use Rattle.std.proofs.Common.{Ok, Err}
use Rattle.lrs_position.specs.Translations.{Translates, RoundTrip}
use Rattle.lrs_image.specs.OpenLists.{image_of}
use Rattle.lrs_report_answers.proofs.Asked.{asks}
use Rattle.lrs_report_answers.proofs.position.translate.Goals as goal

pub returns-in-Ok : goal.returns-in-Ok
returns-in-Ok c = record {
  answer = asks (image_of c.args.kept.now) c.args.route.now (λ a chainage_on answer. Translates a chainage_on c.args.expression c.args.target answer × RoundTrip a chainage_on c.args.expression c.args.target answer)
      c.in-Some.row.now (Ok c.in-Ok.translated) c.requires.sound c.in-Some.ensures.known c.in-Some.ensures.route (c.in-Ok.ensures.answer, c.in-Ok.ensures.round_trip);
}

pub returns-in-Err : goal.returns-in-Err
returns-in-Err c = record {
  answer = asks (image_of c.args.kept.now) c.args.route.now (λ a chainage_on answer. Translates a chainage_on c.args.expression c.args.target answer × RoundTrip a chainage_on c.args.expression c.args.target answer)
      c.in-Some.row.now (Err c.in-Err.fault) c.requires.sound c.in-Some.ensures.known c.in-Some.ensures.route (c.in-Err.ensures.answer, c.in-Err.ensures.round_trip);
}
