use Rattle.std.proofs.Common.{Ok, Err}
use Rattle.lrs_position.specs.LinkPositions.{IsLinkPosition}
use Rattle.lrs_image.specs.OpenLists.{image_of}
use Rattle.lrs_report_answers.proofs.Asked.{asks}
use Rattle.lrs_report_answers.proofs.position.to_link.Goals as goal

pub returns-in-Ok : goal.returns-in-Ok
returns-in-Ok c = record {
  answer = asks (image_of c.args.kept.now) c.args.route.now (λ a chainage_on answer. IsLinkPosition a chainage_on c.args.expression answer)
      c.in-Some.row.now (Ok c.in-Ok.position) c.requires.sound c.in-Some.ensures.known c.in-Some.ensures.route c.in-Ok.ensures;
}

pub returns-in-Err : goal.returns-in-Err
returns-in-Err c = record {
  answer = asks (image_of c.args.kept.now) c.args.route.now (λ a chainage_on answer. IsLinkPosition a chainage_on c.args.expression answer)
      c.in-Some.row.now (Err c.in-Err.fault) c.requires.sound c.in-Some.ensures.known c.in-Some.ensures.route c.in-Err.ensures;
}
