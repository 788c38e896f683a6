use Rattle.lrs_image.specs.OpenLists.{image_of}
use Rattle.lrs_report_answers.proofs.AskedAt.{stands, no_memory, refused}
use Rattle.lrs_report_answers.proofs.hits.at.Goals as goal

pub returns-in-Err : goal.returns-in-Err
returns-in-Err c = refused (image_of c.args.kept.now) c.args.route.now c.in-Some.row.now c.args.expression c.requires.sound c.in-Some.ensures.known c.in-Some.ensures.route c.in-Err.fault c.in-Err.ensures.answer

pub returns-in-Ok-answer_at : goal.returns-in-Ok-answer_at
returns-in-Ok-answer_at c =
    stands (image_of c.args.kept.now) c.args.route.now c.in-Some.row.now c.args.expression c.requires.sound c.in-Some.ensures.known c.in-Some.ensures.route c.in-Ok.at c.in-Ok-answer_at.found c.in-Ok.ensures.answer
    c.in-Ok-answer_at.ensures.at c.in-Ok-answer_at.ensures.ground c.in-Ok-answer_at.ensures.hits

pub returns-in-Err-answer_at : goal.returns-in-Err-answer_at
returns-in-Err-answer_at c =
    no_memory (image_of c.args.kept.now) c.args.route.now c.in-Some.row.now c.args.expression c.requires.sound c.in-Some.ensures.known c.in-Some.ensures.route c.in-Ok.at c.in-Ok.ensures.answer
