use Rattle.std.proofs.Common.{ap, sym, ◌∙◌, subst, Ok, unsigned_abs}
use Rattle.lrs_report_answers.proofs.Located.{cell_is, refused_is, IsCell}
use Rattle.lrs_position.specs.Locations.{located_or_fault, cell}
use Rattle.lrs_position.specs.Translations.{alignment_of, referent_at}
use Rattle.lrs_report_answers.proofs.position.cell_of.Goals as goal

pub returns-in-Ok-clause-answer : goal.returns-in-Ok-clause-answer
returns-in-Ok-clause-answer c =
    let r = c.args.row.now.route in
    subst (λ n. IsCell r c.args.expression c.locate.ensures.number (located_or_fault (alignment_of r) (referent_at r.refs) c.args.expression) (Ok n)) (ap (λ len. cell len (unsigned_abs c.in-Ok.chainage.num, c.in-Ok.chainage.den)) (sym c.length.ensures.length) ∙ sym c.cell.ensures)
    (cell_is r c.args.expression c.locate.ensures.number c.in-Ok.chainage c.in-Ok.ensures.answer c.in-Ok.ensures.on_route c.in-Ok.ensures.lowest)

pub returns-in-Err-clause-answer : goal.returns-in-Err-clause-answer
returns-in-Err-clause-answer c = refused_is c.args.row.now.route c.args.expression c.locate.ensures.number c.in-Err.fault c.in-Err.ensures.answer
