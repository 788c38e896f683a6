use Rattle.std.proofs.Common.{Ok, subst, ap, ◌∙◌}
use Rattle.lrs_position.specs.Translations.{target_of}
use Rattle.lrs_machine.specs.Image.{state_of}
use Rattle.lrs_report_answers.specs.ToldAnswers.{IsTranslated}
use Rattle.lrs_promises.proofs.Trips.{leaves, trip}
use Rattle.lrs_promises.proofs.translation.round_trip.Goals as goal

pub returns-in-Ok : goal.returns-in-Ok
returns-in-Ok g c behind a x is located misses =
    let s = state_of c.args.desk.now.image in
    let route = c.args.route.now in
    let there = c.in-Ok.there in
    let same = c.expression-2.ensures.expression in
    let enters = c.expression-2.ensures.entered in
    let left = leaves s route a is c.args.entered x c.args.target there enters located misses (subst (λ e. IsTranslated s route e c.args.target (Ok there)) same (c.in-Ok.ensures.answer behind)) in
    let (back, translated, is_trip) = c.translate_back.ensures behind in
    let method = c.method_of-method.ensures ∙ ap target_of c.expression.ensures.expression in
    trip s route a is c.args.entered x there back c.translate_back.result left (subst (λ m. IsTranslated s route there m back) method translated) is_trip
