use Rattle.std.proofs.Common.{◌≡◌, ◌∙◌, List, Some, sym, ap}
use Rattle.std.specs.Option.{option_map}
use Rattle.lrs_machine.specs.declared.image.RouteRow.{RouteRow}
use Rattle.lrs_machine.specs.Sound.{are_courses, are_spans}
use Rattle.lrs_image_sound.specs.Tables.{route_courses, route_spans}
use Rattle.lrs_store_tables.specs.Contents.Decoders.{each_of}
use Rattle.lrs_store_image.specs.DecodedRoutes.Spans.{canonical_entry, are_sound}
use Rattle.lrs_store_image.proofs.DecodedRoutes.Entering.{courses_stay, refused, passed}
use Rattle.lrs_store_image.proofs.route_decoder.spans.sound_entries.Goals as goal

pub returns-then-not-sound : goal.returns-then-not-sound
returns-then-not-sound c = λ links good.
    let es = c.in-Some.entries.items in
    let made = each_of (canonical_entry c.args.said.now) c.args.routes.items in
    let is : Some es ≡ made = ap (option_map (λ v. v.items)) (sym c.in-Some.is) ∙ c.in_ok-entries.ensures in
    let fit = ap (λ (l : List RouteRow). are_courses links (route_courses l)) c.deref.ensures.value ∙ courses_stay c.args.said.now c.args.routes.items es links (sym is) good in
    refused (are_sound links c.args.classes.now c.args.assets.now) made es is
    (ap (λ (l : List RouteRow). are_spans links c.args.classes.now c.args.assets.now (route_spans l)) (sym c.deref.ensures.value) ∙ sym (c.in_ok-sound.ensures links fit) ∙ c.if-not-sound.true)

pub returns : goal.returns
returns c = λ links good.
    let es = c.in-Some.entries.items in
    let made = each_of (canonical_entry c.args.said.now) c.args.routes.items in
    let is : Some es ≡ made = ap (option_map (λ v. v.items)) (sym c.in-Some.is) ∙ c.in_ok-entries.ensures in
    let fit = ap (λ (l : List RouteRow). are_courses links (route_courses l)) c.deref.ensures.value ∙ courses_stay c.args.said.now c.args.routes.items es links (sym is) good in
    passed (are_sound links c.args.classes.now c.args.assets.now) made es is
    (ap (λ (l : List RouteRow). are_spans links c.args.classes.now c.args.assets.now (route_spans l)) (sym c.deref.ensures.value) ∙ sym (c.in_ok-sound.ensures links fit) ∙ c.if-not-sound.false)
