use Rattle.std.proofs.Common.{◌≡◌, ◌∙◌, List, Some, true, sym, ap}
use Rattle.std.specs.Option.{option_map}
use Rattle.std.proofs.lemmas.Result.{IfOk-weaker}
use Rattle.lrs_measure.specs.Lists.{each_two}
use Rattle.lrs_element.specs.declared.link.Link.{Link}
use Rattle.lrs_position.specs.declared.route.Route.{Route}
use Rattle.lrs_events.specs.declared.span.Span.{Span}
use Rattle.lrs_machine.specs.Sound.{are_courses}
use Rattle.lrs_store_tables.specs.Contents.Decoders.{each_of, OfRoute, span_of}
use Rattle.lrs_store_tables.specs.Contents.Content.{each_of_known, entries_of}
use Rattle.lrs_store_image.specs.DecodedRoutes.Courses.{passing}
use Rattle.lrs_store_image.specs.DecodedRoutes.Spans.{is_one_of, agree_said, canonical_entry, courses_over, are_sound}
use Rattle.lrs_store_image.proofs.DecodedRoutes.Found.{known_agree}
use Rattle.lrs_store_image.proofs.DecodedRoutes.Entering.{said_sorted, entries_found}
use Rattle.lrs_store_image.proofs.route_decoder.spans.entries_said.Goals as goal

pub sound_entries-requires-clause-agree : goal.sound_entries-requires-clause-agree
sound_entries-requires-clause-agree c =
    let assets = c.args.assets.now in
    let rows = c.args.rows.now in
    let xs = c.in-Some.said.items in
    let is = ap (option_map (λ v. v.items)) (sym c.in-Some.is) ∙ c.in_ok-said.ensures in
    ap (each_two agree_said) c.deref-2.ensures.value ∙ said_sorted xs c.sort_by_route.new.rows.items c.sort_by_route.ensures.same (known_agree assets c.deref.result.now rows xs (sym is))

pub returns : goal.returns
returns c =
    let classes = c.args.classes.now in
    let assets = c.args.assets.now in
    let rows = c.args.rows.now in
    let routes = c.args.routes.items in
    let xs = c.in-Some.said.items in
    let ys = c.sort_by_route.new.rows.items in
    let is : Some xs ≡ each_of_known (span_of assets) (is_one_of routes) rows =
    ap (option_map (λ v. v.items)) (sym c.in-Some.is) ∙ c.in_ok-said.ensures ∙ ap (λ (l : List Route). each_of_known (span_of assets) (is_one_of l) rows) c.deref.ensures.value in
    IfOk-weaker c.sound_entries.result
    (λ found. (links : List Link) → are_courses links (courses_over routes) ≡ true → option_map (λ v. v.items) found ≡ passing (each_of (canonical_entry c.deref-2.result.now) routes) (are_sound links classes assets))
    (λ found. (links : List Link) → are_courses links (courses_over routes) ≡ true → option_map (λ v. v.items) found ≡ passing (entries_of assets rows routes) (are_sound links classes assets))
    (λ found h links good. h links good ∙ ap (λ (l : List (OfRoute Span)). passing (each_of (canonical_entry l) routes) (are_sound links classes assets)) c.deref-2.ensures.value
    ∙ entries_found links classes assets rows routes xs ys is c.sort_by_route.ensures.same)
    c.sound_entries.ensures
