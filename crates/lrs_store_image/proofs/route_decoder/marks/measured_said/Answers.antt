use Rattle.std.proofs.Common.{◌≡◌, ◌∙◌, map, sym, ap, subst}
use Rattle.std.specs.List.Sorted.{IsSortedBy}
use Rattle.std.specs.Option.{option_map}
use Rattle.std.proofs.lemmas.Result.{IfOk-weaker}
use Rattle.lrs_measure.specs.Texts.{name_before}
use Rattle.lrs_machine.specs.Sound.{RouteCourse}
use Rattle.lrs_store_tables.specs.Contents.Decoders.{each_of, mark_of}
use Rattle.lrs_store_tables.specs.Contents.Content.{measured_of}
use Rattle.lrs_store_image.specs.DecodedRoutes.Courses.{passing}
use Rattle.lrs_store_image.specs.DecodedRoutes.Marks.{is_name_of, known, good_measured, are_all_measured}
use Rattle.lrs_store_image.proofs.DecodedRoutes.Measuring.{names_rise, none_known, all_known}
use Rattle.lrs_store_image.proofs.route_decoder.marks.measured_said.Goals as goal

pub marks_said-requires : goal.marks_said-requires
marks_said-requires c =
    let are = c.deref-2.ensures.value ∙ c.in_ok-names.ensures ∙ ap (map (λ (r : RouteCourse). r.route)) c.deref.ensures.value in
    subst (IsSortedBy name_before) (sym are) (names_rise c.args.courses.items c.requires)

pub returns-in_default : goal.returns-in_default
returns-in_default c =
    let are = c.deref-2.ensures.value ∙ c.in_ok-names.ensures ∙ ap (map (λ (r : RouteCourse). r.route)) c.deref.ensures.value in
    none_known c.args.rows.now c.args.courses.items (ap (option_map (λ v. v.items)) (sym c.in_default.is) ∙ c.in_ok-said.ensures ∙ ap (λ names. each_of (known mark_of (is_name_of names)) c.args.rows.now) are)

pub returns : goal.returns
returns c =
    let are = c.deref-2.ensures.value ∙ c.in_ok-names.ensures ∙ ap (map (λ (r : RouteCourse). r.route)) c.deref.ensures.value in
    let courses = c.args.courses.items in
    let ys = c.sort_by_route.new.rows.items in
    IfOk-weaker c.measure_all.result (λ found. option_map (λ v. v.items) found ≡ each_of (good_measured c.deref-3.result.now) courses)
    (λ found. option_map (λ v. v.items) found ≡ passing (measured_of c.args.rows.now courses) are_all_measured)
    (λ found h. h ∙ ap (λ l. each_of (good_measured l) courses) c.deref-3.ensures.value
    ∙ all_known c.args.rows.now courses c.in-Some.said.items ys c.sort_by_route.ensures.same
    (ap (option_map (λ v. v.items)) (sym c.in-Some.is) ∙ c.in_ok-said.ensures ∙ ap (λ names. each_of (known mark_of (is_name_of names)) c.args.rows.now) are))
    c.measure_all.ensures
