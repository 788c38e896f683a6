use Rattle.std.proofs.Common.{◌≡◌, ◌∙◌, map, sym, ap, subst}
use Rattle.std.specs.List.Sorted.{IsSortedBy}
use Rattle.std.specs.Option.{option_map}
use Rattle.std.proofs.lemmas.Result.{IfOk-weaker}
use Rattle.lrs_measure.specs.Texts.{name_before}
use Rattle.lrs_store_tables.specs.Contents.Decoders.{each_of, referent_of}
use Rattle.lrs_store_tables.specs.Contents.Content.{route_with, routes_of}
use Rattle.lrs_store_image.specs.DecodedRoutes.Marks.{is_name_of, known}
use Rattle.lrs_store_image.proofs.DecodedRoutes.Referring.{name_of, measured_names_rise, all_ready, none_known, all_known}
use Rattle.lrs_store_image.proofs.route_decoder.referents.routes_said.Goals as goal

pub referents_said-requires : goal.referents_said-requires
referents_said-requires c =
    let are = c.deref-2.ensures.value ∙ c.in_ok-names.ensures ∙ ap (map name_of) c.deref.ensures.value in
    subst (IsSortedBy name_before) (sym are) (measured_names_rise c.args.measured.items c.requires.courses)

pub returns-in_default : goal.returns-in_default
returns-in_default c =
    let are = c.deref-2.ensures.value ∙ c.in_ok-names.ensures ∙ ap (map name_of) c.deref.ensures.value in
    none_known c.args.rows.now c.args.measured.items (ap (option_map (λ v. v.items)) (sym c.in_default.is) ∙ c.in_ok-said.ensures ∙ ap (λ names. each_of (known referent_of (is_name_of names)) c.args.rows.now) are)

pub refer_all-requires-clause-measured : goal.refer_all-requires-clause-measured
refer_all-requires-clause-measured c = all_ready c.args.measured.items c.requires.courses c.requires.marks

pub returns : goal.returns
returns c =
    let are = c.deref-2.ensures.value ∙ c.in_ok-names.ensures ∙ ap (map name_of) c.deref.ensures.value in
    let measured = c.args.measured.items in
    let ys = c.sort_by_route.new.rows.items in
    IfOk-weaker c.refer_all.result (λ found. option_map (λ v. v.items) found ≡ each_of (route_with c.deref-3.result.now) measured)
    (λ found. option_map (λ v. v.items) found ≡ routes_of c.args.rows.now measured)
    (λ found h. h ∙ ap (λ l. each_of (route_with l) measured) c.deref-3.ensures.value
    ∙ all_known c.args.rows.now measured c.in-Some.said.items ys c.sort_by_route.ensures.same
    (ap (option_map (λ v. v.items)) (sym c.in-Some.is) ∙ c.in_ok-said.ensures ∙ ap (λ names. each_of (known referent_of (is_name_of names)) c.args.rows.now) are))
    c.refer_all.ensures
