-- The class of each row of a route is that of its asset.
use Rattle.std.proofs.Common.{◌≡◌, ℕ, true, inl, inr, List, [], ◌∷◌, map, length, Some, sym, ap, ◌∙◌, cond, arith}
use Rattle.std.specs.Prelude.{◌&&◌, nat_eq, nat_le, unwrap_or}
use Rattle.std.specs.List.{list_any, list_all}
use Rattle.std.specs.Option.{option_map}
use Rattle.std.specs.Ordering.{nat_cmp}
use Rattle.std.specs.Cmp.{unsigned_tied}
use Rattle.std.specs.Cmp.Lexicographic.{bytes_decides}
use Rattle.std.specs.FinMap.{find}
use Rattle.std.proofs.lemmas.Bool.{and_parts, eqb-true, eq-eqb, ne_eqb, ltb-true}
use Rattle.lrs_measure.specs.Lists.{In, each_two}
use Rattle.lrs_measure.specs.Texts.{Name, same_name}
use Rattle.lrs_measure.proofs.Members.{any_found, all_at, all_weaker}
use Rattle.lrs_events.specs.declared.class.Asset.{Asset}
use Rattle.lrs_events.specs.declared.span.Span.{Span}
use Rattle.lrs_events.specs.Spans.{are_rows}
use Rattle.lrs_events.specs.Row.RunLaws.{are_of_class}
use Rattle.lrs_machine.specs.declared.image.RouteRow.{RouteRow}
use Rattle.lrs_machine.specs.declared.image.Image.{Image}
use Rattle.lrs_machine.specs.Image.{state_of, asset_entry}
use Rattle.lrs_machine.specs.Sound.{is_span, are_spans_of, asset_before, IsSound}
use Rattle.lrs_image.proofs.Tables.{assets_in_order}
use Rattle.lrs_image_laws.proofs.Rewriting.{old_spans}
use Rattle.lrs_promises.specs.DeskLaws.Rows.{class_of_asset}

-- the value at an asset's number is the asset's
asset_value : (a : Asset) (assets : List Asset) → each_two asset_before assets ≡ true → In a assets → find nat_cmp a.number (map asset_entry assets) ≡ Some (asset_entry a).1
asset_value a [] h m = absurd m
asset_value a (y ∷ ys) h (inl e) =
    ap (λ b. cond b (Some (asset_entry y).1) (find nat_cmp a.number (map asset_entry ys))) (unsigned_tied a.number y.number ∙ eq-eqb a.number y.number (ap (λ (x : Asset). x.number) e))
    ∙ ap (λ x. Some (asset_entry x).1) (sym e)
asset_value a (y ∷ ys) h (inr m) =
    let both = and_parts (list_all (asset_before y) ys) (each_two asset_before ys) h in
    let less = ltb-true y.number a.number (all_at (asset_before y) a ys both.0 m) in
    ap (λ b. cond b (Some (asset_entry y).1) (find nat_cmp a.number (map asset_entry ys))) (unsigned_tied a.number y.number ∙ ne_eqb a.number y.number (λ e. omega (arith, e, less)))
    ∙ asset_value a ys both.1 m

-- the class of an asset, or no name where there is none
abbrev pub class_at : Image → ℕ → Name
class_at i n = unwrap_or (class_of_asset (state_of i) n) []

module _ (i : Image) (s : IsSound i) where
  class_is : (a : Asset) → In a i.assets → class_at i a.number ≡ a.class
  unfolding state_of
  class_is a m = ap (λ o. unwrap_or (option_map (λ x. x.class) o) []) (asset_value a i.assets (assets_in_order i s) m)

  module _ (e : RouteRow) (m : In e i.routes) where
    fit : list_all (is_span i.assets (length e.route.course)) e.spans ≡ true
    fit = (and_parts (are_rows e.spans) (list_all (is_span i.assets (length e.route.course)) e.spans)
        (all_at (λ (f : RouteRow). are_spans_of i.assets (record { course = f.route.course; rows = f.spans })) e i.routes (old_spans i s) m)).1

    of_class : (r : Span) → is_span i.assets (length e.route.course) r ≡ true → same_name r.class (class_at i r.asset) ≡ true
    of_class r h =
        let x = any_found (λ (a : Asset). nat_eq a.number r.asset && same_name a.class r.class) i.assets
        (and_parts (nat_le r.to (length e.route.course)) (list_any (λ a. nat_eq a.number r.asset && same_name a.class r.class) i.assets) h).1 in
        let both = and_parts (nat_eq x.0.number r.asset) (same_name x.0.class r.class) x.2 in
        (bytes_decides r.class (class_at i r.asset)).1
        (sym ((bytes_decides x.0.class r.class).0 both.1) ∙ sym (class_is x.0 x.1) ∙ ap (class_at i) (eqb-true x.0.number r.asset both.0))

    pub classes : are_of_class (class_at i) e.spans ≡ true
    classes = all_weaker (is_span i.assets (length e.route.course)) (λ r. same_name r.class (class_at i r.asset)) e.spans of_class fit
