-- What an asset holds on a part of a route is taken away there.
use Rattle.std.proofs.Common.{◌≡◌, ℕ, ◌-◌, ◌≤◌, Bool, true, false, ◌⊎◌, inl, inr, List, [], ◌∷◌, length, Some, refl, sym, ap, ◌∙◌, arith}
use Rattle.std.specs.Cmp as cmp
use Rattle.std.proofs.Math.Bool.{and-true}
use Rattle.std.proofs.lemmas.Bool.{false≢true, and_parts, and_from, cases_Bool, eqb-true, eq-eqb, ltb-true}
use Rattle.std.specs.Prelude.{◌&&◌, not, nat_eq, nat_le, nat_lt, slice_get}
use Rattle.std.specs.List.{list_any}
use Rattle.std.specs.Cmp.Lexicographic.{bytes_decides}
use Rattle.lrs_inventory.specs.Prelude.{same_name, Ground, Asset, B, Span, Place, places_on, holds_by_spans, Removal, is_within, IsRemoval, Image, RouteRow, state_of, asset_entry, holds_on, EventStretch, part_of, IsSound}
use Rattle.lrs_measure.specs.Lists.{In, is_nothing}
use Rattle.lrs_measure.proofs.Members.{any_found, any_of, flat_map_found}
use Rattle.lrs_element.specs.Course.{is_at}
use Rattle.lrs_events.specs.declared.side.LinkSide.{LinkSide}
use Rattle.lrs_events.specs.Members.{is_member}
use Rattle.lrs_events.specs.Places.{beside, places_at, lies_on}
use Rattle.lrs_events.specs.Row.CourseMembers.{is_held}
use Rattle.lrs_events.specs.Row.Removals.{Taken}
use Rattle.lrs_machine.specs.State as state
use Rattle.lrs_machine.specs.Register.{get}
use Rattle.lrs_machine.specs.Machine.{belongs_to}
use Rattle.lrs_machine.proofs.Ledgers.{among_passes}
use Rattle.lrs_machine.proofs.Pairs.{beside_ground}
use Rattle.lrs_machine.proofs.Finding.{find_numbered}
use Rattle.lrs_image.proofs.Tables.{assets_in_order}
use Rattle.lrs_image_laws.proofs.Halved.{side_at, its_end, filled_in}
use Rattle.lrs_image_laws.proofs.Parted.{member_held}
use Rattle.lrs_verbs.specs.Removals.{of_asset_within}
use Rattle.lrs_image_laws.proofs.FromReferents.{ground_there}
use Rattle.lrs_image_laws.proofs.Holding.{alone, rows_held_at}
use Rattle.lrs_verbs.proofs.TakenInPlace.{IsTakenSo, among_at, on_both_sides, on_stretch, handed_back}

module _ (i : Image) (r : RouteRow) (asset : Asset) (x : EventStretch) (s : IsSound i) (m : In r i.routes) (known : get (state_of i).assets asset.number ≡ Some (asset_entry asset).1) where
  abbrev c : List Ground
  c = r.route.course

  abbrev part : List Ground
  part = part_of c x

  -- what is taken of the rows
  abbrev taken : Taken
  taken = of_asset_within asset x

  -- an asset of its number is of its class
  of_its_class : (y : Asset) → In y i.assets → y.number ≡ asset.number → y.class ≡ asset.class
  unfolding state_of
  of_its_class y k same =
      let found = find_numbered (λ (z : Asset). z.number) (λ (z : Asset). (asset_entry z).1) y i.assets (assets_in_order i s) k in
      class_is (asset_entry y).1 (asset_entry asset).1 (sym found ∙ ap (get (state_of i).assets) same ∙ known)
    where
      class_is : (a b : state.Asset) → Some a ≡ Some b → a.class ≡ b.class
      class_is a b h = ap (λ (z : state.Asset). z.class) (one h)
        where
          one : Some a ≡ Some b → a ≡ b
          one w = cc

  class_told : (y : Asset) → In y i.assets → nat_eq y.number asset.number ≡ (same_name y.class asset.class && nat_eq y.number asset.number)
  class_told y k = by (cases_Bool (nat_eq y.number asset.number))
    where
      and_false : (b : Bool) → (b && false) ≡ false
      and_false true = refl
      and_false false = refl

      by : (nat_eq y.number asset.number ≡ true) ⊎ (nat_eq y.number asset.number ≡ false) → nat_eq y.number asset.number ≡ (same_name y.class asset.class && nat_eq y.number asset.number)
      by (inl e) = e ∙ sym (and_from (same_name y.class asset.class) (nat_eq y.number asset.number) ((bytes_decides y.class asset.class).1 (of_its_class y k (eqb-true y.number asset.number e))) e)
      by (inr e) = e ∙ sym (ap (λ b. same_name y.class asset.class && b) e ∙ and_false (same_name y.class asset.class))

  -- an entry is on the part where its chainage is within the stretch
  pub on_part : (j : ℕ) (g : Ground) (t : LinkSide) → slice_get c j ≡ Some g → lies_on part (beside g t) ≡ is_within x.from x.to j
  on_part j g t at = sym (on_both_sides part (beside g t)) ∙ among_at c x.from x.to B j g t (alone i r s m).once at ∙ and-true (is_within x.from x.to j)

  pub taken_so : IsTakenSo i c taken (belongs_to asset.number part)
  taken_so = record {
    there = λ y k j g t at. (λ z. class_told y k z && on_part j g t at z);
    only_there = λ a p h. on_stretch c x.from x.to p (and_parts (nat_eq a asset.number) (lies_on part p) h).1;
  }

  -- ---- whether something is taken

  module _ (removal : Removal) (within : x.to ≤ length c) (is : IsRemoval taken r.spans removal) where
    abbrev places : List Place
    places = places_on B part

    abbrev left : List Span
    left = removal.left.items

    back : (p : Place) → (list_any (λ e. holds_on e asset.number p) i.routes && belongs_to asset.number part asset.number p) ≡ holds_by_spans c left asset.number p
    back p = handed_back i r taken (belongs_to asset.number part) removal s m is taken_so asset.number p

    on_its_part : (p : Place) → In p places → lies_on part p ≡ true
    on_its_part p k =
        let g = flat_map_found (places_at B) p part k in
        let e = beside_ground B g.0 p g.2 in
        any_of (is_at (p.link, p.mm)) g.0 part g.1 (and_from (nat_eq g.0.link p.link) (nat_eq g.0.mm p.mm) (eq-eqb g.0.link p.link (sym e.0)) (eq-eqb g.0.mm p.mm (sym e.1)))

    -- what it holds there is handed back
    some_left : list_any ((state_of i).holds asset.number) places ≡ true → not (is_nothing left) ≡ true
    unfolding state_of
    some_left h =
        let p = any_found ((state_of i).holds asset.number) places h in
        let held = sym (back p.0) ∙ and_from (list_any (λ e. holds_on e asset.number p.0) i.routes) (belongs_to asset.number part asset.number p.0) p.2
        (and_from (nat_eq asset.number asset.number) (lies_on part p.0) (eq-eqb asset.number asset.number refl) (on_its_part p.0 p.1)) in
        by left p.0 held
      where
        by : (rows : List Span) (p : Place) → holds_by_spans c rows asset.number p ≡ true → not (is_nothing rows) ≡ true
        by [] p k = k
        by (q ∷ qs) p k = refl

    -- what is handed back was held there
    was_held : (q : Span) → In q left → list_any ((state_of i).holds asset.number) places ≡ true
    unfolding state_of
    was_held q k =
        let filled = filled_in left is.left_rows q k in
        let j = q.to - 1 in
        let t = (side_at q.side).0 in
        let said = its_end q left k filled in
        let both = and_parts (is_member r.spans q.class q.asset j t) (taken q.class q.asset j t) (sym (is.left q.class q.asset j t) ∙ said) in
        let of = and_parts (same_name q.class asset.class && nat_eq q.asset asset.number) (is_within x.from x.to j) both.1 in
        let number : q.asset ≡ asset.number = eqb-true q.asset asset.number (and_parts (same_name q.class asset.class) (nat_eq q.asset asset.number) of.0).1 in
        let below = ltb-true j x.to (and_parts (nat_le x.from j) (nat_lt j x.to) of.1).1 in
        let g = ground_there c j (omega (arith, below, within)) in
        let p = beside g.0 t in
        let held = rows_held_at c left j g.0 t (alone i r s m).once g.1 asset.number ∙ ap (λ a. is_held left a j t) (sym number) ∙ member_held q.asset j t left q.class said in
        let two = and_parts (list_any (λ e. holds_on e asset.number p) i.routes) (belongs_to asset.number part asset.number p) (back p ∙ held) in
        among_passes ((state_of i).holds asset.number) places p (on_both_sides part p ∙ (and_parts (nat_eq asset.number asset.number) (lies_on part p) two.1).1) two.0

    pub some_is_left : list_any ((state_of i).holds asset.number) places ≡ not (is_nothing left)
    some_is_left = cmp.both_ways (list_any ((state_of i).holds asset.number) places) (not (is_nothing left)) some_left (λ h. by left h was_held)
      where
        by : (rows : List Span) → not (is_nothing rows) ≡ true → ((q : Span) → In q rows → list_any ((state_of i).holds asset.number) places ≡ true) → list_any ((state_of i).holds asset.number) places ≡ true
        by [] h w = absurd (false≢true h)
        by (q ∷ qs) h w = w q (inl refl)
