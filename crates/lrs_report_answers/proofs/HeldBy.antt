-- The rows over a millimetre tell who holds it.
use Rattle.std.proofs.Common.{◌≡◌, ℕ, Bool, true, false, cond, ◌⊎◌, inl, inr, List, [], ◌∷◌, map, Option, Some, None, Result, Ok, Err, refl, sym, ap, ◌∙◌, arith}
use Rattle.std.specs.Prelude.{◌&&◌, nat_eq, nat_lt, nat_le, slice_get, IfOk}
use Rattle.std.specs.List.{filter_map, cons_option}
use Rattle.std.specs.List as list
use Rattle.std.specs.Option.{option_map}
use Rattle.std.proofs.lemmas.Bool.{both_ways, and_parts, and_from, cases_Bool, eqb-true, eq-eqb, ltb-true}
use Rattle.lrs_measure.specs.Lists.{In, each_two}
use Rattle.lrs_measure.proofs.Members.{any_found, any_of, two_at}
use Rattle.lrs_element.specs.declared.link.Ground.{Ground}
use Rattle.lrs_events.specs.declared.class.Asset.{Asset}
use Rattle.lrs_events.specs.declared.side.Side.{Side}
use Rattle.lrs_events.specs.declared.side.Side.TheVariants.{L, R, B}
use Rattle.lrs_events.specs.declared.side.LinkSide.{LinkSide}
use Rattle.lrs_events.specs.declared.side.LinkSide.TheVariants.{Left, Right}
use Rattle.lrs_events.specs.declared.span.Span.{Span}
use Rattle.lrs_events.specs.Canonical.{side_of}
use Rattle.lrs_events.specs.Changes.{has_row}
use Rattle.lrs_events.specs.Members.{has_side, stands_for}
use Rattle.lrs_events.specs.Row.CourseMembers.{is_held}
use Rattle.lrs_events.proofs.Row.Differing.{has_found, has_in}
use Rattle.lrs_machine.specs.declared.image.RouteRow.{RouteRow}
use Rattle.lrs_machine.specs.declared.image.Image.{Image}
use Rattle.lrs_machine.specs.declared.hit.Hit.{Hit}
use Rattle.lrs_machine.specs.Image.{state_of, asset_entry}
use Rattle.lrs_machine.specs.Readings.{hits_on, hit_of, asset_of}
use Rattle.lrs_machine.specs.Sound.{IsSound, asset_before}
use Rattle.lrs_image.proofs.Tables.{assets_in_order}
use Rattle.lrs_report_answers.specs.Answers.{IsRouteIn}
use Rattle.lrs_report_answers.specs.Hits.{hit_by}
use Rattle.lrs_report_answers.proofs.Asked.{route_in, found_in, found_passes}
use Rattle.lrs_image_laws.proofs.Holding.{held_at}
use Rattle.lrs_report_answers.proofs.Joined.{joined, is_false, filter_map-same, with_key}

its_sides : (s : Side) → side_of (has_side s Left) (has_side s Right) ≡ Some s
its_sides L = refl
its_sides R = refl
its_sides B = refl

-- where a search finds nothing, none passes
none_passes : {X : Type 0} (p : X → Bool) (x : X) (xs : List X) → list.find p xs ≡ None → In x xs → p x ≡ true → ⊥
none_passes p x [] h m e = m
none_passes {X} p x (y ∷ ys) h m e = by (cases_Bool (p y)) m (none_passes p x ys)
  where
    none_some : (let o : Option X = None in o) ≡ Some y → ⊥
    none_some w = cc

    by : (p y ≡ true) ⊎ (p y ≡ false) → (x ≡ y) ⊎ In x ys → (list.find p ys ≡ None → In x ys → p x ≡ true → ⊥) → ⊥
    by (inl t) n rest = none_some (sym h ∙ ap (λ b. cond b (Some y) (list.find p ys)) t)
    by (inr t) (inl same) rest = both_ways (p y) t (sym (ap p same) ∙ e)
    by (inr t) (inr n) rest = rest (sym (ap (λ b. cond b (Some y) (list.find p ys)) t) ∙ h) n e

module _ (rows found : List Span) (j : ℕ) (same : (r : Span) → has_row found r ≡ (has_row rows r && (nat_le r.from j && nat_lt j r.to))) (order : each_two (λ r s. nat_lt r.asset s.asset) found ≡ true) where
  -- a row that stands for a millimetre of the asset is found
  stands_found : (n : ℕ) (s : LinkSide) → is_held rows n j s ≡ true → (r : Span) × In r found × (r.asset ≡ n) × (has_side r.side s ≡ true)
  stands_found n s h =
      let r = any_found (λ (r : Span). stands_for r n j s) rows h in
      let t = and_parts (nat_eq r.0.asset n) (nat_le r.0.from j && nat_lt j r.0.to && has_side r.0.side s) r.2 in
      let u = and_parts (nat_le r.0.from j && nat_lt j r.0.to) (has_side r.0.side s) t.1 in
      (r.0, has_found found r.0 (same r.0 ∙ and_from (has_row rows r.0) (nat_le r.0.from j && nat_lt j r.0.to) (has_in rows r.0 r.1) u.0), eqb-true r.0.asset n t.0, u.1)

  found_stands : (r : Span) (s : LinkSide) → In r found → has_side r.side s ≡ true → is_held rows r.asset j s ≡ true
  found_stands r s m h =
      let t = and_parts (has_row rows r) (nat_le r.from j && nat_lt j r.to) (sym (same r) ∙ has_in found r m) in
      any_of (λ (q : Span). stands_for q r.asset j s) r rows (has_found rows r t.0)
      (and_from (nat_eq r.asset r.asset) (nat_le r.from j && nat_lt j r.to && has_side r.side s) (eq-eqb r.asset r.asset refl) (and_from (nat_le r.from j && nat_lt j r.to) (has_side r.side s) t.1 h))

  not_below : (m n : ℕ) → m ≡ n → nat_lt m n ≡ true → ⊥
  not_below m n e h = let l = ltb-true m n h in omega (arith, e, l)

  one : (q r : Span) → In q found → In r found → q.asset ≡ r.asset → q ≡ r
  one q r m n e = by (two_at (λ (r : Span) s. nat_lt r.asset s.asset) q r found order m n)
    where
      by : (q ≡ r) ⊎ ((nat_lt q.asset r.asset ≡ true) ⊎ (nat_lt r.asset q.asset ≡ true)) → q ≡ r
      by (inl w) = w
      by (inr (inl w)) = absurd (not_below q.asset r.asset e w)
      by (inr (inr w)) = absurd (not_below r.asset q.asset (sym e) w)

  held_by_row : (r : Span) (s : LinkSide) → In r found → is_held rows r.asset j s ≡ has_side r.side s
  held_by_row r s m = by (cases_Bool (has_side r.side s))
    where
      by : (has_side r.side s ≡ true) ⊎ (has_side r.side s ≡ false) → is_held rows r.asset j s ≡ has_side r.side s
      by (inl h) = found_stands r s m h ∙ sym h
      by (inr h) = is_false (is_held rows r.asset j s) (λ t. let q = stands_found r.asset s t in both_ways (has_side r.side s) h (ap (λ (x : Span). has_side x.side s) (sym (one q.0 r q.1 m q.2)) ∙ q.3)) ∙ sym h

  -- the side that the rows tell is that of the row that is found
  pub side_found : (n : ℕ) → side_of (is_held rows n j Left) (is_held rows n j Right) ≡ option_map (λ (r : Span). r.side) (list.find (with_key (λ (r : Span). r.asset) n) found)
  side_found n = by (list.find (with_key (λ (r : Span). r.asset) n) found) refl
    where
      none : (s : LinkSide) → list.find (with_key (λ (r : Span). r.asset) n) found ≡ None → is_held rows n j s ≡ false
      none s h = is_false (is_held rows n j s) (λ t. let q = stands_found n s t in none_passes (with_key (λ (r : Span). r.asset) n) q.0 found h q.1 (eq-eqb q.0.asset n q.2))

      by : (o : Option Span) → list.find (with_key (λ (r : Span). r.asset) n) found ≡ o → side_of (is_held rows n j Left) (is_held rows n j Right) ≡ option_map (λ (r : Span). r.side) o
      by None h = λ i. side_of (none Left h i) (none Right h i)
      by (Some r) h =
          let m = found_in (with_key (λ (r : Span). r.asset) n) r found h in
          let its : r.asset ≡ n = eqb-true r.asset n (found_passes (with_key (λ (r : Span). r.asset) n) r found h) in
          ap (λ k. side_of (is_held rows k j Left) (is_held rows k j Right)) (sym its)
          ∙ (λ i. side_of (held_by_row r Left m i) (held_by_row r Right m i)) ∙ its_sides r.side

filter_map-map : {X Y Z : Type 0} (f : Y → Option Z) (h : X → Y) (xs : List X) → filter_map f (map h xs) ≡ filter_map (λ x. f (h x)) xs
filter_map-map f h [] = refl
filter_map-map f h (x ∷ xs) = ap (cons_option (f (h x))) (filter_map-map f h xs)

with_side : Asset → Side → Hit
with_side a side = record { asset = a; side = side }

-- Who holds an entry of a route, as the rows over it tell.
pub hits_are : (i : Image) (r : RouteRow) → IsSound i → each_two asset_before i.assets ≡ true → IsRouteIn i r → (j : ℕ) (g : Ground) → slice_get r.route.course j ≡ Some g → (found : List Span)
    → ((q : Span) → has_row found q ≡ (has_row r.spans q && (nat_le q.from j && nat_lt j q.to))) → each_two (λ r s. nat_lt r.asset s.asset) found ≡ true
    → filter_map (hit_by i.assets) found ≡ hits_on (state_of i) g
unfolding state_of
hits_are i r sound in_order known j g at found same order =
    joined (λ (q : Span). q.asset) (λ (a : Asset). a.number) (λ q a. record { asset = a; side = q.side }) found i.assets order in_order
    ∙ filter_map-same _ _ i.assets (λ a m. by_side a (list.find (with_key (λ (q : Span). q.asset) a.number) found) ∙ ap (option_map (λ (side : Side). record { asset = a; side = side })) (sym (side_found r.spans found j same order a.number) ∙ (λ k. side_of (sym (held_at i r sound (route_in i r known) j g Left at a.number) k) (sym (held_at i r sound (route_in i r known) j g Right at a.number) k))))
    ∙ sym (filter_map-map (λ a. hit_of (state_of i) g (asset_of a)) asset_entry i.assets)
  where
    by_side : (a : Asset) (o : Option Span) → option_map (λ (q : Span). (let h : Hit = record { asset = a; side = q.side } in h)) o ≡ option_map (λ (side : Side). (let h : Hit = record { asset = a; side = side } in h)) (option_map (λ (q : Span). q.side) o)
    by_side a None = refl
    by_side a (Some q) = refl

pub holders_are : (i : Image) (r : RouteRow) → IsSound i → IsRouteIn i r → (j : ℕ) (found slice : List Span) {F : Type 0} (result : Result (List Hit) F) → slice ≡ found
    → ((q : Span) → has_row found q ≡ (has_row r.spans q && (nat_le q.from j && nat_lt j q.to))) → each_two (λ r s. nat_lt r.asset s.asset) found ≡ true
    → IfOk result (λ hits. hits ≡ filter_map (hit_by i.assets) slice) → IfOk result (λ hits. (g : Ground) → slice_get r.route.course j ≡ Some g → hits ≡ hits_on (state_of i) g)
holders_are i r sound known j found slice (Ok hits) same rows order h = λ g at. h ∙ ap (filter_map (hit_by i.assets)) same ∙ hits_are i r sound (assets_in_order i sound) known j g at found rows order
holders_are i r sound known j found slice (Err f) same rows order h = tt
