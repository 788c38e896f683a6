-- What is present of a class is the sum of the lengths of its rows.
use Rattle.std.proofs.Common.{◌≡◌, ℕ, ◌+◌, ◌-◌, ◌*◌, ◌<◌, ◌≤◌, zero, suc, Bool, true, false, cond, inl, inr, List, [], ◌∷◌, drop, map, length, length-take, Option, Some, None, refl, sym, ap, subst, ◌∙◌, arith, sum_by}
use Rattle.std.specs.Prelude.{◌&&◌, nat_eq, nat_lt, nat_le, slice_range}
use Rattle.std.specs.List.{list_any, list_all, count_by}
use Rattle.std.specs.Option.{option_map}
use Rattle.std.specs.Cmp as cmp
use Rattle.std.specs.Cmp.Lexicographic.{bytes_decides}
use Rattle.std.proofs.lemmas.Bool.{both_ways, not-true, and_parts, and_from, eq-eqb, leb-true}
use Rattle.std.proofs.lemmas.List.{length-drop}
use Rattle.std.proofs.lemmas.List.Sums.{sum_by-cons}
use Rattle.lrs_measure.specs.Texts.{Name, same_name}
use Rattle.lrs_measure.specs.Lists.{In, each_two}
use Rattle.lrs_measure.proofs.Members.{any_of, all_at}
use Rattle.lrs_measure.proofs.Counts.{at_most_one}
use Rattle.lrs_element.specs.declared.link.Ground.{Ground}
use Rattle.lrs_element.specs.Course.{meets}
use Rattle.lrs_events.specs.declared.class.Asset.{Asset}
use Rattle.lrs_events.specs.declared.side.Side.{Side}
use Rattle.lrs_events.specs.declared.side.Side.TheVariants.{L, R, B}
use Rattle.lrs_events.specs.declared.side.LinkSide.{LinkSide}
use Rattle.lrs_events.specs.declared.side.LinkSide.TheVariants.{Left, Right}
use Rattle.lrs_events.specs.declared.span.Span.{Span}
use Rattle.lrs_events.specs.Places.{Place, same_place, same_link_side, beside, places_on, is_among}
use Rattle.lrs_events.specs.Spans.{are_rows, holds_by_span}
use Rattle.lrs_events.specs.Ledger.Ledger.{times_in_row, times_in_rows}
use Rattle.lrs_events.proofs.Ledger.Once.{are_had, rows_once}
use Rattle.lrs_events.proofs.Row.Rows.{rows_from}
use Rattle.lrs_machine.specs.declared.image.Image.{Image}
use Rattle.lrs_machine.specs.declared.image.RouteRow.{RouteRow}
use Rattle.lrs_machine.specs.Image.{state_of, holds_on, asset_entry}
use Rattle.lrs_machine.specs.Readings.{all_places, assets_of, total_present}
use Rattle.lrs_machine.specs.Register.{get}
use Rattle.lrs_machine.specs.Sound.{IsSound, is_span}
use Rattle.lrs_machine.specs.State.{State}
use Rattle.lrs_machine.specs.State as state
use Rattle.lrs_machine.specs.Laws.{IsCounted}
use Rattle.lrs_machine.proofs.Counting.{totals_count_all}
use Rattle.lrs_machine.proofs.SoundImages.{sound_is_lawful}
use Rattle.lrs_image_laws.proofs.Apart.{nat_eq-comm, meet_at}
use Rattle.lrs_image_laws.proofs.FromReferents.{apart_courses}
use Rattle.lrs_image_laws.proofs.Holding.{alone}
use Rattle.lrs_image_laws.proofs.Leaving.{held_lies}
use Rattle.lrs_report.specs.ListTotals.{side_count, row_length, present_on, present_of}
use Rattle.lrs_report_answers.proofs.AllRows.{sought, asset_is, sought_known, row_of_class}
use Rattle.lrs_report_answers.proofs.Ledgers.{sum-same, sum-all, sum-gate, sum-if, exchange, any_counted, own_side}
use Rattle.lrs_report_answers.proofs.OfState.{row_tests, rows_fit}

-- ---- sums

ones : {X : Type 0} (f : X → ℕ) (xs : List X) → ((x : X) → In x xs → f x ≡ 1) → sum_by f xs ≡ length xs
ones f [] h = refl
ones f (x ∷ xs) h = let all = sum_by-cons f x xs in let one = h x (inl refl) in let rest = ones f xs (λ y m. h y (inr m)) in omega (arith, all, one, rest)

pub sum-map : {X Y : Type 0} (g : Y → ℕ) (f : X → Y) (xs : List X) → sum_by g (map f xs) ≡ sum_by (λ x. g (f x)) xs
sum-map g f [] = refl
sum-map g f (x ∷ xs) = sum_by-cons g (f x) (map f xs) ∙ ap (λ n. g (f x) + n) (sum-map g f xs) ∙ sym (sum_by-cons (λ x. g (f x)) x xs)

one_or_none : (n : ℕ) → n ≤ 1 → cond (nat_lt 0 n) 1 0 ≡ n
one_or_none zero h = refl
one_or_none (suc zero) h = refl
one_or_none (suc (suc n)) h = absurd (omega (arith, h))

times_test : (n : ℕ) (b : Bool) → n * cond b 1 0 ≡ cond b n 0
times_test n true = omega arith
times_test n false = omega arith

-- ---- the places of a row

side-comm : (s t : LinkSide) → same_link_side s t ≡ same_link_side t s
side-comm Left Left = refl
side-comm Left Right = refl
side-comm Right Left = refl
side-comm Right Right = refl

place-comm : (p q : Place) → same_place p q ≡ same_place q p
place-comm p q = λ j. nat_eq-comm p.link q.link j && nat_eq-comm p.mm q.mm j && side-comm p.side q.side j

own_place : (q : Place) → same_place q q ≡ true
own_place q =
    and_from (nat_eq q.link q.link && nat_eq q.mm q.mm) (same_link_side q.side q.side)
    (and_from (nat_eq q.link q.link) (nat_eq q.mm q.mm) (eq-eqb q.link q.link refl) (eq-eqb q.mm q.mm refl)) (own_side q.side)

-- Places that are each one of a list have as many of it as they are.
counted_places : (places ps : List Place) → ((q : Place) → In q ps → count_by (same_place q) places ≡ 1) → sum_by (λ p. count_by (same_place p) ps) places ≡ length ps
counted_places places ps once =
    exchange (λ p q. cond (same_place p q) 1 0) places ps
    ∙ ones (λ q. sum_by (λ p. cond (same_place p q) 1 0) places) ps (λ q m. sum-all _ _ places (λ p. ap (λ b. cond b 1 0) (place-comm p q)) ∙ once q m)

grown : {X Y : Type 0} (x : X) (xs : List X) (y : Y) (ys : List Y) → length xs ≡ length ys * 1 → length (x ∷ xs) ≡ length (y ∷ ys) * 1
grown x xs y ys e = omega (arith, e)

grown_twice : {X Y : Type 0} (x z : X) (xs : List X) (y : Y) (ys : List Y) → length xs ≡ length ys * 2 → length (x ∷ z ∷ xs) ≡ length (y ∷ ys) * 2
grown_twice x z xs y ys e = omega (arith, e)

sides_count : (side : Side) (gs : List Ground) → length (places_on side gs) ≡ length gs * side_count side
sides_count L [] = refl
sides_count L (g ∷ gs) = grown (beside g Left) (places_on L gs) g gs (sides_count L gs)
sides_count R [] = refl
sides_count R (g ∷ gs) = grown (beside g Right) (places_on R gs) g gs (sides_count R gs)
sides_count B [] = refl
sides_count B (g ∷ gs) = grown_twice (beside g Left) (beside g Right) (places_on B gs) g gs (sides_count B gs)

slice_length : (xs : List Ground) (from to : ℕ) → from < to → to ≤ length xs → length (slice_range xs from to) ≡ to - from
slice_length xs from to some within = let short = length-take (to - from) (drop from xs) in let rest = length-drop from xs in omega (arith, some, within, short, rest)

abbrev its_places : List Ground → Span → List Place
its_places course r = places_on r.side (slice_range course r.from r.to)

places_count : (course : List Ground) (r : Span) → r.from < r.to → r.to ≤ length course → length (its_places course r) ≡ row_length r
places_count course r some within = sides_count r.side (slice_range course r.from r.to) ∙ ap (λ n. n * side_count r.side) (slice_length course r.from r.to some within)

some_once : (n : ℕ) → 0 < n → 0 < n * 1
some_once n h = omega (arith, h)

some_twice : (n : ℕ) → 0 < n → 0 < n * 2
some_twice n h = omega (arith, h)

some_side : (side : Side) (n : ℕ) → 0 < n → 0 < n * side_count side
some_side L n h = some_once n h
some_side R n h = some_once n h
some_side B n h = some_twice n h

first_of : (ps : List Place) (n : ℕ) → 0 < n → length ps ≡ n → (q : Place) × In q ps
first_of [] n h e = absurd (omega (arith, h, e))
first_of (q ∷ qs) n h e = (q, inl refl)

-- ---- names

pub names_turned : (a b : Name) → same_name a b ≡ same_name b a
names_turned a b = cmp.both_ways (same_name a b) (same_name b a) (λ t. (bytes_decides b a).1 (sym ((bytes_decides a b).0 t))) (λ t. (bytes_decides a b).1 (sym ((bytes_decides b a).0 t)))

none_some : {X : Type 0} (x : X) → Some x ≡ None → ⊥
none_some x e = cc e

same_some : {X : Type 0} (x y : X) → Some x ≡ Some y → x ≡ y
same_some x y e = cc

-- ---- what is present

module _ (i : Image) (sound : IsSound i) where
  abbrev s : State
  s = state_of i

  apart_routes : (xs : List RouteRow) → xs ≡ i.routes → each_two apart_courses xs ≡ true
  apart_routes [] e = refl
  apart_routes (r ∷ rs) e = ap (each_two apart_courses) e ∙ (alone i r sound (subst (In r) e (inl refl))).apart

  -- one route at most holds a place
  on_one_route : (a : ℕ) (p : Place) → count_by (λ e. holds_on e a p) i.routes ≤ 1
  on_one_route a p =
      at_most_one (λ e. holds_on e a p) apart_courses i.routes (apart_routes i.routes refl)
      (λ x y m n test h k. both_ways (meets x.route.course y.route.course) (not-true (meets x.route.course y.route.course) test) (meet_at x.route.course y.route.course (p.link, p.mm) (held_lies x a p h) (held_lies y a p k)))

  abbrev times : RouteRow → Span → ℕ → Place → ℕ
  times e r a p = times_in_row e.route.course a p r

  rows_of_route : (e : RouteRow) → In e i.routes → are_rows e.spans ≡ true
  rows_of_route e m = (and_parts (are_rows e.spans) (list_all (is_span i.assets (length e.route.course)) e.spans) (row_tests i e sound m)).0

  -- its rows have it as often as it is held
  on_route : (e : RouteRow) → In e i.routes → (a : ℕ) (p : Place) → cond (holds_on e a p) 1 0 ≡ sum_by (λ r. times e r a p) e.spans
  on_route e m a p =
      ap (λ b. cond b 1 0) (are_had e.route.course e.spans a p)
      ∙ one_or_none (times_in_rows e.route.course e.spans a p) (rows_once e.route.course e.spans a p (alone i e sound m).once (rows_of_route e m))

  held_times : (a : ℕ) (p : Place) → cond (s.holds a p) 1 0 ≡ sum_by (λ e. sum_by (λ r. times e r a p) e.spans) i.routes
  unfolding state_of
  held_times a p = any_counted (λ e. holds_on e a p) i.routes (on_one_route a p) ∙ sum-same _ _ i.routes (λ e m. on_route e m a p)

  -- what a row has of an asset of the class
  abbrev row_share : Name → RouteRow → Span → ℕ
  row_share class e r = sum_by (λ a. sum_by (λ p. times e r a p) (all_places s)) (assets_of class s)

  by_rows : (class : Name) → total_present class s ≡ sum_by (λ e. sum_by (λ r. row_share class e r) e.spans) i.routes
  by_rows class =
      sum-all _ _ (assets_of class s) (λ a. sum-all _ _ (all_places s) (held_times a) ∙ exchange (λ p e. sum_by (λ r. times e r a p) e.spans) (all_places s) i.routes
      ∙ sum-all _ _ i.routes (λ e. exchange (λ p r. times e r a p) (all_places s) e.spans))
      ∙ exchange (λ a e. sum_by (λ r. sum_by (λ p. times e r a p) (all_places s)) e.spans) (assets_of class s) i.routes
      ∙ sum-all _ _ i.routes (λ e. exchange (λ a r. sum_by (λ p. times e r a p) (all_places s)) (assets_of class s) e.spans)

  module _ (e : RouteRow) (m : In e i.routes) (r : Span) (n : In r e.spans) where
    abbrev ps : List Place
    ps = its_places e.route.course r

    held_place : (q : Place) → In q ps → s.holds r.asset q ≡ true
    unfolding state_of
    held_place q k =
        any_of (λ f. holds_on f r.asset q) e i.routes m
        (any_of (λ t. holds_by_span e.route.course t r.asset q) r e.spans n
        (and_from (nat_eq r.asset r.asset) (is_among ps q) (eq-eqb r.asset r.asset refl) (any_of (same_place q) q ps k (own_place q))))

    counted : (q : Place) → In q ps → IsCounted s r.asset q
    counted q k = (totals_count_all s (sound_is_lawful i sound)).held r.asset q (held_place q k)

    some : r.from < r.to
    some = ((rows_from e.spans (rows_of_route e m)).full r n).some

    within : r.to ≤ length e.route.course
    within = leb-true r.to (length e.route.course) (and_parts (nat_le r.to (length e.route.course)) (list_any (λ (a : Asset). nat_eq a.number r.asset && same_name a.class r.class) i.assets) (all_at (is_span i.assets (length e.route.course)) r e.spans (rows_fit i e sound m) n)).0

    size : sum_by (λ p. count_by (same_place p) ps) (all_places s) ≡ row_length r
    size = counted_places (all_places s) ps (λ q k. (counted q k).place) ∙ places_count e.route.course r some within

    first : (q : Place) × In q ps
    first = let more = some in first_of ps (row_length r) (some_side r.side (r.to - r.from) (omega (arith, more))) (places_count e.route.course r some within)

    -- the asset is of the row's class
    its_class : (row : state.Asset) → get s.assets r.asset ≡ Some row → row.class ≡ r.class
    its_class row known = by (sought i r.asset) refl
      where
        by : (o : Option Asset) → o ≡ sought i r.asset → row.class ≡ r.class
        by None h = absurd (none_some row (sym known ∙ asset_is i r.asset ∙ ap (option_map (λ (a : Asset). (asset_entry a).1)) (sym h)))
        by (Some a) h =
            let its = sought_known i r.asset a h in
            let test = row_of_class i sound a its.0 e m r n in
            let same = and_parts (same_name r.class a.class) (nat_eq r.asset a.number) (sym test ∙ eq-eqb r.asset a.number (sym its.1)) in
            let is : row ≡ (asset_entry a).1 = same_some row (asset_entry a).1 (sym known ∙ asset_is i r.asset ∙ ap (option_map (λ (x : Asset). (asset_entry x).1)) (sym h)) in
            ap (λ (x : state.Asset). x.class) is ∙ sym ((bytes_decides r.class a.class).0 same.0)

    -- a row's share is its length, for its class alone
    share_is : (class : Name) → row_share class e r ≡ cond (same_name class r.class) (row_length r) 0
    share_is class =
        let its = counted first.0 first.1 in
        let all = sum_by (λ p. count_by (same_place p) ps) (all_places s) in
        sum-all _ _ (assets_of class s) (λ a. sum-if (nat_eq r.asset a) (λ p. count_by (same_place p) ps) (all_places s))
        ∙ sum-gate (nat_eq r.asset) all (assets_of class s)
        ∙ (λ j. size j * its.of_class class j)
        ∙ times_test (row_length r) (same_name its.row.class class)
        ∙ ap (λ b. cond b (row_length r) 0) (ap (λ c. same_name c class) (its_class its.row its.known) ∙ names_turned r.class class)

  -- What is present of a class is the sum over the rows of the routes.
  pub present_is : (class : Name) → total_present class s ≡ present_of class (map (λ e. e.spans) i.routes)
  present_is class =
      by_rows class
      ∙ sum-same _ _ i.routes (λ e m. sum-same _ _ e.spans (λ r n. share_is e m r n class))
      ∙ sym (sum-map (present_on class) (λ (e : RouteRow). e.spans) i.routes)
