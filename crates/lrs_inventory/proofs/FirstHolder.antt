-- The least asset of a class that holds a place of a route is told by the route's own rows.
use Rattle.std.proofs.Common.{◌≡◌, ℕ, zero, suc, ◌+◌, ◌-◌, ◌<◌, ◌≤◌, Bool, true, false, cond, ◌⊎◌, inl, inr, List, [], ◌∷◌, map, take, drop, length, Option, Some, None, refl, sym, ap, ◌∙◌, arith}
use Rattle.std.specs.List as list
use Rattle.std.proofs.lemmas.Bool.{false≢true, both_ways, and_parts, and_from, cases_Bool, eqb-true, ltb-true}
use Rattle.std.specs.Prelude.{◌&&◌, nat_eq, nat_le, slice_get, slice_range}
use Rattle.std.specs.List.{list_any, list_all}
use Rattle.std.specs.Option.{option_map}
use Rattle.std.specs.Cmp.Lexicographic.{bytes_decides}
use Rattle.lrs_measure.specs.Lists.{In}
use Rattle.lrs_measure.proofs.Members.{any_found, any_of, all_at, two_at, In-map, In-flat_map, flat_map_found}
use Rattle.lrs_inventory.specs.Prelude.{each_two, Name, same_name, Ground, Asset, B, Span, Place, places_on, are_rows, RouteRow, Image, state_of, asset_entry, IsSound, asset_before, is_span, are_spans_of}
use Rattle.lrs_events.specs.declared.side.Side.{Side}
use Rattle.lrs_events.specs.declared.side.Side.TheVariants.{L, R}
use Rattle.lrs_events.specs.declared.side.LinkSide.{LinkSide}
use Rattle.lrs_events.specs.declared.side.LinkSide.TheVariants.{Left, Right}
use Rattle.lrs_events.specs.Members.{has_side, between, stands_for, has_member}
use Rattle.lrs_events.specs.Places.{beside, places_at}
use Rattle.lrs_events.specs.Row.CourseMembers.{is_held}
use Rattle.lrs_events.specs.RouteSpans.Search.{HoldsOver, IsOver}
use Rattle.lrs_machine.specs.State as state
use Rattle.lrs_machine.specs.Machine.{first_holder}
use Rattle.lrs_machine.specs.Sound.{spans_of, keeps_exclusive, RouteSpans}
use Rattle.lrs_image.proofs.Tables.{passes, assets_in_order}
use Rattle.lrs_image_laws.proofs.FromReferents.{ground_there}
use Rattle.lrs_image_laws.proofs.Holding.{held_at}

-- ---- entries of a stretch

-- the entry is at a place of the stretch
record IsEntryIn (c : List Ground) (from to : ℕ) (g : Ground) : Type 0 where
  at : ℕ
  low : from ≤ at
  high : at < to
  is : slice_get c at ≡ Some g

entry_in : (c : List Ground) (k n : ℕ) (g : Ground) → In g (take n (drop k c)) → IsEntryIn c k (k + n) g
entry_in [] zero zero g m = absurd m
entry_in [] zero (suc n) g m = absurd m
entry_in [] (suc k) zero g m = absurd m
entry_in [] (suc k) (suc n) g m = absurd m
entry_in (x ∷ xs) (suc k) n g m = let e = entry_in xs k n g m in let low = e.low in let high = e.high in record { at = suc e.at; low = omega (arith, low); high = omega (arith, high); is = e.is }
entry_in (x ∷ xs) zero zero g m = absurd m
entry_in (x ∷ xs) zero (suc n) g (inl e) = record { at = zero; low = omega arith; high = omega arith; is = ap Some (sym e) }
entry_in (x ∷ xs) zero (suc n) g (inr m) = let e = entry_in xs zero n g m in let high = e.high in record { at = suc e.at; low = omega arith; high = omega (arith, high); is = e.is }

in_entry : (c : List Ground) (k n j : ℕ) (g : Ground) → k ≤ j → j < k + n → slice_get c j ≡ Some g → In g (take n (drop k c))
in_entry [] k n j g low high is = absurd (cc is)
in_entry (x ∷ xs) (suc k) n zero g low high is = absurd (omega (arith, low))
in_entry (x ∷ xs) (suc k) n (suc j) g low high is = in_entry xs k n j g (omega (arith, low)) (omega (arith, high)) is
in_entry (x ∷ xs) zero zero j g low high is = absurd (omega (arith, high))
in_entry (x ∷ xs) zero (suc n) zero g low high is = inl (some_is g x is)
  where
    some_is : (a b : Ground) → Some b ≡ Some a → a ≡ b
    some_is a b w = cc
in_entry (x ∷ xs) zero (suc n) (suc j) g low high is = inr (in_entry xs zero n j g (omega arith) (omega (arith, high)) is)

-- a place at an entry is on a side of the course
on_a_side : (side : Side) (g : Ground) (p : Place) → In p (places_at side g) → (s : LinkSide) × (has_side side s ≡ true) × (p ≡ beside g s)
on_a_side L g p (inl e) = (Left, refl, e)
on_a_side L g p (inr m) = absurd m
on_a_side R g p (inl e) = (Right, refl, e)
on_a_side R g p (inr m) = absurd m
on_a_side B g p (inl e) = (Left, refl, e)
on_a_side B g p (inr (inl e)) = (Right, refl, e)
on_a_side B g p (inr (inr m)) = absurd m

side_in : (side : Side) (g : Ground) (s : LinkSide) → has_side side s ≡ true → In (beside g s) (places_at side g)
side_in L g Left h = inl refl
side_in L g Right h = absurd (false≢true h)
side_in R g Left h = absurd (false≢true h)
side_in R g Right h = inl refl
side_in B g Left h = inl refl
side_in B g Right h = inr (inl refl)

-- ---- assets in order

least_found : (test : Asset → Bool) (xs : List Asset) (a : Asset) → each_two asset_before xs ≡ true → In a xs → test a ≡ true → ((b : Asset) → In b xs → test b ≡ true → a.number ≤ b.number)
    → option_map (λ (b : Asset). b.number) (list.find test xs) ≡ Some a.number
least_found test [] a h m t w = absurd m
least_found test (y ∷ ys) a h m t w = by (cases_Bool (test y)) m (λ k. least_found test ys a both.1 k t (λ b n. w b (inr n)))
  where
    both : (list_all (asset_before y) ys ≡ true) × (each_two asset_before ys ≡ true)
    both = and_parts (list_all (asset_before y) ys) (each_two asset_before ys) h

    one : test y ≡ true → (a ≡ y) ⊎ In a ys → y.number ≡ a.number
    one e (inl k) = ap (λ z. z.number) (sym k)
    one e (inr k) = let less = ltb-true y.number a.number (all_at (asset_before y) a ys both.0 k) in let high = w y (inl refl) e in absurd (omega (arith, less, high))

    by : (test y ≡ true) ⊎ (test y ≡ false) → (a ≡ y) ⊎ In a ys → (In a ys → option_map (λ (b : Asset). b.number) (list.find test ys) ≡ Some a.number)
        → option_map (λ (b : Asset). b.number) (list.find test (y ∷ ys)) ≡ Some a.number
    by (inl e) k rest = ap (λ b. option_map (λ (b : Asset). b.number) (cond b (Some y) (list.find test ys))) e ∙ ap Some (one e k)
    by (inr e) (inl k) rest = absurd (both_ways (test y) e (ap test (sym k) ∙ t))
    by (inr e) (inr k) rest = ap (λ b. option_map (λ (b : Asset). b.number) (cond b (Some y) (list.find test ys))) e ∙ rest k

none_found : (test : Asset → Bool) (xs : List Asset) → ((b : Asset) → In b xs → test b ≡ true → ⊥) → option_map (λ (b : Asset). b.number) (list.find test xs) ≡ None
none_found test [] w = refl
none_found test (y ∷ ys) w = by (cases_Bool (test y)) (none_found test ys (λ b n. w b (inr n)))
  where
    by : (test y ≡ true) ⊎ (test y ≡ false) → option_map (λ (b : Asset). b.number) (list.find test ys) ≡ None → option_map (λ (b : Asset). b.number) (list.find test (y ∷ ys)) ≡ None
    by (inl e) rest = absurd (w y (inl refl) e)
    by (inr e) rest = ap (λ b. option_map (λ (b : Asset). b.number) (cond b (Some y) (list.find test ys))) e ∙ rest

found_entry : (test : ℕ × state.Asset → Bool) (xs : List Asset) → option_map (λ (e : ℕ × state.Asset). e.0) (list.find test (map asset_entry xs)) ≡ option_map (λ (b : Asset). b.number) (list.find (λ b. test (asset_entry b)) xs)
found_entry test [] = refl
found_entry test (y ∷ ys) =
    elim (test (asset_entry y)) as (λ b. option_map (λ (e : ℕ × state.Asset). e.0) (cond b (Some (asset_entry y)) (list.find test (map asset_entry ys))) ≡ option_map (λ (b : Asset). b.number) (cond b (Some y) (list.find (λ b. test (asset_entry b)) ys))) [
      | true ↦ refl
      | false ↦ found_entry test ys
    ]

-- ---- the rows of a route and their assets

abbrev pub spans_entry : RouteRow → RouteSpans
spans_entry f = record { course = f.route.course; rows = f.spans }

module _ (i : Image) (r : RouteRow) (sound : IsSound i) (m : In r i.routes) where
  pub row_tests : are_spans_of i.assets (spans_entry r) ≡ true
  row_tests = all_at (are_spans_of i.assets) (spans_entry r) (spans_of i)
      (and_parts (list_all (are_spans_of i.assets) (spans_of i)) (list_all (keeps_exclusive i.links i.assets (spans_of i)) i.classes) (passes i sound).spans).0 (In-map spans_entry r i.routes m)

  -- the asset of a row
  pub asset_of : (q : Span) → In q r.spans → (a : Asset) × In a i.assets × (a.number ≡ q.asset) × (a.class ≡ q.class)
  asset_of q k =
      let known = λ (a : Asset). nat_eq a.number q.asset && same_name a.class q.class in
      let test = all_at (is_span i.assets (length r.route.course)) q r.spans (and_parts (are_rows r.spans) (list_all (is_span i.assets (length r.route.course)) r.spans) row_tests).1 k in
      let found = any_found known i.assets (and_parts (nat_le q.to (length r.route.course)) (list_any known i.assets) test).1 in
      let t = and_parts (nat_eq found.0.number q.asset) (same_name found.0.class q.class) found.2 in
      (found.0, found.1, eqb-true found.0.number q.asset t.0, (bytes_decides found.0.class q.class).0 t.1)

  -- assets of one number are one
  one_asset : (a b : Asset) → In a i.assets → In b i.assets → a.number ≡ b.number → a ≡ b
  one_asset a b k n e = by (two_at asset_before a b i.assets (assets_in_order i sound) k n)
    where
      by : (a ≡ b) ⊎ ((asset_before a b ≡ true) ⊎ (asset_before b a ≡ true)) → a ≡ b
      by (inl s) = s
      by (inr (inl s)) = let less = ltb-true a.number b.number s in absurd (omega (arith, less, e))
      by (inr (inr s)) = let less = ltb-true b.number a.number s in absurd (omega (arith, less, e))

  -- ---- who holds a place of the stretch

  module _ (class : Name) (from to : ℕ) (side : Side) (filled : from < to) (within : to ≤ length r.route.course) where
    abbrev places : List Place
    places = places_on side (slice_range r.route.course from to)

    abbrev is_holder : Asset → Bool
    is_holder a = same_name a.class class && list_any ((state_of i).holds a.number) places

    -- an asset of the class that holds a place there has rows there
    has_rows : (a : Asset) → In a i.assets → is_holder a ≡ true → HoldsOver r.spans class from to side a.number
    has_rows a k h =
        let t = and_parts (same_name a.class class) (list_any ((state_of i).holds a.number) places) h in
        let p = any_found ((state_of i).holds a.number) places t.1 in
        let g = flat_map_found (places_at side) p.0 (slice_range r.route.course from to) p.1 in
        let e = entry_in r.route.course from (to - from) g.0 g.1 in
        let s = on_a_side side g.0 p.0 g.2 in
        let held : is_held r.spans a.number e.at s.0 ≡ true = sym (held_at i r sound m e.at g.0 s.0 e.is a.number) ∙ ap ((state_of i).holds a.number) (sym s.2) ∙ p.2 in
        let q = any_found (λ q. stands_for q a.number e.at s.0) r.spans held in
        let number = eqb-true q.0.asset a.number (and_parts (nat_eq q.0.asset a.number) (between q.0.from q.0.to q.0.side e.at s.0) q.2).0 in
        let b = asset_of q.0 q.1 in
        let same = one_asset a b.0 k b.1 (sym number ∙ sym b.2) in
        let ehigh = e.high in
        record {
          at = e.at;
          on = s.0;
          low = e.low;
          high = omega (arith, ehigh, filled);
          on_side = s.1;
          held = any_of (λ q. has_member q class a.number e.at s.0) q.0 r.spans q.1
              (and_from (same_name q.0.class class) (stands_for q.0 a.number e.at s.0) (ap (λ n. same_name n class) (sym b.3 ∙ ap (λ (z : Asset). z.class) (sym same)) ∙ t.0) q.2);
        }

    -- ... and one that has rows there holds a place
    holds_there : (n : ℕ) → HoldsOver r.spans class from to side n → (a : Asset) × In a i.assets × (a.number ≡ n) × (is_holder a ≡ true)
    holds_there n h =
        let q = any_found (λ q. has_member q class n h.at h.on) r.spans h.held in
        let t = and_parts (same_name q.0.class class) (stands_for q.0 n h.at h.on) q.2 in
        let a = asset_of q.0 q.1 in
        let number : a.0.number ≡ n = a.2 ∙ eqb-true q.0.asset n (and_parts (nat_eq q.0.asset n) (between q.0.from q.0.to q.0.side h.at h.on) t.1).0 in
        let low = h.low in
        let high = h.high in
        let g = ground_there r.route.course h.at (omega (arith, high, within)) in
        let held : is_held r.spans n h.at h.on ≡ true = any_of (λ q. stands_for q n h.at h.on) q.0 r.spans q.1 t.1 in
        let there = any_of ((state_of i).holds n) (beside g.0 h.on) places
        (In-flat_map (places_at side) g.0 (beside g.0 h.on) (slice_range r.route.course from to) (in_entry r.route.course from (to - from) h.at g.0 low (omega (arith, high, filled)) g.1) (side_in side g.0 h.on h.on_side))
        (held_at i r sound m h.at g.0 h.on g.1 n ∙ held) in
        (a.0, a.1, number, and_from (same_name a.0.class class) (list_any ((state_of i).holds a.0.number) places) (ap (λ c. same_name c class) a.3 ∙ t.0) (ap (λ k. list_any ((state_of i).holds k) places) number ∙ there))

    by_least : (found : Option ℕ) → IsOver r.spans class from to side found → option_map (λ (a : Asset). a.number) (list.find is_holder i.assets) ≡ found
    by_least None none = none_found is_holder i.assets (λ a k h. none a.number (has_rows a k h))
    by_least (Some n) first =
        let a = holds_there n first.here in
        let number = a.2 in
        least_found is_holder i.assets a.0 (assets_in_order i sound) a.1 a.3 (λ b k h. let low = first.least b.number (has_rows b k h) in omega (arith, low, number))
        ∙ ap Some number

    holder_is : first_holder (state_of i) class places ≡ option_map (λ (a : Asset). a.number) (list.find is_holder i.assets)
    unfolding state_of
    holder_is = found_entry (λ a. same_name a.1.class class && list_any ((state_of i).holds a.0) places) i.assets

    pub first_holder_is : (found : Option ℕ) → IsOver r.spans class from to side found → found ≡ first_holder (state_of i) class places
    first_holder_is found over = sym (holder_is ∙ by_least found over)
