-- The rows of a lane of an exclusive class follow one another, and tell the values that its assets have.
use Rattle.std.proofs.Common.{◌≡◌, ℕ, ◌<◌, ◌≤◌, Bool, true, false, Option, Some, None, ◌⊎◌, inl, inr, List, [], ◌∷◌, refl, sym, ap, subst, ◌∙◌, arith}
use Rattle.std.specs.Prelude.{◌&&◌, nat_lt, nat_le, nat_eq}
use Rattle.std.specs.List.{find, list_any, list_all}
use Rattle.std.specs.Option.{option_map, option_and_then}
use Rattle.std.specs.Cmp.Lexicographic.{bytes_decides}
use Rattle.std.proofs.lemmas.Bool.{both_ways, and_parts, and_from, or_cases, eqb-true, eq-eqb, ltb-true, leb-true, lt-ltb, le-leb, cases_lt, cases_Bool}
use Rattle.lrs_measure.specs.Lists.{In, each_two}
use Rattle.lrs_measure.specs.Texts.{Name, same_name}
use Rattle.lrs_measure.proofs.Members.{any_found, any_of, all_at, two_at}
use Rattle.lrs_events.specs.declared.class.Asset.{Asset}
use Rattle.lrs_events.specs.declared.side.LinkSide.{LinkSide}
use Rattle.lrs_events.specs.declared.span.Span.{Span}
use Rattle.lrs_events.specs.Changes.{has_row}
use Rattle.lrs_events.specs.Members.{has_side, between, stands_for, has_member, is_member}
use Rattle.lrs_events.specs.Spans.{are_rows, are_apart, is_row, span_before}
use Rattle.lrs_events.proofs.Row.Rows.{rows_from, IsFull}
use Rattle.lrs_events.proofs.Row.Differing.{has_found, has_in}
use Rattle.lrs_events.proofs.Row.Unique.{IsOver, its_sides, one_over}
use Rattle.lrs_events.specs.LaneLists.Order.{place_before}
use Rattle.lrs_machine.specs.Sound.{asset_before, is_span}
use Rattle.lrs_machine.specs.Segments.{value_of}
use Rattle.lrs_events.specs.RouteSpans.LanesOfRows.{is_on}
use Rattle.lrs_report.specs.SideValues.{is_holder, HasOneHolder, FollowOn, is_at, row_value}
use Rattle.lrs_report.proofs.Found.{found_in, found_none, none_found, found_same}

-- a lane among rows of known assets, where no two assets of its class hold one millimetre
pub record IsLaneAmong (assets : List Asset) (rows lane : List Span) (class : Name) (side : LinkSide) (len : ℕ) : Type 0 where
  pub kept : are_rows rows ≡ true
  pub known : list_all (is_span assets len) rows ≡ true
  pub assets_order : each_two asset_before assets ≡ true
  pub one : HasOneHolder rows class
  pub rows_are : (r : Span) → has_row lane r ≡ (has_row rows r && is_on class side r)
  pub order : each_two place_before lane ≡ true

-- the row is of the class and on the side
record IsIn (rows : List Span) (class : Name) (side : LinkSide) (r : Span) : Type 0 where
  pub of_rows : In r rows
  pub of_class : same_name r.class class ≡ true
  pub on_side : has_side r.side side ≡ true

place_itself : (r : Span) → place_before r r ≡ true → ⊥
place_itself r h = by (or_cases (nat_lt r.from r.from) (nat_eq r.from r.from && nat_lt r.asset r.asset) h)
  where
    by : (nat_lt r.from r.from ≡ true) ⊎ ((nat_eq r.from r.from && nat_lt r.asset r.asset) ≡ true) → ⊥
    by (inl k) = let l = ltb-true r.from r.from k in omega (arith, l)
    by (inr k) = let l = ltb-true r.asset r.asset (and_parts (nat_eq r.from r.from) (nat_lt r.asset r.asset) k).1 in omega (arith, l)

begins : (r s : Span) → place_before r s ≡ true → r.from ≤ s.from
begins r s h = by (or_cases (nat_lt r.from s.from) (nat_eq r.from s.from && nat_lt r.asset s.asset) h)
  where
    by : (nat_lt r.from s.from ≡ true) ⊎ ((nat_eq r.from s.from && nat_lt r.asset s.asset) ≡ true) → r.from ≤ s.from
    by (inl k) = let l = ltb-true r.from s.from k in omega (arith, l)
    by (inr k) = let e = eqb-true r.from s.from (and_parts (nat_eq r.from s.from) (nat_lt r.asset s.asset) k).0 in omega (arith, e)

-- assets of one number are one
one_asset : (assets : List Asset) (a b : Asset) → each_two asset_before assets ≡ true → In a assets → In b assets → a.number ≡ b.number → a ≡ b
one_asset assets a b h m n e = by (two_at asset_before a b assets h m n)
  where
    by : (a ≡ b) ⊎ ((asset_before a b ≡ true) ⊎ (asset_before b a ≡ true)) → a ≡ b
    by (inl k) = k
    by (inr (inl k)) = let l = ltb-true a.number b.number k in absurd (omega (arith, l, e))
    by (inr (inr k)) = let l = ltb-true b.number a.number k in absurd (omega (arith, l, e))

module _ (assets : List Asset) (rows lane : List Span) (class : Name) (side : LinkSide) (len : ℕ) (h : IsLaneAmong assets rows lane class side len) where
  in_rows : (r : Span) → In r lane → IsIn rows class side r
  in_rows r m =
      let both = and_parts (has_row rows r) (is_on class side r) (sym (h.rows_are r) ∙ has_in lane r m) in
      let on = and_parts (same_name r.class class) (has_side r.side side) both.1 in
      record { of_rows = has_found rows r both.0; of_class = on.0; on_side = on.1 }

  in_lane : (r : Span) → IsIn rows class side r → In r lane
  in_lane r i = has_found lane r (h.rows_are r ∙ and_from (has_row rows r) (is_on class side r) (has_in rows r i.of_rows) (and_from (same_name r.class class) (has_side r.side side) i.of_class i.on_side))

  full : (r : Span) → In r lane → IsFull r
  full r m = (rows_from rows h.kept).full r (in_rows r m).of_rows

  rows_apart : each_two are_apart rows ≡ true
  rows_apart = (and_parts (list_all is_row rows && each_two span_before rows) (each_two are_apart rows) h.kept).1

  over : (r : Span) (j : ℕ) → In r lane → is_at j r ≡ true → IsOver r class r.asset j
  over r j m a =
      let p = and_parts (nat_le r.from j) (nat_lt j r.to) a in
      record { of_class = (bytes_decides r.class class).0 (in_rows r m).of_class; of_asset = refl; low = leb-true r.from j p.0; high = ltb-true j r.to p.1 }

  member : (r : Span) (j : ℕ) → In r lane → is_at j r ≡ true → is_member rows class r.asset j side ≡ true
  member r j m a = any_of (λ q. has_member q class r.asset j side) r rows (in_rows r m).of_rows (its_sides r class r.asset j side (over r j m a) ∙ (in_rows r m).on_side)

  -- one row of the lane is over a millimetre
  one_row : (r s : Span) (j : ℕ) → In r lane → In s lane → is_at j r ≡ true → is_at j s ≡ true → r ≡ s
  one_row r s j m n a b =
      let e = h.one r.asset s.asset j side (member r j m a) (member s j n b) in
      let o = over s j n b in
      one_over rows r s class r.asset j rows_apart (in_rows r m).of_rows (in_rows s n).of_rows (over r j m a) (record { of_class = o.of_class; of_asset = sym e; low = o.low; high = o.high })

  at : (r : Span) (j : ℕ) → r.from ≤ j → j < r.to → is_at j r ≡ true
  at r j low high = and_from (nat_le r.from j) (nat_lt j r.to) (le-leb r.from j low) (lt-ltb j r.to high)

  two_rows : (r s : Span) → In r lane → In s lane → place_before r s ≡ true → r.to ≤ s.from
  two_rows r s m n k = by (cases_lt s.from r.to)
    where
      by : (s.from < r.to) ⊎ (r.to ≤ s.from) → r.to ≤ s.from
      by (inr l) = l
      by (inl l) =
          let e = one_row r s s.from m n (at r s.from (begins r s k) l) (at s s.from (omega arith) (full s n).some) in
          absurd (place_itself s (subst (λ q. place_before q s ≡ true) e k))

  follow_from : (from : ℕ) (xs : List Span) → ((r : Span) → In r xs → In r lane) → each_two place_before xs ≡ true → ((r : Span) → In r xs → from ≤ r.from) → from ≤ len → FollowOn from len xs
  follow_from from [] m k low within = within
  follow_from from (r ∷ rs) m k low within =
      let parts = and_parts (list_all (place_before r) rs) (each_two place_before rs) k in
      let here = m r (inl refl) in
      let on_route = (and_parts (nat_le r.to len) (list_any (λ a. nat_eq a.number r.asset && same_name a.class r.class) assets) (all_at (is_span assets len) r rows h.known (in_rows r here).of_rows)).0 in (
        low r (inl refl),
        (full r here).some,
        follow_from r.to rs (λ s n. m s (inr n)) parts.1 (λ s n. two_rows r s here (m s (inr n)) (all_at (place_before r) s rs parts.0 n)) (leb-true r.to len on_route),
      )

  -- the rows of the lane follow one another
  pub lane_follows : FollowOn 0 len lane
  lane_follows = follow_from 0 lane (λ r m. m) h.order (λ r m. omega arith) (omega arith)

  -- ---- values

  -- the asset that a row names
  class_of_row : (r : Span) (a : Asset) → In r rows → In a assets → r.asset ≡ a.number → r.class ≡ a.class
  class_of_row r a m n e =
      let on = (and_parts (nat_le r.to len) (list_any (λ b. nat_eq b.number r.asset && same_name b.class r.class) assets) (all_at (is_span assets len) r rows h.known m)).1 in
      let found = any_found (λ b. nat_eq b.number r.asset && same_name b.class r.class) assets on in
      let parts = and_parts (nat_eq found.0.number r.asset) (same_name found.0.class r.class) found.2 in
      let one = one_asset assets found.0 a h.assets_order found.1 n (eqb-true found.0.number r.asset parts.0 ∙ e) in
      sym ((bytes_decides found.0.class r.class).0 parts.1) ∙ ap (λ b. b.class) one

  -- a row of the lane by which an asset holds a millimetre
  record HasRow (a : Asset) (j : ℕ) : Type 0 where
    pub row : Span
    pub in_it : In row lane
    pub is_over : is_at j row ≡ true
    pub of_asset : row.asset ≡ a.number

  held_by : (a : Asset) (j : ℕ) → In a assets → same_name a.class class ≡ true → is_holder rows side j a.number ≡ true → HasRow a j
  held_by a j m of_class held =
      let found = any_found (λ r. stands_for r a.number j side) rows held in
      let parts = and_parts (nat_eq found.0.asset a.number) (between found.0.from found.0.to found.0.side j side) found.2 in
      let on = and_parts (nat_le found.0.from j && nat_lt j found.0.to) (has_side found.0.side side) parts.1 in
      let e = eqb-true found.0.asset a.number parts.0 in
      record {
        row = found.0;
        in_it = in_lane found.0 (record {
          of_rows = found.1;
          of_class = (bytes_decides found.0.class class).1 (class_of_row found.0 a found.1 m e ∙ (bytes_decides a.class class).0 of_class);
          on_side = on.1;
        });
        is_over = on.0;
        of_asset = e;
      }

  abbrev has_value : ℕ → Asset → Bool
  has_value j a = same_name a.class class && is_holder rows side j a.number

  row_of : (a : Asset) (j : ℕ) → In a assets → has_value j a ≡ true → HasRow a j
  row_of a j m k = let parts = and_parts (same_name a.class class) (is_holder rows side j a.number) k in held_by a j m parts.0 parts.1

  -- where a row of the lane is over a millimetre, its asset has the value
  same_test : (r : Span) (j : ℕ) → In r lane → is_at j r ≡ true → (a : Asset) → In a assets → nat_eq a.number r.asset ≡ has_value j a
  same_test r j m o a n = by (cases_Bool (nat_eq a.number r.asset)) (cases_Bool (has_value j a))
    where
      its : a.number ≡ r.asset → has_value j a ≡ true
      its e =
          let i = in_rows r m in
          let of_class = sym (class_of_row r a i.of_rows n (sym e)) ∙ (bytes_decides r.class class).0 i.of_class in
          let stands = and_from (nat_eq r.asset a.number) (between r.from r.to r.side j side) (eq-eqb r.asset a.number (sym e)) (and_from (nat_le r.from j && nat_lt j r.to) (has_side r.side side) o i.on_side) in
          and_from (same_name a.class class) (is_holder rows side j a.number) ((bytes_decides a.class class).1 of_class) (any_of (λ q. stands_for q a.number j side) r rows i.of_rows stands)

      by : (nat_eq a.number r.asset ≡ true) ⊎ (nat_eq a.number r.asset ≡ false) → (has_value j a ≡ true) ⊎ (has_value j a ≡ false) → nat_eq a.number r.asset ≡ has_value j a
      by (inl x) y = x ∙ sym (its (eqb-true a.number r.asset x))
      by (inr x) (inr y) = x ∙ sym y
      by (inr x) (inl y) =
          let q = row_of a j n y in
          let e = one_row q.row r j q.in_it m q.is_over o in
          absurd (both_ways (nat_eq a.number r.asset) x (eq-eqb a.number r.asset (sym q.of_asset ∙ ap (λ z. z.asset) e)))

  no_value : (j : ℕ) → find (is_at j) lane ≡ None → (a : Asset) → In a assets → has_value j a ≡ false
  no_value j e a m = by (cases_Bool (has_value j a))
    where
      by : (has_value j a ≡ true) ⊎ (has_value j a ≡ false) → has_value j a ≡ false
      by (inr k) = k
      by (inl k) = let q = row_of a j m k in absurd (both_ways (is_at j q.row) (found_none (is_at j) lane e q.row q.in_it) q.is_over)

  -- the lane tells the value of the class at each millimetre
  pub lane_values : (j : ℕ) → row_value assets lane j ≡ value_of assets (is_holder rows side j) class
  lane_values j = by (find (is_at j) lane) refl
    where
      by : (o : Option Span) → find (is_at j) lane ≡ o → option_and_then (λ r. option_map (λ (a : Asset). a.value) (find (λ a. nat_eq a.number r.asset) assets)) o ≡ value_of assets (is_holder rows side j) class
      by None e = ap (option_map (λ (a : Asset). a.value)) (sym (none_found (has_value j) assets (no_value j e)))
      by (Some r) e =
          let f = found_in (is_at j) r lane e in
          ap (option_map (λ (a : Asset). a.value)) (found_same (λ a. nat_eq a.number r.asset) (has_value j) assets (same_test r j f.0 f.1))
