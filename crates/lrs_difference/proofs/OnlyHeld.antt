-- Rows that have what one state alone holds are its stretches.
use Rattle.std.proofs.Common.{◌≡◌, ℕ, ◌-◌, ◌<◌, ◌≤◌, Bool, true, false, cond, not, ◌⊎◌, inl, inr, List, [], ◌∷◌, map, filter, refl, sym, ap, subst, ◌∙◌, arith}
use Rattle.std.specs.Prelude.{◌||◌, ◌&&◌, nat_eq, nat_le, nat_lt}
use Rattle.std.specs.List.{filter_map, flat_map, list_all, list_any, range_with_len}
use Rattle.std.proofs.lemmas.Bool.{and_from, and_parts, both_ways, eq-eqb, eqb-true, le-leb, leb-true, lt-ltb, ltb-true, not-true, or_cases}
use Rattle.lrs_measure.specs.Lists.{In, each_two, is_from_to}
use Rattle.lrs_measure.specs.Limits.{is_link_number, longest_link, longest_route}
use Rattle.lrs_measure.specs.Runs.{runs_of, same_option}
use Rattle.lrs_measure.proofs.Filters.{each_two-filter}
use Rattle.lrs_measure.proofs.Members.{all_at, any_of, filter-In, flat_map_found, In-filter, In-flat_map, In-map, map_found, two_at}
use Rattle.lrs_element.specs.declared.link.Ground.{Ground}
use Rattle.lrs_events.specs.declared.side.LinkSide.{LinkSide}
use Rattle.lrs_events.specs.declared.side.LinkSide.TheVariants.{Left, Right}
use Rattle.lrs_events.specs.declared.side.Side.{Side}
use Rattle.lrs_events.specs.declared.side.Side.TheVariants.{L, R, B}
use Rattle.lrs_events.specs.declared.span.Span.{Span}
use Rattle.lrs_events.specs.Canonical.{canonical_rows, held_run, side_held, side_of}
use Rattle.lrs_events.specs.Members.{between, has_side}
use Rattle.lrs_events.specs.Places.{Place}
use Rattle.lrs_events.specs.Spans.{same_side}
use Rattle.lrs_events.specs.Row.Order.{by_place}
use Rattle.lrs_events.specs.Row.RunLaws.{row_run}
use Rattle.lrs_events.proofs.Row.Laid.{AreLaid, is_over, laid_runs, side_over}
use Rattle.lrs_events.proofs.Row.Rows.{IsAhead, IsFull, Pairs}
use Rattle.lrs_events.proofs.Row.Unique.{is_same}
use Rattle.lrs_machine.specs.declared.image.Image.{Image}
use Rattle.lrs_machine.specs.Image.{link_entry, state_of}
use Rattle.lrs_machine.specs.Register.{entries}
use Rattle.lrs_machine.specs.Sound.{IsSound}
use Rattle.lrs_machine.specs.State.{State}
use Rattle.lrs_machine.proofs.Pairs.{each_two-map}
use Rattle.lrs_machine.proofs.SoundImages.{sound_is_lawful}
use Rattle.lrs_difference.specs.declared.held_rows.HeldRow.{HeldRow}
use Rattle.lrs_difference.specs.declared.line.AssetFacts.{AssetFacts}
use Rattle.lrs_difference.specs.declared.line.Item.{Item}
use Rattle.lrs_difference.specs.declared.line.Item.TheVariants as item
use Rattle.lrs_difference.specs.Difference.{course_of_link, facts_in, holds_item, holds_only, stretches, stretches_on}
use Rattle.lrs_difference.specs.HeldRows.{AreOnly, RowsAreStretches, are_apart, held_item, row_has, same_line}
use Rattle.lrs_difference.specs.Items.{item_before}
use Rattle.lrs_difference.proofs.Agreeing.{facts_in_order}
use Rattle.lrs_difference.proofs.Given.{is_placed}
use Rattle.lrs_difference.proofs.Keys.{item_one_way}
use Rattle.lrs_difference.proofs.Ordered.{stretches_in_order}
use Rattle.lrs_difference.proofs.Sorted.{one_list}

-- of members that rise by a number, one has this number
one_member : {A : Type 0} → (key : A → ℕ) (x y : A) (xs : List A) → each_two (λ a b. nat_lt (key a) (key b)) xs ≡ true → In x xs → In y xs → key x ≡ key y → x ≡ y
one_member key x y xs order m n e = by (two_at (λ a b. nat_lt (key a) (key b)) x y xs order m n)
  where
    by : (x ≡ y) ⊎ ((nat_lt (key x) (key y) ≡ true) ⊎ (nat_lt (key y) (key x) ≡ true)) → x ≡ y
    by (inl same) = same
    by (inr (inl l)) = let k = ltb-true (key x) (key y) l in absurd (omega (arith, k, e))
    by (inr (inr l)) = let k = ltb-true (key y) (key x) l in absurd (omega (arith, k, e))

-- a side that a row is on
abbrev pub side_in : Side → LinkSide
side_in L = Left
side_in R = Right
side_in B = Left

pub is_in : (side : Side) → has_side side (side_in side) ≡ true
is_in L = refl
is_in R = refl
is_in B = refl

regrouped : (n k b c : Bool) → (n && ((k && b) && c)) ≡ ((n && k) && (b && c))
regrouped true true b c = refl
regrouped true false b c = refl
regrouped false k b c = refl

fused : {A B C : Type 0} → (f : B → C) (g : A → B) (xs : List A) → map f (map g xs) ≡ map (λ x. f (g x)) xs
fused f g [] = refl
fused f g (x ∷ xs) = ap (λ zs. f (g x) ∷ zs) (fused f g xs)

-- a known link is not longer than a route may be
known_length : (i : Image) (k : ℕ × ℕ) → In k (entries (state_of i).links) → k.1 ≤ longest_route
unfolding state_of
known_length i k n =
    let w = map_found link_entry k i.links n in
    let limits = and_parts (is_link_number w.0.number) (is_from_to 1 longest_link w.0.length) w.0.limits in
    let within = and_parts (nat_le 1 w.0.length) (nat_le w.0.length longest_link) limits.1 in
    let most = leb-true w.0.length longest_link within.1 in
    let e : k.1 ≡ w.0.length = ap (λ (x : ℕ × ℕ). x.1) w.2 in
    omega (arith, most, e)

-- ---- the rows of one asset on one link

abbrev is_on : ℕ → ℕ → HeldRow → Bool
is_on asset link r = nat_eq r.asset.number asset && nat_eq r.stretch.link link

module _ (asset link : ℕ) where
  abbrev as_span : HeldRow → Span
  as_span r = record { asset = asset; class = []; from = r.stretch.from; to = r.stretch.to; side = r.stretch.side }

  one_line : (x y : HeldRow) → is_on asset link x ≡ true → is_on asset link y ≡ true → same_line x y ≡ true
  one_line x y h k =
      let one = and_parts (nat_eq x.asset.number asset) (nat_eq x.stretch.link link) h in
      let two = and_parts (nat_eq y.asset.number asset) (nat_eq y.stretch.link link) k in
      and_from (nat_eq x.asset.number y.asset.number) (nat_eq x.stretch.link y.stretch.link)
      (eq-eqb x.asset.number y.asset.number (eqb-true x.asset.number asset one.0 ∙ sym (eqb-true y.asset.number asset two.0)))
      (eq-eqb x.stretch.link y.stretch.link (eqb-true x.stretch.link link one.1 ∙ sym (eqb-true y.stretch.link link two.1)))

  ahead : (x y : HeldRow) → is_on asset link x ≡ true → is_on asset link y ≡ true → are_apart x y ≡ true → IsAhead (as_span x) (as_span y)
  ahead x y h k apart = by (or_cases (not (same_line x y) || nat_lt x.stretch.to y.stretch.from) (nat_eq x.stretch.to y.stretch.from && not (same_side x.stretch.side y.stretch.side)) apart)
    where
      before : x.stretch.to < y.stretch.from → IsAhead (as_span x) (as_span y)
      before l = record { left = by_place refl refl (omega (arith, l)); one_class = λ e. refl; not_joined = λ j. (let e = j.at in omega (arith, l, e)) }

      left_of : (not (same_line x y) ≡ true) ⊎ (nat_lt x.stretch.to y.stretch.from ≡ true) → IsAhead (as_span x) (as_span y)
      left_of (inl n) = absurd (both_ways (same_line x y) (not-true (same_line x y) n) (one_line x y h k))
      left_of (inr l) = before (ltb-true x.stretch.to y.stretch.from l)

      by : ((not (same_line x y) || nat_lt x.stretch.to y.stretch.from) ≡ true) ⊎ ((nat_eq x.stretch.to y.stretch.from && not (same_side x.stretch.side y.stretch.side)) ≡ true) → IsAhead (as_span x) (as_span y)
      by (inl e) = left_of (or_cases (not (same_line x y)) (nat_lt x.stretch.to y.stretch.from) e)
      by (inr e) =
          let both = and_parts (nat_eq x.stretch.to y.stretch.from) (not (same_side x.stretch.side y.stretch.side)) e in
          let touch = eqb-true x.stretch.to y.stretch.from both.0 in
          record {
            left = by_place refl refl (omega (arith, touch));
            one_class = λ e. refl;
            not_joined = λ j. both_ways (same_side x.stretch.side y.stretch.side) (not-true (same_side x.stretch.side y.stretch.side) both.1) (is_same x.stretch.side y.stretch.side j.on_side);
          }

  pairs_of : (xs : List HeldRow) → each_two are_apart xs ≡ true → ((x : HeldRow) → In x xs → is_on asset link x ≡ true) → Pairs (map as_span xs)
  pairs_of [] apart on = tt
  pairs_of (x ∷ xs) apart on =
      let both = and_parts (list_all (are_apart x) xs) (each_two are_apart xs) apart in (
        (λ z m. (let w = map_found as_span z xs m in
            subst (λ (q : Span). IsAhead (as_span x) q) (sym w.2) (ahead x w.0 (on x (inl refl)) (on w.0 (inr w.1)) (all_at (are_apart x) w.0 xs both.0 w.1)))),
        pairs_of xs both.1 (λ y m. on y (inr m)),
      )

  -- what they are over
  over : (k : ℕ) (side : LinkSide) (xs : List HeldRow) → is_over (map as_span (filter (is_on asset link) xs)) k side ≡ list_any (row_has asset (record { link = link; mm = k; side = side })) xs
  over k side [] = refl
  over k side (x ∷ xs) =
      by (is_on asset link x) (over k side xs)
      ∙ sym (ap (λ b. b || list_any (row_has asset (record { link = link; mm = k; side = side })) xs) (regrouped (nat_eq x.asset.number asset) (nat_eq x.stretch.link link) (nat_le x.stretch.from k && nat_lt k x.stretch.to) (has_side x.stretch.side side)))
    where
      by : (c : Bool) → is_over (map as_span (filter (is_on asset link) xs)) k side ≡ list_any (row_has asset (record { link = link; mm = k; side = side })) xs
          → is_over (map as_span (cond c (x ∷ filter (is_on asset link) xs) (filter (is_on asset link) xs))) k side
          ≡ ((c && between x.stretch.from x.stretch.to x.stretch.side k side) || list_any (row_has asset (record { link = link; mm = k; side = side })) xs)
      by true rest = ap (λ b. between x.stretch.from x.stretch.to x.stretch.side k side || b) rest
      by false rest = rest

-- their items
items_as : (f : AssetFacts) (link : ℕ) (xs : List HeldRow) → ((x : HeldRow) → In x xs → (x.asset ≡ f) × (x.stretch.link ≡ link)) → map held_item xs ≡ map (holds_item f link) (map row_run (map (as_span f.number link) xs))
items_as f link [] h = refl
items_as f link (x ∷ xs) h =
    let e = h x (inl refl) in
    (λ i. item.Holds (e.0 i) (e.1 i) x.stretch.from x.stretch.to x.stretch.side ∷ items_as f link xs (λ y m. h y (inr m)) i)

module _ (a b : Image) (sound : IsSound a) (rows : List HeldRow) (h : AreOnly (state_of a) (state_of b) rows) where
  abbrev s : State
  s = state_of a

  abbrev t : State
  t = state_of b

  links_rise : each_two (λ x y. nat_lt x.0 y.0) (entries s.links) ≡ true
  links_rise = (sound_is_lawful a sound).grounded.links

  row_holds : (r : HeldRow) → In r rows → (k : ℕ) → r.stretch.from ≤ k → k < r.stretch.to → holds_only s t r.asset.number (record { link = r.stretch.link; mm = k; side = side_in r.stretch.side }) ≡ true
  row_holds r m k low high =
      let p : Place = record { link = r.stretch.link; mm = k; side = side_in r.stretch.side } in
      sym (h.places r.asset.number p)
      ∙ any_of (row_has r.asset.number p) r rows m
      (and_from _ _ (eq-eqb r.asset.number r.asset.number refl)
      (and_from _ _ (and_from _ _ (eq-eqb r.stretch.link r.stretch.link refl) (and_from _ _ (le-leb r.stretch.from k low) (lt-ltb k r.stretch.to high))) (is_in r.stretch.side)))

  -- the link of a row, which does not end before it
  record IsOnLink (r : HeldRow) : Type 0 where
    pub link : ℕ × ℕ
    pub on : In link (entries s.links)
    pub same : link.0 ≡ r.stretch.link
    pub ends : r.stretch.to ≤ link.1

  on_link : (r : HeldRow) → In r rows → IsOnLink r
  on_link r m =
      let last = r.stretch.to - 1 in
      let some = h.filled r m in
      let p : Place = record { link = r.stretch.link; mm = last; side = side_in r.stretch.side } in
      let low : r.stretch.from ≤ last = omega (arith, some) in
      let high : last < r.stretch.to = omega (arith, some) in
      let at = is_placed a sound r.asset.number p (and_parts (s.holds r.asset.number p) (not (t.holds r.asset.number p)) (row_holds r m last low high)).0 in
      let w : last < at.link.1 = at.within in
      record { link = at.link; on = at.on; same = at.on_link; ends = omega (arith, some, w) }

  module _ (f : AssetFacts) (l : ℕ × ℕ) (known : In f (facts_in s)) (on : In l (entries s.links)) where
    abbrev mine : List HeldRow
    mine = filter (is_on f.number l.0) rows

    abbrev spans : List Span
    spans = map (as_span f.number l.0) mine

    numbers : (r : HeldRow) → In r mine → (r.asset.number ≡ f.number) × (r.stretch.link ≡ l.0)
    numbers r m =
        let e = and_parts (nat_eq r.asset.number f.number) (nat_eq r.stretch.link l.0) (In-filter (is_on f.number l.0) r rows m).1 in
        (eqb-true r.asset.number f.number e.0, eqb-true r.stretch.link l.0 e.1)

    ends : (r : HeldRow) → In r mine → r.stretch.to ≤ l.1
    ends r m =
        let at = on_link r (In-filter (is_on f.number l.0) r rows m).0 in
        let e : at.link ≡ l = one_member (λ x. x.0) at.link l (entries s.links) links_rise at.on on (at.same ∙ (numbers r m).1) in
        subst (λ (x : ℕ × ℕ). r.stretch.to ≤ x.1) e at.ends

    same : (r : HeldRow) → In r mine → (r.asset ≡ f) × (r.stretch.link ≡ l.0)
    same r m =
        let there = (In-filter (is_on f.number l.0) r rows m).0 in
        (one_member (λ x. x.number) r.asset f (facts_in s) (facts_in_order a sound) (h.known r there) known (numbers r m).0, (numbers r m).1)

    full : (x : Span) → In x spans → IsFull x
    full x m =
        let w = map_found (as_span f.number l.0) x mine m in
        let some = h.filled w.0 (In-filter (is_on f.number l.0) w.0 rows w.1).0 in
        let short = ends w.0 w.1 in
        let least = short_link l on in
        subst (λ (q : Span). IsFull q) (sym w.2) (record { some = some; short = omega (arith, short, least) })
      where
        short_link : (k : ℕ × ℕ) → In k (entries s.links) → k.1 ≤ longest_route
        short_link k n = known_length a k n

    laid : AreLaid f.number 0 l.1 spans
    laid = record {
      kept = record { full = full; pairs = pairs_of f.number l.0 mine (each_two-filter are_apart (is_on f.number l.0) rows h.apart) (λ r m. (In-filter (is_on f.number l.0) r rows m).1) };
      of_asset = λ x m. (let w = map_found (as_span f.number l.0) x mine m in ap (λ (q : Span). q.asset) w.2);
      low = λ x m. omega arith;
      high = λ x m. (let w = map_found (as_span f.number l.0) x mine m in subst (λ (q : Span). q.to ≤ l.1) (sym w.2) (ends w.0 w.1));
      within = omega arith;
    }

    abbrev ground : ℕ → Ground
    ground k = record { link = l.0; mm = k; forward = true }

    abbrev held : Place → Bool
    held = holds_only s t f.number

    sides : (k : ℕ) → side_held held (ground k) ≡ side_over spans k
    sides k =
        let left = over f.number l.0 k Left rows ∙ h.places f.number (record { link = l.0; mm = k; side = Left }) in
        let right = over f.number l.0 k Right rows ∙ h.places f.number (record { link = l.0; mm = k; side = Right }) in
        sym (λ i. side_of (left i) (right i))

    runs : map row_run spans ≡ canonical_rows held (course_of_link l)
    runs =
        laid_runs (λ k. side_held held (ground k)) f.number l.1 spans laid sides
        ∙ ap (λ zs. filter_map held_run (runs_of (same_option same_side) zs)) (sym (fused (side_held held) ground (range_with_len 0 l.1)))

    items : map held_item mine ≡ stretches_on s t f l
    items = items_as f l.0 mine same ∙ ap (map (holds_item f l.0)) runs

  abbrev of_asset : AssetFacts → List Item
  of_asset f = flat_map (stretches_on s t f) (entries s.links)

  there : (z : Item) → In z (map held_item rows) → In z (stretches s t)
  there z m =
      let w = map_found held_item z rows m in
      let r = w.0 in
      let known = h.known r w.1 in
      let at = on_link r w.1 in
      let mine = filter-In (is_on r.asset.number at.link.0) r rows w.1 (and_from (nat_eq r.asset.number r.asset.number) (nat_eq r.stretch.link at.link.0) (eq-eqb r.asset.number r.asset.number refl) (eq-eqb r.stretch.link at.link.0 (sym at.same))) in
      let given : In (held_item r) (stretches_on s t r.asset at.link) = subst (λ (zs : List Item). In (held_item r) zs) (items r.asset at.link known at.on) (In-map held_item r (filter (is_on r.asset.number at.link.0) rows) mine) in
      subst (λ (x : Item). In x (stretches s t)) (sym w.2) (In-flat_map of_asset r.asset (held_item r) (facts_in s) known (In-flat_map (stretches_on s t r.asset) at.link (held_item r) (entries s.links) at.on given))

  back : (z : Item) → In z (stretches s t) → In z (map held_item rows)
  back z m =
      let f = flat_map_found of_asset z (facts_in s) m in
      let l = flat_map_found (stretches_on s t f.0) z (entries s.links) f.2 in
      let found : In z (map held_item (filter (is_on f.0.number l.0.0) rows)) = subst (λ (zs : List Item). In z zs) (sym (items f.0 l.0 f.1 l.1)) l.2 in
      let w = map_found held_item z (filter (is_on f.0.number l.0.0) rows) found in
      subst (λ (x : Item). In x (map held_item rows)) (sym w.2) (In-map held_item w.0 rows (In-filter (is_on f.0.number l.0.0) w.0 rows w.1).0)

  whole : map held_item rows ≡ stretches s t
  whole = one_list item_before item_one_way (map held_item rows) (stretches s t) (each_two-map item_before held_item rows ∙ h.order) (stretches_in_order s t links_rise (facts_in_order a sound)) there back

pub are_stretches : RowsAreStretches
are_stretches a b sound rows h = whole a b sound rows h
