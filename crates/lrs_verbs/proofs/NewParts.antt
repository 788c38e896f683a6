-- The rows of a ledger for what a new row holds.
use Rattle.std.proofs.Common.{◌≡◌, ℕ, ◌+◌, ◌-◌, ◌*◌, ◌<◌, ◌≤◌, true, false, cond, List, [], ◌∷◌, map, drop, length, refl, sym, ap, subst, ◌∙◌, arith, length-append}
use Rattle.std.proofs.lemmas.Bool.{and_parts, and_from, or_left, eqb-true, eq-eqb, ltb-true, lt-ltb, le-leb}
use Rattle.std.proofs.lemmas.List.{length-take}
use Rattle.std.proofs.lemmas.List.Sums.{sum_by-cons}
use Rattle.std.specs.Prelude.{◌&&◌, nat_eq, nat_lt, nat_le, slice_range}
use Rattle.std.specs.List.{list_any, list_all}
use Rattle.lrs_inventory.specs.Prelude.{each_two, Link, Ground, longest_route, Part, B, Span, Place, is_among, places_on, is_on_a_link}
use Rattle.lrs_events.specs.declared.side.Side.{Side}
use Rattle.lrs_events.specs.declared.side.Side.TheVariants.{L, R}
use Rattle.lrs_events.specs.Parts.{has_pair, has_place}
use Rattle.lrs_events.specs.Places.{same_place, same_link_side, places_at}
use Rattle.lrs_events.specs.Spans.{holds_by_span}
use Rattle.lrs_measure.specs.Limits.{most_pairs}
use Rattle.lrs_measure.specs.Lists.{In}
use Rattle.lrs_measure.proofs.Members.{any_found, any_of, all_at, map_found, In-map, all_of}
use Rattle.lrs_machine.specs.Sound.{link_before, pairs_of, has_asset_place}
use Rattle.lrs_machine.proofs.Pairs.{held, same_side_is, is_same_side}
use Rattle.lrs_image_laws.proofs.Counted.{is_on_its_link, fewer}
use Rattle.lrs_image_laws.proofs.Sounding.{has_its_pair}
use Rattle.lrs_image_laws.proofs.Once.{has_own, had, parts_apart}
use Rattle.lrs_verbs.specs.Entries.{AreEntered}

-- ---- how many places a row has

places_few : (side : Side) (g : Ground) → length (places_at side g) ≤ 2
places_few L g = omega arith
places_few R g = omega arith
places_few B g = omega arith

places_length : (side : Side) (c : List Ground) → length (places_on side c) ≤ 2 * length c
places_length side [] = omega arith
places_length side (g ∷ gs) =
    let e = length-append (places_at side g) (places_on side gs) in
    let f = places_few side g in
    let k = places_length side gs in
    omega (arith, e, f, k)

-- ---- the parts of a row

-- a place as a part of one millimetre
abbrev single : ℕ → ℕ → Place → Part
single n a p = record { edit = n; asset = a; link = p.link; from = p.mm; to = p.mm + 1; side = p.side }

singles_few : (n a : ℕ) (ps : List Place) → pairs_of a (map (single n a) ps) ≤ length ps
singles_few n a [] = omega arith
singles_few n a (p ∷ ps) =
    let e = sum_by-cons (λ (x : Part). cond (nat_eq x.asset a) (x.to - x.from) 0) (single n a p) (map (single n a) ps) in
    let k = singles_few n a ps in
    let f = ap (λ b. cond b ((p.mm + 1) - p.mm) 0) (eq-eqb a a refl) in
    omega (arith, e, k, f)

module _ (links : List Link) (order : each_two link_before links ≡ true) (course : List Ground) (on : list_all (is_on_a_link links) course ≡ true) (n : ℕ) (row : Span) (short : row.to ≤ longest_route) (parts : List Part)
    (led : AreEntered n course row parts) where
  abbrev places : List Place
  places = places_on row.side (slice_range course row.from row.to)

  -- the row holds each place of a part
  holder : (y : Part) → In y parts → (mm : ℕ) → y.from ≤ mm → mm < y.to → holds_by_span course row y.asset (record { link = y.link; mm = mm; side = y.side }) ≡ true
  holder y m mm low high =
      let p : Place = record { link = y.link; mm = mm; side = y.side } in
      let edit = eqb-true y.edit n (all_at (λ x. nat_eq x.edit n) y parts led.edit_is m) in
      (and_parts (nat_eq n n) (holds_by_span course row y.asset p) (sym (led.pairs n y.asset p) ∙ any_of (λ x. has_pair x n y.asset p) y parts m (has_its_pair y n y.asset y.link y.side mm edit refl refl refl low high))).1

  filled : (y : Part) → In y parts → y.from < y.to
  filled y m = ltb-true y.from y.to (all_at (λ x. nat_lt x.from x.to) y parts led.filled m)

  pub of_edit : (y : Part) → In y parts → y.edit ≡ n
  of_edit y m = eqb-true y.edit n (all_at (λ x. nat_eq x.edit n) y parts led.edit_is m)

  pub of_asset : (y : Part) → In y parts → y.asset ≡ row.asset
  of_asset y m =
      let p : Place = record { link = y.link; mm = y.from; side = y.side } in
      sym (eqb-true row.asset y.asset (and_parts (nat_eq row.asset y.asset) (is_among places p) (holder y m y.from (omega arith) (filled y m))).0)

  -- what is held is on a link
  on_link : (a : ℕ) (p : Place) → holds_by_span course row a p ≡ true → (l : Link) × In l links × (l.number ≡ p.link) × (p.mm < l.length)
  on_link a p h =
      let k = held course (row ∷ []) a p (or_left (holds_by_span course row a p) false h) in
      let g = k.ground in
      let l = any_found (λ (l : Link). nat_eq l.number g.link && nat_lt g.mm l.length) links (all_at (is_on_a_link links) g course on k.on_course) in
      let both = and_parts (nat_eq l.0.number g.link) (nat_lt g.mm l.0.length) l.2 in
      let low = ltb-true g.mm l.0.length both.1 in
      let at = k.at in
      (l.0, l.1, eqb-true l.0.number g.link both.0 ∙ k.on_link, omega (arith, low, at))

  -- so is a part that ends with it
  within : (x : Part) (a : ℕ) (p : Place) → x.link ≡ p.link → x.to ≡ p.mm + 1 → x.from < x.to → holds_by_span course row a p ≡ true → is_on_its_link links x ≡ true
  within x a p link to some h =
      let l = on_link a p h in
      let high = l.3 in
      and_from (nat_lt x.from x.to) (list_any (λ (l : Link). nat_eq l.number x.link && nat_le x.to l.length) links) (lt-ltb x.from x.to some)
      (any_of (λ (l : Link). nat_eq l.number x.link && nat_le x.to l.length) l.0 links l.1
      (and_from (nat_eq l.0.number x.link) (nat_le x.to l.0.length) (eq-eqb l.0.number x.link (l.2 ∙ sym link)) (le-leb x.to l.0.length (omega (arith, high, to)))))

  parts_within : list_all (is_on_its_link links) parts ≡ true
  parts_within = all_of (is_on_its_link links) parts (λ y m.
      let some = filled y m in
      within y y.asset (record { link = y.link; mm = y.to - 1; side = y.side }) refl (omega (arith, some)) some (holder y m (y.to - 1) (omega (arith, some)) (omega (arith, some))))

  its_own : (p : Place) → same_place p p ≡ true
  its_own p = and_from (nat_eq p.link p.link && nat_eq p.mm p.mm) (same_link_side p.side p.side) (and_from (nat_eq p.link p.link) (nat_eq p.mm p.mm) (eq-eqb p.link p.link refl) (eq-eqb p.mm p.mm refl)) (is_same_side p.side p.side refl)

  abbrev singles : List Part
  singles = map (single n row.asset) places

  singles_within : list_all (is_on_its_link links) singles ≡ true
  singles_within = all_of (is_on_its_link links) singles (λ y m.
      let q = map_found (single n row.asset) y places m in
      subst (λ z. is_on_its_link links z ≡ true) (sym q.2)
      (within (single n row.asset q.0) row.asset q.0 refl refl (omega arith)
      (and_from (nat_eq row.asset row.asset) (is_among places q.0) (eq-eqb row.asset row.asset refl) (any_of (same_place q.0) q.0 places q.1 (its_own q.0)))))

  -- the places of the parts are places of the row
  covered : (p : Place) → has_asset_place parts row.asset p ≡ true → has_asset_place singles row.asset p ≡ true
  covered p h =
      let y = any_found (λ part. nat_eq part.asset row.asset && has_place part p) parts h in
      let pair = and_from (nat_eq y.0.edit n && nat_eq y.0.asset row.asset) (has_place y.0 p)
      (and_from (nat_eq y.0.edit n) (nat_eq y.0.asset row.asset) (eq-eqb y.0.edit n (of_edit y.0 y.1)) (and_parts (nat_eq y.0.asset row.asset) (has_place y.0 p) y.2).0) (and_parts (nat_eq y.0.asset row.asset) (has_place y.0 p) y.2).1 in
      let holds = (and_parts (nat_eq n n) (holds_by_span course row row.asset p) (sym (led.pairs n row.asset p) ∙ any_of (λ x. has_pair x n row.asset p) y.0 parts y.1 pair)).1 in
      let q = any_found (same_place p) places (and_parts (nat_eq row.asset row.asset) (is_among places p) holds).1 in
      let t = and_parts (nat_eq p.link q.0.link && nat_eq p.mm q.0.mm) (same_link_side p.side q.0.side) q.2 in
      let u = and_parts (nat_eq p.link q.0.link) (nat_eq p.mm q.0.mm) t.0 in
      let mm = eqb-true p.mm q.0.mm u.1 in
      any_of (λ part. nat_eq part.asset row.asset && has_place part p) (single n row.asset q.0) singles (In-map (single n row.asset) q.0 places q.1)
      (had (single n row.asset q.0) row.asset p refl (has_own (single n row.asset q.0) p (sym (eqb-true p.link q.0.link u.0)) (sym (same_side_is p.side q.0.side t.1)) (omega (arith, mm)) (omega (arith, mm))))

  pub few : pairs_of row.asset parts ≤ most_pairs
  few =
      let a = fewer links row.asset parts singles order parts_within (parts_apart parts led.once led.filled) singles_within covered in
      let b = singles_few n row.asset places in
      let c = places_length row.side (slice_range course row.from row.to) in
      let d = length-take (row.to - row.from) (drop row.from course) in
      omega (arith, a, b, c, d, short)
