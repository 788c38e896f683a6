-- An orderly image of a lawful state is sound.
use Rattle.std.proofs.Common.{◌≡◌, ℕ, ◌<◌, ◌≤◌, max, Bool, true, false, ◌⊎◌, inl, inr, List, map, length, Some, None, refl, sym, ap, ◌∙◌, arith}
use Rattle.std.specs.Prelude.{◌||◌, ◌&&◌, ◌-◌, not, is_some, unwrap_or, Option, nat_eq, nat_le, nat_lt}
use Rattle.std.specs.List.{list_any, list_all}
use Rattle.std.specs.Ordering.{nat_cmp}
use Rattle.std.specs.Cmp.Lexicographic.{bytes_decides, nat_list_cmp_total}
use Rattle.std.specs.FinMap.{find}
use Rattle.std.proofs.lemmas.Bool.{false≢true, not-false, and_parts, and_from, or_left, or_right, or_parts, cases_Bool, eqb-true, eq-eqb, leb-true, leb-false, ltb-true, le-leb, lt-ltb}
use Rattle.std.proofs.lemmas.List.{length-map}
use Rattle.std.proofs.lemmas.Map.Lookups.{exact_unsigned}
use Rattle.lrs_measure.specs.Lists.{In, each_two, same_bool}
use Rattle.lrs_measure.specs.Texts.{name_cmp, same_name}
use Rattle.lrs_element.specs.declared.link.Link.{Link}
use Rattle.lrs_events.specs.declared.class.Class.{Class}
use Rattle.lrs_events.specs.declared.class.Kind.{Kind}
use Rattle.lrs_events.specs.declared.class.Kind.TheVariants.{Point, Stretch, Exclusive}
use Rattle.lrs_events.specs.declared.class.Asset.{Asset}
use Rattle.lrs_events.specs.declared.part.Part.{Part}
use Rattle.lrs_events.specs.declared.part.Gone.{Gone}
use Rattle.lrs_events.specs.declared.side.LinkSide.{LinkSide}
use Rattle.lrs_events.specs.Places.{Place, same_link_side}
use Rattle.lrs_events.specs.Spans.{holds_by_spans}
use Rattle.lrs_events.specs.Parts.{has_pair, has_place, part_before}
use Rattle.lrs_machine.specs.Segments.{is_exclusive}
use Rattle.lrs_machine.specs.declared.image.Image.{Image}
use Rattle.lrs_machine.specs.declared.image.Edit.{Edit}
use Rattle.lrs_machine.specs.State.{Reason, Retired, Abandoned, same_reason}
use Rattle.lrs_machine.specs.State as state
use Rattle.lrs_machine.specs.Image.{state_of, holds_on, link_entry, asset_entry, reason_of}
use Rattle.lrs_measure.specs.Limits.{most_edits, most_pairs}
use Rattle.lrs_measure.proofs.Members.{any_found, any_of, all_at, all_of, In-map, list_any-map, map_found}
use Rattle.lrs_measure.proofs.Counts.{at_most_one}
use Rattle.lrs_measure.proofs.EachTwo.{each_two_from}
use Rattle.lrs_machine.specs.Laws.{IsLawful}
use Rattle.lrs_machine.specs.Sound.{asset_before, are_spans_of, spans_of, gone_before, are_balanced, parts_of, places_of, has_asset_place, holds_in, holders_of, is_asset, keeps_exclusive, is_part, share_nothing, pairs_of, is_balanced_at, is_named_by, are_parts, is_origin}
use Rattle.lrs_machine.proofs.Pairs.{pair_had, entered_by, has_entered, gone_by, has_gone, takes_away, is_same_reason, is_same_side, same_side_is, each_two-map}
use Rattle.lrs_machine.proofs.Registers.{some_if_known}
use Rattle.lrs_machine.proofs.Finding.{find_found, find_member, find_numbered}
use Rattle.lrs_image.proofs.Tables.{Passes}
use Rattle.lrs_image_laws.proofs.Tables.{sound}
use Rattle.lrs_image_laws.specs.Orderly.{IsOrderly, OrderlyLawfulIsSound, is_filled, share_nothing_in_an_edit, share_nothing_for_a_reason}
use Rattle.lrs_image_laws.proofs.Counted.{is_on_its_link, fewer}

-- ---- a place of a part

abbrev place_at : Part → ℕ → Place
place_at x mm = record { link = x.link; mm = mm; side = x.side }

-- the part has the pair of its asset and each of its places, by its edit
pub has_its_pair : (x : Part) (m a link : ℕ) (side : LinkSide) (mm : ℕ) → x.edit ≡ m → x.asset ≡ a → x.link ≡ link → x.side ≡ side → x.from ≤ mm → mm < x.to
    → has_pair x m a (record { link = link; mm = mm; side = side }) ≡ true
has_its_pair x m a link side mm e f g h low high =
    let place =
    and_from ((nat_eq x.link link && nat_le x.from mm) && nat_lt mm x.to) (same_link_side x.side side)
    (and_from (nat_eq x.link link && nat_le x.from mm) (nat_lt mm x.to) (and_from (nat_eq x.link link) (nat_le x.from mm) (eq-eqb x.link link g) (le-leb x.from mm low)) (lt-ltb mm x.to high))
    (is_same_side x.side side h) in
    and_from (nat_eq x.edit m && nat_eq x.asset a) (has_place x (record { link = link; mm = mm; side = side }))
    (and_from (nat_eq x.edit m) (nat_eq x.asset a) (eq-eqb x.edit m e) (eq-eqb x.asset a f)) place

-- two parts have a pair in common
pub record Overlap (x y : Part) : Type 0 where
  pub asset : x.asset ≡ y.asset
  pub link : x.link ≡ y.link
  pub side : x.side ≡ y.side
  pub mm : ℕ
  pub after : x.from ≤ mm
  pub before : mm < x.to
  pub after_too : y.from ≤ mm
  pub before_too : mm < y.to

pub overlapping : (x y : Part) → x.from < x.to → y.from < y.to → share_nothing x y ≡ false → Overlap x y
overlapping x y fx fy h =
    let alike = nat_eq x.asset y.asset && nat_eq x.link y.link && same_link_side x.side y.side in
    let outer = or_parts (not alike || nat_le x.to y.from) (nat_le y.to x.from) h in
    let inner = or_parts (not alike) (nat_le x.to y.from) outer.0 in
    let same = and_parts (nat_eq x.asset y.asset && nat_eq x.link y.link) (same_link_side x.side y.side) (not-false alike inner.0) in
    let first = and_parts (nat_eq x.asset y.asset) (nat_eq x.link y.link) same.0 in
    let yx : y.from < x.to = leb-false x.to y.from inner.1 in
    let xy : x.from < y.to = leb-false y.to x.from outer.1 in
    record {
      asset = eqb-true x.asset y.asset first.0;
      link = eqb-true x.link y.link first.1;
      side = same_side_is x.side y.side same.1;
      mm = max x.from y.from;
      after = omega arith;
      before = omega arith;
      after_too = omega arith;
      before_too = omega arith;
    }

other_way : (a b : Bool) → (not a || b) ≡ true → a ≡ true → b ≡ true
other_way true b h e = h
other_way false b h e = absurd (false≢true e)

-- ---- rows found by keys

known_number : (assets : List Asset) (a : ℕ) → is_some (find nat_cmp a (map asset_entry assets)) ≡ true → list_any (λ r. nat_eq r.number a) assets ≡ true
known_number assets a h =
    let x = some_if_known (find nat_cmp a (map asset_entry assets)) h in
    let r = map_found asset_entry (a, x.0) assets (find_found exact_unsigned a x.0 (map asset_entry assets) x.1) in
    any_of (λ r. nat_eq r.number a) r.0 assets r.1 (eq-eqb r.0.number a (sym (ap (λ (e : ℕ × state.Asset). e.0) r.2)))

-- a millimetre of a known link is of a link's row
link_row : (links : List Link) (n mm : ℕ) → nat_lt mm (unwrap_or (find nat_cmp n (map link_entry links)) 0) ≡ true → (l : Link) × In l links × (l.number ≡ n) × (mm < l.length)
link_row links n mm h = by (find nat_cmp n (map link_entry links)) refl h
  where
    by : (o : Option ℕ) → find nat_cmp n (map link_entry links) ≡ o → nat_lt mm (unwrap_or o 0) ≡ true → (l : Link) × In l links × (l.number ≡ n) × (mm < l.length)
    by None e k = let none = ltb-true mm 0 k in absurd (omega (arith, none))
    by (Some len) e k =
        let found = map_found link_entry (n, len) links (find_found exact_unsigned n len (map link_entry links) e) in
        let within = ltb-true mm len k in
        let same = ap (λ (r : ℕ × ℕ). r.1) found.2 in
        (found.0, found.1, sym (ap (λ (r : ℕ × ℕ). r.0) found.2), omega (arith, within, same))

-- a part whose last millimetre is of a known link is within that link
on_its_link : (links : List Link) (x : Part) → x.from < x.to → nat_lt (x.to - 1) (unwrap_or (find nat_cmp x.link (map link_entry links)) 0) ≡ true → is_on_its_link links x ≡ true
on_its_link links x filled h =
    let l = link_row links x.link (x.to - 1) h in
    let within = l.3 in
    and_from (nat_lt x.from x.to) (list_any (λ k. nat_eq k.number x.link && nat_le x.to k.length) links) (lt-ltb x.from x.to filled)
    (any_of (λ k. nat_eq k.number x.link && nat_le x.to k.length) l.0 links l.1 (and_from (nat_eq l.0.number x.link) (nat_le x.to l.0.length) (eq-eqb l.0.number x.link l.2) (le-leb x.to l.0.length (omega (arith, within, filled)))))

-- a pair is balanced
balance_from : (h e g : Bool) → (g ≡ true → e ≡ true) → (h ≡ true → e ≡ true) → (e ≡ true → (h ≡ true) ⊎ (g ≡ true)) → (h ≡ true → g ≡ true → ⊥)
    → (same_bool h (e && not g) && (e || not g)) ≡ true
balance_from true true true a b c d = absurd (d refl refl)
balance_from true true false a b c d = refl
balance_from true false g a b c d = absurd (false≢true (b refl))
balance_from false true true a b c d = refl
balance_from false true false a b c d = absurd (neither (c refl))
  where
    neither : (false ≡ true) ⊎ (false ≡ true) → ⊥
    neither (inl k) = false≢true k
    neither (inr k) = false≢true k
balance_from false false true a b c d = absurd (false≢true (a refl))
balance_from false false false a b c d = refl

-- an edit as the state has it
abbrev pub kept : Edit → state.Edit
kept e = record { key = e.key; line = e.line }

abbrev holds : Image → ℕ → Place → Bool
holds i a p = list_any (λ e. holds_on e a p) i.routes

abbrev enters : Image → ℕ → ℕ → Place → Bool
enters i m a p = list_any (λ part. has_pair part m a p) i.entered

abbrev takes : Image → ℕ → Reason → ℕ → Place → Bool
takes i m why a p = list_any (takes_away m why a p) i.gone

module _ (i : Image) (o : IsOrderly i) (l : IsLawful (state_of i)) where
  held : (a : ℕ) (p : Place) → holds_in (spans_of i) a p ≡ holds i a p
  held a p = list_any-map (λ s. holds_by_spans s.course s.rows a p) (λ e. record { course = e.route.course; rows = e.spans }) i.routes

  -- ---- the laws, of rows

  entered_once : (m n a : ℕ) (p : Place) → enters i m a p ≡ true → enters i n a p ≡ true → m ≡ n
  unfolding state_of
  entered_once = l.balanced.entered_once

  gone_once : (m n a : ℕ) (why because : Reason) (p : Place) → takes i m why a p ≡ true → takes i n because a p ≡ true → (m ≡ n) × (why ≡ because)
  unfolding state_of
  gone_once = l.balanced.gone_once

  asset_known : (m a : ℕ) (p : Place) → enters i m a p ≡ true → list_any (λ r. nat_eq r.number a) i.assets ≡ true
  unfolding state_of
  asset_known m a p h = known_number i.assets a (l.named.asset_known m a p h)

  gone_entered : (n a : ℕ) (why : Reason) (p : Place) → takes i n why a p ≡ true → (m : ℕ) × (enters i m a p ≡ true)
  unfolding state_of
  gone_entered = l.balanced.gone_entered

  held_entered : (a : ℕ) (p : Place) → holds i a p ≡ true → (m : ℕ) × (enters i m a p ≡ true)
  unfolding state_of
  held_entered = l.balanced.held_entered

  held_or_gone : (m a : ℕ) (p : Place) → enters i m a p ≡ true → (holds i a p ≡ true) ⊎ ((n : ℕ) × (why : Reason) × (takes i n why a p ≡ true))
  unfolding state_of
  held_or_gone = l.balanced.held_or_gone

  held_not_gone : (n a : ℕ) (why : Reason) (p : Place) → holds i a p ≡ true → takes i n why a p ≡ true → ⊥
  unfolding state_of
  held_not_gone = l.balanced.held_not_gone

  entered_done : (m a : ℕ) (p : Place) → enters i m a p ≡ true → (1 ≤ m) × (m ≤ length i.edits)
  unfolding state_of
  entered_done m a p h = let d = l.named.entered_done m a p h in (d.0, omega (arith, d.1, length-map i.edits kept))

  gone_done : (m a : ℕ) (why : Reason) (p : Place) → takes i m why a p ≡ true → (1 ≤ m) × (m ≤ length i.edits)
  unfolding state_of
  gone_done m a why p h = let d = l.named.gone_done m a why p h in (d.0, omega (arith, d.1, length-map i.edits kept))

  place_known : (m a : ℕ) (p : Place) → enters i m a p ≡ true → nat_lt p.mm (unwrap_or (find nat_cmp p.link (map link_entry i.links)) 0) ≡ true
  unfolding state_of
  place_known = l.grounded.places

  by_entry : (m a : ℕ) (x : state.Asset) (p : Place) → find nat_cmp a (map asset_entry i.assets) ≡ Some x → enters i m a p ≡ true → m ≡ x.entered_by
  unfolding state_of
  by_entry = l.named.by_entry

  was_entered : (a : ℕ) (x : state.Asset) → find nat_cmp a (map asset_entry i.assets) ≡ Some x → (p : Place) × (enters i x.entered_by a p ≡ true)
  unfolding state_of
  was_entered = l.named.was_entered

  -- ---- parts

  has_own : (x : Part) (mm : ℕ) → x.from ≤ mm → mm < x.to → has_pair x x.edit x.asset (place_at x mm) ≡ true
  has_own x mm low high = has_its_pair x x.edit x.asset x.link x.side mm refl refl refl refl low high

  own_pair : (x : Part) (mm : ℕ) → In x i.entered → x.from ≤ mm → mm < x.to → enters i x.edit x.asset (place_at x mm) ≡ true
  own_pair x mm m low high = any_of (λ part. has_pair part x.edit x.asset (place_at x mm)) x i.entered m (has_own x mm low high)

  own_gone : (g : Gone) (mm : ℕ) → In g i.gone → g.part.from ≤ mm → mm < g.part.to → takes i g.part.edit (reason_of g) g.part.asset (place_at g.part mm) ≡ true
  own_gone g mm m low high =
      let x = g.part in
      any_of (takes_away x.edit (reason_of g) x.asset (place_at x mm)) g i.gone m
      (and_from (same_reason (reason_of g) (reason_of g)) (has_pair x x.edit x.asset (place_at x mm)) (is_same_reason (reason_of g)) (has_own x mm low high))

  -- a part is filled, so it has its first place and its last one
  entered_filled : (x : Part) → In x i.entered → x.from < x.to
  entered_filled x m = ltb-true x.from x.to (all_at is_filled x i.entered o.entered_filled m)

  gone_filled : (g : Gone) → In g i.gone → g.part.from < g.part.to
  gone_filled g m = ltb-true g.part.from g.part.to (all_at is_filled g.part (parts_of i.gone) o.gone_filled (In-map (λ g. g.part) g i.gone m))

  first_pair : (x : Part) → In x i.entered → enters i x.edit x.asset (place_at x x.from) ≡ true
  first_pair x m = let f = entered_filled x m in own_pair x x.from m (omega arith) f

  first_gone : (g : Gone) → In g i.gone → takes i g.part.edit (reason_of g) g.part.asset (place_at g.part g.part.from) ≡ true
  first_gone g m = let f = gone_filled g m in own_gone g g.part.from m (omega arith) f

  entered_on : (x : Part) → In x i.entered → is_on_its_link i.links x ≡ true
  entered_on x m = let f = entered_filled x m in on_its_link i.links x f (place_known x.edit x.asset (place_at x (x.to - 1)) (own_pair x (x.to - 1) m (omega (arith, f)) (omega (arith, f))))

  gone_on : (g : Gone) → In g i.gone → is_on_its_link i.links g.part ≡ true
  gone_on g m =
      let f = gone_filled g m in
      let p = place_at g.part (g.part.to - 1) in
      let e = gone_entered g.part.edit g.part.asset (reason_of g) p (own_gone g (g.part.to - 1) m (omega (arith, f)) (omega (arith, f))) in
      on_its_link i.links g.part f (place_known e.0 g.part.asset p e.1)

  all_entered_on : list_all (is_on_its_link i.links) i.entered ≡ true
  all_entered_on = all_of (is_on_its_link i.links) i.entered entered_on

  all_gone_on : list_all (is_on_its_link i.links) (parts_of i.gone) ≡ true
  all_gone_on = all_of (is_on_its_link i.links) (parts_of i.gone) (λ x m.
      let found = map_found (λ (g : Gone). g.part) x i.gone m in
      ap (is_on_its_link i.links) found.2 ∙ gone_on found.0 found.1)

  is_entered_part : (x : Part) → In x i.entered → is_part i.links i.assets x ≡ true
  is_entered_part x m = and_from (is_on_its_link i.links x) (list_any (λ a. nat_eq a.number x.asset) i.assets) (entered_on x m) (asset_known x.edit x.asset (place_at x x.from) (first_pair x m))

  is_gone_part : (x : Part) → In x (parts_of i.gone) → is_part i.links i.assets x ≡ true
  is_gone_part x m =
      let found = map_found (λ (g : Gone). g.part) x i.gone m in
      let g = found.0 in
      let e = gone_entered g.part.edit g.part.asset (reason_of g) (place_at g.part g.part.from) (first_gone g found.1) in
      ap (is_part i.links i.assets) found.2
      ∙ and_from (is_on_its_link i.links g.part) (list_any (λ a. nat_eq a.number g.part.asset) i.assets) (gone_on g found.1) (asset_known e.0 g.part.asset (place_at g.part g.part.from) e.1)

  entered_apart : each_two share_nothing i.entered ≡ true
  entered_apart = each_two_from share_nothing_in_an_edit share_nothing i.entered two o.entered_apart
    where
      two : (x y : Part) → In x i.entered → In y i.entered → share_nothing_in_an_edit x y ≡ true → share_nothing x y ≡ true
      two x y m n h = by (cases_Bool (share_nothing x y))
        where
          by : (share_nothing x y ≡ true) ⊎ (share_nothing x y ≡ false) → share_nothing x y ≡ true
          by (inl e) = e
          by (inr e) =
              let v = overlapping x y (entered_filled x m) (entered_filled y n) e in
              let p = place_at x v.mm in
              let ex = own_pair x v.mm m v.after v.before in
              let ey = any_of (λ part. has_pair part y.edit x.asset p) y i.entered n (has_its_pair y y.edit x.asset x.link x.side v.mm refl (sym v.asset) (sym v.link) (sym v.side) v.after_too v.before_too) in
              other_way (nat_eq x.edit y.edit) (share_nothing x y) h (eq-eqb x.edit y.edit (entered_once x.edit y.edit x.asset p ex ey))

  gone_apart : each_two share_nothing (parts_of i.gone) ≡ true
  gone_apart = each_two-map share_nothing (λ (g : Gone). g.part) i.gone ∙ each_two_from share_nothing_for_a_reason (λ g h. share_nothing g.part h.part) i.gone two o.gone_apart
    where
      two : (x y : Gone) → In x i.gone → In y i.gone → share_nothing_for_a_reason x y ≡ true → share_nothing x.part y.part ≡ true
      two g q m n h = by (cases_Bool (share_nothing g.part q.part))
        where
          by : (share_nothing g.part q.part ≡ true) ⊎ (share_nothing g.part q.part ≡ false) → share_nothing g.part q.part ≡ true
          by (inl e) = e
          by (inr e) =
              let x = g.part in
              let y = q.part in
              let v = overlapping x y (gone_filled g m) (gone_filled q n) e in
              let p = place_at x v.mm in
              let ex = own_gone g v.mm m v.after v.before in
              let ey = any_of (takes_away y.edit (reason_of q) x.asset p) q i.gone n
              (and_from (same_reason (reason_of q) (reason_of q)) (has_pair y y.edit x.asset p) (is_same_reason (reason_of q)) (has_its_pair y y.edit x.asset x.link x.side v.mm refl (sym v.asset) (sym v.link) (sym v.side) v.after_too v.before_too)) in
              let once = gone_once x.edit y.edit x.asset (reason_of g) (reason_of q) p ex ey in
              other_way (nat_eq x.edit y.edit && same_reason (reason_of g) (reason_of q)) (share_nothing x y) h
              (and_from (nat_eq x.edit y.edit) (same_reason (reason_of g) (reason_of q)) (eq-eqb x.edit y.edit once.0) (ap (same_reason (reason_of g)) (sym once.1) ∙ is_same_reason (reason_of g)))

  covered : (a : ℕ) (p : Place) → has_asset_place (parts_of i.gone) a p ≡ true → has_asset_place i.entered a p ≡ true
  covered a p h =
      let g = gone_by i.gone a p h in
      let e = gone_entered g.0 a g.1 p g.2 in
      has_entered i.entered e.0 a p e.1

  gone_few : list_all (λ a. nat_le (pairs_of a.number (parts_of i.gone)) most_pairs) i.assets ≡ true
  gone_few = all_of (λ a. nat_le (pairs_of a.number (parts_of i.gone)) most_pairs) i.assets (λ a m.
      let some = fewer i.links a.number (parts_of i.gone) i.entered o.links all_gone_on gone_apart all_entered_on (covered a.number) in
      let all = leb-true (pairs_of a.number i.entered) most_pairs (all_at (λ a. nat_le (pairs_of a.number i.entered) most_pairs) a i.assets o.entered_few m) in
      le-leb (pairs_of a.number (parts_of i.gone)) most_pairs (omega (arith, some, all)))

  -- ---- balance

  balanced_at : (a : ℕ) (p : Place) → is_balanced_at (spans_of i) i.entered (parts_of i.gone) a p ≡ true
  balanced_at a p =
      ap (λ h. same_bool h (has_asset_place i.entered a p && not (has_asset_place (parts_of i.gone) a p)) && (has_asset_place i.entered a p || not (has_asset_place (parts_of i.gone) a p))) (held a p)
      ∙ balance_from (holds i a p) (has_asset_place i.entered a p) (has_asset_place (parts_of i.gone) a p)
      (covered a p)
      (λ h. let e = held_entered a p h in has_entered i.entered e.0 a p e.1)
      (λ h. let e = entered_by i.entered a p h in either (held_or_gone e.0 a p e.1))
      (λ h k. let g = gone_by i.gone a p k in held_not_gone g.0 a g.1 p h g.2)
    where
      either : (holds i a p ≡ true) ⊎ ((n : ℕ) × (why : Reason) × (takes i n why a p ≡ true)) → (holds i a p ≡ true) ⊎ (has_asset_place (parts_of i.gone) a p ≡ true)
      either (inl h) = inl h
      either (inr g) = inr (has_gone i.gone g.0 g.1 a p g.2)

  -- ---- exclusive classes

  asset_order : each_two asset_before i.assets ≡ true
  asset_order = (and_parts (each_two asset_before i.assets) (list_all (is_asset i.classes) i.assets) (and_parts (each_two asset_before i.assets && list_all (is_asset i.classes) i.assets) _ o.assets).0).0

  abbrev kept_asset : Asset → state.Asset
  kept_asset a = record { class = a.class; value = a.value; lateral = a.lateral; entered_by = a.entered_by }

  asset_found : (r : Asset) → In r i.assets → find nat_cmp r.number (map asset_entry i.assets) ≡ Some (kept_asset r)
  asset_found r m = find_numbered (λ (a : Asset). a.number) kept_asset r i.assets asset_order m

  one_holder : (c : Class) (p : Place) → In c i.classes → c.kind ≡ Exclusive → holders_of i.assets (spans_of i) c.name p ≤ 1
  unfolding state_of
  one_holder c p m e = at_most_one (λ (a : Asset). same_name a.class c.name && holds_in (spans_of i) a.number p) asset_before i.assets asset_order (λ x y mx my before hx hy.
      let px = and_parts (same_name x.class c.name) (holds_in (spans_of i) x.number p) hx in
      let py = and_parts (same_name y.class c.name) (holds_in (spans_of i) y.number p) hy in
      let cx = (bytes_decides x.class c.name).0 px.0 in
      let cy = (bytes_decides y.class c.name).0 py.0 in
      let found = find_member nat_list_cmp_total (λ (k : Class). k.name) (λ (k : Class). k.kind) c i.classes o.classes m in
      let same = l.exclusive x.number y.number (kept_asset x) (kept_asset y) p (asset_found x mx) (asset_found y my) (cx ∙ sym cy)
      (ap (λ n. find name_cmp n (map (λ (k : Class). (k.name, k.kind)) i.classes)) cx ∙ found ∙ ap Some e)
      (sym (held x.number p) ∙ px.1) (sym (held y.number p) ∙ py.1) in
      let less = ltb-true x.number y.number before in
      omega (arith, same, less))

  exclusive : (c : Class) → In c i.classes → keeps_exclusive i.links i.assets (spans_of i) c ≡ true
  exclusive c m = by c.kind refl
    where
      by : (k : Kind) → c.kind ≡ k → keeps_exclusive i.links i.assets (spans_of i) c ≡ true
      by Point e = or_left _ _ (ap (λ k. not (is_exclusive k)) e)
      by Stretch e = or_left _ _ (ap (λ k. not (is_exclusive k)) e)
      by Exclusive e = or_right (not (is_exclusive c.kind)) _ (all_of (λ p. nat_le (holders_of i.assets (spans_of i) c.name p) 1) (places_of i.links) (λ p n. le-leb (holders_of i.assets (spans_of i) c.name p) 1 (one_holder c p m e)))

  -- ---- edits that the ledgers name

  named : (x : Part) → (1 ≤ x.edit) × (x.edit ≤ length i.edits) → is_named_by i.edits x ≡ true
  named x h = and_from (nat_le 1 x.edit) (nat_le x.edit (length i.edits)) (le-leb 1 x.edit h.0) (le-leb x.edit (length i.edits) h.1)

  entered_named : list_all (is_named_by i.edits) i.entered ≡ true
  entered_named = all_of (is_named_by i.edits) i.entered (λ x m.
      named x (entered_done x.edit x.asset (place_at x x.from) (first_pair x m)))

  gone_named : list_all (is_named_by i.edits) (parts_of i.gone) ≡ true
  gone_named = all_of (is_named_by i.edits) (parts_of i.gone) (λ x m.
      let found = map_found (λ (g : Gone). g.part) x i.gone m in
      let g = found.0 in
      ap (is_named_by i.edits) found.2 ∙ named g.part (gone_done g.part.edit g.part.asset (reason_of g) (place_at g.part g.part.from) (first_gone g found.1)))

  -- ---- the edits that entered the assets

  entry_of_part : (a : Asset) (x : Part) → In a i.assets → In x i.entered → x.asset ≡ a.number → x.edit ≡ a.entered_by
  entry_of_part a x m n e = by_entry x.edit x.asset (kept_asset a) (place_at x x.from) (ap (λ k. find nat_cmp k (map asset_entry i.assets)) e ∙ asset_found a m) (first_pair x n)

  origin : (a : Asset) → In a i.assets → is_origin i.entered a ≡ true
  origin a m =
      let e = was_entered a.number (kept_asset a) (asset_found a m) in
      let part = any_found (λ part. has_pair part a.entered_by a.number e.0) i.entered e.1 in
      let had = pair_had part.0 a.entered_by a.number e.0 part.2 in
      and_from (list_any (λ p. nat_eq p.asset a.number) i.entered) _ (any_of (λ p. nat_eq p.asset a.number) part.0 i.entered part.1 (eq-eqb part.0.asset a.number had.1.of_asset))
      (all_of (λ p. not (nat_eq p.asset a.number) || nat_eq p.edit a.entered_by) i.entered (λ x n. by x n (cases_Bool (nat_eq x.asset a.number))))
    where
      by : (x : Part) → In x i.entered → (nat_eq x.asset a.number ≡ true) ⊎ (nat_eq x.asset a.number ≡ false) → (not (nat_eq x.asset a.number) || nat_eq x.edit a.entered_by) ≡ true
      by x n (inl is) = or_right (not (nat_eq x.asset a.number)) (nat_eq x.edit a.entered_by) (eq-eqb x.edit a.entered_by (entry_of_part a x m n (eqb-true x.asset a.number is)))
      by x n (inr other) = or_left (not (nat_eq x.asset a.number)) (nat_eq x.edit a.entered_by) (ap not other)

  -- ---- all tables

  parts_pass : (xs : List Part) → ((x : Part) → In x xs → is_part i.links i.assets x ≡ true) → each_two share_nothing xs ≡ true → list_all (λ a. nat_le (pairs_of a.number xs) most_pairs) i.assets ≡ true
      → are_parts i.links i.assets xs ≡ true
  parts_pass xs inside apart few =
      and_from (list_all (is_part i.links i.assets) xs && each_two share_nothing xs) _ (and_from (list_all (is_part i.links i.assets) xs) (each_two share_nothing xs) (all_of (is_part i.links i.assets) xs inside) apart) few

  all_pass : Passes i
  all_pass = record {
    links = o.links;
    classes = o.classes;
    assets = o.assets;
    courses = o.courses;
    marks = o.marks;
    referents = o.referents;
    spans = and_from (list_all (are_spans_of i.assets) (spans_of i)) (list_all (keeps_exclusive i.links i.assets (spans_of i)) i.classes) o.spans (all_of (keeps_exclusive i.links i.assets (spans_of i)) i.classes exclusive);
    entered = and_from (each_two part_before i.entered) (are_parts i.links i.assets i.entered) o.entered_order (parts_pass i.entered is_entered_part entered_apart o.entered_few);
    gone = and_from (each_two gone_before i.gone && are_parts i.links i.assets (parts_of i.gone)) (are_balanced i.links i.assets (spans_of i) i.entered (parts_of i.gone))
        (and_from (each_two gone_before i.gone) (are_parts i.links i.assets (parts_of i.gone)) o.gone_order (parts_pass (parts_of i.gone) is_gone_part gone_apart gone_few))
        (all_of (λ a. list_all (is_balanced_at (spans_of i) i.entered (parts_of i.gone) a.number) (places_of i.links)) i.assets (λ a m. all_of (is_balanced_at (spans_of i) i.entered (parts_of i.gone) a.number) (places_of i.links) (λ p n. balanced_at a.number p)));
    edits =
        let keys = each_two (λ (d e : Edit). not (same_name d.key e.key)) i.edits in
        and_from (keys && list_all (is_named_by i.edits) i.entered && list_all (is_named_by i.edits) (parts_of i.gone)) (nat_le (length i.edits) most_edits)
        (and_from (keys && list_all (is_named_by i.edits) i.entered) (list_all (is_named_by i.edits) (parts_of i.gone)) (and_from keys (list_all (is_named_by i.edits) i.entered) o.keys entered_named) gone_named)
        (le-leb (length i.edits) most_edits o.few_edits);
    origins = all_of (is_origin i.entered) i.assets origin;
  }

pub orderly_lawful_is_sound : OrderlyLawfulIsSound
orderly_lawful_is_sound i o l = sound i (all_pass i o l)
