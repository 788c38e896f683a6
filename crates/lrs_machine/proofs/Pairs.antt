-- Which places a part of a ledger or a span has, and that they lie on the links.
use Rattle.std.proofs.Common.{◌≡◌, ℕ, ◌-◌, ◌<◌, ◌≤◌, Bool, true, false, ◌⊎◌, inl, inr, List, [], ◌∷◌, map, refl, sym, ap, ap₂, ◌∙◌, arith}
use Rattle.std.specs.Prelude.{◌||◌, ◌&&◌, not, nat_eq, nat_le, nat_lt, slice_range}
use Rattle.std.specs.List.{list_any, list_all, range_with_len}
use Rattle.std.proofs.lemmas.Bool.{false≢true, both_ways, not-true, and_parts, and_from, or_cases, eqb-true, eq-eqb, leb-true, ltb-true}
use Rattle.std.proofs.lemmas.List.Folds.{list_all-map}
use Rattle.lrs_measure.specs.Lists.{In, each_two, same_bool}
use Rattle.lrs_measure.proofs.Members.{any_found, any_of, all_at, two_at, In-take, In-drop, In-range_with_len, In-flat_map, flat_map_found, list_any-map}
use Rattle.lrs_element.specs.declared.link.Link.{Link}
use Rattle.lrs_element.specs.declared.link.Ground.{Ground}
use Rattle.lrs_events.specs.declared.class.Asset.{Asset}
use Rattle.lrs_events.specs.declared.part.Part.{Part}
use Rattle.lrs_events.specs.declared.part.Gone.{Gone}
use Rattle.lrs_events.specs.declared.span.Span.{Span}
use Rattle.lrs_events.specs.declared.side.Side.{Side}
use Rattle.lrs_events.specs.declared.side.Side.TheVariants.{L, R, B}
use Rattle.lrs_events.specs.declared.side.LinkSide.{LinkSide}
use Rattle.lrs_events.specs.declared.side.LinkSide.TheVariants.{Left, Right}
use Rattle.lrs_events.specs.Places.{Place, same_link_side, same_place, places_at, places_of_link}
use Rattle.lrs_events.specs.Spans.{holds_by_span, holds_by_spans}
use Rattle.lrs_events.specs.Parts.{has_place, has_pair}
use Rattle.lrs_machine.specs.State.{Reason, Retired, Abandoned, same_reason}
use Rattle.lrs_machine.specs.Image.{reason_of}
use Rattle.lrs_machine.specs.Sound.{share_nothing, is_part, places_of, is_on_a_link, is_span, has_asset_place, parts_of}

pub same_side_is : (s t : LinkSide) → same_link_side s t ≡ true → s ≡ t
same_side_is Left Left h = refl
same_side_is Left Right h = absurd (false≢true h)
same_side_is Right Left h = absurd (false≢true h)
same_side_is Right Right h = refl

pub is_same_side : (s t : LinkSide) → s ≡ t → same_link_side s t ≡ true
is_same_side Left t e = ap (same_link_side Left) (sym e)
is_same_side Right t e = ap (same_link_side Right) (sym e)

pub same_reason_is : (s t : Reason) → same_reason s t ≡ true → s ≡ t
same_reason_is Retired Retired h = refl
same_reason_is Retired Abandoned h = absurd (false≢true h)
same_reason_is Abandoned Retired h = absurd (false≢true h)
same_reason_is Abandoned Abandoned h = refl

pub is_same_reason : (s : Reason) → same_reason s s ≡ true
is_same_reason Retired = refl
is_same_reason Abandoned = refl

-- the part has the asset's place
pub record HasPlace (part : Part) (a : ℕ) (p : Place) : Type 0 where
  pub of_asset : part.asset ≡ a
  pub on_link : part.link ≡ p.link
  pub low : part.from ≤ p.mm
  pub high : p.mm < part.to
  pub on_side : part.side ≡ p.side

pub place_had : (part : Part) (a : ℕ) (p : Place) → (nat_eq part.asset a && has_place part p) ≡ true → HasPlace part a p
place_had part a p h =
    let r = and_parts _ _ h in
    let s = and_parts _ _ r.1 in
    let t = and_parts _ _ s.0 in
    let u = and_parts _ _ t.0 in
    record { of_asset = eqb-true _ _ r.0; on_link = eqb-true _ _ u.0; low = leb-true _ _ u.1; high = ltb-true _ _ t.1; on_side = same_side_is _ _ s.1 }

-- the part has the pair, by this edit
pub pair_had : (part : Part) (m a : ℕ) (p : Place) → has_pair part m a p ≡ true → (part.edit ≡ m) × HasPlace part a p
pair_had part m a p h = let r = and_parts _ _ h in let e = and_parts _ _ r.0 in (eqb-true _ _ e.0, place_had part a p (and_from _ _ e.1 r.1))

-- Two parts that share nothing have no pair in common.
pub apart : (x y : Part) (a : ℕ) (p : Place) → share_nothing x y ≡ true → HasPlace x a p → HasPlace y a p → ⊥
apart x y a p h k l = by (or_cases _ _ h)
  where
    alike : (nat_eq x.asset y.asset && nat_eq x.link y.link && same_link_side x.side y.side) ≡ true
    alike = and_from _ _ (and_from _ _ (eq-eqb _ _ (k.of_asset ∙ sym l.of_asset)) (eq-eqb _ _ (k.on_link ∙ sym l.on_link))) (is_same_side _ _ (k.on_side ∙ sym l.on_side))

    first : (not (nat_eq x.asset y.asset && nat_eq x.link y.link && same_link_side x.side y.side) ≡ true) ⊎ (nat_le x.to y.from ≡ true) → ⊥
    first (inl other) = both_ways _ (not-true _ other) alike
    first (inr e) = let o = leb-true _ _ e in omega arith

    by : ((not (nat_eq x.asset y.asset && nat_eq x.link y.link && same_link_side x.side y.side) || nat_le x.to y.from) ≡ true) ⊎ (nat_le y.to x.from ≡ true) → ⊥
    by (inl e) = first (or_cases _ _ e)
    by (inr e) = let o = leb-true _ _ e in omega arith

-- Of rows whose parts share nothing, one has the pair.
pub one_row : {Row : Type 0} (part : Row → Part) (rows : List Row) (x y : Row) (a : ℕ) (p : Place) → each_two (λ r s. share_nothing (part r) (part s)) rows ≡ true
    → In x rows → In y rows → HasPlace (part x) a p → HasPlace (part y) a p → x ≡ y
one_row part rows x y a p h m n k l = by (two_at (λ r s. share_nothing (part r) (part s)) x y rows h m n)
  where
    by : (x ≡ y) ⊎ ((share_nothing (part x) (part y) ≡ true) ⊎ (share_nothing (part y) (part x) ≡ true)) → x ≡ y
    by (inl e) = e
    by (inr (inl e)) = absurd (apart _ _ a p e k l)
    by (inr (inr e)) = absurd (apart _ _ a p e l k)

pub each_two-map : {X Y : Type 0} (test : Y → Y → Bool) (f : X → Y) (xs : List X) → each_two test (map f xs) ≡ each_two (λ x y. test (f x) (f y)) xs
each_two-map test f [] = refl
each_two-map test f (x ∷ xs) = ap₂ (λ b c. b && c) (list_all-map (test (f x)) f xs) (each_two-map test f xs)

-- a place on one of the links
on_either : (m k : ℕ) (s : LinkSide) (n : ℕ) → n ≡ m
    → In (let p : Place = record { link = m; mm = k; side = s } in p) (record { link = n; mm = k; side = Left } ∷ record { link = n; mm = k; side = Right } ∷ [])
on_either m k Left n e = inl (ap (λ j. record { link = j; mm = k; side = Left }) (sym e))
on_either m k Right n e = inr (inl (ap (λ j. record { link = j; mm = k; side = Right }) (sym e)))

pub place_on : (links : List Link) (l : Link) (p : Place) → In l links → l.number ≡ p.link → p.mm < l.length → In p (places_of links)
place_on links l p m e h =
    let beside : ℕ → List Place = λ k. record { link = l.number; mm = k; side = Left } ∷ record { link = l.number; mm = k; side = Right } ∷ [] in
    In-flat_map (λ k. places_of_link k.number k.length) l p links m (In-flat_map beside p.mm p (range_with_len 0 l.length) (In-range_with_len p.mm 0 l.length (omega arith) (omega arith)) (on_either p.link p.mm p.side l.number e))

-- the places of a part lie on the links
pub part_on : (links : List Link) (assets : List Asset) (part : Part) (a : ℕ) (p : Place) → is_part links assets part ≡ true → HasPlace part a p → In p (places_of links)
part_on links assets part a p h k =
    let of_link : Link → Bool = λ l. nat_eq l.number part.link && nat_le part.to l.length in
    let of_asset : Asset → Bool = λ x. nat_eq x.number part.asset in
    let tests = and_parts (nat_lt part.from part.to && list_any of_link links) (list_any of_asset assets) h in
    let found = any_found of_link links (and_parts (nat_lt part.from part.to) (list_any of_link links) tests.0).1 in
    let fits = and_parts _ _ found.2 in
    let within = leb-true _ _ fits.1 in
    place_on links found.0 p found.1 (eqb-true _ _ fits.0 ∙ k.on_link) (omega arith)

-- its asset is known
pub part_asset : (links : List Link) (assets : List Asset) (part : Part) → is_part links assets part ≡ true → (x : Asset) × In x assets × (x.number ≡ part.asset)
part_asset links assets part h =
    let found = any_found (λ a. nat_eq a.number part.asset) assets (and_parts _ _ h).1 in
    (found.0, found.1, eqb-true _ _ found.2)

-- the ground beside which a row of spans holds the place
pub record IsHeld (course : List Ground) (rows : List Span) (a : ℕ) (p : Place) : Type 0 where
  pub row : Span
  pub is_row : In row rows
  pub of_asset : row.asset ≡ a
  pub ground : Ground
  pub on_course : In ground course
  pub on_link : ground.link ≡ p.link
  pub at : ground.mm ≡ p.mm

pub beside_ground : (s : Side) (g : Ground) (q : Place) → In q (places_at s g) → (q.link ≡ g.link) × (q.mm ≡ g.mm)
beside_ground L g q (inl e) = (ap (λ r. r.link) e, ap (λ r. r.mm) e)
beside_ground L g q (inr m) = absurd m
beside_ground R g q (inl e) = (ap (λ r. r.link) e, ap (λ r. r.mm) e)
beside_ground R g q (inr m) = absurd m
beside_ground B g q (inl e) = (ap (λ r. r.link) e, ap (λ r. r.mm) e)
beside_ground B g q (inr (inl e)) = (ap (λ r. r.link) e, ap (λ r. r.mm) e)
beside_ground B g q (inr (inr m)) = absurd m

pub held : (course : List Ground) (rows : List Span) (a : ℕ) (p : Place) → holds_by_spans course rows a p ≡ true → IsHeld course rows a p
held course rows a p h =
    let row = any_found (λ span. holds_by_span course span a p) rows h in
    let parts = and_parts _ _ row.2 in
    let place = any_found (same_place p) _ parts.1 in
    let same = and_parts _ _ place.2 in
    let ground = flat_map_found (places_at row.0.side) place.0 (slice_range course row.0.from row.0.to) place.1 in
    let is = beside_ground row.0.side ground.0 place.0 ground.2 in
    record {
      row = row.0;
      is_row = row.1;
      of_asset = eqb-true _ _ parts.0;
      ground = ground.0;
      on_course = In-drop ground.0 row.0.from course (In-take ground.0 (row.0.to - row.0.from) _ ground.1);
      on_link = sym (eqb-true _ _ (and_parts _ _ same.0).0 ∙ is.0);
      at = sym (eqb-true _ _ (and_parts _ _ same.0).1 ∙ is.1);
    }

-- what is held lies on the links where the course does
pub held_on : (links : List Link) (course : List Ground) (rows : List Span) (a : ℕ) (p : Place) → list_all (is_on_a_link links) course ≡ true → IsHeld course rows a p → In p (places_of links)
held_on links course rows a p h k =
    let found = any_found (λ l. nat_eq l.number k.ground.link && nat_lt k.ground.mm l.length) links (all_at (is_on_a_link links) k.ground course h k.on_course) in
    let fits = and_parts _ _ found.2 in
    let within = ltb-true _ _ fits.1 in
    place_on links found.0 p found.1 (eqb-true _ _ fits.0 ∙ k.on_link) (omega (arith, k.at))

-- held by a known asset
pub held_asset : (assets : List Asset) (len : ℕ) (course : List Ground) (rows : List Span) (a : ℕ) (p : Place) → list_all (is_span assets len) rows ≡ true → IsHeld course rows a p
    → (x : Asset) × In x assets × (x.number ≡ a)
held_asset assets len course rows a p h k =
    let found = any_found _ assets (and_parts _ _ (all_at (is_span assets len) k.row rows h k.is_row)).1 in
    (found.0, found.1, eqb-true _ _ (and_parts _ _ found.2).0 ∙ k.of_asset)

-- What a balanced pair of an asset and a place says: held is what was entered and is not gone.
pub record Balance (h e g : Bool) : Type 0 where
  pub gone_entered : g ≡ true → e ≡ true
  pub held_entered : h ≡ true → e ≡ true
  pub held_or_gone : e ≡ true → (h ≡ true) ⊎ (g ≡ true)
  pub held_not_gone : h ≡ true → g ≡ true → ⊥

pub balance : (h e g : Bool) → (same_bool h (e && not g) && (e || not g)) ≡ true → Balance h e g
balance true true true t = absurd (false≢true t)
balance true true false t = record { gone_entered = λ k. refl; held_entered = λ k. refl; held_or_gone = λ k. inl refl; held_not_gone = λ k l. false≢true l }
balance true false g t = absurd (false≢true t)
balance false true true t = record { gone_entered = λ k. refl; held_entered = λ k. refl; held_or_gone = λ k. inr refl; held_not_gone = λ k l. false≢true k }
balance false true false t = absurd (false≢true t)
balance false false true t = absurd (false≢true t)
balance false false false t = record { gone_entered = λ k. absurd (false≢true k); held_entered = λ k. absurd (false≢true k); held_or_gone = λ k. absurd (false≢true k); held_not_gone = λ k l. false≢true k }

-- the pair of a part is by its edit
has_own : (part : Part) (a : ℕ) (p : Place) → (nat_eq part.asset a && has_place part p) ≡ true → has_pair part part.edit a p ≡ true
has_own part a p h = let r = and_parts _ _ h in and_from _ _ (and_from _ _ (eq-eqb part.edit part.edit refl) r.0) r.1

-- and without it, the place of the asset
has_any : (part : Part) (m a : ℕ) (p : Place) → has_pair part m a p ≡ true → (nat_eq part.asset a && has_place part p) ≡ true
has_any part m a p h = let r = and_parts (nat_eq part.edit m && nat_eq part.asset a) (has_place part p) h in and_from _ _ (and_parts (nat_eq part.edit m) (nat_eq part.asset a) r.0).1 r.1

-- a pair that some edit entered
pub entered_by : (parts : List Part) (a : ℕ) (p : Place) → has_asset_place parts a p ≡ true → (m : ℕ) × (list_any (λ part. has_pair part m a p) parts ≡ true)
entered_by parts a p h =
    let found = any_found (λ part. nat_eq part.asset a && has_place part p) parts h in
    (found.0.edit, any_of (λ part. has_pair part found.0.edit a p) found.0 parts found.1 (has_own found.0 a p found.2))

pub has_entered : (parts : List Part) (m a : ℕ) (p : Place) → list_any (λ part. has_pair part m a p) parts ≡ true → has_asset_place parts a p ≡ true
has_entered parts m a p h =
    let found = any_found (λ part. has_pair part m a p) parts h in
    any_of (λ part. nat_eq part.asset a && has_place part p) found.0 parts found.1 (has_any found.0 m a p found.2)

-- whether this edit took the pair away, for this reason
abbrev pub takes_away : ℕ → Reason → ℕ → Place → Gone → Bool
takes_away m why a p g = same_reason (reason_of g) why && has_pair g.part m a p

-- a pair that some edit took away
pub gone_by : (gone : List Gone) (a : ℕ) (p : Place) → has_asset_place (parts_of gone) a p ≡ true → (m : ℕ) × (why : Reason) × (list_any (takes_away m why a p) gone ≡ true)
gone_by gone a p h =
    let found = any_found (λ g. nat_eq g.part.asset a && has_place g.part p) gone (sym (list_any-map (λ part. nat_eq part.asset a && has_place part p) (λ g. g.part) gone) ∙ h) in
    let g = found.0 in
    (g.part.edit, reason_of g, any_of (takes_away g.part.edit (reason_of g) a p) g gone found.1 (and_from _ _ (is_same_reason (reason_of g)) (has_own g.part a p found.2)))

pub has_gone : (gone : List Gone) (m : ℕ) (why : Reason) (a : ℕ) (p : Place) → list_any (takes_away m why a p) gone ≡ true → has_asset_place (parts_of gone) a p ≡ true
has_gone gone m why a p h =
    let found = any_found (takes_away m why a p) gone h in
    list_any-map (λ part. nat_eq part.asset a && has_place part p) (λ g. g.part) gone
    ∙ any_of (λ g. nat_eq g.part.asset a && has_place g.part p) found.0 gone found.1 (has_any found.0.part m a p (and_parts _ _ found.2).1)
