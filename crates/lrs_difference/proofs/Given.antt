-- What the lines of assets give: the places that one state holds and the other does not.
use Rattle.std.proofs.Common.{◌≡◌, ℕ, zero, suc, ◌+◌, ◌<◌, ◌≤◌, Bool, true, false, not, inl, inr, List, [], ◌∷◌, ◌++◌, map, refl, sym, ap, subst, ◌∙◌, arith}
use Rattle.std.specs.Prelude.{◌||◌, ◌&&◌, nat_eq, nat_le, nat_lt}
use Rattle.std.specs.List.{flat_map, list_any, range_with_len}
use Rattle.std.proofs.lemmas.Bool.{false≢true, and_parts, and_from, eqb-true, eq-eqb, leb-true, le-leb, ltb-true, lt-ltb}
use Rattle.std.proofs.lemmas.List.Folds.{list_any-append}
use Rattle.lrs_measure.specs.Lists.{In}
use Rattle.lrs_measure.specs.Runs.{Run}
use Rattle.lrs_measure.proofs.Members.{any_found, any_of, flat_map_found, In-flat_map, In-map, list_any-map, map_found}
use Rattle.lrs_measure.specs.Texts.{Name}
use Rattle.lrs_element.specs.declared.link.Link.{Link}
use Rattle.lrs_element.specs.Course.{Millimetre}
use Rattle.lrs_position.specs.Locations.{Alignment}
use Rattle.lrs_events.specs.declared.class.Kind.{Kind}
use Rattle.lrs_events.specs.declared.side.LinkSide.TheVariants.{Left, Right}
use Rattle.lrs_events.specs.declared.side.Side.{Side}
use Rattle.lrs_events.specs.Canonical.{canonical_rows}
use Rattle.lrs_events.specs.Members.{has_side}
use Rattle.lrs_events.specs.Places.{Place, places_of_link}
use Rattle.lrs_machine.specs.declared.image.Image.{Image}
use Rattle.lrs_machine.specs.Image.{asset_entry, link_entry, state_of}
use Rattle.lrs_machine.specs.Register.{entries}
use Rattle.lrs_machine.specs.Sound.{IsSound, places_of}
use Rattle.lrs_machine.specs.State.{State}
use Rattle.lrs_machine.proofs.SoundImages.{held_by, tested}
use Rattle.lrs_difference.specs.declared.line.AssetFacts.{AssetFacts}
use Rattle.lrs_difference.specs.declared.line.Item.{Item}
use Rattle.lrs_difference.specs.declared.line.Item.TheVariants as item
use Rattle.lrs_difference.specs.Difference.{class_item, course_of_link, facts_in, facts_of, holds_item, holds_only, lacking, link_item, only_in, referent_item, referents_in, route_item, stretches, stretches_on}
use Rattle.lrs_difference.specs.Items.{same_asset, same_class, same_link, same_referent, same_route}
use Rattle.lrs_difference.specs.Laws.{gives}
use Rattle.lrs_difference.proofs.Rows.{held_by_row, row_holds}

none_of : {X : Type 0} → (xs : List X) → list_any (λ x. false) xs ≡ false
none_of [] = refl
none_of (x ∷ xs) = none_of xs

-- items that fail a test
none_mapped : {X : Type 0} → (p : Item → Bool) (f : X → Item) (xs : List X) → ((x : X) → p (f x) ≡ false) → list_any p (map f xs) ≡ false
none_mapped p f xs fails = list_any-map p f xs ∙ (λ i. list_any (λ x. fails x i) xs) ∙ none_of xs

none_both : (p : Item → Bool) (xs ys : List Item) → list_any p xs ≡ false → list_any p ys ≡ false → list_any p (xs ++ ys) ≡ false
none_both p xs ys h k = list_any-append p xs ys ∙ (λ i. h i || k i)

-- what only assets pass is asked of their stretches alone
pub of_stretches : (p : Item → Bool) (a b : Image)
    → ((x : ℕ × ℕ) → p (link_item x) ≡ false) → ((x : Name × Kind) → p (class_item x) ≡ false) → ((x : Name × Alignment) → p (route_item x) ≡ false) → ((x : Name × Millimetre) → p (referent_item x) ≡ false)
    → list_any p (map item.Asset (lacking same_asset (facts_in (state_of a)) (facts_in (state_of b)))) ≡ false
    → list_any p (only_in a b) ≡ list_any p (stretches (state_of a) (state_of b))
of_stretches p a b links classes routes referents assets =
    let s = state_of a in
    let t = state_of b in
    let l = map link_item (lacking same_link (entries s.links) (entries t.links)) in
    let c = map class_item (lacking same_class (entries s.classes) (entries t.classes)) in
    let r = map route_item (lacking same_route (entries s.routes) (entries t.routes)) in
    let f = map referent_item (lacking same_referent (referents_in a) (referents_in b)) in
    let x = map item.Asset (lacking same_asset (facts_in s) (facts_in t)) in
    list_any-append p (l ++ c ++ r ++ f ++ x) (stretches s t)
    ∙ ap (λ b. b || list_any p (stretches s t))
    (none_both p (l ++ c ++ r ++ f) x
    (none_both p (l ++ c ++ r) f
    (none_both p (l ++ c) r
    (none_both p l c (none_mapped p link_item _ links) (none_mapped p class_item _ classes)) (none_mapped p route_item _ routes)) (none_mapped p referent_item _ referents)) assets)

pub record IsGiven (a : AssetFacts) (link from to : ℕ) (side : Side) (asset : ℕ) (p : Place) : Type 0 where
  pub of_asset : a.number ≡ asset
  pub on_link : link ≡ p.link
  pub low : from ≤ p.mm
  pub high : p.mm < to
  pub on_side : has_side side p.side ≡ true

given : (a : AssetFacts) (link from to : ℕ) (side : Side) (asset : ℕ) (p : Place) → gives (item.Holds a link from to side) asset p ≡ true → IsGiven a link from to side asset p
given a link from to side asset p h =
    let one = and_parts (nat_eq a.number asset && nat_eq link p.link && nat_le from p.mm && nat_lt p.mm to) (has_side side p.side) h in
    let two = and_parts (nat_eq a.number asset && nat_eq link p.link && nat_le from p.mm) (nat_lt p.mm to) one.0 in
    let three = and_parts (nat_eq a.number asset && nat_eq link p.link) (nat_le from p.mm) two.0 in
    let four = and_parts (nat_eq a.number asset) (nat_eq link p.link) three.0 in
    record {
      of_asset = eqb-true a.number asset four.0;
      on_link = eqb-true link p.link four.1;
      low = leb-true from p.mm three.1;
      high = ltb-true p.mm to two.1;
      on_side = one.1;
    }

gives_it : (a : AssetFacts) (link from to : ℕ) (side : Side) (asset : ℕ) (p : Place) → IsGiven a link from to side asset p → gives (item.Holds a link from to side) asset p ≡ true
gives_it a link from to side asset p h =
    and_from (nat_eq a.number asset && nat_eq link p.link && nat_le from p.mm && nat_lt p.mm to) (has_side side p.side)
    (and_from (nat_eq a.number asset && nat_eq link p.link && nat_le from p.mm) (nat_lt p.mm to)
    (and_from (nat_eq a.number asset && nat_eq link p.link) (nat_le from p.mm)
    (and_from (nat_eq a.number asset) (nat_eq link p.link) (eq-eqb a.number asset h.of_asset) (eq-eqb link p.link h.on_link))
    (le-leb from p.mm h.low)) (lt-ltb p.mm to h.high)) h.on_side

module _ (s t : State) (asset : ℕ) (p : Place) where
  abbrev gives_here : Item → Bool
  gives_here x = gives x asset p

  stretch_holds : (a : AssetFacts) (link : ℕ × ℕ) (u : Run Side) → In u (canonical_rows (holds_only s t a.number) (course_of_link link)) → gives_here (holds_item a link.0 u) ≡ true → holds_only s t asset p ≡ true
  stretch_holds a link u m h =
      let g = given a link.0 u.from u.to u.value asset p h in
      (λ i. holds_only s t (sym g.of_asset i) (record { link = sym g.on_link i; mm = p.mm; side = p.side }))
      ∙ row_holds (holds_only s t a.number) link.0 link.1 u m p.mm p.side g.low g.high g.on_side

  stretch_in : (a : AssetFacts) (link : ℕ × ℕ) (x : Item) → In x (stretches_on s t a link) → gives_here x ≡ true → holds_only s t asset p ≡ true
  stretch_in a link x m h =
      let u = map_found (holds_item a link.0) x (canonical_rows (holds_only s t a.number) (course_of_link link)) m in
      stretch_holds a link u.0 u.1 (subst (λ y. gives_here y ≡ true) u.2 h)

  -- the stretches give only what the first state alone holds
  pub stretches_hold : list_any gives_here (stretches s t) ≡ true → holds_only s t asset p ≡ true
  stretches_hold h =
      let x = any_found gives_here (stretches s t) h in
      let a = flat_map_found (λ a. flat_map (stretches_on s t a) (entries s.links)) x.0 (facts_in s) x.1 in
      let link = flat_map_found (stretches_on s t a.0) x.0 (entries s.links) a.2 in
      stretch_in a.0 link.0 x.0 link.2 x.2

  -- ... and all of it that is of a known asset and on a known link
  pub stretches_give : (a : AssetFacts) (link : ℕ × ℕ) → In a (facts_in s) → In link (entries s.links) → a.number ≡ asset → link.0 ≡ p.link → p.mm < link.1 → holds_only s t asset p ≡ true
      → list_any gives_here (stretches s t) ≡ true
  stretches_give a link known on of_asset on_link within h =
      let here : holds_only s t a.number (record { link = link.0; mm = p.mm; side = p.side }) ≡ true = (λ i. holds_only s t (of_asset i) (record { link = on_link i; mm = p.mm; side = p.side })) ∙ h in
      let u = held_by_row (holds_only s t a.number) link.0 link.1 p.mm p.side within here in
      let x = holds_item a link.0 u.0 in
      any_of gives_here x (stretches s t)
      (In-flat_map (λ a. flat_map (stretches_on s t a) (entries s.links)) a x (facts_in s) known
      (In-flat_map (stretches_on s t a) link x (entries s.links) on
      (In-map (holds_item a link.0) u.0 (canonical_rows (holds_only s t a.number) (course_of_link link)) u.1)))
      (gives_it a link.0 u.0.from u.0.to u.0.value asset p (record { of_asset = of_asset; on_link = on_link; low = u.2; high = u.3; on_side = u.4 }))

-- a place of the links is on one of them
range_within : (k j n : ℕ) → In k (range_with_len j n) → k < j + n
range_within k j zero m = absurd m
range_within k j (suc n) (inl e) = omega (arith, e)
range_within k j (suc n) (inr m) = let l = range_within k (j + 1) n m in omega (arith, l)

on_a_link : (links : List Link) (p : Place) → In p (places_of links) → (l : Link) × In l links × (l.number ≡ p.link) × (p.mm < l.length)
on_a_link links p m =
    let l = flat_map_found (λ l. places_of_link l.number l.length) p links m in
    let k = flat_map_found (λ k. record { link = l.0.number; mm = k; side = Left } ∷ record { link = l.0.number; mm = k; side = Right } ∷ []) p (range_with_len 0 l.0.length) l.2 in
    let at = two k.0 l.0.number k.2 in
    (l.0, l.1, at.0, (let low = range_within k.0 0 l.0.length k.1 in let e = at.1 in omega (arith, low, e)))
  where
    two : (k n : ℕ) → In p (record { link = n; mm = k; side = Left } ∷ record { link = n; mm = k; side = Right } ∷ []) → (n ≡ p.link) × (k ≡ p.mm)
    two k n (inl e) = (sym (ap (λ z. z.link) e), sym (ap (λ z. z.mm) e))
    two k n (inr (inl e)) = (sym (ap (λ z. z.link) e), sym (ap (λ z. z.mm) e))
    two k n (inr (inr m)) = absurd m

-- what is held in a sound image is of a known asset and on a known link
pub record IsPlaced (s : State) (asset : ℕ) (p : Place) : Type 0 where
  pub facts : AssetFacts
  pub known : In facts (facts_in s)
  pub of_asset : facts.number ≡ asset
  pub link : ℕ × ℕ
  pub on : In link (entries s.links)
  pub on_link : link.0 ≡ p.link
  pub within : p.mm < link.1

pub is_placed : (i : Image) → IsSound i → (asset : ℕ) (p : Place) → (state_of i).holds asset p ≡ true → IsPlaced (state_of i) asset p
unfolding state_of
is_placed i sound asset p h =
    let at = held_by i (tested i sound) asset p h in
    let l = on_a_link i.links p at.1 in
    record {
      facts = facts_of (asset_entry at.0.0);
      known = In-map facts_of (asset_entry at.0.0) (map asset_entry i.assets) (In-map asset_entry at.0.0 i.assets at.0.1);
      of_asset = at.0.2;
      link = link_entry l.0;
      on = In-map link_entry l.0 i.links l.1;
      on_link = l.2;
      within = l.3;
    }

both_imply : (b c : Bool) → (b ≡ true → c ≡ true) → (c ≡ true → b ≡ true) → b ≡ c
both_imply true c h k = sym (h refl)
both_imply false true h k = absurd (false≢true (k refl))
both_imply false false h k = refl

-- what the stretches of a sound image give
pub given_alone : (a b : Image) → IsSound a → (asset : ℕ) (p : Place) → list_any (λ x. gives x asset p) (only_in a b) ≡ holds_only (state_of a) (state_of b) asset p
given_alone a b sound asset p =
    let s = state_of a in
    let t = state_of b in
    of_stretches (λ x. gives x asset p) a b (λ x. refl) (λ x. refl) (λ x. refl) (λ x. refl) (none_mapped (λ x. gives x asset p) item.Asset (lacking same_asset (facts_in s) (facts_in t)) (λ x. refl))
    ∙ both_imply (list_any (λ x. gives x asset p) (stretches s t)) (holds_only s t asset p) (stretches_hold s t asset p) (λ h.
    let at = is_placed a sound asset p (and_parts (s.holds asset p) (not (t.holds asset p)) h).0 in
    stretches_give s t asset p at.facts at.link at.known at.on at.of_asset at.on_link at.within h)
