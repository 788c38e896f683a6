-- The lines of a difference are in order.
use Rattle.std.proofs.Common.{◌≡◌, ℕ, ◌+◌, Bool, true, not, List, [], ◌∷◌, ◌++◌, map, length, refl, ap, ◌∙◌}
use Rattle.std.specs.Prelude.{◌||◌, nat_lt}
use Rattle.std.specs.List.{flat_map, list_all, list_any}
use Rattle.std.specs.Cmp.Lexicographic.{bytes_decides, nat_list_cmp_total}
use Rattle.std.proofs.lemmas.Bool.{both_ways, not-true, or_left, or_right}
use Rattle.std.proofs.lemmas.List.Sorted.{ranks_by}
use Rattle.lrs_measure.specs.Lists.{In, each_two}
use Rattle.lrs_measure.specs.Runs.{runs_of, same_option}
use Rattle.lrs_measure.specs.Texts.{Name, name_before, same_name}
use Rattle.lrs_measure.proofs.EachTwo.{two_passing}
use Rattle.lrs_measure.proofs.Filters.{each_two-filter}
use Rattle.lrs_measure.proofs.Members.{all_of, flat_map_found, map_found}
use Rattle.lrs_events.specs.Canonical.{canonical_rows, side_held}
use Rattle.lrs_events.specs.Spans.{same_side}
use Rattle.lrs_events.proofs.LaneLists.Inserted.{differs, each_two-insert_all}
use Rattle.lrs_events.proofs.Row.Rows.{NameCases, name_cases, before, same, behind}
use Rattle.lrs_machine.specs.declared.image.Image.{Image}
use Rattle.lrs_machine.specs.Image.{referents_on, state_of}
use Rattle.lrs_machine.specs.Register.{entries}
use Rattle.lrs_machine.specs.Sound.{IsSound}
use Rattle.lrs_machine.specs.State.{State}
use Rattle.lrs_machine.proofs.Pairs.{each_two-map}
use Rattle.lrs_machine.proofs.SoundImages.{sound_is_lawful}
use Rattle.lrs_difference.specs.declared.line.AssetFacts.{AssetFacts}
use Rattle.lrs_difference.specs.declared.line.Item.{Item}
use Rattle.lrs_difference.specs.declared.line.Item.TheVariants as item
use Rattle.lrs_difference.specs.Difference.{class_item, course_of_link, difference, facts_in, holds_item, holds_only, lacking, link_item, only_in, referent_before, referent_item, referents_in, route_item, stretches, stretches_on}
use Rattle.lrs_difference.specs.Items.{item_before, same_asset, same_class, same_link, same_referent, same_route}
use Rattle.lrs_difference.specs.Laws.{LinesAreInOrder}
use Rattle.lrs_difference.proofs.Agreeing.{classes_in_order, facts_in_order, routes_in_order}
use Rattle.lrs_difference.proofs.Keys.{behind_first, group, lesser_first}
use Rattle.lrs_difference.proofs.Merged.{merged}
use Rattle.lrs_difference.proofs.Referents.{Entry, apart, all_apart, refs_apart}
use Rattle.lrs_difference.proofs.Rising.{each_given, first_group, group_of, next_group, rows_rise}
use Rattle.lrs_difference.proofs.Rows.{are_runs}

-- items of elements that are in order
items_in_order : {X : Type 0} → (order : X → X → Bool) (alike : X → X → Bool) (f : X → Item) (xs ys : List X) → ((x y : X) → order x y ≡ true → item_before (f x) (f y) ≡ true) → each_two order xs ≡ true
    → each_two item_before (map f (lacking alike xs ys)) ≡ true
items_in_order order alike f xs ys keeps h =
    each_two-map item_before f (lacking alike xs ys)
    ∙ two_passing order (λ x y. item_before (f x) (f y)) keeps (lacking alike xs ys) (each_two-filter order (λ x. not (list_any (alike x) ys)) xs h)

-- ---- referents

one_first : (m n : Name) → not (same_name m n) ≡ true → (name_before m n || name_before n m) ≡ true
one_first m n h = by (name_cases m n)
  where
    by : NameCases m n → (name_before m n || name_before n m) ≡ true
    by (before k) = or_left (name_before m n) (name_before n m) k
    by (same e) = absurd (both_ways (same_name m n) (not-true (same_name m n) h) ((bytes_decides m n).1 e))
    by (behind k) = or_right (name_before m n) (name_before n m) k

pub referents_differ : (i : Image) → IsSound i → each_two (differs referent_before) (flat_map referents_on i.routes) ≡ true
referents_differ i sound = two_passing apart (differs referent_before) (λ x y h. one_first x.0 y.0 h) (flat_map referents_on i.routes) (all_apart i.routes (refs_apart i sound))

pub referents_in_order : (i : Image) → IsSound i → each_two referent_before (referents_in i) ≡ true
referents_in_order i sound =
    let xs = flat_map referents_on i.routes in
    each_two-insert_all referent_before (ranks_by nat_list_cmp_total (λ (x : Entry). x.0)) xs []
    (referents_differ i sound)
    (all_of (λ x. list_all (differs referent_before x) []) xs (λ x m. refl)) refl

-- ---- what assets hold

module _ (s t : State) where
  on_link : (a : AssetFacts) (link : ℕ × ℕ) → each_two item_before (stretches_on s t a link) ≡ true
  on_link a link =
      let rows = canonical_rows (holds_only s t a.number) (course_of_link link) in
      each_two-map item_before (holds_item a link.0) rows
      ∙ two_passing (λ u v. nat_lt u.from v.from) (λ u v. item_before (holds_item a link.0 u) (holds_item a link.0 v))
      (λ u v h.
      behind_first 5 (a.number ∷ link.0 ∷ u.from ∷ []) (a.number ∷ link.0 ∷ v.from ∷ [])
      (behind_first a.number (link.0 ∷ u.from ∷ []) (link.0 ∷ v.from ∷ []) (behind_first link.0 (u.from ∷ []) (v.from ∷ []) (lesser_first u.from v.from [] [] h)))) rows
      (rows_rise 0 (0 + length (map (side_held (holds_only s t a.number)) (course_of_link link))) (runs_of (same_option same_side) (map (side_held (holds_only s t a.number)) (course_of_link link))) (are_runs (holds_only s t a.number) link.0 link.1).cover)

  links_apart : (a : AssetFacts) (l k from start : ℕ) → nat_lt l k ≡ true → name_before (5 ∷ a.number ∷ l ∷ from ∷ []) (5 ∷ a.number ∷ k ∷ start ∷ []) ≡ true
  links_apart a l k from start h =
      behind_first 5 (a.number ∷ l ∷ from ∷ []) (a.number ∷ k ∷ start ∷ []) (behind_first a.number (l ∷ from ∷ []) (k ∷ start ∷ []) (lesser_first l k (from ∷ []) (start ∷ []) h))

  across_links : (a : AssetFacts) (l k : ℕ × ℕ) → nat_lt l.0 k.0 ≡ true → (x y : Item) → In x (stretches_on s t a l) → In y (stretches_on s t a k) → item_before x y ≡ true
  across_links a l k h x y m n =
      let u = map_found (holds_item a l.0) x (canonical_rows (holds_only s t a.number) (course_of_link l)) m in
      let v = map_found (holds_item a k.0) y (canonical_rows (holds_only s t a.number) (course_of_link k)) n in
      (λ i. item_before (u.2 i) (v.2 i)) ∙ links_apart a l.0 k.0 u.0.from v.0.from h

  abbrev of_asset : AssetFacts → List Item
  of_asset a = flat_map (stretches_on s t a) (entries s.links)

  -- an item of an asset
  held_item : (a : AssetFacts) (x : Item) → In x (of_asset a) → (link from to : ℕ) × (side : _) × (x ≡ item.Holds a link from to side)
  held_item a x m =
      let l = flat_map_found (stretches_on s t a) x (entries s.links) m in
      let u = map_found (holds_item a l.0.0) x (canonical_rows (holds_only s t a.number) (course_of_link l.0)) l.2 in
      (l.0.0, u.0.from, u.0.to, u.0.value, u.2)

  across_assets : (a b : AssetFacts) → nat_lt a.number b.number ≡ true → (x y : Item) → In x (of_asset a) → In y (of_asset b) → item_before x y ≡ true
  across_assets a b h x y m n =
      let u = held_item a x m in
      let v = held_item b y n in
      (λ i. item_before (u.4 i) (v.4 i)) ∙ behind_first 5 (a.number ∷ u.0 ∷ u.1 ∷ []) (b.number ∷ v.0 ∷ v.1 ∷ []) (lesser_first a.number b.number (u.0 ∷ u.1 ∷ []) (v.0 ∷ v.1 ∷ []) h)

  pub stretches_in_order : each_two (λ l k. nat_lt l.0 k.0) (entries s.links) ≡ true → each_two (λ a b. nat_lt a.number b.number) (facts_in s) ≡ true → each_two item_before (stretches s t) ≡ true
  stretches_in_order links facts =
      each_given (λ a b. nat_lt a.number b.number) item_before of_asset (facts_in s) facts
      (λ a. each_given (λ l k. nat_lt l.0 k.0) item_before (stretches_on s t a) (entries s.links) links (on_link a) (across_links a)) across_assets

  pub held_group : (x : Item) → In x (stretches s t) → group x ≡ 5
  held_group x m =
      let a = flat_map_found of_asset x (facts_in s) m in
      ap group (held_item a.0 x a.2).4

-- ---- all items

items_rise : (a b : Image) → IsSound a → each_two item_before (only_in a b) ≡ true
items_rise a b sound =
    let s = state_of a in
    let t = state_of b in
    let ground = (sound_is_lawful a sound).grounded in
    let l = lacking same_link (entries s.links) (entries t.links) in
    let c = lacking same_class (entries s.classes) (entries t.classes) in
    let r = lacking same_route (entries s.routes) (entries t.routes) in
    let f = lacking same_referent (referents_in a) (referents_in b) in
    let x = lacking same_asset (facts_in s) (facts_in t) in
    let one = first_group 0 (map link_item l)
    (items_in_order (λ p q. nat_lt p.0 q.0) same_link link_item (entries s.links) (entries t.links) (λ p q h. behind_first 0 (p.0 ∷ []) (q.0 ∷ []) (lesser_first p.0 q.0 [] [] h)) ground.links)
    (group_of 0 link_item l (λ p. refl)) in
    let two = next_group 1 (map link_item l) (map class_item c) one
    (items_in_order (λ p q. name_before p.0 q.0) same_class class_item (entries s.classes) (entries t.classes) (λ p q h. behind_first 1 p.0 q.0 h) (classes_in_order a sound))
    (group_of 1 class_item c (λ p. refl)) in
    let three = next_group 2 (map link_item l ++ map class_item c) (map route_item r) two
    (items_in_order (λ p q. name_before p.0 q.0) same_route route_item (entries s.routes) (entries t.routes) (λ p q h. behind_first 2 p.0 q.0 h) (routes_in_order a sound))
    (group_of 2 route_item r (λ p. refl)) in
    let four = next_group 3 (map link_item l ++ map class_item c ++ map route_item r) (map referent_item f) three
    (items_in_order referent_before same_referent referent_item (referents_in a) (referents_in b) (λ p q h. behind_first 3 p.0 q.0 h) (referents_in_order a sound))
    (group_of 3 referent_item f (λ p. refl)) in
    let five = next_group 4 (map link_item l ++ map class_item c ++ map route_item r ++ map referent_item f) (map item.Asset x) four
    (items_in_order (λ p q. nat_lt p.number q.number) same_asset item.Asset (facts_in s) (facts_in t) (λ p q h. behind_first 4 (p.number ∷ []) (q.number ∷ []) (lesser_first p.number q.number [] [] h)) (facts_in_order a sound))
    (group_of 4 item.Asset x (λ p. refl)) in
    (next_group 5 (map link_item l ++ map class_item c ++ map route_item r ++ map referent_item f ++ map item.Asset x) (stretches s t) five
    (stretches_in_order s t ground.links (facts_in_order a sound)) (held_group s t)).order

pub in_their_order : LinesAreInOrder
unfolding difference
in_their_order a b sa sb = merged (only_in a b) (only_in b a) (items_rise a b sa) (items_rise b a sb)
