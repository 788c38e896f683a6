-- What one inventory has and another has not.
use Rattle.std.proofs.Common.{◌≡◌, Bool, true, false, not, List, [], ◌∷◌, ◌++◌, map, refl, sym, ap, subst}
use Rattle.std.specs.List.{list_any}
use Rattle.lrs_measure.specs.Lists.{In}
use Rattle.lrs_measure.proofs.Members.{any_found, any_of, filter-In}
use Rattle.lrs_measure.proofs.Filters.{filter_none}
use Rattle.lrs_machine.specs.declared.image.Image.{Image}
use Rattle.lrs_machine.specs.Image.{state_of}
use Rattle.lrs_machine.specs.Register.{entries}
use Rattle.lrs_difference.specs.declared.line.Item.TheVariants as item
use Rattle.lrs_difference.specs.Difference.{class_item, facts_in, lacking, link_item, only_in, referent_item, referents_in, route_item, stretches}
use Rattle.lrs_difference.specs.Items.{same_asset, same_class, same_link, same_referent, same_route}
use Rattle.lrs_difference.proofs.Same.{Tells}

module _ {A : Type 0} (same : A → A → Bool) (tells : Tells same) where
  -- a list whose members the other has too
  pub lacks_none : (xs ys : List A) → ((x : A) → In x xs → In x ys) → lacking same xs ys ≡ []
  lacks_none xs ys there = filter_none (λ x. not (list_any (same x) ys)) xs (λ x m. ap not (any_of (same x) x ys (there x m) ((tells x x).1 refl)))

  pub lacks_nothing : (xs ys : List A) → xs ≡ ys → lacking same xs ys ≡ []
  lacks_nothing xs ys e = lacks_none xs ys (λ x m. subst (λ zs. In x zs) e m)

  -- ... and of such lists alone nothing is lacking
  pub none_lacks : (xs ys : List A) → lacking same xs ys ≡ [] → (x : A) → In x xs → In x ys
  none_lacks xs ys h x m = by (list_any (same x) ys) refl
    where
      there : list_any (same x) ys ≡ true → In x ys
      there k = let y = any_found (same x) ys k in subst (λ z. In z ys) (sym ((tells x y.0).0 y.2)) y.1

      by : (b : Bool) → list_any (same x) ys ≡ b → In x ys
      by true k = there k
      by false k = absurd (subst (λ zs. In x zs) h (filter-In (λ z. not (list_any (same z) ys)) x xs m (ap not k)))

-- the first inventory has nothing that the second has not
pub record HasNoMore (a b : Image) : Type 0 where
  pub links : lacking same_link (entries (state_of a).links) (entries (state_of b).links) ≡ []
  pub classes : lacking same_class (entries (state_of a).classes) (entries (state_of b).classes) ≡ []
  pub routes : lacking same_route (entries (state_of a).routes) (entries (state_of b).routes) ≡ []
  pub referents : lacking same_referent (referents_in a) (referents_in b) ≡ []
  pub assets : lacking same_asset (facts_in (state_of a)) (facts_in (state_of b)) ≡ []
  pub held : stretches (state_of a) (state_of b) ≡ []

pub only_none : (a b : Image) → HasNoMore a b → only_in a b ≡ []
only_none a b h = λ k. map link_item (h.links k) ++ map class_item (h.classes k) ++ map route_item (h.routes k) ++ map referent_item (h.referents k) ++ map item.Asset (h.assets k) ++ h.held k

-- ---- where there is no item

front_none : {X : Type 0} → (xs ys : List X) → xs ++ ys ≡ [] → xs ≡ []
front_none [] ys h = refl
front_none (x ∷ xs) ys h = absurd (cc h)

rear_none : {X : Type 0} → (xs ys : List X) → xs ++ ys ≡ [] → ys ≡ []
rear_none [] ys h = h
rear_none (x ∷ xs) ys h = absurd (cc h)

map_none : {X Y : Type 0} → (f : X → Y) (xs : List X) → map f xs ≡ [] → xs ≡ []
map_none f [] h = refl
map_none f (x ∷ xs) h = absurd (cc h)

pub none_only : (a b : Image) → only_in a b ≡ [] → HasNoMore a b
none_only a b h =
    let s = state_of a in
    let t = state_of b in
    let l = lacking same_link (entries s.links) (entries t.links) in
    let c = lacking same_class (entries s.classes) (entries t.classes) in
    let r = lacking same_route (entries s.routes) (entries t.routes) in
    let f = lacking same_referent (referents_in a) (referents_in b) in
    let x = lacking same_asset (facts_in s) (facts_in t) in
    let five = front_none (map link_item l ++ map class_item c ++ map route_item r ++ map referent_item f ++ map item.Asset x) (stretches s t) h in
    let four = front_none (map link_item l ++ map class_item c ++ map route_item r ++ map referent_item f) (map item.Asset x) five in
    let three = front_none (map link_item l ++ map class_item c ++ map route_item r) (map referent_item f) four in
    let two = front_none (map link_item l ++ map class_item c) (map route_item r) three in
    record {
      links = map_none link_item l (front_none (map link_item l) (map class_item c) two);
      classes = map_none class_item c (rear_none (map link_item l) (map class_item c) two);
      routes = map_none route_item r (rear_none (map link_item l ++ map class_item c) (map route_item r) three);
      referents = map_none referent_item f (rear_none (map link_item l ++ map class_item c ++ map route_item r) (map referent_item f) four);
      assets = map_none item.Asset x (rear_none (map link_item l ++ map class_item c ++ map route_item r ++ map referent_item f) (map item.Asset x) five);
      held = rear_none (map link_item l ++ map class_item c ++ map route_item r ++ map referent_item f ++ map item.Asset x) (stretches s t) h;
    }
