-- Routes are dropped and written by a difference.
use Rattle.std.proofs.Common.{◌≡◌, Bool, true, false, cond, inl, inr, List, [], ◌∷◌, filter, Option, Some, None, refl, sym, ap, ◌∙◌}
use Rattle.std.specs.Prelude.{not}
use Rattle.std.specs.List.{list_all, cons_option}
use Rattle.std.proofs.lemmas.Bool.{and_parts}
use Rattle.std.proofs.lemmas.List.{append-nil}
use Rattle.lrs_measure.specs.Lists.{In, each_two}
use Rattle.lrs_measure.specs.OrderedLists.{insert_by, insert_some, insert_all}
use Rattle.lrs_measure.specs.Texts.{Name, same_name}
use Rattle.lrs_measure.proofs.Members.{all_at, In-filter}
use Rattle.lrs_machine.specs.declared.image.RouteRow.{RouteRow}
use Rattle.lrs_machine.specs.declared.image.Image.{Image}
use Rattle.lrs_machine.specs.Sound.{route_before, IsSound}
use Rattle.lrs_image.specs.declared.change.RouteChange.{RouteChange}
use Rattle.lrs_image.specs.declared.change.Difference.{Difference}
use Rattle.lrs_image.specs.Change.{is_named, without, without_some, routes_after, with_difference}
use Rattle.lrs_image.proofs.Named.{others-next, others-none}
use Rattle.lrs_image.proofs.Tables.{routes_in_order}
use Rattle.lrs_image_laws.specs.Rewrites.{routes_left, rewritten, with_routes}
use Rattle.lrs_image_laws.specs.Differences.{rerouting, changed_route, dropped_by, written_by, KeepsFromDropped, DifferenceRewrites}
use Rattle.lrs_image_laws.proofs.Naming.{route_chain, without_one, left_in_order}

abbrev name_of : RouteRow → Name
name_of e = e.route.name

-- ---- an element that passes is put among those that pass as among all

module _ {X : Type 0} (before : X → X → Bool) (chain : (a b c : X) → before a b ≡ true → before b c ≡ true → before a c ≡ true) where
  -- an element that comes before all of these
  at_front : (x : X) (ys : List X) → ((y : X) → In y ys → before x y ≡ true) → insert_by before x ys ≡ x ∷ ys
  at_front x [] w = refl
  at_front x (y ∷ ys) w = ap (λ b. cond b (x ∷ y ∷ ys) (y ∷ insert_by before x ys)) (w y (inl refl))

  pub filter-insert_by : (p : X → Bool) (x : X) (xs : List X) → p x ≡ true → each_two before xs ≡ true → filter p (insert_by before x xs) ≡ insert_by before x (filter p xs)
  filter-insert_by p x [] h order = ap (λ b. cond b (x ∷ []) []) h
  filter-insert_by p x (y ∷ ys) h order = by (before x y) refl (filter-insert_by p x ys h both.1)
    where
      both : (list_all (before y) ys ≡ true) × (each_two before ys ≡ true)
      both = and_parts (list_all (before y) ys) (each_two before ys) order

      later : before x y ≡ true → (z : X) → In z (y ∷ ys) → before x z ≡ true
      later first z (inl e) = ap (before x) e ∙ first
      later first z (inr m) = chain x y z first (all_at (before y) z ys both.0 m)

      by : (b : Bool) → before x y ≡ b → filter p (insert_by before x ys) ≡ insert_by before x (filter p ys) → filter p (insert_by before x (y ∷ ys)) ≡ insert_by before x (filter p (y ∷ ys))
      by true e rest =
          ap (λ b. filter p (cond b (x ∷ y ∷ ys) (y ∷ insert_by before x ys))) e
          ∙ ap (λ b. cond b (x ∷ filter p (y ∷ ys)) (filter p (y ∷ ys))) h
          ∙ sym (at_front x (filter p (y ∷ ys)) (λ z m. later e z (In-filter p z (y ∷ ys) m).0))
      by false e rest =
          ap (λ b. filter p (cond b (x ∷ y ∷ ys) (y ∷ insert_by before x ys))) e
          ∙ (elim (p y) as (λ c. cond c (y ∷ filter p (insert_by before x ys)) (filter p (insert_by before x ys)) ≡ insert_by before x (cond c (y ∷ filter p ys) (filter p ys))) [
            | true ↦ ap (λ t. y ∷ t) rest ∙ sym (ap (λ b. cond b (x ∷ y ∷ filter p ys) (y ∷ insert_by before x (filter p ys))) e)
            | false ↦ rest
          ])

-- ---- one change, and then a name that goes

-- one name goes after another
pub two_left : (a b : Name) (routes : List RouteRow) → without b (routes_left (a ∷ []) routes) ≡ routes_left (a ∷ b ∷ []) routes
two_left a b routes = without_one b (routes_left (a ∷ []) routes) ∙ ap (routes_left (b ∷ [])) (sym (without_one a routes)) ∙ others-next name_of a (b ∷ []) routes

module _ (routes : List RouteRow) (order : each_two route_before routes ≡ true) where
  -- what a change leaves
  changes : (c : RouteChange) (w : Option RouteRow) → changed_route routes c ≡ w → routes_after (Some c) routes ≡ insert_some route_before w (routes_left (c.route ∷ []) routes)
  changes c w is = (λ j. insert_some route_before (is j) (without_one c.route routes j))

  drops : (n : Name) (w : Option RouteRow) (names : List Name) → ((v : RouteRow) → w ≡ Some v → same_name v.route.name n ≡ false)
      → without n (insert_some route_before w (routes_left names routes)) ≡ insert_some route_before w (without n (routes_left names routes))
  drops n None names apart = refl
  drops n (Some v) names apart = filter-insert_by route_before route_chain (λ e. not (is_named n e)) v (routes_left names routes) (ap not (apart v refl)) (left_in_order names routes order)

  pub rewrites : (d : Difference) → KeepsFromDropped d routes → insert_some route_before d.made (without_some d.dropped (routes_after d.changed routes)) ≡ rewritten (dropped_by d) (written_by d routes) routes
  rewrites d apart = by d.changed d.dropped d.made apart
    where
      made : (m : Option RouteRow) (ys : List RouteRow) → insert_some route_before m ys ≡ insert_all route_before (cons_option m []) ys
      made None ys = refl
      made (Some e) ys = refl

      both : (w m : Option RouteRow) (ys : List RouteRow) → insert_some route_before m (insert_some route_before w ys) ≡ insert_all route_before (cons_option w (cons_option m [])) ys
      both None m ys = made m ys
      both (Some v) m ys = made m (insert_by route_before v ys)

      all : routes ≡ routes_left [] routes
      all = sym (others-none name_of routes)

      by : (c : Option RouteChange) (n : Option Name) (m : Option RouteRow) → KeepsFromDropped (rerouting c n m) routes
          → insert_some route_before m (without_some n (routes_after c routes)) ≡ rewritten (dropped_by (rerouting c n m)) (written_by (rerouting c n m) routes) routes
      by None None m apart = ap (insert_some route_before m) all ∙ made m (routes_left [] routes)
      by None (Some n) m apart = ap (insert_some route_before m) (without_one n routes) ∙ made m (routes_left (n ∷ []) routes)
      by (Some c) None m apart = ap (insert_some route_before m) (changes c (changed_route routes c) refl) ∙ both (changed_route routes c) m (routes_left (c.route ∷ []) routes)
      by (Some c) (Some n) m apart =
          ap (λ l. insert_some route_before m (without n l)) (changes c (changed_route routes c) refl)
          ∙ ap (insert_some route_before m) (drops n (changed_route routes c) (c.route ∷ []) (λ v is. apart v n is refl) ∙ ap (insert_some route_before (changed_route routes c)) (two_left c.route n routes))
          ∙ both (changed_route routes c) m (routes_left (c.route ∷ n ∷ []) routes)

pub difference_rewrites : DifferenceRewrites
difference_rewrites d i s apart = rewrites i.routes (routes_in_order i s) d apart

-- A difference that changes routes alone changes nothing else.
pub reroutes : (c : Option RouteChange) (n : Option Name) (m : Option RouteRow) (i : Image) → IsSound i → KeepsFromDropped (rerouting c n m) i.routes
    → with_difference (rerouting c n m) i ≡ with_routes (rewritten (dropped_by (rerouting c n m)) (written_by (rerouting c n m) i.routes) i.routes) i
reroutes c n m i s apart = λ j. record (with_routes (difference_rewrites (rerouting c n m) i s apart j) i) { entered = append-nil i.entered j; gone = append-nil i.gone j }
