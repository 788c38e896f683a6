-- The state of an image with routes dropped and written that say the same of the ground.
use Rattle.std.proofs.Common.{◌≡◌, Bool, true, false, cond, ◌⊎◌, inl, inr, List, [], ◌∷◌, map, Option, Some, None, refl, sym, ap, subst, ◌∙◌}
use Rattle.std.specs.Prelude.{not, ◌||◌}
use Rattle.std.specs.Option.{option_map}
use Rattle.std.specs.List.{list_any, list_all, flat_map, filter_map, cons_option}
use Rattle.std.specs.FinMap.{find}
use Rattle.std.specs.Ordering.{eq_by_cmp, is_eq}
use Rattle.std.specs.Cmp.{tied_itself}
use Rattle.std.specs.Cmp.Lexicographic.{nat_list_cmp_total, texts_ties}
use Rattle.std.proofs.lemmas.Bool.{not-true, and_parts, and_from, cases_Bool}
use Rattle.std.proofs.lemmas.Map.Lookups.{exact_bytes}
use Rattle.lrs_measure.specs.Lists.{In, each_two}
use Rattle.lrs_measure.specs.Texts.{Name, name_cmp, same_name}
use Rattle.lrs_measure.proofs.Members.{all_at, all_of, In-flat_map, flat_map_found, In-filter, filter-In}
use Rattle.lrs_measure.proofs.Insertions.{In-insert_all, insert_all-In}
use Rattle.lrs_measure.proofs.EachTwo.{two_front, two_rear, joined, across_of}
use Rattle.lrs_element.specs.declared.link.Ground.{Ground}
use Rattle.lrs_element.specs.Course.{Millimetre, ground_at}
use Rattle.lrs_position.specs.declared.route.Referent.{Referent}
use Rattle.lrs_events.proofs.Row.Changing.{any_insert_all}
use Rattle.lrs_machine.specs.declared.image.RouteRow.{RouteRow}
use Rattle.lrs_machine.specs.declared.image.Image.{Image}
use Rattle.lrs_machine.specs.Image.{state_of, holds_on, referents_on, referent_entry, route_entry}
use Rattle.lrs_machine.specs.Sound.{route_before, IsSound}
use Rattle.lrs_machine.proofs.Finding.{find_found}
use Rattle.lrs_image_laws.specs.Rewrites.{routes_named, routes_left, rewritten, with_routes, AreFit}
use Rattle.lrs_image_laws.specs.SameGround.{SayTheSame, RewritingKeepsState}
use Rattle.lrs_image_laws.proofs.Listed.{any-parted}
use Rattle.lrs_image_laws.proofs.Naming.{same_either}
use Rattle.lrs_image_laws.proofs.Rewriting.{are_unlike, refs_at, old_unlike, new_unlike}

-- ---- rows of names

-- rows of two names
abbrev are_other : {X : Type 0} → Name × X → Name × X → Bool
are_other a b = not (same_name a.0 b.0)

module _ {X : Type 0} where
  value_of : (a b : X) → Some a ≡ Some b → a ≡ b
  value_of a b h = cc

  member_found : (name : Name) (v : X) (rows : List (Name × X)) → each_two are_other rows ≡ true → In (name, v) rows → find name_cmp name rows ≡ Some v
  member_found name v [] h m = absurd m
  member_found name v (r ∷ rs) h (inl e) =
      ap (λ b. cond b (Some r.1) (find name_cmp name rs)) (ap (λ w. eq_by_cmp name_cmp name w.0) (sym e) ∙ ap is_eq (tied_itself nat_list_cmp_total name)) ∙ ap (λ w. Some w.1) (sym e)
  member_found name v (r ∷ rs) h (inr m) =
      let both = and_parts (list_all (are_other r) rs) (each_two are_other rs) h in
      let apart = not-true (same_name r.0 name) (all_at (are_other r) (name, v) rs both.0 m) in
      ap (λ b. cond b (Some r.1) (find name_cmp name rs)) (sym (texts_ties name r.0) ∙ same_either name r.0 ∙ apart)
      ∙ member_found name v rs both.1 m

  -- Rows with the same members, each name once, are found alike.
  pub found_alike : (xs ys : List (Name × X)) → each_two are_other xs ≡ true → each_two are_other ys ≡ true → ((e : Name × X) → In e xs → In e ys) → ((e : Name × X) → In e ys → In e xs) → (name : Name)
      → find name_cmp name xs ≡ find name_cmp name ys
  found_alike xs ys hx hy to back name = by (find name_cmp name xs) (find name_cmp name ys) refl refl
    where
      by : (a b : Option X) → find name_cmp name xs ≡ a → find name_cmp name ys ≡ b → find name_cmp name xs ≡ find name_cmp name ys
      by (Some v) b ea eb = ea ∙ sym (member_found name v ys hy (to (name, v) (find_found exact_bytes name v xs ea)))
      by None (Some v) ea eb = member_found name v xs hx (back (name, v) (find_found exact_bytes name v ys eb)) ∙ sym eb
      by None None ea eb = ea ∙ sym eb

module _ {X Y : Type 0} (f : X → Option Y) where
  -- what is in a list of what is made of some comes from one of them
  pub option_found : (y : Y) (xs : List X) → In y (filter_map f xs) → (x : X) × In x xs × (f x ≡ Some y)
  option_found y [] m = absurd m
  option_found y (x ∷ xs) m = by (f x) refl m (option_found y xs)
    where
      by : (o : Option Y) → f x ≡ o → In y (cons_option o (filter_map f xs)) → (In y (filter_map f xs) → (z : X) × In z xs × (f z ≡ Some y)) → (z : X) × In z (x ∷ xs) × (f z ≡ Some y)
      by None e k rest = let r = rest k in (r.0, inr r.1, r.2)
      by (Some w) e (inl s) rest = (x, inl refl, e ∙ ap Some (sym s))
      by (Some w) e (inr k) rest = let r = rest k in (r.0, inr r.1, r.2)

  pub found_option : (x : X) (y : Y) (xs : List X) → In x xs → f x ≡ Some y → In y (filter_map f xs)
  found_option x y [] m h = absurd m
  found_option x y (z ∷ zs) (inl e) h = subst (λ o. In y (cons_option o (filter_map f zs))) (sym (ap f (sym e) ∙ h)) (inl refl)
  found_option x y (z ∷ zs) (inr m) h = add (f z) (found_option x y zs m h)
    where
      add : (o : Option Y) → In y (filter_map f zs) → In y (cons_option o (filter_map f zs))
      add None k = k
      add (Some w) k = inr k

-- ---- referents and their names

name_is : (q : Referent) (o : Option Millimetre) (e : Name × Millimetre) → ◌≡◌ {A = Option (Name × Millimetre)} (option_map (λ m. (q.name, m)) o) (Some e) → e.0 ≡ q.name
name_is q None e h = absurd (cc h)
name_is q (Some m) e h = sym (ap (λ (w : Name × Millimetre). w.0) (value_of (q.name, m) e h))

-- a row of the referents on a course has the name of one of them
pub named_of : (c : List Ground) (refs : List Referent) (e : Name × Millimetre) → In e (filter_map (referent_entry c) refs) → (q : Referent) × In q refs × (e.0 ≡ q.name)
named_of c refs e m = let k = option_found (referent_entry c) e refs m in (k.0, k.1, name_is k.0 (ground_at c k.0.at) e k.2)

apart_names : (q r : Referent) (u v : Name × Millimetre) → are_unlike q r ≡ true → u.0 ≡ q.name → v.0 ≡ r.name → are_other u v ≡ true
apart_names q r u v h e f = (λ j. not (same_name (e j) (f j))) ∙ h

once_on : (c : List Ground) (refs : List Referent) → each_two are_unlike refs ≡ true → each_two are_other (filter_map (referent_entry c) refs) ≡ true
once_on c [] h = refl
once_on c (q ∷ qs) h = by (referent_entry c q) refl (once_on c qs both.1)
  where
    both : (list_all (are_unlike q) qs ≡ true) × (each_two are_unlike qs ≡ true)
    both = and_parts (list_all (are_unlike q) qs) (each_two are_unlike qs) h

    by : (o : Option (Name × Millimetre)) → referent_entry c q ≡ o → each_two are_other (filter_map (referent_entry c) qs) ≡ true → each_two are_other (cons_option o (filter_map (referent_entry c) qs)) ≡ true
    by None e rest = rest
    by (Some w) e rest =
        and_from (list_all (are_other w) (filter_map (referent_entry c) qs)) (each_two are_other (filter_map (referent_entry c) qs))
        (all_of (are_other w) (filter_map (referent_entry c) qs) (λ v m. let r = named_of c qs v m in apart_names q r.0 w v (all_at (are_unlike q) r.0 qs both.0 r.1) (name_is q (ground_at c q.at) w e) r.2)) rest

pub named_once : (routes : List RouteRow) → each_two are_unlike (flat_map refs_at routes) ≡ true → each_two are_other (flat_map referents_on routes) ≡ true
named_once [] h = refl
named_once (y ∷ ys) h =
    joined are_other (referents_on y) (flat_map referents_on ys) (once_on y.route.course y.route.refs (two_front are_unlike (refs_at y) (flat_map refs_at ys) h))
    (named_once ys (two_rear are_unlike (refs_at y) (flat_map refs_at ys) h))
    (λ u v m n.
    let q = named_of y.route.course y.route.refs u m in
    let z = flat_map_found referents_on v ys n in
    let r = named_of z.0.route.course z.0.route.refs v z.2 in
    apart_names q.0 r.0 u v (across_of are_unlike (refs_at y) (flat_map refs_at ys) h q.0 r.0 q.1 (In-flat_map refs_at z.0 r.0 ys z.1 r.1)) q.2 r.2)

-- ---- the state

-- What is told of some route that goes just where it is told of some that comes, is told of some route before just where it is after.
pub told_alike : (told : RouteRow → Bool) (dropped : List Name) (written routes : List RouteRow) → list_any told written ≡ list_any told (routes_named dropped routes)
    → list_any told (rewritten dropped written routes) ≡ list_any told routes
told_alike told dropped written routes h =
    any_insert_all told route_before written (routes_left dropped routes) ∙ turned (list_any told (routes_left dropped routes)) (list_any told written)
    ∙ ap (λ b. b || list_any told (routes_left dropped routes)) h
    ∙ sym (any-parted told (λ e. list_any (same_name e.route.name) dropped) routes)
  where
    turned : (a b : Bool) → (a || b) ≡ (b || a)
    turned true true = refl
    turned true false = refl
    turned false true = refl
    turned false false = refl

module _ (i : Image) (dropped : List Name) (written : List RouteRow) (s : IsSound i) (fit : AreFit i dropped written) (same : SayTheSame dropped written i.routes) where
  abbrev goes : RouteRow → Bool
  goes e = list_any (same_name e.route.name) dropped

  abbrev kept : List RouteRow
  kept = routes_left dropped i.routes

  abbrev routes : List RouteRow
  routes = rewritten dropped written i.routes

  to : (q : Name × Millimetre) → In q (flat_map referents_on routes) → In q (flat_map referents_on i.routes)
  to q m = let r = flat_map_found referents_on q routes m in by r.0 (In-insert_all route_before r.0 written kept r.1) r.2
    where
      old : (r : RouteRow) → In r i.routes → In q (referents_on r) → In q (flat_map referents_on i.routes)
      old r k n = In-flat_map referents_on r q i.routes k n

      by : (r : RouteRow) → In r written ⊎ In r kept → In q (referents_on r) → In q (flat_map referents_on i.routes)
      by r (inl k) n =
          let d = flat_map_found referents_on q (routes_named dropped i.routes) (same.to q (In-flat_map referents_on r q written k n)) in
          old d.0 (In-filter goes d.0 i.routes d.1).0 d.2
      by r (inr k) n = old r (In-filter (λ e. not (goes e)) r i.routes k).0 n

  back : (q : Name × Millimetre) → In q (flat_map referents_on i.routes) → In q (flat_map referents_on routes)
  back q m = let r = flat_map_found referents_on q i.routes m in by r.0 (cases_Bool (goes r.0)) r.1 r.2
    where
      new : (r : RouteRow) → In r written ⊎ In r kept → In q (referents_on r) → In q (flat_map referents_on routes)
      new r k n = In-flat_map referents_on r q routes (insert_all-In route_before r written kept k) n

      by : (r : RouteRow) → (goes r ≡ true) ⊎ (goes r ≡ false) → In r i.routes → In q (referents_on r) → In q (flat_map referents_on routes)
      by r (inl h) k n =
          let w = flat_map_found referents_on q written (same.back q (In-flat_map referents_on r q (routes_named dropped i.routes) (filter-In goes r i.routes k h) n)) in
          new w.0 (inl w.1) w.2
      by r (inr h) k n = new r (inr (filter-In (λ e. not (goes e)) r i.routes k (ap not h))) n

  found : (name : Name) → find name_cmp name (flat_map referents_on routes) ≡ find name_cmp name (flat_map referents_on i.routes)
  found name = found_alike (flat_map referents_on routes) (flat_map referents_on i.routes) (named_once routes (new_unlike i dropped written s fit)) (named_once i.routes (old_unlike i s)) to back name

  pub keeps_state : state_of (with_routes routes i) ≡ record (state_of i) { routes = record { rows = map route_entry routes } }
  unfolding state_of
  keeps_state = λ j. record (state_of i) {
    routes = record { rows = map route_entry routes };
    referents = λ name. found name j;
    holds = λ a p. told_alike (λ e. holds_on e a p) dropped written i.routes (same.holds a p) j;
  }

pub rewriting_keeps_state : RewritingKeepsState
rewriting_keeps_state i dropped written s fit same = keeps_state i dropped written s fit same
