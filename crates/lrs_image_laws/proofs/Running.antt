-- Which route runs over a millimetre.
use Rattle.std.proofs.Common.{◌≡◌, Bool, true, false, cond, ◌⊎◌, inl, inr, List, [], ◌∷◌, Option, Some, None, refl, sym, ap, ◌∙◌}
use Rattle.std.specs.Prelude.{◌||◌, not}
use Rattle.std.specs.List.{list_any, find}
use Rattle.std.specs.Option.{option_map, option_or}
use Rattle.std.proofs.lemmas.Bool.{both_ways, not-true, cases_Bool}
use Rattle.lrs_measure.specs.Lists.{In, each_two}
use Rattle.lrs_measure.specs.Texts.{Name, same_name}
use Rattle.lrs_measure.proofs.Members.{any_found, any_of, two_at, In-filter}
use Rattle.lrs_measure.proofs.Insertions.{insert_all-In}
use Rattle.lrs_element.specs.Course.{Millimetre, is_at, meets}
use Rattle.lrs_events.proofs.Row.Changing.{any_insert_all}
use Rattle.lrs_machine.specs.declared.image.RouteRow.{RouteRow}
use Rattle.lrs_machine.specs.declared.image.Image.{Image}
use Rattle.lrs_machine.specs.Sound.{route_before, IsSound}
use Rattle.lrs_image_laws.specs.Rewrites.{routes_named, routes_left, rewritten, AreFit}
use Rattle.lrs_image_laws.specs.RoutesOver.{runs_on, is_run_by, RewritingMovesGround}
use Rattle.lrs_image_laws.proofs.InOrder.{is_false, none_found}
use Rattle.lrs_image_laws.proofs.Apart.{at_is, meet_at}
use Rattle.lrs_image_laws.proofs.Listed.{any-parted}
use Rattle.lrs_image_laws.proofs.Rewriting.{are_far, old_far, new_far, stays_far}

-- what passes is found, where some does
found_some : {X : Type 0} (p : X → Bool) (xs : List X) → list_any p xs ≡ true → (x : X) × In x xs × (p x ≡ true) × (find p xs ≡ Some x)
found_some p [] h = absurd (cc h)
found_some p (x ∷ xs) h = by (p x) refl (found_some p xs)
  where
    by : (b : Bool) → p x ≡ b → (list_any p xs ≡ true → (y : _) × In y xs × (p y ≡ true) × (find p xs ≡ Some y)) → (y : _) × In y (x ∷ xs) × (p y ≡ true) × (find p (x ∷ xs) ≡ Some y)
    by true e rest = (x, inl refl, e, ap (λ b. cond b (Some x) (find p xs)) e)
    by false e rest = let r = rest (sym (ap (λ b. b || list_any p xs) e) ∙ h) in (r.0, inr r.1, r.2, ap (λ b. cond b (Some x) (find p xs)) e ∙ r.3)

-- The one of these routes that runs over a millimetre is found.
pub found_one : (m : Millimetre) (r : RouteRow) (routes : List RouteRow) → each_two are_far routes ≡ true → In r routes → is_run_by m r ≡ true → find (is_run_by m) routes ≡ Some r
found_one m r routes far at on =
    let z = found_some (is_run_by m) routes (any_of (is_run_by m) r routes at on) in
    z.3 ∙ ap Some (by z.0 z.2 (two_at are_far z.0 r routes far z.1 at))
  where
    meet : (a b : RouteRow) → are_far a b ≡ true → is_run_by m a ≡ true → is_run_by m b ≡ true → ⊥
    meet a b t h k = both_ways (meets a.route.course b.route.course) (not-true (meets a.route.course b.route.course) t) (meet_at a.route.course b.route.course m h k)

    by : (z : RouteRow) → is_run_by m z ≡ true → (z ≡ r) ⊎ ((are_far z r ≡ true) ⊎ (are_far r z ≡ true)) → z ≡ r
    by z h (inl e) = e
    by z h (inr (inl t)) = absurd (meet z r t h on)
    by z h (inr (inr t)) = absurd (meet r z t on h)

-- ... by its name
pub runs_there : (i : Image) (r : RouteRow) (m : Millimetre) → IsSound i → In r i.routes → is_run_by m r ≡ true → runs_on i.routes m ≡ Some r.route.name
runs_there i r m s at on = ap (option_map (λ (e : RouteRow). e.route.name)) (found_one m r i.routes (old_far i s) at on)

module _ (i : Image) (dropped : List Name) (written : List RouteRow) (s : IsSound i) (fit : AreFit i dropped written) (m : Millimetre) where
  abbrev on : RouteRow → Bool
  on = is_run_by m

  abbrev goes : List RouteRow
  goes = routes_named dropped i.routes

  abbrev kept : List RouteRow
  kept = routes_left dropped i.routes

  abbrev new : List RouteRow
  new = rewritten dropped written i.routes

  any_new : (a b : Bool) → list_any on kept ≡ a → list_any on written ≡ b → list_any on new ≡ (a || b)
  any_new a b e f = any_insert_all on route_before written kept ∙ (λ j. e j || f j)

  any_old : (a b : Bool) → list_any on goes ≡ a → list_any on kept ≡ b → list_any on i.routes ≡ (a || b)
  any_old a b e f = any-parted on (λ (e : RouteRow). list_any (same_name e.route.name) dropped) i.routes ∙ (λ j. e j || f j)

  -- a route that stays does not run where one that goes did
  alone : list_any on goes ≡ true → list_any on kept ≡ false
  alone h = is_false (list_any on kept) (λ t.
      let e = any_found on kept t in
      let g = any_found (is_at m) e.0.route.course e.2 in
      let same = at_is m g.0 g.2 in
      stays_far i dropped written s fit e.0 g.0 e.1 (ap (λ n. is_run_by n e.0) (sym same) ∙ e.2) (inl (ap (λ n. list_any (is_run_by n) goes) (sym same) ∙ h)))

  found : find on new ≡ option_or (find on written) (cond (list_any on goes) None (find on i.routes))
  found = by (cases_Bool (list_any on written)) (cases_Bool (list_any on goes)) (cases_Bool (list_any on kept))
    where
      first : Option RouteRow → Option RouteRow
      first o = option_or o (cond (list_any on goes) None (find on i.routes))

      nothing : list_any on written ≡ false → first (find on written) ≡ cond (list_any on goes) None (find on i.routes)
      nothing h = ap first (none_found on written h)

      by : (list_any on written ≡ true) ⊎ (list_any on written ≡ false) → (list_any on goes ≡ true) ⊎ (list_any on goes ≡ false) → (list_any on kept ≡ true) ⊎ (list_any on kept ≡ false) → find on new ≡ first (find on written)
      by (inl h) g k =
          let z = found_some on written h in
          found_one m z.0 new (new_far i dropped written s fit) (insert_all-In route_before z.0 written kept (inl z.1)) z.2 ∙ sym (ap first z.3)
      by (inr h) (inl g) k = none_found on new (any_new false false (alone g) h) ∙ sym (nothing h ∙ ap (λ b. cond b None (find on i.routes)) g)
      by (inr h) (inr g) (inl k) =
          let z = found_some on kept k in
          let at = In-filter (λ (e : RouteRow). not (list_any (same_name e.route.name) dropped)) z.0 i.routes z.1 in
          found_one m z.0 new (new_far i dropped written s fit) (insert_all-In route_before z.0 written kept (inr z.1)) z.2
          ∙ sym (nothing h ∙ ap (λ b. cond b None (find on i.routes)) g ∙ found_one m z.0 i.routes (old_far i s) at.0 z.2)
      by (inr h) (inr g) (inr k) =
          none_found on new (any_new false false k h)
          ∙ sym (nothing h ∙ ap (λ b. cond b None (find on i.routes)) g ∙ none_found on i.routes (any_old false false g k))

  pub moves_ground : runs_on new m ≡ option_or (runs_on written m) (cond (list_any on goes) None (runs_on i.routes m))
  moves_ground = ap (option_map (λ (e : RouteRow). e.route.name)) found ∙ by (find on written) (list_any on goes) (find on i.routes)
    where
      by : (o : Option RouteRow) (b : Bool) (p : Option RouteRow) → option_map (λ (e : RouteRow). e.route.name) (option_or o (cond b None p)) ≡ option_or (option_map (λ (e : RouteRow). e.route.name) o) (cond b None (option_map (λ (e : RouteRow). e.route.name) p))
      by (Some x) b p = refl
      by None true p = refl
      by None false p = refl

pub rewriting_moves_ground : RewritingMovesGround
rewriting_moves_ground i dropped written s fit m = moves_ground i dropped written s fit m
