-- The route that a question names, and what is asked of it.
use Rattle.std.proofs.Common.{◌≡◌, ℕ, Bool, true, false, cond, ◌⊎◌, inl, inr, List, [], ◌∷◌, map, Option, Some, None, Result, Err, refl, sym, ap, subst, ◌∙◌}
use Rattle.std.specs.Prelude.{MatchOption}
use Rattle.std.specs.Ordering.{is_eq}
use Rattle.std.specs.List as list
use Rattle.std.specs.Option.{option_map}
use Rattle.std.specs.Cmp.Lexicographic.{texts_ties, bytes_decides, nat_list_cmp_total}
use Rattle.std.specs.Cmp.{eq_by_cmp_equiv, IsTotalOrder}
use Rattle.std.specs.declared.cmp.Ordering.{Ordering}
use Rattle.std.specs.FinMap.{find}
use Rattle.std.specs.Ordering.{eq_by_cmp}
use Rattle.std.proofs.lemmas.Bool.{cases_Bool}
use Rattle.lrs_measure.specs.Texts.{Name, name_cmp}
use Rattle.lrs_measure.specs.Lists.{In}
use Rattle.lrs_position.specs.declared.location.PlaceFault.{PlaceFault}
use Rattle.lrs_position.specs.Locations.{Alignment}
use Rattle.lrs_position.specs.Translations.{alignment_of, referent_at}
use Rattle.lrs_machine.specs.declared.image.RouteRow.{RouteRow}
use Rattle.lrs_machine.specs.declared.image.Image.{Image}
use Rattle.lrs_machine.specs.State.{State}
use Rattle.lrs_machine.specs.Register.{get}
use Rattle.lrs_machine.specs.Machine.{referent_chainage}
use Rattle.lrs_machine.specs.Image.{state_of, route_entry}
use Rattle.lrs_machine.specs.Sound.{IsSound}
use Rattle.lrs_image.specs.Change.{is_named}
use Rattle.lrs_report_answers.specs.declared.fault.AskFault.{AskFault}
use Rattle.lrs_report_answers.specs.Answers.{IsRouteIn, OnRoute, AsksRoute, as_asked, route_missing}
use Rattle.lrs_image_laws.proofs.FromReferents.{referents_found}

-- ---- the route of a name

module _ {K X Row : Type 0} {R : K → K → Ordering} (total : IsTotalOrder R) (entry : Row → K × X) where
  -- The value of a key is that of the row that a search finds.
  pub values_found : (rows : List Row) (q : K) → find R q (map entry rows) ≡ option_map (λ r. (entry r).1) (list.find (λ r. is_eq (R (entry r).0 q)) rows)
  values_found [] q = refl
  values_found (r ∷ rows) q =
      ap (λ b. cond b (Some (entry r).1) (find R q (map entry rows))) ((eq_by_cmp_equiv total).symm q (entry r).0)
      ∙ elim (eq_by_cmp R (entry r).0 q) as (λ b. cond b (Some (entry r).1) (find R q (map entry rows)) ≡ option_map (λ r. (entry r).1) (cond b (Some r) (list.find (λ r. is_eq (R (entry r).0 q)) rows))) [
        | true ↦ refl
        | false ↦ values_found rows q
      ]

same_alignment : (o : Option RouteRow) → option_map (λ (e : RouteRow). alignment_of e.route) o ≡ option_map (λ (e : RouteRow). (route_entry e).1) o
same_alignment None = refl
same_alignment (Some e) = refl

-- what is found is the state's route of the name
pub route_is : (i : Image) (name : Name) (o : Option RouteRow) → o ≡ list.find (λ e. is_eq (name_cmp e.route.name name)) i.routes → option_map (λ e. alignment_of e.route) o ≡ get (state_of i).routes name
unfolding state_of
route_is i name o e = same_alignment o ∙ ap (option_map (λ (e : RouteRow). (route_entry e).1)) e ∙ sym (values_found nat_list_cmp_total route_entry i.routes name)

some_is : {X : Type 0} (a b : X) → Some a ≡ Some b → b ≡ a
some_is a b w = cc

-- what a search finds passes its test
pub found_passes : {X : Type 0} (p : X → Bool) (x : X) (xs : List X) → list.find p xs ≡ Some x → p x ≡ true
found_passes p x [] h = absurd (cc h)
found_passes p x (y ∷ ys) h = by (cases_Bool (p y)) (found_passes p x ys)
  where
    by : (p y ≡ true) ⊎ (p y ≡ false) → (list.find p ys ≡ Some x → p x ≡ true) → p x ≡ true
    by (inl e) rest = ap p (some_is y x (sym (ap (λ b. cond b (Some y) (list.find p ys)) e) ∙ h)) ∙ e
    by (inr e) rest = rest (sym (ap (λ b. cond b (Some y) (list.find p ys)) e) ∙ h)

-- ... and is one of the rows
pub found_in : {X : Type 0} (p : X → Bool) (x : X) (xs : List X) → list.find p xs ≡ Some x → In x xs
found_in p x [] h = absurd (cc h)
found_in p x (y ∷ ys) h = by (cases_Bool (p y)) (found_in p x ys)
  where
    by : (p y ≡ true) ⊎ (p y ≡ false) → (list.find p ys ≡ Some x → In x ys) → In x (y ∷ ys)
    by (inl e) rest = inl (some_is y x (sym (ap (λ b. cond b (Some y) (list.find p ys)) e) ∙ h))
    by (inr e) rest = inr (rest (sym (ap (λ b. cond b (Some y) (list.find p ys)) e) ∙ h))

pub route_in : (i : Image) (r : RouteRow) → IsRouteIn i r → In r i.routes
route_in i r h = found_in (is_named r.route.name) r i.routes h

pub found_known : (i : Image) (name : Name) (r : RouteRow) → Some r ≡ list.find (λ e. is_eq (name_cmp e.route.name name)) i.routes → IsRouteIn i r
found_known i name r h =
    let found : list.find (is_named name) i.routes ≡ Some r = sym (h ∙ (λ j. list.find (λ e. sym (texts_ties e.route.name name) j) i.routes)) in
    let its : r.route.name ≡ name = (bytes_decides r.route.name name).0 (found_passes (is_named name) r i.routes found) in
    ap (λ n. list.find (is_named n) i.routes) its ∙ found

-- ---- what is asked of it

pub no_route : {A : Type 0} (s : State) (name : Name) (Asked : Alignment → Result A AskFault → Type 0) → None ≡ get s.routes name → OnRoute s name Asked (Err route_missing)
no_route {A} s name Asked h = subst (λ (o : Option Alignment). MatchOption o (◌≡◌ {A = Result A AskFault} (Err route_missing) (Err route_missing)) (λ a. Asked a (Err route_missing))) h (λ i. Err route_missing)

pub on_route : {A : Type 0} (s : State) (name : Name) (Asked : Alignment → Result A AskFault → Type 0) (a : Alignment) (result : Result A AskFault) → Some a ≡ get s.routes name → Asked a result → OnRoute s name Asked result
on_route s name Asked a result h asked = subst (λ (o : Option Alignment). MatchOption o (result ≡ Err route_missing) (λ a. Asked a result)) h asked

-- where the referents of a route stand
pub referents_are : (i : Image) (r : RouteRow) → IsSound i → IsRouteIn i r → referent_at r.route.refs ≡ referent_chainage (state_of i) (alignment_of r.route)
referents_are i r s known = λ j name. sym (referents_found i r s (route_in i r known) name) j

pub asks : {A : Type 0} (i : Image) (name : Name) (Answers : Alignment → (Name → Option ℕ) → Result A PlaceFault → Type 0) (r : RouteRow) (answer : Result A PlaceFault) → IsSound i → IsRouteIn i r
    → Some (alignment_of r.route) ≡ get (state_of i).routes name → Answers (alignment_of r.route) (referent_at r.route.refs) answer → AsksRoute (state_of i) name Answers (as_asked answer)
asks {A} i name Answers r answer s known is h =
    on_route (state_of i) name (λ a result. (answer : Result A PlaceFault) × Answers a (referent_chainage (state_of i) a) answer × (result ≡ as_asked answer)) (alignment_of r.route) (as_asked answer) is
    (answer, subst (λ chainage_on. Answers (alignment_of r.route) chainage_on answer) (referents_are i r s known) h, refl)
