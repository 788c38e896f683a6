-- A route in the place of another one that runs over the same ground, and of which the same is said there.
use Rattle.std.proofs.Common.{◌≡◌, ℕ, ◌+◌, ◌≤◌, Bool, true, false, cond, inl, inr, List, [], ◌∷◌, ◌++◌, map, length, Option, Some, None, Ok, refl, sym, ap, subst, ◌∙◌, arith}
use Rattle.std.specs.Prelude.{◌||◌, not, nat_eq}
use Rattle.std.specs.Option.{option_or, option_map}
use Rattle.std.specs.List.{list_any, list_all, flat_map}
use Rattle.std.proofs.lemmas.Bool.{and_parts, and_from, or_left, eq-eqb}
use Rattle.std.proofs.lemmas.List.{append-nil}
use Rattle.lrs_measure.specs.Lists.{In, each_two}
use Rattle.lrs_measure.specs.Texts.{Name, name_cmp, same_name}
use Rattle.lrs_element.specs.Course.{Millimetre, is_at, runs_over}
use Rattle.lrs_position.specs.declared.route.Referent.{Referent}
use Rattle.lrs_position.specs.Routes.{referent_before}
use Rattle.lrs_events.specs.Places.{Place, differs}
use Rattle.lrs_machine.specs.declared.command.Command.{Command}
use Rattle.lrs_machine.specs.declared.image.RouteRow.{RouteRow}
use Rattle.lrs_machine.specs.declared.image.Image.{Image}
use Rattle.lrs_measure.specs.Limits.{most_routes}
use Rattle.lrs_measure.proofs.Members.{any_of}
use Rattle.lrs_measure.proofs.EachTwo.{two_passing}
use Rattle.lrs_machine.specs.Register.{put}
use Rattle.lrs_machine.specs.State.{State}
use Rattle.lrs_machine.specs.Image.{state_of, holds_on, referents_on, route_entry}
use Rattle.lrs_machine.specs.Machine.{attempt}
use Rattle.lrs_machine.specs.Sound.{is_on_a_link, are_spans_of, IsSound}
use Rattle.lrs_image_laws.specs.CommandChanges.{Makes}
use Rattle.lrs_image_sound.proofs.Fitting.{fits}
use Rattle.lrs_image.proofs.Tables.{routes_in_order}
use Rattle.lrs_image_laws.specs.Rewrites.{routes_named, routes_left, rewritten, with_routes, has_referent, runs_at, IsLeft, AreFit}
use Rattle.lrs_image_laws.specs.SameGround.{SayTheSame}
use Rattle.lrs_image_laws.specs.RoutesOver.{runs_on, is_run_by}
use Rattle.lrs_image_laws.proofs.Listed.{length-parted}
use Rattle.lrs_image_laws.proofs.Naming.{same_either, earlier_name, only_one, put_rewrites}
use Rattle.lrs_image_laws.proofs.Rewriting.{are_unlike, old_few, orderly}
use Rattle.lrs_image_laws.proofs.Running.{moves_ground, runs_there}
use Rattle.lrs_image_laws.proofs.Standing.{keeps_state}

-- the referents of a route have names of their own
pub own_names : (r : RouteRow) → each_two are_unlike r.route.refs ≡ true
own_names r = two_passing referent_before are_unlike (λ a b h. ap not (earlier_name a.name b.name h)) r.route.refs (and_parts (each_two referent_before r.route.refs) _ (fits r).2).0

-- w runs over the ground of r, holds there what r held, and has its referents where r had them
pub record IsAlike (i : Image) (r w : RouteRow) : Type 0 where
  pub linked : list_all (is_on_a_link i.links) w.route.course ≡ true
  pub once : each_two differs w.route.course ≡ true
  pub runs : (m : Millimetre) → runs_over w.route.course m ≡ runs_over r.route.course m
  pub names : (q : Referent) → In q w.route.refs → has_referent q.name r ≡ true
  pub stands : referents_on w ≡ referents_on r
  pub spans : are_spans_of i.assets (record { course = w.route.course; rows = w.spans }) ≡ true
  pub holds : (a : ℕ) (p : Place) → holds_on w a p ≡ holds_on r a p

module _ (i : Image) (r w : RouteRow) (s : IsSound i) (m : In r i.routes) (alike : IsAlike i r w) (own : (e : RouteRow) → In e i.routes → same_name w.route.name e.route.name ≡ true → same_name e.route.name r.route.name ≡ true) where
  abbrev dropped : List Name
  dropped = r.route.name ∷ []

  abbrev written : List RouteRow
  written = w ∷ []

  ours : routes_named dropped i.routes ≡ r ∷ []
  ours = only_one r i.routes (routes_in_order i s) m

  only : (P : RouteRow → Type 0) → P w → (v : RouteRow) → In v written → P v
  only P a v (inl e) = subst P (sym e) a
  only P a v (inr e) = absurd e

  left : (told : RouteRow → Bool) → told r ≡ true → IsLeft told dropped i.routes
  left told h = inl (ap (list_any told) ours ∙ or_left (told r) false h)

  pub fit : AreFit i dropped written
  fit = record {
    fresh = λ v e k l h. only (λ v. same_name v.route.name e.route.name ≡ true → list_any (same_name e.route.name) dropped ≡ true) (λ h. or_left (same_name e.route.name r.route.name) false (own e l h)) v k h;
    names = refl;
    linked = only (λ v. list_all (is_on_a_link i.links) v.route.course ≡ true) alike.linked;
    once = only (λ v. each_two differs v.route.course ≡ true) alike.once;
    apart = refl;
    ground = λ v g k l. only (λ v. In g v.route.course → IsLeft (runs_at g) dropped i.routes)
        (λ l. left (runs_at g) (sym (alike.runs (g.link, g.mm)) ∙ any_of (is_at (g.link, g.mm)) g w.route.course l (and_from (nat_eq g.link g.link) (nat_eq g.mm g.mm) (eq-eqb g.link g.link refl) (eq-eqb g.mm g.mm refl)))) v k l;
    referents = λ v q k l. only (λ v. In q v.route.refs → IsLeft (has_referent q.name) dropped i.routes) (λ l. left (has_referent q.name) (alike.names q l)) v k l;
    referents_once = ap (each_two are_unlike) (append-nil w.route.refs) ∙ own_names w;
    spans = only (λ v. are_spans_of i.assets (record { course = v.route.course; rows = v.spans }) ≡ true) alike.spans;
  }

  all_on : flat_map referents_on written ≡ flat_map referents_on (routes_named dropped i.routes)
  all_on = ap (λ l. l ++ []) alike.stands ∙ ap (flat_map referents_on) (sym ours)

  says : SayTheSame dropped written i.routes
  says = record {
    holds = λ a p. ap (λ b. b || false) (alike.holds a p) ∙ ap (list_any (λ e. holds_on e a p)) (sym ours);
    to = λ q k. subst (In q) all_on k;
    back = λ q k. subst (In q) (sym all_on) k;
  }

  few : 1 + length (routes_left dropped i.routes) ≤ most_routes
  few =
      let a = length-parted (λ (e : RouteRow). list_any (same_name e.route.name) dropped) i.routes in
      let b : length (routes_named dropped i.routes) ≡ 1 = ap length ours in
      let d = old_few i s in
      omega (arith, a, b, d)

  abbrev new : Image
  new = with_routes (rewritten dropped written i.routes) i

  pub same_state : state_of new ≡ record (state_of i) { routes = record { rows = map route_entry (rewritten dropped written i.routes) } }
  same_state = keeps_state i dropped written s fit says

  -- its ground passes to its name
  pub moves : (at : Millimetre) → runs_on (rewritten dropped written i.routes) at ≡ cond (runs_over r.route.course at) (Some w.route.name) (runs_on i.routes at)
  moves at =
      moves_ground i dropped written s fit at
      ∙ (λ j. option_or (option_map (λ (e : RouteRow). e.route.name) (cond (alike.runs at j) (Some w) None)) (cond (list_any (is_run_by at) (ours j)) None (runs_on i.routes at)))
      ∙ by (runs_over r.route.course at) (runs_on i.routes at)
    where
      by : (b : Bool) (o : Option Name) → option_or (option_map (λ (e : RouteRow). e.route.name) (cond b (Some w) None)) (cond (b || false) None o) ≡ cond b (Some w.route.name) o
      by true o = refl
      by false o = refl

  -- What a command makes is this image, where it makes this route of the other.
  pub makes : (command : Command) (next : State) → attempt (length i.edits + 1) command (state_of i) ≡ Ok next → next ≡ record (state_of i) { routes = record { rows = map route_entry (rewritten dropped written i.routes) } } → Makes command i new
  makes command next does is = record {
    state = does ∙ ap Ok (is ∙ sym same_state);
    edits = refl;
    orderly = λ room. orderly i dropped written s fit few;
  }

-- ---- a route that keeps its name

module _ (i : Image) (r w : RouteRow) (s : IsSound i) (name : w.route.name ≡ r.route.name) where
  pub named_ours : (e : RouteRow) → In e i.routes → same_name w.route.name e.route.name ≡ true → same_name e.route.name r.route.name ≡ true
  named_ours e k h = same_either e.route.name r.route.name ∙ (λ j. same_name (sym name j) e.route.name) ∙ h

  pub put_there : put name_cmp r.route.name (route_entry w).1 (map route_entry i.routes) ≡ map route_entry (rewritten (r.route.name ∷ []) (w ∷ []) i.routes)
  put_there =
      sym (λ j. put name_cmp (name j) (route_entry w).1 (map route_entry i.routes))
      ∙ put_rewrites w i.routes (routes_in_order i s)
      ∙ ap (λ n. map route_entry (rewritten (n ∷ []) (w ∷ []) i.routes)) name

  -- ... runs where it ran
  pub stays : (m : In r i.routes) (alike : IsAlike i r w) (at : Millimetre) → runs_on (rewritten (r.route.name ∷ []) (w ∷ []) i.routes) at ≡ runs_on i.routes at
  stays m alike at = moves i r w s m alike named_ours at ∙ elim (runs_over r.route.course at) as (λ b. runs_over r.route.course at ≡ b → cond b (Some w.route.name) (runs_on i.routes at) ≡ runs_on i.routes at) [
    | true ↦ λ on. ap Some name ∙ sym (runs_there i r at s m on)
    | false ↦ λ off. refl
  ] refl
