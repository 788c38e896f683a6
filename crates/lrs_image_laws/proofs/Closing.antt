-- A close.
use Rattle.std.proofs.Common.{◌≡◌, ℕ, ◌+◌, ◌≤◌, Bool, true, false, inl, inr, List, [], ◌∷◌, map, length, Ok, refl, sym, ap, subst, ◌∙◌, arith}
use Rattle.std.proofs.Math.Bool.{or-false}
use Rattle.std.specs.Prelude.{◌&&◌, not}
use Rattle.std.specs.Option.{ok_or}
use Rattle.std.specs.List.{list_any, flat_map}
use Rattle.std.proofs.lemmas.Bool.{false≢true, both_ways, or_left}
use Rattle.lrs_measure.specs.Texts.{Name, same_name}
use Rattle.lrs_element.specs.declared.link.Ground.{Ground}
use Rattle.lrs_element.specs.Course.{Millimetre, runs_over}
use Rattle.lrs_position.specs.Locations.{Alignment}
use Rattle.lrs_events.specs.declared.part.Gone.{Gone}
use Rattle.lrs_events.specs.Places.{Place, lies_on}
use Rattle.lrs_events.specs.Spans.{holds_by_spans}
use Rattle.lrs_machine.specs.declared.answer.Cause.TheVariants as cause
use Rattle.lrs_machine.specs.declared.command.Command.TheVariants as verb
use Rattle.lrs_machine.specs.declared.image.RouteRow.{RouteRow}
use Rattle.lrs_machine.specs.declared.image.Image.{Image}
use Rattle.lrs_measure.specs.Limits.{most_routes}
use Rattle.lrs_measure.specs.Lists.{In}
use Rattle.lrs_measure.proofs.Members.{flat_map_found}
use Rattle.lrs_machine.specs.Image.{state_of, holds_on, referents_on, route_entry}
use Rattle.lrs_machine.specs.Machine.{attempt, ◌>>=◌, abandon, drop_route}
use Rattle.lrs_machine.specs.Sound.{IsSound}
use Rattle.lrs_machine.specs.State.{State, Abandoned}
use Rattle.lrs_image_laws.specs.CommandChanges.{Makes}
use Rattle.lrs_image.proofs.Tables.{routes_in_order}
use Rattle.lrs_image_laws.specs.GoneRows.{AreGone}
use Rattle.lrs_image_laws.specs.Rewrites.{routes_named, routes_left, AreFit}
use Rattle.lrs_image_laws.proofs.Listed.{length-parted}
use Rattle.lrs_image_laws.proofs.Naming.{only_one, removed, route_found}
use Rattle.lrs_image_laws.proofs.Rewriting.{old_few}
use Rattle.lrs_image_laws.specs.Closures.{with_left, is_held_on, LeaveGround, CloseMakes}
use Rattle.lrs_image_laws.proofs.Leaving.{held_lies, stands_on, leaving_makes_state, leaving_is_orderly}

-- Where nothing is written all fits.
pub nothing_fits : (i : Image) (dropped : List Name) → AreFit i dropped []
nothing_fits i dropped = record {
  fresh = λ w e k l h. absurd k;
  names = refl;
  linked = λ w k. absurd k;
  once = λ w k. absurd k;
  apart = refl;
  ground = λ w g k l. absurd k;
  referents = λ w q k l. absurd k;
  referents_once = refl;
  spans = λ w k. absurd k;
}

module _ (i : Image) (r : RouteRow) (gone : List Gone) (s : IsSound i) (m : In r i.routes) (led : AreGone (length i.edits + 1) Abandoned (holds_by_spans r.route.course r.spans) gone) where
  abbrev dropped : List Name
  dropped = r.route.name ∷ []

  abbrev n : ℕ
  n = length i.edits + 1

  abbrev course : List Ground
  course = r.route.course

  ours : routes_named dropped i.routes ≡ r ∷ []
  ours = only_one r i.routes (routes_in_order i s) m

  fit : AreFit i dropped []
  fit = nothing_fits i dropped

  both_hold : (h l : Bool) → (h ≡ true → l ≡ true) → ((h && not l) ≡ false) × (h ≡ (h && l))
  both_hold true true w = (refl, refl)
  both_hold true false w = absurd (false≢true (w refl))
  both_hold false l w = (refl, refl)

  holder : (a : ℕ) (p : Place) → is_held_on (routes_named dropped i.routes) a p ≡ holds_on r a p
  holder a p = ap (λ routes. is_held_on routes a p) ours ∙ or-false (holds_on r a p)

  leave : LeaveGround course (holds_by_spans course r.spans) dropped [] i.routes
  leave = record {
    holds = λ a p. sym (ap (λ b. b && not (lies_on course p)) (holder a p) ∙ (both_hold (holds_on r a p) (lies_on course p) (held_lies r a p)).0);
    to = λ q k. absurd k;
    back = λ q k f. let w = flat_map_found referents_on q (r ∷ []) (subst (λ l. In q (flat_map referents_on l)) ours k) in absurd (both_ways (runs_over course q.1) f (its q w.0 w.1 w.2));
    theirs = λ x on. ap (list_any (λ (e : RouteRow). runs_over e.route.course x)) ours ∙ or_left (runs_over course x) false on;
    goes = λ a p. (both_hold (holds_on r a p) (lies_on course p) (held_lies r a p)).1 ∙ ap (λ b. b && lies_on course p) (sym (holder a p));
  }
    where
      its : (q : Name × Millimetre) (w : RouteRow) → In w (r ∷ []) → In q (referents_on w) → runs_over course q.1 ≡ true
      its q w (inl e) k = stands_on r q (subst (λ w. In q (referents_on w)) e k)
      its q w (inr e) k = absurd e

  abbrev result : State
  result = drop_route r.route.name (abandon n course (state_of i))

  state_rows : result ≡ record (abandon n course (state_of i)) { routes = record { rows = map route_entry (routes_left dropped i.routes) } }
  unfolding state_of
  state_rows = λ j. record (abandon n course (state_of i)) { routes = record { rows = removed r.route.name i.routes j } }

  attempts : attempt n (verb.Close r.route.name) (state_of i) ≡ Ok result
  unfolding attempt state_of
  attempts = λ j. ok_or (route_found r i.routes (routes_in_order i s) m j) cause.NoRoute >>= (λ (a : Alignment). Ok (drop_route r.route.name (abandon n a.course (state_of i))))

  few : 0 + length (routes_left dropped i.routes) ≤ most_routes
  few =
      let a = length-parted (λ (e : RouteRow). list_any (same_name e.route.name) dropped) i.routes in
      let b = old_few i s in
      omega (arith, a, b)

  -- the state after, and where referents then stand
  pub same_state : state_of (with_left dropped [] gone i) ≡ record (abandon n course (state_of i)) { routes = record { rows = map route_entry (routes_left dropped i.routes) } }
  same_state = leaving_makes_state i dropped [] gone course (holds_by_spans course r.spans) s fit led leave

  pub makes : Makes (verb.Close r.route.name) i (with_left dropped [] gone i)
  makes = record {
    state = attempts ∙ ap Ok (state_rows ∙ sym same_state);
    edits = refl;
    orderly = λ room. leaving_is_orderly i dropped [] Abandoned (holds_by_spans course r.spans) gone s fit led few;
  }

pub close_makes : CloseMakes
close_makes i r gone s m led = makes i r gone s m led
