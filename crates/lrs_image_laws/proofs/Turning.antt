-- A turn.
use Rattle.std.proofs.Common.{◌≡◌, ℕ, ◌+◌, ◌-◌, ◌<◌, true, [], ◌∷◌, map, length, Ok, refl, sym, ap, subst, ◌∙◌, arith}
use Rattle.std.specs.Prelude.{◌&&◌, not, nat_lt, is_none}
use Rattle.std.specs.Option.{ok_or}
use Rattle.std.specs.List.{list_all, filter_map}
use Rattle.std.specs.Cmp.Lexicographic.{bytes_decides}
use Rattle.std.proofs.lemmas.Bool.{and_parts, and_from, ltb-true, lt-ltb}
use Rattle.std.proofs.lemmas.List.Folds.{list_all-map}
use Rattle.lrs_measure.specs.Lists.{In, each_two, is_nothing}
use Rattle.lrs_measure.specs.Texts.{name_cmp, same_name}
use Rattle.lrs_measure.proofs.Members.{any_of, all_at, all_of, map_found}
use Rattle.lrs_element.specs.Course.{runs_over, turned, is_too_long}
use Rattle.lrs_element.specs.Marks.{bad_mark, mirrored}
use Rattle.lrs_element.proofs.Expanding.{length-turned}
use Rattle.lrs_element.proofs.Lining.{IsLine-mirrored, mirrored_is, none_from_IsLine}
use Rattle.lrs_position.specs.declared.route.Referent.{Referent}
use Rattle.lrs_position.specs.Locations.{Alignment}
use Rattle.lrs_position.specs.Routes.{is_route_course, have_marks, are_referents, referent_before}
use Rattle.lrs_events.specs.Members.{is_member}
use Rattle.lrs_events.specs.Places.{differs, other_side}
use Rattle.lrs_events.specs.Spans.{are_rows, holds_by_spans}
use Rattle.lrs_machine.specs.declared.answer.Cause.TheVariants as cause
use Rattle.lrs_machine.specs.declared.command.Command.TheVariants as verb
use Rattle.lrs_machine.specs.declared.image.RouteRow.{RouteRow}
use Rattle.lrs_machine.specs.declared.image.Image.{Image}
use Rattle.lrs_machine.specs.Register.{put}
use Rattle.lrs_machine.specs.State.{State}
use Rattle.lrs_machine.specs.Image.{state_of, referent_entry, route_entry}
use Rattle.lrs_machine.specs.Machine.{attempt, ◌>>=◌, set_route}
use Rattle.lrs_machine.specs.Sound.{is_on_a_link, is_span, IsSound}
use Rattle.lrs_machine.proofs.Pairs.{each_two-map}
use Rattle.lrs_image_laws.specs.CommandChanges.{Makes}
use Rattle.lrs_image.proofs.Tables.{routes_in_order}
use Rattle.lrs_image_sound.proofs.Fitting.{fits}
use Rattle.lrs_image_laws.specs.Rewrites.{rewritten, with_routes}
use Rattle.lrs_image_laws.specs.Turns.{from_end, IsTurnedRoute, TurnMakes, TurnedIsRoute, TurnedHasRows}
use Rattle.lrs_image_laws.proofs.Alike.{IsAlike, named_ours, put_there, makes}
use Rattle.lrs_image_laws.proofs.Halved.{some, its_parts, its_line, side_at, its_end, found, filled_in, is_theirs}
use Rattle.lrs_image_laws.proofs.Naming.{route_found}
use Rattle.lrs_image_laws.proofs.Rewriting.{its_course}
use Rattle.lrs_image_laws.proofs.Splitting.{has_ground}
use Rattle.lrs_image_laws.proofs.Turned.{runs_turned, once_turned, all_turned, all_stand, turned_rows_hold}

-- ---- what the turn makes

module _ (i : Image) (r w : RouteRow) (s : IsSound i) (is : IsTurnedRoute i r w) where
  on_course : list_all (λ (q : Referent). nat_lt q.at (length r.route.course)) r.route.refs ≡ true
  on_course = (and_parts (each_two referent_before r.route.refs) (list_all (λ (q : Referent). nat_lt q.at (length r.route.course)) r.route.refs) (fits r).2).1

  pub alike : IsAlike i r w
  alike = record {
    linked = ap (list_all (is_on_a_link i.links)) is.course ∙ all_turned (is_on_a_link i.links) r.route.course (λ g. refl) (its_course i s r is.route).0;
    once = ap (each_two differs) is.course ∙ once_turned r.route.course (its_course i s r is.route).1;
    runs = λ at. ap (λ c. runs_over c at) is.course ∙ runs_turned r.route.course at;
    names = λ q l.
        let x = map_found (from_end (length r.route.course)) q r.route.refs (subst (In q) is.refs l) in
        any_of (λ (z : Referent). same_name z.name q.name) x.0 r.route.refs x.1 ((bytes_decides x.0.name q.name).1 (sym (ap (λ (z : Referent). z.name) x.2)));
    stands = (λ j. filter_map (referent_entry (is.course j)) (is.refs j)) ∙ all_stand r.route.course r.route.refs on_course;
    spans = is.spans;
    holds = λ a p. ap (λ c. holds_by_spans c w.spans a p) is.course ∙ turned_rows_hold r.route.course r.spans w.spans is.turned a p;
  }

  abbrev outcome : State
  outcome = set_route r.route.name (turned r.route.course) (mirrored r.route.marks) (state_of i)

  state_put : outcome ≡ record (state_of i) { routes = record { rows = map route_entry (rewritten (r.route.name ∷ []) (w ∷ []) i.routes) } }
  unfolding state_of
  state_put = λ j. record (state_of i) { routes = record { rows = rows_are j } }
    where
      rows_are : outcome.routes.rows ≡ map route_entry (rewritten (r.route.name ∷ []) (w ∷ []) i.routes)
      rows_are = sym (λ j. put name_cmp r.route.name (let x : Alignment = record { course = is.course j; marks = is.marks j } in x) (map route_entry i.routes)) ∙ put_there i r w s is.name

  tried : attempt (length i.edits + 1) (verb.Turn r.route.name) (state_of i) ≡ Ok outcome
  unfolding attempt state_of
  tried = λ j. ok_or (route_found r i.routes (routes_in_order i s) is.route j) cause.NoRoute >>= (λ (a : Alignment). Ok (set_route r.route.name (turned a.course) (mirrored a.marks) (state_of i)))

  turns : Makes (verb.Turn r.route.name) i (with_routes (rewritten (r.route.name ∷ []) (w ∷ []) i.routes) i)
  turns = makes i r w s is.route alike (named_ours i r w s is.name) (verb.Turn r.route.name) outcome tried state_put

pub turn_makes : TurnMakes
turn_makes i r w s is = turns i r w s is

-- ---- it is a route

pub turned_is_route : TurnedIsRoute
turned_is_route r short =
    and_from (is_route_course (turned r.course) && have_marks (turned r.course) (mirrored r.marks)) (are_referents (length (turned r.course)) (map (from_end len) r.refs))
    (and_from (is_route_course (turned r.course)) (have_marks (turned r.course) (mirrored r.marks))
    (and_from (not (is_nothing (turned r.course))) (not (is_too_long (turned r.course))) (some (turned r.course) filled) (ap not short))
    (ap (λ n. is_none (bad_mark n (mirrored r.marks))) (length-turned r.course)
    ∙ ap (λ l. is_none (bad_mark len l)) (mirrored_is len r.marks (its_line r)) ∙ ap is_none (none_from_IsLine len _ (IsLine-mirrored len r.marks (its_line r)))))
    (ap (λ n. are_referents n (map (from_end len) r.refs)) (length-turned r.course)
    ∙ and_from (each_two referent_before (map (from_end len) r.refs)) (list_all (λ (q : Referent). nat_lt q.at len) (map (from_end len) r.refs))
    (each_two-map referent_before (from_end len) r.refs ∙ refs.0)
    (list_all-map (λ (q : Referent). nat_lt q.at len) (from_end len) r.refs
    ∙ all_of (λ (q : Referent). nat_lt (len - 1 - q.at) len) r.refs (λ q m. let on = ltb-true q.at len (all_at (λ (q : Referent). nat_lt q.at len) q r.refs refs.1 m) in lt-ltb (len - 1 - q.at) len (omega (arith, on)))))
  where
    len : ℕ
    len = length r.course

    refs : (each_two referent_before r.refs ≡ true) × (list_all (λ (q : Referent). nat_lt q.at len) r.refs ≡ true)
    refs = and_parts (each_two referent_before r.refs) (list_all (λ (q : Referent). nat_lt q.at len) r.refs) (its_parts r).2

    filled : 0 < length (turned r.course)
    filled = let a = has_ground r.course (and_parts (not (is_nothing r.course)) (not (is_too_long r.course)) (its_parts r).0).0 in let e = length-turned r.course in omega (arith, a, e)

-- ---- its rows

pub turned_has_rows : TurnedHasRows
turned_has_rows assets course rows new canonical is spans = and_from (are_rows new) (list_all (is_span assets (length (turned course))) new) canonical
    (all_of (is_span assets (length (turned course))) new (λ q m.
    let filled = filled_in new canonical q m in
    let s = (side_at q.side).0 in
    let both = and_parts (nat_lt (q.to - 1) (length course)) (is_member rows q.class q.asset (length course - 1 - (q.to - 1)) (other_side s)) (sym (is q.class q.asset (q.to - 1) s) ∙ its_end q new m filled) in
    let r = found q rows (length course - 1 - (q.to - 1)) (other_side s) both.1 in
    let low = ltb-true (q.to - 1) (length course) both.0 in
    let e = length-turned course in
    is_theirs assets course rows spans q r.0 (length course - 1 - (q.to - 1)) (length (turned course)) r.1 r.2 (λ h. omega (arith, low, e))))
