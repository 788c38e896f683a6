-- Other marks, or another name.
use Rattle.std.proofs.Common.{◌≡◌, ℕ, ◌+◌, true, false, List, [], ◌∷◌, map, length, Option, Some, None, Ok, refl, sym, ap, subst, ◌∙◌}
use Rattle.std.specs.Prelude.{◌||◌, not, is_some, is_none}
use Rattle.std.specs.Option.{ok_or}
use Rattle.std.specs.List.{list_any, list_all, filter_map}
use Rattle.std.proofs.lemmas.Bool.{false≢true, both_ways}
use Rattle.std.specs.Cmp.Lexicographic.{bytes_decides}
use Rattle.lrs_measure.specs.Lists.{In, each_two}
use Rattle.lrs_measure.specs.OrderedLists.{insert_by}
use Rattle.lrs_measure.specs.Texts.{name_cmp, same_name}
use Rattle.lrs_measure.proofs.Members.{any_of, all_at, all_of, In-filter}
use Rattle.lrs_element.specs.Course.{runs_over}
use Rattle.lrs_element.specs.Marks.{bad_mark}
use Rattle.lrs_position.specs.declared.route.Referent.{Referent}
use Rattle.lrs_position.specs.Locations.{Alignment}
use Rattle.lrs_events.specs.Places.{differs}
use Rattle.lrs_events.specs.Spans.{holds_by_spans}
use Rattle.lrs_machine.specs.declared.answer.Cause.TheVariants as cause
use Rattle.lrs_machine.specs.declared.command.Command.TheVariants as verb
use Rattle.lrs_machine.specs.declared.image.RouteRow.{RouteRow}
use Rattle.lrs_machine.specs.declared.image.Image.{Image}
use Rattle.lrs_machine.specs.Register.{put}
use Rattle.lrs_machine.specs.State.{State}
use Rattle.lrs_machine.specs.Image.{state_of, referent_entry, route_entry}
use Rattle.lrs_machine.specs.Machine.{attempt, refuse_if, refuse_at, check_marks, ◌>>=◌, ◌>>◌, set_route, drop_route}
use Rattle.lrs_machine.specs.Sound.{is_on_a_link, are_spans_of, route_before, IsSound}
use Rattle.lrs_image_laws.specs.CommandChanges.{Makes}
use Rattle.lrs_image_sound.proofs.Fitting.{fits}
use Rattle.lrs_image.specs.Change.{is_named}
use Rattle.lrs_image.proofs.PutBack.{none_goes}
use Rattle.lrs_image.proofs.Tables.{routes_in_order}
use Rattle.lrs_image_laws.specs.Rewrites.{routes_left, rewritten, with_routes}
use Rattle.lrs_image_laws.specs.Renames.{HasSame, RenumberMakes, RecalibrateMakes}
use Rattle.lrs_image_laws.proofs.Alike.{IsAlike, named_ours, put_there, makes}
pub use Rattle.lrs_image_laws.proofs.Alike.{own_names}
use Rattle.lrs_image_laws.proofs.InOrder.{is_false}
use Rattle.lrs_image_laws.proofs.Naming.{same_either, removed, route_found, route_none, put_rewrites, left_in_order}
use Rattle.lrs_image_laws.proofs.Rewriting.{its_course, old_spans}

-- ---- a route in the place of one with the same ground, referents and rows

module _ (i : Image) (r w : RouteRow) (s : IsSound i) (m : In r i.routes) (same : HasSame r w) where
  pub alike : IsAlike i r w
  alike = record {
    linked = ap (list_all (is_on_a_link i.links)) same.course ∙ (its_course i s r m).0;
    once = ap (each_two differs) same.course ∙ (its_course i s r m).1;
    runs = λ at. ap (λ c. runs_over c at) same.course;
    names = λ q l. any_of (λ (x : Referent). same_name x.name q.name) q r.route.refs (subst (In q) same.refs l) ((bytes_decides q.name q.name).1 refl);
    stands = λ j. filter_map (referent_entry (same.course j)) (same.refs j);
    spans = (λ j. are_spans_of i.assets (record { course = same.course j; rows = same.spans j })) ∙ all_at (λ (e : RouteRow). are_spans_of i.assets (record { course = e.route.course; rows = e.spans })) r i.routes (old_spans i s) m;
    holds = λ a p. (λ j. holds_by_spans (same.course j) (same.spans j) a p);
  }

-- ---- other marks

module _ (i : Image) (r w : RouteRow) (s : IsSound i) (m : In r i.routes) (same : HasSame r w) (name : w.route.name ≡ r.route.name) where
  abbrev outcome : State
  outcome = set_route r.route.name r.route.course w.route.marks (state_of i)

  state_put : outcome ≡ record (state_of i) { routes = record { rows = map route_entry (rewritten (r.route.name ∷ []) (w ∷ []) i.routes) } }
  unfolding state_of
  state_put = λ j. record (state_of i) { routes = record { rows = rows_are j } }
    where
      rows_are : outcome.routes.rows ≡ map route_entry (rewritten (r.route.name ∷ []) (w ∷ []) i.routes)
      rows_are = (λ j. put name_cmp r.route.name (let x : Alignment = record { course = sym same.course j; marks = w.route.marks } in x) (map route_entry i.routes)) ∙ put_there i r w s name

  no_fault : (o : Option ℕ) → is_none o ≡ true → refuse_at o cause.BadMarks ≡ Ok tt
  no_fault None h = refl
  no_fault (Some k) h = absurd (false≢true h)

  good : check_marks (length r.route.course) w.route.marks ≡ Ok tt
  good = ap (λ c. check_marks (length c) w.route.marks) (sym same.course) ∙ no_fault (bad_mark (length w.route.course) w.route.marks) (fits w).1

  tried : attempt (length i.edits + 1) (verb.Recalibrate r.route.name w.route.marks) (state_of i) ≡ Ok outcome
  unfolding attempt state_of
  tried =
      (λ j. ok_or (route_found r i.routes (routes_in_order i s) m j) cause.NoRoute >>= (λ (a : Alignment). check_marks (length a.course) w.route.marks >> Ok (set_route r.route.name a.course w.route.marks (state_of i))))
      ∙ ap (λ x. x >> Ok outcome) good

  recalibrates : Makes (verb.Recalibrate r.route.name w.route.marks) i (with_routes (rewritten (r.route.name ∷ []) (w ∷ []) i.routes) i)
  recalibrates = makes i r w s m (alike i r w s m same) (named_ours i r w s name) (verb.Recalibrate r.route.name w.route.marks) outcome tried state_put

pub recalibrate_makes : RecalibrateMakes
recalibrate_makes i r w s m same name = recalibrates i r w s m same name

-- ---- another name

module _ (i : Image) (r w : RouteRow) (s : IsSound i) (m : In r i.routes) (same : HasSame r w) (marks : w.route.marks ≡ r.route.marks) (fresh : list_any (is_named w.route.name) i.routes ≡ false) where
  none_named : (e : RouteRow) → In e i.routes → same_name w.route.name e.route.name ≡ false
  none_named e k = is_false (same_name w.route.name e.route.name) (λ h. both_ways (list_any (is_named w.route.name) i.routes) fresh (any_of (is_named w.route.name) e i.routes k (same_either e.route.name w.route.name ∙ h)))

  pub own_if_new : (e : RouteRow) → In e i.routes → same_name w.route.name e.route.name ≡ true → same_name e.route.name r.route.name ≡ true
  own_if_new e k h = absurd (both_ways (same_name w.route.name e.route.name) (none_named e k) h)

  abbrev others : List RouteRow
  others = routes_left (r.route.name ∷ []) i.routes

  abbrev result : State
  result = set_route w.route.name r.route.course r.route.marks (drop_route r.route.name (state_of i))

  -- no route of those left has the new name
  all_left : routes_left (w.route.name ∷ []) others ≡ others
  all_left = none_goes route_before (λ (e : RouteRow). list_any (same_name e.route.name) (w.route.name ∷ [])) others (all_of (λ (e : RouteRow). not (list_any (same_name e.route.name) (w.route.name ∷ []))) others (λ e k.
      ap (λ b. not (b || false)) (same_either e.route.name w.route.name ∙ none_named e (In-filter (λ (e : RouteRow). not (list_any (same_name e.route.name) (r.route.name ∷ []))) e i.routes k).0)))

  state_rows : result ≡ record (state_of i) { routes = record { rows = map route_entry (rewritten (r.route.name ∷ []) (w ∷ []) i.routes) } }
  unfolding state_of
  state_rows = λ j. record (state_of i) { routes = record { rows = rows_are j } }
    where
      rows_are : result.routes.rows ≡ map route_entry (rewritten (r.route.name ∷ []) (w ∷ []) i.routes)
      rows_are =
          ap (put name_cmp w.route.name (let x : Alignment = record { course = r.route.course; marks = r.route.marks } in x)) (removed r.route.name i.routes)
          ∙ sym (λ j. put name_cmp w.route.name (record { course = same.course j; marks = marks j }) (map route_entry others))
          ∙ put_rewrites w others (left_in_order (r.route.name ∷ []) i.routes (routes_in_order i s))
          ∙ ap (λ l. map route_entry (insert_by route_before w l)) all_left

  attempts : attempt (length i.edits + 1) (verb.Renumber r.route.name w.route.name) (state_of i) ≡ Ok result
  unfolding attempt state_of
  attempts = λ j. ok_or (route_found r i.routes (routes_in_order i s) m j) cause.NoRoute >>= (λ (a : Alignment). refuse_if (is_some (route_none w.route.name i.routes fresh j)) cause.RouteKnown
      >> Ok (set_route w.route.name a.course a.marks (drop_route r.route.name (state_of i))))

  renumbers : Makes (verb.Renumber r.route.name w.route.name) i (with_routes (rewritten (r.route.name ∷ []) (w ∷ []) i.routes) i)
  renumbers = makes i r w s m (alike i r w s m same) own_if_new (verb.Renumber r.route.name w.route.name) result attempts state_rows

pub renumber_makes : RenumberMakes
renumber_makes i r w s m same marks fresh = renumbers i r w s m same marks fresh
