-- Every step keeps a lawful state lawful, and so does every list of commands.
use Rattle.std.proofs.Common.{◌≡◌, ℕ, ◌+◌, ◌≤◌, Bool, true, false, List, [], ◌∷◌, ◌++◌, length, Option, Some, None, Ok, Err, refl, sym, ap, subst, ◌∙◌, ⊎_elim, le_trans, arith}
use Rattle.std.specs.Prelude.{Result, IfOk, ◌&&◌, ◌||◌, not, nat_eq, is_some, is_none, if◌then◌else◌, nat_lt, unwrap_or, take, drop}
use Rattle.std.specs.List.{list_any}
use Rattle.std.specs.Option.{option_map, option_map_or, ok_or}
use Rattle.std.proofs.lemmas.Bool.{false≢true, both_ways, and_parts, and_from, or_parts, not-true}
use Rattle.std.proofs.lemmas.List.{length_push}
use Rattle.std.proofs.lemmas.Cmp.{nat_list_cmp_total, nat_list_eq_equiv}
use Rattle.std.proofs.lemmas.Map.Lookups.{exact_unsigned, exact_bytes}
use Rattle.std.specs.Ordering.{nat_cmp}
use Rattle.lrs_measure.specs.Texts.{Name, same_name, name_cmp}
use Rattle.lrs_measure.specs.Lists.{is_nothing}
use Rattle.lrs_measure.specs.Limits.{most_marks}
use Rattle.lrs_element.specs.Course.{Millimetre, course_of, is_too_long}
use Rattle.lrs_element.specs.Marks.{is_inner_mark, joined_marks, is_out_of_range}
use Rattle.lrs_position.specs.Locations.{Alignment}
use Rattle.lrs_events.specs.declared.class.Kind.{Kind}
use Rattle.lrs_events.specs.declared.class.Kind.TheVariants.{Exclusive}
use Rattle.lrs_events.specs.Places.{Place, is_among, places_on}
use Rattle.lrs_events.specs.declared.side.Side.TheVariants.{B}
use Rattle.lrs_machine.specs.Segments.{is_exclusive}
use Rattle.lrs_machine.specs.declared.answer.Cause.{Cause}
use Rattle.lrs_machine.specs.declared.answer.Cause.TheVariants as cause
use Rattle.lrs_machine.specs.declared.answer.Limits.{Limits}
use Rattle.lrs_machine.specs.declared.command.NewAsset.{NewAsset}
use Rattle.lrs_machine.specs.declared.command.Command.{Command}
use Rattle.lrs_machine.specs.declared.command.Command.TheVariants as verb
use Rattle.lrs_machine.specs.Register.{Register, get, insert, contains_key, entries}
use Rattle.lrs_machine.specs.State.{State, Asset, Edit, Reason, Retired, Abandoned, nothing_known}
use Rattle.lrs_machine.specs.Machine.{route_named, is_wrong_kind, check_pieces, check_free, check_marks, located_chainage, kind_of_asset, part_of, belongs_to}
use Rattle.lrs_machine.specs.Machine.{located_stretch, is_empty_stretch, Wanted, wanted_of, first_holder, is_of_class, take_away, enter_asset, do_enter, do_supersede, do_join_of, attempt}
use Rattle.lrs_machine.specs.Machine.{next, check_room, accept, outcome_of, step_by_key, place_of_key, step, step_record, Record, state_after}
use Rattle.lrs_machine.specs.Laws.{IsBalanced, IsGrounded, IsLawful, StepKeepsLaws, RunsAreLawful}
use Rattle.lrs_machine.proofs.Checks.{behind, bind, bind_known, unless, unless_at, given}
use Rattle.lrs_machine.proofs.Registers.{got_after, known_after, known_if_some, fails_where_none}
use Rattle.lrs_machine.proofs.Grounded.{attempt_grounded}
use Rattle.lrs_machine.proofs.Ledgers.{Fits, fits_away, IsClear, fits_entering, among_passes, place_beside}

-- The next state is lawful with edit n as the last that its ledgers name, and keeps the list of edits.
record Follows (n : ℕ) (s t : State) : Type 0 where
  pub fits : Fits n t
  pub done : t.done ≡ s.done

-- beside what is held, entered and gone, nothing is of matter to the balance
balanced_beside : (s : State) (links : Register nat_cmp ℕ) (classes : Register name_cmp Kind) (assets : Register nat_cmp Asset) (routes : Register name_cmp Alignment)
    (referents : Name → Option Millimetre) (done : List Edit) → IsBalanced s
    → IsBalanced (record s { links = links; classes = classes; assets = assets; routes = routes; referents = referents; done = done })
balanced_beside s links classes assets routes referents done h = record {
  entered_once = h.entered_once;
  gone_once = h.gone_once;
  gone_entered = h.gone_entered;
  held_entered = h.held_entered;
  held_or_gone = h.held_or_gone;
  held_not_gone = h.held_not_gone;
}

-- links, routes and referents are of no matter to the laws
beside_assets : (n : ℕ) (s : State) (links : Register nat_cmp ℕ) (routes : Register name_cmp Alignment) (referents : Name → Option Millimetre) → Fits n s
    → Fits n (record s { links = links; routes = routes; referents = referents })
beside_assets n s links routes referents h = record {
  balanced = balanced_beside s _ _ _ _ _ _ h.balanced;
  exclusive = h.exclusive;
  asset_known = h.asset_known;
  class_known = h.class_known;
  entered_done = h.entered_done;
  gone_done = h.gone_done;
  by_entry = h.by_entry;
  was_entered = h.was_entered;
}

-- A new class: no asset is of it yet.
new_class : (n : ℕ) (s : State) (name : Name) (kind : Kind) → contains_key s.classes name ≡ false → Fits n s → Fits n (record s { classes = insert s.classes name kind })
new_class n s name kind unknown h = record {
  balanced = balanced_beside s _ _ _ _ _ _ h.balanced;
  exclusive = λ a b x y p gx gy same is ha hb. ⊎_elim (λ new. absurd (both_ways _ unknown (subst (λ c. contains_key s.classes c ≡ true) new.0 (h.class_known a x gx))))
      (λ old. h.exclusive a b x y p gx gy same old ha hb) (got_after nat_list_cmp_total exact_bytes s.classes name x.class kind Exclusive is);
  asset_known = h.asset_known;
  class_known = λ a x got. known_after nat_list_cmp_total exact_bytes s.classes name x.class kind (h.class_known a x got);
  entered_done = h.entered_done;
  gone_done = h.gone_done;
  by_entry = h.by_entry;
  was_entered = h.was_entered;
}

same_class : (a b : Name) → a ≡ b → same_name a b ≡ true
same_class a b is = subst (λ c. same_name a c ≡ true) is (nat_list_eq_equiv.refl a)

-- what an entry's checks leave: the asset is new, its class known, and some place is asked for
record Asked (s : State) (e : NewAsset) (test : Kind → Bool) (w : Wanted) : Type 0 where
  pub new : contains_key s.assets e.asset ≡ false
  pub kind : get s.classes e.class ≡ Some w.kind
  pub passes : test w.kind ≡ false
  pub some : (p : Place) × (is_among w.places p ≡ true)

asked : (test : Kind → Bool) (e : NewAsset) (s : State) → IfOk (wanted_of test e s) (Asked s e test)
asked test e s =
    unless _ (contains_key s.assets e.asset) _ _ (λ new. bind _ (ok_or (get s.classes e.class) cause.NoClass) _ (λ kind is. bind _ (route_named s e.route) _ (λ a _.
    unless _ (is_wrong_kind kind e.location.to || test kind) _ _ (λ right. bind _ (located_stretch s a e.location) _ (λ stretch _. unless _ (is_nothing (part_of a.course stretch)) _ _ (λ some.
    record { new = new; kind = given _ _ kind is; passes = (or_parts (is_wrong_kind kind e.location.to) (test kind) right).1; some = place_beside e.side _ some }))))))

module _ (n : ℕ) (s : State) (low : 1 ≤ n) (h : Fits n s) where
  abbrev Goes : State → Type 0
  Goes = Follows n s

  -- an asset is entered where no other of its class stands in the way
  entered : (e : NewAsset) (places : List Place) (t : State) → Fits n t → t.done ≡ s.done → contains_key t.assets e.asset ≡ false → contains_key t.classes e.class ≡ true
      → IsClear n e.asset (record { class = e.class; value = e.value; lateral = e.offset; entered_by = n }) places t → (p : Place) × (is_among places p ≡ true) → Goes (enter_asset n e places t)
  entered e places t fits same new class clear some = record { fits = fits_entering n e.asset _ places t fits new clear low class refl some; done = same }

  -- where nothing of the class was found to hold the places, nothing stands in the way
  clear_if_none : (e : NewAsset) (w : Wanted) → get s.classes e.class ≡ Some w.kind → (if is_exclusive w.kind then first_holder s e.class w.places else None) ≡ None
      → IsClear n e.asset (record { class = e.class; value = e.value; lateral = e.offset; entered_by = n }) w.places s
  clear_if_none e w kind none b y p got same exclusive held among = both_ways (same_name y.class e.class && list_any (s.holds b) w.places) fails passes
    where
      is : w.kind ≡ Exclusive
      is = let both : Some w.kind ≡ Some Exclusive = sym kind ∙ exclusive in cc

      nothing : (o : Option (ℕ × Asset)) → option_map (λ a. a.0) o ≡ None → o ≡ None
      nothing None e = refl
      nothing (Some a) e = absurd (cc)

      fails : (same_name y.class e.class && list_any (s.holds b) w.places) ≡ false
      fails = fails_where_none exact_unsigned (λ (a : ℕ × Asset). same_name a.1.class e.class && list_any (s.holds a.0) w.places) (entries s.assets) b y
          (nothing _ (subst (λ k. (if is_exclusive k then first_holder s e.class w.places else None) ≡ None) is none)) got

      passes : (same_name y.class e.class && list_any (s.holds b) w.places) ≡ true
      passes = and_from _ _ (same_class y.class e.class same) (among_passes (s.holds b) w.places p among held)

  do_enter_fits : (e : NewAsset) → IfOk (do_enter n e s) Goes
  do_enter_fits e = bind_known _ (Asked s e (λ kind. false)) (wanted_of (λ kind. false) e s) _ (asked (λ kind. false) e s) (λ w is.
      unless_at _ (if is_exclusive w.kind then first_holder s e.class w.places else None) _ _ (λ none.
      entered e w.places s h refl is.new (known_if_some _ _ is.kind) (clear_if_none e w is.kind none) is.some))

  do_supersede_fits : (e : NewAsset) → IfOk (do_supersede n e s) Goes
  do_supersede_fits e = let other : Kind → Bool = λ kind. not (is_exclusive kind) in bind_known _ (Asked s e other) (wanted_of other e s) _ (asked other e s) (λ w is.
      let taken : ℕ → Place → Bool = λ a p. is_of_class s e.class a && is_among w.places p in
      entered e w.places (take_away n Retired taken s) (fits_away n Retired taken s low h) refl is.new (known_if_some _ _ is.kind) (λ b y p got same exclusive held among.
      both_ways (taken b p) (not-true (taken b p) (and_parts (s.holds b p) (not (taken b p)) held).1)
      (and_from _ _ (ap (λ o. option_map_or (λ (a : Asset). same_name a.class e.class) o false) got ∙ same_class y.class e.class same) among)) is.some)

  -- a change of links, routes or referents
  only_beside : (links : Register nat_cmp ℕ) (routes : Register name_cmp Alignment) (referents : Name → Option Millimetre)
      → Goes (record s { links = links; routes = routes; referents = referents })
  only_beside links routes referents = record { fits = beside_assets n s links routes referents h; done = refl }

  -- held pairs go, and with them routes and referents
  away : (reason : Reason) (taken : ℕ → Place → Bool) (routes : Register name_cmp Alignment) (referents : Name → Option Millimetre)
      → Goes (record (take_away n reason taken s) { routes = routes; referents = referents })
  away reason taken routes referents = record { fits = beside_assets n (take_away n reason taken s) s.links routes referents (fits_away n reason taken s low h); done = refl }

  attempt_fits : (command : Command) → IfOk (attempt n command s) Goes
  unfolding attempt
  attempt_fits (verb.Link l) = unless _ (contains_key s.links l.number) _ _ (λ _. only_beside _ s.routes s.referents)
  attempt_fits (verb.Class c) = unless _ (contains_key s.classes c.name) _ _ (λ unknown. record { fits = new_class n s c.name c.kind unknown h; done = refl })
  attempt_fits (verb.Route name pieces marks) =
      unless _ (contains_key s.routes name) _ _ (λ _. behind _ (check_pieces s pieces) _ (unless _ (is_too_long (course_of pieces)) _ _ (λ _. behind _ (check_free s pieces) _
      (behind _ (check_marks (length (course_of pieces)) marks) _ (only_beside s.links _ s.referents)))))
  attempt_fits (verb.Ref name route at) =
      unless _ (is_some (s.referents name)) _ _ (λ _. bind _ (route_named s route) _ (λ a _. bind _ (located_chainage s a at) _ (λ x _. only_beside s.links s.routes _)))
  attempt_fits (verb.Unref name) = unless _ (is_none (s.referents name)) _ _ (λ _. only_beside s.links s.routes _)
  attempt_fits (verb.Enter e) = do_enter_fits e
  attempt_fits (verb.Retire asset route location) =
      bind _ (ok_or (kind_of_asset s asset) cause.NoAsset) _ (λ kind _. bind _ (route_named s route) _ (λ a _. unless _ (is_wrong_kind kind location.to) _ _ (λ _.
      bind _ (located_stretch s a location) _ (λ stretch _. unless _ (is_empty_stretch stretch || not (list_any (s.holds asset) (places_on B (part_of a.course stretch)))) _ _ (λ _.
      away Retired (belongs_to asset (part_of a.course stretch)) s.routes s.referents)))))
  attempt_fits (verb.Split route at name) =
      bind _ (route_named s route) _ (λ a _. unless _ (contains_key s.routes name) _ _ (λ _. unless _ (not (is_inner_mark a.marks at)) _ _ (λ _. only_beside s.links _ s.referents)))
  attempt_fits (verb.Join first second) = bind _ (route_named s first) _ (λ a _. bind _ (route_named s second) _ (λ b _. join_fits a b))
    where
      join_fits : (a b : Alignment) → IfOk (do_join_of first second a b s) Goes
      join_fits a b = unless _ (same_name first second) _ _ (λ _. unless _ (is_too_long (a.course ++ b.course) || nat_lt most_marks (length (joined_marks a.marks b.marks))) _ _ (λ _.
          unless _ (is_out_of_range (joined_marks a.marks b.marks)) _ _ (λ _. only_beside s.links _ s.referents)))
  attempt_fits (verb.Renumber route name) = bind _ (route_named s route) _ (λ a _. unless _ (contains_key s.routes name) _ _ (λ _. only_beside s.links _ s.referents))
  attempt_fits (verb.Recalibrate route marks) = bind _ (route_named s route) _ (λ a _. behind _ (check_marks (length a.course) marks) _ (only_beside s.links _ s.referents))
  attempt_fits (verb.Realign route first end pieces marks) = bind _ (route_named s route) _ (λ a _.
      unless _ (nat_lt (length a.course) first || nat_lt (length a.course) end) _ _ (λ _. unless _ (nat_lt end first || (nat_eq first end && is_nothing (unwrap_or pieces []))) _ _ (λ _.
      behind _ (check_pieces s (unwrap_or pieces [])) _ (behind _ (check_free s (unwrap_or pieces [])) _
      (let course = take first a.course ++ course_of (unwrap_or pieces []) ++ drop end a.course in
      unless _ (is_too_long course) _ _ (λ _. unless _ (is_nothing course) _ _ (λ _. behind _ (check_marks (length course) marks) _ (away Abandoned _ _ _))))))))
  attempt_fits (verb.Close route) = bind _ (route_named s route) _ (λ a _. away Abandoned _ _ _)
  attempt_fits (verb.Supersede e) = do_supersede_fits e
  attempt_fits (verb.Turn route) = bind _ (route_named s route) _ (λ a _. only_beside s.links _ s.referents)

-- a lawful state may name one edit more
fits_next : (s : State) → IsLawful s → Fits (length s.done + 1) s
fits_next s h = record {
  balanced = h.balanced;
  exclusive = h.exclusive;
  asset_known = h.named.asset_known;
  class_known = h.named.class_known;
  entered_done = λ m a p e. let is = h.named.entered_done m a p e in (is.0, le_trans is.1 (omega arith));
  gone_done = λ m a why p g. let is = h.named.gone_done m a why p g in (is.0, le_trans is.1 (omega arith));
  by_entry = h.named.by_entry;
  was_entered = h.named.was_entered;
}

-- and is lawful again when that edit is kept, whatever it says
kept_lawful : (s t : State) (done : List Edit) → Follows (length s.done + 1) s t → IsGrounded t → length done ≡ length s.done + 1 → IsLawful (record t { done = done })
kept_lawful s t done h ground one_more = record {
  balanced = balanced_beside t _ _ _ _ _ _ h.fits.balanced;
  exclusive = h.fits.exclusive;
  named = record {
    asset_known = h.fits.asset_known;
    class_known = h.fits.class_known;
    entered_done = λ m a p e. within m (h.fits.entered_done m a p e);
    gone_done = λ m a why p g. within m (h.fits.gone_done m a why p g);
    by_entry = h.fits.by_entry;
    was_entered = h.fits.was_entered;
  };
  grounded = record { courses = ground.courses; places = ground.places; links = ground.links; assets = ground.assets };
}
  where
    within : (m : ℕ) → (1 ≤ m) × (m ≤ length s.done + 1) → (1 ≤ m) × (m ≤ length done)
    within m is = (is.0, subst (λ k. m ≤ k) (sym one_more) is.1)

accept_lawful : (key : Name) (command : Command) (s t : State) → Follows (length s.done + 1) s t → IsGrounded t → IsLawful (accept key command t)
accept_lawful key command s t h ground = kept_lawful s t (accept key command t).done h ground (length_push t.done _ ∙ ap (λ (done : List Edit). length done + 1) h.done)

outcome_lawful : (key : Name) (command : Command) (s : State) (r : Result State Cause) → IsLawful s → IfOk r (Follows (length s.done + 1) s) → IfOk r IsGrounded
    → IsLawful (outcome_of key command s r).state
outcome_lawful key command s (Ok t) h is ground = accept_lawful key command s t is ground
outcome_lawful key command s (Err c) h is ground = h

by_place : (limits : Limits) (key : Name) (command : Command) (s : State) (o : Option ℕ) → IsLawful s → IsLawful (step_by_key limits key command s o).state
by_place limits key command s (Some place) h = h
by_place limits key command s None h =
    outcome_lawful key command s (next limits command s) h (behind _ (check_room limits command s) _ (attempt_fits (length s.done + 1) s (omega arith) (fits_next s h) command))
    (behind _ (check_room limits command s) _ (attempt_grounded s h.grounded (length s.done + 1) command))

-- What a command makes of a lawful state is lawful, with one more edit.
pub made_lawful : (command : Command) (s t : State) (done : List Edit) → IsLawful s → attempt (length s.done + 1) command s ≡ Ok t → length done ≡ length s.done + 1
    → IsLawful (record t { done = done })
made_lawful command s t done h is one_more =
    let fits = subst (λ r. IfOk r (Follows (length s.done + 1) s)) is (attempt_fits (length s.done + 1) s (omega arith) (fits_next s h) command) in
    let ground = subst (λ r. IfOk r IsGrounded) is (attempt_grounded s h.grounded (length s.done + 1) command) in
    kept_lawful s t done fits ground one_more

pub every_step_keeps_the_laws : StepKeepsLaws
unfolding step
every_step_keeps_the_laws limits key command s h = by_place limits key command s (place_of_key key s.done) h

-- Where nothing is known, nothing is held, entered or gone.
nothing_lawful : IsLawful nothing_known
nothing_lawful = record {
  balanced = record {
    entered_once = λ m n a p e f. absurd (false≢true e);
    gone_once = λ m n a why because p g j. absurd (false≢true g);
    gone_entered = λ n a why p g. absurd (false≢true g);
    held_entered = λ a p held. absurd (false≢true held);
    held_or_gone = λ m a p e. absurd (false≢true e);
    held_not_gone = λ n a why p held g. false≢true g;
  };
  exclusive = λ a b x y p gx gy same is ha hb. absurd (false≢true ha);
  named = record {
    asset_known = λ m a p e. absurd (false≢true e);
    class_known = λ a x got. absurd (false≢true (known_if_some None x got));
    entered_done = λ m a p e. absurd (false≢true e);
    gone_done = λ m a why p g. absurd (false≢true g);
    by_entry = λ m a x p got e. absurd (false≢true e);
    was_entered = λ a x got. absurd (false≢true (known_if_some None x got));
  };
  grounded = record { courses = refl; places = λ m a p e. absurd (false≢true e); links = refl; assets = refl };
}

run_lawful : (limits : Limits) (rs : List Record) (s : State) → IsLawful s → IsLawful (state_after limits rs s)
run_lawful limits [] s h = h
run_lawful limits (r ∷ rs) s h = run_lawful limits rs (step_record limits r s).state (every_step_keeps_the_laws limits r.key r.command s h)

pub every_run_is_lawful : RunsAreLawful
every_run_is_lawful limits rs = run_lawful limits rs nothing_known nothing_lawful
