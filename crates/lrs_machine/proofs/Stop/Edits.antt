-- What a command makes of the list of edits, and what it is when it is sent again.
use Rattle.std.proofs.Common.{◌≡◌, ℕ, ◌+◌, ◌<◌, ◌≤◌, suc, zero, ◌⊎◌, inl, inr, Bool, true, false, cond, List, [], ◌∷◌, ◌++◌, length, Option, Some, None, Ok, Err, refl, sym, ap, subst, ◌∙◌, arith, length-append}
use Rattle.std.specs.Prelude.{Result, IfOk, nat_eq, nat_lt, not, slice_get, is_some, is_none, take, drop, unwrap_or, ◌||◌, ◌&&◌}
use Rattle.std.specs.List.{position, position_or_len, count_by, list_any}
use Rattle.std.specs.Option.{option_map_or, option_and_then, ok_or}
use Rattle.std.specs.Cmp.Lexicographic.{bytes_decides}
use Rattle.std.proofs.lemmas.Bool.Decides.{nat_tests}
use Rattle.std.proofs.lemmas.List.Folds.{position_or_len_push}
use Rattle.std.proofs.lemmas.List.Sums.{sum_by-cons, sum_by_push, prefix_len-le-length}
use Rattle.lrs_measure.specs.Texts.{Name, same_name}
use Rattle.lrs_measure.specs.Lists.{is_nothing}
use Rattle.lrs_measure.specs.Limits.{most_marks}
use Rattle.lrs_element.specs.Course.{course_of, is_too_long}
use Rattle.lrs_element.specs.Marks.{is_inner_mark, joined_marks, is_out_of_range}
use Rattle.lrs_position.specs.Locations.{Alignment}
use Rattle.lrs_events.specs.declared.side.Side.TheVariants.{B}
use Rattle.lrs_events.specs.Places.{places_on}
use Rattle.lrs_machine.specs.Segments.{is_exclusive}
use Rattle.lrs_machine.specs.declared.answer.Answer.TheVariants.{Done, Again, Refused}
use Rattle.lrs_machine.specs.declared.answer.Cause.{Cause}
use Rattle.lrs_machine.specs.declared.answer.Cause.TheVariants as cause
use Rattle.lrs_machine.specs.declared.answer.Limits.{Limits}
use Rattle.lrs_machine.specs.declared.command.Command.{Command}
use Rattle.lrs_machine.specs.declared.command.Command.TheVariants as verb
use Rattle.lrs_machine.specs.Lines.{line_of}
use Rattle.lrs_machine.specs.Register.{contains_key}
use Rattle.lrs_machine.specs.State.{State, Edit}
use Rattle.lrs_machine.specs.Machine.{attempt, route_named, is_wrong_kind, check_pieces, check_free, check_marks, located_chainage, kind_of_asset, part_of, located_stretch, is_empty_stretch, wanted_of, first_holder, do_join_of}
use Rattle.lrs_machine.specs.Machine.{next, check_room, accept, Outcome, outcome_of, step_by_key, answer_known, line_at, place_of_key, step, step_record, Record}
use Rattle.lrs_machine.proofs.Checks.{behind, bind, unless, unless_at}
use Rattle.lrs_machine.specs.Stop.KnownEdits.{edit_of}

-- ---- a verb leaves the edits

abbrev Leaves : State → State → Type 0
Leaves s t = t.done ≡ s.done

leaves : (n : ℕ) (command : Command) (s : State) → IfOk (attempt n command s) (Leaves s)
unfolding attempt
leaves n (verb.Link l) s = unless _ (contains_key s.links l.number) _ _ (λ _. refl)
leaves n (verb.Class c) s = unless _ (contains_key s.classes c.name) _ _ (λ _. refl)
leaves n (verb.Route name pieces marks) s =
    unless _ (contains_key s.routes name) _ _ (λ _. behind _ (check_pieces s pieces) _ (unless _ (is_too_long (course_of pieces)) _ _ (λ _. behind _ (check_free s pieces) _
    (behind _ (check_marks (length (course_of pieces)) marks) _ refl))))
leaves n (verb.Ref name route at) s =
    unless _ (is_some (s.referents name)) _ _ (λ _. bind _ (route_named s route) _ (λ a _. bind _ (located_chainage s a at) _ (λ x _. refl)))
leaves n (verb.Unref name) s = unless _ (is_none (s.referents name)) _ _ (λ _. refl)
leaves n (verb.Enter e) s =
    bind _ (wanted_of (λ kind. false) e s) _ (λ w _. unless_at _ (cond (is_exclusive w.kind) (first_holder s e.class w.places) None) _ _ (λ _. refl))
leaves n (verb.Retire asset route location) s =
    bind _ (ok_or (kind_of_asset s asset) cause.NoAsset) _ (λ kind _. bind _ (route_named s route) _ (λ a _. unless _ (is_wrong_kind kind location.to) _ _ (λ _.
    bind _ (located_stretch s a location) _ (λ stretch _. unless _ (is_empty_stretch stretch || not (list_any (s.holds asset) (places_on B (part_of a.course stretch)))) _ _ (λ _. refl)))))
leaves n (verb.Split route at name) s =
    bind _ (route_named s route) _ (λ a _. unless _ (contains_key s.routes name) _ _ (λ _. unless _ (not (is_inner_mark a.marks at)) _ _ (λ _. refl)))
leaves n (verb.Join first second) s = bind _ (route_named s first) _ (λ a _. bind _ (route_named s second) _ (λ b _. joined a b))
  where
    joined : (a b : Alignment) → IfOk (do_join_of first second a b s) (Leaves s)
    joined a b = unless (Leaves s) (same_name first second) _ _ (λ _. unless (Leaves s) (is_too_long (a.course ++ b.course) || nat_lt most_marks (length (joined_marks a.marks b.marks))) _ _ (λ _.
        unless (Leaves s) (is_out_of_range (joined_marks a.marks b.marks)) _ _ (λ _. refl)))
leaves n (verb.Renumber route name) s = bind _ (route_named s route) _ (λ a _. unless _ (contains_key s.routes name) _ _ (λ _. refl))
leaves n (verb.Recalibrate route marks) s = bind _ (route_named s route) _ (λ a _. behind _ (check_marks (length a.course) marks) _ refl)
leaves n (verb.Realign route first end pieces marks) s = bind _ (route_named s route) _ (λ a _.
    unless _ (nat_lt (length a.course) first || nat_lt (length a.course) end) _ _ (λ _. unless _ (nat_lt end first || (nat_eq first end && is_nothing (unwrap_or pieces []))) _ _ (λ _.
    behind _ (check_pieces s (unwrap_or pieces [])) _ (behind _ (check_free s (unwrap_or pieces [])) _
    (let course = take first a.course ++ course_of (unwrap_or pieces []) ++ drop end a.course in
    unless _ (is_too_long course) _ _ (λ _. unless _ (is_nothing course) _ _ (λ _. behind _ (check_marks (length course) marks) _ refl)))))))
leaves n (verb.Close route) s = bind _ (route_named s route) _ (λ a _. refl)
leaves n (verb.Supersede e) s = bind _ (wanted_of (λ kind. not (is_exclusive kind)) e s) _ (λ w _. refl)
leaves n (verb.Turn route) s = bind _ (route_named s route) _ (λ a _. refl)

-- ---- what a command can come to

pub data Outcomes (key : Name) (command : Command) (s : State) : Outcome → Type 0 where
  done : (t : State) → place_of_key key s.done ≡ None → t.done ≡ s.done → Outcomes key command s (record { answer = Done (length s.done + 1); state = accept key command t })
  known : (place : ℕ) → place_of_key key s.done ≡ Some place → Outcomes key command s (record { answer = answer_known (place + 1) (line_at place s.done) (line_of command); state = s })
  refused : (c : Cause) → Outcomes key command s (record { answer = Refused c; state = s })

pub outcomes : (limits : Limits) (key : Name) (command : Command) (s : State) → Outcomes key command s (step limits key command s)
unfolding step
outcomes limits key command s = by_place (place_of_key key s.done) refl
  where
    by_next : (r : Result State Cause) → IfOk r (Leaves s) → place_of_key key s.done ≡ None → Outcomes key command s (outcome_of key command s r)
    by_next (Ok t) h none = done t none h
    by_next (Err c) h none = refused c

    by_place : (o : Option ℕ) → place_of_key key s.done ≡ o → Outcomes key command s (step_by_key limits key command s o)
    by_place (Some place) e = known place e
    by_place None e = by_next (next limits command s) (behind _ (check_room limits command s) _ (leaves (length s.done + 1) command s)) e

-- ---- places in a list that grows

module _ {X : Type 0} (p : X → Bool) where
  abbrev pick : ℕ → ℕ → Option ℕ
  pick n len = cond (nat_lt n len) (Some n) None

  -- what was found is within
  found_within : (xs : List X) (i : ℕ) → position p xs ≡ Some i → (i < length xs) × (position_or_len p xs ≡ i)
  found_within xs i e = by (nat_lt (position_or_len p xs) (length xs)) refl e
    where
      by : (b : Bool) → nat_lt (position_or_len p xs) (length xs) ≡ b → cond b (Some (position_or_len p xs)) None ≡ Some i → (i < length xs) × (position_or_len p xs ≡ i)
      by true t e = let same : position_or_len p xs ≡ i = cc in (grind (arith, nat_tests), same)
      by false t e = absurd (cc e)

  -- ... and is found again
  pub found_still : (xs : List X) (y : X) (i : ℕ) → position p xs ≡ Some i → position p (xs ++ y ∷ []) ≡ Some i
  found_still xs y i e =
      let h = found_within xs i e in
      let apart : nat_eq (position_or_len p xs) (length xs) ≡ false = let l = h.0 in let s = h.1 in grind (arith, nat_tests) in
      let same : position_or_len p (xs ++ y ∷ []) ≡ i = position_or_len_push p xs y ∙ ap (λ b. cond b (length xs + cond (p y) 0 1) (position_or_len p xs)) apart ∙ h.1 in
      let longer = length-append xs (y ∷ []) in
      let l = h.0 in
      ap (λ n. pick n (length (xs ++ y ∷ []))) same ∙ ap (λ b. cond b (Some i) None) (let t : nat_lt i (length (xs ++ y ∷ [])) ≡ true = grind (arith, nat_tests) in t)

  -- nothing was found
  none_before : (xs : List X) → position p xs ≡ None → position_or_len p xs ≡ length xs
  none_before xs e = by (nat_lt (position_or_len p xs) (length xs)) refl e (prefix_len-le-length (λ y. not (p y)) xs)
    where
      by : (b : Bool) → nat_lt (position_or_len p xs) (length xs) ≡ b → cond b (Some (position_or_len p xs)) None ≡ None → position_or_len p xs ≤ length xs → position_or_len p xs ≡ length xs
      by true t e l = absurd (cc e)
      by false t e l = grind (arith, nat_tests)

  -- so what is inserted is found at the end
  pub found_at_end : (xs : List X) (y : X) → position p xs ≡ None → p y ≡ true → position p (xs ++ y ∷ []) ≡ Some (length xs)
  found_at_end xs y none passes =
      let before = none_before xs none in
      let all : nat_eq (position_or_len p xs) (length xs) ≡ true = grind (arith, nat_tests) in
      let same : position_or_len p (xs ++ y ∷ []) ≡ length xs =
      position_or_len_push p xs y ∙ ap (λ b. cond b (length xs + cond (p y) 0 1) (position_or_len p xs)) all ∙ ap (λ b. length xs + cond b 0 1) passes ∙ (omega arith) in
      let longer = length-append xs (y ∷ []) in
      ap (λ n. pick n (length (xs ++ y ∷ []))) same ∙ ap (λ b. cond b (Some (length xs)) None) (let t : nat_lt (length xs) (length (xs ++ y ∷ [])) ≡ true = grind (arith, nat_tests) in t)

  -- ... and where that does not pass, nothing is found still
  pub none_still : (xs : List X) (y : X) → position p xs ≡ None → p y ≡ false → position p (xs ++ y ∷ []) ≡ None
  none_still xs y none fails =
      let before = none_before xs none in
      let all : nat_eq (position_or_len p xs) (length xs) ≡ true = grind (arith, nat_tests) in
      let longer = length-append xs (y ∷ []) in
      let same : position_or_len p (xs ++ y ∷ []) ≡ length (xs ++ y ∷ []) =
      position_or_len_push p xs y ∙ ap (λ b. cond b (length xs + cond (p y) 0 1) (position_or_len p xs)) all ∙ ap (λ b. length xs + cond b 0 1) fails ∙ sym longer in
      ap (λ n. pick n (length (xs ++ y ∷ []))) same
      ∙ ap (λ b. cond b (Some (length (xs ++ y ∷ []))) None) (let f : nat_lt (length (xs ++ y ∷ [])) (length (xs ++ y ∷ [])) ≡ false = grind (arith, nat_tests) in f)

  -- and none passes
  count_none : (xs : List X) → position_or_len p xs ≡ length xs → count_by p xs ≡ 0
  count_none [] e = refl
  count_none (x ∷ xs) e = by (p x) refl (count_none xs)
    where
      by : (b : Bool) → p x ≡ b → (position_or_len p xs ≡ length xs → count_by p xs ≡ 0) → count_by p (x ∷ xs) ≡ 0
      by true h rest =
          let no_front : 0 ≡ suc (length xs) = sym (ap (λ b. cond (not b) (1 + position_or_len p xs) 0) h) ∙ e in absurd (omega (arith, no_front))
      by false h rest =
          let more : 1 + position_or_len p xs ≡ suc (length xs) = sym (ap (λ b. cond (not b) (1 + position_or_len p xs) 0) h) ∙ e in
          sum_by-cons (λ y. cond (p y) 1 0) x xs ∙ ap (λ b. cond b 1 0 + count_by p xs) h ∙ ap (λ n. 0 + n) (rest (omega (arith, more)))

  pub count_where_none : (xs : List X) → position p xs ≡ None → count_by p xs ≡ 0
  count_where_none xs e = count_none xs (none_before xs e)

  pub count_one_more : (xs : List X) (y : X) → count_by p (xs ++ y ∷ []) ≡ count_by p xs + cond (p y) 1 0
  count_one_more xs y = sum_by_push (λ x. cond (p x) 1 0) xs y

module _ {X : Type 0} where
  pub got_still : (xs ys : List X) (i : ℕ) → i < length xs → slice_get (xs ++ ys) i ≡ slice_get xs i
  got_still [] ys i h = absurd (omega (arith, h))
  got_still (x ∷ xs) ys zero h = refl
  got_still (x ∷ xs) ys (suc i) h = got_still xs ys i (omega (arith, h))

  pub got_at_end : (xs : List X) (y : X) → slice_get (xs ++ y ∷ []) (length xs) ≡ Some y
  got_at_end [] y = refl
  got_at_end (x ∷ xs) y = got_at_end xs y

-- ---- a command that is kept as an edit

pub record IsEdit (r : Record) (n : ℕ) (s : State) : Type 0 where
  pub place : ℕ
  pub at : place_of_key r.key s.done ≡ Some place
  pub number : n ≡ place + 1
  pub line : same_name (line_at place s.done) (line_of r.command) ≡ true

abbrev entry_of : Record → Edit
entry_of r = record { key = r.key; line = line_of r.command }

-- ... which is what the definition finds
pub found_as : (r : Record) (n : ℕ) (s : State) → IsEdit r n s → edit_of s r ≡ Some n
found_as r n s h =
    ap (option_and_then (λ place. cond (same_name (line_at place s.done) (line_of r.command)) (Some (place + 1)) None)) h.at
    ∙ ap (λ b. cond b (Some (h.place + 1)) None) h.line
    ∙ ap Some (sym h.number)

pub is_found : (r : Record) (n : ℕ) (s : State) → edit_of s r ≡ Some n → IsEdit r n s
is_found r n s e = by_place (place_of_key r.key s.done) refl e
  where
    by_line : (place : ℕ) → place_of_key r.key s.done ≡ Some place → (b : Bool) → same_name (line_at place s.done) (line_of r.command) ≡ b → cond b (Some (place + 1)) None ≡ Some n → IsEdit r n s
    by_line place at true line f = record { place = place; at = at; number = cc; line = line }
    by_line place at false line f = absurd (cc f)

    by_place : (o : Option ℕ) → place_of_key r.key s.done ≡ o → option_and_then (λ place. cond (same_name (line_at place s.done) (line_of r.command)) (Some (place + 1)) None) o ≡ Some n → IsEdit r n s
    by_place None at f = absurd (cc f)
    by_place (Some place) at f = by_line place at (same_name (line_at place s.done) (line_of r.command)) refl f

-- where the key is of no edit, nothing is found
pub not_found : (r : Record) (s : State) → place_of_key r.key s.done ≡ None → edit_of s r ≡ None
not_found r s none = ap (option_and_then (λ place. cond (same_name (line_at place s.done) (line_of r.command)) (Some (place + 1)) None)) none

-- sent again, it is answered again
pub again : (limits : Limits) (r : Record) (n : ℕ) (s : State) → IsEdit r n s → step_record limits r s ≡ record { answer = Again n; state = s }
unfolding step
again limits r n s h =
    ap (step_by_key limits r.key r.command s) h.at
    ∙ ap (λ b. let o : Outcome = record { answer = cond b (Again (h.place + 1)) (Refused (cause.KeyUsed (h.place + 1))); state = s } in o) h.line
    ∙ ap (λ n. let o : Outcome = record { answer = Again n; state = s } in o) (sym h.number)

-- with one edit more it still is the edit that it was
edit_still : (r : Record) (n : ℕ) (s t : State) (e : Edit) → t.done ≡ s.done ++ e ∷ [] → IsEdit r n s → IsEdit r n t
edit_still r n s t e more h = record {
  place = h.place;
  at = ap (place_of_key r.key) more ∙ found_still (λ (d : Edit). same_name d.key r.key) s.done e h.place h.at;
  number = h.number;
  line =
      ap (λ (done : List Edit). same_name (line_at h.place done) (line_of r.command)) more
      ∙ ap (λ (o : Option Edit). same_name (option_map_or (λ d. d.line) o []) (line_of r.command)) (got_still s.done (e ∷ []) h.place (found_within (λ (d : Edit). same_name d.key r.key) s.done h.place h.at).0)
      ∙ h.line;
}

same_text : (a : Name) → same_name a a ≡ true
same_text a = (bytes_decides a a).1 refl

-- a command that is done is the edit that comes
pub edit_now : (r : Record) (s t : State) → place_of_key r.key s.done ≡ None → t.done ≡ s.done → IsEdit r (length s.done + 1) (accept r.key r.command t)
edit_now r s t none same = record {
  place = length s.done;
  at = ap (λ (done : List Edit). place_of_key r.key (done ++ entry_of r ∷ [])) same ∙ found_at_end (λ (d : Edit). same_name d.key r.key) s.done (entry_of r) none (same_text r.key);
  number = refl;
  line =
      ap (λ (done : List Edit). same_name (line_at (length s.done) (done ++ entry_of r ∷ [])) (line_of r.command)) same
      ∙ ap (λ (o : Option Edit). same_name (option_map_or (λ d. d.line) o []) (line_of r.command)) (got_at_end s.done (entry_of r))
      ∙ same_text (line_of r.command);
}

-- ... and stays it, whatever comes
pub edit_stays : (limits : Limits) (r q : Record) (n : ℕ) (s : State) → IsEdit r n s → IsEdit r n (step_record limits q s).state
edit_stays limits r q n s h = by (step_record limits q s) (outcomes limits q.key q.command s)
  where
    by : (o : Outcome) → Outcomes q.key q.command s o → IsEdit r n o.state
    by _ (done t none same) = edit_still r n s (accept q.key q.command t) (entry_of q) (ap (λ (d : List Edit). d ++ entry_of q ∷ []) same) h
    by _ (known place at) = h
    by _ (refused c) = h

-- a command that is answered again was that edit
pub was_edit : (limits : Limits) (r : Record) (n : ℕ) (s : State) → (step_record limits r s).answer ≡ Again n → IsEdit r n s
was_edit limits r n s h = by (step_record limits r s) (outcomes limits r.key r.command s) h
  where
    answered : (place : ℕ) → place_of_key r.key s.done ≡ Some place → (b : Bool) → same_name (line_at place s.done) (line_of r.command) ≡ b
        → cond b (Again (place + 1)) (Refused (cause.KeyUsed (place + 1))) ≡ Again n → IsEdit r n s
    answered place at true line e = record { place = place; at = at; number = cc; line = line }
    answered place at false line e = absurd (cc e)

    by : (o : Outcome) → Outcomes r.key r.command s o → o.answer ≡ Again n → IsEdit r n s
    by _ (done t none same) e = absurd (cc e)
    by _ (known place at) e = answered place at (same_name (line_at place s.done) (line_of r.command)) refl e
    by _ (refused c) e = absurd (cc e)

-- a command that is answered as an edit is that edit
pub edit_answered : (limits : Limits) (r : Record) (n : ℕ) (s : State) → ((step_record limits r s).answer ≡ Done n) ⊎ ((step_record limits r s).answer ≡ Again n) → IsEdit r n (step_record limits r s).state
edit_answered limits r n s h = by (step_record limits r s) (outcomes limits r.key r.command s) h
  where
    numbered : (m : ℕ) (t : State) → n ≡ m → IsEdit r m t → IsEdit r n t
    numbered m t e = subst (λ k. IsEdit r k t) (sym e)

    answered : (place : ℕ) → place_of_key r.key s.done ≡ Some place → (b : Bool) → same_name (line_at place s.done) (line_of r.command) ≡ b
        → (cond b (Again (place + 1)) (Refused (cause.KeyUsed (place + 1))) ≡ Done n) ⊎ (cond b (Again (place + 1)) (Refused (cause.KeyUsed (place + 1))) ≡ Again n) → IsEdit r n s
    answered place at true line (inl e) = absurd (cc e)
    answered place at true line (inr e) = record { place = place; at = at; number = cc; line = line }
    answered place at false line (inl e) = absurd (cc e)
    answered place at false line (inr e) = absurd (cc e)

    by : (o : Outcome) → Outcomes r.key r.command s o → (o.answer ≡ Done n) ⊎ (o.answer ≡ Again n) → IsEdit r n o.state
    by _ (done t none same) (inl e) = numbered (length s.done + 1) (accept r.key r.command t) (cc) (edit_now r s t none same)
    by _ (done t none same) (inr e) = absurd (cc e)
    by _ (known place at) e = answered place at (same_name (line_at place s.done) (line_of r.command)) refl e
    by _ (refused c) (inl e) = absurd (cc e)
    by _ (refused c) (inr e) = absurd (cc e)
