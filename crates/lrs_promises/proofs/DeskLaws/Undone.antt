-- A split and a join, and two turns, leave the state as it was.
use Rattle.std.proofs.Common.{◌≡◌, ℕ, Bool, true, false, cond, List, [], ◌∷◌, ◌++◌, take, drop, length, map, Some, Result, Ok, refl, sym, ap, subst, ◌∙◌}
use Rattle.std.specs.Prelude.{◌||◌, not, is_some, is_none, nat_lt, IfOk}
use Rattle.std.specs.Ordering.{eq_by_cmp}
use Rattle.std.specs.Option.{ok_or}
use Rattle.std.specs.Cmp.{Equal-is, tied_itself}
use Rattle.std.specs.Cmp.Lexicographic.{nat_list_cmp_total, texts_ties, bytes_decides}
use Rattle.std.specs.FinMap.{find}
use Rattle.std.proofs.lemmas.Bool.{both_ways, and_parts, not-true, not-false, false_from_ne_true, or_from, le-ltb}
use Rattle.std.proofs.lemmas.List.{take-append-drop, get_or_default}
use Rattle.std.proofs.lemmas.List.Folds.{list_any_none}
use Rattle.lrs_measure.specs.Lists.{each_two, is_nothing}
use Rattle.lrs_measure.specs.Texts.{Name, name_cmp, same_name}
use Rattle.lrs_element.specs.declared.link.Ground.{Ground}
use Rattle.lrs_element.specs.declared.marks.Mark.{Mark}
use Rattle.lrs_measure.specs.Limits.{most_marks, greatest_measure}
use Rattle.lrs_element.specs.Course.{is_too_long, turned}
use Rattle.lrs_element.specs.Marks.{no_mark, is_inner_mark, marks_to, marks_from, joined_marks, mirrored, are_marks, bad_mark, is_out_of_range}
use Rattle.lrs_element.proofs.LineLemmas.{KeepRules-from_none, ends_at}
use Rattle.lrs_element.proofs.Lining.{line_from_are_marks}
use Rattle.lrs_position.specs.Locations.{Alignment}
use Rattle.lrs_machine.specs.declared.answer.Cause.{Cause}
use Rattle.lrs_machine.specs.declared.answer.Cause.TheVariants as cause
use Rattle.lrs_machine.specs.declared.command.Command.{Command}
use Rattle.lrs_machine.specs.declared.command.Command.TheVariants as verb
use Rattle.lrs_machine.specs.declared.image.Image.{Image}
use Rattle.lrs_machine.specs.declared.image.RouteRow.{RouteRow}
use Rattle.lrs_machine.specs.Image.{state_of, route_entry}
use Rattle.lrs_machine.specs.Machine.{attempt, ◌>>=◌, ◌>>◌, refuse_if, route_named, set_route, drop_route, do_join_of}
use Rattle.lrs_machine.specs.Register.{put, get, contains_key, entries}
use Rattle.lrs_machine.specs.Sound.{IsSound}
use Rattle.lrs_machine.specs.State.{State, Edit}
use Rattle.lrs_machine.proofs.Checks.{bind, unless, given}
use Rattle.lrs_machine.proofs.Pairs.{each_two-map}
use Rattle.lrs_machine.proofs.Registers.{find-put}
use Rattle.lrs_image_sound.proofs.Fitting.{fits}
use Rattle.lrs_image.proofs.Tables.{routes_in_order}
use Rattle.lrs_inventory.proofs.NamedEntries.{names_exact}
use Rattle.lrs_promises.specs.DeskLaws.Inverses.{IsUndoneBy, SplitIsUndone, TurnIsUndone}
use Rattle.lrs_promises.proofs.DeskLaws.Rewritten.{row_before, put_twice, put_known, all_others, dropped_behind}
use Rattle.lrs_promises.proofs.DeskLaws.MarksBack.{turned_back, marks_joined_again, marks_mirrored_twice}

-- The command that undoes takes the state t back to the state s, whatever edits were accepted meanwhile.
pub record IsTakenBack (back : Command) (s t : State) : Type 0 where
  pub done : t.done ≡ s.done
  pub taken : (n : ℕ) (edits : List Edit) → attempt n back (record t { done = edits }) ≡ Ok (record s { done = edits })

-- what is true of every route
pub record IsFit (a : Alignment) : Type 0 where
  pub short : is_too_long a.course ≡ false
  pub marks : are_marks a.marks ≡ true

-- rows of routes in order, each of them fit
pub record IsFiled (s : State) : Type 0 where
  pub order : each_two (row_before nat_list_cmp_total names_exact) (entries s.routes) ≡ true
  pub fit : (name : Name) (a : Alignment) → get s.routes name ≡ Some a → IsFit a

-- a route that is put is found by its name
found_put : (name : Name) (a : Alignment) (rows : List (Name × Alignment)) → find name_cmp name (put name_cmp name a rows) ≡ Some a
found_put name a rows =
    find-put nat_list_cmp_total names_exact name name a rows
    ∙ ap (λ b. cond b (Some a) (find name_cmp name rows)) ((Equal-is _).1 (tied_itself nat_list_cmp_total name))

-- all measures of marks are in range
in_range : (marks : List Mark) → are_marks marks ≡ true → (nat_lt most_marks (length marks) ≡ false) × (is_out_of_range marks ≡ false)
in_range marks h =
    let l = line_from_are_marks marks h in
    (le-ltb _ _ l.few, list_any_none (λ (m : Mark). nat_lt greatest_measure m.measure) marks (λ k d lt. rw (get_or_default marks k d no_mark lt) (le-ltb _ _ (l.small k lt))))

module _ (s : State) (filed : IsFiled s) (route : Name) (a : Alignment) (here : get s.routes route ≡ Some a) where
  -- a route that is written back
  written_back : (b : Alignment) → put name_cmp route a (put name_cmp route b (entries s.routes)) ≡ entries s.routes
  written_back b = put_twice nat_list_cmp_total names_exact route b a (entries s.routes) ∙ put_known nat_list_cmp_total names_exact route a (entries s.routes) filed.order here

  -- ---- two turns

  abbrev turned_route : Alignment
  turned_route = record { course = turned a.course; marks = mirrored a.marks }

  abbrev turned_state : State
  turned_state = set_route route (turned a.course) (mirrored a.marks) s

  turned_again : (n : ℕ) → attempt n (verb.Turn route) turned_state ≡ Ok s
  unfolding attempt
  turned_again n =
      ap (λ o. ok_or o cause.NoRoute >>= λ b. Ok (set_route route (turned b.course) (mirrored b.marks) turned_state)) (found_put route turned_route (entries s.routes))
      ∙ (λ j. Ok (set_route route (turned_back a.course j) (marks_mirrored_twice a.marks (filed.fit route a here).marks j) turned_state))
      ∙ (λ j. Ok (record s { routes = record { rows = written_back turned_route j } }))

  -- ---- a split and a join

  module _ (name : Name) (at : ℕ) (fresh : contains_key s.routes name ≡ false) (inner : is_inner_mark a.marks at ≡ true) where
    abbrev front : Alignment
    front = record { course = take at a.course; marks = marks_to at a.marks }

    abbrev rear : Alignment
    rear = record { course = drop at a.course; marks = marks_from at a.marks }

    abbrev parted : State
    parted = set_route route front.course front.marks (set_route name rear.course rear.marks s)

    apart : same_name name route ≡ false
    apart = false_from_ne_true (same_name name route) (λ t.
        absurd (both_ways (contains_key s.routes name) fresh (ap (λ n. is_some (get s.routes n)) ((bytes_decides name route).0 t) ∙ ap is_some here)))

    apart_too : same_name route name ≡ false
    apart_too = false_from_ne_true (same_name route name) (λ t. absurd (both_ways (same_name name route) apart ((bytes_decides name route).1 (sym ((bytes_decides route name).0 t)))))

    untied : eq_by_cmp name_cmp name route ≡ false
    untied = sym (texts_ties name route) ∙ apart

    rear_found : get parted.routes name ≡ Some rear
    rear_found =
        find-put nat_list_cmp_total names_exact name route front (put name_cmp name rear (entries s.routes))
        ∙ ap (λ b. cond b (Some front) (find name_cmp name (put name_cmp name rear (entries s.routes)))) untied
        ∙ found_put name rear (entries s.routes)

    rows_are : (set_route route a.course a.marks (drop_route name parted)).routes.rows ≡ entries s.routes
    rows_are =
        ap (put name_cmp route a) (dropped_behind nat_list_cmp_total names_exact route name front rear untied (entries s.routes) (all_others nat_list_cmp_total names_exact name (entries s.routes) fresh))
        ∙ written_back front

    abbrev marks_tested : List Ground → List Mark → Result State Cause
    marks_tested course marks = refuse_if (is_out_of_range marks) cause.MeasureRange >> Ok (set_route route course marks (drop_route name parted))

    abbrev length_tested : List Ground → List Mark → Result State Cause
    length_tested course marks = refuse_if (is_too_long course || nat_lt most_marks (length marks)) cause.TooLong >> marks_tested course marks

    fit : IsFit a
    fit = filed.fit route a here

    joins : do_join_of route name front rear parted ≡ Ok s
    joins =
        ap (λ b. refuse_if b cause.SameRoute >> length_tested (front.course ++ rear.course) (joined_marks front.marks rear.marks)) apart_too
        ∙ (λ j. length_tested (take-append-drop at a.course j) (marks_joined_again a.marks at fit.marks inner j))
        ∙ ap (λ b. refuse_if b cause.TooLong >> marks_tested a.course a.marks) (or_from _ _ fit.short (in_range a.marks fit.marks).0)
        ∙ ap (λ b. refuse_if b cause.MeasureRange >> Ok (set_route route a.course a.marks (drop_route name parted))) (in_range a.marks fit.marks).1
        ∙ (λ j. Ok (record s { routes = record { rows = rows_are j } }))

    joined_again : (n : ℕ) → attempt n (verb.Join route name) parted ≡ Ok s
    unfolding attempt
    joined_again n =
        ap (λ o. ok_or o cause.NoRoute >>= λ x. route_named parted name >>= λ y. do_join_of route name x y parted) (found_put route front (put name_cmp name rear (entries s.routes)))
        ∙ ap (λ o. ok_or o cause.NoRoute >>= λ y. do_join_of route name front y parted) rear_found
        ∙ joins

-- ---- of a sound image

filed_with : (s : State) (edits : List Edit) → IsFiled s → IsFiled (record s { done = edits })
filed_with s edits h = record { order = h.order; fit = h.fit }

-- what is found is a route's
alignment_of : (routes : List RouteRow) (name : Name) (a : Alignment) → find name_cmp name (map route_entry routes) ≡ Some a → IsFit a
alignment_of [] name a h = absurd (cc h)
alignment_of (e ∷ es) name a h = by (eq_by_cmp name_cmp name e.route.name) h (alignment_of es name a)
  where
    its : IsFit (route_entry e).1
    its = record {
      short = not-true (is_too_long e.route.course) (and_parts (not (is_nothing e.route.course)) (not (is_too_long e.route.course)) (fits e).0).1;
      marks = ap (λ n. is_none (bad_mark n e.route.marks)) (ends_at (length e.route.course) e.route.marks (KeepRules-from_none (length e.route.course) e.route.marks (fits e).1)) ∙ (fits e).1;
    }

    by : (b : Bool) → cond b (Some (route_entry e).1) (find name_cmp name (map route_entry es)) ≡ Some a → (find name_cmp name (map route_entry es) ≡ Some a → IsFit a) → IsFit a
    by true h rest = let same : (route_entry e).1 ≡ a = cc h in subst IsFit same its
    by false h rest = rest h

pub filed : (i : Image) → IsSound i → IsFiled (state_of i)
unfolding state_of
filed i s = record {
  order = each_two-map (row_before nat_list_cmp_total names_exact) route_entry i.routes ∙ routes_in_order i s;
  fit = alignment_of i.routes;
}

pub split_taken_back : (s : State) → IsFiled s → (route name : Name) (at m : ℕ) → IfOk (attempt m (verb.Split route at name) s) (IsTakenBack (verb.Join route name) s)
unfolding attempt
split_taken_back s h route name at m =
    bind _ (route_named s route) _ (λ a is. unless _ (contains_key s.routes name) _ _ (λ fresh. unless _ (not (is_inner_mark a.marks at)) _ _ (λ inner.
    record {
      done = refl;
      taken = λ n edits. joined_again (record s { done = edits }) (filed_with s edits h) route a (given _ _ a is) name at fresh (not-false _ inner) n;
    })))

pub turn_taken_back : (s : State) → IsFiled s → (route : Name) (m : ℕ) → IfOk (attempt m (verb.Turn route) s) (IsTakenBack (verb.Turn route) s)
unfolding attempt
turn_taken_back s h route m =
    bind _ (route_named s route) _ (λ a is. record {
      done = refl;
      taken = λ n edits. turned_again (record s { done = edits }) (filed_with s edits h) route a (given _ _ a is) n;
    })

undone : (command back : Command) → ((s : State) → IsFiled s → (m : ℕ) → IfOk (attempt m command s) (IsTakenBack back s)) → IsUndoneBy command back
undone command back goes i m n t s is =
    let b = subst (λ r. IfOk r (IsTakenBack back (state_of i))) is (goes (state_of i) (filed i s) m) in
    b.taken n t.done ∙ ap (λ edits. Ok (record (state_of i) { done = edits })) b.done

pub split_is_undone : SplitIsUndone
split_is_undone route name at = undone (verb.Split route at name) (verb.Join route name) (λ s h m. split_taken_back s h route name at m)

pub turn_is_undone : TurnIsUndone
turn_is_undone route = undone (verb.Turn route) (verb.Turn route) (λ s h m. turn_taken_back s h route m)
