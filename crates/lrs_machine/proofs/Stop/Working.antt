-- The worked runs.
use Rattle.std.proofs.Common.{◌≡◌, ◌⊎◌, inl, inr, false, [], ◌∷◌, length, Some, None, refl, sym, ap, ◌∙◌, arith}
use Rattle.std.specs.Fmt.{digits}
use Rattle.lrs_machine.specs.declared.answer.Answer.TheVariants.{Done, Again}
use Rattle.lrs_machine.specs.State.{State, nothing_known}
use Rattle.lrs_machine.specs.Machine.{Record, step, attempt, step_record, state_after}
use Rattle.lrs_machine.specs.Stop.StoppedRuns.{Moment, at_rest, Opens, Acts, StopsWithin, IsRun}
use Rattle.lrs_machine.specs.Stop.WorkedRuns.{full, first_link, second_link, signs, after, until_the_stop, OneLinkOrTwo, at_work, until_both_stop, BothEndAlike, TwoInFlight, Excluded, sheet, half_done, GoesOnBehindTheLink}
use Rattle.lrs_machine.proofs.Stop.Stopping.{some_same}
use Rattle.lrs_machine.specs.Stop.Laws.{same, again}

opened_at : (s : State) → Opens (at_rest s) (at_work s)
opened_at s = record { closed = refl; stored = refl; desk = refl }

stopped_at : (r : Record) (s t : State) → (t ≡ s) ⊎ (t ≡ state_after full (r ∷ []) s) → StopsWithin full [] r (at_work s) (at_rest t)
stopped_at r s t left = record { known = s; acts_on = refl; accepted = tt; stored = left; desk = refl }

one : State
one = after (first_link ∷ [])

two : State
two = after (first_link ∷ second_link ∷ [])

first_done : Acts full first_link (Done 1) (at_work nothing_known) (at_work one)
unfolding digits step attempt one
first_done = record { known = nothing_known; acts_on = refl; answered = refl; stored = refl; desk = refl }

second_done : Acts full second_link (Done 2) (at_work one) (at_work two)
unfolding digits step attempt one two
second_done = record { known = one; acts_on = refl; answered = refl; stored = refl; desk = refl }

second_again : Acts full second_link (Again 2) (at_work two) (at_work two)
unfolding digits step attempt one two
second_again = record { known = two; acts_on = refl; answered = refl; stored = refl; desk = refl }

three : State
three = after (first_link ∷ second_link ∷ signs ∷ [])

signs_done : Acts full signs (Done 3) (at_work two) (at_work three)
unfolding digits step attempt two three
signs_done = record { known = two; acts_on = refl; answered = refl; stored = refl; desk = refl }

-- what the first steps leave
module _ (s : State) (run : IsRun full (at_rest nothing_known) until_the_stop (at_rest s)) where
  open_is : run.0.stored ≡ nothing_known
  open_is = run.1.stored

  desk_is : run.2.1.known ≡ nothing_known
  desk_is = some_same full run.2.1.known nothing_known (sym run.2.1.acts_on ∙ run.1.desk)

  stored_is : run.2.0.stored ≡ one
  unfolding one
  stored_is = run.2.1.stored ∙ ap (λ (t : State). (step_record full first_link t).state) desk_is

  acts_on_is : run.2.2.1.known ≡ one
  unfolding one
  acts_on_is = some_same full run.2.2.1.known (step_record full first_link run.2.1.known).state (sym run.2.2.1.acts_on ∙ run.2.1.desk) ∙ ap (λ (t : State). (step_record full first_link t).state) desk_is

  left_is : run.2.2.0.stored ≡ s
  left_is = sym (ap (λ (m : Moment). m.stored) run.2.2.2)

  one_or_two : (s ≡ one) ⊎ (s ≡ two)
  unfolding one two
  one_or_two = by run.2.2.1.stored
    where
      by : (run.2.2.0.stored ≡ run.2.2.1.known) ⊎ (run.2.2.0.stored ≡ state_after full (second_link ∷ []) run.2.2.1.known) → (s ≡ one) ⊎ (s ≡ two)
      by (inl e) = inl (sym left_is ∙ e ∙ acts_on_is)
      by (inr e) = inr (sym left_is ∙ e ∙ ap (state_after full (second_link ∷ [])) acts_on_is)

edits_one : length one.done ≡ 1
unfolding digits step attempt one
edits_one = refl

edits_two : length two.done ≡ 2
unfolding digits step attempt two
edits_two = refl

never_none : (nothing_known ≡ one) ⊎ (nothing_known ≡ two) → ⊥
never_none (inl e) = let n : 0 ≡ 1 = ap (λ (t : State). length t.done) e ∙ edits_one in omega (arith, n)
never_none (inr e) = let n : 0 ≡ 2 = ap (λ (t : State). length t.done) e ∙ edits_two in omega (arith, n)

pub one_link_or_two : OneLinkOrTwo
unfolding one two
one_link_or_two = record {
  without = (at_work nothing_known, opened_at nothing_known, (at_work one, first_done, (at_rest one, stopped_at second_link one one (inl refl), refl)));
  with = (at_work nothing_known, opened_at nothing_known, (at_work one, first_done, (at_rest two, stopped_at second_link one two (inr refl), refl)));
  nothing_else = one_or_two;
  not_lost = λ run. never_none (one_or_two nothing_known run);
}

pub both_end_alike : BothEndAlike
unfolding digits step attempt one two three
both_end_alike = record {
  left_out = (
    at_work nothing_known,
    opened_at nothing_known,
    (
      at_work one,
      first_done,
      (
        at_rest one,
        stopped_at second_link one one (inl refl),
        (at_rest one, refl, (at_work one, opened_at one, (at_work two, second_done, (at_work three, signs_done, refl)))),
      ),
    ),
  );
  kept = (
    at_work nothing_known,
    opened_at nothing_known,
    (
      at_work one,
      first_done,
      (
        at_rest two,
        stopped_at second_link one two (inr refl),
        (at_rest two, refl, (at_work two, opened_at two, (at_work two, second_again, (at_work three, signs_done, refl)))),
      ),
    ),
  );
  sent_first = ((signs ∷ [], refl, tt), (signs ∷ [], refl, tt));
  kept_as = (refl, refl);
  keys = refl;
}

-- ---- two in flight

both_stopped : (t : State) → (t ≡ nothing_known) ⊎ (t ≡ two) → StopsWithin full (first_link ∷ []) second_link (at_work nothing_known) (at_rest t)
unfolding digits step attempt two
both_stopped t left = record { known = nothing_known; acts_on = refl; accepted = (tt, tt); stored = left; desk = refl }

first_again : Acts full first_link (Again 1) (at_work two) (at_work two)
unfolding digits step attempt one two
first_again = record { known = two; acts_on = refl; answered = refl; stored = refl; desk = refl }

-- what is left of them
module _ (s : State) (run : IsRun full (at_rest nothing_known) until_both_stop (at_rest s)) where
  acts_on_nothing : run.2.1.known ≡ nothing_known
  acts_on_nothing = some_same full run.2.1.known nothing_known (sym run.2.1.acts_on ∙ run.1.desk)

  left_of_both : run.2.0.stored ≡ s
  left_of_both = sym (ap (λ (m : Moment). m.stored) run.2.2)

  none_or_two : (s ≡ nothing_known) ⊎ (s ≡ two)
  unfolding two
  none_or_two = by run.2.1.stored
    where
      by : (run.2.0.stored ≡ run.2.1.known) ⊎ (run.2.0.stored ≡ state_after full (first_link ∷ second_link ∷ []) run.2.1.known) → (s ≡ nothing_known) ⊎ (s ≡ two)
      by (inl e) = inl (sym left_of_both ∙ e ∙ acts_on_nothing)
      by (inr e) = inr (sym left_of_both ∙ e ∙ ap (state_after full (first_link ∷ second_link ∷ [])) acts_on_nothing)

one_alone : (one ≡ nothing_known) ⊎ (one ≡ two) → ⊥
one_alone (inl e) = let n : 1 ≡ 0 = sym edits_one ∙ ap (λ (t : State). length t.done) e in omega (arith, n)
one_alone (inr e) = let n : 1 ≡ 2 = sym edits_one ∙ ap (λ (t : State). length t.done) e ∙ edits_two in omega (arith, n)

pub two_in_flight : TwoInFlight
unfolding digits step attempt one two three
two_in_flight = record {
  without = (at_work nothing_known, opened_at nothing_known, (at_rest nothing_known, both_stopped nothing_known (inl refl), refl));
  with = (at_work nothing_known, opened_at nothing_known, (at_rest two, both_stopped two (inr refl), refl));
  never_one = λ run. one_alone (none_or_two one run);
  nothing_else = none_or_two;
  kept = (
    at_work nothing_known,
    opened_at nothing_known,
    (
      at_rest two,
      both_stopped two (inr refl),
      (at_rest two, refl, (at_work two, opened_at two, (at_work two, first_again, (at_work two, second_again, (at_work three, signs_done, refl))))),
    ),
  );
  sent_first = (signs ∷ [], refl, tt);
  given = (Done 1, Done 2 ∷ Done 3 ∷ [], refl, again 1, (Done 2, Done 3 ∷ [], refl, again 2, (Done 3, [], refl, same false (Done 3), refl)));
}

pub excluded : Excluded
excluded = record {
  forgotten = λ s h. ap (λ (m : Moment). m.stored) h;
  unopened = λ m h. absurd (let e : None ≡ Some h.known = h.acts_on in cc e);
}

-- ---- going on with a sheet

half : State
half = half_done

edits_of_sheet : length (after sheet).done ≡ 2
unfolding digits step attempt
edits_of_sheet = refl

edits_sent_again : length (state_after full sheet half).done ≡ 3
unfolding digits step attempt half
edits_sent_again = refl

pub goes_on_behind_the_link : GoesOnBehindTheLink
unfolding digits step attempt half
goes_on_behind_the_link = record {
  said = refl;
  behind = refl;
  goes_on = refl;
  said_then = refl;
  said_again = refl;
  sent_again = λ e. let n : 3 ≡ 2 = sym edits_sent_again ∙ ap (λ (t : State). length t.done) e ∙ edits_of_sheet in omega (arith, n);
}
