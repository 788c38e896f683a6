-- What assets hold in one state and not in another.
use Rattle.std.proofs.Common.{◌≡◌, ℕ, ◌+◌, Bool, true, false, List, [], ◌∷◌, ◌++◌, map, Option, Some, None, refl, ap, ◌∙◌}
use Rattle.std.specs.Prelude.{is_none}
use Rattle.std.specs.List.{filter_map, flat_map, list_all}
use Rattle.std.proofs.lemmas.Bool.{and_parts}
use Rattle.lrs_measure.specs.Runs.{Run, longer, runs_from, same_option}
use Rattle.lrs_element.specs.declared.link.Ground.{Ground}
use Rattle.lrs_events.specs.declared.side.Side.{Side}
use Rattle.lrs_events.specs.Canonical.{canonical_rows, held_run, side_held}
use Rattle.lrs_events.specs.Places.{Place}
use Rattle.lrs_events.specs.Spans.{same_side}
use Rattle.lrs_machine.specs.Register.{entries}
use Rattle.lrs_machine.specs.State.{State}
use Rattle.lrs_difference.specs.Difference.{course_of_link, facts_in, holds_item, holds_only, stretches, stretches_on}

-- ---- where nothing is held there is no stretch

abbrev is_bare : Run (Option Side) → Bool
is_bare r = is_none r.value

bare_longer : (j : ℕ) (rs : List (Run (Option Side))) → list_all is_bare rs ≡ true → list_all is_bare (longer (same_option same_side) j None rs) ≡ true
bare_longer j [] h = refl
bare_longer j (r ∷ rs) h = by r.value (and_parts (is_bare r) (list_all is_bare rs) h).0 (and_parts (is_bare r) (list_all is_bare rs) h).1
  where
    by : (o : Option Side) → is_none o ≡ true → list_all is_bare rs ≡ true → list_all is_bare (longer (same_option same_side) j None (record { from = r.from; to = r.to; value = o } ∷ rs)) ≡ true
    by None here later = later
    by (Some s) here later = absurd cc

bare_runs : (j : ℕ) (course : List Ground) → list_all is_bare (runs_from (same_option same_side) j (map (side_held (λ p. false)) course)) ≡ true
bare_runs j [] = refl
bare_runs j (g ∷ gs) = bare_longer j (runs_from (same_option same_side) (j + 1) (map (side_held (λ p. false)) gs)) (bare_runs (j + 1) gs)

none_held : (rs : List (Run (Option Side))) → list_all is_bare rs ≡ true → filter_map held_run rs ≡ []
none_held [] h = refl
none_held (r ∷ rs) h = by r.value (and_parts (is_bare r) (list_all is_bare rs) h).0 (none_held rs (and_parts (is_bare r) (list_all is_bare rs) h).1)
  where
    by : (o : Option Side) → is_none o ≡ true → filter_map held_run rs ≡ [] → filter_map held_run (record { from = r.from; to = r.to; value = o } ∷ rs) ≡ []
    by None here later = later
    by (Some s) here later = absurd cc

no_rows : (course : List Ground) → canonical_rows (λ p. false) course ≡ []
no_rows course = none_held (runs_from (same_option same_side) 0 (map (side_held (λ p. false)) course)) (bare_runs 0 course)

nothing_given : {A B : Type 0} → (f : A → List B) (xs : List A) → ((x : A) → f x ≡ []) → flat_map f xs ≡ []
nothing_given f [] h = refl
nothing_given f (x ∷ xs) h = (λ i. h x i ++ nothing_given f xs h i)

-- where the first state holds nothing that the second does not
pub no_stretches : (s t : State) → ((asset : ℕ) (p : Place) → holds_only s t asset p ≡ false) → stretches s t ≡ []
no_stretches s t none =
    nothing_given (λ a. flat_map (stretches_on s t a) (entries s.links)) (facts_in s) (λ a.
    nothing_given (stretches_on s t a) (entries s.links) (λ link.
    (λ i. map (holds_item a link.0) (canonical_rows (λ p. none a.number p i) (course_of_link link))) ∙ ap (map (holds_item a link.0)) (no_rows (course_of_link link))))
