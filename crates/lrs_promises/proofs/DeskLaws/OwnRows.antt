-- What the rows of a route hold is what is held on its course, and the rows are canonical rows that end within it.
use Rattle.std.proofs.Common.{◌≡◌, ℕ, Bool, true, false, ◌⊎◌, inl, inr, length, refl, sym, ap, ◌∙◌}
use Rattle.std.specs.Prelude.{◌&&◌, nat_eq, nat_le}
use Rattle.std.specs.List.{list_any, list_all}
use Rattle.std.proofs.lemmas.Bool.{both_ways, and_parts, cases_Bool}
use Rattle.lrs_element.specs.Course.{meets}
use Rattle.lrs_measure.specs.Texts.{same_name}
use Rattle.lrs_measure.specs.Lists.{In}
use Rattle.lrs_measure.proofs.Members.{all_at, all_weaker}
use Rattle.lrs_events.specs.Places.{Place, lies_on}
use Rattle.lrs_events.specs.Spans.{are_rows}
use Rattle.lrs_events.specs.Row.RunLaws.{end_within}
use Rattle.lrs_machine.specs.declared.image.RouteRow.{RouteRow}
use Rattle.lrs_machine.specs.declared.image.Image.{Image}
use Rattle.lrs_machine.specs.Image.{state_of, holds_on}
use Rattle.lrs_machine.specs.Sound.{is_span, are_spans_of, IsSound}
use Rattle.lrs_image_laws.proofs.Apart.{meet_at}
use Rattle.lrs_image_laws.proofs.Rewriting.{old_spans}
use Rattle.lrs_image_laws.proofs.Holding.{alone, only_at}
use Rattle.lrs_image_laws.proofs.Leaving.{held_lies}

-- a route that does not meet another's course holds nothing on it
not_there : (e y : RouteRow) (a : ℕ) (p : Place) → lies_on e.route.course p ≡ true → meets e.route.course y.route.course ≡ false → holds_on y a p ≡ false
not_there e y a p on far = by (cases_Bool (holds_on y a p))
  where
    by : (holds_on y a p ≡ true) ⊎ (holds_on y a p ≡ false) → holds_on y a p ≡ false
    by (inr h) = h
    by (inl h) =
        absurd (both_ways (meets e.route.course y.route.course) far
        (meet_at e.route.course y.route.course (p.link, p.mm) on (held_lies y a p h)))

module _ (i : Image) (s : IsSound i) (e : RouteRow) (m : In e i.routes) where
  -- what its rows hold
  pub own : (a : ℕ) (p : Place) → holds_on e a p ≡ ((state_of i).holds a p && lies_on e.route.course p)
  unfolding state_of
  own a p = by (cases_Bool (lies_on e.route.course p))
    where
      all : Bool
      all = list_any (λ f. holds_on f a p) i.routes

      nothing : (b : Bool) → (b && false) ≡ false
      nothing true = refl
      nothing false = refl

      only : (b : Bool) → (b && true) ≡ b
      only true = refl
      only false = refl

      off : lies_on e.route.course p ≡ false → (holds_on e a p ≡ true) ⊎ (holds_on e a p ≡ false) → holds_on e a p ≡ false
      off f (inl h) = absurd (both_ways (lies_on e.route.course p) f (held_lies e a p h))
      off f (inr h) = h

      by : (lies_on e.route.course p ≡ true) ⊎ (lies_on e.route.course p ≡ false) → holds_on e a p ≡ (all && lies_on e.route.course p)
      by (inl on) =
          sym (only_at (λ f. holds_on f a p) e i.routes (alone i e s m).apart m (λ y far. not_there e y a p on far))
          ∙ sym (only all) ∙ ap (λ b. all && b) (sym on)
      by (inr f) = off f (cases_Bool (holds_on e a p)) ∙ sym (nothing all) ∙ ap (λ b. all && b) (sym f)

  tests : (are_rows e.spans ≡ true) × (list_all (is_span i.assets (length e.route.course)) e.spans ≡ true)
  tests = and_parts (are_rows e.spans) (list_all (is_span i.assets (length e.route.course)) e.spans)
      (all_at (λ (f : RouteRow). are_spans_of i.assets (record { course = f.route.course; rows = f.spans })) e i.routes (old_spans i s) m)

  pub its_rows : are_rows e.spans ≡ true
  its_rows = tests.0

  pub ends : end_within (length e.route.course) e.spans ≡ true
  ends = all_weaker (is_span i.assets (length e.route.course)) (λ r. nat_le r.to (length e.route.course)) e.spans
      (λ r h. (and_parts (nat_le r.to (length e.route.course)) (list_any (λ a. nat_eq a.number r.asset && same_name a.class r.class) i.assets) h).0) tests.1
