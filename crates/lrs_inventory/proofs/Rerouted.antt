-- Plans of routes that keep their ground, their referents and their rows.
use Rattle.std.proofs.Common.{◌≡◌, true, false, List, [], ◌∷◌, filter, Option, Some, refl, sym, ap, ◌∙◌}
use Rattle.std.specs.List.{find, list_all}
use Rattle.std.proofs.lemmas.Bool.{and_from, and_parts}
use Rattle.std.specs.Prelude.{◌&&◌, length, unwrap_or}
use Rattle.lrs_measure.proofs.Members.{all_at}
use Rattle.lrs_inventory.specs.Prelude.{Name, same_name, Mark, is_route, is_route_course, have_marks, are_referents, are_rows, Image, RouteRow, is_span, are_spans_of, IsSound, RouteChange, RouteKeys, keys_of, is_named, changed_refs, fits_after, route_after, spans_after, entry_after}
use Rattle.lrs_machine.proofs.SoundImages.{and_three}
use Rattle.lrs_image.specs.Change.{CanBecome}
use Rattle.lrs_image.proofs.Becoming.{HasBecome, becomes}
use Rattle.lrs_image_laws.specs.Differences.{no_change}
use Rattle.lrs_image_laws.specs.Renames.{HasSame}
use Rattle.lrs_image_laws.proofs.Rewriting.{old_spans}
use Rattle.lrs_inventory.proofs.ChangedRoute.{at}

-- where nothing goes all stays
all_stay : {X : Type 0} (xs : List X) → filter (λ x. true) xs ≡ xs
all_stay [] = refl
all_stay (x ∷ xs) = ap (λ t. x ∷ t) (all_stay xs)

-- a change of a route's name or marks alone
abbrev pub relabelled : Name → Name → RouteKeys → Option (List Mark) → RouteChange
relabelled route name keys marks = record (no_change route) { name = name; keys = keys; marks = marks }

module _ (route name : Name) (keys : RouteKeys) (marks : Option (List Mark)) (i : Image) (r : RouteRow) (s : IsSound i) (found : find (is_named route) i.routes ≡ Some r) (good : have_marks r.route.course (unwrap_or marks r.route.marks) ≡ true) where
  abbrev pub c : RouteChange
  c = relabelled route name keys marks

  abbrev pub after : RouteRow
  after = entry_after c r

  its : (is_route_course r.route.course ≡ true) × (have_marks r.route.course r.route.marks ≡ true) × (are_referents (length r.route.course) r.route.refs ≡ true)
  its = and_three (is_route_course r.route.course) (have_marks r.route.course r.route.marks) (are_referents (length r.route.course) r.route.refs) r.route.fits

  same_refs : changed_refs c.refs r.route.refs ≡ r.route.refs
  same_refs = all_stay r.route.refs

  same_spans : spans_after c r.spans ≡ r.spans
  same_spans = all_stay r.spans

  stays_fit : fits_after c r.route ≡ true
  stays_fit =
      ap (is_route r.route.course (unwrap_or marks r.route.marks)) same_refs
      ∙ and_from (is_route_course r.route.course && have_marks r.route.course (unwrap_or marks r.route.marks)) (are_referents (length r.route.course) r.route.refs)
      (and_from (is_route_course r.route.course) (have_marks r.route.course (unwrap_or marks r.route.marks)) its.0 good) its.2

  become : HasBecome c r.route (route_after c r.route)
  become = becomes c r.route stays_fit

  pub same : HasSame r after
  same = record { course = become.course; refs = become.refs ∙ same_refs; spans = same_spans }

  pub new_name : after.route.name ≡ name
  new_name = become.name

  pub new_marks_are : after.route.marks ≡ unwrap_or marks r.route.marks
  new_marks_are = become.marks

  pub can_become : (same_name route name ≡ false → keys ≡ keys_of r.route.refs r.spans) → CanBecome c r
  can_become whole = record { fits = stays_fit; rows = ap are_rows same_spans ∙ its_rows; gone = refl; there = refl; named = refl; renamed = λ apart. whole apart ∙ sym (λ j. keys_of (same_refs j) (same_spans j)) }
    where
      its_rows : are_rows r.spans ≡ true
      its_rows = (and_parts (are_rows r.spans) (list_all (is_span i.assets (length r.route.course)) r.spans) (all_at (λ (e : RouteRow). are_spans_of i.assets (record { course = e.route.course; rows = e.spans })) r i.routes (old_spans i s) (at c i r s found))).0
