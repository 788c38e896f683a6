-- Inventories that say the same of the ground have the same rows.
use Rattle.std.proofs.Common.{◌≡◌, ℕ, inl, inr, List, [], ◌∷◌, map, length, refl, sym, ap, ap₂, ◌∙◌}
use Rattle.std.specs.Prelude.{◌&&◌, unwrap_or}
use Rattle.lrs_measure.specs.Texts.{Name}
use Rattle.lrs_measure.specs.Lists.{In}
use Rattle.lrs_element.specs.declared.link.Ground.{Ground}
use Rattle.lrs_events.specs.declared.span.Span.{Span}
use Rattle.lrs_events.specs.Places.{lies_on}
use Rattle.lrs_events.specs.Spans.{holds_by_spans}
use Rattle.lrs_events.specs.Row.RunLaws.{HoldSame, end_within, are_of_class}
use Rattle.lrs_events.proofs.Row.RunLaws.{held_rows_are_one}
use Rattle.lrs_machine.specs.declared.image.RouteRow.{RouteRow}
use Rattle.lrs_machine.specs.declared.image.Image.{Image}
use Rattle.lrs_machine.specs.Image.{state_of, route_entry}
use Rattle.lrs_machine.specs.Sound.{IsSound}
use Rattle.lrs_image_laws.proofs.Holding.{alone}
use Rattle.lrs_promises.specs.DeskLaws.Rows.{SayAlike, RowsAreDetermined}
use Rattle.lrs_promises.proofs.DeskLaws.OwnRows.{own, its_rows, ends}
use Rattle.lrs_promises.proofs.DeskLaws.RowClasses.{class_at, classes}

abbrev course_of_route : RouteRow → Name × List Ground
course_of_route e = (e.route.name, e.route.course)

abbrev rows_of_route : RouteRow → Name × List Span
rows_of_route e = (e.route.name, e.spans)

pub firsts : {X : Type 0} (x y : X) (xs ys : List X) → x ∷ xs ≡ y ∷ ys → x ≡ y
firsts x y xs ys h = cc

pub rests : {X : Type 0} (x y : X) (xs ys : List X) → x ∷ xs ≡ y ∷ ys → xs ≡ ys
rests x y xs ys h = cc

named_courses : (es : List RouteRow) → map (λ r. (r.0, r.1.course)) (map route_entry es) ≡ map course_of_route es
named_courses [] = refl
named_courses (e ∷ es) = ap (λ t. course_of_route e ∷ t) (named_courses es)

module _ (i j : Image) (s : IsSound i) (t : IsSound j) (alike : SayAlike (state_of i) (state_of j)) where
  courses : map course_of_route i.routes ≡ map course_of_route j.routes
  unfolding state_of
  courses = sym (named_courses i.routes) ∙ alike.courses ∙ named_courses j.routes

  same_classes : (n : ℕ) → class_at j n ≡ class_at i n
  same_classes n = ap (λ o. unwrap_or o []) (sym (alike.classes n))

  -- two routes with one course have one list of rows
  same_rows : (e f : RouteRow) → In e i.routes → In f j.routes → e.route.course ≡ f.route.course → e.spans ≡ f.spans
  same_rows e f m k is =
      held_rows_are_one e.route.course (class_at i) e.spans f.spans (alone i e s m).once (its_rows i s e m) (ends i s e m) (classes i s e m) (its_rows j t f k)
      (ap (λ (c : List Ground). end_within (length c) f.spans) is ∙ ends j t f k)
      (ap (λ (of : ℕ → Name). are_of_class of f.spans) (λ h n. sym (same_classes n) h) ∙ classes j t f k)
      held
    where
      held : HoldSame e.route.course e.spans f.spans
      held a p =
          own i s e m a p
          ∙ (λ h. alike.holds a p h && lies_on (is h) p)
          ∙ sym (own j t f k a p)
          ∙ ap (λ (c : List Ground). holds_by_spans c f.spans a p) (sym is)

  pub rows_alike : (xs ys : List RouteRow) → ((e : RouteRow) → In e xs → In e i.routes) → ((f : RouteRow) → In f ys → In f j.routes)
      → map course_of_route xs ≡ map course_of_route ys → map rows_of_route xs ≡ map rows_of_route ys
  rows_alike [] [] xi yj h = refl
  rows_alike [] (y ∷ ys) xi yj h = absurd (cc h)
  rows_alike (x ∷ xs) [] xi yj h = absurd (cc h)
  rows_alike (x ∷ xs) (y ∷ ys) xi yj h =
      let both = firsts (course_of_route x) (course_of_route y) (map course_of_route xs) (map course_of_route ys) h in
      let name : x.route.name ≡ y.route.name = ap (λ (c : Name × List Ground). c.0) both in
      let course : x.route.course ≡ y.route.course = ap (λ (c : Name × List Ground). c.1) both in
      let rest = rests (course_of_route x) (course_of_route y) (map course_of_route xs) (map course_of_route ys) h in
      let spans = same_rows x y (xi x (inl refl)) (yj y (inl refl)) course in
      ap₂ (λ u us. u ∷ us) (λ k. (name k, spans k)) (rows_alike xs ys (λ e m. xi e (inr m)) (λ f m. yj f (inr m)) rest)

pub rows_are_determined : RowsAreDetermined
rows_are_determined i j s t alike = rows_alike i j s t alike i.routes j.routes (λ e m. m) (λ f m. m) (courses i j s t alike)
