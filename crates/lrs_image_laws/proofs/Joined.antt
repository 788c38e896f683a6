-- Two routes as one are a route, and their rows are rows of it.
use Rattle.std.proofs.Common.{◌≡◌, ℕ, ◌+◌, ◌-◌, ◌<◌, ◌≤◌, true, false, ◌⊎◌, inl, inr, List, [], ◌∷◌, ◌++◌, map, length, refl, sym, ap, ◌∙◌, arith}
use Rattle.std.specs.Prelude.{◌&&◌, not, nat_lt, is_none}
use Rattle.std.specs.List.{list_all}
use Rattle.std.proofs.lemmas.Bool.{false≢true, and_parts, and_from, ltb-true, lt-ltb, cases_lt}
use Rattle.std.proofs.lemmas.List.{length-append}
use Rattle.std.proofs.lemmas.List.Folds.{list_all-map}
use Rattle.lrs_measure.specs.Lists.{In, each_two, is_nothing}
use Rattle.lrs_measure.specs.Texts.{same_name}
use Rattle.lrs_element.specs.declared.link.Ground.{Ground}
use Rattle.lrs_element.specs.declared.marks.Mark.{Mark}
use Rattle.lrs_element.specs.Course.{is_too_long}
use Rattle.lrs_measure.specs.Limits.{most_marks}
use Rattle.lrs_measure.proofs.Members.{all_at, all_of, map_found}
use Rattle.lrs_element.specs.Lines.{moved_on}
use Rattle.lrs_element.specs.Marks.{no_mark, last_of, bad_mark, are_marks, last_mark, joined_marks, is_out_of_range}
use Rattle.lrs_element.proofs.Lining.{are_marks-joined}
use Rattle.lrs_element.proofs.LineLemmas.{KeepRules-from_none, ends_at}
use Rattle.lrs_position.specs.declared.route.Referent.{Referent}
use Rattle.lrs_position.specs.Routes.{is_route, is_route_course, have_marks, are_referents, referent_before}
use Rattle.lrs_events.specs.declared.span.Span.{Span}
use Rattle.lrs_events.specs.Members.{is_member}
use Rattle.lrs_events.specs.Spans.{are_rows}
use Rattle.lrs_machine.specs.declared.image.RouteRow.{RouteRow}
use Rattle.lrs_machine.specs.Sound.{is_span}
use Rattle.lrs_machine.proofs.Pairs.{each_two-map}
use Rattle.lrs_image_sound.proofs.Fitting.{fits}
use Rattle.lrs_image_laws.specs.Joins.{on_by, joined_refs, AreUnlike, JoinsAreRoutes, JoinsHaveRows}
use Rattle.lrs_image_laws.proofs.Halved.{side_at, its_end, found, filled_in, is_theirs}
use Rattle.lrs_image_laws.proofs.Listed.{all-insert_all}
use Rattle.lrs_image_laws.proofs.Naming.{same_either, all_in_order}
use Rattle.lrs_image_laws.proofs.Renaming.{own_names}

-- ---- marks

last_of-append : (m z : Mark) (xs zs : List Mark) → last_of m (xs ++ z ∷ zs) ≡ last_of z zs
last_of-append m z [] zs = refl
last_of-append m z (x ∷ xs) zs = last_of-append x z xs zs

last_of-map : (f : Mark → Mark) (z : Mark) (zs : List Mark) → last_of (f z) (map f zs) ≡ f (last_of z zs)
last_of-map f z [] = refl
last_of-map f z (x ∷ zs) = last_of-map f x zs

-- the marks of two routes as one end where the second does
last_joined : (xs ys : List Mark) → 2 ≤ length ys → (last_mark (joined_marks xs ys)).chainage ≡ (last_mark ys).chainage + (last_mark xs).chainage
last_joined xs [] h = absurd (omega (arith, h))
last_joined xs (y ∷ []) h = absurd (omega (arith, h))
last_joined xs (y ∷ z ∷ zs) h =
    let f : Mark → Mark = moved_on (last_mark xs) y in
    ap (λ (m : Mark). m.chainage) (last_of-append no_mark (f z) xs (map f zs) ∙ last_of-map f z zs)

-- the marks of a route end at its length
pub marks_end : (e : RouteRow) → (last_mark e.route.marks).chainage ≡ length e.route.course
marks_end e = ends_at (length e.route.course) e.route.marks (KeepRules-from_none (length e.route.course) e.route.marks (fits e).1)

pub marks_are : (e : RouteRow) → are_marks e.route.marks ≡ true
marks_are e = ap (λ n. is_none (bad_mark n e.route.marks)) (marks_end e) ∙ (fits e).1

-- ---- two routes as one

module _ (a b : RouteRow) (unlike : AreUnlike a.route.refs b.route.refs) where
  abbrev len : ℕ
  len = length a.route.course

  abbrev whole : List Ground
  whole = a.route.course ++ b.route.course

  abbrev line : List Mark
  line = joined_marks a.route.marks b.route.marks

  abbrev moved : List Referent
  moved = map (on_by len) b.route.refs

  abbrev refs : List Referent
  refs = joined_refs len a.route.refs b.route.refs

  both : length whole ≡ len + length b.route.course
  both = length-append a.route.course b.route.course

  course_fits : is_too_long whole ≡ false → is_route_course whole ≡ true
  course_fits short = and_from (not (is_nothing whole)) (not (is_too_long whole))
      (some a.route.course (and_parts (not (is_nothing a.route.course)) (not (is_too_long a.route.course)) (fits a).0).0) (ap not short)
    where
      some : (c : List Ground) → not (is_nothing c) ≡ true → not (is_nothing (c ++ b.route.course)) ≡ true
      some [] h = absurd (false≢true h)
      some (g ∷ gs) h = refl

  marks_fit : length line ≤ most_marks → is_out_of_range line ≡ false → have_marks whole line ≡ true
  marks_fit few small = ap (λ n. is_none (bad_mark n line)) ends ∙ are_marks-joined a.route.marks b.route.marks (marks_are a) (marks_are b) few small
    where
      ends : length whole ≡ (last_mark line).chainage
      ends =
          let e = last_joined a.route.marks b.route.marks (KeepRules-from_none (length b.route.course) b.route.marks (fits b).1).two in
          let c = marks_end a in
          let d = marks_end b in
          let n = both in
          omega (arith, e, c, d, n)

  tests : (e : RouteRow) → (each_two referent_before e.route.refs ≡ true) × (list_all (λ q. nat_lt q.at (length e.route.course)) e.route.refs ≡ true)
  tests e = and_parts (each_two referent_before e.route.refs) (list_all (λ q. nat_lt q.at (length e.route.course)) e.route.refs) (fits e).2

  refs_fit : are_referents (length whole) refs ≡ true
  refs_fit = and_from (each_two referent_before refs) (list_all (λ q. nat_lt q.at (length whole)) refs)
      (all_in_order (λ (q : Referent). q.name) moved a.route.refs (each_two-map (λ (q p : Referent). not (same_name q.name p.name)) (on_by len) b.route.refs ∙ own_names b) (tests a).0 apart)
      (all-insert_all referent_before (λ (q : Referent). nat_lt q.at (length whole)) moved a.route.refs
      (list_all-map (λ (q : Referent). nat_lt q.at (length whole)) (on_by len) b.route.refs
      ∙ all_of (λ (q : Referent). nat_lt (len + q.at) (length whole)) b.route.refs (λ q m.
      let low = stands b q m in
      let n = both in
      lt-ltb (len + q.at) (length whole) (omega (arith, low, n))))
      (all_of (λ (q : Referent). nat_lt q.at (length whole)) a.route.refs (λ q m.
      let low = stands a q m in
      let n = both in
      lt-ltb q.at (length whole) (omega (arith, low, n)))))
    where
      stands : (e : RouteRow) (q : Referent) → In q e.route.refs → q.at < length e.route.course
      stands e q m = ltb-true q.at (length e.route.course) (all_at (λ (q : Referent). nat_lt q.at (length e.route.course)) q e.route.refs (tests e).1 m)

      apart : (q p : Referent) → In q moved → In p a.route.refs → same_name q.name p.name ≡ false
      apart q p m n =
          let x = map_found (on_by len) q b.route.refs m in
          ap (λ (y : Referent). same_name y.name p.name) x.2 ∙ same_either x.0.name p.name ∙ unlike p x.0 n x.1

  pub is_one_route : is_too_long whole ≡ false → length line ≤ most_marks → is_out_of_range line ≡ false → is_route whole line refs ≡ true
  is_one_route short few small = and_from (is_route_course whole && have_marks whole line) (are_referents (length whole) refs)
      (and_from (is_route_course whole) (have_marks whole line) (course_fits short) (marks_fit few small)) refs_fit

pub joins_are_routes : JoinsAreRoutes
joins_are_routes a b short few small unlike = is_one_route a b unlike short few small

-- ---- their rows

pub joins_have_rows : JoinsHaveRows
joins_have_rows assets course more first second rows canonical join front rear = and_from (are_rows rows) (list_all (is_span assets (length (course ++ more))) rows) canonical
    (all_of (is_span assets (length (course ++ more))) rows (λ q m. by q (its_end q rows m (filled_in rows canonical q m)) (filled_in rows canonical q m) (cases_lt (q.to - 1) (length course))))
  where
    both : length (course ++ more) ≡ length course + length more
    both = length-append course more

    by : (q : Span) → is_member rows q.class q.asset (q.to - 1) (side_at q.side).0 ≡ true → q.from < q.to → ((q.to - 1) < length course) ⊎ (length course ≤ (q.to - 1)) → is_span assets (length (course ++ more)) q ≡ true
    by q h filled (inl low) =
        let s = (side_at q.side).0 in
        let r = found q first (q.to - 1) s (sym (join.before q.class q.asset (q.to - 1) s low) ∙ h) in
        let n = both in
        is_theirs assets course first front q r.0 (q.to - 1) (length (course ++ more)) r.1 r.2 (λ k. omega (arith, low, n))
    by q h filled (inr high) =
        let s = (side_at q.side).0 in
        let k = (q.to - 1) - length course in
        let same : k + length course ≡ q.to - 1 = omega (arith, high) in
        let r = found q second k s (sym (join.behind q.class q.asset k s) ∙ ap (λ j. is_member rows q.class q.asset j s) same ∙ h) in
        let low = r.2.high in
        let n = both in
        is_theirs assets more second rear q r.0 k (length (course ++ more)) r.1 r.2 (λ l. omega (arith, low, n, l, same, filled))
