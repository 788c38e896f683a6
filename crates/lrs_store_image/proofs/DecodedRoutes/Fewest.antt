-- Pieces without a millimetre are more than their course needs.
use Rattle.std.proofs.Common.{◌≡◌, ◌+◌, ◌-◌, ◌<◌, ◌≤◌, Bool, true, false, ◌⊎◌, inl, inr, List, [], ◌∷◌, ◌++◌, length, get_or, Option, Some, None, refl, sym, ap, ◌∙◌, arith, append-nil, length-append}
use Rattle.std.specs.Prelude.{◌&&◌, nat_eq, if◌then◌else◌}
use Rattle.std.specs.List.{AllByRecursion, list_all}
use Rattle.std.proofs.lemmas.Bool.{false≢true, and_parts, cases_lt, cases_Bool, ltb-true, ltb-false, ne_eqb}
use Rattle.lrs_measure.specs.Lists.{is_nothing}
use Rattle.lrs_element.specs.declared.link.Link.{Link}
use Rattle.lrs_element.specs.declared.link.Piece.{Piece}
use Rattle.lrs_element.specs.declared.link.Ground.{Ground}
use Rattle.lrs_element.specs.Course.{expand, course_of, continues, piece_count}
use Rattle.lrs_element.specs.Pieces.{piece_len, IsFilled}
use Rattle.lrs_element.proofs.Counting.{breaks, piece_count-append, piece_count-expand}
use Rattle.lrs_element.proofs.Expanding.{length-expand}
use Rattle.lrs_store_tables.specs.Contents.Decoders.{only_if}
use Rattle.lrs_store_tables.specs.Contents.Decoders as option
use Rattle.lrs_store_image.specs.DecodedRoutes.Courses.{is_filled, is_good_course, good_course}

pub filled_all : (ps : List Piece) → list_all is_filled ps ≡ true → AllByRecursion IsFilled ps
filled_all [] h = tt
filled_all (p ∷ ps) h = let both = and_parts (is_filled p) (list_all is_filled ps) h in (ltb-true p.from p.to both.0, filled_all ps both.1)

is_some_list : {X : Type 0} (xs : List X) → 0 < length xs → is_nothing xs ≡ false
is_some_list [] h = absurd (omega (arith, h))
is_some_list (x ∷ xs) h = refl

pub some_ground : (ps : List Piece) → 0 < length ps → AllByRecursion IsFilled ps → is_nothing (course_of ps) ≡ false
some_ground [] h f = absurd (omega (arith, h))
some_ground (p ∷ ps) h f =
    let filled : p.from < p.to = f.0 in
    let len = length-expand p in
    let all = length-append (expand p) (course_of ps) in
    is_some_list (expand p ++ course_of ps) (omega (arith, filled, len, all))

no_list : {X : Type 0} (xs : List X) → length xs ≡ 0 → xs ≡ []
no_list [] h = refl
no_list (x ∷ xs) h = absurd (omega (arith, h))

breaks_little : (g h : Ground) → breaks g h ≤ 1
breaks_little g h = elim (continues g h) as (λ v. (if v then 0 else 1) ≤ 1) [ true ↦ omega arith | false ↦ omega arith ]

count_first : (p : Piece) (ys : List Ground) → piece_count (expand p ++ ys) ≤ piece_count ys + 1
count_first p ys = by (cases_lt p.from p.to) ys
  where
    by : (p.from < p.to) ⊎ (p.to ≤ p.from) → (ys : List Ground) → piece_count (expand p ++ ys) ≤ piece_count ys + 1
    by (inl f) [] = let e : piece_count (expand p ++ []) ≡ 1 = ap piece_count (append-nil (expand p)) ∙ piece_count-expand p f in omega (arith, e)
    by (inl f) (y ∷ ys) =
        let len = length-expand p in
        let one = piece_count-expand p f in
        let e = piece_count-append (expand p) (y ∷ ys) (piece_len p - 1) y (omega (arith, len, f)) (omega arith) in
        let b = breaks_little (get_or (expand p) (piece_len p - 1) y) y in
        omega (arith, e, b, one)
    by (inr u) ys =
        let len = length-expand p in
        let none : expand p ≡ [] = no_list (expand p) (omega (arith, len, u)) in
        let e : piece_count (expand p ++ ys) ≡ piece_count ys = ap (λ l. piece_count (l ++ ys)) none in
        omega (arith, e)

count_unfilled : (p : Piece) (ys : List Ground) → is_filled p ≡ false → piece_count (expand p ++ ys) ≡ piece_count ys
count_unfilled p ys h =
    let u = ltb-false p.from p.to h in
    let len = length-expand p in
    ap (λ l. piece_count (l ++ ys)) (no_list (expand p) (omega (arith, len, u)))

count_all : (ps : List Piece) → piece_count (course_of ps) ≤ length ps
count_all [] = omega arith
count_all (p ∷ ps) = let one = count_first p (course_of ps) in let more = count_all ps in omega (arith, one, more)

rest_fails : (b c : Bool) → b ≡ true → (b && c) ≡ false → c ≡ false
rest_fails true c e k = k
rest_fails false c e k = absurd (false≢true e)

less_first : (p : Piece) (ps : List Piece) → (list_all is_filled ps ≡ false → piece_count (course_of ps) < length ps) → list_all is_filled (p ∷ ps) ≡ false → piece_count (course_of (p ∷ ps)) < length (p ∷ ps)
less_first p ps step h = by (cases_Bool (is_filled p))
  where
    by : (is_filled p ≡ true) ⊎ (is_filled p ≡ false) → piece_count (course_of (p ∷ ps)) < length (p ∷ ps)
    by (inl f) =
        let one = count_first p (course_of ps) in
        let more = step (rest_fails (is_filled p) (list_all is_filled ps) f h) in
        omega (arith, one, more)
    by (inr u) = let one = count_unfilled p (course_of ps) u in let more = count_all ps in omega (arith, one, more)

count_less : (ps : List Piece) → list_all is_filled ps ≡ false → piece_count (course_of ps) < length ps
count_less [] h = absurd (false≢true (sym h))
count_less (p ∷ ps) h = less_first p ps (λ k. count_less ps k) h

some_is : {A : Type 0} {a b : A} → ◌≡◌ {A = Option A} (Some a) (Some b) → a ≡ b
some_is e = cc

module _ (links : List Link) (ps : List Piece) where
  abbrev fewest : Bool
  fewest = nat_eq (length ps) (piece_count (course_of ps))

  made : (a : Bool) → a ≡ false → option.◌>>=◌ (only_if a (course_of ps)) (λ course. only_if (is_good_course links course) course) ≡ None
  made true h = absurd (false≢true (sym h))
  made false h = refl

  pub none_where_unfilled : list_all is_filled ps ≡ false → None ≡ good_course links ps
  none_where_unfilled h = let less = count_less ps h in sym (made fewest (ne_eqb (length ps) (piece_count (course_of ps)) (λ e. absurd (omega (arith, less, e)))))

  pub none_where_more : nat_eq (length ps) (piece_count (course_of ps)) ≡ false → None ≡ good_course links ps
  none_where_more h = sym (made fewest h)

  pub as_fewest : nat_eq (length ps) (piece_count (course_of ps)) ≡ true → good_course links ps ≡ only_if (is_good_course links (course_of ps)) (course_of ps)
  as_fewest h = ap (λ b. option.◌>>=◌ (only_if b (course_of ps)) (λ course. only_if (is_good_course links course) course)) h

  pub none_where_bad : only_if (is_good_course links (course_of ps)) (course_of ps) ≡ None → None ≡ good_course links ps
  none_where_bad h = by (cases_Bool fewest)
    where
      by : (fewest ≡ true) ⊎ (fewest ≡ false) → None ≡ good_course links ps
      by (inl e) = sym (as_fewest e ∙ h)
      by (inr e) = none_where_more e

  -- the course that was found
  found : (course : List Ground) → Some course ≡ only_if (is_good_course links (course_of ps)) (course_of ps) → course ≡ course_of ps
  found course h = by (is_good_course links (course_of ps)) h
    where
      by : (b : Bool) → ◌≡◌ {A = Option (List Ground)} (Some course) (only_if b (course_of ps)) → course ≡ course_of ps
      by true k = some_is k
      by false k = absurd (cc k)

  pub none_where_other : (course : List Ground) → Some course ≡ only_if (is_good_course links (course_of ps)) (course_of ps) → nat_eq (length ps) (piece_count course) ≡ false → None ≡ good_course links ps
  none_where_other course h e = none_where_more (ap (λ z. nat_eq (length ps) (piece_count z)) (sym (found course h)) ∙ e)

  pub some_where_fewest : (course : List Ground) → Some course ≡ only_if (is_good_course links (course_of ps)) (course_of ps) → nat_eq (length ps) (piece_count course) ≡ true → Some course ≡ good_course links ps
  some_where_fewest course h e = h ∙ sym (as_fewest (ap (λ z. nat_eq (length ps) (piece_count z)) (sym (found course h)) ∙ e))
