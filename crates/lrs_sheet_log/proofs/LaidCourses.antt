-- The pieces of a course pass their checks where its links are known and it runs over no millimetre twice.
use Rattle.std.proofs.Common.{◌≡◌, ℕ, ◌+◌, ◌-◌, ◌<◌, ◌≤◌, Bool, true, false, cond, List, [], ◌∷◌, ◌++◌, length, get_or, Option, Some, None, Ok, refl, sym, ap, subst, ◌∙◌, append_assoc, arith}
use Rattle.std.specs.Prelude.{if◌then◌else◌, ◌||◌, ◌&&◌, is_none, nat_eq, nat_le, nat_lt, not, unwrap_or}
use Rattle.std.specs.List.{AllByRecursion, list_all, list_any, position, position_or_len}
use Rattle.std.specs.Option.{option_map}
use Rattle.std.proofs.lemmas.Bool.{and_parts, both_ways, eq-eqb, eqb-true, false_from_ne_true, false≢true, ltb-true, not-true}
use Rattle.std.proofs.lemmas.Bool.Decides.{nat_tests}
use Rattle.std.proofs.lemmas.List.Folds.{list_all-append}
use Rattle.lrs_measure.specs.Lists.{In, each_two}
use Rattle.lrs_measure.proofs.EachTwo.{across_of, two_front}
use Rattle.lrs_measure.proofs.Members.{any_found}
use Rattle.lrs_measure.proofs.Places.{passes_at}
use Rattle.lrs_element.specs.declared.link.Ground.{Ground}
use Rattle.lrs_element.specs.declared.link.Piece.{Piece}
use Rattle.lrs_element.specs.Course.{course_of, expand, first_repeated, is_at, meets, runs_over}
use Rattle.lrs_element.specs.Pieces.{ground_of, piece_len}
use Rattle.lrs_element.proofs.Expanding.{get_or-expand, length-expand}
use Rattle.lrs_events.specs.Places.{differs}
use Rattle.lrs_machine.specs.Laws.{is_known}
use Rattle.lrs_machine.specs.Machine.{check_pieces, is_bad_piece, length_of_link, refuse_at, refuse_if, ◌>>◌}
use Rattle.lrs_machine.specs.Register.{get}
use Rattle.lrs_machine.specs.State.{State}
use Rattle.lrs_machine.specs.declared.answer.Cause.TheVariants as cause
use Rattle.lrs_report_lists.proofs.CoursePieces.{pieces_make}
use Rattle.lrs_report_lists.specs.CoursePieces.{pieces_of}

-- ---- tests that nothing passes

-- where no element passes, none is found
pub none-found : {X : Type 0} (p : X → Bool) (xs : List X) → list_any p xs ≡ false → position p xs ≡ None
none-found {X = X} p xs h =
    let all = in-front xs h in
    let not-below : nat_lt (position_or_len p xs) (length xs) ≡ false = grind (arith, nat_tests) in
    ap (λ (b : Bool). cond b (Some (position_or_len p xs)) None) not-below
  where
    in-front : (xs : List X) → list_any p xs ≡ false → position_or_len p xs ≡ length xs
    in-front [] h = refl
    in-front (x ∷ xs) h = by (p x) refl h (in-front xs)
      where
        by : (b : Bool) → p x ≡ b → (b || list_any p xs) ≡ false → (list_any p xs ≡ false → position_or_len p xs ≡ length xs) → position_or_len p (x ∷ xs) ≡ length (x ∷ xs)
        by true e h rest = absurd (false≢true (sym h))
        by false e h rest = ap (λ (b : Bool). cond (not b) (1 + position_or_len p xs) 0) e ∙ ap (λ (n : ℕ). 1 + n) (rest h) ∙ (omega arith)

pub neither : (a b : Bool) → (a || b) ≡ false → (a ≡ false) × (b ≡ false)
neither true b h = absurd (false≢true (sym h))
neither false b h = (refl, h)

pub both-false : (a b : Bool) → a ≡ false → b ≡ false → (a || b) ≡ false
both-false a b h k = λ i. h i || k i

-- ---- known links

-- the millimetre is one of a known link
abbrev on : State → Ground → Bool
on s g = is_known s (g.link, g.mm)

-- at which place of a piece its highest millimetre is
abbrev highest : Bool → ℕ → ℕ → ℕ
highest f a b = if f then b - 1 - a else 0

highest-inside : (f : Bool) (a b : ℕ) → a < b → highest f a b < b - a
highest-inside true a b h = omega (arith, h)
highest-inside false a b h = omega (arith, h)

up-to : (f : Bool) (a b n : ℕ) → a < b → nat_lt (if f then a + highest f a b else b - 1 - highest f a b) n ≡ true → b ≤ n
up-to true a b n h t = let low : a + (b - 1 - a) < n = ltb-true (a + (b - 1 - a)) n t in omega (arith, h, low)
up-to false a b n h t = let low : b - 1 - 0 < n = ltb-true (b - 1 - 0) n t in omega (arith, h, low)

-- a piece that runs over known millimetres does not go past the end of its link
piece-ends : (s : State) (p : Piece) → p.from < p.to → list_all (on s) (expand p) ≡ true → p.to ≤ length_of_link s p.link
piece-ends s p filled h =
    let i = highest p.forward p.from p.to in
    let inside : i < piece_len p = highest-inside p.forward p.from p.to filled in
    let there : on s (get_or (expand p) i (ground_of p i)) ≡ true = passes_at (on s) (expand p) i (ground_of p i) h (omega (arith, length-expand p, inside)) in
    up-to p.forward p.from p.to (length_of_link s p.link) filled (sym (ap (on s) (get_or-expand p i (ground_of p i) inside)) ∙ there)

has-link : (o : Option ℕ) (n : ℕ) → 0 < n → n ≤ unwrap_or o 0 → is_none o ≡ false
has-link None n some low = absurd (omega (arith, some, low))
has-link (Some x) n some low = refl

-- no piece lacks its link, and none is bad
record IsLaid (s : State) (pieces : List Piece) : Type 0 where
  linked : list_any (λ p. is_none (get s.links p.link)) pieces ≡ false
  good : list_any (is_bad_piece s) pieces ≡ false

laid-pieces : (s : State) (pieces : List Piece) → AllByRecursion (λ p. p.from < p.to) pieces → list_all (on s) (course_of pieces) ≡ true → IsLaid s pieces
laid-pieces s [] filled h = record { linked = refl; good = refl }
laid-pieces s (p ∷ pieces) filled h =
    let both = and_parts (list_all (on s) (expand p)) (list_all (on s) (course_of pieces)) (sym (list_all-append (on s) (expand p) (course_of pieces)) ∙ h) in
    let rest = laid-pieces s pieces filled.1 both.1 in
    let some : p.from < p.to = filled.0 in
    let low = piece-ends s p some both.0 in
    let linked = has-link (get s.links p.link) p.to (omega (arith, some)) low in
    let empty : nat_le p.to p.from ≡ false = grind (arith, nat_tests) in
    let past : nat_lt (length_of_link s p.link) p.to ≡ false = grind (arith, nat_tests) in
    record {
      linked = both-false (is_none (get s.links p.link)) (list_any (λ p. is_none (get s.links p.link)) pieces) linked rest.linked;
      good = both-false (is_bad_piece s p) (list_any (is_bad_piece s) pieces) (both-false (nat_le p.to p.from) (nat_lt (length_of_link s p.link) p.to) empty past) rest.good;
    }

-- ---- no millimetre twice

same-back : (m n : ℕ) → nat_eq m n ≡ true → nat_eq n m ≡ true
same-back m n t = eq-eqb n m (sym (eqb-true m n t))

-- courses do not meet where each millimetre of the one differs from each of the other
apart : (xs ys : List Ground) → ((x y : Ground) → In x xs → In y ys → differs y x ≡ true) → meets xs ys ≡ false
apart xs ys h = false_from_ne_true (meets xs ys) (λ t.
    let x = any_found (λ g. runs_over ys (g.link, g.mm)) xs t in
    let y = any_found (is_at (x.0.link, x.0.mm)) ys x.2 in
    let there = and_parts (nat_eq y.0.link x.0.link) (nat_eq y.0.mm x.0.mm) y.2 in
    let back : is_at (y.0.link, y.0.mm) x.0 ≡ true = λ i. same-back y.0.link x.0.link there.0 i && same-back y.0.mm x.0.mm there.1 i in
    both_ways (is_at (y.0.link, y.0.mm) x.0) (not-true (is_at (y.0.link, y.0.mm) x.0) (h x.0 y.0 x.1 y.1)) back)

no-repeat : (before : List Ground) (pieces : List Piece) → each_two differs (before ++ course_of pieces) ≡ true → first_repeated before pieces ≡ None
no-repeat before [] h = refl
no-repeat before (p ∷ ps) h =
    let again : each_two differs ((before ++ expand p) ++ course_of ps) ≡ true = subst (λ (xs : List Ground). each_two differs xs ≡ true) (sym (append_assoc before (expand p) (course_of ps))) h in
    let here = two_front differs (before ++ expand p) (course_of ps) again in
    let none : meets (expand p) before ≡ false = apart (expand p) before (λ x y m n. across_of differs before (expand p) here y x n m) in
    let one : ℕ → ℕ = λ i. i + 1 in
    ap (λ (b : Bool). if b then Some 0 else option_map one (first_repeated (before ++ expand p) ps)) none ∙ ap (option_map one) (no-repeat (before ++ expand p) ps again)

-- ---- both

checked : (s : State) (pieces : List Piece) → AllByRecursion (λ p. p.from < p.to) pieces → list_all (on s) (course_of pieces) ≡ true → each_two differs (course_of pieces) ≡ true → check_pieces s pieces ≡ Ok tt
checked s pieces filled known once =
    let laid = laid-pieces s pieces filled known in
    let linked = laid.linked in
    let good = none-found (is_bad_piece s) pieces laid.good in
    let unshared = no-repeat [] pieces once in
    λ i. refuse_if (linked i) cause.NoLink >> (refuse_at (good i) cause.BadPiece >> refuse_at (unshared i) cause.Taken)

pub pieces_pass : (s : State) (course : List Ground) → list_all (λ g. is_known s (g.link, g.mm)) course ≡ true → each_two differs course ≡ true → check_pieces s (pieces_of course) ≡ Ok tt
pieces_pass s course known once =
    let made = pieces_make course in
    checked s (pieces_of course) made.1.filled
    (subst (λ (xs : List Ground). list_all (on s) xs ≡ true) (sym made.0) known)
    (subst (λ (xs : List Ground). each_two differs xs ≡ true) (sym made.0) once)
