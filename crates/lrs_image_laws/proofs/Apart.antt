-- Courses that have no millimetre in common.
use Rattle.std.proofs.Common.{◌≡◌, ℕ, true, false, List, sym, ap, ◌∙◌}
use Rattle.std.specs.Prelude.{◌&&◌, nat_eq}
use Rattle.std.specs.Cmp as cmp
use Rattle.std.proofs.lemmas.Bool.{both_ways, and_parts, eq-eqb, eqb-true}
use Rattle.lrs_measure.proofs.Members.{any_found, any_of}
use Rattle.lrs_element.specs.declared.link.Ground.{Ground}
use Rattle.lrs_element.specs.Course.{Millimetre, is_at, runs_over, meets}
use Rattle.lrs_image_laws.proofs.InOrder.{is_false}

pub nat_eq-comm : (m n : ℕ) → nat_eq m n ≡ nat_eq n m
nat_eq-comm m n = cmp.both_ways (nat_eq m n) (nat_eq n m) (λ t. eq-eqb n m (sym (eqb-true m n t))) (λ t. eq-eqb m n (sym (eqb-true n m t)))

pub at_same : (g h : Ground) → is_at (g.link, g.mm) h ≡ is_at (h.link, h.mm) g
at_same g h = λ j. nat_eq-comm h.link g.link j && nat_eq-comm h.mm g.mm j

pub at_is : (m : Millimetre) (g : Ground) → is_at m g ≡ true → m ≡ (g.link, g.mm)
at_is m g h =
    let both = and_parts (nat_eq g.link m.0) (nat_eq g.mm m.1) h in
    λ j. (sym (eqb-true g.link m.0 both.0) j, sym (eqb-true g.mm m.1 both.1) j)

-- a course does not meet one that does not meet it
pub apart_too : (xs ys : List Ground) → meets xs ys ≡ false → meets ys xs ≡ false
apart_too xs ys h = is_false (meets ys xs) (λ t.
    let y = any_found (λ g. runs_over xs (g.link, g.mm)) ys t in
    let x = any_found (is_at (y.0.link, y.0.mm)) xs y.2 in
    both_ways (meets xs ys) h (any_of (λ g. runs_over ys (g.link, g.mm)) x.0 xs x.1 (any_of (is_at (x.0.link, x.0.mm)) y.0 ys y.1 (at_same x.0 y.0 ∙ x.2))))

-- courses that run over one millimetre meet
pub meet_at : (c d : List Ground) (m : Millimetre) → runs_over c m ≡ true → runs_over d m ≡ true → meets c d ≡ true
meet_at c d m h k =
    let x = any_found (is_at m) c h in
    any_of (λ g. runs_over d (g.link, g.mm)) x.0 c x.1 (ap (runs_over d) (sym (at_is m x.0 x.2)) ∙ k)
