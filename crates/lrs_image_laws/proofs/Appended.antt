-- A ledger grows by the rows of the next edit.
use Rattle.std.proofs.Common.{◌≡◌, ℕ, ◌+◌, ◌-◌, ◌<◌, Bool, true, cond, List, [], ◌∷◌, ◌++◌, refl, ap, ◌∙◌, arith, inl, inr}
use Rattle.std.specs.Prelude.{not, nat_eq}
use Rattle.std.specs.List.{list_all}
use Rattle.std.specs.declared.cmp.Ordering.TheVariants.{Less, Equal, Greater}
use Rattle.std.specs.Ordering.{is_lt, nat_cmp, ordering_then}
use Rattle.std.specs.Cmp.Lexicographic.{slice_cmp}
use Rattle.std.proofs.lemmas.Bool.{and_parts, and_from, or_left, lt-ltb, ne_eqb}
use Rattle.std.proofs.lemmas.List.Folds.{list_all-append}
use Rattle.std.proofs.lemmas.List.Sums.{sum_by-append, sum_by-cons}
use Rattle.lrs_measure.specs.Lists.{In, each_two}
use Rattle.lrs_measure.proofs.Members.{all_of}
use Rattle.lrs_events.specs.declared.part.Part.{Part}
use Rattle.lrs_events.specs.Parts.{part_before, side_number}
use Rattle.lrs_machine.specs.Sound.{pairs_of, share_nothing}
use Rattle.lrs_image_laws.specs.Orderly.{share_nothing_in_an_edit}

module _ {X : Type 0} where
  pub all-append : (test : X → Bool) (xs ys : List X) → list_all test xs ≡ true → list_all test ys ≡ true → list_all test (xs ++ ys) ≡ true
  all-append test xs ys h k = list_all-append test xs ys ∙ and_from (list_all test xs) (list_all test ys) h k

  pub each_two-append : (test : X → X → Bool) (xs ys : List X) → each_two test xs ≡ true → each_two test ys ≡ true → ((x y : X) → In x xs → In y ys → test x y ≡ true) → each_two test (xs ++ ys) ≡ true
  each_two-append test [] ys h k across = k
  each_two-append test (x ∷ xs) ys h k across =
      let both = and_parts (list_all (test x) xs) (each_two test xs) h in
      and_from (list_all (test x) (xs ++ ys)) (each_two test (xs ++ ys))
      (list_all-append (test x) xs ys ∙ and_from (list_all (test x) xs) (list_all (test x) ys) both.0 (all_of (test x) ys (λ y m. across x y (inl refl) m)))
      (each_two-append test xs ys both.1 k (λ z y n m. across z y (inr n) m))

-- rows of a later edit come later
pub later_part : (x y : Part) → x.edit < y.edit → part_before x y ≡ true
later_part x y h = ap (λ b. is_lt (ordering_then (cond b Less (cond (nat_eq x.edit y.edit) Equal Greater)) (slice_cmp nat_cmp (rest x) (rest y)))) (lt-ltb x.edit y.edit h)
  where
    rest : Part → List ℕ
    rest p = p.asset ∷ p.link ∷ p.from ∷ side_number p.side ∷ []

-- ... and are not of one edit with the others
pub apart_by_edit : (x y : Part) → x.edit < y.edit → share_nothing_in_an_edit x y ≡ true
apart_by_edit x y h = or_left (not (nat_eq x.edit y.edit)) (share_nothing x y) (ap not (ne_eqb x.edit y.edit (λ e. omega (arith, e, h))))

-- rows of other assets have no pairs of this one
pub no_pairs : (a : ℕ) (xs : List Part) → ((x : Part) → In x xs → x.asset ≡ a → ⊥) → pairs_of a xs ≡ 0
no_pairs a [] w = refl
no_pairs a (x ∷ xs) w =
    sum_by-cons (λ (y : Part). cond (nat_eq y.asset a) (y.to - y.from) 0) x xs ∙ ap (λ b. cond b (x.to - x.from) 0 + pairs_of a xs) (ne_eqb x.asset a (w x (inl refl))) ∙ ap (λ n. 0 + n) (no_pairs a xs (λ y m. w y (inr m)))

pub pairs-append : (a : ℕ) (xs ys : List Part) → pairs_of a (xs ++ ys) ≡ pairs_of a xs + pairs_of a ys
pairs-append a xs ys = sum_by-append (λ (y : Part). cond (nat_eq y.asset a) (y.to - y.from) 0) xs ys
