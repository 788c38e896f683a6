-- Pieces, one behind the other.
use Rattle.std.proofs.Common.{◌≡◌, ℕ, suc, ◌+◌, ◌<◌, ◌≤◌, ◌∙◌, Bool, false, ◌⊎◌, inl, inr, List, [], ◌∷◌, ◌++◌, length, drop, get_or, ap, subst, arith}
use Rattle.std.specs.Prelude.{◌||◌, nat_lt}
use Rattle.std.specs.List.{AllByRecursion, flat_map}
use Rattle.std.proofs.Math.ListN.{drop_of_length-le}
use Rattle.std.proofs.Math.Seq.{drop-cons}
use Rattle.std.proofs.lemmas.Bool.{cases_lt, lt-ltb}
use Rattle.lrs_element.specs.Course.{course_of, is_too_long, piece_count, IsFewest}
use Rattle.lrs_element.specs.Pieces.{piece_len, IsFilled}
use Rattle.lrs_element.specs.declared.link.Ground.{Ground}
use Rattle.lrs_element.specs.declared.link.Piece.{Piece}
use Rattle.lrs_report_lists.specs.PlacedPieces.{placed_from}

-- what is left of a list begins with what stands at its place
next_at : {A : Type 0} (i : ℕ) (xs : List A) (d : A) → i < length xs → drop i xs ≡ get_or xs i d ∷ drop (i + 1) xs
next_at i xs d low =
    let n : suc i ≡ i + 1 = omega arith in
    drop-cons xs i d low ∙ ap (λ k. get_or xs i d ∷ drop k xs) n

module _ (line : ℕ × Piece → List ℕ) (ps : List Piece) where
  -- the text of the pieces from a place on, which begins at a chainage
  abbrev pub text_from : ℕ → ℕ → List ℕ
  text_from at i = flat_map line (placed_from at (drop i ps))

  -- it is the line of the next piece, and the text of those behind it
  pub text_next : (i at : ℕ) (d : Piece) → i < length ps → text_from at i ≡ line (at, get_or ps i d) ++ text_from (at + piece_len (get_or ps i d)) (i + 1)
  text_next i at d low = ap (λ qs. flat_map line (placed_from at qs)) (next_at i ps d low)

  pub text_end : (i at : ℕ) → length ps ≤ i → text_from at i ≡ []
  text_end i at high = ap (λ qs. flat_map line (placed_from at qs)) (drop_of_length-le ps high)

-- the next piece has a millimetre, and so have those behind it
pub filled_next : (i : ℕ) (ps : List Piece) (d : Piece) → i < length ps → AllByRecursion IsFilled (drop i ps) → IsFilled (get_or ps i d) × AllByRecursion IsFilled (drop (i + 1) ps)
filled_next i ps d low all = subst (λ (qs : List Piece). AllByRecursion IsFilled qs) (next_at i ps d low) all

few_of : (n : ℕ) (b : Bool) → (nat_lt 1_000 n || b) ≡ false → n ≤ 1_000
few_of n b h = by (cases_lt 1_000 n)
  where
    by : (1_000 < n) ⊎ (n ≤ 1_000) → n ≤ 1_000
    by (inl l) = absurd (cc (ap (λ t. t || b) (lt-ltb 1_000 n l), h))
    by (inr l) = l

-- a course has at most 1,000 pieces
pub few_pieces : (course : List Ground) (ps : List Piece) → course_of ps ≡ course → IsFewest ps → is_too_long course ≡ false → length ps ≤ 1_000
few_pieces course ps same fewest limits =
    let count = fewest.fewest ∙ ap piece_count same in
    let few = few_of (piece_count course) _ limits in
    omega (arith, count, few)
