-- What is pushed of pieces, one behind the other.
use Rattle.std.proofs.Common.{◌≡◌, ℕ, zero, suc, ◌+◌, ◌<◌, ◌≤◌, List, [], ◌∷◌, ◌++◌, length, drop, get_or, append_assoc, append-nil, refl, sym, ap, ◌∙◌, arith}
use Rattle.std.specs.List.{flat_map}
use Rattle.lrs_element.specs.declared.link.Piece.{Piece}
use Rattle.lrs_element.specs.Pieces.{piece_len}
use Rattle.lrs_report_lists.specs.PlacedPieces.{placed_from}

module _ {A : Type 0} (f : ℕ × Piece → List A) where
  -- what is given by the pieces from the i-th on, which begins there
  abbrev pub given_from : List Piece → ℕ → ℕ → List A
  given_from ps at i = flat_map f (placed_from at (drop i ps))

  next_by : (ps : List Piece) (i at : ℕ) (d : Piece) → i < length ps → given_from ps at i ≡ f (at, get_or ps i d) ++ given_from ps (at + piece_len (get_or ps i d)) (suc i)
  next_by [] i at d h = absurd (omega (arith, h))
  next_by (p ∷ ps) zero at d h = refl
  next_by (p ∷ ps) (suc i) at d h = next_by ps i at d (omega (arith, h))

  pub given_next : (ps : List Piece) (i at : ℕ) (d : Piece) → i < length ps → given_from ps at i ≡ f (at, get_or ps i d) ++ given_from ps (at + piece_len (get_or ps i d)) (i + 1)
  given_next ps i at d h = let n : suc i ≡ i + 1 = omega arith in next_by ps i at d h ∙ ap (λ k. f (at, get_or ps i d) ++ given_from ps (at + piece_len (get_or ps i d)) k) n

  pub given_end : (ps : List Piece) (i at : ℕ) → length ps ≤ i → given_from ps at i ≡ []
  given_end [] zero at h = refl
  given_end [] (suc i) at h = refl
  given_end (p ∷ ps) zero at h = absurd (omega (arith, h))
  given_end (p ∷ ps) (suc i) at h = given_end ps i at (omega (arith, h))

pub more : {A : Type 0} (start now new one left rest : List A) → now ++ left ≡ start → left ≡ one ++ rest → new ≡ now ++ one → new ++ rest ≡ start
more start now new one left rest h e w = ap (λ z. z ++ rest) w ∙ append_assoc now one rest ∙ ap (λ z. now ++ z) (sym e) ∙ h

pub none_more : {A : Type 0} (start now left : List A) → now ++ left ≡ start → left ≡ [] → now ≡ start
none_more start now left h e = sym (append-nil now) ∙ ap (λ z. now ++ z) (sym e) ∙ h
