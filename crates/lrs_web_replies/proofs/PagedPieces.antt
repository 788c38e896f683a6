-- What is told of pieces, one behind the other, as it is added.
use Rattle.std.proofs.Common.{◌≡◌, ℕ, suc, ◌+◌, ◌<◌, ◌≤◌, List, [], ◌∷◌, ◌++◌, length, drop, get_or, ap, ◌∙◌, arith}
use Rattle.std.specs.List.{flat_map}
use Rattle.std.proofs.Math.ListN.{drop_of_length-le}
use Rattle.std.proofs.Math.Seq.{drop-cons}
use Rattle.serde_json.specs.Data.{Data}
use Rattle.lrs_element.specs.Pieces.{piece_len}
use Rattle.lrs_element.specs.declared.link.Piece.{Piece}
use Rattle.lrs_report_lists.specs.PlacedPieces.{placed_from}

next_at : {A : Type 0} (i : ℕ) (xs : List A) (d : A) → i < length xs → drop i xs ≡ get_or xs i d ∷ drop (i + 1) xs
next_at i xs d low =
    let n : suc i ≡ i + 1 = omega arith in
    drop-cons xs i d low ∙ ap (λ k. get_or xs i d ∷ drop k xs) n

module _ (items : ℕ × Piece → List Data) (ps : List Piece) where
  -- of the pieces from a place on, which begins at a chainage
  abbrev pub items_from : ℕ → ℕ → List Data
  items_from at i = flat_map items (placed_from at (drop i ps))

  -- it is what is told of the next piece, and of those behind it
  pub items_next : (i at : ℕ) (d : Piece) → i < length ps → items_from at i ≡ items (at, get_or ps i d) ++ items_from (at + piece_len (get_or ps i d)) (i + 1)
  items_next i at d low = ap (λ qs. flat_map items (placed_from at qs)) (next_at i ps d low)

  pub items_end : (i at : ℕ) → length ps ≤ i → items_from at i ≡ []
  items_end i at high = ap (λ qs. flat_map items (placed_from at qs)) (drop_of_length-le ps high)
