-- What rows hold of links: their lines, by their parts, and that they hold the same there.
use Rattle.std.proofs.Common.{◌≡◌, ℕ, ◌+◌, ◌-◌, ◌<◌, ◌≤◌, ◌∙◌, min, Bool, true, false, ◌&&◌, if◌then◌else◌, nat_le, List, [], ◌∷◌, ◌++◌, Some, None, append_assoc, refl, sym, arith}
use Rattle.std.specs.Prelude.{nat_lt}
use Rattle.std.proofs.lemmas.Bool.{and_from, and_parts, both_ways, le-leb, leb-true, lt-ltb, ltb-true}
use Rattle.lrs_element.specs.declared.link.Piece.{Piece}
use Rattle.lrs_element.specs.Pieces.{ground_of, piece_len}
use Rattle.lrs_events.specs.declared.side.LinkSide.TheVariants.{Left, Right}
use Rattle.lrs_events.specs.declared.side.Side.TheVariants.{L, R, B}
use Rattle.lrs_events.specs.declared.span.Span.{Span}
use Rattle.lrs_report_lists.specs.Laws.{RowsHoldTheSameOnLinks, SidesAreSeenAlongLinks, has_mm}
use Rattle.lrs_report_lists.specs.LinkRows.{stretch_between}
use Rattle.lrs_report_lists.specs.Lines.{csv_line}

pub link_row_parts : (a b c d e f g h i : List ℕ)
    → (((a ++ 44 ∷ (b ++ 44 ∷ [])) ++ (c ++ 44 ∷ (d ++ 44 ∷ []))) ++ (e ++ 44 ∷ (f ++ 44 ∷ (g ++ 44 ∷ (h ++ 44 ∷ []))))) ++ (i ++ 10 ∷ []) ≡ csv_line (a ∷ b ∷ c ∷ d ∷ e ∷ f ∷ g ∷ h ∷ i ∷ [])
link_row_parts a b c d e f g h i = simp append_assoc

-- ---- a row holds the same on links

same_truth : (a b : Bool) → (a ≡ true → b ≡ true) → (b ≡ true → a ≡ true) → a ≡ b
same_truth true b there back = sym (there refl)
same_truth false true there back = back refl
same_truth false false there back = refl

-- places low up to high of a piece, on the link
on_link : (f : Bool) (a b low high k : ℕ) → low < high → high ≤ b - a → k < b - a
    → (nat_le (if f then a + low else b - high) (if f then a + k else b - 1 - k) && nat_lt (if f then a + k else b - 1 - k) (if f then a + high else b - low)) ≡ (nat_le low k && nat_lt k high)
on_link true a b low high k some within inside =
    same_truth _ _
    (λ h. let x = and_parts _ _ h in let u = leb-true (a + low) (a + k) x.0 in let v = ltb-true (a + k) (a + high) x.1 in and_from _ _ (le-leb low k (omega arith)) (lt-ltb k high (omega arith)))
    (λ h. let x = and_parts _ _ h in let u = leb-true low k x.0 in let v = ltb-true k high x.1 in and_from _ _ (le-leb (a + low) (a + k) (omega arith)) (lt-ltb (a + k) (a + high) (omega arith)))
on_link false a b low high k some within inside =
    same_truth _ _
    (λ h. let x = and_parts _ _ h in let u = leb-true (b - high) (b - 1 - k) x.0 in let v = ltb-true (b - 1 - k) (b - low) x.1 in and_from _ _ (le-leb low k (omega arith)) (lt-ltb k high (omega arith)))
    (λ h. let x = and_parts _ _ h in let u = leb-true low k x.0 in let v = ltb-true k high x.1 in and_from _ _ (le-leb (b - high) (b - 1 - k) (omega arith)) (lt-ltb (b - 1 - k) (b - low) (omega arith)))

-- a place of a piece that begins at a chainage, along the route
along_route : (from to start len k : ℕ) → k < len → (nat_le (from - start) k && nat_lt k (min (to - start) len)) ≡ (nat_le from (start + k) && nat_lt (start + k) to)
along_route from to start len k inside =
    same_truth _ _
    (λ h. let x = and_parts _ _ h in let u = leb-true (from - start) k x.0 in let v = ltb-true k (min (to - start) len) x.1 in and_from _ _ (le-leb from (start + k) (omega arith)) (lt-ltb (start + k) to (omega arith)))
    (λ h. let x = and_parts _ _ h in let u = leb-true from (start + k) x.0 in let v = ltb-true (start + k) to x.1 in and_from _ _ (le-leb (from - start) k (omega arith)) (lt-ltb k (min (to - start) len) (omega arith)))

none_between : (low high k : ℕ) → nat_lt low high ≡ false → false ≡ (nat_le low k && nat_lt k high)
none_between low high k none =
    same_truth _ _ (λ h. absurd (both_ways false refl h))
    (λ h. let x = and_parts _ _ h in let u = leb-true low k x.0 in let v = ltb-true k high x.1 in absurd (both_ways (nat_lt low high) none (lt-ltb low high (omega arith))))

held : (r : Span) (p : Piece) (low high k : ℕ) → high ≤ piece_len p → k < piece_len p → (b : Bool) → nat_lt low high ≡ b
    → has_mm (if b then Some (stretch_between r.side p low high) else None) (ground_of p k).mm ≡ (nat_le low k && nat_lt k high)
held r p low high k within inside true is = on_link p.forward p.from p.to low high k (ltb-true low high is) within inside
held r p low high k within inside false is = none_between low high k is

pub rows_hold_same : RowsHoldTheSameOnLinks
rows_hold_same r start p k inside =
    let high = min (r.to - start) (piece_len p) in
    held r p (r.from - start) high k (omega arith) inside (nat_lt (r.from - start) high) refl ∙ along_route r.from r.to start (piece_len p) k inside

pub sides_seen : SidesAreSeenAlongLinks
sides_seen true L Left = refl
sides_seen true L Right = refl
sides_seen true R Left = refl
sides_seen true R Right = refl
sides_seen true B Left = refl
sides_seen true B Right = refl
sides_seen false L Left = refl
sides_seen false L Right = refl
sides_seen false R Left = refl
sides_seen false R Right = refl
sides_seen false B Left = refl
sides_seen false B Right = refl
