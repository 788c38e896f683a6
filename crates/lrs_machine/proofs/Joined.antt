-- Texts that are joined by a byte which they lack can be told apart.
use Rattle.std.proofs.Common.{◌≡◌, ℕ, Bool, true, false, ◌&&◌, List, [], ◌∷◌, ◌++◌, refl, sym, ap, ◌∙◌, subst}
use Rattle.std.specs.Prelude.{◌==◌, not, ⊤}
use Rattle.std.specs.List.{list_all, join_with_byte}
use Rattle.std.proofs.lemmas.Bool.{false≢true, and_parts, and_from, eqb-true}
use Rattle.std.proofs.lemmas.List.Folds.{list_all-append}
use Rattle.lrs_machine.specs.Lines.{Text}

-- what stands before the first byte that fails the test, and the rest
pub split_at_first : (test : ℕ → Bool) (a b : Text) (c d : ℕ) (x y : Text) → list_all test a ≡ true → list_all test b ≡ true → test c ≡ false → test d ≡ false
    → a ++ c ∷ x ≡ b ++ d ∷ y → (a ≡ b) × (c ∷ x ≡ d ∷ y)
split_at_first test [] [] c d x y p q u v e = (refl, e)
split_at_first test [] (g ∷ b) c d x y p q u v e =
    let first : c ≡ g = cc in
    let passes : test g ≡ true = (and_parts (test g) (list_all test b) q).0 in
    absurd (false≢true (sym u ∙ ap test first ∙ passes))
split_at_first test (f ∷ a) [] c d x y p q u v e =
    let first : f ≡ d = cc in
    let passes : test f ≡ true = (and_parts (test f) (list_all test a) p).0 in
    absurd (false≢true (sym v ∙ sym (ap test first) ∙ passes))
split_at_first test (f ∷ a) (g ∷ b) c d x y p q u v e =
    let first : f ≡ g = cc in
    let rest : a ++ c ∷ x ≡ b ++ d ∷ y = cc in
    let r = split_at_first test a b c d x y (and_parts (test f) (list_all test a) p).1 (and_parts (test g) (list_all test b) q).1 u v rest in
    (rw (first, r.0) refl, r.1)

-- a byte that is not c
abbrev pub is_other : ℕ → ℕ → Bool
is_other c byte = not (byte == c)

-- a text without the byte c
abbrev pub Lacks : ℕ → Text → Type 0
Lacks c text = list_all (is_other c) text ≡ true

-- texts without it
abbrev pub AllLack : ℕ → List Text → Type 0
AllLack c [] = ⊤
AllLack c (x ∷ xs) = Lacks c x × AllLack c xs

-- a text that has the byte does not lack it
pub no_byte : (c : ℕ) (x y : Text) → is_other c c ≡ false → Lacks c (x ++ c ∷ y) → ⊥
no_byte c x y u h =
    let both : (list_all (is_other c) x && list_all (is_other c) (c ∷ y)) ≡ true = sym (list_all-append (is_other c) x (c ∷ y)) ∙ h in
    let second : list_all (is_other c) (c ∷ y) ≡ true = (and_parts (list_all (is_other c) x) (list_all (is_other c) (c ∷ y)) both).1 in
    false≢true (sym u ∙ (and_parts (is_other c c) (list_all (is_other c) y) second).0)

-- joined texts that are equal have equal parts
pub joined_apart : (c : ℕ) (x y : Text) (xs ys : List Text) → is_other c c ≡ false → AllLack c (x ∷ xs) → AllLack c (y ∷ ys) → join_with_byte c (x ∷ xs) ≡ join_with_byte c (y ∷ ys) → x ∷ xs ≡ y ∷ ys
joined_apart c x y [] [] u p q e = ap (λ (text : Text). text ∷ []) e
joined_apart c x y [] (z ∷ ys) u p q e = absurd (no_byte c y (join_with_byte c (z ∷ ys)) u (let P : Text → Type 0 = Lacks c in subst P e p.0))
joined_apart c x y (w ∷ xs) [] u p q e = absurd (no_byte c x (join_with_byte c (w ∷ xs)) u (let P : Text → Type 0 = Lacks c in subst P (sym e) q.0))
joined_apart c x y (w ∷ xs) (z ∷ ys) u p q e =
    let r = split_at_first (is_other c) x y c c (join_with_byte c (w ∷ xs)) (join_with_byte c (z ∷ ys)) p.0 q.0 u u e in
    let rest : join_with_byte c (w ∷ xs) ≡ join_with_byte c (z ∷ ys) = let whole = r.1 in cc in
    let more = joined_apart c w z xs ys u p.1 q.1 rest in
    rw (r.0, more) refl

-- a byte that passes a test is not one that fails it
other_from : (test : ℕ → Bool) (c byte : ℕ) → test c ≡ false → test byte ≡ true → is_other c byte ≡ true
other_from test c byte u h =
    elim (byte == c) as (λ b. (byte == c) ≡ b → not b ≡ true) [
      | true ↦ λ e. absurd (false≢true (sym u ∙ sym (ap test (eqb-true byte c e)) ∙ h))
      | false ↦ λ e. refl
    ] refl

-- a text of an alphabet without the byte lacks it
pub lacks_from : (test : ℕ → Bool) (c : ℕ) (text : Text) → test c ≡ false → list_all test text ≡ true → Lacks c text
lacks_from test c [] u h = refl
lacks_from test c (byte ∷ rest) u h =
    let both = and_parts (test byte) (list_all test rest) h in
    and_from (is_other c byte) (list_all (is_other c) rest) (other_from test c byte u both.0) (lacks_from test c rest u both.1)

-- texts that lack it, one after the other
pub lacks-append : (c : ℕ) (x y : Text) → Lacks c x → Lacks c y → Lacks c (x ++ y)
lacks-append c x y p q = list_all-append (is_other c) x y ∙ and_from (list_all (is_other c) x) (list_all (is_other c) y) p q

-- parts that lack a byte, joined by another
pub lacks-joined : (c d : ℕ) (xs : List Text) → is_other c d ≡ true → AllLack c xs → Lacks c (join_with_byte d xs)
lacks-joined c d [] u h = refl
lacks-joined c d (x ∷ []) u h = h.0
lacks-joined c d (x ∷ y ∷ xs) u h =
    lacks-append c x (d ∷ join_with_byte d (y ∷ xs)) h.0 (and_from (is_other c d) (list_all (is_other c) (join_with_byte d (y ∷ xs))) u (lacks-joined c d (y ∷ xs) u h.1))

-- whether the first byte is c
abbrev pub starts_with : ℕ → Text → Bool
starts_with c [] = false
starts_with c (byte ∷ rest) = byte == c

-- equal texts answer every test alike
pub differ : (test : Text → Bool) (x y : Text) → x ≡ y → test x ≡ true → test y ≡ false → ⊥
differ test x y e h u = false≢true (sym u ∙ sym (ap test e) ∙ h)

-- a text with a byte is not empty
pub not_empty : (c : ℕ) (x y : Text) → x ++ c ∷ y ≡ [] → ⊥
not_empty c [] y e = cc
not_empty c (byte ∷ x) y e = cc
