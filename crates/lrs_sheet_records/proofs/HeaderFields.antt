-- The fields of a header, and of a record of a survey.
use Rattle.std.proofs.Common.{◌≡◌, ℕ, zero, suc, ◌+◌, ◌-◌, ◌≤◌, ◌<◌, List, [], ◌∷◌, Bool, true, false, length, take, drop, refl, sym, ap, ◌∙◌, arith}
use Rattle.std.specs.Prelude.{codes, nat_eq, not}
use Rattle.std.specs.Str.{bytes_eq}
use Rattle.std.proofs.lemmas.Slice.Eq.{bytes_eq-Decides}
use Rattle.std.specs.List.{starts_with}
use Rattle.std.proofs.lemmas.Bool.Decides.{nat_tests}
use Rattle.std.proofs.lemmas.List.{take_all}
use Rattle.csv.specs.Reading.{is_bom, strip_bom}
use Rattle.csv.specs.Records.{field_at}
use Rattle.lrs_sheet_records.specs.Records.{text_at}
use Rattle.lrs_sheet_records.specs.Surveys.{as_edit}
use Rattle.lrs_sheet_records.specs.Kinds.{without_mark}

marked : (a b c : ℕ) (rest : List ℕ) (t : Bool) → is_bom a b c ≡ t → starts_with nat_eq (a ∷ b ∷ c ∷ rest) (239 ∷ 187 ∷ 191 ∷ []) ≡ t
marked a b c rest true e = grind (arith, nat_tests)
marked a b c rest false e = grind (arith, nat_tests)

-- a text that begins with the mark
pub strip-marked : (text : List ℕ) → starts_with nat_eq text (239 ∷ 187 ∷ 191 ∷ []) ≡ true → take (length text - 3) (drop 3 text) ≡ strip_bom text
unfolding strip_bom
strip-marked [] h = cc h
strip-marked (a ∷ []) h = grind (arith, nat_tests)
strip-marked (a ∷ b ∷ []) h = grind (arith, nat_tests)
strip-marked (a ∷ b ∷ c ∷ rest) h = by (is_bom a b c) refl
  where
    by : (t : Bool) → is_bom a b c ≡ t → take (length (a ∷ b ∷ c ∷ rest) - 3) rest ≡ strip_bom (a ∷ b ∷ c ∷ rest)
    by true e = rw e (ap (λ (n : ℕ). take n rest) (omega arith) ∙ take_all (length rest) rest (omega arith))
    by false e = cc (sym h ∙ marked a b c rest false e)

-- a text that does not
pub strip-unmarked : (text : List ℕ) → starts_with nat_eq text (239 ∷ 187 ∷ 191 ∷ []) ≡ false → text ≡ strip_bom text
unfolding strip_bom
strip-unmarked [] h = refl
strip-unmarked (a ∷ []) h = refl
strip-unmarked (a ∷ b ∷ []) h = refl
strip-unmarked (a ∷ b ∷ c ∷ rest) h = by (is_bom a b c) refl
  where
    by : (t : Bool) → is_bom a b c ≡ t → (a ∷ b ∷ c ∷ rest) ≡ strip_bom (a ∷ b ∷ c ∷ rest)
    by true e = cc (sym h ∙ marked a b c rest true e)
    by false e = rw e refl

-- two lists with the same field at each place
pub same-fields : (xs ys : List (List ℕ)) → length xs ≡ length ys → ((i : ℕ) → i < length ys → text_at xs i ≡ text_at ys i) → xs ≡ ys
unfolding field_at
same-fields [] [] n h = refl
same-fields [] (y ∷ ys) n h = absurd (omega arith)
same-fields (x ∷ xs) [] n h = absurd (omega arith)
same-fields (x ∷ xs) (y ∷ ys) n h =
    let first : x ≡ y = h 0 (omega arith) in
    let others : xs ≡ ys = same-fields xs ys (omega arith) (λ i below. h (suc i) (omega arith)) in
    rw (first, others) refl

module _ (header : List (List ℕ)) where
  -- as many fields as the header has, with its names
  pub header-from : (fields : List (List ℕ)) → 1 ≤ length header → length fields ≡ length header → strip_bom (text_at fields 0) ≡ text_at header 0
      → ((i : ℕ) → 1 ≤ i → i < length header → text_at fields i ≡ text_at header i) → without_mark fields ≡ header
  unfolding field_at
  header-from [] some n first others = absurd (omega (arith, some, n))
  header-from (f ∷ fs) some n first others = same-fields (strip_bom f ∷ fs) header n at
    where
      at : (i : ℕ) → i < length header → text_at (strip_bom f ∷ fs) i ≡ text_at header i
      at zero below = first
      at (suc i) below = others (suc i) (omega arith) below

  -- what a header has
  pub header-first : (fields : List (List ℕ)) → without_mark fields ≡ header → strip_bom (text_at fields 0) ≡ text_at header 0
  unfolding field_at strip_bom
  header-first [] h = ap (λ (xs : List (List ℕ)). text_at xs 0) h
  header-first (f ∷ fs) h = ap (λ (xs : List (List ℕ)). text_at xs 0) h

  pub header-other : (fields : List (List ℕ)) (i : ℕ) → without_mark fields ≡ header → 1 ≤ i → text_at fields i ≡ text_at header i
  unfolding field_at
  header-other [] i h low = ap (λ (xs : List (List ℕ)). text_at xs i) h
  header-other (f ∷ fs) zero h low = absurd (omega arith)
  header-other (f ∷ fs) (suc i) h low = ap (λ (xs : List (List ℕ)). text_at xs (suc i)) h

  pub header-length : (fields : List (List ℕ)) → without_mark fields ≡ header → length fields ≡ length header
  header-length [] h = ap length h
  header-length (f ∷ fs) h = ap length h

-- two texts that differ are not equal
pub not-ne : (xs ys : List ℕ) (r : Bool) → r ≡ not (bytes_eq xs ys) → r ≡ true → xs ≡ ys → false ≡ true
not-ne xs ys r e t same =
    let equal : bytes_eq xs ys ≡ true = (bytes_eq-Decides xs ys).1 same in
    sym (e ∙ ap not equal) ∙ t

-- a field of a survey stands one place further in an edit sheet
pub survey-first : (fields : List (List ℕ)) → text_at (as_edit fields) 0 ≡ text_at fields 0
unfolding field_at
survey-first [] = refl
survey-first (key ∷ others) = refl

pub survey-verb : (fields : List (List ℕ)) → (length fields ≡ 0 → ⊥) → text_at (as_edit fields) 1 ≡ codes "enter"
unfolding field_at
survey-verb [] some = absurd (some refl)
survey-verb (key ∷ others) some = refl

pub survey-none : (fields : List (List ℕ)) (i : ℕ) → length fields ≡ 0 → text_at (as_edit fields) i ≡ []
unfolding field_at
survey-none [] i none = refl
survey-none (key ∷ others) i none = absurd (omega arith)

pub survey-other : (fields : List (List ℕ)) (i : ℕ) → 2 ≤ i → text_at (as_edit fields) i ≡ text_at fields (i - 1)
unfolding field_at
survey-other [] i low = refl
survey-other (key ∷ others) zero low = absurd (omega arith)
survey-other (key ∷ others) (suc zero) low = absurd (omega arith)
survey-other (key ∷ others) (suc (suc i)) low =
    let same : suc (suc i) - 1 ≡ suc i = omega arith in
    rw same refl

-- a record of a survey has one field more in an edit sheet
pub survey-length : (fields : List (List ℕ)) (most : ℕ) → length fields ≤ most → length (as_edit fields) ≤ most + 1
survey-length [] most few = omega arith
survey-length (key ∷ others) most few = omega (arith, few)
