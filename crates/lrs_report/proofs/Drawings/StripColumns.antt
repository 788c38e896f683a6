-- Texts at the right of a column, and the lines of a strip.
use Rattle.std.proofs.Common.{◌≡◌, ℕ, zero, suc, ◌-◌, ◌/◌, ◌%◌, List, [], ◌∷◌, ◌++◌, length, take, drop, replicate, append_assoc, append-nil, refl, sym, ap, ◌∙◌, arith}
use Rattle.std.specs.Prelude.{min, false}
use Rattle.std.specs.List.{repeat}
use Rattle.std.specs.Fmt.{decimal, padded_integral, format_spec, char_count}
use Rattle.std.proofs.lemmas.Fmt.{decimal_digit}
use Rattle.std.proofs.lemmas.List.{drop-replicate, take-replicate, length-append}
use Rattle.std.proofs.lemmas.Str.{encode_ascii}
use Rattle.std.proofs.Math.Utf8.{encode}
use Rattle.lrs_measure.specs.FractionTexts.{metres_text}
use Rattle.lrs_report.specs.Drawings.Strips.{aligned}

-- the last of twelve spaces, from as many on as a text is long
pub spaces_before : (n m : ℕ) → m ≡ min n 12 → take {A = ℕ} (12 - m) (drop {A = ℕ} m (replicate 12 32)) ≡ replicate (12 - n) 32
spaces_before n m e = ap (take (12 - m)) (drop-replicate m 12 32) ∙ take-replicate (12 - m) (12 - m) 32 (omega arith) ∙ ap (λ k. replicate k 32) (omega (arith, e))

spaces_are : (n : ℕ) → repeat {A = ℕ} n (32 ∷ []) ≡ replicate n 32
spaces_are zero = refl
spaces_are (suc n) = ap (λ z. 32 ∷ z) (spaces_are n)

filled : (a b c : ℕ) (space text : List ℕ) → a ≡ c → b ≡ 0 → space ≡ 32 ∷ [] → repeat a space ++ [] ++ [] ++ [] ++ (text ++ repeat b space) ≡ replicate c 32 ++ text
filled a b c space text e f g =
    (λ i. repeat (e i) (g i) ++ [] ++ [] ++ [] ++ (text ++ repeat (f i) (g i)))
    ∙ (simp append-nil)
    ∙ ap (λ z. z ++ text) (spaces_are c)

-- digits at the right of eight places
pub digits_aligned : (text : List ℕ) → padded_integral (format_spec 32 3 0 8 18446744073709551615) false [] text ≡ replicate (8 - length text) 32 ++ text
unfolding padded_integral char_count
digits_aligned text =
    let a : 8 - length text - 0 - 0 ≡ 8 - length text = omega arith in
    let b : (8 - length text - 0 - 0) - (8 - length text - 0 - 0) ≡ 0 = omega arith in
    filled (8 - length text - 0 - 0) ((8 - length text - 0 - 0) - (8 - length text - 0 - 0)) (8 - length text) (encode 32) text a b (encode_ascii 32 (omega arith))

digit_parts : (whole a b c : List ℕ) → whole ++ 46 ∷ a ++ b ++ c ≡ whole ++ 46 ∷ (a ++ (b ++ c))
digit_parts whole a b c = simp append_assoc

-- metres at the right of a column
pub metres_aligned : (mm : ℕ) (text : List ℕ) → text ≡ replicate (8 - length (decimal (mm / 1000))) 32 ++ decimal (mm / 1000)
    → text ++ 46 ∷ (decimal (mm / 100 % 10) ++ (decimal (mm / 10 % 10) ++ decimal (mm % 10))) ≡ aligned (metres_text mm)
metres_aligned mm text e =
    let whole = decimal (mm / 1000) in
    let first = decimal (mm / 100 % 10) in
    let second = decimal (mm / 10 % 10) in
    let third = decimal (mm % 10) in
    let rest = 46 ∷ (first ++ (second ++ third)) in
    let same : metres_text mm ≡ whole ++ rest = digit_parts whole first second third in
    let long = ap length same in
    let a = ap length (decimal_digit (mm / 100 % 10) (omega arith)) in
    let b = ap length (decimal_digit (mm / 10 % 10) (omega arith)) in
    let c = ap length (decimal_digit (mm % 10) (omega arith)) in
    let l = length-append whole rest in
    let m = length-append first (second ++ third) in
    let n = length-append second third in
    let k : 8 - length whole ≡ 12 - length (metres_text mm) = omega (arith, long, a, b, c, l, m, n) in
    ap (λ z. z ++ rest) (e ∙ ap (λ z. replicate z 32 ++ whole) k) ∙ append_assoc (replicate (12 - length (metres_text mm)) 32) whole rest ∙ ap (λ z. replicate (12 - length (metres_text mm)) 32 ++ z) (sym same)

-- ---- lines

pub title_parts : (name side metres : List ℕ) → name ++ 32 ∷ (side ++ 32 ∷ (metres ++ 10 ∷ [])) ≡ name ++ 32 ∷ side ++ 32 ∷ metres ++ 10 ∷ []
title_parts name side metres = simp append_assoc

pub heading_parts : (from to others : List ℕ) → ((from ++ to) ++ others) ++ 10 ∷ [] ≡ from ++ (to ++ others) ++ 10 ∷ []
heading_parts from to others = simp append_assoc

pub segment_parts : (from to others : List ℕ) → (((from ++ 32 ∷ []) ++ to) ++ others) ++ 10 ∷ [] ≡ from ++ ((32 ∷ to) ++ others) ++ 10 ∷ []
segment_parts from to others = simp append_assoc
