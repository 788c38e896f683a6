-- Lists whose text depends on what stood before: labels, and the bands of classes.
use Rattle.std.proofs.Common.{◌≡◌, ℕ, zero, suc, ◌+◌, ◌<◌, ◌∙◌, Option, List, [], ◌∷◌, ◌++◌, length, ◌≤◌, drop, get_or, append_assoc, append-nil, refl, ap, sym, subst, arith}
use Rattle.std.proofs.Math.ListN.{drop_of_length-le}
use Rattle.std.proofs.Math.Seq.{drop-cons}
use Rattle.std.specs.Io.KnownBytes.{Appends}
use Rattle.lrs_report.specs.declared.diagrams.labels.LabelPlace.{LabelPlace}
use Rattle.lrs_report.specs.declared.diagrams.diagram.ClassBands.{ClassBands}
use Rattle.lrs_report.specs.declared.diagrams.scale.Scale.{Scale}
use Rattle.lrs_report.specs.Drawings.Labels.{labels_text, next_free, text_if}
use Rattle.lrs_report.specs.Drawings.Bands.{class_text, classes_text, pitch}

-- what is left of a list begins with the element at its place
pub next_of : {A : Type 0} (i : ℕ) (xs : List A) (x : A) → i < length xs → x ≡ get_or xs i x → drop i xs ≡ x ∷ drop (i + 1) xs
next_of i xs x low is =
    let n : suc i ≡ i + 1 = omega arith in
    drop-cons xs i x low ∙ ap (λ z. z ∷ drop (suc i) xs) (sym is) ∙ ap (λ k. x ∷ drop k xs) n

-- a label more
pub label_more : {L : Type 0} (place : L → LabelPlace) (text : L → List ℕ) (i free : ℕ) (ls : List L) (l : L) (done whole : List ℕ) → i < length ls → l ≡ get_or ls i l
    → done ++ labels_text place text free (drop i ls) ≡ whole
    → (done ++ text_if free (place l) (text l)) ++ labels_text place text (next_free free (place l)) (drop (i + 1) ls) ≡ whole
label_more place text i free ls l done whole low is all =
    append_assoc done (text_if free (place l) (text l)) (labels_text place text (next_free free (place l)) (drop (i + 1) ls))
    ∙ ap (λ rest. done ++ labels_text place text free rest) (sym (next_of i ls l low is)) ∙ all

-- the bands of a class more
pub class_more : (s : Scale) (shift i top : ℕ) (cs : List ClassBands) (c : ClassBands) (done whole : List ℕ) → i < length cs → c ≡ get_or cs i c
    → done ++ classes_text s shift top (drop i cs) ≡ whole
    → (done ++ class_text s shift top c) ++ classes_text s shift (top + pitch) (drop (i + 1) cs) ≡ whole
class_more s shift i top cs c done whole low is all =
    append_assoc done (class_text s shift top c) (classes_text s shift (top + pitch) (drop (i + 1) cs))
    ∙ ap (λ rest. done ++ classes_text s shift top rest) (sym (next_of i cs c low is)) ∙ all

-- behind the last label nothing is left
pub labels_end : {L : Type 0} (place : L → LabelPlace) (text : L → List ℕ) (i free : ℕ) (ls : List L) (done whole : List ℕ) → length ls ≤ i
    → done ++ labels_text place text free (drop i ls) ≡ whole → done ≡ whole
labels_end place text i free ls done whole high all = sym (append-nil done) ∙ ap (λ rest. done ++ labels_text place text free rest) (sym (drop_of_length-le ls high)) ∙ all

pub classes_end : (s : Scale) (shift i top : ℕ) (cs : List ClassBands) (done whole : List ℕ) → length cs ≤ i
    → done ++ classes_text s shift top (drop i cs) ≡ whole → done ≡ whole
classes_end s shift i top cs done whole high all = sym (append-nil done) ∙ ap (λ rest. done ++ classes_text s shift top rest) (sym (drop_of_length-le cs high)) ∙ all
