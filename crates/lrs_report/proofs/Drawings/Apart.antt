-- Labels that are written stand apart.
use Rattle.std.proofs.Common.{◌≡◌, ℕ, ◌≤◌, ◌∙◌, Bool, true, false, List, [], ◌∷◌, ◌++◌, map, refl, ap, sym, subst, arith}
use Rattle.std.specs.Prelude.{◌&&◌, nat_le, if◌then◌else◌, ⊤}
use Rattle.std.specs.List.{flat_map}
use Rattle.std.proofs.lemmas.Bool.{leb-true}
use Rattle.lrs_machine.specs.Lines.{Text}
use Rattle.lrs_report.specs.declared.diagrams.labels.LabelPlace.{LabelPlace}
use Rattle.lrs_report.specs.Drawings.Labels.{fits, label_text, labels_text, next_free, text_if}
use Rattle.lrs_report.specs.Drawings.Laws.{AreLabels, StandApart, fitting}

-- what fits begins where the row is free, and ends where it has to
room_of : (w a b : Bool) → (w && (a && b)) ≡ true → (a ≡ true) × (b ≡ true)
room_of true true true h = (refl, refl)
room_of true true false h = absurd (cc)
room_of true false b h = absurd (cc)
room_of false a b h = absurd (cc)

-- a label that fits stands before those behind it
one_more : {L : Type 0} (place : L → LabelPlace) (text : L → Text) (free : ℕ) (l : L) (ls : List L) → fits free (place l) ≡ true → AreLabels place text (place l).end ls → AreLabels place text free (l ∷ ls)
one_more {L} place text free l ls h behind =
    let room = room_of (place l).is_wanted (nat_le free (place l).start) (nat_le (place l).end (place l).limit) h in
    let Fitting : Bool → List L = λ (b : Bool). if b then l ∷ fitting place (place l).end ls else fitting place free ls in
    record {
      written = ap (λ b. (if b then label_text (place l).start (text l) else []) ++ labels_text place text (if b then (place l).end else free) ls) h
          ∙ ap (λ rest. label_text (place l).start (text l) ++ rest) behind.written
          ∙ sym (ap (λ b. flat_map (λ l'. label_text (place l').start (text l')) (Fitting b)) h);
      apart = subst (λ b. StandApart free (map place (Fitting b))) (sym h) (leb-true free (place l).start room.0, leb-true (place l).end (place l).limit room.1, behind.apart);
    }

-- one that does not fit is left out
none_more : {L : Type 0} (place : L → LabelPlace) (text : L → Text) (free : ℕ) (l : L) (ls : List L) → fits free (place l) ≡ false → AreLabels place text free ls → AreLabels place text free (l ∷ ls)
none_more {L} place text free l ls h others =
    let Fitting : Bool → List L = λ (b : Bool). if b then l ∷ fitting place (place l).end ls else fitting place free ls in
    record {
      written = ap (λ b. (if b then label_text (place l).start (text l) else []) ++ labels_text place text (if b then (place l).end else free) ls) h
          ∙ others.written
          ∙ sym (ap (λ b. flat_map (λ l'. label_text (place l').start (text l')) (Fitting b)) h);
      apart = subst (λ b. StandApart free (map place (Fitting b))) (sym h) others.apart;
    }

pub are_labels : {L : Type 0} (place : L → LabelPlace) (text : L → Text) (free : ℕ) (labels : List L) → AreLabels place text free labels
are_labels place text free [] = record { written = refl; apart = tt }
are_labels {L} place text free (l ∷ ls) = by (fits free (place l)) refl (are_labels place text (place l).end ls) (are_labels place text free ls)
  where
    by : (b : Bool) → fits free (place l) ≡ b → AreLabels place text (place l).end ls → AreLabels place text free ls → AreLabels place text free (l ∷ ls)
    by true h behind others = one_more place text free l ls h behind
    by false h behind others = none_more place text free l ls h others
