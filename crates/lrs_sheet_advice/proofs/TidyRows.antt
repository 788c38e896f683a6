-- The records of a text are tidy, or one of them is not.
use Rattle.std.proofs.Common.{◌≡◌, ◌∙◌, ℕ, Bool, true, false, List, [], ◌∷◌, ◌++◌, length, Option, Some, None, Result, Ok, Err, refl, sym, ap, subst, inl, inr}
use Rattle.std.specs.Prelude.{IfOk, IfSome, IsTrue, ◌↔◌}
use Rattle.std.specs.List.{AllByRecursion}
use Rattle.std.proofs.lemmas.List.{append-nil}
use Rattle.csv.specs.Machine.{Read, next_record}
use Rattle.csv.specs.Reading.{Reached, default_config, expected_len, strip_bom}
use Rattle.csv.specs.declared.parser.Config.{Config}
use Rattle.csv.specs.declared.parser.State.{State as Place}
use Rattle.csv.specs.declared.parser.State.TheVariants as st
use Rattle.csv.specs.declared.reader.Reader.{Reader}
use Rattle.lrs_machine.specs.Lines.{Text}
use Rattle.lrs_sheet_records.proofs.ReadRows.{gave-more, gave-none}
use Rattle.lrs_sheet_records.specs.Kinds.{IsHeader, width_of}
use Rattle.lrs_sheet_records.specs.Rows.{AreAll, BeginsWith, EndsAfter, Gave, HasRead, IsPlain, IsReadFault, NextDiffers}
use Rattle.lrs_sheet_records.specs.declared.fault.SheetFault.{SheetFault}
use Rattle.lrs_sheet_records.specs.declared.fault.SheetFault.TheVariants as fault
use Rattle.lrs_sheet_records.specs.declared.sheet.Sheet.{Sheet}
use Rattle.lrs_sheet_advice.specs.TidyReadings.{HasGivenTidy, TellsTidy}
use Rattle.lrs_sheet_advice.specs.TidySheets.{IsTidied, IsTidyRecord, IsTidyRow, IsTidySheet, IsUntidy}

-- ---- lists of records

one_more_all : (P : List Text → Type 0) (records : List (List Text)) (fields : List Text) → AllByRecursion P records → P fields → AllByRecursion P (records ++ fields ∷ [])
one_more_all P [] fields all p = (p, tt)
one_more_all P (r ∷ rs) fields all p = (all.0, one_more_all P rs fields all.1 p)

-- one among the first of them
one_of_all : (P : List Text → Type 0) (front : List (List Text)) (fields : List Text) (behind : List (List Text)) → AllByRecursion P ((front ++ fields ∷ []) ++ behind) → P fields
one_of_all P [] fields behind all = all.0
one_of_all P (r ∷ rs) fields behind all = one_of_all P rs fields behind all.1

-- ---- while they are looked at

pub nothing_given : {R : Type 0} (kind : Sheet) (rem : R → Option Text) (rows : Reader R) → IsPlain rows → expected_len rows ≡ Some (width_of kind) → HasGivenTidy kind rem rows rows
nothing_given kind rem rows plain width = record { records = []; plain = plain; width = width; gave = gave-none rem rows; tidy = tt }

pub given_next : {R : Type 0} (kind : Sheet) (rem : R → Option Text) (first now next : Reader R) → HasGivenTidy kind rem first now → (fields : List Text) → IsPlain next → expected_len next ≡ Some (length fields) → length fields ≡ width_of kind
    → Gave rem now next (fields ∷ []) → IsTidyRecord kind fields → HasGivenTidy kind rem first next
given_next kind rem first now next h fields plain width wide gave tidy = record {
  records = h.records ++ fields ∷ [];
  plain = plain;
  width = width ∙ ap Some wide;
  gave = gave-more rem first now next h.records (fields ∷ []) h.gave gave;
  tidy = one_more_all (IsTidyRow kind) h.records fields h.tidy (wide, tidy);
}

-- the next record has another length than the header
pub differs_next : {R : Type 0} (rem : R → Option Text) (reader : Reader R) (width : ℕ) (e : SheetFault) → e ≡ fault.BadCsv → expected_len reader ≡ Some width → IsReadFault rem reader e → NextDiffers rem reader [] width
differs_next rem reader width e is wide failed = by (rw is at failed)
  where
    by : IsReadFault rem reader fault.BadCsv → NextDiffers rem reader [] width
    by (wanted, expected, differs) = let same : wanted ≡ width = cc (expected, wide) in subst (λ (n : ℕ). NextDiffers rem reader [] n) same differs

-- ---- the records of a text

module _ (cfg : Config) where
  -- two readings go on from one record
  record OneFirst (r q : List Text) (a b : List (List Text)) (s1 s2 : Place) (y1 y2 : Text) : Type 0 where
    pub same : r ≡ q
    pub place : Place
    pub rest : Text
    pub one : Reached cfg place rest a s1 y1
    pub other : Reached cfg place rest b s2 y2

  one_first : (s s1 s2 : Place) (xs y1 y2 : Text) (r q : List Text) (a b : List (List Text)) → Reached cfg s xs (r ∷ a) s1 y1 → Reached cfg s xs (q ∷ b) s2 y2 → OneFirst r q a b s1 s2 y1 y2
  unfolding Reached
  one_first s s1 s2 xs y1 y2 r q a b (p, next, is, more) (o, next', is', more') =
      let one : o ≡ p = cc (next, next') in
      record {
        same = is ∙ sym (ap (λ (p : Read). p.0) one) ∙ sym is';
        place = p.1;
        rest = p.2;
        one = more;
        other = rw one at more';
      }

  -- what begins a text begins the list of all its records
  begin_with : (s s1 s2 : Place) (xs y1 y2 : Text) (all front : List (List Text)) → Reached cfg s xs all s1 y1 → next_record cfg s1 [] [] y1 ≡ None → Reached cfg s xs front s2 y2
      → (behind : List (List Text)) × (all ≡ front ++ behind)
  unfolding Reached
  begin_with s s1 s2 xs y1 y2 all [] h none g = (all, refl)
  begin_with s s1 s2 xs y1 y2 [] (q ∷ qs) h none (p, next, is, more) = cc (ap (λ (q : Place). next_record cfg q [] [] xs) h.0, ap (λ (q : Text). next_record cfg s1 [] [] q) h.1, none, next)
  begin_with s s1 s2 xs y1 y2 (r ∷ rs) (q ∷ qs) h none g =
      let first = one_first s s1 s2 xs y1 y2 r q rs qs h g in
      let (behind, is) = begin_with first.place s1 s2 first.rest y1 y2 rs qs first.one none first.other in
      (behind, λ j. first.same j ∷ is j)

-- the same of a text
begins_all : (input : Text) (all front : List (List Text)) → AreAll input all → BeginsWith input front → (behind : List (List Text)) × (all ≡ front ++ behind)
begins_all input all front (s1, y1, reached, none) (s2, y2, begun) = begin_with default_config st.StartRecord s1 s2 (strip_bom input) y1 y2 all front reached none begun

-- ---- the sheet

abbrev first_of : List (List Text) → List Text
first_of [] = []
first_of (r ∷ rs) = r

abbrev others_of : List (List Text) → List (List Text)
others_of [] = []
others_of (r ∷ rs) = rs

module _ {R : Type 0} (kind : Sheet) (rem : R → Option Text) (next : Reader R) (input : Text) (header : List Text) (has : HasRead rem next input (header ∷ [])) where
  is_tidy : IsHeader kind header → TellsTidy kind rem next true → IsTidySheet kind input
  is_tidy is (last, w, ends) = record {
    header = header;
    records = w.records;
    is_header = is;
    all = subst (λ (rs : List (List Text)). AreAll input (header ∷ rs)) (append-nil w.records) (ends input (header ∷ w.records) (w.gave input (header ∷ []) has));
    tidy = w.tidy;
  }

  -- a record that stands in a tidy sheet is tidy
  row_is_tidy : (records : List (List Text)) (fields : List Text) → BeginsWith input (header ∷ (records ++ fields ∷ [])) → IsTidySheet kind input → IsTidyRow kind fields
  row_is_tidy records fields begins sheet =
      let (behind, same) = begins_all input (sheet.header ∷ sheet.records) (header ∷ (records ++ fields ∷ [])) sheet.all begins in
      let under : sheet.records ≡ (records ++ fields ∷ []) ++ behind = ap others_of same in
      one_of_all (IsTidyRow kind) records fields behind (subst (AllByRecursion (IsTidyRow kind)) under sheet.tidy)

  not_tidy : TellsTidy kind rem next false → IsTidySheet kind input → ⊥
  not_tidy (last, w, inl differs) sheet =
      let (bad, begins, other) = differs input (header ∷ w.records) (w.gave input (header ∷ []) has) in
      let begun = subst (λ (rs : List (List Text)). BeginsWith input (header ∷ (rs ++ bad ∷ []))) (append-nil w.records) begins in
      other (row_is_tidy w.records bad begun sheet).0
  not_tidy (last, w, inr (after, fields, gave, untidy)) sheet =
      let (rest, source, reached) = gave-more rem next last after w.records (fields ∷ []) w.gave gave input (header ∷ []) has in
      untidy (row_is_tidy w.records fields (after.state, rest, reached) sheet).1

  told_header : (is : Bool) → IsHeader kind header → TellsTidy kind rem next is → IsTrue is ↔ IsTidySheet kind input
  told_header true head tells = (λ e. is_tidy head tells, λ sheet. refl)
  told_header false head tells = (λ e. cc e, λ sheet. absurd (not_tidy tells sheet))

-- a sheet whose header was read
pub told_under : {R : Type 0} (kind : Sheet) (rem : R → Option Text) (rows next : Reader R) (known : Option Text) (header : List Text) (result : Result Bool SheetFault)
    → IfSome known (λ input. HasRead rem rows input []) → Gave rem rows next (header ∷ []) → IsHeader kind header → IfOk result (TellsTidy kind rem next)
    → IfSome known (λ input. IfOk result (λ is. IsTrue is ↔ IsTidySheet kind input))
told_under kind rem rows next None header result start gave is tells = tt
told_under kind rem rows next (Some input) header (Ok found) start gave is tells = told_header kind rem next input header (gave input [] start) found is tells
told_under kind rem rows next (Some input) header (Err e) start gave is tells = tt

-- an empty sheet is none
none_of_empty : (kind : Sheet) (input : Text) → AreAll input [] → IsTidySheet kind input → ⊥
none_of_empty kind input all sheet =
    let (s1, y1, reached, none) = sheet.all in
    let (behind, same) = begins_all input [] (sheet.header ∷ sheet.records) all (s1, y1, reached) in
    cc same

pub told_empty : {R : Type 0} (kind : Sheet) (rem : R → Option Text) (rows : Reader R) (known : Option Text) → IfSome known (λ input. HasRead rem rows input []) → EndsAfter rem rows []
    → IfSome known (λ input. IsTrue false ↔ IsTidySheet kind input)
told_empty kind rem rows None start ends = tt
told_empty kind rem rows (Some input) start ends = (λ e. cc e, λ sheet. absurd (none_of_empty kind input (ends input [] start) sheet))

-- nor is one with another header
other_header : {R : Type 0} (kind : Sheet) (rem : R → Option Text) (next : Reader R) (input : Text) (fields : List Text) → HasRead rem next input (fields ∷ []) → (IsHeader kind fields → ⊥) → IsTidySheet kind input → ⊥
other_header kind rem next input fields (rest, source, reached) other sheet =
    let (behind, same) = begins_all input (sheet.header ∷ sheet.records) (fields ∷ []) sheet.all (next.state, rest, reached) in
    let first : sheet.header ≡ fields = ap first_of same in
    other (subst (IsHeader kind) first sheet.is_header)

pub told_other : {R : Type 0} (kind : Sheet) (rem : R → Option Text) (rows next : Reader R) (known : Option Text) (fields : List Text) → IfSome known (λ input. HasRead rem rows input []) → Gave rem rows next (fields ∷ []) → (IsHeader kind fields → ⊥)
    → IfSome known (λ input. IsTrue false ↔ IsTidySheet kind input)
told_other kind rem rows next None fields start gave other = tt
told_other kind rem rows next (Some input) fields start gave other = (λ e. cc e, λ sheet. absurd (other_header kind rem next input fields (gave input [] start) other sheet))

-- ---- what a text becomes

pub tidied_same : (kind : Sheet) (text tidied : Text) (is : Bool) → is ≡ true → (IsTrue is ↔ IsTidySheet kind text) → tidied ≡ text → IsTidied kind text tidied
tidied_same kind text tidied is holds tells same = record { tidy = subst (IsTidySheet kind) (sym same) (tells.0 holds); same = λ sheet. same }

pub untidy : (kind : Sheet) (text : Text) (was : Bool) → was ≡ false → (IsTrue was ↔ IsTidySheet kind text) → IsUntidy kind text
untidy kind text was fails tells sheet = let both : false ≡ true = sym fails ∙ tells.1 sheet in cc both

pub tidied_other : (kind : Sheet) (text tidied : Text) (was is : Bool) → was ≡ false → (IsTrue was ↔ IsTidySheet kind text) → is ≡ true → (IsTrue is ↔ IsTidySheet kind tidied) → IsTidied kind text tidied
tidied_other kind text tidied was is fails tells holds tells_now = record { tidy = tells_now.0 holds; same = λ sheet. absurd (untidy kind text was fails tells sheet) }
