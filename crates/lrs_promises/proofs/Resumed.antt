-- Up to which record a sheet is decided is one place, by its bytes and the state.
use Rattle.std.proofs.Common.{◌≡◌, inl, inr, List, [], ◌∷◌, ◌++◌, length, append-nil, Option, Some, None, refl, sym, ap, subst, ◌∙◌}
use Rattle.std.specs.List.{AllByRecursion}
use Rattle.lrs_machine.specs.Lines.{Text}
use Rattle.lrs_machine.specs.State.{State}
use Rattle.lrs_sheet_records.specs.Kinds.{IsHeader, width_of}
use Rattle.lrs_sheet_records.specs.declared.sheet.Sheet.{Sheet}
use Rattle.lrs_sheet.specs.Resumption.{EndInEdit, IsDecidedBy, IsNoEdit}
use Rattle.lrs_sheet_records.specs.Rows.{BeginsWith}
use Rattle.lrs_sheet.specs.declared.resumption.Decided.{Decided}
use Rattle.lrs_promises.proofs.Framed.{Begin, PassAlike, all_behind, among, begin_before, front_begins, rest_same, under_one}

not_empty : (front : List (List Text)) (m : List Text) (ms : List (List Text)) → front ++ m ∷ ms ≡ [] → ⊥
not_empty [] m ms e = cc e
not_empty (f ∷ front) m ms e = cc e

-- where those behind the first ones pass, the last one does
last_passes : (P : List Text → Type 0) (front : List (List Text)) (m : List Text) (ms others : List (List Text)) (last : List Text) → front ++ m ∷ ms ≡ others ++ last ∷ [] → AllByRecursion P (m ∷ ms) → P last
last_passes P [] m ms others last e all = among P others [] last (subst (AllByRecursion P) e all)
last_passes P (f ∷ front) m ms [] last e all = absurd (not_empty front m ms (rest_same f last (front ++ m ∷ ms) [] e))
last_passes P (f ∷ front) m ms (o ∷ others) last e all = last_passes P front m ms others last (rest_same f o (front ++ m ∷ ms) (others ++ last ∷ []) e) all

module _ (sheet : Sheet) (s : State) (input : Text) where
  -- behind what is decided no more is
  no_more : (d e : Decided) (front behind others : List (List Text)) (header : List Text) → IsDecidedBy sheet s input d front → IsDecidedBy sheet s input e (front ++ behind) → IsHeader sheet header
      → BeginsWith input (header ∷ ((front ++ behind) ++ others)) → behind ≡ []
  no_more d e front [] others header one two is begins = refl
  no_more d e front (m ∷ ms) others header one two is begins = absurd (by e.key two.last)
    where
      none : AllByRecursion (IsNoEdit sheet s) (m ∷ ms)
      none = one.others header (m ∷ ms) is (front_begins input header (front ++ m ∷ ms) others begins) (all_behind (λ (r : List Text). length r ≡ width_of sheet) front (m ∷ ms) two.wide)

      by : (key : Option Text) → EndInEdit sheet s (front ++ m ∷ ms) key → ⊥
      by None empty = not_empty front m ms empty
      by (Some key) (before, last, ends, edit) = last_passes (IsNoEdit sheet s) front m ms before last ends none key edit

  pub one_decided : (d e : Decided) (passed beyond : List (List Text)) → IsDecidedBy sheet s input d passed → IsDecidedBy sheet s input e beyond → PassAlike (IsHeader sheet) input passed beyond
  one_decided d e passed beyond one two header records others is begins begin =
      by (begin_before passed beyond records others (under_one input header header (passed ++ records) (beyond ++ others) begins begin).begin)
    where
      by : Begin passed beyond → passed ≡ beyond
      by (inl (behind, e')) =
          let none = no_more e d beyond behind records header two (subst (IsDecidedBy sheet s input d) e' one) is (subst (λ (p : List (List Text)). BeginsWith input (header ∷ (p ++ records))) e' begins) in
          e' ∙ ap (λ (b : List (List Text)). beyond ++ b) none ∙ append-nil beyond
      by (inr (behind, e')) =
          let none = no_more d e passed behind others header one (subst (IsDecidedBy sheet s input e) e' two) is (subst (λ (p : List (List Text)). BeginsWith input (header ∷ (p ++ others))) e' begin) in
          sym (e' ∙ ap (λ (b : List (List Text)). passed ++ b) none ∙ append-nil passed)
