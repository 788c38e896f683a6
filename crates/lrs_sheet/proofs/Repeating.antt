-- Keys that stand twice in a sheet, or do not.
use Rattle.std.proofs.Common.{◌≡◌, ◌⊎◌, ℕ, ◌+◌, Bool, true, false, cond, List, [], ◌∷◌, ◌++◌, length, Option, Some, None, Result, Ok, Err, refl, sym, ap, subst, ◌∙◌, inl, inr, arith, length-append, append_assoc}
use Rattle.std.specs.Prelude.{IfOk, IfSome}
use Rattle.std.specs.BTreeMap.{BTreeMap, IsEmpty, is_at}
use Rattle.std.specs.Cmp.{Equal-is}
use Rattle.std.specs.Cmp.Lexicographic.{bytes_decides, slice_cmp, texts_ties}
use Rattle.std.specs.FinMap.{nat_cmp-IsAntisymmetric, slice_cmp-IsAntisymmetric}
use Rattle.std.specs.List.{AllByRecursion}
use Rattle.std.specs.Map.{lookup}
use Rattle.std.specs.Ordering.{is_eq, nat_cmp}
use Rattle.std.proofs.lemmas.Bool.{false≢true}
use Rattle.std.proofs.lemmas.List.{append-nil}
use Rattle.csv.specs.Machine.{next_record}
use Rattle.csv.specs.Reading.{Reached, default_config, expected_len, strip_bom}
use Rattle.csv.specs.declared.parser.Config.{Config}
use Rattle.csv.specs.declared.parser.State.{State as Place}
use Rattle.csv.specs.declared.parser.State.TheVariants as st
use Rattle.csv.specs.declared.reader.Reader.{Reader}
use Rattle.lrs_machine.specs.Lines.{Text}
use Rattle.lrs_machine.specs.declared.answer.Field.{Field}
use Rattle.lrs_sheet_records.proofs.OneCommand.{one-command, well-formed}
use Rattle.lrs_sheet_records.proofs.ReadRows.{gave-more, gave-none}
use Rattle.lrs_sheet_records.specs.Kinds.{IsHeader, edit_record, width_of}
use Rattle.lrs_sheet_records.specs.Records.{FirstMalformed, place_of}
use Rattle.lrs_sheet_records.specs.Rows.{AreAll, BeginsWith, EndsAfter, Gave, HasRead, IsPlain, NextDiffers}
use Rattle.lrs_sheet_records.specs.Verbs.{all_verbs}
use Rattle.lrs_sheet_records.specs.declared.fault.SheetFault.{SheetFault}
use Rattle.lrs_sheet_records.specs.declared.sheet.Sheet.{Sheet}
use Rattle.lrs_sheet.specs.Repetition.{FindsRepetition, HasFoundTwice, HasKey, HasKeysOnce, HasLooked, HasNoKey, HaveKeysOnce, IsNumber, IsRepeated, NoneHasKey, Notes, TakesKey, TellsRepetition, number_of}
use Rattle.lrs_sheet.specs.Sheets.{HaveWidth}
use Rattle.lrs_sheet.specs.declared.repetition.RepeatedKey.{RepeatedKey}
use Rattle.lrs_sheet.proofs.Resuming.{all_front, no_first, one_first, one_more_all, other_header}

-- ---- records and their keys

-- one record has one key
one_key : (sheet : Sheet) (fields : List Text) (key other : Text) → HasKey sheet key fields → HasKey sheet other fields → key ≡ other
one_key sheet fields key other (command, says) (command', says') = (one-command all_verbs (edit_record sheet fields) key other command command' says says').0

-- a malformed record has none
pub malformed_key : (sheet : Sheet) (fields : List Text) (field : Field) → FirstMalformed (edit_record sheet fields) (place_of field) → HasNoKey sheet fields
malformed_key sheet fields field first key (command, says) = first.malformed (well-formed all_verbs (edit_record sheet fields) key command says (place_of field))

-- one more record, whose key none of them has
once_more : (sheet : Sheet) (records : List (List Text)) (fields : List Text) → HaveKeysOnce sheet records → ((key : Text) → HasKey sheet key fields → NoneHasKey sheet key records) → HaveKeysOnce sheet (records ++ fields ∷ [])
once_more sheet [] fields once new = (λ key has. tt, tt)
once_more sheet (r ∷ rs) fields once new = (
  λ key has. one_more_all (λ (q : List Text). HasKey sheet key q → ⊥) rs fields (once.0 key has) (λ again. (new key again).0 has),
  once_more sheet rs fields once.1 (λ key has. (new key has).1),
)

-- the first ones of records
once_front : (sheet : Sheet) (front behind : List (List Text)) → HaveKeysOnce sheet (front ++ behind) → HaveKeysOnce sheet front
once_front sheet [] behind once = tt
once_front sheet (r ∷ rs) behind once = (λ key has. all_front (λ (q : List Text). HasKey sheet key q → ⊥) rs behind (once.0 key has), once_front sheet rs behind once.1)

last_has : (sheet : Sheet) (key : Text) (between : List (List Text)) (other : List Text) → NoneHasKey sheet key (between ++ other ∷ []) → HasKey sheet key other → ⊥
last_has sheet key [] other none = none.0
last_has sheet key (r ∷ rs) other none = last_has sheet key rs other none.1

twice_not_once : (sheet : Sheet) (before : List (List Text)) (one : List Text) (between : List (List Text)) (other : List Text) (key : Text) → HasKey sheet key one → HasKey sheet key other
    → HaveKeysOnce sheet ((before ++ one ∷ between) ++ other ∷ []) → ⊥
twice_not_once sheet [] one between other key has again once = last_has sheet key between other (once.0 key has) again
twice_not_once sheet (r ∷ rs) one between other key has again once = twice_not_once sheet rs one between other key has again once.1

-- where a key stands twice, not every key stands once
pub repeated_not_once : (sheet : Sheet) (input : Text) (twice : RepeatedKey) → IsRepeated sheet input twice → HasKeysOnce sheet input → ⊥
repeated_not_once sheet input twice r once = twice_not_once sheet r.before r.one r.between r.other twice.key r.key r.again (once r.header ((r.before ++ r.one ∷ r.between) ++ r.other ∷ []) r.is_header r.begins r.wide)

-- ---- what is noted

same_key : (key other : Text) → is_eq (slice_cmp nat_cmp key other) ≡ true → key ≡ other
same_key key other e = slice_cmp-IsAntisymmetric nat_cmp-IsAntisymmetric key other ((Equal-is _).0 e)

itself : (key : Text) → is_eq (slice_cmp nat_cmp key key) ≡ true
itself key = sym (texts_ties key key) ∙ (bytes_decides key key).1 refl

not_tied : (key other : Text) → is_eq (slice_cmp nat_cmp key other) ≡ false → key ≡ other → ⊥
not_tied key other e same = false≢true (sym e ∙ ap (λ (k : Text). is_eq (slice_cmp nat_cmp key k)) (sym same) ∙ itself key)

module _ (sheet : Sheet) (records : List (List Text)) (fields : List Text) where
  -- the number of a key that one more record does not have
  number_stays : (key : Text) (o : Option ℕ) → (HasKey sheet key fields → ⊥) → IsNumber sheet records key o → IsNumber sheet (records ++ fields ∷ []) key o
  number_stays key None not none = one_more_all (λ (q : List Text). HasKey sheet key q → ⊥) records fields none not
  number_stays key (Some n) not (before, one, behind, is, has, place) =
      (before, one, behind ++ fields ∷ [], ap (λ (r : List (List Text)). r ++ fields ∷ []) is ∙ append_assoc before (one ∷ behind) (fields ∷ []), has, place)

  -- those of all keys, once the key of that one is noted
  pub noted_next : (number : ℕ) (old new : BTreeMap Text ℕ) (key : Text) → number ≡ length records + 1 → ((q : Text) → IsNumber sheet records q (number_of old q)) → HasKey sheet key fields → Notes old new key number
      → (q : Text) → IsNumber sheet (records ++ fields ∷ []) q (number_of new q)
  noted_next number old new key place noted has notes q = subst (IsNumber sheet (records ++ fields ∷ []) q) (sym (notes q)) (by (is_eq (slice_cmp nat_cmp key q)) refl)
    where
      by : (b : Bool) → is_eq (slice_cmp nat_cmp key q) ≡ b → IsNumber sheet (records ++ fields ∷ []) q (cond b (Some number) (number_of old q))
      by true e = subst (λ (k : Text). IsNumber sheet (records ++ fields ∷ []) k (Some number)) (same_key key q e) (records, fields, [], refl, has, place)
      by false e = number_stays q (number_of old q) (λ again. not_tied key q e (one_key sheet fields key q has again)) (noted q)

-- ---- the search

pub nothing_looked : {R : Type 0} (sheet : Sheet) (rem : R → Option Text) (rows : Reader R) (seen : BTreeMap Text ℕ) → IsPlain rows → expected_len rows ≡ Some (width_of sheet) → IsEmpty seen → HasLooked sheet rem rows rows seen 0
nothing_looked sheet rem rows seen plain width none = record {
  records = [];
  plain = plain;
  width = width;
  gave = gave-none rem rows;
  wide = tt;
  once = tt;
  noted = λ key. subst (IsNumber sheet [] key) (sym (ap (λ (es : List (Text × ℕ)). lookup (is_at (slice_cmp nat_cmp key)) es) none)) tt;
  in_turn = refl;
}

module _ {R : Type 0} (sheet : Sheet) (rem : R → Option Text) (first now next : Reader R) (seen noted : BTreeMap Text ℕ) (turns : ℕ) (h : HasLooked sheet rem first now seen turns)
    (fields : List Text) (plain : IsPlain next) (width : expected_len next ≡ Some (length fields)) (wide : length fields ≡ width_of sheet) (gave : Gave rem now next (fields ∷ [])) where
  place : turns + 1 ≡ length h.records + 1
  place = sym (ap (λ n. n + 1) h.in_turn)

  all_wide : HaveWidth sheet (h.records ++ fields ∷ [])
  all_wide = one_more_all (λ (r : List Text). length r ≡ width_of sheet) h.records fields h.wide wide

  looked_with : HaveKeysOnce sheet (h.records ++ fields ∷ []) → ((key : Text) → IsNumber sheet (h.records ++ fields ∷ []) key (number_of noted key)) → HasLooked sheet rem first next noted (turns + 1)
  looked_with once numbers = record {
    records = h.records ++ fields ∷ [];
    plain = plain;
    width = width ∙ ap Some wide;
    gave = gave-more rem first now next h.records (fields ∷ []) h.gave gave;
    wide = all_wide;
    once = once;
    noted = numbers;
    in_turn = (let all = length-append h.records (fields ∷ []) in let before = h.in_turn in omega (arith, all, before));
  }

  -- one more record was looked at, and no record before it has its key
  pub looked_next : TakesKey sheet fields (turns + 1) seen noted None → HasLooked sheet rem first next noted (turns + 1)
  looked_next (inl (none, stays)) =
      looked_with (once_more sheet h.records fields h.once (λ key has. absurd (none key has)))
      (λ key. subst (IsNumber sheet (h.records ++ fields ∷ []) key) (sym (stays key)) (number_stays sheet h.records fields key (number_of seen key) (none key) (h.noted key)))
  looked_next (inr (key, has, new, notes)) =
      let none : NoneHasKey sheet key h.records = subst (IsNumber sheet h.records key) new (h.noted key) in
      looked_with (once_more sheet h.records fields h.once (λ other again. subst (λ (k : Text). NoneHasKey sheet k h.records) (one_key sheet fields key other has again) none))
      (noted_next sheet h.records fields (turns + 1) seen noted key place h.noted has notes)

  -- one before it has its key
  pub found_twice : (twice : RepeatedKey) → TakesKey sheet fields (turns + 1) seen noted (Some twice) → HasFoundTwice sheet rem first twice
  found_twice twice (again, before, number) = record {
    last = next;
    records = h.records;
    fields = fields;
    gave = gave-more rem first now next h.records (fields ∷ []) h.gave gave;
    wide = all_wide;
    once = h.once;
    before = subst (IsNumber sheet h.records twice.key) before (h.noted twice.key);
    again = again;
    second = number ∙ place;
  }

-- ---- the records of a text

module _ (cfg : Config) where
  -- what begins a text begins the list of all its records
  pub begin_with : (s s1 s2 : Place) (xs y1 y2 : Text) (all front : List (List Text)) → Reached cfg s xs all s1 y1 → next_record cfg s1 [] [] y1 ≡ None → Reached cfg s xs front s2 y2
      → (behind : List (List Text)) × (all ≡ front ++ behind)
  unfolding Reached
  begin_with s s1 s2 xs y1 y2 all [] h none g = (all, refl)
  begin_with s s1 s2 xs y1 y2 [] (q ∷ qs) h none (p, next, is, more) = cc (ap (λ (q : Place). next_record cfg q [] [] xs) h.0, ap (λ (q : Text). next_record cfg s1 [] [] q) h.1, none, next)
  begin_with s s1 s2 xs y1 y2 (r ∷ rs) (q ∷ qs) h none g =
      let first = one_first cfg s s1 s2 xs y1 y2 r q rs qs h g in
      let (behind, is) = begin_with first.place s1 s2 first.rest y1 y2 rs qs first.one none first.other in
      (behind, λ j. first.same j ∷ is j)

  -- records of one length begin those before the first of another one
  begin_before : (width : ℕ) (s s1 s2 : Place) (xs y1 y2 : Text) (others more : List (List Text)) (bad : List Text) → Reached cfg s xs (others ++ bad ∷ []) s1 y1 → (length bad ≡ width → ⊥)
      → Reached cfg s xs more s2 y2 → AllByRecursion (λ (fields : List Text). length fields ≡ width) more → (behind : List (List Text)) × (others ≡ more ++ behind)
  begin_before width s s1 s2 xs y1 y2 others [] bad h differs g wide = (others, refl)
  begin_before width s s1 s2 xs y1 y2 [] (m ∷ ms) bad h differs g wide =
      let first = one_first cfg s s1 s2 xs y1 y2 bad m [] ms h g in
      absurd (differs (ap length first.same ∙ wide.0))
  begin_before width s s1 s2 xs y1 y2 (o ∷ os) (m ∷ ms) bad h differs g wide =
      let first = one_first cfg s s1 s2 xs y1 y2 o m (os ++ bad ∷ []) ms h g in
      let (behind, is) = begin_before width first.place s1 s2 first.rest y1 y2 os ms bad first.one differs first.other wide.1 in
      (behind, λ j. first.same j ∷ is j)

-- ---- the sheet

module _ {R : Type 0} (sheet : Sheet) (rem : R → Option Text) (next : Reader R) (input : Text) (header : List Text) (has : HasRead rem next input (header ∷ [])) where
  -- the record that was found
  repeated : (twice : RepeatedKey) → IsHeader sheet header → HasFoundTwice sheet rem next twice → IsRepeated sheet input twice
  repeated twice is f = by f.before
    where
      by : IsNumber sheet f.records twice.key (Some twice.first) → IsRepeated sheet input twice
      by (before, one, between, same, key, first) =
          let (rest, source, reached) = f.gave input (header ∷ []) has in
          record {
            header = header;
            before = before;
            one = one;
            between = between;
            other = f.fields;
            is_header = is;
            begins = subst (λ (r : List (List Text)). BeginsWith input (header ∷ (r ++ f.fields ∷ []))) same (f.last.state, rest, reached);
            wide = subst (λ (r : List (List Text)). HaveWidth sheet (r ++ f.fields ∷ [])) same f.wide;
            once = subst (HaveKeysOnce sheet) same f.once;
            key = key;
            again = f.again;
            first = first;
            second = f.second ∙ ap (λ (r : List (List Text)). length r + 1) same;
          }

  module _ (last : Reader R) (seen : BTreeMap Text ℕ) (turns : ℕ) (w : HasLooked sheet rem next last seen turns) (other : List Text) (records : List (List Text)) where
    at_end : BeginsWith input (other ∷ records) → AreAll input ((header ∷ w.records) ++ []) → (behind : List (List Text)) × (w.records ≡ records ++ behind)
    at_end (place, rest, reached) (end, left, all, none) =
        let under = subst (λ (rs : List (List Text)). Reached default_config st.StartRecord (strip_bom input) (header ∷ rs) end left) (append-nil w.records) all in
        let first = one_first default_config st.StartRecord end place (strip_bom input) left rest header other w.records records under reached in
        begin_with default_config first.place end place first.rest left rest w.records records first.one none first.other

    at_bad : (bad : List Text) → BeginsWith input (other ∷ records) → HaveWidth sheet records → BeginsWith input (((header ∷ w.records) ++ []) ++ bad ∷ []) → (length bad ≡ width_of sheet → ⊥)
        → (behind : List (List Text)) × (w.records ≡ records ++ behind)
    at_bad bad (place, rest, reached) wide (end, left, all) differs =
        let under = subst (λ (rs : List (List Text)). Reached default_config st.StartRecord (strip_bom input) (header ∷ (rs ++ bad ∷ [])) end left) (append-nil w.records) all in
        let first = one_first default_config st.StartRecord end place (strip_bom input) left rest header other (w.records ++ bad ∷ []) records under reached in
        begin_before default_config (width_of sheet) first.place end place first.rest left rest w.records records bad first.one differs first.other wide

    looked_through : EndsAfter rem last [] ⊎ NextDiffers rem last [] (width_of sheet) → BeginsWith input (other ∷ records) → HaveWidth sheet records → (behind : List (List Text)) × (w.records ≡ records ++ behind)
    looked_through (inl end) begins wide = at_end begins (end input (header ∷ w.records) (w.gave input (header ∷ []) has))
    looked_through (inr next-differs) begins wide =
        let (bad, all, differs) = next-differs input (header ∷ w.records) (w.gave input (header ∷ []) has) in
        at_bad bad begins wide all differs

  -- no two records have one key
  keys_once : FindsRepetition sheet rem next None → HasKeysOnce sheet input
  keys_once (last, seen, turns, w, ends) other records is begins wide =
      let (behind, same) = looked_through last seen turns w other records ends begins wide in
      once_front sheet records behind (subst (HaveKeysOnce sheet) same w.once)

  pub told_found : (found : Option RepeatedKey) → IsHeader sheet header → FindsRepetition sheet rem next found → TellsRepetition sheet input found
  told_found None is finds = keys_once finds
  told_found (Some twice) is finds = repeated twice is finds

-- what is told of a sheet whose header was read
pub told_under : {R : Type 0} (sheet : Sheet) (rem : R → Option Text) (rows next : Reader R) (known : Option Text) (header : List Text) (result : Result (Option RepeatedKey) SheetFault)
    → IfSome known (λ input. HasRead rem rows input []) → Gave rem rows next (header ∷ []) → IsHeader sheet header → IfOk result (FindsRepetition sheet rem next)
    → IfSome known (λ input. IfOk result (TellsRepetition sheet input))
told_under sheet rem rows next None header result start gave is finds = tt
told_under sheet rem rows next (Some input) header (Ok found) start gave is finds = told_found sheet rem next input header (gave input [] start) found is finds
told_under sheet rem rows next (Some input) header (Err e) start gave is finds = tt

-- in an empty sheet no key stands twice
pub told_empty : {R : Type 0} (sheet : Sheet) (rem : R → Option Text) (rows : Reader R) (known : Option Text) → IfSome known (λ input. HasRead rem rows input []) → EndsAfter rem rows [] → IfSome known (HasKeysOnce sheet)
told_empty sheet rem rows None start ends = tt
told_empty sheet rem rows (Some input) start ends = λ header records is begins wide. absurd (no_first input header records begins (ends input [] start))

-- nor in one with another header
pub told_other : {R : Type 0} (sheet : Sheet) (rem : R → Option Text) (rows next : Reader R) (known : Option Text) (fields : List Text) → IfSome known (λ input. HasRead rem rows input []) → Gave rem rows next (fields ∷ []) → (IsHeader sheet fields → ⊥)
    → IfSome known (HasKeysOnce sheet)
told_other sheet rem rows next None fields start gave differs = tt
told_other sheet rem rows next (Some input) fields start gave differs = λ header records is begins wide. absurd (other_header sheet rem next input fields differs header records is begins (gave input [] start))
