-- Which records of a sheet are decided.
use Rattle.std.proofs.Common.{◌≡◌, ℕ, ◌+◌, List, [], ◌∷◌, ◌++◌, length, Option, Some, None, true, false, refl, sym, ap, subst, ◌∙◌, inl, inr, ◌⊎◌, arith, length-append, append_assoc, Result, Ok, Err}
use Rattle.std.specs.Prelude.{IfNone, IfOk, IfSome, is_some}
use Rattle.std.specs.List.{AllByRecursion}
use Rattle.std.proofs.lemmas.List.{append-nil}
use Rattle.csv.specs.Machine.{Read, next_record}
use Rattle.csv.specs.Reading.{Reached, default_config, expected_len, strip_bom}
use Rattle.csv.specs.declared.parser.Config.{Config}
use Rattle.csv.specs.declared.parser.State.{State as Place}
use Rattle.csv.specs.declared.parser.State.TheVariants as st
use Rattle.csv.specs.declared.reader.Reader.{Reader}
use Rattle.lrs_machine.specs.Lines.{Text}
use Rattle.lrs_machine.specs.State.{State}
use Rattle.lrs_machine.specs.declared.answer.Field.{Field}
use Rattle.lrs_machine.specs.declared.command.Command.{Command}
use Rattle.lrs_machine.specs.Stop.KnownEdits.{edit_of, is_edit}
use Rattle.lrs_sheet_records.proofs.OneCommand.{one-command, well-formed}
use Rattle.lrs_sheet_records.specs.Kinds.{IsHeader, edit_record, width_of}
use Rattle.lrs_sheet_records.specs.Records.{FirstMalformed, SaysCommand, place_of}
use Rattle.lrs_sheet_records.specs.Verbs.{all_verbs}
use Rattle.lrs_sheet_records.specs.declared.sheet.Sheet.{Sheet}
use Rattle.lrs_sheet_records.specs.declared.fault.SheetFault.{SheetFault}
use Rattle.lrs_sheet_records.specs.declared.fault.SheetFault.TheVariants as fault
use Rattle.lrs_sheet.specs.declared.resumption.Decided.{Decided}
use Rattle.lrs_sheet.specs.Resumption.{HasFound, HasSearched, IsDecidedBy, IsEdit, IsNoEdit, decided_next}
use Rattle.lrs_sheet_records.specs.Rows.{EndsAfter, Gave, HasRead, IsPlain, IsReadFault, NextDiffers}
use Rattle.lrs_sheet_records.specs.Rows.{AreAll, BeginsWith}
use Rattle.lrs_sheet.specs.Sheets.{HaveWidth}
use Rattle.lrs_sheet_records.proofs.ReadRows.{gave-more, gave-none}

-- ---- one record

-- a command that is found is an edit
pub found_edit : (sheet : Sheet) (s : State) (fields : List Text) (key : Text) (command : Command) (n : ℕ) → SaysCommand (edit_record sheet fields) key command
    → Some n ≡ edit_of s (record { key = key; command = command }) → IsEdit sheet s key fields
found_edit sheet s fields key command n says found = (command, says, sym (ap (λ (o : Option ℕ). is_some o) found))

-- one that is not found is none
pub not_edit : (sheet : Sheet) (s : State) (fields : List Text) (key : Text) (command : Command) → SaysCommand (edit_record sheet fields) key command
    → None ≡ edit_of s (record { key = key; command = command }) → IsNoEdit sheet s fields
not_edit sheet s fields key command says none other (command', says', edit) =
    let (keys, same) = one-command all_verbs (edit_record sheet fields) key other command command' says says' in
    let gone : is_edit s (record { key = other; command = command' }) ≡ false = (λ j. is_edit s (record { key = sym keys j; command = sym same j })) ∙ sym (ap (λ (o : Option ℕ). is_some o) none) in
    absurd (let both : true ≡ false = sym edit ∙ gone in cc both)

-- a malformed record says no command
pub malformed_edit : (sheet : Sheet) (s : State) (fields : List Text) (field : Field) → FirstMalformed (edit_record sheet fields) (place_of field) → IsNoEdit sheet s fields
malformed_edit sheet s fields field first key (command, says, edit) = first.malformed (well-formed all_verbs (edit_record sheet fields) key command says (place_of field))

-- ---- the search

-- one more element
pub one_more_all : (P : List Text → Type 0) (records : List (List Text)) (fields : List Text) → AllByRecursion P records → P fields → AllByRecursion P (records ++ fields ∷ [])
one_more_all P [] fields all p = (p, tt)
one_more_all P (r ∷ rs) fields all p = (all.0, one_more_all P rs fields all.1 p)

pub nothing_searched : {R : Type 0} (sheet : Sheet) (rem : R → Option Text) (rows : Reader R) (s : State) (d : Decided) → IsPlain rows → expected_len rows ≡ Some (width_of sheet) → d ≡ record { records = 0; key = None }
    → HasSearched sheet rem rows rows s d 0
nothing_searched sheet rem rows s d plain width is = record {
  decided = [];
  others = [];
  plain = plain;
  width = width;
  gave = gave-none rem rows;
  number = ap (λ (d : Decided). d.records) is;
  last = rw is refl;
  wide = tt;
  none = tt;
  in_turn = refl;
}

-- the first ones of elements
pub all_front : (P : List Text → Type 0) (front behind : List (List Text)) → AllByRecursion P (front ++ behind) → AllByRecursion P front
all_front P [] behind all = tt
all_front P (r ∷ rs) behind all = (all.0, all_front P rs behind all.1)

module _ {R : Type 0} (sheet : Sheet) (rem : R → Option Text) (first now next : Reader R) (s : State) (d : Decided) (turns : ℕ) (h : HasSearched sheet rem first now s d turns)
    (fields : List Text) (plain : IsPlain next) (width : expected_len next ≡ Some (length fields)) (wide : length fields ≡ width_of sheet) (gave : Gave rem now next (fields ∷ [])) where
  -- the next record is an edit
  pub searched_edit : (key : Text) (e : Decided) → IsEdit sheet s key fields → e ≡ record { records = turns + 1; key = Some key } → HasSearched sheet rem first next s e (turns + 1)
  searched_edit key e edit is =
      let size : length ((h.decided ++ h.others) ++ fields ∷ []) ≡ turns + 1 =
      let all = length-append (h.decided ++ h.others) (fields ∷ []) in
      let both = length-append h.decided h.others in
      omega (arith, all, both, h.in_turn) in
      record {
        decided = (h.decided ++ h.others) ++ fields ∷ [];
        others = [];
        plain = plain;
        width = width ∙ ap Some wide;
        gave = rw (append-nil ((h.decided ++ h.others) ++ fields ∷ [])) (gave-more rem first now next (h.decided ++ h.others) (fields ∷ []) h.gave gave);
        number = ap (λ (d : Decided). d.records) is ∙ sym size;
        last = rw is (h.decided ++ h.others, fields, refl, edit);
        wide = rw (append-nil ((h.decided ++ h.others) ++ fields ∷ [])) (one_more_all (λ (r : List Text). length r ≡ width_of sheet) (h.decided ++ h.others) fields h.wide wide);
        none = tt;
        in_turn = (omega (arith, size));
      }

  -- it is none
  pub searched_more : IsNoEdit sheet s fields → HasSearched sheet rem first next s d (turns + 1)
  searched_more none = record {
    decided = h.decided;
    others = h.others ++ fields ∷ [];
    plain = plain;
    width = width ∙ ap Some wide;
    gave = rw (← append_assoc h.decided h.others (fields ∷ [])) (gave-more rem first now next (h.decided ++ h.others) (fields ∷ []) h.gave gave);
    number = h.number;
    last = h.last;
    wide = rw (← append_assoc h.decided h.others (fields ∷ [])) (one_more_all (λ (r : List Text). length r ≡ width_of sheet) (h.decided ++ h.others) fields h.wide wide);
    none = one_more_all (IsNoEdit sheet s) h.others fields h.none none;
    in_turn = (let all = length-append h.others (fields ∷ []) in omega (arith, all, h.in_turn));
  }

  -- whichever it is
  pub searched_next : (found : Option Text) (e : Decided) → e ≡ decided_next d turns found → IfSome found (λ key. IsEdit sheet s key fields) → IfNone found (IsNoEdit sheet s fields) → HasSearched sheet rem first next s e (turns + 1)
  searched_next None e is edit none = rw is (searched_more none)
  searched_next (Some key) e is edit none = searched_edit key e edit is

-- the next record has another length than the header
pub differs_next : {R : Type 0} (rem : R → Option Text) (reader : Reader R) (width : ℕ) (e : SheetFault) → e ≡ fault.BadCsv → expected_len reader ≡ Some width → IsReadFault rem reader e → NextDiffers rem reader [] width
differs_next rem reader width e is wide failed = by (rw is at failed)
  where
    by : IsReadFault rem reader fault.BadCsv → NextDiffers rem reader [] width
    by (wanted, expected, differs) = let same : wanted ≡ width = cc (expected, wide) in subst (λ (n : ℕ). NextDiffers rem reader [] n) same differs

-- ---- the records of a text

module _ (cfg : Config) where
  -- two readings go on from one record
  pub record OneFirst (r q : List Text) (a b : List (List Text)) (s1 s2 : Place) (y1 y2 : Text) : Type 0 where
    pub same : r ≡ q
    pub place : Place
    pub rest : Text
    pub one : Reached cfg place rest a s1 y1
    pub other : Reached cfg place rest b s2 y2

  pub one_first : (s s1 s2 : Place) (xs y1 y2 : Text) (r q : List Text) (a b : List (List Text)) → Reached cfg s xs (r ∷ a) s1 y1 → Reached cfg s xs (q ∷ b) s2 y2 → OneFirst r q a b s1 s2 y1 y2
  unfolding Reached
  one_first s s1 s2 xs y1 y2 r q a b (p, next, is, more) (o, next', is', more') =
      let one : o ≡ p = cc (next, next') in
      record {
        same = is ∙ sym (ap (λ (p : Read). p.0) one) ∙ sym is';
        place = p.1;
        rest = p.2;
        one = more;
        other = rw one at more';
      }

  -- ... and from the same first ones
  record BehindFront (a b : List (List Text)) (s1 s2 : Place) (y1 y2 : Text) : Type 0 where
    pub place : Place
    pub rest : Text
    pub one : Reached cfg place rest a s1 y1
    pub other : Reached cfg place rest b s2 y2

  behind_front : (s s1 s2 : Place) (xs y1 y2 : Text) (front a b : List (List Text)) → Reached cfg s xs (front ++ a) s1 y1 → Reached cfg s xs (front ++ b) s2 y2 → BehindFront a b s1 s2 y1 y2
  behind_front s s1 s2 xs y1 y2 [] a b h g = record { place = s; rest = xs; one = h; other = g }
  behind_front s s1 s2 xs y1 y2 (r ∷ rs) a b h g =
      let first = one_first s s1 s2 xs y1 y2 r r (rs ++ a) (rs ++ b) h g in
      behind_front first.place s1 s2 first.rest y1 y2 rs a b first.one first.other

  -- what begins a reading is a reading
  pub reached_front : (s s2 : Place) (xs y : Text) (front behind : List (List Text)) → Reached cfg s xs (front ++ behind) s2 y → (mid : Place) × (rest : Text) × Reached cfg s xs front mid rest
  unfolding Reached
  reached_front s s2 xs y [] behind h = (s, xs, (refl, refl))
  reached_front s s2 xs y (r ∷ rs) behind (p, next, is, more) =
      let (mid, rest, reached) = reached_front p.1 s2 p.2 y rs behind more in
      (mid, rest, (p, next, is, reached))

  -- where a text ends, nothing else follows
  all_to_end : (P : List Text → Type 0) (s s1 s2 : Place) (xs y1 y2 : Text) (others more : List (List Text)) → AllByRecursion P others → Reached cfg s xs others s1 y1 → next_record cfg s1 [] [] y1 ≡ None
      → Reached cfg s xs more s2 y2 → AllByRecursion P more
  unfolding Reached
  all_to_end P s s1 s2 xs y1 y2 others [] all h none g = tt
  all_to_end P s s1 s2 xs y1 y2 [] (m ∷ ms) all h none (p, next, is, more) = cc (ap (λ (q : Place). next_record cfg q [] [] xs) h.0, ap (λ (q : Text). next_record cfg s1 [] [] q) h.1, none, next)
  all_to_end P s s1 s2 xs y1 y2 (o ∷ os) (m ∷ ms) all h none g =
      let first = one_first s s1 s2 xs y1 y2 o m os ms h g in
      (rw (sym first.same) all.0, all_to_end P first.place s1 s2 first.rest y1 y2 os ms all.1 first.one none first.other)

  -- nor where a record has another length than all of them
  all_to_bad : (P : List Text → Type 0) (width : ℕ) (s s1 s2 : Place) (xs y1 y2 : Text) (others more : List (List Text)) (bad : List Text) → AllByRecursion P others → Reached cfg s xs (others ++ bad ∷ []) s1 y1
      → (length bad ≡ width → ⊥) → Reached cfg s xs more s2 y2 → AllByRecursion (λ (fields : List Text). length fields ≡ width) more → AllByRecursion P more
  all_to_bad P width s s1 s2 xs y1 y2 others [] bad all h differs g wide = tt
  all_to_bad P width s s1 s2 xs y1 y2 [] (m ∷ ms) bad all h differs g wide =
      let first = one_first s s1 s2 xs y1 y2 bad m [] ms h g in
      absurd (differs (ap length first.same ∙ wide.0))
  all_to_bad P width s s1 s2 xs y1 y2 (o ∷ os) (m ∷ ms) bad all h differs g wide =
      let first = one_first s s1 s2 xs y1 y2 o m (os ++ bad ∷ []) ms h g in
      (rw (sym first.same) all.0, all_to_bad P width first.place s1 s2 first.rest y1 y2 os ms bad all.1 first.one differs first.other wide.1)

-- ---- the sheet

module _ {R : Type 0} (sheet : Sheet) (rem : R → Option Text) (next last : Reader R) (s : State) (input : Text) (d : Decided) (fields : List Text) (has : HasRead rem next input (fields ∷ [])) (turns : ℕ) (w : HasSearched sheet rem next last s d turns) where
  read_all : HasRead rem last input (fields ∷ (w.decided ++ w.others))
  read_all = w.gave input (fields ∷ []) has

  none_behind : EndsAfter rem last [] → (header : List Text) (others : List (List Text)) → BeginsWith input (header ∷ (w.decided ++ others)) → AllByRecursion (IsNoEdit sheet s) others
  none_behind ends header others (place, rest, reached) =
      let (end, left, all, none) = ends input (fields ∷ (w.decided ++ w.others)) read_all in
      let first = one_first default_config st.StartRecord end place (strip_bom input) left rest fields header (w.decided ++ w.others) (w.decided ++ others) (rw (append-nil (w.decided ++ w.others)) at all) reached in
      let behind = behind_front default_config first.place end place first.rest left rest w.decided w.others others first.one first.other in
      all_to_end default_config (IsNoEdit sheet s) behind.place end place behind.rest left rest w.others others w.none behind.one none behind.other

  none_before : (header bad : List Text) (others : List (List Text)) → BeginsWith input (((fields ∷ (w.decided ++ w.others)) ++ []) ++ bad ∷ []) → (length bad ≡ width_of sheet → ⊥) → HaveWidth sheet others
      → BeginsWith input (header ∷ (w.decided ++ others)) → AllByRecursion (IsNoEdit sheet s) others
  none_before header bad others (end, left, all) differs wide (place, rest, reached) =
      let nil = append-nil (w.decided ++ w.others) in
      let whole : (fields ∷ ((w.decided ++ w.others) ++ [])) ++ bad ∷ [] ≡ fields ∷ (w.decided ++ (w.others ++ bad ∷ [])) = ap (λ (rs : List (List Text)). fields ∷ (rs ++ bad ∷ [])) nil ∙ ap (λ (rs : List (List Text)). fields ∷ rs) (append_assoc w.decided w.others (bad ∷ [])) in
      let first = one_first default_config st.StartRecord end place (strip_bom input) left rest fields header (w.decided ++ (w.others ++ bad ∷ [])) (w.decided ++ others) (rw whole at all) reached in
      let behind = behind_front default_config first.place end place first.rest left rest w.decided (w.others ++ bad ∷ []) others first.one first.other in
      all_to_bad default_config (IsNoEdit sheet s) (width_of sheet) behind.place end place behind.rest left rest w.others others bad w.none behind.one differs behind.other wide

  stands : BeginsWith input (fields ∷ w.decided)
  stands = let (rest, source, reached) = read_all in reached_front default_config st.StartRecord last.state (strip_bom input) rest (fields ∷ w.decided) w.others reached

-- what a search under the header finds is decided
found_decided : {R : Type 0} (sheet : Sheet) (rem : R → Option Text) (next : Reader R) (s : State) (input : Text) (d : Decided) (fields : List Text) → HasRead rem next input (fields ∷ []) → HasFound sheet rem next s d
    → (front : List (List Text)) × IsDecidedBy sheet s input d front
found_decided sheet rem next s input d fields has (last, turns, w, ends) = (
  w.decided,
  record {
    number = w.number;
    at_front = inr (fields, stands sheet rem next last s input d fields has turns w);
    wide = all_front (λ (r : List Text). length r ≡ width_of sheet) w.decided w.others w.wide;
    last = w.last;
    others = λ header others is begins wide. by ends header others begins wide;
  },
)
  where
    by : EndsAfter rem last [] ⊎ NextDiffers rem last [] (width_of sheet) → (header : List Text) (others : List (List Text)) → BeginsWith input (header ∷ (w.decided ++ others)) → HaveWidth sheet others → AllByRecursion (IsNoEdit sheet s) others
    by (inl end) header others begins wide = none_behind sheet rem next last s input d fields has turns w end header others begins
    by (inr next-differs) header others begins wide =
        let (bad, all, differs) = next-differs input (fields ∷ (w.decided ++ w.others)) (read_all sheet rem next last s input d fields has turns w) in
        none_before sheet rem next last s input d fields has turns w header bad others all differs wide begins

abbrev nothing : Decided
nothing = record { records = 0; key = None }

-- a text without records begins with none
pub no_first : (input : Text) (header : List Text) (others : List (List Text)) → BeginsWith input (header ∷ others) → AreAll input [] → ⊥
unfolding Reached
no_first input header others (place, rest, (p, next, is, more)) (end, left, (same, same'), none) = cc (ap (λ (q : Place). next_record default_config q [] [] (strip_bom input)) same, ap (λ (q : Text). next_record default_config end [] [] q) same', none, next)

-- of an empty sheet nothing is decided
pub none_of_empty : {R : Type 0} (sheet : Sheet) (rem : R → Option Text) (rows : Reader R) (known : Option Text) (s : State) → IfSome known (λ input. HasRead rem rows input []) → EndsAfter rem rows []
    → IfSome known (λ input. (front : List (List Text)) × IsDecidedBy sheet s input nothing front)
none_of_empty sheet rem rows None s start ends = tt
none_of_empty sheet rem rows (Some input) s start ends = (
  [],
  record {
    number = refl;
    at_front = inl refl;
    wide = tt;
    last = refl;
    others = λ header others is begins wide. absurd (no_first input header others begins (ends input [] start));
  },
)

-- a text that begins with another record than the header does not begin with that
pub other_header : {R : Type 0} (sheet : Sheet) (rem : R → Option Text) (next : Reader R) (input : Text) (fields : List Text) → (IsHeader sheet fields → ⊥) → (header : List Text) (others : List (List Text)) → IsHeader sheet header
    → BeginsWith input (header ∷ others) → HasRead rem next input (fields ∷ []) → ⊥
other_header sheet rem next input fields other header others is (place, rest, reached) (left, source, read) =
    let first = one_first default_config st.StartRecord next.state place (strip_bom input) left rest fields header [] others read reached in
    other (rw first.same is)

-- nor of one with another header
pub none_of_other : {R : Type 0} (sheet : Sheet) (rem : R → Option Text) (rows next : Reader R) (known : Option Text) (s : State) (fields : List Text) → IfSome known (λ input. HasRead rem rows input []) → Gave rem rows next (fields ∷ []) → (IsHeader sheet fields → ⊥)
    → IfSome known (λ input. (front : List (List Text)) × IsDecidedBy sheet s input nothing front)
none_of_other sheet rem rows next None s fields start gave other = tt
none_of_other sheet rem rows next (Some input) s fields start gave other = (
  [],
  record {
    number = refl;
    at_front = inl refl;
    wide = tt;
    last = refl;
    others = λ header others is begins wide. absurd (other_header sheet rem next input fields other header others is begins (gave input [] start));
  },
)

-- under the header it is what the search finds, if it comes to its end
pub decided_by : {R : Type 0} (sheet : Sheet) (rem : R → Option Text) (rows next : Reader R) (known : Option Text) (s : State) (fields : List Text) (result : Result Decided SheetFault) → IfSome known (λ input. HasRead rem rows input []) → Gave rem rows next (fields ∷ [])
    → IfOk result (HasFound sheet rem next s) → IfSome known (λ input. IfOk result (λ d. (front : List (List Text)) × IsDecidedBy sheet s input d front))
decided_by sheet rem rows next None s fields result start gave found = tt
decided_by sheet rem rows next (Some input) s fields (Ok d) start gave found = found_decided sheet rem next s input d fields (gave input [] start) found
decided_by sheet rem rows next (Some input) s fields (Err e) start gave found = tt
