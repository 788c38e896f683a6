-- The sheet of a route is the log of the commands that make it.
use Rattle.std.proofs.Common.{◌≡◌, ℕ, ◌<◌, ◌≤◌, Bool, true, false, List, [], ◌∷◌, ◌++◌, length, map, refl, sym, ap, subst, ◌∙◌, arith, length-append}
use Rattle.std.specs.Prelude.{if◌then◌else◌, IsTrue, codes, nat_le, not, pos, ◌&&◌}
use Rattle.std.specs.List.{AllByRecursion, flat_map, list_all}
use Rattle.std.proofs.lemmas.Bool.{and_from, and_parts}
use Rattle.std.proofs.lemmas.Bool.Decides.{nat_tests}
use Rattle.std.proofs.lemmas.List.Folds.{list_all-append}
use Rattle.lrs_measure.specs.Alphabets.{has_dash_first, has_length, is_capital, is_lone_dash, is_text}
use Rattle.lrs_measure.specs.Limits.{greatest_measure}
use Rattle.lrs_measure.specs.Lists.{is_nothing}
use Rattle.lrs_element.specs.declared.marks.Mark.{Mark}
use Rattle.lrs_position.specs.Names.{is_referent_name, is_route_byte, is_route_name}
use Rattle.lrs_position.specs.declared.expression.Expr.TheVariants.{Abs}
use Rattle.lrs_position.specs.declared.route.Referent.{Referent}
use Rattle.lrs_position.specs.declared.route.Route.{Route}
use Rattle.lrs_machine.specs.EnteredNumbers.{are_entered_marks, is_chainage}
use Rattle.lrs_machine.specs.Keys.{is_key, is_key_byte}
use Rattle.lrs_machine.specs.Lines.{Text}
use Rattle.lrs_machine.specs.Machine.{Record}
use Rattle.lrs_machine.specs.WellFormedCommands.{IsPosition}
use Rattle.lrs_sheet_records.specs.Kinds.{edit_header}
use Rattle.lrs_sheet_records.specs.Records.{SaysCommand}
use Rattle.lrs_sheet_records.specs.Rows.{AreAll}
use Rattle.lrs_sheet_log.proofs.Padding.{log_records_say, record-is}
use Rattle.lrs_sheet_log.proofs.Reading.{log_reads_as_records}
use Rattle.lrs_sheet_log.specs.Laws.{IsEnteredReferent, IsEnteredRoute, IsOfCommand, IsPrintable, RouteSheetsRead, edit_of}
use Rattle.lrs_sheet_log.specs.Log.{edits_text, log_line, log_record, record_text}
use Rattle.lrs_sheet_log.specs.RouteSheets.{calibrated, chainage_marks, command_line, laid, laid_with_referents, makes_route, route_sheet, set_on}

-- ---- keys

each : (test other : ℕ → Bool) → ((byte : ℕ) → test byte ≡ true → other byte ≡ true) → (text : Text) → list_all test text ≡ true → list_all other text ≡ true
each test other one [] h = refl
each test other one (byte ∷ text) h =
    let both = and_parts (test byte) (list_all test text) h in
    and_from (other byte) (list_all other text) (one byte both.0) (each test other one text both.1)

route-byte : (byte : ℕ) → is_route_byte byte ≡ true → is_key_byte byte ≡ true
route-byte byte h = grind (arith, nat_tests)

capital : (byte : ℕ) → is_capital byte ≡ true → is_key_byte byte ≡ true
capital byte h = grind (arith, nat_tests)

short : (most : ℕ) (text : Text) → has_length most text ≡ true → length text ≤ most
short most text h = let both = and_parts (nat_le 1 (length text)) (nat_le (length text) most) h in let upper = both.1 in grind (arith, nat_tests)

at-most : (n most : ℕ) → n ≤ most → nat_le n most ≡ true
at-most n most h = grind (arith, nat_tests)

-- a verb, a dash and a name are a key
key-of : (verb name : Text) → 0 < length verb → length verb ≤ 20 → list_all is_key_byte verb ≡ true → is_lone_dash (verb ++ 45 ∷ name) ≡ false → length name ≤ 12 → list_all is_key_byte name ≡ true → is_key (verb ++ 45 ∷ name) ≡ true
key-of verb name some few bytes more low passes =
    let text = verb ++ 45 ∷ name in
    let size = length-append verb (45 ∷ name) in
    let all : list_all is_key_byte text ≡ true = list_all-append is_key_byte verb (45 ∷ name) ∙ and_from (list_all is_key_byte verb) (list_all is_key_byte (45 ∷ name)) bytes passes in
    let long : has_length 40 text ≡ true = and_from (nat_le 1 (length text)) (nat_le (length text) 40) (at-most 1 (length text) (omega (arith, size, some))) (at-most (length text) 40 (omega (arith, size, few, low))) in
    and_from (is_text 40 is_key_byte text) (not (is_lone_dash text)) (and_from (has_length 40 text) (list_all is_key_byte text) long all) (ap not more)

name-passes : (name : Text) → is_route_name name ≡ true → (length name ≤ 12) × (list_all is_key_byte name ≡ true)
name-passes name h =
    let text = (and_parts (is_text 12 is_route_byte name) (not (has_dash_first name)) h).0 in
    let both = and_parts (has_length 12 name) (list_all is_route_byte name) text in
    (short 12 name both.0, each is_route_byte is_key_byte route-byte name both.1)

referent-passes : (name : Text) → is_referent_name name ≡ true → (length name ≤ 12) × (list_all is_key_byte name ≡ true)
referent-passes name h =
    let both = and_parts (has_length 12 name) (list_all is_capital name) h in
    (short 12 name both.0, each is_capital is_key_byte capital name both.1)

-- ---- each command is printable

laid-printable : (r : Route) (marks : List Mark) → IsEnteredRoute r → IsTrue (are_entered_marks marks) → IsPrintable (laid r marks)
laid-printable r marks h entered =
    let name = name-passes r.name h.name in
    record {
      key = key-of (codes "route") r.name (omega arith) (omega arith) refl refl name.0 name.1;
      command = (h.name, h.pieces, entered);
      lowest = (tt, (tt, (tt, tt)));
    }

calibrated-printable : (r : Route) → IsEnteredRoute r → IsPrintable (calibrated r)
calibrated-printable r h =
    let name = name-passes r.name h.name in
    record {
      key = key-of (codes "recalibrate") r.name (omega arith) (omega arith) refl refl name.0 name.1;
      command = (h.name, h.marks);
      lowest = (tt, (tt, tt));
    }

below-measure : (n : ℕ) → is_chainage n ≡ true → nat_le n greatest_measure ≡ true
below-measure n h = grind (arith, nat_tests)

set-printable : (route : Text) (x : Referent) → is_route_name route ≡ true → IsEnteredReferent x → IsPrintable (set_on route x)
set-printable route x named h =
    let name = referent-passes x.name h.0 in
    let at : IsPosition (Abs (record { num = pos x.at; den = 1 })) = record { entered = below-measure x.at h.1; referent = refl } in
    record {
      key = key-of (codes "ref") x.name (omega arith) (omega arith) refl refl name.0 name.1;
      command = (h.0, named, at);
      lowest = (tt, (tt, (tt, (tt, tt))));
    }

marks-entered : (n : ℕ) → is_chainage n ≡ true → are_entered_marks (chainage_marks n) ≡ true
marks-entered n h = and_from (is_chainage n && nat_le n greatest_measure) true (and_from (is_chainage n) (nat_le n greatest_measure) h (below-measure n h)) refl

-- the referents and the last command
rest-printable : (r : Route) (refs : List Referent) → IsEnteredRoute r → AllByRecursion IsEnteredReferent refs → AllByRecursion IsPrintable (map (set_on r.name) refs ++ calibrated r ∷ [])
rest-printable r [] h all = (calibrated-printable r h, tt)
rest-printable r (x ∷ refs) h all = (set-printable r.name x h.name all.0, rest-printable r refs h all.1)

pub all-printable : (r : Route) → IsEnteredRoute r → AllByRecursion IsPrintable (makes_route r)
all-printable r h = by (is_nothing r.refs)
  where
    by : (b : Bool) → AllByRecursion IsPrintable (if b then laid r r.marks ∷ [] else laid_with_referents r)
    by true = (laid-printable r r.marks h h.marks, tt)
    by false = (laid-printable r (chainage_marks (length r.course)) h (marks-entered (length r.course) h.length), rest-printable r r.refs h h.refs)

-- ---- the sheet

are-of-commands : (cs : List Record) → AllByRecursion IsPrintable cs → AllByRecursion IsOfCommand (map edit_of cs)
are-of-commands [] all = tt
are-of-commands (c ∷ cs) all = ((c, all.0, refl), are-of-commands cs all.1)

same-lines : (cs : List Record) → AllByRecursion IsPrintable cs → flat_map command_line cs ≡ flat_map log_line (map edit_of cs)
same-lines [] all = refl
same-lines (c ∷ cs) all =
    let first : command_line c ≡ log_line (edit_of c) = ap record_text (sym (record-is c all.0)) in
    let others = same-lines cs all.1 in
    λ i. first i ++ others i

each-said : (cs : List Record) → AllByRecursion IsPrintable cs → AllByRecursion (λ c. SaysCommand (log_record (edit_of c)) c.key c.command) cs
each-said [] all = tt
each-said (c ∷ cs) all = (log_records_say c all.0, each-said cs all.1)

pub route_sheets_read : RouteSheetsRead
route_sheets_read r h =
    let all = all-printable r h in
    let cs = makes_route r in
    let is : route_sheet r ≡ edits_text (map edit_of cs) = ap (λ (t : Text). record_text edit_header ++ t) (same-lines cs all) in
    record {
      log = is;
      read = subst (λ (t : Text). AreAll t (edit_header ∷ map log_record (map edit_of cs))) (sym is) (log_reads_as_records (map edit_of cs) (are-of-commands cs all));
      said = each-said cs all;
    }
