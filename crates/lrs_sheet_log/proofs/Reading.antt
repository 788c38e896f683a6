-- A log reads as its records, by the rules of `csv`.
use Rattle.std.proofs.Common.{◌≡◌, ℕ, Bool, true, false, List, [], ◌∷◌, ◌++◌, Some, None, map, replicate, length, refl, sym, ap, subst, ◌∙◌, append-nil}
use Rattle.std.specs.Prelude.{◌==◌, ◌||◌, ◌-◌, codes, not}
use Rattle.std.specs.List.{AllByRecursion, flat_map, join_with_byte, list_all, list_any}
use Rattle.std.proofs.lemmas.Bool.{and_parts, false≢true}
use Rattle.std.proofs.lemmas.List.Folds.{flat_map-map}
use Rattle.csv.specs.Machine.{next_record}
use Rattle.csv.specs.Reading.{Reached, default_config, strip_bom}
use Rattle.csv.specs.Writing.{default_writer, field_text, fields_text, is_blank, needs_byte, row_text}
use Rattle.csv.specs.declared.parser.State.TheVariants as st
use Rattle.csv.proofs.RoundTrip.{read-write}
use Rattle.lrs_machine.specs.Lines.{Text}
use Rattle.lrs_machine.specs.Machine.{Record}
use Rattle.lrs_machine.specs.State.{Edit}
use Rattle.lrs_machine.proofs.Joined.{AllLack, Lacks, is_other}
use Rattle.lrs_sheet_records.specs.CanonicalRecords.{argument_text, record_of}
use Rattle.lrs_sheet_records.specs.Kinds.{IsHeader, edit_header, width_of}
use Rattle.lrs_sheet_records.specs.Verbs.{arguments_of, verb_of}
use Rattle.lrs_sheet_records.specs.declared.sheet.Sheet.TheVariants.{Edits}
use Rattle.lrs_sheet_log.proofs.Padding.{record-is}
use Rattle.lrs_sheet_log.proofs.Plain.{comma-outside, feed-outside, lacks-padded, quote-outside, return-outside}
use Rattle.lrs_sheet_log.specs.Laws.{IsOfCommand, IsPrintable, LogReadsAsRecords, edit_of}
use Rattle.lrs_sheet_log.specs.Log.{edits_text, log_record, record_text}

-- ---- texts that need no quotes

abbrev IsQuiet : Text → Type 0
IsQuiet text = list_any (needs_byte default_writer) text ≡ false

is-not : (b : Bool) → not b ≡ true → b ≡ false
is-not true h = absurd (false≢true h)
is-not false h = refl

quiet-byte : (b : ℕ) → (b == 44) ≡ false → (b == 34) ≡ false → (b == 13) ≡ false → (b == 10) ≡ false → needs_byte default_writer b ≡ false
quiet-byte b comma mark cr lf = rw (comma, mark, cr, lf) refl

neither : (a b : Bool) → a ≡ false → b ≡ false → (a || b) ≡ false
neither true b e f = absurd (false≢true (sym e))
neither false b e f = f

quiet-by : (text : Text) → Lacks 44 text → Lacks 34 text → Lacks 13 text → Lacks 10 text → IsQuiet text
quiet-by [] a q r f = refl
quiet-by (b ∷ text) a q r f =
    let comma = and_parts (is_other 44 b) (list_all (is_other 44) text) a in
    let mark = and_parts (is_other 34 b) (list_all (is_other 34) text) q in
    let cr = and_parts (is_other 13 b) (list_all (is_other 13) text) r in
    let lf = and_parts (is_other 10 b) (list_all (is_other 10) text) f in
    let first = quiet-byte b (is-not (b == 44) comma.0) (is-not (b == 34) mark.0) (is-not (b == 13) cr.0) (is-not (b == 10) lf.0) in
    neither (needs_byte default_writer b) (list_any (needs_byte default_writer) text) first (quiet-by text comma.1 mark.1 cr.1 lf.1)

all-quiet : (xs : List Text) → AllLack 44 xs → AllLack 34 xs → AllLack 13 xs → AllLack 10 xs → AllByRecursion IsQuiet xs
all-quiet [] a q r f = tt
all-quiet (x ∷ xs) a q r f = (quiet-by x a.0 q.0 r.0 f.0, all-quiet xs a.1 q.1 r.1 f.1)

-- ---- the text of a record is as the default writer of `csv` writes it

quiet-text : (x : Text) → IsQuiet x → field_text default_writer x ≡ x
quiet-text x q = rw q refl

joined-text : (x : Text) (xs : List Text) → AllByRecursion IsQuiet (x ∷ xs) → join_with_byte 44 (x ∷ xs) ≡ field_text default_writer x ++ fields_text default_writer xs
unfolding fields_text
joined-text x [] q = sym (quiet-text x q.0) ∙ sym (append-nil (field_text default_writer x))
joined-text x (y ∷ ys) q =
    ap (λ (t : Text). x ++ 44 ∷ t) (joined-text y ys q.1)
    ∙ ap (λ (t : Text). t ++ 44 ∷ (field_text default_writer y ++ fields_text default_writer ys)) (sym (quiet-text x q.0))

written-row : (x y : Text) (ys : List Text) → AllByRecursion IsQuiet (x ∷ y ∷ ys) → record_text (x ∷ y ∷ ys) ≡ row_text default_writer (x ∷ y ∷ ys)
unfolding is_blank
written-row x y ys q = ap (λ (t : Text). t ++ 10 ∷ []) (joined-text x (y ∷ ys) q)

-- a record of two fields at least, none of which needs quotes
record IsLine (row : List Text) : Type 0 where
  first : Text
  second : Text
  others : List Text
  is : row ≡ first ∷ second ∷ others
  quiet : AllByRecursion IsQuiet row

line-read : (row : List Text) (tail : Text) → IsLine row → next_record default_config st.StartRecord [] [] (record_text row ++ tail) ≡ Some (row, st.StartRecord, tail)
line-read row tail h =
    let P : List Text → Type 0 = λ t. AllByRecursion IsQuiet t → next_record default_config st.StartRecord [] [] (record_text t ++ tail) ≡ Some (t, st.StartRecord, tail) in
    let read : P (h.first ∷ h.second ∷ h.others) = λ q.
    ap (λ (t : Text). next_record default_config st.StartRecord [] [] (t ++ tail)) (written-row h.first h.second h.others q) ∙ read-write (h.first ∷ h.second ∷ h.others) tail in
    subst P (sym h.is) read h.quiet

lines-read : (rows : List (List Text)) → AllByRecursion IsLine rows → Reached default_config st.StartRecord (flat_map record_text rows) rows st.StartRecord []
unfolding Reached
lines-read [] all = (refl, refl)
lines-read (row ∷ rows) all = ((row, st.StartRecord, flat_map record_text rows), line-read row (flat_map record_text rows) all.0, refl, lines-read rows all.1)

-- ---- the records of a log

header-line : IsLine edit_header
header-line = record {
  first = codes "key";
  second = codes "verb";
  others = codes "a" ∷ codes "b" ∷ codes "c" ∷ codes "d" ∷ codes "e" ∷ codes "f" ∷ codes "g" ∷ codes "h" ∷ codes "i" ∷ [];
  is = refl;
  quiet = (refl, (refl, (refl, (refl, (refl, (refl, (refl, (refl, (refl, (refl, (refl, tt)))))))))));
}

pub is-header : IsHeader Edits edit_header
unfolding strip_bom
is-header = refl

padded-line : (r : Record) (n : ℕ) → IsPrintable r → IsLine (record_of r.key r.command ++ replicate n [])
padded-line r n h = record {
  first = r.key;
  second = verb_of r.command;
  others = map argument_text (arguments_of r.command) ++ replicate n [];
  is = refl;
  quiet = all-quiet (record_of r.key r.command ++ replicate n []) (lacks-padded 44 comma-outside r.key r.command n h.key h.command) (lacks-padded 34 quote-outside r.key r.command n h.key h.command)
      (lacks-padded 13 return-outside r.key r.command n h.key h.command) (lacks-padded 10 feed-outside r.key r.command n h.key h.command);
}

record-line : (r : Record) → IsPrintable r → IsLine (log_record (edit_of r))
record-line r h = subst IsLine (sym (record-is r h)) (padded-line r (width_of Edits - length (record_of r.key r.command)) h)

record-lines : (edits : List Edit) → AllByRecursion IsOfCommand edits → AllByRecursion IsLine (map log_record edits)
record-lines [] all = tt
record-lines (e ∷ edits) ((r, printable, is), more) = (subst (λ (d : Edit). IsLine (log_record d)) (sym is) (record-line r printable), record-lines edits more)

-- a log has no byte order mark
no-mark : (edits : List Edit) → strip_bom (edits_text edits) ≡ edits_text edits
unfolding strip_bom
no-mark edits = refl

none-left : next_record default_config st.StartRecord [] [] [] ≡ None
unfolding next_record
none-left = refl

pub log_reads_as_records : LogReadsAsRecords
log_reads_as_records edits all =
    let rows = edit_header ∷ map log_record edits in
    let same : flat_map record_text rows ≡ strip_bom (edits_text edits) = ap (λ (t : Text). record_text edit_header ++ t) (flat_map-map record_text log_record edits) ∙ sym (no-mark edits) in
    let read = lines-read rows (header-line, record-lines edits all) in
    (st.StartRecord, [], subst (λ (t : Text). Reached default_config st.StartRecord t rows st.StartRecord []) same read, none-left)
