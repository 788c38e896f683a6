-- The record of an edit: its fields, its width, and what it says.
use Rattle.std.proofs.Common.{◌≡◌, ℕ, zero, suc, ◌+◌, ◌-◌, ◌≤◌, true, List, [], ◌∷◌, ◌++◌, length, replicate, map, length-append, refl, sym, ap, subst, ◌∙◌, arith}
use Rattle.std.specs.Prelude.{Contains, IsTrue, nat_le}
use Rattle.std.proofs.lemmas.List.{length-replicate}
use Rattle.csv.specs.Records.{field_at}
use Rattle.lrs_machine.specs.Keys.{is_key}
use Rattle.lrs_machine.specs.Lines.{Text, line_of}
use Rattle.lrs_machine.specs.Machine.{Record}
use Rattle.lrs_machine.specs.WellFormedCommands.{IsWellFormed}
use Rattle.lrs_machine.specs.declared.answer.Field.{Field}
use Rattle.lrs_machine.specs.declared.command.Command.{Command}
use Rattle.lrs_machine.specs.declared.command.Command.TheVariants as verb
use Rattle.lrs_sheet_records.specs.CanonicalRecords.{argument_text, command_fields, record_of}
use Rattle.lrs_sheet_records.specs.Kinds.{width_of}
use Rattle.lrs_sheet_records.specs.Records.{SayAll, SaysCommand, place_of, text_at, texts_of}
use Rattle.lrs_sheet_records.specs.Shapes.{Argument, Says, Shape}
use Rattle.lrs_sheet_records.specs.Verbs.{all_verbs, arguments_of, shapes_of, verb_of}
use Rattle.lrs_sheet_records.specs.declared.sheet.Sheet.TheVariants.{Edits}
use Rattle.lrs_sheet_records.proofs.Printed.{printed_records_say}
use Rattle.lrs_sheet_records.proofs.PrintedTexts.{below, split-joined}
use Rattle.lrs_sheet_records.proofs.TableLines.{lines_are_the_tables}
use Rattle.lrs_sheet_log.proofs.Plain.{comma-outside, lacks-fields}
use Rattle.lrs_sheet_log.specs.Laws.{IsPrintable, LogRecordsSay, edit_of}
use Rattle.lrs_sheet_log.specs.Log.{fields_of_line, log_record, padded}

-- ---- what a padded record says

empty-at : (n i : ℕ) → text_at (replicate n []) i ≡ []
unfolding field_at
empty-at zero i = refl
empty-at (suc n) zero = refl
empty-at (suc n) (suc i) = empty-at n i

padded-at : (xs : List Text) (n i : ℕ) → text_at (xs ++ replicate n []) i ≡ text_at xs i
unfolding field_at
padded-at [] n i = empty-at n i
padded-at (x ∷ xs) n zero = refl
padded-at (x ∷ xs) n (suc i) = padded-at xs n i

-- fields of the same texts say the same arguments
say-all : (xs ys : List Text) → ((i : ℕ) → text_at ys i ≡ text_at xs i) → (place : ℕ) (shapes : List Shape) (arguments : List Argument) → SayAll xs place shapes arguments → SayAll ys place shapes arguments
say-all xs ys same place [] [] h = λ i above. same i ∙ h i above
say-all xs ys same place [] (a ∷ more) h = absurd h
say-all xs ys same place (shape ∷ shapes) [] h = absurd h
say-all xs ys same place (shape ∷ shapes) (a ∷ more) h =
    let texts : texts_of xs ≡ texts_of ys = λ i field. sym (same (place_of field)) i in
    let first : Says (texts_of ys) shape (text_at xs place) a = subst (λ (t : Field → Text). Says t shape (text_at xs place) a) texts h.0 in
    (subst (λ (t : Text). Says (texts_of ys) shape t a) (sym (same place)) first, say-all xs ys same (place + 1) shapes more h.1)

says-as : (xs ys : List Text) (key : Text) (a : Command) → ((i : ℕ) → text_at ys i ≡ text_at xs i) → SaysCommand xs key a → SaysCommand ys key a
says-as xs ys key a same h = record {
  is_key = subst (λ (t : Text). IsTrue (is_key t)) (sym (same 0)) h.is_key;
  same_key = h.same_key ∙ sym (same 0);
  is_verb = subst (λ (t : Text). Contains all_verbs t) (sym (same 1)) h.is_verb;
  same_verb = same 1 ∙ h.same_verb;
  arguments = say-all xs ys same 2 (shapes_of (verb_of a)) (arguments_of a) h.arguments;
}

-- ---- the record of an edit

fields-of : (a : Command) → IsWellFormed a → fields_of_line (line_of a) ≡ command_fields a
fields-of a h = ap fields_of_line (lines_are_the_tables a) ∙ split-joined 44 (verb_of a) (map argument_text (arguments_of a)) refl (lacks-fields 44 comma-outside a h)

-- the record of an edit is that of its command, with empty fields behind it
pub record-is : (r : Record) → IsPrintable r → log_record (edit_of r) ≡ padded (width_of Edits) (record_of r.key r.command)
record-is r h = ap (λ (texts : List Text). padded (width_of Edits) (r.key ∷ texts)) (fields-of r.command h.command)

pub log_records_say : LogRecordsSay
log_records_say r h =
    let texts = record_of r.key r.command in
    let says = says-as texts (padded (width_of Edits) texts) r.key r.command (padded-at texts (width_of Edits - length texts)) (printed_records_say r.key r.command h.key h.command h.lowest) in
    subst (λ (t : List Text). SaysCommand t r.key r.command) (sym (record-is r h)) says

-- ---- its width

few-fields : (key : Text) (a : Command) → nat_le (length (record_of key a)) 11 ≡ true
few-fields key (verb.Link l) = refl
few-fields key (verb.Class c) = refl
few-fields key (verb.Route name pieces marks) = refl
few-fields key (verb.Ref name route at) = refl
few-fields key (verb.Unref name) = refl
few-fields key (verb.Enter e) = refl
few-fields key (verb.Retire asset route location) = refl
few-fields key (verb.Split route at name) = refl
few-fields key (verb.Join first second) = refl
few-fields key (verb.Renumber route name) = refl
few-fields key (verb.Recalibrate route marks) = refl
few-fields key (verb.Realign route first end pieces marks) = refl
few-fields key (verb.Close route) = refl
few-fields key (verb.Supersede e) = refl
few-fields key (verb.Turn route) = refl

padded-width : (width : ℕ) (xs : List Text) → length xs ≤ width → length (padded width xs) ≡ width
padded-width width xs few =
    let whole = length-append xs (replicate (width - length xs) []) in
    let added : length (replicate {A = Text} (width - length xs) []) ≡ width - length xs = length-replicate (width - length xs) [] in
    omega (arith, whole, added, few)

-- a record has as many fields as the header
pub wide : (r : Record) → IsPrintable r → length (log_record (edit_of r)) ≡ width_of Edits
wide r h =
    ap (λ (t : List Text). length t) (record-is r h)
    ∙ padded-width (width_of Edits) (record_of r.key r.command) (below 11 (length (record_of r.key r.command)) (few-fields r.key r.command))
