-- The log of a state, done as an edit sheet, makes the state again.
use Rattle.std.proofs.Common.{◌≡◌, ℕ, ◌+◌, ◌-◌, ◌≤◌, List, [], ◌∷◌, ◌++◌, length, map, drop, Some, None, inl, inr, refl, sym, ap, subst, ◌∙◌, length-append, arith}
use Rattle.std.specs.List.{AllByRecursion}
use Rattle.std.proofs.lemmas.List.{drop_at, length-map, length_push}
use Rattle.lrs_machine.specs.Lines.{Text}
use Rattle.lrs_machine.specs.Machine.{Record, step_record}
use Rattle.lrs_machine.specs.State.{Edit, State, nothing_known}
use Rattle.lrs_machine.specs.declared.answer.Answer.TheVariants.{Done}
use Rattle.lrs_machine.specs.declared.answer.Limits.{Limits}
use Rattle.lrs_sheet.specs.Laws as sheet
use Rattle.lrs_sheet.specs.Replies.{IsReplied, Replied, lines_of, tally_of}
use Rattle.lrs_sheet_records.specs.Rows.{max_records}
use Rattle.lrs_sheet.specs.Sheets.{AnswersAll, HaveWidth}
use Rattle.lrs_sheet.proofs.Determined.{sheet_determines_reply}
use Rattle.lrs_sheet_records.specs.Kinds.{edit_header}
use Rattle.lrs_sheet_records.specs.Records.{SaysCommand}
use Rattle.lrs_sheet_records.specs.declared.sheet.Sheet.TheVariants.{Edits}
use Rattle.lrs_sheet_log.proofs.Padding.{log_records_say, wide}
use Rattle.lrs_sheet_log.proofs.Redoing.{IsRedone, Redone, made-again}
use Rattle.lrs_sheet_log.proofs.Reading.{is-header, log_reads_as_records}
use Rattle.lrs_sheet_log.specs.Laws.{IsOfCommand, IsPrintable, edit_of}
use Rattle.lrs_promises.specs.Replay.{LogMakesState, MakesAgain, PartGoesOn, done_replies}
use Rattle.lrs_sheet_log.specs.Log.{edits_between, edits_text, log_record}

of-commands : (limits : Limits) (s : State) (es : List Edit) (t : State) → Redone limits s es t → AllByRecursion IsOfCommand es
of-commands limits s [] t h = tt
of-commands limits s (e ∷ es) t (r, printable, is, answer, kept, more) = ((r, printable, is), of-commands limits (step_record limits r s).state es t more)

have-width : (es : List Edit) → AllByRecursion IsOfCommand es → HaveWidth Edits (map log_record es)
have-width [] all = tt
have-width (e ∷ es) ((r, printable, is), more) = (ap (λ (d : Edit). length (log_record d)) is ∙ wide r printable, have-width es more)

-- the record of an edit is answered as its command is
replied-one : (limits : Limits) (s : State) (e : Edit) (r : Record) → IsPrintable r → e ≡ edit_of r → (step_record limits r s).answer ≡ Done (length s.done + 1)
    → IsReplied limits s (log_record e) (record { key = Some e.key; answer = Done (length s.done + 1) }) (step_record limits r s).state
replied-one limits s e r printable is answer =
    let says : SaysCommand (log_record e) r.key r.command = subst (λ (d : Edit). SaysCommand (log_record d) r.key r.command) (sym is) (log_records_say r printable) in
    ((says.is_key, ap (λ (d : Edit). d.key) is ∙ says.same_key), inl (r.key, r.command, says, sym answer, refl))

replied-all : (limits : Limits) (s : State) (es : List Edit) (t : State) → Redone limits s es t → Replied Edits limits s (map log_record es) (done_replies (length s.done) es) t
unfolding Replied
replied-all limits s [] t h = h
replied-all limits s (e ∷ es) t (r, printable, is, answer, kept, more) =
    let mid = (step_record limits r s).state in
    let longer : length mid.done ≡ length s.done + 1 = ap (λ (d : List Edit). length d) kept ∙ length_push s.done e in
    let others = replied-all limits mid es t more in
    (mid, replied-one limits s e r printable is answer, subst (λ (n : ℕ). Replied Edits limits mid (map log_record es) (done_replies n es) t) longer others)

answered-all : (limits : Limits) (s : State) (es : List Edit) (t : State) (old : Text) → Redone limits s es t → length es ≤ max_records
    → AnswersAll [] Edits limits (edits_text es) s t (Some old) (Some (old ++ lines_of (done_replies (length s.done) es))) (tally_of (done_replies (length s.done) es))
answered-all limits s es t old h few =
    let all = of-commands limits s es t h in
    let as-many = length-map es log_record in
    inr (
      edit_header,
      map log_record es,
      done_replies (length s.done) es,
      is-header,
      log_reads_as_records es all,
      record {
        width = have-width es all;
        replied = replied-all limits s es t h;
        written = refl;
      },
      refl,
      omega (arith, as-many, few),
    )

-- one run tells of every run
makes-again : (limits : Limits) (s : State) (es : List Edit) (t : State) → Redone limits s es t → length es ≤ max_records → MakesAgain limits s es t
makes-again limits s es t h few = record {
  answered = λ old. answered-all limits s es t old h few;
  every_run = λ together old run runs.
      let replies = done_replies (length s.done) es in
      let one : sheet.Outcome = record { state = t; written = [] ++ lines_of replies; tally = tally_of replies } in
      let same = sheet_determines_reply Edits together 1 limits (edits_text es) s old [] run one runs (answered-all limits s es t [] h few) in
      (same.state, same.tally);
}

pub part_goes_on : PartGoesOn
part_goes_on limits commands before after all is few =
    let h : IsRedone limits before after = subst (IsRedone limits before) (sym is) (made-again limits commands before all) in
    let size : (length before.done + 1) - 1 ≡ length before.done = omega arith in
    let part : edits_between (length before.done + 1) None after.done ≡ h.beyond =
    ap (λ (n : ℕ). drop n after.done) size ∙ ap (drop (length before.done)) h.all ∙ drop_at before.done h.beyond (length before.done) refl in
    let whole : length after.done ≡ length before.done + length h.beyond = ap (λ (d : List Edit). length d) h.all ∙ length-append before.done h.beyond in
    subst (λ (es : List Edit). MakesAgain limits before es after) (sym part) (makes-again limits before h.beyond after h.redone (omega (arith, whole, few)))

pub log_makes_state : LogMakesState
log_makes_state limits commands after all is few = part_goes_on limits commands nothing_known after all is few
