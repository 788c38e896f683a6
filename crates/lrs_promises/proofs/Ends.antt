-- Equal bytes and equal states give equal bytes and equal states.
use Rattle.std.specs.List.{AllByRecursion}
use Rattle.std.proofs.Common.{◌≡◌, ◌⊎◌, inl, inr, ℕ, Bool, true, false, List, [], ◌∷◌, ◌++◌, append-nil, append_assoc, Option, Some, Result, Ok, Err, refl, sym, ap, subst, ◌∙◌}
use Rattle.std.proofs.lemmas.Bool.{false≢true}
use Rattle.lrs_machine.specs.Image.{state_of}
use Rattle.lrs_machine.specs.Lines.{Text}
use Rattle.lrs_machine.specs.Sound.{IsSound}
use Rattle.lrs_machine.specs.State.{State}
use Rattle.lrs_machine.specs.declared.answer.Limits.{Limits}
use Rattle.lrs_machine.specs.declared.image.Image.{Image}
use Rattle.lrs_machine.specs.declared.table.Table.{Table}
use Rattle.lrs_desk.specs.DeskView.{DeskView}
use Rattle.lrs_sheet_records.specs.Kinds.{IsHeader, width_of}
use Rattle.lrs_sheet_records.specs.Questions.{IsQuestionHeader}
use Rattle.lrs_sheet_records.specs.declared.sheet.Sheet.{Sheet}
use Rattle.lrs_sheet_records.specs.declared.sheet.Sheet.TheVariants as sheet
use Rattle.lrs_sheet.specs.Replies.{lines_of, tally_of}
use Rattle.lrs_sheet.specs.Repetition.{HasKeysOnce}
use Rattle.lrs_sheet.specs.Resumption.{Resumes}
use Rattle.lrs_sheet_records.specs.Rows.{BeginsWith}
use Rattle.lrs_sheet.specs.Sheets.{AreAnswered, Runs, RunsBehind, records_together}
use Rattle.lrs_sheet.specs.Trials.{IsTried}
use Rattle.lrs_sheet_records.specs.declared.fault.SheetFault.{SheetFault}
use Rattle.lrs_sheet_records.specs.declared.fault.SheetFault.TheVariants as fault
use Rattle.lrs_sheet.specs.declared.reply.Reply.{Reply}
use Rattle.lrs_sheet.specs.declared.reply.Tally.{Tally}
use Rattle.lrs_sheet.proofs.Determined.{one-run}
use Rattle.lrs_sheet.proofs.Repeating.{repeated_not_once}
use Rattle.lrs_sheet_questions.specs.SheetAnswers.{AreAnswered as AreReplied, RunsQuestions, width}
use Rattle.lrs_sheet_questions.specs.Replies.{Reply as QuestionReply, lines_of as question_lines, tally_of as question_tally}
use Rattle.lrs_sheet_questions.specs.declared.tally.QuestionTally.{QuestionTally}
use Rattle.lrs_web_requests.specs.Request.{Asked, refused, not_allowed, page, query, sheet as posted}
use Rattle.lrs_web_requests.specs.Text.{Answer, answer_text, empty_answer}
use Rattle.lrs_web_requests.specs.declared.request.Course.{Course}
use Rattle.lrs_web_requests.specs.declared.request.Course.TheVariants as course
use Rattle.lrs_web.specs.QueryAnswers.{AnswersAsked}
use Rattle.lrs_web.specs.Questions.{RepliesToQuestions}
use Rattle.lrs_web.specs.RequestAnswers.{Does, DoesPosted, posted_at}
use Rattle.lrs_web.specs.declared.request.Posted.{Posted}
use Rattle.lrs_web.specs.declared.request.Posted.TheVariants as post
use Rattle.lrs_web.specs.Sheets.{DoesAllOrNone, DoesTried, IsAccepted, IsAnswerAfter, RunsSheet, WasTried, answer_after, refusal_after}
use Rattle.lrs_promises.specs.Calls.{Did, is_decided}
use Rattle.lrs_promises.specs.Determinism.{AsksNoHistory, CallsEndAlike, EndAlike, IsCallOfState, IsOfNoHistory, IsOfState, IsPostedOfState, IsQuestion, OnlyAsks, QuestionSheetsEndAlike, QuestionsEndAlike, ResumedEndAlike, SameInventories, SheetsEndAlike, StandAlike, WroteAlike}
use Rattle.lrs_promises.specs.declared.calls.Call.{Call}
use Rattle.lrs_promises.specs.declared.calls.Call.TheVariants as call
use Rattle.lrs_promises.proofs.Agreeing.{image_alike, state_alike}
use Rattle.lrs_promises.proofs.OneInventory.{same_inventories}
use Rattle.lrs_promises.proofs.FullLimits.{full_alike}
use Rattle.lrs_promises.proofs.Framed.{Alike, Framed, PassAlike, all_begin, each, empty, framed_alike, neither, other_header, other_width, whole}
use Rattle.lrs_promises.proofs.Given.{answer_decided, call_gave, undecided}
use Rattle.lrs_promises.proofs.Replied.{replies_alike}
use Rattle.lrs_promises.proofs.Resumed.{one_decided}

-- ---- a sheet

module _ (sheet : Sheet) (limits : Limits) (input : Text) (before : State) where
  -- nothing is done, and nothing written
  abbrev Unchanged : State → Text → Text → Type 0
  Unchanged after old written = (after ≡ before) × (written ≡ old)

  -- these records are answered so
  abbrev Answered : State → Text → Text → List (List Text) → List Reply → Type 0
  Answered after old written records replies = AreAnswered sheet limits before records replies after (Some old) (Some written)

  -- how a run that goes on behind these records was decided
  abbrev Ran : List (List Text) → State → Text → Text → Result Tally SheetFault → Type 0
  Ran passed after old written = Framed (IsHeader sheet) (width_of sheet) input tally_of [] passed (Unchanged after old written) (Answered after old written)

  ran : (passed : List (List Text)) (together : ℕ) (after : State) (old written : Text) (ended : Result Tally SheetFault) → is_decided ended ≡ true
      → RunsBehind passed sheet together limits input before after (Some old) (Some written) ended → Ran passed after old written ended
  ran passed together after old written (Ok tally) d (inl (all, same, keeps, count)) = subst (λ t. Ran passed after old written (Ok t)) (sym count) (empty all (same, keeps))
  ran passed together after old written (Ok tally) d (inr (header, records, replies, is, all, done, count, few)) =
      subst (λ t. Ran passed after old written (Ok t)) (sym count) (whole header records replies is all done.width done)
  ran passed together after old written (Err fault.BadHeader) d (header, begins, other, same, keeps) = other_header header begins other (same, keeps)
  ran passed together after old written (Err fault.BadCsv) d (header, records, fields, replies, is, begins, other, done) =
      other_width header records fields replies is (subst (λ (r : List (List Text)). BeginsWith input (header ∷ r)) (append_assoc passed records (fields ∷ [])) begins) other done.width done
  ran passed together after old written (Err fault.Read) d h = absurd (false≢true d)
  ran passed together after old written (Err fault.Write) d h = absurd (false≢true d)
  ran passed together after old written (Err fault.Memory) d h = absurd (false≢true d)
  ran passed together after old written (Err (fault.Desk e)) d h = absurd (false≢true d)

  module _ (after instead : State) (old written earlier other : Text) where
    of_alike : (ended end : Result Tally SheetFault) → Alike (Unchanged after old written) (Unchanged instead earlier other) (Answered after old written) (Answered instead earlier other) ended end
        → EndAlike old written earlier other after instead ended end
    of_alike _ _ (neither ended (same, keeps) (also, kept)) = record {
      wrote = record { reply = []; one = keeps ∙ sym (append-nil old); same = kept ∙ sym (append-nil earlier); ends = refl };
      state = same ∙ sym also;
    }
    of_alike _ _ (each end records replies more done did) =
        let (alike, state) = one-run sheet limits before after instead records replies more done.replied did.replied in
        record {
          wrote = record {
            reply = lines_of replies;
            one = done.written;
            same = did.written ∙ ap (λ (r : List Reply). earlier ++ lines_of r) (sym alike);
            ends = ap end alike;
          };
          state = state;
        }

    runs_alike : (passed beyond : List (List Text)) (together others : ℕ) (ended end : Result Tally SheetFault) → PassAlike (IsHeader sheet) input passed beyond → is_decided ended ≡ true → is_decided end ≡ true
        → RunsBehind passed sheet together limits input before after (Some old) (Some written) ended → RunsBehind beyond sheet others limits input before instead (Some earlier) (Some other) end
        → EndAlike old written earlier other after instead ended end
    runs_alike passed beyond together others ended end pass d e runs run =
        of_alike ended end (framed_alike (IsHeader sheet) (width_of sheet) input tally_of [] passed beyond pass (Unchanged after old written) (Unchanged instead earlier other) (Answered after old written) (Answered instead earlier other)
        ended end (ran passed together after old written ended d runs) (ran beyond others instead earlier other end e run))

-- a whole sheet passes over nothing
pub sheets_end_alike : SheetsEndAlike
sheets_end_alike sheet together others limits input before after instead old written earlier other ended end d e runs run =
    runs_alike sheet limits input before after instead old written earlier other [] [] together others ended end (λ header records more is one two. refl) d e runs run

-- one that goes on passes over what is decided
pub resumed_end_alike : ResumedEndAlike
resumed_end_alike sheet failed broken together others limits input before after instead old written earlier other ended end d e (inl none) run =
    absurd (undecided failed before after (Some old) (Some written) ended d none)
resumed_end_alike sheet failed broken together others limits input before after instead old written earlier other ended end d e (inr h) (inl none) =
    absurd (undecided broken before instead (Some earlier) (Some other) end e none)
resumed_end_alike sheet failed broken together others limits input before after instead old written earlier other ended end d e (inr (once, decided, passed, is, runs)) (inr (alone, found, beyond, by, run)) =
    runs_alike sheet limits input before after instead old written earlier other passed beyond together others ended end (one_decided sheet before input decided found passed beyond is by) d e runs run

-- of one that went on so, no two records have one key
gone_on_once : (failed : Bool) (sheet : Sheet) (together : ℕ) (limits : Limits) (input : Text) (before after : State) (old new : Option Text) (ended : Result Tally SheetFault) → is_decided ended ≡ true
    → Resumes failed sheet together limits input before after old new ended → HasKeysOnce sheet input
gone_on_once failed sheet together limits input before after old new ended d (inl none) = absurd (undecided failed before after old new ended d none)
gone_on_once failed sheet together limits input before after old new ended d (inr (once, decided, passed, is, runs)) = once

-- ---- a trial

-- a trial is a run from the first record on, of one record after the other
pub run_of_trial : (sheet : Sheet) (input : Text) (before made : State) (replies : Text) (outcome : Result Tally SheetFault) (tried : IsTried sheet 0 input before made replies outcome)
    → Runs sheet 1 tried.limits input before made (Some []) (Some replies) outcome
run_of_trial sheet input before made replies outcome tried = tried.runs [] (inl refl) refl

-- two trials of the same sheet from one state end alike
trials_alike : (sheet : Sheet) (input : Text) (before start : State) (replies others : Text) (outcome end : Result Tally SheetFault) → before ≡ start → WasTried sheet input before replies outcome → WasTried sheet input start others end
    → is_decided outcome ≡ true → is_decided end ≡ true → WroteAlike [] replies [] others outcome end
trials_alike sheet input before start replies others outcome end same (made, tried) (instead, trial) d e =
    let limits = full_alike tried.limits trial.limits tried.full trial.full in
    let runs = coe 0 1 (k. Runs sheet 1 (limits k) input (same k) made (Some []) (Some replies) outcome) (run_of_trial sheet input before made replies outcome tried) in
    (sheets_end_alike sheet 1 1 trial.limits input start made instead [] replies [] others outcome end d e runs (run_of_trial sheet input start instead others end trial)).wrote

-- one by which an answer that is no 503 came about was decided
tried_decided : {K : Type 0} (holds : K → Result Image Table → Type 0) (sheet : Sheet) (input replies : Text) (outcome : Result Tally SheetFault) (old : DeskView K) (answer : Answer) (new : DeskView K)
    → DoesTried holds sheet input replies outcome old answer new → (answer.status ≡ 503 → ⊥) → is_decided outcome ≡ true
tried_decided holds sheet input replies (Ok tally) old answer new does served = refl
tried_decided holds sheet input replies (Err e) old answer new (inl (accepted, runs)) served = absurd accepted
tried_decided holds sheet input replies (Err e) old answer new (inr (not_accepted, same, is)) served = answer_decided {T = Tally} (Err e) _ answer (inl is) served

-- ---- a sheet of questions

-- how its run was decided
abbrev AskedSo : (List Text → Type 0) → Image → Text → Text → Text → Result QuestionTally SheetFault → Type 0
AskedSo Asks i input old written =
    Framed IsQuestionHeader width input question_tally [] [] (written ≡ old) (λ records replies. AreReplied i records replies (Some old) (Some written) × AllByRecursion Asks records)

all_front : (P : List Text → Type 0) (xs ys : List (List Text)) → AllByRecursion P (xs ++ ys) → AllByRecursion P xs
all_front P [] ys h = tt
all_front P (x ∷ xs) ys h = (h.0, all_front P xs ys h.1)

module _ (Asks : List Text → Type 0) (input : Text) (only : (records : List (List Text)) → BeginsWith input records → AllByRecursion Asks records) where
  asked_so : (i : Image) (old written : Text) (ended : Result QuestionTally SheetFault) → is_decided ended ≡ true → RunsQuestions i input (Some old) (Some written) ended → AskedSo Asks i input old written ended
  asked_so i old written (Ok tally) d (inl (all, keeps, count)) = subst (λ t. AskedSo Asks i input old written (Ok t)) (sym count) (empty all keeps)
  asked_so i old written (Ok tally) d (inr (header, records, replies, is, all, done, count, few)) =
      subst (λ t. AskedSo Asks i input old written (Ok t)) (sym count) (whole header records replies is all done.width (done, (only (header ∷ records) (all_begin input (header ∷ records) all)).1))
  asked_so i old written (Err fault.BadHeader) d (header, begins, other, keeps) = other_header header begins other keeps
  asked_so i old written (Err fault.BadCsv) d (header, records, fields, replies, is, begins, other, done) =
      other_width header records fields replies is begins other done.width (done, all_front Asks records (fields ∷ []) (only (header ∷ (records ++ fields ∷ [])) begins).1)
  asked_so i old written (Err fault.Read) d h = absurd (false≢true d)
  asked_so i old written (Err fault.Write) d h = absurd (false≢true d)
  asked_so i old written (Err fault.Memory) d h = absurd (false≢true d)
  asked_so i old written (Err (fault.Desk e)) d h = absurd (false≢true d)

-- no record asks for a history, or there is one image
asks_so : (i j : Image) (input : Text) → AsksNoHistory input ⊎ (i ≡ j) → (records : List (List Text)) → BeginsWith input records → AllByRecursion (λ fields. IsOfNoHistory fields ⊎ (i ≡ j)) records
asks_so i j input (inl never_asked) records begins = each_one records (never_asked records begins)
  where
    each_one : (records : List (List Text)) → AllByRecursion IsOfNoHistory records → AllByRecursion (λ fields. IsOfNoHistory fields ⊎ (i ≡ j)) records
    each_one [] h = tt
    each_one (fields ∷ rest) h = (inl h.0, each_one rest h.1)
asks_so i j input (inr one) records begins = of_one records
  where
    of_one : (records : List (List Text)) → AllByRecursion (λ fields. IsOfNoHistory fields ⊎ (i ≡ j)) records
    of_one [] = tt
    of_one (fields ∷ rest) = (inr one, of_one rest)

-- what a record may ask of two images, and what is done of records that ask it
abbrev AsksOf : Image → Image → List Text → Type 0
AsksOf i j fields = IsOfNoHistory fields ⊎ (i ≡ j)

abbrev Done : (List Text → Type 0) → Image → Text → Text → List (List Text) → List QuestionReply → Type 0
Done Asks i old written records replies = AreReplied i records replies (Some old) (Some written) × AllByRecursion Asks records

pub question_sheets_end_alike : QuestionSheetsEndAlike
question_sheets_end_alike i j input old written earlier other ended end same one_inventory asks d e runs run =
    by ended end (framed_alike IsQuestionHeader width input question_tally [] [] [] (λ header records more is one two. refl) (written ≡ old) (other ≡ earlier) (Done (AsksOf i j) i old written) (Done (AsksOf i j) j earlier other) ended end
    (asked_so (AsksOf i j) input (asks_so i j input asks) i old written ended d runs) (asked_so (AsksOf i j) input (asks_so i j input asks) j earlier other end e run))
  where
    by : (ended end : Result QuestionTally SheetFault) → Alike (written ≡ old) (other ≡ earlier) (Done (AsksOf i j) i old written) (Done (AsksOf i j) j earlier other) ended end → WroteAlike old written earlier other ended end
    by _ _ (neither ended keeps kept) = record { reply = []; one = keeps ∙ sym (append-nil old); same = kept ∙ sym (append-nil earlier); ends = refl }
    by _ _ (each end records replies more (done, asked) (did, also)) =
        let alike = replies_alike i j same one_inventory records asked replies more done.replied did.replied in
        record {
          reply = question_lines replies;
          one = done.written;
          same = did.written ∙ ap (λ (r : List QuestionReply). earlier ++ question_lines r) (sym alike);
          ends = ap end alike;
        }

-- ---- calls

-- what a call wrote, and the state that it left, as those of another one
record SameEnd (text other : Text) (after instead : State) : Type 0 where
  pub wrote : text ≡ other
  pub state : after ≡ instead

of_end : (text other : Text) (after instead : State) (ended end : Result Tally SheetFault) → EndAlike [] text [] other after instead ended end → SameEnd text other after instead
of_end text other after instead ended end h = record { wrote = h.wrote.one ∙ sym h.wrote.same; state = h.state }

-- the answer to a sheet that is no 503 is that of its end
pub answer_of_end : {T : Type 0} (ended : Result T SheetFault) (lines : Text) (answer : Answer) → IsAnswerAfter ended lines answer → (answer.status ≡ 503 → ⊥) → answer ≡ answer_after ended lines
answer_of_end ended lines answer (inl is) served = is
answer_of_end ended lines answer (inr is) served = absurd (served (ap (λ (a : Answer). a.status) is))

-- an answer that is no 503 is the answer
answered_so : (P : Type 0) (answer : Answer) → (answer.status ≡ 503 → ⊥) → P ⊎ (answer ≡ empty_answer 503) → P
answered_so P answer served (inl told) = told
answered_so P answer served (inr none) = absurd (served (ap (λ (a : Answer). a.status) none))

-- the answers to sheets that ended alike are the same
same_answer : {T : Type 0} (ended end : Result T SheetFault) (lines more : Text) (one two : Answer) → WroteAlike [] lines [] more ended end → IsAnswerAfter ended lines one → (one.status ≡ 503 → ⊥)
    → IsAnswerAfter end more two → (two.status ≡ 503 → ⊥) → answer_text one ≡ answer_text two
same_answer ended end lines more one two h is served too also =
    let lines_are : lines ≡ more = h.one ∙ sym h.same in
    ap answer_text (answer_of_end ended lines one is served ∙ (λ i. answer_after (h.ends i) (lines_are i)) ∙ sym (answer_of_end end more two too also))

equal_inventories : (i j : Image) → i ≡ j → SameInventories i j
equal_inventories i j same = record {
  links = ap (λ (x : Image). x.links) same;
  classes = ap (λ (x : Image). x.classes) same;
  assets = ap (λ (x : Image). x.assets) same;
  routes = ap (λ (x : Image). x.routes) same;
  edits = ap (λ (x : Image). x.edits) same;
}

-- and so are those to questions, over images of one state and one inventory
questions_alike : (body : Text) (one two : Answer) (i j : Image) → state_of i ≡ state_of j → SameInventories i j → AsksNoHistory body ⊎ (i ≡ j) → RepliesToQuestions i body one → (one.status ≡ 503 → ⊥) → RepliesToQuestions j body two → (two.status ≡ 503 → ⊥)
    → answer_text one ≡ answer_text two
questions_alike body one two i j same one_inventory asks (ended, lines, runs, is) served (end, more, run, too) also =
    let h = question_sheets_end_alike i j body [] lines [] more ended end same one_inventory asks (answer_decided ended lines one is served) (answer_decided end more two too also) runs run in
    same_answer ended end lines more one two h is served too also

module _ {K J : Type 0} (holds : K → Result Image Table → Type 0) (has : J → Result Image Table → Type 0) where
  -- sheets that are done as a whole from their first record
  whole_alike : (kind : Sheet) (body : Text) (one two : Answer) (old new : DeskView K) (before after : DeskView J) → StandAlike old before
      → RunsSheet holds kind false body old one new → (one.status ≡ 503 → ⊥) → RunsSheet has kind false body before two after → (two.status ≡ 503 → ⊥)
      → SameEnd (answer_text one) (answer_text two) (state_of new.image) (state_of after.image)
  whole_alike kind body one two old new before after stand (ended, lines, run, is) served (end, more, running, too) also =
      let runs = coe 0 1 (k. Runs kind records_together (stand.limits k) body (stand.state k) (state_of new.image) (Some []) (Some lines) ended) run.runs in
      let h = sheets_end_alike kind records_together records_together before.limits body (state_of before.image) (state_of new.image) (state_of after.image) [] lines [] more ended end
      (answer_decided ended lines one is served) (answer_decided end more two too also) runs running.runs in
      record { wrote = same_answer ended end lines more one two h.wrote is served too also; state = h.state }

  -- the trial refused nothing, or something, at both desks
  tried_alike : (kind : Sheet) (body replies more : Text) (outcome other : Result Tally SheetFault) (one two : Answer) (old new : DeskView K) (before after : DeskView J) → StandAlike old before
      → WroteAlike [] replies [] more outcome other → DoesTried holds kind body replies outcome old one new → (one.status ≡ 503 → ⊥) → DoesTried has kind body more other before two after → (two.status ≡ 503 → ⊥)
      → SameEnd (answer_text one) (answer_text two) (state_of new.image) (state_of after.image)
  tried_alike kind body replies more outcome other one two old new before after stand h (inl (accepted, runs)) served (inl (also_accepted, run)) also =
      whole_alike kind body one two old new before after stand runs served run also
  tried_alike kind body replies more outcome other one two old new before after stand h (inl (accepted, runs)) served (inr (not_accepted, remains, too)) also =
      absurd (not_accepted (subst IsAccepted h.ends accepted))
  tried_alike kind body replies more outcome other one two old new before after stand h (inr (not_accepted, same, is)) served (inl (accepted, run)) also =
      absurd (not_accepted (subst IsAccepted (sym h.ends) accepted))
  tried_alike kind body replies more outcome other one two old new before after stand h (inr (not_accepted, same, is)) served (inr (nor_accepted, remains, too)) also =
      let lines_are : replies ≡ more = h.one ∙ sym h.same in
      record {
        wrote = ap answer_text (is ∙ (λ i. refusal_after (h.ends i) (lines_are i)) ∙ sym too);
        state = ap (λ (d : DeskView K). state_of d.image) same ∙ stand.state ∙ sym (ap (λ (d : DeskView J). state_of d.image) remains);
      }

  all_or_none_alike : (kind : Sheet) (body : Text) (one two : Answer) (old new : DeskView K) (before after : DeskView J) → StandAlike old before
      → DoesAllOrNone holds kind body old one new → (one.status ≡ 503 → ⊥) → DoesAllOrNone has kind body before two after → (two.status ≡ 503 → ⊥)
      → SameEnd (answer_text one) (answer_text two) (state_of new.image) (state_of after.image)
  all_or_none_alike kind body one two old new before after stand (inr (same, none)) served done also = absurd (served (ap (λ (a : Answer). a.status) none))
  all_or_none_alike kind body one two old new before after stand (inl did) served (inr (same, none)) also = absurd (also (ap (λ (a : Answer). a.status) none))
  all_or_none_alike kind body one two old new before after stand (inl (behind, replies, outcome, tried, does)) served (inl (also_behind, more, other, trial, done)) also =
      let h = trials_alike kind body (state_of old.image) (state_of before.image) replies more outcome other stand.state tried trial
      (tried_decided holds kind body replies outcome old one new does served) (tried_decided has kind body more other before two after done also) in
      tried_alike kind body replies more outcome other one two old new before after stand h does served done also

  posted_alike : (what : Posted) (way : Course) (body : Text) (one two : Answer) (old new : DeskView K) (before after : DeskView J) → IsPostedOfState what body → StandAlike old before
      → DoesPosted holds what way body old one new → (one.status ≡ 503 → ⊥) → DoesPosted has what way body before two after → (two.status ≡ 503 → ⊥)
      → SameEnd (answer_text one) (answer_text two) (state_of new.image) (state_of after.image)
  posted_alike (post.Trial kind) way body one two old new before after asks stand did served done also = absurd asks
  posted_alike (post.Draft kind) way body one two old new before after asks stand did served done also = absurd asks
  posted_alike post.Questions way body one two old new before after asks stand did served done also = record {
    wrote = questions_alike body one two old.image before.image stand.state (same_inventories old.image before.image stand.sound stand.also stand.state) (inl asks) (answered_so _ one served did.1) served (answered_so _ two also done.1) also;
    state = ap (λ (d : DeskView K). state_of d.image) did.0 ∙ stand.state ∙ sym (ap (λ (d : DeskView J). state_of d.image) done.0);
  }
  posted_alike (post.Sheet kind) course.BehindLast body one two old new before after asks stand (inr (twice, repeated, same, is)) served (inr (again, repeats, remains, too)) also = record {
    wrote = ap answer_text (answered_so _ one served is ∙ sym (answered_so _ two also too));
    state = ap (λ (d : DeskView K). state_of d.image) same ∙ stand.state ∙ sym (ap (λ (d : DeskView J). state_of d.image) remains);
  }
  posted_alike (post.Sheet kind) course.BehindLast body one two old new before after asks stand (inl (ended, lines, run, is)) served (inr (again, repeats, remains, too)) also =
      let once = gone_on_once old.must_reopen kind records_together old.limits body (state_of old.image) (state_of new.image) (Some []) (Some lines) ended (answer_decided ended lines one is served) run.runs in
      absurd (repeated_not_once kind body again repeats once)
  posted_alike (post.Sheet kind) course.BehindLast body one two old new before after asks stand (inr (twice, repeated, same, is)) served (inl (end, more, running, too)) also =
      let once = gone_on_once before.must_reopen kind records_together before.limits body (state_of before.image) (state_of after.image) (Some []) (Some more) end (answer_decided end more two too also) running.runs in
      absurd (repeated_not_once kind body twice repeated once)
  posted_alike (post.Sheet kind) course.BehindLast body one two old new before after asks stand (inl (ended, lines, run, is)) served (inl (end, more, running, too)) also =
      let runs = coe 0 1 (k. Resumes old.must_reopen kind records_together (stand.limits k) body (stand.state k) (state_of new.image) (Some []) (Some lines) ended) run.runs in
      let h = resumed_end_alike kind old.must_reopen before.must_reopen records_together records_together before.limits body (state_of before.image) (state_of new.image) (state_of after.image) [] lines [] more ended end
      (answer_decided ended lines one is served) (answer_decided end more two too also) runs running.runs in
      record { wrote = same_answer ended end lines more one two h.wrote is served too also; state = h.state }
  posted_alike (post.Sheet kind) course.EachRecord body one two old new before after asks stand did served done also = whole_alike kind body one two old new before after stand did served done also
  posted_alike (post.Sheet kind) course.AllOrNone body one two old new before after asks stand did served done also = all_or_none_alike kind body one two old new before after stand did served done also

  asked_alike : (asked : Asked) (one two : Answer) (old new : DeskView K) (before after : DeskView J) → IsOfState asked → StandAlike old before
      → Does holds asked old one new → (one.status ≡ 503 → ⊥) → Does has asked before two after → (two.status ≡ 503 → ⊥) → SameEnd (answer_text one) (answer_text two) (state_of new.image) (state_of after.image)
  asked_alike (refused status) one two old new before after posts stand did served done also = record {
    wrote = ap answer_text (did.1 ∙ sym done.1);
    state = ap (λ (d : DeskView K). state_of d.image) did.0 ∙ stand.state ∙ sym (ap (λ (d : DeskView J). state_of d.image) done.0);
  }
  asked_alike (not_allowed verb) one two old new before after posts stand did served done also = record {
    wrote = ap answer_text (did.1 ∙ sym done.1);
    state = ap (λ (d : DeskView K). state_of d.image) did.0 ∙ stand.state ∙ sym (ap (λ (d : DeskView J). state_of d.image) done.0);
  }
  asked_alike (page text) one two old new before after posts stand did served done also = record {
    wrote = ap answer_text (answered_so _ one served did.1 ∙ sym (answered_so _ two also done.1));
    state = ap (λ (d : DeskView K). state_of d.image) did.0 ∙ stand.state ∙ sym (ap (λ (d : DeskView J). state_of d.image) done.0);
  }
  asked_alike (query resource format argument) one two old new before after read stand did served done also = record {
    wrote = ap answer_text (state_alike format argument one two served also old.image before.image stand.sound stand.also stand.state resource read (answered_so _ one served did.1) (answered_so _ two also done.1));
    state = ap (λ (d : DeskView K). state_of d.image) did.0 ∙ stand.state ∙ sym (ap (λ (d : DeskView J). state_of d.image) done.0);
  }
  asked_alike (posted resource way body) one two old new before after posts stand did served done also = posted_alike (posted_at resource) way body one two old new before after posts stand did served done also

  sheet_alike : (sheet : Sheet) (input text other : Text) (old new : DeskView K) (before after : DeskView J) (ended end : Result Tally SheetFault) → StandAlike old before → is_decided ended ≡ true → is_decided end ≡ true
      → Runs sheet 1 old.limits input (state_of old.image) (state_of new.image) (Some []) (Some text) ended → Runs sheet 1 before.limits input (state_of before.image) (state_of after.image) (Some []) (Some other) end
      → SameEnd text other (state_of new.image) (state_of after.image)
  sheet_alike sheet input text other old new before after ended end stand d e runs running =
      let run = coe 0 1 (k. Runs sheet 1 (stand.limits k) input (stand.state k) (state_of new.image) (Some []) (Some text) ended) runs in
      of_end text other (state_of new.image) (state_of after.image) ended end
      (sheets_end_alike sheet 1 1 before.limits input (state_of before.image) (state_of new.image) (state_of after.image) [] text [] other ended end d e run running)

  call_alike : (next : Call) (text other : Text) (old new : DeskView K) (before after : DeskView J) → IsCallOfState next → StandAlike old before → Did holds next text old new → Did has next other before after
      → SameEnd text other (state_of new.image) (state_of after.image)
  call_alike (call.Edits bytes) text other old new before after only stand did done = sheet_alike sheet.Edits bytes.items text other old new before after did.ended done.ended stand did.decided done.decided did.replied done.replied
  call_alike (call.Survey bytes) text other old new before after only stand did done = sheet_alike sheet.Survey bytes.items text other old new before after did.ended done.ended stand did.decided done.decided did.replied done.replied
  call_alike (call.Request bytes) text other old new before after only stand did done =
      let one = subst (λ a. Does holds a old did.answer new) (only.one did.asked did.asks) did.does in
      let two = subst (λ a. Does has a before done.answer after) (only.one done.asked done.asks) done.does in
      let h = asked_alike only.asked did.answer done.answer old new before after only.passes stand one did.served two done.served in
      record { wrote = did.replied ∙ h.wrote ∙ sym done.replied; state = h.state }

  pub calls_end_alike : CallsEndAlike holds has
  calls_end_alike [] [] [] old new before after only stand did done = (
    refl,
    record {
      sound = subst (λ (d : DeskView K). IsSound d.image) (sym did) stand.sound;
      also = subst (λ (d : DeskView J). IsSound d.image) (sym done) stand.also;
      state = ap (λ (d : DeskView K). state_of d.image) did ∙ stand.state ∙ sym (ap (λ (d : DeskView J). state_of d.image) done);
      limits = ap (λ (d : DeskView K). d.limits) did ∙ stand.limits ∙ sym (ap (λ (d : DeskView J). d.limits) done);
    },
  )
  calls_end_alike [] (t ∷ texts) others old new before after only stand did done = absurd did
  calls_end_alike [] [] (t ∷ others) old new before after only stand did done = absurd done
  calls_end_alike (next ∷ calls) [] others old new before after only stand did done = absurd did
  calls_end_alike (next ∷ calls) (t ∷ texts) [] old new before after only stand did done = absurd done
  calls_end_alike (next ∷ calls) (t ∷ texts) (o ∷ others) old new before after only stand (mid, first, sound, rest) (midway, one, so, more) =
      let h = call_alike next t o old mid before midway only.0 stand first one in
      let limits = (call_gave holds next t old mid first).along.limits ∙ stand.limits ∙ sym (call_gave has next o before midway one).along.limits in
      let (texts_are, end) = calls_end_alike calls texts others mid new midway after only.1 (record { sound = sound; also = so; state = h.state; limits = limits }) rest more in
      ((λ i. h.wrote i ∷ texts_are i), end)

  -- ---- questions

  -- a sheet of questions
  posted_asks : (what : Posted) (way : Course) (body : Text) (one two : Answer) (old new : DeskView K) (before after : DeskView J) → what ≡ post.Questions → old.image ≡ before.image
      → DoesPosted holds what way body old one new → (one.status ≡ 503 → ⊥) → DoesPosted has what way body before two after → (two.status ≡ 503 → ⊥)
      → (answer_text one ≡ answer_text two) × (new ≡ old) × (after ≡ before)
  posted_asks post.Questions way body one two old new before after asks same did served done also =
      (questions_alike body one two old.image before.image (ap state_of same) (equal_inventories old.image before.image same) (inr same) (answered_so _ one served did.1) served (answered_so _ two also done.1) also, did.0, done.0)
  posted_asks (post.Trial kind) way body one two old new before after asks same did served done also = absurd (cc asks)
  posted_asks (post.Draft kind) way body one two old new before after asks same did served done also = absurd (cc asks)
  posted_asks (post.Sheet kind) way body one two old new before after asks same did served done also = absurd (cc asks)

  question_alike : (asked : Asked) (one two : Answer) (old new : DeskView K) (before after : DeskView J) → OnlyAsks asked → old.image ≡ before.image
      → Does holds asked old one new → (one.status ≡ 503 → ⊥) → Does has asked before two after → (two.status ≡ 503 → ⊥) → (answer_text one ≡ answer_text two) × (new ≡ old) × (after ≡ before)
  question_alike (refused status) one two old new before after asks same did served done also = (ap answer_text (did.1 ∙ sym done.1), did.0, done.0)
  question_alike (not_allowed verb) one two old new before after asks same did served done also = (ap answer_text (did.1 ∙ sym done.1), did.0, done.0)
  question_alike (page text) one two old new before after asks same did served done also = (ap answer_text (answered_so _ one served did.1 ∙ sym (answered_so _ two also done.1)), did.0, done.0)
  question_alike (query resource format argument) one two old new before after asks same did served done also = (
    ap answer_text (image_alike format argument one two served also old.image resource (answered_so _ one served did.1)
        (subst (λ i. AnswersAsked i format resource argument two) (sym same) (answered_so _ two also done.1))),
    did.0,
    done.0,
  )
  question_alike (posted resource way body) one two old new before after asks same did served done also =
      posted_asks (posted_at resource) way body one two old new before after asks same did served done also

  one_question : (next : Call) (text other : Text) (old new : DeskView K) (before after : DeskView J) → IsQuestion next → old.image ≡ before.image → Did holds next text old new → Did has next other before after
      → (text ≡ other) × (new ≡ old) × (after ≡ before)
  one_question (call.Edits bytes) text other old new before after asks same did done = absurd asks
  one_question (call.Survey bytes) text other old new before after asks same did done = absurd asks
  one_question (call.Request bytes) text other old new before after asks same did done =
      let one = subst (λ a. Does holds a old did.answer new) (asks.one did.asked did.asks) did.does in
      let two = subst (λ a. Does has a before done.answer after) (asks.one done.asked done.asks) done.does in
      let (answers, stays, remains) = question_alike asks.asked did.answer done.answer old new before after asks.passes same one did.served two done.served in
      (did.replied ∙ answers ∙ sym done.replied, stays, remains)

  pub questions_end_alike : QuestionsEndAlike holds has
  questions_end_alike [] [] [] old new before after asks same did done = (refl, did, done)
  questions_end_alike [] (t ∷ texts) others old new before after asks same did done = absurd did
  questions_end_alike [] [] (t ∷ others) old new before after asks same did done = absurd done
  questions_end_alike (next ∷ calls) [] others old new before after asks same did done = absurd did
  questions_end_alike (next ∷ calls) (t ∷ texts) [] old new before after asks same did done = absurd done
  questions_end_alike (next ∷ calls) (t ∷ texts) (o ∷ others) old new before after asks same (mid, first, sound, rest) (midway, one, so, more) =
      let (text, stays, remains) = one_question next t o old mid before midway asks.0 same first one in
      let images = ap (λ (d : DeskView K). d.image) stays ∙ same ∙ sym (ap (λ (d : DeskView J). d.image) remains) in
      let (texts_are, end, last) = questions_end_alike calls texts others mid new midway after asks.1 images rest more in
      ((λ i. text i ∷ texts_are i), end ∙ stays, last ∙ remains)
