-- Records of questions answered one after the other.
use Rattle.std.proofs.Common.{◌≡◌, ◌⊎◌, inl, inr, ℕ, Ok, Err, List, [], ◌∷◌, ◌++◌, ◌+◌, ◌≤◌, Option, None, Some, Bool, true, false, length, refl, sym, ap, ◌∙◌, length-append, arith, cond}
use Rattle.std.specs.Prelude.{not, count_by, codes, IsTrue, if◌then◌else◌}
use Rattle.std.specs.Io.KnownBytes.{Appends, Keeps}
use Rattle.std.proofs.lemmas.List.Sums.{sum_by-append}
use Rattle.std.proofs.lemmas.List.{append-nil, flat_map_more}
use Rattle.csv.proofs.WriteFacts.{appends-more, appends-none}
use Rattle.csv.specs.Reading.{expected_len}
use Rattle.csv.specs.declared.reader.Reader.{Reader}
use Rattle.lrs_machine.specs.Keys.{is_key}
use Rattle.lrs_machine.specs.declared.image.Image.{Image}
use Rattle.lrs_sheet_records.specs.Records.{text_at}
use Rattle.lrs_sheet_records.proofs.ReadRows.{begins, gave-more, gave-none}
use Rattle.lrs_sheet_records.specs.Rows.{EndsAfter, Gave, IsPlain, IsReadFault, NextDiffers}
use Rattle.lrs_sheet_records.specs.Rows.{max_records}
use Rattle.lrs_sheet_records.specs.declared.fault.SheetFault.{SheetFault}
use Rattle.lrs_sheet_records.specs.declared.fault.SheetFault.TheVariants as fault
use Rattle.lrs_sheet_questions.specs.SheetAnswers.{HaveWidth, width}
use Rattle.lrs_sheet_questions.specs.Replies.{AreReplied, IsReplied, Reply, counted, key_of, lines_of, reply_count, tally_of}
use Rattle.lrs_sheet_questions.specs.Rows.{AnswersRows, AnswersSome, HasAnswered}
use Rattle.lrs_sheet_questions.specs.declared.tally.QuestionTally.{QuestionTally}

-- the key of a record that has none
pub key_of_malformed : (fields : List (List ℕ)) → (IsTrue (is_key (text_at fields 0)) → ⊥) → key_of fields ≡ codes "-"
key_of_malformed fields none = by (is_key (text_at fields 0)) refl
  where
    by : (t : Bool) → is_key (text_at fields 0) ≡ t → (if t then text_at fields 0 else codes "-") ≡ codes "-"
    by true e = absurd (none e)
    by false e = refl

-- one more record, replied to
replied-more : (i : Image) (records : List (List (List ℕ))) (replies : List Reply) (fields : List (List ℕ)) (reply : Reply) → AreReplied i records replies → IsReplied i fields reply
    → AreReplied i (records ++ fields ∷ []) (replies ++ reply ∷ [])
replied-more i [] [] fields reply done next = (next, tt)
replied-more i [] (other ∷ replies) fields reply done next = absurd done
replied-more i (first ∷ records) [] fields reply done next = absurd done
replied-more i (first ∷ records) (other ∷ replies) fields reply done next = (done.0, replied-more i records replies fields reply done.1 next)

-- one more of the right length
width-more : (records : List (List (List ℕ))) (fields : List (List ℕ)) → HaveWidth records → length fields ≡ width → HaveWidth (records ++ fields ∷ [])
width-more [] fields h e = (e, tt)
width-more (first ∷ records) fields h e = (h.0, width-more records fields h.1 e)

-- the lines of one more
lines-more : (replies : List Reply) (reply : Reply) → lines_of (replies ++ reply ∷ []) ≡ lines_of replies ++ reply.lines
lines-more replies reply = sym (flat_map_more (λ (r : Reply). r.lines) [] replies reply)

count-more : (test : Reply → Bool) (replies : List Reply) (reply : Reply) → count_by test (replies ++ reply ∷ []) ≡ count_by test replies + count_by test (reply ∷ [])
count-more test replies reply = sum_by-append (λ r. cond (test r) 1 0) replies (reply ∷ [])

tally-eq : (a b r s : ℕ) → a ≡ b → r ≡ s → ◌≡◌ {A = QuestionTally} (record { answered = a; refused = r }) (record { answered = b; refused = s })
tally-eq a b r s x y = rw (x, y) refl

-- one more counted
tally-more : (replies : List Reply) (reply : Reply) (is_answer : Bool) → is_answer ≡ reply.is_answer → tally_of (replies ++ reply ∷ []) ≡ counted (tally_of replies) is_answer
tally-more replies reply is_answer e = by is_answer (sym e) (count-more (λ r. r.is_answer) replies reply) (count-more (λ r. not r.is_answer) replies reply)
  where
    by : (is_answer : Bool) → reply.is_answer ≡ is_answer
        → count_by (λ r. r.is_answer) (replies ++ reply ∷ []) ≡ count_by (λ r. r.is_answer) replies + count_by (λ r. r.is_answer) (reply ∷ [])
        → count_by (λ r. not r.is_answer) (replies ++ reply ∷ []) ≡ count_by (λ r. not r.is_answer) replies + count_by (λ r. not r.is_answer) (reply ∷ [])
        → tally_of (replies ++ reply ∷ []) ≡ counted (tally_of replies) is_answer
    by true e a r = rw (a, r, e) (tally-eq _ _ _ _ refl (omega arith))
    by false e a r = rw (a, r, e) (tally-eq _ _ _ _ (omega arith) refl)

count-one : (tally : QuestionTally) (is_answer : Bool) → reply_count (counted tally is_answer) ≡ reply_count tally + 1
count-one tally true = omega arith
count-one tally false = omega arith

-- what was appended stays
appends-kept : (a b c : Option (List ℕ)) (bs : List ℕ) → Appends a b bs → Keeps b c → Appends a c bs
appends-kept None b c bs f g = tt
appends-kept (Some x) None c bs f g = absurd f
appends-kept (Some x) (Some y) None bs f g = absurd g
appends-kept (Some x) (Some y) (Some z) bs f g = g ∙ f

-- before the first turn
pub start-answered : {R : Type 0} (i : Image) (rem : R → Option (List ℕ)) (rows : Reader R) (contents : Option (List ℕ)) (tally : QuestionTally) → IsPlain rows → expected_len rows ≡ Some width → tally ≡ tally_of []
    → HasAnswered i rem rows rows contents contents tally 0
start-answered i rem rows contents tally plain wide none = record {
  records = [];
  replies = [];
  plain = plain;
  wide = wide;
  gave = gave-none rem rows;
  answered = record { width = tt; replied = tt; written = appends-none contents };
  counts = none;
  few = rw none refl;
  in_turn = refl;
}

-- one more turn
pub more-answered : {R : Type 0} (i : Image) (rem : R → Option (List ℕ)) (rows now next : Reader R) (old mid added new : Option (List ℕ)) (tally counts : QuestionTally) (turns : ℕ) (fields : List (List ℕ)) (is_answer : Bool)
    → HasAnswered i rem rows now old mid tally turns → IsPlain next → expected_len next ≡ Some (length fields) → length fields ≡ width → Gave rem now next (fields ∷ [])
    → (reply : Reply) × IsReplied i fields reply × (is_answer ≡ reply.is_answer) × Appends mid added reply.lines → counts ≡ counted tally is_answer → Keeps added new
    → HasAnswered i rem rows next old new counts (turns + 1)
more-answered i rem rows now next old mid added new tally counts turns fields is_answer done plain wide same gave (reply, replied, kind, written) counted' kept = record {
  records = done.records ++ fields ∷ [];
  replies = done.replies ++ reply ∷ [];
  plain = plain;
  wide = wide ∙ ap Some same;
  gave = gave-more rem rows now next done.records (fields ∷ []) done.gave gave;
  answered = record {
    width = width-more done.records fields done.answered.width same;
    replied = replied-more i done.records done.replies fields reply done.answered.replied replied;
    written = rw (lines-more done.replies reply) (appends-kept old added new _ (appends-more old mid added (lines_of done.replies) reply.lines done.answered.written written) kept);
  };
  counts = counted' ∙ ap (λ (t : QuestionTally). counted t is_answer) done.counts ∙ sym (tally-more done.replies reply is_answer kind);
  few = ap reply_count counted' ∙ count-one tally is_answer ∙ ap (λ (n : ℕ). n + 1) done.few;
  in_turn = length-append done.records (fields ∷ []) ∙ ap (λ (n : ℕ). n + 1) done.in_turn;
}

-- the turns so far are answered
some-answered : {R : Type 0} (i : Image) (rem : R → Option (List ℕ)) (rows now : Reader R) (old new : Option (List ℕ)) (tally : QuestionTally) (turns : ℕ) → HasAnswered i rem rows now old new tally turns → AnswersSome i rem rows old new
some-answered i rem rows now old new tally turns done = (done.records, done.replies, done.answered, begins rem rows now done.records done.gave)

-- a question is not answered, for lack of memory, or its lines are not written
pub stop-ask : {R : Type 0} (i : Image) (rem : R → Option (List ℕ)) (rows now : Reader R) (old mid new : Option (List ℕ)) (tally : QuestionTally) (turns : ℕ) (e : SheetFault) → HasAnswered i rem rows now old mid tally turns
    → (e ≡ fault.Write) ⊎ ((e ≡ fault.Memory) × (new ≡ mid)) → AnswersRows i rem rows old new (Err e)
stop-ask i rem rows now old mid new tally turns e done (inl write) = rw write tt
stop-ask i rem rows now old mid new tally turns e done (inr (memory, same)) = rw (memory, same) (some-answered i rem rows now old mid tally turns done)

-- a read failed
pub stop-read : {R : Type 0} (i : Image) (rem : R → Option (List ℕ)) (rows now : Reader R) (old new : Option (List ℕ)) (tally : QuestionTally) (turns : ℕ) (e : SheetFault)
    → HasAnswered i rem rows now old new tally turns → IsReadFault rem now e → AnswersRows i rem rows old new (Err e)
stop-read i rem rows now old new tally turns fault.Read done why = some-answered i rem rows now old new tally turns done
stop-read i rem rows now old new tally turns fault.Memory done why = some-answered i rem rows now old new tally turns done
stop-read i rem rows now old new tally turns fault.Write done why = absurd why
stop-read i rem rows now old new tally turns fault.BadHeader done why = absurd why
stop-read i rem rows now old new tally turns (fault.Desk m) done why = absurd why
stop-read i rem rows now old new tally turns fault.BadCsv done (wanted, expected, next) =
    let is : wanted ≡ width = cc (done.wide, expected) in
    (done.records, done.replies, done.answered, differs rem rows now done.records width done.gave (rw is at next))
  where
    differs : {R : Type 0} (rem : R → Option (List ℕ)) (a b : Reader R) (records : List (List (List ℕ))) (wanted : ℕ) → Gave rem a b records → NextDiffers rem b [] wanted → NextDiffers rem a records wanted
    differs rem a b records wanted gave next = λ input before h.
        let (fields, front, bad) = next input (before ++ records) (gave input before h) in
        (fields, rw (append-nil (before ++ records)) at front, bad)

-- the records are at their end
pub all-answered : {R : Type 0} (i : Image) (rem : R → Option (List ℕ)) (rows now : Reader R) (old new : Option (List ℕ)) (tally : QuestionTally) (turns : ℕ)
    → HasAnswered i rem rows now old new tally turns → EndsAfter rem now [] → turns ≤ max_records → AnswersRows i rem rows old new (Ok tally)
all-answered i rem rows now old new tally turns done ends few =
    (done.records, done.replies, done.answered, done.counts, λ input start h. rw (append-nil (start ++ done.records)) at (ends input (start ++ done.records) (done.gave input start h)), rw done.in_turn few)
