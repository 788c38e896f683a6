-- Records done one after the other.
use Rattle.std.proofs.Common.{◌≡◌, inl, inr, ℕ, Ok, Err, List, [], ◌∷◌, ◌++◌, ◌+◌, ◌≤◌, Option, Some, Bool, length, refl, sym, ap, subst, ◌∙◌, length-append, arith}
use Rattle.std.specs.Prelude.{count_by}
use Rattle.std.proofs.Common.{cond}
use Rattle.std.proofs.lemmas.List.Sums.{sum_by-append}
use Rattle.std.proofs.lemmas.List.{append-nil, flat_map_more}
use Rattle.csv.proofs.WriteFacts.{appends-more, appends-none}
use Rattle.csv.specs.Reading.{expected_len}
use Rattle.csv.specs.declared.reader.Reader.{Reader}
use Rattle.lrs_machine.specs.Image.{state_of}
use Rattle.std.specs.Prelude.{Result}
use Rattle.lrs_machine.specs.declared.image.Image.{Image}
use Rattle.lrs_machine.specs.declared.table.Table.{Table}
use Rattle.lrs_machine.specs.State.{State}
use Rattle.lrs_machine.specs.declared.answer.Limits.{Limits}
use Rattle.lrs_machine.specs.declared.answer.Answer.{Answer}
use Rattle.lrs_machine.specs.declared.answer.Answer.TheVariants.{Done, Again, Refused}
use Rattle.lrs_image.specs.KeeperCalls.{HasRisen}
use Rattle.lrs_desk.specs.DeskView.{DeskView}
use Rattle.lrs_machine.specs.declared.stops.fault.Fault.TheVariants as stop
use Rattle.lrs_sheet.specs.declared.reply.Reply.{Reply}
use Rattle.lrs_sheet.specs.declared.reply.Tally.{Tally}
use Rattle.lrs_sheet_records.specs.declared.fault.SheetFault.{SheetFault}
use Rattle.lrs_sheet_records.specs.declared.fault.SheetFault.TheVariants as fault
use Rattle.lrs_sheet_records.specs.declared.sheet.Sheet.{Sheet}
use Rattle.lrs_sheet_records.specs.Kinds.{edit_record, width_of}
use Rattle.lrs_sheet_records.proofs.ReadRows.{begins, gave-more, gave-none}
use Rattle.lrs_sheet.specs.Replies.{IsReplied, Replied, answer_count, counted, is_again, is_done, is_refused, lines_of, reply_text, tally_of}
use Rattle.lrs_sheet_records.specs.Rows.{max_records}
use Rattle.lrs_sheet.specs.Sheets.{GoesAlong, HaveWidth, LeavesDesk}
use Rattle.lrs_sheet_records.specs.Rows.{Begins, EndsAfter, Gave, IsPlain, IsReadFault, NextDiffers}
use Rattle.lrs_sheet.specs.Rows.{AnswersSome, DoesRow, DoesRows, HasDone}

-- one more record, answered
pub Replied-more : (sheet : Sheet) (limits : Limits) (before middle after : State) (records : List (List (List ℕ))) (replies : List Reply) (fields : List (List ℕ)) (reply : Reply)
    → Replied sheet limits before records replies middle → IsReplied limits middle (edit_record sheet fields) reply after → Replied sheet limits before (records ++ fields ∷ []) (replies ++ reply ∷ []) after
unfolding Replied
Replied-more sheet limits before middle after [] [] fields reply done next = (after, rw done at next, refl)
Replied-more sheet limits before middle after [] (other ∷ replies) fields reply done next = absurd done
Replied-more sheet limits before middle after (first ∷ records) [] fields reply done next = absurd done
Replied-more sheet limits before middle after (first ∷ records) (other ∷ replies) fields reply done next =
    (done.0, done.1, Replied-more sheet limits done.0 middle after records replies fields reply done.2 next)

-- one more record of the right length
pub width-more : (sheet : Sheet) (records : List (List (List ℕ))) (fields : List (List ℕ)) → HaveWidth sheet records → length fields ≡ width_of sheet
    → HaveWidth sheet (records ++ fields ∷ [])
width-more sheet [] fields h e = (e, tt)
width-more sheet (first ∷ records) fields h e = (h.0, width-more sheet records fields h.1 e)

-- one more line
pub lines-more : (replies : List Reply) (reply : Reply) → lines_of (replies ++ reply ∷ []) ≡ lines_of replies ++ (reply_text reply ++ 10 ∷ [])
lines-more replies reply = sym (flat_map_more (λ (r : Reply). reply_text r ++ 10 ∷ []) [] replies reply)

-- one more answer counted, of one kind
count-more : (test : Reply → Bool) (replies : List Reply) (reply : Reply) → count_by test (replies ++ reply ∷ []) ≡ count_by test replies + count_by test (reply ∷ [])
count-more test replies reply = sum_by-append (λ r. cond (test r) 1 0) replies (reply ∷ [])

-- equal tallies, number by number
tally-eq : (d e a b r s : ℕ) → d ≡ e → a ≡ b → r ≡ s → ◌≡◌ {A = Tally} (record { done = d; again = a; refused = r }) (record { done = e; again = b; refused = s })
tally-eq d e a b r s x y z = rw (x, y, z) refl

-- the three kinds, counted in one more answer
kinds-more : (replies : List Reply) (reply : Reply) (answer : Answer) → reply.answer ≡ answer → tally_of (replies ++ reply ∷ []) ≡ counted (tally_of replies) answer
kinds-more replies reply answer e = by answer e (count-more (λ r. is_done r.answer) replies reply) (count-more (λ r. is_again r.answer) replies reply) (count-more (λ r. is_refused r.answer) replies reply)
  where
    by : (answer : Answer) → reply.answer ≡ answer
        → count_by (λ r. is_done r.answer) (replies ++ reply ∷ []) ≡ count_by (λ r. is_done r.answer) replies + count_by (λ r. is_done r.answer) (reply ∷ [])
        → count_by (λ r. is_again r.answer) (replies ++ reply ∷ []) ≡ count_by (λ r. is_again r.answer) replies + count_by (λ r. is_again r.answer) (reply ∷ [])
        → count_by (λ r. is_refused r.answer) (replies ++ reply ∷ []) ≡ count_by (λ r. is_refused r.answer) replies + count_by (λ r. is_refused r.answer) (reply ∷ [])
        → tally_of (replies ++ reply ∷ []) ≡ counted (tally_of replies) answer
    by (Done n) e d a r = rw (d, a, r, e) (tally-eq _ _ _ _ _ _ refl (omega arith) (omega arith))
    by (Again n) e d a r = rw (d, a, r, e) (tally-eq _ _ _ _ _ _ (omega arith) refl (omega arith))
    by (Refused cause) e d a r = rw (d, a, r, e) (tally-eq _ _ _ _ _ _ (omega arith) (omega arith) refl)

-- one more answer counted
pub tally-more : (replies : List Reply) (reply : Reply) → tally_of (replies ++ reply ∷ []) ≡ counted (tally_of replies) reply.answer
tally-more replies reply = kinds-more replies reply reply.answer refl

-- a tally has one more answer
pub count-more-answer : (tally : Tally) (answer : Answer) → answer_count (counted tally answer) ≡ answer_count tally + 1
count-more-answer tally (Done n) = omega arith
count-more-answer tally (Again n) = omega arith
count-more-answer tally (Refused cause) = omega arith

-- a desk that stays goes along
pub stays : {K : Type 0} {holds : K → Result Image Table → Type 0} (desk : DeskView K) → GoesAlong holds desk desk
stays desk = record { limits = refl; kept = λ kept. kept; reopen = refl; ahead = refl; counts = omega arith }

-- one that goes along, and goes along
pub along : {K : Type 0} {holds : K → Result Image Table → Type 0} (a b c : DeskView K) → GoesAlong holds a b → GoesAlong holds b c → GoesAlong holds a c
along a b c first next = record { limits = next.limits ∙ first.limits; kept = λ kept. next.kept (first.kept kept); reopen = next.reopen ∙ first.reopen; ahead = next.ahead ∙ first.ahead; counts = omega (arith, first.counts, next.counts) }

-- a count that has risen since, has risen
risen_since : (a b c : ℕ) → a ≤ b → HasRisen b c → HasRisen a c
risen_since a b c least (inl more) = inl (omega (arith, least, more))
risen_since a b c least (inr most) = inr most

-- before the first turn
pub start-done : {K : Type 0} {holds : K → Result Image Table → Type 0} {R : Type 0} (sheet : Sheet) (rem : R → Option (List ℕ)) (rows : Reader R) (desk : DeskView K) (contents : Option (List ℕ)) (tally : Tally)
    → IsPlain rows → expected_len rows ≡ Some (width_of sheet) → tally ≡ tally_of [] → HasDone sheet holds rem rows rows desk desk contents contents tally 0
unfolding Replied
start-done sheet rem rows desk contents tally plain width none = record {
  records = [];
  replies = [];
  plain = plain;
  width = width;
  gave = gave-none rem rows;
  answered = record { width = tt; replied = refl; written = appends-none contents };
  desk = stays desk;
  counts = none;
  few = rw none refl;
  in_turn = refl;
}

-- one more turn
pub more-done : {K : Type 0} {holds : K → Result Image Table → Type 0} {R : Type 0} (sheet : Sheet) (rem : R → Option (List ℕ)) (rows now next : Reader R) (before middle after : DeskView K) (old mid new : Option (List ℕ)) (tally counts : Tally) (turns : ℕ) (fields : List (List ℕ))
    → HasDone sheet holds rem rows now before middle old mid tally turns → IsPlain next → expected_len next ≡ Some (length fields) → length fields ≡ width_of sheet → Gave rem now next (fields ∷ [])
    → DoesRow middle.limits (state_of middle.image) (edit_record sheet fields) (state_of after.image) mid new tally counts → GoesAlong holds middle after
    → HasDone sheet holds rem rows next before after old new counts (turns + 1)
more-done sheet rem rows now next before middle after old mid new tally counts turns fields done plain width wide gave (reply, replied, written, counted') desk = record {
  records = done.records ++ fields ∷ [];
  replies = done.replies ++ reply ∷ [];
  plain = plain;
  width = width ∙ ap Some wide;
  gave = gave-more rem rows now next done.records (fields ∷ []) done.gave gave;
  answered = record {
    width = width-more sheet done.records fields done.answered.width wide;
    replied = Replied-more sheet before.limits (state_of before.image) (state_of middle.image) (state_of after.image) done.records done.replies fields reply done.answered.replied (rw done.desk.limits at replied);
    written = rw (lines-more done.replies reply) (appends-more old mid new (lines_of done.replies) (reply_text reply ++ 10 ∷ []) done.answered.written written);
  };
  desk = along before middle after done.desk desk;
  counts = counted' ∙ ap (λ (t : Tally). counted t reply.answer) done.counts ∙ sym (tally-more done.replies reply);
  few = ap answer_count counted' ∙ count-more-answer tally reply.answer ∙ ap (λ (n : ℕ). n + 1) done.few;
  in_turn = length-append done.records (fields ∷ []) ∙ ap (λ (n : ℕ). n + 1) done.in_turn;
}

-- the turns so far are answered
pub some-answered : {K : Type 0} {holds : K → Result Image Table → Type 0} {R : Type 0} (sheet : Sheet) (rem : R → Option (List ℕ)) (rows now : Reader R) (before after : DeskView K) (old new : Option (List ℕ)) (tally : Tally) (turns : ℕ)
    → HasDone sheet holds rem rows now before after old new tally turns → AnswersSome sheet rem rows before.limits (state_of before.image) (state_of after.image) old new
some-answered sheet rem rows now before after old new tally turns done =
    (done.records, done.replies, done.answered, begins rem rows now done.records done.gave)

-- the next record has another length
differs : {R : Type 0} (rem : R → Option (List ℕ)) (a b : Reader R) (records : List (List (List ℕ))) (wanted : ℕ) → Gave rem a b records → NextDiffers rem b [] wanted → NextDiffers rem a records wanted
differs rem a b records wanted gave next = λ input before h.
    let (fields, begins, bad) = next input (before ++ records) (gave input before h) in
    (fields, rw (append-nil (before ++ records)) at begins, bad)

-- a read failed
pub stop-read : {K : Type 0} {holds : K → Result Image Table → Type 0} {R : Type 0} (sheet : Sheet) (together : ℕ) (rem : R → Option (List ℕ)) (rows now : Reader R) (before after : DeskView K) (old new : Option (List ℕ)) (tally : Tally) (turns : ℕ) (e : SheetFault)
    → HasDone sheet holds rem rows now before after old new tally turns → IsReadFault rem now e → DoesRows sheet together rem rows before.limits (state_of before.image) (state_of after.image) old new (Err e)
stop-read sheet together rem rows now before after old new tally turns fault.Read done why = some-answered sheet rem rows now before after old new tally turns done
stop-read sheet together rem rows now before after old new tally turns fault.Memory done why = some-answered sheet rem rows now before after old new tally turns done
stop-read sheet together rem rows now before after old new tally turns fault.Write done why = absurd why
stop-read sheet together rem rows now before after old new tally turns fault.BadHeader done why = absurd why
stop-read sheet together rem rows now before after old new tally turns (fault.Desk m) done why = absurd why
stop-read sheet together rem rows now before after old new tally turns fault.BadCsv done (wanted, expected, next) =
    let is : wanted ≡ width_of sheet = cc (done.width, expected) in
    (done.records, done.replies, done.answered, differs rem rows now done.records (width_of sheet) done.gave (rw is at next))

-- the records are at their end
pub all-done : {K : Type 0} {holds : K → Result Image Table → Type 0} {R : Type 0} (sheet : Sheet) (together : ℕ) (rem : R → Option (List ℕ)) (rows now : Reader R) (before after : DeskView K) (old new : Option (List ℕ)) (tally : Tally) (turns : ℕ)
    → HasDone sheet holds rem rows now before after old new tally turns → EndsAfter rem now [] → turns ≤ max_records
    → DoesRows sheet together rem rows before.limits (state_of before.image) (state_of after.image) old new (Ok tally)
all-done sheet together rem rows now before after old new tally turns done ends few =
    (done.records, done.replies, done.answered, done.counts, λ input start h. rw (append-nil (start ++ done.records)) at (ends input (start ++ done.records) (done.gave input start h)), rw done.in_turn few)

-- two ends in a fault are one
pub same_fault : (e f : SheetFault) → ◌≡◌ {A = Result Tally SheetFault} (Err e) (Err f) → e ≡ f
same_fault e f is = cc is

-- where a read fails, no commit has failed
pub no_commit : {R : Type 0} (rem : R → Option (List ℕ)) (now : Reader R) (e : SheetFault) → IsReadFault rem now e → ◌≡◌ {A = Result Tally SheetFault} (Err e) (Err (fault.Desk stop.Keep)) → ⊥
no_commit rem now e why is = rw (same_fault e (fault.Desk stop.Keep) is) at why

-- ... and a desk goes along
pub read_leaves : {K : Type 0} {holds : K → Result Image Table → Type 0} {R : Type 0} (rem : R → Option (List ℕ)) (now : Reader R) (before after : DeskView K) (e : SheetFault) → IsReadFault rem now e → GoesAlong holds before after
    → LeavesDesk {X = Tally} holds before after (Err e)
read_leaves rem now before after fault.Read why goes = goes
read_leaves rem now before after fault.Memory why goes = goes
read_leaves rem now before after fault.BadCsv why goes = goes
read_leaves rem now before after fault.Write why goes = absurd why
read_leaves rem now before after fault.BadHeader why goes = absurd why
read_leaves rem now before after (fault.Desk m) why goes = absurd why

-- a record left the desk after others
module _ {K : Type 0} {holds : K → Result Image Table → Type 0} (X Y : Type 0) (a b c : DeskView K) where
  by-fault : (e : SheetFault) → (e ≡ fault.BadHeader → ⊥) → GoesAlong holds a b → LeavesDesk {X = Y} holds b c (Err e) → LeavesDesk {X = X} holds a c (Err e)
  by-fault (fault.Desk stop.Keep) read first next = record {
    limits = next.limits ∙ first.limits;
    reopen = next.reopen;
    counts = omega (arith, first.counts, next.counts);
    cause = risen_since a.failures b.failures c.failures first.counts next.cause;
  }
  by-fault (fault.Desk stop.Memory) read first next = along a b c first next
  by-fault (fault.Desk stop.MustReopen) read first next = (along a b c first next.0, sym first.reopen ∙ next.1)
  by-fault fault.BadHeader read first next = absurd (read refl)
  by-fault fault.BadCsv read first next = along a b c first next
  by-fault fault.Read read first next = along a b c first next
  by-fault fault.Write read first next = along a b c first next
  by-fault fault.Memory read first next = along a b c first next

  pub leaves-after : (e : SheetFault) (r : Result X SheetFault) → r ≡ Err e → (e ≡ fault.BadHeader → ⊥) → GoesAlong holds a b → LeavesDesk {X = Y} holds b c (Err e) → LeavesDesk holds a c r
  leaves-after e r is read first next = subst (λ q. LeavesDesk holds a c q) (sym is) (by-fault e read first next)
