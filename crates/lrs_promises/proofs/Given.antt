-- Which commands calls give, and that they make the state.
use Rattle.std.proofs.Common.{◌≡◌, inl, inr, ℕ, ◌+◌, ◌<◌, Bool, true, false, List, [], ◌∷◌, ◌++◌, length, take, get_or, Option, Some, Result, Ok, Err, refl, sym, ap, subst, ◌∙◌}
use Rattle.std.proofs.lemmas.Bool.{false≢true}
use Rattle.std.proofs.lemmas.List.{take_more}
use Rattle.lrs_machine.specs.Image.{state_of}
use Rattle.lrs_machine.specs.Lines.{Text}
use Rattle.lrs_machine.specs.Machine.{Record, state_after, step_record}
use Rattle.lrs_machine.specs.Sound.{IsSound}
use Rattle.lrs_machine.specs.State.{State}
use Rattle.lrs_machine.specs.declared.answer.Limits.{Limits}
use Rattle.lrs_machine.specs.declared.image.Image.{Image}
use Rattle.lrs_machine.specs.declared.table.Table.{Table}
use Rattle.lrs_desk.specs.DeskView.{DeskView}
use Rattle.lrs_sheet_records.specs.declared.sheet.Sheet.{Sheet}
use Rattle.lrs_sheet_records.specs.declared.sheet.Sheet.TheVariants as sheet
use Rattle.lrs_sheet.specs.Laws.{Say}
use Rattle.lrs_sheet.specs.Replies.{Replied}
use Rattle.lrs_sheet.specs.Resumption.{IsNotBegun, Resumes}
use Rattle.lrs_sheet.specs.Sheets.{GoesAlong, LeavesDesk, RunsBehind, records_together}
use Rattle.lrs_sheet_records.specs.declared.fault.SheetFault.{SheetFault}
use Rattle.lrs_sheet_records.specs.declared.fault.SheetFault.TheVariants as fault
use Rattle.lrs_sheet.specs.declared.reply.Reply.{Reply}
use Rattle.lrs_sheet.specs.declared.reply.Tally.{Tally}
use Rattle.lrs_sheet.proofs.Done.{stays, along}
use Rattle.lrs_web_requests.specs.Request.{Asked, refused, not_allowed, page, query, sheet as posted}
use Rattle.lrs_web_requests.specs.Text.{Answer}
use Rattle.lrs_web_requests.specs.declared.request.Course.{Course}
use Rattle.lrs_web_requests.specs.declared.request.Course.TheVariants as course
use Rattle.lrs_web.specs.RequestAnswers.{Does, DoesPosted, posted_at}
use Rattle.lrs_web.specs.declared.request.Posted.{Posted}
use Rattle.lrs_web.specs.declared.request.Posted.TheVariants as post
use Rattle.lrs_web.specs.Sheets.{IsAnswerAfter}
use Rattle.lrs_promises.specs.Calls.{AllGive, Did, DidAll, Gives, GivesAsked, GivesBehind, GivesPosted, GivesRest, is_decided}
use Rattle.lrs_promises.specs.declared.calls.Call.{Call}
use Rattle.lrs_promises.specs.declared.calls.Call.TheVariants as call

-- ---- what the records of a sheet say

-- records that are answered say commands, and leave the state after these
pub record Answered (sheet : Sheet) (limits : Limits) (before after : State) (records : List (List Text)) : Type 0 where
  pub said : List Record
  pub say : Say sheet records said
  pub state : after ≡ state_after limits said before

pub answered : (sheet : Sheet) (limits : Limits) (before after : State) (records : List (List Text)) (replies : List Reply) → Replied sheet limits before records replies after → Answered sheet limits before after records
unfolding Replied
answered sheet limits before after [] [] h = record { said = []; say = refl; state = h }
answered sheet limits before after [] (reply ∷ replies) h = absurd h
answered sheet limits before after (fields ∷ records) [] h = absurd h
answered sheet limits before after (fields ∷ records) (reply ∷ replies) (middle, (key, inl (k, command, says, answer, state)), more) =
    let rest = answered sheet limits middle after records replies more in
    let r : Record = record { key = k; command = command } in
    record { said = r ∷ rest.said; say = inr (r, rest.said, refl, says, rest.say); state = rest.state ∙ ap (state_after limits rest.said) state }
answered sheet limits before after (fields ∷ records) (reply ∷ replies) (middle, (key, inr (field, first, answer, state)), more) =
    let rest = answered sheet limits middle after records replies more in
    record { said = rest.said; say = inl ((field, first), rest.say); state = rest.state ∙ ap (state_after limits rest.said) state }

-- commands, that something gives, which make the state
pub record Gave (limits : Limits) (G : List Record → Type 0) (before after : State) : Type 0 where
  pub commands : List Record
  pub gives : G commands
  pub state : after ≡ state_after limits commands before

none_given : (limits : Limits) (G : List Record → Type 0) (before after : State) → G [] → after ≡ before → Gave limits G before after
none_given limits G before after g e = record { commands = []; gives = g; state = e }

sheet_gave : (passed : List (List Text)) (sheet : Sheet) (together : ℕ) (limits : Limits) (input : Text) (before after : State) (old new : Option Text) (ended : Result Tally SheetFault)
    → is_decided ended ≡ true → RunsBehind passed sheet together limits input before after old new ended → Gave limits (GivesBehind passed sheet input) before after
sheet_gave passed sheet together limits input before after old new (Ok tally) d (inl (all, same, keeps, count)) =
    none_given limits (GivesBehind passed sheet input) before after ([], inl (refl, inl all), refl) same
sheet_gave passed sheet together limits input before after old new (Ok tally) d (inr (header, records, replies, is, all, done, count, few)) =
    let a = answered sheet limits before after records replies done.replied in
    record { commands = a.said; gives = (records, inr (header, is, inl all), a.say); state = a.state }
sheet_gave passed sheet together limits input before after old new (Err fault.BadHeader) d (header, begins, other, same, keeps) =
    none_given limits (GivesBehind passed sheet input) before after ([], inl (refl, inr (header, begins, other)), refl) same
sheet_gave passed sheet together limits input before after old new (Err fault.BadCsv) d (header, records, fields, replies, is, begins, other, done) =
    let a = answered sheet limits before after records replies done.replied in
    record { commands = a.said; gives = (records, inr (header, is, inr (fields, begins, other)), a.say); state = a.state }
sheet_gave passed sheet together limits input before after old new (Err fault.Read) d h = absurd (false≢true d)
sheet_gave passed sheet together limits input before after old new (Err fault.Write) d h = absurd (false≢true d)
sheet_gave passed sheet together limits input before after old new (Err fault.Memory) d h = absurd (false≢true d)
sheet_gave passed sheet together limits input before after old new (Err (fault.Desk e)) d h = absurd (false≢true d)

-- a sheet that is not begun is not decided
pub undecided : (must_reopen : Bool) (before after : State) (old new : Option Text) (ended : Result Tally SheetFault) → is_decided ended ≡ true → IsNotBegun must_reopen before after old new ended → ⊥
undecided must_reopen before after old new (Ok tally) d h = h
undecided must_reopen before after old new (Err fault.BadHeader) d h = h.0
undecided must_reopen before after old new (Err fault.BadCsv) d h = h.0
undecided must_reopen before after old new (Err fault.Read) d h = false≢true d
undecided must_reopen before after old new (Err fault.Write) d h = false≢true d
undecided must_reopen before after old new (Err fault.Memory) d h = false≢true d
undecided must_reopen before after old new (Err (fault.Desk e)) d h = false≢true d

rest_gave : (must_reopen : Bool) (sheet : Sheet) (together : ℕ) (limits : Limits) (input : Text) (before after : State) (old new : Option Text) (ended : Result Tally SheetFault)
    → is_decided ended ≡ true → Resumes must_reopen sheet together limits input before after old new ended → Gave limits (GivesRest sheet input before) before after
rest_gave must_reopen sheet together limits input before after old new ended d (inl h) = absurd (undecided must_reopen before after old new ended d h)
rest_gave must_reopen sheet together limits input before after old new ended d (inr (once, decided, passed, is, runs)) =
    let g = sheet_gave passed sheet together limits input before after old new ended d runs in
    record { commands = g.commands; gives = inl (once, decided, passed, is, g.gives); state = g.state }

-- commands, and others behind them
pub state_both : (limits : Limits) (xs ys : List Record) (s : State) → state_after limits (xs ++ ys) s ≡ state_after limits ys (state_after limits xs s)
state_both limits [] ys s = refl
state_both limits (r ∷ xs) ys s = state_both limits xs ys (step_record limits r s).state

-- ---- what a call gives

-- an answer that is no 503 is to a sheet that was decided
pub answer_decided : {T : Type 0} (ended : Result T SheetFault) (lines : Text) (answer : Answer) → IsAnswerAfter ended lines answer → (answer.status ≡ 503 → ⊥) → is_decided ended ≡ true
answer_decided ended lines answer (inr e) served = absurd (served (ap (λ (a : Answer). a.status) e))
answer_decided (Ok tally) lines answer (inl e) served = refl
answer_decided (Err fault.BadHeader) lines answer (inl e) served = refl
answer_decided (Err fault.BadCsv) lines answer (inl e) served = refl
answer_decided (Err fault.Read) lines answer (inl e) served = absurd (served (ap (λ (a : Answer). a.status) e))
answer_decided (Err fault.Write) lines answer (inl e) served = absurd (served (ap (λ (a : Answer). a.status) e))
answer_decided (Err fault.Memory) lines answer (inl e) served = absurd (served (ap (λ (a : Answer). a.status) e))
answer_decided (Err (fault.Desk e')) lines answer (inl e) served = absurd (served (ap (λ (a : Answer). a.status) e))

module _ {K : Type 0} (holds : K → Result Image Table → Type 0) where
  pub decided_goes : (old new : DeskView K) (ended : Result Tally SheetFault) → is_decided ended ≡ true → LeavesDesk holds old new ended → GoesAlong holds old new
  decided_goes old new (Ok tally) d h = h
  decided_goes old new (Err fault.BadHeader) d h = h.0
  decided_goes old new (Err fault.BadCsv) d h = h
  decided_goes old new (Err fault.Read) d h = absurd (false≢true d)
  decided_goes old new (Err fault.Write) d h = absurd (false≢true d)
  decided_goes old new (Err fault.Memory) d h = absurd (false≢true d)
  decided_goes old new (Err (fault.Desk e)) d h = absurd (false≢true d)

  -- commands that were given, and a desk that goes along with its keeper
  pub record DeskGave (G : List Record → Type 0) (old new : DeskView K) : Type 0 where
    pub gave : Gave old.limits G (state_of old.image) (state_of new.image)
    pub along : GoesAlong holds old new

  desk_stays : (G : List Record → Type 0) (old new : DeskView K) → G [] → new ≡ old → DeskGave G old new
  desk_stays G old new g e = record {
    gave = none_given old.limits G (state_of old.image) (state_of new.image) g (ap (λ (d : DeskView K). state_of d.image) e);
    along = subst (GoesAlong holds old) (sym e) (stays old);
  }

  posted_gave : (what : Posted) (way : Course) (body : Text) (answer : Answer) (old new : DeskView K) → DoesPosted holds what way body old answer new → (answer.status ≡ 503 → ⊥)
      → DeskGave (GivesPosted what way body (state_of old.image)) old new
  posted_gave post.Questions way body answer old new (same, told, ahead) served = desk_stays (GivesPosted post.Questions way body (state_of old.image)) old new refl same
  posted_gave (post.Trial kind) way body answer old new (same, told, ahead) served = desk_stays (GivesPosted (post.Trial kind) way body (state_of old.image)) old new refl same
  posted_gave (post.Draft kind) way body answer old new (same, told, ahead) served = desk_stays (GivesPosted (post.Draft kind) way body (state_of old.image)) old new refl same
  posted_gave (post.Sheet kind) course.EachRecord body answer old new (ended, lines, run, after) served =
      let d = answer_decided ended lines answer after served in
      record {
        gave = sheet_gave [] kind records_together old.limits body (state_of old.image) (state_of new.image) (Some []) (Some lines) ended d run.runs;
        along = decided_goes old new ended d run.desk;
      }
  posted_gave (post.Sheet kind) course.BehindLast body answer old new (inr (twice, repeated, same, is)) served = desk_stays (GivesPosted (post.Sheet kind) course.BehindLast body (state_of old.image)) old new (inr ((twice, repeated), refl)) same
  posted_gave (post.Sheet kind) course.BehindLast body answer old new (inl (ended, lines, run, after)) served =
      let d = answer_decided ended lines answer after served in
      record {
        gave = rest_gave old.must_reopen kind records_together old.limits body (state_of old.image) (state_of new.image) (Some []) (Some lines) ended d run.runs;
        along = decided_goes old new ended d run.desk;
      }
  posted_gave (post.Sheet kind) course.AllOrNone body answer old new (inl (behind, replies, outcome, tried, inl (accepted, (ended, lines, run, after)))) served =
      let d = answer_decided ended lines answer after served in
      let g = sheet_gave [] kind records_together old.limits body (state_of old.image) (state_of new.image) (Some []) (Some lines) ended d run.runs in
      record {
        gave = record { commands = g.commands; gives = (replies, outcome, tried, inl (accepted, g.gives)); state = g.state };
        along = decided_goes old new ended d run.desk;
      }
  posted_gave (post.Sheet kind) course.AllOrNone body answer old new (inl (behind, replies, outcome, tried, inr (not_accepted, same, is))) served =
      desk_stays (GivesPosted (post.Sheet kind) course.AllOrNone body (state_of old.image)) old new (replies, outcome, tried, inr (not_accepted, refl)) same
  posted_gave (post.Sheet kind) course.AllOrNone body answer old new (inr (same, none)) served = absurd (served (ap (λ (a : Answer). a.status) none))

  pub asked_gave : (asked : Asked) (answer : Answer) (old new : DeskView K) → Does holds asked old answer new → (answer.status ≡ 503 → ⊥) → DeskGave (GivesAsked asked (state_of old.image)) old new
  asked_gave (refused status) answer old new does served = desk_stays (GivesAsked (refused status) (state_of old.image)) old new refl does.0
  asked_gave (not_allowed verb) answer old new does served = desk_stays (GivesAsked (not_allowed verb) (state_of old.image)) old new refl does.0
  asked_gave (page text) answer old new does served = desk_stays (GivesAsked (page text) (state_of old.image)) old new refl does.0
  asked_gave (query resource format argument) answer old new does served = desk_stays (GivesAsked (query resource format argument) (state_of old.image)) old new refl does.0
  asked_gave (posted resource way body) answer old new does served = posted_gave (posted_at resource) way body answer old new does served

  pub call_gave : (next : Call) (text : Text) (old new : DeskView K) → Did holds next text old new → DeskGave (Gives next (state_of old.image)) old new
  call_gave (call.Edits bytes) text old new did = record {
    gave = sheet_gave [] sheet.Edits 1 old.limits bytes.items (state_of old.image) (state_of new.image) (Some []) (Some text) did.ended did.decided did.replied;
    along = decided_goes old new did.ended did.decided did.desk;
  }
  call_gave (call.Survey bytes) text old new did = record {
    gave = sheet_gave [] sheet.Survey 1 old.limits bytes.items (state_of old.image) (state_of new.image) (Some []) (Some text) did.ended did.decided did.replied;
    along = decided_goes old new did.ended did.decided did.desk;
  }
  call_gave (call.Request bytes) text old new did =
      let g = asked_gave did.asked did.answer old new did.does did.served in
      record { gave = record { commands = g.gave.commands; gives = (did.asked, did.asks, g.gave.gives); state = g.gave.state }; along = g.along }

  -- ---- what a list of calls gives

  pub all_gave : (calls : List Call) (texts : List Text) (old new : DeskView K) → DidAll holds calls texts old new → DeskGave (AllGive old.limits (state_of old.image) calls) old new
  all_gave [] [] old new did = desk_stays (AllGive old.limits (state_of old.image) []) old new refl did
  all_gave [] (text ∷ texts) old new did = absurd did
  all_gave (next ∷ calls) [] old new did = absurd did
  all_gave (next ∷ calls) (text ∷ texts) old new (mid, one, sound, others) =
      let f = call_gave next text old mid one in
      let g = all_gave calls texts mid new others in
      let limits = f.along.limits in
      let further = g.gave.commands in
      record {
        gave = record {
          commands = f.gave.commands ++ further;
          gives = (f.gave.commands, further, refl, f.gave.gives, coe 0 1 (k. AllGive (limits k) (f.gave.state k) calls further) g.gave.gives);
          state = g.gave.state ∙ (λ i. state_after (limits i) further (f.gave.state i)) ∙ sym (state_both old.limits f.gave.commands further (state_of old.image));
        };
        along = along old mid new f.along g.along;
      }

  -- ---- one more call

  pub did_more : (calls : List Call) (texts : List Text) (next : Call) (text : Text) (old mid new : DeskView K) → DidAll holds calls texts old mid → Did holds next text mid new → IsSound new.image
      → DidAll holds (calls ++ next ∷ []) (texts ++ text ∷ []) old new
  did_more [] [] next text old mid new did one sound = (new, subst (λ d. Did holds next text d new) did one, sound, refl)
  did_more [] (t ∷ texts) next text old mid new did one sound = absurd did
  did_more (c ∷ calls) [] next text old mid new did one sound = absurd did
  did_more (c ∷ calls) (t ∷ texts) next text old mid new (d, first, held, others) one sound = (d, first, held, did_more calls texts next text d mid new others one sound)

  pub did_next : (calls : List Call) (i : ℕ) (texts : List Text) (next : Call) (text : Text) (old mid new : DeskView K) → i < length calls → next ≡ get_or calls i next
      → DidAll holds (take i calls) texts old mid → Did holds next text mid new → IsSound new.image → DidAll holds (take (i + 1) calls) (texts ++ text ∷ []) old new
  did_next calls i texts next text old mid new low is did one sound =
      let more = take_more calls i next low ∙ ap (λ c. take i calls ++ c ∷ []) (sym is) in
      subst (λ cs. DidAll holds cs (texts ++ text ∷ []) old new) (sym more) (did_more (take i calls) texts next text old mid new did one sound)
