-- The commands that connections give make the state.
use Rattle.std.specs.Prelude.{OnErr}
use Rattle.std.proofs.Common.{◌≡◌, ◌⊎◌, inl, inr, ℕ, ◌+◌, Bool, List, [], ◌∷◌, ◌++◌, take, drop, append_assoc, Option, Some, IfOk, Result, Ok, Err, refl, sym, ap, subst, ◌∙◌}
use Rattle.std.proofs.lemmas.List.{take-append-drop}
use Rattle.lrs_machine.specs.Image.{state_of}
use Rattle.lrs_machine.specs.Lines.{Text}
use Rattle.lrs_machine.specs.Machine.{Record, state_after}
use Rattle.lrs_machine.specs.Sound.{IsSound}
use Rattle.lrs_machine.specs.State.{State}
use Rattle.lrs_machine.specs.declared.answer.Limits.{Limits}
use Rattle.lrs_machine.specs.declared.image.Image.{Image}
use Rattle.lrs_machine.specs.declared.table.Table.{Table}
use Rattle.lrs_machine.specs.declared.stops.fault.Fault.TheVariants as stop
use Rattle.lrs_machine.proofs.SoundImages.{sound_is_lawful}
use Rattle.lrs_desk.specs.DeskView.{DeskView}
use Rattle.lrs_sheet_records.specs.Kinds.{IsHeader}
use Rattle.lrs_sheet_records.specs.Rows.{BeginsWith}
use Rattle.lrs_sheet_records.specs.declared.fault.SheetFault.{SheetFault}
use Rattle.lrs_sheet_records.specs.declared.fault.SheetFault.TheVariants as fault
use Rattle.lrs_sheet_records.specs.declared.sheet.Sheet.{Sheet}
use Rattle.lrs_sheet.specs.Replies.{Replied}
use Rattle.lrs_sheet.specs.Resumption.{Resumes}
use Rattle.lrs_sheet.specs.Sheets.{LeavesDesk, RunsBehind, records_together}
use Rattle.lrs_sheet.specs.declared.reply.Reply.{Reply}
use Rattle.lrs_sheet.specs.declared.reply.Tally.{Tally}
use Rattle.lrs_sheet.proofs.Waits.{replied-append}
use Rattle.lrs_web_requests.specs.Request.{Asked, refused, not_allowed, page, query, sheet as posted}
use Rattle.lrs_web_requests.specs.Text.{Answer}
use Rattle.lrs_web_requests.specs.declared.request.Course.{Course}
use Rattle.lrs_web_requests.specs.declared.request.Course.TheVariants as course
use Rattle.lrs_web.specs.RequestAnswers.{Does, DoesPosted, posted_at}
use Rattle.lrs_web.specs.declared.request.Posted.{Posted}
use Rattle.lrs_web.specs.declared.request.Posted.TheVariants as post
use Rattle.lrs_web.specs.Visits.{Exchange, IsCut, IsFull, Visited, Visits, nobody, full_visit, cut_visit}
use Rattle.lrs_web.specs.declared.door.Served.{Served}
use Rattle.lrs_promises.specs.Calls.{GivesAllOrNone, GivesAsked, GivesBehind, GivesPosted, GivesRest}
use Rattle.lrs_promises.specs.Services.{ConnectionGives, ConnectionsGive, CutOffGives, IsService, none_gives, full_gives, cut_gives}
use Rattle.lrs_promises.proofs.FirstCommands.{first_given}
use Rattle.lrs_promises.proofs.Framed.{front_begins}
use Rattle.lrs_promises.proofs.Given.{answered, asked_gave, state_both}
use Rattle.lrs_promises.proofs.Laws.{keeps_the_laws}

-- ---- a sheet that ended somehow

module _ (passed : List (List Text)) (kind : Sheet) (limits : Limits) (input : Text) where
  -- some first records under the header were answered
  record FirstDone (before after : State) : Type 0 where
    pub header : List Text
    pub records : List (List Text)
    pub replies : List Reply
    pub is : IsHeader kind header
    pub begins : BeginsWith input (header ∷ (passed ++ records))
    pub replied : Replied kind limits before records replies after

  -- the first of more
  first_begin : (header : List Text) (records further : List (List Text)) → BeginsWith input (header ∷ (passed ++ (records ++ further))) → BeginsWith input (header ∷ (passed ++ records))
  first_begin header records further begins =
      front_begins input header (passed ++ records) further (subst (λ l. BeginsWith input (header ∷ l)) (sym (append_assoc passed records further)) begins)

  first_and_flying : (header : List Text) (records further : List (List Text)) (flying : ℕ) → BeginsWith input (header ∷ (passed ++ (records ++ further)))
      → BeginsWith input (header ∷ (passed ++ (records ++ take flying further)))
  first_and_flying header records further flying begins =
      let parts : records ++ further ≡ (records ++ take flying further) ++ drop flying further =
      ap (λ l. records ++ l) (sym (take-append-drop flying further)) ∙ sym (append_assoc records (take flying further) (drop flying further)) in
      first_begin header (records ++ take flying further) (drop flying further) (subst (λ l. BeginsWith input (header ∷ (passed ++ l))) parts begins)

  first_done : (together : ℕ) (before after : State) (old new : Option Text) (ended : Result Tally SheetFault) → RunsBehind passed kind together limits input before after old new ended
      → (after ≡ before) ⊎ FirstDone before after
  first_done together before after old new (Ok tally) (inl (all, same, keeps, count)) = inl same
  first_done together before after old new (Ok tally) (inr (header, records, replies, is, (end, left, reached, none), done, count, few)) =
      inr (record { header = header; records = records; replies = replies; is = is; begins = (end, left, reached); replied = done.replied })
  first_done together before after old new (Err fault.BadHeader) (header, begins, other, same, keeps) = inl same
  first_done together before after old new (Err fault.BadCsv) (header, records, fields, replies, is, begins, other, done) =
      inr (record { header = header; records = records; replies = replies; is = is; begins = front_begins input header (passed ++ records) (fields ∷ []) begins; replied = done.replied })
  first_done together before after old new (Err fault.Read) (inl (same, keeps)) = inl same
  first_done together before after old new (Err fault.Read) (inr (header, records, replies, is, begins, done)) =
      inr (record { header = header; records = records; replies = replies; is = is; begins = begins; replied = done.replied })
  first_done together before after old new (Err fault.Memory) (inl (same, keeps)) = inl same
  first_done together before after old new (Err fault.Memory) (inr (header, records, replies, is, begins, done)) =
      inr (record { header = header; records = records; replies = replies; is = is; begins = begins; replied = done.replied })
  first_done together before after old new (Err fault.Write) (header, records, further, replies, is, begins, some, wide, replied) =
      inr (record { header = header; records = records; replies = replies; is = is; begins = first_begin header records further begins; replied = replied })
  first_done together before after old new (Err (fault.Desk stop.Memory)) (header, records, further, replies, is, begins, next, done) =
      inr (record { header = header; records = records; replies = replies; is = is; begins = first_begin header records further begins; replied = done.replied })
  first_done together before after old new (Err (fault.Desk stop.MustReopen)) (header, records, further, replies, is, begins, next, done) =
      inr (record { header = header; records = records; replies = replies; is = is; begins = first_begin header records further begins; replied = done.replied })
  first_done together before after old new (Err (fault.Desk stop.Keep)) h = inr (by h.flight.image)
    where
      by : ((h.flight.flying ≡ 1) × (after ≡ h.settled)) ⊎ (after ≡ h.flight.next) → FirstDone before after
      by (inl (alone, still)) = record {
        header = h.header;
        records = h.records;
        replies = h.replies;
        is = h.is_header;
        begins = first_begin h.header h.records h.further h.begins;
        replied = subst (Replied kind limits before h.records h.replies) (sym still) h.answered.replied;
      }
      by (inr ahead) = record {
        header = h.header;
        records = h.records ++ take h.flight.flying h.further;
        replies = h.replies ++ h.flight.replies;
        is = h.is_header;
        begins = first_and_flying h.header h.records h.further h.flight.flying h.begins;
        replied = subst (Replied kind limits before (h.records ++ take h.flight.flying h.further) (h.replies ++ h.flight.replies)) (sym ahead)
            (replied-append kind limits h.records (take h.flight.flying h.further) h.replies h.flight.replies before h.settled h.flight.next h.answered.replied h.flight.replied);
      }

-- ---- what it gave

-- none of the commands that something gives, or the first ones
abbrev GivesFirst : (List Record → Type 0) → List Record → Type 0
GivesFirst G commands = (commands ≡ []) ⊎ ((others : List Record) × G (commands ++ others))

record GaveFirst (limits : Limits) (G : List Record → Type 0) (before after : State) : Type 0 where
  pub commands : List Record
  pub gives : GivesFirst G commands
  pub state : after ≡ state_after limits commands before

none_gave : (limits : Limits) (G : List Record → Type 0) (before after : State) → after ≡ before → GaveFirst limits G before after
none_gave limits G before after same = record { commands = []; gives = inl refl; state = same }

gave_under : (limits : Limits) (G H : List Record → Type 0) (before after : State) → ((commands : List Record) → G commands → H commands) → GaveFirst limits G before after → GaveFirst limits H before after
gave_under limits G H before after under gave = record { commands = gave.commands; gives = by gave.gives; state = gave.state }
  where
    by : GivesFirst G gave.commands → GivesFirst H gave.commands
    by (inl none) = inl none
    by (inr (others, given)) = inr (others, under (gave.commands ++ others) given)

behind_gave : (passed : List (List Text)) (kind : Sheet) (together : ℕ) (limits : Limits) (input : Text) (before after : State) (old new : Option Text) (ended : Result Tally SheetFault)
    → RunsBehind passed kind together limits input before after old new ended → GaveFirst limits (GivesBehind passed kind input) before after
behind_gave passed kind together limits input before after old new ended runs = by (first_done passed kind limits input together before after old new ended runs)
  where
    by : (after ≡ before) ⊎ FirstDone passed kind limits input before after → GaveFirst limits (GivesBehind passed kind input) before after
    by (inl same) = none_gave limits (GivesBehind passed kind input) before after same
    by (inr first) =
        let a = answered kind limits before after first.records first.replies first.replied in
        record { commands = a.said; gives = inr (first_given passed kind input first.header first.records first.is a.said first.begins a.say); state = a.state }

rest_gave_first : (must_reopen : Bool) (kind : Sheet) (together : ℕ) (limits : Limits) (input : Text) (before after : State) (old new : Option Text) (ended : Result Tally SheetFault)
    → Resumes must_reopen kind together limits input before after old new ended → GaveFirst limits (GivesRest kind input before) before after
rest_gave_first must_reopen kind together limits input before after old new (Ok tally) (inl h) = absurd h
rest_gave_first must_reopen kind together limits input before after old new (Err e) (inl (why, same, keeps)) = none_gave limits (GivesRest kind input before) before after same
rest_gave_first must_reopen kind together limits input before after old new ended (inr (once, decided, passed, is, runs)) =
    gave_under limits (GivesBehind passed kind input) (GivesRest kind input before) before after (λ commands given. inl (once, decided, passed, is, given))
    (behind_gave passed kind together limits input before after old new ended runs)

-- ---- at a desk

module _ {K : Type 0} (holds : K → Result Image Table → Type 0) (shown : Option Text) where
  same_limits : (old new : DeskView K) (ended : Result Tally SheetFault) → LeavesDesk holds old new ended → new.limits ≡ old.limits
  same_limits old new (Ok tally) desk = desk.limits
  same_limits old new (Err fault.BadHeader) desk = desk.0.limits
  same_limits old new (Err fault.BadCsv) desk = desk.limits
  same_limits old new (Err fault.Read) desk = desk.limits
  same_limits old new (Err fault.Write) desk = desk.limits
  same_limits old new (Err fault.Memory) desk = desk.limits
  same_limits old new (Err (fault.Desk stop.Memory)) desk = desk.limits
  same_limits old new (Err (fault.Desk stop.MustReopen)) desk = desk.0.limits
  same_limits old new (Err (fault.Desk stop.Keep)) desk = desk.limits

  -- commands, that something gives, make the state under limits that stay
  record Made (G : List Record → Type 0) (old new : DeskView K) : Type 0 where
    pub commands : List Record
    pub gives : G commands
    pub state : state_of new.image ≡ state_after old.limits commands (state_of old.image)
    pub limits : new.limits ≡ old.limits

  none_made : (G : List Record → Type 0) (old new : DeskView K) → G [] → new ≡ old → Made G old new
  none_made G old new given same = record { commands = []; gives = given; state = ap (λ (d : DeskView K). state_of d.image) same; limits = ap (λ (d : DeskView K). d.limits) same }

  first_made : (G : List Record → Type 0) (old new : DeskView K) → GaveFirst old.limits G (state_of old.image) (state_of new.image) → new.limits ≡ old.limits → Made (GivesFirst G) old new
  first_made G old new gave limits = record { commands = gave.commands; gives = gave.gives; state = gave.state; limits = limits }

  posted_made : (what : Posted) (way : Course) (body : Text) (answer : Answer) (old new : DeskView K) → DoesPosted holds what way body old answer new
      → Made (GivesFirst (GivesPosted what way body (state_of old.image))) old new
  posted_made post.Questions way body answer old new (same, told, ahead) = none_made (GivesFirst (GivesPosted post.Questions way body (state_of old.image))) old new (inl refl) same
  posted_made (post.Trial kind) way body answer old new (same, told, ahead) = none_made (GivesFirst (GivesPosted (post.Trial kind) way body (state_of old.image))) old new (inl refl) same
  posted_made (post.Draft kind) way body answer old new (same, told, ahead) = none_made (GivesFirst (GivesPosted (post.Draft kind) way body (state_of old.image))) old new (inl refl) same
  posted_made (post.Sheet kind) course.EachRecord body answer old new (ended, lines, run, is) =
      first_made (GivesBehind [] kind body) old new
      (behind_gave [] kind records_together old.limits body (state_of old.image) (state_of new.image) (Some []) (Some lines) ended run.runs) (same_limits old new ended run.desk)
  posted_made (post.Sheet kind) course.BehindLast body answer old new (inr (twice, repeated, same, is)) = none_made (GivesFirst (GivesPosted (post.Sheet kind) course.BehindLast body (state_of old.image))) old new (inl refl) same
  posted_made (post.Sheet kind) course.BehindLast body answer old new (inl (ended, lines, run, is)) =
      first_made (GivesRest kind body (state_of old.image)) old new
      (rest_gave_first old.must_reopen kind records_together old.limits body (state_of old.image) (state_of new.image) (Some []) (Some lines) ended run.runs) (same_limits old new ended run.desk)
  posted_made (post.Sheet kind) course.AllOrNone body answer old new (inl (behind, replies, outcome, tried, inl (accepted, (ended, lines, run, is)))) =
      first_made (GivesAllOrNone kind body (state_of old.image)) old new
      (gave_under old.limits (GivesBehind [] kind body) (GivesAllOrNone kind body (state_of old.image)) (state_of old.image) (state_of new.image) (λ commands given. (replies, outcome, tried, inl (accepted, given)))
      (behind_gave [] kind records_together old.limits body (state_of old.image) (state_of new.image) (Some []) (Some lines) ended run.runs))
      (same_limits old new ended run.desk)
  posted_made (post.Sheet kind) course.AllOrNone body answer old new (inl (behind, replies, outcome, tried, inr (not_accepted, same, is))) =
      none_made (GivesFirst (GivesPosted (post.Sheet kind) course.AllOrNone body (state_of old.image))) old new (inl refl) same
  posted_made (post.Sheet kind) course.AllOrNone body answer old new (inr (same, is)) =
      none_made (GivesFirst (GivesPosted (post.Sheet kind) course.AllOrNone body (state_of old.image))) old new (inl refl) same

  asked_made : (asked : Asked) (answer : Answer) (old new : DeskView K) → Does holds asked old answer new → Made (GivesFirst (GivesAsked asked (state_of old.image))) old new
  asked_made (refused status) answer old new does = none_made (GivesFirst (GivesAsked (refused status) (state_of old.image))) old new (inl refl) does.0
  asked_made (not_allowed verb) answer old new does = none_made (GivesFirst (GivesAsked (not_allowed verb) (state_of old.image))) old new (inl refl) does.0
  asked_made (page text) answer old new does = none_made (GivesFirst (GivesAsked (page text) (state_of old.image))) old new (inl refl) does.0
  asked_made (query resource format argument) answer old new does = none_made (GivesFirst (GivesAsked (query resource format argument) (state_of old.image))) old new (inl refl) does.0
  asked_made (posted resource way body) answer old new does = posted_made (posted_at resource) way body answer old new does

  -- ---- connections

  full_made : (x : Exchange) (old new : DeskView K) → IsFull holds shown x old new → Made (ConnectionGives shown x.input (state_of old.image)) old new
  full_made x old new (asked, due, status, done, writes, other) =
      let g = asked_gave holds asked due old new done.does (λ e. other (writes.0 ∙ e)) in
      record { commands = g.gave.commands; gives = (asked, done.asks, g.gave.gives); state = g.gave.state; limits = g.along.limits }

  cut_made : (input : Option Text) (old new : DeskView K) → IsCut holds shown input old new → Made (CutOffGives shown input (state_of old.image)) old new
  cut_made input old new (inl same) = none_made (CutOffGives shown input (state_of old.image)) old new (inl refl) same
  cut_made input old new (inr (asked, due, done)) =
      let m = asked_made asked due old new done.does in
      record { commands = m.commands; gives = by m.commands m.gives; state = m.state; limits = m.limits }
    where
      by : (commands : List Record) → GivesFirst (GivesAsked asked (state_of old.image)) commands → CutOffGives shown input (state_of old.image) commands
      by commands (inl none) = inl none
      by commands (inr (others, given)) = inr (others, (asked, done.asks, given))

  record AllMade (exchanges : List Exchange) (full cut : ℕ) (old new : DeskView K) : Type 0 where
    pub commands : List Record
    pub given : ConnectionsGive shown old.limits (state_of old.image) exchanges full cut commands
    pub state : state_of new.image ≡ state_after old.limits commands (state_of old.image)
    pub limits : new.limits ≡ old.limits

  state_more : (old mid new : DeskView K) (commands more : List Record) → mid.limits ≡ old.limits → state_of mid.image ≡ state_after old.limits commands (state_of old.image)
      → state_of new.image ≡ state_after mid.limits more (state_of mid.image) → state_of new.image ≡ state_after old.limits (commands ++ more) (state_of old.image)
  state_more old mid new commands more limits first later =
      later ∙ (λ i. state_after (limits i) more (first i)) ∙ sym (state_both old.limits commands more (state_of old.image))

  all_made : {exchanges : List Exchange} {full cut : ℕ} {old new : DeskView K} → Visits holds shown exchanges full cut old new → AllMade exchanges full cut old new
  all_made (nobody desk) = record { commands = []; given = none_gives; state = refl; limits = refl }
  all_made (full_visit earlier x full cut old mid new visits done) =
      let before = all_made visits in
      let one = full_made x mid new done in
      record {
        commands = before.commands ++ one.commands;
        given = full_gives earlier x full cut before.commands one.commands before.given (subst (λ s. ConnectionGives shown x.input s one.commands) before.state one.gives);
        state = state_more old mid new before.commands one.commands before.limits before.state one.state;
        limits = one.limits ∙ before.limits;
      }
  all_made (cut_visit earlier x full cut old mid new visits done) =
      let before = all_made visits in
      let one = cut_made x.input mid new done in
      record {
        commands = before.commands ++ one.commands;
        given = cut_gives earlier x full cut before.commands one.commands before.given (subst (λ s. CutOffGives shown x.input s one.commands) before.state one.gives);
        state = state_more old mid new before.commands one.commands before.limits before.state one.state;
        limits = one.limits ∙ before.limits;
      }

  module _ {R W : Type 0} (remaining : R → Option Text) (contents : W → Option Text) (w l : Option (List (R × W))) (e b : Option (List W)) (old new : DeskView K) (sound : IsSound old.image) where
    -- connections that were visited are a service
    pub is_service : (full cut : ℕ) → Visited holds shown remaining contents w l e b full cut old new → IsService holds shown remaining contents w l e b full cut old new
    is_service full cut visited =
        let made = all_made visited.visits in
        record {
          visited = visited;
          commands = made.commands;
          given = made.given;
          image = made.state;
          laws = keeps_the_laws old.limits made.commands (state_of old.image) (sound_is_lawful old.image sound);
        }

    -- ... however it ends

    pub served_so : {E : Type 0} (r : Result Served E) → IfOk r (λ s. Visited holds shown remaining contents w l e b s.full s.cut old new) → IfOk r (λ s. IsService holds shown remaining contents w l e b s.full s.cut old new)
    served_so (Ok s) visited = is_service s.full s.cut visited
    served_so (Err fault) visited = tt

    pub stopped_so : {E : Type 0} (r : Result Served E) → OnErr r ((full : ℕ) × (cut : ℕ) × Visited holds shown remaining contents w l e b full cut old new)
        → OnErr r ((full : ℕ) × (cut : ℕ) × IsService holds shown remaining contents w l e b full cut old new)
    stopped_so (Ok s) visited = tt
    stopped_so (Err fault) (full, cut, visited) = (full, cut, is_service full cut visited)
