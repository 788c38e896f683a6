-- Answers under the keys of their commands, one after the other.
use Rattle.std.proofs.Common.{◌≡◌, inl, inr, ℕ, ◌<◌, ◌≤◌, ◌+◌, List, [], ◌∷◌, ◌++◌, Option, Result, length, take, get_or, refl, sym, ap, ◌∙◌, arith}
use Rattle.std.proofs.lemmas.List.{take_more, length-take-le, take_all, take-map, length-map}
use Rattle.csv.proofs.WriteFacts.{appends-more}
use Rattle.std.specs.Io.KnownBytes.{Appends}
use Rattle.lrs_machine.specs.Image.{state_of}
use Rattle.lrs_machine.specs.Lines.{Text}
use Rattle.lrs_machine.specs.Machine.{Record, answers, state_after}
use Rattle.lrs_machine.specs.State.{State}
use Rattle.lrs_machine.specs.declared.answer.Limits.{Limits}
use Rattle.lrs_machine.specs.declared.image.Image.{Image}
use Rattle.lrs_machine.specs.declared.table.Table.{Table}
use Rattle.lrs_desk.specs.Desk.{records_of, DoesFirst, BreaksAmid, HasBroken, IsOldOrNext, IsUnchanged}
use Rattle.lrs_desk.specs.DeskView.{DeskView}
use Rattle.lrs_machine.specs.declared.stops.fault.Fault.{Fault}
use Rattle.lrs_machine.specs.declared.stops.fault.Fault.TheVariants as stop
use Rattle.lrs_sheet_records.specs.declared.fault.SheetFault.TheVariants as fault
use Rattle.lrs_machine.specs.declared.answer.Answer.{Answer}
use Rattle.lrs_machine.specs.declared.command.Command.{Command}
use Rattle.lrs_sheet.specs.declared.reply.Reply.{Reply}
use Rattle.lrs_sheet.specs.declared.reply.Tally.{Tally}
use Rattle.lrs_sheet.specs.Replies.{counted, lines_of, reply_text}
use Rattle.lrs_sheet.specs.Sheets.{StandsForEither}
use Rattle.lrs_sheet.specs.WaitingCommands.{reply_of, replies_of, replies_to, counted_all, done_all, CommandsInFlight, DoesAll, IsAheadBySome, StopsAtFirst}
use Rattle.lrs_sheet.proofs.Done.{lines-more}

-- one more answer
pub replies-more : (commands : List (Text × Command)) (answers : List Answer) (c : Text × Command) (a : Answer) → length commands ≡ length answers
    → replies_of (commands ++ c ∷ []) (answers ++ a ∷ []) ≡ replies_of commands answers ++ reply_of c a ∷ []
replies-more [] [] c a h = refl
replies-more [] (b ∷ answers) c a h = absurd (omega (arith, h))
replies-more (d ∷ commands) [] c a h = absurd (omega (arith, h))
replies-more (d ∷ commands) (b ∷ answers) c a h = ap (λ (rs : List Reply). reply_of d b ∷ rs) (replies-more commands answers c a (omega (arith, h)))

-- one more reply counted
pub counted-more : (tally : Tally) (replies : List Reply) (reply : Reply) → counted_all tally (replies ++ reply ∷ []) ≡ counted (counted_all tally replies) reply.answer
counted-more tally [] reply = refl
counted-more tally (r ∷ replies) reply = counted-more (counted tally r.answer) replies reply

-- only as many commands as there are answers have replies
pub replies-front : (commands : List (Text × Command)) (answers : List Answer) → replies_of (take (length answers) commands) answers ≡ replies_of commands answers
replies-front [] [] = refl
replies-front [] (a ∷ answers) = refl
replies-front (c ∷ commands) [] = refl
replies-front (c ∷ commands) (a ∷ answers) = ap (λ (rs : List Reply). reply_of c a ∷ rs) (replies-front commands answers)

-- one more reply, of the front of a list
pub front-more : (commands : List (Text × Command)) (answers : List Answer) (i : ℕ) (c : Text × Command) (a : Answer) → length answers ≤ length commands → i < length answers → c ≡ get_or commands i c → a ≡ get_or answers i a
    → replies_of (take (i + 1) commands) (take (i + 1) answers) ≡ replies_of (take i commands) (take i answers) ++ reply_of c a ∷ []
front-more commands answers i c a few within first second =
    rw (take_more commands i c (omega (arith, few, within)), take_more answers i a within, ← first, ← second)
    (replies-more (take i commands) (take i answers) c a (length-take-le i commands (omega (arith, few, within)) ∙ sym (length-take-le i answers (omega (arith, within)))))

module _ (commands : List (Text × Command)) (answers : List Answer) (i : ℕ) (c : Text × Command) (a : Answer) (few : length answers ≤ length commands) (within : i < length answers) (first : c ≡ get_or commands i c) (second : a ≡ get_or answers i a) where
  abbrev r : Reply
  r = reply_of c a

  pub wrote-more : (old mid new : Option Text) → Appends old mid (lines_of (replies_of (take i commands) (take i answers))) → Appends mid new (reply_text r ++ 10 ∷ [])
      → Appends old new (lines_of (replies_of (take (i + 1) commands) (take (i + 1) answers)))
  wrote-more old mid new h g =
      rw (front-more commands answers i c a few within first second, lines-more (replies_of (take i commands) (take i answers)) r)
      (appends-more old mid new (lines_of (replies_of (take i commands) (take i answers))) (reply_text r ++ 10 ∷ []) h g)

  pub tallied-more : (start tally counts : Tally) → tally ≡ counted_all start (replies_of (take i commands) (take i answers)) → counts ≡ counted tally a
      → counts ≡ counted_all start (replies_of (take (i + 1) commands) (take (i + 1) answers))
  tallied-more start tally counts h g =
      g ∙ ap (λ (t : Tally). counted t a) h ∙ sym (counted-more start (replies_of (take i commands) (take i answers)) r)
      ∙ ap (counted_all start) (sym (front-more commands answers i c a few within first second))

-- the whole list is its own front
pub whole : (commands : List (Text × Command)) (answers : List Answer) (i : ℕ) → length answers ≤ i → i ≤ length answers → replies_of (take i commands) (take i answers) ≡ replies_of commands answers
whole commands answers i over under =
    let at : i ≡ length answers = omega (arith, over, under) in
    rw (at, take_all (length answers) answers (omega arith)) (replies-front commands answers)

-- the first records are those of the first commands
front_of : (n : ℕ) (commands : List (Text × Command)) → take n (records_of commands) ≡ records_of (take n commands)
front_of n commands = take-map _ n commands

-- the replies are those to the commands that are done
pub replied_first : (limits : Limits) (commands : List (Text × Command)) (given : List Answer) (s : State) → given ≡ answers limits (take (length given) (records_of commands)) s
    → replies_of commands given ≡ replies_to limits (take (length given) commands) s
replied_first limits commands given s is =
    sym (replies-front commands given) ∙ ap (replies_of (take (length given) commands)) (is ∙ ap (λ (rs : List Record). answers limits rs s) (front_of (length given) commands))

-- commands that a desk has done, with their lines
pub does_first : (limits : Limits) (commands : List (Text × Command)) (given : List Answer) (before after : State) (old new : Option Text) (tally counts : Tally)
    → DoesFirst limits (records_of commands) before after given → Appends old new (lines_of (replies_of commands given)) → counts ≡ counted_all tally (replies_of commands given)
    → DoesAll limits (take (length given) commands) before after old new tally counts
does_first limits commands given before after old new tally counts does wrote counted =
    let same = replied_first limits commands given before does.answered in
    record {
      state = does.state ∙ ap (λ (rs : List Record). state_after limits rs before) (front_of (length given) commands);
      written = rw (← same) wrote;
      counted = counted ∙ ap (counted_all tally) same;
    }

-- what is found where the first commands are in flight
found_either : (limits : Limits) (n : ℕ) (commands : List (Text × Command)) (before : Image) (c : Result Image Table) → IsOldOrNext limits (take n (records_of commands)) before c
    → StandsForEither c (state_of before) (done_all limits (take n commands) (state_of before))
found_either limits n commands before c (inl is) = inl (before, is, refl)
found_either limits n commands before c (inr (image, is, state, sound)) = inr (image, is, state ∙ ap (λ (rs : List Record). state_after limits rs (state_of before)) (front_of n commands))

-- as many commands as records
as_many_records : (commands : List (Text × Command)) → length (records_of commands) ≡ length commands
as_many_records commands = length-map commands (λ (c : Text × Command). let r : Record = record { key = c.0; command = c.1 } in r)

-- the state after some first records is that after their commands
ahead_by : (limits : Limits) (n : ℕ) (commands : List (Text × Command)) (before after : State) → 1 ≤ n → n ≤ length (records_of commands) → after ≡ state_after limits (take n (records_of commands)) before
    → IsAheadBySome limits commands before after
ahead_by limits n commands before after some few state = (
  n,
  some,
  (let same = as_many_records commands in omega (arith, few, same)),
  state ∙ ap (λ (rs : List Record). state_after limits rs before) (front_of n commands),
)

module _ {K : Type 0} (holds : K → Result Image Table → Type 0) (before after : DeskView K) where
  flies_alone : (c : Text × Command) → HasBroken holds c.0 c.1 before after → CommandsInFlight holds before.limits (c ∷ []) (state_of before.image) after
  flies_alone c broken = record {
    flying = 1;
    some = omega arith;
    few = omega arith;
    image = inl (record { one = refl; state = ap state_of broken.image; behind = broken.is_ahead });
    alone = λ one. broken.is_ahead;
    content = λ x h. found_either before.limits 1 (c ∷ []) before.image x (broken.content x h);
  }

  flies_together : (commands : List (Text × Command)) → 2 ≤ length commands → BreaksAmid holds (records_of commands) before after → CommandsInFlight holds before.limits commands (state_of before.image) after
  flies_together commands several broken = record {
    flying = broken.accepted + 1;
    some = omega arith;
    few = (let few = broken.few in let same = as_many_records commands in omega (arith, few, same));
    image = inr (record {
      state = broken.image ∙ ap (λ (rs : List Record). state_after before.limits rs (state_of before.image)) (front_of (broken.accepted + 1) commands);
      ahead = broken.is_ahead;
    });
    alone = λ one. absurd (omega (arith, one, several));
    content = λ x h. found_either before.limits (broken.accepted + 1) commands before.image x (broken.content x h);
  }

  -- a desk that did not answer
  did_not : (commands : List (Text × Command)) (text : Option Text) (e : Fault) → (e ≡ stop.Memory → IsUnchanged holds before after) → (e ≡ stop.Keep → CommandsInFlight holds before.limits commands (state_of before.image) after)
      → (e ≡ stop.MustReopen → IsUnchanged holds before after) → StopsAtFirst holds commands before after text text (fault.Desk e)
  did_not commands text stop.Memory memory keep stays = ((memory refl).image, refl)
  did_not commands text stop.Keep memory keep stays = (refl, keep refl)
  did_not commands text stop.MustReopen memory keep stays = ((stays refl).image, refl)

  pub stops_alone : (c : Text × Command) (text : Option Text) (e : Fault) → (e ≡ stop.Memory → IsUnchanged holds before after) → (e ≡ stop.Keep → HasBroken holds c.0 c.1 before after)
      → (e ≡ stop.MustReopen → IsUnchanged holds before after) → StopsAtFirst holds (c ∷ []) before after text text (fault.Desk e)
  stops_alone c text e memory keep stays = did_not (c ∷ []) text e memory (λ is. flies_alone c (keep is)) stays

  pub stops_together : (commands : List (Text × Command)) (text : Option Text) (e : Fault) → 2 ≤ length commands → (e ≡ stop.Memory → IsUnchanged holds before after) → (e ≡ stop.Keep → BreaksAmid holds (records_of commands) before after)
      → (e ≡ stop.MustReopen → IsUnchanged holds before after) → StopsAtFirst holds commands before after text text (fault.Desk e)
  stops_together commands text e several memory keep stays = did_not commands text e memory (λ is. flies_together commands several (keep is)) stays

-- a desk that did some, of which not all lines are written
pub wrote_some : {K : Type 0} (holds : K → Result Image Table → Type 0) (commands : List (Text × Command)) (given : List Answer) (before after : DeskView K) (old new : Option Text)
    → DoesFirst before.limits (records_of commands) (state_of before.image) (state_of after.image) given → StopsAtFirst holds commands before after old new fault.Write
wrote_some holds commands given before after old new does = ahead_by before.limits (length given) commands (state_of before.image) (state_of after.image) does.some does.few does.state
