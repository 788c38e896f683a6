-- Safe and total: what each call leaves, by what it answers.
use Rattle.std.specs.Prelude.{◌≡◌, ◌≤◌, ◌⊎◌, ◌↔◌, ℕ, true, false, Option, Result, Ok, Err, IfOk, IfSome}
use Rattle.lrs_machine.specs.Image.{state_of}
use Rattle.lrs_machine.specs.Lines.{Text}
use Rattle.lrs_machine.specs.Machine.{Record, step_record}
use Rattle.lrs_machine.specs.declared.answer.Answer.{Answer}
use Rattle.lrs_machine.specs.declared.answer.Answer.TheVariants.{Done}
use Rattle.lrs_machine.specs.declared.image.Image.{Image}
use Rattle.lrs_machine.specs.declared.table.Table.{Table}
use Rattle.lrs_image.specs.KeeperCalls.{HoldsOnly}
use Rattle.lrs_desk.specs.Desk.{FindsImage, HasBroken, IsUnchanged}
use Rattle.lrs_desk.specs.DeskView.{DeskView}
use Rattle.lrs_machine.specs.declared.stops.fault.Fault.{Fault}
use Rattle.lrs_machine.specs.declared.stops.fault.Fault.TheVariants as stop
use Rattle.lrs_sheet.specs.Sheets.{GoesAlong, IsAfterCommands, MustReopen, StandsAmid}
use Rattle.lrs_web_requests.specs.Request.{Asked}
use Rattle.lrs_web_requests.specs.Text.{Answer as Reply}
use Rattle.lrs_web.specs.RequestAnswers.{Responds, Serves, Writes}
use Rattle.lrs_web.specs.declared.request.WebFault.{WebFault}
use Rattle.lrs_web.specs.declared.request.WebFault.TheVariants as web

-- ---- commands

-- the state is as it was
abbrev pub SameState : {K : Type 0} → DeskView K → DeskView K → Type 0
SameState old new = state_of new.image ≡ state_of old.image

-- What a command leaves of a desk that has answered it.
pub record IsAnswered {K : Type 0} (holds : K → Result Image Table → Type 0) (clean : K → Type 0) (r : Record) (old new : DeskView K) (answer : Answer) : Type 0 where
  -- the answer and the next state are the ground machine's
  pub said : answer ≡ (step_record old.limits r (state_of old.image)).answer
  pub state : state_of new.image ≡ (step_record old.limits r (state_of old.image)).state
  -- only a command that is done changes the state, and neither one that is known nor one that is refused
  pub only_done : ((number : ℕ) × (answer ≡ Done number)) ⊎ SameState old new
  -- an opening finds this image and no other, and does find it where the device has given back what it was given
  pub kept : HoldsOnly (holds new.keeper) new.image
  pub found : clean new.keeper → holds new.keeper (Ok new.image)
  -- the desk goes on
  pub serves : new.must_reopen ≡ false
  pub ahead : new.is_ahead ≡ old.is_ahead

-- What a command leaves of a desk, by its answer.
pub record ActLeaves {K : Type 0} (holds : K → Result Image Table → Type 0) (clean : K → Type 0) (r : Record) (old new : DeskView K) (result : Result Answer Fault) : Type 0 where
  pub answered : IfOk result (IsAnswered holds clean r old new)
  -- too little memory: nothing has changed, and the desk goes on
  pub memory : result ≡ Err stop.Memory → IsUnchanged holds old new
  -- the device failed: the image is as it was, an opening finds this or the command done, and from then on the desk asks to be opened again
  pub broken : result ≡ Err stop.Keep → HasBroken holds r.key r.command old new
  -- it asks so exactly where a commit failed before, and nothing has changed
  pub reopen : (result ≡ Err stop.MustReopen) ↔ (old.must_reopen ≡ true)
  pub stays : result ≡ Err stop.MustReopen → IsUnchanged holds old new
  pub same : result ≡ Err stop.MustReopen → new ≡ old
  -- whatever is answered, while it need not be opened again a clean device gives this image
  pub found : FindsImage holds clean new
  -- the keeper's count of failures is never lowered
  pub counts : old.failures ≤ new.failures
  pub limits : new.limits ≡ old.limits

-- ---- requests

-- A commit failed: the desk asks to be opened again, and whatever an opening finds stands amid the commands that were done.
pub record HasFailedAmid {K : Type 0} (holds : K → Result Image Table → Type 0) (old new : DeskView K) : Type 0 where
  pub desk : MustReopen old new
  pub found : (c : Result Image Table) → holds new.keeper c → StandsAmid old.limits (state_of old.image) (state_of new.image) c

-- What a request leaves of a desk, however it ends, from what the reader tells that it has and what the writer tells that it was given.
pub record RequestLeaves {K : Type 0} (holds : K → Result Image Table → Type 0) (input written text : Option Text) (old new : DeskView K) (result : Result ℕ WebFault) : Type 0 where
  -- some commands were done in order
  pub commands : IsAfterCommands old.limits (state_of old.image) (state_of new.image)
  -- the keeper goes along, unless a commit failed
  pub desk : GoesAlong holds old new ⊎ HasFailedAmid holds old new
  -- of one that was not read nothing was done
  pub unread : result ≡ Err web.Read → new ≡ old
  -- the reply to some request is written, with this status
  pub replied : IfOk result (λ status. (asked : Asked) × (reply : Reply) × Writes written text status reply × Responds holds asked old reply new)
  -- where the reader tells its bytes, it is the reply to what they ask for, which was done, or for lack of memory nothing
  pub served : IfOk result (λ status. (reply : Reply) × Writes written text status reply × IfSome input (λ bytes. Serves holds bytes old reply new))
  pub unwritten : result ≡ Err web.Write → IfSome input (λ bytes. (reply : Reply) × Serves holds bytes old reply new)
