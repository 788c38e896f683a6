-- Services of connections, and the commands that these give.
use Rattle.std.specs.Prelude.{◌≡◌, ◌⊎◌, ℕ, ◌+◌, List, [], ◌∷◌, ◌++◌, map, Option, IfSome, Result}
use Rattle.lrs_machine.specs.Image.{state_of}
use Rattle.lrs_machine.specs.Lines.{Text}
use Rattle.lrs_machine.specs.Machine.{Record, state_after}
use Rattle.lrs_machine.specs.State.{State}
use Rattle.lrs_machine.specs.declared.answer.Limits.{Limits}
use Rattle.lrs_machine.specs.declared.image.Image.{Image}
use Rattle.lrs_machine.specs.declared.table.Table.{Table}
use Rattle.lrs_desk.specs.DeskView.{DeskView}
use Rattle.lrs_web_requests.specs.Request.{Asked, AsksWith}
use Rattle.lrs_web.specs.Visits.{Exchange, Visited, exchange_of}
use Rattle.lrs_promises.specs.Calls.{GivesAsked}
use Rattle.lrs_promises.specs.Headline.{KeepsTheLaws}

-- A connection gives the commands of the request that its bytes make where this page is shown, or none; where it does not tell them, of some request.
abbrev pub ConnectionGives : Option Text → Option Text → State → List Record → Type 0
ConnectionGives shown input s commands = (asked : Asked) × IfSome input (λ bytes. AsksWith shown bytes asked) × GivesAsked asked s commands

-- One that was cut off gave none of them, or the first ones.
abbrev pub CutOffGives : Option Text → Option Text → State → List Record → Type 0
CutOffGives shown input s commands = (commands ≡ []) ⊎ ((others : List Record) × ConnectionGives shown input s (commands ++ others))

-- The commands that connections give in their order, each in the state after those before it: this many were served in full, and this many cut off.
pub data ConnectionsGive (shown : Option Text) (limits : Limits) (start : State) : List Exchange → ℕ → ℕ → List Record → Type 0 where
  none_gives : ConnectionsGive shown limits start [] 0 0 []
  full_gives : (earlier : List Exchange) (x : Exchange) (full cut : ℕ) (commands more : List Record) → ConnectionsGive shown limits start earlier full cut commands
      → ConnectionGives shown x.input (state_after limits commands start) more → ConnectionsGive shown limits start (earlier ++ x ∷ []) (full + 1) cut (commands ++ more)
  cut_gives : (earlier : List Exchange) (x : Exchange) (full cut : ℕ) (commands more : List Record) → ConnectionsGive shown limits start earlier full cut commands
      → CutOffGives shown x.input (state_after limits commands start) more → ConnectionsGive shown limits start (earlier ++ x ∷ []) full (cut + 1) (commands ++ more)

-- Connections of a door were served at a desk, by what the door and they tell.
pub record IsService {K R W : Type 0} (holds : K → Result Image Table → Type 0) (shown : Option Text) (remaining : R → Option Text) (contents : W → Option Text) (waiting left : Option (List (R × W))) (ended back : Option (List W)) (full cut : ℕ) (old new : DeskView K) : Type 0 where
  -- the first of those that waited were served, in full or cut off, and their writers are back
  pub visited : Visited holds shown remaining contents waiting left ended back full cut old new
  -- the image stands for the fold of all commands that they gave
  pub commands : List Record
  pub given : ConnectionsGive shown old.limits (state_of old.image) (map (exchange_of remaining contents) visited.served) full cut commands
  pub image : state_of new.image ≡ state_after old.limits commands (state_of old.image)
  pub laws : KeepsTheLaws old.limits commands (state_of old.image)
