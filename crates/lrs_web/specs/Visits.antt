-- Connections that are served one after another.
use Rattle.std.specs.Prelude.{◌≡◌, ℕ, ◌+◌, ◌⊎◌, List, [], ◌∷◌, ◌++◌, length, map, Option, Some, IfSome, Result}
use Rattle.lrs_machine.specs.Lines.{Text}
use Rattle.lrs_machine.specs.declared.image.Image.{Image}
use Rattle.lrs_machine.specs.declared.table.Table.{Table}
use Rattle.lrs_sheet.specs.DeskView.{DeskView}
use Rattle.lrs_web_requests.specs.Request.{Asked, AsksWith}
use Rattle.lrs_web_requests.specs.Text.{Answer}
use Rattle.lrs_web.specs.RequestAnswers.{Does, Writes}

-- What a connection tells: the bytes that its client sent, and those that were written to it, before it was served and after.
pub record Exchange : Type 0 where
  pub input : Option Text
  pub before : Option Text
  pub after : Option Text

-- A connection, as the door gave it, and its writer as the door has it back.
pub record Connection (R W : Type 0) : Type 0 where
  pub reader : R
  pub writer : W
  pub returned : W

module _ {R W : Type 0} where
  -- as the door gave it
  abbrev pub given_as : Connection R W → R × W
  given_as c = (c.reader, c.writer)

  -- as the door has it back
  abbrev pub back_as : Connection R W → W
  back_as c = c.returned

  -- what it tells
  abbrev pub exchange_of : (R → Option Text) → (W → Option Text) → Connection R W → Exchange
  exchange_of remaining contents c = record { input = remaining c.reader; before = contents c.writer; after = contents c.returned }

-- of connections to which this page is shown, or none
module _ {K : Type 0} (holds : K → Result Image Table → Type 0) (shown : Option Text) where
  -- What the request asks for is done at the desk, and this answer is due. Where the bytes of a connection are not told, it is some request.
  pub record IsDone (bytes : Option Text) (asked : Asked) (due : Answer) (old new : DeskView K) : Type 0 where
    pub asks : IfSome bytes (λ input. AsksWith shown input asked)
    pub does : Does holds asked old due new

  -- All that the request asks for is done, and the answer that is due is written, and nothing else: a 503 would say that it is not done.
  abbrev pub IsFull : Exchange → DeskView K → DeskView K → Type 0
  IsFull x old new =
      (asked : Asked) × (due : Answer) × (status : ℕ) × IsDone x.input asked due old new × Writes x.before x.after status due × (status ≡ 503 → ⊥)

  -- Some of what the request asks for is done, or nothing. What is written is not known, as the writer may have failed.
  abbrev pub IsCut : Option Text → DeskView K → DeskView K → Type 0
  IsCut bytes old new = (new ≡ old) ⊎ ((asked : Asked) × (due : Answer) × IsDone bytes asked due old new)

  -- Of these exchanges this many are full, in their order, and this many are cut off.
  pub data Visits : List Exchange → ℕ → ℕ → DeskView K → DeskView K → Type 0 where
    nobody : (desk : DeskView K) → Visits [] 0 0 desk desk
    full_visit : (earlier : List Exchange) (x : Exchange) (full cut : ℕ) (old mid new : DeskView K) → Visits earlier full cut old mid
        → IsFull x mid new → Visits (earlier ++ x ∷ []) (full + 1) cut old new
    cut_visit : (earlier : List Exchange) (x : Exchange) (full cut : ℕ) (old mid new : DeskView K) → Visits earlier full cut old mid
        → IsCut x.input mid new → Visits (earlier ++ x ∷ []) full (cut + 1) old new

  -- The connections that were taken off the list are visited so, and their writers are back; where a door tells no list, some.
  pub record Visited {R W : Type 0} (remaining : R → Option Text) (contents : W → Option Text) (waiting left : Option (List (R × W))) (ended back : Option (List W)) (full cut : ℕ) (old new : DeskView K) : Type 0 where
    pub served : List (Connection R W)
    pub taken : IfSome waiting (λ all. (rest : List (R × W)) × (all ≡ map given_as served ++ rest) × (left ≡ Some rest))
    pub returned : IfSome ended (λ earlier. back ≡ Some (earlier ++ map back_as served))
    pub number : length served ≡ full + cut
    pub visits : Visits (map (exchange_of remaining contents) served) full cut old new

-- some exchanges are so, and some page was shown or none
abbrev pub HasVisited : {K : Type 0} → (K → Result Image Table → Type 0) → ℕ → ℕ → DeskView K → DeskView K → Type 0
HasVisited holds full cut old new = (shown : Option Text) × (exchanges : List Exchange) × (length exchanges ≡ full + cut) × Visits holds shown exchanges full cut old new
