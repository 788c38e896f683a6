-- What a path names, a resource and the format of its answer: 43 paths stand for themselves, and the path of a route ends in the route's name.
use Rattle.std.specs.Prelude.{◌≡◌, ◌≢◌, ◌⊎◌, ◌↔◌, ℕ, List, [], ◌∷◌, ◌++◌, codes, None, Some, Contains}
use Rattle.lrs_web_requests.specs.declared.paths.Resource.TheVariants.{At, Route, Segments, Totals, Translate, Diagram, Routes, Find, Log, Health, Links, Classes, Refs, Marks, Pieces, Rows, Overlay, Lengths, Gone, History, Where, Edits, Surveys, EditsCheck, SurveysCheck, Questions, Draft}
use Rattle.lrs_web_requests.specs.declared.paths.DraftKind.TheVariants as kind
use Rattle.lrs_web_requests.specs.declared.paths.Format.TheVariants.{Json, Csv}
use Rattle.lrs_web_requests.specs.Routes.{Named, named_at}

-- the paths that stand for themselves
abbrev pub literal_paths : List (List ℕ × Named)
literal_paths =
    (codes "/health", (Health, Json)) ∷ (codes "/v1/at", (At, Json)) ∷ (codes "/v1/classes.csv", (Classes, Csv))
    ∷ (codes "/v1/classes", (Classes, Json)) ∷ (codes "/v1/diagram", (Diagram, Json))
    ∷ (codes "/v1/draft/bypass", (Draft kind.Bypass, Json)) ∷ (codes "/v1/draft/merge", (Draft kind.Merge, Json))
    ∷ (codes "/v1/draft/move", (Draft kind.Move, Json)) ∷ (codes "/v1/draft/replace", (Draft kind.Replace, Json))
    ∷ (codes "/v1/draft/retire", (Draft kind.Retire, Json)) ∷ (codes "/v1/draft/split", (Draft kind.Split, Json))
    ∷ (codes "/v1/draft/undo", (Draft kind.Undo, Json)) ∷ (codes "/v1/edits/check", (EditsCheck, Json)) ∷ (codes "/v1/edits", (Edits, Json))
    ∷ (codes "/v1/find", (Find, Json)) ∷ (codes "/v1/gone.csv", (Gone, Csv)) ∷ (codes "/v1/gone", (Gone, Json))
    ∷ (codes "/v1/history.csv", (History, Csv)) ∷ (codes "/v1/history", (History, Json))
    ∷ (codes "/v1/lengths.csv", (Lengths, Csv)) ∷ (codes "/v1/lengths", (Lengths, Json)) ∷ (codes "/v1/links.csv", (Links, Csv))
    ∷ (codes "/v1/links", (Links, Json)) ∷ (codes "/v1/log", (Log, Json)) ∷ (codes "/v1/marks.csv", (Marks, Csv))
    ∷ (codes "/v1/marks", (Marks, Json)) ∷ (codes "/v1/overlay.csv", (Overlay, Csv))
    ∷ (codes "/v1/overlay", (Overlay, Json)) ∷ (codes "/v1/pieces.csv", (Pieces, Csv)) ∷ (codes "/v1/pieces", (Pieces, Json))
    ∷ (codes "/v1/questions", (Questions, Json)) ∷ (codes "/v1/refs.csv", (Refs, Csv))
    ∷ (codes "/v1/refs", (Refs, Json)) ∷ (codes "/v1/routes.csv", (Routes, Csv)) ∷ (codes "/v1/routes", (Routes, Json))
    ∷ (codes "/v1/rows.csv", (Rows, Csv)) ∷ (codes "/v1/rows", (Rows, Json)) ∷ (codes "/v1/segments", (Segments, Json))
    ∷ (codes "/v1/surveys/check", (SurveysCheck, Json)) ∷ (codes "/v1/surveys", (Surveys, Json))
    ∷ (codes "/v1/totals", (Totals, Json)) ∷ (codes "/v1/translate", (Translate, Json))
    ∷ (codes "/v1/where", (Where, Json)) ∷ []

-- the code of a slash
abbrev pub slash : ℕ
slash = 47

-- a name is at least one byte, and none of its bytes is a slash
pub record IsName (name : List ℕ) : Type 0 where
  pub some_byte : name ≢ []
  pub no_slash : Contains name slash → ⊥

-- the path of a route: this text, and a name behind it
abbrev pub IsOfRoute : List ℕ → Type 0
IsOfRoute path = (name : List ℕ) × (path ≡ codes "/v1/route/" ++ name) × IsName name

-- what a path names
abbrev pub Names : List ℕ → Named → Type 0
Names path named = Contains literal_paths (path, named) ⊎ ((named ≡ (Route, Json)) × IsOfRoute path)

-- The router finds a resource and a format exactly by the paths that name them.
abbrev pub FindsWhatIsNamed : Type 0
FindsWhatIsNamed = (path : List ℕ) (named : Named) → (named_at path ≡ Some named) ↔ Names path named

-- The router finds nothing exactly by the paths that name nothing.
abbrev pub FindsNothingElse : Type 0
FindsNothingElse = (path : List ℕ) → (named_at path ≡ None) ↔ ((named : Named) → Names path named → ⊥)
