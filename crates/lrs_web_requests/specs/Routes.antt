-- The paths that are served.
use Rattle.std.specs.Prelude.{ℕ, Bool, true, false, List, [], ◌∷◌, ◌++◌, codes, filter, Option, option_map}
use Rattle.matchit.specs.Order.{placed}
use Rattle.matchit.specs.Rows.{RowsOf, param_token}
use Rattle.matchit.specs.Router.{RouteOf}
use Rattle.matchit.specs.Seek.{first}
use Rattle.lrs_web_requests.specs.declared.paths.Resource.{Resource}
use Rattle.lrs_web_requests.specs.declared.paths.Resource.TheVariants.{At, Route, Segments, Totals, Translate, Diagram, Routes, Find, Log, Health, Links, Classes, Refs, Marks, Pieces, Rows, Overlay, Lengths, Gone, History, Where, Edits, Surveys, EditsCheck, SurveysCheck, Questions, Draft}
use Rattle.lrs_web_requests.specs.declared.paths.DraftKind.TheVariants as kind
use Rattle.lrs_web_requests.specs.declared.paths.Format.{Format}
use Rattle.lrs_web_requests.specs.declared.paths.Format.TheVariants.{Json, Csv}

-- what a path names: a resource, and the format of its answer
abbrev pub Named : Type 0
Named = Resource × Format

-- the row of a path that stands for itself
abbrev pub plain : List ℕ → Named → List ℕ × RouteOf Named
plain path named = (path, record { pattern = path; text = path; names = []; value = named })

-- the row of a path that ends in one parameter
abbrev pub with_name : List ℕ → Named → List ℕ × RouteOf Named
with_name path named = (path ++ param_token ∷ [], record { pattern = path ++ param_token ∷ []; text = path ++ codes "{name}"; names = (11, 15) ∷ []; value = named })

-- the row of a resource that is answered as JSON
abbrev pub json : List ℕ → Resource → List ℕ × RouteOf Named
json path resource = plain path (resource, Json)

-- the row of a list that is answered as CSV
abbrev pub csv : List ℕ → Resource → List ℕ × RouteOf Named
csv path resource = plain path (resource, Csv)

unfoldable pub rows : RowsOf (RouteOf Named)
rows =
    json (codes "/health") Health ∷ json (codes "/v1/at") At ∷ csv (codes "/v1/classes.csv") Classes ∷ json (codes "/v1/classes") Classes
    ∷ json (codes "/v1/diagram") Diagram ∷ json (codes "/v1/draft/bypass") (Draft kind.Bypass) ∷ json (codes "/v1/draft/merge") (Draft kind.Merge)
    ∷ json (codes "/v1/draft/move") (Draft kind.Move) ∷ json (codes "/v1/draft/replace") (Draft kind.Replace) ∷ json (codes "/v1/draft/retire") (Draft kind.Retire)
    ∷ json (codes "/v1/draft/split") (Draft kind.Split) ∷ json (codes "/v1/draft/undo") (Draft kind.Undo) ∷ json (codes "/v1/edits/check") EditsCheck ∷ json (codes "/v1/edits") Edits
    ∷ json (codes "/v1/find") Find ∷ csv (codes "/v1/gone.csv") Gone
    ∷ json (codes "/v1/gone") Gone ∷ csv (codes "/v1/history.csv") History ∷ json (codes "/v1/history") History
    ∷ csv (codes "/v1/lengths.csv") Lengths ∷ json (codes "/v1/lengths") Lengths ∷ csv (codes "/v1/links.csv") Links
    ∷ json (codes "/v1/links") Links ∷ json (codes "/v1/log") Log ∷ csv (codes "/v1/marks.csv") Marks ∷ json (codes "/v1/marks") Marks
    ∷ csv (codes "/v1/overlay.csv") Overlay ∷ json (codes "/v1/overlay") Overlay
    ∷ csv (codes "/v1/pieces.csv") Pieces ∷ json (codes "/v1/pieces") Pieces
    ∷ json (codes "/v1/questions") Questions ∷ csv (codes "/v1/refs.csv") Refs ∷ json (codes "/v1/refs") Refs ∷ with_name (codes "/v1/route/") (Route, Json)
    ∷ csv (codes "/v1/routes.csv") Routes ∷ json (codes "/v1/routes") Routes ∷ csv (codes "/v1/rows.csv") Rows ∷ json (codes "/v1/rows") Rows
    ∷ json (codes "/v1/segments") Segments ∷ json (codes "/v1/surveys/check") SurveysCheck ∷ json (codes "/v1/surveys") Surveys
    ∷ json (codes "/v1/totals") Totals ∷ json (codes "/v1/translate") Translate
    ∷ json (codes "/v1/where") Where ∷ []

-- what a path names
abbrev pub named_at : List ℕ → Option Named
named_at path = option_map (λ route. route.value) (first rows path)

-- answers about a place, a route or an asset
abbrev pub is_answer : Named → Bool
is_answer (At, Json) = true
is_answer (Diagram, Json) = true
is_answer (Gone, Json) = true
is_answer (History, Json) = true
is_answer (Segments, Json) = true
is_answer (Translate, Json) = true
is_answer (Where, Json) = true
is_answer named = false

-- answers about the whole inventory
abbrev pub is_summary : Named → Bool
is_summary (Health, Json) = true
is_summary (Lengths, Json) = true
is_summary (Log, Json) = true
is_summary (Totals, Json) = true
is_summary named = false

-- lists, and one route
abbrev pub is_list : Named → Bool
is_list (Classes, Json) = true
is_list (Find, Json) = true
is_list (Links, Json) = true
is_list (Refs, Json) = true
is_list (Marks, Json) = true
is_list (Overlay, Json) = true
is_list (Pieces, Json) = true
is_list (Route, Json) = true
is_list (Routes, Json) = true
is_list (Rows, Json) = true
is_list named = false

-- what takes sheets
abbrev pub is_sheet : Named → Bool
is_sheet (Edits, Json) = true
is_sheet (EditsCheck, Json) = true
is_sheet (Questions, Json) = true
is_sheet (Surveys, Json) = true
is_sheet (SurveysCheck, Json) = true
is_sheet named = false

-- what drafts sheets
abbrev pub is_draft : Named → Bool
is_draft (Draft kind, Json) = true
is_draft named = false

-- lists as CSV
abbrev pub is_table : Named → Bool
is_table (resource, Csv) = true
is_table (resource, Json) = false

-- the rows of some resources
abbrev pub rows_of : (Named → Bool) → RowsOf (RouteOf Named)
rows_of is = filter (λ row. is row.1.value) rows

-- a router with these rows too, put in one after another
abbrev pub with_all : RowsOf (RouteOf Named) → RowsOf (RouteOf Named) → RowsOf (RouteOf Named)
with_all [] router = router
with_all (row ∷ rest) router = with_all rest (placed row router)
