-- What a request asks for.
use Rattle.std.specs.Prelude.{◌≡◌, ⊤, ℕ, ◌≤◌, ◌⊎◌, Bool, true, false, not, ◌&&◌, List, length, drop, map, codes, Option, None, Some, option_map, unwrap_or, Result, Ok, Err, if◌then◌else◌, ◌==◌, bytes_eq}
use Rattle.std.specs.Borrow.{Bor}
use Rattle.std.specs.List.{before_first, after_first}
use Rattle.httparse.specs.Grammar.{RequestHead, ReadsRequest, print_request}
use Rattle.httparse.specs.Spans.{name_and_value}
use Rattle.lrs_web_requests.specs.HeadReadings.{IsTooLarge, IsUnreadable}
use Rattle.lrs_web_requests.specs.Body.{body_at}
use Rattle.lrs_web_requests.specs.BodyLengths.{Field, body_length}
use Rattle.lrs_web_requests.specs.Query.{switched}
use Rattle.lrs_web_requests.specs.Sites.{is_own}
use Rattle.lrs_web_requests.specs.declared.response.RequestMethod.{RequestMethod}
use Rattle.lrs_web_requests.specs.declared.response.RequestMethod.TheVariants.{Get, Post}
use Rattle.lrs_web_requests.specs.Text.{method_name}
use Rattle.lrs_web_requests.specs.declared.paths.Resource.{Resource}
use Rattle.lrs_web_requests.specs.declared.paths.Resource.TheVariants.{At, Route, Segments, Totals, Translate, Diagram, Routes, Find, Log, Health, Links, Classes, Refs, Marks, Pieces, Rows, Overlay, Lengths, Gone, History, Where, Edits, Surveys, EditsCheck, SurveysCheck, Questions, Draft}
use Rattle.lrs_web_requests.specs.declared.paths.Format.{Format}
use Rattle.lrs_web_requests.specs.declared.request.Course.{Course}
use Rattle.lrs_web_requests.specs.declared.request.Course.TheVariants as course
use Rattle.lrs_web_requests.specs.Routes.{Named, named_at}
use Rattle.lrs_web_requests.specs.declared.request.Request.{Request}
use Rattle.lrs_web_requests.specs.declared.request.Request.TheVariants as task

-- what is asked for: nothing that is served, the page, which is this text, an answer to a question in a format, with what it is asked by, or that a sheet is done in this way or, of questions, answered
pub data Asked : Type 0 where
  refused : ℕ → Asked
  not_allowed : RequestMethod → Asked
  page : List ℕ → Asked
  query : Resource → Format → List ℕ → Asked
  sheet : Resource → Course → List ℕ → Asked

abbrev pub asked_by : Request → Asked
asked_by (task.Refused status) = refused status
asked_by (task.NotAllowed verb) = not_allowed verb
asked_by (task.Page text) = page text.now
asked_by (task.Query resource format text) = query resource format text.items
asked_by (task.Sheet resource way bytes) = sheet resource way bytes.items

abbrev pub is_question_mark : ℕ → Bool
is_question_mark b = b == 63

-- the target up to its first question mark
abbrev pub path_of : List ℕ → List ℕ
path_of target = before_first is_question_mark target

-- what stands behind that question mark, or nothing
abbrev pub query_of : List ℕ → List ℕ
query_of target = after_first is_question_mark target

-- the name in the path of a route
abbrev pub name_in : List ℕ → List ℕ
name_in path = drop (length (codes "/v1/route/")) path

-- what a resource is asked by: a route by the name in its path, any other by the query
abbrev pub argument_of : Resource → List ℕ → List ℕ
argument_of Route target = name_in (path_of target)
argument_of _ target = query_of target

-- the method that serves a resource
abbrev pub verb_of : Resource → RequestMethod
verb_of At = Get
verb_of Route = Get
verb_of Segments = Get
verb_of Totals = Get
verb_of Translate = Get
verb_of Diagram = Get
verb_of Routes = Get
verb_of Find = Get
verb_of Log = Get
verb_of Health = Get
verb_of Links = Get
verb_of Classes = Get
verb_of Refs = Get
verb_of Marks = Get
verb_of Pieces = Get
verb_of Rows = Get
verb_of Overlay = Get
verb_of Lengths = Get
verb_of Gone = Get
verb_of History = Get
verb_of Where = Get
verb_of Edits = Post
verb_of Surveys = Post
verb_of EditsCheck = Post
verb_of SurveysCheck = Post
verb_of Questions = Post
verb_of (Draft kind) = Post

-- how a sheet is done, by two switches: whether it goes on, and whether all of it is done or nothing
abbrev pub switched_course : Option Bool → Option Bool → Option Course
switched_course (Some false) (Some false) = Some course.EachRecord
switched_course (Some true) (Some false) = Some course.BehindLast
switched_course (Some false) (Some true) = Some course.AllOrNone
switched_course resumes all = None

-- how a sheet is to be done, by the parameters `resume` and `all`
abbrev pub course_of : List ℕ → Option Course
course_of target = switched_course (switched (codes "resume") (query_of target)) (switched (codes "all") (query_of target))

abbrev pub with_body : Resource → Option Course → Option (List ℕ) → Asked
with_body resource None body = refused 400
with_body resource (Some way) None = refused 400
with_body resource (Some way) (Some body) = sheet resource way body

abbrev pub with_length : Resource → Option Course → Result ℕ ℕ → List ℕ → Asked
with_length resource way (Err status) rest = refused status
with_length resource way (Ok length) rest = with_body resource way (body_at length rest)

-- by the verb of the resource; rest is what follows the head
abbrev pub by_verb : RequestMethod → Named → List ℕ → List Field → List ℕ → Asked
by_verb Get (resource, format) target fields rest = query resource format (argument_of resource target)
by_verb Post (resource, format) target fields rest = with_length resource (course_of target) (body_length fields) rest

abbrev pub at_resource : Option Named → List ℕ → List ℕ → List Field → List ℕ → Asked
at_resource None method target fields rest = refused 404
at_resource (Some (resource, format)) method target fields rest =
    if bytes_eq method (method_name (verb_of resource)) then by_verb (verb_of resource) (resource, format) target fields rest
    else not_allowed (verb_of resource)

-- what a head and the bytes after it ask for
abbrev pub asked_at : List ℕ → List ℕ → List Field → List ℕ → Asked
asked_at method target fields rest = at_resource (named_at (path_of target)) method target fields rest

-- the text of the page that is shown, or none
abbrev pub page_text : Option (Bor (List ℕ)) → Option (List ℕ)
page_text given = option_map (λ text. text.now) given

-- what a method asks of the path of the page
abbrev pub asked_of_page : List ℕ → List ℕ → Asked
asked_of_page text method = if bytes_eq method (method_name Get) then page text else not_allowed Get

-- What a head asks for by itself where this page stands at `/`: no POST that comes from another site is done, whatever its path.
abbrev pub asked_ahead : List ℕ → List ℕ → List ℕ → List Field → Option Asked
asked_ahead text method target fields =
    if bytes_eq method (method_name Post) && not (is_own fields) then Some (refused 403)
    else (if bytes_eq (path_of target) (codes "/") then Some (asked_of_page text method) else None)

-- what a head and the bytes after it ask for, with a page or without one
abbrev pub asked_with : Option (List ℕ) → List ℕ → List ℕ → List Field → List ℕ → Asked
asked_with None method target fields rest = asked_at method target fields rest
asked_with (Some text) method target fields rest = unwrap_or (asked_ahead text method target fields) (asked_at method target fields rest)

abbrev pub most_head : ℕ
most_head = 8192

abbrev pub most_fields : ℕ
most_fields = 64

-- a head within the limits at the front of the input asks for this
pub record AsksByHead (shown : Option (List ℕ)) (input : List ℕ) (asked : Asked) (h : RequestHead) (rest : List ℕ) : Type 0 where
  pub reads : ReadsRequest input h rest
  pub bytes : length (print_request h) ≤ most_head
  pub fields : length h.fields ≤ most_fields
  pub asks : asked ≡ asked_with shown h.method h.target (map name_and_value h.fields) rest

-- a question is put to a resource that answers, and a sheet is given to one that does it
abbrev pub IsServed : Asked → Type 0
IsServed (refused status) = ⊤
IsServed (not_allowed verb) = ⊤
IsServed (page text) = ⊤
IsServed (query resource format argument) = verb_of resource ≡ Get
IsServed (sheet resource way bytes) = verb_of resource ≡ Post

-- what an input asks for where this page is shown, or none; one whose head has several faults may be refused for either
abbrev pub AsksWith : Option (List ℕ) → List ℕ → Asked → Type 0
AsksWith shown input asked =
    ((asked ≡ refused 431) × IsTooLarge most_head most_fields input) ⊎ ((asked ≡ refused 400) × IsUnreadable input)
    ⊎ ((h : RequestHead) × (rest : List ℕ) × AsksByHead shown input asked h rest)

-- the same without a page
abbrev pub Asks : List ℕ → Asked → Type 0
Asks input asked = AsksWith None input asked
