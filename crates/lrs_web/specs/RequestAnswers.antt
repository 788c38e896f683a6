-- What a request is answered, and what it leaves of the desk.
use Rattle.std.specs.Prelude.{◌≡◌, ◌⊎◌, ℕ, Bool, true, false, [], Some, None, Option, Result}
use Rattle.std.specs.Io.KnownBytes.{Appends}
use Rattle.lrs_machine.specs.Lines.{Text}
use Rattle.lrs_machine.specs.declared.image.Image.{Image}
use Rattle.lrs_machine.specs.declared.table.Table.{Table}
use Rattle.lrs_sheet.specs.DeskView.{DeskView}
use Rattle.lrs_sheet_records.specs.declared.sheet.Sheet.TheVariants.{Edits, Survey}
use Rattle.lrs_web_requests.specs.declared.paths.Resource.{Resource}
use Rattle.lrs_web_requests.specs.declared.paths.Resource.TheVariants as path
use Rattle.lrs_web_requests.specs.declared.request.Course.{Course}
use Rattle.lrs_web_requests.specs.declared.response.RequestMethod.{RequestMethod}
use Rattle.lrs_web_requests.specs.declared.response.ContentType.TheVariants.{Html}
use Rattle.lrs_web_requests.specs.Request.{Asked, Asks, refused, not_allowed, page, query, sheet}
use Rattle.lrs_web_requests.specs.Text.{Answer, answer_text, empty_answer}
use Rattle.lrs_web.specs.QueryAnswers.{AnswersAsked}
use Rattle.lrs_web.specs.Sheets.{DoesSheet}
use Rattle.lrs_web.specs.Questions.{AnswersQuestions}
use Rattle.lrs_web.specs.Trials.{AnswersTrial}
use Rattle.lrs_web.specs.Drafts.{AnswersDraft}
use Rattle.lrs_web.specs.declared.request.Posted.{Posted}
use Rattle.lrs_web.specs.declared.request.Posted.TheVariants as post

-- what is posted to a resource
abbrev pub posted_at : Resource → Posted
posted_at path.Questions = post.Questions
posted_at path.EditsCheck = post.Trial Edits
posted_at path.SurveysCheck = post.Trial Survey
posted_at (path.Draft kind) = post.Draft kind
posted_at path.Surveys = post.Sheet Survey
posted_at _ = post.Sheet Edits

-- what is told only while commands are still committed: what is at a position, and the health
abbrev pub needs_commits : Resource → Bool
needs_commits path.At = true
needs_commits path.Health = true
needs_commits _ = false

-- another method is wanted
abbrev pub allowed_answer : RequestMethod → Answer
allowed_answer verb = record { status = 405; content_type = None; allow = Some verb; body = [] }

-- the page
abbrev pub page_answer : Text → Answer
page_answer text = record { status = 200; content_type = Some Html; allow = None; body = text }

-- Questions are answered, a sheet is tried or drafted, or it is done in its way.
abbrev pub DoesPosted : {K : Type 0} → (K → Result Image Table → Type 0) → Posted → Course → Text → DeskView K → Answer → DeskView K → Type 0
DoesPosted holds post.Questions way bytes old answer new = AnswersQuestions bytes old answer new
DoesPosted holds (post.Trial kind) way bytes old answer new = AnswersTrial kind bytes old answer new
DoesPosted holds (post.Draft kind) way bytes old answer new = AnswersDraft kind bytes old answer new
DoesPosted holds (post.Sheet kind) way bytes old answer new = DoesSheet holds kind way bytes old answer new

-- What is asked for is done at the desk, and answered, or what is posted. The page leaves the desk as it is, and has an empty 503 where memory runs out. A query leaves the desk as it is. It has an empty 503 where memory runs out, or the reply would have more bytes than it may, and once a commit of several commands has failed: the image may be ahead of what is kept then. What needs commits has an empty 503 once any commit has failed: no command is done then.
abbrev pub Does : {K : Type 0} → (K → Result Image Table → Type 0) → Asked → DeskView K → Answer → DeskView K → Type 0
Does holds (refused status) old answer new = (new ≡ old) × (answer ≡ empty_answer status)
Does holds (not_allowed verb) old answer new = (new ≡ old) × (answer ≡ allowed_answer verb)
Does holds (page text) old answer new = (new ≡ old) × ((answer ≡ page_answer text) ⊎ (answer ≡ empty_answer 503))
Does holds (query resource format argument) old answer new =
    (new ≡ old) × (AnswersAsked old.image format resource argument answer ⊎ (answer ≡ empty_answer 503)) × (old.is_ahead ≡ true → answer ≡ empty_answer 503)
    × (needs_commits resource ≡ true → old.must_reopen ≡ true → answer ≡ empty_answer 503)
Does holds (sheet resource way bytes) old answer new = DoesPosted holds (posted_at resource) way bytes old answer new

-- What is asked for is done; the answer, or for lack of memory an empty 503, is given.
abbrev pub Responds : {K : Type 0} → (K → Result Image Table → Type 0) → Asked → DeskView K → Answer → DeskView K → Type 0
Responds holds asked old answer new = (due : Answer) × Does holds asked old due new × ((answer ≡ due) ⊎ (answer ≡ empty_answer 503))

-- The request at the front of the input is done; or for lack of memory it is not looked at.
abbrev pub Serves : {K : Type 0} → (K → Result Image Table → Type 0) → Text → DeskView K → Answer → DeskView K → Type 0
Serves holds input old answer new =
    ((asked : Asked) × Asks input asked × Responds holds asked old answer new)
    ⊎ ((answer ≡ empty_answer 503) × (new ≡ old))

-- an answer with this status is written
abbrev pub Writes : Option Text → Option Text → ℕ → Answer → Type 0
Writes old new status answer = (status ≡ answer.status) × Appends old new (answer_text answer)
