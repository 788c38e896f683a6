-- Replies with a body: JSON or a picture, and why there is no answer.
use Rattle.std.specs.Prelude.{ℕ, ◌++◌, Option, None, Some, Result, Ok, Err, codes}
use Rattle.serde_json.specs.Data.{Data}
use Rattle.serde_json.specs.Written.{compact_text}
use Rattle.lrs_machine.specs.Lines.{Text}
use Rattle.lrs_machine.specs.declared.absence.Missing.TheVariants as missing
use Rattle.lrs_report_answers.specs.declared.fault.AskFault.{AskFault}
use Rattle.lrs_report_answers.specs.declared.cause.AskCause.{AskCause}
use Rattle.lrs_report_answers.specs.declared.cause.AskCause.TheVariants as cause
use Rattle.lrs_report_answers.specs.Causes.{cause_of, cause_text}
use Rattle.lrs_web_requests.specs.declared.response.ContentType.{ContentType}
use Rattle.lrs_web_requests.specs.declared.response.ContentType.TheVariants.{Csv, Json, Svg}
use Rattle.lrs_web_requests.specs.Text.{Answer, empty_answer}
use Rattle.lrs_web_replies.specs.Answers.{error_data}
use Rattle.lrs_web_replies.specs.Pages.{page_fault_text}
use Rattle.lrs_web_replies.specs.Questions.{parameter_text}
use Rattle.lrs_web_replies.specs.declared.pages.PageFault.{PageFault}
use Rattle.lrs_web_replies.specs.declared.pages.PageFault.TheVariants as fault
use Rattle.lrs_web_replies.specs.declared.question.QueryFault.{QueryFault}
use Rattle.lrs_web_replies.specs.declared.question.QueryFault.TheVariants.{Malformed, NoRoute, Memory}

-- a body with its type
abbrev pub answer_with : ℕ → ContentType → Text → Answer
answer_with status kind bytes = record { status = status; content_type = Some kind; allow = None; body = bytes }

-- these bytes are JSON
abbrev pub json_bytes : ℕ → Text → Answer
json_bytes status = answer_with status Json

abbrev pub json_answer : ℕ → Data → Answer
json_answer status d = json_bytes status (compact_text d)

-- these bytes are a picture
abbrev pub svg_answer : Text → Answer
svg_answer = answer_with 200 Svg

-- these bytes are a list, or an edit sheet
abbrev pub csv_answer : Text → Answer
csv_answer = answer_with 200 Csv

abbrev pub error_answer : ℕ → Text → Answer
error_answer status cause = json_answer status (error_data cause)

-- memory ran out, or what is kept has to be opened again
abbrev pub unavailable : Answer
unavailable = empty_answer 503

-- no such route is 404, and any other refusal 422
abbrev pub status_of : AskCause → ℕ
status_of (cause.Missing missing.Route) = 404
status_of _ = 422

abbrev pub cause_answer : Option AskCause → Answer
cause_answer None = unavailable
cause_answer (Some c) = error_answer (status_of c) (cause_text c)

-- a question is refused
abbrev pub refusal : AskFault → Answer
refusal fault = cause_answer (cause_of fault)

-- what is found is shown, or why there is nothing to show
abbrev pub shown : {A : Type 0} → (A → Data) → Result A AskFault → Answer
shown data_of (Ok found) = json_answer 200 (data_of found)
shown data_of (Err fault) = refusal fault

-- nothing is asked
abbrev pub unasked : QueryFault → Answer
unasked (Malformed p) = error_answer 400 (codes "Malformed:" ++ parameter_text p)
unasked NoRoute = error_answer 404 (codes "NoRoute")
unasked Memory = unavailable

-- no page is asked for
abbrev pub unpaged : PageFault → Answer
unpaged fault.Memory = unavailable
unpaged page = error_answer 400 (codes "Malformed:" ++ page_fault_text page)

-- a parameter of this name is not known
abbrev pub unknown_answer : Text → Answer
unknown_answer name = error_answer 400 (codes "Unknown:" ++ name)
