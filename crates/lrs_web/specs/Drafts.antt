-- What a form over HTTP is answered that says what a sheet is drafted for.
use Rattle.std.specs.Prelude.{◌≡◌, ◌⊎◌, true, MatchOption}
use Rattle.lrs_machine.specs.Lines.{Text}
use Rattle.lrs_machine.specs.declared.image.Image.{Image}
use Rattle.lrs_drafts.specs.Drafts.{IsDraft}
use Rattle.lrs_drafts.specs.declared.draft.Draft.{Draft}
use Rattle.lrs_drafts.specs.declared.fault.DraftFault.{DraftFault}
use Rattle.lrs_drafts.specs.declared.fault.DraftFault.TheVariants as fault
use Rattle.lrs_sheet.specs.DeskView.{DeskView}
use Rattle.lrs_web_requests.specs.Query.{unknown_name}
use Rattle.lrs_web_requests.specs.Text.{Answer, empty_answer}
use Rattle.lrs_web_requests.specs.declared.paths.DraftKind.{DraftKind}
use Rattle.lrs_web_replies.specs.DraftFaults.{bad_draft, not_drafted}
use Rattle.lrs_web_replies.specs.Replies.{csv_answer, unknown_answer}
use Rattle.lrs_web.specs.DraftForms.{SaysForm, knows}

-- the reply where there is no draft
abbrev pub undrafted : DraftFault → Answer
undrafted (fault.Unreadable why) = bad_draft why.now
undrafted (fault.Impossible why) = not_drafted why.now
undrafted fault.Memory = empty_answer 503

-- What a form is answered whose parameters the kind knows: a sheet that does what it says, or why there is none. When there is none, and which sentence says so, nothing says.
abbrev pub AnswersForm : DraftKind → Image → Text → Answer → Type 0
AnswersForm kind i form answer =
    ((draft : Draft) × (sheet : Text) × SaysForm kind form draft × IsDraft draft i sheet × (answer ≡ csv_answer sheet))
    ⊎ ((fault : DraftFault) × (answer ≡ undrafted fault))

-- What a form is answered. A parameter that the kind does not know is told before any other fault.
abbrev pub RepliesToDraft : DraftKind → Image → Text → Answer → Type 0
RepliesToDraft kind i form answer = MatchOption (unknown_name (knows kind) form) (AnswersForm kind i form answer) (λ name. answer ≡ unknown_answer name)

-- A sheet is drafted for a desk, which is left as it is. It has an empty 503 where memory runs out, or the reply would have more bytes than it may, and once a commit of several commands has failed: the image may be ahead of what is kept then.
abbrev pub AnswersDraft : {K : Type 0} → DraftKind → Text → DeskView K → Answer → DeskView K → Type 0
AnswersDraft kind form old answer new =
    (new ≡ old) × (RepliesToDraft kind old.image form answer ⊎ (answer ≡ empty_answer 503)) × (old.is_ahead ≡ true → answer ≡ empty_answer 503)
