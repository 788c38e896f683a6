-- What a query is answered, for the image that is kept: the question that it asks, or why nothing is asked.
use Rattle.std.specs.Prelude.{◌≡◌, ◌⊎◌, MatchOption}
use Rattle.lrs_machine.specs.Lines.{Text}
use Rattle.lrs_machine.specs.declared.image.Image.{Image}
use Rattle.lrs_machine.specs.declared.question.Question.{Question}
use Rattle.lrs_web_requests.specs.Text.{Answer}
use Rattle.lrs_web_requests.specs.declared.paths.Format.{Format}
use Rattle.lrs_web_requests.specs.declared.paths.Resource.{Resource}
use Rattle.lrs_web_replies.specs.QuestionAnswers.{AnswersQuestion}
use Rattle.lrs_web_replies.specs.Pages.{CannotPage, GivesPage, key_of, unknown_in}
use Rattle.lrs_web_replies.specs.Questions.{AsksOf, CannotAsk}
use Rattle.lrs_web_replies.specs.Replies.{unasked, unknown_answer, unpaged}
use Rattle.lrs_web_replies.specs.declared.pages.Page.{Page}
use Rattle.lrs_web_replies.specs.declared.pages.PageFault.{PageFault}
use Rattle.lrs_web_replies.specs.declared.question.QueryFault.{QueryFault}

-- What a resource answers to an argument with a page: the question that it asks, or why it asks for nothing.
abbrev pub AnswersPage : Image → Format → Page → Resource → Text → Answer → Type 0
AnswersPage i format page resource argument answer =
    ((q : Question) × AsksOf resource argument q × AnswersQuestion format page i q answer)
    ⊎ ((fault : QueryFault) × CannotAsk resource argument fault × (answer ≡ unasked fault))

-- What it answers to an argument whose parameters it knows: with the page that the argument gives, or why it gives none.
abbrev pub AnswersKnown : Image → Format → Resource → Text → Answer → Type 0
AnswersKnown i format resource argument answer =
    ((page : Page) × GivesPage (key_of format resource argument) argument page × AnswersPage i format page resource argument answer)
    ⊎ ((fault : PageFault) × CannotPage (key_of format resource argument) argument fault × (answer ≡ unpaged fault))

-- What a resource answers to an argument. A parameter that it does not know is told before any other fault.
abbrev pub AnswersAsked : Image → Format → Resource → Text → Answer → Type 0
AnswersAsked i format resource argument answer =
    MatchOption (unknown_in format resource argument) (AnswersKnown i format resource argument answer) (λ name. answer ≡ unknown_answer name)
