-- A reply to what is asked, or to what asks for nothing.
use Rattle.std.proofs.Common.{◌≡◌, ◌⊎◌, Option, None, Some, Result, Ok, Err, IfOk, IfErr, inl, inr, subst, sym}
use Rattle.std.specs.Prelude.{MatchOption}
use Rattle.lrs_machine.specs.declared.image.Image.{Image}
use Rattle.lrs_machine.specs.declared.question.Question.{Question}
use Rattle.lrs_machine.specs.Lines.{Text}
use Rattle.lrs_report_answers.specs.declared.fault.AskFault.{AskFault}
use Rattle.lrs_report_answers.specs.declared.told.Told.{Told}
use Rattle.lrs_report_answers.specs.ToldAnswers.{IsTold}
use Rattle.lrs_web_requests.specs.Text.{Answer, answer_of, empty_answer}
use Rattle.lrs_web_requests.specs.declared.paths.Format.{Format}
use Rattle.lrs_web_requests.specs.declared.paths.Resource.{Resource}
use Rattle.lrs_web_requests.specs.declared.response.Response.{Response}
use Rattle.lrs_web_replies.specs.Pages.{CannotPage, GivesPage, key_of, unknown_in}
use Rattle.lrs_web_replies.specs.Questions.{AsksOf, CannotAsk}
use Rattle.lrs_web_replies.specs.declared.pages.Page.{Page}
use Rattle.lrs_web_replies.specs.declared.pages.PageFault.{PageFault}
use Rattle.lrs_web_replies.specs.declared.question.QueryFault.{QueryFault}
use Rattle.lrs_web_replies.specs.QuestionAnswers.{IsReplyTo}
use Rattle.lrs_web_replies.specs.Replies.{unasked, unknown_answer, unpaged}
use Rattle.lrs_web.specs.QueryAnswers.{AnswersAsked, AnswersKnown, AnswersPage}

pub answered : {E : Type 0} (i : Image) (format : Format) (page : Page) (resource : Resource) (argument : Text) (asked : Result Question QueryFault) (q : Question) (said : Result Told AskFault) (r : Result Response E)
    → asked ≡ Ok q → IfOk asked (AsksOf resource argument) → IsTold i q said → IfOk r (λ reply. IsReplyTo format page said (answer_of reply))
    → IfOk r (λ reply. AnswersPage i format page resource argument (answer_of reply))
answered i format page resource argument asked q said (Ok reply) is asks told shows = inl (q, subst (λ a. IfOk a (AsksOf resource argument)) is asks, (said, told, shows))
answered i format page resource argument asked q said (Err e) is asks told shows = tt

pub refused : {E : Type 0} (i : Image) (format : Format) (page : Page) (resource : Resource) (argument : Text) (asked : Result Question QueryFault) (fault : QueryFault) (r : Result Response E)
    → asked ≡ Err fault → IfErr asked (CannotAsk resource argument) → IfOk r (λ reply. answer_of reply ≡ unasked fault)
    → IfOk r (λ reply. AnswersPage i format page resource argument (answer_of reply))
refused i format page resource argument asked fault (Ok reply) is cannot answers = inr (fault, subst (λ a. IfErr a (CannotAsk resource argument)) is cannot, answers)
refused i format page resource argument asked fault (Err e) is cannot answers = tt

-- the page is given
pub page_answered : {E : Type 0} (i : Image) (format : Format) (resource : Resource) (argument : Text) (given : Result Page PageFault) (page : Page) (r : Result Response E)
    → given ≡ Ok page → IfOk given (GivesPage (key_of format resource argument) argument) → IfOk r (λ reply. AnswersPage i format page resource argument (answer_of reply))
    → IfOk r (λ reply. AnswersKnown i format resource argument (answer_of reply))
page_answered i format resource argument given page (Ok reply) is gives answers = inl (page, subst (λ g. IfOk g (GivesPage (key_of format resource argument) argument)) is gives, answers)
page_answered i format resource argument given page (Err e) is gives answers = tt

-- or why it is not
pub page_refused : {E : Type 0} (i : Image) (format : Format) (resource : Resource) (argument : Text) (given : Result Page PageFault) (fault : PageFault) (r : Result Response E)
    → given ≡ Err fault → IfErr given (CannotPage (key_of format resource argument) argument) → IfOk r (λ reply. answer_of reply ≡ unpaged fault)
    → IfOk r (λ reply. AnswersKnown i format resource argument (answer_of reply))
page_refused i format resource argument given fault (Ok reply) is cannot answers = inr (fault, subst (λ g. IfErr g (CannotPage (key_of format resource argument) argument)) is cannot, answers)
page_refused i format resource argument given fault (Err e) is cannot answers = tt

-- all parameters are known
pub all_known : {E : Type 0} (i : Image) (format : Format) (resource : Resource) (argument : Text) (r : Result Response E) → None ≡ unknown_in format resource argument → IfOk r (λ reply. AnswersKnown i format resource argument (answer_of reply))
    → IfOk r (λ reply. AnswersAsked i format resource argument (answer_of reply))
all_known i format resource argument (Ok reply) none known = subst (λ (o : Option Text). MatchOption o (AnswersKnown i format resource argument (answer_of reply)) (λ name. answer_of reply ≡ unknown_answer name)) none known
all_known i format resource argument (Err e) none known = tt

-- the first that is not is told
pub one_unknown : {E : Type 0} (i : Image) (format : Format) (resource : Resource) (argument name : Text) (r : Result Response E) → Some name ≡ unknown_in format resource argument → IfOk r (λ reply. answer_of reply ≡ unknown_answer name)
    → IfOk r (λ reply. AnswersAsked i format resource argument (answer_of reply))
one_unknown i format resource argument name (Ok reply) some tells = subst (λ (o : Option Text). MatchOption o (AnswersKnown i format resource argument (answer_of reply)) (λ name. answer_of reply ≡ unknown_answer name)) some tells
one_unknown i format resource argument name (Err e) some tells = tt

-- a reply that may have given way to an empty 503
pub given_way : (i : Image) (format : Format) (resource : Resource) (argument : Text) (due given : Answer) → AnswersAsked i format resource argument due → (given ≡ due) ⊎ (given ≡ empty_answer 503)
    → AnswersAsked i format resource argument given ⊎ (given ≡ empty_answer 503)
given_way i format resource argument due given asked (inl same) = inl (subst (λ a. AnswersAsked i format resource argument a) (sym same) asked)
given_way i format resource argument due given asked (inr empty) = inr empty
