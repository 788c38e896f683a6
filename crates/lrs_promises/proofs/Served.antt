-- A request whose reply is no 503 is done, and answered.
use Rattle.std.proofs.Common.{◌≡◌, inl, inr, ℕ, [], Some, Result, sym, ap, subst, ◌∙◌}
use Rattle.lrs_machine.specs.Lines.{Text}
use Rattle.lrs_machine.specs.declared.image.Image.{Image}
use Rattle.lrs_machine.specs.declared.table.Table.{Table}
use Rattle.lrs_desk.specs.DeskView.{DeskView}
use Rattle.lrs_web_requests.specs.Text.{Answer, empty_answer}
use Rattle.lrs_web.specs.RequestAnswers.{Does, Serves, Writes}
use Rattle.lrs_promises.specs.Calls.{DidRequest}

unavailable : (status : ℕ) (answer : Answer) → status ≡ answer.status → answer ≡ empty_answer 503 → status ≡ 503
unavailable status answer is empty = is ∙ ap (λ (a : Answer). a.status) empty

pub did_request : {K : Type 0} (holds : K → Result Image Table → Type 0) (input written : Text) (old new : DeskView K) (status : ℕ) (answer : Answer) → (status ≡ 503 → ⊥)
    → Writes (Some []) (Some written) status answer → Serves holds input old answer new → DidRequest holds input written old new
did_request holds input written old new status answer well (is, wrote) (inl (asked, asks, (due, does, inl same))) = record {
  asked = asked;
  answer = answer;
  asks = asks;
  does = subst (λ a. Does holds asked old a new) (sym same) does;
  served = λ e. well (is ∙ e);
  replied = wrote;
}
did_request holds input written old new status answer well (is, wrote) (inl (asked, asks, (due, does, inr empty))) = absurd (well (unavailable status answer is empty))
did_request holds input written old new status answer well (is, wrote) (inr (empty, same)) = absurd (well (unavailable status answer is empty))
