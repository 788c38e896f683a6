-- What is asked by a head that was read, and by what is left of the input.
use Rattle.std.proofs.Common.{ℕ, List, ◌++◌, Option, Some, None, Result, IfSome, IfOk, sym, subst, inr}
use Rattle.std.proofs.lemmas.Result.{IfOk-weaker}
use Rattle.std.specs.Io.KnownBytes.{Consumes}
use Rattle.httparse.specs.Grammar.{RequestHead}
use Rattle.lrs_web_requests.specs.declared.request.Request.{Request}
use Rattle.lrs_web_requests.specs.Request.{Asked, AsksByHead, AsksWith, asked_by}

-- what the head and the rest ask for is asked by the whole input
asks_read : (shown a b : Option (List ℕ)) (text : List ℕ) (asked : Asked) → Consumes a b text
    → IfSome b (λ more. (h : RequestHead) × (rest : List ℕ) × AsksByHead shown (text ++ more) asked h rest) → IfSome a (λ input. AsksWith shown input asked)
asks_read shown None b text asked consumed by = tt
asks_read shown (Some x) None text asked consumed by = absurd consumed
asks_read shown (Some x) (Some y) text asked consumed by =
    subst (λ input. AsksWith shown input asked) (sym consumed) (inr (inr by))

pub received : {E : Type 0} (result : Result Request E) (shown a b : Option (List ℕ)) (text : List ℕ) → Consumes a b text
    → IfOk result (λ task. IfSome b (λ more. (h : RequestHead) × (rest : List ℕ) × AsksByHead shown (text ++ more) (asked_by task) h rest))
    → IfOk result (λ task. IfSome a (λ input. AsksWith shown input (asked_by task)))
received result shown a b text consumed by = IfOk-weaker result _ _ (λ task asked. asks_read shown a b text (asked_by task) consumed asked) by
