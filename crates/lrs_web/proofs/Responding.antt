-- From what a task asks for to what the input asks for.
use Rattle.std.proofs.Common.{ℕ, ◌≡◌, ◌⊎◌, List, Option, None, Some, IfSome, Result, Ok, Err, IfOk, inl, inr, refl}
use Rattle.lrs_machine.specs.declared.image.Image.{Image}
use Rattle.lrs_machine.specs.declared.table.Table.{Table}
use Rattle.lrs_sheet.specs.DeskView.{DeskView}
use Rattle.lrs_web_requests.specs.Request.{Asked, Asks, refused}
use Rattle.lrs_web_requests.specs.Text.{Answer, empty_answer}
use Rattle.lrs_web.specs.declared.request.WebFault.{WebFault}
use Rattle.lrs_web.specs.RequestAnswers.{Does, Responds, Serves, Writes}

-- what is written once a task was done is the response to it
pub responded : {K : Type 0} (holds : K → Result Image Table → Type 0) (w v : Option (List ℕ)) (asked : Asked) (old new : DeskView K) (due : Answer) (r : Result ℕ WebFault)
    → Does holds asked old due new
    → IfOk r (λ status. (answer : Answer) × ((answer ≡ due) ⊎ (answer ≡ empty_answer 503)) × Writes w v status answer)
    → IfOk r (λ status. (answer : Answer) × Writes w v status answer × Responds holds asked old answer new)
responded holds w v asked old new due (Ok status) does (answer, given, writes) = (answer, writes, (due, does, given))
responded holds w v asked old new due (Err fault) does written = tt

serves : {K : Type 0} (holds : K → Result Image Table → Type 0) (a : Option (List ℕ)) (asked : Asked) (old new : DeskView K) (answer : Answer)
    → IfSome a (λ input. Asks input asked) → Responds holds asked old answer new → IfSome a (λ input. Serves holds input old answer new)
serves holds None asked old new answer asks done = tt
serves holds (Some input) asked old new answer asks done = inl (asked, asks, done)

pub serves_ok : {K : Type 0} (holds : K → Result Image Table → Type 0) (a w v : Option (List ℕ)) (asked : Asked) (old new : DeskView K) (r : Result ℕ WebFault)
    → IfSome a (λ input. Asks input asked)
    → IfOk r (λ status. (answer : Answer) × Writes w v status answer × Responds holds asked old answer new)
    → IfOk r (λ status. (answer : Answer) × Writes w v status answer × IfSome a (λ input. Serves holds input old answer new))
serves_ok holds a w v asked old new (Ok status) asks done = (done.0, done.1, serves holds a asked old new done.0 asks done.2)
serves_ok holds a w v asked old new (Err fault) asks done = tt

pub serves_done : {K : Type 0} (holds : K → Result Image Table → Type 0) (a : Option (List ℕ)) (asked : Asked) (old new : DeskView K)
    → IfSome a (λ input. Asks input asked) → (due : Answer) × Does holds asked old due new
    → IfSome a (λ input. (answer : Answer) × Serves holds input old answer new)
serves_done holds None asked old new asks done = tt
serves_done holds (Some input) asked old new asks done = (done.0, inl (asked, asks, (done.0, done.1, inl refl)))

pub unserved : {K : Type 0} (holds : K → Result Image Table → Type 0) (a : Option (List ℕ)) (desk : DeskView K)
    → IfSome a (λ input. (answer : Answer) × Serves holds input desk answer desk)
unserved holds None desk = tt
unserved holds (Some input) desk = (empty_answer 503, inr (refl, refl))

-- a refusal for lack of memory, as a request that is answered so
pub refused_ok : {K : Type 0} (holds : K → Result Image Table → Type 0) (w v : Option (List ℕ)) (desk : DeskView K) (r : Result ℕ WebFault) → IfOk r (λ status. Writes w v status (empty_answer 503))
    → IfOk r (λ status. (asked : Asked) × (answer : Answer) × Writes w v status answer × Responds holds asked desk answer desk)
refused_ok holds w v desk (Ok status) writes = (refused 503, empty_answer 503, writes, (empty_answer 503, (refl, refl), inl refl))
refused_ok holds w v desk (Err fault) writes = tt

-- a request that is responded to is some request
pub some_asked : {K : Type 0} (holds : K → Result Image Table → Type 0) (w v : Option (List ℕ)) (asked : Asked) (old new : DeskView K) (r : Result ℕ WebFault)
    → IfOk r (λ status. (answer : Answer) × Writes w v status answer × Responds holds asked old answer new)
    → IfOk r (λ status. (asked : Asked) × (answer : Answer) × Writes w v status answer × Responds holds asked old answer new)
some_asked holds w v asked old new (Ok status) done = (asked, done.0, done.1, done.2)
some_asked holds w v asked old new (Err fault) done = tt

pub nothing_done : {K : Type 0} (holds : K → Result Image Table → Type 0) (desk : DeskView K) → (asked : Asked) × (due : Answer) × Does holds asked desk due desk
nothing_done holds desk = (refused 503, empty_answer 503, (refl, refl))
