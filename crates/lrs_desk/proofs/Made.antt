-- What a change that was made leaves, by cases of whether it was.
use Rattle.std.proofs.Common.{◌≡◌, Result, Ok, Err, IfOk, OnOk, ap, sym, ◌∙◌}
use Rattle.lrs_machine.specs.declared.answer.Answer.{Answer}
use Rattle.lrs_machine.specs.declared.image.Image.{Image}
use Rattle.lrs_machine.specs.declared.table.Table.{Table}
use Rattle.lrs_image.specs.KeeperCalls.{HoldsOnly}
use Rattle.lrs_machine.specs.declared.stops.fault.Fault.{Fault}

pub if_ok : {P Q : Answer → Type 0} (made : Result Answer Fault) → ((a : Answer) → P a → Q a) → IfOk made P → IfOk made Q
if_ok (Ok a) f h = f a h
if_ok (Err fault) f h = tt

pub on_ok : {P Q : Type 0} (made : Result Answer Fault) → (P → Q) → OnOk made P → OnOk made Q
on_ok (Ok a) f h = f h
on_ok (Err fault) f h = tt

pub on_any : {P : Type 0} (made : Result Answer Fault) → P → OnOk made P
on_any (Ok a) h = h
on_any (Err fault) h = tt

-- What may be found is the image that was made.
pub kept_then : (may : Result Image Table → Type 0) (new next : Image) (made : Result Answer Fault) → OnOk made (new ≡ next) → OnOk made (HoldsOnly may next) → OnOk made (HoldsOnly may new)
kept_then may new next (Ok a) is kept = λ c h. kept c h ∙ ap (λ (i : Image). let r : Result Image Table = Ok i in r) (sym is)
kept_then may new next (Err fault) is kept = tt
