-- What an opening that only looks has found.
use Rattle.std.proofs.Common.{◌≡◌, Option, Some, subst}
use Rattle.std.specs.Prelude.{IfSome}

-- what is said of a value that may be there is so of it where it is there
pub of_some : {A : Type 0} (P : A → Type 0) (found : Option A) (x : A) → found ≡ Some x → IfSome found P → P x
of_some P found x is said = subst (λ o. IfSome o P) is said
