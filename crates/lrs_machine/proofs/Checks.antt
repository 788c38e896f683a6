-- What a row of checks gives has what its last step gives, where each check before it passed.
use Rattle.std.proofs.Common.{◌≡◌, Bool, true, false, Option, Some, None, Ok, Err, refl}
use Rattle.std.specs.Prelude.{Result, IfOk}
use Rattle.std.specs.Option.{ok_or}
use Rattle.lrs_machine.specs.declared.answer.Cause.{Cause}
use Rattle.lrs_machine.specs.Machine.{◌>>=◌, ◌>>◌, refuse_if, refuse_at}

-- whatever a check found, the step after it counts
pub behind : {A B : Type 0} (P : B → Type 0) (r : Result A Cause) (q : Result B Cause) → IfOk q P → IfOk (r >> q) P
behind P (Ok x) q h = h
behind P (Err c) q h = tt

-- a step takes what the check before it gave
pub bind : {A B : Type 0} (P : B → Type 0) (r : Result A Cause) (f : A → Result B Cause) → ((x : A) → r ≡ Ok x → IfOk (f x) P) → IfOk (r >>= f) P
bind P (Ok x) f h = h x refl
bind P (Err c) f h = tt

-- a step takes what is known of what the check before it gave
pub bind_known : {A B : Type 0} (P : B → Type 0) (Q : A → Type 0) (r : Result A Cause) (f : A → Result B Cause) → IfOk r Q → ((x : A) → Q x → IfOk (f x) P) → IfOk (r >>= f) P
bind_known P Q (Ok x) f is h = h x is
bind_known P Q (Err c) f is h = tt

-- behind a test that fails
pub unless : {B : Type 0} (P : B → Type 0) (b : Bool) (c : Cause) (q : Result B Cause) → (b ≡ false → IfOk q P) → IfOk (refuse_if b c >> q) P
unless P true c q h = tt
unless P false c q h = h refl

-- behind a search that finds nothing
pub unless_at : {A B : Type 0} (P : B → Type 0) (o : Option A) (c : A → Cause) (q : Result B Cause) → (o ≡ None → IfOk q P) → IfOk (refuse_at o c >> q) P
unless_at P None c q h = h refl
unless_at P (Some x) c q h = tt

-- what is given was there
pub given : {A : Type 0} (o : Option A) (c : Cause) (x : A) → ok_or o c ≡ Ok x → o ≡ Some x
given (Some y) c x is = cc
given None c x is = absurd (cc)
