use Rattle.std.proofs.Common.{inl, refl, sym, subst}
use Rattle.lrs_store.specs.declared.files.Left.TheVariants as left
use Rattle.lrs_store.specs.Refusals.{IsHandedOn}
use Rattle.lrs_store.proofs.files.not_opened.Goals as goal

pub returns-in-Store-Some-clause-still : goal.returns-in-Store-Some-clause-still
returns-in-Store-Some-clause-still g c = subst (λ o. IsHandedOn o (left.Untaken c.judge_left-fault.new.left)) (sym c.in-Store-Some.is-1) (c.judge_left-fault.new.left, refl, c.judge_left-fault.ensures.still)

pub returns-in-Memory-Some-clause-still : goal.returns-in-Memory-Some-clause-still
returns-in-Memory-Some-clause-still g c = subst (λ o. IsHandedOn o (left.Untaken c.in-Memory-Some.left)) (sym c.in-Memory-Some.is-1) (c.in-Memory-Some.left, refl, inl refl)
