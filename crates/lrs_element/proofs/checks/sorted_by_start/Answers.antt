use Rattle.std.proofs.Common.{◌≡◌, arith, rules}
use Rattle.std.proofs.lemmas.List.Sorted.{answers_always}
use Rattle.lrs_element.proofs.Apart.{in_order}
use Rattle.lrs_element.proofs.checks.sorted_by_start.Goals as goal

pub returns-clause-sorted : goal.returns-clause-sorted
returns-clause-sorted c = λ k d h. in_order _ _ (c.sort_unstable_by_key.ensures.sorted (λ p. (p.link, p.from)) (answers_always _ (λ a r. r ≡ (a.0.now.link, a.0.now.from)) _ (λ f a r f' q. search rules)) k d (omega arith) h)
