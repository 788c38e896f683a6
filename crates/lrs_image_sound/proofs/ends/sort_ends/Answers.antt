use Rattle.std.proofs.Common.{◌≡◌, arith, rules}
use Rattle.std.proofs.lemmas.List.Sorted.{answers_always}
use Rattle.lrs_image_sound.proofs.ends.sort_ends.Goals as goal

pub returns-clause-sorted : goal.returns-clause-sorted
returns-clause-sorted c = λ k d h. c.sort_unstable_by_key.ensures.sorted (λ e. ((e.asset, e.link, e.right), e.mm)) (answers_always _ (λ a r. r ≡ ((a.0.now.asset, a.0.now.link, a.0.now.right), a.0.now.mm)) _ (λ f a r f' q. search rules)) k d (omega arith) h
