use Rattle.std.proofs.Common.{◌≡◌, arith, rules}
use Rattle.std.proofs.lemmas.List.Sorted.{answers_always}
use Rattle.lrs_image_sound.specs.SweptParts.{is_right}
use Rattle.lrs_image_sound.proofs.sweep.sort_by_line.Goals as goal

pub returns-clause-sorted : goal.returns-clause-sorted
returns-clause-sorted c = λ k d h. c.sort_unstable_by_key.ensures.sorted (λ p. ((p.asset, p.link, is_right p.side), p.from)) (answers_always _ (λ a r. r ≡ ((a.0.now.asset, a.0.now.link, is_right a.0.now.side), a.0.now.from)) _ (λ f a r f' q. search rules)) k d (omega arith) h
