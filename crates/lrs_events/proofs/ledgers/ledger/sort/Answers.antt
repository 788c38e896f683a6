use Rattle.std.proofs.Common.{◌≡◌, ◌+◌, ◌∙◌, arith, rules, get_or}
use Rattle.std.proofs.lemmas.List.Sorted.{answers_always}
use Rattle.lrs_events.specs.Parts.{side_number}
use Rattle.lrs_events.proofs.Ledger.Keys.{same_order}
use Rattle.lrs_events.proofs.ledgers.ledger.sort.Goals as goal

pub returns-clause-order : goal.returns-clause-order
returns-clause-order c = λ k d h.
    same_order (get_or c.sort_unstable_by_key.new.self.items (k + 1) d) (get_or c.sort_unstable_by_key.new.self.items k d)
    ∙ c.sort_unstable_by_key.ensures.sorted (λ p. ((p.edit, p.asset, p.link), (p.from, side_number p.side)))
    (answers_always _ (λ a r. r ≡ ((a.0.now.edit, a.0.now.asset, a.0.now.link), (a.0.now.from, side_number a.0.now.side))) _ (λ f a r f' q. search rules)) k d (omega arith) h
