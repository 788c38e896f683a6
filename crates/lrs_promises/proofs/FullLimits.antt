-- Limits that are full are the same.
use Rattle.std.proofs.Common.{◌≡◌, true, sym, ◌∙◌}
use Rattle.std.proofs.Math.Path.{PathP, to_path_p}
use Rattle.std.proofs.Math.Bool.{Bool-set}
use Rattle.lrs_measure.specs.Limits.{are_limits}
use Rattle.lrs_machine.specs.declared.answer.Limits.{Limits}
use Rattle.lrs_sheet.specs.Trials.{IsFull}

-- whichever proofs they fit by
bounds_alike : (a b : Limits) (routes : a.routes ≡ b.routes) (assets : a.assets ≡ b.assets) (edits : a.edits ≡ b.edits) → PathP (λ k. are_limits (routes k) (assets k) (edits k) ≡ true) a.bounds b.bounds
bounds_alike a b routes assets edits =
    to_path_p (λ k. are_limits (routes k) (assets k) (edits k) ≡ true)
    (Bool-set (are_limits b.routes b.assets b.edits) true (coe 0 1 (k. are_limits (routes k) (assets k) (edits k) ≡ true) a.bounds) b.bounds)

same_limits : (a b : Limits) → a.routes ≡ b.routes → a.assets ≡ b.assets → a.edits ≡ b.edits → a ≡ b
same_limits a b routes assets edits = λ j. record { routes = routes j; assets = assets j; edits = edits j; bounds = bounds_alike a b routes assets edits j }

pub full_alike : (a b : Limits) → IsFull a → IsFull b → a ≡ b
full_alike a b one two = same_limits a b (one.routes ∙ sym two.routes) (one.assets ∙ sym two.assets) (one.edits ∙ sym two.edits)
