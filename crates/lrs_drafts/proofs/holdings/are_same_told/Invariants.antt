use Rattle.std.proofs.Common.{◌≡◌, take}
use Rattle.lrs_sheet_log.specs.Differences.{AreEach}
use Rattle.lrs_drafts.proofs.holdings.are_same_told.Given as goal

abbrev pub invariant-loop-place : goal.invariant-loop-place
invariant-loop-place l = AreEach (λ a b. a ≡ b) (take l.place l.one) (take l.place l.other)
