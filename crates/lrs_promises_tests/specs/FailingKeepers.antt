-- What is seen of a keeper in memory whose device fails.
use Rattle.std.specs.Prelude.{ℕ}
use Rattle.lrs_desk.specs.PlainKeeper.{PlainView}
use Rattle.lrs_promises_tests.specs.declared.keeper.Failure.{Failure}

pub record FailingView : Type 0 where
  pub plain : PlainView
  -- how many loads and commits it still does
  pub loads : ℕ
  pub commits : ℕ
  pub failure : Failure
  pub failures : ℕ
