-- Stops: no acknowledged command is lost, and none is doubled.
use Rattle.lrs_machine.specs.Stop.Laws.{AgainWhereKept, AllAgainWhereKept, AnswersAreOfFold, NoneIsDoubled, NoneIsLost, StoredIsFold, StoredIsLawful}
use Rattle.lrs_machine.specs.Stop.Resumptions.{NewKeysGoOn}

-- What is so of every run that stops, wherever it does.
pub record LoseNoneAndDoubleNone : Type 0 where
  -- an opening finds what the commands make that were answered, with all of those in flight or none
  pub stored : StoredIsFold
  -- each answer was the ground machine's
  pub answers : AnswersAreOfFold
  -- the one in flight, sent first, is answered `Again` exactly where it had been kept, and all else is as without a stop
  pub one_in_flight : AgainWhereKept
  pub several_in_flight : AllAgainWhereKept
  -- a command that was answered as an edit is that edit from then on, and no two edits have one key
  pub none_lost : NoneIsLost
  pub none_doubled : NoneIsDoubled
  pub lawful : StoredIsLawful
  -- where keys are new, going on behind the last record that is an edit is as without a stop
  pub going_on : NewKeysGoOn
