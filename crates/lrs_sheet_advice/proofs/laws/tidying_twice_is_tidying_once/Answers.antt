use Rattle.lrs_sheet_advice.proofs.laws.tidying_twice_is_tidying_once.Goals as goal

pub returns : goal.returns
returns c kind text once twice first second = second.same first.tidy
