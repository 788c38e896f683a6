use Rattle.std.proofs.Common.{[]}
use Rattle.lrs_cli_words.proofs.Sources.{if_none, whole}
use Rattle.lrs_cli_words.proofs.comparison.whole_source.Goals as goal

pub returns-in_err-source-clause-none : goal.returns-in_err-source-clause-none
returns-in_err-source-clause-none c =
    if_none c.from_residual-in_err-source.result (λ source e is. c.in_err-source.ensures.only source []
    (whole c.in_ok-first.first.now c.in_ok-first.others.now c.args.words.now source c.in_ok-first.ensures.cases.0 e) is)
