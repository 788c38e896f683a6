use Rattle.std.proofs.Common.{rules, ◌≡◌, length, codes}
use Rattle.lrs_cli_words.proofs.Sources.{alone}
use Rattle.lrs_cli_words.proofs.comparison.front_source.Goals as goal

pub returns-in-None-clause-only : goal.returns-in-None-clause-only
returns-in-None-clause-only c source behind e is =
    let none : length c.args.others.now ≡ 0 = search rules in
    let log : c.args.first.now ≡ codes ":log" = search rules in
    alone c.args.first.now c.args.others.now behind source log none is e
