use Rattle.std.proofs.Common.{◌≡◌, ◌++◌, map}
use Rattle.std.specs.Cow.{cow_str_bytes}
use Rattle.form_urlencoded.specs.Parse.{pairs_left}
use Rattle.lrs_web_requests.specs.Query.{all_values, parameters}
use Rattle.lrs_web_requests.proofs.query.values_of.Given as goal

-- the values so far and those of what is left
abbrev pub invariant-loop-pair : goal.invariant-loop-pair
invariant-loop-pair l = map cow_str_bytes l.values.items ++ all_values l.name (pairs_left l.pair-iterator) ≡ parameters l.name l.query
