use Rattle.std.proofs.Common.{◌≡◌}
use Rattle.form_urlencoded.specs.Parse.{pairs_left}
use Rattle.lrs_web_requests.specs.Query.{first_value, parameter}
use Rattle.lrs_web_requests.proofs.query.value_of.Given as goal

-- the value is that of what is left
abbrev pub invariant-loop-pair : goal.invariant-loop-pair
invariant-loop-pair l = first_value l.name (pairs_left l.pair-iterator) ≡ parameter l.name l.query
