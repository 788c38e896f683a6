use Rattle.std.proofs.Common.{◌≡◌, map, take}
use Rattle.std.specs.Cow.{cow_str_bytes}
use Rattle.std.specs.List.{flat_map}
use Rattle.lrs_web_requests.specs.Query.{parameters}
use Rattle.lrs_web.proofs.draft_form.values_by.Given as goal

-- the values of the names that were gone through
abbrev pub invariant-loop-name : goal.invariant-loop-name
invariant-loop-name l = map cow_str_bytes l.words.items ≡ flat_map (λ name. parameters name.now l.form) (take l.name-index l.names)
