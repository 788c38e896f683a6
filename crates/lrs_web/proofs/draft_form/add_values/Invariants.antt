use Rattle.std.proofs.Common.{◌≡◌, ◌++◌, map}
use Rattle.std.specs.Cow.{cow_str_bytes}
use Rattle.lrs_web_requests.specs.Query.{parameters}
use Rattle.lrs_web.proofs.draft_form.add_values.Given as goal

-- the words so far, and those of what is left
abbrev pub invariant-loop-value : goal.invariant-loop-value
invariant-loop-value l =
    map cow_str_bytes l.words.items ++ map cow_str_bytes l.value-iterator.rest.items
    ≡ map cow_str_bytes l.fn.words.items ++ parameters l.name l.form
