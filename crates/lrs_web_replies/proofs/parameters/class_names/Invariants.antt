use Rattle.std.proofs.Common.{◌≡◌, map, take, true}
use Rattle.std.specs.List.{list_all}
use Rattle.std.specs.Cow.{cow_str_bytes}
use Rattle.lrs_events.specs.Names.{is_class_name}
use Rattle.lrs_web_replies.proofs.parameters.class_names.Given as goal

-- the names are the texts that were gone through, and each is the name of a class
abbrev pub invariant-loop-text : goal.invariant-loop-text
invariant-loop-text l =
    (l.names.items ≡ map cow_str_bytes (take l.text-index l.texts))
    × (list_all is_class_name (map cow_str_bytes (take l.text-index l.texts)) ≡ true)
