use Rattle.std.proofs.Common.{◌≡◌, map, take}
use Rattle.lrs_cli_words.proofs.question.classes_of.Given as goal

abbrev pub invariant-loop-text : goal.invariant-loop-text
invariant-loop-text l = l.names.items ≡ map (λ t. t.now) (take l.text-index l.texts)
