use Rattle.std.proofs.Common.{length}
use Rattle.lrs_cli_words.proofs.ClassesNamed.{HasRead}
use Rattle.lrs_cli_words.proofs.lists.named_classes.Given as goal

abbrev pub invariant-names : goal.invariant-names
invariant-names l = HasRead l.text l.rest l.classes.items

abbrev pub decreases-names : goal.decreases-names
decreases-names l = length l.rest
