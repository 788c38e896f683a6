use Rattle.std.proofs.Common.{◌≡◌, take, fold}
use Rattle.lrs_cli_help.specs.Options.{read_word, unread}
use Rattle.lrs_cli_help.specs.GivenWords.{reading_of}
use Rattle.lrs_cli_help.proofs.options.read_words.Given as goal

abbrev pub invariant-loop-word : goal.invariant-loop-word
invariant-loop-word l = reading_of l.words ≡ fold (λ r word. read_word r word.now) unread (take l.word-index l.given)
