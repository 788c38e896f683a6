-- What is read of the words of the program, as its code has it.
use Rattle.std.specs.Prelude.{map, option_map}
use Rattle.lrs_cli_help.specs.Options.{Reading}
use Rattle.lrs_cli_help.specs.declared.options.GivenWords.{GivenWords}

abbrev pub reading_of : GivenWords → Reading
reading_of w =
    record { words = map (λ word. word.now) w.words.items; wait = option_map (λ text. text.now) w.wait; expected = option_map (λ text. text.now) w.expected; next = w.next }
