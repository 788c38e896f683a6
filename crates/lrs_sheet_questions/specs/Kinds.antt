-- The words of the lists that a sheet asks for.
use Rattle.std.specs.Prelude.{codes}
use Rattle.lrs_machine.specs.Lines.{Text}
use Rattle.lrs_sheet_questions.specs.declared.kind.ListKind.{ListKind}
use Rattle.lrs_sheet_questions.specs.declared.kind.ListKind.TheVariants as kind

-- the word of a list, and that of each entry
abbrev pub list_word : ListKind → Text
list_word kind.Rows = codes "rows"
list_word kind.Overlay = codes "overlay"
list_word kind.Lengths = codes "lengths"
list_word kind.History = codes "history"

abbrev pub entry_word : ListKind → Text
entry_word kind.Rows = codes "row"
entry_word kind.Overlay = codes "segment"
entry_word kind.Lengths = codes "length"
entry_word kind.History = codes "event"
