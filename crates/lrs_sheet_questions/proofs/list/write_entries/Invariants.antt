use Rattle.std.proofs.Common.{[]}
use Rattle.lrs_sheet_questions.specs.Entries.{front_of}
use Rattle.lrs_sheet_questions.specs.Kinds.{entry_word}
use Rattle.lrs_sheet_questions.specs.Story.{story_of}
use Rattle.lrs_sheet_questions.proofs.list.write_entries.Given as goal

abbrev pub ghost-new : goal.ghost-new
ghost-new g a = []

abbrev pub ghost-given_to : goal.ghost-given_to
ghost-given_to g a =
    let entries = a._entries.now in
    story_of entries.to.ghost_name (g.W.Write.contents entries.to.now) (front_of entries.key (entry_word entries.kind)) []
