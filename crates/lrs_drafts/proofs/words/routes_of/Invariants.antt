use Rattle.std.proofs.Common.{map, take}
use Rattle.lrs_sheet_records.specs.Words.{AreSaid}
use Rattle.lrs_drafts.specs.Words.{SaysRoute}
use Rattle.lrs_drafts.proofs.words.routes_of.Given as goal

abbrev pub invariant-loop-word : goal.invariant-loop-word
invariant-loop-word l = AreSaid SaysRoute (map (λ w. w.now) (take l.word-index l.words)) l.routes.items
