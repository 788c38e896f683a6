use Rattle.std.proofs.Common.{◌≡◌, length}
use Rattle.std.specs.List.{list_all}
use Rattle.lrs_sheet_records.specs.Words.{parts_of}
use Rattle.lrs_drafts.specs.Drafts.{begins_so}
use Rattle.lrs_drafts.specs.Fronts.{texts_of}
use Rattle.lrs_drafts.proofs.fronts.all_begin_so.Given as goal

abbrev pub invariant-lines : goal.invariant-lines
invariant-lines l = list_all (begins_so (texts_of l.fronts)) (parts_of 10 l.text) ≡ list_all (begins_so (texts_of l.fronts)) (parts_of 10 l.rest)

abbrev pub decreases-lines : goal.decreases-lines
decreases-lines l = length l.rest
