-- The lists that a sheet asks for, and the text of each.
use Rattle.std.specs.Prelude.{[], Option, Some, None}
use Rattle.lrs_machine.specs.Lines.{Text}
use Rattle.lrs_machine.specs.declared.image.Image.{Image}
use Rattle.lrs_machine.specs.declared.question.Listing.{Listing}
use Rattle.lrs_machine.specs.declared.question.Listing.TheVariants.{History}
use Rattle.lrs_report_lists.specs.Length.Lines.{lengths_text}
use Rattle.lrs_report_lists.specs.Lists.{history_text, rows_text}
use Rattle.lrs_report_answers.specs.Overlay.{overlay_text}
use Rattle.lrs_report_answers.specs.declared.told.Told.{Told}
use Rattle.lrs_report_answers.specs.declared.told.Told.TheVariants as told
use Rattle.lrs_sheet_questions.specs.declared.kind.ListKind.{ListKind}
use Rattle.lrs_sheet_questions.specs.declared.kind.ListKind.TheVariants as kind

-- which list is told, if it is one
abbrev pub listing_kind : Listing → Option ListKind
listing_kind (History asset) = Some kind.History
listing_kind _ = None

abbrev pub list_kind : Told → Option ListKind
list_kind (told.Rows wanted i) = Some kind.Rows
list_kind (told.Overlay wanted i) = Some kind.Overlay
list_kind (told.Lengths lengths) = Some kind.Lengths
list_kind (told.Listing listing i) = listing_kind listing
list_kind _ = None

-- the whole text of a list as it is printed, with its header
abbrev pub listing_text : Listing → Image → Text
listing_text (History asset) i = history_text asset i
listing_text _ i = []

abbrev pub list_text : Told → Text
list_text (told.Rows wanted i) = rows_text wanted i.now
list_text (told.Overlay wanted i) = overlay_text wanted i.now
list_text (told.Lengths lengths) = lengths_text lengths
list_text (told.Listing listing i) = listing_text listing i.now
list_text _ = []
