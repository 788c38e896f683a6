use Rattle.std.proofs.Common.{◌≡◌, take}
use Rattle.std.specs.List.{flat_map}
use Rattle.lrs_web_replies.specs.Listings.{row_items}
use Rattle.lrs_web_replies.specs.PagedText.{add_all}
use Rattle.lrs_web_replies.proofs.row_lists.add_rows_on.Given as goal

abbrev pub invariant-loop-row : goal.invariant-loop-row
invariant-loop-row l = l.text ≡ add_all l.fn.text (flat_map (row_items l.form l.assets.rows l.route) (take l.row-index l.rows))
