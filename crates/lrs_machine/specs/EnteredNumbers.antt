-- Numbers and lists as the text of a command can state them.
use Rattle.std.specs.Prelude.{ℕ, Bool, ◌&&◌, nat_le, List, length}
use Rattle.std.specs.List.{list_all}
use Rattle.lrs_measure.specs.Lists.{is_from_to}
use Rattle.lrs_element.specs.declared.link.Piece.{Piece}
use Rattle.lrs_element.specs.declared.marks.Mark.{Mark}
use Rattle.lrs_measure.specs.Limits.{is_link_number, longest_link, longest_route, most_pieces, most_marks, greatest_measure, greatest_asset, greatest_lateral}

abbrev pub is_asset_number : ℕ → Bool
is_asset_number n = is_from_to 1 greatest_asset n

-- millimetres from the start of a route
abbrev pub is_chainage : ℕ → Bool
is_chainage n = nat_le n longest_route

-- millimetres beside the linear element
abbrev pub is_lateral_offset : ℕ → Bool
is_lateral_offset n = nat_le n greatest_lateral

-- the number that a link can have, and ends that some link can have
abbrev pub is_entered_piece : Piece → Bool
is_entered_piece p = is_link_number p.link && nat_le p.from longest_link && nat_le p.to longest_link

abbrev pub are_entered_pieces : List Piece → Bool
are_entered_pieces pieces = is_from_to 1 most_pieces (length pieces) && list_all is_entered_piece pieces

abbrev pub is_entered_mark : Mark → Bool
is_entered_mark m = is_chainage m.chainage && nat_le m.measure greatest_measure

abbrev pub are_entered_marks : List Mark → Bool
are_entered_marks marks = is_from_to 2 most_marks (length marks) && list_all is_entered_mark marks
