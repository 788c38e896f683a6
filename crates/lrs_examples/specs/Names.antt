-- Names, numbers and lists as commands can state them, and fractions as they are printed.
use Rattle.std.specs.Prelude.{◌≡◌, pos, negsuc, true, false, [], ◌∷◌, ◌++◌, map, codes, Some, None, replicate, refl}
use Rattle.std.specs.Fmt.{digits}
use Rattle.lrs_measure.specs.FractionTexts.{fraction_text}
use Rattle.lrs_measure.specs.Limits.{is_link, are_limits}
use Rattle.lrs_position.specs.declared.expression.Expr.TheVariants.{Abs, Rel}
use Rattle.lrs_position.specs.Names.{is_route_name, is_referent_name}
use Rattle.lrs_position.specs.Expressions.{is_entered, are_alike}
use Rattle.lrs_events.specs.Names.{is_class_name, is_value}
use Rattle.lrs_machine.specs.Keys.{is_key}
use Rattle.lrs_machine.specs.EnteredNumbers.{is_asset_number, is_chainage, is_lateral_offset, are_entered_pieces, are_entered_marks}
use Rattle.lrs_examples.specs.Sheet.{km2, km5, abs, past, short_of, share, forth, mark}

-- A route's name: capitals, digits and dashes, no dash first, at most twelve.
pub route_names : map is_route_name (codes "A1" ∷ codes "M-4" ∷ codes "ABCDEFGHIJ-1" ∷ codes "-A1" ∷ codes "a1" ∷ codes "A 1" ∷ codes "ABCDEFGHIJK-1" ∷ [] ∷ [])
    ≡ true ∷ true ∷ true ∷ false ∷ false ∷ false ∷ false ∷ false ∷ []
route_names = refl

-- A referent's name: capitals and digits, at most twelve.
pub referent_names : map is_referent_name (codes "KM2" ∷ codes "2" ∷ codes "KM-2" ∷ codes "km2" ∷ codes "ABCDEFGHIJKL" ∷ codes "ABCDEFGHIJKLM" ∷ [] ∷ [])
    ≡ true ∷ true ∷ false ∷ false ∷ true ∷ false ∷ false ∷ []
referent_names = refl

-- A class's name: capitals and digits, at most eight.
pub class_names : map is_class_name (codes "SPEED" ∷ codes "LANES2" ∷ codes "ABCDEFGH" ∷ codes "ABCDEFGHI" ∷ codes "Speed" ∷ codes "A-B" ∷ [] ∷ [])
    ≡ true ∷ true ∷ true ∷ false ∷ false ∷ false ∷ false ∷ []
class_names = refl

-- A value: letters, digits, dots, underlines and dashes, at most twelve, and not a dash alone, which tells that there is none.
pub values : map is_value (codes "80" ∷ codes "a.b-c_D" ∷ codes "-5" ∷ codes "--" ∷ codes "-" ∷ codes "a:b" ∷ codes "80 km" ∷ codes "abcdefghijkl" ∷ codes "abcdefghijklm" ∷ [] ∷ [])
    ≡ true ∷ true ∷ true ∷ true ∷ false ∷ false ∷ false ∷ true ∷ false ∷ false ∷ []
values = refl

-- A key: as a value, with colons too, at most forty.
pub keys : map is_key (codes "2026-11-22:e1" ∷ codes "a.b_c" ∷ codes "-" ∷ codes "e 1" ∷ replicate 40 65 ∷ replicate 41 65 ∷ [] ∷ [])
    ≡ true ∷ true ∷ false ∷ false ∷ true ∷ false ∷ false ∷ []
keys = refl

-- The number of an asset, a chainage and a lateral offset.
pub numbers : map is_asset_number (0 ∷ 1 ∷ 1_000_000_000_000 ∷ 1_000_000_000_001 ∷ []) ++ map is_chainage (0 ∷ 10_000_000_000 ∷ 10_000_000_001 ∷ []) ++ map is_lateral_offset (0 ∷ 100_000 ∷ 100_001 ∷ [])
    ≡ false ∷ true ∷ true ∷ false ∷ true ∷ true ∷ false ∷ true ∷ true ∷ false ∷ []
numbers = refl

-- The number and the length of a link.
pub links : is_link 0 1 ∷ is_link 1_000_000 1 ∷ is_link 4 0 ∷ is_link 4 1_000_000_001 ∷ is_link 1 1 ∷ is_link 999_999 1_000_000_000 ∷ [] ≡ false ∷ false ∷ false ∷ false ∷ true ∷ true ∷ []
links = refl

-- A bad piece can be stated, if only its numbers are those of some link; at least one piece, and at most a thousand.
pub piece_lists : map are_entered_pieces ((forth 3 2 2 ∷ []) ∷ (forth 3 7 5 ∷ forth 9 0 1 ∷ []) ∷ (forth 0 0 1 ∷ []) ∷ (forth 1 0 1_000_000_001 ∷ []) ∷ [] ∷ replicate 1_000 (forth 1 0 1) ∷ replicate 1_001 (forth 1 0 1) ∷ [])
    ≡ true ∷ true ∷ false ∷ false ∷ false ∷ true ∷ false ∷ []
piece_lists = refl

-- Bad marks can be stated too: at least two, and at most a thousand.
pub mark_lists : map are_entered_marks ((mark 5 5 ∷ mark 0 0 ∷ []) ∷ (mark 0 0 ∷ []) ∷ (mark 0 0 ∷ mark 1 100_000_000_001 ∷ []) ∷ (mark 0 0 ∷ mark 10_000_000_001 1 ∷ []) ∷ replicate 1_000 (mark 0 0) ∷ replicate 1_001 (mark 0 0) ∷ [])
    ≡ true ∷ false ∷ false ∷ false ∷ true ∷ false ∷ []
mark_lists = refl

-- A proportion up to 1 with a small denominator, no fraction of a measure, no negative measure, a distance either way.
pub expressions : map is_entered (
    share 1 3 ∷ share 0 1 ∷ share 1 1 ∷ share 3 2 ∷ share 1 1_000_000 ∷ share 1 1_000_001
    ∷ abs 100_000_000_000 ∷ abs 100_000_000_001 ∷ Abs (record { num = pos 9; den = 7 }) ∷ Abs (record { num = negsuc 0; den = 1 })
    ∷ short_of km2 10_000_000_000 ∷ short_of km2 10_000_000_001 ∷ past km2 10_000_000_001 ∷ Rel km2 (record { num = pos 1; den = 2 }) ∷ [])
    ≡ true ∷ true ∷ true ∷ false ∷ true ∷ false
    ∷ true ∷ false ∷ false ∷ false
    ∷ true ∷ false ∷ false ∷ false ∷ []
expressions = refl

-- Both ends of a stretch are by one method; at a point there is one end.
pub ends : are_alike (abs 3) (Some (abs 6)) ∷ are_alike (past km2 3) (Some (past km5 0)) ∷ are_alike (share 1 3) None ∷ are_alike (abs 3) (Some (share 1 3)) ∷ are_alike (past km2 3) (Some (abs 6)) ∷ []
    ≡ true ∷ true ∷ true ∷ false ∷ false ∷ []
ends = refl

-- Room for at most this many routes, assets and edits.
pub room : are_limits 10_000 1_000_000 10_000_000 ∷ are_limits 10_001 0 0 ∷ are_limits 0 1_000_001 0 ∷ are_limits 0 0 10_000_001 ∷ [] ≡ true ∷ false ∷ false ∷ false ∷ []
room = refl

-- A fraction that is whole is printed without its denominator.
pub fractions : map fraction_text (record { num = pos 3200; den = 1 } ∷ record { num = pos 9600; den = 7 } ∷ record { num = negsuc 0; den = 2 } ∷ record { num = negsuc 2; den = 1 } ∷ record { num = pos 0; den = 1 } ∷ [])
    ≡ codes "3200" ∷ codes "9600/7" ∷ codes "-1/2" ∷ codes "-3" ∷ codes "0" ∷ []
unfolding digits
fractions = refl
