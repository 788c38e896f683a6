-- Entering assets: which places they hold, on which side, and under which keys.
use Rattle.std.specs.Prelude.{◌≡◌, ℕ, pos, negsuc, List, [], ◌∷◌, ◌++◌, map, codes, Option, Some, None, Ok, Err, refl}
use Rattle.std.specs.Option.{option_map}
use Rattle.std.specs.Fmt.{digits}
use Rattle.std.proofs.Common.{inl, lit<, lit≤}
use Rattle.lrs_element.specs.Marks.{chainage_at}
use Rattle.lrs_position.specs.declared.expression.Expr.TheVariants.{Abs, Rel}
use Rattle.lrs_position.specs.declared.location.PlaceFault.TheVariants.{NoRef, TooFine, OffRoute}
use Rattle.lrs_position.specs.Locations.{located, located_or_fault, Locates, snap, cell}
use Rattle.lrs_events.specs.declared.class.Kind.TheVariants.{Exclusive}
use Rattle.lrs_events.specs.declared.side.Side.TheVariants.{L, R, B}
use Rattle.lrs_events.specs.declared.side.LinkSide.TheVariants.{Left, Right}
use Rattle.lrs_machine.specs.declared.answer.Answer.TheVariants.{Done, Again, Refused}
use Rattle.lrs_machine.specs.declared.answer.Cause.TheVariants as cause
use Rattle.lrs_machine.specs.State.{nothing_known}
use Rattle.lrs_machine.specs.Machine.{Record, answers, attempt, step}
use Rattle.lrs_machine.specs.Readings.{rows_of, places_of}
use Rattle.lrs_examples.specs.Sheet.{a1, km2, speed, rail, sign, abs, past, short_of, share, between, at, link, class, forth, back, mark, enter, full, under, adding, after, replies, totals_of, totals, row, route_of, over, place, places_along, both_sides_along, first_alignment, sheet, speed_limit, with_speed, stop_sign, with_sign, lower_limit}

-- The first sheet is done, and its route runs over links 1 and 2, the second one backwards.
abbrev pub FirstSheet : Type 0
FirstSheet =
    (answers full sheet nothing_known ≡ Done 1 ∷ Done 2 ∷ Done 3 ∷ Done 4 ∷ Done 5 ∷ Done 6 ∷ Done 7 ∷ [])
    × (route_of (after sheet) a1 ≡ over (forth 1 0 10 ∷ back 2 0 6 ∷ []) (mark 0 0 ∷ mark 10 12 ∷ mark 16 18 ∷ []))

-- A sheet without records has no answers.
pub empty_sheet : answers full [] nothing_known ≡ []
empty_sheet = refl

-- A speed limit on both sides holds two places for each of its 11 millimetres, and they are entered in the ledger.
abbrev pub SpeedLimitEntered : Type 0
SpeedLimitEntered =
    (replies sheet (speed_limit ∷ []) ≡ Done 8 ∷ [])
    × (rows_of (after with_speed) a1 10 ≡ row 5 16 B ∷ [])
    × (places_of (after with_speed) 10 ≡ both_sides_along 1 5 5 ++ both_sides_along 2 0 6)
    × (totals_of speed (after with_speed) ≡ totals 22 0 0 22)

-- A position at two and a half millimetres: a stretch ends there at 3, and a point stands in the third millimetre.
abbrev pub HalfMillimetreEnds : Type 0
HalfMillimetreEnds =
    (option_map snap (located first_alignment (λ referent. None) (abs 3)) ≡ Some 3)
    × (option_map (cell 16) (located first_alignment (λ referent. None) (abs 3)) ≡ Some 2)
    × (rows_of (after (adding sheet (enter 30 rail L (between (abs 0) (abs 3)) (codes "STEEL") ∷ []))) a1 30 ≡ row 0 3 L ∷ [])
    × (rows_of (after (adding sheet (enter 20 sign L (at (abs 3)) (codes "STOP") ∷ []))) a1 20 ≡ row 2 3 L ∷ [])

-- Just below a half goes down, and a half goes up; a third and two thirds of 8 m go to 2.667 m and 5.333 m.
pub nearest_millimetre : map snap ((24, 10) ∷ (25, 10) ∷ (26, 10) ∷ (30, 10) ∷ (8_000, 3) ∷ (16_000, 3) ∷ []) ≡ 2 ∷ 3 ∷ 3 ∷ 3 ∷ 2_667 ∷ 5_333 ∷ []
nearest_millimetre = refl

-- A point at any chainage of a millimetre stands in it; at the end of the route, in the last one.
pub point_in_its_millimetre : map (cell 16) ((24, 10) ∷ (29, 10) ∷ (30, 10) ∷ (160, 10) ∷ []) ≡ 2 ∷ 2 ∷ 3 ∷ 15 ∷ []
point_in_its_millimetre = refl

-- A tenth of a millimetre before the end of the longest route, of 10,000 km: a stretch ends with the route, and a point stands in the last millimetre.
abbrev pub near_the_end : Option (ℕ × ℕ)
near_the_end = chainage_at (mark 0 0 ∷ mark 10_000_000_000 100_000_000_000 ∷ []) 99_999_999_999 1

-- A stretch that ends there ends with the route.
pub longest_route_end : option_map snap near_the_end ≡ Some 10_000_000_000
longest_route_end = refl

-- A point there stands in the last millimetre.
pub longest_route_point : option_map (cell 10_000_000_000) near_the_end ≡ Some 9_999_999_999
longest_route_point = refl

-- The measure 3 is two and a half millimetres along the route: a fourth of the way from 0 to 12, and of that from 0 to 10.
pub on_the_line : Locates first_alignment (λ referent. None) (abs 3) (5, 2)
on_the_line = (3, refl, lit< tt, inl (record { from = lit≤ tt; to = lit≤ tt; above = lit≤ tt; line = refl }))

-- A sign on the left of the route, where it runs backwards, stands on the right of the link.
abbrev pub SignOnBackwardPiece : Type 0
SignOnBackwardPiece =
    (replies sheet (stop_sign ∷ []) ≡ Done 8 ∷ [])
    × (rows_of (after with_sign) a1 20 ≡ row 15 16 L ∷ [])
    × (places_of (after with_sign) 20 ≡ place 2 0 Right ∷ [])
    × (totals_of sign (after with_sign) ≡ totals 1 0 0 1)

-- Where the route runs forwards, its left is the link's left.
pub sign_on_forward_piece : places_of (after (adding sheet (enter 20 sign L (at (abs 6)) (codes "STOP") ∷ []))) 20 ≡ place 1 5 Left ∷ []
unfolding digits step attempt
sign_on_forward_piece = refl

-- A sign on both sides holds two places.
pub sign_on_both_sides : places_of (after (adding sheet (enter 20 sign B (at (abs 18)) (codes "STOP") ∷ []))) 20 ≡ place 2 0 Left ∷ place 2 0 Right ∷ []
unfolding digits step attempt
sign_on_both_sides = refl

-- No second speed limit lies on a place of the first, but one may end where the first begins.
abbrev pub OverlapAndTouch : Type 0
OverlapAndTouch =
    (replies with_speed (enter 11 speed L (between (abs 17) (abs 18)) (codes "60") ∷ lower_limit ∷ [])
    ≡ Refused (cause.Overlap 10) ∷ Done 9 ∷ [])
    × (rows_of (after (adding with_speed (lower_limit ∷ []))) a1 11 ≡ row 0 5 B ∷ [])

-- Two speed limits may lie side by side, one on each side of the route.
pub one_on_each_side : replies sheet (
    enter 10 speed L (between (abs 6) (abs 18)) (codes "80")
    ∷ enter 11 speed R (between (abs 6) (abs 18)) (codes "60")
    ∷ enter 12 speed L (between (abs 0) (abs 7)) (codes "50")
    ∷ enter 13 speed R (between (abs 17) (abs 18)) (codes "50") ∷ [])
    ≡ Done 8 ∷ Done 9 ∷ Refused (cause.Overlap 10) ∷ Refused (cause.Overlap 11) ∷ []
unfolding digits step attempt
one_on_each_side = refl

-- A lane does not overlap a speed limit: they are of two classes.
pub two_exclusive_classes : replies with_speed (class (codes "LANE") Exclusive ∷ enter 11 (codes "LANE") B (between (abs 6) (abs 18)) (codes "2") ∷ []) ≡ Done 9 ∷ Done 10 ∷ []
unfolding digits step attempt
two_exclusive_classes = refl

-- Barriers may lie on each other.
pub barriers_overlap : replies sheet (
    enter 30 rail L (between (abs 0) (abs 12)) (codes "STEEL")
    ∷ enter 31 rail L (between (abs 6) (abs 18)) (codes "STONE") ∷ [])
    ≡ Done 8 ∷ Done 9 ∷ []
unfolding digits step attempt
barriers_overlap = refl

-- The same record again is answered as before; another speed under its key is refused.
abbrev pub RepeatedKey : Type 0
RepeatedKey =
    answers full (
    under (codes "K1") speed_limit ∷ under (codes "K1") speed_limit
    ∷ under (codes "K1") (enter 10 speed B (between (abs 6) (abs 18)) (codes "60")) ∷ under (codes "K2") speed_limit ∷ [])
    (after sheet)
    ≡ Done 8 ∷ Again 8 ∷ Refused (cause.KeyUsed 8) ∷ Refused cause.AssetKnown ∷ []

-- The first link's record again, and its key with another length.
pub another_length : answers full (under (codes "xA") (link 1 10 refl) ∷ under (codes "xA") (link 1 12 refl) ∷ []) (after sheet) ≡ Again 1 ∷ Refused (cause.KeyUsed 1) ∷ []
unfolding digits step attempt
another_length = refl

-- A refused command's key is free: it can be used for another one.
pub key_of_a_refused_command : answers full (
    under (codes "K1") (link 1 10 refl) ∷ under (codes "K1") (link 4 10 refl) ∷ under (codes "K1") (link 1 10 refl) ∷ [])
    (after sheet)
    ≡ Refused cause.LinkKnown ∷ Done 8 ∷ Refused (cause.KeyUsed 8) ∷ []
unfolding digits step attempt
key_of_a_refused_command = refl

-- From a third to two thirds of the route, 16/3 to 32/3, on its right: 5 to 11, on link 2 on the left.
abbrev pub exact_ends : List Record
exact_ends = adding sheet (enter 31 rail R (between (share 1 3) (share 2 3)) (codes "STEEL") ∷ [])

-- Its row is seen along the route.
pub exact_ends_rows : rows_of (after exact_ends) a1 31 ≡ row 5 11 R ∷ []
unfolding digits step attempt
exact_ends_rows = refl

-- Its places are seen along the links.
pub exact_ends_places : places_of (after exact_ends) 31 ≡ places_along 1 5 5 Right ++ places_along 2 5 1 Left
unfolding digits step attempt
exact_ends_places = refl

-- The whole route, by proportion.
pub whole_route : rows_of (after (adding sheet (enter 31 rail B (between (share 0 1) (share 1 1)) (codes "STEEL") ∷ []))) a1 31 ≡ row 0 16 B ∷ []
unfolding digits step attempt
whole_route = refl

-- Two speed limits with a common end at two and a half millimetres touch and do not overlap.
abbrev pub common_end : List Record
common_end = adding sheet (enter 10 speed B (between (abs 0) (abs 3)) (codes "80") ∷ enter 11 speed B (between (abs 3) (abs 6)) (codes "60") ∷ [])

-- Both are done: they do not overlap.
pub common_end_done : replies sheet (enter 10 speed B (between (abs 0) (abs 3)) (codes "80") ∷ enter 11 speed B (between (abs 3) (abs 6)) (codes "60") ∷ []) ≡ Done 8 ∷ Done 9 ∷ []
unfolding digits step attempt
common_end_done = refl

-- The first one ends at 3.
pub common_end_first : rows_of (after common_end) a1 10 ≡ row 0 3 B ∷ []
unfolding digits step attempt
common_end_first = refl

-- The second one begins there, and ends at 5.
pub common_end_second : rows_of (after common_end) a1 11 ≡ row 3 5 B ∷ []
unfolding digits step attempt
common_end_second = refl

-- The measure 3 and half a millimetre past KM2, which stands in the third millimetre: both are 5/2. A third of the length and the measure 32/5: both are 16/3.
pub one_chainage_two_methods : map (located first_alignment (λ referent. Some 2)) (
    abs 3 ∷ Rel km2 (record { num = pos 1; den = 2 })
    ∷ share 1 3 ∷ Abs (record { num = pos 32; den = 5 }) ∷ [])
    ≡ Some (30, 12) ∷ Some (5, 2) ∷ Some (16, 3) ∷ Some (320, 60) ∷ []
one_chainage_two_methods = refl

-- A measure beyond the marks, a distance beyond either end and a proportion above 1 locate nothing.
pub off_the_route : map (located first_alignment (λ referent. Some 2)) (abs 19 ∷ past km2 15 ∷ short_of km2 3 ∷ share 3 2 ∷ []) ≡ None ∷ None ∷ None ∷ None ∷ []
off_the_route = refl

-- The ends of the route are on it.
pub ends_of_the_route : map (located first_alignment (λ referent. Some 2)) (abs 0 ∷ abs 18 ∷ past km2 14 ∷ short_of km2 2 ∷ share 1 1 ∷ [])
    ≡ Some (0, 12) ∷ Some (96, 6) ∷ Some (16, 1) ∷ Some (0, 1) ∷ Some (16, 1) ∷ []
ends_of_the_route = refl

-- The missing referent is named before a fineness that no method takes, and that before a place off the route.
pub faults_of_positions : map (located_or_fault first_alignment (λ referent. None)) (
    Rel km2 (record { num = pos 99; den = 10_000_000_000_000_001 })
    ∷ Abs (record { num = pos 1; den = 10_000_000_000_000_001 })
    ∷ Abs (record { num = negsuc 0; den = 10_000_000_000_000_001 })
    ∷ abs 19 ∷ abs 3 ∷ [])
    ≡ Err NoRef ∷ Err TooFine ∷ Err TooFine ∷ Err OffRoute ∷ Ok (30, 12) ∷ []
faults_of_positions = refl
