-- Retiring assets, and superseding them by others: what is taken away, and what stays.
use Rattle.std.specs.Prelude.{◌≡◌, true, false, List, [], ◌∷◌, ◌++◌, map, codes, Some, refl}
use Rattle.std.specs.Fmt.{digits}
use Rattle.lrs_events.specs.declared.class.Kind.TheVariants.{Exclusive}
use Rattle.lrs_events.specs.declared.side.Side.TheVariants.{L, R, B}
use Rattle.lrs_events.specs.declared.side.LinkSide.TheVariants.{Left, Right}
use Rattle.lrs_machine.specs.declared.answer.Answer.TheVariants.{Done, Refused}
use Rattle.lrs_machine.specs.declared.answer.Cause.TheVariants as cause
use Rattle.lrs_machine.specs.declared.command.Command.{Command}
use Rattle.lrs_machine.specs.State.{Retired, Abandoned}
use Rattle.lrs_machine.specs.Machine.{Record, attempt, step}
use Rattle.lrs_machine.specs.Readings.{rows_of, places_of}
use Rattle.lrs_examples.specs.Sheet.{a1, speed, rail, abs, between, at, class, enter, supersede, retire, adding, after, holders, replies, totals_of, totals, row, place, places_along, speed_limit, with_speed, with_sign}

-- A speed limit that is retired does not lie where nothing of it was asked for, and its number is not used again.
abbrev pub retire_all : Command
retire_all = retire 10 (between (abs 0) (abs 18))

abbrev pub retired : List Record
retired = adding with_speed (retire_all ∷ [])

-- The second time nothing is there to retire, and the same speed limit cannot be entered again.
abbrev pub RetiredForGood : Type 0
RetiredForGood =
    (replies with_speed (retire 10 (between (abs 0) (abs 6)) ∷ retire_all ∷ speed_limit ∷ retire_all ∷ [])
    ≡ Refused cause.Empty ∷ Done 9 ∷ Refused cause.AssetKnown ∷ Refused cause.Empty ∷ [])
    × (rows_of (after retired) a1 10 ≡ [])
    × (totals_of speed (after retired) ≡ totals 22 22 0 0)

-- The ledger keeps which edit entered a place and which one took it away, and why.
pub entered_by : map (λ n. (after retired).entered n 10 (place 2 5 Left)) (7 ∷ 8 ∷ 9 ∷ []) ≡ false ∷ true ∷ false ∷ []
unfolding digits step attempt
entered_by = refl

-- Edit 9 retired it.
pub retired_by : map (λ n. (after retired).gone n Retired 10 (place 2 5 Left)) (8 ∷ 9 ∷ 10 ∷ []) ≡ false ∷ true ∷ false ∷ []
unfolding digits step attempt
retired_by = refl

-- It was not abandoned: its ground is still on the route.
pub not_abandoned : (after retired).gone 9 Abandoned 10 (place 2 5 Left) ≡ false
unfolding digits step attempt
not_abandoned = refl

-- A part that is retired leaves what lies before and behind it: from measure 10 to 12 are the millimetres 8 and 9.
abbrev pub retire_part : Command
retire_part = retire 10 (between (abs 10) (abs 12))

abbrev pub retired_part : List Record
retired_part = adding with_speed (retire_part ∷ [])

-- Two rows are left.
pub retired_part_rows : rows_of (after retired_part) a1 10 ≡ row 5 8 B ∷ row 10 16 B ∷ []
unfolding digits step attempt
retired_part_rows = refl

-- Four side millimetres are retired.
pub retired_part_totals : totals_of speed (after retired_part) ≡ totals 22 4 0 18
unfolding digits step attempt
retired_part_totals = refl

-- A point is retired without an end, in its millimetre alone.
pub retired_point : replies with_sign (retire 20 (between (abs 0) (abs 18)) ∷ retire 20 (at (abs 6)) ∷ retire 20 (at (abs 18)) ∷ []) ≡ Refused cause.WrongKind ∷ Refused cause.Empty ∷ Done 9 ∷ []
unfolding digits step attempt
retired_point = refl

-- Then nothing is there.
pub nothing_at_the_end : holders (adding with_sign (retire 20 (at (abs 18)) ∷ [])) (abs 18) ≡ Some []
unfolding digits step attempt
nothing_at_the_end = refl

-- A retired asset leaves the others where it lay.
pub others_stay : holders (adding with_speed (enter 30 rail L (between (abs 0) (abs 18)) (codes "STEEL") ∷ retire_all ∷ [])) (abs 9) ≡ Some ((30, 9, L) ∷ [])
unfolding digits step attempt
others_stay = refl

-- A place that was retired can be held by another of the class.
pub free_again : replies retired (enter 11 speed B (between (abs 6) (abs 18)) (codes "60") ∷ []) ≡ Done 10 ∷ []
unfolding digits step attempt
free_again = refl

-- Superseded on the left of its first five millimetres, the old speed limit stays on their right.
abbrev pub supersede_left : Command
supersede_left = supersede 12 speed L (between (abs 6) (abs 12)) (codes "50")

abbrev pub superseded : List Record
superseded = adding with_speed (supersede_left ∷ [])

-- Five side millimetres are retired, and five of the new speed limit entered.
abbrev pub SupersededOnOneSide : Type 0
SupersededOnOneSide =
    (replies with_speed (supersede_left ∷ []) ≡ Done 9 ∷ [])
    × (rows_of (after superseded) a1 10 ≡ row 5 10 R ∷ row 10 16 B ∷ [])
    × (rows_of (after superseded) a1 12 ≡ row 5 10 L ∷ [])
    × (totals_of speed (after superseded) ≡ totals 27 5 0 22)

-- Superseded on the left of the rest too, its two rows become one.
abbrev pub superseded_twice : List Record
superseded_twice = adding superseded (supersede 13 speed L (between (abs 12) (abs 18)) (codes "40") ∷ [])

-- It is done as edit 10.
pub second_supersede : replies superseded (supersede 13 speed L (between (abs 12) (abs 18)) (codes "40") ∷ []) ≡ Done 10 ∷ []
unfolding digits step attempt
second_supersede = refl

-- The old speed limit has the right of its whole length.
pub one_row_on_the_right : rows_of (after superseded_twice) a1 10 ≡ row 5 16 R ∷ []
unfolding digits step attempt
one_row_on_the_right = refl

-- The third one has the left of the last six millimetres.
pub third_row_on_the_left : rows_of (after superseded_twice) a1 13 ≡ row 10 16 L ∷ []
unfolding digits step attempt
third_row_on_the_left = refl

-- Eleven side millimetres of the first one are retired by now.
pub second_supersede_totals : totals_of speed (after superseded_twice) ≡ totals 33 11 0 22
unfolding digits step attempt
second_supersede_totals = refl

-- Left of the route, on the second link, is right of the link.
pub places_that_stay : places_of (after superseded_twice) 10 ≡ places_along 1 5 5 Right ++ places_along 2 0 6 Left
unfolding digits step attempt
places_that_stay = refl

-- Superseded on both sides, nothing is left of it; only an exclusive class supersedes, under a number of its own.
pub superseded_on_both_sides : replies with_speed (
    supersede 12 speed B (between (abs 6) (abs 18)) (codes "50") ∷ retire_all
    ∷ supersede 14 rail B (between (abs 6) (abs 18)) (codes "50")
    ∷ supersede 10 speed B (between (abs 6) (abs 18)) (codes "50") ∷ [])
    ≡ Done 9 ∷ Refused cause.Empty ∷ Refused cause.WrongKind ∷ Refused cause.AssetKnown ∷ []
unfolding digits step attempt
superseded_on_both_sides = refl

-- All 22 side millimetres are retired, and as many entered.
pub superseded_on_both_sides_totals : totals_of speed (after (adding with_speed (supersede 12 speed B (between (abs 6) (abs 18)) (codes "50") ∷ []))) ≡ totals 44 22 0 22
unfolding digits step attempt
superseded_on_both_sides_totals = refl

-- Two speed limits are superseded at once, each where it lay, and what was free is held too.
abbrev pub superseded_two : List Record
superseded_two = adding with_speed (
    enter 11 speed B (between (abs 0) (abs 3)) (codes "60")
    ∷ supersede 12 speed R (between (abs 0) (abs 12)) (codes "50") ∷ [])

-- The first keeps its left there, and so does the second.
pub superseded_two_rows : map (rows_of (after superseded_two) a1) (10 ∷ 11 ∷ 12 ∷ []) ≡ (row 5 10 L ∷ row 10 16 B ∷ []) ∷ (row 0 3 L ∷ []) ∷ (row 0 10 R ∷ []) ∷ []
unfolding digits step attempt
superseded_two_rows = refl

-- Five side millimetres of the first and three of the second are retired.
pub superseded_two_totals : totals_of speed (after superseded_two) ≡ totals 38 8 0 30
unfolding digits step attempt
superseded_two_totals = refl

-- A barrier, and a lane, stay where a speed limit is superseded.
abbrev pub other_classes : List Record
other_classes = adding with_speed (
    enter 30 rail L (between (abs 0) (abs 18)) (codes "STEEL")
    ∷ class (codes "LANE") Exclusive ∷ enter 40 (codes "LANE") B (between (abs 0) (abs 18)) (codes "2")
    ∷ supersede_left ∷ [])

-- Four assets lie there: both speed limits, the barrier and the lane; each was entered by its own edit, also the one that supersedes.
pub other_classes_stay : holders other_classes (abs 6) ≡ Some ((10, 8, R) ∷ (12, 12, L) ∷ (30, 9, L) ∷ (40, 11, B) ∷ [])
unfolding digits step attempt
other_classes_stay = refl
