-- The laws at work: after each example the totals add up, no place is out of balance, and no two speed limits lie on one place.
use Rattle.std.specs.Prelude.{◌≡◌, ℕ, ◌+◌, Bool, true, false, ◌&&◌, ◌||◌, not, nat_eq, nat_le, List, [], ◌∷◌, ◌++◌, length, map, codes, replicate, if◌then◌else◌, refl}
use Rattle.std.specs.List.{list_any, list_all, count_by}
use Rattle.std.specs.Fmt.{digits}
use Rattle.lrs_measure.specs.Texts.{Name}
use Rattle.lrs_events.specs.Places.{Place}
use Rattle.lrs_machine.specs.declared.answer.Answer.TheVariants.{Done, Again, Refused}
use Rattle.lrs_machine.specs.declared.answer.Cause.TheVariants as cause
use Rattle.lrs_machine.specs.declared.command.Command.TheVariants as verb
use Rattle.lrs_machine.specs.State.{State, Retired, Abandoned, nothing_known}
use Rattle.lrs_machine.specs.Machine.{Record, answers, attempt, step}
use Rattle.lrs_machine.specs.Readings.{places_of, total_present, total_entered, total_gone, all_places, edits_of, assets_of}
use Rattle.lrs_machine.specs.Laws.{once, is_route_edit}
use Rattle.lrs_examples.specs.Sheet.{a1, b1, nowhere, km2, speed, class, plain, split, join, realign_away, full, under, after, totals_of, totals, both_sides_along, sheet, speed_limit, with_speed, with_sign, lower_limit}
use Rattle.lrs_examples.specs.Entries.{exact_ends, common_end}
use Rattle.lrs_examples.specs.Routes.{split_route, joined_route, joined_after_recalibration, recalibrated_route, realigned_route, shortened, longer_route, closed, turned, turned_sign, turned_twice, renumbered, with_barrier, split_referents, moved_along}
use Rattle.lrs_examples.specs.Retirements.{retired, retired_part, superseded, superseded_twice, superseded_two, other_classes}
use Rattle.lrs_examples.specs.Readings.{all_three, three_classes, with_lanes}

-- present, retired and abandoned together are what was entered
abbrev pub adds_up : State → Name → Bool
adds_up s class = nat_eq (total_present class s + total_gone Retired class s + total_gone Abandoned class s) (total_entered class s)

-- ... of every class
abbrev pub all_add_up : State → Bool
all_add_up s = list_all (adds_up s) (map (λ c. c.0) s.classes.rows)

-- how many edits entered an asset's place, and how many took it away
abbrev pub times_entered : State → ℕ → Place → ℕ
times_entered s asset p = count_by (λ n. s.entered n asset p) (edits_of s)

abbrev pub times_gone : State → ℕ → Place → ℕ
times_gone s asset p = count_by (λ n. s.gone n Retired asset p) (edits_of s) + count_by (λ n. s.gone n Abandoned asset p) (edits_of s)

-- entered once at most, and held or gone as often as entered
abbrev pub is_balanced_at : State → ℕ → Place → Bool
is_balanced_at s asset p = nat_le (times_entered s asset p) 1 && nat_eq (times_gone s asset p + (if s.holds asset p then 1 else 0)) (times_entered s asset p)

-- ... each place of every asset
abbrev pub is_balanced : State → Bool
is_balanced s = list_all (λ a. list_all (is_balanced_at s a.0) (all_places s)) s.assets.rows

-- no place is held by two assets of the class
abbrev pub is_held_once : State → Name → Bool
is_held_once s class = list_all (λ p. nat_le (count_by (λ asset. s.holds asset p) (assets_of class s)) 1) (all_places s)

-- the states of the examples, by their records
abbrev pub worked : List (List Record)
worked =
    sheet ∷ with_speed ∷ with_sign ∷ with_barrier ∷ exact_ends ∷ common_end
    ∷ split_route ∷ joined_route ∷ joined_after_recalibration ∷ recalibrated_route ∷ realigned_route ∷ shortened ∷ longer_route
    ∷ closed ∷ turned ∷ turned_sign ∷ turned_twice ∷ renumbered ∷ split_referents ∷ moved_along
    ∷ retired ∷ retired_part ∷ superseded ∷ superseded_twice ∷ superseded_two ∷ other_classes
    ∷ all_three ∷ three_classes ∷ with_lanes ∷ []

-- After each example the totals of each class add up.
pub totals_add_up : list_all (λ records. all_add_up (after records)) worked ≡ true
unfolding digits step attempt
totals_add_up = refl

-- After each example each asset's place was entered once, and is held or gone.
pub places_balanced : list_all (λ records. is_balanced (after records)) worked ≡ true
unfolding digits step attempt
places_balanced = refl

-- the asset was entered by the edit that it names, and by no other
abbrev pub has_its_entry : State → ℕ → ℕ → Bool
has_its_entry s asset entry =
    list_any (s.entered entry asset) (all_places s) && list_all (λ n. nat_eq n entry || not (list_any (s.entered n asset) (all_places s))) (edits_of s)

-- After each example each asset was entered by the one edit that it names.
pub assets_have_entries : list_all (λ records. list_all (λ a. has_its_entry (after records) a.0 a.1.entered_by) (after records).assets.rows) worked ≡ true
unfolding digits step attempt
assets_have_entries = refl

-- After each example no two speed limits lie on one place.
pub one_limit_on_a_place : list_all (λ records. is_held_once (after records) speed) worked ≡ true
unfolding digits step attempt
one_limit_on_a_place = refl

-- Split, joined, renumbered, recalibrated and turned, the route leaves every place as it was.
abbrev pub after_route_edits : List (List Record)
after_route_edits = split_route ∷ joined_route ∷ recalibrated_route ∷ turned ∷ renumbered ∷ []

-- The speed limit holds its 22 places after each of them.
pub route_edits_keep_places : map (λ records. places_of (after records) 10) after_route_edits ≡ replicate 5 (both_sides_along 1 5 5 ++ both_sides_along 2 0 6)
unfolding digits step attempt
route_edits_keep_places = refl

-- A command that is sent again, and one that is refused, change nothing: there are eight edits, and 22 side millimetres.
abbrev pub again_and_refused : List Record
again_and_refused = with_speed ++ under (codes "xH") speed_limit ∷ under (codes "xH") lower_limit ∷ under (codes "K1") speed_limit ∷ under (codes "K2") (verb.Close nowhere) ∷ []

-- The first record is answered as before, and the other three are refused.
pub again_and_refused_answers : answers full again_and_refused nothing_known
    ≡ Done 1 ∷ Done 2 ∷ Done 3 ∷ Done 4 ∷ Done 5 ∷ Done 6 ∷ Done 7 ∷ Done 8
    ∷ Again 8 ∷ Refused (cause.KeyUsed 8) ∷ Refused cause.AssetKnown ∷ Refused cause.NoRoute ∷ []
unfolding digits step attempt
again_and_refused_answers = refl

-- There are still eight edits.
pub again_and_refused_edits : length (after again_and_refused).done ≡ 8
unfolding digits step attempt
again_and_refused_edits = refl

-- There are still 22 side millimetres.
pub again_and_refused_totals : totals_of speed (after again_and_refused) ≡ totals 22 0 0 22
unfolding digits step attempt
again_and_refused_totals = refl

-- Without the records whose key was accepted before, the other records stay, refused ones too.
pub each_key_once : map (λ r. r.key) (once full again_and_refused nothing_known)
    ≡ codes "xA" ∷ codes "xB" ∷ codes "xC" ∷ codes "xD" ∷ codes "xE" ∷ codes "xF" ∷ codes "xG" ∷ codes "xH" ∷ codes "K1" ∷ codes "K2" ∷ []
unfolding digits step attempt
each_key_once = refl

-- Five verbs are route edits: they change no ground and no asset.
pub route_edits : map is_route_edit (split 10 ∷ join ∷ verb.Renumber a1 b1 ∷ verb.Recalibrate a1 (plain 16) ∷ verb.Turn a1 ∷ verb.Close a1 ∷ realign_away 0 4 (plain 12) ∷ speed_limit ∷ verb.Unref km2 ∷ [])
    ≡ replicate 5 true ++ replicate 4 false
route_edits = refl
