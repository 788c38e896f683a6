-- What holds of every state of the ground machine, and of its runs.
use Rattle.std.specs.Prelude.{◌≡◌, ℕ, ◌+◌, ◌≤◌, Bool, true, false, nat_lt, nat_eq, ◌⊎◌, List, [], ◌∷◌, length, if◌then◌else◌, Some, is_some}
use Rattle.std.specs.List.{list_all, count_by}
use Rattle.lrs_measure.specs.Lists.{is_nothing, each_two}
use Rattle.lrs_measure.specs.Texts.{Name, same_name}
use Rattle.lrs_element.specs.declared.link.Ground.{Ground}
use Rattle.lrs_element.specs.Course.{Millimetre}
use Rattle.lrs_events.specs.declared.class.Kind.TheVariants.{Exclusive}
use Rattle.lrs_events.specs.Places.{Place, same_place}
use Rattle.lrs_machine.specs.declared.command.Command.{Command}
use Rattle.lrs_machine.specs.declared.command.Command.TheVariants as verb
use Rattle.lrs_machine.specs.declared.answer.Answer.TheVariants.{Done}
use Rattle.lrs_machine.specs.declared.answer.Limits.{Limits}
use Rattle.lrs_machine.specs.declared.image.Image.{Image}
use Rattle.lrs_machine.specs.Register.{get, contains_key, entries}
use Rattle.lrs_machine.specs.State.{State, Asset, Reason, Retired, Abandoned, nothing_known}
use Rattle.lrs_machine.specs.Machine.{length_of_link, EventStretch, is_empty_stretch, part_of, Record, step, step_record, state_after, place_of_key}
use Rattle.lrs_machine.specs.Image.{state_of, nothing}
use Rattle.lrs_machine.specs.Readings.{all_places, assets_of, edits_of, total_present, total_entered, total_gone}
use Rattle.lrs_machine.specs.Sound.{IsSound}
use Rattle.lrs_machine.specs.Lines.{line_of}
use Rattle.lrs_machine.specs.WellFormedCommands.{IsWellFormed}

-- Each pair of asset and place is entered at most once and taken away at most once; held is what was entered and is not gone, and nothing is gone that was not entered.
pub record IsBalanced (s : State) : Type 0 where
  pub entered_once : (m n asset : ℕ) (p : Place) → s.entered m asset p ≡ true → s.entered n asset p ≡ true → m ≡ n
  pub gone_once : (m n asset : ℕ) (why because : Reason) (p : Place) → s.gone m why asset p ≡ true → s.gone n because asset p ≡ true → (m ≡ n) × (why ≡ because)
  pub gone_entered : (n asset : ℕ) (why : Reason) (p : Place) → s.gone n why asset p ≡ true → (m : ℕ) × (s.entered m asset p ≡ true)
  pub held_entered : (asset : ℕ) (p : Place) → s.holds asset p ≡ true → (m : ℕ) × (s.entered m asset p ≡ true)
  pub held_or_gone : (m asset : ℕ) (p : Place) → s.entered m asset p ≡ true → (s.holds asset p ≡ true) ⊎ ((n : ℕ) × (why : Reason) × (s.gone n why asset p ≡ true))
  pub held_not_gone : (n asset : ℕ) (why : Reason) (p : Place) → s.holds asset p ≡ true → s.gone n why asset p ≡ true → ⊥

-- No place is held by two assets of one exclusive class.
abbrev pub IsExclusive : State → Type 0
IsExclusive s = (a b : ℕ) (x y : Asset) (p : Place) → get s.assets a ≡ Some x → get s.assets b ≡ Some y → x.class ≡ y.class → get s.classes x.class ≡ Some Exclusive
    → s.holds a p ≡ true → s.holds b p ≡ true → a ≡ b

-- The ledgers name edits that were done and assets that are known; the assets are of known classes, and each was entered, by the one edit that it names.
pub record IsNamed (s : State) : Type 0 where
  pub asset_known : (m asset : ℕ) (p : Place) → s.entered m asset p ≡ true → contains_key s.assets asset ≡ true
  pub class_known : (a : ℕ) (x : Asset) → get s.assets a ≡ Some x → contains_key s.classes x.class ≡ true
  pub entered_done : (m asset : ℕ) (p : Place) → s.entered m asset p ≡ true → (1 ≤ m) × (m ≤ length s.done)
  pub gone_done : (m asset : ℕ) (why : Reason) (p : Place) → s.gone m why asset p ≡ true → (1 ≤ m) × (m ≤ length s.done)
  pub by_entry : (m a : ℕ) (x : Asset) (p : Place) → get s.assets a ≡ Some x → s.entered m a p ≡ true → m ≡ x.entered_by
  pub was_entered : (a : ℕ) (x : Asset) → get s.assets a ≡ Some x → (p : Place) × (s.entered x.entered_by a p ≡ true)

-- whether the millimetre is one of a known link
abbrev pub is_known : State → Millimetre → Bool
is_known s (link, mm) = nat_lt mm (length_of_link s link)

-- rows in the order of their numbers, each number once
abbrev pub are_numbered : {X : Type 0} → List (ℕ × X) → Bool
are_numbered rows = each_two (λ x y. nat_lt x.0 y.0) rows

-- Each route runs over millimetres of known links, and each entered place lies on one; no link is known twice, and no asset.
pub record IsGrounded (s : State) : Type 0 where
  pub courses : list_all (λ route. list_all (λ g. is_known s (g.link, g.mm)) route.1.course) (entries s.routes) ≡ true
  pub places : (m asset : ℕ) (p : Place) → s.entered m asset p ≡ true → is_known s (p.link, p.mm) ≡ true
  pub links : are_numbered (entries s.links) ≡ true
  pub assets : are_numbered (entries s.assets) ≡ true

pub record IsLawful (s : State) : Type 0 where
  pub balanced : IsBalanced s
  pub exclusive : IsExclusive s
  pub named : IsNamed s
  pub grounded : IsGrounded s

-- Every step keeps a lawful state lawful: balanced, exclusive, its ledgers named, and its ground known.
abbrev pub StepKeepsLaws : Type 0
StepKeepsLaws = (limits : Limits) (key : Name) (command : Command) (s : State) → IsLawful s → IsLawful (step limits key command s).state

-- So after every list of commands, from the empty state, the state is lawful.
abbrev pub RunsAreLawful : Type 0
RunsAreLawful = (limits : Limits) (rs : List Record) → IsLawful (state_after limits rs nothing_known)

-- For each class, present is what was entered less what was retired and abandoned.
abbrev pub AddsUp : State → Type 0
AddsUp s = (class : Name) → total_present class s + total_gone Retired class s + total_gone Abandoned class s ≡ total_entered class s

abbrev pub LawfulAddsUp : Type 0
LawfulAddsUp = (s : State) → IsLawful s → AddsUp s

-- What totals look at has the pair once: of the assets of each class, its own class has the asset once and no other one has it, and of the places of all links one is the place.
pub record IsCounted (s : State) (asset : ℕ) (p : Place) : Type 0 where
  pub row : Asset
  pub known : get s.assets asset ≡ Some row
  pub of_class : (class : Name) → count_by (nat_eq asset) (assets_of class s) ≡ (if same_name row.class class then 1 else 0)
  pub place : count_by (same_place p) (all_places s) ≡ 1

-- Totals count all members: each pair that is held, entered or gone, once, and the edit that entered it or took it away.
pub record CountsAll (s : State) : Type 0 where
  pub held : (asset : ℕ) (p : Place) → s.holds asset p ≡ true → IsCounted s asset p
  pub entered : (m asset : ℕ) (p : Place) → s.entered m asset p ≡ true → IsCounted s asset p × (count_by (nat_eq m) (edits_of s) ≡ 1)
  pub gone : (m asset : ℕ) (why : Reason) (p : Place) → s.gone m why asset p ≡ true → IsCounted s asset p × (count_by (nat_eq m) (edits_of s) ≡ 1)

abbrev pub LawfulCountsAll : Type 0
LawfulCountsAll = (s : State) → IsLawful s → CountsAll s

-- The records without those whose key was accepted before them.
abbrev pub once : Limits → List Record → State → List Record
once limits [] s = []
once limits (r ∷ rs) s = if is_some (place_of_key r.key s.done) then once limits rs s else r ∷ once limits rs (step_record limits r s).state

-- A repeated key acts once: the state after a list is the state after the list without every later record whose key was accepted before.
abbrev pub ActsOnce : Type 0
ActsOnce = (limits : Limits) (rs : List Record) (s : State) → state_after limits rs s ≡ state_after limits (once limits rs s) s

-- the edits that change a route's name, marks, direction or extent and no ground
abbrev pub is_route_edit : Command → Bool
is_route_edit (verb.Split route at name) = true
is_route_edit (verb.Join first second) = true
is_route_edit (verb.Renumber route name) = true
is_route_edit (verb.Recalibrate route marks) = true
is_route_edit (verb.Turn route) = true
is_route_edit _ = false

-- what the ledgers and the assets say, and who holds what
pub record SameAssets (old new : State) : Type 0 where
  pub assets : new.assets ≡ old.assets
  pub holds : new.holds ≡ old.holds
  pub entered : new.entered ≡ old.entered
  pub gone : new.gone ≡ old.gone

-- A route edit leaves what every asset holds, with its sides, and both ledgers.
abbrev pub RouteEditsKeep : Type 0
RouteEditsKeep = (limits : Limits) (key : Name) (command : Command) (s : State) → is_route_edit command ≡ true → SameAssets s (step limits key command s).state

-- Only a command that is done changes the state: any other answer leaves it.
abbrev pub OnlyDoneChanges : Type 0
OnlyDoneChanges = (limits : Limits) (key : Name) (command : Command) (s : State) → ((step limits key command s).answer ≡ Done (length s.done + 1)) ⊎ ((step limits key command s).state ≡ s)

-- Between chainages of a course there is no entry exactly where they are not in order: so an entry is `Empty` where its snapped ends meet or are exchanged.
abbrev pub NothingBetween : Type 0
NothingBetween = (course : List Ground) (e : EventStretch) → e.to ≤ length course → is_nothing (part_of course e) ≡ is_empty_stretch e

-- A sound image stands for a lawful state.
abbrev pub SoundIsLawful : Type 0
SoundIsLawful = (i : Image) → IsSound i → IsLawful (state_of i)

-- The image without entries is sound, and stands for the empty state.
abbrev pub EmptyIsSound : Type 0
EmptyIsSound = IsSound nothing × (state_of nothing ≡ nothing_known)

-- Equal lines come only of equal commands; each command that a program can make is well formed, by the types of its parts.
abbrev pub LinesTellCommandsApart : Type 0
LinesTellCommandsApart = (a b : Command) → IsWellFormed a → IsWellFormed b → line_of a ≡ line_of b → a ≡ b
