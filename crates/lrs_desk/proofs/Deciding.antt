-- How the ground machine answers a command, by what is found in an image.
use Rattle.std.proofs.Common.{◌≡◌, ℕ, ◌+◌, ◌≤◌, Bool, true, false, cond, List, [], ◌∷◌, length, map, Option, Some, None, Result, Ok, Err, refl, sym, ap, ◌∙◌, arith, ◌⊎◌, inl, inr}
use Rattle.std.specs.Prelude.{not, ◌&&◌, nat_le, nat_lt, option_map}
use Rattle.std.specs.List.{position, prefix_len}
use Rattle.std.specs.Option.{option_and_then}
use Rattle.std.proofs.lemmas.Bool.{and_parts, leb-true}
use Rattle.std.proofs.lemmas.Bool.Decides.{nat_tests}
use Rattle.std.proofs.lemmas.List.{map-append, length-map}
use Rattle.lrs_measure.specs.Texts.{Name, same_name}
use Rattle.lrs_machine.specs.declared.answer.Limits.{Limits}
use Rattle.lrs_machine.specs.declared.answer.What.{What}
use Rattle.lrs_machine.specs.declared.answer.What.TheVariants.{Edits, Assets, Routes}
use Rattle.lrs_machine.specs.declared.answer.Cause.{Cause}
use Rattle.lrs_machine.specs.declared.answer.Cause.TheVariants as cause
use Rattle.lrs_machine.specs.declared.answer.Answer.TheVariants.{Done, Refused}
use Rattle.lrs_machine.specs.declared.command.Command.{Command}
use Rattle.lrs_machine.specs.declared.image.Edit.{Edit}
use Rattle.lrs_machine.specs.declared.image.Image.{Image}
use Rattle.lrs_inventory.specs.declared.plan.Plan.{Plan}
use Rattle.lrs_measure.specs.Limits.{most_routes, most_assets, most_edits}
use Rattle.lrs_machine.specs.State.{State}
use Rattle.lrs_machine.specs.State as state
use Rattle.lrs_machine.specs.Image.{state_of, asset_entry, route_entry}
use Rattle.lrs_machine.specs.Stop.KnownEdits as known
use Rattle.lrs_image.specs.Change.{with_difference, apply}
use Rattle.lrs_inventory.specs.Keys.{place_among}
use Rattle.lrs_machine.specs.Lines.{line_of}
use Rattle.lrs_machine.specs.Sound.{IsSound}
use Rattle.lrs_machine.specs.Machine.{Outcome, step, attempt, step_by_key, outcome_of, next, answer_known, line_at, place_of_key, check_room, refuse_if, ◌>>◌, needs_asset, needs_route}
use Rattle.lrs_inventory.specs.Plans.{IsPlanOf, change_of}
use Rattle.lrs_verbs.proofs.Made.{plans_can_be_made}
use Rattle.lrs_machine.specs.declared.table.Table.{Table}
use Rattle.lrs_image.specs.declared.keeper.LoadFault.{LoadFault}
use Rattle.lrs_image.specs.declared.keeper.LoadFault.TheVariants as load
use Rattle.lrs_desk.specs.declared.desk.OpenFault.TheVariants as opened
use Rattle.lrs_desk.specs.Desk.{IsOldOrNext, opened_by}
use Rattle.lrs_desk.specs.Decisions.{IsDoneBy, HasRoom, LacksRoom, edit_of, done_image}

-- an edit as the ground machine keeps it
abbrev pub kept_edit : Edit → state.Edit
kept_edit e = record { key = e.key; line = e.line }

module _ {X Y : Type 0} (f : X → Y) (p : Y → Bool) where
  prefix_len-map : (xs : List X) → prefix_len (λ y. not (p y)) (map f xs) ≡ prefix_len (λ x. not (p (f x))) xs
  prefix_len-map [] = refl
  prefix_len-map (x ∷ xs) = ap (λ n. cond (not (p (f x))) (1 + n) 0) (prefix_len-map xs)

  pub position-map : (xs : List X) → position p (map f xs) ≡ position (λ x. p (f x)) xs
  position-map xs = λ j. cond (nat_lt (prefix_len-map xs j) (length-map xs f j)) (Some (prefix_len-map xs j)) None

-- The key is known: nothing changes.
pub step-known : (limits : Limits) (key : Name) (command : Command) (s : State) (place : ℕ) → place_of_key key s.done ≡ Some place
    → step limits key command s ≡ record { answer = answer_known (place + 1) (line_at place s.done) (line_of command); state = s }
unfolding step
step-known limits key command s place at = ap (step_by_key limits key command s) at

-- the place of which a number is one more
pub place_before : (n : ℕ) (o : Option ℕ) → Some n ≡ option_map (λ place. place + 1) o → (place : ℕ) × (o ≡ Some place) × (n ≡ place + 1)
place_before n None h = absurd (cc h)
place_before n (Some place) h = (place, refl, cc h)

pub no_place : (o : Option ℕ) → ◌≡◌ {A = Option ℕ} None (option_map (λ place. place + 1) o) → o ≡ None
no_place None h = refl
no_place (Some place) h = absurd (cc h)

-- The edit that a command is, where its key is known.
pub edit_at : (s : State) (key : Name) (command : Command) (place : ℕ) → place_of_key key s.done ≡ Some place
    → known.edit_of s (record { key = key; command = command }) ≡ cond (same_name (line_at place s.done) (line_of command)) (Some (place + 1)) None
edit_at s key command place at = ap (option_and_then (λ (place : ℕ). cond (same_name (line_at place s.done) (line_of command)) (Some (place + 1)) None)) at

-- ... and where it is not
pub no_edit : (s : State) (key : Name) (command : Command) → place_of_key key s.done ≡ None → known.edit_of s (record { key = key; command = command }) ≡ None
no_edit s key command none = ap (option_and_then (λ (place : ℕ). cond (same_name (line_at place s.done) (line_of command)) (Some (place + 1)) None)) none

-- no edit of an image has the key
pub new_key : (key : Name) (i : Image) → place_of_key key (state_of i).done ≡ None → place_among i.edits key ≡ None
unfolding state_of
new_key key i none = sym (position-map kept_edit (λ e. same_name e.key key) i.edits) ∙ none

-- The key is new.
step-new : (limits : Limits) (key : Name) (command : Command) (i : Image) → place_among i.edits key ≡ None
    → step limits key command (state_of i) ≡ outcome_of key command (state_of i) (next limits command (state_of i))
unfolding step state_of
step-new limits key command i none =
    ap (step_by_key limits key command (state_of i)) (position-map kept_edit (λ e. same_name e.key key) i.edits ∙ none)

abbrev three : Bool → Bool → Bool → Result (Unit {0}) Cause
three a b c = refuse_if a (cause.TooMany Edits) >> (refuse_if b (cause.TooMany Assets) >> refuse_if c (cause.TooMany Routes))

-- the limits, by the lengths of the image's lists
room-image : (limits : Limits) (command : Command) (i : Image)
    → check_room limits command (state_of i) ≡ three (nat_le limits.edits (length i.edits)) (needs_asset command && nat_le limits.assets (length i.assets)) (needs_route command && nat_le limits.routes (length i.routes))
unfolding state_of
room-image limits command i =
    let edits = length-map i.edits kept_edit in
    let assets = length-map i.assets asset_entry in
    let routes = length-map i.routes route_entry in
    λ j. three (nat_le limits.edits (edits j)) (needs_asset command && nat_le limits.assets (assets j)) (needs_route command && nat_le limits.routes (routes j))

-- A limit leaves no room.
lacks : (what : What) (limits : Limits) (command : Command) (i : Image) → LacksRoom what limits command i
    → three (nat_le limits.edits (length i.edits)) (needs_asset command && nat_le limits.assets (length i.assets)) (needs_route command && nat_le limits.routes (length i.routes)) ≡ Err (cause.TooMany what)
lacks Edits limits command i h = λ j. three (h j) (needs_asset command && nat_le limits.assets (length i.assets)) (needs_route command && nat_le limits.routes (length i.routes))
lacks Assets limits command i h = λ j. three (h.0 j) (h.1 j) (needs_route command && nat_le limits.routes (length i.routes))
lacks Routes limits command i h = λ j. three (h.0 j) (h.1 j) (h.2 j)

-- limits are no greater than there may be edits
limits_few : (limits : Limits) → limits.edits ≤ most_edits
limits_few limits = leb-true limits.edits most_edits (and_parts (nat_le limits.routes most_routes && nat_le limits.assets most_assets) (nat_le limits.edits most_edits) limits.bounds).1

limits_few_routes : (limits : Limits) → limits.routes ≤ most_routes
limits_few_routes limits =
    let both = and_parts (nat_le limits.routes most_routes && nat_le limits.assets most_assets) (nat_le limits.edits most_edits) limits.bounds in
    leb-true limits.routes most_routes (and_parts (nat_le limits.routes most_routes) (nat_le limits.assets most_assets) both.0).0

limits_few_assets : (limits : Limits) → limits.assets ≤ most_assets
limits_few_assets limits =
    let both = and_parts (nat_le limits.routes most_routes && nat_le limits.assets most_assets) (nat_le limits.edits most_edits) limits.bounds in
    leb-true limits.assets most_assets (and_parts (nat_le limits.routes most_routes) (nat_le limits.assets most_assets) both.0).1

module _ (limits : Limits) (key : Name) (command : Command) (i : Image) (none : place_among i.edits key ≡ None) where
  pub step-limited : (what : What) → LacksRoom what limits command i → step limits key command (state_of i) ≡ record { answer = Refused (cause.TooMany what); state = state_of i }
  step-limited what h =
      step-new limits key command i none
      ∙ ap (λ r. outcome_of key command (state_of i) (r >> attempt (length (state_of i).done + 1) command (state_of i))) (room-image limits command i ∙ lacks what limits command i h)

  -- what is next is what the verb does
  next-attempt : HasRoom limits command i → next limits command (state_of i) ≡ attempt (length i.edits + 1) command (state_of i)
  unfolding state_of
  next-attempt room =
      ap (λ r. r >> attempt (length (state_of i).done + 1) command (state_of i)) (room-image limits command i ∙ (λ j. three (room.edits j) (room.assets j) (room.routes j)))
      ∙ ap (λ n. attempt (n + 1) command (state_of i)) (length-map i.edits kept_edit)

  pub step-refused : (c : Cause) → HasRoom limits command i → attempt (length i.edits + 1) command (state_of i) ≡ Err c
      → step limits key command (state_of i) ≡ record { answer = Refused c; state = state_of i }
  step-refused c room refused = step-new limits key command i none ∙ ap (outcome_of key command (state_of i)) (next-attempt room ∙ refused)

  done_is : (p : Plan) → outcome_of key command (state_of i) (Ok (state_of (with_difference p.difference i))) ≡ record { answer = Done (length i.edits + 1); state = state_of (done_image key command p i) }
  unfolding state_of
  done_is p = λ j. record {
    answer = Done (length-map i.edits kept_edit j + 1);
    state = record (state_of (with_difference p.difference i)) { done = sym (map-append kept_edit i.edits (edit_of key command ∷ [])) j };
  }

  pub is_done : (p : Plan) → IsSound i → HasRoom limits command i → IsPlanOf command i p → IsDoneBy limits key command i p
  is_done p sound room plan = record {
    is_plan = plan;
    outcome = step-new limits key command i none ∙ ap (outcome_of key command (state_of i)) (next-attempt room ∙ plan.makes.state) ∙ done_is p;
    sound = (plans_can_be_made command i p (edit_of key command) sound plan
        (record { assets = few_rows (needs_asset command) (length i.assets) limits.assets most_assets room.assets (limits_few_assets limits); routes = few_rows (needs_route command) (length i.routes) limits.routes most_routes room.routes (limits_few_routes limits) })
        none (few room.edits (limits_few limits))).sound;
  }
    where
      few : nat_le limits.edits (length i.edits) ≡ false → limits.edits ≤ most_edits → length i.edits + 1 ≤ most_edits
      few h k = grind (arith, nat_tests)

      few_rows : (b : Bool) (n limit most : ℕ) → (b && nat_le limit n) ≡ false → limit ≤ most → b ≡ true → n + 1 ≤ most
      few_rows true n limit most h k e = grind (arith, nat_tests)
      few_rows false n limit most h k e = absurd (cc e)

-- What may be found after a failed commit of what is done: the old image, or one of the next state.
pub old_or_next : (limits : Limits) (key : Name) (command : Command) (i : Image) (p : Plan) (e : Edit) → IsDoneBy limits key command i p → e ≡ edit_of key command → (c : Result Image Table)
    → (c ≡ Ok i) ⊎ (c ≡ Ok (apply (change_of e p) i)) → IsOldOrNext limits (record { key = key; command = command } ∷ []) i c
old_or_next limits key command i p e d same c (inl a) = inl a
old_or_next limits key command i p e d same c (inr a) = inr (done_image key command p i, a ∙ ap (λ (e : Edit). Ok (apply (change_of e p) i)) same, sym (ap (λ (o : Outcome). o.state) d.outcome), d.sound)

-- A desk asks for no other table than its keeper named.
pub opened_unsound : (f : LoadFault) (t : Table) → opened_by f ≡ opened.Unsound t → f ≡ load.Unsound t
opened_unsound load.Memory t e = absurd (cc e)
opened_unsound load.Store t e = absurd (cc e)
opened_unsound (load.Unsound u) t e = ap load.Unsound (cc e)
