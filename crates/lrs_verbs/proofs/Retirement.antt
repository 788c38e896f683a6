-- The plan of a retirement: its refusals, and what it takes away.
use Rattle.std.proofs.Common.{◌≡◌, ℕ, ◌+◌, ◌≤◌, Bool, true, false, length, Option, Some, None, Ok, Err, refl, sym, ap, subst, ◌∙◌}
use Rattle.std.specs.List.{find, list_any}
use Rattle.std.specs.Option.{option_and_then, option_map}
use Rattle.std.specs.Prelude.{◌||◌, not}
use Rattle.lrs_inventory.specs.Prelude.{Name, alignment_of, Asset, Kind, B, places_on, Removal, IsRemoval, IsPlan, Cause, Image, RouteRow, state_of, asset_entry, route_entry, ◌>>◌, EventStretch, part_of, located_stretch, attempt, IsSound, Retired, is_named}
use Rattle.lrs_measure.specs.Lists.{In, is_nothing}
use Rattle.lrs_position.specs.Expressions.{Ends}
use Rattle.lrs_machine.specs.declared.answer.Cause.TheVariants as cause
use Rattle.lrs_machine.specs.declared.command.Command.TheVariants as verb
use Rattle.lrs_machine.specs.Register.{get}
use Rattle.lrs_machine.specs.Machine.{refuse_if, belongs_to, is_empty_stretch, is_wrong_kind, kind_of_asset}
use Rattle.lrs_machine.specs.State as state
use Rattle.lrs_inventory.specs.declared.plan.Plan.{Plan}
use Rattle.lrs_inventory.specs.Plans.{IsPlanOf}
use Rattle.lrs_verbs.specs.Removals.{of_asset_within, HasAsset, IsTaking}
use Rattle.lrs_inventory.proofs.Known.{none_found, route_value}
use Rattle.lrs_inventory.proofs.Located.{route_in}
use Rattle.lrs_verbs.proofs.RetireChecks as checks
use Rattle.lrs_verbs.proofs.RetiredPlaces.{taken_so, some_is_left}
use Rattle.lrs_verbs.proofs.TakenInPlace.{takes_in_place}

-- ---- what is looked up

-- the asset of a number, where it is found
pub found_asset : (i : Image) (n asset : ℕ) (y : Asset) → n ≡ asset → Some (asset_entry y) ≡ option_map (λ a. (n, a)) (get (state_of i).assets n) → (y.number ≡ asset) × (get (state_of i).assets y.number ≡ Some (asset_entry y).1)
found_asset i n asset y same h = by (get (state_of i).assets n) refl h
  where
    one : (a b : ℕ × state.Asset) → Some a ≡ Some b → a ≡ b
    one a b w = cc

    by : (o : Option state.Asset) → get (state_of i).assets n ≡ o → Some (asset_entry y) ≡ option_map (λ a. (n, a)) o → (y.number ≡ asset) × (get (state_of i).assets y.number ≡ Some (asset_entry y).1)
    by None e w = absurd (cc w)
    by (Some a) e w =
        let is = one (asset_entry y) (n, a) w in
        let number : y.number ≡ n = ap (λ (z : ℕ × state.Asset). z.0) is in
        (number ∙ same, ap (get (state_of i).assets) number ∙ e ∙ ap (λ (z : ℕ × state.Asset). Some z.1) (sym is))

module _ (i : Image) (asset : ℕ) where
  abbrev class_kind : state.Asset → Option Kind
  class_kind a = get (state_of i).classes a.class

  -- the kind of an asset that is found is that of its class
  pub its_kind : (y : Asset) → y.number ≡ asset → get (state_of i).assets y.number ≡ Some (asset_entry y).1 → kind_of_asset (state_of i) asset ≡ get (state_of i).classes y.class
  its_kind y number known = ap (λ (n : ℕ). option_and_then class_kind (get (state_of i).assets n)) (sym number) ∙ ap (option_and_then class_kind) known

  module _ (route : Name) (ends : Ends) where
    pub refuses_unknown : (n : ℕ) → n ≡ asset → ◌≡◌ {A = Option (ℕ × state.Asset)} None (option_map (λ a. (n, a)) (get (state_of i).assets n)) → attempt (length i.edits + 1) (verb.Retire asset route ends) (state_of i) ≡ Err cause.NoAsset
    refuses_unknown n same none =
        checks.refuses_asset asset route ends (length i.edits + 1) (state_of i) (ap (λ (n : ℕ). option_and_then class_kind (get (state_of i).assets n)) (sym same) ∙ ap (option_and_then class_kind) (none_found _ (get (state_of i).assets n) none))

    pub refuses_class : kind_of_asset (state_of i) asset ≡ None → attempt (length i.edits + 1) (verb.Retire asset route ends) (state_of i) ≡ Err cause.NoAsset
    refuses_class = checks.refuses_asset asset route ends (length i.edits + 1) (state_of i)

    pub refuses_route : (kind : Kind) → kind_of_asset (state_of i) asset ≡ Some kind → find (is_named route) i.routes ≡ None → attempt (length i.edits + 1) (verb.Retire asset route ends) (state_of i) ≡ Err cause.NoRoute
    refuses_route kind known none = checks.refuses_route asset route ends (length i.edits + 1) (state_of i) kind known (route_value i route ∙ ap (option_map (λ (e : RouteRow). (route_entry e).1)) none)

-- ---- the plan

module _ (i : Image) (r : RouteRow) (asset : Asset) (kind : Kind) (ends : Ends) (s : IsSound i) (has : HasAsset i asset kind r) where
  abbrev n : ℕ
  n = length i.edits + 1

  kind_is : kind_of_asset (state_of i) asset.number ≡ Some kind
  kind_is = its_kind i asset.number asset refl has.known ∙ has.class

  there : get (state_of i).routes r.route.name ≡ Some (alignment_of r.route)
  there = route_value i r.route.name ∙ ap (option_map (λ (e : RouteRow). (route_entry e).1)) has.route

  pub refuses_kind : is_wrong_kind kind ends.to ≡ true → attempt n (verb.Retire asset.number r.route.name ends) (state_of i) ≡ Err cause.WrongKind
  refuses_kind = checks.refuses_kind asset.number r.route.name ends n (state_of i) kind kind_is (alignment_of r.route) there

  module _ (right : is_wrong_kind kind ends.to ≡ false) where
    pub refuses_stretch : (c : Cause) → located_stretch (state_of i) (alignment_of r.route) ends ≡ Err c → attempt n (verb.Retire asset.number r.route.name ends) (state_of i) ≡ Err c
    refuses_stretch = checks.refuses_stretch asset.number r.route.name ends n (state_of i) kind kind_is (alignment_of r.route) there right

    module _ (x : EventStretch) (stretch : located_stretch (state_of i) (alignment_of r.route) ends ≡ Ok x) where
      abbrev holds_there : Bool
      holds_there = list_any ((state_of i).holds asset.number) (places_on B (part_of r.route.course x))

      at_part : (b : Bool) → (is_empty_stretch x || not holds_there) ≡ b
          → attempt n (verb.Retire asset.number r.route.name ends) (state_of i) ≡ (refuse_if b cause.Empty >> Ok (checks.retired asset.number r.route.name ends n (state_of i) (alignment_of r.route) x))
      at_part = checks.at_part asset.number r.route.name ends n (state_of i) kind kind_is (alignment_of r.route) there right x stretch

      pub refuses_empty : is_empty_stretch x ≡ true → attempt n (verb.Retire asset.number r.route.name ends) (state_of i) ≡ Err cause.Empty
      refuses_empty none = at_part true (ap (λ b. b || not holds_there) none)

      module _ (removal : Removal) (some : is_empty_stretch x ≡ false) (within : x.to ≤ length r.route.course) (is : IsRemoval (of_asset_within asset x) r.spans removal) where
        in_routes : In r i.routes
        in_routes = route_in i r has.route

        -- there is nothing to retire where nothing is handed back
        bare : (is_empty_stretch x || not holds_there) ≡ is_nothing removal.left.items
        bare = (λ j. some j || not (some_is_left i r asset x s in_routes has.known removal within is j)) ∙ twice (is_nothing removal.left.items)
          where
            twice : (b : Bool) → not (not b) ≡ b
            twice true = refl
            twice false = refl

        pub refuses_bare : is_nothing removal.left.items ≡ true → attempt n (verb.Retire asset.number r.route.name ends) (state_of i) ≡ Err cause.Empty
        refuses_bare none = at_part true (bare ∙ none)

        -- The verb takes away what the asset holds there, where its checks have passed.
        pub retires : IsPlan r.spans removal.change → is_nothing removal.left.items ≡ false → (p : Plan) → IsTaking n Retired r removal p → IsPlanOf (verb.Retire asset.number r.route.name ends) i p
        retires plan found p taking =
            subst (IsPlanOf (verb.Retire asset.number r.route.name ends) i) (sym taking.plan_is)
            (takes_in_place (verb.Retire asset.number r.route.name ends) i r Retired (of_asset_within asset x) (belongs_to asset.number (part_of r.route.course x)) removal taking.gone s has.route
            plan is (taken_so i r asset x s in_routes has.known) taking.are_gone (at_part false (bare ∙ found)))
