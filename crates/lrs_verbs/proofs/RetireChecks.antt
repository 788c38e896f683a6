-- The checks of a retirement, one after another.
use Rattle.std.proofs.Common.{◌≡◌, ℕ, Bool, true, false, Option, Some, None, Result, Ok, Err, ap, ◌∙◌}
use Rattle.std.specs.Prelude.{◌||◌, not}
use Rattle.std.specs.List.{list_any}
use Rattle.std.specs.Option.{ok_or}
use Rattle.lrs_inventory.specs.Prelude.{Name, Alignment, Kind, B, places_on, Cause, ◌>>=◌, ◌>>◌, EventStretch, located_stretch, part_of, attempt, State, Retired}
use Rattle.lrs_position.specs.Expressions.{Ends}
use Rattle.lrs_machine.specs.declared.answer.Cause.TheVariants as cause
use Rattle.lrs_machine.specs.declared.command.Command.TheVariants as verb
use Rattle.lrs_machine.specs.Register.{get}
use Rattle.lrs_machine.specs.Machine.{refuse_if, route_named, is_wrong_kind, is_empty_stretch, belongs_to, kind_of_asset, take_away}

module _ (asset : ℕ) (route : Name) (ends : Ends) (n : ℕ) (s : State) where
  -- whether there is nothing to retire
  abbrev pub is_bare : Alignment → EventStretch → Bool
  is_bare a x = is_empty_stretch x || not (list_any (s.holds asset) (places_on B (part_of a.course x)))

  abbrev pub retired : Alignment → EventStretch → State
  retired a x = take_away n Retired (belongs_to asset (part_of a.course x)) s

  abbrev on_stretch : Alignment → EventStretch → Result State Cause
  on_stretch a x = refuse_if (is_bare a x) cause.Empty >> Ok (retired a x)

  abbrev on_route : Kind → Alignment → Result State Cause
  on_route kind a = refuse_if (is_wrong_kind kind ends.to) cause.WrongKind >> (located_stretch s a ends >>= on_stretch a)

  abbrev of_kind : Kind → Result State Cause
  of_kind kind = route_named s route >>= on_route kind

  at_asset : (o : Option Kind) → kind_of_asset s asset ≡ o → attempt n (verb.Retire asset route ends) s ≡ (ok_or o cause.NoAsset >>= of_kind)
  unfolding attempt
  at_asset o is = ap (λ o. ok_or o cause.NoAsset >>= of_kind) is

  pub refuses_asset : kind_of_asset s asset ≡ None → attempt n (verb.Retire asset route ends) s ≡ Err cause.NoAsset
  refuses_asset none = at_asset None none

  module _ (kind : Kind) (known : kind_of_asset s asset ≡ Some kind) where
    at_route : (o : Option Alignment) → get s.routes route ≡ o → attempt n (verb.Retire asset route ends) s ≡ (ok_or o cause.NoRoute >>= on_route kind)
    at_route o is = at_asset (Some kind) known ∙ ap (λ o. ok_or o cause.NoRoute >>= on_route kind) is

    pub refuses_route : get s.routes route ≡ None → attempt n (verb.Retire asset route ends) s ≡ Err cause.NoRoute
    refuses_route none = at_route None none

    module _ (a : Alignment) (there : get s.routes route ≡ Some a) where
      at_kind : (b : Bool) → is_wrong_kind kind ends.to ≡ b → attempt n (verb.Retire asset route ends) s ≡ (refuse_if b cause.WrongKind >> (located_stretch s a ends >>= on_stretch a))
      at_kind b is = at_route (Some a) there ∙ ap (λ b. refuse_if b cause.WrongKind >> (located_stretch s a ends >>= on_stretch a)) is

      pub refuses_kind : is_wrong_kind kind ends.to ≡ true → attempt n (verb.Retire asset route ends) s ≡ Err cause.WrongKind
      refuses_kind wrong = at_kind true wrong

      module _ (right : is_wrong_kind kind ends.to ≡ false) where
        at_stretch : (r : Result EventStretch Cause) → located_stretch s a ends ≡ r → attempt n (verb.Retire asset route ends) s ≡ (r >>= on_stretch a)
        at_stretch r is = at_kind false right ∙ ap (λ r. r >>= on_stretch a) is

        pub refuses_stretch : (c : Cause) → located_stretch s a ends ≡ Err c → attempt n (verb.Retire asset route ends) s ≡ Err c
        refuses_stretch c is = at_stretch (Err c) is

        module _ (x : EventStretch) (stretch : located_stretch s a ends ≡ Ok x) where
          -- whether there is something to retire is what is left to see
          pub at_part : (b : Bool) → is_bare a x ≡ b → attempt n (verb.Retire asset route ends) s ≡ (refuse_if b cause.Empty >> Ok (retired a x))
          at_part b is = at_stretch (Ok x) stretch ∙ ap (λ b. refuse_if b cause.Empty >> Ok (retired a x)) is
