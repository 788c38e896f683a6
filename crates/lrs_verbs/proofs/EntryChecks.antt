-- The checks of an entry, one after another.
use Rattle.std.proofs.Common.{◌≡◌, ℕ, ◌-◌, ◌≤◌, Bool, true, false, cond, List, [], ◌∷◌, drop, length, Option, Some, None, Result, Ok, Err, refl, sym, ap, ◌∙◌, arith, ◌⊎◌, inl, inr}
use Rattle.std.proofs.lemmas.Bool.{leb-true, leb-false, ne_eqb, cases_Bool}
use Rattle.std.proofs.lemmas.List.{length-take, length-drop}
use Rattle.std.specs.Prelude.{◌||◌, ◌&&◌, nat_eq, nat_le}
use Rattle.std.specs.Option.{ok_or}
use Rattle.lrs_inventory.specs.Prelude.{Ground, Alignment, Kind, places_on, is_among, Cause, NewAsset, contains_key, ◌>>=◌, ◌>>◌, refuse_at, EventStretch, located_stretch, part_of, attempt, State, Retired}
use Rattle.lrs_measure.specs.Lists.{is_nothing}
use Rattle.lrs_machine.specs.Segments.{is_exclusive}
use Rattle.lrs_machine.specs.declared.answer.Cause.TheVariants as cause
use Rattle.lrs_machine.specs.declared.command.Command.TheVariants as verb
use Rattle.lrs_machine.specs.Register.{get}
use Rattle.lrs_machine.specs.Machine.{refuse_if, route_named, is_wrong_kind, is_empty_stretch, first_holder, Wanted, wanted_of, enter_asset, take_away, is_of_class}
use Rattle.lrs_verbs.specs.EntryRequests.{is_left_out}

-- ---- a part of a course without millimetres

no_length : (c : List Ground) → is_nothing c ≡ nat_eq (length c) 0
no_length [] = refl
no_length (g ∷ gs) = sym (ne_eqb (length (g ∷ gs)) 0 (λ h. omega (arith, h)))

pub nothing_there : (c : List Ground) (x : EventStretch) → x.to ≤ length c → is_nothing (part_of c x) ≡ is_empty_stretch x
nothing_there c x within = no_length (part_of c x) ∙ ap (λ n. nat_eq n 0) size ∙ by (cases_Bool (nat_le x.to x.from))
  where
    size : length (part_of c x) ≡ x.to - x.from
    size = let a = length-take (x.to - x.from) (drop x.from c) in let b = length-drop x.from c in omega (arith, a, b, within)

    by : (nat_le x.to x.from ≡ true) ⊎ (nat_le x.to x.from ≡ false) → nat_eq (x.to - x.from) 0 ≡ nat_le x.to x.from
    by (inl e) = let h = leb-true x.to x.from e in let none : x.to - x.from ≡ 0 = omega (arith, h) in ap (λ n. nat_eq n 0) none ∙ sym e
    by (inr e) = let h = leb-false x.to x.from e in ne_eqb (x.to - x.from) 0 (λ k. omega (arith, h, k)) ∙ sym e

-- ---- the checks in their order

-- what an entry asks for, where some kinds are not taken
module _ (e : NewAsset) (s : State) (is_not_taken : Kind → Bool) where
  abbrev wanted : Result Wanted Cause
  wanted = wanted_of is_not_taken e s

  abbrev on_stretch : Kind → Alignment → EventStretch → Result Wanted Cause
  on_stretch kind a x = refuse_if (is_nothing (part_of a.course x)) cause.Empty >> Ok (record { kind = kind; places = places_on e.side (part_of a.course x) })

  abbrev on_route : Kind → Alignment → Result Wanted Cause
  on_route kind a = refuse_if (is_wrong_kind kind e.location.to || is_not_taken kind) cause.WrongKind >> (located_stretch s a e.location >>= on_stretch kind a)

  abbrev of_kind : Kind → Result Wanted Cause
  of_kind kind = route_named s e.route >>= on_route kind

  abbrev of_class : Result Wanted Cause
  of_class = ok_or (get s.classes e.class) cause.NoClass >>= of_kind

  pub refuses_known : contains_key s.assets e.asset ≡ true → wanted ≡ Err cause.AssetKnown
  refuses_known known = ap (λ b. refuse_if b cause.AssetKnown >> of_class) known

  -- the asset is new
  module _ (fresh : contains_key s.assets e.asset ≡ false) where
    at_class : (o : Option Kind) → get s.classes e.class ≡ o → wanted ≡ (ok_or o cause.NoClass >>= of_kind)
    at_class o is = λ j. refuse_if (fresh j) cause.AssetKnown >> (ok_or (is j) cause.NoClass >>= of_kind)

    pub refuses_class : get s.classes e.class ≡ None → wanted ≡ Err cause.NoClass
    refuses_class none = at_class None none

    module _ (kind : Kind) (class : get s.classes e.class ≡ Some kind) where
      at_route : (o : Option Alignment) → get s.routes e.route ≡ o → wanted ≡ (ok_or o cause.NoRoute >>= on_route kind)
      at_route o is = at_class (Some kind) class ∙ ap (λ o. ok_or o cause.NoRoute >>= on_route kind) is

      pub refuses_route : get s.routes e.route ≡ None → wanted ≡ Err cause.NoRoute
      refuses_route none = at_route None none

      module _ (a : Alignment) (route : get s.routes e.route ≡ Some a) where
        at_kind : (b : Bool) → (is_wrong_kind kind e.location.to || is_not_taken kind) ≡ b → wanted ≡ (refuse_if b cause.WrongKind >> (located_stretch s a e.location >>= on_stretch kind a))
        at_kind b is = at_route (Some a) route ∙ ap (λ b. refuse_if b cause.WrongKind >> (located_stretch s a e.location >>= on_stretch kind a)) is

        pub refuses_kind : (is_wrong_kind kind e.location.to || is_not_taken kind) ≡ true → wanted ≡ Err cause.WrongKind
        refuses_kind wrong = at_kind true wrong

        module _ (right : (is_wrong_kind kind e.location.to || is_not_taken kind) ≡ false) where
          at_stretch : (r : Result EventStretch Cause) → located_stretch s a e.location ≡ r → wanted ≡ (r >>= on_stretch kind a)
          at_stretch r is = at_kind false right ∙ ap (λ r. r >>= on_stretch kind a) is

          pub refuses_stretch : (c : Cause) → located_stretch s a e.location ≡ Err c → wanted ≡ Err c
          refuses_stretch c is = at_stretch (Err c) is

          module _ (x : EventStretch) (stretch : located_stretch s a e.location ≡ Ok x) (within : x.to ≤ length a.course) where
            at_part : (b : Bool) → is_empty_stretch x ≡ b → wanted ≡ (refuse_if b cause.Empty >> Ok (record { kind = kind; places = places_on e.side (part_of a.course x) }))
            at_part b is = at_stretch (Ok x) stretch ∙ ap (λ b. refuse_if b cause.Empty >> Ok (record { kind = kind; places = places_on e.side (part_of a.course x) })) (nothing_there a.course x within ∙ is)

            pub refuses_empty : is_empty_stretch x ≡ true → wanted ≡ Err cause.Empty
            refuses_empty none = at_part true none

            pub wants : is_empty_stretch x ≡ false → wanted ≡ Ok (record { kind = kind; places = places_on e.side (part_of a.course x) })
            wants some = at_part false some

-- ---- what the verbs do with it

module _ (e : NewAsset) (n : ℕ) (s : State) where
  -- an asset is entered unless its places are held
  abbrev unless_held : Wanted → Result State Cause
  unless_held w = refuse_at (cond (is_exclusive w.kind) (first_holder s e.class w.places) None) cause.Overlap >> Ok (enter_asset n e w.places s)

  attempt-enter : attempt n (verb.Enter e) s ≡ (wanted_of (is_left_out false) e s >>= unless_held)
  unfolding attempt
  attempt-enter = refl

  pub enter_refused : (c : Cause) → wanted_of (is_left_out false) e s ≡ Err c → attempt n (verb.Enter e) s ≡ Err c
  enter_refused c is = attempt-enter ∙ ap (λ w. w >>= unless_held) is

  -- whether the places are held is what is left to see
  pub then_held : (w : Wanted) → wanted_of (is_left_out false) e s ≡ Ok w → (r : Result (Unit {0}) Cause) → refuse_at (cond (is_exclusive w.kind) (first_holder s e.class w.places) None) cause.Overlap ≡ r
      → attempt n (verb.Enter e) s ≡ (r >> Ok (enter_asset n e w.places s))
  then_held w is r held = attempt-enter ∙ ap (λ w. w >>= unless_held) is ∙ ap (λ r. r >> Ok (enter_asset n e w.places s)) held

  -- an asset is entered where what others of its class have of its places is taken away
  abbrev instead : Wanted → State
  instead w = enter_asset n e w.places (take_away n Retired (λ a p. is_of_class s e.class a && is_among w.places p) s)

  attempt-supersede : attempt n (verb.Supersede e) s ≡ (wanted_of (is_left_out true) e s >>= (λ w. Ok (instead w)))
  unfolding attempt
  attempt-supersede = refl

  pub supersede_refused : (c : Cause) → wanted_of (is_left_out true) e s ≡ Err c → attempt n (verb.Supersede e) s ≡ Err c
  supersede_refused c is = attempt-supersede ∙ ap (λ w. w >>= (λ w. Ok (instead w))) is

  pub supersede_done : (w : Wanted) → wanted_of (is_left_out true) e s ≡ Ok w → attempt n (verb.Supersede e) s ≡ Ok (instead w)
  supersede_done w is = attempt-supersede ∙ ap (λ w. w >>= (λ w. Ok (instead w))) is
