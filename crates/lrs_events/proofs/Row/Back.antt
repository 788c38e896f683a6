-- Removed rows that are inserted again.
use Rattle.std.proofs.Common.{◌≡◌, ℕ, ◌+◌, ◌-◌, ◌<◌, ◌≤◌, Bool, true, false, ◌⊎◌, inl, inr, refl, sym, ◌∙◌, arith}
use Rattle.std.specs.Prelude.{◌&&◌, nat_lt, nat_le}
use Rattle.std.proofs.lemmas.Bool.{lt-ltb, le-ltb, leb-true, cases_lt, cases_Bool}
use Rattle.lrs_measure.specs.Texts.{Name}
use Rattle.lrs_measure.proofs.Members.{all_at, any_found}
use Rattle.lrs_events.specs.declared.side.LinkSide.{LinkSide}
use Rattle.lrs_events.specs.declared.side.LinkSide.TheVariants.{Left, Right}
use Rattle.lrs_events.specs.Places.{other_side}
use Rattle.lrs_events.specs.Members.{has_member, is_member, SameMembers}
use Rattle.lrs_events.specs.Row.Inverses.{JoinUndoesCut, TurnUndoesTurn}
use Rattle.lrs_events.proofs.Row.Unique.{over, rows_are_one}

and_one : (b : Bool) → (b && true) ≡ b
and_one true = refl
and_one false = refl

pub join_undoes_cut : JoinUndoesCut
join_undoes_cut at rows front rear new h k cut join = rows_are_one new rows k h same
  where
    same : SameMembers new rows
    same class asset j s = by (cases_lt j at)
      where
        by : (j < at) ⊎ (at ≤ j) → is_member new class asset j s ≡ is_member rows class asset j s
        by (inl l) = join.before class asset j s l ∙ cut.before class asset j s ∙ (λ i. is_member rows class asset j s && lt-ltb j at l i) ∙ and_one (is_member rows class asset j s)
        by (inr l) =
            let e : j - at + at ≡ j = omega (arith, l) in
            (λ i. is_member new class asset (sym e i) s) ∙ join.behind class asset (j - at) s ∙ cut.behind class asset (j - at) s ∙ (λ i. is_member rows class asset (e i) s)

other_twice : (s : LinkSide) → other_side (other_side s) ≡ s
other_twice Left = refl
other_twice Right = refl

pub turn_undoes_turn : TurnUndoesTurn
turn_undoes_turn len rows once twice h e k t u = rows_are_one twice rows k h same
  where
    past : (class : Name) (asset j : ℕ) (s : LinkSide) → len ≤ j → (is_member rows class asset j s ≡ true) ⊎ (is_member rows class asset j s ≡ false) → is_member rows class asset j s ≡ false
    past class asset j s l (inr b) = b
    past class asset j s l (inl b) =
        let f = any_found (λ q. has_member q class asset j s) rows b in
        let o = (over f.0 class asset j s f.2).high in
        let m = leb-true f.0.to len (all_at (λ r. nat_le r.to len) f.0 rows e f.1) in
        absurd (omega (arith, o, m, l))

    same : SameMembers twice rows
    same class asset j s = u class asset j s ∙ by (cases_lt j len)
      where
        by : (j < len) ⊎ (len ≤ j) → (nat_lt j len && is_member once class asset (len - 1 - j) (other_side s)) ≡ is_member rows class asset j s
        by (inl l) =
            let a : len - 1 - j < len = omega (arith, l) in
            let b : len - 1 - (len - 1 - j) ≡ j = omega (arith, l) in
            (λ i. lt-ltb j len l i && is_member once class asset (len - 1 - j) (other_side s))
            ∙ t class asset (len - 1 - j) (other_side s)
            ∙ (λ i. lt-ltb (len - 1 - j) len a i && is_member rows class asset (b i) (other_twice s i))
        by (inr l) = (λ i. le-ltb j len l i && is_member once class asset (len - 1 - j) (other_side s)) ∙ sym (past class asset j s l (cases_Bool (is_member rows class asset j s)))
