-- A position that is translated to another method comes back.
use Rattle.std.proofs.Common.{◌≡◌, ℕ, false, Option, Some, Result, Ok, Err, refl, sym, ap, subst, ◌∙◌}
use Rattle.std.specs.Prelude.{IsOkAnd, IsTrue, MatchOption}
use Rattle.lrs_measure.specs.Texts.{Name}
use Rattle.lrs_position.specs.Expressions.{is_entered}
use Rattle.lrs_position.specs.Locations.{Alignment, Locates}
use Rattle.lrs_position.specs.Translations.{RoundTrip, Translates, misses_referent, target_of}
use Rattle.lrs_position.specs.declared.expression.Expr.{Expr}
use Rattle.lrs_position.specs.declared.expression.Target.{Target}
use Rattle.lrs_position.specs.declared.location.PlaceFault.{PlaceFault}
use Rattle.lrs_machine.specs.Machine.{referent_chainage}
use Rattle.lrs_machine.specs.Register.{get}
use Rattle.lrs_machine.specs.State.{State}
use Rattle.lrs_report_answers.specs.Answers.{as_asked}
use Rattle.lrs_report_answers.specs.ToldAnswers.{IsTranslated}
use Rattle.lrs_report_answers.specs.declared.fault.AskFault.{AskFault}
use Rattle.lrs_promises.specs.RoundTrip.{IsTripOf}
use Rattle.lrs_promises.specs.declared.translation.Trip.{Trip}

-- there is an option, and this is so of what it has
of_some : {A : Type 0} (o : Option A) (x : A) (N : Type 0) (P : A → Type 0) → o ≡ Some x → MatchOption o N P → P x
of_some o x N P e h = subst (λ m. MatchOption m N P) e h

ok_once : {A E : Type 0} (x y : A) → ◌≡◌ {A = Result A E} (Ok x) (Ok y) → x ≡ y
ok_once x y e = cc

no_fault : {A E : Type 0} (x : A) (e : E) → ◌≡◌ {A = Result A E} (Ok x) (Err e) → ⊥
no_fault x e is = cc

-- an expression locates the same chainage, and whatever translates it back gives the one that was entered
pub record Leaves (a : Alignment) (on : Name → Option ℕ) (entered : Expr) (x : ℕ × ℕ) (there : Expr) : Type 0 where
  pub locates : Locates a on there x
  pub back : (back : Result Expr PlaceFault) → Translates a on there (target_of entered) back → back ≡ Ok entered

module _ (s : State) (route : Name) (a : Alignment) (is_route : get s.routes route ≡ Some a) (entered : Expr) (x : ℕ × ℕ) where
  abbrev on : Name → Option ℕ
  on = referent_chainage s a

  pub leaves : (target : Target) (there : Expr) → IsTrue (is_entered entered) → Locates a on entered x → misses_referent on target ≡ false → IsTranslated s route entered target (Ok there) → Leaves a on entered x there
  leaves target there enters located misses translated = by (of_some (get s.routes route) a _ _ is_route translated)
    where
      by : ((found : Result Expr PlaceFault) × (Translates a on entered target found × RoundTrip a on entered target found) × (Ok there ≡ as_asked found)) → Leaves a on entered x there
      by (Ok t, (translates, trip), is) =
          let h = trip enters x located misses in
          subst (λ e. Leaves a on entered x e) (sym (ok_once there t is)) (record { locates = h.0; back = h.1 })
      by (Err fault, (translates, trip), is) = absurd (trip enters x located misses)

  -- so it is never refused
  pub never : (target : Target) (fault : AskFault) → IsTrue (is_entered entered) → Locates a on entered x → misses_referent on target ≡ false → IsTranslated s route entered target (Err fault) → ⊥
  never target fault enters located misses translated = by (of_some (get s.routes route) a _ _ is_route translated)
    where
      by : ((found : Result Expr PlaceFault) × (Translates a on entered target found × RoundTrip a on entered target found) × (Err fault ≡ as_asked found)) → ⊥
      by (Ok t, (translates, trip), is) = no_fault t fault (sym is)
      by (Err other, (translates, trip), is) = trip enters x located misses

  pub comes : (there : Expr) (answer : Result Expr AskFault) → Leaves a on entered x there → IsTranslated s route there (target_of entered) answer → answer ≡ Ok entered
  comes there answer left translated = by (of_some (get s.routes route) a _ _ is_route translated)
    where
      by : ((found : Result Expr PlaceFault) × (Translates a on there (target_of entered) found × RoundTrip a on there (target_of entered) found) × (answer ≡ as_asked found)) → answer ≡ Ok entered
      by (found, (translates, trip), is) = is ∙ ap as_asked (left.back found translates)

  pub trip : (there : Expr) (back : Result Expr AskFault) (result : Result Trip AskFault) → Leaves a on entered x there → IsTranslated s route there (target_of entered) back → IsTripOf there back result
      → IsOkAnd result (λ t. Locates a on t.there x × (t.back ≡ entered))
  trip there back result left translated is =
      let came = comes there back left translated in
      let ended : result ≡ Ok (record { there = there; back = entered }) = subst (λ b. IsTripOf there b result) came is in
      subst (λ r. IsOkAnd r (λ t. Locates a on t.there x × (t.back ≡ entered))) (sym ended) (left.locates, refl)
