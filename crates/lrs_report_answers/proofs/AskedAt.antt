-- What is answered of the millimetre that a position stands in.
use Rattle.std.proofs.Common.{◌≡◌, ℕ, Some, Result, Ok, Err, length, ap, subst, ◌∙◌}
use Rattle.std.specs.Prelude.{MatchResult, slice_get}
use Rattle.lrs_measure.specs.Texts.{Name}
use Rattle.lrs_position.specs.declared.expression.Expr.{Expr}
use Rattle.lrs_position.specs.declared.location.PlaceFault.{PlaceFault}
use Rattle.lrs_position.specs.Locations.{Alignment, located_or_fault, cell}
use Rattle.lrs_position.specs.Translations.{alignment_of, referent_at}
use Rattle.lrs_machine.specs.declared.image.RouteRow.{RouteRow}
use Rattle.lrs_machine.specs.declared.image.Image.{Image}
use Rattle.lrs_machine.specs.Image.{state_of}
use Rattle.lrs_machine.specs.Machine.{referent_chainage}
use Rattle.lrs_machine.specs.Readings.{hits_on}
use Rattle.lrs_machine.specs.Register.{get}
use Rattle.lrs_machine.specs.Sound.{IsSound}
use Rattle.lrs_report_answers.specs.declared.fault.AskFault.{AskFault}
use Rattle.lrs_report_answers.specs.declared.fault.AskFault.TheVariants.{Place, Memory}
use Rattle.lrs_report_answers.specs.declared.hits.AtAnswer.{AtAnswer}
use Rattle.lrs_report_answers.specs.Answers.{IsRouteIn, UnlessMemory, StandsAt, IsAt}
use Rattle.lrs_report_answers.proofs.Asked.{on_route, referents_are}

ok_is : (m n : ℕ) → ◌≡◌ {A = Result ℕ PlaceFault} (Ok m) (Ok n) → m ≡ n
ok_is m n h = cc

err_is : (f g : PlaceFault) → ◌≡◌ {A = Result ℕ PlaceFault} (Err f) (Err g) → f ≡ g
err_is f g h = cc

module _ (i : Image) (name : Name) (r : RouteRow) (e : Expr) (sound : IsSound i) (known : IsRouteIn i r) (is : Some (alignment_of r.route) ≡ get (state_of i).routes name) where
  -- the millimetre of what is located, or the fault
  abbrev IsCell : Result ℕ PlaceFault → Result (ℕ × ℕ) PlaceFault → Type 0
  IsCell result place = MatchResult place (λ x. result ≡ Ok (cell (length r.route.course) x)) (λ fault. result ≡ Err fault)

  abbrev Asked : Result AtAnswer AskFault → Alignment → Result (ℕ × ℕ) PlaceFault → Type 0
  Asked result a place = MatchResult place (λ x. UnlessMemory (StandsAt (state_of i) a x) result) (λ fault. result ≡ Err (Place fault))

  as_state : (result : Result AtAnswer AskFault) → Asked result (alignment_of r.route) (located_or_fault (alignment_of r.route) (referent_at r.route.refs) e) → IsAt (state_of i) name e result
  as_state result h =
      on_route (state_of i) name (λ a result. Asked result a (located_or_fault a (referent_chainage (state_of i) a) e)) (alignment_of r.route) result is
      (subst (λ chainage_on. Asked result (alignment_of r.route) (located_or_fault (alignment_of r.route) chainage_on e)) (referents_are i r sound known) h)

  pub stands : (n : ℕ) (found : AtAnswer) → IsCell (Ok n) (located_or_fault (alignment_of r.route) (referent_at r.route.refs) e) → found.at ≡ n → slice_get r.route.course n ≡ Some found.ground → found.hits ≡ hits_on (state_of i) found.ground
      → IsAt (state_of i) name e (Ok found)
  stands n found h at entry hits = as_state (Ok found) (by (located_or_fault (alignment_of r.route) (referent_at r.route.refs) e) h)
    where
      by : (place : Result (ℕ × ℕ) PlaceFault) → IsCell (Ok n) place → Asked (Ok found) (alignment_of r.route) place
      by (Ok x) k = record { at = at ∙ ok_is n (cell (length r.route.course) x) k; ground = ap (slice_get r.route.course) at ∙ entry; hits = hits }
      by (Err f) k = absurd (cc k)

  pub no_memory : (n : ℕ) → IsCell (Ok n) (located_or_fault (alignment_of r.route) (referent_at r.route.refs) e) → IsAt (state_of i) name e (Err Memory)
  no_memory n h = as_state (Err Memory) (by (located_or_fault (alignment_of r.route) (referent_at r.route.refs) e) h)
    where
      by : (place : Result (ℕ × ℕ) PlaceFault) → IsCell (Ok n) place → Asked (Err Memory) (alignment_of r.route) place
      by (Ok x) k = λ j. Memory
      by (Err f) k = absurd (cc k)

  pub refused : (fault : PlaceFault) → IsCell (Err fault) (located_or_fault (alignment_of r.route) (referent_at r.route.refs) e) → IsAt (state_of i) name e (Err (Place fault))
  refused fault h = as_state (Err (Place fault)) (by (located_or_fault (alignment_of r.route) (referent_at r.route.refs) e) h)
    where
      by : (place : Result (ℕ × ℕ) PlaceFault) → IsCell (Err fault) place → Asked (Err (Place fault)) (alignment_of r.route) place
      by (Ok x) k = absurd (cc k)
      by (Err f) k = ap (λ g. Err (Place g)) (err_is fault f k)
