-- A chainage is found exactly where an expression locates one.
use Rattle.std.proofs.Common.{◌≡◌, ℕ, ◌<◌, true, is_some, Option, Some, None, refl}
use Rattle.lrs_measure.specs.Texts.{Name}
use Rattle.lrs_position.specs.declared.expression.Expr.{Expr}
use Rattle.lrs_position.specs.Locations.{Alignment, located}
use Rattle.lrs_position.specs.Translations.{alignment_of, number_of}
use Rattle.lrs_position.proofs.Answering.{IsSound-from_route}
use Rattle.lrs_position.proofs.Located.{IsSound, located-sound, located-some, Locates-same}
use Rattle.lrs_report_answers.specs.Place.Laws.{IsExact, LocatedIsExact}

there_is : {X : Type 0} (o : Option X) → is_some o ≡ true → (y : X) × (o ≡ Some y)
there_is None h = absurd (cc h)
there_is (Some y) h = (y, refl)

exact : (a : Alignment) (chainage_on : Name → Option ℕ) (e : Expr) → IsSound a → 0 < (number_of e).den → IsExact a chainage_on e
exact a chainage_on e sound filled = record {
  locates = λ x h. located-sound a chainage_on e x sound filled h;
  found = λ x h.
      let y = there_is (located a chainage_on e) (located-some a chainage_on e x sound h) in
      (y.0, y.1, Locates-same a chainage_on e x y.0 sound filled h (located-sound a chainage_on e y.0 sound filled y.1));
}

pub located_is_exact : LocatedIsExact
located_is_exact route chainage_on e filled = exact (alignment_of route) chainage_on e (IsSound-from_route route) filled
