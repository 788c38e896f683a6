-- Registers: rows in the order of their keys, one for each key. They compute, which a finite map of std does not.
use Rattle.std.specs.Prelude.{ℕ, Bool, not, List, [], ◌∷◌, filter, length, Option, is_some}
use Rattle.std.specs.declared.cmp.Ordering.{Ordering}
use Rattle.std.specs.Ordering.{eq_by_cmp}
use Rattle.std.specs.declared.cmp.Ordering.TheVariants.{Less, Equal, Greater}
use Rattle.std.specs.FinMap.{find}

pub record Register {K : Type 0} (R : K → K → Ordering) (X : Type 0) : Type 0 where
  pub rows : List (K × X)

abbrev pub by_order : {A : Type 0} → Ordering → A → A → A → A
by_order Less a b c = a
by_order Equal a b c = b
by_order Greater a b c = c

-- the rows with this one in its place; at a known key the value is new
abbrev pub put : {K X : Type 0} → (K → K → Ordering) → K → X → List (K × X) → List (K × X)
put R k v [] = (k, v) ∷ []
put R k v (e ∷ es) = by_order (R k e.0) ((k, v) ∷ e ∷ es) ((e.0, v) ∷ es) (e ∷ put R k v es)

module _ {K X : Type 0} {R : K → K → Ordering} where
  abbrev pub empty : Register R X
  empty = record { rows = [] }

  abbrev pub entries : Register R X → List (K × X)
  entries t = t.rows

  abbrev pub get : Register R X → K → Option X
  get t k = find R k t.rows

  abbrev pub contains_key : Register R X → K → Bool
  contains_key t k = is_some (get t k)

  abbrev pub insert : Register R X → K → X → Register R X
  insert t k v = record { rows = put R k v t.rows }

  abbrev pub remove : Register R X → K → Register R X
  remove t k = record { rows = filter (λ e. not (eq_by_cmp R k e.0)) t.rows }

  abbrev pub len : Register R X → ℕ
  len t = length t.rows
