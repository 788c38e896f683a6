-- The routes that run over parts, part after part.
use Rattle.std.proofs.Common.{◌↔◌, ℕ, zero, suc, ◌+◌, ◌<◌, ◌⊎◌, inl, inr, List, [], ◌∷◌, ◌++◌, length, take, get_or, refl, sym, subst, arith, Option}
use Rattle.std.specs.List.{Any}
use Rattle.std.specs.BTreeSet.{BTreeSet}
use Rattle.std.proofs.lemmas.List.{take_more}
use Rattle.lrs_measure.specs.Texts.{Name}
use Rattle.lrs_element.specs.Course.{Millimetre}
use Rattle.lrs_events.specs.declared.part.Part.{Part}
use Rattle.lrs_position.specs.Index.MetRoutes.{IsAmong, RunsBetween}
use Rattle.lrs_report_answers.specs.Ground.{RunsOverPart}

module _ {X : Type 0} (P : X → Type 0) where
  next : (x : X) (xs : List X) → Any P xs → Any P (x ∷ xs)
  next x xs a = (suc a.0, a.1, let l = a.2 in omega (arith, l), a.3, a.4)

  any_last : (xs : List X) (y : X) → P y → Any P (xs ++ y ∷ [])
  any_last [] y h = (zero, y, omega arith, refl, h)
  any_last (x ∷ xs) y h = next x (xs ++ y ∷ []) (any_last xs y h)

  any_front : (xs : List X) (y : X) → Any P xs → Any P (xs ++ y ∷ [])
  any_front [] y (k, x, l, is, h) = absurd (omega (arith, l))
  any_front (z ∷ zs) y (zero, x, l, is, h) = (zero, x, omega arith, is, h)
  any_front (z ∷ zs) y (suc k, x, l, is, h) = next z (zs ++ y ∷ []) (any_front zs y (k, x, omega (arith, l), is, h))

  any_either : (xs : List X) (y : X) → Any P (xs ++ y ∷ []) → Any P xs ⊎ P y
  any_either [] y (zero, x, l, is, h) = inr (subst P (sym is) h)
  any_either [] y (suc k, x, l, is, h) = absurd (omega (arith, l))
  any_either (z ∷ zs) y (zero, x, l, is, h) = inl (zero, x, omega arith, is, h)
  any_either (z ∷ zs) y (suc k, x, l, is, h) = by (any_either zs y (k, x, omega (arith, l), is, h))
    where
      by : Any P zs ⊎ P y → Any P (z ∷ zs) ⊎ P y
      by (inl a) = inl (next z zs a)
      by (inr p) = inr p

-- the names are those of the routes that run over the first parts
abbrev pub AreOver : (Millimetre → Option Name) → List Part → BTreeSet Name → Type 0
AreOver over parts names = (route : Name) → IsAmong route names ↔ RunsOverPart over parts route

module _ (over : Millimetre → Option Name) (parts : List Part) (i : ℕ) (d : Part) (within : i < length parts) where
  abbrev Runs : Name → Part → Type 0
  Runs route p = RunsBetween over p.link p.from p.to route

  -- The routes over one more part are added, and no others.
  pub over_more : (old new : BTreeSet Name) → AreOver over (take i parts) old → ((route : Name) → IsAmong route old → IsAmong route new) → ((route : Name) → IsAmong route new → IsAmong route old ⊎ Runs route (get_or parts i d))
      → ((route : Name) → Runs route (get_or parts i d) → IsAmong route new) → AreOver over (take (i + 1) parts) new
  over_more old new sofar kept only met route = (
    λ m. subst (λ ps. Any (Runs route) ps) (sym (take_more parts i d within)) (into (only route m)),
    λ a. out (any_either (Runs route) (take i parts) (get_or parts i d) (subst (λ ps. Any (Runs route) ps) (take_more parts i d within) a)),
  )
    where
      into : IsAmong route old ⊎ Runs route (get_or parts i d) → Any (Runs route) (take i parts ++ get_or parts i d ∷ [])
      into (inl m) = any_front (Runs route) (take i parts) (get_or parts i d) ((sofar route).0 m)
      into (inr r) = any_last (Runs route) (take i parts) (get_or parts i d) r

      out : Any (Runs route) (take i parts) ⊎ Runs route (get_or parts i d) → IsAmong route new
      out (inl a) = kept route ((sofar route).1 a)
      out (inr r) = met route r
