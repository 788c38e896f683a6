-- A tree of entries as a finite map, for any order of keys that only equal keys tie in.
use Rattle.std.proofs.Common.{◌≡◌, cond, List, [], ◌∷◌, Option, Some, None, refl, sym, ap, ◌∙◌}
use Rattle.std.specs.declared.cmp.Ordering.{Ordering}
use Rattle.std.specs.Ordering.{eq_by_cmp, is_eq}
use Rattle.std.specs.Cmp.{IsTotalOrder, eq_by_cmp_equiv}
use Rattle.std.specs.FinMap.{from_entries, insert, remove, get, find, get-from_entries, get-insert, get-remove, same_map, IsAntisymmetric}
use Rattle.std.specs.BTreeMap.{is_at}
use Rattle.std.specs.Map.{lookup}

module _ {K X : Type 0} {R : K → K → Ordering} (o : IsTotalOrder R) where
  -- what is found at a key
  abbrev pub found : List (K × X) → K → Option X
  found es q = lookup (is_at (R q)) es

  find_found : (es : List (K × X)) (q : K) → find R q es ≡ found es q
  find_found [] q = refl
  find_found (e ∷ es) q = ap (cond (is_eq (R q e.0)) (Some e.1)) (find_found es q)

  pub get_found : (es : List (K × X)) (q : K) → get (from_entries {R = R} es) q ≡ found es q
  get_found es q = get-from_entries o es q ∙ find_found es q

  pub inserted : IsAntisymmetric R → (es fs : List (K × X)) (k : K) (x : X) → ((q : K) → found fs q ≡ cond (is_at (R k) q) (Some x) (found es q)) → from_entries {R = R} fs ≡ insert (from_entries es) k x
  inserted exact es fs k x h = same_map o exact _ _ (λ q.
      get_found fs q ∙ h q ∙ ap (λ b. cond b (Some x) (found es q)) ((eq_by_cmp_equiv o).symm k q)
      ∙ sym (get-insert o (from_entries es) k x q ∙ ap (cond (eq_by_cmp R q k) (Some x)) (get_found es q)))

  pub removed : IsAntisymmetric R → (es fs : List (K × X)) (k : K) → ((q : K) → found fs q ≡ cond (is_at (R k) q) None (found es q)) → from_entries {R = R} fs ≡ remove (from_entries es) k
  removed exact es fs k h = same_map o exact _ _ (λ q.
      get_found fs q ∙ h q ∙ ap (λ b. cond b None (found es q)) ((eq_by_cmp_equiv o).symm k q)
      ∙ sym (get-remove o (from_entries es) k q ∙ ap (cond (eq_by_cmp R q k) None) (get_found es q)))
