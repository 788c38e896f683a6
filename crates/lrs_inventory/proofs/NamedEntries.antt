-- Maps by name, seen through the entries of a tree.
use Rattle.std.proofs.Common.{◌≡◌, cond, List, [], ◌∷◌, Option, Some, None, refl, sym, ap, ◌∙◌}
use Rattle.std.specs.Ordering.{is_eq, eq_by_cmp}
use Rattle.std.specs.Cmp.{eq_by_cmp_equiv}
use Rattle.std.specs.FinMap.{from_entries, insert, remove, get, find, get-from_entries, get-insert, get-remove, same_map, nat_cmp-IsAntisymmetric, slice_cmp-IsAntisymmetric, IsAntisymmetric}
use Rattle.std.specs.BTreeMap.{is_at}
use Rattle.std.specs.Map.{lookup}
use Rattle.std.specs.Cmp.Lexicographic.{nat_list_cmp_total}
use Rattle.lrs_inventory.specs.Prelude.{Name, name_cmp}

-- names are one where they tie
pub names_exact : IsAntisymmetric name_cmp
names_exact = slice_cmp-IsAntisymmetric nat_cmp-IsAntisymmetric

module _ {X : Type 0} where
  abbrev at : List (Name × X) → Name → Option X
  at es q = lookup (is_at (name_cmp q)) es

  find_at : (es : List (Name × X)) (q : Name) → find name_cmp q es ≡ at es q
  find_at [] q = refl
  find_at (e ∷ es) q = ap (cond (is_eq (name_cmp q e.0)) (Some e.1)) (find_at es q)

  pub get_at : (es : List (Name × X)) (q : Name) → get (from_entries {R = name_cmp} es) q ≡ at es q
  get_at es q = get-from_entries nat_list_cmp_total es q ∙ find_at es q

  pub inserted : (es fs : List (Name × X)) (k : Name) (x : X) → ((q : Name) → at fs q ≡ cond (is_at (name_cmp k) q) (Some x) (at es q)) → from_entries {R = name_cmp} fs ≡ insert (from_entries es) k x
  inserted es fs k x h = same_map nat_list_cmp_total names_exact _ _ (λ q.
      get_at fs q ∙ h q ∙ ap (λ b. cond b (Some x) (at es q)) ((eq_by_cmp_equiv nat_list_cmp_total).symm k q)
      ∙ sym (get-insert nat_list_cmp_total (from_entries es) k x q ∙ ap (cond (eq_by_cmp name_cmp q k) (Some x)) (get_at es q)))

  pub removed : (es fs : List (Name × X)) (k : Name) → ((q : Name) → at fs q ≡ cond (is_at (name_cmp k) q) None (at es q)) → from_entries {R = name_cmp} fs ≡ remove (from_entries es) k
  removed es fs k h = same_map nat_list_cmp_total names_exact _ _ (λ q.
      get_at fs q ∙ h q ∙ ap (λ b. cond b None (at es q)) ((eq_by_cmp_equiv nat_list_cmp_total).symm k q)
      ∙ sym (get-remove nat_list_cmp_total (from_entries es) k q ∙ ap (cond (eq_by_cmp name_cmp q k) None) (get_at es q)))
