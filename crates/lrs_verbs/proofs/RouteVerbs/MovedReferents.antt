-- Referents of a route of which a stretch gets other ground: those before it stay, and those behind it move.
use Rattle.std.proofs.Common.{◌≡◌, ℕ, ◌+◌, ◌-◌, ◌<◌, ◌≤◌, true, false, cond, ◌⊎◌, inl, inr, List, [], ◌∷◌, map, filter, length, refl, sym, ap, subst, ◌∙◌, arith}
use Rattle.std.proofs.lemmas.Bool.{both_ways, not-true, and_parts, and_from, ltb-true, ltb-false, lt-ltb, le-ltb}
use Rattle.std.specs.Prelude.{not, nat_lt}
use Rattle.std.specs.List.{list_any, list_all}
use Rattle.std.specs.Ordering.{eq_by_cmp}
use Rattle.std.specs.Cmp.Lexicographic.{nat_list_cmp_total, texts_ties}
use Rattle.lrs_inventory.specs.Prelude.{each_two, insert_by, name_cmp, same_name, Referent, are_referents, referent_before, RouteRow, changed_refs}
use Rattle.lrs_measure.specs.OrderedLists.{insert_all}
use Rattle.lrs_measure.specs.Lists.{In}
use Rattle.lrs_measure.proofs.Members.{any_found, all_at, all_of, two_at, In-map, map_found, In-filter, filter-In}
use Rattle.lrs_measure.proofs.Filters.{each_two-filter, filter_alike}
use Rattle.lrs_measure.proofs.Insertions.{In-insert, In-insert_all, insert_all-In}
use Rattle.lrs_machine.proofs.Pairs.{each_two-map}
use Rattle.lrs_image_sound.proofs.Fitting.{fits}
use Rattle.lrs_image_laws.specs.Splits.{is_ahead}
use Rattle.lrs_image_laws.proofs.InOrder.{is_false, each_two-insert_by, before-chain, before-comparable}
use Rattle.lrs_image_laws.proofs.Listed.{all-insert_all}
use Rattle.lrs_image_laws.proofs.Naming.{same_either}
use Rattle.lrs_image_laws.proofs.Renaming.{own_names}
use Rattle.lrs_image_laws.proofs.Rewriting.{are_unlike}
use Rattle.lrs_image_laws.specs.Realignments.{is_off, moved}
use Rattle.lrs_image_laws.proofs.Realigning.{off_from, off_is}
use Rattle.lrs_verbs.specs.RouteVerbs.Realignments.{on_from, referents_moved}
use Rattle.lrs_verbs.specs.RouteVerbs.Splits.{refs_behind}
use Rattle.lrs_verbs.proofs.RouteVerbs.SplitRoute.{names, goes_behind}

-- referents of other names put among referents in order
ordered : (xs ys : List Referent) → each_two are_unlike xs ≡ true → each_two referent_before ys ≡ true → ((x y : Referent) → In x xs → In y ys → same_name x.name y.name ≡ false)
    → each_two referent_before (insert_all referent_before xs ys) ≡ true
ordered [] ys h k w = k
ordered (x ∷ xs) ys h k w =
    let heads = and_parts (list_all (are_unlike x) xs) (each_two are_unlike xs) h in
    ordered xs (insert_by referent_before x ys) heads.1
    (each_two-insert_by referent_before (before-chain nat_list_cmp_total (λ (q : Referent). q.name)) x ys (before-comparable nat_list_cmp_total (λ (q : Referent). q.name) x ys no_ties) k)
    (λ z y m n. with z y m (all_at (are_unlike x) z xs heads.0 m) (In-insert referent_before x y ys n))
  where
    no_ties : list_any (λ q. eq_by_cmp name_cmp x.name q.name) ys ≡ false
    no_ties = is_false (list_any (λ q. eq_by_cmp name_cmp x.name q.name) ys) (λ t.
        let f = any_found (λ q. eq_by_cmp name_cmp x.name q.name) ys t in
        both_ways (same_name x.name f.0.name) (w x f.0 (inl refl) f.1) (texts_ties x.name f.0.name ∙ f.2))

    with : (z y : Referent) → In z xs → are_unlike x z ≡ true → (y ≡ x) ⊎ In y ys → same_name z.name y.name ≡ false
    with z y m t (inl e) = ap (λ (q : Referent). same_name z.name q.name) e ∙ same_either z.name x.name ∙ not-true (same_name x.name z.name) t
    with z y m t (inr n) = w z y (inr m) n

module _ (r : RouteRow) (from to len size : ℕ) (low : from ≤ to) (high : to ≤ length r.route.course) (size_is : size ≡ (from + len) + (length r.route.course - to)) where
  abbrev refs : List Referent
  refs = r.route.refs

  abbrev come : List Referent
  come = map (on_from to (from + len)) (refs_behind to refs)

  abbrev kept : List Referent
  kept = filter (is_ahead from) refs

  abbrev pub after : List Referent
  after = insert_all referent_before come kept

  pub changed : changed_refs (referents_moved from to len refs) refs ≡ after
  changed = ap (insert_all referent_before come) (filter_alike (λ q. not (list_any (same_name q.name) (names r from))) (is_ahead from) refs (goes_behind r from))

  -- one that comes was one behind the stretch, and one that stays was one before it
  came : (q : Referent) → In q come → (x : Referent) × In x refs × (to ≤ x.at) × (q ≡ on_from to (from + len) x)
  came q m =
      let x = map_found (on_from to (from + len)) q (refs_behind to refs) m in
      let k = In-filter (λ q. not (is_ahead to q)) x.0 refs x.1 in
      (x.0, k.0, ltb-false x.0.at to (not-true (is_ahead to x.0) k.1), x.2)

  stayed : (q : Referent) → In q kept → In q refs × (q.at < from)
  stayed q m = let k = In-filter (is_ahead from) q refs m in (k.0, ltb-true q.at from k.1)

  goes_on : (x : Referent) → to ≤ x.at → moved from to len x ≡ on_from to (from + len) x
  goes_on x l = ap (λ b. let q : Referent = record x { at = cond b x.at ((from + len) + (x.at - to)) } in q) (le-ltb x.at from (omega (arith, l, low)))

  stays : (x : Referent) → x.at < from → moved from to len x ≡ x
  stays x l = ap (λ b. let q : Referent = record x { at = cond b x.at ((from + len) + (x.at - to)) } in q) (lt-ltb x.at from l)

  pub refs_of : (q : Referent) → In q after → (x : Referent) × In x refs × (is_off from to x ≡ true) × (q ≡ moved from to len x)
  refs_of q m = by (In-insert_all referent_before q come kept m)
    where
      by : In q come ⊎ In q kept → (x : Referent) × In x refs × (is_off from to x ≡ true) × (q ≡ moved from to len x)
      by (inl k) = let x = came q k in (x.0, x.1, off_is from to x.0 (inr x.2), x.3 ∙ sym (goes_on x.0 x.2))
      by (inr k) = let x = stayed q k in (q, x.0, off_is from to q (inl x.1), sym (stays q x.1))

  pub refs_are : (x : Referent) → In x refs → is_off from to x ≡ true → In (moved from to len x) after
  refs_are x m off = by (off_from from to x off)
    where
      by : (x.at < from) ⊎ (to ≤ x.at) → In (moved from to len x) after
      by (inl l) = insert_all-In referent_before (moved from to len x) come kept (inr (subst (λ q. In q kept) (sym (stays x l)) (filter-In (is_ahead from) x refs m (lt-ltb x.at from l))))
      by (inr l) = insert_all-In referent_before (moved from to len x) come kept (inl (subst (λ q. In q come) (sym (goes_on x l))
          (In-map (on_from to (from + len)) x (refs_behind to refs) (filter-In (λ q. not (is_ahead to q)) x refs m (ap not (le-ltb x.at to l))))))

  other_names : (q v : Referent) → In q come → In v kept → same_name q.name v.name ≡ false
  other_names q v m n = by (came q m) (stayed v n)
    where
      by : (x : Referent) × In x refs × (to ≤ x.at) × (q ≡ on_from to (from + len) x) → In v refs × (v.at < from) → same_name q.name v.name ≡ false
      by x k = ap (λ (w : Referent). same_name w.name v.name) x.3 ∙ of (two_at are_unlike x.0 v refs (own_names r) x.1 k.0)
        where
          of : (x.0 ≡ v) ⊎ ((are_unlike x.0 v ≡ true) ⊎ (are_unlike v x.0 ≡ true)) → same_name x.0.name v.name ≡ false
          of (inl e) = let a = x.2 in let b = k.1 in let same : x.0.at ≡ v.at = ap (λ (w : Referent). w.at) e in absurd (omega (arith, a, b, same, low))
          of (inr (inl e)) = not-true (same_name x.0.name v.name) e
          of (inr (inr e)) = same_either x.0.name v.name ∙ not-true (same_name v.name x.0.name) e

  its : (each_two referent_before refs ≡ true) × (list_all (λ q. nat_lt q.at (length r.route.course)) refs ≡ true)
  its = and_parts (each_two referent_before refs) (list_all (λ (q : Referent). nat_lt q.at (length r.route.course)) refs) (fits r).2

  in_order : each_two referent_before after ≡ true
  in_order = ordered come kept
      (each_two-map are_unlike (on_from to (from + len)) (refs_behind to refs) ∙ each_two-filter are_unlike (λ q. not (is_ahead to q)) refs (own_names r))
      (each_two-filter referent_before (is_ahead from) refs its.0) other_names

  on_it : list_all (λ q. nat_lt q.at size) after ≡ true
  on_it = all-insert_all referent_before (λ q. nat_lt q.at size) come kept
      (all_of (λ q. nat_lt q.at size) come (λ q m.
      let x = came q m in
      let a = ltb-true x.0.at (length r.route.course) (all_at (λ (q : Referent). nat_lt q.at (length r.route.course)) x.0 refs its.1 x.1) in
      let b = x.2 in
      ap (λ (w : Referent). nat_lt w.at size) x.3 ∙ lt-ltb ((from + len) + (x.0.at - to)) size (omega (arith, a, b, size_is))))
      (all_of (λ q. nat_lt q.at size) kept (λ q m. let a = (stayed q m).1 in lt-ltb q.at size (omega (arith, a, size_is))))

  pub fit : are_referents size (changed_refs (referents_moved from to len refs) refs) ≡ true
  fit = ap (are_referents size) changed ∙ and_from (each_two referent_before after) (list_all (λ q. nat_lt q.at size) after) in_order on_it
