-- Edges of stretches, in order.
use Rattle.std.proofs.Common.{◌≡◌, ℕ, zero, suc, ◌+◌, ◌<◌, arith, get_or, length, take, true, inl, inr, List, [], ◌∷◌, ◌++◌, refl, sym, subst, ◌∙◌}
use Rattle.std.specs.List.{flat_map, list_any}
use Rattle.std.specs.List.Sorted.{IsPermutation}
use Rattle.std.specs.Cmp.{IsStrictWeakOrder}
use Rattle.std.specs.Cmp.Lexicographic.{bytes_decides, nat_list_cmp_total}
use Rattle.std.proofs.lemmas.List.Sorted.{list_any-IsPermutation, ranks_by}
use Rattle.lrs_measure.specs.Lists.{In, each_two}
use Rattle.lrs_measure.specs.Texts.{same_name}
use Rattle.lrs_measure.proofs.Members.{any_found, any_of, In-append_left, In-append_right, In-flat_map}
use Rattle.lrs_difference.specs.declared.link_stretches.HeldStretch.{HeldStretch}
use Rattle.lrs_difference.specs.declared.sweep.Edge.{Edge}
use Rattle.lrs_difference.specs.Sweep.{AreEdged, AreGathered, edge_before, edge_key, edges_of, first_edge, not_behind}
use Rattle.lrs_report_lists.proofs.Length.Pushed.{pushed_next}
use Rattle.lrs_difference.proofs.SweptEdges.{rows_begin}

pub edge_ranks : IsStrictWeakOrder edge_before
edge_ranks = ranks_by nat_list_cmp_total (λ (e : Edge). edge_key e)

module _ (made sorted : List Edge) (same : IsPermutation made sorted) where
  kept : (e : Edge) → In e made → (f : Edge) × In f sorted × (edge_key f ≡ edge_key e)
  kept e m =
      let has = λ (f : Edge). same_name (edge_key f) (edge_key e) in
      let there : list_any has sorted ≡ true = sym (list_any-IsPermutation has made sorted same) ∙ any_of has e made m ((bytes_decides (edge_key e) (edge_key e)).1 refl) in
      let f = any_found has sorted there in
      (f.0, f.1, (bytes_decides (edge_key f.0) (edge_key e)).0 f.2)

  edged : (held : List HeldStretch) → ((e : Edge) → In e (flat_map edges_of held) → In e made) → AreEdged (edge_key first_edge) sorted held
  edged held inside = record {
    starts = λ h m behind. kept (record { asset = h.asset; link = h.stretch.link; mm = h.stretch.from }) (inside _ (In-flat_map edges_of h (record { asset = h.asset; link = h.stretch.link; mm = h.stretch.from }) held m (inl refl)));
    ends = λ h m behind. kept (record { asset = h.asset; link = h.stretch.link; mm = h.stretch.to }) (inside _ (In-flat_map edges_of h (record { asset = h.asset; link = h.stretch.link; mm = h.stretch.to }) held m (inr (inl refl))));
  }

pub gathered : (left right : List HeldStretch) (one two sorted : List Edge) → one ≡ [] ++ flat_map edges_of left → two ≡ one ++ flat_map edges_of right → IsPermutation two sorted → each_two not_behind sorted ≡ true → AreGathered left right first_edge sorted []
gathered left right one two sorted first second same order =
    rows_begin left right sorted order
    (edged two sorted same left (λ e m. subst (λ (zs : List Edge). In e zs) (sym second) (In-append_left e one (flat_map edges_of right) (subst (λ (zs : List Edge). In e zs) (sym first) m))))
    (edged two sorted same right (λ e m. subst (λ (zs : List Edge). In e zs) (sym second) (In-append_right e one (flat_map edges_of right) m)))

same_default : {A : Type 0} (xs : List A) (i : ℕ) (d e : A) → i < length xs → get_or xs i d ≡ get_or xs i e
same_default [] i d e h = absurd (omega (arith, h))
same_default (x ∷ xs) zero d e h = refl
same_default (x ∷ xs) (suc i) d e h = same_default xs i d e (omega (arith, h))

pub pushed_at : {A B : Type 0} (f : A → List B) (i : ℕ) (xs : List A) (d : A) (a b c : List B) → i < length xs → b ≡ a ++ flat_map f (take i xs) → c ≡ b ++ f (get_or xs i d) → c ≡ a ++ flat_map f (take (i + 1) xs)
pushed_at f i xs d a b c low before one = pushed_next f i xs (get_or xs i d) a b c low (same_default xs i d (get_or xs i d) low) before one
