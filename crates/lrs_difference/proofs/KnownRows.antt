-- Stretches with what is known of their assets.
use Rattle.std.proofs.Common.{◌≡◌, ℕ, ◌<◌, ◌≤◌, Bool, true, false, cond, not, Option, Some, None, Result, Ok, Err, append-nil, inl, inr, List, [], ◌∷◌, ◌++◌, map, refl, sym, ap, subst, ◌∙◌, arith}
use Rattle.std.specs.Prelude.{◌||◌, ◌&&◌, nat_eq, nat_lt, IfOk}
use Rattle.std.specs.List.{cons_option, find, flat_map, list_any}
use Rattle.std.specs.Option.{option_map}
use Rattle.std.proofs.lemmas.Bool.{and_from, and_parts, eq-eqb, eqb-true, le-leb, lt-ltb}
use Rattle.std.proofs.lemmas.List.Folds.{list_any-append}
use Rattle.std.proofs.lemmas.List.Concat.{flat_map-append}
use Rattle.lrs_measure.specs.Lists.{In, each_two}
use Rattle.lrs_measure.specs.Texts.{name_before}
use Rattle.lrs_measure.proofs.Members.{any_of, flat_map_found, In-map, map_found}
use Rattle.lrs_events.specs.declared.class.Asset.{Asset}
use Rattle.lrs_events.specs.Places.{Place}
use Rattle.lrs_events.specs.Spans.{same_side}
use Rattle.lrs_machine.specs.declared.image.Image.{Image}
use Rattle.lrs_machine.specs.Image.{asset_entry, state_of}
use Rattle.lrs_machine.specs.Sound.{IsSound}
use Rattle.lrs_machine.proofs.Pairs.{each_two-map}
use Rattle.lrs_machine.proofs.SoundImages.{sound_is_lawful}
use Rattle.lrs_report_lists.specs.Lines.{asset_numbered}
use Rattle.lrs_difference.specs.declared.link_stretches.HeldStretch.{HeldStretch}
use Rattle.lrs_difference.specs.declared.held_rows.HeldRow.{HeldRow}
use Rattle.lrs_difference.specs.declared.line.AssetFacts.{AssetFacts}
use Rattle.lrs_difference.specs.Difference.{facts_in, facts_of, holds_only, in_order, stretches}
use Rattle.lrs_difference.specs.Held.{has_place, held_in, holds_place}
use Rattle.lrs_difference.specs.HeldRows.{AreOnly, are_apart, held_item, known_row, row_before, row_has}
use Rattle.lrs_difference.specs.Items.{item_before}
use Rattle.lrs_difference.specs.Lines.{line_text}
use Rattle.lrs_difference.specs.Sweep.{AreAlone, lie_apart, starts_before}
use Rattle.lrs_difference.specs.Text.{difference_text, group_text, groups_text, listed_groups}
use Rattle.lrs_difference.proofs.Agreeing.{facts_in_order}
use Rattle.lrs_difference.proofs.Given.{is_placed}
use Rattle.lrs_difference.proofs.HeldPlaces.{are_held}
use Rattle.lrs_difference.proofs.Keys.{behind_first}
use Rattle.lrs_difference.proofs.Listed.{all_groups}
use Rattle.lrs_difference.proofs.Ordered.{stretches_in_order}
use Rattle.lrs_difference.proofs.Sections.{the_stretches}
use Rattle.lrs_difference.proofs.OnlyHeld.{are_stretches, is_in, side_in}
use Rattle.lrs_difference.proofs.Rising.{each_given}

module _ {A : Type 0} (p : A → Bool) where
  find_in : (xs : List A) (x : A) → find p xs ≡ Some x → In x xs × (p x ≡ true)
  find_in [] x h = absurd (cc h)
  find_in (y ∷ ys) x h = by (p y) refl h (find_in ys x)
    where
      some_one : (u v : A) → Some u ≡ Some v → u ≡ v
      some_one u v e = cc

      by : (b : Bool) → p y ≡ b → cond b (Some y) (find p ys) ≡ Some x → (find p ys ≡ Some x → In x ys × (p x ≡ true)) → In x (y ∷ ys) × (p x ≡ true)
      by true e k rest = let s = some_one y x k in (inl (sym s), ap p (sym s) ∙ e)
      by false e k rest = let r = rest k in (inr r.0, r.1)

  find_any : (xs : List A) (x : A) → In x xs → p x ≡ true → (y : A) × (find p xs ≡ Some y)
  find_any [] x m h = absurd m
  find_any (y ∷ ys) x m h = by (p y) refl m (find_any ys x)
    where
      by : (b : Bool) → p y ≡ b → In x (y ∷ ys) → (In x ys → p x ≡ true → (z : A) × (find p ys ≡ Some z)) → (z : A) × (cond b (Some y) (find p ys) ≡ Some z)
      by true e n rest = (y, refl)
      by false e (inl s) rest = absurd (cc (sym e ∙ ap p (sym s) ∙ h))
      by false e (inr n) rest = rest n h

facts_listed : (i : Image) (a : Asset) → In a i.assets → In (facts_of (asset_entry a)) (facts_in (state_of i))
unfolding state_of
facts_listed i a m = In-map facts_of (asset_entry a) (map asset_entry i.assets) (In-map asset_entry a i.assets m)

facts_found : (i : Image) (f : AssetFacts) → In f (facts_in (state_of i)) → (a : Asset) × In a i.assets × (a.number ≡ f.number)
unfolding state_of
facts_found i f m =
    let e = map_found facts_of f (map asset_entry i.assets) m in
    let a = map_found asset_entry e.0 i.assets e.1 in
    (a.0, a.1, sym (ap (λ (x : AssetFacts). x.number) (e.2 ∙ ap facts_of a.2)))

record IsKnown (i : Image) (h : HeldStretch) (k : HeldRow) : Type 0 where
  pub stretch : k.stretch ≡ h.stretch
  pub number : k.asset.number ≡ h.asset
  pub known : In k.asset (facts_in (state_of i))

known_by : (i : Image) (h : HeldStretch) (k : HeldRow) → In k (known_row i.assets h) → IsKnown i h k
known_by i h k m = by (asset_numbered i.assets h.asset) refl m
  where
    by : (o : Option Asset) → asset_numbered i.assets h.asset ≡ o → In k (cons_option (option_map (λ a. record { asset = facts_of (asset_entry a); stretch = h.stretch }) o) []) → IsKnown i h k
    by None e n = absurd n
    by (Some a) e (inl is) =
        let there = find_in (λ (x : Asset). nat_eq x.number h.asset) i.assets a e in
        record {
          stretch = ap (λ (x : HeldRow). x.stretch) is;
          number = ap (λ (x : HeldRow). x.asset.number) is ∙ eqb-true a.number h.asset there.1;
          known = subst (λ (x : HeldRow). In x.asset (facts_in (state_of i))) (sym is) (facts_listed i a there.0);
        }
    by (Some a) e (inr n) = absurd n

one_alone : (test : HeldRow → HeldRow → Bool) (o : Option HeldRow) → each_two test (cons_option o []) ≡ true
one_alone test None = refl
one_alone test (Some x) = refl

module _ (a b : Image) (sound : IsSound a) (rows : List HeldStretch) (h : AreAlone (held_in a) (held_in b) rows) where
  held_only : (asset : ℕ) (p : Place) → list_any (holds_place asset p) rows ≡ holds_only (state_of a) (state_of b) asset p
  held_only asset p = h.places asset p ∙ sym (λ i. are_held a asset p i && not (are_held b asset p i))

  -- each stretch is of a known asset
  has_asset : (r : HeldStretch) → In r rows → (x : Asset) × (asset_numbered a.assets r.asset ≡ Some x)
  has_asset r m =
      let p : Place = record { link = r.stretch.link; mm = r.stretch.from; side = side_in r.stretch.side } in
      let some = h.filled r m in
      let low : r.stretch.from ≤ r.stretch.from = omega arith in
      let here : holds_place r.asset p r ≡ true =
      and_from _ _ (eq-eqb r.asset r.asset refl) (and_from _ _ (and_from _ _ (eq-eqb r.stretch.link r.stretch.link refl) (and_from _ _ (le-leb r.stretch.from r.stretch.from low) (lt-ltb r.stretch.from r.stretch.to some))) (is_in r.stretch.side)) in
      let only = sym (held_only r.asset p) ∙ any_of (holds_place r.asset p) r rows m here in
      let at = is_placed a sound r.asset p (and_parts ((state_of a).holds r.asset p) (not ((state_of b).holds r.asset p)) only).0 in
      let found = facts_found a at.facts at.known in
      find_any (λ (x : Asset). nat_eq x.number r.asset) a.assets found.0 found.1 (eq-eqb found.0.number r.asset (found.2 ∙ at.of_asset))

  one_place : (asset : ℕ) (p : Place) (r : HeldStretch) → (o : Option Asset) → asset_numbered a.assets r.asset ≡ o → ((x : Asset) × (asset_numbered a.assets r.asset ≡ Some x))
      → list_any (row_has asset p) (cons_option (option_map (λ x. record { asset = facts_of (asset_entry x); stretch = r.stretch }) o) []) ≡ holds_place asset p r
  one_place asset p r None e found = absurd (cc (sym e ∙ found.1))
  one_place asset p r (Some x) e found =
      let there = find_in (λ (y : Asset). nat_eq y.number r.asset) a.assets x e in
      same_or (row_has asset p (record { asset = facts_of (asset_entry x); stretch = r.stretch })) ∙ ap (λ n. nat_eq n asset && has_place r.stretch p) (eqb-true x.number r.asset there.1)
    where
      same_or : (c : Bool) → (c || false) ≡ c
      same_or true = refl
      same_or false = refl

  all_places : (asset : ℕ) (p : Place) (rs : List HeldStretch) → ((r : HeldStretch) → In r rs → In r rows) → list_any (row_has asset p) (flat_map (known_row a.assets) rs) ≡ list_any (holds_place asset p) rs
  all_places asset p [] inside = refl
  all_places asset p (r ∷ rs) inside =
      list_any-append (row_has asset p) (known_row a.assets r) (flat_map (known_row a.assets) rs)
      ∙ (λ i. one_place asset p r (asset_numbered a.assets r.asset) refl (has_asset r (inside r (inl refl))) i || all_places asset p rs (λ z m. inside z (inr m)) i)

  are_only : AreOnly (state_of a) (state_of b) (flat_map (known_row a.assets) rows)
  are_only = record {
    known = λ k m. (let r = flat_map_found (known_row a.assets) k rows m in (known_by a r.0 k r.2).known);
    filled = λ k m. (let r = flat_map_found (known_row a.assets) k rows m in subst (λ s. s.from < s.to) (sym (known_by a r.0 k r.2).stretch) (h.filled r.0 r.1));
    order = each_given starts_before row_before (known_row a.assets) rows h.order (λ x. one_alone row_before _) (λ x z l y w m n.
        let e = known_by a x y m in
        let f = known_by a z w n in
        (λ i. name_before (5 ∷ e.number i ∷ (e.stretch i).link ∷ (e.stretch i).from ∷ []) (5 ∷ f.number i ∷ (f.stretch i).link ∷ (f.stretch i).from ∷ []))
        ∙ behind_first 5 (x.asset ∷ x.stretch.link ∷ x.stretch.from ∷ []) (z.asset ∷ z.stretch.link ∷ z.stretch.from ∷ []) l);
    apart = each_given lie_apart are_apart (known_row a.assets) rows h.apart (λ x. one_alone are_apart _) (λ x z l y w m n.
        let e = known_by a x y m in
        let f = known_by a z w n in
        (λ i. not (nat_eq (e.number i) (f.number i) && nat_eq (e.stretch i).link (f.stretch i).link) || nat_lt (e.stretch i).to (f.stretch i).from || (nat_eq (e.stretch i).to (f.stretch i).from && not (same_side (e.stretch i).side (f.stretch i).side)))
        ∙ l);
    places = λ asset p. all_places asset p rows (λ r m. m) ∙ held_only asset p;
  }

  pub only_stretches : (ks : List HeldRow) → ks ≡ flat_map (known_row a.assets) rows → map held_item ks ≡ stretches (state_of a) (state_of b)
  only_stretches ks e = ap (map held_item) e ∙ are_stretches a b sound (flat_map (known_row a.assets) rows) are_only

pub told_as : {T E : Type 0} (r : Result T E) (P Q : T → Type 0) → ((x : T) → P x → Q x) → IfOk r P → IfOk r Q
told_as (Ok x) P Q f h = f x h
told_as (Err x) P Q f h = tt

pub alone_as : (l k r s rows : List HeldStretch) → l ≡ k → r ≡ s → AreAlone l r rows → AreAlone k s rows
alone_as l k r s rows e f h = subst (λ (z : List HeldStretch). AreAlone k z rows) f (subst (λ (z : List HeldStretch). AreAlone z r rows) e h)

pub rows_in_order : (a b : Image) → IsSound a → (ks : List HeldRow) → map held_item ks ≡ stretches (state_of a) (state_of b) → each_two row_before ks ≡ true
rows_in_order a b sound ks e =
    sym (each_two-map item_before held_item ks) ∙ ap (each_two item_before) e ∙ stretches_in_order (state_of a) (state_of b) (sound_is_lawful a sound).grounded.links (facts_in_order a sound)

pub held_text : (a b : Image) (ks ls : List HeldRow) → map held_item ks ≡ stretches (state_of a) (state_of b) → map held_item ls ≡ stretches (state_of b) (state_of a)
    → flat_map line_text (in_order (map held_item ks) (map held_item ls)) ≡ group_text 5 a b
held_text a b ks ls e f = ap (flat_map line_text) ((λ i. in_order (e i) (f i)) ∙ sym (the_stretches a b))

pub both_texts : (a b : Image) → groups_text listed_groups a b ++ group_text 5 a b ≡ difference_text a b
both_texts a b =
    ap (λ t. groups_text listed_groups a b ++ t) (sym (append-nil (group_text 5 a b))) ∙ sym (flat_map-append (λ g. group_text g a b) listed_groups (5 ∷ [])) ∙ sym (all_groups a b)
