-- What the tests of stretches decide of the places that assets hold.
use Rattle.std.proofs.Common.{◌≡◌, ℕ, Bool, true, false, cond, not, List, [], ◌∷◌, map, refl, sym, ap, subst, ◌∙◌}
use Rattle.std.specs.Prelude.{◌&&◌, ◌||◌, nat_eq}
use Rattle.std.specs.Cmp.Lexicographic.{pointwise, pointwise_decides}
use Rattle.std.specs.List.{list_any}
use Rattle.std.specs.List.Sorted.{IsPermutation}
use Rattle.std.proofs.lemmas.Bool.{false≢true, and_parts, and_from, eqb-true, eq-eqb}
use Rattle.std.proofs.lemmas.List.Folds.{list_any-append}
use Rattle.std.proofs.lemmas.List.Sorted.{IsPermutation-map, IsPermutation-sym, IsPermutation-trans}
use Rattle.lrs_events.specs.declared.side.Side.TheVariants.{L, R, B}
use Rattle.lrs_events.specs.Places.{Place}
use Rattle.lrs_events.specs.Spans.{same_side}
use Rattle.lrs_machine.specs.declared.image.Image.{Image}
use Rattle.lrs_machine.specs.Image.{state_of}
use Rattle.lrs_report_lists.specs.declared.link_rows.LinkStretch.{LinkStretch}
use Rattle.lrs_difference.specs.declared.held_rows.HeldRow.{HeldRow}
use Rattle.lrs_difference.specs.declared.line.Item.{Item}
use Rattle.lrs_difference.specs.declared.link_stretches.HeldStretch.{HeldStretch}
use Rattle.lrs_difference.specs.Difference.{stretches}
use Rattle.lrs_difference.specs.Held.{has_place, held_in, holds_place}
use Rattle.lrs_difference.specs.HeldRows.{held_item}
use Rattle.lrs_difference.proofs.HeldPlaces.{are_held}
use Rattle.lrs_difference.proofs.Same.{Tells}
use Rattle.lrs_sheet_log.specs.Differences.{AreEach}
use Rattle.lrs_sheet_log.proofs.Each.{each-equal}
use Rattle.lrs_drafts.specs.declared.holdings.ToldStretch.{ToldStretch}
use Rattle.lrs_drafts.specs.Drafts.{HoldsNothing, HoldsWhatHeld}
use Rattle.lrs_drafts.specs.Holdings.{AreExchanged, nameless, none_of, same_stretch, stretch_of, stretches_of, told, told_item}

-- ---- nothing

none_holds : (asset : ℕ) (p : Place) (held : List HeldStretch) → none_of asset held ≡ true → list_any (holds_place asset p) held ≡ false
none_holds asset p [] h = refl
none_holds asset p (x ∷ xs) h = first (nat_eq x.asset asset) (and_parts (not (nat_eq x.asset asset)) (none_of asset xs) h).0 (none_holds asset p xs (and_parts (not (nat_eq x.asset asset)) (none_of asset xs) h).1)
  where
    first : (b : Bool) → not b ≡ true → list_any (holds_place asset p) xs ≡ false → ((b && has_place x.stretch p) || list_any (holds_place asset p) xs) ≡ false
    first true off rest = absurd (false≢true off)
    first false off rest = rest

pub nothing_held : (i : Image) (asset number : ℕ) (held : List HeldStretch) (nothing : Bool) → held ≡ held_in i → number ≡ asset → nothing ≡ none_of number held → nothing ≡ true → HoldsNothing asset i
nothing_held i asset number held nothing is same test holds p =
    are_held i asset p ∙ none_holds asset p (held_in i) ((λ k. none_of (sym same k) (sym is k)) ∙ sym test ∙ holds)

-- ---- the same

or_nothing : (b : Bool) → b ≡ (b || false)
or_nothing true = refl
or_nothing false = refl

of_asset : (asset : ℕ) (p : Place) (held : List HeldStretch) → list_any (holds_place asset p) held ≡ list_any (λ s. has_place s p) (stretches_of asset held)
of_asset asset p [] = refl
of_asset asset p (x ∷ xs) = (λ i. one (nat_eq x.asset asset) i || of_asset asset p xs i) ∙ sym (list_any-append (λ s. has_place s p) (stretch_of asset x) (stretches_of asset xs))
  where
    one : (b : Bool) → (b && has_place x.stretch p) ≡ list_any (λ s. has_place s p) (cond b (x.stretch ∷ []) [])
    one true = or_nothing (has_place x.stretch p)
    one false = refl

sides : Tells same_side
sides L L = ((λ h. refl), λ e. refl)
sides R R = ((λ h. refl), λ e. refl)
sides B B = ((λ h. refl), λ e. refl)
sides L R = ((λ h. absurd (false≢true h)), λ e. absurd cc)
sides L B = ((λ h. absurd (false≢true h)), λ e. absurd cc)
sides R L = ((λ h. absurd (false≢true h)), λ e. absurd cc)
sides R B = ((λ h. absurd (false≢true h)), λ e. absurd cc)
sides B L = ((λ h. absurd (false≢true h)), λ e. absurd cc)
sides B R = ((λ h. absurd (false≢true h)), λ e. absurd cc)

pub stretches_tell : Tells same_stretch
stretches_tell p q = (
  (λ t.
      let one = and_parts (nat_eq p.link q.link && nat_eq p.from q.from && nat_eq p.to q.to) (same_side p.side q.side) t in
      let two = and_parts (nat_eq p.link q.link && nat_eq p.from q.from) (nat_eq p.to q.to) one.0 in
      let three = and_parts (nat_eq p.link q.link) (nat_eq p.from q.from) two.0 in
      let a = eqb-true p.link q.link three.0 in
      let b = eqb-true p.from q.from three.1 in
      let c = eqb-true p.to q.to two.1 in
      let d = (sides p.side q.side).0 one.1 in
      λ i. record { link = a i; from = b i; to = c i; side = d i }),
  λ e.
      and_from (nat_eq p.link q.link && nat_eq p.from q.from && nat_eq p.to q.to) (same_side p.side q.side)
      (and_from (nat_eq p.link q.link && nat_eq p.from q.from) (nat_eq p.to q.to)
      (and_from (nat_eq p.link q.link) (nat_eq p.from q.from) (eq-eqb p.link q.link (ap (λ x. x.link) e)) (eq-eqb p.from q.from (ap (λ x. x.from) e)))
      (eq-eqb p.to q.to (ap (λ x. x.to) e)))
      ((sides p.side q.side).1 (ap (λ x. x.side) e)),
)

pub same_held : (before after : Image) (asset number m n : ℕ) (one other : List LinkStretch) (same : Bool) → m ≡ asset → n ≡ number
    → one ≡ stretches_of m (held_in before) → other ≡ stretches_of n (held_in after) → same ≡ pointwise same_stretch one other → same ≡ true → HoldsWhatHeld number asset before after
same_held before after asset number m n one other same is_asset is_number is_one is_other test holds p =
    let equal : one ≡ other = (pointwise_decides stretches_tell one other).0 (sym test ∙ holds) in
    let of_before : stretches_of asset (held_in before) ≡ one = ap (λ k. stretches_of k (held_in before)) (sym is_asset) ∙ sym is_one in
    let of_after : other ≡ stretches_of number (held_in after) = is_other ∙ ap (λ k. stretches_of k (held_in after)) is_number in
    are_held after number p ∙ of_asset number p (held_in after)
    ∙ ap (list_any (λ s. has_place s p)) (sym (of_before ∙ equal ∙ of_after))
    ∙ sym (of_asset asset p (held_in before)) ∙ sym (are_held before asset p)

-- ---- whichever asset holds it

as_items : (rows : List HeldRow) → map told_item (map told rows) ≡ map nameless (map held_item rows)
as_items [] = refl
as_items (r ∷ rs) = ap (λ xs. told_item (told r) ∷ xs) (as_items rs)

pub exchanged : (before after : Image) (lost gained : List HeldRow) (one other : List ToldStretch) (same : Bool)
    → map held_item lost ≡ stretches (state_of before) (state_of after) → map held_item gained ≡ stretches (state_of after) (state_of before)
    → IsPermutation (map told lost) one → IsPermutation (map told gained) other → (same ≡ true → AreEach (λ a b. a ≡ b) one other) → same ≡ true → AreExchanged before after
exchanged before after lost gained one other same is_lost is_gained of_lost of_gained test holds =
    let equal : one ≡ other = (each-equal (AreEach (λ a b. a ≡ b) one other) one other ((λ e. e), (λ e. e))).0 (test holds) in
    let back : IsPermutation one (map told gained) = subst (λ (xs : List ToldStretch). IsPermutation xs (map told gained)) (sym equal) (IsPermutation-sym (map told gained) other of_gained) in
    let both : IsPermutation (map told lost) (map told gained) = IsPermutation-trans (map told lost) one (map told gained) of_lost back in
    let items : IsPermutation (map told_item (map told lost)) (map told_item (map told gained)) = IsPermutation-map told_item (map told lost) (map told gained) both in
    let from : map told_item (map told lost) ≡ map nameless (stretches (state_of before) (state_of after)) = as_items lost ∙ ap (map nameless) is_lost in
    let to : map told_item (map told gained) ≡ map nameless (stretches (state_of after) (state_of before)) = as_items gained ∙ ap (map nameless) is_gained in
    subst (λ (ys : List Item). IsPermutation (map nameless (stretches (state_of before) (state_of after))) ys) to
    (subst (λ (xs : List Item). IsPermutation xs (map told_item (map told gained))) from items)
