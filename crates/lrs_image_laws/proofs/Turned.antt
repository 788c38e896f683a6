-- A course seen from its other end: its ground, its places, and what rows hold on it.
use Rattle.std.proofs.Common.{◌≡◌, ℕ, zero, suc, ◌+◌, ◌-◌, ◌<◌, Bool, true, false, ◌⊎◌, inl, inr, List, [], ◌∷◌, ◌++◌, map, length, Option, Some, None, refl, sym, ap, subst, ◌∙◌, arith}
use Rattle.std.specs.Prelude.{◌||◌, ◌&&◌, not, nat_lt, nat_eq, slice_get}
use Rattle.std.specs.Option.{option_map}
use Rattle.std.specs.List.{list_all, filter_map, cons_option}
use Rattle.std.proofs.lemmas.Bool.{and_parts, lt-ltb, ltb-true}
use Rattle.std.proofs.lemmas.List.Folds.{list_any-append}
use Rattle.lrs_measure.specs.Lists.{In, each_two}
use Rattle.lrs_measure.specs.Texts.{Name}
use Rattle.lrs_measure.proofs.Members.{all_at, all_of, In-append_cases}
use Rattle.lrs_measure.proofs.EachTwo.{joined}
use Rattle.lrs_element.specs.declared.link.Ground.{Ground}
use Rattle.lrs_element.specs.Course.{Millimetre, is_at, runs_over, turned}
use Rattle.lrs_element.proofs.Expanding.{back, turned-append, length-turned}
use Rattle.lrs_position.specs.declared.route.Referent.{Referent}
use Rattle.lrs_events.specs.declared.side.LinkSide.{LinkSide}
use Rattle.lrs_events.specs.declared.side.LinkSide.TheVariants.{Left, Right}
use Rattle.lrs_events.specs.declared.span.Span.{Span}
use Rattle.lrs_events.specs.Members.{Picks, is_member}
use Rattle.lrs_events.specs.Places.{Place, differs, same_place, same_link_side, other_side, along_link, beside}
use Rattle.lrs_events.specs.Spans.{holds_by_spans}
use Rattle.lrs_events.specs.Row.CourseMembers.{is_held, is_picked}
use Rattle.lrs_events.specs.Row.Turns.{IsTurned}
use Rattle.lrs_events.proofs.Row.Picked.{rows_hold}
use Rattle.lrs_machine.specs.Image.{referent_entry}
use Rattle.lrs_image_laws.specs.Turns.{from_end}
use Rattle.lrs_image_laws.proofs.Apart.{at_same}
use Rattle.lrs_image_laws.proofs.Joining.{get_first, get_last}
use Rattle.lrs_image_laws.proofs.Parted.{and_true, held_across, picked-within, picked-append, picked-shift}

-- ---- its ground

-- the first millimetre comes last
last_comes : (g : Ground) (gs : List Ground) → turned (g ∷ gs) ≡ turned gs ++ back g ∷ []
last_comes g gs = turned-append (g ∷ []) gs

or_swap : (a b : Bool) → (a || (b || false)) ≡ (b || a)
or_swap true true = refl
or_swap true false = refl
or_swap false true = refl
or_swap false false = refl

-- it runs over the same ground
pub runs_turned : (c : List Ground) (m : Millimetre) → runs_over (turned c) m ≡ runs_over c m
runs_turned [] m = refl
runs_turned (g ∷ gs) m =
    ap (λ d. runs_over d m) (last_comes g gs) ∙ list_any-append (is_at m) (turned gs) (back g ∷ [])
    ∙ (λ j. runs_turned gs m j || (is_at m g || false)) ∙ or_swap (runs_over gs m) (is_at m g)

-- what is in it is a millimetre of the course the other way
pub from_turned : (x : Ground) (c : List Ground) → In x (turned c) → (y : Ground) × In y c × (x ≡ back y)
from_turned x [] m = absurd m
from_turned x (g ∷ gs) m = by (In-append_cases x (turned gs) (back g ∷ []) (subst (In x) (last_comes g gs) m)) (from_turned x gs)
  where
    by : In x (turned gs) ⊎ In x (back g ∷ []) → (In x (turned gs) → (y : Ground) × In y gs × (x ≡ back y)) → (y : Ground) × In y (g ∷ gs) × (x ≡ back y)
    by (inl k) rest = let y = rest k in (y.0, inr y.1, y.2)
    by (inr (inl e)) rest = (g, inl refl, e)
    by (inr (inr e)) rest = absurd e

-- no millimetre comes twice
pub once_turned : (c : List Ground) → each_two differs c ≡ true → each_two differs (turned c) ≡ true
once_turned [] h = refl
once_turned (g ∷ gs) h =
    let both = and_parts (list_all (differs g) gs) (each_two differs gs) h in
    ap (each_two differs) (last_comes g gs)
    ∙ joined differs (turned gs) (back g ∷ []) (once_turned gs both.1) refl (λ x y m n. apart x y both.0 (from_turned x gs m) n)
  where
    apart : (x y : Ground) → list_all (differs g) gs ≡ true → (z : Ground) × In z gs × (x ≡ back z) → In y (back g ∷ []) → differs x y ≡ true
    apart x y first z (inl e) = (λ j. differs (z.2 j) (e j)) ∙ ap not (at_same z.0 g) ∙ all_at (differs g) z.0 gs first z.1
    apart x y first z (inr e) = absurd e

-- a test of links and their millimetres passes either way
pub all_turned : (p : Ground → Bool) (c : List Ground) → ((g : Ground) → p (back g) ≡ p g) → list_all p c ≡ true → list_all p (turned c) ≡ true
all_turned p c same h = all_of p (turned c) (λ x m. let y = from_turned x c m in ap p y.2 ∙ same y.0 ∙ all_at p y.0 c h y.1)

-- ---- its entries

-- an entry counted from the other end
get_turned : (c : List Ground) (k : ℕ) → k < length c → slice_get (turned c) (length c - 1 - k) ≡ option_map back (slice_get c k)
get_turned [] k h = absurd (omega (arith, h))
get_turned (g ∷ gs) zero h = (λ j. slice_get (last_comes g gs j) (place j)) ∙ get_last 0 (turned gs) (back g ∷ [])
  where
    place : length (g ∷ gs) - 1 - zero ≡ length (turned gs) + 0
    place = let e = length-turned gs in omega (arith, e)
get_turned (g ∷ gs) (suc k) h =
    (λ j. slice_get (last_comes g gs j) (place j)) ∙ get_first (length gs - 1 - k) (turned gs) (back g ∷ []) (let e = length-turned gs in omega (arith, e, h))
    ∙ get_turned gs k (omega (arith, h))
  where
    place : length (g ∷ gs) - 1 - suc k ≡ length gs - 1 - k
    place = omega arith

-- a referent stands where it stood
pub stands_turned : (c : List Ground) (q : Referent) → q.at < length c → referent_entry (turned c) (from_end (length c) q) ≡ referent_entry c q
stands_turned c q h =
    ap (λ o. option_map (λ m. (q.name, m)) (option_map (λ (g : Ground). (g.link, g.mm)) o)) (get_turned c q.at h) ∙ by (slice_get c q.at)
  where
    by : (o : Option Ground) → ◌≡◌ {A = Option (Name × Millimetre)} (option_map (λ m. (q.name, m)) (option_map (λ (g : Ground). (g.link, g.mm)) (option_map back o))) (option_map (λ m. (q.name, m)) (option_map (λ (g : Ground). (g.link, g.mm)) o))
    by None = refl
    by (Some g) = refl

-- ... and so do all
pub all_stand : (c : List Ground) (qs : List Referent) → list_all (λ (q : Referent). nat_lt q.at (length c)) qs ≡ true → filter_map (referent_entry (turned c)) (map (from_end (length c)) qs) ≡ filter_map (referent_entry c) qs
all_stand c [] h = refl
all_stand c (q ∷ qs) h =
    let both = and_parts (nat_lt q.at (length c)) (list_all (λ (q : Referent). nat_lt q.at (length c)) qs) h in
    λ j. cons_option (stands_turned c q (ltb-true q.at (length c) both.0) j) (all_stand c qs both.1 j)

-- ---- what rows hold on it

opposite : (f : Bool) (s : LinkSide) → along_link (not f) (other_side s) ≡ along_link f s
opposite true Left = refl
opposite true Right = refl
opposite false Left = refl
opposite false Right = refl

or_both : (a b c : Bool) → (c || (a || (b || false))) ≡ (b || (a || c))
or_both true true true = refl
or_both true true false = refl
or_both true false true = refl
or_both true false false = refl
or_both false true true = refl
or_both false true false = refl
or_both false false true = refl
or_both false false false = refl

-- what is picked of the turned course, seen from this end
pub picked-turned : (m : Picks) (k : ℕ) (c : List Ground) (p : Place) → is_picked m k (turned c) p ≡ is_picked (λ j s. m (k + (length c - 1 - j)) (other_side s)) 0 c p
picked-turned m k [] p = refl
picked-turned m k (g ∷ gs) p =
    ap (λ l. is_picked m k l p) (last_comes g gs)
    ∙ picked-append m k (turned gs) (back g ∷ []) p
    ∙ (λ i. (picked-turned m k gs p ∙ rest) i || last i)
    ∙ or_both (m n Left && same_place p (beside g Right)) (m n Right && same_place p (beside g Left)) (is_picked later 1 gs p)
  where
    n : ℕ
    n = k + (length (g ∷ gs) - 1 - 0)

    later : Picks
    later j s = m (k + (length (g ∷ gs) - 1 - j)) (other_side s)

    index : (j : ℕ) → length gs - 1 - j ≡ length (g ∷ gs) - 1 - (j + 1)
    index j = omega arith

    rest : is_picked (λ j s. m (k + (length gs - 1 - j)) (other_side s)) 0 gs p ≡ is_picked later 1 gs p
    rest =
        picked-within (λ j s. m (k + (length gs - 1 - j)) (other_side s)) (λ j s. later (j + 1) s) 0 gs p (λ j s low high. ap (λ t. m (k + t) (other_side s)) (index j))
        ∙ sym (picked-shift later 1 0 gs p)

    place : (s : LinkSide) → same_place p (beside (back g) (other_side s)) ≡ same_place p (beside g s)
    place s = ap (λ t. (nat_eq p.link g.link && nat_eq p.mm g.mm) && same_link_side p.side t) (opposite g.forward s)

    last : is_picked m (k + length (turned gs)) (back g ∷ []) p ≡ ((m n Left && same_place p (beside g Right)) || ((m n Right && same_place p (beside g Left)) || false))
    last = λ i. (m (here i) Left && place Right i) || ((m (here i) Right && place Left i) || false)
      where
        here : k + length (turned gs) ≡ n
        here = let e = length-turned gs in omega (arith, e)

-- Turned rows hold on the turned course what the rows held.
pub turned_rows_hold : (c : List Ground) (rows new : List Span) → IsTurned (length c) rows new → (asset : ℕ) (p : Place) → holds_by_spans (turned c) new asset p ≡ holds_by_spans c rows asset p
turned_rows_hold c rows new is asset p =
    rows_hold (turned c) new asset p
    ∙ picked-turned (is_held new asset) 0 c p
    ∙ picked-within (λ j s. is_held new asset (0 + (length c - 1 - j)) (other_side s)) (is_held rows asset) 0 c p (λ j s low high. there j s high)
    ∙ sym (rows_hold c rows asset p)
  where
    twice : (s : LinkSide) → other_side (other_side s) ≡ s
    twice Left = refl
    twice Right = refl

    there : (j : ℕ) (s : LinkSide) → j < 0 + length c → is_held new asset (0 + (length c - 1 - j)) (other_side s) ≡ is_held rows asset j s
    there j s high =
        held_across asset (0 + (length c - 1 - j)) j (other_side s) s new rows true (λ class.
        is class asset (0 + (length c - 1 - j)) (other_side s)
        ∙ ap (λ b. b && is_member rows class asset (length c - 1 - (0 + (length c - 1 - j))) (other_side (other_side s))) (lt-ltb (0 + (length c - 1 - j)) (length c) (omega (arith, high)))
        ∙ (λ i. is_member rows class asset (same i) (twice s i)) ∙ sym (and_true (is_member rows class asset j s)))
        ∙ and_true (is_held rows asset j s)
      where
        same : length c - 1 - (0 + (length c - 1 - j)) ≡ j
        same = omega (arith, high)
