-- What a state keeps when places are entered or taken away.
use Rattle.std.proofs.Common.{◌≡◌, ℕ, ◌≤◌, Bool, true, false, ◌⊎◌, List, [], ◌∷◌, Some, refl, sym, ap, subst, ◌∙◌, inl, inr, ⊎_elim, arith}
use Rattle.std.specs.Prelude.{◌&&◌, ◌||◌, not, nat_eq}
use Rattle.std.specs.List.{list_any}
use Rattle.std.proofs.lemmas.Bool.{false≢true, both_ways, eqb-true, eq-eqb, and_parts, and_from, or_cases, or_left, or_right, not_from_false, not-true, cases_Bool}
use Rattle.std.proofs.lemmas.Cmp.{nat_cmp_total}
use Rattle.std.proofs.lemmas.Map.Lookups.{exact_unsigned}
use Rattle.lrs_events.specs.declared.class.Kind.TheVariants.{Exclusive}
use Rattle.lrs_events.specs.declared.side.LinkSide.{LinkSide}
use Rattle.lrs_events.specs.declared.side.LinkSide.TheVariants.{Left, Right}
use Rattle.lrs_events.specs.declared.side.Side.{Side}
use Rattle.lrs_events.specs.declared.side.Side.TheVariants.{L, R, B}
use Rattle.lrs_events.specs.Places.{Place, same_link_side, same_place, is_among, beside, places_on}
use Rattle.lrs_element.specs.declared.link.Ground.{Ground}
use Rattle.lrs_measure.specs.Lists.{is_nothing}
use Rattle.lrs_machine.specs.Register.{get, insert, contains_key}
use Rattle.lrs_machine.specs.State.{State, Asset, Reason, Retired, Abandoned, same_reason}
use Rattle.lrs_machine.specs.Machine.{take_away, enter_places}
use Rattle.lrs_machine.specs.Laws.{IsBalanced, IsExclusive}
use Rattle.lrs_machine.proofs.Pairs.{is_same_side}
use Rattle.lrs_machine.proofs.Registers.{got_after, known_after, known_new, known_if_some}

-- The state is lawful, with n as the last edit that its ledgers may name.
pub record Fits (n : ℕ) (s : State) : Type 0 where
  pub balanced : IsBalanced s
  pub exclusive : IsExclusive s
  pub asset_known : (m asset : ℕ) (p : Place) → s.entered m asset p ≡ true → contains_key s.assets asset ≡ true
  pub class_known : (a : ℕ) (x : Asset) → get s.assets a ≡ Some x → contains_key s.classes x.class ≡ true
  pub entered_done : (m asset : ℕ) (p : Place) → s.entered m asset p ≡ true → (1 ≤ m) × (m ≤ n)
  pub gone_done : (m asset : ℕ) (why : Reason) (p : Place) → s.gone m why asset p ≡ true → (1 ≤ m) × (m ≤ n)
  pub by_entry : (m a : ℕ) (x : Asset) (p : Place) → get s.assets a ≡ Some x → s.entered m a p ≡ true → m ≡ x.entered_by
  pub was_entered : (a : ℕ) (x : Asset) → get s.assets a ≡ Some x → (p : Place) × (s.entered x.entered_by a p ≡ true)

-- two reasons that pass the test are one
reason_is : (a b : Reason) → same_reason a b ≡ true → a ≡ b
reason_is Retired Retired h = refl
reason_is Retired Abandoned h = absurd (false≢true h)
reason_is Abandoned Retired h = absurd (false≢true h)
reason_is Abandoned Abandoned h = refl

reason_same : (a : Reason) → same_reason a a ≡ true
reason_same Retired = refl
reason_same Abandoned = refl

side_is : (a b : LinkSide) → same_link_side a b ≡ true → a ≡ b
side_is Left Left h = refl
side_is Left Right h = absurd (false≢true h)
side_is Right Left h = absurd (false≢true h)
side_is Right Right h = refl

all_three : (a b c : Bool) → (a && b && c) ≡ true → (a ≡ true) × (b ≡ true) × (c ≡ true)
all_three true true true h = (refl, refl, refl)
all_three true true false h = absurd (false≢true h)
all_three true false c h = absurd (false≢true h)
all_three false b c h = absurd (false≢true h)

three_of : (a b c : Bool) → a ≡ true → b ≡ true → c ≡ true → (a && b && c) ≡ true
three_of a b c h i j = and_from (a && b) c (and_from a b h i) j

all_four : (a b c d : Bool) → (a && b && c && d) ≡ true → (a ≡ true) × (b ≡ true) × (c ≡ true) × (d ≡ true)
all_four true true true true h = (refl, refl, refl, refl)
all_four true true true false h = absurd (false≢true h)
all_four true true false d h = absurd (false≢true h)
all_four true false c d h = absurd (false≢true h)
all_four false b c d h = absurd (false≢true h)

four_of : (a b c d : Bool) → a ≡ true → b ≡ true → c ≡ true → d ≡ true → (a && b && c && d) ≡ true
four_of a b c d h i j k = and_from (a && b && c) d (three_of a b c h i j) k

-- two places that pass the test are one
place_is : (p q : Place) → same_place p q ≡ true → p ≡ q
place_is p q h = let e = all_three _ _ _ h in λ i. record { link = eqb-true p.link q.link e.0 i; mm = eqb-true p.mm q.mm e.1 i; side = side_is p.side q.side e.2 i }

-- A test that a place among some passes is passed by one of them.
pub among_passes : (test : Place → Bool) (places : List Place) (p : Place) → is_among places p ≡ true → test p ≡ true → list_any test places ≡ true
among_passes test [] p h passes = absurd (false≢true h)
among_passes test (q ∷ places) p h passes =
    ⊎_elim (λ here. or_left (test q) (list_any test places) (subst (λ x. test x ≡ true) (place_is p q here) passes))
    (λ later. or_right (test q) (list_any test places) (among_passes test places p later passes)) (or_cases (same_place p q) (is_among places p) h)

place_same : (p : Place) → same_place p p ≡ true
place_same p = three_of _ _ _ (eq-eqb p.link p.link refl) (eq-eqb p.mm p.mm refl) (is_same_side p.side p.side refl)

-- A course that has an entry has a place beside it.
pub place_beside : (side : Side) (course : List Ground) → is_nothing course ≡ false → (p : Place) × (is_among (places_on side course) p ≡ true)
place_beside side [] h = absurd (false≢true (sym h))
place_beside L (g ∷ course) h = (beside g Left, or_left _ _ (place_same (beside g Left)))
place_beside R (g ∷ course) h = (beside g Right, or_left _ _ (place_same (beside g Right)))
place_beside B (g ∷ course) h = (beside g Left, or_left _ _ (place_same (beside g Left)))

-- What is held is taken away: all stays in order, and the edit is named.
module _ (n : ℕ) (reason : Reason) (taken : ℕ → Place → Bool) (s : State) where
  abbrev goes : ℕ → Reason → ℕ → Place → Bool
  goes m why a p = nat_eq m n && same_reason why reason && s.holds a p && taken a p

  parts : (m : ℕ) (why : Reason) (a : ℕ) (p : Place) → goes m why a p ≡ true → (m ≡ n) × (why ≡ reason) × (s.holds a p ≡ true) × (taken a p ≡ true)
  parts m why a p h = let e = all_four _ _ _ _ h in (eqb-true m n e.0, reason_is why reason e.1, e.2, e.3)

  balanced_away : IsBalanced s → IsBalanced (take_away n reason taken s)
  balanced_away h = record {
    entered_once = h.entered_once;
    gone_once = λ m k a why because p g j. twice m k a why because p (or_cases _ _ g) (or_cases _ _ j);
    gone_entered = λ m a why p g. ⊎_elim (h.gone_entered m a why p) (λ new. h.held_entered a p (parts m why a p new).2) (or_cases (s.gone m why a p) (goes m why a p) g);
    held_entered = λ a p held. h.held_entered a p (and_parts (s.holds a p) (not (taken a p)) held).0;
    held_or_gone = λ m a p e. after a p (h.held_or_gone m a p e) (cases_Bool (taken a p));
    held_not_gone = λ m a why p held g. apart m a why p (and_parts (s.holds a p) (not (taken a p)) held) (or_cases (s.gone m why a p) (goes m why a p) g);
  }
    where
      twice : (m k a : ℕ) (why because : Reason) (p : Place) → (s.gone m why a p ≡ true) ⊎ (goes m why a p ≡ true)
          → (s.gone k because a p ≡ true) ⊎ (goes k because a p ≡ true) → (m ≡ k) × (why ≡ because)
      twice m k a why because p (inl g) (inl j) = h.gone_once m k a why because p g j
      twice m k a why because p (inl g) (inr j) = absurd (h.held_not_gone m a why p (parts k because a p j).2 g)
      twice m k a why because p (inr g) (inl j) = absurd (h.held_not_gone k a because p (parts m why a p g).2 j)
      twice m k a why because p (inr g) (inr j) = let x = parts m why a p g in let y = parts k because a p j in (x.0 ∙ sym y.0, x.1 ∙ sym y.1)

      after : (a : ℕ) (p : Place) → (s.holds a p ≡ true) ⊎ ((m : ℕ) × (why : Reason) × (s.gone m why a p ≡ true)) → (taken a p ≡ true) ⊎ (taken a p ≡ false)
          → ((s.holds a p && not (taken a p)) ≡ true) ⊎ ((m : ℕ) × (why : Reason) × ((s.gone m why a p || goes m why a p) ≡ true))
      after a p (inl held) (inl t) = inr (n, reason, or_right (s.gone n reason a p) (goes n reason a p) (four_of _ _ _ _ (eq-eqb n n refl) (reason_same reason) held t))
      after a p (inl held) (inr t) = inl (and_from (s.holds a p) (not (taken a p)) held (not_from_false (taken a p) t))
      after a p (inr gone) t = inr (gone.0, gone.1, or_left (s.gone gone.0 gone.1 a p) (goes gone.0 gone.1 a p) gone.2)

      apart : (m a : ℕ) (why : Reason) (p : Place) → (s.holds a p ≡ true) × (not (taken a p) ≡ true) → (s.gone m why a p ≡ true) ⊎ (goes m why a p ≡ true) → ⊥
      apart m a why p held (inl g) = h.held_not_gone m a why p held.0 g
      apart m a why p held (inr g) = both_ways (taken a p) (not-true (taken a p) held.1) (parts m why a p g).3

  pub fits_away : 1 ≤ n → Fits n s → Fits n (take_away n reason taken s)
  fits_away low h = record {
    balanced = balanced_away h.balanced;
    exclusive = λ a b x y p gx gy same is ha hb. h.exclusive a b x y p gx gy same is (and_parts (s.holds a p) (not (taken a p)) ha).0 (and_parts (s.holds b p) (not (taken b p)) hb).0;
    asset_known = h.asset_known;
    class_known = h.class_known;
    entered_done = h.entered_done;
    gone_done = λ m a why p g. ⊎_elim (h.gone_done m a why p) (λ new. let e : m ≡ n = (parts m why a p new).0 in (omega arith, omega arith))
        (or_cases (s.gone m why a p) (goes m why a p) g);
    by_entry = h.by_entry;
    was_entered = h.was_entered;
  }

-- A new asset comes to hold places: all stays in order if no asset of its class holds them, where the class is exclusive.
module _ (n asset : ℕ) (x : Asset) (places : List Place) (s : State) where
  abbrev comes : ℕ → Place → Bool
  comes a p = nat_eq a asset && is_among places p

  abbrev writes : ℕ → ℕ → Place → Bool
  writes m a p = nat_eq m n && nat_eq a asset && is_among places p

  abbrev pub entering : State
  entering = enter_places n asset places (record s { assets = insert s.assets asset x })

  -- no other asset of the class stands in the way
  abbrev pub IsClear : Type 0
  IsClear = (b : ℕ) (y : Asset) (p : Place) → get s.assets b ≡ Some y → y.class ≡ x.class → get s.classes x.class ≡ Some Exclusive → s.holds b p ≡ true → is_among places p ≡ true → ⊥

  asset_of : (m a : ℕ) (p : Place) → writes m a p ≡ true → (m ≡ n) × (a ≡ asset)
  asset_of m a p h = let e = all_three _ _ _ h in (eqb-true m n e.0, eqb-true a asset e.1)

  comer : (a : ℕ) (p : Place) → comes a p ≡ true → (a ≡ asset) × (is_among places p ≡ true)
  comer a p h = let e = and_parts (nat_eq a asset) (is_among places p) h in (eqb-true a asset e.0, e.1)

  wrote : (a : ℕ) (p : Place) → comes a p ≡ true → writes n a p ≡ true
  wrote a p h = let e = and_parts (nat_eq a asset) (is_among places p) h in three_of _ _ _ (eq-eqb n n refl) e.0 e.1

  came : (m a : ℕ) (p : Place) → writes m a p ≡ true → comes a p ≡ true
  came m a p h = let e = all_three _ _ _ h in and_from (nat_eq a asset) (is_among places p) e.1 e.2

  module _ (h : Fits n s) (unknown : contains_key s.assets asset ≡ false) where
    never_entered : (m a : ℕ) (p : Place) → a ≡ asset → s.entered m a p ≡ true → ⊥
    never_entered m a p is e = both_ways (contains_key s.assets asset) unknown (subst (λ b. contains_key s.assets b ≡ true) is (h.asset_known m a p e))

    never_held : (a : ℕ) (p : Place) → a ≡ asset → s.holds a p ≡ true → ⊥
    never_held a p is held = let e = h.balanced.held_entered a p held in never_entered e.0 a p is e.1

    never_known : (a : ℕ) (y : Asset) → a ≡ asset → get s.assets a ≡ Some y → ⊥
    never_known a y is got = both_ways (contains_key s.assets asset) unknown (subst (λ b. contains_key s.assets b ≡ true) is (known_if_some (get s.assets a) y got))

    balanced_entering : IsBalanced entering
    balanced_entering = record {
      entered_once = λ m k a p e f. twice m k a p (or_cases (s.entered m a p) (writes m a p) e) (or_cases (s.entered k a p) (writes k a p) f);
      gone_once = h.balanced.gone_once;
      gone_entered = λ m a why p g. let e = h.balanced.gone_entered m a why p g in (e.0, or_left (s.entered e.0 a p) (writes e.0 a p) e.1);
      held_entered = λ a p held. ⊎_elim (λ old. let e = h.balanced.held_entered a p old in (e.0, or_left (s.entered e.0 a p) (writes e.0 a p) e.1))
          (λ new. (n, or_right (s.entered n a p) (writes n a p) (wrote a p new))) (or_cases (s.holds a p) (comes a p) held);
      held_or_gone = λ m a p e. ⊎_elim (λ old. ⊎_elim (λ held. inl (or_left (s.holds a p) (comes a p) held)) (λ gone. inr gone) (h.balanced.held_or_gone m a p old))
          (λ new. inl (or_right (s.holds a p) (comes a p) (came m a p new))) (or_cases (s.entered m a p) (writes m a p) e);
      held_not_gone = λ m a why p held g. ⊎_elim (λ old. h.balanced.held_not_gone m a why p old g)
          (λ new. let e = h.balanced.gone_entered m a why p g in never_entered e.0 a p (comer a p new).0 e.1) (or_cases (s.holds a p) (comes a p) held);
    }
      where
        twice : (m k a : ℕ) (p : Place) → (s.entered m a p ≡ true) ⊎ (writes m a p ≡ true) → (s.entered k a p ≡ true) ⊎ (writes k a p ≡ true) → m ≡ k
        twice m k a p (inl e) (inl f) = h.balanced.entered_once m k a p e f
        twice m k a p (inl e) (inr f) = absurd (never_entered m a p (asset_of k a p f).1 e)
        twice m k a p (inr e) (inl f) = absurd (never_entered k a p (asset_of m a p e).1 f)
        twice m k a p (inr e) (inr f) = (asset_of m a p e).0 ∙ sym (asset_of k a p f).0

    -- the new asset and an old one of its class hold nothing in common
    module _ (clear : IsClear) where
      meets_none : (a b : ℕ) (z y : Asset) (p : Place) → a ≡ asset → z ≡ x → get s.assets b ≡ Some y → z.class ≡ y.class → get s.classes z.class ≡ Some Exclusive
          → (s.holds a p || comes a p) ≡ true → (s.holds b p || comes b p) ≡ true → a ≡ b
      meets_none a b z y p is new got same kind ha hb = by (or_cases (s.holds a p) (comes a p) ha) (or_cases (s.holds b p) (comes b p) hb)
        where
          by : (s.holds a p ≡ true) ⊎ (comes a p ≡ true) → (s.holds b p ≡ true) ⊎ (comes b p ≡ true) → a ≡ b
          by (inl old) hb = absurd (never_held a p is old)
          by (inr ca) (inl old) =
              absurd (clear b y p got (sym same ∙ ap (λ (q : Asset). q.class) new) (subst (λ (q : Asset). get s.classes q.class ≡ Some Exclusive) new kind) old (comer a p ca).1)
          by (inr ca) (inr cb) = is ∙ sym (comer b p cb).0

      found : (a : ℕ) (y : Asset) → get (insert s.assets asset x) a ≡ Some y → ((a ≡ asset) × (y ≡ x)) ⊎ (get s.assets a ≡ Some y)
      found a y got = got_after nat_cmp_total exact_unsigned s.assets asset a x y got

      exclusive_entering : IsExclusive entering
      exclusive_entering a b z y p gz gy same kind ha hb = by (found a z gz) (found b y gy)
        where
          old : get s.assets a ≡ Some z → get s.assets b ≡ Some y → (s.holds a p ≡ true) ⊎ (comes a p ≡ true) → (s.holds b p ≡ true) ⊎ (comes b p ≡ true) → a ≡ b
          old ga gb (inl ha) (inl hb) = h.exclusive a b z y p ga gb same kind ha hb
          old ga gb (inl ha) (inr cb) = absurd (never_known b y (comer b p cb).0 gb)
          old ga gb (inr ca) hb = absurd (never_known a z (comer a p ca).0 ga)

          by : ((a ≡ asset) × (z ≡ x)) ⊎ (get s.assets a ≡ Some z) → ((b ≡ asset) × (y ≡ x)) ⊎ (get s.assets b ≡ Some y) → a ≡ b
          by (inl i) (inl j) = i.0 ∙ sym j.0
          by (inl i) (inr gb) = meets_none a b z y p i.0 i.1 gb same kind ha hb
          by (inr ga) (inl j) = sym (meets_none b a y z p j.0 j.1 ga (sym same) (subst (λ c. get s.classes c ≡ Some Exclusive) same kind) hb ha)
          by (inr ga) (inr gb) = old ga gb (or_cases (s.holds a p) (comes a p) ha) (or_cases (s.holds b p) (comes b p) hb)

      by_entry : (m a : ℕ) (y : Asset) (p : Place) → x.entered_by ≡ n → ((a ≡ asset) × (y ≡ x)) ⊎ (get s.assets a ≡ Some y) → (s.entered m a p ≡ true) ⊎ (writes m a p ≡ true) → m ≡ y.entered_by
      by_entry m a y p own (inl new) (inl old) = absurd (never_entered m a p new.0 old)
      by_entry m a y p own (inl new) (inr e) = (asset_of m a p e).0 ∙ sym own ∙ ap (λ (z : Asset). z.entered_by) (sym new.1)
      by_entry m a y p own (inr got) (inl old) = h.by_entry m a y p got old
      by_entry m a y p own (inr got) (inr e) = absurd (never_known a y (asset_of m a p e).1 got)

      was_entered : (a : ℕ) (y : Asset) → x.entered_by ≡ n → (p : Place) × (is_among places p ≡ true) → ((a ≡ asset) × (y ≡ x)) ⊎ (get s.assets a ≡ Some y)
          → (p : Place) × ((s.entered y.entered_by a p || writes y.entered_by a p) ≡ true)
      was_entered a y own some (inl new) =
          let is : y.entered_by ≡ n = ap (λ (z : Asset). z.entered_by) new.1 ∙ own in
          (some.0, or_right (s.entered y.entered_by a some.0) (writes y.entered_by a some.0) (three_of _ _ _ (eq-eqb y.entered_by n is) (eq-eqb a asset new.0) some.1))
      was_entered a y own some (inr got) = let e = h.was_entered a y got in (e.0, or_left (s.entered y.entered_by a e.0) (writes y.entered_by a e.0) e.1)

      pub fits_entering : 1 ≤ n → contains_key s.classes x.class ≡ true → x.entered_by ≡ n → (p : Place) × (is_among places p ≡ true) → Fits n entering
      fits_entering low class own some = record {
        balanced = balanced_entering;
        exclusive = exclusive_entering;
        asset_known = λ m a p e. ⊎_elim (λ old. known_after nat_cmp_total exact_unsigned s.assets asset a x (h.asset_known m a p old))
            (λ new. subst (λ b. contains_key (insert s.assets asset x) b ≡ true) (sym (asset_of m a p new).1) (known_new nat_cmp_total exact_unsigned s.assets asset x))
            (or_cases (s.entered m a p) (writes m a p) e);
        class_known = λ a y got. ⊎_elim (λ new. subst (λ (q : Asset). contains_key s.classes q.class ≡ true) (sym new.1) class) (λ old. h.class_known a y old) (found a y got);
        entered_done = λ m a p e. ⊎_elim (λ old. h.entered_done m a p old) (λ new. let is : m ≡ n = (asset_of m a p new).0 in (omega arith, omega arith))
            (or_cases (s.entered m a p) (writes m a p) e);
        gone_done = h.gone_done;
        by_entry = λ m a y p got e. by_entry m a y p own (found a y got) (or_cases (s.entered m a p) (writes m a p) e);
        was_entered = λ a y got. was_entered a y own some (found a y got);
      }
