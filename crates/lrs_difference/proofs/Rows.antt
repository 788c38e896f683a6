-- The canonical rows of a link have the places that are held, and no others.
use Rattle.std.proofs.Common.{◌≡◌, ℕ, zero, suc, ◌+◌, ◌<◌, ◌≤◌, Bool, true, false, Option, Some, None, ◌⊎◌, inl, inr, List, [], ◌∷◌, map, length, refl, sym, ap, subst, ◌∙◌, arith}
use Rattle.std.specs.Prelude.{slice_get}
use Rattle.std.specs.List.{filter_map, range_with_len}
use Rattle.std.specs.Option.{option_map}
use Rattle.std.proofs.lemmas.Bool.{false≢true, cases_lt}
use Rattle.std.proofs.lemmas.List.{length-map}
use Rattle.std.proofs.lemmas.List.FromFn.{length-map-range_with_len}
use Rattle.std.proofs.lemmas.Option.{slice_get-map}
use Rattle.lrs_measure.specs.Lists.{In}
use Rattle.lrs_measure.specs.Runs.{Run, runs_of, same_option}
use Rattle.lrs_measure.specs.MaximalRuns.{AreRuns, Decides, HaveValues, IsChain}
use Rattle.lrs_measure.proofs.Runs.{runs_are_one}
use Rattle.lrs_element.specs.declared.link.Ground.{Ground}
use Rattle.lrs_events.specs.declared.side.LinkSide.{LinkSide}
use Rattle.lrs_events.specs.declared.side.LinkSide.TheVariants.{Left, Right}
use Rattle.lrs_events.specs.declared.side.Side.{Side}
use Rattle.lrs_events.specs.Canonical.{canonical_rows, held_run, side_held, side_of}
use Rattle.lrs_events.specs.Members.{has_side}
use Rattle.lrs_events.specs.Places.{Place, beside}
use Rattle.lrs_events.specs.Spans.{same_side}
use Rattle.lrs_events.proofs.Row.Rows.{sides_same}
use Rattle.lrs_events.proofs.Row.Unique.{is_same}
use Rattle.lrs_difference.specs.Difference.{course_of_link}

some_one : {A : Type 0} → (x y : A) → Some x ≡ Some y → x ≡ y
some_one x y h = cc

-- ---- the runs of a list

module _ {A : Type 0} (xs : List A) where
  value_at : (r : Run A) (rs : List (Run A)) → HaveValues 0 xs rs → In r rs → (k : ℕ) → r.from ≤ k → k < r.to → slice_get xs k ≡ Some r.value
  value_at r [] h m k low high = absurd m
  value_at r (q ∷ qs) h (inl e) k low high =
      let from = ap (λ z. z.from) e in
      let to = ap (λ z. z.to) e in
      h.0 k (omega (arith, low, from)) (omega (arith, high, to)) ∙ ap (λ z. Some z.value) (sym e)
  value_at r (q ∷ qs) h (inr m) k low high = value_at r qs h.1 m k low high

run_over : {A : Type 0} → (from to : ℕ) (rs : List (Run A)) → IsChain from to rs → (k : ℕ) → from ≤ k → k < to → (r : Run A) × In r rs × (r.from ≤ k) × (k < r.to)
run_over from to [] h k low high = absurd (omega (arith, h, low, high))
run_over from to (r ∷ rs) h k low high = by (cases_lt k r.to) (run_over r.to to rs h.2 k)
  where
    by : (k < r.to) ⊎ (r.to ≤ k) → (r.to ≤ k → k < to → (q : Run _) × In q rs × (q.from ≤ k) × (k < q.to)) → (q : Run _) × In q (r ∷ rs) × (q.from ≤ k) × (k < q.to)
    by (inl within) later = (let begin = h.0 in (r, inl refl, omega (arith, begin, low), within))
    by (inr behind) later = let q = later behind high in (q.0, inr q.1, q.2, q.3)

sides_decided : Decides (Option Side) (same_option same_side)
sides_decided = record { itself = itself; equal = equal }
  where
    itself : (o : Option Side) → same_option same_side o o ≡ true
    itself None = refl
    itself (Some s) = is_same s s refl

    equal : (o p : Option Side) → same_option same_side o p ≡ true → o ≡ p
    equal None None h = refl
    equal None (Some s) h = absurd (cc h)
    equal (Some s) None h = absurd (cc h)
    equal (Some s) (Some t) h = ap (λ x. Some x) (sides_same s t h)

-- ---- the runs that are held

abbrev whole : Run Side → Run (Option Side)
whole u = record { from = u.from; to = u.to; value = Some u.value }

pub held_in : (u : Run Side) (rs : List (Run (Option Side))) → In u (filter_map held_run rs) → In (whole u) rs
held_in u [] m = absurd m
held_in u (r ∷ rs) m = by r.value refl m (held_in u rs)
  where
    by : (o : Option Side) → r.value ≡ o
        → In u (filter_map held_run (record { from = r.from; to = r.to; value = o } ∷ rs)) → (In u (filter_map held_run rs) → In (whole u) rs) → In (whole u) (r ∷ rs)
    by None is m later = inr (later m)
    by (Some s) is (inr m) later = inr (later m)
    by (Some s) is (inl e) later = inl (ap whole e ∙ (λ i. record { from = r.from; to = r.to; value = sym is i }))

in_held : (u : Run Side) (rs : List (Run (Option Side))) → In (whole u) rs → In u (filter_map held_run rs)
in_held u [] m = absurd m
in_held u (r ∷ rs) (inl e) = subst (λ (q : Run (Option Side)). In u (filter_map held_run (q ∷ rs))) e (inl refl)
in_held u (r ∷ rs) (inr m) = by r.value (in_held u rs m)
  where
    by : (o : Option Side) → In u (filter_map held_run rs) → In u (filter_map held_run (record { from = r.from; to = r.to; value = o } ∷ rs))
    by None k = k
    by (Some s) k = inr k

-- a run of one side
held_as : (r : Run (Option Side)) (side : Side) (rs : List (Run (Option Side))) → r.value ≡ Some side → In r rs → In (record { from = r.from; to = r.to; value = side }) (filter_map held_run rs)
held_as r side rs is m = in_held (record { from = r.from; to = r.to; value = side }) rs (subst (λ (q : Run (Option Side)). In q rs) (λ i. record { from = r.from; to = r.to; value = is i }) m)

-- ---- sides

abbrev one_of : LinkSide → Bool → Bool → Bool
one_of Left l r = l
one_of Right l r = r

side_holds : (l r : Bool) (side : Side) (s : LinkSide) → side_of l r ≡ Some side → has_side side s ≡ true → one_of s l r ≡ true
side_holds true true side Left e h = refl
side_holds true true side Right e h = refl
side_holds true false side Left e h = refl
side_holds true false side Right e h = ap (λ x. has_side x Right) (some_one _ side e) ∙ h
side_holds false true side Left e h = ap (λ x. has_side x Left) (some_one _ side e) ∙ h
side_holds false true side Right e h = refl
side_holds false false side s e h = absurd (cc e)

holds_side : (l r : Bool) (s : LinkSide) → one_of s l r ≡ true → (side : Side) × (side_of l r ≡ Some side) × (has_side side s ≡ true)
holds_side true true Left h = (_, refl, refl)
holds_side true true Right h = (_, refl, refl)
holds_side true false Left h = (_, refl, refl)
holds_side true false Right h = absurd (false≢true h)
holds_side false true Left h = absurd (false≢true h)
holds_side false true Right h = (_, refl, refl)
holds_side false false Left h = absurd (false≢true h)
holds_side false false Right h = absurd (false≢true h)

one_beside : (held : Place → Bool) (g : Ground) (s : LinkSide) → one_of s (held (beside g Left)) (held (beside g Right)) ≡ held (beside g s)
one_beside held g Left = refl
one_beside held g Right = refl

-- ---- a link

read_range : {A : Type 0} → (f : ℕ → A) (j n k : ℕ) (x : A) → slice_get (map f (range_with_len j n)) k ≡ Some x → (x ≡ f (j + k)) × (k < n)
read_range f j zero k x h = absurd (cc h)
read_range f j (suc n) zero x h = (let e : j ≡ j + zero = omega arith in sym (some_one (f j) x h) ∙ ap f e, omega arith)
read_range f j (suc n) (suc k) x h =
    let later = read_range f (j + 1) n k x h in
    let e : (j + 1) + k ≡ j + suc k = omega arith in
    (later.0 ∙ ap f e, (let l = later.1 in omega (arith, l)))

range_read : {A : Type 0} → (f : ℕ → A) (j n k : ℕ) → k < n → slice_get (map f (range_with_len j n)) k ≡ Some (f (j + k))
range_read f j zero k h = absurd (omega (arith, h))
range_read f j (suc n) zero h = ap (λ m. Some (f m)) (omega arith)
range_read f j (suc n) (suc k) h = let e : (j + 1) + k ≡ j + suc k = omega arith in range_read f (j + 1) n k (omega (arith, h)) ∙ ap (λ m. Some (f m)) e

module _ (held : Place → Bool) (number len : ℕ) where
  abbrev course : List Ground
  course = course_of_link (number, len)

  abbrev ground : ℕ → Ground
  ground k = record { link = number; mm = k; forward = true }

  abbrev sides : List (Option Side)
  sides = map (side_held held) course

  abbrev runs : List (Run (Option Side))
  runs = runs_of (same_option same_side) sides

  pub are_runs : AreRuns (Option Side) (same_option same_side) 0 sides runs
  are_runs = (runs_are_one (Option Side) (same_option same_side) sides_decided sides runs).1 refl

  -- what the sides read
  side_read : (k : ℕ) (o : Option Side) → slice_get sides k ≡ Some o → side_held held (ground k) ≡ o
  side_read k o h = by (slice_get course k) refl (sym (slice_get-map (side_held held) course k) ∙ h)
    where
      by : (x : Option Ground) → slice_get course k ≡ x → option_map (side_held held) x ≡ Some o → side_held held (ground k) ≡ o
      by None is e = absurd (cc e)
      by (Some g) is e = ap (side_held held) (sym ((read_range ground 0 len k g is).0 ∙ ap ground (omega arith))) ∙ some_one (side_held held g) o e

  -- a row has only places that are held
  pub row_holds : (u : Run Side) → In u (canonical_rows held course) → (k : ℕ) (s : LinkSide) → u.from ≤ k → k < u.to → has_side u.value s ≡ true → held (record { link = number; mm = k; side = s }) ≡ true
  row_holds u m k s low high has =
      let is = side_read k (Some u.value) (value_at sides (whole u) runs are_runs.values (held_in u runs m) k low high) in
      sym (one_beside held (ground k) s) ∙ side_holds (held (beside (ground k) Left)) (held (beside (ground k) Right)) u.value s is has

  -- a place that is held is of a row
  pub held_by_row : (k : ℕ) (s : LinkSide) → k < len → held (record { link = number; mm = k; side = s }) ≡ true
      → (u : Run Side) × In u (canonical_rows held course) × (u.from ≤ k) × (k < u.to) × (has_side u.value s ≡ true)
  held_by_row k s within h =
      let long : 0 + length sides ≡ len = omega (arith, length-map course (side_held held), length-map-range_with_len ground 0 len) in
      let r = run_over 0 (0 + length sides) runs are_runs.cover k (omega arith) (omega (arith, within, long)) in
      let side = holds_side (held (beside (ground k) Left)) (held (beside (ground k) Right)) s (one_beside held (ground k) s ∙ h) in
      let is : side_held held (ground k) ≡ r.0.value = side_read k r.0.value (value_at sides r.0 runs are_runs.values r.1 k r.2 r.3) in
      (record { from = r.0.from; to = r.0.to; value = side.0 }, held_as r.0 side.0 runs (sym is ∙ side.1) r.1, r.2, r.3, side.2)
