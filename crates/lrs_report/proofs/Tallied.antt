-- Totals to which rows are added have the sums over the rows.
use Rattle.std.proofs.Common.{◌≡◌, ℕ, ◌+◌, Bool, true, false, cond, Option, Some, None, List, [], ◌∷◌, map, refl, sym, ap, ◌∙◌, arith, sum_by}
use Rattle.std.specs.Prelude.{◌&&◌, not}
use Rattle.std.specs.List.{fold}
use Rattle.std.specs.Option.{option_map_or}
use Rattle.std.specs.Ordering.{is_eq}
use Rattle.std.proofs.lemmas.Map.Text.{is_eq-slice_cmp}
use Rattle.std.proofs.lemmas.List.Sums.{sum_by-cons}
use Rattle.lrs_measure.specs.Lists.{each_two}
use Rattle.lrs_measure.specs.Texts.{Name, name_before, same_name}
use Rattle.lrs_events.specs.declared.class.Asset.{Asset}
use Rattle.lrs_events.specs.declared.class.Class.{Class}
use Rattle.lrs_events.specs.declared.part.Gone.{Gone}
use Rattle.lrs_events.specs.declared.part.Part.{Part}
use Rattle.lrs_events.specs.declared.span.Span.{Span}
use Rattle.lrs_machine.proofs.Pairs.{each_two-map}
use Rattle.lrs_machine.specs.Sound.{class_before}
use Rattle.lrs_machine.specs.declared.total.Total.{Total}
use Rattle.lrs_report.specs.declared.list_tally.Sum.{Sum}
use Rattle.lrs_report.specs.declared.list_tally.Sum.TheVariants.{Entered, Retired, Abandoned, Present}
use Rattle.lrs_report.specs.ListTotals.{asset_class, is_of_class, kept_sum, part_length, row_length, entered_of, retired_of, abandoned_of, present_on, present_of, list_totals}
use Rattle.lrs_report.specs.ListTally.{raised, raised_of, class_order, total_before, are_by_class, with_part, with_entered, sum_of, with_gone, with_rows, with_routes, no_total}

-- ---- the order of the classes stays

class_stays : (sum : Sum) (b : Bool) (n : ℕ) (t : Total) → (cond b (raised sum n t) t).class ≡ t.class
class_stays (Entered) true n t = refl
class_stays (Retired) true n t = refl
class_stays (Abandoned) true n t = refl
class_stays (Present) true n t = refl
class_stays sum false n t = refl

pub order_stays : (class : Name) (sum : Sum) (n : ℕ) (totals : List Total) → are_by_class (raised_of class sum n totals) ≡ are_by_class totals
order_stays class sum n totals =
    each_two-map total_before (λ t. cond (is_eq (class_order class t)) (raised sum n t) t) totals
    ∙ (λ i. each_two (λ a b. name_before (class_stays sum (is_eq (class_order class a)) n a i) (class_stays sum (is_eq (class_order class b)) n b i)) totals)

pub first_order : (classes : List Class) → each_two class_before classes ≡ true → are_by_class (map no_total classes) ≡ true
first_order classes h = each_two-map total_before no_total classes ∙ h

-- ---- one total, with sums of any size

abbrev pub plus : Sum → ℕ → Total → Total
plus (Entered) n t = record { class = t.class; entered = t.entered + n; retired = t.retired; abandoned = t.abandoned; present = t.present }
plus (Retired) n t = record { class = t.class; entered = t.entered; retired = t.retired + n; abandoned = t.abandoned; present = t.present }
plus (Abandoned) n t = record { class = t.class; entered = t.entered; retired = t.retired; abandoned = t.abandoned + n; present = t.present }
plus (Present) n t = record { class = t.class; entered = t.entered; retired = t.retired; abandoned = t.abandoned; present = t.present + n }

-- ... as 64 bits keep them
abbrev pub kept : Name → Total → Total
kept class t = record { class = class; entered = kept_sum t.entered; retired = kept_sum t.retired; abandoned = kept_sum t.abandoned; present = kept_sum t.present }

more : (m n : ℕ) → kept_sum (kept_sum m + n) ≡ kept_sum (m + n)
more m n = omega arith

less : (m n : ℕ) → kept_sum (m + kept_sum n) ≡ kept_sum (m + n)
less m n = omega arith

still : (m : ℕ) → m ≡ m + 0
still m = omega arith

less_one : (sum : Sum) (n : ℕ) (t : Total) → raised sum (kept_sum n) t ≡ raised sum n t
less_one (Entered) n t = λ i. record { class = t.class; entered = less t.entered n i; retired = t.retired; abandoned = t.abandoned; present = t.present }
less_one (Retired) n t = λ i. record { class = t.class; entered = t.entered; retired = less t.retired n i; abandoned = t.abandoned; present = t.present }
less_one (Abandoned) n t = λ i. record { class = t.class; entered = t.entered; retired = t.retired; abandoned = less t.abandoned n i; present = t.present }
less_one (Present) n t = λ i. record { class = t.class; entered = t.entered; retired = t.retired; abandoned = t.abandoned; present = less t.present n i }

-- what is added as 64 bits keep it
pub raised_less : (class : Name) (sum : Sum) (n : ℕ) (totals : List Total) → raised_of class sum (kept_sum n) totals ≡ raised_of class sum n totals
raised_less class sum n totals = λ i. map (λ t. cond (is_eq (class_order class t)) (less_one sum n t i) t) totals

kept_more : (class : Name) (sum : Sum) (n : ℕ) (t : Total) → raised sum n (kept class t) ≡ kept class (plus sum n t)
kept_more class (Entered) n t = λ i. record { class = class; entered = more t.entered n i; retired = kept_sum t.retired; abandoned = kept_sum t.abandoned; present = kept_sum t.present }
kept_more class (Retired) n t = λ i. record { class = class; entered = kept_sum t.entered; retired = more t.retired n i; abandoned = kept_sum t.abandoned; present = kept_sum t.present }
kept_more class (Abandoned) n t = λ i. record { class = class; entered = kept_sum t.entered; retired = kept_sum t.retired; abandoned = more t.abandoned n i; present = kept_sum t.present }
kept_more class (Present) n t = λ i. record { class = class; entered = kept_sum t.entered; retired = kept_sum t.retired; abandoned = kept_sum t.abandoned; present = more t.present n i }

no_more : (sum : Sum) (t : Total) → t ≡ plus sum 0 t
no_more (Entered) t = λ i. record { class = t.class; entered = still t.entered i; retired = t.retired; abandoned = t.abandoned; present = t.present }
no_more (Retired) t = λ i. record { class = t.class; entered = t.entered; retired = still t.retired i; abandoned = t.abandoned; present = t.present }
no_more (Abandoned) t = λ i. record { class = t.class; entered = t.entered; retired = t.retired; abandoned = still t.abandoned i; present = t.present }
no_more (Present) t = λ i. record { class = t.class; entered = t.entered; retired = t.retired; abandoned = t.abandoned; present = still t.present i }

one_more : (class : Name) (sum : Sum) (b : Bool) (n : ℕ) (t : Total) → cond b (raised sum n (kept class t)) (kept class t) ≡ kept class (plus sum (cond b n 0) t)
one_more class sum true n t = kept_more class sum n t
one_more class sum false n t = ap (kept class) (no_more sum t)

-- ---- the totals of all classes

abbrev pub shown : List Class → (Name → Total) → List Total
shown classes f = map (λ c. kept c.name (f c.name)) classes

raised_shown : (class : Name) (sum : Sum) (n : ℕ) (classes : List Class) (f : Name → Total) → raised_of class sum n (shown classes f) ≡ shown classes (λ m. plus sum (cond (same_name m class) n 0) (f m))
raised_shown class sum n [] f = refl
raised_shown class sum n (c ∷ cs) f =
    let one = ap (λ b. cond b (raised sum n (kept c.name (f c.name))) (kept c.name (f c.name))) (is_eq-slice_cmp c.name class) ∙ one_more c.name sum (same_name c.name class) n (f c.name) in
    let rest = raised_shown class sum n cs f in
    λ i. one i ∷ rest i

found_shown : (class : Option Name) (sum : Sum) (n : ℕ) (classes : List Class) (f : Name → Total)
    → option_map_or (λ its. raised_of its sum n (shown classes f)) class (shown classes f) ≡ shown classes (λ m. plus sum (cond (option_map_or (λ its. same_name m its) class false) n 0) (f m))
found_shown None sum n classes f = λ i. shown classes (λ m. no_more sum (f m) i)
found_shown (Some class) sum n classes f = raised_shown class sum n classes f

fold_shown : {X : Type 0} (classes : List Class) (step : List Total → X → List Total) (adds : Name → Total → X → Total) → ((f : Name → Total) (x : X) → step (shown classes f) x ≡ shown classes (λ m. adds m (f m) x))
    → (xs : List X) (f : Name → Total) → fold step (shown classes f) xs ≡ shown classes (λ m. fold (adds m) (f m) xs)
fold_shown classes step adds one [] f = refl
fold_shown classes step adds one (x ∷ xs) f = ap (λ ts. fold step ts xs) (one f x) ∙ fold_shown classes step adds one xs (λ m. adds m (f m) x)

-- ---- the sums of one class

added : (f n : ℕ) {X : Type 0} (g : X → ℕ) (x : X) (xs : List X) → g x ≡ n → (f + n) + sum_by g xs ≡ f + sum_by g (x ∷ xs)
added f n g x xs e = let all = sum_by-cons g x xs in omega (arith, all, e)

module _ (assets : List Asset) (class : Name) where
  abbrev pub of : ℕ → Bool
  of number = is_of_class class assets number

  entered_sum : (xs : List Part) (t : Total) → fold (λ u p. plus Entered (cond (of p.asset) (part_length p) 0) u) t xs
      ≡ record { class = t.class; entered = t.entered + entered_of class assets xs; retired = t.retired; abandoned = t.abandoned; present = t.present }
  entered_sum [] t = λ i. record { class = t.class; entered = still t.entered i; retired = t.retired; abandoned = t.abandoned; present = t.present }
  entered_sum (p ∷ ps) t =
      let n = cond (of p.asset) (part_length p) 0 in
      let all = added t.entered n (λ (q : Part). cond (of q.asset) (part_length q) 0) p ps refl in
      entered_sum ps (plus Entered n t) ∙ (λ i. record { class = t.class; entered = all i; retired = t.retired; abandoned = t.abandoned; present = t.present })

  gone_sum : (xs : List Gone) (t : Total) → fold (λ u g. plus (sum_of g) (cond (of g.part.asset) (part_length g.part) 0) u) t xs
      ≡ record { class = t.class; entered = t.entered; retired = t.retired + retired_of class assets xs; abandoned = t.abandoned + abandoned_of class assets xs; present = t.present }
  gone_sum [] t = λ i. record { class = t.class; entered = t.entered; retired = still t.retired i; abandoned = still t.abandoned i; present = t.present }
  gone_sum (g ∷ gs) t =
      ap (λ u. fold (λ v h. plus (sum_of h) (cond (of h.part.asset) (part_length h.part) 0) v) u gs) (by g.abandoned)
      ∙ gone_sum gs (record { class = t.class; entered = t.entered; retired = t.retired + retired g; abandoned = t.abandoned + abandoned g; present = t.present })
      ∙ (λ i. record { class = t.class; entered = t.entered; retired = added t.retired (retired g) retired g gs refl i; abandoned = added t.abandoned (abandoned g) abandoned g gs refl i; present = t.present })
    where
      retired : Gone → ℕ
      retired h = cond (not h.abandoned && of h.part.asset) (part_length h.part) 0

      abandoned : Gone → ℕ
      abandoned h = cond (h.abandoned && of h.part.asset) (part_length h.part) 0

      by : (b : Bool) → plus (cond b Abandoned Retired) (cond (of g.part.asset) (part_length g.part) 0) t
          ≡ record { class = t.class; entered = t.entered; retired = t.retired + cond (not b && of g.part.asset) (part_length g.part) 0; abandoned = t.abandoned + cond (b && of g.part.asset) (part_length g.part) 0; present = t.present }
      by true = λ i. record { class = t.class; entered = t.entered; retired = still t.retired i; abandoned = t.abandoned + cond (of g.part.asset) (part_length g.part) 0; present = t.present }
      by false = λ i. record { class = t.class; entered = t.entered; retired = t.retired + cond (of g.part.asset) (part_length g.part) 0; abandoned = still t.abandoned i; present = t.present }

module _ (class : Name) where
  abbrev pub with_row : Total → Span → Total
  with_row t r = plus Present (cond (same_name class r.class) (row_length r) 0) t

  rows_sum : (rows : List Span) (t : Total) → fold with_row t rows ≡ plus Present (present_on class rows) t
  rows_sum [] t = no_more Present t
  rows_sum (r ∷ rs) t =
      let n = cond (same_name class r.class) (row_length r) 0 in
      let all = added t.present n (λ (q : Span). cond (same_name class q.class) (row_length q) 0) r rs refl in
      rows_sum rs (plus Present n t) ∙ (λ i. record { class = t.class; entered = t.entered; retired = t.retired; abandoned = t.abandoned; present = all i })

  routes_sum : (routes : List (List Span)) (t : Total) → fold (λ u rows. fold with_row u rows) t routes ≡ plus Present (present_of class routes) t
  routes_sum [] t = no_more Present t
  routes_sum (rows ∷ rest) t =
      let all = added t.present (present_on class rows) (present_on class) rows rest refl in
      ap (λ u. fold (λ v rs. fold with_row v rs) u rest) (rows_sum rows t)
      ∙ routes_sum rest (plus Present (present_on class rows) t) ∙ (λ i. record { class = t.class; entered = t.entered; retired = t.retired; abandoned = t.abandoned; present = all i })

-- ---- all sums

from_none : (n : ℕ) → kept_sum (0 + n) ≡ kept_sum n
from_none n = omega arith

abbrev none : Name → Total
none m = record { class = m; entered = 0; retired = 0; abandoned = 0; present = 0 }

none_kept : kept_sum 0 ≡ 0
none_kept = omega arith

module _ (classes : List Class) (assets : List Asset) (routes : List (List Span)) (entered : List Part) (gone : List Gone) where
  -- the sums of a class by one pass
  abbrev passed : Name → Total
  passed m = fold (λ u rows. fold (with_row m) u rows) (fold (λ u g. plus (sum_of g) (cond (of assets m g.part.asset) (part_length g.part) 0) u) (fold (λ u p. plus Entered (cond (of assets m p.asset) (part_length p) 0) u) (none m) entered) gone) routes

  all_shown : with_routes routes (with_gone assets gone (with_entered assets entered (map no_total classes))) ≡ shown classes passed
  all_shown =
      sym (λ i. with_routes routes (with_gone assets gone (with_entered assets entered (map (λ (c : Class). record { class = c.name; entered = none_kept i; retired = none_kept i; abandoned = none_kept i; present = none_kept i }) classes))))
      ∙ ap (λ ts. with_routes routes (with_gone assets gone ts)) (fold_shown classes (λ ts p. with_part assets Entered p ts) (λ m u p. plus Entered (cond (of assets m p.asset) (part_length p) 0) u)
      (λ f p. found_shown (asset_class assets p.asset) Entered (part_length p) classes f) entered none)
      ∙ ap (with_routes routes) (fold_shown classes (λ ts g. with_part assets (sum_of g) g.part ts) (λ m u g. plus (sum_of g) (cond (of assets m g.part.asset) (part_length g.part) 0) u)
      (λ f g. found_shown (asset_class assets g.part.asset) (sum_of g) (part_length g.part) classes f) gone _)
      ∙ fold_shown classes (λ ts rows. with_rows rows ts) (λ m u rows. fold (with_row m) u rows)
      (λ f rows. fold_shown classes (λ ts r. raised_of r.class Present (row_length r) ts) with_row (λ h r. raised_shown r.class Present (row_length r) classes h) rows f) routes _

  one_total : (m : Name) → kept m (passed m)
      ≡ record { class = m; entered = kept_sum (entered_of m assets entered); retired = kept_sum (retired_of m assets gone); abandoned = kept_sum (abandoned_of m assets gone); present = kept_sum (present_of m routes) }
  one_total m =
      ap (kept m) (
      ap (λ u. fold (λ v rows. fold (with_row m) v rows) (fold (λ v g. plus (sum_of g) (cond (of assets m g.part.asset) (part_length g.part) 0) v) u gone) routes) (entered_sum assets m entered (none m))
      ∙ ap (λ u. fold (λ v rows. fold (with_row m) v rows) u routes) (gone_sum assets m gone _)
      ∙ routes_sum m routes _
      )
      ∙ (λ i. record {
        class = m;
        entered = from_none (entered_of m assets entered) i;
        retired = from_none (retired_of m assets gone) i;
        abandoned = from_none (abandoned_of m assets gone) i;
        present = from_none (present_of m routes) i;
      })

  -- one pass over the lists has the totals
  pub all_counted : with_routes routes (with_gone assets gone (with_entered assets entered (map no_total classes))) ≡ list_totals classes assets routes entered gone
  all_counted = all_shown ∙ (λ i. map (λ (c : Class). one_total c.name i) classes)
