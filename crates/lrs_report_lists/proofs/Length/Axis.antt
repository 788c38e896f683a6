-- Routes one behind the other on one axis: what is held of each of them is what is held of the axis.
use Rattle.std.proofs.Common.{◌≡◌, ℕ, ◌+◌, ◌<◌, ◌≤◌, ◌^◌, Bool, true, false, ◌⊎◌, inl, inr, List, [], ◌∷◌, ◌++◌, Option, Some, None, refl, sym, ap, ◌∙◌, arith, append_assoc, sum_by, All}
use Rattle.std.specs.Prelude.{◌&&◌, ◌||◌, nat_lt, nat_le}
use Rattle.std.specs.List.{list_all, list_any}
use Rattle.std.specs.Option.{option_map_or}
use Rattle.std.proofs.lemmas.Bool.{and_parts, and_from, cases_lt, lt-ltb, le-ltb, le-leb, lt-leb, leb-true}
use Rattle.std.proofs.lemmas.List.Folds.{list_any-append, list_all-append}
use Rattle.std.proofs.lemmas.List.Sums.{sum_by-cons, AllPass-from_list_all}
use Rattle.lrs_measure.specs.Texts.{Name, same_name}
use Rattle.lrs_measure.proofs.Members.{all_weaker}
use Rattle.lrs_events.specs.declared.class.Asset.{Asset}
use Rattle.lrs_events.specs.declared.side.Side.{Side}
use Rattle.lrs_events.specs.declared.span.Span.{Span}
use Rattle.lrs_machine.specs.declared.image.RouteRow.{RouteRow}
use Rattle.lrs_report_lists.specs.Lines.{asset_numbered}
use Rattle.lrs_report_lists.specs.declared.length_lists.entries.LengthEntry.{LengthEntry}
use Rattle.lrs_report_lists.specs.Length.Lengths.{holds_at, is_told, length_of, length_on, tells}
use Rattle.lrs_report_lists.specs.Length.Parts.{FitsFrom, ends_by, entries_of, entries_on, entry_of, has_rows_on, held_by, is_entry_of, is_over, known_entry, lies_on, route_length, row_entry}
use Rattle.lrs_report_lists.proofs.Length.Counts.{count, count-agree, count-append, count-same, count-shift}
use Rattle.lrs_report_lists.proofs.Length.Tests.{all-flat, and_nothing, any-agree, any-flat, or_nothing}

module _ (assets : List Asset) where
  -- ---- where stretches lie

  abbrev pub begins_from : ℕ → LengthEntry → Bool
  begins_from start e = nat_le start e.from

  known_from : (low start : ℕ) (r : Span) (a : Option Asset) → low ≤ start → list_all (begins_from low) (known_entry start r a) ≡ true
  known_from low start r None h = refl
  known_from low start r (Some a) h = and_from (nat_le low (start + r.from)) true (le-leb low (start + r.from) (omega (arith, h))) refl

  all_true : {X : Type 0} (p : X → Bool) (xs : List X) → ((x : X) → p x ≡ true) → list_all p xs ≡ true
  all_true p [] h = refl
  all_true p (x ∷ xs) h = and_from (p x) (list_all p xs) (h x) (all_true p xs h)

  rows_from : (low start : ℕ) (rows : List Span) → low ≤ start → list_all (begins_from low) (entries_on assets start rows) ≡ true
  rows_from low start rows h =
      all-flat (begins_from low) (row_entry assets start) rows
      ∙ all_true (λ r. list_all (begins_from low) (row_entry assets start r)) rows (λ r. known_from low start r (asset_numbered assets r.asset) h)

  routes_from : (low start : ℕ) (routes : List RouteRow) → low ≤ start → list_all (begins_from low) (entries_of assets start routes) ≡ true
  routes_from low start [] h = refl
  routes_from low start (e ∷ es) h =
      list_all-append (begins_from low) (entries_on assets start e.spans) (entries_of assets (start + route_length e) es)
      ∙ and_from _ _ (rows_from low start e.spans h) (routes_from low (start + route_length e) es (omega (arith, h)))

  known_ends : (len start n : ℕ) (r : Span) (a : Option Asset) → lies_on len r ≡ true → start + len ≤ n → list_all (ends_by n) (known_entry start r a) ≡ true
  known_ends len start n r None on h = refl
  known_ends len start n r (Some a) on h =
      let within = leb-true r.to len (and_parts (nat_le r.from r.to) (nat_le r.to len) on).1 in
      and_from (nat_le (start + r.to) n) true (le-leb (start + r.to) n (omega (arith, h, within))) refl

  rows_end : (len start n : ℕ) (rows : List Span) → list_all (lies_on len) rows ≡ true → start + len ≤ n → list_all (ends_by n) (entries_on assets start rows) ≡ true
  rows_end len start n rows on h =
      all-flat (ends_by n) (row_entry assets start) rows
      ∙ all_weaker (lies_on len) (λ r. list_all (ends_by n) (row_entry assets start r)) rows (λ r k. known_ends len start n r (asset_numbered assets r.asset) k h) on

  routes_end : (start n : ℕ) (routes : List RouteRow) → list_all has_rows_on routes ≡ true → start + sum_by route_length routes ≤ n → list_all (ends_by n) (entries_of assets start routes) ≡ true
  routes_end start n [] on h = refl
  routes_end start n (e ∷ es) on h =
      let both = and_parts (has_rows_on e) (list_all has_rows_on es) on in
      let sum = sum_by-cons route_length e es in
      list_all-append (ends_by n) (entries_on assets start e.spans) (entries_of assets (start + route_length e) es)
      ∙ and_from _ _ (rows_end (route_length e) start n e.spans both.0 (omega (arith, h, sum))) (routes_end (start + route_length e) n es both.1 (omega (arith, h, sum)))

  -- Every stretch ends within the lengths of the routes together.
  pub all_end : (routes : List RouteRow) → list_all has_rows_on routes ≡ true → list_all (ends_by (sum_by route_length routes)) (entries_of assets 0 routes) ≡ true
  all_end routes on = routes_end 0 (sum_by route_length routes) routes on (omega arith)

  -- ---- what they hold

  module _ (class value : Name) where
    -- whether rows tell the class and the value is whether stretches have it
    known_told : (start : ℕ) (r : Span) (a : Option Asset)
        → list_any (is_entry_of class value) (known_entry start r a) ≡ (same_name r.class class && option_map_or (λ a. same_name a.value value) a false)
    known_told start r None = sym (and_nothing (same_name r.class class))
    known_told start r (Some a) = or_nothing (same_name r.class class && same_name a.value value)

    rows_told : (start : ℕ) (rows : List Span) → list_any (is_entry_of class value) (entries_on assets start rows) ≡ list_any (tells assets class value) rows
    rows_told start rows =
        any-flat (is_entry_of class value) (row_entry assets start) rows
        ∙ any-agree (λ r. list_any (is_entry_of class value) (row_entry assets start r)) (tells assets class value) rows (λ r. known_told start r (asset_numbered assets r.asset))

    pub routes_told : (start : ℕ) (routes : List RouteRow) → list_any (is_entry_of class value) (entries_of assets start routes) ≡ is_told assets routes class value
    routes_told start [] = refl
    routes_told start (e ∷ es) =
        list_any-append (is_entry_of class value) (entries_on assets start e.spans) (entries_of assets (start + route_length e) es)
        ∙ (λ i. rows_told start e.spans i || routes_told (start + route_length e) es i)

    module _ (counted : Side → Bool) where
      -- a stretch of the class and the value holds the millimetre of the axis
      abbrev holds : ℕ → LengthEntry → Bool
      holds x e = is_entry_of class value e && is_over counted x e

      moved : (start j : ℕ) (from to : ℕ) → (nat_le (start + from) (start + j) && nat_lt (start + j) (start + to)) ≡ (nat_le from j && nat_lt j to)
      moved start j from to = (λ i. low (cases_lt j from) i && high (cases_lt j to) i)
        where
          low : (j < from) ⊎ (from ≤ j) → nat_le (start + from) (start + j) ≡ nat_le from j
          low (inl h) = lt-leb (start + from) (start + j) (omega (arith, h)) ∙ sym (lt-leb from j h)
          low (inr h) = le-leb (start + from) (start + j) (omega (arith, h)) ∙ sym (le-leb from j h)

          high : (j < to) ⊎ (to ≤ j) → nat_lt (start + j) (start + to) ≡ nat_lt j to
          high (inl h) = lt-ltb (start + j) (start + to) (omega (arith, h)) ∙ sym (lt-ltb j to h)
          high (inr h) = le-ltb (start + j) (start + to) (omega (arith, h)) ∙ sym (le-ltb j to h)

      known_held : (start j : ℕ) (r : Span) (a : Option Asset)
          → list_any (holds (start + j)) (known_entry start r a) ≡ ((same_name r.class class && option_map_or (λ a. same_name a.value value) a false) && holds_at counted j r)
      known_held start j r None = ap (λ b. b && holds_at counted j r) (sym (and_nothing (same_name r.class class)))
      known_held start j r (Some a) =
          or_nothing (holds (start + j) (entry_of start r a))
          ∙ ap (λ b. (same_name r.class class && same_name a.value value) && (b && counted r.side)) (moved start j r.from r.to)

      -- at a millimetre of the route, by its rows
      rows_held : (start j : ℕ) (rows : List Span) → list_any (holds (start + j)) (entries_on assets start rows) ≡ list_any (λ r. tells assets class value r && holds_at counted j r) rows
      rows_held start j rows =
          any-flat (holds (start + j)) (row_entry assets start) rows
          ∙ any-agree (λ r. list_any (holds (start + j)) (row_entry assets start r)) (λ r. tells assets class value r && holds_at counted j r) rows
          (λ r. known_held start j r (asset_numbered assets r.asset))

      -- stretches that begin behind the millimetre do not hold it, nor do those that end before it
      begin_behind : (x : ℕ) (es : List LengthEntry) → list_all (begins_from (x + 1)) es ≡ true → list_any (holds x) es ≡ false
      begin_behind x [] h = refl
      begin_behind x (e ∷ es) h =
          let both = and_parts (begins_from (x + 1) e) (list_all (begins_from (x + 1)) es) h in
          let low = leb-true (x + 1) e.from both.0 in
          (λ i. (is_entry_of class value e && ((lt-leb e.from x (omega (arith, low)) i && nat_lt x e.to) && counted e.side)) || begin_behind x es both.1 i)
          ∙ ap (λ b. b || false) (and_nothing (is_entry_of class value e))

      end_before : (x : ℕ) (es : List LengthEntry) → list_all (ends_by x) es ≡ true → list_any (holds x) es ≡ false
      end_before x [] h = refl
      end_before x (e ∷ es) h =
          let both = and_parts (ends_by x e) (list_all (ends_by x) es) h in
          let high = leb-true e.to x both.0 in
          (λ i. (is_entry_of class value e && ((nat_le e.from x && le-ltb x e.to high i) && counted e.side)) || end_before x es both.1 i)
          ∙ ap (λ b. (is_entry_of class value e && (b && counted e.side)) || false) (and_nothing (nat_le e.from x))
          ∙ ap (λ b. b || false) (and_nothing (is_entry_of class value e))

      -- of the first route, and of those behind it
      first_held : (start : ℕ) (e : RouteRow) (es : List RouteRow)
          → count (λ x. list_any (holds x) (entries_of assets start (e ∷ es))) start (route_length e) ≡ length_on counted assets class value e
      first_held start e es =
          let len = route_length e in
          let first = entries_on assets start e.spans in
          let others = entries_of assets (start + len) es in
          let zero_on : start ≡ start + 0 = omega arith in
          count-same (λ x. list_any (holds x) (first ++ others)) (λ x. list_any (holds x) first) start len
          (λ x low high.
          list_any-append (holds x) first others
          ∙ ap (λ b. list_any (holds x) first || b) (begin_behind x others (routes_from (x + 1) (start + len) es (omega (arith, high))))
          ∙ or_nothing (list_any (holds x) first))
          ∙ ap (λ k. count (λ x. list_any (holds x) first) k len) zero_on
          ∙ count-shift (λ x. list_any (holds x) first) start 0 len
          ∙ count-agree (λ j. list_any (holds (start + j)) first) (λ j. list_any (λ r. tells assets class value r && holds_at counted j r) e.spans) 0 len (λ j. rows_held start j e.spans)

      others_held : (start n : ℕ) (e : RouteRow) (es : List RouteRow) → has_rows_on e ≡ true
          → count (λ x. list_any (holds x) (entries_of assets start (e ∷ es))) (start + route_length e) n ≡ count (λ x. list_any (holds x) (entries_of assets (start + route_length e) es)) (start + route_length e) n
      others_held start n e es on =
          let len = route_length e in
          let first = entries_on assets start e.spans in
          let others = entries_of assets (start + len) es in
          count-same (λ x. list_any (holds x) (first ++ others)) (λ x. list_any (holds x) others) (start + len) n
          (λ x low high.
          list_any-append (holds x) first others
          ∙ ap (λ b. b || list_any (holds x) others) (end_before x first (rows_end len start x e.spans on low)))

      routes_held : (start : ℕ) (routes : List RouteRow) → list_all has_rows_on routes ≡ true
          → count (λ x. list_any (holds x) (entries_of assets start routes)) start (sum_by route_length routes) ≡ length_of counted assets routes class value
      routes_held start [] on = refl
      routes_held start (e ∷ es) on =
          let both = and_parts (has_rows_on e) (list_all has_rows_on es) on in
          let test = λ (x : ℕ). list_any (holds x) (entries_of assets start (e ∷ es)) in
          let rest = sum_by route_length es in
          ap (count test start) (sum_by-cons route_length e es)
          ∙ count-append test start (route_length e) rest
          ∙ (λ i. first_held start e es i + (others_held start rest e es both.0 ∙ routes_held (start + route_length e) es both.1) i)
          ∙ sym (sum_by-cons (length_on counted assets class value) e es)

      -- What stretches of the class and the value hold of the axis is what their rows hold of the routes.
      pub all_held : (routes : List RouteRow) → list_all has_rows_on routes ≡ true → held_by counted class value (entries_of assets 0 routes) (sum_by route_length routes) ≡ length_of counted assets routes class value
      all_held routes on = routes_held 0 routes on

-- ---- a loop over routes

pub gathered : (assets : List Asset) (start end : ℕ) (e : RouteRow) (rest left : List RouteRow) (old new all : List LengthEntry) → left ≡ e ∷ rest → new ≡ old ++ entries_on assets start e.spans → end ≡ start + route_length e
    → old ++ entries_of assets start left ≡ all → new ++ entries_of assets end rest ≡ all
gathered assets start end e rest left old new all is one to before =
    (λ i. one i ++ entries_of assets (to i) rest) ∙ append_assoc old (entries_on assets start e.spans) (entries_of assets (start + route_length e) rest)
    ∙ ap (λ z. old ++ entries_of assets start z) (sym is) ∙ before

pub fits_next : (start end : ℕ) (e : RouteRow) (rest left : List RouteRow) → left ≡ e ∷ rest → end ≡ start + route_length e → start + sum_by route_length left < 2 ^ 64 → end + sum_by route_length rest < 2 ^ 64
fits_next start end e rest left is to fits =
    let sum = ap (sum_by route_length) is ∙ sum_by-cons route_length e rest in
    omega (arith, sum, to, fits)

pub rows_next : (e : RouteRow) (rest left : List RouteRow) → left ≡ e ∷ rest → list_all has_rows_on left ≡ true → (has_rows_on e ≡ true) × (list_all has_rows_on rest ≡ true)
rows_next e rest left is on = and_parts (has_rows_on e) (list_all has_rows_on rest) (ap (list_all has_rows_on) (sym is) ∙ on)

-- ---- rows that fit behind the routes before them

fits_from : (start len : ℕ) (r : Span) → start + len < 2 ^ 64 → lies_on len r ≡ true → FitsFrom start r
fits_from start len r fits on =
    let both = and_parts (nat_le r.from r.to) (nat_le r.to len) on in
    let rise = leb-true r.from r.to both.0 in
    let within = leb-true r.to len both.1 in
    record { from_fits = omega (arith, fits, rise, within); to_fits = omega (arith, fits, within) }

pub all_fit : (start len : ℕ) (rows : List Span) → start + len < 2 ^ 64 → list_all (lies_on len) rows ≡ true → All (FitsFrom start) rows
all_fit start len rows fits on = λ k d h. fits_from start len _ fits (AllPass-from_list_all (lies_on len) rows on k d h)
