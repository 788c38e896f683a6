-- Where the rows of its asset leave a span free, class by class, all rows do.
use Rattle.std.proofs.Common.{◌≡◌, ℕ, ◌+◌, ◌<◌, ◌≤◌, true, false, ◌⊎◌, inl, inr, List, [], ◌∷◌, length, get_or, take, refl, sym, ap, subst, ◌∙◌}
use Rattle.std.specs.Prelude.{◌||◌, ◌&&◌, not, nat_eq, nat_le}
use Rattle.std.specs.List.{filter}
use Rattle.std.specs.Cmp.Lexicographic.{bytes_decides}
use Rattle.std.proofs.lemmas.Bool.{false≢true, both_ways, and_from, or_cases, or_left, false_from_ne_true, cases_Bool}
use Rattle.std.proofs.lemmas.List.{take_all, take_more}
use Rattle.std.proofs.lemmas.List.Folds.{list_any-append}
use Rattle.lrs_measure.specs.Texts.{Name, same_name}
use Rattle.lrs_measure.specs.Lists.{In}
use Rattle.lrs_measure.proofs.Members.{all_at, all_of, In-filter, filter-In}
use Rattle.lrs_events.specs.declared.span.Span.{Span}
use Rattle.lrs_events.specs.Row.Members.{is_of, leaves_free, is_free}
use Rattle.lrs_events.proofs.Row.Differing.{has_in}
use Rattle.lrs_events.specs.declared.spans.lanes.ClassLanes.{ClassLanes}
use Rattle.lrs_events.specs.RouteSpans.LanesOfRows.{has_lanes, AreKept}

-- of each class with lanes, the rows of its asset leave the span free
abbrev pub AreFree : List ClassLanes → List Span → Span → Type 0
AreFree lanes rows span = (c : Name) → has_lanes lanes c ≡ true → is_free (filter (is_of c span.asset) rows) span ≡ true

pub free_none : (rows : List Span) (span : Span) → AreFree [] rows span
free_none rows span c h = absurd (false≢true h)

pub free_more : (lanes : List ClassLanes) (rows : List Span) (span : Span) (i : ℕ) (l : ClassLanes) (found : List Span) → i < length lanes → found ≡ filter (is_of (get_or lanes i l).class span.asset) rows → is_free found span ≡ true
    → AreFree (take i lanes) rows span → AreFree (take (i + 1) lanes) rows span
free_more lanes rows span i l found h f t k c m =
    by (or_cases (has_lanes (take i lanes) c) (has_lanes (get_or lanes i l ∷ []) c) (sym (list_any-append (λ (z : ClassLanes). same_name z.class c) (take i lanes) (get_or lanes i l ∷ [])) ∙ ap (λ z. has_lanes z c) (sym (take_more lanes i l h)) ∙ m))
  where
    own : (same_name (get_or lanes i l).class c ≡ true) ⊎ (false ≡ true) → is_free (filter (is_of c span.asset) rows) span ≡ true
    own (inl s) = subst (λ (n : Name). is_free (filter (is_of n span.asset) rows) span ≡ true) ((bytes_decides (get_or lanes i l).class c).0 s) (ap (λ z. is_free z span) (sym f) ∙ t)
    own (inr s) = absurd (false≢true s)

    by : (has_lanes (take i lanes) c ≡ true) ⊎ (has_lanes (get_or lanes i l ∷ []) c ≡ true) → is_free (filter (is_of c span.asset) rows) span ≡ true
    by (inl n) = k c n
    by (inr s) = own (or_cases (same_name (get_or lanes i l).class c) false s)

pub not_free : (rows : List Span) (span : Span) (c : Name) (found : List Span) → found ≡ filter (is_of c span.asset) rows → is_free found span ≡ false → false ≡ is_free rows span
not_free rows span c found f h =
    sym (false_from_ne_true (is_free rows span) (λ e. both_ways (is_free (filter (is_of c span.asset) rows) span) (ap (λ z. is_free z span) (sym f) ∙ h)
    (all_of (leaves_free span) (filter (is_of c span.asset) rows) (λ r m. all_at (leaves_free span) r rows e (In-filter (is_of c span.asset) r rows m).0))))

pub free_all : (lanes : List ClassLanes) (rows : List Span) (span : Span) (i : ℕ) → AreKept rows lanes → length lanes ≤ i → AreFree (take i lanes) rows span → true ≡ is_free rows span
free_all lanes rows span i kept h k = sym (all_of (leaves_free span) rows (λ r m. by r m (cases_Bool (nat_eq r.asset span.asset))))
  where
    known : (r : Span) → In r rows → has_lanes (take i lanes) r.class ≡ true
    known r m = ap (λ z. has_lanes z r.class) (take_all i lanes h) ∙ kept.tied.all r (has_in rows r m)

    by : (r : Span) → In r rows → (nat_eq r.asset span.asset ≡ true) ⊎ (nat_eq r.asset span.asset ≡ false) → leaves_free span r ≡ true
    by r m (inr n) = or_left (not (nat_eq r.asset span.asset)) (same_name r.class span.class && (nat_le r.to span.from || nat_le span.to r.from)) (ap not n)
    by r m (inl n) = all_at (leaves_free span) r (filter (is_of r.class span.asset) rows) (k r.class (known r m))
        (filter-In (is_of r.class span.asset) r rows m (and_from (same_name r.class r.class) (nat_eq r.asset span.asset) ((bytes_decides r.class r.class).1 refl) n))
