-- Rows fit their routes exactly where they end on them and all of them are of known assets.
use Rattle.std.proofs.Common.{◌≡◌, Bool, true, false, List, [], ◌∷◌, length, refl, sym, ap, ◌∙◌, IsPermutation}
use Rattle.std.specs.Prelude.{◌&&◌, nat_le}
use Rattle.std.specs.List.{list_all, flat_map}
use Rattle.std.proofs.lemmas.List.Folds.{list_all-append}
use Rattle.lrs_events.specs.declared.class.Asset.{Asset}
use Rattle.lrs_events.specs.declared.span.Span.{Span}
use Rattle.lrs_events.specs.Spans.{are_rows}
use Rattle.lrs_machine.specs.declared.image.RouteRow.{RouteRow}
use Rattle.lrs_image_sound.specs.Tables.{fits_route, rows_end_on, is_known}
use Rattle.lrs_image_sound.proofs.Rearranged.{all_alike}

split_two : (a b p q : Bool) → ((a && b) && (p && q)) ≡ ((a && p) && (b && q))
split_two true true p q = refl
split_two true false true q = refl
split_two true false false q = refl
split_two false b p q = refl

all_both : {X : Type 0} (p q : X → Bool) (xs : List X) → list_all (λ x. p x && q x) xs ≡ (list_all p xs && list_all q xs)
all_both p q [] = refl
all_both p q (x ∷ xs) = ap (λ b. (p x && q x) && b) (all_both p q xs) ∙ split_two (p x) (q x) (list_all p xs) (list_all q xs)

join : (a p q e k : Bool) → ((a && (p && q)) && (e && k)) ≡ (((a && p) && e) && (q && k))
join false p q e k = refl
join true false q e k = refl
join true true true e k = refl
join true true false true k = refl
join true true false false k = refl

module _ (assets : List Asset) where
  abbrev rows_of : List RouteRow → List Span
  rows_of routes = flat_map (λ e. e.spans) routes

  abbrev ends : RouteRow → Bool
  ends e = list_all (λ r. nat_le r.to (length e.route.course)) e.spans

  fits_is : (e : RouteRow) → fits_route assets e ≡ (are_rows e.spans && (ends e && list_all (is_known assets) e.spans))
  fits_is e = ap (λ b. are_rows e.spans && b) (all_both (λ r. nat_le r.to (length e.route.course)) (is_known assets) e.spans)

  fit_is : (routes : List RouteRow) → list_all (fits_route assets) routes ≡ (list_all rows_end_on routes && list_all (is_known assets) (rows_of routes))
  fit_is [] = refl
  fit_is (e ∷ es) =
      (λ j. fits_is e j && fit_is es j)
      ∙ join (are_rows e.spans) (ends e) (list_all (is_known assets) e.spans) (list_all rows_end_on es) (list_all (is_known assets) (rows_of es))
      ∙ ap (λ b. list_all rows_end_on (e ∷ es) && b) (sym (list_all-append (is_known assets) e.spans (rows_of es)))

  pub fit_fails : (routes : List RouteRow) → list_all rows_end_on routes ≡ false → false ≡ list_all (fits_route assets) routes
  fit_fails routes h = sym (fit_is routes ∙ ap (λ b. b && list_all (is_known assets) (rows_of routes)) h)

  pub fit_answer : (routes : List RouteRow) (rows : List Span) → IsPermutation (rows_of routes) rows → list_all rows_end_on routes ≡ true → list_all (is_known assets) rows ≡ list_all (fits_route assets) routes
  fit_answer routes rows same h = sym (all_alike (is_known assets) (rows_of routes) rows same) ∙ sym (fit_is routes ∙ ap (λ b. b && list_all (is_known assets) (rows_of routes)) h)
