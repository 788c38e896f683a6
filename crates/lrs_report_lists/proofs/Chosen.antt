-- Entries that are asked for.
use Rattle.std.proofs.Common.{◌≡◌, ℕ, Bor, Bool, true, false, cond, List, [], ◌∷◌, ◌++◌, append-nil, filter, Option, Some, None, refl, sym, ap, ◌∙◌}
use Rattle.std.specs.Prelude.{◌||◌, if◌then◌else◌, is_some}
use Rattle.std.specs.List.{find, flat_map, list_all, list_any}
use Rattle.std.specs.Option.{option_map, option_map_or}
use Rattle.std.specs.declared.cmp.Ordering.{Ordering}
use Rattle.std.specs.declared.cmp.Ordering.TheVariants.{Less, Equal, Greater}
use Rattle.std.specs.Ordering.{is_eq, is_lt}
use Rattle.std.proofs.lemmas.Bool.{and_parts, false≢true}
use Rattle.std.proofs.lemmas.List.Elements.{filter_agree}
use Rattle.std.proofs.lemmas.Map.Text.{is_eq-slice_cmp}
use Rattle.lrs_measure.specs.Lists.{each_two}
use Rattle.lrs_measure.specs.Texts.{Name, name_cmp}
use Rattle.lrs_machine.specs.declared.image.RouteRow.{RouteRow}
use Rattle.lrs_machine.specs.Sound.{route_before}
use Rattle.lrs_image.specs.Change.{is_named}
use Rattle.lrs_measure.specs.KeyOrder.{name_after}

-- a line for each entry that is asked for, and nothing for the others
pub texts_of_chosen : {A : Type 0} (asked : A → Bool) (text : A → List ℕ) (xs : List A) → flat_map (λ x. if asked x then text x else []) xs ≡ flat_map text (filter asked xs)
texts_of_chosen asked text [] = refl
texts_of_chosen asked text (x ∷ xs) = by (asked x) (texts_of_chosen asked text xs)
  where
    by : (b : Bool) → flat_map (λ x. if asked x then text x else []) xs ≡ flat_map text (filter asked xs)
        → cond b (text x) [] ++ flat_map (λ x. if asked x then text x else []) xs ≡ flat_map text (cond b (x ∷ filter asked xs) (filter asked xs))
    by true rest = ap (λ z. text x ++ z) rest
    by false rest = rest

-- where nothing is asked, all are chosen
pub all_chosen : {A : Type 0} (xs : List A) → filter (λ x. true) xs ≡ xs
all_chosen [] = refl
all_chosen (x ∷ xs) = ap (λ z. x ∷ z) (all_chosen xs)

-- ---- the route of a name

equal_is_not_less : (o : Ordering) → is_eq o ≡ true → is_lt o ≡ false
equal_is_not_less Less h = absurd (false≢true h)
equal_is_not_less Equal h = refl
equal_is_not_less Greater h = absurd (false≢true h)

module _ (name : Name) where
  abbrev has_name : RouteRow → Bool
  has_name e = is_eq (name_cmp e.route.name name)

  -- those behind the one of the name have other names
  none_behind : (e : RouteRow) → has_name e ≡ true → (es : List RouteRow) → list_all (route_before e) es ≡ true → filter has_name es ≡ []
  none_behind e here [] h = refl
  none_behind e here (f ∷ fs) h =
      let both = and_parts (route_before e f) (list_all (route_before e) fs) h in
      let other : has_name f ≡ false = ap is_eq (name_after e.route.name f.route.name name both.0 (equal_is_not_less (name_cmp e.route.name name) here)) in
      ap (λ b. cond b (f ∷ filter has_name fs) (filter has_name fs)) other ∙ none_behind e here fs both.1

  one_step : (e : RouteRow) (es : List RouteRow) → list_all (route_before e) es ≡ true → filter has_name es ≡ option_map_or (λ x. x ∷ []) (find has_name es) []
      → (b : Bool) → has_name e ≡ b → cond b (e ∷ filter has_name es) (filter has_name es) ≡ option_map_or (λ x. x ∷ []) (cond b (Some e) (find has_name es)) []
  one_step e es behind rest true here = ap (λ z. e ∷ z) (none_behind e here es behind)
  one_step e es behind rest false here = rest

  found_alone : (es : List RouteRow) → each_two route_before es ≡ true → filter has_name es ≡ option_map_or (λ x. x ∷ []) (find has_name es) []
  found_alone [] h = refl
  found_alone (e ∷ es) h =
      let both = and_parts (list_all (route_before e) es) (each_two route_before es) h in
      one_step e es both.0 (found_alone es both.1) (has_name e) refl

  -- routes of the name are the one that a search finds, or none
  pub named_alone : (es : List RouteRow) → each_two route_before es ≡ true → filter (is_named name) es ≡ option_map_or (λ x. x ∷ []) (find has_name es) []
  named_alone es h = filter_agree (is_named name) has_name (λ e. sym (is_eq-slice_cmp e.route.name name)) es ∙ found_alone es h

-- what is told of an entry, of each entry of a list of it alone
pub told_alone : {A : Type 0} (text : A → List ℕ) (o : Option A) → option_map_or text o [] ≡ flat_map text (option_map_or (λ x. x ∷ []) o [])
told_alone text None = refl
told_alone text (Some x) = sym (append-nil (text x))

-- ---- what is known

any_found : {A : Type 0} (p : A → Bool) (xs : List A) → is_some (find p xs) ≡ list_any p xs
any_found p [] = refl
any_found p (x ∷ xs) = by (p x) (any_found p xs)
  where
    by : (b : Bool) → is_some (find p xs) ≡ list_any p xs → is_some (cond b (Some x) (find p xs)) ≡ (b || list_any p xs)
    by true rest = refl
    by false rest = rest

-- a search that finds an entry says that there is one
pub is_known : {A : Type 0} (p : A → Bool) (xs : List A) (o : Option (Bor A)) → option_map (λ x. x.now) o ≡ find p xs → is_some o ≡ list_any p xs
is_known p xs None e = ap is_some e ∙ any_found p xs
is_known p xs (Some x) e = ap is_some e ∙ any_found p xs
