-- The router finds a resource and a format exactly by the paths that name them.
use Rattle.std.proofs.Common.{◌≡◌, ◌⊎◌, inl, inr, ℕ, zero, suc, ◌<◌, List, [], ◌∷◌, ◌++◌, length, get_or, map, take, drop, Bool, true, false, cond, ◌==◌, ltb, Option, None, Some, option_map, refl, sym, ap, ◌∙◌, arith, codes, Contains}
use Rattle.std.proofs.lemmas.Bool.Decides.{nat_tests}
use Rattle.std.proofs.lemmas.Bool.{and_parts}
use Rattle.std.proofs.lemmas.List.Elements.{All-contains, All-from_recursion, Contains-append_left, Contains-append_right}
use Rattle.std.specs.List.{list_all}
use Rattle.matchit.specs.Rows.{RowsOf, param_token}
use Rattle.matchit.specs.Router.{RouteOf}
use Rattle.matchit.specs.Seek.{first, has_slash}
use Rattle.lrs_web_requests.specs.declared.paths.Resource.TheVariants.{Route}
use Rattle.lrs_web_requests.specs.declared.paths.Format.TheVariants.{Json}
use Rattle.lrs_web_requests.specs.Routes.{Named, with_name, plain, rows, named_at}
use Rattle.lrs_web_requests.specs.Paths.{literal_paths, slash, IsName, Names, FindsWhatIsNamed, FindsNothingElse}
use Rattle.lrs_web_requests.proofs.LiteralLemmas.{Fits, IsWord, HasFit, AllSimple, text_from, simple_literal, simple_named, fits_literal, fits_named, first_reached, reached_fits, reached_name}
use Rattle.matchit.proofs.OnLiterals.{matchit_on_literals}

-- a slash in the text is found
contains_slash : (text : List ℕ) → has_slash text ≡ true → Contains text slash
contains_slash [] e = absurd (cc)
contains_slash (b ∷ text) e = by (b == slash) refl (λ h. contains_slash text h) e
  where
    by : (v : Bool) → (b == slash) ≡ v → (has_slash text ≡ true → Contains text slash) → cond v true (has_slash text) ≡ true → Contains (b ∷ text) slash
    by true at ih e = (0, omega arith, grind (arith, nat_tests))
    by false at ih e = let later = ih e in let within : later.0 < length text = later.1 in (suc later.0, omega arith, later.2)

has_slash_of : (text : List ℕ) (k : ℕ) → k < length text → get_or text k slash ≡ slash → has_slash text ≡ true
has_slash_of [] k h e = absurd (omega arith)
has_slash_of (b ∷ text) zero h e = let at : (b == slash) ≡ true = grind (arith, nat_tests) in rw at refl
has_slash_of (b ∷ text) (suc k) h e =
    let later : has_slash text ≡ true = has_slash_of text k (omega arith) e in
    elim (b == slash) as (λ v. cond v true (has_slash text) ≡ true) [ true ↦ refl | false ↦ later ]

name_of_word : (word : List ℕ) → IsWord word → IsName word
name_of_word word h = record {
  some_byte = h.0;
  no_slash = λ has. let found = has_slash_of word has.0 has.1 has.2 in let none = h.1 in cc;
}

word_of_name : (name : List ℕ) → IsName name → IsWord name
word_of_name name h = (h.some_byte, by (has_slash name) refl)
  where
    by : (v : Bool) → has_slash name ≡ v → has_slash name ≡ false
    by true e = absurd (h.no_slash (contains_slash name e))
    by false e = e

-- the rows of paths that stand for themselves
abbrev rows_for : List (List ℕ × Named) → RowsOf (RouteOf Named)
rows_for entries = map (λ entry. plain entry.0 entry.1) entries

-- the paths in front of that of a route, and those behind it
abbrev front : List (List ℕ × Named)
front = take 33 literal_paths

abbrev back : List (List ℕ × Named)
back = drop 33 literal_paths

-- the path of a route, and what is behind it
abbrev route_and_back : RowsOf (RouteOf Named)
route_and_back = with_name (codes "/v1/route/") (Route, Json) ∷ (rows_for back ++ [])

abbrev are_bytes : List ℕ × Named → Bool
are_bytes entry = list_all (λ b. ltb b 256) entry.0

simple_rows : (entries : List (List ℕ × Named)) (more : RowsOf (RouteOf Named)) → list_all are_bytes entries ≡ true → AllSimple more → AllSimple (rows_for entries ++ more)
simple_rows [] more bytes simple = simple
simple_rows (entry ∷ entries) more bytes simple =
    let both = and_parts (are_bytes entry) (list_all are_bytes entries) bytes in
    (simple_literal entry.0 (text_from entry.0 both.0), simple_rows entries more both.1 simple)

rows_simple : AllSimple rows
unfolding rows
rows_simple = simple_rows front route_and_back refl (simple_named (codes "/v1/route/") (text_from (codes "/v1/route/") refl), simple_rows back [] refl tt)

-- the row that fits is of one of these paths, or another one
fits_of : (entries : List (List ℕ × Named)) (more : RowsOf (RouteOf Named)) (path : List ℕ) (route : RouteOf Named) → list_all are_bytes entries ≡ true
    → HasFit (rows_for entries ++ more) path route → Contains entries (path, route.value) ⊎ HasFit more path route
fits_of [] more path route bytes fit = inr fit
fits_of (entry ∷ entries) more path route bytes (inl (same, fits)) =
    let both = and_parts (are_bytes entry) (list_all are_bytes entries) bytes in
    let whole : path ≡ entry.0 = fits_literal entry.0 path (text_from entry.0 both.0) fits in
    let value : entry.1 ≡ route.value = ap (λ (r : RouteOf Named). r.value) same in
    inl (zero, omega arith, λ k. (sym whole k, value k))
fits_of (entry ∷ entries) more path route bytes (inr fit) =
    elim (fits_of entries more path route (and_parts (are_bytes entry) (list_all are_bytes entries) bytes).1 fit) [
      | inl at ↦ inl (suc at.0, (let within = at.1 in omega arith), at.2)
      | inr other ↦ inr other
    ]

names_route : (path : List ℕ) (named : Named) → (Route, Json) ≡ named → Fits (codes "/v1/route/" ++ param_token ∷ []) path → Names path named
names_route path named same fits =
    let found = fits_named (codes "/v1/route/") path (text_from (codes "/v1/route/") refl) fits in
    inr (sym same, (found.0, found.1, name_of_word found.0 found.2))

named_by_fit : (path : List ℕ) (route : RouteOf Named) → HasFit rows path route → Names path route.value
unfolding rows
named_by_fit path route fit =
    elim (fits_of front route_and_back path route refl fit) [
      | inl at ↦ inl (Contains-append_left front back (path, route.value) at)
      | inr behind ↦ elim behind [
        | inl at ↦ names_route path route.value (ap (λ r. r.value) at.0) at.1
        | inr last ↦ elim (fits_of back [] path route refl last) [
          | inl at ↦ inl (Contains-append_right front back (path, route.value) at)
          | inr none ↦ absurd none
        ]
      ]
    ]

found_is_named : (path : List ℕ) (named : Named) → named_at path ≡ Some named → Names path named
found_is_named path named e = by (first rows path) refl e
  where
    by : (o : Option (RouteOf Named)) → first rows path ≡ o → option_map (λ route. route.value) o ≡ Some named → Names path named
    by None at found = absurd (cc)
    by (Some route) at found =
        let fit = reached_fits rows path route (sym (first_reached rows path rows_simple) ∙ at) in
        let same : route.value ≡ named = cc in
        rw (← same) (named_by_fit path route fit)

IsFound : List ℕ × Named → Type 0
IsFound entry = named_at entry.0 ≡ Some entry.1

literal_is_found : (path : List ℕ) (named : Named) → Contains literal_paths (path, named) → named_at path ≡ Some named
unfolding matchit_on_literals rows IsFound
literal_is_found path named has =
    All-contains IsFound literal_paths (path, named) (All-from_recursion IsFound literal_paths (refl, (refl, (refl, (refl, (refl, (refl, (refl, (refl, (refl, (refl, (refl, (refl, (refl, (refl, (refl, (refl, (refl, (refl, (refl, (refl, (refl, (refl, (refl, (refl, (refl, (refl, (refl, (refl, (refl, (refl, (refl, (refl, (refl, (refl, (refl, (refl, (refl, (refl, (refl, (refl, (refl, (refl, (refl, tt)))))))))))))))))))))))))))))))))))))))))))) has

route_is_found : (word : List ℕ) → IsWord word → named_at (codes "/v1/route/" ++ word) ≡ Some (Route, Json)
unfolding rows
route_is_found [] h = absurd (h.0 refl)
route_is_found (b ∷ word) h =
    rw (first_reached rows (codes "/v1/route/" ++ b ∷ word) rows_simple, reached_name (with_name (codes "/v1/route/") (Route, Json)).1 b word h.1) refl

named_is_found : (path : List ℕ) (named : Named) → Names path named → named_at path ≡ Some named
named_is_found path named (inl has) = literal_is_found path named has
named_is_found path named (inr route) =
    rw (route.0, route.1.1) (route_is_found route.1.0 (word_of_name route.1.0 route.1.2))

pub finds_what_is_named : FindsWhatIsNamed
finds_what_is_named path named = (found_is_named path named, named_is_found path named)

pub finds_nothing_else : FindsNothingElse
finds_nothing_else path = (λ none named names. let found = named_is_found path named names in cc, by (named_at path) refl)
  where
    by : (o : Option Named) → named_at path ≡ o → ((named : Named) → Names path named → ⊥) → named_at path ≡ None
    by None at unnamed = at
    by (Some named) at unnamed = absurd (unnamed named (found_is_named path named at))
