-- Keys of pages: how entries stand to them, and how they are read.
use Rattle.std.proofs.Common.{◌≡◌, ℕ, suc, ◌+◌, ◌<◌, ◌≤◌, true, false, Option, Some, None, List, [], ◌∷◌, ◌++◌, length, drop, get_or, append_assoc, append-nil, refl, sym, ap, subst, ◌∙◌, arith}
use Rattle.std.proofs.Math.ListN.{drop_of_length-le}
use Rattle.std.proofs.Math.Seq.{drop-cons}
use Rattle.std.specs.Ordering.{match_ordering}
use Rattle.std.specs.declared.cmp.Ordering.{Ordering}
use Rattle.std.specs.declared.cmp.Ordering.TheVariants.{Less, Equal, Greater}
use Rattle.std.specs.Prelude.{is_some}
use Rattle.std.proofs.lemmas.Bool.{false≢true}
use Rattle.serde_json.specs.Data.{Data}
use Rattle.lrs_web_requests.specs.declared.paths.Format.{Format}
use Rattle.lrs_web_requests.specs.declared.paths.Format.TheVariants.{Csv, Json}
use Rattle.lrs_web_requests.specs.declared.paths.Resource.{Resource}
use Rattle.lrs_web_replies.specs.Questions.{Text}
use Rattle.lrs_web_replies.specs.Pages.{both_names, key_of, page_names, unknown_among, unknown_in, SaysField, SaysFields, SaysKey, SaysValue, field_order, fields_behind, first_field, is_behind}
use Rattle.lrs_web_replies.specs.declared.pages.KeyField.{KeyField}
use Rattle.lrs_web_replies.specs.declared.pages.KeyMember.{KeyMember}
use Rattle.lrs_web_replies.specs.declared.pages.KeyValue.{KeyValue}

-- what is left of a list begins with what stands at its place
pub next_of : {A : Type 0} (i : ℕ) (xs : List A) (x : A) → i < length xs → x ≡ get_or xs i x → drop i xs ≡ x ∷ drop (i + 1) xs
next_of i xs x low is =
    let n : suc i ≡ i + 1 = omega arith in
    drop-cons xs i x low ∙ (λ k. sym is k ∷ drop (n k) xs)

pub next_at : {A : Type 0} (i : ℕ) (xs : List A) (d : A) → i < length xs → drop i xs ≡ get_or xs i d ∷ drop (i + 1) xs
next_at i xs d low =
    let n : suc i ≡ i + 1 = omega arith in
    drop-cons xs i d low ∙ ap (λ k. get_or xs i d ∷ drop k xs) n

-- ---- the order of entries

module _ (entry : Data) (i : ℕ) (key : List KeyField) where
  -- what is left of the key decides
  abbrev pub Decides : Type 0
  Decides = is_behind (drop i key) entry ≡ is_behind key entry

  module _ (f : KeyField) (o : Ordering) (low : i < length key) (is : f ≡ get_or key i f) (before : Decides) (order : o ≡ field_order f entry) where
    decided : match_ordering o true (is_behind (drop (i + 1) key) entry) false ≡ is_behind key entry
    decided = ap (λ x. match_ordering x true (is_behind (drop (i + 1) key) entry) false) order ∙ ap (λ k. is_behind k entry) (sym (next_of i key f low is)) ∙ before

    pub by_less : o ≡ Less → true ≡ is_behind key entry
    by_less e = ap (λ x. match_ordering x true (is_behind (drop (i + 1) key) entry) false) (sym e) ∙ decided

    pub by_equal : o ≡ Equal → is_behind (drop (i + 1) key) entry ≡ is_behind key entry
    by_equal e = ap (λ x. match_ordering x true (is_behind (drop (i + 1) key) entry) false) (sym e) ∙ decided

    pub by_greater : o ≡ Greater → false ≡ is_behind key entry
    by_greater e = ap (λ x. match_ordering x true (is_behind (drop (i + 1) key) entry) false) (sym e) ∙ decided

  pub by_none : length key ≤ i → Decides → false ≡ is_behind key entry
  by_none high before = ap (λ k. is_behind k entry) (sym (drop_of_length-le key high)) ∙ before

-- ---- a key that is read field by field

-- what was read of a text, and what is left of the key and of the text
pub record Reads (key : List KeyMember) (text : Text) (left : List KeyMember) (rest : Option Text) (fields : List KeyField) : Type 0 where
  pub said : (fs : List KeyField) → SaysFields left rest fs → SaysKey key text (fields ++ fs)
  pub only : (fs : List KeyField) → SaysKey key text fs → (tail : List KeyField) × SaysFields left rest tail

pub reads_first : (key : List KeyMember) (text : Text) → Reads key text key (Some text) []
reads_first key text = record { said = λ fs h. h; only = λ fs h. (fs, h) }

module _ (key : List KeyMember) (text : Text) (fields : List KeyField) where
  module _ (m : KeyMember) (ms : List KeyMember) (t : Text) (before : Reads key text (m ∷ ms) (Some t) fields) where
    fields_left : (tail : List KeyField) → SaysFields (m ∷ ms) (Some t) tail → (others : List KeyField) × SaysFields ms (fields_behind t) others
    fields_left [] h = absurd h
    fields_left (g ∷ gs) h = (gs, h.1)

    no_field : ((v : KeyValue) → SaysValue m (first_field t) v → ⊥) → (tail : List KeyField) → SaysFields (m ∷ ms) (Some t) tail → ⊥
    no_field never [] h = h
    no_field never (g ∷ gs) h = never g.value h.0.1

    next_said : (f : KeyField) → SaysField m (first_field t) f → Reads key text ms (fields_behind t) (fields ++ f ∷ [])
    next_said f says = record {
      said = λ fs h. subst (λ z. SaysKey key text z) (sym (append_assoc fields (f ∷ []) fs)) (before.said (f ∷ fs) (says, h));
      only = λ fs h. let (tail, s) = before.only fs h in fields_left tail s;
    }

    none_said : ((v : KeyValue) → SaysValue m (first_field t) v → ⊥) → (fs : List KeyField) → SaysKey key text fs → ⊥
    none_said never fs h = let (tail, s) = before.only fs h in no_field never tail s

  too_few : (m : KeyMember) (ms : List KeyMember) (tail : List KeyField) → SaysFields (m ∷ ms) None tail → ⊥
  too_few m ms [] h = h
  too_few m ms (g ∷ gs) h = h

  too_many : (t : Text) (tail : List KeyField) → SaysFields [] (Some t) tail → ⊥
  too_many t [] h = h
  too_many t (g ∷ gs) h = h

  -- the next member of the key
  module _ (i : ℕ) (m : KeyMember) (rest : Option Text) (is : drop i key ≡ m ∷ drop (i + 1) key) (before : Reads key text (drop i key) rest fields) where
    at_next : Reads key text (m ∷ drop (i + 1) key) rest fields
    at_next = subst (λ z. Reads key text z rest fields) is before

    pub reads_next : (t : Text) (f : KeyField) → rest ≡ Some t → SaysField m (first_field t) f → Reads key text (drop (i + 1) key) (fields_behind t) (fields ++ f ∷ [])
    reads_next t f some says = next_said m (drop (i + 1) key) t (subst (λ z. Reads key text (m ∷ drop (i + 1) key) z fields) some at_next) f says

    pub reads_none : (t : Text) → rest ≡ Some t → ((v : KeyValue) → SaysValue m (first_field t) v → ⊥) → (fs : List KeyField) → SaysKey key text fs → ⊥
    reads_none t some never = none_said m (drop (i + 1) key) t (subst (λ z. Reads key text (m ∷ drop (i + 1) key) z fields) some at_next) never

    pub reads_few : rest ≡ None → (fs : List KeyField) → SaysKey key text fs → ⊥
    reads_few none fs h =
        let (tail, s) = at_next.only fs h in
        too_few m (drop (i + 1) key) tail (subst (λ z. SaysFields (m ∷ drop (i + 1) key) z tail) none s)

  -- no more members
  module _ (i : ℕ) (rest : Option Text) (high : length key ≤ i) (before : Reads key text (drop i key) rest fields) where
    at_end : Reads key text [] rest fields
    at_end = subst (λ z. Reads key text z rest fields) (drop_of_length-le key high) before

    pub reads_all : rest ≡ None → SaysKey key text fields
    reads_all none = subst (λ z. SaysKey key text z) (append-nil fields) (at_end.said [] (subst (λ z. SaysFields [] z []) (sym none) tt))

    pub reads_many : (t : Text) → rest ≡ Some t → (fs : List KeyField) → SaysKey key text fs → ⊥
    reads_many t some fs h =
        let (tail, s) = at_end.only fs h in
        too_many t tail (subst (λ z. SaysFields [] z tail) some s)

-- ---- what is not known

-- of a list that is not told in pages
pub apart_names : (format : Format) (resource : Resource) (query : Text) → is_some (key_of format resource query) ≡ false → unknown_among [] resource query ≡ unknown_in format resource query
apart_names format resource query h = by (key_of format resource query) h
  where
    by : (o : Option (List KeyMember)) → is_some o ≡ false → unknown_among [] resource query ≡ unknown_among (page_names o) resource query
    by None e = refl
    by (Some key) e = absurd cc

-- of one that is
pub paged_names : (format : Format) (resource : Resource) (query : Text) → is_some (key_of format resource query) ≡ true → unknown_among both_names resource query ≡ unknown_in format resource query
paged_names format resource query h = by (key_of format resource query) h
  where
    by : (o : Option (List KeyMember)) → is_some o ≡ true → unknown_among both_names resource query ≡ unknown_among (page_names o) resource query
    by None e = absurd cc
    by (Some key) e = refl

-- only JSON is told in pages
pub json_paged : (format : Format) (resource : Resource) (query : Text) → is_some (key_of format resource query) ≡ true → is_some (key_of Json resource query) ≡ true
json_paged Json resource query h = h
json_paged Csv resource query h = absurd (false≢true h)
