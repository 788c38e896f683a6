-- The text of a list of which a page is told, as its items are added.
use Rattle.std.proofs.Common.{◌≡◌, ℕ, zero, suc, ◌+◌, ◌<◌, Bool, true, false, cond, Option, Some, None, List, [], ◌∷◌, ◌++◌, length, map, filter, take, get_or, append_assoc, append-nil, refl, sym, ap, ◌∙◌, arith, Vec, Global}
use Rattle.std.specs.Prelude.{not, ◌&&◌, ◌-◌, nat_eq, OnOk, Result, Ok, Err, IfOk, slice_get, drop}
use Rattle.std.proofs.Math.Dec.{eqb-suc-zero}
use Rattle.std.specs.List.{flat_map}
use Rattle.std.specs.Option.{option_map_or}
use Rattle.serde_json.specs.Data.{Data}
use Rattle.serde_json.specs.Written.{compact_text}
use Rattle.lrs_machine.specs.Lines.{Text}
use Rattle.lrs_web_replies.specs.JsonParts.{list}
use Rattle.lrs_web_replies.specs.Listings.{named_list}
use Rattle.lrs_web_replies.specs.Parts.{front_text, item_text}
use Rattle.lrs_web_replies.specs.PagedText.{PageText, add_all, add_one, begun, is_none_left, is_told, with_entry}
use Rattle.lrs_web_replies.specs.Pages.{at_most, is_admitted, paged}
use Rattle.lrs_web_replies.specs.declared.pages.KeyField.{KeyField}
use Rattle.lrs_web_replies.specs.declared.pages.Page.{Page}
use Rattle.lrs_web_replies.proofs.Listing.{object_text}

-- ---- what is added, one behind the other

pub add_more : (t : PageText) (xs ys : List Data) → add_all (add_all t xs) ys ≡ add_all t (xs ++ ys)
add_more t [] ys = refl
add_more t (x ∷ xs) ys = add_more (add_one t x) xs ys

-- what is added behind others, where it succeeds
pub added_last : {A E : Type 0} (r : Result A E) (a b c : PageText) (xs ys : List Data) → b ≡ add_all a xs → OnOk r (c ≡ add_all b ys) → OnOk r (c ≡ add_all a (xs ++ ys))
added_last (Ok x) a b c xs ys h k = k ∙ ap (λ t. add_all t ys) h ∙ add_more a xs ys
added_last (Err x) a b c xs ys h k = tt

-- what is added, said otherwise
pub as_items : {A E : Type 0} (r : Result A E) (a b : PageText) (xs ys : List Data) → OnOk r (b ≡ add_all a xs) → xs ≡ ys → OnOk r (b ≡ add_all a ys)
as_items (Ok x) a b xs ys h e = h ∙ ap (add_all a) e
as_items (Err x) a b xs ys h e = tt

-- nothing is added where the page has as many as it may have
pub full_one : (t : PageText) (x : Data) → is_none_left t.page.limit ≡ true → t ≡ add_one t x
full_one t x full = sym (ap (λ b. cond (not b && is_admitted t.page.after x) (with_entry t x) t) full)

pub full_stays : (t : PageText) (xs : List Data) → is_none_left t.page.limit ≡ true → t ≡ add_all t xs
full_stays t [] full = refl
full_stays t (x ∷ xs) full = full_stays t xs full ∙ ap (λ u. add_all u xs) (full_one t x full)

-- ---- a loop over a slice

next_items : {A : Type 0} (items : A → List Data) (i : ℕ) (xs : List A) (x : A) → i < length xs → x ≡ get_or xs i x → flat_map items (take i xs) ++ items x ≡ flat_map items (take (suc i) xs)
next_items items zero [] x h e = absurd (omega (arith, h))
next_items items zero (y ∷ ys) x h e = ap items e ∙ sym (append-nil (items y))
next_items items (suc i) [] x h e = absurd (omega (arith, h))
next_items items (suc i) (y ∷ ys) x h e = append_assoc (items y) (flat_map items (take i ys)) (items x) ∙ ap (λ z. items y ++ z) (next_items items i ys x (omega (arith, h)) e)

-- the items of one more element behind those of the elements before it
pub added_next : {A : Type 0} (items : A → List Data) (i : ℕ) (xs : List A) (x : A) (a b c : PageText) → i < length xs → x ≡ get_or xs i x
    → b ≡ add_all a (flat_map items (take i xs)) → c ≡ add_all b (items x) → c ≡ add_all a (flat_map items (take (i + 1) xs))
added_next items i xs x a b c low is before one =
    let n : suc i ≡ i + 1 = omega arith in
    one ∙ ap (λ t. add_all t (items x)) before ∙ add_more a (flat_map items (take i xs)) (items x)
    ∙ ap (add_all a) (next_items items i xs x low is ∙ ap (λ k. flat_map items (take k xs)) n)

-- one item each
pub each_alone : {A : Type 0} (shown : A → Data) (xs : List A) → flat_map (λ x. shown x ∷ []) xs ≡ map shown xs
each_alone shown [] = refl
each_alone shown (x ∷ xs) = ap (λ z. shown x ∷ z) (each_alone shown xs)

-- ---- a loop over an iterator, which knows what is left

-- what is added behind b with what is left is what is added behind a with all
abbrev pub Leads : PageText → PageText → List Data → List Data → Type 0
Leads a b left all = add_all b left ≡ add_all a all

pub leads_first : (a : PageText) (left all : List Data) → left ≡ all → Leads a a left all
leads_first a left all e = ap (add_all a) e

pub leads_next : (a b d : PageText) (one rest left all : List Data) → Leads a b left all → left ≡ one ++ rest → d ≡ add_all b one → Leads a d rest all
leads_next a b d one rest left all h e added = ap (λ t. add_all t rest) added ∙ add_more b one rest ∙ ap (add_all b) (sym e) ∙ h

pub leads_end : (a b : PageText) (left all : List Data) → Leads a b left all → left ≡ [] → b ≡ add_all a all
leads_end a b left all h e = ap (add_all b) (sym e) ∙ h

-- what is told of one alone
pub told_alone_of : {A : Type 0} (items : A → List Data) (o : Option A) → option_map_or items o [] ≡ flat_map items (option_map_or (λ x. x ∷ []) o [])
told_alone_of items None = refl
told_alone_of items (Some x) = sym (append-nil (items x))

-- ---- segments that are passed one by one

pub passes_next : {S : Type 0} (items : S → List Data) (a b d : PageText) (s : S) (left next all : List S) → Leads a b (flat_map items left) (flat_map items all)
    → slice_get left 0 ≡ Some s → next ≡ drop 1 left → d ≡ add_all b (items s) → Leads a d (flat_map items next) (flat_map items all)
passes_next items a b d s [] next all h first passed added = absurd cc
passes_next items a b d s (q ∷ qs) next all h first passed added =
    let same : s ≡ q = cc in
    ap (λ z. add_all d (flat_map items z)) passed
    ∙ leads_next a b d (items s) (flat_map items qs) (items q ++ flat_map items qs) (flat_map items all) h (ap (λ z. items z ++ flat_map items qs) (sym same)) added

pub passes_end : {S : Type 0} (items : S → List Data) (a b : PageText) (left all : List S) → Leads a b (flat_map items left) (flat_map items all)
    → slice_get left 0 ≡ None → b ≡ add_all a (flat_map items all)
passes_end items a b [] all h none = h
passes_end items a b (q ∷ qs) all h none = absurd cc

-- ---- the whole text

abbrev text_with : Option ℕ → Option (List KeyField) → ℕ → Text → PageText
text_with limit after start bytes = record { start = start; page = record { limit = limit; after = after }; bytes = bytes }

-- the entries of a page that are admitted, each behind a comma
abbrev told_text : Option ℕ → Option (List KeyField) → List Data → Text
told_text limit after entries = flat_map item_text (at_most limit (filter (is_admitted after) entries))

module _ (after : Option (List KeyField)) (start : ℕ) where
  -- of no limit
  all_told : (bytes : Text) (entries : List Data) → (add_all (text_with None after start bytes) entries).bytes ≡ bytes ++ told_text None after entries
  all_told bytes [] = sym (append-nil bytes)
  all_told bytes (entry ∷ entries) = by (is_admitted after entry) (all_told (bytes ++ item_text entry) entries) (all_told bytes entries)
    where
      by : (b : Bool) → (add_all (text_with None after start (bytes ++ item_text entry)) entries).bytes ≡ (bytes ++ item_text entry) ++ told_text None after entries
          → (add_all (text_with None after start bytes) entries).bytes ≡ bytes ++ told_text None after entries
          → (add_all (cond b (text_with None after start (bytes ++ item_text entry)) (text_with None after start bytes)) entries).bytes
          ≡ bytes ++ flat_map item_text (cond b (entry ∷ filter (is_admitted after) entries) (filter (is_admitted after) entries))
      by true one none = one ∙ append_assoc bytes (item_text entry) (told_text None after entries)
      by false one none = none

  -- of a limit that is reached
  none_told : (bytes : Text) (entries : List Data) → (add_all (text_with (Some 0) after start bytes) entries).bytes ≡ bytes
  none_told bytes [] = refl
  none_told bytes (entry ∷ entries) = none_told bytes entries

  -- of a limit that is not, one entry
  one_of : (n : ℕ) (bytes : Text) (entry : Data)
      → add_one (text_with (Some (suc n)) after start bytes) entry ≡ cond (is_admitted after entry) (text_with (Some n) after start (bytes ++ item_text entry)) (text_with (Some (suc n)) after start bytes)
  one_of n bytes entry =
      let more : nat_eq (suc n) 0 ≡ false = eqb-suc-zero n in
      let less : suc n - 1 ≡ n = omega arith in
      λ k. cond (not (more k) && is_admitted after entry) (text_with (Some (less k)) after start (bytes ++ item_text entry)) (text_with (Some (suc n)) after start bytes)

  -- of any limit
  some_told : (limit : ℕ) (bytes : Text) (entries : List Data) → (add_all (text_with (Some limit) after start bytes) entries).bytes ≡ bytes ++ told_text (Some limit) after entries
  some_told zero bytes entries = none_told bytes entries ∙ sym (append-nil bytes)
  some_told (suc n) bytes [] = sym (append-nil bytes)
  some_told (suc n) bytes (entry ∷ entries) =
      ap (λ (t : PageText). (add_all t entries).bytes) (one_of n bytes entry) ∙ by (is_admitted after entry) (some_told n (bytes ++ item_text entry) entries) (some_told (suc n) bytes entries)
    where
      by : (b : Bool) → (add_all (text_with (Some n) after start (bytes ++ item_text entry)) entries).bytes ≡ (bytes ++ item_text entry) ++ told_text (Some n) after entries
          → (add_all (text_with (Some (suc n)) after start bytes) entries).bytes ≡ bytes ++ told_text (Some (suc n)) after entries
          → (add_all (cond b (text_with (Some n) after start (bytes ++ item_text entry)) (text_with (Some (suc n)) after start bytes)) entries).bytes
          ≡ bytes ++ flat_map item_text (take (suc n) (cond b (entry ∷ filter (is_admitted after) entries) (filter (is_admitted after) entries)))
      by true one none = one ∙ append_assoc bytes (item_text entry) (told_text (Some n) after entries)
      by false one none = none

  told : (limit : Option ℕ) (bytes : Text) (entries : List Data) → (add_all (text_with limit after start bytes) entries).bytes ≡ bytes ++ told_text limit after entries
  told None bytes entries = all_told bytes entries
  told (Some limit) bytes entries = some_told limit bytes entries

-- the items begin where they began
same_start : (t : PageText) (entries : List Data) → (add_all t entries).start ≡ t.start
same_start t [] = refl
same_start t (entry ∷ entries) = same_start (add_one t entry) entries ∙ by (is_told t.page entry)
  where
    by : (b : Bool) → (cond b (with_entry t entry) t).start ≡ t.start
    by true = refl
    by false = refl

-- the whole text of whatever page it is of
abbrev pub EndsPage : {E : Type 0} → Result (Vec ℕ Global) E → PageText → Type 0
EndsPage r t = IfOk r (λ whole. (name : Text) (page : Page) (items : List Data) → t ≡ add_all (begun name page) items → whole.items ≡ compact_text (named_list name (paged page items)))

-- what an ended text is, as the object whose one member is the list of the page
pub page_ended : {E : Type 0} (r : Result (Vec ℕ Global) E) (t : PageText)
    → IfOk r (λ whole. (front : Text) (items : List Data) → length front ≡ t.start → t.bytes ≡ front ++ flat_map item_text items → whole.items ≡ front ++ (compact_text (list items) ++ 125 ∷ []))
    → EndsPage r t
page_ended (Ok whole) t ends = λ name page items is.
    ends (front_text name) (paged page items) (sym (ap (λ (u : PageText). u.start) is ∙ same_start (begun name page) items))
    (ap (λ (u : PageText). u.bytes) is ∙ told page.after (length (front_text name)) page.limit (front_text name) items)
    ∙ object_text name (paged page items)
page_ended (Err e) t ends = tt

-- the same, of what was begun and then added
pub page_of_items : {E : Type 0} (r : Result (Vec ℕ Global) E) (u t : PageText) (name : Text) (page : Page) (items : List Data) → u ≡ begun name page → t ≡ add_all u items
    → EndsPage r t → IfOk r (λ whole. whole.items ≡ compact_text (named_list name (paged page items)))
page_of_items (Ok whole) u t name page items begins adds ends = ends name page items (adds ∙ ap (λ v. add_all v items) begins)
page_of_items (Err e) u t name page items begins adds ends = tt
