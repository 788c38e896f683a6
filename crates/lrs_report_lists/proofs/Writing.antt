-- What several writes append, one behind the other.
use Rattle.std.proofs.Common.{◌≡◌, ℕ, zero, suc, ◌+◌, ◌<◌, ◌≤◌, Option, Some, None, List, [], ◌∷◌, ◌++◌, length, take, get_or, append_assoc, append-nil, refl, sym, ap, subst, ◌∙◌, arith}
use Rattle.std.specs.Prelude.{OnOk, Result, Ok, Err}
use Rattle.std.specs.List.{flat_map}
use Rattle.std.specs.Io.KnownBytes.{Appends}
use Rattle.lrs_element.specs.declared.marks.Mark.{Mark}
use Rattle.lrs_element.specs.Marks.{first_mark}
use Rattle.lrs_report_lists.specs.Lines.{csv_line}

pub appends_none : (a : Option (List ℕ)) → Appends a a []
appends_none None = tt
appends_none (Some u) = sym (append-nil u)

-- one write after another
pub appends_more : (a b c : Option (List ℕ)) (xs ys : List ℕ) → Appends a b xs → Appends b c ys → Appends a c (xs ++ ys)
appends_more None b c xs ys h k = tt
appends_more (Some u) None c xs ys h k = absurd h
appends_more (Some u) (Some v) None xs ys h k = absurd k
appends_more (Some u) (Some v) (Some w) xs ys h k = k ∙ ap (λ z. z ++ ys) h ∙ append_assoc u xs ys

-- what a last write appends behind others, where it succeeds
pub appends_last : {A E : Type 0} (r : Result A E) (a b c : Option (List ℕ)) (xs ys zs : List ℕ) → Appends a b xs → OnOk r (Appends b c ys) → xs ++ ys ≡ zs → OnOk r (Appends a c zs)
appends_last (Ok x) a b c xs ys zs h k e = subst (Appends a c) e (appends_more a b c xs ys h k)
appends_last (Err x) a b c xs ys zs h k e = tt

-- what a write appends, said otherwise
pub as_text : {A E : Type 0} (r : Result A E) (a b : Option (List ℕ)) (xs ys : List ℕ) → OnOk r (Appends a b xs) → xs ≡ ys → OnOk r (Appends a b ys)
as_text (Ok x) a b xs ys h e = subst (λ (t : List ℕ). Appends a b t) e h
as_text (Err x) a b xs ys h e = tt

-- ---- a loop over a slice

next_text : {A : Type 0} (text : A → List ℕ) (i : ℕ) (xs : List A) (x : A) → i < length xs → x ≡ get_or xs i x → flat_map text (take i xs) ++ text x ≡ flat_map text (take (suc i) xs)
next_text text zero [] x h e = absurd (omega (arith, h))
next_text text zero (y ∷ ys) x h e = ap text e ∙ sym (append-nil (text y))
next_text text (suc i) [] x h e = absurd (omega (arith, h))
next_text text (suc i) (y ∷ ys) x h e = append_assoc (text y) (flat_map text (take i ys)) (text x) ∙ ap (λ z. text y ++ z) (next_text text i ys x (omega (arith, h)) e)

-- the text of one more element behind those of the elements before it
pub appends_next : {A : Type 0} (text : A → List ℕ) (i : ℕ) (xs : List A) (x : A) (a b c : Option (List ℕ)) → i < length xs → x ≡ get_or xs i x
    → Appends a b (flat_map text (take i xs)) → Appends b c (text x) → Appends a c (flat_map text (take (i + 1) xs))
appends_next text i xs x a b c low is before one =
    let n : suc i ≡ i + 1 = omega arith in
    let next = next_text text i xs x low is ∙ ap (λ k. flat_map text (take k xs)) n in
    subst (λ (t : List ℕ). Appends a c t) next (appends_more a b c (flat_map text (take i xs)) (text x) before one)

same_element : {A : Type 0} (i : ℕ) (xs : List A) (d e : A) → i < length xs → get_or xs i d ≡ get_or xs i e
same_element zero [] d e h = absurd (omega (arith, h))
same_element zero (y ∷ ys) d e h = refl
same_element (suc i) [] d e h = absurd (omega (arith, h))
same_element (suc i) (y ∷ ys) d e h = same_element i ys d e (omega (arith, h))

-- the same of an element that is read at its place
pub appends_at : {A : Type 0} (text : A → List ℕ) (i : ℕ) (xs : List A) (d : A) (a b c : Option (List ℕ)) → i < length xs
    → Appends a b (flat_map text (take i xs)) → Appends b c (text (get_or xs i d)) → Appends a c (flat_map text (take (i + 1) xs))
appends_at text i xs d a b c low before one = appends_next text i xs (get_or xs i d) a b c low (same_element i xs d (get_or xs i d) low) before one

-- ---- a loop over an iterator, which knows what is left

-- what goes on behind b with what is left has then gone on behind a with all
abbrev pub Leads : Option (List ℕ) → Option (List ℕ) → List ℕ → List ℕ → Type 0
Leads a b left all = (c : Option (List ℕ)) → Appends b c left → Appends a c all

pub leads_first : (a : Option (List ℕ)) (left all : List ℕ) → left ≡ all → Leads a a left all
leads_first a left all e c h = subst (λ (t : List ℕ). Appends a c t) e h

pub leads_next : (a b d : Option (List ℕ)) (one rest left all : List ℕ) → Leads a b left all → left ≡ one ++ rest → Appends b d one → Leads a d rest all
leads_next a b d one rest left all h e w c k = h c (subst (λ (t : List ℕ). Appends b c t) (sym e) (appends_more b d c one rest w k))

pub leads_end : (a b : Option (List ℕ)) (left all : List ℕ) → Leads a b left all → left ≡ [] → Appends a b all
leads_end a b left all h e = h b (subst (λ (t : List ℕ). Appends b b t) (sym e) (appends_none b))

-- ---- lines, by their parts

pub ref_parts : (a b c d : List ℕ) → ((((a ++ 44 ∷ []) ++ b) ++ 44 ∷ (c ++ 44 ∷ [])) ++ d) ++ 10 ∷ [] ≡ csv_line (a ∷ b ∷ c ∷ d ∷ [])
ref_parts a b c d = simp append_assoc

pub row_parts : (a b c d e f g h i j k : List ℕ)
    → (((a ++ 44 ∷ (b ++ 44 ∷ (c ++ 44 ∷ []))) ++ (d ++ 44 ∷ e)) ++ 44 ∷ (f ++ 44 ∷ (g ++ 44 ∷ (h ++ 44 ∷ [])))) ++ (i ++ 44 ∷ (j ++ 44 ∷ (k ++ 10 ∷ []))) ≡ csv_line (a ∷ b ∷ c ∷ d ∷ e ∷ f ∷ g ∷ h ∷ i ∷ j ∷ k ∷ [])
row_parts a b c d e f g h i j k = simp append_assoc

pub piece_parts : (a b c d e f g : List ℕ) → (a ++ 44 ∷ (b ++ 44 ∷ (c ++ 44 ∷ []))) ++ (d ++ 44 ∷ (e ++ 44 ∷ (f ++ 44 ∷ (g ++ 10 ∷ [])))) ≡ csv_line (a ∷ b ∷ c ∷ d ∷ e ∷ f ∷ g ∷ [])
piece_parts a b c d e f g = simp append_assoc

pub gone_parts : (a b c d e f g h i j k : List ℕ)
    → ((((a ++ 44 ∷ []) ++ (b ++ 44 ∷ (c ++ 44 ∷ []))) ++ (d ++ 44 ∷ (e ++ 44 ∷ []))) ++ (f ++ 44 ∷ (g ++ 44 ∷ []))) ++ (h ++ 44 ∷ (i ++ 44 ∷ (j ++ 44 ∷ (k ++ 10 ∷ [])))) ≡ csv_line (a ∷ b ∷ c ∷ d ∷ e ∷ f ∷ g ∷ h ∷ i ∷ j ∷ k ∷ [])
gone_parts a b c d e f g h i j k = simp append_assoc

pub event_parts : (a b c d e f g h : List ℕ)
    → (((a ++ 44 ∷ []) ++ (b ++ 44 ∷ (c ++ 44 ∷ []))) ++ (d ++ 44 ∷ [])) ++ (e ++ 44 ∷ (f ++ 44 ∷ (g ++ 44 ∷ (h ++ 10 ∷ [])))) ≡ csv_line (a ∷ b ∷ c ∷ d ∷ e ∷ f ∷ g ∷ h ∷ [])
event_parts a b c d e f g h = simp append_assoc

-- ---- marks

pub first_mark_is : (marks : List Mark) (z : Mark) → 1 ≤ length marks → get_or marks 0 z ≡ first_mark marks
first_mark_is [] z h = absurd (omega arith)
first_mark_is (m ∷ rest) z h = refl
