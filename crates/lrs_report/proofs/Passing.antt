-- What columns have along their first stretches, and behind them.
use Rattle.std.proofs.Common.{◌≡◌, ℕ, zero, suc, ◌+◌, ◌<◌, ◌≤◌, Bool, ◌⊎◌, inl, inr, List, [], ◌∷◌, ◌++◌, length, map, take, drop, get_or, refl, sym, ap, subst, ◌∙◌, arith}
use Rattle.std.proofs.Math.ListN.{set}
use Rattle.std.proofs.Math.Seq.{take-suc}
use Rattle.std.specs.Prelude.{if◌then◌else◌}
use Rattle.std.specs.List.{AllByRecursion}
use Rattle.std.proofs.lemmas.Bool.{lt-ltb, le-ltb, le-leb, lt-leb, cases_lt}
use Rattle.lrs_machine.specs.Segments.{Values}
use Rattle.lrs_report.specs.declared.columns.ValueStretch.{ValueStretch}
use Rattle.lrs_report.specs.Columns.{IsColumn, first_value, first_end, least_end, behind, value_at, values_at}
use Rattle.lrs_report.specs.Sweep.{IsPassed}

-- ---- elements that change one by one

set_next : {A : Type 0} → (f : A → A) (i : ℕ) (xs : List A) (v w : A) → i < length xs → v ≡ get_or (map f (take i xs) ++ drop i xs) i v → w ≡ f v
    → set (map f (take i xs) ++ drop i xs) i w ≡ map f (take (suc i) xs) ++ drop (suc i) xs
set_next f zero [] v w h e k = absurd (omega (arith, h))
set_next f zero (x ∷ xs) v w h e k = ap (λ y. y ∷ xs) (k ∙ ap f e)
set_next f (suc i) [] v w h e k = absurd (omega (arith, h))
set_next f (suc i) (x ∷ xs) v w h e k = ap (λ ys. f x ∷ ys) (set_next f i xs v w (omega (arith, h)) e k)

-- the next one of those that change
pub next_changed : {A : Type 0} → (f : A → A) (i : ℕ) (xs ys : List A) (v w : A) → i < length xs → ys ≡ map f (take i xs) ++ drop i xs → v ≡ get_or ys i v → w ≡ f v
    → set ys i w ≡ map f (take (i + 1) xs) ++ drop (i + 1) xs
next_changed f i xs ys v w h so e k =
    let n : suc i ≡ i + 1 = omega arith in
    ap (λ zs. set zs i w) so ∙ set_next f i xs v w h (e ∙ ap (λ zs. get_or zs i v) so) k ∙ ap (λ m. map f (take m xs) ++ drop m xs) n

-- ---- elements that are put in the places of others

put_next : {A B : Type 0} → (f : A → B) (i : ℕ) (xs : List A) (ys : List B) (x : A) → length ys ≡ length xs → i < length xs → x ≡ get_or xs i x
    → set (map f (take i xs) ++ drop i ys) i (f x) ≡ map f (take (suc i) xs) ++ drop (suc i) ys
put_next f zero [] ys x e h k = absurd (omega (arith, h))
put_next f zero (a ∷ xs) [] x e h k = absurd (omega (arith, e))
put_next f zero (a ∷ xs) (b ∷ ys) x e h k = ap (λ z. f z ∷ ys) k
put_next f (suc i) [] ys x e h k = absurd (omega (arith, h))
put_next f (suc i) (a ∷ xs) [] x e h k = absurd (omega (arith, e))
put_next f (suc i) (a ∷ xs) (b ∷ ys) x e h k = ap (λ zs. f a ∷ zs) (put_next f i xs ys x (omega (arith, e)) (omega (arith, h)) k)

pub next_put : {A B : Type 0} → (f : A → B) (i : ℕ) (xs : List A) (ys zs : List B) (x : A) (w : B) → length ys ≡ length xs → i < length xs → zs ≡ map f (take i xs) ++ drop i ys → x ≡ get_or xs i x → w ≡ f x
    → set zs i w ≡ map f (take (i + 1) xs) ++ drop (i + 1) ys
next_put f i xs ys zs x w e h so k is =
    let n : suc i ≡ i + 1 = omega arith in
    (λ t. set (so t) i (is t)) ∙ put_next f i xs ys x e h k ∙ ap (λ m. map f (take m xs) ++ drop m ys) n

-- ---- elements that are put behind others, one for each

pub next_same : {A : Type 0} → (i : ℕ) (xs ys : List A) (x w : A) → i < length xs → ys ≡ take i xs → x ≡ get_or xs i x → w ≡ x → ys ++ w ∷ [] ≡ take (i + 1) xs
next_same i xs ys x w h so k is =
    let n : suc i ≡ i + 1 = omega arith in
    (λ t. so t ++ (is ∙ k) t ∷ []) ∙ sym (take-suc xs i x h) ∙ ap (λ m. take m xs) n

push_next : {A B : Type 0} → (f : A → B) (i : ℕ) (xs : List A) (x : A) → i < length xs → x ≡ get_or xs i x → map f (take i xs) ++ f x ∷ [] ≡ map f (take (suc i) xs)
push_next f zero [] x h k = absurd (omega (arith, h))
push_next f zero (a ∷ xs) x h k = ap (λ z. f z ∷ []) k
push_next f (suc i) [] x h k = absurd (omega (arith, h))
push_next f (suc i) (a ∷ xs) x h k = ap (λ zs. f a ∷ zs) (push_next f i xs x (omega (arith, h)) k)

pub next_pushed : {A B : Type 0} → (f : A → B) (i : ℕ) (xs : List A) (ys : List B) (x : A) (w : B) → i < length xs → ys ≡ map f (take i xs) → x ≡ get_or xs i x → w ≡ f x → ys ++ w ∷ [] ≡ map f (take (i + 1) xs)
next_pushed f i xs ys x w h so k is =
    let n : suc i ≡ i + 1 = omega arith in
    (λ t. so t ++ is t ∷ []) ∙ push_next f i xs x h k ∙ ap (λ m. map f (take m xs)) n

map_pushed : {A B : Type 0} → (f : A → B) (xs : List A) (x : A) → map f (xs ++ x ∷ []) ≡ map f xs ++ f x ∷ []
map_pushed f [] x = refl
map_pushed f (y ∷ ys) x = ap (λ zs. f y ∷ zs) (map_pushed f ys x)

-- ... where what each gives is read off by another map
pub next_read : {A B C : Type 0} → (f : A → C) (read : B → C) (i : ℕ) (xs : List A) (ys zs : List B) (x : A) (w : B) → i < length xs → map read ys ≡ map f (take i xs) → x ≡ get_or xs i x → read w ≡ f x → zs ≡ ys ++ w ∷ []
    → map read zs ≡ map f (take (i + 1) xs)
next_read f read i xs ys zs x w h so k is put = ap (map read) put ∙ map_pushed read ys w ∙ next_pushed f i xs (map read ys) x (read w) h so k is

all_pushed : {A : Type 0} → (P : A → Type 0) (xs : List A) (x : A) → AllByRecursion P xs → P x → AllByRecursion P (xs ++ x ∷ [])
all_pushed P [] x h k = (k, tt)
all_pushed P (y ∷ ys) x h k = (h.0, all_pushed P ys x h.1 k)

-- what is so of all is so of one more
pub next_all : {A : Type 0} → (P : A → Type 0) (xs ys : List A) (x : A) → AllByRecursion P xs → P x → ys ≡ xs ++ x ∷ [] → AllByRecursion P ys
next_all P xs ys x h k put = subst (AllByRecursion P) (sym put) (all_pushed P xs x h k)

all_behind : {A : Type 0} → (P : A → Type 0) (i : ℕ) (xs : List A) → AllByRecursion P (drop i xs) → AllByRecursion P (drop (suc i) xs)
all_behind P zero [] h = h
all_behind P zero (x ∷ xs) h = h.1
all_behind P (suc i) [] h = h
all_behind P (suc i) (x ∷ xs) h = all_behind P i xs h

-- ... and of those that are left
pub next_left : {A : Type 0} → (P : A → Type 0) (i : ℕ) (xs : List A) → AllByRecursion P (drop i xs) → AllByRecursion P (drop (i + 1) xs)
next_left P i xs h =
    let n : suc i ≡ i + 1 = omega arith in
    subst (λ m. AllByRecursion P (drop m xs)) n (all_behind P i xs h)

-- ---- one column

column_along : (len to j : ℕ) (c : List ValueStretch) → j < to → to ≤ first_end len c → value_at c j ≡ first_value c
column_along len to j [] high least = refl
column_along len to j (s ∷ ss) high least = ap (λ b. if b then s.value else value_at ss j) (lt-ltb j s.to (omega (arith, high, least)))

column_rest : (to j : ℕ) (c : List ValueStretch) → to ≤ j → value_at (behind to c) j ≡ value_at c j
column_rest to j [] h = refl
column_rest to j (s ∷ ss) h = by (cases_lt to s.to)
  where
    by : (to < s.to) ⊎ (s.to ≤ to) → value_at (behind to (s ∷ ss)) j ≡ value_at (s ∷ ss) j
    by (inl k) = ap (λ b. value_at (if b then ss else s ∷ ss) j) (lt-leb s.to to k)
    by (inr k) = ap (λ b. value_at (if b then ss else s ∷ ss) j) (le-leb s.to to k) ∙ sym (ap (λ b. if b then s.value else value_at ss j) (le-ltb j s.to (omega (arith, k, h))))

column_behind : (from to len : ℕ) (c : List ValueStretch) → IsColumn from len c → from < to → to ≤ len → to ≤ first_end len c → IsColumn to len (behind to c)
column_behind from to len [] h ahead within least = absurd (omega (arith, h, ahead, within))
column_behind from to len (s ∷ ss) h ahead within least = by (cases_lt to s.to)
  where
    by : (to < s.to) ⊎ (s.to ≤ to) → IsColumn to len (behind to (s ∷ ss))
    by (inl k) = let P : Bool → Type 0 = λ b. IsColumn to len (if b then ss else s ∷ ss) in subst P (sym (lt-leb s.to to k)) (k, h.1)
    by (inr k) =
        let P : Bool → Type 0 = λ b. IsColumn to len (if b then ss else s ∷ ss) in
        let Q : ℕ → Type 0 = λ n. IsColumn n len ss in
        let e : s.to ≡ to = omega (arith, k, least) in
        subst P (sym (le-leb s.to to k)) (subst Q e h.1)

-- ---- all columns

pub least_within : (len : ℕ) (cs : List (List ValueStretch)) → least_end len cs ≤ len
least_within len [] = omega arith
least_within len (c ∷ cs) = let rest = least_within len cs in omega (arith, rest)

pub least_ahead : (from len : ℕ) (cs : List (List ValueStretch)) → AllByRecursion (IsColumn from len) cs → from < len → from < least_end len cs
least_ahead from len [] h k = k
least_ahead from len (c ∷ cs) h k = let rest = least_ahead from len cs h.1 k in let one = first c h.0 in omega (arith, rest, one)
  where
    first : (c : List ValueStretch) → IsColumn from len c → from < first_end len c
    first [] g = absurd (omega (arith, g, k))
    first (s ∷ ss) g = g.0

pub values_along : (len to j : ℕ) (cs : List (List ValueStretch)) → j < to → to ≤ least_end len cs → values_at cs j ≡ map first_value cs
values_along len to j [] high least = refl
values_along len to j (c ∷ cs) high least =
    let one = column_along len to j c high (omega (arith, least)) in
    let rest = values_along len to j cs high (omega (arith, least)) in
    λ i. one i ∷ rest i

values_rest : (to j : ℕ) (cs : List (List ValueStretch)) → to ≤ j → values_at (map (behind to) cs) j ≡ values_at cs j
values_rest to j [] h = refl
values_rest to j (c ∷ cs) h = let one = column_rest to j c h in let rest = values_rest to j cs h in λ i. one i ∷ rest i

columns_behind : (from to len : ℕ) (cs : List (List ValueStretch)) → AllByRecursion (IsColumn from len) cs → from < to → to ≤ len → to ≤ least_end len cs → AllByRecursion (IsColumn to len) (map (behind to) cs)
columns_behind from to len [] h ahead within least = tt
columns_behind from to len (c ∷ cs) h ahead within least =
    (column_behind from to len c h.0 ahead within (omega (arith, least)), columns_behind from to len cs h.1 ahead within (omega (arith, least)))

-- ---- steps

-- one step from columns that are there
pub one_step : (from len to : ℕ) (values : Values) (cs ds : List (List ValueStretch)) → AllByRecursion (IsColumn from len) cs → from < len → values ≡ map first_value cs → to ≡ least_end len cs → ds ≡ map (behind to) cs
    → IsPassed from len values cs to ds
one_step from len to values cs ds h k front end new =
    let low = least_ahead from len cs h k in
    let high = least_within len cs in
    let ahead : from < to = omega (arith, low, end) in
    let within : to ≤ len = omega (arith, high, end) in
    let least : to ≤ least_end len cs = omega (arith, end) in
    record {
      ahead = ahead;
      within = within;
      columns = subst (AllByRecursion (IsColumn to len)) (sym new) (columns_behind from to len cs h ahead within least);
      along = λ j l m. values_along len to j cs m least ∙ sym front;
      rest = λ j l. ap (λ xs. values_at xs j) new ∙ values_rest to j cs l;
    }

-- ... and then one more
pub step_more : (from to end len : ℕ) (values : Values) (old cs ds : List (List ValueStretch)) → IsPassed from len values old to cs → IsPassed to len values cs end ds → IsPassed from len values old end ds
step_more from to end len values old cs ds h k = record {
  ahead = (let a = h.ahead in let b = k.ahead in omega (arith, a, b));
  within = k.within;
  columns = k.columns;
  along = λ j low high. by j low high (cases_lt j to);
  rest = λ j low. k.rest j low ∙ h.rest j (let b = k.ahead in omega (arith, b, low));
}
  where
    by : (j : ℕ) → from ≤ j → j < end → (j < to) ⊎ (to ≤ j) → values_at old j ≡ values
    by j low high (inl l) = h.along j low l
    by j low high (inr l) = sym (h.rest j l) ∙ k.along j l high
