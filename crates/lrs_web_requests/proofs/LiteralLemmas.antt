-- What a router of literal routes, and of routes that end in a parameter, answers at any path.
use Rattle.std.proofs.Common.{◌≡◌, ◌≢◌, ◌⊎◌, inl, inr, ℕ, zero, suc, ◌-◌, ◌≤◌, List, [], ◌∷◌, ◌++◌, length, Bool, true, false, cond, ◌==◌, ◌&&◌, ltb, Option, None, Some, refl, ap, ◌∙◌, arith}
use Rattle.std.proofs.lemmas.Bool.Decides.{nat_tests}
use Rattle.std.specs.List.{list_all}
use Rattle.matchit.specs.Rows.{RowsOf, param_token, catch_all_token}
use Rattle.matchit.specs.Seek.{seek, first, own, step, or_else, param_step, segment, has_slash, longest_suffix}
use Rattle.matchit.specs.Level.{IsText}

-- bytes, and behind them at most one parameter
abbrev pub IsSimple : List ℕ → Type 0
IsSimple [] = Unit {0}
IsSimple (x ∷ tokens) = (x ≤ param_token) × (x ≡ param_token → tokens ≡ []) × IsSimple tokens

-- the path has these bytes, with any name in place of the parameter
abbrev pub Fits : List ℕ → List ℕ → Type 0
Fits [] [] = Unit {0}
Fits [] (b ∷ path) = ⊥
Fits (x ∷ tokens) [] = ⊥
Fits (x ∷ tokens) (b ∷ path) =
    ((x ≡ b) × Fits tokens path) ⊎ ((x ≡ param_token) × (tokens ≡ []) × (has_slash (b ∷ path) ≡ false))

-- the bytes of a literal are below 256
pub text_from : (bytes : List ℕ) → list_all (λ b. ltb b 256) bytes ≡ true → IsText bytes
text_from [] e = tt
text_from (b ∷ bytes) e = by (ltb b 256) refl e (λ h. text_from bytes h)
  where
    by : (v : Bool) → ltb b 256 ≡ v → (v && list_all (λ c. ltb c 256) bytes) ≡ true → (list_all (λ c. ltb c 256) bytes ≡ true → IsText bytes) → IsText (b ∷ bytes)
    by true is rest ih = (grind (arith, nat_tests), ih rest)
    by false is rest ih = absurd (cc)

pub simple_literal : (bytes : List ℕ) → IsText bytes → IsSimple bytes
simple_literal [] h = tt
simple_literal (b ∷ bytes) h = (omega arith, λ e. absurd (omega arith), simple_literal bytes h.1)

pub simple_named : (bytes : List ℕ) → IsText bytes → IsSimple (bytes ++ param_token ∷ [])
simple_named [] h = (omega arith, λ e. refl, tt)
simple_named (b ∷ bytes) h = (omega arith, λ e. absurd (omega arith), simple_named bytes h.1)

-- only itself fits a literal
pub fits_literal : (bytes path : List ℕ) → IsText bytes → Fits bytes path → path ≡ bytes
fits_literal [] [] h f = refl
fits_literal [] (b ∷ path) h f = absurd f
fits_literal (x ∷ bytes) [] h f = absurd f
fits_literal (x ∷ bytes) (b ∷ path) h f =
    elim f [
      | inl same ↦ let rest = fits_literal bytes path h.1 same.1 in let at = same.0 in cc
      | inr other ↦ absurd (let at = other.0 in let below = h.0 in omega arith)
    ]

-- a name: something without a slash
abbrev pub IsWord : List ℕ → Type 0
IsWord word = (word ≢ []) × (has_slash word ≡ false)

-- behind these bytes, only a name fits a parameter
pub fits_named : (bytes path : List ℕ) → IsText bytes → Fits (bytes ++ param_token ∷ []) path → (word : List ℕ) × (path ≡ bytes ++ word) × IsWord word
fits_named [] [] h f = absurd f
fits_named [] (b ∷ []) h f =
    elim f [
      | inl same ↦ (b ∷ [], refl, ((λ e. cc), let at = same.0 in let no : (b == 47) ≡ false = grind (arith, nat_tests) in rw no refl))
      | inr other ↦ (b ∷ [], refl, ((λ e. cc), other.2))
    ]
fits_named [] (b ∷ c ∷ path) h f =
    elim f [ inl same ↦ absurd same.1 | inr other ↦ (b ∷ c ∷ path, refl, ((λ e. cc), other.2)) ]
fits_named (x ∷ bytes) [] h f = absurd f
fits_named (x ∷ bytes) (b ∷ path) h f =
    elim f [
      | inl same ↦
          let rest = fits_named bytes path h.1 same.1 in
          let at = same.0 in
          let behind = rest.1 in
          (rest.0, cc, rest.2)
      | inr other ↦ absurd (let at = other.0 in let below = h.0 in omega arith)
    ]

module _ {K : Type 0} where
  -- each row is simple
  abbrev pub AllSimple : RowsOf K → Type 0
  AllSimple [] = Unit {0}
  AllSimple ((tokens, key) ∷ rest) = IsSimple tokens × AllSimple rest

  -- nothing is left of any row
  abbrev AllEnded : RowsOf K → Type 0
  AllEnded [] = Unit {0}
  AllEnded ((tokens, key) ∷ rest) = (tokens ≡ []) × AllEnded rest

  -- a row of this key fits the path
  abbrev pub HasFit : RowsOf K → List ℕ → K → Type 0
  HasFit [] path k = ⊥
  HasFit ((tokens, key) ∷ rest) path k = ((key ≡ k) × Fits tokens path) ⊎ HasFit rest path k

  -- what simple rows find: by the bytes, or else by a parameter that takes all that is left
  abbrev pub reached : RowsOf K → List ℕ → Option K
  reached rs [] = own rs
  reached rs (b ∷ path) =
      or_else (reached (step b rs) path) (cond (has_slash (b ∷ path)) None (own (step param_token rs)))

  -- a parameter goes on to no rows where there are none
  no_rows : (path : List ℕ) → (param_step {K = K} [] path).1 ≡ []
  unfolding param_step
  no_rows path = elim (has_slash path) as (λ b. (cond {A = ℕ × RowsOf K} b (0, []) (length path, [])).1 ≡ []) [ true ↦ refl | false ↦ refl ]

  -- nothing is found in no rows
  nothing : (path : List ℕ) (skip : ℕ) → seek {K = K} skip [] path ≡ None
  unfolding seek
  nothing [] zero = refl
  nothing [] (suc skip) = refl
  nothing (b ∷ path) (suc skip) = nothing path skip
  nothing (b ∷ path) zero =
      let after = (param_step {K = K} [] (b ∷ path)).0 - 1 in
      ap (λ x. or_else x (or_else (seek after (param_step {K = K} [] (b ∷ path)).1 path) None)) (nothing path 0)
      ∙ ap (λ rs. or_else (seek after rs path) None) (no_rows (b ∷ path)) ∙ ap (λ x. or_else x None) (nothing path after)

  or_nothing : (a : Option K) → or_else a None ≡ a
  or_nothing None = refl
  or_nothing (Some k) = refl

  -- no simple row has a catch-all
  no_catch_all : (rs : RowsOf K) → AllSimple rs → step catch_all_token rs ≡ []
  no_catch_all [] s = refl
  no_catch_all (([], k) ∷ rs) s = no_catch_all rs s.1
  no_catch_all ((x ∷ tokens, k) ∷ rs) s =
      let below = s.0.0 in
      let no : (x == catch_all_token) ≡ false = grind (arith, nat_tests) in
      rw no (no_catch_all rs s.1)

  step_simple : (b : ℕ) (rs : RowsOf K) → AllSimple rs → AllSimple (step b rs)
  step_simple b [] s = tt
  step_simple b (([], k) ∷ rs) s = step_simple b rs s.1
  step_simple b ((x ∷ tokens, k) ∷ rs) s =
      elim (x == b) as (λ v. AllSimple (cond v ((tokens, k) ∷ step b rs) (step b rs))) [
        | true ↦ (s.0.2, step_simple b rs s.1)
        | false ↦ step_simple b rs s.1
      ]

  -- behind a parameter nothing is left
  step_ended : (rs : RowsOf K) → AllSimple rs → AllEnded (step param_token rs)
  step_ended [] s = tt
  step_ended (([], k) ∷ rs) s = step_ended rs s.1
  step_ended ((x ∷ tokens, k) ∷ rs) s = by (x == param_token) refl (step_ended rs s.1)
    where
      by : (v : Bool) → (x == param_token) ≡ v → AllEnded (step param_token rs) → AllEnded (cond v ((tokens, k) ∷ step param_token rs) (step param_token rs))
      by true e ih = (s.0.1 (grind (arith, nat_tests)), ih)
      by false e ih = ih

  no_suffix : (seg : List ℕ) (rs : RowsOf K) → AllEnded rs → longest_suffix seg rs ≡ []
  no_suffix seg [] s = refl
  no_suffix seg (([], k) ∷ rs) s = no_suffix seg rs s.1
  no_suffix seg ((x ∷ tokens, k) ∷ rs) s = absurd (let e = s.0 in cc)

  taken : (rs : RowsOf K) (path : List ℕ) → AllEnded rs → param_step rs path ≡ cond (has_slash path) (0, []) (length path, rs)
  unfolding param_step
  taken rs path s = rw (no_suffix (segment path) rs s) refl

  at_end : (rs : RowsOf K) (path : List ℕ) → seek (length path) rs path ≡ own rs
  unfolding seek
  at_end rs [] = refl
  at_end rs (b ∷ path) = at_end rs path

  by_param : (rs : RowsOf K) (b : ℕ) (path : List ℕ) → AllEnded rs → seek ((param_step rs (b ∷ path)).0 - 1) (param_step rs (b ∷ path)).1 path ≡ cond (has_slash (b ∷ path)) None (own rs)
  by_param rs b path s =
      rw (taken rs (b ∷ path) s)
      (elim (has_slash (b ∷ path)) as (λ v. seek ((cond {A = ℕ × RowsOf K} v (0, []) (length (b ∷ path), rs)).0 - 1) (cond {A = ℕ × RowsOf K} v (0, []) (length (b ∷ path), rs)).1 path ≡ cond v None (own rs)) [
        | true ↦ nothing path 0
        | false ↦ let less : length (b ∷ path) - 1 ≡ length path = omega arith in rw less (at_end rs path)
      ])

  pub first_reached : (rs : RowsOf K) (path : List ℕ) → AllSimple rs → first rs path ≡ reached rs path
  unfolding seek
  first_reached rs [] s = refl
  first_reached rs (b ∷ path) s =
      rw (no_catch_all rs s, by_param (step param_token rs) b path (step_ended rs s), or_nothing, first_reached (step b rs) path (step_simple b rs s)) refl

  own_fits : (rs : RowsOf K) (k : K) → own rs ≡ Some k → HasFit rs [] k
  own_fits [] k e = absurd (cc)
  own_fits (([], key) ∷ rs) k e = inl (cc, tt)
  own_fits ((x ∷ tokens, key) ∷ rs) k e = inr (own_fits rs k e)

  step_fits : (rs : RowsOf K) (b : ℕ) (path : List ℕ) (k : K) → HasFit (step b rs) path k → HasFit rs (b ∷ path) k
  step_fits [] b path k f = absurd f
  step_fits (([], key) ∷ rs) b path k f = inr (step_fits rs b path k f)
  step_fits ((x ∷ tokens, key) ∷ rs) b path k f = by (x == b) refl (λ h. step_fits rs b path k h) f
    where
      by : (v : Bool) → (x == b) ≡ v → (HasFit (step b rs) path k → HasFit rs (b ∷ path) k) → HasFit (cond v ((tokens, key) ∷ step b rs) (step b rs)) path k → HasFit ((x ∷ tokens, key) ∷ rs) (b ∷ path) k
      by true e ih here = elim here [ inl this ↦ inl (this.0, inl (grind (arith, nat_tests), this.1)) | inr other ↦ inr (ih other) ]
      by false e ih later = inr (ih later)

  param_fits : (rs : RowsOf K) (b : ℕ) (path : List ℕ) (k : K) → has_slash (b ∷ path) ≡ false → own (step param_token rs) ≡ Some k → HasFit rs (b ∷ path) k
  param_fits [] b path k n e = absurd (cc)
  param_fits (([], key) ∷ rs) b path k n e = inr (param_fits rs b path k n e)
  param_fits ((x ∷ [], key) ∷ rs) b path k n e = by (x == param_token) refl (λ h. param_fits rs b path k n h) e
    where
      by : (v : Bool) → (x == param_token) ≡ v → (own (step param_token rs) ≡ Some k → HasFit rs (b ∷ path) k) → own (cond v (([], key) ∷ step param_token rs) (step param_token rs)) ≡ Some k → HasFit ((x ∷ [], key) ∷ rs) (b ∷ path) k
      by true at ih here = inl (cc, inr (grind (arith, nat_tests), refl, n))
      by false at ih later = inr (ih later)
  param_fits ((x ∷ y ∷ tokens, key) ∷ rs) b path k n e = by (x == param_token) (λ h. param_fits rs b path k n h) e
    where
      by : (v : Bool) → (own (step param_token rs) ≡ Some k → HasFit rs (b ∷ path) k) → own (cond v ((y ∷ tokens, key) ∷ step param_token rs) (step param_token rs)) ≡ Some k → HasFit ((x ∷ y ∷ tokens, key) ∷ rs) (b ∷ path) k
      by true ih later = inr (ih later)
      by false ih later = inr (ih later)

  pub reached_fits : (rs : RowsOf K) (path : List ℕ) (k : K) → reached rs path ≡ Some k → HasFit rs path k
  reached_fits rs [] k e = own_fits rs k e
  reached_fits rs (b ∷ path) k e = by (reached (step b rs) path) (has_slash (b ∷ path)) refl refl (λ key h. reached_fits (step b rs) path key h) e
    where
      by : (o : Option K) (v : Bool) → reached (step b rs) path ≡ o → has_slash (b ∷ path) ≡ v → ((key : K) → reached (step b rs) path ≡ Some key → HasFit (step b rs) path key) → or_else o (cond v None (own (step param_token rs))) ≡ Some k → HasFit rs (b ∷ path) k
      by (Some key) v at slash ih here = step_fits rs b path k (ih k (at ∙ here))
      by None true at slash ih here = absurd (cc)
      by None false at slash ih here = param_fits rs b path k slash here

  -- a name is found behind the bytes of the row
  pub reached_name : (k : K) (b : ℕ) (path : List ℕ) → has_slash (b ∷ path) ≡ false → reached ((param_token ∷ [], k) ∷ []) (b ∷ path) ≡ Some k
  reached_name k b path none = by (reached (step b ((param_token ∷ [], k) ∷ [])) path) refl
    where
      by : (o : Option K) → reached (step b ((param_token ∷ [], k) ∷ [])) path ≡ o → reached ((param_token ∷ [], k) ∷ []) (b ∷ path) ≡ Some k
      by None at = rw (at, none) refl
      by (Some key) at =
          let whole : reached ((param_token ∷ [], k) ∷ []) (b ∷ path) ≡ Some key = rw at refl in
          elim (reached_fits ((param_token ∷ [], k) ∷ []) (b ∷ path) key whole) [
            | inl this ↦ let same = this.0 in cc
            | inr other ↦ absurd other
          ]
