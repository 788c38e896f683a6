-- The index of keys beside the list of edits.
use Rattle.std.proofs.Common.{◌≡◌, ℕ, zero, suc, ◌+◌, ◌-◌, ◌<◌, ◌≤◌, ◌==◌, take, true, false, cond, nat_lt, List, [], ◌∷◌, ◌++◌, length, Option, Some, None, refl, sym, ap, subst, ◌∙◌, arith, length-append}
use Rattle.std.specs.Prelude.{slice_index, slice_index_or, not}
use Rattle.std.specs.BTreeMap.{get, is_at, IsEmpty}
use Rattle.std.specs.Map.{lookup}
use Rattle.std.proofs.lemmas.Bool.{false≢true}
use Rattle.std.proofs.lemmas.Bool.Decides.{nat_tests, Decides-eqb}
use Rattle.std.proofs.lemmas.List.{take_more, length-take, length-map, get_or-map, map-append, get_or_default, get_or_append_left, get_or-append_right}
use Rattle.std.specs.Ordering.{nat_cmp}
use Rattle.std.specs.Cmp.Lexicographic.{bytes_decides}
use Rattle.lrs_inventory.specs.Prelude.{each_two, Name, same_name, Edit}
use Rattle.lrs_inventory.specs.declared.keys.KeyIndex.{KeyIndex}
use Rattle.lrs_inventory.specs.Keys.{place_among, digest, digests, last_before, IsIndex, IsKeyPutIn, HaveSameKeys}
use Rattle.lrs_inventory.proofs.Positions.{position-fails, position-first, each_at}

-- ---- the last place of a number

-- where the places up to one end
abbrev pub past : Option ℕ → ℕ
past None = 0
past (Some place) = suc place

-- It is the same in lists that are the same so far.
last-alike : (ns ms : List ℕ) (n end : ℕ) → ((i : ℕ) → i < end → slice_index ns i ≡ slice_index ms i) → last_before ns n end ≡ last_before ms n end
last-alike ns ms n zero h = refl
last-alike ns ms n (suc end) h = λ j. cond (h end (omega arith) j == n) (Some end) (last-alike ns ms n end (λ i below. h i (omega (arith, below))) j)

module _ (ns : List ℕ) (n : ℕ) where
  last-within : (end : ℕ) → past (last_before ns n end) ≤ end
  last-within zero = omega arith
  last-within (suc end) = elim (slice_index ns end == n) as (λ b. past (cond b (Some end) (last_before ns n end)) ≤ suc end) [
    | true ↦ omega arith
    | false ↦ let h = last-within end in omega (arith, h)
  ]

  last-there : (end place : ℕ) → last_before ns n end ≡ Some place → slice_index ns place ≡ n
  last-there zero place h = absurd (cc h)
  last-there (suc end) place h = elim (slice_index ns end == n) as (λ b. (slice_index ns end == n) ≡ b → cond b (Some end) (last_before ns n end) ≡ Some place → slice_index ns place ≡ n) [
    | true ↦ λ e found. ap (λ o. slice_index ns (some_or end o)) (sym found) ∙ (Decides-eqb _ _).0 e
    | false ↦ λ e found. last-there end place found
  ] refl h
    where
      some_or : ℕ → Option ℕ → ℕ
      some_or d None = d
      some_or d (Some i) = i

  last-others : (end i : ℕ) → past (last_before ns n end) ≤ i → i < end → (slice_index ns i == n) ≡ false
  last-others zero i above within = absurd (omega (arith, within))
  last-others (suc end) i above within = elim (slice_index ns end == n) as (λ b. (slice_index ns end == n) ≡ b → past (cond b (Some end) (last_before ns n end)) ≤ i → (slice_index ns i == n) ≡ false) [
    | true ↦ λ e h. absurd (omega (arith, h, within))
    | false ↦ λ e h. elim (i == end) as (λ t. (i == end) ≡ t → (slice_index ns i == n) ≡ false) [
      | true ↦ λ same. ap (λ k. slice_index ns k == n) ((Decides-eqb _ _).0 same) ∙ e
      | false ↦ λ apart. last-others end i h (grind (arith, nat_tests))
    ] refl
  ] refl above

-- ---- the digests of edits

module _ (edits : List Edit) where
  digest-at : (place : ℕ) (d : Edit) → place < length edits → slice_index (digests edits) place ≡ digest (slice_index_or edits place d).key
  digest-at place d within = get_or-map (λ (e : Edit). digest e.key) edits place d 0 within

  module _ (key : Name) where
    -- No edit past the candidate has the key, and the candidate has its digest.
    pub record IsCandidate (candidate : Option ℕ) : Type 0 where
      pub within : past candidate ≤ length edits
      pub alike : (place : ℕ) → candidate ≡ Some place → slice_index (digests edits) place ≡ digest key
      pub others : (place : ℕ) (d : Edit) → past candidate ≤ place → place < length edits → same_name (slice_index_or edits place d).key key ≡ false

    -- An edit of another digest has another key.
    other_key : (place : ℕ) (d : Edit) → place < length edits → (slice_index (digests edits) place == digest key) ≡ false → same_name (slice_index_or edits place d).key key ≡ false
    other_key place d within apart = elim (same_name (slice_index_or edits place d).key key) as (λ b. same_name (slice_index_or edits place d).key key ≡ b → b ≡ false) [
      | true ↦ λ e. absurd (false≢true (sym apart ∙ (Decides-eqb _ _).1 (digest-at place d within ∙ ap digest ((bytes_decides _ _).0 e))))
      | false ↦ λ e. refl
    ] refl

    last_candidate : (end : ℕ) → end ≤ length edits → ((place : ℕ) (d : Edit) → end ≤ place → place < length edits → same_name (slice_index_or edits place d).key key ≡ false) → IsCandidate (last_before (digests edits) (digest key) end)
    last_candidate end within none = record {
      within = let h = last-within (digests edits) (digest key) end in omega (arith, h, within);
      alike = λ place found. last-there (digests edits) (digest key) end place found;
      others = λ place d above in_list. elim (nat_lt place end) as (λ b. nat_lt place end ≡ b → same_name (slice_index_or edits place d).key key ≡ false) [
        | true ↦ λ e. other_key place d in_list (last-others (digests edits) (digest key) end place above (grind (arith, nat_tests)))
        | false ↦ λ e. none place d (grind (arith, nat_tests)) in_list
      ] refl;
    }

    module _ (keys : KeyIndex) (index : IsIndex keys edits) where
      -- The last edit of the key's digest is the first candidate.
      pub first_candidate : IsCandidate (get nat_cmp keys.newest (digest key))
      first_candidate = subst IsCandidate (sym (index.newest (digest key))) (last_candidate (length edits) (omega arith) (λ place d above within. absurd (omega (arith, above, within))))

      -- After one that has another key comes the one before it.
      pub next_candidate : (place : ℕ) (d : Edit) → IsCandidate (Some place) → same_name (slice_index_or edits place d).key key ≡ false → IsCandidate (get nat_cmp keys.earlier place)
      next_candidate place d h other =
          let within = h.within in
          subst IsCandidate (sym (index.earlier place (omega (arith, within)) ∙ ap (λ n. last_before (digests edits) n place) (h.alike place refl)))
          (last_candidate place (omega (arith, within)) (λ i e above in_list. elim (i == place) as (λ b. (i == place) ≡ b → same_name (slice_index_or edits i e).key key ≡ false) [
            | true ↦ λ same. ap (λ k. same_name (slice_index_or edits k e).key key) ((Decides-eqb _ _).0 same) ∙ ap (λ (x : Edit). same_name x.key key) (get_or_default edits place e d (omega (arith, within))) ∙ other
            | false ↦ λ apart. h.others i e (grind (arith, nat_tests)) in_list
          ] refl))

      -- ... and nothing but places before it
      pub goes_back : (place : ℕ) → IsCandidate (Some place) → past (get nat_cmp keys.earlier place) < past (Some place)
      goes_back place h =
          let within = h.within in
          let back = last-within (digests edits) (slice_index (digests edits) place) place in
          subst (λ (o : Option ℕ). past o < suc place) (sym (index.earlier place (omega (arith, within)))) (omega (arith, back))

    -- A candidate that has the key is its place, where no other edit has it.
    pub is_place : (place : ℕ) (d : Edit) → place < length edits → same_name (slice_index_or edits place d).key key ≡ true → each_two (λ d e. not (same_name d.key e.key)) edits ≡ true → place_among edits key ≡ Some place
    is_place place d within same once =
        position-first (λ (e : Edit). same_name e.key key) edits place d within same
        (λ i below. elim (same_name (slice_index_or edits i d).key key) as (λ b. same_name (slice_index_or edits i d).key key ≡ b → b ≡ false) [
          | true ↦ λ e. absurd (false≢true (sym (ap not (both i e)) ∙ each_at (λ (d e : Edit). not (same_name d.key e.key)) edits i place d below within once))
          | false ↦ λ e. refl
        ] refl)
      where
        both : (i : ℕ) → same_name (slice_index_or edits i d).key key ≡ true → same_name (slice_index_or edits i d).key (slice_index_or edits place d).key ≡ true
        both i e =
            let there = slice_index_or edits place d in
            let here = slice_index_or edits i d in
            (bytes_decides here.key there.key).1 ((bytes_decides here.key key).0 e ∙ sym ((bytes_decides there.key key).0 same))

    -- Where no candidate is left, no edit has the key.
    pub is_nowhere : IsCandidate None → place_among edits key ≡ None
    is_nowhere h = position-fails (λ (e : Edit). same_name e.key key) edits (λ i d within. h.others i d (omega arith) within)

-- ---- the index as edits come

-- No edits have an empty index.
pub IsIndex-empty : (keys : KeyIndex) → IsEmpty keys.newest → IsEmpty keys.earlier → IsIndex keys []
IsIndex-empty keys newest earlier = record {
  newest = λ number. ap (lookup (is_at (nat_cmp number))) newest;
  earlier = λ place within. absurd (omega (arith, within));
  no_more = λ place above. ap (lookup (is_at (nat_cmp place))) earlier;
}

-- Two that find the same are indexes of the same edits.
pub IsIndex-same : (old new : KeyIndex) (edits : List Edit) → HaveSameKeys old new → IsIndex old edits → IsIndex new edits
IsIndex-same old new edits same h = record {
  newest = λ number. same.newest number ∙ h.newest number;
  earlier = λ place within. same.earlier place ∙ h.earlier place within;
  no_more = λ place above. same.earlier place ∙ h.no_more place above;
}

module _ (edits : List Edit) (e : Edit) where
  digests-push : digests (edits ++ e ∷ []) ≡ digests edits ++ digest e.key ∷ []
  digests-push = map-append (λ (d : Edit). digest d.key) edits (e ∷ [])

  digest-old : (place : ℕ) → place < length edits → slice_index (digests (edits ++ e ∷ [])) place ≡ slice_index (digests edits) place
  digest-old place within = ap (λ ns. slice_index ns place) digests-push ∙ get_or_append_left (digests edits) (digest e.key ∷ []) 0 place (let l = length-map edits (λ (d : Edit). digest d.key) in omega (arith, l, within))

  digest-new : (place : ℕ) → place ≡ length edits → slice_index (digests (edits ++ e ∷ [])) place ≡ digest e.key
  digest-new place at =
      let l = length-append edits (e ∷ []) in
      let none_left : place - length edits ≡ 0 = omega (arith, at) in
      digest-at (edits ++ e ∷ []) place e (omega (arith, l, at))
      ∙ ap (λ (d : Edit). digest d.key) (get_or-append_right edits (e ∷ []) (length edits) place e refl (omega (arith, at)) ∙ ap (λ n. slice_index_or (e ∷ []) n e) none_left)

  last-old : (number end : ℕ) → end ≤ length edits → last_before (digests (edits ++ e ∷ [])) number end ≡ last_before (digests edits) number end
  last-old number end within = last-alike (digests (edits ++ e ∷ [])) (digests edits) number end (λ i below. digest-old i (omega (arith, below, within)))

  turned : (n m : ℕ) → (n == m) ≡ (m == n)
  turned n m = grind (arith, nat_tests)

  one_more : length (edits ++ e ∷ []) ≡ suc (length edits)
  one_more = length-append edits (e ∷ []) ∙ (omega arith)

  -- The index with the key of one more edit.
  pub IsIndex-push : (old new : KeyIndex) → IsIndex old edits → IsKeyPutIn e.key (length edits) old new → IsIndex new (edits ++ e ∷ [])
  IsIndex-push old new h put = record {
    newest = λ number.
        put.newest number ∙ ap (cond (number == digest e.key) (Some (length edits))) (h.newest number ∙ sym (last-old number (length edits) (omega arith)))
        ∙ ap (λ b. cond b (Some (length edits)) (last_before (digests (edits ++ e ∷ [])) number (length edits))) (turned number (digest e.key) ∙ ap (λ n. n == number) (sym (digest-new (length edits) refl)))
        ∙ ap (last_before (digests (edits ++ e ∷ [])) number) (sym one_more);
    earlier = λ place within. put.earlier place ∙ elim (place == length edits) as (λ b. (place == length edits) ≡ b
        → cond b (get nat_cmp old.newest (digest e.key)) (get nat_cmp old.earlier place) ≡ last_before (digests (edits ++ e ∷ [])) (slice_index (digests (edits ++ e ∷ [])) place) place) [
          | true ↦ λ same. let at : place ≡ length edits = (Decides-eqb _ _).0 same in
              h.newest (digest e.key) ∙ ap (last_before (digests edits) (digest e.key)) (sym at)
              ∙ sym (ap (λ n. last_before (digests (edits ++ e ∷ [])) n place) (digest-new place at) ∙ last-old (digest e.key) place (omega (arith, at)))
          | false ↦ λ apart. let below : place < length edits = (let l = one_more in grind (arith, nat_tests)) in
              h.earlier place below ∙ sym (ap (λ n. last_before (digests (edits ++ e ∷ [])) n place) (digest-old place below) ∙ last-old (slice_index (digests edits) place) place (omega (arith, below)))
        ] refl;
    no_more = λ place above. let l = one_more in put.earlier place
        ∙ ap (λ b. cond b (get nat_cmp old.newest (digest e.key)) (get nat_cmp old.earlier place)) (let t : (place == length edits) ≡ false = grind (arith, nat_tests) in t)
        ∙ h.no_more place (omega (arith, l, above));
  }

-- The index of the first edits, with the key of the next.
pub IsIndex-next : (old new : KeyIndex) (edits : List Edit) (i : ℕ) (d : Edit) → i < length edits → IsIndex old (take i edits) → IsKeyPutIn (slice_index_or edits i d).key i old new → IsIndex new (take (i + 1) edits)
IsIndex-next old new edits i d within h put =
    let e = slice_index_or edits i d in
    let len : length (take i edits) ≡ i = omega (arith, length-take i edits, within) in
    subst (IsIndex new) (sym (take_more edits i d within)) (IsIndex-push (take i edits) e old new h (subst (λ n. IsKeyPutIn e.key n old new) (sym len) put))
