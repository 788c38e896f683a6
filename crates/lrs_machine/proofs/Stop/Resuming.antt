-- Going on behind the last record that is an edit.
use Rattle.std.proofs.Common.{◌≡◌, ℕ, ◌+◌, ◌≤◌, ◌<◌, suc, zero, Bool, true, false, cond, ◌||◌, ◌&&◌, List, [], ◌∷◌, ◌++◌, length, take, drop, Option, Some, None, refl, sym, ap, subst, ◌∙◌, arith}
use Rattle.std.specs.Prelude.{nat_lt, not, is_some, is_none}
use Rattle.std.specs.List.{count_by, list_all, last_or}
use Rattle.std.specs.Option.{option_map_or}
use Rattle.std.proofs.lemmas.Bool.Decides.{nat_tests}
use Rattle.std.proofs.lemmas.List.Sums.{sum_by-cons}
use Rattle.std.specs.Cmp.Lexicographic.{bytes_decides}
use Rattle.lrs_measure.specs.Lists.{each_two}
use Rattle.lrs_measure.specs.Texts.{Name, same_name}
use Rattle.lrs_machine.specs.declared.answer.Limits.{Limits}
use Rattle.lrs_machine.specs.Lines.{line_of}
use Rattle.lrs_machine.specs.State.{State, Edit}
use Rattle.lrs_machine.specs.Machine.{Outcome, Record, step_record, answers, state_after, place_of_key, accept}
use Rattle.lrs_machine.specs.Stop.KnownEdits.{is_edit}
use Rattle.lrs_machine.specs.Stop.Resumptions.{decided, HasKeyAlone, IsResumed, GoingOnIsUnstopped, HaveNewKeys, NewKeysGoOn}
use Rattle.lrs_machine.proofs.Stop.Edits as edits
use Rattle.lrs_machine.proofs.Stop.Edits.{Outcomes, outcomes}

-- ---- tests

both_false : (a b : Bool) → (a || b) ≡ false → (a ≡ false) × (b ≡ false)
both_false true b e = absurd (cc e)
both_false false b e = (refl, e)

true_and_false : (b : Bool) → b ≡ true → b ≡ false → ⊥
true_and_false b t f = absurd (let e : true ≡ false = sym t ∙ f in cc e)

not_true : (b : Bool) → not b ≡ true → b ≡ false
not_true true e = absurd (cc e)
not_true false e = refl

nothing_there : (o : Option ℕ) → is_none o ≡ true → o ≡ None
nothing_there None e = refl
nothing_there (Some n) e = absurd (cc e)

-- two names that differ do so from either side
same_other : (a b : Name) → same_name b a ≡ false → same_name a b ≡ false
same_other a b other = by (same_name a b) refl
  where
    by : (t : Bool) → same_name a b ≡ t → same_name a b ≡ false
    by true e = absurd (true_and_false (same_name b a) ((bytes_decides b a).1 (sym ((bytes_decides a b).0 e))) other)
    by false e = e

-- ---- those that are decided

-- whether a record counts, where some behind it does, or it is an edit itself
abbrev counts : Record → List Record → State → Bool
counts r rs s = nat_lt 0 (decided rs s) || is_edit s r

one_more : (r : Record) (rs : List Record) (s : State) → counts r rs s ≡ true → decided (r ∷ rs) s ≡ suc (decided rs s)
one_more r rs s e = ap (λ b. cond b (suc (decided rs s)) 0) e

no_more : (r : Record) (rs : List Record) (s : State) → counts r rs s ≡ false → decided (r ∷ rs) s ≡ 0
no_more r rs s e = ap (λ b. cond b (suc (decided rs s)) 0) e

-- where no record counts, the first one is no edit, nor one behind it
record AreNone (r : Record) (rs : List Record) (s : State) : Type 0 where
  pub behind : decided rs s ≡ 0
  pub first : is_edit s r ≡ false

are_none : (r : Record) (rs : List Record) (s : State) → decided (r ∷ rs) s ≡ 0 → AreNone r rs s
are_none r rs s e = by (counts r rs s) refl
  where
    by : (b : Bool) → counts r rs s ≡ b → AreNone r rs s
    by true t = absurd (let more : suc (decided rs s) ≡ 0 = sym (one_more r rs s t) ∙ e in omega (arith, more))
    by false f =
        let both = both_false (nat_lt 0 (decided rs s)) (is_edit s r) f in
        let l = both.0 in
        record { behind = grind (arith, nat_tests); first = both.1 }

-- ---- keys that are counted

abbrev has_key : Name → Record → Bool
has_key key r = same_name r.key key

count_first : (key : Name) (r : Record) (rs : List Record) → count_by (has_key key) (r ∷ rs) ≡ cond (same_name r.key key) 1 0 + count_by (has_key key) rs
count_first key r rs = sum_by-cons (λ (q : Record). cond (same_name q.key key) 1 0) r rs

module _ (limits : Limits) where
  abbrev next : Record → State → State
  next r s = (step_record limits r s).state

  -- what is no edit changed nothing
  changed_nothing : (r : Record) (s : State) → is_edit (next r s) r ≡ false → next r s ≡ s
  changed_nothing r s = by (step_record limits r s) (outcomes limits r.key r.command s)
    where
      by : (o : Outcome) → Outcomes r.key r.command s o → is_edit o.state r ≡ false → o.state ≡ s
      by _ (edits.done t none same) e =
          let found = edits.found_as r (length s.done + 1) (accept r.key r.command t) (edits.edit_now r s t none same) in
          absurd (true_and_false (is_edit (accept r.key r.command t) r) (ap (λ (o : Option ℕ). is_some o) found) e)
      by _ (edits.known place at) e = refl
      by _ (edits.refused c) e = refl

  -- where none is an edit, nothing changed
  none_changed : (records : List Record) (k : ℕ) (t s : State) → s ≡ state_after limits (take k records) t → decided records s ≡ 0 → s ≡ t
  none_changed [] zero t s e none = e
  none_changed [] (suc k) t s e none = e
  none_changed (r ∷ rs) zero t s e none = e
  none_changed (r ∷ rs) (suc k) t s e none =
      let both = are_none r rs s none in
      let behind = none_changed rs k (next r t) s e both.behind in
      behind ∙ changed_nothing r t (subst (λ (u : State). is_edit u r ≡ false) behind both.first)

  -- so the state is the one after those that are decided, where none of them stands behind the first k
  found_after : (records : List Record) (k : ℕ) (t s : State) → s ≡ state_after limits (take k records) t → decided records s ≤ k → s ≡ state_after limits (take (decided records s) records) t
  found_after [] zero t s e few = e
  found_after [] (suc k) t s e few = e
  found_after (r ∷ rs) zero t s e few =
      let none : decided (r ∷ rs) s ≡ 0 = omega (arith, few) in
      e ∙ ap (λ n. state_after limits (take n (r ∷ rs)) t) (sym none)
  found_after (r ∷ rs) (suc k) t s e few = by (counts r rs s) refl (λ fewer. found_after rs k (next r t) s e fewer)
    where
      by : (b : Bool) → counts r rs s ≡ b → (decided rs s ≤ k → s ≡ state_after limits (take (decided rs s) rs) (next r t)) → s ≡ state_after limits (take (decided (r ∷ rs) s) (r ∷ rs)) t
      by true h rest =
          let more = one_more r rs s h in
          rest (omega (arith, few, more)) ∙ ap (λ n. state_after limits (take n (r ∷ rs)) t) (sym more)
      by false h rest =
          let none = no_more r rs s h in
          none_changed (r ∷ rs) (suc k) t s e none ∙ ap (λ n. state_after limits (take n (r ∷ rs)) t) (sym none)

  -- ---- first ones, and those behind them

  none_of_none : (n : ℕ) (t : State) → state_after limits (take n []) t ≡ t
  none_of_none zero t = refl
  none_of_none (suc n) t = refl

  state_of_both : (n : ℕ) (records : List Record) (t : State) → state_after limits (drop n records) (state_after limits (take n records) t) ≡ state_after limits records t
  state_of_both zero [] t = refl
  state_of_both zero (r ∷ rs) t = refl
  state_of_both (suc n) [] t = refl
  state_of_both (suc n) (r ∷ rs) t = state_of_both n rs (next r t)

  state_of_more : (n m : ℕ) (records : List Record) (t : State) → state_after limits (take m (drop n records)) (state_after limits (take n records) t) ≡ state_after limits (take (n + m) records) t
  state_of_more zero m [] t = ap (λ k. state_after limits (take k []) t) (omega arith)
  state_of_more zero m (r ∷ rs) t = ap (λ k. state_after limits (take k (r ∷ rs)) t) (omega arith)
  state_of_more (suc n) m [] t = none_of_none m t ∙ sym (none_of_none (suc n + m) t)
  state_of_more (suc n) m (r ∷ rs) t = state_of_more n m rs (next r t) ∙ ap (λ k. state_after limits (take k (r ∷ rs)) t) (let one : suc (n + m) ≡ suc n + m = omega arith in one)

  said_behind : (n : ℕ) (records : List Record) (t : State) → answers limits (drop n records) (state_after limits (take n records) t) ≡ drop n (answers limits records t)
  said_behind zero [] t = refl
  said_behind zero (r ∷ rs) t = refl
  said_behind (suc n) [] t = refl
  said_behind (suc n) (r ∷ rs) t = said_behind n rs (next r t)

  resumed : (records : List Record) (k : ℕ) (t s : State) → s ≡ state_after limits (take k records) t → decided records s ≤ k → IsResumed limits t s records
  resumed records k t s e few =
      let n = decided records s in
      let found = found_after records k t s e few in
      record {
        found = found;
        state = ap (state_after limits (drop n records)) found ∙ state_of_both n records t;
        said = ap (answers limits (drop n records)) found ∙ said_behind n records t;
        again = λ m. ap (state_after limits (take m (drop n records))) found ∙ state_of_more n m records t;
      }

  -- ---- keys

  -- a key that no record has is of no new edit
  still_new : (key : Name) (r : Record) (s : State) → same_name r.key key ≡ false → place_of_key key s.done ≡ None → place_of_key key (next r s).done ≡ None
  still_new key r s other none = by (step_record limits r s) (outcomes limits r.key r.command s)
    where
      by : (o : Outcome) → Outcomes r.key r.command s o → place_of_key key o.state.done ≡ None
      by _ (edits.done t no_edit same) =
          ap (λ (d : List Edit). place_of_key key (d ++ record { key = r.key; line = line_of r.command } ∷ [])) same
          ∙ edits.none_still (λ (e : Edit). same_name e.key key) s.done (record { key = r.key; line = line_of r.command }) none other
      by _ (edits.known place at) = none
      by _ (edits.refused c) = none

  -- where none has the key, the first one has another, and none behind it has it
  record AreOthers (key : Name) (r : Record) (rs : List Record) : Type 0 where
    pub other : same_name r.key key ≡ false
    pub behind : count_by (has_key key) rs ≡ 0

  is_other : (key : Name) (r : Record) (rs : List Record) → count_by (has_key key) (r ∷ rs) ≡ 0 → AreOthers key r rs
  is_other key r rs no_key = by (same_name r.key key) refl (sym no_key ∙ count_first key r rs)
    where
      by : (b : Bool) → same_name r.key key ≡ b → 0 ≡ cond (same_name r.key key) 1 0 + count_by (has_key key) rs → AreOthers key r rs
      by true t count = absurd (let one : 0 ≡ 1 + count_by (has_key key) rs = count ∙ ap (λ b. cond b 1 0 + count_by (has_key key) rs) t in omega (arith, one))
      by false f count =
          let rest : 0 ≡ 0 + count_by (has_key key) rs = count ∙ ap (λ b. cond b 1 0 + count_by (has_key key) rs) f in
          record { other = f; behind = omega (arith, rest) }

  new_after : (key : Name) (records : List Record) (s : State) → count_by (has_key key) records ≡ 0 → place_of_key key s.done ≡ None → place_of_key key (state_after limits records s).done ≡ None
  new_after key [] s no_key none = none
  new_after key (r ∷ rs) s no_key none = let first = is_other key r rs no_key in new_after key rs (next r s) first.behind (still_new key r s first.other none)

  count_split : (key : Name) (n : ℕ) (records : List Record) → count_by (has_key key) records ≡ count_by (has_key key) (take n records) + count_by (has_key key) (drop n records)
  count_split key zero [] = refl
  count_split key zero (r ∷ rs) = omega arith
  count_split key (suc n) [] = refl
  count_split key (suc n) (r ∷ rs) =
      let all = count_first key r rs in
      let front = count_first key r (take n rs) in
      let rest = count_split key n rs in
      omega (arith, all, front, rest)

  -- a record behind the first k is the last edit
  record IsBehind (k : ℕ) (records : List Record) (s : State) : Type 0 where
    pub last : Record
    pub is_last : (o : Option Record) → last_or o (take (decided records s) records) ≡ Some last
    pub edit : is_edit s last ≡ true
    pub behind : 1 ≤ count_by (has_key last.key) (drop k records)

  its_own : (r : Record) (rs : List Record) → 1 ≤ count_by (has_key r.key) (r ∷ rs)
  its_own r rs =
      let count = count_first r.key r rs ∙ ap (λ b. cond b 1 0 + count_by (has_key r.key) rs) ((bytes_decides r.key r.key).1 refl) in
      omega (arith, count)

  last_behind : (records : List Record) (k : ℕ) (s : State) → k < decided records s → IsBehind k records s
  last_behind [] k s more = absurd (omega (arith, more))
  last_behind (r ∷ rs) (suc k) s more = by (counts r rs s) refl (λ m. last_behind rs k s m)
    where
      by : (b : Bool) → counts r rs s ≡ b → (k < decided rs s → IsBehind k rs s) → IsBehind (suc k) (r ∷ rs) s
      by true t behind_rest =
          let n = one_more r rs s t in
          let rest = behind_rest (omega (arith, more, n)) in
          record {
            last = rest.last;
            is_last = λ o. ap (λ n. last_or o (take n (r ∷ rs))) n ∙ rest.is_last (Some r);
            edit = rest.edit;
            behind = rest.behind;
          }
      by false f behind_rest = absurd (let n = no_more r rs s f in omega (arith, more, n))
  last_behind (r ∷ rs) zero s more = by (nat_lt 0 (decided rs s)) (is_edit s r) refl refl (λ m. last_behind rs zero s m)
    where
      by : (a b : Bool) → nat_lt 0 (decided rs s) ≡ a → is_edit s r ≡ b → (0 < decided rs s → IsBehind zero rs s) → IsBehind zero (r ∷ rs) s
      by true b t e behind_rest =
          let n = one_more r rs s (ap (λ a. a || is_edit s r) t) in
          let rest = behind_rest (grind (arith, nat_tests)) in
          let count = count_first rest.last.key r rs in
          let some = rest.behind in
          record {
            last = rest.last;
            is_last = λ o. ap (λ n. last_or o (take n (r ∷ rs))) n ∙ rest.is_last (Some r);
            edit = rest.edit;
            behind = omega (arith, count, some);
          }
      by false true f e behind_rest =
          let none : decided rs s ≡ 0 = grind (arith, nat_tests) in
          let n = one_more r rs s (ap (λ a. a || is_edit s r) f ∙ e) ∙ ap suc none in
          record { last = r; is_last = λ o. ap (λ n. last_or o (take n (r ∷ rs))) n; edit = e; behind = its_own r rs }
      by false false f e behind_rest = absurd (let n = no_more r rs s (ap (λ a. a || is_edit s r) f ∙ e) in omega (arith, more, n))

  -- where its key is alone, it is among the first k
  within : (records : List Record) (k : ℕ) (t s : State) → s ≡ state_after limits (take k records) t
      → ((r : Record) → last_or None (take (decided records s) records) ≡ Some r → HasKeyAlone t records r) → decided records s ≤ k
  within records k t s e alone = by (nat_lt k (decided records s)) refl
    where
      by : (b : Bool) → nat_lt k (decided records s) ≡ b → decided records s ≤ k
      by false f = grind (arith, nat_tests)
      by true more =
          let last = last_behind records k s (grind (arith, nat_tests)) in
          let key = last.last.key in
          let is = alone last.last (last.is_last None) in
          let once = is.once in
          let some = last.behind in
          let split = count_split key k records in
          let none = subst (λ (u : State). place_of_key key u.done ≡ None) (sym e) (new_after key (take k records) t (omega (arith, once, some, split)) is.new) in
          absurd (true_and_false (is_edit s last.last) last.edit (ap (λ (o : Option ℕ). is_some o) (edits.not_found last.last s none)))

-- ---- keys that are all new

both_true : (a b : Bool) → (a && b) ≡ true → (a ≡ true) × (b ≡ true)
both_true true b e = (refl, e)
both_true false b e = absurd (cc e)

last_passes : (test : Record → Bool) (o : Option Record) (n : ℕ) (records : List Record) → option_map_or test o true ≡ true → list_all test records ≡ true
    → option_map_or test (last_or o (take n records)) true ≡ true
last_passes test o zero [] passes all = passes
last_passes test o zero (r ∷ rs) passes all = passes
last_passes test o (suc n) [] passes all = passes
last_passes test o (suc n) (r ∷ rs) passes all = let both = both_true (test r) (list_all test rs) all in last_passes test (Some r) n rs both.0 both.1

-- where no record has the key of another one, its key is not counted
none_has : (key : Name) (rs : List Record) → list_all (λ q. not (same_name key q.key)) rs ≡ true → count_by (has_key key) rs ≡ 0
none_has key [] all = refl
none_has key (r ∷ rs) all = by both.0 (none_has key rs both.1)
  where
    both : (not (same_name key r.key) ≡ true) × (list_all (λ q. not (same_name key q.key)) rs ≡ true)
    both = both_true (not (same_name key r.key)) (list_all (λ q. not (same_name key q.key)) rs) all

    by : not (same_name key r.key) ≡ true → count_by (has_key key) rs ≡ 0 → count_by (has_key key) (r ∷ rs) ≡ 0
    by other none =
        let count = count_first key r rs ∙ ap (λ b. cond b 1 0 + count_by (has_key key) rs) (same_other r.key key (not_true (same_name key r.key) other)) in
        omega (arith, count, none)

once_each : (key : Name) (records : List Record) → each_two (λ a b. not (same_name a.key b.key)) records ≡ true → count_by (has_key key) records ≤ 1
once_each key [] different = omega arith
once_each key (r ∷ rs) different = by (same_name r.key key) refl (count_first key r rs) (once_each key rs both.1)
  where
    both : (list_all (λ q. not (same_name r.key q.key)) rs ≡ true) × (each_two (λ a b. not (same_name a.key b.key)) rs ≡ true)
    both = both_true (list_all (λ q. not (same_name r.key q.key)) rs) (each_two (λ a b. not (same_name a.key b.key)) rs) different

    by : (b : Bool) → same_name r.key key ≡ b → count_by (has_key key) (r ∷ rs) ≡ cond (same_name r.key key) 1 0 + count_by (has_key key) rs → count_by (has_key key) rs ≤ 1 → count_by (has_key key) (r ∷ rs) ≤ 1
    by true t count rest =
        let all = count ∙ ap (λ b. cond b 1 0 + count_by (has_key key) rs) t in
        let none = subst (λ (k : Name). count_by (has_key k) rs ≡ 0) ((bytes_decides r.key key).0 t) (none_has r.key rs both.0) in
        omega (arith, all, none)
    by false f count rest =
        let all = count ∙ ap (λ b. cond b 1 0 + count_by (has_key key) rs) f in
        omega (arith, all, rest)

keys_alone : (start s : State) (records : List Record) → HaveNewKeys start records → (r : Record) → last_or None (take (decided records s) records) ≡ Some r → HasKeyAlone start records r
keys_alone start s records keys r last =
    let fresh : Record → Bool = λ q. is_none (place_of_key q.key start.done) in
    let passes : is_none (place_of_key r.key start.done) ≡ true = sym (ap (λ (o : Option Record). option_map_or fresh o true) last) ∙ last_passes fresh None (decided records s) records refl keys.new in
    record { new = nothing_there (place_of_key r.key start.done) passes; once = once_each r.key records keys.different }

pub going_on_is_unstopped : GoingOnIsUnstopped
going_on_is_unstopped limits start s records k e alone = resumed limits records k start s e (within limits records k start s e alone)

pub new_keys_go_on : NewKeysGoOn
new_keys_go_on limits start s records k e keys = going_on_is_unstopped limits start s records k e (keys_alone start s records keys)
