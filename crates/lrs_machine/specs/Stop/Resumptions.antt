-- Going on with a list of records whose replies were lost.
use Rattle.std.specs.Prelude.{◌≡◌, ℕ, ◌+◌, ◌≤◌, suc, true, not, nat_lt, ◌||◌, if◌then◌else◌, List, [], ◌∷◌, take, drop, Some, None, is_none}
use Rattle.std.specs.List.{count_by, list_all, last_or}
use Rattle.lrs_measure.specs.Lists.{each_two}
use Rattle.lrs_measure.specs.Texts.{same_name}
use Rattle.lrs_machine.specs.declared.answer.Limits.{Limits}
use Rattle.lrs_machine.specs.State.{State}
use Rattle.lrs_machine.specs.Machine.{Record, place_of_key, answers, state_after}
use Rattle.lrs_machine.specs.Stop.KnownEdits.{is_edit}

-- How many records stand up to the last one that is an edit of the state, itself included; 0 where none is.
abbrev pub decided : List Record → State → ℕ
decided [] s = 0
decided (r ∷ rs) s = if nat_lt 0 (decided rs s) || is_edit s r then suc (decided rs s) else 0

-- those that stand behind it, with which one goes on
abbrev pub undecided : List Record → State → List Record
undecided records s = drop (decided records s) records

-- The key of a record is of no edit of the start, and of no other record.
pub record HasKeyAlone (start : State) (records : List Record) (r : Record) : Type 0 where
  pub new : place_of_key r.key start.done ≡ None
  pub once : count_by (λ q. same_name q.key r.key) records ≤ 1

-- Going on from a state is as if all records had been sent from the start, one after another.
pub record IsResumed (limits : Limits) (start s : State) (records : List Record) : Type 0 where
  -- the state is the one after those that are decided
  pub found : s ≡ state_after limits (take (decided records s) records) start
  pub state : state_after limits (undecided records s) s ≡ state_after limits records start
  pub said : answers limits (undecided records s) s ≡ drop (decided records s) (answers limits records start)
  -- where replies are lost again, the state is once more that after some first ones of the records
  pub again : (n : ℕ) → state_after limits (take n (undecided records s)) s ≡ state_after limits (take (decided records s + n) records) start

-- The state is that after some first ones of the records, and nobody knows how many; the last one that is an edit of it has its key alone.
abbrev pub GoingOnIsUnstopped : Type 0
GoingOnIsUnstopped = (limits : Limits) (start s : State) (records : List Record) (k : ℕ) → s ≡ state_after limits (take k records) start
    → ((r : Record) → last_or None (take (decided records s) records) ≡ Some r → HasKeyAlone start records r) → IsResumed limits start s records

-- The keys are of no edits of the start, and no two records have one key.
pub record HaveNewKeys (start : State) (records : List Record) : Type 0 where
  pub new : list_all (λ r. is_none (place_of_key r.key start.done)) records ≡ true
  pub different : each_two (λ a b. not (same_name a.key b.key)) records ≡ true

-- So one can go on with records that all have new keys.
abbrev pub NewKeysGoOn : Type 0
NewKeysGoOn = (limits : Limits) (start s : State) (records : List Record) (k : ℕ) → s ≡ state_after limits (take k records) start → HaveNewKeys start records → IsResumed limits start s records
