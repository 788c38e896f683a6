-- One change, and what may be found before and after it.
use Rattle.std.proofs.Common.{◌≡◌, ◌⊎◌, inl, inr, List, [], ◌∷◌, sym, ap, subst, ◌∙◌, Result, Ok, Err, OnOk, arith}
use Rattle.lrs_machine.specs.declared.image.Image.{Image}
use Rattle.lrs_machine.specs.declared.table.Table.{Table}
use Rattle.lrs_image.specs.declared.change.Change.{Change}
use Rattle.lrs_image.specs.Change.{apply}
use Rattle.lrs_image.specs.declared.holder.Holder.{Ghosts as Holder}
use Rattle.lrs_image.specs.declared.keeper.CommitFault.{CommitFault}
use Rattle.lrs_image.specs.declared.keeper.CommitFault.TheVariants as commit
use Rattle.lrs_image.specs.KeeperCalls.{HasLoaded, HasRisen, HoldsOnly, HoldsSame, OnlyStages}
use Rattle.lrs_image.specs.ChangeLists.{IsChangedBy, Keeps, KeepsOne}

abbrev ok : {X : Type 0} → X → Result X CommitFault
ok x = Ok x

abbrev err : (X : Type 0) → CommitFault → Result X CommitFault
err X fault = Err fault

on_ok : {X P Q : Type 0} (r : Result X CommitFault) → (P → Q) → OnOk r P → OnOk r Q
on_ok (Ok x) f h = f h
on_ok (Err fault) f h = tt

-- Changes of what is found after a change is staged are changes of what was found before.
pub through : (old mid : Result Image Table → Type 0) → HoldsSame old mid → (xs ys : List Change) → xs ≡ ys → (c : Result Image Table) → IsChangedBy mid xs c → IsChangedBy old ys c
through old mid same xs ys e c h = subst (λ (zs : List Change). IsChangedBy old zs c) e (h.0, (same (Ok h.0)).0 h.1, h.2)

pub either_through : (old mid : Result Image Table → Type 0) → HoldsSame old mid → (xs ys : List Change) → xs ≡ ys → (c : Result Image Table) → mid c ⊎ IsChangedBy mid xs c → old c ⊎ IsChangedBy old ys c
either_through old mid same xs ys e c h = elim h [ inl before ↦ inl ((same c).0 before) | inr after ↦ inr (through old mid same xs ys e c after) ]

-- ---- where one image alone may be found

abbrev next : Change → Result Image Table → Result Image Table
next change (Ok i) = Ok (apply change i)
next change (Err t) = Err t

pub only_next : (old : Result Image Table → Type 0) (i : Image) → HoldsOnly old i → (change : Change) (c : Result Image Table) → IsChangedBy old (change ∷ []) c → c ≡ Ok (apply change i)
only_next old i only change c h = h.2 ∙ ap (next change) (only (Ok h.0) h.1)

pub old_or_next : (old : Result Image Table → Type 0) (i : Image) → HoldsOnly old i → (change : Change) (c : Result Image Table) → old c ⊎ IsChangedBy old (change ∷ []) c → (c ≡ Ok i) ⊎ (c ≡ Ok (apply change i))
old_or_next old i only change c h = elim h [ inl before ↦ inl (only c before) | inr after ↦ inr (only_next old i only change c after) ]

-- Where nothing is done, since memory runs out first, nothing is kept.
pub keeps_none : {K X F : Type 0} (h : Holder K) (memory store : F) → (memory ≡ store → ⊥) → (change : Change) (image : Image) (k : K) → HasLoaded h k image → KeepsOne {X = X} h memory store change image k k (Err memory)
keeps_none h memory store differ change image k has = record {
  ok = tt;
  none = λ e c m. m;
  either = λ e. absurd (differ (cc e));
  cause = λ e. absurd (differ (cc e));
  counts = omega arith;
  loaded = has.loaded;
  reached = λ other. has.reached;
}

-- A commit of what was staged since is a commit of it from before.
pub keeps_through : {K X : Type 0} (h : Holder K) (old mid new : K) (xs ys : List Change) (r : Result X CommitFault) → OnlyStages h old mid → xs ≡ ys → Keeps h xs mid new r → Keeps h ys old new r
keeps_through h old mid new xs ys r staged e keeps = record {
  ok = on_ok r (λ all c found. through (h.may_hold old) (h.may_hold mid) staged.content xs ys e c (all c found)) keeps.ok;
  memory = λ is c found. (staged.content c).0 (keeps.memory is c found);
  store = λ is c found. either_through (h.may_hold old) (h.may_hold mid) staged.content xs ys e c (keeps.store is c found);
  counts = omega (arith, keeps.counts, staged.quiet);
  found = keeps.found;
  loaded = keeps.loaded;
  reached = keeps.reached;
}

-- A commit of one change, where one image alone could be found, whatever else is answered.
module _ {K X Y : Type 0} (h : Holder K) (change : Change) (i : Image) (old new : K) (only : HoldsOnly (h.may_hold old) i) where
  pub kept_one : (x : X) (y : Y) → Keeps h (change ∷ []) old new (ok x) → KeepsOne h commit.Memory commit.Store change i old new (ok y)
  kept_one x y keeps = record {
    ok = λ c found. only_next (h.may_hold old) i only change c (keeps.ok c found);
    none = λ e. absurd (cc e);
    either = λ e. absurd (cc e);
    cause = λ e. absurd (cc e);
    counts = keeps.counts;
    loaded = keeps.loaded;
    reached = λ other. keeps.reached (λ e. absurd (cc e));
  }

  pub failed_one : (fault : CommitFault) → Keeps h (change ∷ []) old new (err X fault) → (fault ≡ commit.Store → HasRisen (h.failures old) (h.failures new)) → KeepsOne h commit.Memory commit.Store change i old new (err Y fault)
  failed_one fault keeps cause = record {
    ok = tt;
    none = λ e. keeps.memory (ap Err (cc e));
    either = λ e c found. old_or_next (h.may_hold old) i only change c (keeps.store (ap Err (cc e)) c found);
    cause = λ e. cause (cc e);
    counts = keeps.counts;
    loaded = keeps.loaded;
    reached = λ other. keeps.reached (λ e. other (ap Err (cc e)));
  }

-- The same, where something else is answered or the faults have other names.
module _ {K X Y F G : Type 0} (h : Holder K) (memory store : F) (named_memory named_store : G) (change : Change) (i : Image) (old new : K) where
  pub kept_as : (x : X) (y : Y) → KeepsOne h memory store change i old new (Ok x) → KeepsOne h named_memory named_store change i old new (Ok y)
  kept_as x y keeps = record {
    ok = keeps.ok;
    none = λ e. absurd (cc e);
    either = λ e. absurd (cc e);
    cause = λ e. absurd (cc e);
    counts = keeps.counts;
    loaded = keeps.loaded;
    reached = λ other. keeps.reached (λ e. absurd (cc e));
  }

  pub failed_as : (fault : F) (named : G) → (named ≡ named_memory → fault ≡ memory) → (named ≡ named_store → fault ≡ store) → (fault ≡ store → named ≡ named_store)
      → KeepsOne {X = X} h memory store change i old new (Err fault) → KeepsOne {X = Y} h named_memory named_store change i old new (Err named)
  failed_as fault named is_memory is_store was_store keeps = record {
    ok = tt;
    none = λ e. keeps.none (ap Err (is_memory (cc e)));
    either = λ e. keeps.either (ap Err (is_store (cc e)));
    cause = λ e. keeps.cause (ap Err (is_store (cc e)));
    counts = keeps.counts;
    loaded = keeps.loaded;
    reached = λ other. keeps.reached (λ e. other (ap Err (was_store (cc e))));
  }
