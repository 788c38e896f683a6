-- A store that is read, and then once more.
use Rattle.std.proofs.Common.{◌≡◌, ℕ, IsTrue, IfOk, IfErr, IsErrAnd, Result, Ok, Err, sym, ap, subst, ◌∙◌, arith}
use Rattle.sqlite_trees.specs.Tree.{Trees}
use Rattle.sqlite_trees.specs.View.{View, IsClean}
use Rattle.sqlite_trees.specs.declared.error.StoreError.{StoreError}
use Rattle.lrs_store_files.specs.SeenRows.{HasSeen, HasStopped, StopsFor, WasLookedAt}

-- what was read is told of Ok alone, and why it was not of Err alone

pub none_seen : {A : Type 0} (P : A → Type 0) (Q : StoreError → Type 0) (r : Result A StoreError) → IsErrAnd r Q → IfOk r P
none_seen P Q (Ok x) h = absurd h
none_seen P Q (Err e) h = tt

pub stop_told : {S A : Type 0} {view : S → View} {faults : S → ℕ} {recovers : S → Trees → Type 0} {old new : S} {e : StoreError} (r : Result A StoreError) → IsErrAnd r (λ y. y ≡ e) → HasStopped view faults recovers old new e
    → IfErr r (HasStopped view faults recovers old new)
stop_told (Ok x) h stopped = absurd h
stop_told {view = view} {faults = faults} {recovers = recovers} {old = old} {new = new} (Err y) h stopped = subst (HasStopped view faults recovers old new) (sym h) stopped

-- a look, and then another
pub looked_then : {S : Type 0} {view : S → View} {recovers : S → Trees → Type 0} {old mid new : S} → WasLookedAt view recovers old mid → WasLookedAt view recovers mid new → WasLookedAt view recovers old new
looked_then first second = record { clean = omega (arith, first.clean, second.clean); outcomes = λ db h. first.outcomes db (second.outcomes db h) }

-- trees of which this holds were seen, so this holds of them too
pub seen_so : {S : Type 0} {view : S → View} {recovers : S → Trees → Type 0} {old new : S} (P Q : Trees → Type 0) → ((db : Trees) → P db → Q db) → HasSeen view recovers P old new → HasSeen view recovers Q old new
seen_so {view = view} {old = old} P Q so seen = record { clean = seen.clean; outcomes = seen.outcomes; same = seen.same; sound = seen.sound; seen = λ clean. so (view old).trees (seen.seen clean) }

-- what is seen one after the other is seen of the same trees
pub seen_both : {S : Type 0} {view : S → View} {recovers : S → Trees → Type 0} {old mid new : S} (P Q : Trees → Type 0) → HasSeen view recovers P old mid → HasSeen view recovers Q mid new → HasSeen view recovers (λ db. P db × Q db) old new
seen_both {view = view} {old = old} {mid = mid} {new = new} P Q first second = record {
  clean = omega (arith, first.clean, second.clean);
  outcomes = λ db h. first.outcomes db (second.outcomes db h);
  same = λ clean. second.same clean ∙ ap (λ (v : View). record v { cursors = (view new).cursors }) (first.same (early clean));
  sound = λ clean. first.sound (early clean);
  seen = λ clean. (first.seen (early clean), subst Q (ap (λ (v : View). v.trees) (first.same (early clean))) (second.seen clean));
}
  where
    early : IsClean (view new) → IsClean (view mid)
    early clean = omega (arith, clean, second.clean)

-- a store that was read, and then was not, was not read
pub stopped_then : {S : Type 0} {view : S → View} {faults : S → ℕ} {recovers : S → Trees → Type 0} {old mid new : S} {P : Trees → Type 0} {e : StoreError} → HasSeen view recovers P old mid → HasStopped view faults recovers mid new e
    → HasStopped view faults recovers old new e
stopped_then {view = view} {old = old} {mid = mid} {new = new} {e = e} first second = record {
  clean = omega (arith, first.clean, second.clean);
  outcomes = λ db h. first.outcomes db (second.outcomes db h);
  was_open = λ clean opened. subst (λ (v : View). IsTrue v.is_open) (first.same (early clean)) (second.was_open clean opened);
  cause = λ clean none. subst (λ (v : View). StopsFor v e) (first.same (early clean)) (second.cause clean none);
}
  where
    early : IsClean (view new) → IsClean (view mid)
    early clean = omega (arith, clean, second.clean)
