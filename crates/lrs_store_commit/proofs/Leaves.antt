-- A crash after one call and then another leaves what it would have left before both.
use Rattle.sqlite.specs.State.{State}
use Rattle.sqlite.proofs.StateLemmas.{survives_then}
use Rattle.lrs_store_tables.specs.StoredRows.{LeavesStore}

pub leaves_then : {a b c : State} → LeavesStore a b → LeavesStore b c → LeavesStore a c
leaves_then {a} {b} {c} first second = survives_then a b c _ _ (λ _. ⊥) (λ _ db none. none) (λ _ db none. none) first second
