use Rattle.sqlite.specs.State.{ExecutesInside}
use Rattle.sqlite.specs.Held.{state}
use Rattle.std.proofs.Common.{rules, pos, [], ◌∷◌, ℕ, Err, subst}
use Rattle.sqlite_value.specs.declared.value.Value.TheVariants.{Int}
use Rattle.lrs_store_tables.specs.Schema.{insert_version}
use Rattle.lrs_store_tables.proofs.Inserted.{version_added}
use Rattle.lrs_store_tables.proofs.InsertFails.{version_fails}
use Rattle.lrs_store_tables.proofs.insert.put_version.Goals as goal

pub returns-clause-changes : goal.returns-clause-changes
returns-clause-changes g c = record {
  same_reference = c.execute.ensures.same_reference;
  does = λ clean writing.
      version_added (pos c.args.version) (state g.S.Store c.args.tx.now.conn.now) (state g.S.Store c.execute.new.self.conn.now) c.in_ok-execute.field-0 writing
      (rw (c.in_ok-version.ensures) at (c.in_ok-execute.ensures.runs clean writing.begun));
  survives = c.execute.ensures.survives;
}

pub returns-clause-is_open : goal.returns-clause-is_open
returns-clause-is_open g c clean writing = (c.in_ok-execute.ensures.runs clean writing.begun).1.was_open

pub returns-in_err-execute-clause-cause : goal.returns-in_err-execute-clause-cause
returns-in_err-execute-clause-cause g c is empty writing clean =
    let old = state g.S.Store c.args.tx.now.conn.now in
    let new = state g.S.Store c.execute.new.self.conn.now in
    let e = c.in_err-execute.field-0.0 in
    let ran : ExecutesInside 0 insert_version (Int (pos c.args.version) ∷ []) old new (Err e) = rw (c.in_ok-version.ensures) at (c.in_err-execute.ensures.runs clean writing.begun) in
    let h = version_fails old new e writing.schema empty (subst (λ (n : ℕ). ExecutesInside 0 insert_version (Int (pos n) ∷ []) old new (Err e)) is ran) in
    search rules
