-- What the last call of a function answers, the function answers: so it makes, on what was made before, what this call makes.
use Rattle.std.proofs.Common.{List, Option, Result, Ok, Err, OnOk, arith, ◌≡◌, ◌∙◌}
use Rattle.lrs_element.specs.declared.link.Ground.{Ground}
use Rattle.lrs_element.specs.declared.link.Piece.{Piece}
use Rattle.std.specs.Prelude.{IsErrAnd}
use Rattle.sqlite_trees.specs.declared.store.Store.{Ghosts}
use Rattle.sqlite.specs.declared.error.Error.{Error}
use Rattle.sqlite.specs.declared.transaction.Transaction.{Transaction}
use Rattle.sqlite.specs.State.{State}
use Rattle.lrs_store_tables.specs.Contents.Tables.{Tables}
use Rattle.lrs_store_tables.specs.StoredRows.{Makes, Changes}
use Rattle.lrs_store_tables.specs.Writes.{ArePieces, MakesOf}
use Rattle.lrs_store_tables.proofs.Steady.{IsSteady}
use Rattle.lrs_store_commit.proofs.Leaves.{leaves_then}
use Rattle.lrs_store_commit.proofs.Then.{makes_on}

pub makes_last : {A E : Type 0} (answer : Result A E) (f g : Tables → Tables) (a b c : State) → IsSteady g → Makes f a b → OnOk answer (Makes g b c) → OnOk answer (Makes (λ t. g (f t)) a c)
makes_last (Ok x) f g a b c steady first second = makes_on f g a b c steady first second
makes_last (Err e) f g a b c steady first second = tt

-- the same of the pieces of a course
pub makes_of_last : {A E : Type 0} (answer : Result A E) (course : Option (List Ground)) (made : Option (List Piece) → Tables → Tables) (pieces : Option (List Piece)) (a b : State) → ArePieces course pieces → OnOk answer (Makes (made pieces) a b) → OnOk answer (MakesOf course made a b)
makes_of_last (Ok x) course made pieces a b are makes = record { pieces = pieces; are = are; makes = makes }
makes_of_last (Err e) course made pieces a b are makes = tt

pub on_last : {A E : Type 0} (answer : Result A E) (P Q : Type 0) → (P → Q) → OnOk answer P → OnOk answer Q
on_last (Ok x) P Q step p = step p
on_last (Err e) P Q step p = tt

not_ok : {A : Type 0} (P : Error → Type 0) (Q : Type 0) (r : Result A Error) → IsErrAnd r P → OnOk r Q
not_ok P Q (Ok x) h = absurd h
not_ok P Q (Err e) h = tt

-- ---- the contracts of two calls, one after the other

module _ {S A B : Type 0} {g : Ghosts S} {a b c : Transaction S} {x : A} where
  pub then_makes : (f h : Tables → Tables) {r : Result B Error} → IsSteady h → Changes g (Makes f) a b (Ok x) → Changes g (Makes h) b c r → Changes g (Makes (λ t. h (f t))) a c r
  then_makes f h {r} steady first second = record {
    same_reference = second.same_reference ∙ first.same_reference;
    does = λ clean writing.
        let one = first.does (omega (arith, clean, second.survives.clean)) writing in
        makes_last r f h _ _ _ steady one (second.does clean one.writing);
    survives = leaves_then first.survives second.survives;
  }

  -- the first makes the rows of pieces of a course
  pub then_makes_of : (course : Option (List Ground)) (made : Option (List Piece) → Tables → Tables) (h : Tables → Tables) {r : Result B Error} → IsSteady h
      → Changes g (MakesOf course made) a b (Ok x) → Changes g (Makes h) b c r → Changes g (MakesOf course (λ pieces t. h (made pieces t))) a c r
  then_makes_of course made h {r} steady first second = record {
    same_reference = second.same_reference ∙ first.same_reference;
    does = λ clean writing.
        let one = first.does (omega (arith, clean, second.survives.clean)) writing in
        makes_of_last r course (λ pieces t. h (made pieces t)) one.pieces _ _ one.are
        (makes_last r (made one.pieces) h _ _ _ steady one.makes (second.does clean one.makes.writing));
    survives = leaves_then first.survives second.survives;
  }

  -- the second fails
  pub fails_behind : {P Q : State → State → Type 0} {e : Error} → Changes g P a b (Ok x) → Changes {A = B} g Q b c (Err e) → Changes {A = B} g Q a c (Err e)
  fails_behind first second = record {
    same_reference = second.same_reference ∙ first.same_reference;
    does = λ clean writing. tt;
    survives = leaves_then first.survives second.survives;
  }

-- an error that is handed on
pub handed_on : {S A B : Type 0} {g : Ghosts S} {P Q : State → State → Type 0} {a b : Transaction S} {e : Error} (r : Result B Error) → IsErrAnd r (λ y. y ≡ e) → Changes {A = A} g P a b (Err e) → Changes g Q a b r
handed_on r is first = record { same_reference = first.same_reference; does = λ clean writing. not_ok _ _ r is; survives = first.survives }

-- these pieces are those of the course
pub makes_of : {S A : Type 0} {g : Ghosts S} {a b : Transaction S} {r : Result A Error} (course : Option (List Ground)) (made : Option (List Piece) → Tables → Tables) (pieces : Option (List Piece)) → ArePieces course pieces
    → Changes g (Makes (made pieces)) a b r → Changes g (MakesOf course made) a b r
makes_of {r} course made pieces are changes = record {
  same_reference = changes.same_reference;
  does = λ clean writing. makes_of_last r course made pieces _ _ are (changes.does clean writing);
  survives = changes.survives;
}
