-- What a change makes of the rows of a store, and what several make of them.
use Rattle.std.specs.Prelude.{◌≡◌, ℕ, ◌+◌, ◌<◌, List, [], ◌∷◌, length, Option, Some, None, IsTrue, ⊤}
use Rattle.lrs_measure.specs.Texts.{Name}
use Rattle.lrs_element.specs.declared.link.Ground.{Ground}
use Rattle.lrs_element.specs.declared.link.Piece.{Piece}
use Rattle.lrs_element.specs.declared.marks.Mark.{Mark}
use Rattle.lrs_machine.specs.declared.image.RouteRow.{RouteRow}
use Rattle.lrs_image.specs.declared.change.ReferentChange.{ReferentChange}
use Rattle.lrs_image.specs.declared.change.RouteChange.{RouteChange}
use Rattle.lrs_image.specs.declared.change.Difference.{Difference}
use Rattle.lrs_image.specs.declared.change.Change.{Change}
use Rattle.sqlite.specs.State.{State}
use Rattle.lrs_store_tables.specs.Contents.Encoders.{ArePiecesOf}
use Rattle.lrs_store_tables.specs.Contents.Tables.{Tables}
use Rattle.lrs_store_tables.specs.Contents.Tables.{AreSame}
use Rattle.lrs_store_tables.specs.StoredRows.{stored, IsWriting, Makes}
use Rattle.lrs_store_tables.specs.RowChanges.{with_link, with_class, with_asset, with_pieces, with_marks, with_refs, with_spans, with_entered, with_gone, with_edit, without_pieces, without_marks, without_route, less_spans, less_refs, renamed_route}

-- what is made of something, if there is one
abbrev pub with_some : {X : Type 0} → (X → Tables → Tables) → Option X → Tables → Tables
with_some made None t = t
with_some made (Some x) t = made x t

-- those of a course, if there is one
abbrev pub ArePieces : Option (List Ground) → Option (List Piece) → Type 0
ArePieces None None = ⊤
ArePieces (Some course) (Some pieces) = ArePiecesOf course pieces
ArePieces _ _ = ⊥

-- other pieces and other marks of a route

abbrev pub new_pieces : Name → List Piece → Tables → Tables
new_pieces route ps t = with_pieces route 0 ps (without_pieces route t)

abbrev pub new_marks : Name → List Mark → Tables → Tables
new_marks route ms t = with_marks route 0 ms (without_marks route t)

-- its referents and spans, where some go and some come

abbrev pub changed_refs : Name → ReferentChange → Tables → Tables
changed_refs route c t = with_refs route c.come (less_refs c.gone t)

abbrev pub changed_spans : RouteChange → Tables → Tables
changed_spans c t = with_spans c.route c.spans_come (less_spans c.route c.spans_gone t)

abbrev pub changed_line : RouteChange → Option (List Piece) → Tables → Tables
changed_line c pieces t = with_some (new_marks c.route) c.marks (with_some (new_pieces c.route) pieces t)

-- A route that stays: its rows change under its old name, and then get the new one.
abbrev pub changed_route : RouteChange → Option (List Piece) → Tables → Tables
changed_route c pieces t = renamed_route c.route c.name c.keys (changed_spans c (changed_refs c.route c.refs (changed_line c pieces t)))

-- a new route
abbrev pub new_route : RouteRow → Option (List Piece) → Tables → Tables
new_route e pieces t = with_spans e.route.name e.spans (with_refs e.route.name e.route.refs (with_marks e.route.name 0 e.route.marks (with_some (with_pieces e.route.name 0) pieces t)))

-- the course that a route gets, if one stays or comes

abbrev pub changed_course : Option RouteChange → Option (List Ground)
changed_course None = None
changed_course (Some c) = c.course

abbrev pub new_course : Option RouteRow → Option (List Ground)
new_course None = None
new_course (Some e) = Some e.route.course

-- At most one route is removed, another one changes, and one is inserted, in this order: a route may get referents of the removed one.
abbrev pub with_routes : Difference → Option (List Piece) → Option (List Piece) → Tables → Tables
with_routes d changed made t = with_some (λ e. new_route e made) d.made (with_some (λ c. changed_route c changed) d.changed (with_some (λ route. without_route route d.keys) d.dropped t))

-- a new link, class or asset
abbrev pub with_named : Difference → Tables → Tables
with_named d t = with_some with_asset d.asset (with_some with_class d.class (with_some with_link d.link t))

abbrev pub with_ledgers : Difference → Tables → Tables
with_ledgers d t = with_gone d.gone (with_entered d.entered t)

-- The rows after a change, whose edit has this number: the removed ones are gone, the inserted ones are there, and no other differs.
abbrev pub written : ℕ → Change → Option (List Piece) → Option (List Piece) → Tables → Tables
written n c changed made t = with_edit n c.edit (with_ledgers c.difference (with_routes c.difference changed made (with_named c.difference t)))

-- what a call makes of a course's pieces
pub record MakesOf (course : Option (List Ground)) (made : Option (List Piece) → Tables → Tables) (old new : State) : Type 0 where
  pub pieces : Option (List Piece)
  pub are : ArePieces course pieces
  pub makes : Makes (made pieces) old new

-- The second rows are the first after the change.
pub record IsWritten (n : ℕ) (c : Change) (before after : Tables) : Type 0 where
  pub changed : Option (List Piece)
  pub changed_are : ArePieces (changed_course c.difference.changed) changed
  pub made : Option (List Piece)
  pub made_are : ArePieces (new_course c.difference.made) made
  pub rows : AreSame (written n c changed made before) after

-- a call inside a transaction writes the change
pub record Writes (n : ℕ) (c : Change) (old new : State) : Type 0 where
  pub writing : IsWriting new
  pub was_open : IsTrue old.is_open
  pub rows : IsWritten n c (stored old.now.trees) (stored new.now.trees)

-- The second rows are the first after these changes, each written of what the one before it left. The edit of the first change has this number, each next one more.
abbrev pub AreWritten : ℕ → List Change → Tables → Tables → Type 0
AreWritten n [] before after = before ≡ after
AreWritten n (c ∷ cs) before after = (middle : Tables) × IsWritten n c before middle × AreWritten (n + 1) cs middle after

-- a call inside a transaction writes these changes; that the store was open is known where there is one
pub record WritesEach (n : ℕ) (cs : List Change) (old new : State) : Type 0 where
  pub writing : IsWriting new
  pub was_open : IsTrue new.is_open → IsTrue old.is_open
  pub is_open : 0 < length cs → IsTrue old.is_open
  pub rows : AreWritten n cs (stored old.now.trees) (stored new.now.trees)
