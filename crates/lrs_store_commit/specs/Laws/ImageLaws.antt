-- What ties the rows of a store to the image that it holds.
use Rattle.std.specs.Prelude.{◌≡◌, pos, List, [], ◌∷◌, IsTrue, Ok}
use Rattle.std.specs.List.{list_all}
use Rattle.std.specs.Str.{is_utf8}
use Rattle.lrs_measure.specs.Texts.{Name}
use Rattle.lrs_element.specs.declared.link.Piece.{Piece}
use Rattle.lrs_position.specs.Names.{is_route_name, is_referent_name}
use Rattle.lrs_events.specs.Names.{is_class_name, is_value}
use Rattle.lrs_machine.specs.declared.image.Image.{Image}
use Rattle.lrs_machine.specs.Keys.{is_key}
use Rattle.lrs_machine.specs.Sound.{IsSound}
use Rattle.lrs_store_tables.specs.Contents.Tables.{Tables}
use Rattle.lrs_store_tables.specs.Contents.Content.{content_of}
use Rattle.lrs_store_tables.specs.Contents.EncodedImages.{encoded, ArePiecesOfAll, Encodes}

-- Each text of an image is of its kind. The types of an image say so of all their values, and soundness does not say it again.
pub record HasTexts (i : Image) : Type 0 where
  pub classes : IsTrue (list_all (λ c. is_class_name c.name) i.classes)
  pub values : IsTrue (list_all (λ a. is_value a.value) i.assets)
  pub routes : IsTrue (list_all (λ e. is_route_name e.route.name) i.routes)
  pub referents : IsTrue (list_all (λ e. list_all (λ r. is_referent_name r.name) e.route.refs) i.routes)
  pub keys : IsTrue (list_all (λ e. is_key e.key) i.edits)
  pub lines : IsTrue (list_all (λ e. is_utf8 e.line) i.edits)

-- A store with the rows that a sound image is written as holds this image.
abbrev pub EncodedHolds : Type 0
EncodedHolds = (pieces : Name → List Piece) (i : Image) → HasTexts i → IsSound i → ArePiecesOfAll pieces i.routes → content_of (encoded pieces i) ≡ Ok i

-- A store of version 2 has the rows that the image it holds is written as.
abbrev pub ContentIsEncoded : Type 0
ContentIsEncoded = (t : Tables) (i : Image) → t.version ≡ pos 2 ∷ [] → content_of t ≡ Ok i → Encodes i t

-- Each text of an image that a store holds is of its kind.
abbrev pub ContentHasTexts : Type 0
ContentHasTexts = (t : Tables) (i : Image) → content_of t ≡ Ok i → HasTexts i
