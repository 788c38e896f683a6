-- The texts of a change.
use Rattle.std.specs.Prelude.{List, IsTrue, IfSome}
use Rattle.std.specs.List.{list_all, AllByRecursion}
use Rattle.std.specs.Str.{IsUtf8}
use Rattle.lrs_position.specs.declared.route.Referent.{Referent}
use Rattle.lrs_position.specs.Names.{is_route_name, is_referent_name}
use Rattle.lrs_events.specs.Names.{is_class_name, is_value}
use Rattle.lrs_machine.specs.declared.image.RouteRow.{RouteRow}
use Rattle.lrs_machine.specs.Keys.{is_key}
use Rattle.lrs_image.specs.declared.change.RouteChange.{RouteChange}
use Rattle.lrs_image.specs.declared.change.Change.{Change}

-- each referent has a name that a referent can have
abbrev pub AreNames : List Referent → Type 0
AreNames refs = IsTrue (list_all (λ r. is_referent_name r.name) refs)

-- so does each on a new route, and the route has a name that a route can have
abbrev pub MakesTexts : RouteRow → Type 0
MakesTexts e = IsTrue (is_route_name e.route.name) × AreNames e.route.refs

-- the same of a route that stays: its new name, and the inserted referents
abbrev pub ChangesTexts : RouteChange → Type 0
ChangesTexts c = IsTrue (is_route_name c.name) × AreNames c.refs.come

-- Each text of the change is of its kind.
pub record HasTexts (c : Change) : Type 0 where
  pub class : IfSome c.difference.class (λ x. IsTrue (is_class_name x.name))
  pub value : IfSome c.difference.asset (λ a. IsTrue (is_value a.value))
  pub changed : IfSome c.difference.changed ChangesTexts
  pub made : IfSome c.difference.made MakesTexts
  pub key : IsTrue (is_key c.edit.key)
  pub line : IsUtf8 c.edit.line

-- so is each of one of the changes
abbrev pub HaveTexts : List Change → Type 0
HaveTexts changes = AllByRecursion HasTexts changes
