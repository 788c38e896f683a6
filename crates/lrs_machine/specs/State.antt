-- The ground state: what is known of the ground, one entry for each millimetre and place, however it is kept.
use Rattle.std.specs.Prelude.{ℕ, Bool, true, false, List, [], Option, None}
use Rattle.std.specs.Ordering.{nat_cmp}
use Rattle.lrs_measure.specs.Texts.{Name, name_cmp}
use Rattle.lrs_element.specs.Course.{Millimetre}
use Rattle.lrs_position.specs.Locations.{Alignment}
use Rattle.lrs_events.specs.declared.class.Kind.{Kind}
use Rattle.lrs_events.specs.Places.{Place}
use Rattle.lrs_machine.specs.Register.{Register, empty}

-- what is known of an asset beside the places that it holds
pub record Asset : Type 0 where
  pub class : Name
  pub value : Name
  pub lateral : ℕ
  -- the number of the edit that entered it
  pub entered_by : ℕ

-- why an asset no longer holds a place: it was taken away there, or its ground left the route
pub data Reason : Type 0 where
  Retired : Reason
  Abandoned : Reason

abbrev pub same_reason : Reason → Reason → Bool
same_reason Retired Retired = true
same_reason Retired Abandoned = false
same_reason Abandoned Retired = false
same_reason Abandoned Abandoned = true

-- an accepted command, by its key and its canonical line
pub record Edit : Type 0 where
  pub key : Name
  pub line : List ℕ

pub record State : Type 0 where
  -- the length of each link, by number
  pub links : Register nat_cmp ℕ
  pub classes : Register name_cmp Kind
  pub assets : Register nat_cmp Asset
  -- the expanded course and the marks of each route
  pub routes : Register name_cmp Alignment
  -- the ground millimetre of each referent
  pub referents : Name → Option Millimetre
  -- whether the asset holds the place
  pub holds : ℕ → Place → Bool
  -- whether this edit entered the asset's place
  pub entered : ℕ → ℕ → Place → Bool
  -- whether this edit took the asset's place away, for this reason
  pub gone : ℕ → Reason → ℕ → Place → Bool
  -- the accepted commands, edit 1 first
  pub done : List Edit

-- of an empty inventory
abbrev pub nothing_known : State
nothing_known = record {
  links = empty;
  classes = empty;
  assets = empty;
  routes = empty;
  referents = λ name. None;
  holds = λ a p. false;
  entered = λ n a p. false;
  gone = λ n why a p. false;
  done = [];
}
