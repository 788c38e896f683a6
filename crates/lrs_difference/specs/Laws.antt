-- Laws of the difference of two inventories.
use Rattle.std.specs.Prelude.{◌≡◌, ◌↔◌, ℕ, Bool, true, false, ◌||◌, ◌&&◌, not, nat_eq, nat_le, nat_lt, List, [], ◌++◌, map}
use Rattle.std.specs.List.{filter, list_any}
use Rattle.lrs_measure.specs.Lists.{each_two}
use Rattle.lrs_measure.specs.Texts.{Name}
use Rattle.lrs_events.specs.Members.{has_side}
use Rattle.lrs_events.specs.Places.{Place}
use Rattle.lrs_machine.specs.declared.answer.Limits.{Limits}
use Rattle.lrs_machine.specs.declared.command.Command.{Command}
use Rattle.lrs_machine.specs.declared.image.Image.{Image}
use Rattle.lrs_machine.specs.Image.{state_of}
use Rattle.lrs_machine.specs.Laws.{is_route_edit}
use Rattle.lrs_machine.specs.Machine.{step}
use Rattle.lrs_machine.specs.Register.{entries}
use Rattle.lrs_machine.specs.Sound.{IsSound}
use Rattle.lrs_difference.specs.declared.line.Item.{Item}
use Rattle.lrs_difference.specs.declared.line.Item.TheVariants.{Link, Class, Route, Referent, Asset, Holds}
use Rattle.lrs_difference.specs.declared.line.Line.{Line}
use Rattle.lrs_difference.specs.declared.line.Sign.{Sign}
use Rattle.lrs_difference.specs.declared.line.Sign.TheVariants.{Removed, Added}
use Rattle.lrs_difference.specs.Difference.{class_item, difference, facts_in, in_order, lacking, link_item, referent_item, referents_in, route_item, stretches}
use Rattle.lrs_difference.specs.Items.{item_before, same_asset, same_class, same_link, same_referent, same_route}

-- No inventory differs from itself.
abbrev pub NothingDiffersFromItself : Type 0
NothingDiffersFromItself = (i : Image) → difference i i ≡ []

-- Two inventories say the same of links, classes, routes, referents, assets, and of what each asset holds.
pub record SayTheSame (a b : Image) : Type 0 where
  pub links : (state_of a).links ≡ (state_of b).links
  pub classes : (state_of a).classes ≡ (state_of b).classes
  pub routes : (state_of a).routes ≡ (state_of b).routes
  pub referents : (name : Name) → (state_of a).referents name ≡ (state_of b).referents name
  pub assets : facts_in (state_of a) ≡ facts_in (state_of b)
  pub holds : (asset : ℕ) (p : Place) → (state_of a).holds asset p ≡ (state_of b).holds asset p

-- The difference has no line exactly where they do.
abbrev pub NoLineWhereTheyAgree : Type 0
NoLineWhereTheyAgree = (a b : Image) → IsSound a → IsSound b → (difference a b ≡ []) ↔ SayTheSame a b

abbrev pub same_sign : Sign → Sign → Bool
same_sign Removed Removed = true
same_sign Added Added = true
same_sign _ _ = false

-- the first line stands before the second: by its item, and of two with one key the removed one
abbrev pub line_before : Line → Line → Bool
line_before l m = item_before l.item m.item || (not (item_before m.item l.item) && same_sign l.sign Removed && same_sign m.sign Added)

-- Each two lines stand in this order.
abbrev pub LinesAreInOrder : Type 0
LinesAreInOrder = (a b : Image) → IsSound a → IsSound b → each_two line_before (difference a b) ≡ true

-- the lines of one kind
abbrev pub lines_of : {A : Type 0} → (A → Item) → (A → A → Bool) → List A → List A → List Line
lines_of item same xs ys = in_order (map item (lacking same xs ys)) (map item (lacking same ys xs))

-- Each kind is told by itself, one after another.
abbrev pub KindsAreToldByThemselves : Type 0
KindsAreToldByThemselves = (a b : Image)
    → difference a b
    ≡ lines_of link_item same_link (entries (state_of a).links) (entries (state_of b).links)
    ++ lines_of class_item same_class (entries (state_of a).classes) (entries (state_of b).classes)
    ++ lines_of route_item same_route (entries (state_of a).routes) (entries (state_of b).routes)
    ++ lines_of referent_item same_referent (referents_in a) (referents_in b)
    ++ lines_of Asset same_asset (facts_in (state_of a)) (facts_in (state_of b))
    ++ in_order (stretches (state_of a) (state_of b)) (stretches (state_of b) (state_of a))

-- the items of the lines of one sign, in their order
abbrev pub items_of : Sign → List Line → List Item
items_of sign lines = map (λ l. l.item) (filter (λ l. same_sign l.sign sign) lines)

abbrev pub other_sign : Sign → Sign
other_sign Removed = Added
other_sign Added = Removed

-- Where the two are exchanged, the signs are exchanged: what is removed the one way is added the other way, item by item.
abbrev pub SignsAreExchanged : Type 0
SignsAreExchanged = (a b : Image) (sign : Sign) → items_of sign (difference b a) ≡ items_of (other_sign sign) (difference a b)

-- the item says that the asset holds the place
abbrev pub gives : Item → ℕ → Place → Bool
gives (Holds a link from to side) asset p = nat_eq a.number asset && nat_eq link p.link && nat_le from p.mm && nat_lt p.mm to && has_side side p.side
gives _ asset p = false

-- whether some line of the sign says so
abbrev pub gives_some : Sign → List Line → ℕ → Place → Bool
gives_some sign lines asset p = list_any (λ x. gives x asset p) (items_of sign lines)

-- The second inventory holds what the first does and no removed line has, and what an added line has.
abbrev pub LinesLeadToTheOther : Type 0
LinesLeadToTheOther = (a b : Image) → IsSound a → IsSound b → (asset : ℕ) (p : Place)
    → (state_of b).holds asset p ≡ ((state_of a).holds asset p && not (gives_some Removed (difference a b) asset p) || gives_some Added (difference a b) asset p)

-- the item is of assets
abbrev pub is_of_assets : Item → Bool
is_of_assets (Link number length) = false
is_of_assets (Class name kind) = false
is_of_assets (Route name course marks) = false
is_of_assets (Referent name link mm) = false
is_of_assets (Asset a) = true
is_of_assets (Holds a link from to side) = true

-- A split, join, renumber, recalibrate or turn is told by no line of an asset, or of what assets hold.
abbrev pub RouteEditsTellNoAsset : Type 0
RouteEditsTellNoAsset = (limits : Limits) (key : Name) (command : Command) (a b : Image) → is_route_edit command ≡ true
    → state_of b ≡ (step limits key command (state_of a)).state → (sign : Sign) → list_any is_of_assets (items_of sign (difference a b)) ≡ false
