-- Look-ups in an image, beside those in its state.
use Rattle.std.proofs.Common.{◌≡◌, ℕ, zero, suc, ◌+◌, ◌<◌, List, [], ◌∷◌, map, length, get_or, Option, Some, None, refl, sym, ap, ◌∙◌, arith}
use Rattle.std.specs.List.{find}
use Rattle.std.specs.Ordering.{is_eq, nat_cmp}
use Rattle.std.specs.FinMap.{nat_cmp-IsAntisymmetric}
use Rattle.std.proofs.lemmas.Cmp.{nat_cmp_total}
use Rattle.std.proofs.lemmas.List.Quantifiers.{position-Some}
use Rattle.std.specs.Prelude.{is_some}
use Rattle.std.specs.Option.{option_map}
use Rattle.std.specs.Cmp.Lexicographic.{nat_list_cmp_total, texts_ties}
use Rattle.lrs_inventory.specs.Prelude.{Name, name_cmp, same_name, Edit, Image, RouteRow, state_of, asset_entry, route_entry, Alignment, Link, Asset, Kind, is_named}
use Rattle.lrs_machine.specs.Image.{link_entry}
use Rattle.lrs_machine.specs.Machine.{place_of_key, line_at}
use Rattle.lrs_machine.specs.State as state
use Rattle.lrs_machine.specs.Register.{get}
use Rattle.lrs_events.specs.declared.class.Class.{Class}
use Rattle.lrs_inventory.proofs.NamedEntries.{names_exact}
use Rattle.lrs_inventory.specs.Keys.{place_among}
use Rattle.lrs_inventory.proofs.Positions.{position-map}
use Rattle.lrs_inventory.proofs.Filed.{find_row, find_entry}

-- nothing is found where what it stands for is nothing
pub none_found : {X Y : Type 0} (f : X → Y) (o : Option X) → None ≡ option_map f o → o ≡ None
none_found f None e = refl
none_found f (Some x) e = absurd (cc e)

-- what is found is known where what it stands for is
pub same_known : {X Y Z : Type 0} (f : X → Z) (h : Y → Z) (o : Option X) (p : Option Y) → option_map f o ≡ option_map h p → is_some p ≡ is_some o
same_known f h None None e = refl
same_known f h None (Some y) e = absurd (cc e)
same_known f h (Some x) None e = absurd (cc e)
same_known f h (Some x) (Some y) e = refl

abbrev class_entry : Class → Name × Kind
class_entry c = (c.name, c.kind)

module _ (i : Image) where
  link_found : (n : ℕ) → option_map (λ l. l.length) (find (λ l. is_eq (nat_cmp l.number n)) i.links) ≡ get (state_of i).links n
  unfolding state_of
  link_found n = sym (find_row nat_cmp_total nat_cmp-IsAntisymmetric link_entry i.links n)

  class_found : (name : Name) → option_map (λ c. c.kind) (find (λ c. is_eq (name_cmp c.name name)) i.classes) ≡ get (state_of i).classes name
  unfolding state_of
  class_found name = sym (find_row nat_list_cmp_total names_exact class_entry i.classes name)

  asset_found : (n : ℕ) → option_map asset_entry (find (λ a. is_eq (nat_cmp a.number n)) i.assets) ≡ option_map (λ a. (n, a)) (get (state_of i).assets n)
  unfolding state_of
  asset_found n = sym (find_entry nat_cmp_total nat_cmp-IsAntisymmetric asset_entry i.assets n)

  route_found : (name : Name) → option_map route_entry (find (λ e. is_eq (name_cmp e.route.name name)) i.routes) ≡ option_map (λ a. (name, a)) (get (state_of i).routes name)
  unfolding state_of
  route_found name = sym (find_entry nat_list_cmp_total names_exact route_entry i.routes name)

  row_found : (name : Name) → find (λ e. is_eq (name_cmp e.route.name name)) i.routes ≡ find (is_named name) i.routes
  row_found name = λ j. find (λ e. sym (texts_ties e.route.name name) j) i.routes

  -- the value at a name is that of the route of the name
  pub route_value : (name : Name) → get (state_of i).routes name ≡ option_map (λ e. (route_entry e).1) (find (is_named name) i.routes)
  unfolding state_of
  route_value name = find_row nat_list_cmp_total names_exact route_entry i.routes name ∙ ap (option_map (λ (e : RouteRow). (route_entry e).1)) (row_found name)

-- ... for what is found in the lists that are seen as the image
module _ (i seen : Image) (is : i ≡ seen) where
  pub link_of : (n : ℕ) (o : Option Link) → o ≡ find (λ l. is_eq (nat_cmp l.number n)) i.links → option_map (λ l. l.length) o ≡ get (state_of seen).links n
  link_of n o e = ap (option_map (λ (l : Link). l.length)) e ∙ link_found i n ∙ ap (λ (j : Image). get (state_of j).links n) is

  pub class_of : (name : Name) (o : Option Class) → o ≡ find (λ c. is_eq (name_cmp c.name name)) i.classes → option_map (λ c. c.kind) o ≡ get (state_of seen).classes name
  class_of name o e = ap (option_map (λ (c : Class). c.kind)) e ∙ class_found i name ∙ ap (λ (j : Image). get (state_of j).classes name) is

  pub asset_of : (n : ℕ) (o : Option Asset) → o ≡ find (λ a. is_eq (nat_cmp a.number n)) i.assets → option_map asset_entry o ≡ option_map (λ a. (n, a)) (get (state_of seen).assets n)
  asset_of n o e = ap (option_map asset_entry) e ∙ asset_found i n ∙ ap (λ (j : Image). option_map (λ (a : state.Asset). (n, a)) (get (state_of j).assets n)) is

  pub row_of : (name : Name) (o : Option RouteRow) → o ≡ find (λ e. is_eq (name_cmp e.route.name name)) i.routes → o ≡ find (is_named name) seen.routes
  row_of name o e = e ∙ row_found i name ∙ ap (λ (j : Image). find (is_named name) j.routes) is

  pub route_of : (name : Name) (o : Option RouteRow) → o ≡ find (λ e. is_eq (name_cmp e.route.name name)) i.routes → option_map route_entry o ≡ option_map (λ a. (name, a)) (get (state_of seen).routes name)
  route_of name o e = ap (option_map route_entry) e ∙ route_found i name ∙ ap (λ (j : Image). option_map (λ (a : Alignment). (name, a)) (get (state_of j).routes name)) is

-- ---- edits

-- an edit as the ground machine keeps it
abbrev kept_edit : Edit → state.Edit
kept_edit e = record { key = e.key; line = e.line }

place_of : (i : Image) (key : Name) → place_among i.edits key ≡ place_of_key key (state_of i).done
unfolding state_of
place_of i key = sym (position-map kept_edit (λ (e : state.Edit). same_name e.key key) i.edits)

-- the number of a key's edit
pub number_of : (i seen : Image) → i ≡ seen → (key : Name) (o : Option ℕ) → o ≡ place_among i.edits key → option_map (λ place. place + 1) o ≡ option_map (λ place. place + 1) (place_of_key key (state_of seen).done)
number_of i seen is key o e = ap (option_map (λ (place : ℕ). place + 1)) (e ∙ place_of i key) ∙ ap (λ (j : Image). option_map (λ (place : ℕ). place + 1) (place_of_key key (state_of j).done)) is

line_at-edit : (i : Image) (place : ℕ) (e : Edit) → place < length i.edits → e ≡ get_or i.edits place e → e.line ≡ line_at place (state_of i).done
unfolding state_of
line_at-edit i place e within is = by i.edits place within is
  where
    by : (es : List Edit) (k : ℕ) → k < length es → e ≡ get_or es k e → e.line ≡ line_at k (map kept_edit es)
    by [] k h is = absurd (omega (arith, h))
    by (d ∷ es) zero h is = ap (λ (x : Edit). x.line) is
    by (d ∷ es) (suc k) h is = by es k (omega (arith, h)) is

-- ... and its line
pub line_of : (i seen : Image) → i ≡ seen → (key : Name) (place other : ℕ) (e : Edit) → Some place ≡ place_among i.edits key → e ≡ get_or i.edits place e → place + 1 ≡ other + 1 → e.line ≡ line_at other (state_of seen).done
line_of i seen is key place other e found at same =
    let within = (position-Some (λ (d : Edit). same_name d.key key) i.edits place e (sym found)).0 in
    let eq : place ≡ other = omega (arith, same) in
    line_at-edit i place e within at ∙ ap (λ (k : ℕ). line_at k (state_of i).done) eq ∙ ap (λ (j : Image). line_at other (state_of j).done) is

pub place_within : (i : Image) (key : Name) (place : ℕ) (e : Edit) → Some place ≡ place_among i.edits key → place < length i.edits
place_within i key place e found = (position-Some (λ (d : Edit). same_name d.key key) i.edits place e (sym found)).0
