-- Which names the routes of an image have, and that none runs over free pieces.
use Rattle.std.proofs.Common.{◌≡◌, ℕ, Bool, List, Option, Some, None, Ok, refl, ◌∙◌}
use Rattle.std.specs.List.{list_any, position}
use Rattle.std.specs.Ordering.{eq_by_cmp}
use Rattle.std.specs.Cmp.Lexicographic.{nat_list_cmp_total}
use Rattle.lrs_inventory.specs.Prelude.{Name, name_cmp, same_name, Piece, expand, Image, RouteRow, contains_key, state_of, route_entry, refuse_at}
use Rattle.lrs_machine.specs.declared.answer.Cause.TheVariants as cause
use Rattle.lrs_machine.specs.Machine.{check_free, is_taken}
use Rattle.lrs_inventory.proofs.NamedEntries.{names_exact}
use Rattle.lrs_inventory.proofs.Filed.{is_some-find_row, names_tie}

abbrev pub has_name : Name → RouteRow → Bool
has_name name e = same_name e.route.name name

pub ties : (name : Name) (routes : List RouteRow) → list_any (λ e. eq_by_cmp name_cmp name e.route.name) routes ≡ list_any (has_name name) routes
ties name routes = names_tie (λ (e : RouteRow). e.route.name) name routes

pub knows : (name : Name) (i : Image) → contains_key (state_of i).routes name ≡ list_any (has_name name) i.routes
unfolding state_of
knows name i = is_some-find_row nat_list_cmp_total names_exact route_entry i.routes name ∙ ties name i.routes

-- no route runs over a millimetre of the pieces
pub nothing_taken : (i : Image) (pieces : List Piece) → check_free (state_of i) pieces ≡ Ok tt → position (λ p. is_taken (state_of i) (expand p)) pieces ≡ None
nothing_taken i pieces h = by (position (λ p. is_taken (state_of i) (expand p)) pieces) refl h
  where
    by : (o : Option ℕ) → position (λ p. is_taken (state_of i) (expand p)) pieces ≡ o → refuse_at o cause.Taken ≡ Ok tt → position (λ p. is_taken (state_of i) (expand p)) pieces ≡ None
    by None e k = e
    by (Some x) e k = absurd (cc k)
