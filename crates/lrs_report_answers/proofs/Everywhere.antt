-- The rows of an asset on the routes that run over where it was entered are those on all routes.
use Rattle.std.proofs.Common.{◌≡◌, zero, suc, inl, inr, List, [], ◌∷◌, filter, sym, ◌∙◌, arith}
use Rattle.std.specs.Prelude.{nat_eq, Contains}
use Rattle.std.specs.List.{list_any, flat_map}
use Rattle.std.specs.BTreeSet.{BTreeSet, IsOrdered}
use Rattle.std.specs.Cmp.Lexicographic.{texts_ties}
use Rattle.std.proofs.lemmas.Bool.{both_ways}
use Rattle.lrs_measure.specs.Texts.{Name, name_cmp}
use Rattle.lrs_measure.specs.Lists.{In}
use Rattle.lrs_measure.proofs.Places.{place_in}
use Rattle.lrs_events.specs.declared.class.Asset.{Asset}
use Rattle.lrs_events.specs.declared.part.Part.{Part}
use Rattle.lrs_position.specs.Index.MetRoutes.{IsAmong}
use Rattle.lrs_machine.specs.declared.image.Image.{Image}
use Rattle.lrs_machine.specs.Sound.{IsSound}
use Rattle.lrs_image.proofs.Tables.{routes_in_order}
use Rattle.lrs_report_answers.specs.AssetStretches.{rows_on}
use Rattle.lrs_inventory.specs.Changes.{route_on}
use Rattle.lrs_report_answers.specs.Ground.{RunsOverPart}
use Rattle.lrs_report_answers.specs.NamedRows.{rows_on_named}
use Rattle.lrs_report_answers.proofs.Lying.{no_rows_elsewhere}
use Rattle.lrs_report_answers.proofs.Naming.{each_before, is_among, by_names}

-- a member, by its place
pub In-from_Contains : {X : Type 0} (x : X) (xs : List X) → Contains xs x → In x xs
In-from_Contains x [] (k, l, is) = absurd (omega (arith, l))
In-from_Contains x (y ∷ ys) (zero, l, is) = inl (sym is)
In-from_Contains x (y ∷ ys) (suc k, l, is) = inr (In-from_Contains x ys (k, omega (arith, l), is))

pub Contains-from_In : {X : Type 0} (x : X) (xs : List X) → In x xs → Contains xs x
Contains-from_In x xs m = let at = place_in x xs m in (at.0, at.1, at.2 x)

pub rows_everywhere : (i : Image) (a : Asset) (names : BTreeSet Name) → IsSound i → Contains i.assets a → IsOrdered name_cmp names
    → ((route : Name) → RunsOverPart (route_on i.routes) (filter (λ (p : Part). nat_eq p.edit a.entered_by) i.entered) route → IsAmong route names)
    → flat_map (rows_on_named a.class a.number i.routes) names.keys ≡ flat_map (rows_on a.class a.number) i.routes
rows_everywhere i a names sound known order met =
    by_names (rows_on a.class a.number) names.keys i.routes (each_before names.keys order) (routes_in_order i sound)
    (λ r m far. no_rows_elsewhere i sound a (In-from_Contains a i.assets known) r m (λ over. both_ways (is_among r.route.name names.keys) far ((λ j. list_any (λ n. texts_ties r.route.name n j) names.keys) ∙ met r.route.name over)))
