-- Segments by the rows of a route, and who holds what lies beside its course.
use Rattle.std.proofs.Common.{◌≡◌, ℕ, zero, suc, ◌+◌, ◌<◌, Bool, true, Some, List, [], ◌∷◌, length, map, refl, sym, ap, ◌∙◌, arith}
use Rattle.std.specs.Prelude.{◌&&◌, nat_lt, nat_le, nat_eq, slice_get}
use Rattle.std.specs.List.{list_any, list_all, range_with_len}
use Rattle.std.specs.Cmp.Lexicographic.{nat_list_cmp_total, bytes_decides}
use Rattle.std.proofs.lemmas.Bool.{and_parts, eqb-true, leb-true, ltb-true}
use Rattle.lrs_measure.specs.Lists.{each_two}
use Rattle.lrs_measure.specs.Texts.{Name, same_name}
use Rattle.lrs_measure.proofs.Members.{any_found, any_of, all_at}
use Rattle.lrs_element.specs.declared.link.Ground.{Ground}
use Rattle.lrs_events.specs.declared.class.Asset.{Asset}
use Rattle.lrs_events.specs.declared.class.Class.{Class}
use Rattle.lrs_events.specs.declared.class.Kind.{Kind}
use Rattle.lrs_events.specs.declared.class.Kind.TheVariants.{Point, Stretch, Exclusive}
use Rattle.lrs_events.specs.declared.side.LinkSide.{LinkSide}
use Rattle.lrs_events.specs.declared.span.Span.{Span}
use Rattle.lrs_events.specs.Members.{has_side, stands_for, has_member, is_member}
use Rattle.lrs_events.specs.Places.{beside}
use Rattle.lrs_events.specs.Row.CourseMembers.{is_held}
use Rattle.lrs_machine.specs.declared.image.Image.{Image}
use Rattle.lrs_machine.specs.Image.{state_of, asset_entry}
use Rattle.lrs_machine.specs.Laws.{IsExclusive}
use Rattle.lrs_machine.specs.Readings.{asset_of}
use Rattle.lrs_machine.specs.Register.{get}
use Rattle.lrs_machine.specs.Sound.{asset_before, class_before, is_span}
use Rattle.lrs_machine.specs.State as state
use Rattle.lrs_machine.specs.Segments.{is_exclusive, is_exclusive_class, segments_of}
use Rattle.lrs_machine.proofs.Finding.{find_member, find_numbered}
use Rattle.lrs_report.specs.SideValues.{is_holder, AreExclusive}
use Rattle.lrs_report.specs.StateSegments.{TellHolders, SegmentsAreOfState, ExclusiveByRows}

-- ---- the state's segments

same_assets : (assets : List Asset) → map asset_of (map asset_entry assets) ≡ assets
same_assets [] = refl
same_assets (a ∷ rest) = ap (λ xs. a ∷ xs) (same_assets rest)

-- what is read at each place of a course
read_beside : (f : ℕ → ℕ → Bool) (h : Ground → ℕ → Bool) (k : ℕ) (course : List Ground) → ((j : ℕ) (g : Ground) → slice_get course j ≡ Some g → (asset : ℕ) → h g asset ≡ f (k + j) asset)
    → map f (range_with_len k (length course)) ≡ map h course
read_beside f h k [] same = refl
read_beside f h k (g ∷ gs) same =
    let start : k + 0 ≡ k = omega arith in
    let rest = read_beside f h (k + 1) gs (λ j x e asset. same (suc j) x e asset ∙ ap (λ n. f n asset) (omega arith)) in
    λ i. (λ asset. (sym (same 0 g refl asset ∙ ap (λ n. f n asset) start)) i) ∷ rest i

pub of_state : SegmentsAreOfState
unfolding state_of
of_state i course rows wanted side tell =
    let holders = read_beside (is_holder rows side) (λ g asset. (state_of i).holds asset (beside g side)) 0 course (λ j g e asset. tell asset j g side e ∙ ap (λ n. is_held rows asset n side) (omega arith)) in
    λ t. segments_of (sym (same_assets i.assets) t) wanted (holders t)

-- ---- exclusive classes

its_kind : (k : Kind) → is_exclusive k ≡ true → k ≡ Exclusive
its_kind Point h = absurd cc
its_kind Stretch h = absurd cc
its_kind Exclusive h = refl

at_course : (course : List Ground) (j : ℕ) → j < length course → (g : Ground) × (slice_get course j ≡ Some g)
at_course [] j h = absurd (omega (arith, h))
at_course (g ∷ gs) zero h = (g, refl)
at_course (g ∷ gs) (suc j) h = at_course gs j (omega (arith, h))

module _ (i : Image) (course : List Ground) (rows : List Span) (exclusive : IsExclusive (state_of i)) (assets : each_two asset_before i.assets ≡ true) (classes : each_two class_before i.classes ≡ true)
    (known : list_all (is_span i.assets (length course)) rows ≡ true) (tell : TellHolders (state_of i) course rows) where
  class_is : (class : Name) → is_exclusive_class i.classes class ≡ true → get (state_of i).classes class ≡ Some Exclusive
  unfolding state_of
  class_is class h =
      let found = any_found (λ (c : Class). same_name c.name class && is_exclusive c.kind) i.classes h in
      let parts = and_parts (same_name found.0.name class) (is_exclusive found.0.kind) found.2 in
      let name = (bytes_decides found.0.name class).0 parts.0 in
      ap (get (state_of i).classes) (sym name) ∙ find_member nat_list_cmp_total (λ (c : Class). c.name) (λ c. c.kind) found.0 i.classes classes found.1 ∙ ap (λ k. Some k) (its_kind found.0.kind parts.1)

  -- what a row says of its asset
  record IsHeldBy (class : Name) (a j : ℕ) (side : LinkSide) : Type 0 where
    pub asset : state.Asset
    pub is_known : get (state_of i).assets a ≡ Some asset
    pub of_class : asset.class ≡ class
    pub within : j < length course
    pub held : is_held rows a j side ≡ true

  held_by : (class : Name) (a j : ℕ) (side : LinkSide) → is_member rows class a j side ≡ true → IsHeldBy class a j side
  unfolding state_of
  held_by class a j side h =
      let r = any_found (λ (q : Span). has_member q class a j side) rows h in
      let parts = and_parts (same_name r.0.class class) (stands_for r.0 a j side) r.2 in
      let stands = and_parts (nat_eq r.0.asset a) ((nat_le r.0.from j && nat_lt j r.0.to) && has_side r.0.side side) parts.1 in
      let at = and_parts (nat_le r.0.from j && nat_lt j r.0.to) (has_side r.0.side side) stands.1 in
      let high = ltb-true j r.0.to (and_parts (nat_le r.0.from j) (nat_lt j r.0.to) at.0).1 in
      let span = and_parts (nat_le r.0.to (length course)) (list_any (λ (b : Asset). nat_eq b.number r.0.asset && same_name b.class r.0.class) i.assets) (all_at (is_span i.assets (length course)) r.0 rows known r.1) in
      let end = leb-true r.0.to (length course) span.0 in
      let b = any_found (λ (b : Asset). nat_eq b.number r.0.asset && same_name b.class r.0.class) i.assets span.1 in
      let its = and_parts (nat_eq b.0.number r.0.asset) (same_name b.0.class r.0.class) b.2 in
      let number = eqb-true b.0.number r.0.asset its.0 ∙ eqb-true r.0.asset a stands.0 in
      record {
        asset = (asset_entry b.0).1;
        is_known = ap (get (state_of i).assets) (sym number) ∙ find_numbered (λ (c : Asset). c.number) (λ c. (asset_entry c).1) b.0 i.assets assets b.1;
        of_class = (bytes_decides b.0.class r.0.class).0 its.1 ∙ (bytes_decides r.0.class class).0 parts.0;
        within = omega (arith, high, end);
        held = any_of (λ (q : Span). stands_for q a j side) r.0 rows r.1 parts.1;
      }

  one_holder : AreExclusive i.classes rows
  one_holder class h a b j side m n =
      let x = held_by class a j side m in
      let y = held_by class b j side n in
      let g = at_course course j x.within in
      exclusive a b x.asset y.asset (beside g.0 side) x.is_known y.is_known (x.of_class ∙ sym y.of_class) (ap (get (state_of i).classes) x.of_class ∙ class_is class h) (tell a j g.0 side g.1 ∙ x.held) (tell b j g.0 side g.1 ∙ y.held)

pub exclusive_too : ExclusiveByRows
exclusive_too = one_holder
