-- The numbers of a sound image can be stored.
use Rattle.std.proofs.Common.{◌≡◌, ℕ, ◌++◌, ◌-◌, ◌<◌, ◌≤◌, Bool, true, false, cond, inl, inr, List, [], ◌∷◌, map, reverse, length, Option, Some, None, refl, sym, ap, subst, ◌∙◌, arith}
use Rattle.std.specs.Prelude.{◌||◌, ◌&&◌, not, is_none, nat_eq, nat_le, nat_lt}
use Rattle.std.specs.List.{list_any, list_all, range_with_len}
use mathlib.Core.List.{reverse-cons}
use Rattle.std.proofs.lemmas.Bool.{false≢true, not-true, not-false, and_parts, or_parts, leb-true, ltb-true, ltb-false, eqb-true, eq-eqb, ne_eqb}
use Rattle.lrs_measure.specs.Lists.{In, each_two, is_from_to, is_nothing}
use Rattle.lrs_measure.specs.Texts.{same_name}
use Rattle.lrs_element.specs.declared.link.Link.{Link}
use Rattle.lrs_element.specs.declared.link.Piece.{Piece}
use Rattle.lrs_element.specs.declared.link.Ground.{Ground}
use Rattle.lrs_element.specs.declared.marks.Mark.{Mark}
use Rattle.lrs_measure.specs.Limits.{longest_link, longest_route, most_marks, most_pieces, most_edits}
use Rattle.lrs_measure.proofs.Members.{any_found, all_at, In-map, In-flat_map, In-range_with_len, In-append_left, In-append_right}
use Rattle.lrs_element.specs.Course.{expand, millimetres, course_of, piece_count, is_too_long}
use Rattle.lrs_element.specs.Marks.{bad_mark, first_bad_mark}
use Rattle.lrs_element.proofs.LineLemmas.{Follow, KeepRules-from_none, rises_next}
use Rattle.lrs_position.specs.Routes.{is_route_course}
use Rattle.lrs_events.specs.declared.class.Asset.{Asset}
use Rattle.lrs_events.specs.declared.part.Part.{Part}
use Rattle.lrs_machine.specs.declared.image.Image.{Image}
use Rattle.lrs_machine.specs.EnteredNumbers.{is_asset_number, is_lateral_offset}
use Rattle.lrs_machine.specs.Sound.{asset_before, is_asset, is_on_a_link, is_part, is_named_by}
use Rattle.lrs_machine.proofs.Pairs.{part_asset}
use Rattle.lrs_machine.proofs.SoundImages.{Tested}
use Rattle.lrs_store_tables.specs.Contents.Decoders.{class_of_asset}
use Rattle.lrs_store_tables.specs.Contents.Content.{with_edit, edit_entering}
use Rattle.lrs_store_commit.proofs.Laws.Written.{PartFits}

-- ---- links and assets

pub link_bounds : (l : Link) → (l.number ≤ 999_999) × (l.length ≤ 1_000_000_000)
link_bounds l =
    let both = and_parts (is_from_to 1 999_999 l.number) (is_from_to 1 longest_link l.length) l.limits in
    (leb-true _ _ (and_parts (nat_le 1 l.number) (nat_le l.number 999_999) both.0).1, leb-true _ _ (and_parts (nat_le 1 l.length) (nat_le l.length longest_link) both.1).1)

-- the class of an asset is found by its number
pub class_found : (a : Asset) (assets : List Asset) → each_two asset_before assets ≡ true → In a assets → class_of_asset assets a.number ≡ Some a.class
class_found a [] order m = absurd m
class_found a (b ∷ assets) order (inl e) =
    ap (λ t. cond t (Some b.class) (class_of_asset assets a.number)) (eq-eqb b.number a.number (ap (λ (x : Asset). x.number) (sym e))) ∙ ap (λ (x : Asset). Some x.class) (sym e)
class_found a (b ∷ assets) order (inr m) =
    let both = and_parts (list_all (asset_before b) assets) (each_two asset_before assets) order in
    let below = ltb-true b.number a.number (all_at (asset_before b) a assets both.0 m) in
    ap (λ t. cond t (Some b.class) (class_of_asset assets a.number)) (ne_eqb b.number a.number (λ e. absurd (omega (arith, e, below)))) ∙ class_found a assets both.1 m

-- ... whichever edit entered it
pub class_of-entered : (told : List Part) (assets : List Asset) (n : ℕ) → class_of_asset (map (with_edit told) assets) n ≡ class_of_asset assets n
class_of-entered told [] n = refl
class_of-entered told (a ∷ assets) n = ap (λ o. cond (nat_eq a.number n) (Some a.class) o) (class_of-entered told assets n)

-- the ledger tells the edit that entered an asset
pub entered_back : (a : Asset) (ps : List Part) → list_any (λ p. nat_eq p.asset a.number) ps ≡ true → list_all (λ p. not (nat_eq p.asset a.number) || nat_eq p.edit a.entered_by) ps ≡ true → edit_entering ps a.number ≡ a.entered_by
entered_back a [] h k = absurd (false≢true h)
entered_back a (p ∷ ps) h k =
    elim (nat_eq p.asset a.number) as (λ b. (b || list_any (λ p. nat_eq p.asset a.number) ps) ≡ true → ((not b || nat_eq p.edit a.entered_by) && list_all (λ p. not (nat_eq p.asset a.number) || nat_eq p.edit a.entered_by) ps) ≡ true
    → cond b p.edit (edit_entering ps a.number) ≡ a.entered_by) [
      | true ↦ λ _ all. eqb-true p.edit a.entered_by (and_parts (nat_eq p.edit a.entered_by) _ all).0
      | false ↦ λ some all. entered_back a ps some all
    ] h k

-- ---- pieces

In-reverse : {X : Type 0} (x : X) (xs : List X) → In x xs → In x (reverse xs)
In-reverse x [] m = absurd m
In-reverse x (y ∷ ys) m = subst (In x) (sym (reverse-cons y ys)) (by m (In-reverse x ys))
  where
    by : In x (y ∷ ys) → (In x ys → In x (reverse ys)) → In x (reverse ys ++ y ∷ [])
    by (inl e) later = In-append_right x (reverse ys) (y ∷ []) (inl e)
    by (inr k) later = In-append_left x (reverse ys) (y ∷ []) (later k)

-- the last millimetre of a piece on its link
last_of_piece : (p : Piece) → p.from < p.to → In (record { link = p.link; mm = p.to - 1; forward = p.forward }) (expand p)
last_of_piece p h =
    let of_link : ℕ → Ground = λ k. record { link = p.link; mm = k; forward = p.forward } in
    let there = In-range_with_len (p.to - 1) p.from (p.to - p.from) (omega (arith, h)) (omega (arith, h)) in
    let run : In (p.to - 1) (millimetres p) = elim p.forward as (λ b. In (p.to - 1) (cond b (range_with_len p.from (p.to - p.from)) (reverse (range_with_len p.from (p.to - p.from))))) [
      | true ↦ there
      | false ↦ In-reverse (p.to - 1) (range_with_len p.from (p.to - p.from)) there
    ] in
    In-map of_link (p.to - 1) (millimetres p) run

pub piece_bounds : (links : List Link) (course : List Ground) (pieces : List Piece) (p : Piece) → course_of pieces ≡ course → list_all (is_on_a_link links) course ≡ true → In p pieces → p.from < p.to
    → (p.link ≤ 999_999) × (p.to ≤ 1_000_000_000)
piece_bounds links course pieces p is on m h =
    let g : Ground = record { link = p.link; mm = p.to - 1; forward = p.forward } in
    let there : In g course = subst (In g) is (In-flat_map expand p g pieces m (last_of_piece p h)) in
    let l = any_found (λ l. nat_eq l.number g.link && nat_lt g.mm l.length) links (all_at (is_on_a_link links) g course on there) in
    let fits = and_parts (nat_eq l.0.number p.link) (nat_lt (p.to - 1) l.0.length) l.2 in
    let number = eqb-true l.0.number p.link fits.0 in
    let short = ltb-true (p.to - 1) l.0.length fits.1 in
    let bounds = link_bounds l.0 in
    (omega (arith, number, bounds.0), omega (arith, short, bounds.1))

-- a course that a route can have is neither empty nor too long
pub record CourseFits (course : List Ground) : Type 0 where
  pub some : is_nothing course ≡ false
  pub few_pieces : piece_count course ≤ 1_000
  pub short : length course ≤ 10_000_000_000

pub course_fits : (course : List Ground) → is_route_course course ≡ true → CourseFits course
course_fits course h =
    let both = and_parts (not (is_nothing course)) (not (is_too_long course)) h in
    let limits = or_parts (nat_lt most_pieces (piece_count course)) (nat_lt longest_route (length course)) (not-true (is_too_long course) both.1) in
    record { some = not-true (is_nothing course) both.0; few_pieces = ltb-false most_pieces (piece_count course) limits.0; short = ltb-false longest_route (length course) limits.1 }

pub some_pieces : (course : List Ground) (pieces : List Piece) → course_of pieces ≡ course → is_nothing course ≡ false → is_nothing pieces ≡ false
some_pieces course [] is some = absurd (false≢true (sym some ∙ ap is_nothing (sym is)))
some_pieces course (p ∷ pieces) is some = refl

-- ---- marks

mark_bounds : (len : ℕ) (before : Option Mark) (marks : List Mark) → Follow len before marks → (m : Mark) → In m marks → (m.chainage ≤ len) × (m.measure ≤ 100_000_000_000)
mark_bounds len before [] h m k = absurd k
mark_bounds len before (x ∷ []) h m (inl e) =
    let last = eqb-true x.chainage len (not-false (nat_eq x.chainage len) h.2) in
    subst (λ (y : Mark). (y.chainage ≤ len) × (y.measure ≤ 100_000_000_000)) (sym e) (omega (arith, last), h.1)
mark_bounds len before (x ∷ []) h m (inr k) = absurd k
mark_bounds len before (x ∷ y ∷ rest) h m (inl e) =
    let next = mark_bounds len (Some x) (y ∷ rest) h.3 y (inl refl) in
    let rises = (rises_next x y h.3.0).chainage in
    subst (λ (z : Mark). (z.chainage ≤ len) × (z.measure ≤ 100_000_000_000)) (sym e) (omega (arith, next.0, rises), h.1)
mark_bounds len before (x ∷ y ∷ rest) h m (inr k) = mark_bounds len (Some x) (y ∷ rest) h.3 m k

few_marks : (len : ℕ) (marks : List Mark) → is_none (bad_mark len marks) ≡ true → length marks ≤ 1_000
few_marks len marks h = by (nat_lt (length marks) 2) (nat_lt most_marks (length marks)) (first_bad_mark len None marks) refl h
  where
    by : (few many : Bool) (o : Option ℕ) → nat_lt most_marks (length marks) ≡ many → is_none (cond few (Some 0) (cond many (Some most_marks) o)) ≡ true → length marks ≤ 1_000
    by true many o e k = absurd (cc k)
    by false true o e k = absurd (cc k)
    by false false o e k = ltb-false most_marks (length marks) e

-- the marks of a course of this length
pub record MarksFit (len : ℕ) (marks : List Mark) : Type 0 where
  pub few : length marks ≤ 1_000
  pub within : (m : Mark) → In m marks → (m.chainage ≤ len) × (m.measure ≤ 100_000_000_000)

pub marks_fit : (len : ℕ) (marks : List Mark) → is_none (bad_mark len marks) ≡ true → MarksFit len marks
marks_fit len marks h = record { few = few_marks len marks h; within = mark_bounds len None marks (KeepRules-from_none len marks h).follow }

-- ---- parts and edits

module _ (i : Image) (t : Tested i) where
  pub asset_bounds : (a : Asset) → In a i.assets → (a.number ≤ 1_000_000_000_000) × (a.lateral ≤ 100_000)
  asset_bounds a m =
      let test = and_parts (is_asset_number a.number && is_lateral_offset a.lateral) _ (all_at (is_asset i.classes) a i.assets t.assets m) in
      let both = and_parts (is_asset_number a.number) (is_lateral_offset a.lateral) test.0 in
      (leb-true _ _ (and_parts (nat_le 1 a.number) (nat_le a.number 1_000_000_000_000) both.0).1, leb-true _ _ both.1)

  -- the class of an asset is known
  pub asset_class : (a : Asset) → In a i.assets → list_any (λ c. same_name c.name a.class) i.classes ≡ true
  asset_class a m = (and_parts (is_asset_number a.number && is_lateral_offset a.lateral) (list_any (λ c. same_name c.name a.class) i.classes) (all_at (is_asset i.classes) a i.assets t.assets m)).1

  pub few_edits : length i.edits ≤ 10_000_000
  few_edits = leb-true (length i.edits) most_edits t.few_edits

  pub part_fits : (p : Part) → is_part i.links i.assets p ≡ true → is_named_by i.edits p ≡ true → PartFits p
  part_fits p h named =
      let tests = and_parts (nat_lt p.from p.to && list_any (λ l. nat_eq l.number p.link && nat_le p.to l.length) i.links) (list_any (λ a. nat_eq a.number p.asset) i.assets) h in
      let ends = and_parts (nat_lt p.from p.to) (list_any (λ l. nat_eq l.number p.link && nat_le p.to l.length) i.links) tests.0 in
      let filled = ltb-true p.from p.to ends.0 in
      let l = any_found (λ l. nat_eq l.number p.link && nat_le p.to l.length) i.links ends.1 in
      let on = and_parts (nat_eq l.0.number p.link) (nat_le p.to l.0.length) l.2 in
      let number = eqb-true l.0.number p.link on.0 in
      let within = leb-true p.to l.0.length on.1 in
      let bounds = link_bounds l.0 in
      let a = part_asset i.links i.assets p h in
      let of_asset = a.2 in
      let least = (asset_bounds a.0 a.1).0 in
      let edit = leb-true p.edit (length i.edits) (and_parts (nat_le 1 p.edit) (nat_le p.edit (length i.edits)) named).1 in
      record {
        edit = omega (arith, edit, few_edits);
        asset = omega (arith, of_asset, least);
        link = omega (arith, number, bounds.0);
        from = omega (arith, filled, within, bounds.1);
        to = omega (arith, within, bounds.1);
      }
