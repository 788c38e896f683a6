-- Counts grow by the rows that a change brings: what they have of the rows before it stays.
use Rattle.std.proofs.Common.{◌≡◌, ℕ, ◌+◌, ◌-◌, ◌≤◌, Bool, true, false, cond, List, [], ◌∷◌, ◌++◌, map, drop, length, Option, Some, None, refl, sym, ap, subst, ◌∙◌, arith, sum_by, length-append}
use Rattle.std.specs.Prelude.{◌&&◌, nat_eq, nat_le, nat_lt}
use Rattle.std.specs.List.{list_any, list_all}
use Rattle.std.specs.Option.{option_map_or}
use Rattle.std.proofs.lemmas.Bool.{and_parts}
use Rattle.std.proofs.lemmas.List.Folds.{list_all-map}
use Rattle.std.proofs.Math.Seq.{drop-append_seam}
use Rattle.lrs_measure.specs.Lists.{each_two}
use Rattle.lrs_measure.specs.OrderedLists.{insert_by, insert_some}
use Rattle.lrs_measure.specs.Texts.{Name, name_before, same_name}
use Rattle.lrs_element.specs.declared.link.Link.{Link}
use Rattle.lrs_events.specs.declared.class.Asset.{Asset}
use Rattle.lrs_events.specs.declared.class.Class.{Class}
use Rattle.lrs_events.specs.declared.part.Gone.{Gone}
use Rattle.lrs_events.specs.declared.part.Part.{Part}
use Rattle.lrs_machine.specs.declared.image.Image.{Image}
use Rattle.lrs_machine.specs.Image.{state_of}
use Rattle.lrs_machine.specs.Sound.{IsSound, is_part, class_before}
use Rattle.lrs_machine.proofs.SoundImages.{and_three}
use Rattle.lrs_machine.proofs.Pairs.{each_two-map}
use Rattle.lrs_image.specs.declared.change.Change.{Change}
use Rattle.lrs_image.specs.Change.{apply}
use Rattle.lrs_image.proofs.Tables.{assets_in_order, classes_in_order}
use Rattle.lrs_image_laws.proofs.InOrder.{map-insert_by}
use Rattle.lrs_report_answers.proofs.Ledgers.{entered_parts, gone_parts}
use Rattle.lrs_report_answers.specs.declared.tallies.tally.Count.{Count}
use Rattle.lrs_report_answers.specs.declared.tallies.tally.CountedSum.{CountedSum}
use Rattle.lrs_report_answers.specs.declared.tallies.tally.CountedSum.TheVariants.{Entered}
use Rattle.lrs_report_answers.specs.declared.tallies.counts.Counts.{Counts}
use Rattle.lrs_report_answers.specs.Tally.Counts.{names_of, no_count, count_before, with_class, raised, raised_of, column_of, with_part, with_rows, with_entered, with_gone}
use Rattle.lrs_report_answers.specs.Tally.RunningCounts.{counts_in, IsBehind}
use Rattle.lrs_report_answers.proofs.Tally.Counted.{class_stays, names_stay, first_in_order}
use Rattle.lrs_report_answers.proofs.Tally.Summed.{counts, class_is, first_counts, row_adds, rows_are, all_counted}
use Rattle.lrs_report_answers.proofs.Tally.Standing.{asset_of, is_known, still_found, of_other_class}

-- ---- rows counted after others

module _ {Row : Type 0} (assets : List Asset) (column : Row → CountedSum) (part : Row → Part) where
  with_more : (xs ys : List Row) (cs : List Count) → with_rows assets column part (xs ++ ys) cs ≡ with_rows assets column part ys (with_rows assets column part xs cs)
  with_more [] ys cs = refl
  with_more (x ∷ xs) ys cs = with_more xs ys (with_part assets (column x) (part x) cs)

  -- the classes stay
  names_with : (rows : List Row) (cs : List Count) → names_of (with_rows assets column part rows cs) ≡ names_of cs
  names_with [] cs = refl
  names_with (r ∷ rows) cs = names_with rows (with_part assets (column r) (part r) cs) ∙ by (asset_of (part r).asset assets)
    where
      by : (o : Option Asset) → names_of (option_map_or (λ (a : Asset). raised_of a.class (column r) ((part r).to - (part r).from) cs) o cs) ≡ names_of cs
      by None = refl
      by (Some a) = names_stay a.class (column r) ((part r).to - (part r).from) cs

  -- what the rows add to each class, and sums with it
  abbrev added : List Class → List Row → CountedSum → Name → ℕ
  added classes rows k name = sum_by (row_adds assets (λ name n. class_is (asset_of n assets) name) (λ n name. refl) classes column part k name) rows

  abbrev with_sums : List Class → List Row → (CountedSum → Name → ℕ) → CountedSum → Name → ℕ
  with_sums classes rows f k name = f k name + added classes rows k name

  summed : (classes : List Class) (rows : List Row) (f : CountedSum → Name → ℕ) → with_rows assets column part rows (counts classes f) ≡ counts classes (with_sums classes rows f)
  summed classes rows f = rows_are assets (λ name n. class_is (asset_of n assets) name) (λ n name. refl) classes column part rows f

turned : (f a b : ℕ) → (f + a) + b ≡ (f + b) + a
turned f a b = omega arith

-- rows of two ledgers are counted in either order
module _ {R S : Type 0} (assets : List Asset) (classes : List Class) (column : R → CountedSum) (part : R → Part) (other : S → CountedSum) (piece : S → Part) where
  either_order : (rs : List R) (ss : List S) (f : CountedSum → Name → ℕ)
      → with_rows assets other piece ss (with_rows assets column part rs (counts classes f)) ≡ with_rows assets column part rs (with_rows assets other piece ss (counts classes f))
  either_order rs ss f =
      let first : CountedSum → Name → ℕ = added assets column part classes rs in
      let then : CountedSum → Name → ℕ = added assets other piece classes ss in
      ap (with_rows assets other piece ss) (summed assets column part classes rs f)
      ∙ summed assets other piece classes ss (with_sums assets column part classes rs f)
      ∙ (λ j. counts classes (λ k name. turned (f k name) (first k name) (then k name) j))
      ∙ sym (summed assets column part classes rs (with_sums assets other piece classes ss f))
      ∙ sym (ap (with_rows assets column part rs) (summed assets other piece classes ss f))

-- ---- a class that comes

module _ (x : Count) where
  raise_beside : (class : Name) (c : CountedSum) (n : ℕ) (cs : List Count) → same_name class x.class ≡ false → raised_of class c n (insert_by count_before x cs) ≡ insert_by count_before x (raised_of class c n cs)
  raise_beside class c n cs other =
      let raise : Count → Count = λ y. cond (same_name class y.class) (raised c n y) y in
      let stays : (y : Count) → (raise y).class ≡ y.class = λ y. class_stays c (same_name class y.class) n y in
      ap (λ (before : Count → Count → Bool). map raise (insert_by before x cs)) (λ j a b. name_before (sym (stays a) j) (sym (stays b) j))
      ∙ map-insert_by raise count_before x cs
      ∙ ap (λ b. insert_by count_before (cond b (raised c n x) x) (map raise cs)) other

  module _ (assets : List Asset) (none : (n : ℕ) → class_is (asset_of n assets) x.class ≡ false) where
    part_beside : (c : CountedSum) (p : Part) (cs : List Count) → with_part assets c p (insert_by count_before x cs) ≡ insert_by count_before x (with_part assets c p cs)
    part_beside c p cs = by (asset_of p.asset assets) (none p.asset)
      where
        by : (o : Option Asset) → class_is o x.class ≡ false
            → option_map_or (λ (a : Asset). raised_of a.class c (p.to - p.from) (insert_by count_before x cs)) o (insert_by count_before x cs) ≡ insert_by count_before x (option_map_or (λ (a : Asset). raised_of a.class c (p.to - p.from) cs) o cs)
        by None h = refl
        by (Some a) h = raise_beside a.class c (p.to - p.from) cs h

    -- no row is counted for a class without assets
    rows_beside : {Row : Type 0} (column : Row → CountedSum) (part : Row → Part) (rows : List Row) (cs : List Count) → with_rows assets column part rows (insert_by count_before x cs) ≡ insert_by count_before x (with_rows assets column part rows cs)
    rows_beside column part [] cs = refl
    rows_beside column part (r ∷ rows) cs =
        ap (with_rows assets column part rows) (part_beside (column r) (part r) cs) ∙ rows_beside column part rows (with_part assets (column r) (part r) cs)

-- ---- an asset that comes

module _ (links : List Link) (old new : List Asset) (same : (n : ℕ) → is_known n old ≡ true → asset_of n old ≡ asset_of n new) {Row : Type 0} (column : Row → CountedSum) (part : Row → Part) where
  -- rows of known assets are counted as before
  still_counted : (rows : List Row) → list_all (λ r. is_part links old (part r)) rows ≡ true → (cs : List Count) → with_rows old column part rows cs ≡ with_rows new column part rows cs
  still_counted [] h cs = refl
  still_counted (r ∷ rows) h cs =
      let both = and_parts (is_part links old (part r)) (list_all (λ r. is_part links old (part r)) rows) h in
      let p = part r in
      let known = (and_three (nat_lt p.from p.to) (list_any (λ (l : Link). nat_eq l.number p.link && nat_le p.to l.length) links) (is_known p.asset old) both.0).2 in
      ap (λ (o : Option Asset). with_rows old column part rows (option_map_or (λ a. raised_of a.class (column r) (p.to - p.from) cs) o cs)) (same p.asset known)
      ∙ still_counted rows both.1 (with_part new (column r) (part r) cs)

-- ---- all that a change brings

abbrev ledgers : List Asset → List Part → List Gone → List Count → List Count
ledgers assets entered gone cs = with_gone assets gone (with_entered assets entered cs)

module _ (i : Image) (change : Change) (sound : IsSound i) (still : IsSound (apply change i)) where
  abbrev next : Image
  next = apply change i

  put_in : (class : Option Class) → each_two class_before (insert_some class_before class i.classes) ≡ true
      → with_class class (ledgers i.assets i.entered i.gone (map no_count i.classes)) ≡ ledgers i.assets i.entered i.gone (map no_count (insert_some class_before class i.classes))
  put_in None order = refl
  put_in (Some class) order =
      let none = of_other_class i sound class order in
      sym (rows_beside (no_count class) i.assets none column_of (λ (g : Gone). g.part) i.gone (with_entered i.assets i.entered (map no_count i.classes)))
      ∙ ap (with_gone i.assets i.gone) (sym (rows_beside (no_count class) i.assets none (λ (p : Part). Entered) (λ (p : Part). p) i.entered (map no_count i.classes)))
      ∙ ap (ledgers i.assets i.entered i.gone) (sym (map-insert_by no_count count_before class i.classes))

  abbrev same : (n : ℕ) → is_known n i.assets ≡ true → asset_of n i.assets ≡ asset_of n next.assets
  same = still_found i sound change.difference.asset (assets_in_order next still)

  with_assets : (cs : List Count) → ledgers i.assets i.entered i.gone cs ≡ ledgers next.assets i.entered i.gone cs
  with_assets cs =
      still_counted i.links i.assets next.assets same column_of (λ (g : Gone). g.part) i.gone (sym (list_all-map (is_part i.links i.assets) (λ (g : Gone). g.part) i.gone) ∙ (gone_parts i sound).each) (with_entered i.assets i.entered cs)
      ∙ ap (with_gone next.assets i.gone) (still_counted i.links i.assets next.assets same (λ (p : Part). Entered) (λ (p : Part). p) i.entered (entered_parts i sound).each cs)

  -- with the class that comes, the counts are those of the rows before the change, of all classes after it
  put : with_class change.difference.class (counts_in (state_of i)) ≡ ledgers next.assets i.entered i.gone (map no_count next.classes)
  put =
      ap (with_class change.difference.class) (sym (all_counted i sound))
      ∙ put_in change.difference.class (classes_in_order next still)
      ∙ with_assets (map no_count next.classes)

  pub in_order : each_two name_before (names_of (with_class change.difference.class (counts_in (state_of i)))) ≡ true
  in_order =
      ap (λ cs. each_two name_before (names_of cs)) put
      ∙ ap (each_two name_before) (names_with next.assets column_of (λ (g : Gone). g.part) i.gone (with_entered next.assets i.entered (map no_count next.classes)) ∙ names_with next.assets (λ (p : Part). Entered) (λ (p : Part). p) i.entered (map no_count next.classes))
      ∙ first_in_order next.classes (classes_in_order next still)

  swapped : with_entered next.assets change.difference.entered (ledgers next.assets i.entered i.gone (map no_count next.classes))
      ≡ with_gone next.assets i.gone (with_entered next.assets change.difference.entered (with_entered next.assets i.entered (map no_count next.classes)))
  swapped =
      let d = change.difference in
      let cs = next.classes in
      let none : CountedSum → Name → ℕ = λ k name. 0 in
      let entered : Part → CountedSum = λ p. Entered in
      let itself : Part → Part = λ p. p in
      let first = ap (with_entered next.assets i.entered) (first_counts cs) ∙ summed next.assets entered itself cs i.entered none in
      ap (λ xs. with_entered next.assets d.entered (with_gone next.assets i.gone xs)) first
      ∙ either_order next.assets cs column_of (λ (g : Gone). g.part) entered itself i.gone d.entered (with_sums next.assets entered itself cs i.entered none)
      ∙ ap (λ xs. with_gone next.assets i.gone (with_entered next.assets d.entered xs)) (sym first)

  -- The rows of the change, counted after those before it, give what the next state has.
  grown : ledgers next.assets change.difference.entered change.difference.gone (with_class change.difference.class (counts_in (state_of i))) ≡ counts_in (state_of next)
  grown =
      ap (ledgers next.assets change.difference.entered change.difference.gone) put
      ∙ ap (with_gone next.assets change.difference.gone) swapped
      ∙ sym (with_more next.assets column_of (λ (g : Gone). g.part) i.gone change.difference.gone _)
      ∙ ap (with_gone next.assets next.gone) (sym (with_more next.assets (λ (p : Part). Entered) (λ (p : Part). p) i.entered change.difference.entered (map no_count next.classes)))
      ∙ all_counted next still

  pub caught_up : ledgers next.assets (drop (length i.entered) next.entered) (drop (length i.gone) next.gone) (with_class change.difference.class (counts_in (state_of i))) ≡ counts_in (state_of next)
  caught_up =
      (λ j. ledgers next.assets (drop-append_seam i.entered change.difference.entered j) (drop-append_seam i.gone change.difference.gone j) (with_class change.difference.class (counts_in (state_of i))))
      ∙ grown

-- ---- counts that are one change behind

module _ (i : Image) (class : Option Class) (counts : Counts) (b : IsBehind i class counts) where
  abbrev still : IsSound (apply b.change b.before)
  still = subst IsSound b.made b.sound

  pub names_ordered : each_two name_before (names_of (with_class class counts.classes.items)) ≡ true
  names_ordered =
      (λ j. each_two name_before (names_of (with_class (b.class_is j) (b.counted.classes j)))) ∙ in_order b.before b.change b.was_sound still

  -- so there the class has its place
  pub class_placed : each_two count_before (with_class class counts.classes.items) ≡ true
  class_placed = sym (each_two-map name_before (λ (c : Count). c.class) (with_class class counts.classes.items)) ∙ names_ordered

  pub all_grown : ledgers i.assets (drop counts.entered i.entered) (drop counts.gone i.gone) (with_class class counts.classes.items) ≡ counts_in (state_of i)
  all_grown =
      (λ j. ledgers (b.made j).assets (drop (b.counted.entered j) (b.made j).entered) (drop (b.counted.gone j) (b.made j).gone) (with_class (b.class_is j) (b.counted.classes j)))
      ∙ caught_up b.before b.change b.was_sound still
      ∙ ap (λ (image : Image). counts_in (state_of image)) (sym b.made)

  pub entered_counted : counts.entered ≤ length i.entered
  entered_counted =
      let more = ap (λ (image : Image). length image.entered) b.made ∙ length-append b.before.entered b.change.difference.entered in
      let same = b.counted.entered in
      omega (arith, more, same)

  pub gone_counted : counts.gone ≤ length i.gone
  gone_counted =
      let more = ap (λ (image : Image). length image.gone) b.made ∙ length-append b.before.gone b.change.difference.gone in
      let same = b.counted.gone in
      omega (arith, more, same)
