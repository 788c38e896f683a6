-- What the tests of the tables say where their parts are known.
use Rattle.std.proofs.Common.{◌≡◌, ◌↔◌, ℕ, ◌+◌, ◌-◌, ◌≤◌, Bool, true, false, cond, ◌⊎◌, inl, inr, List, [], ◌∷◌, ◌++◌, map, length, refl, sym, ap, subst, ◌∙◌, arith, Result, Ok, Err}
use Rattle.std.specs.Prelude.{◌&&◌, nat_eq, nat_le, IfOk, IsTrue}
use Rattle.std.specs.List.{list_any, list_all, flat_map}
use Rattle.std.specs.Cmp.{both_ways}
use Rattle.std.proofs.lemmas.Bool.{false≢true, and_from, or_parts, cases_Bool, eqb-true, le-leb, leb-true}
use Rattle.std.proofs.lemmas.List.Sums.{sum_by-cons}
use Rattle.std.proofs.lemmas.List.Folds.{list_all-map}
use Rattle.lrs_measure.specs.Lists.{each_two}
use Rattle.lrs_measure.specs.Texts.{Name}
use Rattle.lrs_element.specs.declared.link.Link.{Link}
use Rattle.lrs_position.specs.declared.route.Referent.{Referent}
use Rattle.lrs_position.specs.Routes.{is_route_course, have_marks, are_referents}
use Rattle.lrs_events.specs.declared.class.Asset.{Asset}
use Rattle.lrs_events.specs.declared.part.Part.{Part}
use Rattle.lrs_events.specs.declared.part.Gone.{Gone}
use Rattle.lrs_machine.specs.declared.image.RouteRow.{RouteRow}
use Rattle.lrs_machine.specs.declared.image.Edit.{Edit}
use Rattle.lrs_measure.specs.Limits.{most_pairs, most_edits}
use Rattle.lrs_measure.proofs.Members.{any_found, all_at, all_of}
use Rattle.lrs_machine.specs.Sound.{is_part, share_nothing, pairs_of, are_parts, parts_of, are_edits, is_named_by, RouteReferents, are_all_referents, are_all_marks}
use Rattle.lrs_machine.proofs.Pairs.{part_asset, each_two-map}
use Rattle.lrs_machine.proofs.SoundImages.{and_three}
use Rattle.lrs_image_sound.specs.Tables.{route_marks, route_referents}
use Rattle.lrs_image_sound.proofs.Distinct.{differ}

pub ok_so : {X E : Type 0} (P Q : X → Type 0) (r : Result X E) → ((x : X) → P x → Q x) → IfOk r P → IfOk r Q
ok_so P Q (Ok x) f h = f x h
ok_so P Q (Err e) f h = tt

pub ok_both : {X E : Type 0} (P Q R : X → Type 0) (r : Result X E) → ((x : X) → P x → Q x → R x) → IfOk r P → IfOk r Q → IfOk r R
ok_both P Q R (Ok x) f h k = f x h k
ok_both P Q R (Err e) f h k = tt

-- ---- ledgers

none_summed : (n : ℕ) (parts : List Part) → list_any (λ p. nat_eq p.asset n) parts ≡ false → pairs_of n parts ≡ 0
none_summed n [] h = refl
none_summed n (x ∷ xs) h =
    let both = or_parts (nat_eq x.asset n) (list_any (λ p. nat_eq p.asset n) xs) h in
    let e = sum_by-cons (λ p. cond (nat_eq p.asset n) (p.to - p.from) 0) x xs in
    e ∙ (λ j. cond (both.0 j) (x.to - x.from) 0 + none_summed n xs both.1 j)

module _ (links : List Link) (assets : List Asset) (parts : List Part) where
  abbrev is_few : Asset → Bool
  is_few a = nat_le (pairs_of a.number parts) most_pairs

  few_of_all : (n : ℕ) → list_all (is_part links assets) parts ≡ true → list_all is_few assets ≡ true → pairs_of n parts ≤ most_pairs
  few_of_all n inside h = by (cases_Bool (list_any (λ p. nat_eq p.asset n) parts))
    where
      by : (list_any (λ p. nat_eq p.asset n) parts ≡ true) ⊎ (list_any (λ p. nat_eq p.asset n) parts ≡ false) → pairs_of n parts ≤ most_pairs
      by (inl some) =
          let f = any_found (λ p. nat_eq p.asset n) parts some in
          let a = part_asset links assets f.0 (all_at (is_part links assets) f.0 parts inside f.1) in
          let number : a.0.number ≡ n = a.2 ∙ eqb-true f.0.asset n f.2 in
          subst (λ m. pairs_of m parts ≤ most_pairs) number (leb-true (pairs_of a.0.number parts) most_pairs (all_at is_few a.0 assets h a.1))
      by (inr none) = let e = none_summed n parts none in omega (arith, e)

  pub parts_answer : (few : Bool) → list_all (is_part links assets) parts ≡ true → each_two share_nothing parts ≡ true → (IsTrue few ↔ ((n : ℕ) → pairs_of n parts ≤ most_pairs)) → few ≡ are_parts links assets parts
  parts_answer few inside apart within =
      both_ways few (list_all is_few assets)
      (λ t. all_of is_few assets (λ a m. le-leb (pairs_of a.number parts) most_pairs (within.0 t a.number)))
      (λ t. within.1 (λ n. few_of_all n inside t))
      ∙ sym (λ j. inside j && apart j && list_all is_few assets)

-- ---- edits

module _ (entered : List Part) (gone : List Gone) (edits : List Edit) where
  abbrev named : Part → Bool
  named = is_named_by edits

  pub edits_answer : (keys : List Name) (b : Bool) → keys ≡ map (λ e. e.key) edits → b ≡ each_two differ keys → list_all named entered ≡ true → list_all (λ g. named g.part) gone ≡ true → length edits ≤ most_edits
      → b ≡ are_edits entered gone edits
  edits_answer keys b are once first second few =
      once ∙ ap (each_two differ) are ∙ each_two-map differ (λ (e : Edit). e.key) edits
      ∙ sym (last (each_two (λ d e. differ d.key e.key) edits) (list_all named entered) (list_all named (parts_of gone)) (nat_le (length edits) most_edits) first (list_all-map named (λ (g : Gone). g.part) gone ∙ second)
      (le-leb (length edits) most_edits few))
    where
      last : (a b c d : Bool) → b ≡ true → c ≡ true → d ≡ true → (a && b && c && d) ≡ a
      last true true true true h k l = refl
      last true true true false h k l = l
      last true true false d h k l = absurd (false≢true k)
      last true false c d h k l = absurd (false≢true h)
      last false b c d h k l = refl

  pub edits_fail : list_all (λ g. named g.part) gone ≡ false → false ≡ are_edits entered gone edits
  edits_fail h =
      sym (third (each_two (λ d e. differ d.key e.key) edits) (list_all named entered) (list_all named (parts_of gone)) (nat_le (length edits) most_edits) (list_all-map named (λ (g : Gone). g.part) gone ∙ h))
    where
      third : (a b c d : Bool) → c ≡ false → (a && b && c && d) ≡ false
      third true true true d h = absurd (false≢true (sym h))
      third true true false d h = refl
      third true false c d h = refl
      third false b c d h = refl

-- ---- what the type of a route says

all_mapped : {X Y : Type 0} (p : Y → Bool) (f : X → Y) (xs : List X) → ((x : X) → p (f x) ≡ true) → list_all p (map f xs) ≡ true
all_mapped p f [] h = refl
all_mapped p f (x ∷ xs) h = and_from (p (f x)) (list_all p (map f xs)) (h x) (all_mapped p f xs h)

flat_mapped : {X Y Z : Type 0} (g : Y → List Z) (f : X → Y) (xs : List X) → flat_map g (map f xs) ≡ flat_map (λ x. g (f x)) xs
flat_mapped g f [] = refl
flat_mapped g f (x ∷ xs) = ap (λ l. g (f x) ++ l) (flat_mapped g f xs)

pub fits : (e : RouteRow) → (is_route_course e.route.course ≡ true) × (have_marks e.route.course e.route.marks ≡ true) × (are_referents (length e.route.course) e.route.refs ≡ true)
fits e = and_three (is_route_course e.route.course) (have_marks e.route.course e.route.marks) (are_referents (length e.route.course) e.route.refs) e.route.fits

pub marks_fit : (routes : List RouteRow) → are_all_marks (route_marks routes) ≡ true
marks_fit routes = all_mapped (λ r. have_marks r.course r.marks) (λ e. record { course = e.route.course; marks = e.route.marks }) routes (λ e. (fits e).1)

pub referents_answer : (routes : List RouteRow) (names : List Name) (b : Bool) → names ≡ map (λ (r : Referent). r.name) (flat_map (λ e. e.route.refs) routes) → b ≡ each_two differ names → b ≡ are_all_referents (route_referents routes)
referents_answer routes names b are once =
    once ∙ ap (each_two differ) are ∙ each_two-map differ (λ (r : Referent). r.name) (flat_map (λ e. e.route.refs) routes)
    ∙ ap (each_two (λ a b. differ a.name b.name)) (sym (flat_mapped (λ r. r.refs) entry routes))
    ∙ sym (ap (λ c. c && each_two (λ a b. differ a.name b.name) (flat_map (λ r. r.refs) (route_referents routes))) own)
  where
    entry : RouteRow → RouteReferents
    entry e = record { length = length e.route.course; refs = e.route.refs }

    own : list_all (λ r. are_referents r.length r.refs) (route_referents routes) ≡ true
    own = all_mapped (λ r. are_referents r.length r.refs) entry routes (λ e. (fits e).2)
