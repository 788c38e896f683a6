-- A new link.
use Rattle.std.proofs.Common.{◌≡◌, ℕ, ◌+◌, Bool, true, false, List, [], ◌∷◌, length, Some, None, Ok, Err, refl, sym, ap, ◌∙◌, subst, arith}
use Rattle.std.specs.Cmp.{unsigned_tied}
use Rattle.std.specs.FinMap.{nat_cmp-IsAntisymmetric}
use Rattle.std.proofs.lemmas.Bool.{and_from, or_parts}
use Rattle.std.proofs.lemmas.Bool.Decides.{nat_tests}
use Rattle.std.proofs.lemmas.Cmp.{nat_cmp_total}
use Rattle.std.proofs.lemmas.List.{append-nil}
use Rattle.std.specs.Prelude.{◌||◌, ◌&&◌, not, nat_eq, nat_lt, nat_le}
use Rattle.std.specs.List.{list_any, list_all}
use Rattle.std.specs.Ordering.{nat_cmp, eq_by_cmp}
use Rattle.lrs_inventory.specs.Prelude.{each_two, insert_by, Link, Ground, meets, is_route_course, differs, Image, contains_key, state_of, attempt, ◌>>◌, is_on_a_link, RouteCourse, are_courses, IsSound, with_difference, IsOrderly}
use Rattle.lrs_machine.specs.declared.answer.Cause.TheVariants as cause
use Rattle.lrs_machine.specs.declared.command.Command.TheVariants as verb
use Rattle.lrs_measure.specs.Limits.{most_routes}
use Rattle.lrs_machine.specs.Register.{insert}
use Rattle.lrs_machine.specs.Image.{link_entry}
use Rattle.lrs_machine.specs.Machine.{refuse_if}
use Rattle.lrs_machine.specs.Sound.{link_before, is_course, course_before, courses_of}
use Rattle.lrs_image_laws.proofs.Ordering.{sound_is_orderly}
use Rattle.lrs_inventory.specs.Plans.{plan_of, IsPlanOf}
use Rattle.lrs_inventory.proofs.Filed.{is_some-find_row, put-insert_by}
use Rattle.lrs_measure.specs.KeyOrder.{numbers_agree}
use Rattle.lrs_measure.proofs.Members.{all_weaker}
use Rattle.lrs_image_laws.proofs.InOrder.{and_weaker, any-insert_by, is_comparable, each_two-insert_by}
use Rattle.lrs_verbs.proofs.Unmoved.{adding, can_differ, tells}

-- the image with the link
abbrev pub with_link : Link → Image → Image
with_link l i = record i { links = insert_by link_before l i.links }

pub with_difference-link : (l : Link) (i : Image) → with_difference (adding (Some l) None) i ≡ with_link l i
with_difference-link l i = λ j. record (with_link l i) { entered = append-nil i.entered j; gone = append-nil i.gone j }

abbrev pub has_number : ℕ → Link → Bool
has_number n l = nat_eq n l.number

ties : (n : ℕ) (links : List Link) → list_any (λ l. eq_by_cmp nat_cmp n l.number) links ≡ list_any (has_number n) links
ties n [] = refl
ties n (l ∷ ls) = λ j. unsigned_tied n l.number j || ties n ls j

pub knows : (n : ℕ) (i : Image) → contains_key (state_of i).links n ≡ list_any (has_number n) i.links
unfolding state_of
knows n i = is_some-find_row nat_cmp_total nat_cmp-IsAntisymmetric link_entry i.links n ∙ ties n i.links

-- the state has the link too
state-with_link : (l : Link) (i : Image) → list_any (has_number l.number) i.links ≡ false
    → record (state_of i) { links = insert (state_of i).links l.number l.length } ≡ state_of (with_link l i)
unfolding state_of
state-with_link l i fresh =
    ap (λ rows. record (state_of i) { links = record { rows = rows } }) (put-insert_by nat_cmp_total nat_cmp-IsAntisymmetric link_entry link_before (λ a b. numbers_agree a.number b.number) l i.links (ties l.number i.links ∙ fresh))

-- The verb refuses a known link, and else makes it.
pub refuses_known : (l : Link) (i : Image) (n : ℕ) → contains_key (state_of i).links l.number ≡ true → attempt n (verb.Link l) (state_of i) ≡ Err cause.LinkKnown
unfolding attempt
refuses_known l i n known =
    ap (λ b. refuse_if b cause.LinkKnown >> Ok (record (state_of i) { links = insert (state_of i).links l.number l.length })) known

makes_new : (l : Link) (i : Image) (n : ℕ) → contains_key (state_of i).links l.number ≡ false → attempt n (verb.Link l) (state_of i) ≡ Ok (state_of (with_difference (adding (Some l) None) i))
unfolding attempt
makes_new l i n fresh =
    ap (λ b. refuse_if b cause.LinkKnown >> Ok (record (state_of i) { links = insert (state_of i).links l.number l.length })) fresh
    ∙ ap Ok (state-with_link l i (sym (knows l.number i) ∙ fresh) ∙ ap state_of (sym (with_difference-link l i)))

-- other numbers stand in an order with this one
others : (l : Link) (links : List Link) → list_any (has_number l.number) links ≡ false → is_comparable link_before l links ≡ true
others l [] fresh = refl
others l (k ∷ ks) fresh =
    let apart = or_parts (has_number l.number k) (list_any (has_number l.number) ks) fresh in
    and_from (link_before l k || link_before k l) (is_comparable link_before l ks) (either l.number k.number apart.0) (others l ks apart.1)
  where
    either : (m n : ℕ) → nat_eq m n ≡ false → (nat_lt m n || nat_lt n m) ≡ true
    either m n h = grind (arith, nat_tests)

chain : (a b c : Link) → link_before a b ≡ true → link_before b c ≡ true → link_before a c ≡ true
chain a b c h k = grind (arith, nat_tests)

module _ (l : Link) (i : Image) (fresh : list_any (has_number l.number) i.links ≡ false) (o : IsOrderly i) where
  abbrev new : List Link
  new = insert_by link_before l i.links

  still_on : (g : Ground) → is_on_a_link i.links g ≡ true → is_on_a_link new g ≡ true
  still_on g h = any-insert_by (λ k. nat_eq k.number g.link && nat_lt g.mm k.length) link_before l i.links h

  still_course : (c : RouteCourse) → is_course i.links c ≡ true → is_course new c ≡ true
  still_course c h =
      and_weaker (is_route_course c.entries && list_all (is_on_a_link i.links) c.entries) (each_two differs c.entries) (is_route_course c.entries && list_all (is_on_a_link new) c.entries) (each_two differs c.entries)
      (and_weaker (is_route_course c.entries) (list_all (is_on_a_link i.links) c.entries) (is_route_course c.entries) (list_all (is_on_a_link new) c.entries) (λ k. k) (all_weaker (is_on_a_link i.links) (is_on_a_link new) c.entries still_on))
      (λ k. k) h

  still_courses : (cs : List RouteCourse) → are_courses i.links cs ≡ true → are_courses new cs ≡ true
  still_courses cs h =
      let free = each_two (λ c d. not (meets c.entries d.entries)) cs in
      let few = nat_le (length cs) most_routes in
      and_weaker (each_two course_before cs && list_all (is_course i.links) cs && free) few (each_two course_before cs && list_all (is_course new) cs && free) few
      (and_weaker (each_two course_before cs && list_all (is_course i.links) cs) free (each_two course_before cs && list_all (is_course new) cs) free
      (and_weaker (each_two course_before cs) (list_all (is_course i.links) cs) (each_two course_before cs) (list_all (is_course new) cs) (λ k. k) (all_weaker (is_course i.links) (is_course new) cs still_course))
      (λ k. k))
      (λ k. k) h

  stays_orderly : IsOrderly (with_link l i)
  stays_orderly = record {
    links = each_two-insert_by link_before chain l i.links (others l i.links fresh) o.links;
    classes = o.classes;
    assets = o.assets;
    courses = still_courses (courses_of i) o.courses;
    marks = o.marks;
    referents = o.referents;
    spans = o.spans;
    entered_order = o.entered_order;
    entered_filled = o.entered_filled;
    entered_apart = o.entered_apart;
    entered_few = o.entered_few;
    gone_order = o.gone_order;
    gone_filled = o.gone_filled;
    gone_apart = o.gone_apart;
    keys = o.keys;
    few_edits = o.few_edits;
  }

pub makes : (l : Link) (i : Image) → contains_key (state_of i).links l.number ≡ false → IsSound i → IsPlanOf (verb.Link l) i (plan_of (adding (Some l) None))
makes l i fresh s = record {
  makes = record {
    state = makes_new l i (length i.edits + 1) fresh;
    edits = refl;
    orderly = λ room. subst IsOrderly (sym (with_difference-link l i)) (stays_orderly l i (sym (knows l.number i) ∙ fresh) (sound_is_orderly i s));
  };
  differ = can_differ (adding (Some l) None) i refl tt s;
  tells = tells (Some l) None i;
}
