-- Referents that stand on a part of a route's ground, by their names.
use Rattle.std.proofs.Common.{◌≡◌, Bool, true, false, cond, ◌⊎◌, inl, inr, List, Option, Some, None, refl, sym, ap, subst, ◌∙◌}
use Rattle.std.specs.List.{list_any, flat_map}
use Rattle.std.specs.FinMap.{find}
use Rattle.std.specs.Cmp.Lexicographic.{bytes_decides}
use Rattle.std.proofs.lemmas.Bool.{both_ways, not-true, cases_Bool}
use Rattle.std.proofs.lemmas.Map.Lookups.{exact_bytes}
use Rattle.lrs_measure.specs.Texts.{Name, name_cmp, same_name}
use Rattle.lrs_measure.specs.Lists.{In}
use Rattle.lrs_measure.proofs.Members.{flat_map_found}
use Rattle.lrs_element.specs.declared.link.Ground.{Ground}
use Rattle.lrs_element.specs.Course.{Millimetre, runs_over}
use Rattle.lrs_position.specs.declared.route.Referent.{Referent}
use Rattle.lrs_machine.specs.declared.image.RouteRow.{RouteRow}
use Rattle.lrs_machine.specs.declared.image.Image.{Image}
use Rattle.lrs_machine.specs.Image.{state_of, referents_on}
use Rattle.lrs_machine.specs.Machine.{elsewhere}
use Rattle.lrs_machine.specs.Sound.{IsSound}
use Rattle.lrs_machine.proofs.Finding.{find_found}
use Rattle.lrs_image_laws.proofs.Listed.{made_two}
use Rattle.lrs_image_laws.proofs.Rewriting.{are_unlike, refs_at, old_far, old_unlike}
use Rattle.lrs_image_laws.proofs.Running.{found_one}
use Rattle.lrs_image_laws.proofs.Standing.{named_of}
use Rattle.lrs_image_laws.proofs.Leaving.{stands_on}

-- Names that say of the route's referents whether they stand on the part.
pub record AreNamed (r : RouteRow) (part : List Ground) (names : List Name) : Type 0 where
  pub theirs : (x : Millimetre) → runs_over part x ≡ true → runs_over r.route.course x ≡ true
  pub there : (q : Name × Millimetre) → In q (referents_on r) → list_any (same_name q.0) names ≡ runs_over part q.1
  pub known : (name : Name) → list_any (same_name name) names ≡ true → (x : Millimetre) × In (name, x) (referents_on r)

module _ (i : Image) (r : RouteRow) (part : List Ground) (names : List Name) (s : IsSound i) (m : In r i.routes) (named : AreNamed r part names) where
  abbrev olds : List (Name × Millimetre)
  olds = flat_map referents_on i.routes

  same_route : (d e : RouteRow) → Some d ≡ Some e → d ≡ e
  same_route d e h = cc

  -- a route that runs over a millimetre of the part is this one
  runs_there : (d : RouteRow) (x : Millimetre) → In d i.routes → runs_over d.route.course x ≡ true → runs_over part x ≡ true → d ≡ r
  runs_there d x k on h = same_route d r (sym (found_one x d i.routes (old_far i s) k on) ∙ found_one x r i.routes (old_far i s) m (named.theirs x h))

  -- ... and so is one that has a referent of one of the names
  has_name : (d : RouteRow) (name : Name) (x y : Millimetre) → In d i.routes → In (name, x) (referents_on d) → In (name, y) (referents_on r) → d ≡ r
  has_name d name x y k h l =
      let a = named_of d.route.course d.route.refs (name, x) h in
      let b = named_of r.route.course r.route.refs (name, y) l in
      by a.0 b.0 ((bytes_decides a.0.name b.0.name).1 (sym a.2 ∙ b.2)) ((bytes_decides b.0.name a.0.name).1 (sym b.2 ∙ a.2)) (made_two are_unlike refs_at d r i.routes a.0 b.0 (old_unlike i s) k m a.1 b.1)
    where
      by : (a b : Referent) → same_name a.name b.name ≡ true → same_name b.name a.name ≡ true → (d ≡ r) ⊎ ((are_unlike a b ≡ true) ⊎ (are_unlike b a ≡ true)) → d ≡ r
      by a b e f (inl same) = same
      by a b e f (inr (inl t)) = absurd (both_ways (same_name a.name b.name) (not-true (same_name a.name b.name) t) e)
      by a b e f (inr (inr t)) = absurd (both_ways (same_name b.name a.name) (not-true (same_name b.name a.name) t) f)

  abbrev is_told : Name → Bool
  is_told name = list_any (same_name name) names

  -- Those of the names stand on the part, and no others do.
  named_off : (name : Name) → elsewhere part (find name_cmp name olds) ≡ cond (is_told name) None (find name_cmp name olds)
  named_off name = by (find name_cmp name olds) refl
    where
      nothing : (b : Bool) → ◌≡◌ {A = Option Millimetre} None (cond b None None)
      nothing true = refl
      nothing false = refl

      of : (x : Millimetre) (d : RouteRow) → In d i.routes → In (name, x) (referents_on d) → is_told name ≡ runs_over part x
      of x d k h = of_cases (cases_Bool (is_told name)) (cases_Bool (runs_over part x))
        where
          ours : d ≡ r → is_told name ≡ runs_over part x
          ours same = named.there (name, x) (subst (λ e. In (name, x) (referents_on e)) same h)

          of_cases : (is_told name ≡ true) ⊎ (is_told name ≡ false) → (runs_over part x ≡ true) ⊎ (runs_over part x ≡ false) → is_told name ≡ runs_over part x
          of_cases (inl a) b = let y = named.known name a in ours (has_name d name x y.0 k h y.1)
          of_cases (inr a) (inl b) = ours (runs_there d x k (stands_on d (name, x) h) b)
          of_cases (inr a) (inr b) = a ∙ sym b

      by : (o : Option Millimetre) → find name_cmp name olds ≡ o → elsewhere part (find name_cmp name olds) ≡ cond (is_told name) None (find name_cmp name olds)
      by None is = ap (elsewhere part) is ∙ nothing (is_told name) ∙ sym (ap (cond (is_told name) None) is)
      by (Some x) is =
          let d = flat_map_found referents_on (name, x) i.routes (find_found exact_bytes name x olds is) in
          ap (elsewhere part) is ∙ ap (λ b. cond b None (Some x)) (sym (of x d.0 d.1 d.2)) ∙ sym (ap (cond (is_told name) None) is)

  pub named_leave : (name : Name) → elsewhere part ((state_of i).referents name) ≡ cond (list_any (same_name name) names) None ((state_of i).referents name)
  unfolding state_of
  named_leave name = named_off name
