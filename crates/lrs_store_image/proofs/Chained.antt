-- Tables that are read one after the other, each beside those before it.
use Rattle.std.proofs.Common.{◌≡◌, ◌⊎◌, inl, inr, Bool, Option, Some, None, Result, Ok, Err, List, true, false, refl, sym, ap, subst, ◌∙◌}
use Rattle.std.specs.List.{list_all}
use Rattle.std.proofs.lemmas.Bool.{and_parts, cases_Bool}
use Rattle.lrs_measure.specs.Lists.{each_two}
use Rattle.lrs_position.specs.declared.route.Route.{Route}
use Rattle.lrs_position.specs.Routes.{is_route_course}
use Rattle.lrs_machine.specs.declared.table.Table.{Table}
use Rattle.lrs_machine.specs.Sound.{RouteCourse, course_before}
use Rattle.lrs_machine.proofs.Pairs.{each_two-map}
use Rattle.lrs_image.specs.declared.keeper.LoadFault.{LoadFault}
use Rattle.lrs_image.specs.declared.keeper.LoadFault.TheVariants.{Memory, Store, Unsound}
use Rattle.lrs_store_tables.specs.Contents.Content.{◌>>=◌, read}
use Rattle.lrs_store_image.specs.TableReadings.{Reads}
use Rattle.lrs_store_image.specs.DecodedRoutes.Marks.{are_route_courses}
use Rattle.lrs_store_image.specs.DecodedRoutes.Referents.{courses_of_routes}
use Rattle.lrs_store_image.specs.DecodedRoutes.Spans.{named_before}

module _ {A B : Type 0} (w : Result A Table) (f : A → Result B Table) where
  -- what is not read ends the reading
  pub stops : (e : LoadFault) → Reads w (Err e) → Reads (w >>= f) (Err e)
  stops Memory h = tt
  stops Store h = h
  stops (Unsound t) h = ap (λ r. r >>= f) h

  -- what is read leads to the next
  pub leads : (x : A) (r : Result B LoadFault) → w ≡ Ok x → Reads (f x) r → Reads (w >>= f) r
  leads x r h = subst (λ v. Reads (v >>= f) r) (sym h)

  pub stops_at : (r : Result A LoadFault) (l : Result B LoadFault) (e : LoadFault) → r ≡ Err e → l ≡ Err e → Reads w r → Reads (w >>= f) l
  stops_at r l e is as_ h = subst (Reads (w >>= f)) (sym as_) (stops e (subst (Reads w) is h))

-- two steps after one are one step after both
pub in_parts : {A B C : Type 0} (w : Result A Table) (f : A → Result B Table) (g : B → Result C Table) (h : A → Result C Table) → ((x : A) → (f x >>= g) ≡ h x) → ((w >>= f) >>= g) ≡ (w >>= h)
in_parts (Ok x) f g h same = same x
in_parts (Err t) f g h same = refl

-- steps that lead to the same
pub alike : {A B : Type 0} (w : Result A Table) (f g : A → Result B Table) → ((x : A) → f x ≡ g x) → (w >>= f) ≡ (w >>= g)
alike (Ok x) f g h = h x
alike (Err t) f g h = refl

pub named_rise : (rs : List Route) → are_route_courses (courses_of_routes rs) ≡ true → each_two named_before rs ≡ true
named_rise rs h =
    sym (each_two-map course_before (λ (r : Route). let c : RouteCourse = record { route = r.name; entries = r.course } in c) rs)
    ∙ (and_parts (each_two course_before (courses_of_routes rs)) (list_all (λ (c : RouteCourse). is_route_course c.entries) (courses_of_routes rs)) h).0

-- what is read has passed the test
pub read_passes : {A : Type 0} (t : Table) (o : Option A) (test : A → Bool) (x : A) → read t o test ≡ Ok x → test x ≡ true
read_passes t None test x h = absurd (cc)
read_passes t (Some y) test x h = by (cases_Bool (test y))
  where
    by : (test y ≡ true) ⊎ (test y ≡ false) → test x ≡ true
    by (inl p) = let same : y ≡ x = cc in subst (λ z. test z ≡ true) same p
    by (inr p) = absurd (cc)

-- ... and was said by the rows
pub read_said : {A : Type 0} (t : Table) (o : Option A) (test : A → Bool) (x : A) → read t o test ≡ Ok x → o ≡ Some x
read_said t None test x h = absurd (cc)
read_said t (Some y) test x h = by (cases_Bool (test y))
  where
    by : (test y ≡ true) ⊎ (test y ≡ false) → Some y ≡ Some x
    by (inl p) = let same : y ≡ x = cc in ap Some same
    by (inr p) = absurd (cc)
