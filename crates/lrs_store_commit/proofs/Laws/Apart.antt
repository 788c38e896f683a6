-- The routes that stay, apart from the one that changes and the one that comes.
use Rattle.std.proofs.Common.{◌≡◌, Bool, true, false, cond, not, List, [], ◌∷◌, ◌++◌, flat_map, find, refl, sym, ap, subst, ◌∙◌, IsPermutation}
use Rattle.std.specs.Prelude.{Option, Some, None, ⊤}
use Rattle.std.specs.List.{AllByRecursion, list_any, list_all}
use Rattle.std.proofs.lemmas.Bool.{and_parts, both_ways}
use Rattle.std.proofs.lemmas.List.Sorted.{IsPermutation-sym}
use Rattle.sqlite_keyed.proofs.ListLemmas.{all_from_test, all_weaker, all-filter, IsPermutation-filter, IsPermutation-flat_map}
use Rattle.lrs_measure.specs.Lists.{In, each_two}
use Rattle.lrs_measure.specs.OrderedLists.{insert_by, insert_some}
use Rattle.lrs_measure.specs.Texts.{Name, same_name}
use Rattle.lrs_measure.proofs.Members.{any_found, all_at, In-flat_map}
use Rattle.lrs_position.specs.declared.route.Referent.{Referent}
use Rattle.lrs_events.proofs.LaneLists.Inserted.{IsPermutation-insert_by}
use Rattle.lrs_machine.specs.declared.image.RouteRow.{RouteRow}
use Rattle.lrs_machine.specs.Sound.{route_before}
use Rattle.lrs_image_sound.proofs.Sweeping.{each_two-permutation}
use Rattle.lrs_image.specs.Change.{is_named, without, without_some, refers_to, are_names_of}
use Rattle.lrs_image.proofs.Named.{back_in_place, same_some}
use Rattle.lrs_store_commit.proofs.Laws.Lists.{all_members, two_weaker, two_across}
use Rattle.lrs_store_commit.proofs.Laws.Naming.{same_is, same_itself, same_turned, earlier_differs}
use Rattle.lrs_store_commit.proofs.Laws.Routes.{AreOthers}

is_false : (b : Bool) → not b ≡ true → b ≡ false
is_false b h = by b refl
  where
    by : (a : Bool) → b ≡ a → b ≡ false
    by true e = absurd (both_ways (not b) (ap not e) h)
    by false e = e

abbrev are_apart : RouteRow → RouteRow → Bool
are_apart a b = not (same_name a.route.name b.route.name)

abbrev pub differ : Referent → Referent → Bool
differ a b = not (same_name a.name b.name)

abbrev pub referents : List RouteRow → List Referent
referents routes = flat_map (λ (e : RouteRow). e.route.refs) routes

-- of routes in the order of their names, no other has the name of one
pub others_apart : (e : RouteRow) (others routes : List RouteRow) → IsPermutation routes (e ∷ others) → each_two route_before routes ≡ true → AreOthers e.route.name others
others_apart e others routes same order =
    let alike = each_two-permutation are_apart (λ a b. ap not (same_turned a.route.name b.route.name)) routes (e ∷ others) same in
    let two : each_two are_apart (e ∷ others) ≡ true = sym alike.0 ∙ two_weaker route_before are_apart (λ a b h. ap not (earlier_differs a.route.name b.route.name h)) routes order in
    all_weaker (λ (o : RouteRow). are_apart e o ≡ true) (λ (o : RouteRow). same_name o.route.name e.route.name ≡ false)
    (λ o h. same_turned o.route.name e.route.name ∙ is_false (same_name e.route.name o.route.name) h) others
    (all_from_test (are_apart e) others (and_parts (list_all (are_apart e) others) (each_two are_apart others) two).0)

pub put_in : (e : RouteRow) (others : List RouteRow) → IsPermutation (insert_by route_before e others) (e ∷ others)
put_in e others = IsPermutation-sym (e ∷ others) (insert_by route_before e others) (IsPermutation-insert_by route_before e others)

-- a route that is found, and the others
pub taken : (name : Name) (routes : List RouteRow) (e : RouteRow) → find (is_named name) routes ≡ Some e → each_two route_before routes ≡ true → IsPermutation routes (e ∷ without name routes)
taken name routes e found order =
    subst (λ l. IsPermutation l (e ∷ without name routes))
    (sym (ap (λ o. insert_some route_before o (without name routes)) found) ∙ back_in_place (λ (r : RouteRow). r.route.name) name routes order)
    (put_in e (without name routes))

find_passes : {X : Type 0} (p : X → Bool) (xs : List X) (x : X) → find p xs ≡ Some x → p x ≡ true
find_passes p [] x h = cc
find_passes {X} p (y ∷ ys) x h = by (p y) refl h (find_passes p ys x)
  where
    by : (b : Bool) → p y ≡ b → cond b (Some y) (find p ys) ≡ Some x → (find p ys ≡ Some x → p x ≡ true) → p x ≡ true
    by true e k later = subst (λ z. p z ≡ true) (same_some y x k) e
    by false e k later = later k

pub found_is_named : (name : Name) (routes : List RouteRow) (e : RouteRow) → find (is_named name) routes ≡ Some e → e.route.name ≡ name
found_is_named name routes e found = same_is e.route.name name (find_passes (is_named name) routes e found)

-- A name that goes with referents of one route is of no referent of the others.
pub gone_elsewhere : (e : RouteRow) (others routes : List RouteRow) (gone : List Name) → IsPermutation routes (e ∷ others) → each_two differ (referents routes) ≡ true → are_names_of e gone ≡ true
    → AllByRecursion (λ (o : RouteRow). AllByRecursion (λ (r : Referent). list_any (same_name r.name) gone ≡ false) o.route.refs) others
gone_elsewhere e others routes gone same once named =
    all_members (λ (o : RouteRow). AllByRecursion (λ (r : Referent). list_any (same_name r.name) gone ≡ false) o.route.refs) others
    (λ o m. all_members (λ (r : Referent). list_any (same_name r.name) gone ≡ false) o.route.refs (λ r n. kept r (In-flat_map (λ (x : RouteRow). x.route.refs) o r others m n)))
  where
    alike : each_two differ (referents routes) ≡ each_two differ (e.route.refs ++ referents others)
    alike = (each_two-permutation differ (λ a b. ap not (same_turned a.name b.name)) (referents routes) (e.route.refs ++ referents others) (IsPermutation-flat_map (λ (x : RouteRow). x.route.refs) routes (e ∷ others) same)).0

    across : list_all (λ q. list_all (differ q) (referents others)) e.route.refs ≡ true
    across = two_across differ e.route.refs (referents others) (sym alike ∙ once)

    meets : (r : Referent) → In r (referents others) → (name : Name) → In name gone → same_name r.name name ≡ true → ⊥
    meets r m name g h =
        let found = any_found (refers_to name) e.route.refs (all_at (λ n. list_any (refers_to n) e.route.refs) name gone named g) in
        let apart = all_at (differ found.0) r (referents others) (all_at (λ q. list_all (differ q) (referents others)) found.0 e.route.refs across found.1) m in
        let one = same_is found.0.name name found.2 ∙ sym (same_is r.name name h) in
        both_ways (differ found.0 r) (ap not (subst (λ n. same_name found.0.name n ≡ true) one (same_itself found.0.name))) apart

    kept : (r : Referent) → In r (referents others) → list_any (same_name r.name) gone ≡ false
    kept r m = by (list_any (same_name r.name) gone) refl
      where
        by : (b : Bool) → list_any (same_name r.name) gone ≡ b → b ≡ false
        by false h = refl
        by true h = let found = any_found (same_name r.name) gone h in absurd (meets r m found.0 found.1 found.2)

-- A route of another name stays where one goes.

abbrev pub IsKept : Option Name → Name → Type 0
IsKept None name = ⊤
IsKept (Some dropped) name = same_name name dropped ≡ false

pub kept_first : (dropped : Option Name) (e : RouteRow) (others : List RouteRow) → IsKept dropped e.route.name → without_some dropped (e ∷ others) ≡ e ∷ without_some dropped others
kept_first None e others h = refl
kept_first (Some name) e others h = ap (λ b. cond (not b) (e ∷ without name others) (without name others)) h

pub all_that_stay : (dropped : Option Name) (P : RouteRow → Type 0) (routes : List RouteRow) → AllByRecursion P routes → AllByRecursion P (without_some dropped routes)
all_that_stay None P routes h = h
all_that_stay (Some name) P routes h = all-filter P (λ e. not (is_named name e)) routes h

-- in any order, with the one that stays first
pub stays_first : (dropped : Option Name) (routes : List RouteRow) (e : RouteRow) (others : List RouteRow) → IsKept dropped e.route.name → IsPermutation routes (e ∷ others) → IsPermutation (without_some dropped routes) (e ∷ without_some dropped others)
stays_first dropped routes e others kept same = subst (IsPermutation (without_some dropped routes)) (kept_first dropped e others kept) (by dropped)
  where
    by : (name : Option Name) → IsPermutation (without_some name routes) (without_some name (e ∷ others))
    by None = same
    by (Some name) = IsPermutation-filter (λ r. not (is_named name r)) routes (e ∷ others) same
