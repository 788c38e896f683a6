-- What is at a place is one answer, and so are the lengths of values and of their combinations.
use Rattle.std.proofs.Common.{◌≡◌, ℕ, pos, unsigned_abs, List, [], ◌∷◌, Option, None, Some, Result, Ok, Err, refl, sym, ap, subst, ◌∙◌}
use Rattle.std.specs.Prelude.{MatchResult}
use Rattle.std.specs.List.{AllZip}
use Rattle.lrs_measure.specs.Fraction.{Fraction}
use Rattle.lrs_measure.specs.Texts.{Name}
use Rattle.lrs_position.specs.Locations.{Alignment, Locates}
use Rattle.lrs_position.specs.Readings.{whole}
use Rattle.lrs_position.specs.Translations.{Expresses, alignment_of, referent_at}
use Rattle.lrs_position.specs.declared.expression.Expr.{Expr}
use Rattle.lrs_position.specs.declared.expression.Target.{Target}
use Rattle.lrs_position.proofs.Answering.{IsSound-from_route}
use Rattle.lrs_position.proofs.Located.{IsSound, same_expression}
use Rattle.lrs_events.specs.declared.side.Side.TheVariants.{L}
use Rattle.lrs_machine.specs.Image.{state_of}
use Rattle.lrs_machine.specs.Segments.{segment_fault}
use Rattle.lrs_machine.specs.declared.segment.SegFault.{SegFault}
use Rattle.lrs_machine.specs.declared.image.Image.{Image}
use Rattle.lrs_machine.specs.declared.image.RouteRow.{RouteRow}
use Rattle.lrs_machine.specs.declared.absence.Missing.{Missing}
use Rattle.lrs_machine.specs.declared.question.AskedPlace.{AskedPlace}
use Rattle.lrs_report_lists.specs.Length.Lengths.{AreLengths}
use Rattle.lrs_report_lists.proofs.Length.Unique.{are_unique}
use Rattle.lrs_report_answers.specs.Answers.{UnlessMemory, UnlessMissing}
use Rattle.lrs_report_answers.specs.Combinations.{AreCombinations, AreCombinationsOf}
use Rattle.lrs_report_answers.specs.Listings.{AreLengthsOf, missing_route}
use Rattle.lrs_report_answers.specs.Place.Answers.{IsPosition, IsThere, IsWhereabouts, targets_of}
use Rattle.lrs_report_answers.specs.Place.Places.{Spot, place_of}
use Rattle.lrs_report_answers.specs.RouteSegments.{UnlessRefused, class_list}
use Rattle.lrs_report_answers.specs.declared.fault.AskFault.{AskFault}
use Rattle.lrs_report_answers.specs.declared.places.answer.Whereabouts.{Whereabouts}
use Rattle.lrs_report_answers.proofs.Combined.{combinations_unique}
use Rattle.lrs_promises.proofs.Once.{OneUnlessMemory, stands_once, unless_memory}

-- a chainage of a sound route is expressed once by a target
pub expressed_once : (a : Alignment) (on : Name → Option ℕ) (x : Fraction) (target : Target) (e f : Expr) → IsSound a → Expresses a on x target e → Expresses a on x target f → e ≡ f
expressed_once a on x target e f sound h g =
    let n = h.located in
    let m = g.located in
    let same : n.0 ≡ m.0 = ap unsigned_abs (sym n.1 ∙ m.1) in
    same_expression a on e f (m.0, x.den) sound h.lowest g.lowest (h.method ∙ sym g.method) (subst (λ k. Locates a on e (k, x.den)) same n.2) m.2

all_once : {A B : Type 0} (R : A → B → Type 0) → ((x : A) (y z : B) → R x y → R x z → y ≡ z) → (xs : List A) (ys zs : List B) → AllZip R xs ys → AllZip R xs zs → ys ≡ zs
all_once R one [] [] [] h g = refl
all_once R one [] [] (z ∷ zs) h g = absurd g
all_once R one [] (y ∷ ys) zs h g = absurd h
all_once R one (x ∷ xs) [] zs h g = absurd h
all_once R one (x ∷ xs) (y ∷ ys) [] h g = absurd g
all_once R one (x ∷ xs) (y ∷ ys) (z ∷ zs) h g = λ i. one x y z h.0 g.0 i ∷ all_once R one xs ys zs h.1 g.1 i

there_once : (i : Image) (e : RouteRow) (chainage : ℕ) (v w : Whereabouts) → IsThere i e chainage v → IsThere i e chainage w → v ≡ w
there_once i e chainage v w h g =
    let route : v.route ≡ w.route = h.on ∙ sym g.on in
    let found = stands_once (state_of i) (alignment_of e.route) (chainage, 1) v.found w.found h.stands g.stands in
    let positions = all_once (IsPosition e.route chainage)
    (λ target x y p q. expressed_once (alignment_of e.route) (referent_at e.route.refs) (whole (pos chainage)) target x y (IsSound-from_route e.route) p q)
    (targets_of e.route.refs) v.positions w.positions h.by_targets g.by_targets in
    λ k. record { route = route k; found = found k; positions = positions k }

there_once_or : (i : Image) (place : Result Spot AskFault) → OneUnlessMemory (λ result. MatchResult place (λ at. UnlessMemory (IsThere i at.0 at.1) result) (λ fault. result ≡ Err fault))
there_once_or i (Ok (e, chainage)) = unless_memory (IsThere i e chainage) (there_once i e chainage)
there_once_or i (Err fault) = λ r q h g some also. h ∙ sym g

-- what is at the place of a spot
pub where_once : (i : Image) (s : AskedPlace) → OneUnlessMemory (IsWhereabouts i s)
where_once i s = there_once_or i (place_of i s)

-- the lengths of values
pub lengths_once : (i : Image) (route : Option Name) → OneUnlessMemory (AreLengthsOf i route)
lengths_once i route = by (missing_route i route)
  where
    by : (o : Option Missing) → OneUnlessMemory (UnlessMissing o (UnlessMemory (AreLengths route i)))
    by None = unless_memory (AreLengths route i) (λ x y h g. are_unique route i x y h g)
    by (Some what) = λ r q h g some also. h ∙ sym g

-- ... and of their combinations
pub combinations_once : (i : Image) (route : Option Name) (classes : List Name) → OneUnlessMemory (AreCombinationsOf i route classes)
combinations_once i route classes = by (missing_route i route) (segment_fault (class_list (state_of i)) classes L)
  where
    by : (o : Option Missing) (refuses : Option SegFault) → OneUnlessMemory (UnlessMissing o (UnlessRefused refuses (UnlessMemory (AreCombinations i route classes))))
    by None None = unless_memory (AreCombinations i route classes) (λ x y h g. combinations_unique i route classes x y h g)
    by None (Some fault) = λ r q h g some also. h ∙ sym g
    by (Some what) refuses = λ r q h g some also. h ∙ sym g
