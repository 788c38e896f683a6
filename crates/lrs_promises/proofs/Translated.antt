-- What a position is translated to is one answer.
use Rattle.std.proofs.Common.{◌≡◌, ℕ, ◌<◌, Bool, true, false, pos, unsigned_abs, [], ◌∷◌, length, Option, Some, None, Result, Ok, Err, refl, sym, ap, subst, ◌∙◌, arith}
use Rattle.std.specs.Prelude.{IsOkAnd, MatchOption, MatchResult, codes, if◌then◌else◌}
use Rattle.std.specs.Option.{ok_or, option_map}
use Rattle.lrs_measure.specs.Fraction.{Fraction, IsLowest, IsQuotient}
use Rattle.lrs_measure.specs.Texts.{Name}
use Rattle.lrs_element.specs.declared.link.Ground.{Ground}
use Rattle.lrs_position.specs.LinkPositions.{IsLinkPosition, LiesOn, across}
use Rattle.lrs_position.specs.Locations.{Alignment, cell, is_too_fine, lacks_referent, located, located_or_fault}
use Rattle.lrs_position.specs.Readings.{States, target_text}
use Rattle.lrs_position.specs.Translations.{IsAnswer, IsExpression, Expresses, RoundTrip, Translates, alignment_of, express_fault, number_of}
use Rattle.lrs_position.specs.declared.expression.Expr.{Expr}
use Rattle.lrs_position.specs.declared.expression.Expr.TheVariants.{Abs, Rel, Int}
use Rattle.lrs_position.specs.declared.expression.Method.{Method}
use Rattle.lrs_position.specs.declared.expression.Method.TheVariants as method
use Rattle.lrs_position.specs.declared.expression.Target.{Target}
use Rattle.lrs_position.specs.declared.expression.Target.TheVariants as target
use Rattle.lrs_position.specs.declared.location.PlaceFault.{PlaceFault}
use Rattle.lrs_position.specs.declared.location.PlaceFault.TheVariants.{NoRef, OffRoute, TooFine}
use Rattle.lrs_position.proofs.Answering.{IsSound-from_route}
use Rattle.lrs_position.proofs.Located.{IsSound, Locates-within, located-sound}
use Rattle.lrs_position.proofs.RoundTrips.{same_place}
use Rattle.lrs_machine.proofs.Joined.{starts_with}
use Rattle.lrs_machine.specs.Image.{state_of}
use Rattle.lrs_machine.specs.Lines.{Text}
use Rattle.lrs_machine.specs.Machine.{referent_chainage}
use Rattle.lrs_machine.specs.Register.{get}
use Rattle.lrs_machine.specs.State.{State}
use Rattle.lrs_machine.specs.declared.image.Image.{Image}
use Rattle.lrs_machine.specs.declared.image.RouteRow.{RouteRow}
use Rattle.lrs_machine.specs.declared.question.Destination.{Destination}
use Rattle.lrs_machine.specs.declared.question.Destination.TheVariants as destination
use Rattle.lrs_report_answers.specs.Answers.{AsksRoute, as_asked, route_missing}
use Rattle.lrs_report_answers.specs.ToldAnswers.{IsOnLink, IsTranslated, Tells}
use Rattle.lrs_report_answers.specs.declared.fault.AskFault.{AskFault}
use Rattle.lrs_report_answers.specs.declared.told.Told.{Told}
use Rattle.lrs_report_answers.specs.declared.told.Told.TheVariants as told
use Rattle.lrs_report_answers.proofs.Asked.{route_is}
use Rattle.lrs_web_requests.specs.Query.{parameter}
use Rattle.lrs_web_requests.specs.Text.{Answer}
use Rattle.lrs_web_requests.specs.declared.paths.Format.{Format}
use Rattle.lrs_web_replies.specs.QuestionAnswers.{IsReplyTo}
use Rattle.lrs_web_replies.specs.declared.pages.Page.{Page}
use Rattle.lrs_web_replies.specs.Questions.{GivesPosition, Said, SaysDestination}
use Rattle.lrs_promises.proofs.Once.{OneUnlessMemory, ok_is_not_err, same_some, some_is_not_none, told_once}
use Rattle.lrs_promises.proofs.Places.{expressed_once}

-- ---- what a text says

abbrev behind : Text → Text
behind (a ∷ b ∷ c ∷ d ∷ name) = name
behind text = []

abbrev destination_from : Text → Destination
destination_from text =
    if starts_with 97 text then destination.Method target.Abs
    else if starts_with 105 text then destination.Method target.Int
    else if starts_with 114 text then destination.Method (target.Rel (behind text)) else destination.Link

abbrev text_of : Destination → Text
text_of (destination.Method t) = target_text t
text_of destination.Link = codes "link"

back : (d : Destination) → destination_from (text_of d) ≡ d
back (destination.Method target.Abs) = refl
back (destination.Method (target.Rel name)) = refl
back (destination.Method target.Int) = refl
back destination.Link = refl

text_is : (text : Text) (d : Destination) → SaysDestination text d → text ≡ text_of d
text_is text (destination.Method t) h = h.0
text_is text destination.Link h = h

pub one_destination : (text : Text) (d e : Destination) → SaysDestination text d → SaysDestination text e → d ≡ e
one_destination text d e h g = sym (back d) ∙ ap destination_from (sym (text_is text d h) ∙ text_is text e g) ∙ back e

-- an expression that a text states has a denominator
pub stated_above : (m : Method) (text : Text) (e : Expr) → States m text e → 0 < (number_of e).den
stated_above method.Abs text (Abs m) h = let low : 0 < 1 = omega arith in subst (λ (f : Fraction). 0 < f.den) (sym h.value) low
stated_above method.Abs text (Rel name t) h = absurd h
stated_above method.Abs text (Int p) h = absurd h
stated_above method.Rel text (Abs m) h = absurd h
stated_above method.Rel text (Rel name t) h = let low : 0 < 1 = omega arith in subst (λ (f : Fraction). 0 < f.den) (sym h.value) low
stated_above method.Rel text (Int p) h = absurd h
stated_above method.Int text (Abs m) h = absurd h
stated_above method.Int text (Rel name t) h = absurd h
stated_above method.Int text (Int p) h = h.lowest.positive

said_above : (m : Method) (o : Option Text) (e : Expr) → Said (States m) o e → 0 < (number_of e).den
said_above m None e h = absurd h
said_above m (Some text) e h = stated_above m text e h

pub position_above : (query : Text) (e : Expr) → GivesPosition query e → 0 < (number_of e).den
position_above query e (m, by, states) = said_above m (parameter (codes "pos") query) e states

-- ---- where a position is

lowest_of : (found : Result (ℕ × ℕ) PlaceFault) (x : Fraction) → IsAnswer found (Ok x) → IsLowest x
lowest_of (Ok (n, d)) x h = h.1
lowest_of (Err fault) x h = absurd (ok_is_not_err x fault h)

found_once : (lacks fine : Bool) (o : Option (ℕ × ℕ)) → ((y : ℕ × ℕ) → o ≡ Some y → 0 < y.1) → (p q : Result Fraction PlaceFault)
    → IsAnswer (if lacks then Err NoRef else if fine then Err TooFine else ok_or o OffRoute) p → IsAnswer (if lacks then Err NoRef else if fine then Err TooFine else ok_or o OffRoute) q → p ≡ q
found_once true fine o above p q h g = h ∙ sym g
found_once false true o above p q h g = h ∙ sym g
found_once false false None above p q h g = h ∙ sym g
found_once false false (Some (n, d)) above (Ok x) (Ok z) h g = ap (λ (f : Fraction). Ok f) (same_place x z n d (above (n, d) refl) h.1 g.1 h.0 g.0)
found_once false false (Some (n, d)) above (Ok x) (Err fault) h g = absurd g
found_once false false (Some (n, d)) above (Err fault) q h g = absurd h

module _ (a : Alignment) (on : Name → Option ℕ) (e : Expr) (sound : IsSound a) (above : 0 < (number_of e).den) where
  place_once : (p q : Result Fraction PlaceFault) → IsAnswer (located_or_fault a on e) p → IsAnswer (located_or_fault a on e) q → p ≡ q
  place_once = found_once (lacks_referent on e) (is_too_fine e) (located a on e) (λ y at. (Locates-within a on e y sound above (located-sound a on e y sound above at)).0)

  expression_by : (x : Fraction) (t : Target) (o : Option PlaceFault) (r q : Result Expr PlaceFault) → MatchOption o (IsOkAnd r (Expresses a on x t)) (λ fault. r ≡ Err fault) → MatchOption o (IsOkAnd q (Expresses a on x t)) (λ fault. q ≡ Err fault) → r ≡ q
  expression_by x t None (Ok f) (Ok g) h k = ap (λ (y : Expr). Ok y) (expressed_once a on x t f g sound h k)
  expression_by x t None (Ok f) (Err fault) h k = absurd k
  expression_by x t None (Err fault) q h k = absurd h
  expression_by x t (Some fault) r q h k = h ∙ sym k

  expression_once : (t : Target) (place : Result Fraction PlaceFault) (r q : Result Expr PlaceFault) → MatchResult place (λ x. IsExpression a on x t r) (λ fault. r ≡ Err fault) → MatchResult place (λ x. IsExpression a on x t q) (λ fault. q ≡ Err fault) → r ≡ q
  expression_once t (Ok x) r q h k = expression_by x t (express_fault a on x t) r q h k
  expression_once t (Err fault) r q h k = h ∙ sym k

  translates_once : (t : Target) (r q : Result Expr PlaceFault) → Translates a on e t r → Translates a on e t q → r ≡ q
  translates_once t r q h k =
      expression_once t h.0 r q h.2 (subst (λ p. MatchResult p (λ x. IsExpression a on x t q) (λ fault. q ≡ Err fault)) (sym (place_once h.0 k.0 h.1 k.1)) k.2)

  lies_once : (x : Fraction) → IsLowest x → (p q : ℕ × Fraction) → LiesOn a.course x p.0 p.1 → LiesOn a.course x q.0 q.1 → p ≡ q
  lies_once x low p q h k =
      let at = cell (length a.course) (unsigned_abs x.num, x.den) in
      let ground : h.ground ≡ k.ground = same_some h.ground k.ground (sym h.stands ∙ k.stands) in
      let links : p.0 ≡ q.0 = h.same_link ∙ ap (λ (g : Ground). g.link) ground ∙ sym k.same_link in
      let value = subst (λ (g : Ground). IsQuotient p.1 (pos (across g.forward at g.mm (unsigned_abs x.num, x.den))) x.den) ground h.value in
      let distances = same_place p.1 q.1 (across k.ground.forward at k.ground.mm (unsigned_abs x.num, x.den)) x.den low.positive h.lowest k.lowest value k.value in
      λ i. (links i, distances i)

  link_once_by : (place : Result Fraction PlaceFault) → ((x : Fraction) → place ≡ Ok x → IsLowest x) → (r q : Result (ℕ × Fraction) PlaceFault)
      → MatchResult place (λ x. IsOkAnd r (λ p. LiesOn a.course x p.0 p.1)) (λ fault. r ≡ Err fault) → MatchResult place (λ x. IsOkAnd q (λ p. LiesOn a.course x p.0 p.1)) (λ fault. q ≡ Err fault) → r ≡ q
  link_once_by (Ok x) low (Ok p) (Ok q) h k = ap (λ (y : ℕ × Fraction). Ok y) (lies_once x (low x refl) p q h k)
  link_once_by (Ok x) low (Ok p) (Err fault) h k = absurd k
  link_once_by (Ok x) low (Err fault) q h k = absurd h
  link_once_by (Err fault) low r q h k = h ∙ sym k

  link_once : (r q : Result (ℕ × Fraction) PlaceFault) → IsLinkPosition a on e r → IsLinkPosition a on e q → r ≡ q
  link_once r q h k =
      link_once_by h.0 (λ x is. lowest_of (located_or_fault a on e) x (subst (IsAnswer (located_or_fault a on e)) is h.1)) r q h.2
      (subst (λ p. MatchResult p (λ x. IsOkAnd q (λ p. LiesOn a.course x p.0 p.1)) (λ fault. q ≡ Err fault)) (sym (place_once h.0 k.0 h.1 k.1)) k.2)

-- ---- of the route of a name

asks_once : {A : Type 0} (s : State) (name : Name) (Answers : Alignment → (Name → Option ℕ) → Result A PlaceFault → Type 0)
    → ((a : Alignment) → get s.routes name ≡ Some a → (x y : Result A PlaceFault) → Answers a (referent_chainage s a) x → Answers a (referent_chainage s a) y → x ≡ y) → OneUnlessMemory (AsksRoute s name Answers)
asks_once {A} s name Answers once r q h g some also = by (get s.routes name) refl h g
  where
    by : (o : Option Alignment) → get s.routes name ≡ o
        → MatchOption o (r ≡ Err route_missing) (λ a. (answer : Result A PlaceFault) × Answers a (referent_chainage s a) answer × (r ≡ as_asked answer))
        → MatchOption o (q ≡ Err route_missing) (λ a. (answer : Result A PlaceFault) × Answers a (referent_chainage s a) answer × (q ≡ as_asked answer)) → r ≡ q
    by None there x y = x ∙ sym y
    by (Some a) there (x, is, same) (y, is', same') = same ∙ ap as_asked (once a there x y is is') ∙ sym same'

-- the routes of an image are sound
sound_route : (i : Image) (name : Name) (a : Alignment) → get (state_of i).routes name ≡ Some a → IsSound a
sound_route i name a there = by _ (route_is i name _ refl)
  where
    by : (o : Option RouteRow) → option_map (λ e. alignment_of e.route) o ≡ get (state_of i).routes name → IsSound a
    by None is = absurd (some_is_not_none a (sym there ∙ sym is))
    by (Some r) is = subst IsSound (same_some (alignment_of r.route) a (is ∙ there)) (IsSound-from_route r.route)

-- what a question for a position by another method, or on its link, is told
abbrev pub TellsTranslated : State → Name → Expr → Destination → Result Told AskFault → Type 0
TellsTranslated s route e (destination.Method t) = Tells (IsTranslated s route e t) (told.Translated route)
TellsTranslated s route e destination.Link = Tells (IsOnLink s route e) (λ on. told.OnLink route on.0 on.1)

pub by_method_once : (i : Image) (route : Name) (e : Expr) (t : Target) → 0 < (number_of e).den → OneUnlessMemory (IsTranslated (state_of i) route e t)
by_method_once i route e t above = asks_once (state_of i) route (λ al on found. Translates al on e t found × RoundTrip al on e t found)
    (λ al there x y h k. translates_once al (referent_chainage (state_of i) al) e (sound_route i route al there) above t x y h.0 k.0)

pub on_link_once : (i : Image) (route : Name) (e : Expr) → 0 < (number_of e).den → OneUnlessMemory (IsOnLink (state_of i) route e)
on_link_once i route e above = asks_once (state_of i) route (λ al on found. IsLinkPosition al on e found)
    (λ al there x y h k. link_once al (referent_chainage (state_of i) al) e (sound_route i route al there) above x y h k)

pub translated_once : (format : Format) (page : Page) (i : Image) (route : Name) (e : Expr) (to : Destination) → 0 < (number_of e).den → (a b : Answer) → (a.status ≡ 503 → ⊥) → (b.status ≡ 503 → ⊥) → (said other : Result Told AskFault)
    → TellsTranslated (state_of i) route e to said → TellsTranslated (state_of i) route e to other → IsReplyTo format page said a → IsReplyTo format page other b → a ≡ b
translated_once format page i route e (destination.Method t) above = told_once format page (IsTranslated (state_of i) route e t) (told.Translated route) (by_method_once i route e t above) (λ x c d p q. p ∙ sym q)
translated_once format page i route e destination.Link above = told_once format page (IsOnLink (state_of i) route e) (λ on. told.OnLink route on.0 on.1) (on_link_once i route e above) (λ x c d p q. p ∙ sym q)
