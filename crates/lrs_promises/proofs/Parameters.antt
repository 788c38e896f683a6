-- What the parameters of a query say is one thing.
use Rattle.std.proofs.Common.{◌≡◌, ℕ, List, Option, Some, None, refl, sym, ap, subst, ◌∙◌, arith}
use Rattle.std.specs.Prelude.{◌∷◌, ◌++◌, codes}
use Rattle.std.specs.Str.Parse.{IsNumeral}
use Rattle.std.proofs.lemmas.Bool.{false≢true}
use Rattle.lrs_measure.specs.Texts.{Name}
use Rattle.lrs_position.specs.Readings.{States, method_text}
use Rattle.lrs_position.specs.declared.expression.Expr.{Expr}
use Rattle.lrs_position.specs.declared.expression.Method.{Method}
use Rattle.lrs_events.specs.declared.side.LinkSide.{LinkSide}
use Rattle.lrs_events.specs.declared.side.LinkSide.TheVariants.{Left, Right}
use Rattle.lrs_events.specs.declared.side.Side.{Side}
use Rattle.lrs_machine.specs.Lines.{Text}
use Rattle.lrs_machine.specs.declared.answer.Field.TheVariants.{E}
use Rattle.lrs_position.specs.declared.expression.Method.TheVariants as method
use Rattle.lrs_machine.specs.PlaceTexts.{SaysPlace}
use Rattle.lrs_machine.specs.declared.question.GoneWanted.{GoneWanted}
use Rattle.lrs_machine.specs.declared.question.OverlayAsked.{OverlayAsked}
use Rattle.lrs_machine.specs.declared.question.Place.{Place}
use Rattle.lrs_machine.specs.declared.question.Place.TheVariants.{Chainage, Position}
use Rattle.lrs_machine.specs.declared.question.RowForm.{RowForm}
use Rattle.lrs_machine.specs.declared.question.RowsAsked.{RowsAsked}
use Rattle.lrs_machine.specs.declared.question.AskedPlace.{AskedPlace}
use Rattle.lrs_machine.specs.declared.question.AskedPlace.TheVariants as spot
use Rattle.lrs_sheet_records.specs.Shapes.{Argument, At, PositionBy, RouteSide, SideOf}
use Rattle.lrs_sheet_records.proofs.OneArgument.{one-argument, one-method}
use Rattle.lrs_promises.proofs.Once.{same_some}
use Rattle.lrs_web_requests.specs.Query.{parameter}
use Rattle.lrs_web_replies.specs.Questions.{GivesForm, GivesGone, GivesOverlay, GivesPosition, GivesPositionBy, GivesRows, form_by, GivesSpot, Said, SaidIfGiven, SaidOrFirst, SaysClass, SaysLinkSide, SaysMethod, SaysNumber, SaysRoute, SaysSide}

module _ {A : Type 0} (Says : Text → A → Type 0) (one : (text : Text) (x y : A) → Says text x → Says text y → x ≡ y) where
  pub one_said : (o : Option Text) (x y : A) → Said Says o x → Said Says o y → x ≡ y
  one_said None x y h g = absurd h
  one_said (Some text) x y h g = one text x y h g

  pub one_if_given : (o : Option Text) (x y : Option A) → SaidIfGiven Says o x → SaidIfGiven Says o y → x ≡ y
  one_if_given None None None h g = refl
  one_if_given None None (Some y) h g = absurd g
  one_if_given None (Some x) y h g = absurd h
  one_if_given (Some text) None y h g = absurd h
  one_if_given (Some text) (Some x) None h g = absurd g
  one_if_given (Some text) (Some x) (Some y) h g = ap Some (one text x y h g)

pub one_route : (text : Text) (x y : Name) → SaysRoute text x → SaysRoute text y → x ≡ y
one_route text x y h g = h.0 ∙ sym g.0

pub one_class : (text : Text) (x y : Name) → SaysClass text x → SaysClass text y → x ≡ y
one_class text x y h g = h.0 ∙ sym g.0

pub one_number : (least greatest : ℕ) (text : Text) (x y : ℕ) → SaysNumber least greatest text x → SaysNumber least greatest text y → x ≡ y
one_number least greatest text x y h g = h.value ∙ sym g.value

pub one_first : (o : Option Text) (x y : ℕ) → SaidOrFirst o x → SaidOrFirst o y → x ≡ y
one_first None x y h g = h ∙ sym g
one_first (Some text) x y h g = h.value ∙ sym g.value

same_position : (e f : Expr) → ◌≡◌ {A = Argument} (At e) (At f) → e ≡ f
same_position e f is = cc

same_side : (s t : Side) → ◌≡◌ {A = Argument} (SideOf s) (SideOf t) → s ≡ t
same_side s t is = cc

pub one_side : (text : Text) (s t : Side) → SaysSide text s → SaysSide text t → s ≡ t
one_side text s t h g = same_side s t (one-argument (λ field. text) RouteSide text (SideOf s) (SideOf t) h g)

one_expression : (m : Method) (text : Text) (e f : Expr) → States m text e → States m text f → e ≡ f
one_expression m text e f h g = same_position e f (one-argument (λ field. method_text m) (PositionBy E) text (At e) (At f) (m, refl, h) (m, refl, g))

-- ---- places

-- a method and a colon are no digits
no_digits : (m : Method) (p : Text) → IsNumeral 10 (method_text m ++ 58 ∷ p) → ⊥
no_digits method.Abs p h = let less = h.1.0 in omega (arith, less)
no_digits method.Rel p h = let less = h.1.0 in omega (arith, less)
no_digits method.Int p h = let less = h.1.0 in omega (arith, less)

first_same : (x y : ℕ) (xs ys : List ℕ) → x ∷ xs ≡ y ∷ ys → x ≡ y
first_same x y xs ys e = cc

-- the method and the position behind the colon
one_method_before : (m n : Method) (p q : Text) → method_text m ++ 58 ∷ p ≡ method_text n ++ 58 ∷ q → (m ≡ n) × (p ≡ q)
one_method_before method.Abs method.Abs p q h = (refl, cc)
one_method_before method.Rel method.Rel p q h = (refl, cc)
one_method_before method.Int method.Int p q h = (refl, cc)
one_method_before method.Abs method.Rel p q h = let same = first_same 97 114 _ _ h in (let never : ⊥ = omega (arith, same) in absurd never)
one_method_before method.Abs method.Int p q h = let same = first_same 97 105 _ _ h in (let never : ⊥ = omega (arith, same) in absurd never)
one_method_before method.Rel method.Abs p q h = let same = first_same 114 97 _ _ h in (let never : ⊥ = omega (arith, same) in absurd never)
one_method_before method.Rel method.Int p q h = let same = first_same 114 105 _ _ h in (let never : ⊥ = omega (arith, same) in absurd never)
one_method_before method.Int method.Abs p q h = let same = first_same 105 97 _ _ h in (let never : ⊥ = omega (arith, same) in absurd never)
one_method_before method.Int method.Rel p q h = let same = first_same 105 114 _ _ h in (let never : ⊥ = omega (arith, same) in absurd never)

pub one_place : (text : Text) (x y : Place) → SaysPlace text x → SaysPlace text y → x ≡ y
one_place text (Chainage c) (Chainage d) h g = ap Chainage (h.value ∙ sym g.value)
one_place text (Position e) (Position f) (m, p, is, says) (n, q, so, tells) =
    let both = one_method_before m n p q (sym is ∙ so) in
    ap Position (one_expression n q e f (coe 0 1 (k. States (both.0 k) (both.1 k) e) says) tells)
one_place text (Chainage c) (Position f) h (n, q, so, tells) = absurd (no_digits n q (subst (λ t. IsNumeral 10 t) so h.digits))
one_place text (Position e) (Chainage d) (m, p, is, says) g = absurd (no_digits m p (subst (λ t. IsNumeral 10 t) is g.digits))

one_form : (query : Text) (x y : RowForm) → GivesForm query x → GivesForm query y → x ≡ y
one_form query x y (exact, on, is, so, told) (other, off, was, too, said) =
    let a = same_some exact other (sym is ∙ was) in
    let b = same_some on off (sym so ∙ too) in
    same_some x y (sym told ∙ (λ k. form_by (a k) (b k)) ∙ said)

pub one_asked : (query : Text) (v w : RowsAsked) → GivesRows query v → GivesRows query w → v ≡ w
one_asked query v w (route, from, to, class, asset, form) (route', from', to', class', asset', form') =
    let a = one_if_given SaysRoute one_route _ v.route w.route route route' in
    let b = one_if_given SaysPlace one_place _ v.from w.from from from' in
    let c = one_if_given SaysPlace one_place _ v.to w.to to to' in
    let d = one_if_given SaysClass one_class _ v.class w.class class class' in
    let e = one_if_given _ (one_number _ _) _ v.asset w.asset asset asset' in
    let f = one_form query v.form w.form form form' in
    λ k. record { route = a k; from = b k; to = c k; class = d k; asset = e k; form = f k }

-- L is no R
one_hand : (text : Text) (s t : LinkSide) → SaysLinkSide text s → SaysLinkSide text t → s ≡ t
one_hand text Left Left h g = refl
one_hand text Right Right h g = refl
one_hand text Left Right h g = let same = first_same 76 82 _ _ (sym h ∙ g) in (let never : ⊥ = omega (arith, same) in absurd never)
one_hand text Right Left h g = let same = first_same 82 76 _ _ (sym h ∙ g) in (let never : ⊥ = omega (arith, same) in absurd never)

pub one_overlay : (query : Text) (v w : OverlayAsked) → GivesOverlay query v → GivesOverlay query w → v ≡ w
one_overlay query v w (route, side, from, to, gaps, classes) (route', side', from', to', gaps', classes') =
    let a = one_if_given SaysRoute one_route _ v.route w.route route route' in
    let b = one_if_given SaysLinkSide one_hand _ v.side w.side side side' in
    let c = one_if_given SaysPlace one_place _ v.from w.from from from' in
    let d = one_if_given SaysPlace one_place _ v.to w.to to to' in
    let e = same_some v.gaps w.gaps (sym gaps ∙ gaps') in
    let f : v.classes ≡ w.classes = classes.0 ∙ sym classes'.0 in
    λ k. record { classes = f k; route = a k; side = b k; from = c k; to = d k; gaps = e k }

pub one_gone : (query : Text) (v w : GoneWanted) → GivesGone query v → GivesGone query w → v ≡ w
one_gone query v w (edit, since, until, class) (edit', since', until', class') =
    let a = one_if_given _ (one_number _ _) _ v.edit w.edit edit edit' in
    let b = one_if_given _ (one_number _ _) _ v.since w.since since since' in
    let c = one_if_given _ (one_number _ _) _ v.until w.until until until' in
    let d = one_if_given SaysClass one_class _ v.class w.class class class' in
    λ k. record { edit = a k; since = b k; until = c k; class = d k }

pub one_position : (query : Text) (e f : Expr) → GivesPosition query e → GivesPosition query f → e ≡ f
one_position query e f (m, by, states) (n, by', states') =
    let same = one_said SaysMethod one-method (parameter (codes "method") query) m n by by' in
    one_said (States n) (one_expression n) (parameter (codes "pos") query) e f (subst (λ k. GivesPositionBy query k e) same states) states'

pub one_spot : (query : Text) (s t : AskedPlace) → GivesSpot query s → GivesSpot query t → s ≡ t
one_spot query (spot.OnLink link mm) (spot.OnLink other nn) (on, l, m) (on', l', m') =
    let links = one_said _ (one_number _ _) (parameter (codes "link") query) link other l l' in
    let millimetres = one_said _ (one_number _ _) (parameter (codes "mm") query) mm nn m m' in
    λ k. spot.OnLink (links k) (millimetres k)
one_spot query (spot.OnLink link mm) (spot.OnRoute route place) h g = absurd (false≢true (sym g.0 ∙ h.0))
one_spot query (spot.OnRoute route place) (spot.OnLink link mm) h g = absurd (false≢true (sym h.0 ∙ g.0))
one_spot query (spot.OnRoute route place) (spot.OnRoute other further) (on, r, c) (on', r', c') =
    let routes = one_said SaysRoute one_route (parameter (codes "route") query) route other r r' in
    let places = one_said SaysPlace one_place (parameter (codes "chainage") query) place further c c' in
    λ k. spot.OnRoute (routes k) (places k)
