-- A text of a shape says one argument.
use Rattle.std.proofs.Common.{◌≡◌, ℕ, ◌+◌, ◌<◌, List, [], ◌∷◌, ◌++◌, drop, refl, sym, ap, subst, ◌∙◌, inl, inr, arith}
use Rattle.std.specs.Prelude.{codes, if◌then◌else◌}
use Rattle.std.specs.Str.Parse.{IsNumeral, digits_value}
use Rattle.std.proofs.lemmas.Bool.{false≢true}
use Rattle.lrs_measure.specs.Numerals.{numerator_text, denominator_text}
use Rattle.lrs_measure.specs.Texts.{Name, same_name}
use Rattle.lrs_element.specs.declared.link.Piece.{Piece}
use Rattle.lrs_element.specs.declared.marks.Mark.{Mark}
use Rattle.lrs_position.specs.Readings.{States, method_text}
use Rattle.lrs_position.proofs.RoundTrips.{same_place}
use Rattle.lrs_position.specs.declared.expression.Expr.{Expr}
use Rattle.lrs_position.specs.declared.expression.Expr.TheVariants.{Abs, Rel, Int}
use Rattle.lrs_position.specs.declared.expression.Method.{Method}
use Rattle.lrs_position.specs.declared.expression.Method.TheVariants as method
use Rattle.lrs_position.specs.declared.expression.Target.TheVariants as target
use Rattle.lrs_events.specs.Names.{kind_text, side_text}
use Rattle.lrs_events.specs.declared.class.Kind.{Kind}
use Rattle.lrs_events.specs.declared.class.Kind.TheVariants.{Point, Stretch, Exclusive}
use Rattle.lrs_events.specs.declared.side.LinkSide.{LinkSide}
use Rattle.lrs_events.specs.declared.side.LinkSide.TheVariants.{Left, Right}
use Rattle.lrs_events.specs.declared.side.Side.{Side}
use Rattle.lrs_events.specs.declared.side.Side.TheVariants.{L, R, B}
use Rattle.lrs_machine.specs.Lines.{Text}
use Rattle.lrs_machine.specs.declared.answer.Field.{Field}
use Rattle.lrs_machine.specs.declared.question.Destination.{Destination}
use Rattle.lrs_machine.specs.declared.question.Destination.TheVariants as destination
use Rattle.lrs_machine.specs.declared.question.Place.{Place}
use Rattle.lrs_machine.specs.declared.question.Place.TheVariants.{Chainage, Position}
use Rattle.lrs_machine.specs.PlaceTexts.{SaysPlace}
use Rattle.lrs_machine.proofs.Joined.{differ, starts_with}
use Rattle.lrs_sheet_records.proofs.Said.{number-said, class-said, route-said, referent-said, value-said, kind-said, side-said, method-said, position-said, pieces-said, marks-said, classes-said, destination-said, link-or-route-said, place-said, millimetre-said, route-place-said, one-side-said, gaps-said, nothing-or-said}
use Rattle.lrs_sheet_records.proofs.Wording.{one-mark, one-piece, one-said}
use Rattle.lrs_sheet_records.specs.Records.{SayAll, text_at, texts_of}
use Rattle.lrs_sheet_records.specs.Shapes.{Argument, Nothing, Number, Word, KindOf, SideOf, MethodOf, At, PiecesOf, MarksOf, ClassesOf, DestinationOf, PlaceOf, LinkSideOf, Gaps, Shape, Whole, ClassName, RouteName, ReferentName, AssetValue, ClassKind, RouteSide, MethodName, PositionBy, Pieces, Marks, ClassNames, DestinationName, LinkOrRoute, LinkOrPlace, MillimetreOrNothing, RoutePlace, OneSide, GapsWord, OrNothing, Says, StatesBy, destination_text, link_side_text}
use Rattle.lrs_sheet_records.specs.Words.{AreSaid, IsClassWord, IsMarkText, IsPieceText, words_of}

-- the kind of a text, by its first byte
abbrev pub kind_from : Text → Kind
kind_from text = if starts_with 112 text then Point else (if starts_with 115 text then Stretch else Exclusive)

pub kind-back : (k : Kind) → kind_from (kind_text k) ≡ k
kind-back Point = refl
kind-back Stretch = refl
kind-back Exclusive = refl

-- the side of a text
abbrev pub side_from : Text → Side
side_from text = if starts_with 76 text then L else (if starts_with 82 text then R else B)

pub side-back : (s : Side) → side_from (side_text s) ≡ s
side-back L = refl
side-back R = refl
side-back B = refl

-- one side of two
abbrev pub link_side_from : Text → LinkSide
link_side_from text = if starts_with 76 text then Left else Right

pub link-side-back : (s : LinkSide) → link_side_from (link_side_text s) ≡ s
link-side-back Left = refl
link-side-back Right = refl

-- the method of a text
abbrev pub method_from : Text → Method
method_from text = if starts_with 97 text then method.Abs else (if starts_with 114 text then method.Rel else method.Int)

pub method-back : (m : Method) → method_from (method_text m) ≡ m
method-back method.Abs = refl
method-back method.Rel = refl
method-back method.Int = refl

-- a text names one kind
one-kind : (text : Text) (k l : Kind) → text ≡ kind_text k → text ≡ kind_text l → k ≡ l
one-kind text k l p q = sym (kind-back k) ∙ ap kind_from (sym p ∙ q) ∙ kind-back l

-- or one side
one-side : (text : Text) (s t : Side) → text ≡ side_text s → text ≡ side_text t → s ≡ t
one-side text s t p q = sym (side-back s) ∙ ap side_from (sym p ∙ q) ∙ side-back t

one-link-side : (text : Text) (s t : LinkSide) → text ≡ link_side_text s → text ≡ link_side_text t → s ≡ t
one-link-side text s t p q = sym (link-side-back s) ∙ ap link_side_from (sym p ∙ q) ∙ link-side-back t

-- or one method
pub one-method : (text : Text) (m n : Method) → text ≡ method_text m → text ≡ method_text n → m ≡ n
one-method text m n p q = sym (method-back m) ∙ ap method_from (sym p ∙ q) ∙ method-back n

-- it states one expression by a method
one-stated : (m : Method) (text : Text) (e f : Expr) → States m text e → States m text f → e ≡ f
one-stated method.Abs text (Abs x) (Abs y) h g = ap Abs (h.value ∙ sym g.value)
one-stated method.Abs text (Abs x) (Rel other u) h g = absurd g
one-stated method.Abs text (Abs x) (Int q) h g = absurd g
one-stated method.Abs text (Rel name t) f h g = absurd h
one-stated method.Abs text (Int p) f h g = absurd h
one-stated method.Rel text (Rel name t) (Rel other u) h g =
    let names : name ≡ other = h.referent ∙ sym g.referent in
    let away : t ≡ u = h.value ∙ sym g.value in
    λ i. Rel (names i) (away i)
one-stated method.Rel text (Rel name t) (Abs y) h g = absurd g
one-stated method.Rel text (Rel name t) (Int q) h g = absurd g
one-stated method.Rel text (Abs x) f h g = absurd h
one-stated method.Rel text (Int p) f h g = absurd h
one-stated method.Int text (Int p) (Int q) h g =
    ap Int (same_place p q (digits_value 10 (numerator_text text)) (digits_value 10 (denominator_text text)) h.fraction.not_zero h.lowest g.lowest h.value g.value)
one-stated method.Int text (Int p) (Abs y) h g = absurd g
one-stated method.Int text (Int p) (Rel other u) h g = absurd g
one-stated method.Int text (Abs x) f h g = absurd h
one-stated method.Int text (Rel name t) f h g = absurd h

-- by the method of a name
one-position : (name text : Text) (e f : Expr) → StatesBy name text e → StatesBy name text f → e ≡ f
one-position name text e f (m, is, h) (n, is', g) = one-stated m text e f h (rw (one-method name n m is' is) at g)

-- an empty text has no digits
no-digits : IsNumeral 10 [] → ⊥
no-digits h = omega (arith, h.0)

-- and names no kind
no-kind : (k : Kind) → [] ≡ kind_text k → ⊥
no-kind Point e = differ (same_name []) [] (codes "point") e refl refl
no-kind Stretch e = differ (same_name []) [] (codes "stretch") e refl refl
no-kind Exclusive e = differ (same_name []) [] (codes "exclusive") e refl refl

no-side : (s : Side) → [] ≡ side_text s → ⊥
no-side L e = differ (same_name []) [] (codes "L") e refl refl
no-side R e = differ (same_name []) [] (codes "R") e refl refl
no-side B e = differ (same_name []) [] (codes "B") e refl refl

no-link-side : (s : LinkSide) → [] ≡ link_side_text s → ⊥
no-link-side Left e = differ (same_name []) [] (codes "L") e refl refl
no-link-side Right e = differ (same_name []) [] (codes "R") e refl refl

no-method : (m : Method) → [] ≡ method_text m → ⊥
no-method method.Abs e = differ (same_name []) [] (codes "abs") e refl refl
no-method method.Rel e = differ (same_name []) [] (codes "rel") e refl refl
no-method method.Int e = differ (same_name []) [] (codes "int") e refl refl

-- and states no expression
no-stated : (m : Method) (e : Expr) → States m [] e → ⊥
no-stated method.Abs (Abs x) h = no-digits h.digits
no-stated method.Abs (Rel name t) h = h
no-stated method.Abs (Int p) h = h
no-stated method.Rel (Abs x) h = h
no-stated method.Rel (Rel name t) h = false≢true (rw h.referent at h.alphabet)
no-stated method.Rel (Int p) h = h
no-stated method.Int (Abs x) h = h
no-stated method.Int (Rel name t) h = h
no-stated method.Int (Int p) h = no-digits h.fraction.numerator

no-pieces-said : (ps : List Piece) → AreSaid IsPieceText (words_of []) ps → ⊥
no-pieces-said [] h = h
no-pieces-said (p ∷ ps) h = omega (arith, h.0.four)

no-marks-said : (ms : List Mark) → AreSaid IsMarkText (words_of []) ms → ⊥
no-marks-said [] h = h
no-marks-said (m ∷ ms) h = omega (arith, h.0.two)

-- how a position is to be told, by the first byte of a text
abbrev pub destination_from : Text → Destination
destination_from text =
    if starts_with 108 text then destination.Link
    else destination.Method (if starts_with 97 text then target.Abs else (if starts_with 114 text then target.Rel (drop 4 text) else target.Int))

pub destination-back : (to : Destination) → destination_from (destination_text to) ≡ to
destination-back (destination.Method target.Abs) = refl
destination-back (destination.Method (target.Rel name)) = refl
destination-back (destination.Method target.Int) = refl
destination-back destination.Link = refl

-- a text says one destination
one-destination : (text : Text) (to other : Destination) → text ≡ destination_text to → text ≡ destination_text other → to ≡ other
one-destination text to other p q = sym (destination-back to) ∙ ap destination_from (sym p ∙ q) ∙ destination-back other

no-destination : (to : Destination) → [] ≡ destination_text to → ⊥
no-destination (destination.Method target.Abs) e = cc e
no-destination (destination.Method (target.Rel name)) e = cc e
no-destination (destination.Method target.Int) e = cc e
no-destination destination.Link e = cc e

-- a word names one class
pub one-class : (word : Text) (a b : Name) → IsClassWord word a → IsClassWord word b → a ≡ b
one-class word a b h g = h.1 ∙ sym g.1

no-classes-said : (names : List Name) → AreSaid IsClassWord (words_of []) names → ⊥
no-classes-said [] h = h
no-classes-said (name ∷ names) h = false≢true h.0.0

-- a position behind its method and a colon
pub method-front : (m : Method) (position : Text) → method_from (method_text m ++ 58 ∷ position) ≡ m
method-front method.Abs position = refl
method-front method.Rel position = refl
method-front method.Int position = refl

position-behind : (m : Method) (position : Text) → drop 4 (method_text m ++ 58 ∷ position) ≡ position
position-behind method.Abs position = refl
position-behind method.Rel position = refl
position-behind method.Int position = refl

-- is no number
pub no-letters : (m : Method) (position : Text) → IsNumeral 10 (method_text m ++ 58 ∷ position) → ⊥
no-letters method.Abs position h = let less : 10 < 10 = h.1.0 in omega (arith, less)
no-letters method.Rel position h = let less : 27 < 10 = h.1.0 in omega (arith, less)
no-letters method.Int position h = let less : 18 < 10 = h.1.0 in omega (arith, less)

-- a text says one place
pub one-place : (text : Text) (p q : Place) → SaysPlace text p → SaysPlace text q → p ≡ q
one-place text (Chainage c) (Chainage d) h g = ap Chainage (h.value ∙ sym g.value)
one-place text (Chainage c) (Position f) h (m, position, is, said) = absurd (no-letters m position (subst (IsNumeral 10) is h.digits))
one-place text (Position e) (Chainage d) (m, position, is, said) g = absurd (no-letters m position (subst (IsNumeral 10) is g.digits))
one-place text (Position e) (Position f) (m, position, is, said) (n, other, is', said') =
    let same : method_text n ++ 58 ∷ other ≡ method_text m ++ 58 ∷ position = sym is' ∙ is in
    let by : n ≡ m = sym (method-front n other) ∙ ap method_from same ∙ method-front m position in
    let at : other ≡ position = sym (position-behind n other) ∙ ap (drop 4) same ∙ position-behind m position in
    ap Position (one-stated m position e f said (subst (λ (k : Method). States k position f) by (subst (λ (t : Text). States n t f) at said')))

no-place : (p : Place) → SaysPlace [] p → ⊥
no-place (Chainage c) h = no-digits h.digits
no-place (Position e) (method.Abs, position, is, said) = cc is
no-place (Position e) (method.Rel, position, is, said) = cc is
no-place (Position e) (method.Int, position, is, said) = cc is

-- an empty text says at most that there is nothing
empty-said : (texts : Field → Text) (shape : Shape) (a : Argument) → Says texts shape [] a → a ≡ Nothing
empty-said texts (Whole low high) a h = absurd (no-digits (number-said texts low high [] a h).2.digits)
empty-said texts ClassName a h = absurd (false≢true (class-said texts [] a h).2)
empty-said texts RouteName a h = absurd (false≢true (route-said texts [] a h).2)
empty-said texts ReferentName a h = absurd (false≢true (referent-said texts [] a h).2)
empty-said texts AssetValue a h = absurd (false≢true (value-said texts [] a h).2)
empty-said texts ClassKind a h = let (k, is, said) = kind-said texts [] a h in absurd (no-kind k said)
empty-said texts RouteSide a h = let (s, is, said) = side-said texts [] a h in absurd (no-side s said)
empty-said texts MethodName a h = let (m, is, said) = method-said texts [] a h in absurd (no-method m said)
empty-said texts (PositionBy field) a h = let (e, is, said) = position-said texts field [] a h in absurd (no-stated said.0 e said.2)
empty-said texts Pieces a h = let (ps, is, said, entered) = pieces-said texts [] a h in absurd (no-pieces-said ps said)
empty-said texts Marks a h = let (ms, is, said, entered) = marks-said texts [] a h in absurd (no-marks-said ms said)
empty-said texts ClassNames a h = let (names, is, said, few) = classes-said texts [] a h in absurd (no-classes-said names said)
empty-said texts DestinationName a h = let (to, is, said, named) = destination-said texts [] a h in absurd (no-destination to said)
empty-said texts LinkOrRoute a h = absurd (false≢true (link-or-route-said texts [] a h).2)
empty-said texts (LinkOrPlace field) a h = elim (place-said texts field [] a h) [
  | inl on ↦ absurd (no-digits on.3.digits)
  | inr on ↦ absurd (no-place on.0 on.3)
]
empty-said texts (MillimetreOrNothing field) a h = elim (millimetre-said texts field [] a h) [
  | inl on ↦ absurd (no-digits on.3.digits)
  | inr none ↦ none.0
]
empty-said texts RoutePlace a h = let (p, is, said) = route-place-said texts [] a h in absurd (no-place p said)
empty-said texts OneSide a h = let (s, is, said) = one-side-said texts [] a h in absurd (no-link-side s said)
empty-said texts GapsWord a h = let (is, said) = gaps-said texts [] a h in absurd (differ (same_name []) [] (codes "gaps") said refl refl)
empty-said texts (OrNothing shape) a h = elim (nothing-or-said texts shape [] a h) [
  | inl none ↦ none.0
  | inr said ↦ empty-said texts shape a said
]

-- a text of a shape says one argument
pub one-argument : (texts : Field → Text) (shape : Shape) (text : Text) (a b : Argument) → Says texts shape text a → Says texts shape text b → a ≡ b
one-argument texts (Whole low high) text a b h g =
    let (n, is, said) = number-said texts low high text a h in
    let (m, is', said') = number-said texts low high text b g in
    is ∙ ap Number (said.value ∙ sym said'.value) ∙ sym is'
one-argument texts ClassName text a b h g =
    let (name, is, test, said) = class-said texts text a h in
    let (other, is', test', said') = class-said texts text b g in
    is ∙ ap Word (said ∙ sym said') ∙ sym is'
one-argument texts RouteName text a b h g =
    let (name, is, test, said) = route-said texts text a h in
    let (other, is', test', said') = route-said texts text b g in
    is ∙ ap Word (said ∙ sym said') ∙ sym is'
one-argument texts ReferentName text a b h g =
    let (name, is, test, said) = referent-said texts text a h in
    let (other, is', test', said') = referent-said texts text b g in
    is ∙ ap Word (said ∙ sym said') ∙ sym is'
one-argument texts AssetValue text a b h g =
    let (value, is, test, said) = value-said texts text a h in
    let (other, is', test', said') = value-said texts text b g in
    is ∙ ap Word (said ∙ sym said') ∙ sym is'
one-argument texts ClassKind text a b h g =
    let (k, is, said) = kind-said texts text a h in
    let (l, is', said') = kind-said texts text b g in
    is ∙ ap KindOf (one-kind text k l said said') ∙ sym is'
one-argument texts RouteSide text a b h g =
    let (s, is, said) = side-said texts text a h in
    let (t, is', said') = side-said texts text b g in
    is ∙ ap SideOf (one-side text s t said said') ∙ sym is'
one-argument texts MethodName text a b h g =
    let (m, is, said) = method-said texts text a h in
    let (n, is', said') = method-said texts text b g in
    is ∙ ap MethodOf (one-method text m n said said') ∙ sym is'
one-argument texts (PositionBy field) text a b h g =
    let (e, is, said) = position-said texts field text a h in
    let (f, is', said') = position-said texts field text b g in
    is ∙ ap At (one-position (texts field) text e f said said') ∙ sym is'
one-argument texts Pieces text a b h g =
    let (ps, is, said, entered) = pieces-said texts text a h in
    let (qs, is', said', entered') = pieces-said texts text b g in
    is ∙ ap PiecesOf (one-said IsPieceText one-piece (words_of text) ps qs said said') ∙ sym is'
one-argument texts Marks text a b h g =
    let (ms, is, said, entered) = marks-said texts text a h in
    let (ns, is', said', entered') = marks-said texts text b g in
    is ∙ ap MarksOf (one-said IsMarkText one-mark (words_of text) ms ns said said') ∙ sym is'
one-argument texts ClassNames text a b h g =
    let (names, is, said, few) = classes-said texts text a h in
    let (others, is', said', few') = classes-said texts text b g in
    is ∙ ap ClassesOf (one-said IsClassWord one-class (words_of text) names others said said') ∙ sym is'
one-argument texts DestinationName text a b h g =
    let (to, is, said, named) = destination-said texts text a h in
    let (other, is', said', named') = destination-said texts text b g in
    is ∙ ap DestinationOf (one-destination text to other said said') ∙ sym is'
one-argument texts LinkOrRoute text a b h g =
    let (name, is, test, said) = link-or-route-said texts text a h in
    let (other, is', test', said') = link-or-route-said texts text b g in
    is ∙ ap Word (said ∙ sym said') ∙ sym is'
one-argument texts (LinkOrPlace field) text a b h g = elim (place-said texts field text a h) [
  | inl one ↦ elim (place-said texts field text b g) [
    | inl other ↦ one.1 ∙ ap Number (one.3.value ∙ sym other.3.value) ∙ sym other.1
    | inr other ↦ absurd (false≢true (sym other.2 ∙ one.2))
  ]
  | inr one ↦ elim (place-said texts field text b g) [
    | inl other ↦ absurd (false≢true (sym one.2 ∙ other.2))
    | inr other ↦ one.1 ∙ ap PlaceOf (one-place text one.0 other.0 one.3 other.3) ∙ sym other.1
  ]
]
one-argument texts (MillimetreOrNothing field) text a b h g = elim (millimetre-said texts field text a h) [
  | inl one ↦ elim (millimetre-said texts field text b g) [
    | inl other ↦ one.1 ∙ ap Number (one.3.value ∙ sym other.3.value) ∙ sym other.1
    | inr other ↦ absurd (false≢true (sym other.1 ∙ one.2))
  ]
  | inr one ↦ elim (millimetre-said texts field text b g) [
    | inl other ↦ absurd (false≢true (sym one.1 ∙ other.2))
    | inr other ↦ one.0 ∙ sym other.0
  ]
]
one-argument texts RoutePlace text a b h g =
    let (p, is, said) = route-place-said texts text a h in
    let (q, is', said') = route-place-said texts text b g in
    is ∙ ap PlaceOf (one-place text p q said said') ∙ sym is'
one-argument texts OneSide text a b h g =
    let (s, is, said) = one-side-said texts text a h in
    let (t, is', said') = one-side-said texts text b g in
    is ∙ ap LinkSideOf (one-link-side text s t said said') ∙ sym is'
one-argument texts GapsWord text a b h g =
    let (is, said) = gaps-said texts text a h in
    let (is', said') = gaps-said texts text b g in
    is ∙ sym is'
one-argument texts (OrNothing shape) text a b h g = elim (nothing-or-said texts shape text a h) [
  | inl none ↦ none.0 ∙ sym (empty-said texts (OrNothing shape) b (rw none.1 at g))
  | inr said ↦ elim (nothing-or-said texts shape text b g) [
    | inl none ↦ empty-said texts (OrNothing shape) a (rw none.1 at h) ∙ sym none.0
    | inr other ↦ one-argument texts shape text a b said other
  ]
]

-- the fields say one list of arguments
pub one-list : (fields : List Text) (place : ℕ) (shapes : List Shape) (xs ys : List Argument) → SayAll fields place shapes xs → SayAll fields place shapes ys → xs ≡ ys
one-list fields place [] [] [] h g = refl
one-list fields place [] [] (y ∷ ys) h g = absurd g
one-list fields place [] (x ∷ xs) ys h g = absurd h
one-list fields place (shape ∷ shapes) [] ys h g = absurd h
one-list fields place (shape ∷ shapes) (x ∷ xs) [] h g = absurd g
one-list fields place (shape ∷ shapes) (x ∷ xs) (y ∷ ys) h g =
    let first = one-argument (texts_of fields) shape (text_at fields place) x y h.0 g.0 in
    let others = one-list fields (place + 1) shapes xs ys h.1 g.1 in
    rw (first, others) refl
