-- What the tests of items decide.
use Rattle.std.proofs.Common.{◌≡◌, Bool, true, false, refl, sym, ap}
use Rattle.std.specs.Prelude.{◌&&◌, nat_eq, Decides}
use Rattle.std.specs.Cmp.Lexicographic.{bytes_decides, pointwise, pointwise_decides}
use Rattle.std.proofs.lemmas.Bool.{false≢true, and_parts, and_from, eqb-true, eq-eqb}
use Rattle.lrs_measure.specs.Lists.{same_bool}
use Rattle.lrs_measure.specs.Texts.{same_name}
use Rattle.lrs_events.specs.declared.class.Kind.TheVariants.{Point, Stretch, Exclusive}
use Rattle.lrs_difference.specs.Items.{same_alignment, same_asset, same_class, same_ground, same_kind, same_link, same_mark, same_millimetre, same_referent, same_route}

-- the test tells which two are equal
abbrev pub Tells : {A : Type 0} → (A → A → Bool) → Type 0
Tells {A = A} same = (x y : A) → Decides (same x y) (x ≡ y)

pub numbers : Tells nat_eq
numbers x y = (eqb-true x y, eq-eqb x y)

names : Tells same_name
names x y = bytes_decides x y

pub bools : Tells same_bool
bools true true = ((λ h. refl), λ e. refl)
bools true false = ((λ h. absurd (false≢true h)), λ e. sym e)
bools false true = ((λ h. absurd (false≢true h)), λ e. e)
bools false false = ((λ h. refl), λ e. refl)

kinds : Tells same_kind
kinds Point Point = ((λ h. refl), λ e. refl)
kinds Stretch Stretch = ((λ h. refl), λ e. refl)
kinds Exclusive Exclusive = ((λ h. refl), λ e. refl)
kinds Point Stretch = ((λ h. absurd (false≢true h)), λ e. absurd cc)
kinds Point Exclusive = ((λ h. absurd (false≢true h)), λ e. absurd cc)
kinds Stretch Point = ((λ h. absurd (false≢true h)), λ e. absurd cc)
kinds Stretch Exclusive = ((λ h. absurd (false≢true h)), λ e. absurd cc)
kinds Exclusive Point = ((λ h. absurd (false≢true h)), λ e. absurd cc)
kinds Exclusive Stretch = ((λ h. absurd (false≢true h)), λ e. absurd cc)

-- two tests tell which two pairs are equal
pairs : {A B : Type 0} → (same : A → A → Bool) → (also : B → B → Bool) → Tells same → Tells also → (x y : A × B) → Decides (same x.0 y.0 && also x.1 y.1) (x ≡ y)
pairs same also t u x y = (
  (λ h.
      let both = and_parts (same x.0 y.0) (also x.1 y.1) h in
      let a = (t x.0 y.0).0 both.0 in
      let b = (u x.1 y.1).0 both.1 in
      λ i. (a i, b i)),
  λ e. and_from (same x.0 y.0) (also x.1 y.1) ((t x.0 y.0).1 (ap (λ z. z.0) e)) ((u x.1 y.1).1 (ap (λ z. z.1) e)),
)

pub links : Tells same_link
links = pairs nat_eq nat_eq numbers numbers

pub classes : Tells same_class
classes = pairs same_name same_kind names kinds

pub grounds : Tells same_ground
grounds g h = (
  (λ t.
      let one = and_parts (nat_eq g.link h.link && nat_eq g.mm h.mm) (same_bool g.forward h.forward) t in
      let two = and_parts (nat_eq g.link h.link) (nat_eq g.mm h.mm) one.0 in
      let a = eqb-true g.link h.link two.0 in
      let b = eqb-true g.mm h.mm two.1 in
      let c = (bools g.forward h.forward).0 one.1 in
      λ i. record { link = a i; mm = b i; forward = c i }),
  λ e.
      and_from (nat_eq g.link h.link && nat_eq g.mm h.mm) (same_bool g.forward h.forward)
      (and_from (nat_eq g.link h.link) (nat_eq g.mm h.mm) (eq-eqb g.link h.link (ap (λ x. x.link) e)) (eq-eqb g.mm h.mm (ap (λ x. x.mm) e)))
      ((bools g.forward h.forward).1 (ap (λ x. x.forward) e)),
)

marks : Tells same_mark
marks m n = (
  (λ t.
      let both = and_parts (nat_eq m.chainage n.chainage) (nat_eq m.measure n.measure) t in
      let a = eqb-true m.chainage n.chainage both.0 in
      let b = eqb-true m.measure n.measure both.1 in
      λ i. record { chainage = a i; measure = b i }),
  λ e.
      and_from (nat_eq m.chainage n.chainage) (nat_eq m.measure n.measure) (eq-eqb m.chainage n.chainage (ap (λ x. x.chainage) e)) (eq-eqb m.measure n.measure (ap (λ x. x.measure) e)),
)

alignments : Tells same_alignment
alignments a b =
    let courses = pointwise_decides grounds a.course b.course in
    let lines = pointwise_decides marks a.marks b.marks in (
      (λ t.
          let both = and_parts (pointwise same_ground a.course b.course) (pointwise same_mark a.marks b.marks) t in
          let c = courses.0 both.0 in
          let d = lines.0 both.1 in
          λ i. record { course = c i; marks = d i }),
      λ e. and_from (pointwise same_ground a.course b.course) (pointwise same_mark a.marks b.marks) (courses.1 (ap (λ x. x.course) e)) (lines.1 (ap (λ x. x.marks) e)),
    )

pub routes : Tells same_route
routes = pairs same_name same_alignment names alignments

millimetres : Tells same_millimetre
millimetres = pairs nat_eq nat_eq numbers numbers

pub referents : Tells same_referent
referents = pairs same_name same_millimetre names millimetres

pub assets : Tells same_asset
assets a b = (
  (λ t.
      let one = and_parts (nat_eq a.number b.number && same_name a.class b.class && same_name a.value b.value) (nat_eq a.lateral b.lateral) t in
      let two = and_parts (nat_eq a.number b.number && same_name a.class b.class) (same_name a.value b.value) one.0 in
      let three = and_parts (nat_eq a.number b.number) (same_name a.class b.class) two.0 in
      let w = eqb-true a.number b.number three.0 in
      let x = (names a.class b.class).0 three.1 in
      let y = (names a.value b.value).0 two.1 in
      let z = eqb-true a.lateral b.lateral one.1 in
      λ i. record { number = w i; class = x i; value = y i; lateral = z i }),
  λ e.
      and_from (nat_eq a.number b.number && same_name a.class b.class && same_name a.value b.value) (nat_eq a.lateral b.lateral)
      (and_from (nat_eq a.number b.number && same_name a.class b.class) (same_name a.value b.value)
      (and_from (nat_eq a.number b.number) (same_name a.class b.class) (eq-eqb a.number b.number (ap (λ x. x.number) e)) ((names a.class b.class).1 (ap (λ x. x.class) e)))
      ((names a.value b.value).1 (ap (λ x. x.value) e)))
      (eq-eqb a.lateral b.lateral (ap (λ x. x.lateral) e)),
)
