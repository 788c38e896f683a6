-- A row that was made of something says it, if its numbers can be stored and its texts are of their kinds.
use Rattle.std.proofs.Common.{◌≡◌, ℕ, ◌<◌, pos, Bool, true, false, List, [], Option, Some, refl, ap, ◌∙◌, arith}
use Rattle.std.specs.Prelude.{◌&&◌, ◌^◌, nat_lt, IsTrue}
use Rattle.std.specs.Str.{is_utf8}
use Rattle.std.proofs.lemmas.Bool.{false≢true, lt-ltb, and_from}
use mathlib.Core.Bool.{Bool-set}
use Rattle.lrs_measure.specs.Texts.{Name}
use Rattle.lrs_element.specs.declared.link.Link.{Link}
use Rattle.lrs_element.specs.declared.link.Piece.{Piece}
use Rattle.lrs_element.specs.declared.marks.Mark.{Mark}
use Rattle.lrs_measure.specs.Limits.{is_link}
use Rattle.lrs_position.specs.declared.route.Referent.{Referent}
use Rattle.lrs_position.specs.Names.{is_route_name, is_referent_name}
use Rattle.lrs_events.specs.declared.class.Kind.{Kind}
use Rattle.lrs_events.specs.declared.class.Kind.TheVariants.{Point, Stretch, Exclusive}
use Rattle.lrs_events.specs.declared.class.Class.{Class}
use Rattle.lrs_events.specs.declared.class.Asset.{Asset}
use Rattle.lrs_events.specs.declared.side.Side.{Side}
use Rattle.lrs_events.specs.declared.side.Side.TheVariants.{L, R, B}
use Rattle.lrs_events.specs.declared.side.LinkSide.{LinkSide}
use Rattle.lrs_events.specs.declared.side.LinkSide.TheVariants.{Left, Right}
use Rattle.lrs_events.specs.declared.span.Span.{Span}
use Rattle.lrs_events.specs.declared.part.Part.{Part}
use Rattle.lrs_events.specs.declared.part.Gone.{Gone}
use Rattle.lrs_events.specs.Names.{is_class_name, is_value}
use Rattle.lrs_machine.specs.declared.image.Edit.{Edit}
use Rattle.lrs_machine.specs.Keys.{is_key}
use Rattle.lrs_store_tables.specs.Contents.Decoders.{if_true, only_if, below, whole, short, OfRoute, Numbered, kind_numbered, side_numbered, link_side_numbered, is_forward_numbered, is_abandoned_numbered, link_of, class_of, asset_of, piece_of, mark_of, referent_of, class_of_asset, span_of, part_of, gone_of, edit_of}
use Rattle.lrs_store_tables.specs.Contents.Decoders as option
use Rattle.lrs_store_tables.specs.Contents.Content.{with_edit}
use Rattle.lrs_store_tables.specs.Contents.Encoders.{kind_number, side_number, link_side_number, direction_number, cause_number, link_row, class_row, asset_row, piece_row, mark_row, ref_row, span_row, entered_row, gone_row, edit_row}

-- ---- steps

pub bind_is : {A B : Type 0} (o : Option A) (f : A → Option B) (x : A) (y : Option B) → o ≡ Some x → f x ≡ y → option.◌>>=◌ o f ≡ y
bind_is o f x y e h = ap (λ o. option.◌>>=◌ o f) e ∙ h

pub only_is : {A : Type 0} (b : Bool) (x : A) → b ≡ true → only_if b x ≡ Some x
only_is b x h = ap (λ b. only_if b x) h

pub true_is : {A : Type 0} (b : Bool) (value : IsTrue b → A) (h : IsTrue b) → if_true b value ≡ Some (value h)
true_is true value h = ap (λ k. Some (value k)) (Bool-set true true refl h)
true_is false value h = absurd (false≢true h)

stored : (end n : ℕ) → n < end → below end (pos n) ≡ Some n
stored end n h = only_is (nat_lt n end) n (lt-ltb n end h)

kind_there : (k : Kind) → option.◌>>=◌ (whole (pos (kind_number k))) kind_numbered ≡ Some k
kind_there Point = refl
kind_there Stretch = refl
kind_there Exclusive = refl

side_there : (s : Side) → option.◌>>=◌ (whole (pos (side_number s))) side_numbered ≡ Some s
side_there L = refl
side_there R = refl
side_there B = refl

link_side_there : (s : LinkSide) → option.◌>>=◌ (whole (pos (link_side_number s))) link_side_numbered ≡ Some s
link_side_there Left = refl
link_side_there Right = refl

direction_there : (b : Bool) → option.◌>>=◌ (whole (pos (direction_number b))) is_forward_numbered ≡ Some b
direction_there true = refl
direction_there false = refl

cause_there : (b : Bool) → option.◌>>=◌ (whole (pos (cause_number b))) is_abandoned_numbered ≡ Some b
cause_there true = refl
cause_there false = refl

-- ---- each row

pub link_there : (l : Link) → l.number < 2 ^ 63 → l.length < 2 ^ 63 → link_of (link_row l) ≡ Some l
link_there l n m =
    bind_is (whole (pos l.number)) _ l.number _ (stored (2 ^ 63) l.number n)
    (bind_is (whole (pos l.length)) _ l.length _ (stored (2 ^ 63) l.length m)
    (true_is (is_link l.number l.length) (λ limits. let x : Link = record { number = l.number; length = l.length; limits = limits } in x) l.limits))

pub class_there : (c : Class) → is_class_name c.name ≡ true → class_of (class_row c) ≡ Some c
class_there c h = bind_is (option.◌>>=◌ (whole (pos (kind_number c.kind))) kind_numbered) _ c.kind _ (kind_there c.kind) (only_is (is_class_name c.name) c h)

pub asset_there : (a : Asset) → a.number < 2 ^ 63 → a.lateral < 2 ^ 32 → is_class_name a.class ≡ true → is_value a.value ≡ true → asset_of (asset_row a) ≡ Some (with_edit [] a)
asset_there a n l c v =
    bind_is (whole (pos a.number)) _ a.number _ (stored (2 ^ 63) a.number n)
    (bind_is (short (pos a.lateral)) _ a.lateral _ (stored (2 ^ 32) a.lateral l)
    (only_is (is_class_name a.class && is_value a.value) (with_edit [] a) (and_from _ _ c v)))

abbrev pub piece_told : Name → ℕ → Piece → OfRoute (Numbered Piece)
piece_told route n p = record { route = route; said = record { n = n; said = p } }

pub piece_there : (route : Name) (n : ℕ) (p : Piece) → n < 2 ^ 63 → p.link < 2 ^ 32 → p.from < p.to → p.to < 2 ^ 32 → is_route_name route ≡ true → piece_of (piece_row route n p) ≡ Some (piece_told route n p)
piece_there route n p i l f t r =
    bind_is (whole (pos n)) _ n _ (stored (2 ^ 63) n i)
    (bind_is (short (pos p.link)) _ p.link _ (stored (2 ^ 32) p.link l)
    (bind_is (short (pos p.from)) _ p.from _ (stored (2 ^ 32) p.from (omega (arith, f, t)))
    (bind_is (short (pos p.to)) _ p.to _ (stored (2 ^ 32) p.to t)
    (bind_is (option.◌>>=◌ (whole (pos (direction_number p.forward))) is_forward_numbered) _ p.forward _ (direction_there p.forward)
    (only_is (is_route_name route && nat_lt p.from p.to) (piece_told route n p) (and_from _ _ r (lt-ltb p.from p.to f)))))))

abbrev pub mark_told : Name → ℕ → Mark → OfRoute (Numbered Mark)
mark_told route n m = record { route = route; said = record { n = n; said = m } }

pub mark_there : (route : Name) (n : ℕ) (m : Mark) → n < 2 ^ 63 → m.chainage < 2 ^ 63 → m.measure < 2 ^ 63 → mark_of (mark_row route n m) ≡ Some (mark_told route n m)
mark_there route n m i c h =
    bind_is (whole (pos n)) _ n _ (stored (2 ^ 63) n i)
    (bind_is (whole (pos m.chainage)) _ m.chainage _ (stored (2 ^ 63) m.chainage c)
    (bind_is (whole (pos m.measure)) _ m.measure _ (stored (2 ^ 63) m.measure h) refl))

abbrev pub told : {X : Type 0} → Name → X → OfRoute X
told route x = record { route = route; said = x }

pub referent_there : (route : Name) (r : Referent) → r.at < 2 ^ 63 → is_referent_name r.name ≡ true → referent_of (ref_row route r) ≡ Some (told route r)
referent_there route r a n = bind_is (whole (pos r.at)) _ r.at _ (stored (2 ^ 63) r.at a) (only_is (is_referent_name r.name) (told route r) n)

pub span_there : (assets : List Asset) (route : Name) (s : Span) → s.asset < 2 ^ 63 → class_of_asset assets s.asset ≡ Some s.class → s.from < s.to → s.to < 2 ^ 63 → span_of assets (span_row route s) ≡ Some (told route s)
span_there assets route s a c f t =
    bind_is (whole (pos s.asset)) _ s.asset _ (stored (2 ^ 63) s.asset a)
    (bind_is (class_of_asset assets s.asset) _ s.class _ c
    (bind_is (whole (pos s.from)) _ s.from _ (stored (2 ^ 63) s.from (omega (arith, f, t)))
    (bind_is (whole (pos s.to)) _ s.to _ (stored (2 ^ 63) s.to t)
    (bind_is (option.◌>>=◌ (whole (pos (side_number s.side))) side_numbered) _ s.side _ (side_there s.side) refl))))

-- the numbers of a part can be stored
pub record PartFits (p : Part) : Type 0 where
  pub edit : p.edit < 2 ^ 63
  pub asset : p.asset < 2 ^ 63
  pub link : p.link < 2 ^ 32
  pub from : p.from < 2 ^ 32
  pub to : p.to < 2 ^ 32

pub part_there : (p : Part) → PartFits p → part_of (entered_row p) ≡ Some p
part_there p h =
    bind_is (whole (pos p.edit)) _ p.edit _ (stored (2 ^ 63) p.edit h.edit)
    (bind_is (whole (pos p.asset)) _ p.asset _ (stored (2 ^ 63) p.asset h.asset)
    (bind_is (short (pos p.link)) _ p.link _ (stored (2 ^ 32) p.link h.link)
    (bind_is (short (pos p.from)) _ p.from _ (stored (2 ^ 32) p.from h.from)
    (bind_is (short (pos p.to)) _ p.to _ (stored (2 ^ 32) p.to h.to)
    (bind_is (option.◌>>=◌ (whole (pos (link_side_number p.side))) link_side_numbered) _ p.side _ (link_side_there p.side) refl)))))

pub gone_there : (g : Gone) → PartFits g.part → gone_of (gone_row g) ≡ Some g
gone_there g h =
    bind_is (option.◌>>=◌ (whole (pos (cause_number g.abandoned))) is_abandoned_numbered) _ g.abandoned _ (cause_there g.abandoned)
    (bind_is (part_of (entered_row g.part)) _ g.part _ (part_there g.part h) refl)

abbrev pub edit_told : ℕ → Edit → Numbered Edit
edit_told n e = record { n = n; said = e }

pub edit_there : (n : ℕ) (e : Edit) → n < 2 ^ 63 → is_key e.key ≡ true → is_utf8 e.line ≡ true → edit_of (edit_row n e) ≡ Some (edit_told n e)
edit_there n e i k l = bind_is (whole (pos n)) _ n _ (stored (2 ^ 63) n i) (only_is (is_key e.key && is_utf8 e.line) (edit_told n e) (and_from _ _ k l))
