-- What was decoded stands in its row: each row is the row of what it says.
use Rattle.std.proofs.Common.{◌≡◌, ℕ, ◌<◌, ℤ, pos, negsuc, Bool, true, false, cond, inl, inr, List, [], ◌∷◌, map, Option, Some, None, refl, sym, ap, subst, ◌∙◌}
use Rattle.std.specs.Prelude.{◌&&◌, ◌^◌, nat_eq, nat_lt, IsTrue}
use Rattle.std.proofs.lemmas.Bool.{and_parts, eqb-true, ltb-true}
use Rattle.std.specs.Str.{is_utf8}
use Rattle.lrs_measure.specs.Lists.{In}
use Rattle.lrs_element.specs.declared.link.Link.{Link}
use Rattle.lrs_element.specs.declared.link.Piece.{Piece}
use Rattle.lrs_element.specs.declared.marks.Mark.{Mark}
use Rattle.lrs_position.specs.declared.route.Referent.{Referent}
use Rattle.lrs_position.specs.Names.{is_route_name, is_referent_name}
use Rattle.lrs_events.specs.declared.class.Kind.{Kind}
use Rattle.lrs_events.specs.declared.class.Kind.TheVariants.{Point, Stretch, Exclusive}
use Rattle.lrs_events.specs.declared.class.Class.{Class}
use Rattle.lrs_events.specs.declared.class.Asset.{Asset}
use Rattle.lrs_events.specs.declared.side.Side.{Side}
use Rattle.lrs_events.specs.declared.side.Side.TheVariants.{L, R, B}
use Rattle.lrs_events.specs.declared.side.LinkSide.{LinkSide}
use Rattle.lrs_events.specs.declared.side.LinkSide.TheVariants.{Left, Right}
use Rattle.lrs_events.specs.declared.span.Span.{Span}
use Rattle.lrs_events.specs.declared.part.Part.{Part}
use Rattle.lrs_events.specs.declared.part.Gone.{Gone}
use Rattle.lrs_events.specs.Names.{is_class_name, is_value}
use Rattle.lrs_machine.specs.declared.image.Edit.{Edit}
use Rattle.lrs_machine.specs.Keys.{is_key}
use Rattle.lrs_store_tables.specs.Contents.Tables.{LinkRow, ClassRow, AssetRow, PieceRow, MarkRow, RefRow, SpanRow, EnteredRow, GoneRow, EditRow, OriginRow}
use Rattle.lrs_store_tables.specs.Contents.Decoders.{if_true, only_if, below, whole, short, each_of, OfRoute, Numbered, Origin, kind_numbered, side_numbered, link_side_numbered, is_forward_numbered, is_abandoned_numbered, link_of, class_of, asset_of, piece_of, mark_of, referent_of, class_of_asset, span_of, part_of, gone_of, edit_of, origin_of}
use Rattle.lrs_store_tables.specs.Contents.Decoders as option
use Rattle.lrs_store_tables.specs.Contents.Encoders.{kind_number, side_number, link_side_number, direction_number, cause_number, link_row, class_row, asset_row, piece_row, mark_row, ref_row, span_row, entered_row, gone_row, edit_row}

-- ---- what stands behind a value that is there

pub some_is : {A : Type 0} (x y : A) → Some x ≡ Some y → x ≡ y
some_is x y h = cc

pub bind_some : {A B : Type 0} (o : Option A) (f : A → Option B) (y : B) → option.◌>>=◌ o f ≡ Some y → (x : A) × (o ≡ Some x) × (f x ≡ Some y)
bind_some None f y h = absurd (cc)
bind_some (Some x) f y h = (x, refl, h)

pub only_some : {A : Type 0} (b : Bool) (x y : A) → only_if b x ≡ Some y → (b ≡ true) × (x ≡ y)
only_some true x y h = (refl, some_is x y h)
only_some false x y h = absurd (cc)

pub true_some : {A : Type 0} (b : Bool) (value : IsTrue b → A) (y : A) → if_true b value ≡ Some y → (h : b ≡ true) × (value h ≡ y)
true_some true value y h = (refl, some_is (value refl) y h)
true_some false value y h = absurd (cc)

-- ---- numbers

pub below_is : (end : ℕ) (z : ℤ) (n : ℕ) → below end z ≡ Some n → z ≡ pos n
below_is end (pos m) n h = ap pos (only_some (nat_lt m end) m n h).1
below_is end (negsuc m) n h = absurd (cc)

-- a choice by a number: this one, or one of the others
picked : {A : Type 0} (number : A → ℕ) (n m : ℕ) (x k : A) (rest : Option A) → number x ≡ m → cond (nat_eq n m) (Some x) rest ≡ Some k → (rest ≡ Some k → n ≡ number k) → n ≡ number k
picked number n m x k rest is h later =
    elim (nat_eq n m) as (λ b. nat_eq n m ≡ b → cond b (Some x) rest ≡ Some k → n ≡ number k) [
      | true ↦ λ e g. eqb-true n m e ∙ sym is ∙ ap number (some_is x k g)
      | false ↦ λ e g. later g
    ] refl h

none_some : {A : Type 0} {P : Type 0} (x : A) → None ≡ Some x → P
none_some x h = absurd (cc)

kind_is : (n : ℕ) (k : Kind) → kind_numbered n ≡ Some k → n ≡ kind_number k
kind_is n k h = picked kind_number n 0 Point k _ refl h (λ h. picked kind_number n 1 Stretch k _ refl h (λ h. picked kind_number n 2 Exclusive k _ refl h (none_some k)))

side_is : (n : ℕ) (k : Side) → side_numbered n ≡ Some k → n ≡ side_number k
side_is n k h = picked side_number n 0 L k _ refl h (λ h. picked side_number n 1 R k _ refl h (λ h. picked side_number n 2 B k _ refl h (none_some k)))

link_side_is : (n : ℕ) (k : LinkSide) → link_side_numbered n ≡ Some k → n ≡ link_side_number k
link_side_is n k h = picked link_side_number n 0 Left k _ refl h (λ h. picked link_side_number n 1 Right k _ refl h (none_some k))

direction_is : (n : ℕ) (k : Bool) → is_forward_numbered n ≡ Some k → n ≡ direction_number k
direction_is n k h = picked direction_number n 0 true k _ refl h (λ h. picked direction_number n 1 false k _ refl h (none_some k))

cause_is : (n : ℕ) (k : Bool) → is_abandoned_numbered n ≡ Some k → n ≡ cause_number k
cause_is n k h = picked cause_number n 0 false k _ refl h (λ h. picked cause_number n 1 true k _ refl h (none_some k))

-- a number that stands for one of a few values
few_is : {A : Type 0} (numbered : ℕ → Option A) (number : A → ℕ) → ((n : ℕ) (k : A) → numbered n ≡ Some k → n ≡ number k) → (z : ℤ) (k : A) → option.◌>>=◌ (whole z) numbered ≡ Some k → z ≡ pos (number k)
few_is numbered number is z k h =
    let n = bind_some (whole z) numbered k h in
    below_is (2 ^ 63) z n.0 n.1 ∙ ap pos (is n.0 k n.2)

-- ---- each row

pub link_back : (r : LinkRow) (l : Link) → link_of r ≡ Some l → link_row l ≡ r
link_back r l h =
    let number = bind_some (whole r.number) _ l h in
    let length = bind_some (whole r.length) _ l number.2 in
    let made = true_some _ _ l length.2 in
    let n : r.number ≡ pos l.number = below_is (2 ^ 63) r.number number.0 number.1 ∙ ap (λ (l : Link). pos l.number) made.1 in
    let m : r.length ≡ pos l.length = below_is (2 ^ 63) r.length length.0 length.1 ∙ ap (λ (l : Link). pos l.length) made.1 in
    sym (λ i. record { number = n i; length = m i })

pub class_back : (r : ClassRow) (c : Class) → class_of r ≡ Some c → class_row c ≡ r
class_back r c h =
    let kind = bind_some (option.◌>>=◌ (whole r.kind) kind_numbered) _ c h in
    let made = only_some (is_class_name r.name) _ c kind.2 in
    let k : r.kind ≡ pos (kind_number c.kind) = few_is kind_numbered kind_number kind_is r.kind kind.0 kind.1 ∙ ap (λ (c : Class). pos (kind_number c.kind)) made.1 in
    let n : r.name ≡ c.name = ap (λ (c : Class). c.name) made.1 in
    sym (λ i. record { name = n i; kind = k i })

pub asset_back : (r : AssetRow) (a : Asset) → asset_of r ≡ Some a → asset_row a ≡ r
asset_back r a h =
    let number = bind_some (whole r.number) _ a h in
    let lateral = bind_some (short r.lateral) _ a number.2 in
    let made = only_some (is_class_name r.class && is_value r.value) _ a lateral.2 in
    let n : r.number ≡ pos a.number = below_is (2 ^ 63) r.number number.0 number.1 ∙ ap (λ (a : Asset). pos a.number) made.1 in
    let l : r.lateral ≡ pos a.lateral = below_is (2 ^ 32) r.lateral lateral.0 lateral.1 ∙ ap (λ (a : Asset). pos a.lateral) made.1 in
    let c : r.class ≡ a.class = ap (λ (a : Asset). a.class) made.1 in
    let v : r.value ≡ a.value = ap (λ (a : Asset). a.value) made.1 in
    sym (λ i. record { number = n i; class = c i; value = v i; lateral = l i })

-- the row of what is said of a route
abbrev pub piece_said : OfRoute (Numbered Piece) → PieceRow
piece_said s = piece_row s.route s.said.n s.said.said

abbrev pub mark_said : OfRoute (Numbered Mark) → MarkRow
mark_said s = mark_row s.route s.said.n s.said.said

abbrev pub referent_said : OfRoute Referent → RefRow
referent_said s = ref_row s.route s.said

abbrev pub span_said : OfRoute Span → SpanRow
span_said s = span_row s.route s.said

abbrev pub edit_said : Numbered Edit → EditRow
edit_said s = edit_row s.n s.said

abbrev pub origin_said : Origin → OriginRow
origin_said o = record { asset = pos o.asset; edit = pos o.edit }

-- a row that says a piece is the row of it; the piece has a millimetre, and its route is named
pub record SaysPiece (r : PieceRow) (s : OfRoute (Numbered Piece)) : Type 0 where
  pub row_is : piece_said s ≡ r
  pub filled : s.said.said.from < s.said.said.to
  pub named : is_route_name s.route ≡ true

pub says_piece : (r : PieceRow) (s : OfRoute (Numbered Piece)) → piece_of r ≡ Some s → SaysPiece r s
says_piece r s h =
    let number = bind_some (whole r.n) _ s h in
    let link = bind_some (short r.link) _ s number.2 in
    let a = bind_some (short r.a) _ s link.2 in
    let b = bind_some (short r.b) _ s a.2 in
    let forward = bind_some (option.◌>>=◌ (whole r.dir) is_forward_numbered) _ s b.2 in
    let made = only_some (is_route_name r.route && nat_lt a.0 b.0) _ s forward.2 in
    let on : r.route ≡ s.route = ap (λ (s : OfRoute (Numbered Piece)). s.route) made.1 in
    let n : r.n ≡ pos s.said.n = below_is (2 ^ 63) r.n number.0 number.1 ∙ ap (λ (s : OfRoute (Numbered Piece)). pos s.said.n) made.1 in
    let l : r.link ≡ pos s.said.said.link = below_is (2 ^ 32) r.link link.0 link.1 ∙ ap (λ (s : OfRoute (Numbered Piece)). pos s.said.said.link) made.1 in
    let from : r.a ≡ pos s.said.said.from = below_is (2 ^ 32) r.a a.0 a.1 ∙ ap (λ (s : OfRoute (Numbered Piece)). pos s.said.said.from) made.1 in
    let to : r.b ≡ pos s.said.said.to = below_is (2 ^ 32) r.b b.0 b.1 ∙ ap (λ (s : OfRoute (Numbered Piece)). pos s.said.said.to) made.1 in
    let d : r.dir ≡ pos (direction_number s.said.said.forward) =
    few_is is_forward_numbered direction_number direction_is r.dir forward.0 forward.1 ∙ ap (λ (s : OfRoute (Numbered Piece)). pos (direction_number s.said.said.forward)) made.1 in
    let test = and_parts (is_route_name r.route) (nat_lt a.0 b.0) made.0 in
    record {
      row_is = sym (λ i. record { route = on i; n = n i; link = l i; a = from i; b = to i; dir = d i });
      filled = subst (λ (s : OfRoute (Numbered Piece)). s.said.said.from < s.said.said.to) made.1 (ltb-true a.0 b.0 test.1);
      named = subst (λ (s : OfRoute (Numbered Piece)). is_route_name s.route ≡ true) made.1 test.0;
    }

pub mark_back : (r : MarkRow) (s : OfRoute (Numbered Mark)) → mark_of r ≡ Some s → mark_said s ≡ r
mark_back r s h =
    let number = bind_some (whole r.n) _ s h in
    let chainage = bind_some (whole r.chainage) _ s number.2 in
    let measure = bind_some (whole r.measure) _ s chainage.2 in
    let made = some_is _ s measure.2 in
    let on : r.route ≡ s.route = ap (λ (s : OfRoute (Numbered Mark)). s.route) made in
    let n : r.n ≡ pos s.said.n = below_is (2 ^ 63) r.n number.0 number.1 ∙ ap (λ (s : OfRoute (Numbered Mark)). pos s.said.n) made in
    let c : r.chainage ≡ pos s.said.said.chainage = below_is (2 ^ 63) r.chainage chainage.0 chainage.1 ∙ ap (λ (s : OfRoute (Numbered Mark)). pos s.said.said.chainage) made in
    let m : r.measure ≡ pos s.said.said.measure = below_is (2 ^ 63) r.measure measure.0 measure.1 ∙ ap (λ (s : OfRoute (Numbered Mark)). pos s.said.said.measure) made in
    sym (λ i. record { route = on i; n = n i; chainage = c i; measure = m i })

pub referent_back : (r : RefRow) (s : OfRoute Referent) → referent_of r ≡ Some s → referent_said s ≡ r
referent_back r s h =
    let at = bind_some (whole r.place) _ s h in
    let made = only_some (is_referent_name r.name) _ s at.2 in
    let name : r.name ≡ s.said.name = ap (λ (s : OfRoute Referent). s.said.name) made.1 in
    let on : r.route ≡ s.route = ap (λ (s : OfRoute Referent). s.route) made.1 in
    let place : r.place ≡ pos s.said.at = below_is (2 ^ 63) r.place at.0 at.1 ∙ ap (λ (s : OfRoute Referent). pos s.said.at) made.1 in
    sym (λ i. record { name = name i; route = on i; place = place i })

pub span_back : (assets : List Asset) (r : SpanRow) (s : OfRoute Span) → span_of assets r ≡ Some s → span_said s ≡ r
span_back assets r s h =
    let asset = bind_some (whole r.asset) _ s h in
    let class = bind_some (class_of_asset assets asset.0) _ s asset.2 in
    let from = bind_some (whole r.lo) _ s class.2 in
    let to = bind_some (whole r.hi) _ s from.2 in
    let side = bind_some (option.◌>>=◌ (whole r.side) side_numbered) _ s to.2 in
    let made = some_is _ s side.2 in
    let on : r.route ≡ s.route = ap (λ (s : OfRoute Span). s.route) made in
    let a : r.asset ≡ pos s.said.asset = below_is (2 ^ 63) r.asset asset.0 asset.1 ∙ ap (λ (s : OfRoute Span). pos s.said.asset) made in
    let f : r.lo ≡ pos s.said.from = below_is (2 ^ 63) r.lo from.0 from.1 ∙ ap (λ (s : OfRoute Span). pos s.said.from) made in
    let t : r.hi ≡ pos s.said.to = below_is (2 ^ 63) r.hi to.0 to.1 ∙ ap (λ (s : OfRoute Span). pos s.said.to) made in
    let d : r.side ≡ pos (side_number s.said.side) = few_is side_numbered side_number side_is r.side side.0 side.1 ∙ ap (λ (s : OfRoute Span). pos (side_number s.said.side)) made in
    sym (λ i. record { asset = a i; route = on i; lo = f i; hi = t i; side = d i })

pub part_back : (r : EnteredRow) (p : Part) → part_of r ≡ Some p → entered_row p ≡ r
part_back r p h =
    let edit = bind_some (whole r.edit) _ p h in
    let asset = bind_some (whole r.asset) _ p edit.2 in
    let link = bind_some (short r.link) _ p asset.2 in
    let lo = bind_some (short r.lo) _ p link.2 in
    let hi = bind_some (short r.hi) _ p lo.2 in
    let side = bind_some (option.◌>>=◌ (whole r.side) link_side_numbered) _ p hi.2 in
    let made = some_is _ p side.2 in
    let e : r.edit ≡ pos p.edit = below_is (2 ^ 63) r.edit edit.0 edit.1 ∙ ap (λ (p : Part). pos p.edit) made in
    let a : r.asset ≡ pos p.asset = below_is (2 ^ 63) r.asset asset.0 asset.1 ∙ ap (λ (p : Part). pos p.asset) made in
    let l : r.link ≡ pos p.link = below_is (2 ^ 32) r.link link.0 link.1 ∙ ap (λ (p : Part). pos p.link) made in
    let f : r.lo ≡ pos p.from = below_is (2 ^ 32) r.lo lo.0 lo.1 ∙ ap (λ (p : Part). pos p.from) made in
    let t : r.hi ≡ pos p.to = below_is (2 ^ 32) r.hi hi.0 hi.1 ∙ ap (λ (p : Part). pos p.to) made in
    let s : r.side ≡ pos (link_side_number p.side) = few_is link_side_numbered link_side_number link_side_is r.side side.0 side.1 ∙ ap (λ (p : Part). pos (link_side_number p.side)) made in
    sym (λ i. record { edit = e i; asset = a i; link = l i; lo = f i; hi = t i; side = s i })

pub gone_back : (r : GoneRow) (g : Gone) → gone_of r ≡ Some g → gone_row g ≡ r
gone_back r g h =
    let abandoned = bind_some (option.◌>>=◌ (whole r.cause) is_abandoned_numbered) _ g h in
    let part = bind_some (part_of r.row) _ g abandoned.2 in
    let made = some_is _ g part.2 in
    let c : r.cause ≡ pos (cause_number g.abandoned) = few_is is_abandoned_numbered cause_number cause_is r.cause abandoned.0 abandoned.1 ∙ ap (λ (g : Gone). pos (cause_number g.abandoned)) made in
    let p : r.row ≡ entered_row g.part = sym (part_back r.row part.0 part.1) ∙ ap (λ (g : Gone). entered_row g.part) made in
    sym (λ i. record { cause = c i; row = p i })

pub edit_back : (r : EditRow) (e : Numbered Edit) → edit_of r ≡ Some e → edit_said e ≡ r
edit_back r e h =
    let number = bind_some (whole r.number) _ e h in
    let made = only_some (is_key r.token && is_utf8 r.line) _ e number.2 in
    let n : r.number ≡ pos e.n = below_is (2 ^ 63) r.number number.0 number.1 ∙ ap (λ (e : Numbered Edit). pos e.n) made.1 in
    let k : r.token ≡ e.said.key = ap (λ (e : Numbered Edit). e.said.key) made.1 in
    let l : r.line ≡ e.said.line = ap (λ (e : Numbered Edit). e.said.line) made.1 in
    sym (λ i. record { number = n i; token = k i; line = l i })

pub origin_back : (r : OriginRow) (o : Origin) → origin_of r ≡ Some o → origin_said o ≡ r
origin_back r o h =
    let asset = bind_some (whole r.asset) _ o h in
    let edit = bind_some (whole r.edit) _ o asset.2 in
    let made = some_is _ o edit.2 in
    let a : r.asset ≡ pos o.asset = below_is (2 ^ 63) r.asset asset.0 asset.1 ∙ ap (λ (o : Origin). pos o.asset) made in
    let e : r.edit ≡ pos o.edit = below_is (2 ^ 63) r.edit edit.0 edit.1 ∙ ap (λ (o : Origin). pos o.edit) made in
    sym (λ i. record { asset = a i; edit = e i })

-- ---- all rows of a table

-- what is known of what each says
pub each_map : {X Y Z : Type 0} (decoded : X → Option Y) (g : Y → Z) (h : X → Z) → ((x : X) (y : Y) → decoded x ≡ Some y → g y ≡ h x) → (xs : List X) (ys : List Y) → each_of decoded xs ≡ Some ys → map g ys ≡ map h xs
each_map decoded g h is [] ys e = ap (map g) (sym (some_is [] ys e))
each_map decoded g h is (x ∷ xs) ys e =
    let first = bind_some (decoded x) _ ys e in
    let rest = bind_some (each_of decoded xs) _ ys first.2 in
    let made = some_is (first.0 ∷ rest.0) ys rest.2 in
    sym (ap (map g) made) ∙ ap (λ z. z ∷ map g rest.0) (is x first.0 first.1) ∙ ap (λ zs. h x ∷ zs) (each_map decoded g h is xs rest.0 rest.1)

pub map_id : {X : Type 0} (xs : List X) → map (λ x. x) xs ≡ xs
map_id [] = refl
map_id (x ∷ xs) = ap (λ t. x ∷ t) (map_id xs)

pub map-map : {X Y Z : Type 0} (f : Y → Z) (g : X → Y) (xs : List X) → map f (map g xs) ≡ map (λ x. f (g x)) xs
map-map f g [] = refl
map-map f g (x ∷ xs) = ap (λ t. f (g x) ∷ t) (map-map f g xs)

pub rows_back : {Row X : Type 0} (decoded : Row → Option X) (row : X → Row) → ((r : Row) (x : X) → decoded r ≡ Some x → row x ≡ r) → (rows : List Row) (xs : List X) → each_of decoded rows ≡ Some xs → map row xs ≡ rows
rows_back decoded row back rows xs h = each_map decoded row (λ r. r) back rows xs h ∙ map_id rows

-- each of what is said stands in a row
pub each_member : {X Y : Type 0} (decoded : X → Option Y) (xs : List X) (ys : List Y) (y : Y) → each_of decoded xs ≡ Some ys → In y ys → (x : X) × In x xs × (decoded x ≡ Some y)
each_member decoded [] ys y e m = absurd (subst (In y) (sym (some_is [] ys e)) m)
each_member decoded (x ∷ xs) ys y e m =
    let first = bind_some (decoded x) _ ys e in
    let rest = bind_some (each_of decoded xs) _ ys first.2 in
    by first.0 rest.0 first.1 (λ k. each_member decoded xs rest.0 y rest.1 k) (subst (In y) (sym (some_is (first.0 ∷ rest.0) ys rest.2)) m)
  where
    by : (z : _) (zs : List _) → decoded x ≡ Some z → (In y zs → (w : _) × In w xs × (decoded w ≡ Some y)) → In y (z ∷ zs) → (w : _) × In w (x ∷ xs) × (decoded w ≡ Some y)
    by z zs h later (inl e) = (x, inl refl, h ∙ ap Some (sym e))
    by z zs h later (inr k) = let found = later k in (found.0, inr found.1, found.2)
