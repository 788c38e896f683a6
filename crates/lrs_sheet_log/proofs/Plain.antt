-- The fields of printed commands have none of the bytes that `csv` sets apart.
use Rattle.std.proofs.Common.{◌≡◌, ℕ, Bool, true, false, ◌&&◌, List, [], ◌∷◌, ◌++◌, Option, Some, None, refl, arith}
use Rattle.std.specs.Prelude.{codes, map, nat_eq, nat_le, not, unsigned_abs, replicate, zero, suc, length, if◌then◌else◌}
use Rattle.std.specs.List.{list_all}
use Rattle.std.specs.Char.{is_ascii_digit}
use Rattle.std.specs.Fmt.{decimal}
use Rattle.std.proofs.lemmas.Bool.{and_parts, and_from}
use Rattle.lrs_measure.specs.Alphabets.{is_capital, is_word_byte, is_text, has_length, has_dash_first, is_lone_dash}
use Rattle.lrs_measure.specs.Lists.{is_from_to}
use Rattle.lrs_measure.specs.Limits.{is_link_number, longest_link, longest_route, greatest_measure, most_pieces, most_marks}
use Rattle.lrs_element.specs.declared.link.Piece.{Piece}
use Rattle.lrs_element.specs.declared.marks.Mark.{Mark}
use Rattle.lrs_position.specs.Expressions.{is_negative, greatest_denominator}
use Rattle.lrs_position.specs.Names.{is_route_byte, is_route_name, is_referent_name}
use Rattle.lrs_position.specs.Readings.{method_text}
use Rattle.lrs_position.specs.declared.expression.Expr.{Expr}
use Rattle.lrs_position.specs.declared.expression.Expr.TheVariants.{Abs, Rel, Int}
use Rattle.lrs_position.specs.declared.expression.Method.{Method}
use Rattle.lrs_position.specs.declared.expression.Method.TheVariants as method
use Rattle.lrs_events.specs.Names.{is_class_name, is_value, kind_text, side_text}
use Rattle.lrs_events.specs.declared.class.Kind.{Kind}
use Rattle.lrs_events.specs.declared.class.Kind.TheVariants.{Point, Stretch, Exclusive}
use Rattle.lrs_events.specs.declared.side.Side.{Side}
use Rattle.lrs_events.specs.declared.side.Side.TheVariants.{L, R, B}
use Rattle.lrs_machine.specs.EnteredNumbers.{is_asset_number, is_chainage, is_lateral_offset, is_entered_piece, are_entered_pieces, is_entered_mark, are_entered_marks}
use Rattle.lrs_machine.specs.Keys.{is_key, is_key_byte}
use Rattle.lrs_machine.specs.Lines.{Text, expression_text, mark_text, marks_text, piece_text, pieces_text, signed_text}
use Rattle.lrs_machine.specs.WellFormedCommands.{ArePieces, IsEnd, IsNewAsset, IsPosition, IsWellFormed}
use Rattle.lrs_machine.specs.declared.command.Command.{Command}
use Rattle.lrs_machine.specs.declared.command.Command.TheVariants as verb
use Rattle.lrs_machine.specs.declared.command.NewAsset.{NewAsset}
use Rattle.lrs_machine.proofs.Decimals.{IsSmall, lacks-decimal, lacks-signed, small_below, small_from_to}
use Rattle.lrs_machine.proofs.Joined.{AllLack, Lacks, is_other, lacks-append, lacks-joined, lacks_from}
use Rattle.lrs_sheet_records.specs.CanonicalRecords.{argument_text, command_fields, record_of}
use Rattle.lrs_sheet_records.specs.Shapes.{At, PiecesOf}
use Rattle.lrs_sheet_records.specs.Verbs.{arguments_of, method_of, new_asset_arguments, or_nothing, verb_of}

-- A byte of no alphabet, which stands between no parts of a field.
pub record IsOutside (c : ℕ) : Type 0 where
  pub key : is_key_byte c ≡ false
  pub word : is_word_byte c ≡ false
  pub route : is_route_byte c ≡ false
  pub capital : is_capital c ≡ false
  pub digit : is_ascii_digit c ≡ false
  pub plus : is_other c 43 ≡ true
  pub minus : is_other c 45 ≡ true
  pub colon : is_other c 58 ≡ true
  pub space : is_other c 32 ≡ true
  pub slash : is_other c 47 ≡ true

module _ (c : ℕ) (o : IsOutside c) where
  -- a text of letters and digits
  of-word : (text : Text) → list_all is_word_byte text ≡ true → Lacks c text
  of-word text h = lacks_from is_word_byte c text o.word h

  lacks-key : (key : Text) → is_key key ≡ true → Lacks c key
  lacks-key key h =
      let text = (and_parts (is_text 40 is_key_byte key) (not (is_lone_dash key)) h).0 in
      lacks_from is_key_byte c key o.key (and_parts (has_length 40 key) (list_all is_key_byte key) text).1

  lacks-route : (name : Text) → is_route_name name ≡ true → Lacks c name
  lacks-route name h =
      let text = (and_parts (is_text 12 is_route_byte name) (not (has_dash_first name)) h).0 in
      lacks_from is_route_byte c name o.route (and_parts (has_length 12 name) (list_all is_route_byte name) text).1

  lacks-referent : (name : Text) → is_referent_name name ≡ true → Lacks c name
  lacks-referent name h = lacks_from is_capital c name o.capital (and_parts (has_length 12 name) (list_all is_capital name) h).1

  lacks-class : (name : Text) → is_class_name name ≡ true → Lacks c name
  lacks-class name h = lacks_from is_capital c name o.capital (and_parts (has_length 8 name) (list_all is_capital name) h).1

  lacks-value : (value : Text) → is_value value ≡ true → Lacks c value
  lacks-value value h =
      let text = (and_parts (is_text 12 is_word_byte value) (not (is_lone_dash value)) h).0 in
      of-word value (and_parts (has_length 12 value) (list_all is_word_byte value) text).1

  lacks-kind : (k : Kind) → Lacks c (kind_text k)
  lacks-kind Point = of-word (codes "point") refl
  lacks-kind Stretch = of-word (codes "stretch") refl
  lacks-kind Exclusive = of-word (codes "exclusive") refl

  lacks-side : (s : Side) → Lacks c (side_text s)
  lacks-side L = of-word (codes "L") refl
  lacks-side R = of-word (codes "R") refl
  lacks-side B = of-word (codes "B") refl

  lacks-method : (m : Method) → Lacks c (method_text m)
  lacks-method (method.Abs) = of-word (codes "abs") refl
  lacks-method (method.Rel) = of-word (codes "rel") refl
  lacks-method (method.Int) = of-word (codes "int") refl

  -- numbers
  lacks-number : (n : ℕ) → IsSmall n → Lacks c (decimal n)
  lacks-number n small = lacks-decimal c n o.digit small

  lacks-asset : (n : ℕ) → is_asset_number n ≡ true → Lacks c (decimal n)
  lacks-asset n h = lacks-number n (small_from_to 1 1_000_000_000_000 n h (record { bound = omega arith }))

  lacks-chainage : (n : ℕ) → is_chainage n ≡ true → Lacks c (decimal n)
  lacks-chainage n h = lacks-number n (small_below longest_route n h (record { bound = omega arith }))

  lacks-offset : (n : ℕ) → is_lateral_offset n ≡ true → Lacks c (decimal n)
  lacks-offset n h = lacks-number n (small_below 100_000 n h (record { bound = omega arith }))

  -- positions
  lacks-expression : (e : Expr) → IsPosition e → Lacks c (expression_text e)
  lacks-expression (Abs m) p =
      let both = and_parts (nat_eq m.den 1 && not (is_negative m.num)) (nat_le (unsigned_abs m.num) greatest_measure) p.entered in
      lacks-number (unsigned_abs m.num) (small_below greatest_measure (unsigned_abs m.num) both.1 (record { bound = omega arith }))
  lacks-expression (Rel name t) p =
      let both = and_parts (nat_eq t.den 1) (nat_le (unsigned_abs t.num) longest_route) p.entered in
      lacks-append c name (signed_text t.num) (lacks-referent name p.referent) (lacks-signed c t.num o.digit o.plus o.minus (small_below longest_route (unsigned_abs t.num) both.1 (record { bound = omega arith })))
  lacks-expression (Int p) h =
      let outer = and_parts (nat_le p.den greatest_denominator && not (is_negative p.num)) (nat_le (unsigned_abs p.num) p.den) h.entered in
      let inner = and_parts (nat_le p.den greatest_denominator) (not (is_negative p.num)) outer.0 in
      let den = small_below greatest_denominator p.den inner.0 (record { bound = omega arith }) in
      let part = lacks-number (unsigned_abs p.num) (small_below p.den (unsigned_abs p.num) outer.1 den) in
      lacks-append c (decimal (unsigned_abs p.num) ++ codes "/") (decimal p.den) (lacks-append c (decimal (unsigned_abs p.num)) (codes "/") part (and_from (is_other c 47) true o.slash refl)) (lacks-number p.den den)

  lacks-end : (x : Option Expr) → IsEnd x → Lacks c (argument_text (or_nothing At x))
  lacks-end None h = refl
  lacks-end (Some e) h = lacks-expression e h

  -- pieces
  lacks-sign : (forward : Bool) → Lacks c (if forward then codes "+" else codes "-")
  lacks-sign true = and_from (is_other c 43) true o.plus refl
  lacks-sign false = and_from (is_other c 45) true o.minus refl

  lacks-piece : (p : Piece) → is_entered_piece p ≡ true → Lacks c (piece_text p)
  lacks-piece p h =
      let outer = and_parts (is_link_number p.link && nat_le p.from longest_link) (nat_le p.to longest_link) h in
      let inner = and_parts (is_link_number p.link) (nat_le p.from longest_link) outer.0 in
      let limit : IsSmall longest_link = record { bound = omega arith } in
      let link = lacks-number p.link (small_from_to 1 999_999 p.link inner.0 (record { bound = omega arith })) in
      let low = lacks-number p.from (small_below longest_link p.from inner.1 limit) in
      let high = lacks-number p.to (small_below longest_link p.to outer.1 limit) in
      lacks-joined c 58 (decimal p.link ∷ decimal p.from ∷ decimal p.to ∷ (if p.forward then codes "+" else codes "-") ∷ []) o.colon (link, (low, (high, (lacks-sign p.forward, tt))))

  lacks-each_piece : (ps : List Piece) → list_all is_entered_piece ps ≡ true → AllLack c (map piece_text ps)
  lacks-each_piece [] h = tt
  lacks-each_piece (p ∷ ps) h =
      let both = and_parts (is_entered_piece p) (list_all is_entered_piece ps) h in
      (lacks-piece p both.0, lacks-each_piece ps both.1)

  lacks-pieces : (ps : List Piece) → are_entered_pieces ps ≡ true → Lacks c (pieces_text ps)
  lacks-pieces ps h = lacks-joined c 32 (map piece_text ps) o.space (lacks-each_piece ps (and_parts (is_from_to 1 most_pieces (length ps)) (list_all is_entered_piece ps) h).1)

  lacks-some_pieces : (x : Option (List Piece)) → ArePieces x → Lacks c (argument_text (or_nothing PiecesOf x))
  lacks-some_pieces None h = refl
  lacks-some_pieces (Some ps) h = lacks-pieces ps h

  -- marks
  lacks-mark : (m : Mark) → is_entered_mark m ≡ true → Lacks c (mark_text m)
  lacks-mark m h =
      let both = and_parts (is_chainage m.chainage) (nat_le m.measure greatest_measure) h in
      let measure = lacks-number m.measure (small_below greatest_measure m.measure both.1 (record { bound = omega arith })) in
      lacks-joined c 58 (decimal m.chainage ∷ decimal m.measure ∷ []) o.colon (lacks-chainage m.chainage both.0, (measure, tt))

  lacks-each_mark : (ms : List Mark) → list_all is_entered_mark ms ≡ true → AllLack c (map mark_text ms)
  lacks-each_mark [] h = tt
  lacks-each_mark (m ∷ ms) h =
      let both = and_parts (is_entered_mark m) (list_all is_entered_mark ms) h in
      (lacks-mark m both.0, lacks-each_mark ms both.1)

  lacks-marks : (ms : List Mark) → are_entered_marks ms ≡ true → Lacks c (marks_text ms)
  lacks-marks ms h = lacks-joined c 32 (map mark_text ms) o.space (lacks-each_mark ms (and_parts (is_from_to 2 most_marks (length ms)) (list_all is_entered_mark ms) h).1)

  -- commands
  lacks-verb : (a : Command) → Lacks c (verb_of a)
  lacks-verb (verb.Link l) = of-word (codes "link") refl
  lacks-verb (verb.Class k) = of-word (codes "class") refl
  lacks-verb (verb.Route name pieces marks) = of-word (codes "route") refl
  lacks-verb (verb.Ref name route at) = of-word (codes "ref") refl
  lacks-verb (verb.Unref name) = of-word (codes "unref") refl
  lacks-verb (verb.Enter e) = of-word (codes "enter") refl
  lacks-verb (verb.Retire asset route location) = of-word (codes "retire") refl
  lacks-verb (verb.Split route at name) = of-word (codes "split") refl
  lacks-verb (verb.Join first second) = of-word (codes "join") refl
  lacks-verb (verb.Renumber route name) = of-word (codes "renumber") refl
  lacks-verb (verb.Recalibrate route marks) = of-word (codes "recalibrate") refl
  lacks-verb (verb.Realign route first end pieces marks) = of-word (codes "realign") refl
  lacks-verb (verb.Close route) = of-word (codes "close") refl
  lacks-verb (verb.Supersede e) = of-word (codes "supersede") refl
  lacks-verb (verb.Turn route) = of-word (codes "turn") refl

  lacks-entry : (e : NewAsset) → IsNewAsset e → AllLack c (map argument_text (new_asset_arguments e))
  lacks-entry e h = (
    lacks-asset e.asset h.asset,
    (
      lacks-class e.class h.class,
      (
        lacks-route e.route h.route,
        (
          lacks-side e.side,
          (
            lacks-method (method_of e.location.from),
            (lacks-expression e.location.from h.location.first, (lacks-end e.location.to h.location.end, (lacks-value e.value h.value, (lacks-offset e.offset h.offset, tt)))),
          ),
        ),
      ),
    ),
  )

  lacks-arguments : (a : Command) → IsWellFormed a → AllLack c (map argument_text (arguments_of a))
  lacks-arguments (verb.Link l) h =
      let both = and_parts (is_link_number l.number) (is_from_to 1 longest_link l.length) l.limits in
      let number = lacks-number l.number (small_from_to 1 999_999 l.number both.0 (record { bound = omega arith })) in
      (number, (lacks-number l.length (small_from_to 1 longest_link l.length both.1 (record { bound = omega arith })), tt))
  lacks-arguments (verb.Class k) h = (lacks-class k.name h, (lacks-kind k.kind, tt))
  lacks-arguments (verb.Route name pieces marks) h = (lacks-route name h.0, (lacks-pieces pieces h.1, (lacks-marks marks h.2, tt)))
  lacks-arguments (verb.Ref name route at) h = (lacks-referent name h.0, (lacks-route route h.1, (lacks-method (method_of at), (lacks-expression at h.2, tt))))
  lacks-arguments (verb.Unref name) h = (lacks-referent name h, tt)
  lacks-arguments (verb.Enter e) h = lacks-entry e h
  lacks-arguments (verb.Retire asset route location) h =
      (lacks-asset asset h.0, (lacks-route route h.1, (lacks-method (method_of location.from), (lacks-expression location.from h.2.first, (lacks-end location.to h.2.end, tt)))))
  lacks-arguments (verb.Split route at name) h = (lacks-route route h.0, (lacks-chainage at h.1, (lacks-route name h.2, tt)))
  lacks-arguments (verb.Join first second) h = (lacks-route first h.0, (lacks-route second h.1, tt))
  lacks-arguments (verb.Renumber route name) h = (lacks-route route h.0, (lacks-route name h.1, tt))
  lacks-arguments (verb.Recalibrate route marks) h = (lacks-route route h.0, (lacks-marks marks h.1, tt))
  lacks-arguments (verb.Realign route first end pieces marks) h =
      (lacks-route route h.0, (lacks-chainage first h.1, (lacks-chainage end h.2, (lacks-some_pieces pieces h.3, (lacks-marks marks h.4, tt)))))
  lacks-arguments (verb.Close route) h = (lacks-route route h, tt)
  lacks-arguments (verb.Supersede e) h = lacks-entry e h
  lacks-arguments (verb.Turn route) h = (lacks-route route h, tt)

  -- the verb and the fields of a command
  pub lacks-fields : (a : Command) → IsWellFormed a → AllLack c (command_fields a)
  lacks-fields a h = (lacks-verb a, lacks-arguments a h)

  lacks-empty : (n : ℕ) → AllLack c (replicate n [])
  lacks-empty zero = tt
  lacks-empty (suc n) = (refl, lacks-empty n)

  lacks-behind : (xs ys : List Text) → AllLack c xs → AllLack c ys → AllLack c (xs ++ ys)
  lacks-behind [] ys h g = g
  lacks-behind (x ∷ xs) ys h g = (h.0, lacks-behind xs ys h.1 g)

  -- the record of a command, with empty fields behind it
  pub lacks-padded : (key : Text) (a : Command) (n : ℕ) → is_key key ≡ true → IsWellFormed a → AllLack c (record_of key a ++ replicate n [])
  lacks-padded key a n is formed = lacks-behind (record_of key a) (replicate n []) (lacks-key key is, lacks-fields a formed) (lacks-empty n)

-- the bytes that `csv` sets apart
abbrev outside : (c : ℕ) → is_key_byte c ≡ false → is_word_byte c ≡ false → is_route_byte c ≡ false → is_capital c ≡ false → is_ascii_digit c ≡ false → is_other c 43 ≡ true → is_other c 45 ≡ true → is_other c 58 ≡ true → is_other c 32 ≡ true → is_other c 47 ≡ true → IsOutside c
outside c a b d e f g h i j k = record { key = a; word = b; route = d; capital = e; digit = f; plus = g; minus = h; colon = i; space = j; slash = k }

pub comma-outside : IsOutside 44
comma-outside = outside 44 refl refl refl refl refl refl refl refl refl refl

pub quote-outside : IsOutside 34
quote-outside = outside 34 refl refl refl refl refl refl refl refl refl refl

pub return-outside : IsOutside 13
return-outside = outside 13 refl refl refl refl refl refl refl refl refl refl

pub feed-outside : IsOutside 10
feed-outside = outside 10 refl refl refl refl refl refl refl refl refl refl
