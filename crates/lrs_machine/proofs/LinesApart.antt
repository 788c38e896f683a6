-- Equal lines come only of equal commands.
use Rattle.std.proofs.Common.{◌≡◌, ℕ, true, List, [], ◌∷◌, refl, sym, ap, ◌∙◌, subst, arith}
use Rattle.std.specs.Prelude.{IsTrue, not, codes}
use Rattle.std.specs.List.{list_all, join_with_byte}
use Rattle.std.specs.Fmt.{decimal}
use Rattle.std.proofs.Math.Bool.{Bool-set}
use Rattle.std.proofs.lemmas.Bool.{and_parts}
use Rattle.lrs_measure.specs.Alphabets.{is_capital, is_word_byte, is_text, has_length, has_dash_first, is_lone_dash}
use Rattle.lrs_measure.specs.Lists.{is_from_to}
use Rattle.lrs_measure.specs.Texts.{same_name}
use Rattle.lrs_measure.specs.Limits.{is_link, is_link_number, longest_link, longest_route}
use Rattle.lrs_element.specs.declared.link.Link.{Link}
use Rattle.lrs_position.specs.Names.{is_route_byte, is_route_name, is_referent_name}
use Rattle.lrs_events.specs.Names.{is_class_name, is_value}
use Rattle.lrs_events.specs.declared.class.Class.{Class}
use Rattle.lrs_events.specs.declared.class.Kind.{Kind}
use Rattle.lrs_events.specs.declared.class.Kind.TheVariants.{Point, Stretch, Exclusive}
use Rattle.lrs_events.specs.declared.side.Side.{Side}
use Rattle.lrs_events.specs.declared.side.Side.TheVariants.{L, R, B}
use Rattle.lrs_machine.specs.declared.command.NewAsset.{NewAsset}
use Rattle.lrs_machine.specs.declared.command.Command.{Command}
use Rattle.lrs_machine.specs.declared.command.Command.TheVariants as verb
use Rattle.lrs_machine.specs.EnteredNumbers.{is_asset_number, is_chainage, is_lateral_offset}
use Rattle.lrs_events.specs.Names.{kind_text, side_text}
use Rattle.lrs_machine.specs.Lines.{Text, pieces_text, some_pieces_text, marks_text, method_text, expression_text, end_text, location_fields, new_asset_fields, line_of}
use Rattle.lrs_machine.specs.WellFormedCommands.{IsNewAsset, IsWellFormed}
use Rattle.lrs_machine.specs.Laws.{LinesTellCommandsApart}
use Rattle.lrs_machine.proofs.Joined.{Lacks, AllLack, lacks_from, joined_apart, differ, starts_with}
use Rattle.lrs_machine.proofs.Decimals.{IsSmall, small_below, small_from_to, lacks-decimal, decimals_apart}
use Rattle.lrs_machine.proofs.ExpressionTexts.{expressions_apart, methods_apart, lacks-method, lacks-expression, locations_apart, lacks-location}
use Rattle.lrs_machine.proofs.ListTexts.{pieces_apart, lacks-pieces, some_pieces_apart, lacks-some_pieces, marks_apart, lacks-marks}

-- an asset's number is small
asset_small : (n : ℕ) → is_asset_number n ≡ true → IsSmall n
asset_small n h = small_from_to 1 1_000_000_000_000 n h (record { bound = omega arith })

-- so is a chainage
chainage_small : (n : ℕ) → is_chainage n ≡ true → IsSmall n
chainage_small n h = small_below longest_route n h (record { bound = omega arith })

-- and a lateral offset
offset_small : (n : ℕ) → is_lateral_offset n ≡ true → IsSmall n
offset_small n h = small_below 100_000 n h (record { bound = omega arith })

-- the numbers of a link
record IsSmallLink (l : Link) : Type 0 where
  number : IsSmall l.number
  length : IsSmall l.length

-- the numbers of a link are small
link_small : (l : Link) → IsSmallLink l
link_small l =
    let both = and_parts (is_link_number l.number) (is_from_to 1 longest_link l.length) l.limits in
    record { number = small_from_to 1 999_999 l.number both.0 (record { bound = omega arith }); length = small_from_to 1 longest_link l.length both.1 (record { bound = omega arith }) }

-- a link by its parts
abbrev link_of : (number length : ℕ) → IsTrue (is_link number length) → Link
link_of number length limits = record { number = number; length = length; limits = limits }

-- links of one number and one length are equal, since a test has one proof that it is true
links_alike : (n k m j : ℕ) (h : IsTrue (is_link n k)) (g : IsTrue (is_link m j)) → n ≡ m → k ≡ j → link_of n k h ≡ link_of m j g
links_alike n k m j h g number length =
    let P : ℕ → Type 0 = λ x. (g : IsTrue (is_link n x)) → link_of n k h ≡ link_of n x g in
    let Q : ℕ → Type 0 = λ x. (g : IsTrue (is_link x j)) → link_of n k h ≡ link_of x j g in
    subst Q number (subst P length (λ g. ap (link_of n k) (Bool-set (is_link n k) true h g))) g

-- a route's name has no comma
lacks-route : (name : Text) → is_route_name name ≡ true → Lacks 44 name
lacks-route name h =
    let text = (and_parts (is_text 12 is_route_byte name) (not (has_dash_first name)) h).0 in
    lacks_from is_route_byte 44 name refl (and_parts (has_length 12 name) (list_all is_route_byte name) text).1

-- nor has a referent's name
lacks-referent : (name : Text) → is_referent_name name ≡ true → Lacks 44 name
lacks-referent name h = lacks_from is_capital 44 name refl (and_parts (has_length 12 name) (list_all is_capital name) h).1

-- nor the name of a class
lacks-class : (name : Text) → is_class_name name ≡ true → Lacks 44 name
lacks-class name h = lacks_from is_capital 44 name refl (and_parts (has_length 8 name) (list_all is_capital name) h).1

-- nor a value
lacks-value : (value : Text) → is_value value ≡ true → Lacks 44 value
lacks-value value h =
    let text = (and_parts (is_text 12 is_word_byte value) (not (is_lone_dash value)) h).0 in
    lacks_from is_word_byte 44 value refl (and_parts (has_length 12 value) (list_all is_word_byte value) text).1

-- nor the text of a kind
lacks-kind : (k : Kind) → Lacks 44 (kind_text k)
lacks-kind Point = refl
lacks-kind Stretch = refl
lacks-kind Exclusive = refl

-- equal texts come only of equal kinds
kinds_apart : (k l : Kind) → kind_text k ≡ kind_text l → k ≡ l
kinds_apart Point Point e = refl
kinds_apart Stretch Stretch e = refl
kinds_apart Exclusive Exclusive e = refl
kinds_apart Point l e = absurd (differ (starts_with 112) (codes "point") (kind_text l) e refl refl)
kinds_apart Stretch l e = absurd (differ (starts_with 115) (codes "stretch") (kind_text l) e refl refl)
kinds_apart Exclusive l e = absurd (differ (starts_with 101) (codes "exclusive") (kind_text l) e refl refl)

-- the text of a side has no comma
lacks-side : (s : Side) → Lacks 44 (side_text s)
lacks-side L = refl
lacks-side R = refl
lacks-side B = refl

-- equal texts come only of equal sides
sides_apart : (s t : Side) → side_text s ≡ side_text t → s ≡ t
sides_apart L L e = refl
sides_apart R R e = refl
sides_apart B B e = refl
sides_apart L t e = absurd (differ (starts_with 76) (codes "L") (side_text t) e refl refl)
sides_apart R t e = absurd (differ (starts_with 82) (codes "R") (side_text t) e refl refl)
sides_apart B t e = absurd (differ (starts_with 66) (codes "B") (side_text t) e refl refl)

-- the first field of a line
abbrev verb_of : Command → Text
verb_of (verb.Link l) = codes "link"
verb_of (verb.Class c) = codes "class"
verb_of (verb.Route name pieces marks) = codes "route"
verb_of (verb.Ref name route at) = codes "ref"
verb_of (verb.Unref name) = codes "unref"
verb_of (verb.Enter e) = codes "enter"
verb_of (verb.Retire asset route location) = codes "retire"
verb_of (verb.Split route at name) = codes "split"
verb_of (verb.Join first second) = codes "join"
verb_of (verb.Renumber route name) = codes "renumber"
verb_of (verb.Recalibrate route marks) = codes "recalibrate"
verb_of (verb.Realign route first end pieces marks) = codes "realign"
verb_of (verb.Close route) = codes "close"
verb_of (verb.Supersede e) = codes "supersede"
verb_of (verb.Turn route) = codes "turn"

-- the others
abbrev others_of : Command → List Text
others_of (verb.Link l) = decimal l.number ∷ decimal l.length ∷ []
others_of (verb.Class c) = c.name ∷ kind_text c.kind ∷ []
others_of (verb.Route name pieces marks) = name ∷ pieces_text pieces ∷ marks_text marks ∷ []
others_of (verb.Ref name route at) = name ∷ route ∷ method_text at ∷ expression_text at ∷ []
others_of (verb.Unref name) = name ∷ []
others_of (verb.Enter e) = new_asset_fields e
others_of (verb.Retire asset route location) = decimal asset ∷ route ∷ location_fields location
others_of (verb.Split route at name) = route ∷ decimal at ∷ name ∷ []
others_of (verb.Join first second) = first ∷ second ∷ []
others_of (verb.Renumber route name) = route ∷ name ∷ []
others_of (verb.Recalibrate route marks) = route ∷ marks_text marks ∷ []
others_of (verb.Realign route first end pieces marks) = route ∷ decimal first ∷ decimal end ∷ some_pieces_text pieces ∷ marks_text marks ∷ []
others_of (verb.Close route) = route ∷ []
others_of (verb.Supersede e) = new_asset_fields e
others_of (verb.Turn route) = route ∷ []

-- a line joins its fields by commas
line_is : (a : Command) → line_of a ≡ join_with_byte 44 (verb_of a ∷ others_of a)
line_is (verb.Link l) = refl
line_is (verb.Class c) = refl
line_is (verb.Route name pieces marks) = refl
line_is (verb.Ref name route at) = refl
line_is (verb.Unref name) = refl
line_is (verb.Enter e) = refl
line_is (verb.Retire asset route location) = refl
line_is (verb.Split route at name) = refl
line_is (verb.Join first second) = refl
line_is (verb.Renumber route name) = refl
line_is (verb.Recalibrate route marks) = refl
line_is (verb.Realign route first end pieces marks) = refl
line_is (verb.Close route) = refl
line_is (verb.Supersede e) = refl
line_is (verb.Turn route) = refl

-- no field of an entry has a comma
lacks-entry : (e : NewAsset) → IsNewAsset e → AllLack 44 (new_asset_fields e)
lacks-entry e h =
    let place = lacks-location e.location h.location in (
      lacks-decimal 44 e.asset refl (asset_small e.asset h.asset),
      (
        lacks-class e.class h.class,
        (
          lacks-route e.route h.route,
          (
            lacks-side e.side,
            (place.0, (place.1, (place.2, (lacks-value e.value h.value, (lacks-decimal 44 e.offset refl (offset_small e.offset h.offset), tt))))),
          ),
        ),
      ),
    )

-- no field of a well formed command has a comma
lacks-fields : (a : Command) → IsWellFormed a → AllLack 44 (verb_of a ∷ others_of a)
lacks-fields (verb.Link l) h = let small = link_small l in (refl, (lacks-decimal 44 l.number refl small.number, (lacks-decimal 44 l.length refl small.length, tt)))
lacks-fields (verb.Class c) h = (refl, (lacks-class c.name h, (lacks-kind c.kind, tt)))
lacks-fields (verb.Route name pieces marks) h = (refl, (lacks-route name h.0, (lacks-pieces pieces h.1, (lacks-marks marks h.2, tt))))
lacks-fields (verb.Ref name route at) h = (refl, (lacks-referent name h.0, (lacks-route route h.1, (lacks-method at, (lacks-expression at h.2, tt)))))
lacks-fields (verb.Unref name) h = (refl, (lacks-referent name h, tt))
lacks-fields (verb.Enter e) h = (refl, lacks-entry e h)
lacks-fields (verb.Retire asset route location) h =
    let place = lacks-location location h.2 in
    (refl, (lacks-decimal 44 asset refl (asset_small asset h.0), (lacks-route route h.1, (place.0, (place.1, (place.2, tt))))))
lacks-fields (verb.Split route at name) h = (refl, (lacks-route route h.0, (lacks-decimal 44 at refl (chainage_small at h.1), (lacks-route name h.2, tt))))
lacks-fields (verb.Join first second) h = (refl, (lacks-route first h.0, (lacks-route second h.1, tt)))
lacks-fields (verb.Renumber route name) h = (refl, (lacks-route route h.0, (lacks-route name h.1, tt)))
lacks-fields (verb.Recalibrate route marks) h = (refl, (lacks-route route h.0, (lacks-marks marks h.1, tt)))
lacks-fields (verb.Realign route first end pieces marks) h =
    (refl, (lacks-route route h.0, (lacks-decimal 44 first refl (chainage_small first h.1), (lacks-decimal 44 end refl (chainage_small end h.2), (lacks-some_pieces pieces h.3, (lacks-marks marks h.4, tt))))))
lacks-fields (verb.Close route) h = (refl, (lacks-route route h, tt))
lacks-fields (verb.Supersede e) h = (refl, lacks-entry e h)
lacks-fields (verb.Turn route) h = (refl, (lacks-route route h, tt))

-- equal lines have equal fields
fields_alike : (a b : Command) → IsWellFormed a → IsWellFormed b → line_of a ≡ line_of b → verb_of a ∷ others_of a ≡ verb_of b ∷ others_of b
fields_alike a b g h e = joined_apart 44 (verb_of a) (verb_of b) (others_of a) (others_of b) refl (lacks-fields a g) (lacks-fields b h) (sym (line_is a) ∙ e ∙ line_is b)

-- equal fields come only of equal entries
entries_apart : (d e : NewAsset) → IsNewAsset d → IsNewAsset e → new_asset_fields d ≡ new_asset_fields e → d ≡ e
entries_apart d e g h same =
    let asset : decimal d.asset ≡ decimal e.asset = cc in
    let class : d.class ≡ e.class = cc in
    let route : d.route ≡ e.route = cc in
    let side : side_text d.side ≡ side_text e.side = cc in
    let method : method_text d.location.from ≡ method_text e.location.from = cc in
    let start : expression_text d.location.from ≡ expression_text e.location.from = cc in
    let end : end_text d.location.to ≡ end_text e.location.to = cc in
    let value : d.value ≡ e.value = cc in
    let offset : decimal d.offset ≡ decimal e.offset = cc in
    let number = decimals_apart d.asset e.asset (asset_small d.asset g.asset) (asset_small e.asset h.asset) asset in
    let beside = sides_apart d.side e.side side in
    let place = locations_apart d.location e.location g.location h.location method start end in
    let away = decimals_apart d.offset e.offset (offset_small d.offset g.offset) (offset_small e.offset h.offset) offset in
    λ i. record { asset = number i; class = class i; route = route i; side = beside i; location = place i; value = value i; offset = away i }

-- equal fields come only of equal links
link_apart : (l m : Link) → others_of (verb.Link l) ≡ others_of (verb.Link m) → l ≡ m
link_apart l m e =
    let number : decimal l.number ≡ decimal m.number = cc in
    let length : decimal l.length ≡ decimal m.length = cc in
    let small = link_small l in
    let other = link_small m in
    links_alike l.number l.length m.number m.length l.limits m.limits (decimals_apart l.number m.number small.number other.number number) (decimals_apart l.length m.length small.length other.length length)

-- equal fields come only of equal classes
class_apart : (c d : Class) → others_of (verb.Class c) ≡ others_of (verb.Class d) → c ≡ d
class_apart c d e =
    let name : c.name ≡ d.name = cc in
    let text : kind_text c.kind ≡ kind_text d.kind = cc in
    let kind = kinds_apart c.kind d.kind text in
    λ i. record { name = name i; kind = kind i }

-- Equal fields of well formed commands come only of equal commands.
commands_apart : (a b : Command) → IsWellFormed a → IsWellFormed b → verb_of a ≡ verb_of b → others_of a ≡ others_of b → a ≡ b
commands_apart (verb.Link l) (verb.Link m) g h v e = ap verb.Link (link_apart l m e)
commands_apart (verb.Link l) b g h v e = absurd (differ (same_name (codes "link")) (codes "link") (verb_of b) v refl refl)
commands_apart (verb.Class c) (verb.Class d) g h v e = ap verb.Class (class_apart c d e)
commands_apart (verb.Class c) b g h v e = absurd (differ (same_name (codes "class")) (codes "class") (verb_of b) v refl refl)
commands_apart (verb.Route name pieces marks) (verb.Route other qs ns) g h v e =
    let same : name ≡ other = cc in
    let course : pieces_text pieces ≡ pieces_text qs = cc in
    let line : marks_text marks ≡ marks_text ns = cc in
    let ps = pieces_apart pieces qs g.1 h.1 course in
    let ms = marks_apart marks ns g.2 h.2 line in
    λ i. verb.Route (same i) (ps i) (ms i)
commands_apart (verb.Route name pieces marks) b g h v e = absurd (differ (same_name (codes "route")) (codes "route") (verb_of b) v refl refl)
commands_apart (verb.Ref name route at) (verb.Ref other way on) g h v e =
    let same : name ≡ other = cc in
    let road : route ≡ way = cc in
    let method : method_text at ≡ method_text on = cc in
    let text : expression_text at ≡ expression_text on = cc in
    let place = expressions_apart at on g.2 h.2 (methods_apart at on method) text in
    λ i. verb.Ref (same i) (road i) (place i)
commands_apart (verb.Ref name route at) b g h v e = absurd (differ (same_name (codes "ref")) (codes "ref") (verb_of b) v refl refl)
commands_apart (verb.Unref name) (verb.Unref other) g h v e = let same : name ≡ other = cc in ap verb.Unref same
commands_apart (verb.Unref name) b g h v e = absurd (differ (same_name (codes "unref")) (codes "unref") (verb_of b) v refl refl)
commands_apart (verb.Enter d) (verb.Enter f) g h v e = ap verb.Enter (entries_apart d f g h e)
commands_apart (verb.Enter d) b g h v e = absurd (differ (same_name (codes "enter")) (codes "enter") (verb_of b) v refl refl)
commands_apart (verb.Retire asset route location) (verb.Retire other way place) g h v e =
    let text : decimal asset ≡ decimal other = cc in
    let road : route ≡ way = cc in
    let method : method_text location.from ≡ method_text place.from = cc in
    let start : expression_text location.from ≡ expression_text place.from = cc in
    let end : end_text location.to ≡ end_text place.to = cc in
    let number = decimals_apart asset other (asset_small asset g.0) (asset_small other h.0) text in
    let spot = locations_apart location place g.2 h.2 method start end in
    λ i. verb.Retire (number i) (road i) (spot i)
commands_apart (verb.Retire asset route location) b g h v e = absurd (differ (same_name (codes "retire")) (codes "retire") (verb_of b) v refl refl)
commands_apart (verb.Split route at name) (verb.Split way on other) g h v e =
    let road : route ≡ way = cc in
    let text : decimal at ≡ decimal on = cc in
    let same : name ≡ other = cc in
    let number = decimals_apart at on (chainage_small at g.1) (chainage_small on h.1) text in
    λ i. verb.Split (road i) (number i) (same i)
commands_apart (verb.Split route at name) b g h v e = absurd (differ (same_name (codes "split")) (codes "split") (verb_of b) v refl refl)
commands_apart (verb.Join first second) (verb.Join way other) g h v e =
    let road : first ≡ way = cc in
    let next : second ≡ other = cc in
    λ i. verb.Join (road i) (next i)
commands_apart (verb.Join first second) b g h v e = absurd (differ (same_name (codes "join")) (codes "join") (verb_of b) v refl refl)
commands_apart (verb.Renumber route name) (verb.Renumber way other) g h v e =
    let road : route ≡ way = cc in
    let same : name ≡ other = cc in
    λ i. verb.Renumber (road i) (same i)
commands_apart (verb.Renumber route name) b g h v e = absurd (differ (same_name (codes "renumber")) (codes "renumber") (verb_of b) v refl refl)
commands_apart (verb.Recalibrate route marks) (verb.Recalibrate way ns) g h v e =
    let road : route ≡ way = cc in
    let line : marks_text marks ≡ marks_text ns = cc in
    let ms = marks_apart marks ns g.1 h.1 line in
    λ i. verb.Recalibrate (road i) (ms i)
commands_apart (verb.Recalibrate route marks) b g h v e = absurd (differ (same_name (codes "recalibrate")) (codes "recalibrate") (verb_of b) v refl refl)
commands_apart (verb.Realign route first end pieces marks) (verb.Realign way start stop qs ns) g h v e =
    let road : route ≡ way = cc in
    let low : decimal first ≡ decimal start = cc in
    let high : decimal end ≡ decimal stop = cc in
    let course : some_pieces_text pieces ≡ some_pieces_text qs = cc in
    let line : marks_text marks ≡ marks_text ns = cc in
    let lower = decimals_apart first start (chainage_small first g.1) (chainage_small start h.1) low in
    let upper = decimals_apart end stop (chainage_small end g.2) (chainage_small stop h.2) high in
    let ps = some_pieces_apart pieces qs g.3 h.3 course in
    let ms = marks_apart marks ns g.4 h.4 line in
    λ i. verb.Realign (road i) (lower i) (upper i) (ps i) (ms i)
commands_apart (verb.Realign route first end pieces marks) b g h v e = absurd (differ (same_name (codes "realign")) (codes "realign") (verb_of b) v refl refl)
commands_apart (verb.Close route) (verb.Close way) g h v e = let road : route ≡ way = cc in ap verb.Close road
commands_apart (verb.Close route) b g h v e = absurd (differ (same_name (codes "close")) (codes "close") (verb_of b) v refl refl)
commands_apart (verb.Supersede d) (verb.Supersede f) g h v e = ap verb.Supersede (entries_apart d f g h e)
commands_apart (verb.Supersede d) b g h v e = absurd (differ (same_name (codes "supersede")) (codes "supersede") (verb_of b) v refl refl)
commands_apart (verb.Turn route) (verb.Turn way) g h v e = let road : route ≡ way = cc in ap verb.Turn road
commands_apart (verb.Turn route) b g h v e = absurd (differ (same_name (codes "turn")) (codes "turn") (verb_of b) v refl refl)

-- equal lines come only of equal commands
pub lines_tell_commands_apart : LinesTellCommandsApart
lines_tell_commands_apart a b g h e =
    let fields = fields_alike a b g h e in
    let verbs : verb_of a ≡ verb_of b = cc (fields) in
    let others : others_of a ≡ others_of b = cc (fields) in
    commands_apart a b g h verbs others
