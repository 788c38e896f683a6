-- Canonical lines, as an accepted command of each verb is kept.
use Rattle.std.specs.Prelude.{◌≡◌, [], ◌∷◌, map, codes, refl}
use Rattle.std.specs.Fmt.{digits}
use Rattle.lrs_events.specs.declared.class.Kind.TheVariants.{Point, Stretch, Exclusive}
use Rattle.lrs_events.specs.declared.side.Side.TheVariants.{L, R, B}
use Rattle.lrs_machine.specs.declared.command.Command.TheVariants as verb
use Rattle.lrs_machine.specs.Lines.{line_of}
use Rattle.lrs_machine.specs.Machine.{attempt, step}
use Rattle.lrs_examples.specs.Sheet.{a1, km2, km5, speed, rail, sign, abs, past, short_of, share, between, at, link, class, forth, back, mark, plain, enter, supersede, split, join, realign, realign_away, retire, adding, after, with_speed}

-- A link: its number and its length.
pub link_line : line_of (link 1 5000 refl) ≡ codes "link,1,5000"
unfolding digits
link_line = refl

-- Numbers have no separators.
pub greatest_link_line : line_of (link 999_999 1_000_000_000 refl) ≡ codes "link,999999,1000000000"
unfolding digits
greatest_link_line = refl

-- A class of each kind.
pub class_lines : map line_of (class speed Exclusive ∷ class rail Stretch ∷ class sign Point ∷ []) ≡ codes "class,SPEED,exclusive" ∷ codes "class,RAIL,stretch" ∷ codes "class,SIGN,point" ∷ []
unfolding digits
class_lines = refl

-- The directions of pieces, between spaces.
pub route_line : line_of (verb.Route a1 (forth 1 0 5000 ∷ back 2 0 3000 ∷ []) (mark 0 0 ∷ mark 5000 6000 ∷ mark 8000 9000 ∷ [])) ≡ codes "route,A1,1:0:5000:+ 2:0:3000:-,0:0 5000:6000 8000:9000"
unfolding digits
route_line = refl

-- Pieces stand as they were listed, also where two of them are one.
pub unmerged_pieces : line_of (verb.Route a1 (forth 1 0 3000 ∷ forth 1 3000 5000 ∷ []) (plain 5000)) ≡ codes "route,A1,1:0:3000:+ 1:3000:5000:+,0:0 5000:5000"
unfolding digits
unmerged_pieces = refl

-- The three methods; a distance has its sign, also where it is nothing.
pub ref_lines : map (λ at. line_of (verb.Ref km5 a1 at)) (abs 3 ∷ past km2 0 ∷ past km2 498 ∷ short_of km2 3 ∷ share 1 3 ∷ share 0 1 ∷ [])
    ≡ codes "ref,KM5,A1,abs,3" ∷ codes "ref,KM5,A1,rel,KM2+0" ∷ codes "ref,KM5,A1,rel,KM2+498" ∷ codes "ref,KM5,A1,rel,KM2-3" ∷ codes "ref,KM5,A1,int,1/3" ∷ codes "ref,KM5,A1,int,0/1" ∷ []
unfolding digits
ref_lines = refl

-- A referent that goes.
pub unref_line : line_of (verb.Unref km2) ≡ codes "unref,KM2"
unfolding digits
unref_line = refl

-- A stretch on both sides, by measure, with its value and its lateral offset.
pub enter_line : line_of (enter 10 speed B (between (abs 3000) (abs 9000)) (codes "80")) ≡ codes "enter,10,SPEED,A1,B,abs,3000,9000,80,0"
unfolding digits
enter_line = refl

-- A point has no end: its field is empty.
pub enter_point_line : line_of (enter 20 sign L (at (abs 9000)) (codes "STOP")) ≡ codes "enter,20,SIGN,A1,L,abs,9000,,STOP,0"
unfolding digits
enter_point_line = refl

-- With a lateral offset, and ends from a referent.
pub enter_offset_line : line_of (verb.Enter (record { asset = 30; class = rail; route = a1; side = R; location = between (past km2 498) (past km2 1498); value = codes "STEEL"; offset = 300 }))
    ≡ codes "enter,30,RAIL,A1,R,rel,KM2+498,KM2+1498,STEEL,300"
unfolding digits
enter_offset_line = refl

-- A stretch that is retired, by proportion.
pub retire_line : line_of (retire 10 (between (share 1 3) (share 2 3))) ≡ codes "retire,10,A1,int,1/3,2/3"
unfolding digits
retire_line = refl

-- An empty field of the verb's own stays at the end of the line.
pub retire_point_line : line_of (retire 20 (at (abs 9000))) ≡ codes "retire,20,A1,abs,9000,"
unfolding digits
retire_point_line = refl

-- A split: the chainage, and the new name.
pub split_line : line_of (split 5000) ≡ codes "split,A1,5000,A2"
unfolding digits
split_line = refl

-- A join: both names.
pub join_line : line_of join ≡ codes "join,A1,A2"
unfolding digits
join_line = refl

-- A new name for a route.
pub renumber_line : line_of (verb.Renumber a1 (codes "M-4")) ≡ codes "renumber,A1,M-4"
unfolding digits
renumber_line = refl

-- New marks for a route.
pub recalibrate_line : line_of (verb.Recalibrate a1 (plain 8000)) ≡ codes "recalibrate,A1,0:0 8000:8000"
unfolding digits
recalibrate_line = refl

-- A realignment: from where to where, the pieces, and the marks of the whole route.
pub realign_line : line_of (realign 4000 6000 (forth 3 0 2000 ∷ []) (plain 8000)) ≡ codes "realign,A1,4000,6000,3:0:2000:+,0:0 8000:8000"
unfolding digits
realign_line = refl

-- Without pieces their field is empty.
pub realign_away_line : line_of (realign_away 0 8000 (plain 1)) ≡ codes "realign,A1,0,8000,,0:0 1:1"
unfolding digits
realign_away_line = refl

-- A route that goes.
pub close_line : line_of (verb.Close a1) ≡ codes "close,A1"
unfolding digits
close_line = refl

-- Superseding has the fields of entering.
pub supersede_line : line_of (supersede 12 speed L (between (abs 3000) (abs 6000)) (codes "50")) ≡ codes "supersede,12,SPEED,A1,L,abs,3000,6000,50,0"
unfolding digits
supersede_line = refl

-- A route that is turned.
pub turn_line : line_of (verb.Turn a1) ≡ codes "turn,A1"
unfolding digits
turn_line = refl

-- The greatest numbers of each kind.
pub greatest_numbers : line_of (verb.Enter (record { asset = 1_000_000_000_000; class = codes "ABCDEFGH"; route = codes "ABCDEFGHIJ-1"; side = B; location = between (short_of (codes "ABCDEFGHIJK1") 10_000_000_000) (past (codes "ABCDEFGHIJK1") 10_000_000_000); value = codes "a.b-c_d.e-f_"; offset = 100_000 }))
    ≡ codes "enter,1000000000000,ABCDEFGH,ABCDEFGHIJ-1,B,rel,ABCDEFGHIJK1-10000000000,ABCDEFGHIJK1+10000000000,a.b-c_d.e-f_,100000"
unfolding digits
greatest_numbers = refl

-- An accepted command is kept under its key with its line, and a refused one is not.
pub kept_edits : map (λ e. e.line) (after (adding with_speed (link 1 7 refl ∷ verb.Turn a1 ∷ []))).done
    ≡ codes "link,1,10" ∷ codes "link,2,6" ∷ codes "link,3,4" ∷ codes "class,SPEED,exclusive" ∷ codes "class,RAIL,stretch" ∷ codes "class,SIGN,point"
    ∷ codes "route,A1,1:0:10:+ 2:0:6:-,0:0 10:12 16:18" ∷ codes "enter,10,SPEED,A1,B,abs,6,18,80,0" ∷ codes "turn,A1" ∷ []
unfolding digits step attempt
kept_edits = refl
