-- What records of sheets and surveys say, and which field is named where one is malformed: examples of all verbs.
use Rattle.std.specs.Prelude.{◌≡◌, List, [], ◌∷◌, codes, refl}
use Rattle.lrs_events.specs.declared.class.Kind.TheVariants.{Exclusive}
use Rattle.lrs_events.specs.declared.side.Side.TheVariants.{L, R, B}
use Rattle.lrs_machine.specs.Lines.{Text}
use Rattle.lrs_machine.specs.declared.answer.Field.{Field}
use Rattle.lrs_machine.specs.declared.answer.Field.TheVariants as field
use Rattle.lrs_machine.specs.declared.command.NewAsset.{NewAsset}
use Rattle.lrs_machine.specs.declared.command.Command.{Command}
use Rattle.lrs_machine.specs.declared.command.Command.TheVariants as verb
use Rattle.lrs_sheet_records.specs.Records.{FirstMalformedAmong, SaysAmong, place_of}
use Rattle.lrs_sheet_records.specs.Surveys.{FirstMalformedNewAsset, SaysNewAsset, survey_header}
use Rattle.lrs_sheet_records.specs.Verbs.{all_verbs}
use Rattle.lrs_sheet_records.specs.Words.{parts_of}
use Rattle.lrs_examples.specs.Sheet.{a1, km2, km5, speed, rail, sign, abs, past, short_of, share, between, at, link, class, forth, back, mark, plain, enter, supersede, split, join, realign, realign_away, retire}

-- the fields of a line without quotes; those behind the last are empty
abbrev pub row : Text → List Text
row = parts_of 44

-- The line says this command under the key k.
abbrev pub Says : Text → Command → Type 0
Says line command = SaysAmong all_verbs (row line) (codes "k") command

-- The line has this first malformed field.
abbrev pub Names : Text → Field → Type 0
Names line field = FirstMalformedAmong all_verbs (row line) (place_of field)

-- The same of a line of a survey, whose columns have the letters of an entry's fields.
abbrev pub SaysSurveyed : Text → NewAsset → Type 0
SaysSurveyed line entry = SaysNewAsset (row line) (codes "k") entry

abbrev pub NamesSurveyed : Text → Field → Type 0
NamesSurveyed line field = FirstMalformedNewAsset (row line) (place_of field)

-- Well formed records of each verb.
pub record SayEachVerb : Type 0 where
  pub new_link : Says (codes "k,link,1,5000") (link 1 5000 refl)
  -- Leading zeros are read over.
  pub zeros_before_numbers : Says (codes "k,link,0001,05000") (link 1 5000 refl)
  pub greatest_link : Says (codes "k,link,999999,1000000000") (link 999_999 1_000_000_000 refl)
  pub new_class : Says (codes "k,class,SPEED,exclusive") (class speed Exclusive)
  pub new_route : Says (codes "k,route,A1,1:0:5000:+ 2:0:3000:-,0:0 5000:6000 8000:9000") (verb.Route a1 (forth 1 0 5000 ∷ back 2 0 3000 ∷ []) (mark 0 0 ∷ mark 5000 6000 ∷ mark 8000 9000 ∷ []))
  pub zeros_in_lists : Says (codes "k,route,A1,01:00:005:+,00:0 5:005") (verb.Route a1 (forth 1 0 5 ∷ []) (plain 5))
  -- A bad piece and bad marks are well formed: the ground refuses them.
  pub ends_in_no_order : Says (codes "k,route,A1,1:7:5:+,9:9 0:0") (verb.Route a1 (forth 1 7 5 ∷ []) (mark 9 9 ∷ mark 0 0 ∷ []))
  pub ref_by_measure : Says (codes "k,ref,KM2,A1,abs,3") (verb.Ref km2 a1 (abs 3))
  pub ref_behind_another : Says (codes "k,ref,KM5,A1,rel,KM2+0498") (verb.Ref km5 a1 (past km2 498))
  pub ref_before_another : Says (codes "k,ref,KM5,A1,rel,KM2-3") (verb.Ref km5 a1 (short_of km2 3))
  pub no_distance : Says (codes "k,ref,KM5,A1,rel,KM2-0") (verb.Ref km5 a1 (past km2 0))
  -- A proportion is kept in lowest terms.
  pub ref_by_proportion : Says (codes "k,ref,KM5,A1,int,2/6") (verb.Ref km5 a1 (share 1 3))
  pub whole_proportion : Says (codes "k,ref,KM5,A1,int,0004/4") (verb.Ref km5 a1 (share 1 1))
  pub ref_goes : Says (codes "k,unref,KM2") (verb.Unref km2)
  pub stretch_entered : Says (codes "k,enter,10,SPEED,A1,B,abs,3000,9000,80,0") (enter 10 speed B (between (abs 3000) (abs 9000)) (codes "80"))
  -- A point has no end.
  pub point_entered : Says (codes "k,enter,20,SIGN,A1,L,abs,9000,,STOP,0") (enter 20 sign L (at (abs 9000)) (codes "STOP"))
  -- Whether the class wants an end is for the ground to say.
  pub point_with_an_end : Says (codes "k,enter,20,SIGN,A1,L,abs,1,2,STOP,0") (enter 20 sign L (between (abs 1) (abs 2)) (codes "STOP"))
  pub stretch_past_referents : Says (codes "k,enter,30,RAIL,A1,R,rel,KM2+498,KM5-2,a.b-c_D,0") (enter 30 rail R (between (past km2 498) (short_of km5 2)) (codes "a.b-c_D"))
  pub stretch_retired : Says (codes "k,retire,10,A1,int,0/1,4/6") (retire 10 (between (share 0 1) (share 2 3)))
  pub point_retired : Says (codes "k,retire,20,A1,abs,9000,") (retire 20 (at (abs 9000)))
  pub route_split : Says (codes "k,split,A1,5000,A2") (split 5000)
  pub routes_joined : Says (codes "k,join,A1,A2") join
  pub route_renumbered : Says (codes "k,renumber,A1,M-4") (verb.Renumber a1 (codes "M-4"))
  pub route_recalibrated : Says (codes "k,recalibrate,A1,0:0 8000:8000") (verb.Recalibrate a1 (plain 8000))
  pub route_realigned : Says (codes "k,realign,A1,4000,6000,3:0:2000:+,0:0 8000:8000") (realign 4000 6000 (forth 3 0 2000 ∷ []) (plain 8000))
  -- The pieces of a realignment may be missing.
  pub realigned_away : Says (codes "k,realign,A1,8000,0,,0:0 1:1") (realign_away 8000 0 (plain 1))
  pub route_closed : Says (codes "k,close,A1") (verb.Close a1)
  pub stretch_superseded : Says (codes "k,supersede,12,SPEED,A1,L,abs,3000,6000,50,0") (supersede 12 speed L (between (abs 3000) (abs 6000)) (codes "50"))
  pub point_superseded : Says (codes "k,supersede,12,SPEED,A1,L,abs,3000,,50,0") (supersede 12 speed L (at (abs 3000)) (codes "50"))
  pub route_turned : Says (codes "k,turn,A1") (verb.Turn a1)
  pub empty_fields_behind : Says (codes "k,turn,A1,,,,,,,,") (verb.Turn a1)

-- Keys, verbs, numbers and names that are malformed, and fields too many.
pub record NameKeysAndNumbers : Type 0 where
  pub no_key : Names (codes ",link,1,5") field.Key
  pub space_in_key : Names (codes "a b,link,1,5") field.Key
  -- The key is named before the verb, and the verb before its fields.
  pub key_before_verb : Names (codes "-,lnk,,") field.Key
  pub no_verb : Names (codes "k") field.Verb
  pub unknown_verb : Names (codes "k,lnk,0,0") field.Verb
  pub capital_verb : Names (codes "k,LINK,1,5") field.Verb
  pub no_number : Names (codes "k,link,,5") field.A
  pub number_zero : Names (codes "k,link,0,0") field.A
  pub number_with_sign : Names (codes "k,link,+1,5") field.A
  pub number_too_great : Names (codes "k,link,1,1000000001") field.B
  -- A field that the verb does not use is empty.
  pub field_too_many : Names (codes "k,link,1,5,x") field.C
  pub last_field : Names (codes "k,close,A1,,,,,,,,x") field.I
  pub capital_kind : Names (codes "k,class,SPEED,Point") field.B
  pub dash_before_route : Names (codes "k,turn,-A1") field.A
  pub dash_in_referent : Names (codes "k,unref,KM-2") field.A

-- Lists and positions that are malformed.
pub record NameListsAndPositions : Type 0 where
  -- A new route has pieces.
  pub no_pieces : Names (codes "k,route,A1,,0:0 1:1") field.B
  pub two_spaces : Names (codes "k,route,A1,1:0:5:+  2:0:3:-,0:0 8:8") field.B
  pub space_behind : Names (codes "k,route,A1,1:0:5:+ ,0:0 8:8") field.B
  pub piece_without_direction : Names (codes "k,route,A1,1:0:5,0:0 5:5") field.B
  pub piece_too_long : Names (codes "k,route,A1,1:0:1000000001:+,0:0 5:5") field.B
  pub one_mark : Names (codes "k,route,A1,1:0:5:+,0:0") field.C
  pub mark_of_three : Names (codes "k,recalibrate,A1,0:0 5:5:5") field.B
  pub no_method : Names (codes "k,ref,KM2,A1,,3") field.C
  pub method_of_requests : Names (codes "k,ref,KM2,A1,link,1:2500") field.C
  -- The method is named before what it cannot read.
  pub capital_method : Names (codes "k,ref,KM2,A1,ABS,1/3") field.C
  pub no_position : Names (codes "k,ref,KM2,A1,abs,") field.D
  -- A position is read by its method.
  pub proportion_as_measure : Names (codes "k,ref,KM2,A1,abs,1/3") field.D
  pub distance_as_measure : Names (codes "k,ref,KM5,A1,abs,KM2+1") field.D
  pub measure_as_proportion : Names (codes "k,ref,KM2,A1,int,3") field.D
  pub measure_as_distance : Names (codes "k,ref,KM5,A1,rel,3") field.D
  pub referent_without_distance : Names (codes "k,ref,KM5,A1,rel,KM2") field.D
  pub two_signs : Names (codes "k,ref,KM5,A1,rel,KM2++1") field.D
  pub distance_alone : Names (codes "k,ref,KM5,A1,rel,+1") field.D
  pub small_referent : Names (codes "k,ref,KM5,A1,rel,km2+1") field.D
  pub too_far : Names (codes "k,ref,KM5,A1,rel,KM2-10000000001") field.D
  pub measure_too_great : Names (codes "k,ref,KM5,A1,abs,100000000001") field.D
  pub measure_with_sign : Names (codes "k,ref,KM5,A1,abs,+5") field.D
  pub above_the_whole : Names (codes "k,ref,KM5,A1,int,3/2") field.D
  pub by_zero : Names (codes "k,ref,KM5,A1,int,0/0") field.D
  pub terms_too_great : Names (codes "k,ref,KM5,A1,int,1000001/1000001") field.D
  pub below_zero : Names (codes "k,ref,KM5,A1,int,-1/2") field.D
  pub three_terms : Names (codes "k,ref,KM5,A1,int,1/2/3") field.D

-- Fields of the other verbs that are malformed.
pub record NameFieldsOfVerbs : Type 0 where
  pub asset_too_great : Names (codes "k,enter,1000000000001,SPEED,A1,B,abs,3000,9000,80,0") field.A
  pub unknown_side : Names (codes "k,enter,10,SPEED,A1,X,abs,3000,9000,80,0") field.D
  -- Only an end may be missing.
  pub no_start : Names (codes "k,enter,20,SIGN,A1,L,abs,,9000,STOP,0") field.F
  -- Both ends are by one method.
  pub end_by_another_method : Names (codes "k,enter,30,RAIL,A1,R,abs,3,2/3,STEEL,0") field.G
  pub method_before_end : Names (codes "k,enter,30,RAIL,A1,R,rail,3,2/3,STEEL,0") field.E
  pub dash_as_value : Names (codes "k,enter,10,SPEED,A1,B,abs,3000,9000,-,0") field.H
  pub no_value : Names (codes "k,enter,20,SIGN,A1,L,abs,9000,,,0") field.H
  pub no_offset : Names (codes "k,supersede,10,SPEED,A1,B,abs,3000,9000,80") field.I
  pub offset_too_great : Names (codes "k,supersede,10,SPEED,A1,B,abs,3000,9000,80,100001") field.I
  pub retired_from_nowhere : Names (codes "k,retire,10,A1,int,,1/2") field.D
  pub end_retired_by_measure : Names (codes "k,retire,10,A1,int,0/1,9000") field.E
  pub side_retired : Names (codes "k,retire,10,A1,int,0/1,1/1,B") field.F
  -- A route is split at a chainage, not at a position.
  pub split_by_proportion : Names (codes "k,split,A1,1/3,A2") field.B
  pub split_too_far : Names (codes "k,split,A1,10000000001,A2") field.B
  pub no_new_name : Names (codes "k,split,A1,5000") field.C
  pub no_second_route : Names (codes "k,join,A1") field.B
  pub realigned_from_nowhere : Names (codes "k,realign,A1,,8000,,0:0 1:1") field.B
  pub bad_pieces : Names (codes "k,realign,A1,0,8000,1:0:5,0:0 1:1") field.D
  pub space_as_pieces : Names (codes "k,realign,A1,0,8000, ,0:0 1:1") field.D
  pub no_marks : Names (codes "k,realign,A1,0,8000,,") field.E

-- Records of a survey.
pub record SayEntries : Type 0 where
  pub header : survey_header ≡ row (codes "key,asset,class,route,side,method,from,to,value,offset")
  pub stretch : SaysSurveyed (codes "k,10,SPEED,A1,B,abs,3000,9000,80,0") (record { asset = 10; class = speed; route = a1; side = B; location = between (abs 3000) (abs 9000); value = codes "80"; offset = 0 })
  pub point : SaysSurveyed (codes "k,020,SIGN,A1,L,int,3/9,,STOP,300") (record { asset = 20; class = sign; route = a1; side = L; location = at (share 1 3); value = codes "STOP"; offset = 300 })
  pub no_key : NamesSurveyed (codes "-,10,SPEED,A1,B,abs,3000,9000,80,0") field.Key
  pub no_asset : NamesSurveyed (codes "k,,SPEED,A1,B,abs,3000,9000,80,0") field.A
  pub small_class : NamesSurveyed (codes "k,10,speed,A1,B,abs,3000,9000,80,0") field.B
  pub unknown_side : NamesSurveyed (codes "k,10,SPEED,A1,b,abs,3000,9000,80,0") field.D
  pub unknown_method : NamesSurveyed (codes "k,10,SPEED,A1,B,,3000,9000,80,0") field.E
  pub start_by_another_method : NamesSurveyed (codes "k,10,SPEED,A1,B,rel,3000,KM2+0,80,0") field.F
  pub end_by_another_method : NamesSurveyed (codes "k,10,SPEED,A1,B,abs,3000,1/1,80,0") field.G
  pub no_value : NamesSurveyed (codes "k,10,SPEED,A1,B,abs,3000,,,0") field.H
  pub no_offset : NamesSurveyed (codes "k,10,SPEED,A1,B,abs,3000,9000,80") field.I
