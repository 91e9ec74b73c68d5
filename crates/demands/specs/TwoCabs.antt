-- Two cabs to which demand 3 applies, a build that never merges, and what each premise is for. Assumes nothing.
use Rattle.std.specs.Prelude.{◌≡◌, ◌⊎◌, List, [], ◌∷◌, true, false, ℕ}
use Prim.Native.String.{String}
use Rattle.frame.specs.declared.Media.{Media}
use Rattle.frame.specs.declared.Message.{Message}
use Rattle.call.specs.declared.Settings.{Settings}
use Rattle.call.specs.declared.Verdicts.{Verdicts}
use Rattle.call.specs.declared.Event.{Event}
use Rattle.group_record.specs.declared.states.State.{State}
use Rattle.group_record.specs.declared.states.GroupRecord.{GroupRecord}
use Rattle.group_call.specs.Step.{discarded}
use Rattle.group_call.specs.Hearing.{ongoing, input_of, HeardLine, Build, promised}
use Rattle.demands.specs.Text.{bytes}
use Rattle.demands.specs.Played.{crew, five, six}
use Rattle.demands.specs.GroupPlayed.{call_in}
use Rattle.demands.specs.SameCall.{Cab, Call, call_of, Knows, InCall, Alike, SameSet, end_of}

-- ---- three calls of group 3

-- call 16: basic, the first
abbrev pub basic : Call
basic = (call_in 3 16 1 7 1000 1000, five)

-- call 17: imminent peril, later
abbrev pub peril : Call
peril = (call_in 3 17 3 9 2000 2000, six)

-- call 18: emergency, the last of them and the best
abbrev pub emergency : Call
emergency = (call_in 3 18 2 11 3000 3000, five)

-- a text that is heard as a line, with no buffer at all
abbrev pub said : String → HeardLine
said text = record { line = bytes text; verdicts = record { media = false; signature = false }; lent = [] }

-- call 16 announced
abbrev pub basic_said : HeardLine
basic_said = said "0800100000000301001e0000000500000007000003e8000003e80000000700\n"

-- call 17 announced, with confirm
abbrev pub peril_said : HeardLine
peril_said = said "0800110000000303001e0000000600000009000007d0000007d00000000901\n"

-- call 18 announced
abbrev pub emergency_said : HeardLine
emergency_said = said "0800120000000302001e000000050000000b00000bb800000bb80000000b00\n"

-- call 19 of group 4: an emergency that started earlier than all
abbrev pub elsewhere : Call
elsewhere = (call_in 4 19 2 11 1 1, five)

-- it is announced
abbrev pub elsewhere_said : HeardLine
elsewhere_said = said "0800130000000402001e000000050000000b00000001000000010000000b00\n"

-- the announcement of call 17, cut short
abbrev pub cut_short : HeardLine
cut_short = said "0800110000000303\n"

-- RINGING of a private call
abbrev pub ringing_said : HeardLine
ringing_said = said "0212340000000700000009\n"

-- ---- two cabs

-- user 9 of group 3, who keeps reasons back, is asked before a call is joined, and repeats nothing
abbrev pub other_crew : Settings
other_crew = record { own_user = 9; own_group = 3; restrict = true; acknowledgement = true; limits = record { cfp1 = 1; cfp3 = 1; cfp4 = 1 } }

-- a record in S3 that holds this call
abbrev pub holding : Call → GroupRecord
holding c = ongoing c.0 c.1

-- the first is in call 16, and hears call 17, a line cut short, call 18, then 17 and 18 again
abbrev pub first_cab : Cab
first_cab = record { settings = crew; stored = holding basic; lines = peril_said ∷ cut_short ∷ emergency_said ∷ peril_said ∷ emergency_said ∷ [] }

-- the second is in call 17, and hears call 18, call 19 of another group, RINGING, and call 16
abbrev pub second_cab : Cab
second_cab = record { settings = other_crew; stored = holding peril; lines = emergency_said ∷ elsewhere_said ∷ ringing_said ∷ basic_said ∷ [] }

-- ---- a build that never merges

-- whatever message it hears in S3, it stays there, in a call with the stored identifier
abbrev pub NeverMerges : Build → Type 0
NeverMerges b =
    (s : Settings) (g : GroupRecord) (m : Message) (media : Media) (v : Verdicts) (out : List ℕ) → g.state ≡ State.S3
    → let next = (b s g (input_of (Event.Message m) media v) out).0.next in (next.state ≡ State.S3) × (next.call.identifier ≡ g.call.identifier)

-- one such build: it discards whatever comes in
abbrev pub staying : Build
staying s g i out = (discarded g, out)

-- ---- what the premises are for

-- two cabs of one group that are in calls, and do not end in the same one
pub record EndApart (x y : Cab) : Type 0 where
  -- one group
  pub one_group : x.settings.own_group ≡ y.settings.own_group
  -- the first is in a call
  pub first : InCall x.settings x.stored
  -- the second is in a call
  pub second : InCall y.settings y.stored
  -- not the same call
  pub apart : call_of (end_of promised x) ≡ call_of (end_of promised y) → ⊥

-- a cab of user 7 in this call that hears these lines
abbrev pub cab_in : Call → List HeardLine → Cab
cab_in c xs = record { settings = crew; stored = holding c; lines = xs }

-- call 16 once more, but it started a second later
abbrev pub basic_later : Call
basic_later = (call_in 3 16 1 7 1001 1001, five)

-- it is announced
abbrev pub basic_later_said : HeardLine
basic_later_said = said "0800100000000301001e0000000500000007000003e9000003e90000000700\n"

-- in the one call 16, hearing of the other
abbrev pub hears_later : Cab
hears_later = cab_in basic (basic_later_said ∷ [])

-- in the other, hearing of the one
abbrev pub hears_earlier : Cab
hears_earlier = cab_in basic_later (basic_said ∷ [])

-- without alike calls: two cabs know of the same calls, and end apart
abbrev pub AlikeNeeded : Type 0
AlikeNeeded = EndApart hears_later hears_earlier × SameSet hears_later hears_earlier

-- in call 16, hearing nothing
abbrev pub hears_nothing : Cab
hears_nothing = cab_in basic []

-- in call 16, hearing of the emergency
abbrev pub hears_emergency : Cab
hears_emergency = cab_in basic (emergency_said ∷ [])

-- without one set: all calls are alike, the second cab knows of what the first knows of, and they end apart
abbrev pub SameSetNeeded : Type 0
SameSetNeeded =
    EndApart hears_nothing hears_emergency × Alike (λ c. Knows hears_nothing c ⊎ Knows hears_emergency c)
    × ((c : Call) → Knows hears_nothing c → Knows hears_emergency c)
