-- The marked cases, as one table. Assumes nothing.
use Rattle.std.specs.Prelude.{◌≡◌, List, [], ◌∷◌, true, false, ℕ, ◌<◌, length, set, replicate}
use Prim.Native.String.{String}
use Rattle.frame.specs.Media.{no_media}
use Rattle.frame.specs.Frame.{in_range}
use Rattle.frame.specs.declared.Media.{Media}
use Rattle.frame.specs.declared.Message.{Message}
use Rattle.frame.specs.declared.GroupCall.{GroupCall}
use Rattle.frame.specs.declared.Message.TheVariants.{Ringing, Announcement}
use Rattle.reader.specs.Line.{count, line_number, read_line, reading, refusal}
use Rattle.reader.specs.Line.{Reading}
use Rattle.writer.specs.Writing.{write_number}
use Rattle.call.specs.Settings.{no_counters, settings_good}
use Rattle.call.specs.declared.Settings.{Settings}
use Rattle.call.specs.declared.Verdicts.{Verdicts}
use Rattle.call.specs.declared.PrivateTimer.{PrivateTimer}
use Rattle.call.specs.declared.PrivateAction.{PrivateAction}
use Rattle.call.specs.declared.Event.{Event}
use Rattle.call.specs.declared.Input.{Input}
use Rattle.private_record.specs.Formed.{is_well_formed, cleared_record}
use Rattle.private_record.specs.declared.states.State.{State}
use Rattle.private_record.specs.declared.states.Phase.{Phase}
use Rattle.private_record.specs.declared.states.PrivateRecord.{PrivateRecord}
use Rattle.private_call.specs.Step.{step_of}
use Rattle.private_call.specs.Running.{expiry, user_accepts}
use Rattle.group_order.specs.Order.{rank_of, is_better}
use Rattle.chooser.specs.Choice.{choice_of, choice_number}
use Rattle.group_record.specs.Formed as GroupFormed
use Rattle.group_record.specs.declared.states.State as GroupState
use Rattle.group_record.specs.declared.states.GroupRecord.{GroupRecord}
use Rattle.group_call.specs.Step as GroupStep
use Rattle.group_call.specs.Hearing as Hearing
use Rattle.demands.specs.Text.{bytes}
use Rattle.demands.specs.Machines.{Machine, IsDiscarded, private_machine, group_machine}
use Rattle.demands.specs.Played.{crew_with, crew, six, ours, theirs, cfp1_at, stored, hears_signed, request, does, expires}
use Rattle.demands.specs.GroupPlayed.{mine, heard, goes_on, announces}

-- what a case says
pub data Case : Type 1 where
  -- a line reads as this
  reads : List ℕ → Reading → Case
  -- a line with this byte in place of any one of its digits has this number
  spoilt : List ℕ → ℕ → ℕ → Case
  -- a frame gets this number from every buffer of this length
  writes : Message → Media → ℕ → ℕ → Case
  -- a step of a call machine gives this number and this row
  steps : (M : Machine) → Settings → M.Stored → Input → List ℕ → ℕ → ℕ → Case
  -- from every well-formed record of a call machine, hearing this message with this media gives this number
  hearing : Machine → Message → Media → ℕ → Case
  -- from every well-formed record with this CFP1, at this limit of it, the expiry of TFP1 meets this row
  last_expiry : ℕ → ℕ → ℕ → Case
  -- the user's accept meets this row, and the user accepts again: the second accept is discarded
  second_discarded : ℕ → Case
  -- from every well-formed record in this state, the expiry of this timer is discarded
  expiry_discarded : State → PrivateTimer → Case
  -- from every well-formed record in S3 with a call of the one type, an announcement of the own group with a call of the other type and
  -- another identifier, whatever the two starts are, meets this row
  merges : ℕ → ℕ → ℕ → Case
  -- of two calls with equal rank and start, the one with this identifier is better than the one with that
  lower_wins : ℕ → ℕ → Case
  -- a call of this type is better than any of that
  type_beats : ℕ → ℕ → Case
  -- of two lines this one is chosen, 1 or 2
  chooses : List ℕ → List ℕ → ℕ → Case

-- a case holds
pub data Holds : Case → Type 1 where
  reading-holds : {l : List ℕ} {r : Reading} → read_line l ≡ r → Holds (reads l r)
  spoilt-holds : {l : List ℕ} {byte n : ℕ} → ((i : ℕ) → i < count l → line_number (set l i byte) ≡ n) → Holds (spoilt l byte n)
  writing-holds : {m : Message} {media : Media} {room n : ℕ} → ((out : List ℕ) → length out ≡ room → write_number m media out ≡ n)
      → Holds (writes m media room n)
  step-holds : {M : Machine} {s : Settings} {p : M.Stored} {i : Input} {out : List ℕ} {n row : ℕ} → (M.step s p i out).number ≡ n
      → (M.step s p i out).row ≡ row → Holds (steps M s p i out n row)
  hearing-holds : {M : Machine} {m : Message} {media : Media} {n : ℕ}
      → ((s : Settings) (p : M.Stored) (v : Verdicts) (out : List ℕ) → settings_good s ≡ true → M.is_well_formed s p ≡ true
      → (M.step s p (record { event = Event.Message m; media = media; verdicts = v }) out).number ≡ n)
      → Holds (hearing M m media n)
  last-expiry-holds : {counter limit row : ℕ}
      → ((s : Settings) (p : PrivateRecord) (media : Media) (v : Verdicts) (out : List ℕ) → settings_good s ≡ true → is_well_formed s p ≡ true
      → p.counters.cfp1 ≡ counter → s.limits.cfp1 ≡ limit → (step_of s p (expiry PrivateTimer.Tfp1 media v) out).row ≡ row)
      → Holds (last_expiry counter limit row)
  second-discarded-holds : {row : ℕ}
      → ((s : Settings) (p : PrivateRecord) (media media' : Media) (v v' : Verdicts) (out out' : List ℕ) → (step_of s p (user_accepts media v) out).row ≡ row
      → IsDiscarded private_machine s (step_of s p (user_accepts media v) out).next (user_accepts media' v') out')
      → Holds (second_discarded row)
  expiry-discarded-holds : {state : State} {timer : PrivateTimer}
      → ((s : Settings) (p : PrivateRecord) (media : Media) (v : Verdicts) (out : List ℕ) → settings_good s ≡ true → is_well_formed s p ≡ true
      → p.state ≡ state → IsDiscarded private_machine s p (expiry timer media v) out)
      → Holds (expiry_discarded state timer)
  merges-holds : {type other row : ℕ}
      → ((s : Settings) (g : GroupRecord) (call : GroupCall) (confirm : ℕ) (media : Media) (v : Verdicts) (out : List ℕ) → settings_good s ≡ true
      → GroupFormed.is_well_formed s g ≡ true → g.state ≡ GroupState.State.S3 → g.call.call_type ≡ type → in_range (Announcement call confirm) media ≡ true
      → call.group ≡ s.own_group → (call.identifier ≡ g.call.identifier → ⊥) → call.call_type ≡ other
      → (GroupStep.step_of s g (Hearing.hears call confirm media v) out).row ≡ row)
      → Holds (merges type other row)
  lower-wins-holds : {low high : ℕ}
      → ((a b : GroupCall) → rank_of a.call_type ≡ rank_of b.call_type → a.start ≡ b.start → a.identifier ≡ low → b.identifier ≡ high
      → (is_better a b ≡ true) × (is_better b a ≡ false))
      → Holds (lower_wins low high)
  type-beats-holds : {type other : ℕ}
      → ((a b : GroupCall) → a.call_type ≡ type → b.call_type ≡ other → (is_better a b ≡ true) × (is_better b a ≡ false))
      → Holds (type_beats type other)
  choosing-holds : {first second : List ℕ} {n : ℕ} → choice_number first second ≡ 0 → choice_of first second ≡ n → Holds (chooses first second n)

-- RINGING of call 1234 (hexadecimal), caller 7, callee 9
unfoldable pub ringing : Message
ringing = Ringing (record { identifier = 0x1234; caller = 7; callee = 9 })

-- the cases by their letters; E to H, and the refusals of L, for every record and I and J for every two calls; E to J are also computed for one, which shows that there are such
unfoldable pub table : List (String × Case)
table =
    ("A", reads (bytes "0212340000000700000009\n") (reading ringing no_media))
    ∷ ("B", spoilt (bytes "0212340000000700000009\n") 65 2)
    ∷ ("C", reads (bytes "\n") (refusal 3))
    ∷ ("D", reads (bytes "0a12340000000700000009\n") (refusal 3))
    ∷ ("E", last_expiry 1 1 3)
    ∷ ("E", steps private_machine (crew_with false 1) (stored Phase.P2Tfp1 (cfp1_at 1) ours) (expires PrivateTimer.Tfp1) [] 0 3)
    ∷ ("F", second_discarded 23)
    ∷ ("F", steps private_machine crew (stored Phase.P5Tfp2 no_counters theirs) (does PrivateAction.Accept) (replicate 31 0) 0 23)
    ∷ ("G", expiry_discarded State.P4 PrivateTimer.Tfp7)
    ∷ ("G", steps private_machine crew (stored Phase.P4 no_counters ours) (expires PrivateTimer.Tfp7) [] 0 0)
    ∷ ("H", merges 1 2 10)
    ∷ ("H", steps group_machine crew (goes_on (mine 1)) (announces (heard 2) 0) [] 0 10)
    ∷ ("I", lower_wins 16 17)
    ∷ ("I", chooses (bytes "0800100000000301001e0000000500000007000003e8000003e80000000700\n") (bytes "0800110000000301001e0000000500000007000003e8000003e80000000700\n") 1)
    ∷ ("I", chooses (bytes "0800110000000301001e0000000500000007000003e8000003e80000000700\n") (bytes "0800100000000301001e0000000500000007000003e8000003e80000000700\n") 2)
    ∷ ("J", type_beats 2 3)
    ∷ ("J", chooses (bytes "0800100000000303001e0000000500000007000003e8000003e80000000700\n") (bytes "0800110000000302001e0000000500000007000007d0000007d00000000700\n") 2)
    ∷ ("K", writes ringing no_media 22 6)
    ∷ ("K", writes ringing no_media 23 0)
    ∷ ("L", reads (bytes "011235000000090000000700040000000610000000\n") (reading (request 0 0x1000_0000) six))
    ∷ ("L", writes (request 0 0x1000_0000) six 43 0)
    ∷ ("L", steps private_machine crew cleared_record (hears_signed (request 0 0x1000_0000)) (replicate 31 0) 0 20)
    ∷ ("L", steps group_machine crew GroupFormed.cleared_record (hears_signed (request 0 0x1000_0000)) [] 0 0)
    ∷ ("L", reads (bytes "011235000000090000000700040000000630000000\n") (refusal 5))
    ∷ ("L", writes (request 0 0x3000_0000) six 43 5)
    ∷ ("L", hearing private_machine (request 0 0x3000_0000) six 5)
    ∷ ("L", hearing group_machine (request 0 0x3000_0000) six 5)
    ∷ []

-- every case of a table holds
unfoldable pub AllHold : List (String × Case) → Type 1
AllHold [] = Unit {1}
AllHold (row ∷ rows) = Holds row.1 × AllHold rows
