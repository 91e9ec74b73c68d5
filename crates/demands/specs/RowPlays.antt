-- Every private row played once or more: what is stored, what happens, and what must come of it, to the last byte. Assumes nothing.
use Rattle.std.specs.Prelude.{◌≡◌, List, [], ◌∷◌, ℕ, length, replicate}
use Prim.Native.String.{String}
use Rattle.frame.specs.Layout.{longest_line}
use Rattle.frame.specs.declared.Message.TheVariants.{Ringing, Accept, Reject, Release, ReleaseAck, AcceptAck}
use Rattle.writer.specs.Lent.{at_front}
use Rattle.call.specs.Settings.{no_counters}
use Rattle.call.specs.declared.Settings.{Settings}
use Rattle.call.specs.declared.PrivateTimer.{PrivateTimer}
use Rattle.call.specs.declared.PrivateAction.{PrivateAction}
use Rattle.call.specs.declared.Input.{Input}
use Rattle.private_record.specs.Phases.{no_timer, tfp1, tfp2, tfp3, tfp4, tfp5, tfp7}
use Rattle.private_record.specs.Formed.{cleared_record}
use Rattle.private_record.specs.declared.states.Phase.{Phase}
use Rattle.private_call.specs.Running.{sent_private}
use Rattle.demands.specs.Text.{bytes}
use Rattle.demands.specs.Machines.{Machine, private_machine}
use Rattle.demands.specs.Played.{crew, restricted_crew, secure, outgoing, ours, answered, theirs, taken, cfp1_at, cfp3_at, cfp4_at, stored, hears, hears_in_vain, hears_signed, request, does, accepts_signed, starts, expires}

-- ---- the plays

-- of a call machine: row, settings, record, input; timers to stop, timers to start, next record, line sent
pub data Play (M : Machine) : Type 0 where
  play : ℕ → Settings → M.Stored → Input → M.Timers → M.Timers → M.Stored → String → Play M

-- the buffer lent: the longest line, of zeros
abbrev pub lent : List ℕ
lent = replicate longest_line 0

-- it comes out as told
abbrev pub ComesOut : (M : Machine) → Play M → Type 0
ComesOut M (play row s p i stop start next line) =
    (M.step s p i lent ≡ record { number = 0; row = row; next = next; stop = stop; start = start; length = length (bytes line) })
    × (M.buffer s p i lent ≡ at_front (bytes line) lent)

-- all come out
abbrev pub AllComeOut : (M : Machine) → List (Play M) → Type 0
AllComeOut M [] = Unit {0}
AllComeOut M (x ∷ xs) = ComesOut M x × AllComeOut M xs

-- of the private call machine, in the order of the rows
unfoldable pub plays : List (Play private_machine)
plays =
    play 1 crew (stored Phase.P1 no_counters ours) (starts 0x1235 0) tfp7 tfp1 (stored Phase.P2Tfp1 (cfp1_at 1) (outgoing 0x1235 0)) "011235000000070000000900040000000500000000\n"
    ∷ play 1 crew cleared_record (starts 0x1235 secure) no_timer tfp1 (stored Phase.P2Tfp1 (cfp1_at 1) (outgoing 0x1235 secure)) "011235000000070000000900040000000510000001\n"
    ∷ play 2 crew (stored Phase.P2Tfp1 (cfp1_at 1) ours) (expires PrivateTimer.Tfp1) no_timer tfp1 (stored Phase.P2Tfp1 (cfp1_at 2) ours) "011234000000070000000900040000000500000000\n"
    ∷ play 3 crew (stored Phase.P2Tfp1 (cfp1_at 3) ours) (expires PrivateTimer.Tfp1) no_timer tfp7 (stored Phase.P1 no_counters ours) ""
    ∷ play 4 crew (stored Phase.P2Tfp1 (cfp1_at 2) ours) (hears (Ringing ours.parties)) tfp1 tfp2 (stored Phase.P2Tfp2 no_counters ours) ""
    ∷ play 5 crew (stored Phase.P2Tfp2 no_counters ours) (hears (Accept ours.parties)) tfp2 tfp5 (stored Phase.P4 no_counters answered) "0712340000000700000009\n"
    ∷ play 6 crew (stored Phase.P2Tfp1 (cfp1_at 1) ours) (hears (Reject ours.parties 2)) tfp1 tfp7 (stored Phase.P1 no_counters ours) ""
    ∷ play 7 crew (stored Phase.P2Tfp2 no_counters ours) (expires PrivateTimer.Tfp2) no_timer tfp7 (stored Phase.P1 no_counters ours) ""
    ∷ play 8 crew (stored Phase.P2Tfp2 no_counters ours) (does PrivateAction.End) tfp2 tfp3 (stored Phase.P3 (cfp3_at 1) ours) "0512340000000700000009\n"
    ∷ play 9 crew (stored Phase.P4 no_counters theirs) (does PrivateAction.End) tfp5 tfp3 (stored Phase.P3 (cfp3_at 1) theirs) "0512340000000900000007\n"
    ∷ play 10 crew (stored Phase.P3 (cfp3_at 1) ours) (expires PrivateTimer.Tfp3) no_timer tfp3 (stored Phase.P3 (cfp3_at 2) ours) "0512340000000700000009\n"
    ∷ play 11 crew (stored Phase.P3 (cfp3_at 3) ours) (expires PrivateTimer.Tfp3) no_timer tfp7 (stored Phase.P1 no_counters ours) ""
    ∷ play 12 crew (stored Phase.P3 (cfp3_at 2) ours) (hears (ReleaseAck ours.parties)) tfp3 tfp7 (stored Phase.P1 no_counters ours) ""
    ∷ play 13 crew (stored Phase.P3 (cfp3_at 1) ours) (hears (Release ours.parties)) tfp3 tfp7 (stored Phase.P1 no_counters ours) "0612340000000700000009\n"
    ∷ play 13 crew (stored Phase.P4 no_counters ours) (hears (Release ours.parties)) tfp5 tfp7 (stored Phase.P1 no_counters ours) "0612340000000700000009\n"
    ∷ play 13 crew (stored Phase.P5Tfp4 (cfp4_at 1) theirs) (hears (Release theirs.parties)) tfp4 tfp7 (stored Phase.P1 no_counters theirs) "0612340000000900000007\n"
    ∷ play 14 crew (stored Phase.P1 no_counters ours) (hears (Release ours.parties)) no_timer no_timer (stored Phase.P1 no_counters ours) "0612340000000700000009\n"
    ∷ play 15 crew (stored Phase.P4 no_counters ours) (expires PrivateTimer.Tfp5) no_timer tfp7 (stored Phase.P1 no_counters ours) ""
    ∷ play 16 crew (stored Phase.P5Tfp4 (cfp4_at 1) theirs) (expires PrivateTimer.Tfp4) no_timer tfp4 (stored Phase.P5Tfp4 (cfp4_at 2) theirs) "031234000000090000000700000005\n"
    ∷ play 17 crew (stored Phase.P5Tfp4 (cfp4_at 3) theirs) (expires PrivateTimer.Tfp4) no_timer tfp7 (stored Phase.P1 no_counters theirs) ""
    ∷ play 18 crew (stored Phase.P5Tfp4 (cfp4_at 1) theirs) (hears (AcceptAck theirs.parties)) tfp4 tfp5 (stored Phase.P4 no_counters theirs) ""
    ∷ play 19 crew cleared_record (hears_in_vain (request 0 0)) no_timer tfp7 (stored Phase.P1 no_counters (taken 0 0)) "041235000000090000000701\n"
    ∷ play 19 restricted_crew (stored Phase.P1 no_counters ours) (hears_in_vain (request 0 0)) no_timer tfp7 (stored Phase.P1 no_counters (taken 0 0)) "041235000000090000000704\n"
    ∷ play 20 crew (stored Phase.P1 no_counters ours) (hears (request 0 0)) tfp7 tfp4 (stored Phase.P5Tfp4 (cfp4_at 1) (taken 0 0)) "031235000000090000000700000006\n"
    ∷ play 20 crew (stored Phase.P1 no_counters ours) (hears_signed (request 0 secure)) tfp7 tfp4 (stored Phase.P5Tfp4 (cfp4_at 1) (taken 0 secure)) "031235000000090000000700000006\n"
    ∷ play 21 crew cleared_record (hears (request 0 secure)) no_timer no_timer (stored Phase.P0 no_counters (taken 0 secure)) "041235000000090000000703\n"
    ∷ play 21 restricted_crew (stored Phase.P1 no_counters ours) (hears (request 0 secure)) no_timer no_timer (stored Phase.P1 no_counters (taken 0 secure)) "041235000000090000000704\n"
    ∷ play 22 crew (stored Phase.P1 no_counters ours) (hears (request 1 secure)) tfp7 tfp2 (stored Phase.P5Tfp2 no_counters (taken 1 secure)) "0212350000000900000007\n"
    ∷ play 23 crew (stored Phase.P5Tfp2 no_counters theirs) (does PrivateAction.Accept) tfp2 tfp4 (stored Phase.P5Tfp4 (cfp4_at 1) theirs) "031234000000090000000700000005\n"
    ∷ play 23 crew (stored Phase.P5Tfp2 no_counters (taken 1 secure)) accepts_signed tfp2 tfp4 (stored Phase.P5Tfp4 (cfp4_at 1) (taken 1 secure)) "031235000000090000000700000006\n"
    ∷ play 24 crew (stored Phase.P5Tfp2 no_counters (taken 1 secure)) (does PrivateAction.Accept) tfp2 tfp7 (stored Phase.P1 no_counters (taken 1 secure)) "041235000000090000000703\n"
    ∷ play 24 restricted_crew (stored Phase.P5Tfp2 no_counters (taken 1 secure)) (does PrivateAction.Accept) tfp2 tfp7 (stored Phase.P1 no_counters (taken 1 secure)) "041235000000090000000704\n"
    ∷ play 25 crew (stored Phase.P5Tfp2 no_counters theirs) (does PrivateAction.Reject) tfp2 tfp7 (stored Phase.P1 no_counters theirs) "041234000000090000000700\n"
    ∷ play 25 restricted_crew (stored Phase.P5Tfp2 no_counters theirs) (does PrivateAction.Reject) tfp2 tfp7 (stored Phase.P1 no_counters theirs) "041234000000090000000704\n"
    ∷ play 26 crew (stored Phase.P5Tfp2 no_counters theirs) (expires PrivateTimer.Tfp2) no_timer tfp7 (stored Phase.P1 no_counters theirs) "041234000000090000000704\n"
    ∷ play 26 restricted_crew (stored Phase.P5Tfp2 no_counters theirs) (expires PrivateTimer.Tfp2) no_timer tfp7 (stored Phase.P1 no_counters theirs) "041234000000090000000704\n"
    ∷ play 27 crew (stored Phase.P4 no_counters ours) (hears (request 0 0)) no_timer no_timer (stored Phase.P4 no_counters ours) "041235000000090000000702\n"
    ∷ play 27 restricted_crew (stored Phase.P2Tfp1 (cfp1_at 2) ours) (hears (request 0 0)) no_timer no_timer (stored Phase.P2Tfp1 (cfp1_at 2) ours) "041235000000090000000704\n"
    ∷ play 28 crew (stored Phase.P1 no_counters ours) (expires PrivateTimer.Tfp7) no_timer no_timer cleared_record ""
    ∷ play 29 crew (stored Phase.P4 no_counters ours) (hears (Accept ours.parties)) no_timer no_timer (stored Phase.P4 no_counters ours) "0712340000000700000009\n"
    ∷ []

-- ---- a run

-- from the cleared record: the user starts call 1234 (hexadecimal), hears ACCEPT with media 6, and ends the call
abbrev pub run : List (Input × List ℕ)
run = (starts 0x1234 0, lent) ∷ (hears (Accept ours.parties), lent) ∷ (does PrivateAction.End, lent) ∷ []

-- what is sent on the way
abbrev pub run_lines : List (List ℕ)
run_lines =
    bytes "011234000000070000000900040000000500000000\n" ∷ bytes "0712340000000700000009\n" ∷ bytes "0512340000000700000009\n" ∷ []

-- it comes out so
unfoldable pub RunComesOut : Type 0
RunComesOut = sent_private crew cleared_record run ≡ run_lines
