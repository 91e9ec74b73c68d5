-- Which row an event meets: the rows R1 to R29, each with all that it asks, in the words of Asking.antt. Assumes nothing.
use Rattle.std.specs.Prelude.{ℕ, List, [], ◌∷◌, Bool, not, ◌&&◌, ◌||◌, Option, Some, None}
use Rattle.call.specs.Meeting.{first_met}
use Rattle.call.specs.declared.PrivateTimer.{PrivateTimer}
use Rattle.call.specs.declared.Settings.{Settings}
use Rattle.call.specs.declared.Input.{Input}
use Rattle.private_record.specs.Phases.{phase_of}
use Rattle.private_record.specs.declared.states.Phase.{Phase}
use Rattle.private_record.specs.declared.states.PrivateRecord.{PrivateRecord}
use Rattle.private_rows.specs.Causes.{same_cause, cause_of, facts_of}
use Rattle.private_rows.specs.Asking.{in_state, runs, expires, new_request, same}
use Rattle.private_rows.specs.declared.Row.{Row}
use Rattle.private_rows.specs.declared.Row.TheVariants.{R1, R2, R3, R4, R5, R6, R7, R8, R9, R10, R11, R12, R13, R14, R15, R16, R17, R18, R19, R20, R21, R22, R23, R24, R25, R26, R27, R28, R29}
use Rattle.private_rows.specs.declared.causes.Cause.{Cause}
use Rattle.private_rows.specs.declared.causes.Facts.{Facts}

-- the table of the rows: what each asks, of the phase f, the cause c and the facts x
abbrev pub rows_ask : Phase → Cause → Facts → List (Row × Bool)
rows_ask f c x =
    (R1, (in_state 0 f || in_state 1 f) && same_cause c Cause.UserStarts)
    ∷ (R2, in_state 2 f && (expires PrivateTimer.Tfp1 f c && x.under))
    ∷ (R3, in_state 2 f && (expires PrivateTimer.Tfp1 f c && not x.under))
    ∷ (R4, in_state 2 f && (same Cause.RingingHeard c x && runs PrivateTimer.Tfp1 f))
    ∷ (R5, in_state 2 f && (same Cause.AcceptHeard c x && x.media_verdict))
    ∷ (R6, in_state 2 f && same Cause.RejectHeard c x)
    ∷ (R7, in_state 2 f && expires PrivateTimer.Tfp2 f c)
    ∷ (R8, in_state 2 f && same_cause c Cause.UserEnds)
    ∷ (R9, in_state 4 f && same_cause c Cause.UserEnds)
    ∷ (R10, in_state 3 f && (expires PrivateTimer.Tfp3 f c && x.under))
    ∷ (R11, in_state 3 f && (expires PrivateTimer.Tfp3 f c && not x.under))
    ∷ (R12, in_state 3 f && same Cause.ReleaseAckHeard c x)
    ∷ (R13, (in_state 3 f || (in_state 4 f || in_state 5 f)) && same Cause.ReleaseHeard c x)
    ∷ (R14, in_state 1 f && same Cause.ReleaseHeard c x)
    ∷ (R15, in_state 4 f && expires PrivateTimer.Tfp5 f c)
    ∷ (R16, in_state 5 f && (expires PrivateTimer.Tfp4 f c && x.under))
    ∷ (R17, in_state 5 f && (expires PrivateTimer.Tfp4 f c && not x.under))
    ∷ (R18, in_state 5 f && (same Cause.AcceptAckHeard c x && runs PrivateTimer.Tfp4 f))
    ∷ (R19, new_request f c x && not x.media_verdict)
    ∷ (R20, new_request f c x && (x.media_verdict && (not x.manual && x.trusted)))
    ∷ (R21, new_request f c x && (x.media_verdict && (not x.manual && not x.trusted)))
    ∷ (R22, new_request f c x && (x.media_verdict && x.manual))
    ∷ (R23, in_state 5 f && (runs PrivateTimer.Tfp2 f && (same_cause c Cause.UserAccepts && x.trusted)))
    ∷ (R24, in_state 5 f && (runs PrivateTimer.Tfp2 f && (same_cause c Cause.UserAccepts && not x.trusted)))
    ∷ (R25, in_state 5 f && (runs PrivateTimer.Tfp2 f && same_cause c Cause.UserRejects))
    ∷ (R26, in_state 5 f && expires PrivateTimer.Tfp2 f c)
    ∷ (R27, (in_state 2 f || (in_state 3 f || (in_state 4 f || in_state 5 f))) && (same_cause c Cause.SetupHeard && not x.same))
    ∷ (R28, in_state 1 f && expires PrivateTimer.Tfp7 f c)
    ∷ (R29, in_state 4 f && (same Cause.AcceptHeard c x && x.own_caller))
    ∷ []

-- ---- the row that an event meets

-- the row that is met in a phase: the first for which all that it asks holds; None where there is none
unfoldable pub row_in : Phase → Cause → Facts → Option Row
row_in f c x = first_met (rows_ask f c x)

-- the row that an event meets from a record
abbrev pub row_of : Settings → PrivateRecord → Input → Option Row
row_of s p i = row_in (phase_of p) (cause_of s i.event) (facts_of s (phase_of p) p.counters p.call i)

-- ---- the rows by number

-- the rows by their numbers, 0 where none is met
abbrev pub row_number : Option Row → ℕ
row_number None = 0
row_number (Some R1) = 1
row_number (Some R2) = 2
row_number (Some R3) = 3
row_number (Some R4) = 4
row_number (Some R5) = 5
row_number (Some R6) = 6
row_number (Some R7) = 7
row_number (Some R8) = 8
row_number (Some R9) = 9
row_number (Some R10) = 10
row_number (Some R11) = 11
row_number (Some R12) = 12
row_number (Some R13) = 13
row_number (Some R14) = 14
row_number (Some R15) = 15
row_number (Some R16) = 16
row_number (Some R17) = 17
row_number (Some R18) = 18
row_number (Some R19) = 19
row_number (Some R20) = 20
row_number (Some R21) = 21
row_number (Some R22) = 22
row_number (Some R23) = 23
row_number (Some R24) = 24
row_number (Some R25) = 25
row_number (Some R26) = 26
row_number (Some R27) = 27
row_number (Some R28) = 28
row_number (Some R29) = 29
