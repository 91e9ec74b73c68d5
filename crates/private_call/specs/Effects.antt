-- What each row R1 to R29 does, one clause a row. Assumes nothing.
-- What holds for all rows is not said here: that a state change stops what runs on, that entering P1 starts TFP7, and what is sent by default.
use Rattle.std.specs.Prelude.{true, false, Option, Some, None}
use Rattle.private_record.specs.Phases.{no_timer, tfp1, tfp2, tfp3, tfp4, tfp5, tfp7}
use Rattle.private_record.specs.declared.states.State.{State}
use Rattle.private_record.specs.declared.states.Timers.{Timers}
use Rattle.private_rows.specs.declared.Row.{Row}
use Rattle.private_rows.specs.declared.Row.TheVariants.{R1, R2, R3, R4, R5, R6, R7, R8, R9, R10, R11, R12, R13, R14, R15, R16, R17, R18, R19, R20, R21, R22, R23, R24, R25, R26, R27, R28, R29}
use Rattle.private_call.specs.declared.effects.Hold.{Hold}
use Rattle.private_call.specs.declared.effects.Reason.{Reason}
use Rattle.private_call.specs.declared.effects.Say.{Say}
use Rattle.private_call.specs.declared.effects.Effect.{Effect}

-- a row that enters a state: it starts timers, and the counter of a timer that it starts is 1
abbrev pub enters : State → Timers → Hold → Option Say → Effect
enters to start hold say = record { to = to; stop = no_timer; start = start; again = false; hold = hold; say = say }

-- a row that stores the setup request and enters a state
abbrev pub takes : State → Timers → Option Say → Effect
takes to start say = enters to start Hold.Request say

-- a row that ends what was, and enters P1
abbrev pub ends : Option Say → Effect
ends say = enters State.P1 no_timer Hold.Keep say

-- a row that leaves state and timers as they are
abbrev pub stays : State → Hold → Option Say → Effect
stays state hold say = record { to = state; stop = no_timer; start = no_timer; again = false; hold = hold; say = say }

-- a row that says again what got no reply: the timer that ran out starts again, and its counter gets one more
abbrev pub repeats : State → Timers → Option Say → Effect
repeats state start say = record { to = state; stop = no_timer; start = start; again = true; hold = Hold.Keep; say = say }

-- a row that puts one timer in another's place while the state stays; the counter of the one that it starts is 1
abbrev pub turns : State → Timers → Timers → Option Say → Effect
turns state stop start say = record { to = state; stop = stop; start = start; again = false; hold = Hold.Keep; say = say }

-- a reject with this reason
abbrev pub rejects : Reason → Option Say
rejects reason = Some (Say.Reject reason)

-- the table of the rows: the state entered, the timers started, the call held, the message sent
abbrev pub effect_of : Option Row → State → Effect
effect_of None state = stays state Hold.Keep None
effect_of (Some R1) state = takes State.P2 tfp1 (Some Say.SetupRequest)
effect_of (Some R2) state = repeats state tfp1 (Some Say.SetupRequest)
effect_of (Some R3) state = ends None
effect_of (Some R4) state = turns state tfp1 tfp2 None
effect_of (Some R5) state = enters State.P4 tfp5 Hold.Media (Some Say.AcceptAck)
effect_of (Some R6) state = ends None
effect_of (Some R7) state = ends None
effect_of (Some R8) state = enters State.P3 tfp3 Hold.Keep (Some Say.Release)
effect_of (Some R9) state = enters State.P3 tfp3 Hold.Keep (Some Say.Release)
effect_of (Some R10) state = repeats state tfp3 (Some Say.Release)
effect_of (Some R11) state = ends None
effect_of (Some R12) state = ends None
effect_of (Some R13) state = ends (Some Say.ReleaseAck)
effect_of (Some R14) state = stays state Hold.Keep (Some Say.ReleaseAck)
effect_of (Some R15) state = ends None
effect_of (Some R16) state = repeats state tfp4 (Some Say.Accept)
effect_of (Some R17) state = ends None
effect_of (Some R18) state = enters State.P4 tfp5 Hold.Keep None
effect_of (Some R19) state = takes State.P1 tfp7 (rejects Reason.MediaFailure)
effect_of (Some R20) state = takes State.P5 tfp4 (Some Say.Accept)
effect_of (Some R21) state = stays state Hold.Request (rejects Reason.SecurityFailure)
effect_of (Some R22) state = takes State.P5 tfp2 (Some Say.Ringing)
effect_of (Some R23) state = turns state tfp2 tfp4 (Some Say.Accept)
effect_of (Some R24) state = ends (rejects Reason.SecurityFailure)
effect_of (Some R25) state = ends (rejects Reason.Reject)
effect_of (Some R26) state = ends (rejects Reason.Failed)
effect_of (Some R27) state = stays state Hold.Keep (Some Say.RejectOther)
effect_of (Some R28) state = enters State.P0 no_timer Hold.Clear None
effect_of (Some R29) state = stays state Hold.Keep (Some Say.AcceptAck)
