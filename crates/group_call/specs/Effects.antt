-- What each row G1 to G11 does, one clause a row. Assumes nothing.
-- What holds for all rows is not said here: that a state change stops what runs on, and what is sent by default.
use Rattle.std.specs.Prelude.{Bool, cond, Option, Some, None}
use Rattle.group_record.specs.States.{no_timer, tfg2, tfg4, tfg2_and6}
use Rattle.group_record.specs.declared.states.State.{State}
use Rattle.group_record.specs.declared.states.Timers.{Timers}
use Rattle.group_rows.specs.declared.Row.{Row}
use Rattle.group_rows.specs.declared.Row.TheVariants.{G1, G2, G3, G4, G5, G6, G7, G8, G9, G10, G11}
use Rattle.group_call.specs.declared.effects.Hold.{Hold}
use Rattle.group_call.specs.declared.effects.Say.{Say}
use Rattle.group_call.specs.declared.effects.Effect.{Effect}

-- a row that enters a state
abbrev pub enters : State → Timers → Hold → Option Say → Effect
enters to start hold say = record { to = to; stop = no_timer; start = start; hold = hold; say = say }

-- a row that leaves state and timers as they are
abbrev pub stays : State → Hold → Option Say → Effect
stays state hold say = record { to = state; stop = no_timer; start = no_timer; hold = hold; say = say }

-- a row that starts a timer while state and call stay
abbrev pub starts : State → Timers → Option Say → Effect
starts state start say = record { to = state; stop = no_timer; start = start; hold = Hold.Keep; say = say }

-- a row that stops timers and starts them again while the state stays
abbrev pub restarts : State → Timers → Hold → Effect
restarts state timers hold = record { to = state; stop = timers; start = timers; hold = hold; say = None }

-- the state that waits for the user: S5 where the announcement asks for confirm, else S4
abbrev pub waits : Bool → State
waits confirm = cond confirm State.S5 State.S4

-- an accept where the announcement asks for confirm, else nothing
abbrev pub confirms : Bool → Option Say
confirms confirm = cond confirm (Some Say.Accept) None

-- the table of the rows: the state entered, the timers started anew, the call held, the message sent
abbrev pub effect_of : Option Row → State → Bool → Effect
effect_of None state confirm = stays state Hold.Keep None
effect_of (Some G1) state confirm = enters State.S3 tfg2_and6 Hold.Announced (Some Say.FirstAnnouncement)
effect_of (Some G2) state confirm = starts state tfg2 (Some Say.Announcement)
effect_of (Some G3) state confirm = enters (waits confirm) tfg4 Hold.Announced None
effect_of (Some G4) state confirm = enters State.S3 tfg2_and6 Hold.Announced (confirms confirm)
effect_of (Some G5) state confirm = enters State.S3 tfg2_and6 Hold.Keep (Some Say.Accept)
effect_of (Some G6) state confirm = enters State.S3 tfg2_and6 Hold.Keep None
effect_of (Some G7) state confirm = enters State.S1 no_timer Hold.Clear None
effect_of (Some G8) state confirm = enters State.S1 no_timer Hold.Clear None
effect_of (Some G9) state confirm = stays state Hold.Change (Some Say.Announcement)
effect_of (Some G10) state confirm = restarts state tfg2_and6 Hold.Announced
effect_of (Some G11) state confirm = restarts state tfg2 Hold.LaterChange
