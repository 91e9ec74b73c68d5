-- What each row does in the states where it is met, by one computed test. Assumes nothing.
use mathlib.Core.Path.{◌≡◌, refl}
use mathlib.Core.Bool.{Bool, true, false, not, ◌&&◌, ◌||◌, beq}
use lib.Dec.{eqb}
use Rattle.std.specs.Prelude.{Option, Some, None}
use Rattle.frame.proofs.Laws.{and_split}
use Rattle.call.proofs.Laws.{both_bools, at-bool}
use Rattle.call.specs.Timing.{stopped_of, running_after}
use Rattle.group_record.specs.States.{state_number, has, set_of, same_timers, running_of}
use Rattle.group_record.specs.declared.states.State.{State}
use Rattle.group_record.specs.declared.states.Timers.{Timers}
use Rattle.group_rows.specs.Rows.{row_number, row_in}
use Rattle.group_rows.specs.declared.Row.{Row}
use Rattle.group_rows.specs.declared.causes.Cause.{Cause}
use Rattle.group_rows.specs.declared.causes.Facts.{Facts}
use Rattle.group_rows.proofs.Meets.{each_row}
use Rattle.group_call.specs.Effects.{effect_of}
use Rattle.group_call.specs.Carried.{running_by}
use Rattle.group_call.specs.declared.effects.Hold.{Hold}
use Rattle.group_call.specs.declared.effects.Say.{Say}
use Rattle.group_call.proofs.Brought.{out_of, brings_call, brings_change}

-- S1
abbrev pub start_stop : State → Bool
start_stop state = eqb (state_number state) 1

-- the timers that run afterwards are those of the state entered
abbrev pub settles : State → Cause → Bool → Option Row → Bool
settles f c confirm row = same_timers (running_by f (running_of f) (out_of c) (effect_of row f confirm)) (running_of (effect_of row f confirm).to)

-- what a row does to the call may be done: there is none in S1, and one elsewhere
abbrev pub may_hold : Cause → State → State → Hold → Bool
may_hold c state to Hold.Keep = beq (start_stop state) (start_stop to)
may_hold c state to Hold.Announced = brings_call c && not (start_stop to)
may_hold c state to Hold.Change = brings_change c && (not (start_stop state) && not (start_stop to))
may_hold c state to Hold.LaterChange = brings_change c && (not (start_stop state) && not (start_stop to))
may_hold c state to Hold.Clear = start_stop to

-- by the row
abbrev pub holds : State → Cause → Bool → Option Row → Bool
holds f c confirm row = may_hold c f (effect_of row f confirm).to (effect_of row f confirm).hold

-- the call held is the one that the event brings
abbrev pub holds_new : Cause → Hold → Bool
holds_new c Hold.Keep = false
holds_new c Hold.Announced = brings_call c
holds_new c Hold.Change = false
holds_new c Hold.LaterChange = false
holds_new c Hold.Clear = false

-- what a row says may be said: of the call held, and with the user's confirm only of the call that is brought
abbrev pub may_say : Cause → State → Hold → Option Say → Bool
may_say c to hold None = true
may_say c to hold (Some Say.FirstAnnouncement) = holds_new c hold
may_say c to hold (Some Say.Announcement) = not (start_stop to)
may_say c to hold (Some Say.Accept) = not (start_stop to)

-- by the row
abbrev pub says : State → Cause → Bool → Option Row → Bool
says f c confirm row = may_say c (effect_of row f confirm).to (effect_of row f confirm).hold (effect_of row f confirm).say

-- the timers of a set without those of another
abbrev pub less : Timers → Timers → Timers
less was out = set_of (λ t. has was t && not (has out t))

-- where no row is met no running timer ran out
abbrev pub quiet : State → Cause → Option Row → Bool
quiet f c row = not (eqb (row_number row) 0) || same_timers (less (running_of f) (out_of c)) (running_of f)

-- all four, whatever confirm is
abbrev sound : State → Cause → Option Row → Bool
sound f c row = both_bools (λ confirm. settles f c confirm row && (holds f c confirm row && (says f c confirm row && quiet f c row)))

-- what is so of every row that is met
pub record Sound (f : State) (c : Cause) (confirm : Bool) (row : Option Row) : Type 0 where
  pub timers : settles f c confirm row ≡ true
  pub call : holds f c confirm row ≡ true
  pub message : says f c confirm row ≡ true
  pub discard : quiet f c row ≡ true

-- it is so of every row that is met
pub rows-sound : (f : State) (c : Cause) (x : Facts) (confirm : Bool) → Sound f c confirm (row_in f c x)
unfolding stopped_of running_after
rows-sound f c x confirm =
    let row = row_in f c x in
    let t = at-bool (λ confirm. settles f c confirm row && (holds f c confirm row && (says f c confirm row && quiet f c row))) (each_row sound refl f c x) confirm in
    let a = and_split (settles f c confirm row) _ t in
    let b = and_split (holds f c confirm row) _ a.1 in
    let d = and_split (says f c confirm row) (quiet f c row) b.1 in
    record { timers = a.0; call = b.0; message = d.0; discard = d.1 }
