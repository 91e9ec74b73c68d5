-- What each row does in the phases where it is met, by one computed test. Assumes nothing.
use mathlib.Core.Path.{◌≡◌, refl}
use mathlib.Core.Bool.{Bool, true, false, not, ◌&&◌, ◌||◌}
use lib.Dec.{eqb}
use Rattle.std.specs.Prelude.{Option, Some, None}
use Rattle.frame.proofs.Laws.{and_split}
use Rattle.call.specs.Timing.{stopped_of, running_after}
use Rattle.call.proofs.Laws.{both_bools}
use Rattle.private_record.specs.Phases.{state_number, has, set_of, same_timers, state_of, running_of}
use Rattle.private_record.specs.Formed.{running_good, role_good}
use Rattle.private_record.specs.declared.states.State.{State}
use Rattle.private_record.specs.declared.states.Phase.{Phase}
use Rattle.private_record.specs.declared.states.Timers.{Timers}
use Rattle.private_rows.specs.Causes.{same_cause}
use Rattle.private_rows.specs.Rows.{row_number, row_in}
use Rattle.private_rows.specs.declared.Row.{Row}
use Rattle.private_rows.specs.declared.causes.Cause.{Cause}
use Rattle.private_rows.specs.declared.causes.Facts.{Facts}
use Rattle.private_rows.proofs.Meets.{each_row}
use Rattle.private_call.specs.Effects.{effect_of}
use Rattle.private_call.specs.Carried.{started_of, running_by}
use Rattle.private_call.specs.declared.effects.Hold.{Hold}
use Rattle.private_call.specs.declared.effects.Say.{Say}
use Rattle.private_call.proofs.Brought.{out_of, brings_call, brings_media}

-- ---- the timers

-- the timers that run afterwards are those of the table
abbrev pub settles : Phase → Cause → Option Row → Bool
settles f c row =
    running_good (effect_of row (state_of f)).to (running_by (state_of f) (running_of f) (out_of c) (effect_of row (state_of f)))

-- ---- the call

-- P0
abbrev pub start_stop : State → Bool
start_stop state = eqb (state_number state) 0

-- what the one state asks of the users, the other may ask too
abbrev role_stays : State → State → Bool → Bool → Bool
role_stays state to caller callee = not (role_good state caller callee) || role_good to caller callee

-- a call of the one state may stay in the other
abbrev pub may_stay : State → State → Bool
may_stay state to = (not (start_stop state) || start_stop to) && both_bools (λ a. both_bools (λ b. role_stays state to a b))

-- what a row does to the call may be done: a setup request is stored where one is brought, and own is the one that the state asks for
abbrev pub may_hold : Cause → State → State → Hold → Bool
may_hold c state to Hold.Keep = may_stay state to
may_hold c state to Hold.Request = brings_call c && role_good to (same_cause c Cause.UserStarts) (not (same_cause c Cause.UserStarts))
may_hold c state to Hold.Media = brings_media c && (not (start_stop state) && may_stay state to)
may_hold c state to Hold.Clear = start_stop to

-- by the row
abbrev pub holds : Phase → Cause → Option Row → Bool
holds f c row = may_hold c (state_of f) (effect_of row (state_of f)).to (effect_of row (state_of f)).hold

-- ---- the message

-- the call held is one
abbrev pub holds_one : State → Hold → Bool
holds_one to Hold.Keep = not (start_stop to)
holds_one to Hold.Request = true
holds_one to Hold.Media = not (start_stop to)
holds_one to Hold.Clear = false

-- what a row says may be said: of a call held, or of a setup request that is brought
abbrev pub may_say : Cause → State → Hold → Option Say → Bool
may_say c to hold None = true
may_say c to hold (Some Say.SetupRequest) = holds_one to hold
may_say c to hold (Some Say.Ringing) = holds_one to hold
may_say c to hold (Some Say.Accept) = holds_one to hold
may_say c to hold (Some Say.Release) = holds_one to hold
may_say c to hold (Some Say.ReleaseAck) = holds_one to hold
may_say c to hold (Some Say.AcceptAck) = holds_one to hold
may_say c to hold (Some (Say.Reject reason)) = holds_one to hold
may_say c to hold (Some Say.RejectOther) = brings_call c

-- by the row
abbrev pub says : Phase → Cause → Option Row → Bool
says f c row = may_say c (effect_of row (state_of f)).to (effect_of row (state_of f)).hold (effect_of row (state_of f)).say

-- ---- a discard

-- the timers of a set without those of another
abbrev pub less : Timers → Timers → Timers
less was out = set_of (λ t. has was t && not (has out t))

-- where no row is met no running timer ran out
abbrev pub quiet : Phase → Cause → Option Row → Bool
quiet f c row = not (eqb (row_number row) 0) || same_timers (less (running_of f) (out_of c)) (running_of f)

-- ---- the test

-- all four
abbrev sound : Phase → Cause → Option Row → Bool
sound f c row = settles f c row && (holds f c row && (says f c row && quiet f c row))

-- what is so of every row that is met
pub record Sound (f : Phase) (c : Cause) (row : Option Row) : Type 0 where
  pub timers : settles f c row ≡ true
  pub call : holds f c row ≡ true
  pub message : says f c row ≡ true
  pub discard : quiet f c row ≡ true

-- it is so of every row that is met
pub rows-sound : (f : Phase) (c : Cause) (x : Facts) → Sound f c (row_in f c x)
unfolding started_of stopped_of running_after
rows-sound f c x =
    let row = row_in f c x in
    let a = and_split (settles f c row) _ (each_row sound (λ x. refl) f c x) in
    let b = and_split (holds f c row) _ a.1 in
    let d = and_split (says f c row) (quiet f c row) b.1 in
    record { timers = a.0; call = b.0; message = d.0; discard = d.1 }
