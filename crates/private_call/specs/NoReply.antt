-- A message that gets no reply: the three counters, over the counter. Assumes nothing.
use Rattle.std.specs.Prelude.{ℕ, zero, suc, ◌≤◌, List, [], ◌∷◌, length}
use Rattle.frame.specs.Layout.{line_of}
use Rattle.frame.specs.declared.Media.{Media}
use Rattle.frame.specs.declared.Message.{Message}
use Rattle.frame.specs.declared.Message.TheVariants.{Accept, Release}
use Rattle.call.specs.Request.{as_message}
use Rattle.call.specs.declared.Counters.{Counters}
use Rattle.call.specs.declared.Verdicts.{Verdicts}
use Rattle.call.specs.declared.PrivateTimer.{PrivateTimer}
use Rattle.call.specs.declared.Input.{Input}
use Rattle.private_record.specs.Formed.{call_request}
use Rattle.private_record.specs.declared.states.Phase.{Phase}
use Rattle.private_record.specs.declared.states.PrivateCall.{PrivateCall}
use Rattle.private_rows.specs.declared.Row.{Row}
use Rattle.private_rows.specs.declared.Row.TheVariants.{R1, R8, R9, R20, R23}
use Rattle.private_call.specs.Running.{expiry}

-- the counters CFP1, CFP3 and CFP4
pub data Counter : Type 0 where
  cfp1 : Counter
  cfp3 : Counter
  cfp4 : Counter

-- its value among the counters, or its limit among the limits
abbrev pub count_in : Counter → Counters → ℕ
count_in cfp1 c = c.cfp1
count_in cfp3 c = c.cfp3
count_in cfp4 c = c.cfp4

-- its timer
abbrev pub timer_of : Counter → PrivateTimer
timer_of cfp1 = PrivateTimer.Tfp1
timer_of cfp3 = PrivateTimer.Tfp3
timer_of cfp4 = PrivateTimer.Tfp4

-- the phase where it counts
abbrev pub phase_where : Counter → Phase
phase_where cfp1 = Phase.P2Tfp1
phase_where cfp3 = Phase.P3
phase_where cfp4 = Phase.P5Tfp4

-- the message whose sendings it counts: 01, 05 or 03
abbrev pub repeated : Counter → PrivateCall → Message
repeated cfp1 call = as_message (call_request call)
repeated cfp3 call = Release call.parties
repeated cfp4 call = Accept call.parties

-- its line
abbrev pub line_repeated : Counter → PrivateCall → List ℕ
line_repeated k call = line_of (repeated k call) call.media

-- the rows that send it for the first time
pub data Begins : Counter → Row → Type 0 where
  by-R1 : Begins cfp1 R1
  by-R8 : Begins cfp3 R8
  by-R9 : Begins cfp3 R9
  by-R20 : Begins cfp4 R20
  by-R23 : Begins cfp4 R23

-- a timer expires again and again, with any media, verdicts and buffers
abbrev pub expiries : PrivateTimer → List (Media × Verdicts × List ℕ) → List (Input × List ℕ)
expiries t [] = []
expiries t (x ∷ xs) = (expiry t x.0 x.1, x.2) ∷ expiries t xs

-- every buffer has so much room
abbrev pub Roomy : ℕ → List (Media × Verdicts × List ℕ) → Type 0
Roomy n [] = Unit {0}
Roomy n (x ∷ xs) = (n ≤ length x.2) × Roomy n xs

-- the smaller of two numbers
abbrev pub at_most : ℕ → ℕ → ℕ
at_most zero n = zero
at_most (suc m) zero = zero
at_most (suc m) (suc n) = suc (at_most m n)
