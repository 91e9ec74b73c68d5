-- What meets no row in any state, and what is never looked at. Assumes nothing.
use Prim.Native.Nat.{ℕ}
use mathlib.Core.Path.{◌≡◌, refl, sym, ap, ◌∙◌}
use mathlib.Core.Logic.{◌⊎◌, inl, inr}
use mathlib.Core.List.{List}
use mathlib.Core.Bool.{true, false, not, ◌&&◌, true≢false}
use lib.Dec.{eqb}
use Rattle.std.specs.Prelude.{Option, None}
use Rattle.frame.specs.declared.Media.{Media}
use Rattle.call.specs.Settings.{settings_good}
use Rattle.call.specs.Announced.{announced_of}
use Rattle.call.specs.declared.Settings.{Settings}
use Rattle.call.specs.declared.Verdicts.{Verdicts}
use Rattle.call.specs.declared.GroupTimer.{GroupTimer}
use Rattle.call.specs.declared.Event.{Event}
use Rattle.call.specs.declared.Input.{Input}
use Rattle.stepping.proofs.Stepping.{Taken, tests-pass}
use Rattle.group_record.specs.States.{has}
use Rattle.group_record.specs.Formed.{is_well_formed}
use Rattle.group_record.specs.declared.states.State.{State}
use Rattle.group_record.specs.declared.states.Timers.{Timers}
use Rattle.group_record.specs.declared.states.GroupRecord.{GroupRecord}
use Rattle.group_rows.specs.Causes.{group_timer_cause, cause_of, facts_of}
use Rattle.group_rows.specs.Asking.{runs}
use Rattle.group_rows.specs.Rows.{row_number, row_in, row_of}
use Rattle.group_rows.specs.declared.Row.{Row}
use Rattle.group_rows.specs.declared.causes.Cause.{Cause}
use Rattle.group_rows.specs.declared.causes.Facts.{Facts}
use Rattle.group_rows.proofs.Meets.{found-is-met}
use Rattle.group_call.specs.Carried.{is_later, carry_out}
use Rattle.group_call.specs.Hearing.{input_of, expiry}
use Rattle.group_call.specs.Step.{change_too_early, discarded, step_of, step_buffer}
use Rattle.group_call.proofs.Keeping.{fit}
use Rattle.group_call.proofs.Steps.{discards}

-- what meets no row and is not refused is discarded
no-row-discarded : (s : Settings) (g : GroupRecord) (i : Input) (out : List ℕ) → Taken s (is_well_formed s g) i → row_of s g i.event ≡ None
    → (step_of s g i out ≡ discarded g) × (step_buffer s g i out ≡ out)
no-row-discarded s g i out t r =
    let z = ap (λ (row : Option Row). eqb (row_number row) 9) r in
    discards s g i out
    (tests-pass s (is_well_formed s g) i (change_too_early s g i.event (row_of s g i.event)) t
    (λ j. z j && not (is_later (announced_of s i.event).call g.call))) r

-- whatever is the private machine's, kind 09, and an announcement of another group: discarded in every state, unless a field is refused
pub other-discarded : (s : Settings) (g : GroupRecord) (i : Input) (out : List ℕ) → Taken s (is_well_formed s g) i → cause_of s i.event ≡ Cause.Other
    → (step_of s g i out ≡ discarded g) × (step_buffer s g i out ≡ out)
other-discarded s g i out t c =
    let x = facts_of s g.call (announced_of s i.event).call in
    no-row-discarded s g i out t (ap (λ (d : Cause). row_in g.state d x) c ∙ sym (found-is-met g.state Cause.Other x))

-- an announcement in S4 or S5 meets no row
waiting-row : (f : State) (x : Facts) → (f ≡ State.S4) ⊎ (f ≡ State.S5) → row_in f Cause.AnnouncementHeard x ≡ None
waiting-row f x (inl e) = ap (λ (h : State). row_in h Cause.AnnouncementHeard x) e ∙ sym (found-is-met State.S4 Cause.AnnouncementHeard x)
waiting-row f x (inr e) = ap (λ (h : State). row_in h Cause.AnnouncementHeard x) e ∙ sym (found-is-met State.S5 Cause.AnnouncementHeard x)

-- while the user is waited for, no announcement is heeded
pub waiting-discards : (s : Settings) (g : GroupRecord) (i : Input) (out : List ℕ) → Taken s (is_well_formed s g) i → cause_of s i.event ≡ Cause.AnnouncementHeard
    → (g.state ≡ State.S4) ⊎ (g.state ≡ State.S5) → (step_of s g i out ≡ discarded g) × (step_buffer s g i out ≡ out)
waiting-discards s g i out t c w =
    let x = facts_of s g.call (announced_of s i.event).call in
    no-row-discarded s g i out t (ap (λ (d : Cause). row_in g.state d x) c ∙ waiting-row g.state x w)

-- ---- the expiry of a timer that does not run

-- it meets no row
quiet-expiry : (t : GroupTimer) (f : State) (x : Facts) → runs t f ≡ false → row_in f (group_timer_cause t) x ≡ None
quiet-expiry GroupTimer.Tfg2 State.S1 x h = sym (found-is-met State.S1 Cause.Tfg2Expires x)
quiet-expiry GroupTimer.Tfg2 State.S3 x h = absurd (true≢false h)
quiet-expiry GroupTimer.Tfg2 State.S4 x h = sym (found-is-met State.S4 Cause.Tfg2Expires x)
quiet-expiry GroupTimer.Tfg2 State.S5 x h = sym (found-is-met State.S5 Cause.Tfg2Expires x)
quiet-expiry GroupTimer.Tfg4 State.S1 x h = sym (found-is-met State.S1 Cause.Tfg4Expires x)
quiet-expiry GroupTimer.Tfg4 State.S3 x h = sym (found-is-met State.S3 Cause.Tfg4Expires x)
quiet-expiry GroupTimer.Tfg4 State.S4 x h = absurd (true≢false h)
quiet-expiry GroupTimer.Tfg4 State.S5 x h = absurd (true≢false h)
quiet-expiry GroupTimer.Tfg6 State.S1 x h = sym (found-is-met State.S1 Cause.Tfg6Expires x)
quiet-expiry GroupTimer.Tfg6 State.S3 x h = absurd (true≢false h)
quiet-expiry GroupTimer.Tfg6 State.S4 x h = sym (found-is-met State.S4 Cause.Tfg6Expires x)
quiet-expiry GroupTimer.Tfg6 State.S5 x h = sym (found-is-met State.S5 Cause.Tfg6Expires x)

-- it is discarded
pub expiry-discarded : (s : Settings) (g : GroupRecord) (t : GroupTimer) (media : Media) (v : Verdicts) (out : List ℕ) → settings_good s ≡ true
    → is_well_formed s g ≡ true → has g.running t ≡ false
    → (step_of s g (expiry t media v) out ≡ discarded g) × (step_buffer s g (expiry t media v) out ≡ out)
expiry-discarded s g t media v out h w n =
    let i = expiry t media v in
    let rests = ap (λ (x : Timers). has x t) (sym (fit s g w).running) ∙ n in
    no-row-discarded s g i out (record { settings = h; formed = w; message = refl; arguments = refl })
    (quiet-expiry t g.state (facts_of s g.call (announced_of s i.event).call) rests)

-- ---- verdicts

-- a step is the same whatever the verdicts are
pub verdicts-unseen : (s : Settings) (g : GroupRecord) (e : Event) (media : Media) (v w : Verdicts) (out : List ℕ)
    → (step_of s g (input_of e media v) out ≡ step_of s g (input_of e media w) out) × (step_buffer s g (input_of e media v) out ≡ step_buffer s g (input_of e media w) out)
unfolding step_of step_buffer carry_out
verdicts-unseen s g e media v w out = (refl, refl)
