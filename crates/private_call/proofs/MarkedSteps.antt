-- Steps that are marked: the last expiry of TFP1, a second accept, the expiry of a timer that does not run. Assumes nothing.
use Prim.Native.Nat.{ℕ}
use mathlib.Core.Path.{◌≡◌, refl, sym, ap, ◌∙◌}
use mathlib.Core.List.{List}
use mathlib.Core.Bool.{Bool, true, false, cond, false≢true}
use native.Mathlib.Omega.{arith}
use lib.ListN.{length}
use lib.Dec.{eqb}
use borrow.Author.Tests.{eq-eqb, eqb-true}
use Rattle.std.specs.Prelude.{Option, Some, None}
use Rattle.std.proofs.lemmas.Option.{none-some}
use Rattle.frame.specs.declared.Media.{Media}
use Rattle.frame.proofs.Laws.{and_split}
use Rattle.writer.specs.Lent.{at_front}
use Rattle.call.specs.Timing.{stopped_of, running_after}
use Rattle.call.specs.Settings.{settings_good}
use Rattle.call.specs.declared.Settings.{Settings}
use Rattle.call.specs.declared.Verdicts.{Verdicts}
use Rattle.call.specs.declared.PrivateTimer.{PrivateTimer}
use Rattle.call.specs.declared.Input.{Input}
use Rattle.stepping.specs.Sending.{line_sent, send_number}
use Rattle.stepping.specs.Numbers.{number_sending}
use Rattle.stepping.proofs.Stepping.{Taken}
use Rattle.private_record.specs.Phases.{has, no_timer, tfp2, tfp4, state_of, running_of, phase_in, phase_of}
use Rattle.private_record.specs.Formed.{counter_good, is_well_formed}
use Rattle.private_record.specs.declared.states.State.{State}
use Rattle.private_record.specs.declared.states.Phase.{Phase}
use Rattle.private_record.specs.declared.states.Timers.{Timers}
use Rattle.private_record.specs.declared.states.PrivateRecord.{PrivateRecord}
use Rattle.private_record.proofs.WellFormed.{Fit, fit}
use Rattle.private_rows.specs.Causes.{cause_of, facts_of}
use Rattle.private_rows.specs.Asking.{runs}
use Rattle.private_rows.specs.Rows.{row_number, row_in, row_of}
use Rattle.private_rows.specs.declared.Row.{Row}
use Rattle.private_rows.specs.declared.Row.TheVariants.{R3, R23}
use Rattle.private_rows.specs.declared.causes.Cause.{Cause}
use Rattle.private_rows.specs.declared.causes.Facts.{Facts}
use Rattle.private_rows.proofs.Meets.{same_row, found-is-met, quiet-expiry}
use Rattle.private_call.specs.Effects.{effect_of}
use Rattle.private_call.specs.Carried.{started_of, running_by, carry_out}
use Rattle.private_call.specs.Step.{number_before_sending, done_of, step_line, refused_of, discarded, moved_of, answer_met, step_number, step_of, step_buffer}
use Rattle.private_call.specs.Running.{expiry, user_accepts}
use Rattle.private_call.specs.NoReply.{Counter, cfp1, cfp3, cfp4, timer_of, phase_where}
use Rattle.stepping.specs.Answer.{Answer}
use Rattle.private_call.proofs.Steps.{buffer_lent, tests-passed, number-in-parts, step-passed, step-done, answer-told, keeps-well-formed, discards}

-- ---- a step by its row

-- the answer of a step whose row is known and whose message has room
pub carries : (s : Settings) (p : PrivateRecord) (i : Input) (out : List ℕ) (row : Option Row) → number_before_sending s p i ≡ 0 → row_of s p i ≡ row
    → send_number (carry_out s p i row).sent (carry_out s p i row).next.call.media out ≡ 0
    → step_of s p i out ≡ moved_of row (carry_out s p i row) (length (line_sent (carry_out s p i row).sent (carry_out s p i row).next.call.media))
carries s p i out row e r w =
    let done = carry_out s p i in
    step-done s p i out (number-in-parts s p i out ∙ (λ j. number_sending (e j) (done (r j)).sent (done (r j)).next.call.media out) ∙ w)
    ∙ (λ j. moved_of (r j) (done (r j)) (length (line_sent (done (r j)).sent (done (r j)).next.call.media)))

-- the next record of a step that is not refused
pub next-done : (s : Settings) (p : PrivateRecord) (i : Input) (out : List ℕ) → step_number s p i out ≡ 0 → (step_of s p i out).next ≡ (done_of s p i).next
next-done s p i out e = ap (λ (x : Answer PrivateRecord Timers). x.next) (step-done s p i out e)

-- the line of a step that is not refused
pub line-done : (s : Settings) (p : PrivateRecord) (i : Input) (out : List ℕ) → step_number s p i out ≡ 0
    → ((step_of s p i out).length ≡ length (step_line s p i)) × (step_buffer s p i out ≡ at_front (step_line s p i) out)
line-done s p i out e = (ap (λ (x : Answer PrivateRecord Timers). x.length) (step-done s p i out e), buffer_lent s p i out ∙ rw (eq-eqb (step_number s p i out) 0 e) refl)

-- the row of a step that is not refused
pub row_done : (s : Settings) (p : PrivateRecord) (i : Input) (out : List ℕ) → step_number s p i out ≡ 0 → (step_of s p i out).row ≡ row_number (row_of s p i)
row_done s p i out e = ap (λ (x : Answer PrivateRecord Timers). x.row) (step-done s p i out e)

-- a row above 0 is that of a step that is not refused
pub row-met : (s : Settings) (p : PrivateRecord) (i : Input) (out : List ℕ) (row : Option Row) → (row_number row ≡ 0 → ⊥) → (step_of s p i out).row ≡ row_number row
    → (step_number s p i out ≡ 0) × (row_of s p i ≡ row)
unfolding step_of
row-met s p i out row f e = go (eqb (step_number s p i out) 0) refl e
  where
    go : (b : Bool) → eqb (step_number s p i out) 0 ≡ b → (cond b (answer_met s p i) (refused_of (step_number s p i out) p)).row ≡ row_number row
        → (step_number s p i out ≡ 0) × (row_of s p i ≡ row)
    go true t h =
        let told = sym (answer-told s p i).1 ∙ h in
        (eqb-true (step_number s p i out) 0 t, same_row (row_of s p i) row (eq-eqb (row_number (row_of s p i)) (row_number row) told))
    go false t h = absurd (f (sym h))

-- an expiry is refused by nothing but a bad setting, a record that is not well formed, or a lack of room
pub expiry-taken : (s : Settings) (p : PrivateRecord) (t : PrivateTimer) (media : Media) (v : Verdicts) → settings_good s ≡ true → is_well_formed s p ≡ true
    → (eqb (row_number (row_of s p (expiry t media v))) 1 ≡ false) → number_before_sending s p (expiry t media v) ≡ 0
expiry-taken s p t media v g w r = rw (g, w, r)

-- ---- the expiry of a timer that does not run

-- it is discarded
pub expiry-discarded : (s : Settings) (p : PrivateRecord) (t : PrivateTimer) (media : Media) (v : Verdicts) (out : List ℕ) → settings_good s ≡ true
    → is_well_formed s p ≡ true → has p.running t ≡ false
    → (step_of s p (expiry t media v) out ≡ discarded p) × (step_buffer s p (expiry t media v) out ≡ out)
expiry-discarded s p t media v out g w h =
    let i = expiry t media v in
    let f = fit s p w in
    let r = quiet-expiry t (phase_of p) (facts_of s (phase_of p) p.counters p.call i) (ap (λ (x : Timers). has x t) (sym f.running) ∙ h) in
    discards s p i out (expiry-taken s p t media v g w (ap (λ (row : Option Row). eqb (row_number row) 1) r)) r

-- ---- what is not for this machine

-- what can meet no row meets none
other_row : (f : Phase) (x : Facts) → row_in f Cause.Other x ≡ None
other_row f x = sym (found-is-met f Cause.Other x)

-- whatever is the group machine's, and a setup request that does not count: discarded, unless a field is refused
pub other-discarded : (s : Settings) (p : PrivateRecord) (i : Input) (out : List ℕ) → Taken s (is_well_formed s p) i → cause_of s i.event ≡ Cause.Other
    → (step_of s p i out ≡ discarded p) × (step_buffer s p i out ≡ out)
other-discarded s p i out t c =
    let x = facts_of s (phase_of p) p.counters p.call i in
    let r = ap (λ (d : Cause). row_in (phase_of p) d x) c ∙ other_row (phase_of p) x in
    discards s p i out (rw (t.settings, t.formed, t.message, t.arguments, ap (λ (row : Option Row). eqb (row_number row) 1) r)) r

-- ---- a second accept

-- only where TFP2 runs in P5 the user's accept meets R23
accept-phase : (f : Phase) (x : Facts) → row_in f Cause.UserAccepts x ≡ Some R23 → f ≡ Phase.P5Tfp2
unfolding row_in
accept-phase Phase.P0 x e = absurd (none-some R23 e)
accept-phase Phase.P1 x e = absurd (none-some R23 e)
accept-phase Phase.P2Tfp1 x e = absurd (none-some R23 e)
accept-phase Phase.P2Tfp2 x e = absurd (none-some R23 e)
accept-phase Phase.P3 x e = absurd (none-some R23 e)
accept-phase Phase.P4 x e = absurd (none-some R23 e)
accept-phase Phase.P5Tfp2 x e = refl
accept-phase Phase.P5Tfp4 x e = absurd (none-some R23 e)

-- where TFP4 runs it meets no row
accept-late : (x : Facts) → row_in Phase.P5Tfp4 Cause.UserAccepts x ≡ None
unfolding row_in
accept-late x = refl

-- R23 puts TFP4 in the place of TFP2
accepted-timers : {state : State} {was : Timers} → state ≡ State.P5 → was ≡ tfp2 → running_by state was no_timer (effect_of (Some R23) state) ≡ tfp4
unfolding started_of stopped_of running_after
accepted-timers a b = rw (a, b) refl

-- after R23 TFP4 runs in P5
accepted-phase : (s : Settings) (p : PrivateRecord) (media : Media) (v : Verdicts) → Fit s p → phase_of p ≡ Phase.P5Tfp2
    → phase_of (carry_out s p (user_accepts media v) (Some R23)).next ≡ Phase.P5Tfp4
unfolding carry_out
accepted-phase s p media v f e =
    let state = f.state ∙ ap state_of e in
    let running = accepted-timers state (f.running ∙ ap running_of e) in (λ j. phase_in (state j) (running j))

-- the user who accepts a second time is not heard: no counter changes, no timer, nothing
pub second-accept : (s : Settings) (p : PrivateRecord) (media media' : Media) (v v' : Verdicts) (out out' : List ℕ)
    → (step_of s p (user_accepts media v) out).row ≡ 23 → let next = (step_of s p (user_accepts media v) out).next in
    (step_of s next (user_accepts media' v') out' ≡ discarded next) × (step_buffer s next (user_accepts media' v') out' ≡ out')
second-accept s p media media' v v' out out' e =
    let i = user_accepts media v in
    let i' = user_accepts media' v' in
    let next = (step_of s p i out).next in
    let m = row-met s p i out (Some R23) (λ z. omega arith) e in
    let t = (tests-passed s p i (step-passed s p i out m.0).0).0 in
    let is = next-done s p i out m.0 ∙ ap (λ (row : Option Row). (carry_out s p i row).next) m.1 in
    let f = fit s p t.formed in
    let q = ap phase_of is ∙ accepted-phase s p media v f (accept-phase (phase_of p) (facts_of s (phase_of p) p.counters p.call i) m.1) in
    let r = (λ j. row_in (q j) Cause.UserAccepts (facts_of s (q j) next.counters next.call i')) ∙ accept-late (facts_of s Phase.P5Tfp4 next.counters next.call i') in
    let w = keeps-well-formed s p i out t.settings t.formed in
    discards s next i' out' (rw (t.settings, w, ap (λ (row : Option Row). eqb (row_number row) 1) r)) r

-- ---- the last expiry of TFP1

-- the timer of a counter runs in one phase alone
pub counted-phase : (k : Counter) (f : Phase) → runs (timer_of k) f ≡ true → f ≡ phase_where k
counted-phase cfp1 Phase.P0 e = absurd (false≢true e)
counted-phase cfp1 Phase.P1 e = absurd (false≢true e)
counted-phase cfp1 Phase.P2Tfp1 e = refl
counted-phase cfp1 Phase.P2Tfp2 e = absurd (false≢true e)
counted-phase cfp1 Phase.P3 e = absurd (false≢true e)
counted-phase cfp1 Phase.P4 e = absurd (false≢true e)
counted-phase cfp1 Phase.P5Tfp2 e = absurd (false≢true e)
counted-phase cfp1 Phase.P5Tfp4 e = absurd (false≢true e)
counted-phase cfp3 Phase.P0 e = absurd (false≢true e)
counted-phase cfp3 Phase.P1 e = absurd (false≢true e)
counted-phase cfp3 Phase.P2Tfp1 e = absurd (false≢true e)
counted-phase cfp3 Phase.P2Tfp2 e = absurd (false≢true e)
counted-phase cfp3 Phase.P3 e = refl
counted-phase cfp3 Phase.P4 e = absurd (false≢true e)
counted-phase cfp3 Phase.P5Tfp2 e = absurd (false≢true e)
counted-phase cfp3 Phase.P5Tfp4 e = absurd (false≢true e)
counted-phase cfp4 Phase.P0 e = absurd (false≢true e)
counted-phase cfp4 Phase.P1 e = absurd (false≢true e)
counted-phase cfp4 Phase.P2Tfp1 e = absurd (false≢true e)
counted-phase cfp4 Phase.P2Tfp2 e = absurd (false≢true e)
counted-phase cfp4 Phase.P3 e = absurd (false≢true e)
counted-phase cfp4 Phase.P4 e = absurd (false≢true e)
counted-phase cfp4 Phase.P5Tfp2 e = absurd (false≢true e)
counted-phase cfp4 Phase.P5Tfp4 e = refl

-- at the limit it meets R3
last_row : (x : Facts) → x.under ≡ false → row_in Phase.P2Tfp1 Cause.Tfp1Expires x ≡ Some R3
unfolding row_in
last_row x e = rw e

-- CFP1 1 and its limit 1: the expiry of TFP1 is the last, and meets R3
pub last-expiry : (s : Settings) (p : PrivateRecord) (media : Media) (v : Verdicts) (out : List ℕ) → settings_good s ≡ true → is_well_formed s p ≡ true
    → p.counters.cfp1 ≡ 1 → s.limits.cfp1 ≡ 1 → (step_of s p (expiry PrivateTimer.Tfp1 media v) out).row ≡ 3
unfolding carry_out
last-expiry s p media v out g w c l =
    let i = expiry PrivateTimer.Tfp1 media v in
    let f = fit s p w in
    let tfp1 = counted p.running.tfp1 (and_split (counter_good p.running.tfp1 s.limits.cfp1 p.counters.cfp1) _ f.counters).0 in
    let q = counted-phase cfp1 (phase_of p) (ap (λ (x : Timers). x.tfp1) (sym f.running) ∙ tfp1) in
    let r = (λ j. row_in (q j) Cause.Tfp1Expires (facts_of s (q j) p.counters p.call i)) ∙ last_row (facts_of s Phase.P2Tfp1 p.counters p.call i) (rw (c, l) refl) in
    ap (λ (x : Answer PrivateRecord Timers). x.row) (carries s p i out (Some R3) (expiry-taken s p PrivateTimer.Tfp1 media v g w (ap (λ (row : Option Row). eqb (row_number row) 1) r)) r refl)
  where
    counted : (b : Bool) → counter_good b s.limits.cfp1 p.counters.cfp1 ≡ true → b ≡ true
    counted true h = refl
    counted false h = let z : p.counters.cfp1 ≡ 0 = eqb-true p.counters.cfp1 0 h in let b : ⊥ = omega (arith, z, c) in absurd b
