-- One expiry of the timer of a counter, be it CFP1, CFP3 or CFP4: the message once more, or P1. Assumes nothing.
use Prim.Native.Nat.{ℕ, suc, ◌<◌, ◌≤◌}
use mathlib.Core.Path.{◌≡◌, refl, sym, ap, ◌∙◌}
use mathlib.Core.List.{List, [], ◌∷◌}
use mathlib.Core.Bool.{Bool, true, false, cond}
use native.Mathlib.Omega.{arith}
use lib.ListN.{length, drop}
use lib.Seq.{take-append_seam}
use lib.Dec.{ltb, eqb}
use borrow.Author.Tests.{lt-ltb, le-ltb, ne_eqb}
use Rattle.std.specs.Prelude.{Option, Some, None}
use Rattle.frame.specs.declared.Media.{Media}
use Rattle.frame.proofs.Frames.{length-line}
use Rattle.writer.specs.Lent.{at_front}
use Rattle.call.specs.Timing.{stopped_of, running_after}
use Rattle.call.specs.Settings.{settings_good}
use Rattle.call.specs.declared.Counters.{Counters}
use Rattle.call.specs.declared.Settings.{Settings}
use Rattle.call.specs.declared.Verdicts.{Verdicts}
use Rattle.call.specs.declared.Input.{Input}
use Rattle.frame.specs.declared.Message.{Message}
use Rattle.stepping.specs.Sending.{line_sent, send_number}
use Rattle.private_record.specs.Phases.{has, state_of, running_of, count_of, phase_in, phase_of}
use Rattle.private_record.specs.Formed.{is_well_formed}
use Rattle.private_record.specs.declared.states.State.{State}
use Rattle.private_record.specs.declared.states.Timers.{Timers}
use Rattle.private_record.specs.declared.states.Phase.{Phase}
use Rattle.private_record.specs.declared.states.PrivateRecord.{PrivateRecord}
use Rattle.private_record.proofs.WellFormed.{fit}
use Rattle.private_rows.specs.Causes.{private_timer_cause, facts_of}
use Rattle.private_rows.specs.Rows.{row_number, row_in, row_of}
use Rattle.private_rows.specs.declared.Row.{Row}
use Rattle.private_rows.specs.declared.Row.TheVariants.{R2, R3, R10, R11, R16, R17}
use Rattle.private_rows.specs.declared.causes.Facts.{Facts}
use Rattle.private_call.specs.Effects.{effect_of}
use Rattle.private_call.specs.Carried.{private_timer_out, started_of, counters_after, one_more, started_by, running_by, carry_out}
use Rattle.private_call.specs.Step.{number_before_sending, step_of, step_buffer}
use Rattle.private_call.specs.Running.{expiry, run_private, sent_private}
use Rattle.private_call.specs.NoReply.{Counter, cfp1, cfp3, cfp4, count_in, timer_of, phase_where, repeated, line_repeated, expiries}
use Rattle.stepping.specs.Answer.{Answer}
use Rattle.private_call.proofs.MarkedSteps.{carries, next-done, line-done, row_done, expiry-taken, expiry-discarded}
use Rattle.private_call.proofs.NumberTable.{step-goes}

-- ---- the two rows of a counter

-- under its limit
abbrev pub again : Counter → Option Row
again cfp1 = Some R2
again cfp3 = Some R10
again cfp4 = Some R16

-- at its limit
abbrev pub over : Counter → Option Row
over cfp1 = Some R3
over cfp3 = Some R11
over cfp4 = Some R17

-- the expiry of its timer meets the one or the other
counter-row : (k : Counter) (b : Bool) (x : Facts) → x.under ≡ b → row_in (phase_where k) (private_timer_cause (timer_of k)) x ≡ cond b (again k) (over k)
unfolding row_in
counter-row cfp1 true x e = rw e
counter-row cfp1 false x e = rw e
counter-row cfp3 true x e = rw e
counter-row cfp3 false x e = rw e
counter-row cfp4 true x e = rw e
counter-row cfp4 false x e = rw e

-- neither is R1
not_first : (k : Counter) (b : Bool) → eqb (row_number (cond b (again k) (over k))) 1 ≡ false
not_first cfp1 true = refl
not_first cfp1 false = refl
not_first cfp3 true = refl
not_first cfp3 false = refl
not_first cfp4 true = refl
not_first cfp4 false = refl

-- the counter that counts is the one of the phase
counts : (k : Counter) (c : Counters) → count_of (phase_where k) c ≡ count_in k c
counts cfp1 c = refl
counts cfp3 c = refl
counts cfp4 c = refl

-- ---- under the limit

-- the same timer runs afterwards
again-timers : (k : Counter) {state : State} {was : Timers} → state ≡ state_of (phase_where k) → was ≡ running_of (phase_where k)
    → running_by state was (private_timer_out (timer_of k)) (effect_of (again k) state) ≡ running_of (phase_where k)
unfolding started_of stopped_of running_after
again-timers cfp1 a b = rw (a, b) refl
again-timers cfp3 a b = rw (a, b) refl
again-timers cfp4 a b = rw (a, b) refl

-- its counter gets one more
again-value : (k : Counter) (state : State) {running : Timers} (limits counters : Counters) → running ≡ running_of (phase_where k)
    → count_in k (counters_after running (started_by state (effect_of (again k) state)) (effect_of (again k) state).again limits counters) ≡ one_more (count_in k limits) (count_in k counters)
unfolding started_of counters_after
again-value cfp1 state limits counters e = rw e refl
again-value cfp3 state limits counters e = rw e refl
again-value cfp4 state limits counters e = rw e refl

-- the state and the call stay, and the message is sent
again-same : (k : Counter) (s : Settings) (p : PrivateRecord) (i : Input) → (p.state ≡ (carry_out s p i (again k)).next.state)
    × (p.call ≡ (carry_out s p i (again k)).next.call)
    × (line_sent (carry_out s p i (again k)).sent (carry_out s p i (again k)).next.call.media ≡ line_repeated k p.call)
unfolding carry_out
again-same cfp1 s p i = (refl, refl, refl)
again-same cfp3 s p i = (refl, refl, refl)
again-same cfp4 s p i = (refl, refl, refl)

-- the phase is that of its state and its timers
phase-back : (k : Counter) → phase_in (state_of (phase_where k)) (running_of (phase_where k)) ≡ phase_where k
phase-back cfp1 = refl
phase-back cfp3 = refl
phase-back cfp4 = refl

-- under its limit a counter gets one more
one-more : (limit n : ℕ) → n < limit → one_more limit n ≡ suc n
one-more limit n h = rw (lt-ltb n limit h) (omega arith)

-- a line has bytes
pub line-bytes : (k : Counter) (s : Settings) (p : PrivateRecord) → length (line_repeated k p.call) ≡ 0 → ⊥
line-bytes k s p e = let h = length-line (repeated k p.call) p.call.media in omega (arith, h, e)

-- ---- at the limit

-- nothing is sent, and P1 is entered
over-quiet : (k : Counter) (s : Settings) (p : PrivateRecord) (i : Input) → ((carry_out s p i (over k)).sent ≡ None)
    × ((carry_out s p i (over k)).next.state ≡ State.P1)
unfolding carry_out
over-quiet cfp1 s p i = (refl, refl)
over-quiet cfp3 s p i = (refl, refl)
over-quiet cfp4 s p i = (refl, refl)

-- ---- the lines of a run

-- a step that sends
pub step-sends : (s : Settings) (p : PrivateRecord) (i : Input) (out : List ℕ) (rest : List (Input × List ℕ)) (line : List ℕ) → (length line ≡ 0 → ⊥)
    → (step_of s p i out).length ≡ length line → step_buffer s p i out ≡ at_front line out
    → sent_private s p ((i, out) ∷ rest) ≡ line ∷ sent_private s (step_of s p i out).next rest
step-sends s p i out rest line f a b =
    rw (a, b, ne_eqb (length line) 0 f) (ap (λ (l : List ℕ). l ∷ sent_private s (step_of s p i out).next rest) (take-append_seam line (drop (length line) out)))

-- a step that sends nothing
pub step-silent : (s : Settings) (p : PrivateRecord) (i : Input) (out : List ℕ) (rest : List (Input × List ℕ)) → (step_of s p i out).length ≡ 0
    → sent_private s p ((i, out) ∷ rest) ≡ sent_private s (step_of s p i out).next rest
step-silent s p i out rest a = rw (a) refl

-- ---- in P1

-- none of the three timers runs there
quiet-ignoring : (k : Counter) → has (running_of Phase.P1) (timer_of k) ≡ false
quiet-ignoring cfp1 = refl
quiet-ignoring cfp3 = refl
quiet-ignoring cfp4 = refl

-- so their expiry changes nothing and sends nothing
pub ignoring : (k : Counter) (s : Settings) (p : PrivateRecord) (xs : List (Media × Verdicts × List ℕ)) → settings_good s ≡ true → is_well_formed s p ≡ true
    → p.state ≡ State.P1 → (sent_private s p (expiries (timer_of k) xs) ≡ []) × (run_private s p (expiries (timer_of k) xs) ≡ p)
ignoring k s p [] g w e = (refl, refl)
ignoring k s p (x ∷ xs) g w e =
    let i = expiry (timer_of k) x.0 x.1 in
    let phase : phase_of p ≡ Phase.P1 = ap (λ (state : State). phase_in state p.running) e in
    let quiet = ap (λ (t : Timers). has t (timer_of k)) ((fit s p w).running ∙ ap running_of phase) ∙ quiet-ignoring k in
    let d = expiry-discarded s p (timer_of k) x.0 x.1 x.2 g w quiet in
    let next : (step_of s p i x.2).next ≡ p = ap (λ (r : Answer PrivateRecord Timers). r.next) d.0 in
    let rest = ignoring k s p xs g w e in (
      step-silent s p i x.2 (expiries (timer_of k) xs) (ap (λ (r : Answer PrivateRecord Timers). r.length) d.0) ∙ ap (λ (q : PrivateRecord). sent_private s q (expiries (timer_of k) xs)) next ∙ rest.0,
      ap (λ (q : PrivateRecord). run_private s q (expiries (timer_of k) xs)) next ∙ rest.1,
    )

-- ---- one expiry

module _ (k : Counter) (s : Settings) (p : PrivateRecord) (media : Media) (v : Verdicts) (g : settings_good s ≡ true) (w : is_well_formed s p ≡ true)
    (here : phase_of p ≡ phase_where k) where
  -- the expiry of its timer
  abbrev out_of : Input
  out_of = expiry (timer_of k) media v

  -- the row by whether the counter is under its limit
  row_by : (b : Bool) → ltb (count_in k p.counters) (count_in k s.limits) ≡ b → row_of s p out_of ≡ cond b (again k) (over k)
  row_by b e =
      (λ j. row_in (here j) (private_timer_cause (timer_of k)) (facts_of s (here j) p.counters p.call out_of))
      ∙ counter-row k b (facts_of s (phase_where k) p.counters p.call out_of)
      (ap (λ (c : ℕ). ltb c (count_of (phase_where k) s.limits)) (counts k p.counters) ∙ ap (ltb (count_in k p.counters)) (counts k s.limits) ∙ e)

  -- it is not refused before it sends
  goes : (b : Bool) → ltb (count_in k p.counters) (count_in k s.limits) ≡ b → number_before_sending s p out_of ≡ 0
  goes b e = expiry-taken s p (timer_of k) media v g w (ap (λ (row : Option Row). eqb (row_number row) 1) (row_by b e) ∙ not_first k b)

  -- under the limit: the line, the phase, one more; R2, R10 or R16
  pub expires-again : (out : List ℕ) → count_in k p.counters < count_in k s.limits → length (line_repeated k p.call) ≤ length out
      → ((step_of s p out_of out).length ≡ length (line_repeated k p.call)) × (step_buffer s p out_of out ≡ at_front (line_repeated k p.call) out)
      × (phase_of (step_of s p out_of out).next ≡ phase_where k) × (count_in k (step_of s p out_of out).next.counters ≡ suc (count_in k p.counters))
      × ((step_of s p out_of out).next.call ≡ p.call) × ((step_of s p out_of out).row ≡ row_number (again k))
  unfolding carry_out
  expires-again out under room =
      let e = goes true (lt-ltb _ _ under) in
      let r = row_by true (lt-ltb _ _ under) in
      let same = again-same k s p out_of in
      let line = ap (λ (row : Option Row). line_sent (carry_out s p out_of row).sent (carry_out s p out_of row).next.call.media) r ∙ same.2 in
      let n = step-goes s p out_of out e (omega (arith, ap length line, room)) in
      let told = line-done s p out_of out n in
      let done = next-done s p out_of out n ∙ ap (λ (row : Option Row). (carry_out s p out_of row).next) r in
      let f = fit s p w in
      let state = f.state ∙ ap state_of here in
      let running = again-timers k state (f.running ∙ ap running_of here) in (
        told.0 ∙ ap length line,
        told.1 ∙ ap (λ (l : List ℕ). at_front l out) line,
        ap phase_of done ∙ (λ j. phase_in ((sym same.0 ∙ state) j) (running j)) ∙ phase-back k,
        ap (λ (q : PrivateRecord). count_in k q.counters) done ∙ again-value k p.state s.limits p.counters running ∙ one-more _ _ under,
        ap (λ (q : PrivateRecord). q.call) done ∙ sym same.1,
        row_done s p out_of out n ∙ ap row_number r,
      )

  -- at the limit: no line, and P1; R3, R11 or R17
  pub expires-last : (out : List ℕ) → count_in k s.limits ≤ count_in k p.counters
      → ((step_of s p out_of out).length ≡ 0) × ((step_of s p out_of out).next.state ≡ State.P1) × ((step_of s p out_of out).row ≡ row_number (over k))
  expires-last out full =
      let e = goes false (le-ltb _ _ full) in
      let r = row_by false (le-ltb _ _ full) in
      let last = over-quiet k s p out_of in
      let done = carries s p out_of out (over k) e r (ap (λ (x : Option Message). send_number x (carry_out s p out_of (over k)).next.call.media out) last.0) in (
        ap (λ (x : Answer PrivateRecord Timers). x.length) done ∙ ap (λ (x : Option Message). length (line_sent x (carry_out s p out_of (over k)).next.call.media)) last.0,
        ap (λ (x : Answer PrivateRecord Timers). x.next.state) done ∙ last.1,
        ap (λ (x : Answer PrivateRecord Timers). x.row) done,
      )
