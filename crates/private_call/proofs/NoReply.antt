-- With the limit n and no reply a message is sent n times, then P1 is entered: CFP1 with 01, CFP3 with 05, CFP4 with 03. Assumes nothing.
use Prim.Native.Nat.{ℕ, zero, suc, ◌+◌, ◌-◌, ◌<◌, ◌≤◌}
use mathlib.Core.Path.{◌≡◌, refl, sym, ap, ◌∙◌, subst}
use mathlib.Core.List.{List, [], ◌∷◌}
use mathlib.Core.Bool.{true}
use native.Mathlib.Nat.{le_of_suc-le-suc, not-suc-le-zero}
use native.Mathlib.Omega.{arith}
use lib.ListN.{length, replicate}
use Rattle.std.specs.Prelude.{Option, Some}
use Rattle.frame.specs.declared.Media.{Media}
use Rattle.frame.proofs.Laws.{and_split}
use Rattle.call.specs.Timing.{running_after}
use Rattle.call.specs.Settings.{limit_good, settings_good}
use Rattle.call.specs.declared.Settings.{Settings}
use Rattle.call.specs.declared.Verdicts.{Verdicts}
use Rattle.call.specs.declared.Input.{Input}
use Rattle.stepping.specs.Sending.{line_sent}
use Rattle.private_record.specs.Phases.{has, phase_of}
use Rattle.private_record.specs.Formed.{is_well_formed}
use Rattle.private_record.specs.declared.states.State.{State}
use Rattle.private_record.specs.declared.states.Timers.{Timers}
use Rattle.private_record.specs.declared.states.PrivateCall.{PrivateCall}
use Rattle.private_record.specs.declared.states.PrivateRecord.{PrivateRecord}
use Rattle.private_record.proofs.WellFormed.{fit}
use Rattle.private_rows.specs.Rows.{row_number}
use Rattle.private_rows.specs.declared.Row.{Row}
use Rattle.private_call.specs.Carried.{started_of, counters_after, carry_out}
use Rattle.private_call.specs.Step.{step_line, step_of}
use Rattle.private_call.specs.Running.{expiry, run_private, sent_private}
use Rattle.private_call.specs.NoReply.{Counter, cfp1, cfp3, cfp4, count_in, timer_of, phase_where, line_repeated, Begins, by-R1, by-R8, by-R9, by-R20, by-R23, expiries, Roomy, at_most}
use Rattle.private_call.proofs.Counting.{least}
use Rattle.private_call.proofs.Keeping.{limits-good}
use Rattle.private_call.proofs.Steps.{tests-passed, step-passed, keeps-well-formed}
use Rattle.private_call.proofs.MarkedSteps.{next-done, line-done, row-met, counted-phase}
use Rattle.private_call.proofs.OneCounter.{line-bytes, step-sends, step-silent, ignoring, expires-again, expires-last}

-- from where a counter stands, r below its limit: r more sendings at most, and P1 after one expiry more
pub one-counter : (k : Counter) (s : Settings) (p : PrivateRecord) (xs : List (Media × Verdicts × List ℕ)) (r : ℕ) → settings_good s ≡ true → is_well_formed s p ≡ true
    → phase_of p ≡ phase_where k → count_in k p.counters + r ≡ count_in k s.limits → Roomy (length (line_repeated k p.call)) xs
    → (sent_private s p (expiries (timer_of k) xs) ≡ replicate (at_most (length xs) r) (line_repeated k p.call))
    × (r < length xs → (run_private s p (expiries (timer_of k) xs)).state ≡ State.P1)
one-counter k s p [] r g w here e room = (refl, λ h. absurd (not-suc-le-zero h))
one-counter k s p (x ∷ xs) zero g w here e room =
    let i = expiry (timer_of k) x.0 x.1 in
    let last = expires-last k s p x.0 x.1 g w here x.2 (omega (arith, e)) in
    let rest = ignoring k s (step_of s p i x.2).next xs g (keeps-well-formed s p i x.2 g w) last.1 in
    (step-silent s p i x.2 (expiries (timer_of k) xs) last.0 ∙ rest.0, λ h. ap (λ (q : PrivateRecord). q.state) rest.1 ∙ last.1)
one-counter k s p (x ∷ xs) (suc r) g w here e room =
    let i = expiry (timer_of k) x.0 x.1 in
    let next = (step_of s p i x.2).next in
    let more = expires-again k s p x.0 x.1 g w here x.2 (omega (arith, e)) room.0 in
    let call = more.4 in
    let rest = one-counter k s next xs r g (keeps-well-formed s p i x.2 g w) more.2 (omega (arith, e, more.3))
    (subst (λ (c : PrivateCall). Roomy (length (line_repeated k c)) xs) (sym call) room.1) in
    let line = line_repeated k p.call in (
      step-sends s p i x.2 (expiries (timer_of k) xs) line (line-bytes k s p) more.0 more.1
          ∙ ap (λ (l : List (List ℕ)). line ∷ l) (rest.0 ∙ ap (λ (c : PrivateCall). replicate (at_most (length xs) r) (line_repeated k c)) call),
      λ h. rest.1 (le_of_suc-le-suc h),
    )

-- ---- from the first sending on

-- the rows that begin start the timer, set the counter to 1 and send the message
begins : {k : Counter} {row : Row} → Begins k row → (s : Settings) (p : PrivateRecord) (i : Input) → let d = carry_out s p i (Some row) in
    (has d.next.running (timer_of k) ≡ true) × (count_in k d.next.counters ≡ 1)
    × (line_sent d.sent d.next.call.media ≡ line_repeated k d.next.call)
unfolding carry_out started_of running_after counters_after
begins by-R1 s p i = (refl, refl, refl)
begins by-R8 s p i = (refl, refl, refl)
begins by-R9 s p i = (refl, refl, refl)
begins by-R20 s p i = (refl, refl, refl)
begins by-R23 s p i = (refl, refl, refl)

-- no row that begins is 0
begins-row : {k : Counter} {row : Row} → Begins k row → row_number (Some row) ≡ 0 → ⊥
begins-row by-R1 e = omega (arith, e)
begins-row by-R8 e = omega (arith, e)
begins-row by-R9 e = omega (arith, e)
begins-row by-R20 e = omega (arith, e)
begins-row by-R23 e = omega (arith, e)

-- a limit is 1 or more
limit-least : (k : Counter) (s : Settings) → settings_good s ≡ true → 1 ≤ count_in k s.limits
limit-least k s g =
    let a = and_split (limit_good s.limits.cfp1) _ (limits-good s g) in
    let b = and_split (limit_good s.limits.cfp3) (limit_good s.limits.cfp4) a.1 in go k (least _ a.0) (least _ b.0) (least _ b.1)
  where
    go : (k : Counter) → 1 ≤ s.limits.cfp1 → 1 ≤ s.limits.cfp3 → 1 ≤ s.limits.cfp4 → 1 ≤ count_in k s.limits
    go cfp1 x y z = x
    go cfp3 x y z = y
    go cfp4 x y z = z

-- the smaller of two numbers is the second where that is no larger
at-most-second : (m n : ℕ) → n ≤ m → at_most m n ≡ n
at-most-second zero zero h = refl
at-most-second zero (suc n) h = absurd (not-suc-le-zero h)
at-most-second (suc m) zero h = refl
at-most-second (suc m) (suc n) h = ap suc (at-most-second m n (le_of_suc-le-suc h))

-- a step that sends the message for the first time, and then as many expiries of its timer as the limit or more, with room for each line:
-- the message was sent as often as the limit says, each time the same line, and the state is P1
pub no-reply : {k : Counter} {row : Row} → Begins k row → (s : Settings) (p : PrivateRecord) (i : Input) (out : List ℕ)
    (xs : List (Media × Verdicts × List ℕ)) → (step_of s p i out).row ≡ row_number (Some row) → Roomy (length (step_line s p i)) xs → count_in k s.limits ≤ length xs
    → (sent_private s p ((i, out) ∷ expiries (timer_of k) xs) ≡ replicate (count_in k s.limits) (step_line s p i))
    × ((run_private s p ((i, out) ∷ expiries (timer_of k) xs)).state ≡ State.P1)
no-reply {k} {row} b s p i out xs e room enough =
    let m = row-met s p i out (Some row) (begins-row b) e in
    let t = (tests-passed s p i (step-passed s p i out m.0).0).0 in
    let next = (step_of s p i out).next in
    let w = keeps-well-formed s p i out t.settings t.formed in
    let done = next-done s p i out m.0 ∙ ap (λ (r : Option Row). (carry_out s p i r).next) m.1 in
    let first = begins b s p i in
    let told = line-done s p i out m.0 in
    let line : step_line s p i ≡ line_repeated k next.call =
    ap (λ (r : Option Row). line_sent (carry_out s p i r).sent (carry_out s p i r).next.call.media) m.1 ∙ first.2 ∙ ap (λ (q : PrivateRecord). line_repeated k q.call) (sym done) in
    let runs = ap (λ (q : PrivateRecord). has q.running (timer_of k)) done ∙ first.0 in
    let phase = counted-phase k (phase_of next) (ap (λ (x : Timers). has x (timer_of k)) (sym (fit s next w).running) ∙ runs) in
    let value = ap (λ (q : PrivateRecord). count_in k q.counters) done ∙ first.1 in
    let limit = count_in k s.limits in
    let positive = limit-least k s t.settings in
    let r = limit - 1 in
    let rest = one-counter k s next xs r t.settings w phase (omega (arith, value, positive)) (subst (λ (l : List ℕ). Roomy (length l) xs) line room) in
    let sent = rest.0 ∙ ap (λ (n : ℕ). replicate n (line_repeated k next.call)) (at-most-second (length xs) r (omega (arith, enough))) ∙ ap (replicate r) (sym line) in
    let whole : suc r ≡ limit = omega (arith, positive) in (
      step-sends s p i out (expiries (timer_of k) xs) (step_line s p i) (λ z. line-bytes k s next (ap length (sym line) ∙ z)) told.0 told.1
          ∙ ap (λ (l : List (List ℕ)). step_line s p i ∷ l) sent ∙ ap (λ (n : ℕ). replicate n (step_line s p i)) whole,
      rest.1 (omega (arith, positive, enough)),
    )
