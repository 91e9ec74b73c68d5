-- A step keeps the record well formed, and what it sends is in range. Assumes nothing.
use Prim.Native.Nat.{ℕ}
use mathlib.Core.Path.{◌≡◌, refl, sym, ap, ◌∙◌}
use mathlib.Core.List.{List, []}
use mathlib.Core.Bool.{Bool, true, false, cond}
use lib.ListN.{length}
use lib.Dec.{eqb}
use borrow.Author.Tests.{eq-eqb, ne_eqb, eqb-true}
use Rattle.std.specs.Prelude.{Option, None}
use Rattle.writer.specs.Lent.{lent_after}
use Rattle.call.specs.Settings.{settings_good}
use Rattle.call.specs.declared.Settings.{Settings}
use Rattle.call.specs.declared.Input.{Input}
use Rattle.stepping.specs.Numbers.{number_before_row, number_sending}
use Rattle.stepping.specs.Sending.{line_sent, send_number}
use Rattle.stepping.proofs.Stepping.{tests-parts, Taken, SentGood, number_passed}
use Rattle.stepping.proofs.Stepping as stepping
use Rattle.stepping.proofs.Answers.{by_cases, nothing_lent}
use Rattle.private_record.specs.Formed.{is_well_formed}
use Rattle.private_record.specs.declared.states.PrivateRecord.{PrivateRecord}
use Rattle.private_record.proofs.WellFormed.{fit}
use Rattle.private_rows.specs.Rows.{row_number, row_of}
use Rattle.private_rows.specs.declared.Row.{Row}
use Rattle.private_rows.proofs.Meets.{same_row}
use Rattle.private_call.specs.Carried.{carry_out}
use Rattle.private_call.specs.Step.{identifier_taken, tests_with, number_with, number_before_sending, done_of, line_with, step_line, step_number, refused_of, moved_of, discarded, answer_met, buffer_with, step_of, step_buffer}
use Rattle.stepping.specs.declared.Carried.{Carried}
use Rattle.stepping.specs.Answer.{Answer}
use Rattle.private_call.proofs.Keeping.{carried-well-formed, carried-sends-good}
use Rattle.private_call.proofs.Discarding.{carried-nothing}
use Rattle.private_record.specs.declared.states.Timers.{Timers}

-- a discard sends nothing
discard-sends : (s : Settings) (p : PrivateRecord) (i : Input) → line_with None s p i ≡ []
unfolding carry_out
discard-sends s p i = refl

-- the number of a step that meets a row: that of a test, else the writer's of what the row sends
number-of-row : (row : Option Row) (s : Settings) (p : PrivateRecord) (i : Input) (out : List ℕ)
    → number_with row s p i out ≡ number_sending (tests_with row s p i) (carry_out s p i row).sent (carry_out s p i row).next.call.media out
number-of-row row s p i out = refl

module _ (s : Settings) (p : PrivateRecord) (i : Input) where
  -- the answer of a step that is carried out
  abbrev pub moved : Answer PrivateRecord Timers
  moved = moved_of (row_of s p i) (done_of s p i) (length (step_line s p i))

  -- the answer of a row above 0 is what it carries out
  pub answer-of-row : (row_number (row_of s p i) ≡ 0 → ⊥) → answer_met s p i ≡ moved
  answer-of-row f = rw (ne_eqb (row_number (row_of s p i)) 0 f) refl

  -- so it is from a well-formed record, whether a row is met or not
  answer-moved : is_well_formed s p ≡ true → answer_met s p i ≡ moved
  answer-moved w = go (eqb (row_number (row_of s p i)) 0) refl
    where
      go : (b : Bool) → eqb (row_number (row_of s p i)) 0 ≡ b → cond b (discarded p) moved ≡ moved
      go false e = refl
      go true e =
          let r = same_row (row_of s p i) None e in
          let d = carried-nothing s p i (fit s p w) r in
          sym (λ j. moved_of (r j) (d j) (length (line_sent (d j).sent (d j).next.call.media)))

  -- the buffer is what the number and the line leave, whether a row is met or not
  pub buffer_lent : (out : List ℕ) → step_buffer s p i out ≡ lent_after (step_number s p i out) (step_line s p i) out
  unfolding step_buffer
  buffer_lent out = go (eqb (row_number (row_of s p i)) 0) refl
    where
      go : (b : Bool) → eqb (row_number (row_of s p i)) 0 ≡ b
          → cond b out (lent_after (step_number s p i out) (step_line s p i) out) ≡ lent_after (step_number s p i out) (step_line s p i) out
      go false e = refl
      go true e =
          let line : step_line s p i ≡ [] = ap (λ (row : Option Row). line_with row s p i) (same_row (row_of s p i) None e) ∙ discard-sends s p i in
          sym (ap (λ (l : List ℕ). lent_after (step_number s p i out) l out) line ∙ nothing_lent (step_number s p i out) out)

  -- ---- what a number 0 shows

  -- the tests passed
  pub tests-passed : number_before_sending s p i ≡ 0 → Taken s (is_well_formed s p) i × (identifier_taken s p i.event (row_of s p i) ≡ false)
  tests-passed = stepping.tests-passed s (is_well_formed s p) i (identifier_taken s p i.event (row_of s p i))

  -- the number of a step by the row that is met
  pub number-in-parts : (out : List ℕ) → step_number s p i out ≡ number_sending (number_before_sending s p i) (done_of s p i).sent (done_of s p i).next.call.media out
  number-in-parts = number-of-row (row_of s p i) s p i

  -- a number 0 of a step passed the tests, and then the writer's is 0
  pub step-passed : (out : List ℕ) → step_number s p i out ≡ 0
      → (number_before_sending s p i ≡ 0) × (send_number (done_of s p i).sent (done_of s p i).next.call.media out ≡ 0)
  step-passed out e =
      number_passed (number_before_sending s p i) (done_of s p i).sent (done_of s p i).next.call.media out (sym (number-in-parts out) ∙ e)

  -- the answer of a step that is refused, and its buffer
  pub step-refused : (out : List ℕ) → (step_number s p i out ≡ 0 → ⊥) → (step_of s p i out ≡ refused_of (step_number s p i out) p) × (step_buffer s p i out ≡ out)
  unfolding step_of
  step-refused out f = let n = ne_eqb (step_number s p i out) 0 f in (rw n refl, buffer_lent out ∙ rw n refl)

  -- the answer of a step that is not refused is its row's
  pub step-answers : (out : List ℕ) → step_number s p i out ≡ 0 → step_of s p i out ≡ answer_met s p i
  unfolding step_of
  step-answers out e = rw (eq-eqb (step_number s p i out) 0 e) refl

  -- so it is what its row carries out, with the length of its line
  pub step-done : (out : List ℕ) → step_number s p i out ≡ 0 → step_of s p i out ≡ moved
  step-done out e = step-answers out e ∙ answer-moved (tests-passed (step-passed out e).0).0.formed

  -- a row's answer has number 0, and tells the row
  pub answer-told : ((answer_met s p i).number ≡ 0) × ((answer_met s p i).row ≡ row_number (row_of s p i))
  answer-told = go (eqb (row_number (row_of s p i)) 0) refl
    where
      go : (b : Bool) → eqb (row_number (row_of s p i)) 0 ≡ b → let r = cond b (discarded p) moved in (r.number ≡ 0) × (r.row ≡ row_number (row_of s p i))
      go true e = (refl, sym (eqb-true (row_number (row_of s p i)) 0 e))
      go false e = (refl, refl)

  -- the number of the answer
  pub number-told : (out : List ℕ) → (step_of s p i out).number ≡ step_number s p i out
  unfolding step_of
  number-told out =
      by_cases (step_number s p i out) (answer_met s p i) (λ n. refused_of n p) (λ x. x.number ≡ step_number s p i out) (λ e. answer-told.0 ∙ sym e) (λ f. refl)

  -- ---- keeps-well-formed

  -- the record after a step from good settings and a well-formed record is well formed
  pub keeps-well-formed : (out : List ℕ) → settings_good s ≡ true → is_well_formed s p ≡ true → is_well_formed s (step_of s p i out).next ≡ true
  unfolding step_of
  keeps-well-formed out g w =
      by_cases (step_number s p i out) (answer_met s p i) (λ n. refused_of n p) (λ x. is_well_formed s x.next ≡ true)
      (λ e. ap (λ (x : Answer PrivateRecord Timers). is_well_formed s x.next) (answer-moved w) ∙ carried-well-formed s p i (tests-passed (step-passed out e).0).0) (λ f. w)

  -- ---- sends-good

  -- what a step sends is in range
  pub sends-good : number_before_sending s p i ≡ 0 → SentGood (done_of s p i).sent (done_of s p i).next.call.media
  sends-good e = carried-sends-good s p i (tests-passed e).0

-- ---- a discard

-- the answer by the number before sending, the row, and what is carried out
abbrev step_from : PrivateRecord → List ℕ → ℕ → Option Row → Carried PrivateRecord Timers → Answer PrivateRecord Timers
step_from p out n row d =
    let w = number_sending n d.sent d.next.call.media out in
    cond (eqb w 0) (cond (eqb (row_number row) 0) (discarded p) (moved_of row d (length (line_sent d.sent d.next.call.media)))) (refused_of w p)

-- an event that meets no row and is not refused changes nothing
pub discards : (s : Settings) (p : PrivateRecord) (i : Input) (out : List ℕ) → number_before_sending s p i ≡ 0 → row_of s p i ≡ None
    → (step_of s p i out ≡ discarded p) × (step_buffer s p i out ≡ out)
unfolding step_of step_buffer carry_out
discards s p i out e r = (
  ap (λ (n : ℕ). cond (eqb n 0) (answer_met s p i) (refused_of n p)) (number-in-parts s p i out) ∙ (λ j. step_from p out (e j) (r j) (carry_out s p i (r j))),
  ap (λ (row : Option Row). buffer_with row s p i out) r,
)

-- so once the tests before the rows are passed, an event that meets no row is answered at once
pub answered-at-once : (s : Settings) (p : PrivateRecord) (i : Input) (out : List ℕ) → number_before_row s (is_well_formed s p) i ≡ 0 → row_of s p i ≡ None
    → (discarded p ≡ step_of s p i out) × (out ≡ step_buffer s p i out)
answered-at-once s p i out e r =
    let passed : number_before_sending s p i ≡ 0 =
    rw (tests-parts s (is_well_formed s p) i (identifier_taken s p i.event (row_of s p i)), eq-eqb (number_before_row s (is_well_formed s p) i) 0 e, ap (identifier_taken s p i.event) r) in
    let d = discards s p i out passed r in
    (sym d.0, sym d.1)

-- an answer with row 0, be it a discard or a refusal, changes nothing
pub row-0-keeps : (s : Settings) (p : PrivateRecord) (i : Input) (out : List ℕ) → (step_of s p i out).row ≡ 0
    → (step_of s p i out ≡ refused_of (step_number s p i out) p) × (step_buffer s p i out ≡ out)
unfolding step_of
row-0-keeps s p i out =
    by_cases (step_number s p i out) (answer_met s p i) (λ n. refused_of n p)
    (λ x. x.row ≡ 0 → (step_of s p i out ≡ refused_of (step_number s p i out) p) × (step_buffer s p i out ≡ out))
    (λ z h.
    let row = sym (answer-told s p i).1 ∙ h in
    let d = discards s p i out (step-passed s p i out z).0 (same_row (row_of s p i) None (eq-eqb (row_number (row_of s p i)) 0 row)) in
    (d.0 ∙ ap (λ (n : ℕ). refused_of n p) (sym z), d.1)) (λ f h. step-refused s p i out f)
