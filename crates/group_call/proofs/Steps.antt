-- A step keeps the record well formed, and what it sends is in range. Assumes nothing.
use Prim.Native.Nat.{ℕ, ◌≤◌}
use mathlib.Core.Path.{◌≡◌, refl, sym, ap, ◌∙◌}
use mathlib.Core.List.{List, []}
use mathlib.Core.Bool.{Bool, true, false, cond}
use lib.ListN.{length}
use lib.Dec.{eqb}
use borrow.Author.Tests.{eq-eqb, ne_eqb, eqb-true}
use Rattle.std.specs.Prelude.{Option, None}
use Rattle.frame.specs.Number.{first_given}
use Rattle.frame.specs.Layout.{longest_line}
use Rattle.writer.specs.Lent.{at_front, lent_after}
use Rattle.call.specs.Settings.{settings_good}
use Rattle.call.specs.declared.Settings.{Settings}
use Rattle.call.specs.declared.Input.{Input}
use Rattle.stepping.specs.Numbers.{number_before_row, number_sending}
use Rattle.stepping.specs.Sending.{line_sent, send_number}
use Rattle.stepping.proofs.Stepping.{tests-parts, Taken, SentGood, number_passed, table_tests, number-of-table, number-of-tests}
use Rattle.stepping.proofs.Stepping as stepping
use Rattle.stepping.proofs.Answers.{by_cases, nothing_lent}
use Rattle.stepping.specs.Answer.{Answer}
use Rattle.stepping.specs.declared.Carried.{Carried}
use Rattle.group_record.specs.Formed.{cleared_record, is_well_formed}
use Rattle.group_record.specs.declared.states.Timers.{Timers}
use Rattle.group_record.specs.declared.states.GroupRecord.{GroupRecord}
use Rattle.group_rows.specs.Rows.{row_number, row_of}
use Rattle.group_rows.specs.declared.Row.{Row}
use Rattle.group_rows.proofs.Meets.{same_row}
use Rattle.group_call.specs.Carried.{carry_out}
use Rattle.group_call.specs.Step.{change_too_early, number_before_sending, done_of, line_with, step_line, step_number, refused_of, moved_of, discarded, answer_met, buffer_with, step_of, step_buffer}
use Rattle.group_call.proofs.Keeping.{fit, carried-well-formed, carried-sends-good}
use Rattle.group_call.proofs.Discarding.{carried-nothing}

-- a discard sends nothing
discard-sends : (s : Settings) (g : GroupRecord) (i : Input) → line_with None s g i ≡ []
unfolding carry_out
discard-sends s g i = refl

module _ (s : Settings) (g : GroupRecord) (i : Input) where
  -- the answer of a step that is carried out
  abbrev pub moved : Answer GroupRecord Timers
  moved = moved_of (row_of s g i.event) (done_of s g i) (length (step_line s g i))

  -- the answer of a row above 0 is what it carries out
  pub answer-of-row : (row_number (row_of s g i.event) ≡ 0 → ⊥) → answer_met s g i ≡ moved
  answer-of-row f = rw (ne_eqb (row_number (row_of s g i.event)) 0 f) refl

  -- so is that of whatever row is met from a well-formed record, be there none
  answer-moved : is_well_formed s g ≡ true → answer_met s g i ≡ moved
  answer-moved w = go (eqb (row_number (row_of s g i.event)) 0) refl
    where
      go : (b : Bool) → eqb (row_number (row_of s g i.event)) 0 ≡ b → cond b (discarded g) moved ≡ moved
      go false e = refl
      go true e =
          let r = same_row (row_of s g i.event) None e in
          let d = carried-nothing s g i (fit s g w) r in
          sym (λ j. moved_of (r j) (d j) (length (line_sent (d j).sent (d j).next.media)))

  -- the buffer is what the number and the line leave, be there no row
  pub buffer_lent : (out : List ℕ) → step_buffer s g i out ≡ lent_after (step_number s g i out) (step_line s g i) out
  unfolding step_buffer
  buffer_lent out = go (eqb (row_number (row_of s g i.event)) 0) refl
    where
      go : (b : Bool) → eqb (row_number (row_of s g i.event)) 0 ≡ b
          → cond b out (lent_after (step_number s g i out) (step_line s g i) out) ≡ lent_after (step_number s g i out) (step_line s g i) out
      go false e = refl
      go true e =
          let line : step_line s g i ≡ [] = ap (λ (row : Option Row). line_with row s g i) (same_row (row_of s g i.event) None e) ∙ discard-sends s g i in
          sym (ap (λ (l : List ℕ). lent_after (step_number s g i out) l out) line ∙ nothing_lent (step_number s g i out) out)

  -- ---- what a number 0 shows

  -- the tests passed
  pub tests-passed : number_before_sending s g i ≡ 0 → Taken s (is_well_formed s g) i × (change_too_early s g i.event (row_of s g i.event) ≡ false)
  tests-passed = stepping.tests-passed s (is_well_formed s g) i (change_too_early s g i.event (row_of s g i.event))

  -- a number 0 of a step passed the tests, and then the writer's is 0
  pub step-passed : (out : List ℕ) → step_number s g i out ≡ 0
      → (number_before_sending s g i ≡ 0) × (send_number (done_of s g i).sent (done_of s g i).next.media out ≡ 0)
  step-passed = number_passed (number_before_sending s g i) (done_of s g i).sent (done_of s g i).next.media

  -- the answer of a step that is not refused is its row's, and its line stands at the front of the buffer
  pub step-answers : (out : List ℕ) → step_number s g i out ≡ 0 → (step_of s g i out ≡ answer_met s g i) × (step_buffer s g i out ≡ at_front (step_line s g i) out)
  unfolding step_of
  step-answers out e = let n = eq-eqb (step_number s g i out) 0 e in (rw n refl, buffer_lent out ∙ rw n refl)

  -- so it is what its row carries out, with the length of its line
  pub step-done : (out : List ℕ) → step_number s g i out ≡ 0 → (step_of s g i out ≡ moved) × (step_buffer s g i out ≡ at_front (step_line s g i) out)
  step-done out e =
      let a = step-answers out e in (a.0 ∙ answer-moved (tests-passed (step-passed out e).0).0.formed, a.1)

  -- the answer of a step that is refused, and its buffer
  pub step-refused : (out : List ℕ) → (step_number s g i out ≡ 0 → ⊥) → (step_of s g i out ≡ refused_of (step_number s g i out) g) × (step_buffer s g i out ≡ out)
  unfolding step_of
  step-refused out f = let n = ne_eqb (step_number s g i out) 0 f in (rw n refl, buffer_lent out ∙ rw n refl)

  -- a row's answer has number 0, and tells the row
  pub answer-told : ((answer_met s g i).number ≡ 0) × ((answer_met s g i).row ≡ row_number (row_of s g i.event))
  answer-told = go (eqb (row_number (row_of s g i.event)) 0) refl
    where
      go : (b : Bool) → eqb (row_number (row_of s g i.event)) 0 ≡ b → let r = cond b (discarded g) moved in (r.number ≡ 0) × (r.row ≡ row_number (row_of s g i.event))
      go true e = (refl, sym (eqb-true (row_number (row_of s g i.event)) 0 e))
      go false e = (refl, refl)

  -- the number of the answer
  pub number-told : (out : List ℕ) → (step_of s g i out).number ≡ step_number s g i out
  unfolding step_of
  number-told out =
      by_cases (step_number s g i out) (answer_met s g i) (λ n. refused_of n g) (λ x. x.number ≡ step_number s g i out) (λ e. answer-told.0 ∙ sym e) (λ f. refl)

  -- ---- keeps-well-formed

  -- the record after a step from good settings and a well-formed record is well formed
  pub keeps-well-formed : (out : List ℕ) → settings_good s ≡ true → is_well_formed s g ≡ true → is_well_formed s (step_of s g i out).next ≡ true
  unfolding step_of
  keeps-well-formed out h w =
      by_cases (step_number s g i out) (answer_met s g i) (λ n. refused_of n g) (λ x. is_well_formed s x.next ≡ true)
      (λ e. ap (λ (x : Answer GroupRecord Timers). is_well_formed s x.next) (answer-moved w) ∙ carried-well-formed s g i (tests-passed (step-passed out e).0).0) (λ f. w)

  -- ---- sends-good

  -- what a step sends is in range
  pub sends-good : number_before_sending s g i ≡ 0 → SentGood (done_of s g i).sent (done_of s g i).next.media
  sends-good e = carried-sends-good s g i (tests-passed e).0

  -- the number of a step is the first of the table that is given: the writer's 5 never shows
  pub step-number : (out : List ℕ) → step_number s g i out
      ≡ first_given (table_tests s (is_well_formed s g) i (change_too_early s g i.event (row_of s g i.event)) (step_line s g i) out)
  step-number =
      number-of-table s (is_well_formed s g) i (change_too_early s g i.event (row_of s g i.event)) (done_of s g i).sent (done_of s g i).next.media sends-good

  -- with room for the longest line 6 never comes up: the number is that of the tests
  pub longest-has-room : (out : List ℕ) → longest_line ≤ length out → step_number s g i out ≡ number_before_sending s g i
  longest-has-room =
      number-of-tests s (is_well_formed s g) i (change_too_early s g i.event (row_of s g i.event)) (done_of s g i).sent (done_of s g i).next.media sends-good

-- ---- a discard

-- the answer by the number before sending, the row, and what is carried out
abbrev step_from : GroupRecord → List ℕ → ℕ → Option Row → Carried GroupRecord Timers → Answer GroupRecord Timers
step_from g out n row d =
    let w = number_sending n d.sent d.next.media out in
    cond (eqb w 0) (cond (eqb (row_number row) 0) (discarded g) (moved_of row d (length (line_sent d.sent d.next.media)))) (refused_of w g)

-- the answer of a step whose row is known and whose message has room, and its buffer
pub carries : (s : Settings) (g : GroupRecord) (i : Input) (out : List ℕ) (row : Option Row) → number_before_sending s g i ≡ 0 → row_of s g i.event ≡ row
    → send_number (carry_out s g i row).sent (carry_out s g i row).next.media out ≡ 0
    → (step_of s g i out ≡ moved_of row (carry_out s g i row) (length (line_sent (carry_out s g i row).sent (carry_out s g i row).next.media)))
    × (step_buffer s g i out ≡ at_front (line_sent (carry_out s g i row).sent (carry_out s g i row).next.media) out)
carries s g i out row e r w =
    let done = carry_out s g i in
    let d = step-done s g i out ((λ j. number_sending (e j) (done (r j)).sent (done (r j)).next.media out) ∙ w) in (
      d.0 ∙ (λ j. moved_of (r j) (done (r j)) (length (line_sent (done (r j)).sent (done (r j)).next.media))),
      d.1 ∙ (λ j. at_front (line_sent (done (r j)).sent (done (r j)).next.media) out),
    )

-- an event that meets no row and is not refused changes nothing
pub discards : (s : Settings) (g : GroupRecord) (i : Input) (out : List ℕ) → number_before_sending s g i ≡ 0 → row_of s g i.event ≡ None
    → (step_of s g i out ≡ discarded g) × (step_buffer s g i out ≡ out)
unfolding step_of step_buffer carry_out
discards s g i out e r = (λ j. step_from g out (e j) (r j) (carry_out s g i (r j)), ap (λ (row : Option Row). buffer_with row s g i out) r)

-- so once the tests before the rows are passed, an event that meets no row is answered at once
pub answered-at-once : (s : Settings) (g : GroupRecord) (i : Input) (out : List ℕ) → number_before_row s (is_well_formed s g) i ≡ 0 → row_number (row_of s g i.event) ≡ 0
    → (discarded g ≡ step_of s g i out) × (out ≡ step_buffer s g i out)
answered-at-once s g i out e n =
    let r = same_row (row_of s g i.event) None (eq-eqb (row_number (row_of s g i.event)) 0 n) in
    let passed : number_before_sending s g i ≡ 0 =
    rw (tests-parts s (is_well_formed s g) i (change_too_early s g i.event (row_of s g i.event)), eq-eqb (number_before_row s (is_well_formed s g) i) 0 e, ap (change_too_early s g i.event) r) in
    let d = discards s g i out passed r in
    (sym d.0, sym d.1)

-- an answer with row 0, be it a discard or a refusal, changes nothing
pub row-0-keeps : (s : Settings) (g : GroupRecord) (i : Input) (out : List ℕ) → (step_of s g i out).row ≡ 0
    → (step_of s g i out ≡ refused_of (step_number s g i out) g) × (step_buffer s g i out ≡ out)
unfolding step_of
row-0-keeps s g i out =
    by_cases (step_number s g i out) (answer_met s g i) (λ n. refused_of n g)
    (λ x. x.row ≡ 0 → (step_of s g i out ≡ refused_of (step_number s g i out) g) × (step_buffer s g i out ≡ out))
    (λ z h.
    let row = sym (answer-told s g i).1 ∙ h in
    let d = discards s g i out (step-passed s g i out z).0 (same_row (row_of s g i.event) None (eq-eqb (row_number (row_of s g i.event)) 0 row)) in
    (d.0 ∙ ap (λ (n : ℕ). refused_of n g) (sym z), d.1)) (λ f h. step-refused s g i out f)

-- ---- the cleared record

-- it is well formed under all settings
pub cleared-well-formed : (s : Settings) → is_well_formed s cleared_record ≡ true
unfolding is_well_formed
cleared-well-formed s = refl
