-- The demands on numbers, refusals and rows leave one build, and with it every wrong one is shut out. Assumes nothing.
use mathlib.Core.Path.{◌≡◌, refl, sym, ap, ◌∙◌, subst}
use mathlib.Core.Logic.{inl, inr, ⊎_elim}
use mathlib.Core.Bool.{Bool, true, false, not, true≢false}
use mathlib.Core.List.{List, [], ◌∷◌}
use Prim.Native.Nat.{ℕ}
use native.Mathlib.Omega.{arith}
use lib.Dec.{eqb}
use borrow.Author.Tests.{eq-eqb, eqb-true, eqb-false, leb-true}
use Rattle.call.specs.declared.Settings.{Settings}
use Rattle.call.specs.declared.Input.{Input}
use Rattle.private_record.specs.Phases as Phases
use Rattle.group_record.specs.States as GroupStates
use Rattle.demands.specs.Machines.{Machine, RowsHold, private_machine, group_machine}
use Rattle.demands.specs.ExactlyWhen.{ExactlyWhen, Among, step_table, StepExactlyWhen}
use Rattle.demands.specs.NothingChanges.{StepNothingChanges}
use Rattle.demands.specs.RowPlays.{lent}
use Rattle.demands.specs.Consequences.{last_private_row, last_group_row, IsHeeded, NeverStill, Differ, Varies}
use Rattle.demands.specs.Builds.{BuildOf, SameAs, NotRefused, StandsStill, Unvarying, NeverVaries}
use Rattle.demands.specs.Demands.{ByTheRows, MeetsDemands, ShutsOut}
use Rattle.demands.proofs.ExactlyWhen.{step-exactly-when}
use Rattle.demands.proofs.NothingChanges.{step-nothing-changes}
use Rattle.demands.proofs.GroupMachine.{group-step-exactly-when, group-step-nothing-changes}
use Rattle.demands.proofs.Consequences.{passed-tests}
use Rattle.stepping.specs.Answer.{Answer}

-- ---- one table, one number

-- two numbers with one table are equal
same_number : (table : List (ℕ × Type 0)) (m n : ℕ) (before : Type 0) → Among m table → ExactlyWhen m before table → ExactlyWhen n before table → m ≡ n
unfolding ExactlyWhen Among
same_number [] m n before e x y = e ∙ sym (y.1 (x.0 e))
same_number (row ∷ rows) m n before (inl e) x y = e ∙ sym (y.0.1 (x.0.0 e))
same_number (row ∷ rows) m n before (inr a) x y = same_number rows m n (before × (row.1 → ⊥)) a x.1 y.1

-- ---- one build

module _ (M : Machine) (told : StepExactlyWhen M) (kept : StepNothingChanges M) (hold : RowsHold M) (b : BuildOf M) (meets : MeetsDemands M b) where
  -- its number is the machine's
  numbers-agree : (s : Settings) (p : M.Stored) (i : Input) (out : List ℕ) → (M.step s p i out).number ≡ (b.answer s p i out).number
  numbers-agree s p i out =
      same_number (step_table M s p i out) (M.step s p i out).number (b.answer s p i out).number (Unit {0}) (told s p i out).answered
      (told s p i out).exactly (meets.numbers s p i out).exactly

  -- where nothing is refused both answer by the row, and where something is both change nothing
  one-build : SameAs M b
  one-build s p i out = go (eqb (M.step s p i out).number 0) refl
    where
      go : (z : Bool) → eqb (M.step s p i out).number 0 ≡ z → (b.answer s p i out ≡ M.step s p i out) × (b.after s p i out ≡ M.buffer s p i out)
      go true t =
          let (u, room) = passed-tests M told s p i out (eqb-true _ 0 t) in
          let mine = hold s p i out u room in
          let other = meets.rows s p i out (record { settings = u.settings; formed = u.formed; message = u.message; arguments = u.arguments; row = u.row }) room in
          (other.0 ∙ sym mine.0, other.1 ∙ sym mine.1)
      go false t =
          let n = numbers-agree s p i out in
          let refused = eqb-false (M.step s p i out).number 0 t in
          let k = (kept s p i out).0 refused in
          let l = (meets.keeps s p i out).0 (λ e. refused (n ∙ e)) in (
            λ j. record {
              number = sym n j;
              row = (l.1 ∙ sym k.1) j;
              next = (l.0 ∙ sym k.0) j;
              stop = (l.2 ∙ sym k.2) j;
              start = (l.3 ∙ sym k.3) j;
              length = (l.4.0 ∙ sym k.4.0) j;
            },
            l.4.1 ∙ sym k.4.1,
          )

-- ---- what is shut out

module _ (M : Machine) (told : StepExactlyWhen M) (b : BuildOf M) (is : SameAs M b) where
  -- what the machine does not refuse, its build does not refuse
  not-refused : (s : Settings) (p : M.Stored) (i : Input) (out : List ℕ) → (M.step s p i out).number ≡ 0 → NotRefused M b s p i out
  not-refused s p i out e = let u = (passed-tests M told s p i out e).0 in (u.settings, u.formed, (λ k. ((is s p i out).0 k).number) ∙ e)

  -- what differs in two steps of the machine varies in its build, with the input and with the record
  varies : {A : Type 0} (look mine : Settings → M.Stored → Input → List ℕ → A)
      → ((s : Settings) (p : M.Stored) (i : Input) (out : List ℕ) → look s p i out ≡ mine s p i out)
      → ((s : Settings) (out : List ℕ) (p : M.Stored) (i : Input) (q : M.Stored) (j : Input) → Differ M s out p i q j → mine s p i out ≡ mine s q j out → ⊥)
      → Varies M → Unvarying M b look → ⊥
  varies look mine same apart v (inl e) =
      let (s, out, p, i, j, d) = v.0 in
      apart s out p i p j d (sym (same s p i out) ∙ (e s p i j out (not-refused s p i out d.0) (not-refused s p j out d.1) ∙ same s p j out))
  varies look mine same apart v (inr e) =
      let (s, out, p, q, i, d) = v.1 in
      apart s out p i q i d (sym (same s p i out) ∙ (e s p q i out (not-refused s p i out d.0) (not-refused s q i out d.1) ∙ same s q i out))

  -- so in no part of its reply it never varies
  never-unvarying : Varies M → NeverVaries M b → ⊥
  never-unvarying v =
      ⊎_elim
      (varies (λ s p i out. (b.answer s p i out).row) (λ s p i out. (M.step s p i out).row) (λ s p i out k. ((is s p i out).0 k).row) (λ s out p i q j d. d.2) v)
      (⊎_elim
      (varies (λ s p i out. (b.answer s p i out).next) (λ s p i out. (M.step s p i out).next) (λ s p i out k. ((is s p i out).0 k).next) (λ s out p i q j d. d.3) v)
      (varies b.after M.buffer (λ s p i out. (is s p i out).1) (λ s out p i q j d. d.4) v))

  -- after a first event some input leads it to another state
  never-stands : NeverStill M → ((q : M.Stored) → M.changes q q ≡ false) → StandsStill M b → ⊥
  never-stands moves steady (s, p, i, out, (good, formed, number), row, still) =
      let first = (b.answer s p i out).next in
      let e : (M.step s p i out).next ≡ first = λ k. (sym (is s p i out).0 k).next in
      let (j, h) = subst (λ (q : M.Stored). (j : Input) × IsHeeded M s q j) e (moves s p ((i, out) ∷ []) good formed) in
      true≢false (sym (h lent (leb-true _ _ refl)).2 ∙ (ap (M.changes first) (sym (λ k. ((is s first j lent).0 k).next) ∙ still j lent) ∙ steady first))

-- by a machine that goes by its rows, and in which no state differs from itself
shuts-out : (M : Machine) (last : ℕ) → StepExactlyWhen M → StepNothingChanges M → ByTheRows M last → ((q : M.Stored) → M.changes q q ≡ false) → ShutsOut M last
shuts-out M last told kept rows steady =
    record {
      one_build = same;
      refusing = λ b m (s, p, good, formed, refuses).
          let (i, h) = rows.heeds s p good formed in
          let room = leb-true _ _ refl in refuses i lent room (ap (λ (x : Answer M.Stored M.Timers). x.number) (same b m s p i lent).0 ∙ (h lent room).0);
      unvarying = λ b m. never-unvarying M told b (same b m) rows.varies;
      discarding = λ b m (s, p, good, formed, discards).
          let (i, h) = rows.heeds s p good formed in
          let z = sym (ap (λ (x : Answer M.Stored M.Timers). x.row) (same b m s p i lent).0) ∙ discards i lent (leb-true _ _ refl) in
          let k = (h lent (leb-true _ _ refl)).1 in omega (arith, z, k);
      standing_still = λ b m. never-stands M told b (same b m) rows.never_still steady;
      making_up = λ b m r.
          let k = rows.known_rows r.0 r.1 r.2 r.3 in
          let z = ap (λ (x : Answer M.Stored M.Timers). x.row) (same b m r.0 r.1 r.2 r.3).0 in let h = r.4 in omega (arith, k, z, h);
    }
  where
    same : (b : BuildOf M) → MeetsDemands M b → SameAs M b
    same b m = one-build M told kept rows.rows_hold b m

-- no number differs from itself
never-changes : (n : ℕ) → not (eqb n n) ≡ false
never-changes n = ap not (eq-eqb n n refl)

-- the private call machine
pub private-shuts-out : ByTheRows private_machine last_private_row → ShutsOut private_machine last_private_row
private-shuts-out rows =
    shuts-out private_machine last_private_row step-exactly-when step-nothing-changes rows (λ q. never-changes (Phases.state_number q.state))

-- the group call machine
pub group-shuts-out : ByTheRows group_machine last_group_row → ShutsOut group_machine last_group_row
group-shuts-out rows =
    shuts-out group_machine last_group_row group-step-exactly-when group-step-nothing-changes rows (λ q. never-changes (GroupStates.state_number q.state))
