-- The numbers 1 to 9 are given exactly when, in the order told. Assumes nothing.
use Rattle.std.specs.Prelude.{None, Some, Option}
use mathlib.Core.Path.{◌≡◌, refl, sym, ap, ◌∙◌, subst}
use mathlib.Core.Logic.Iff
use mathlib.Core.Logic.{◌⊎◌, inr}
use mathlib.Core.List.{List, [], ◌∷◌}
use mathlib.Core.Bool.{Bool, true, false, not, ◌&&◌, ◌||◌, true≢false}
use Prim.Native.Nat.{ℕ, zero, suc, ◌*◌, ◌<◌, ◌≤◌}
use native.Mathlib.Nat.{le_of_suc-le-suc, not-suc-le-zero}
use native.Mathlib.Omega.{arith}
use lib.ListN.{length, take, get_or}
use lib.Dec.{ltb, leb, eqb}
use borrow.Author.Tests.{not-true, eq-eqb}
use Rattle.frame.specs.Number.{first_given}
use Rattle.frame.specs.Digits.{is_digit, all_digits}
use Rattle.frame.specs.Range.{within}
use Rattle.frame.specs.Frame.{in_range}
use Rattle.frame.specs.Layout.{digits_of, line_of}
use Rattle.frame.specs.declared.Media.{Media}
use Rattle.frame.specs.declared.Message.{Message}
use Rattle.reader.specs.Line.{count, kind_at, unended, undigital, unkind, misfit, unranged, refusal_of, number_of, read_line, line_number}
use Rattle.reader.proofs.Judged.{not-all}
use Rattle.reader.proofs.OnlyLine.{number_read}
use Rattle.writer.specs.Writing.{write_number, written_of}
use Rattle.log_answer.specs.Answer.{answer_of, answer_number, answer_told}
use Rattle.call.specs.Settings.{settings_good}
use Rattle.call.specs.Request.{request_of}
use Rattle.call.specs.declared.Settings.{Settings}
use Rattle.call.specs.declared.Input.{Input}
use Rattle.stepping.specs.Numbers.{heard_good, arguments_good}
use Rattle.stepping.specs.Sending.{send_told}
use Rattle.private_record.specs.declared.states.PrivateRecord.{PrivateRecord}
use Rattle.private_rows.specs.Causes.{same_identifier}
use Rattle.private_rows.specs.Rows.{row_number, row_of}
use Rattle.private_rows.specs.declared.Row.TheVariants.{R1}
use Rattle.private_rows.proofs.Meets.{same_row}
use Rattle.private_call.specs.Step.{identifier_taken}
use Rattle.private_call.proofs.Steps.{number-told}
use Rattle.private_call.proofs.NumberTable.{step-number}
use Rattle.demands.specs.ExactlyWhen.{ExactlyWhen, Among, GivenExactlyWhen, IsDigit, Unended, Undigital, Unkind, Misfit, Unranged, line_table, write_table, send_table, answer_table}
use Rattle.demands.specs.ExactlyWhen.{SettingOut, Unformed, FieldOut, ArgumentOut, StepRoomless, step_table, StepExactlyWhen}
use Rattle.demands.specs.Totals.{totals}
use Rattle.demands.specs.Machines.{Machine, line_to_send, IdentifierStored, private_machine}
use Rattle.demands.proofs.Totals.{digits-total}
use Rattle.demands.proofs.Reflects.{Reflects, true-reflects, leb-reflects, ltb-reflects, eqb-reflects, not-reflects, and-reflects, or-reflects}
use Rattle.demands.proofs.Tables.{Row, Right, table-exactly}

-- ---- 1

-- no bytes
empty-reflects : (l : List ℕ) → Reflects (eqb (length l) 0) (l ≡ [])
empty-reflects l = Iff.trans (eqb-reflects (length l) 0) (none l, λ e. ap length e)
  where
    none : (k : List ℕ) → length k ≡ 0 → k ≡ []
    none [] e = refl
    none (x ∷ k) e = let z : ⊥ = omega arith in absurd z

-- 1
unended-reflects : (l : List ℕ) → Reflects (unended l) (Unended l)
unended-reflects l =
    or-reflects (eqb (length l) 0) (not (eqb (get_or l (count l) 0) 10)) (empty-reflects l)
    (not-reflects (eqb (get_or l (count l) 0) 10) (eqb-reflects (get_or l (count l) 0) 10))

-- ---- 2

-- a digit
digit-reflects : (x : ℕ) → Reflects (is_digit x) (IsDigit x)
digit-reflects x =
    or-reflects (leb 48 x && leb x 57) (leb 97 x && leb x 102)
    (and-reflects (leb 48 x) (leb x 57) (leb-reflects 48 x) (leb-reflects x 57))
    (and-reflects (leb 97 x) (leb x 102) (leb-reflects 97 x) (leb-reflects x 102))

-- the first byte that is no digit
found : (l : List ℕ) (n : ℕ) → n ≤ length l → all_digits (take n l) ≡ false → (i : ℕ) × (i < n) × (is_digit (get_or l i 0) ≡ false)
unfolding all_digits
found l zero h e = absurd (true≢false e)
found [] (suc n) h e = absurd (not-suc-le-zero h)
found (x ∷ l) (suc n) h e = go (is_digit x) refl e (found l n (le_of_suc-le-suc h))
  where
    go : (b : Bool) → is_digit x ≡ b → (b && all_digits (take n l)) ≡ false
        → (all_digits (take n l) ≡ false → (i : ℕ) × (i < n) × (is_digit (get_or l i 0) ≡ false))
        → (i : ℕ) × (i < suc n) × (is_digit (get_or (x ∷ l) i 0) ≡ false)
    go true t f r = let p = r f in let h : p.0 < n = p.1 in (suc p.0, omega arith, p.2)
    go false t f r = (0, omega arith, t)

-- 2
undigital-reflects : (l : List ℕ) → Reflects (undigital l) (Undigital l)
undigital-reflects l = (
  λ e.
      let p = found l (count l) (omega arith) (not-true _ e) in
      let h : p.0 < count l = p.1 in (p.0, omega arith, true-reflects (digit-reflects _) p.2),
  λ p.
      let h : suc p.0 < length l = p.1 in
      ap not (not-all l (count l) p.0 (none (is_digit (get_or l p.0 0)) refl p.2) (omega arith) (omega arith)),
)
  where
    none : (b : Bool) {x : ℕ} → is_digit x ≡ b → (IsDigit x → ⊥) → is_digit x ≡ false
    none true t f = absurd (f ((digit-reflects _).0 t))
    none false t f = t

-- ---- 3, 4, 5

-- 3
unkind-reflects : (l : List ℕ) → Reflects (unkind l) (Unkind l)
unkind-reflects l =
    or-reflects (ltb (count l) 2) (not (within 1 (kind_at l) 9)) (ltb-reflects (count l) 2)
    (not-reflects (within 1 (kind_at l) 9)
    (and-reflects (leb 1 (kind_at l)) (leb (kind_at l) 9) (leb-reflects 1 (kind_at l)) (leb-reflects (kind_at l) 9)))

-- past 3 the kind is one of the nine
known : (l : List ℕ) → (Unkind l → ⊥) → (1 ≤ kind_at l) × (kind_at l ≤ 9)
known l f = go (within 1 (kind_at l) 9) refl
  where
    here : Reflects (within 1 (kind_at l) 9) ((1 ≤ kind_at l) × (kind_at l ≤ 9))
    here = and-reflects (leb 1 (kind_at l)) (leb (kind_at l) 9) (leb-reflects 1 (kind_at l)) (leb-reflects (kind_at l) 9)

    go : (b : Bool) → within 1 (kind_at l) 9 ≡ b → (1 ≤ kind_at l) × (kind_at l ≤ 9)
    go true e = here.0 e
    go false e = absurd (f (inr (true-reflects here e)))

-- 4, past 3
misfit-reflects : (l : List ℕ) → (Unkind l → ⊥) → Reflects (misfit l) (Misfit l)
misfit-reflects l f =
    let k = known l f in
    not-reflects (eqb (count l) (digits_of (kind_at l))) (rw (digits-total (kind_at l) k.0 k.1) (eqb-reflects (count l) (2 * get_or totals (kind_at l) 0)))

-- a test that is false
false-reflects : (b : Bool) → Reflects (not b) (b ≡ false)
false-reflects b = (not-true b, λ e. ap not e)

-- ---- 8

-- the row is R1
first-reflects : (s : Settings) (p : PrivateRecord) (i : Input) → Reflects (eqb (row_number (row_of s p i)) 1) (row_of s p i ≡ (Some R1))
first-reflects s p i = (same_row (row_of s p i) (Some R1), λ e. eq-eqb (row_number (row_of s p i)) 1 (ap row_number e))

-- 8 of R1
pub taken-reflects : (s : Settings) (p : PrivateRecord) (i : Input) → Reflects (identifier_taken s p i.event (row_of s p i)) (IdentifierStored s p i)
taken-reflects s p i =
    and-reflects (eqb (row_number (row_of s p i)) 1) (same_identifier (request_of s i.event).parties p.call.parties) (first-reflects s p i)
    (eqb-reflects (request_of s i.event).parties.identifier p.call.parties.identifier)

-- ---- the theorems

-- the reader: 1 to 5
pub line-exactly-when : (l : List ℕ) → GivenExactlyWhen (line_number l) (line_table l)
unfolding refusal_of
line-exactly-when l = table-exactly rows refl right
  where
    rows : List Row
    rows =
        (1, unended l, Unended l) ∷ (2, undigital l, Undigital l) ∷ (3, unkind l, Unkind l) ∷ (4, misfit l, Misfit l)
        ∷ (5, unranged l, Unranged l) ∷ []

    right : Right (Unit {0}) rows
    right =
        (λ b. unended-reflects l, (λ b. undigital-reflects l, (λ b. unkind-reflects l, (λ b. misfit-reflects l b.1, (λ b. false-reflects _, tt)))))

-- the reader: the same
pub read-exactly-when : (l : List ℕ) → GivenExactlyWhen (number_of (read_line l).read) (line_table l)
read-exactly-when l = subst (λ (n : ℕ). GivenExactlyWhen n (line_table l)) (sym (number_read l)) (line-exactly-when l)

-- the writer: 5, then 6
pub write-exactly-when : (m : Message) (media : Media) (out : List ℕ) → GivenExactlyWhen (written_of m media out).number (write_table m media out)
unfolding written_of write_number
write-exactly-when m media out = table-exactly rows refl right
  where
    rows : List Row
    rows =
        (5, not (in_range m media), in_range m media ≡ false)
        ∷ (6, ltb (length out) (length (line_of m media)), length out < length (line_of m media)) ∷ []

    right : Right (Unit {0}) rows
    right = (λ b. false-reflects (in_range m media), (λ b. ltb-reflects (length out) (length (line_of m media)), tt))

-- what a step sends: the writer's numbers, or none
pub send-exactly-when : (sent : Option Message) (media : Media) (out : List ℕ) → GivenExactlyWhen (send_told sent media out).number (send_table sent media out)
unfolding written_of ExactlyWhen Among
send-exactly-when None media out = record { answered = refl; exactly = (λ e. tt, λ u. refl) }
send-exactly-when (Some m) media out = write-exactly-when m media out

-- the answer to a log: 6
pub answer-exactly-when : (log out : List ℕ) → GivenExactlyWhen (answer_told log out).number (answer_table log out)
unfolding answer_told answer_number
answer-exactly-when log out = table-exactly rows refl right
  where
    rows : List Row
    rows = (6, ltb (length out) (length (answer_of log)), length out < length (answer_of log)) ∷ []

    right : Right (Unit {0}) rows
    right = (λ b. ltb-reflects (length out) (length (answer_of log)), tt)

-- ---- a step: 7, then 9, then 5 or 8, and 6 last

-- its tests in their order, by whether the row refuses
abbrev pub machine_tests : (M : Machine) → Settings → M.Stored → Input → List ℕ → Bool → List (ℕ × Bool)
machine_tests M s p i out refused =
    (7, not (settings_good s)) ∷ (9, not (M.is_well_formed s p)) ∷ (5, not (heard_good i.event i.media))
    ∷ (8, not (arguments_good s i.event i.media) || refused) ∷ (6, ltb (length out) (length (line_to_send M s p i))) ∷ []

-- a machine whose number is the first of these tests that is given, with a test of whether the row refuses
pub machine-exactly-when : (M : Machine) (refused : Settings → M.Stored → Input → Bool)
    → ((s : Settings) (p : M.Stored) (i : Input) → Reflects (refused s p i) (M.RefusedByRow s p i))
    → ((s : Settings) (p : M.Stored) (i : Input) (out : List ℕ) → (M.step s p i out).number ≡ first_given (machine_tests M s p i out (refused s p i)))
    → StepExactlyWhen M
machine-exactly-when M refused stands told s p i out =
    subst (λ (n : ℕ). GivenExactlyWhen n (step_table M s p i out)) (sym (told s p i out)) (table-exactly rows refl right)
  where
    rows : List Row
    rows =
        (7, not (settings_good s), SettingOut s) ∷ (9, not (M.is_well_formed s p), Unformed M s p)
        ∷ (5, not (heard_good i.event i.media), FieldOut i)
        ∷ (8, not (arguments_good s i.event i.media) || refused s p i, ArgumentOut s i ⊎ M.RefusedByRow s p i)
        ∷ (6, ltb (length out) (length (line_to_send M s p i)), StepRoomless M s p i out) ∷ []

    argument : Reflects (not (arguments_good s i.event i.media) || refused s p i) (ArgumentOut s i ⊎ M.RefusedByRow s p i)
    argument = or-reflects (not (arguments_good s i.event i.media)) (refused s p i) (false-reflects (arguments_good s i.event i.media)) (stands s p i)

    right : Right (Unit {0}) rows
    right =
        (λ b. false-reflects _, (λ b. false-reflects _, (λ b. false-reflects _, (λ b. argument, (λ b. ltb-reflects (length out) (length (line_to_send M s p i)), tt)))))

-- the private call machine
pub step-exactly-when : StepExactlyWhen private_machine
step-exactly-when =
    machine-exactly-when private_machine (λ s p i. identifier_taken s p i.event (row_of s p i)) taken-reflects
    (λ s p i out. number-told s p i out ∙ step-number s p i out)
