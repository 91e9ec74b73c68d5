-- Rows hold from every record; each row is told and no other; where some input is always heeded there is no standstill. Assumes nothing.
use Rattle.std.specs.Prelude.{None, Some, Option}
use mathlib.Core.Path.{◌≡◌, refl, sym, ◌∙◌, subst}
use mathlib.Core.Logic.{◌⊎◌, inl, inr, ⊎_elim}
use mathlib.Core.List.{List, [], ◌∷◌}
use mathlib.Core.Bool.{Bool, true, false, cond, ◌&&◌, ◌||◌, true≢false, false≢true}
use Prim.Native.Nat.{ℕ, zero, suc, ◌<◌, ◌≤◌, zero-le}
use native.Mathlib.Omega.{arith}
use lib.Dec.{ltb, leb, eqb}
use lib.ListN.{length}
use borrow.Author.Tests.{leb-true, ltb-true, ltb-false, eqb-true, eqb-false}
use Rattle.frame.specs.Layout.{longest_line}
use Rattle.frame.specs.declared.Media.{Media}
use Rattle.frame.proofs.Laws.{and_split, or_cases}
use Rattle.frame.proofs.Longest.{longest-line}
use Rattle.call.specs.Settings.{settings_good}
use Rattle.call.specs.Meeting.{first_met}
use Rattle.call.specs.declared.Settings.{Settings}
use Rattle.call.specs.declared.Input.{Input}
use Rattle.frame.specs.declared.Message.{Message}
use Rattle.stepping.specs.Numbers.{heard_good, arguments_good}
use Rattle.stepping.specs.Sending.{line_sent}
use Rattle.private_record.specs.declared.states.Phase.{Phase}
use Rattle.private_rows.specs.Rows as Rows
use Rattle.private_rows.specs.declared.causes.Cause.{Cause}
use Rattle.private_rows.specs.declared.causes.Facts.{Facts}
use Rattle.private_call.proofs.Steps as private
use Rattle.group_record.specs.declared.states.State.{State}
use Rattle.group_rows.specs.Rows as GroupRows
use Rattle.group_rows.specs.declared.causes.Cause as GroupCause
use Rattle.group_rows.specs.declared.causes.Facts as GroupFacts
use Rattle.group_call.proofs.Steps as group
use Rattle.demands.specs.Machines.{Machine, line_to_send, Unrefused, CarriesOut, RowsHold, KeepsWellFormed, private_machine, group_machine}
use Rattle.demands.specs.ExactlyWhen.{ExactlyWhen, SettingOut, Unformed, FieldOut, ArgumentOut, StepRoomless, StepExactlyWhen}
use Rattle.demands.specs.NothingChanges.{StepNothingChanges}
use Rattle.demands.specs.RowPlays.{Play, play, lent, AllComeOut, plays}
use Rattle.demands.specs.GroupPlays.{group_plays}
use Rattle.demands.specs.Consequences.{last_private_row, last_group_row, KnownRows, RowTold, EveryRowTold, IsHeeded, Heeds, NeverStill}
use Rattle.demands.proofs.Tables.{below, at}
use Rattle.demands.proofs.NothingChanges.{step-nothing-changes}
use Rattle.demands.proofs.ExactlyWhen.{step-exactly-when}
use Rattle.demands.proofs.Machines.{private-carries-out}
use Rattle.demands.proofs.GroupMachine.{group-carries-out, group-step-nothing-changes, group-step-exactly-when}
use Rattle.demands.proofs.RowPlays.{plays-come-out}
use Rattle.demands.proofs.GroupPlays.{group-plays-come-out}
use Rattle.stepping.specs.Answer.{Answer}

-- ---- from every record

-- where nothing is refused and there is room the number is 0, and then the row is carried out
pub rows-hold : (M : Machine) → StepExactlyWhen M → CarriesOut M → RowsHold M
unfolding ExactlyWhen
rows-hold M told carries s p i out t room = carries s p i out ((told s p i out).exactly.1.1.1.1.1.1 passed)
  where
    good : {b : Bool} → b ≡ true → b ≡ false → ⊥
    good e f = true≢false (sym e ∙ f)

    passed : ((((Unit {0} × (SettingOut s → ⊥)) × (Unformed M s p → ⊥)) × (FieldOut i → ⊥)) × (ArgumentOut s i ⊎ M.RefusedByRow s p i → ⊥))
        × (StepRoomless M s p i out → ⊥)
    passed = (((((tt, good t.settings), good t.formed), good t.message), ⊎_elim (good t.arguments) t.row), λ h. omega (arith, h, room))

-- of the private call machine
pub private-rows-hold : RowsHold private_machine
private-rows-hold = rows-hold private_machine step-exactly-when private-carries-out

-- of the group call machine
pub group-rows-hold : RowsHold group_machine
group-rows-hold = rows-hold group_machine group-step-exactly-when group-carries-out

-- what is sent fits where the longest line does
line-fits : (sent : Option Message) (media : Media) (out : List ℕ) → longest_line ≤ length out → length (line_sent sent media) ≤ length out
line-fits None media out h = zero-le
line-fits (Some m) media out h = let k = longest-line.0 m media in omega (arith, h, k)

-- an input that is not refused, and whose row leads to another state, is heeded
pub heeded-by-row : (M : Machine) → RowsHold M → (s : Settings) (p : M.Stored) (i : Input) → Unrefused M s p i → (M.carried s p i).number ≡ 0
    → 1 ≤ (M.carried s p i).row → M.changes p (M.carried s p i).next ≡ true → IsHeeded M s p i
heeded-by-row M hold s p i u n r c out room =
    let e = (hold s p i out u (line-fits (M.sent s p i) (M.media s p i) out room)).0 in
    ((λ j. (e j).number) ∙ n, subst (λ (k : ℕ). 1 ≤ k) (sym (λ j. (e j).row)) r, (λ j. M.changes p (e j).next) ∙ c)

-- ---- no other row

-- every row of a list passes a test
abbrev every : {Row : Type 0} → (Row → Bool) → List (Row × Bool) → Bool
every test [] = true
every test (row ∷ rows) = test row.0 && every test rows

-- then the row that is met passes it
met-passes : {Row : Type 0} (test : Option Row → Bool) (rows : List (Row × Bool)) → test None ≡ true → every (λ row. test (Some row)) rows ≡ true
    → test (first_met rows) ≡ true
met-passes test [] n e = n
met-passes test (row ∷ rows) n e =
    let p = and_split (test (Some row.0)) (every (λ row. test (Some row)) rows) e in go row.1 p.0 (met-passes test rows n p.1)
  where
    go : (b : Bool) → test (Some row.0) ≡ true → test (first_met rows) ≡ true → test (cond b (Some row.0) (first_met rows)) ≡ true
    go true x y = x
    go false x y = y

-- a refusal tells row 0, and what is not refused the row that is met
known-rows : (M : Machine) (last : ℕ) → StepNothingChanges M → CarriesOut M → ((s : Settings) (p : M.Stored) (i : Input) → (M.carried s p i).row ≤ last)
    → KnownRows M last
known-rows M last kept carries known s p i out = go (eqb (M.step s p i out).number 0) refl
  where
    go : (b : Bool) → eqb (M.step s p i out).number 0 ≡ b → (M.step s p i out).row ≤ last
    go true t = subst (λ (x : Answer M.Stored M.Timers). x.row ≤ last) (sym (carries s p i out (eqb-true _ 0 t)).0) (known s p i)
    go false t = let z = ((kept s p i out).0 (eqb-false _ 0 t)).1 in omega (arith, z)

-- the private rows are R1 to R29
private-row : (f : Phase) (c : Cause) (x : Facts) → Rows.row_number (Rows.row_in f c x) ≤ last_private_row
unfolding Rows.row_in
private-row f c x = leb-true _ last_private_row (met-passes (λ row. leb (Rows.row_number row) last_private_row) (Rows.rows_ask f c x) refl refl)

-- the private call machine tells no other row
pub private-known-rows : KnownRows private_machine last_private_row
private-known-rows = known-rows private_machine last_private_row step-nothing-changes private-carries-out (λ s p i. subst (λ (n : ℕ). n ≤ last_private_row) (sym (private.answer-told s p i).1) (private-row _ _ _))

-- the group rows are G1 to G11
group-row : (f : State) (c : GroupCause.Cause) (x : GroupFacts.Facts) → GroupRows.row_number (GroupRows.row_in f c x) ≤ last_group_row
unfolding GroupRows.row_in
group-row f c x = leb-true _ last_group_row (met-passes (λ row. leb (GroupRows.row_number row) last_group_row) (GroupRows.rows_ask f c x) refl refl)

-- the group call machine tells no other row
pub group-known-rows : KnownRows group_machine last_group_row
group-known-rows = known-rows group_machine last_group_row group-step-nothing-changes group-carries-out (λ s g i. subst (λ (n : ℕ). n ≤ last_group_row) (sym (group.answer-told s g i).1) (group-row _ _ _))

-- ---- every row

-- a row is that of a play
abbrev is_played : {M : Machine} → List (Play M) → ℕ → Bool
is_played [] n = false
is_played (play row s p i stop start next line ∷ xs) n = eqb row n || is_played xs n

-- a number 0 is given only where nothing is refused and there is room
pub passed-tests : (M : Machine) → StepExactlyWhen M → (s : Settings) (p : M.Stored) (i : Input) (out : List ℕ) → (M.step s p i out).number ≡ 0
    → Unrefused M s p i × (length (line_to_send M s p i) ≤ length out)
unfolding ExactlyWhen
passed-tests M told s p i out e =
    let passed = (told s p i out).exactly.1.1.1.1.1.0 e in (
      record {
        settings = holds (settings_good s) refl passed.0.0.0.0.1;
        formed = holds (M.is_well_formed s p) refl passed.0.0.0.1;
        message = holds (heard_good i.event i.media) refl passed.0.0.1;
        arguments = holds (arguments_good s i.event i.media) refl (λ f. passed.0.1 (inl f));
        row = λ r. passed.0.1 (inr r);
      },
      roomy (ltb (length out) (length (line_to_send M s p i))) refl passed.1,
    )
  where
    holds : (b : Bool) {c : Bool} → c ≡ b → (c ≡ false → ⊥) → c ≡ true
    holds true t f = t
    holds false t f = absurd (f t)

    roomy : {m n : ℕ} (b : Bool) → ltb m n ≡ b → (m < n → ⊥) → n ≤ m
    roomy {m} {n} true t f = absurd (f (ltb-true m n t))
    roomy {m} {n} false t f = ltb-false m n t

-- a row that is played is told
played-told : (M : Machine) → StepExactlyWhen M → (xs : List (Play M)) → AllComeOut M xs → (n : ℕ) → is_played xs n ≡ true → RowTold M n
played-told M told [] out n e = absurd (false≢true e)
played-told M told (play row s p i stop start next line ∷ xs) out n e =
    ⊎_elim (λ t. here (eqb-true row n t)) (λ t. played-told M told xs out.1 n t) (or_cases (eqb row n) (is_played xs n) e)
  where
    here : row ≡ n → RowTold M n
    here t =
        let number : (M.step s p i lent).number ≡ 0 = λ j. (out.0.0 j).number in
        let from = (passed-tests M told s p i lent number).0 in (s, p, i, lent, from.settings, from.formed, number, (λ j. (out.0.0 j).row) ∙ t)

-- where every row of the list is played, every row is told
every-row-told : (M : Machine) → StepExactlyWhen M → (xs : List (Play M)) → AllComeOut M xs → (last : ℕ) → below last (λ n. is_played xs (suc n)) ≡ true
    → EveryRowTold M last
every-row-told M told xs out last e zero h k = let z : ⊥ = omega (arith, h) in absurd z
every-row-told M told xs out last e (suc n) h k = played-told M told xs out (suc n) (at last (λ n. is_played xs (suc n)) e n (omega (arith, k)))

-- every private row is told
pub private-every-row : EveryRowTold private_machine last_private_row
unfolding below plays
private-every-row = every-row-told private_machine step-exactly-when plays plays-come-out last_private_row refl

-- every group row is told
pub group-every-row : EveryRowTold group_machine last_group_row
unfolding below group_plays
group-every-row = every-row-told group_machine group-step-exactly-when group_plays group-plays-come-out last_group_row refl

-- ---- no standstill

-- well-formed records stay so, and from each of them some input is heeded
pub never-still : (M : Machine) → KeepsWellFormed M → Heeds M → NeverStill M
never-still M keeps heeds s p [] g w = heeds s p g w
never-still M keeps heeds s p (x ∷ inputs) g w = never-still M keeps heeds s (M.step s p x.0 x.1).next inputs g (keeps s p x.0 x.1 g w)
