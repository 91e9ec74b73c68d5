-- From every well-formed record of the group call machine some input is heeded, and it never stands still. Assumes nothing.
use Rattle.std.specs.Prelude.{Some, Option}
use mathlib.Core.Path.{◌≡◌, refl, sym, ap, ◌∙◌, subst}
use mathlib.Core.Bool.{Bool, true, false}
use Prim.Native.Nat.{ℕ, ◌≤◌}
use native.Mathlib.Omega.{arith}
use lib.Dec.{eqb}
use Rattle.frame.specs.Digits.{four}
use Rattle.frame.specs.Range.{never_zero}
use Rattle.frame.specs.Frame.{group_call_good, in_range}
use Rattle.frame.proofs.Laws.{and_split}
use Rattle.call.specs.Settings.{settings_good}
use Rattle.call.specs.Announced.{announced_of}
use Rattle.call.specs.declared.Settings.{Settings}
use Rattle.call.specs.declared.GroupAction.{GroupAction}
use Rattle.call.specs.declared.Input.{Input}
use Rattle.stepping.specs.Numbers.{arguments_good}
use Rattle.stepping.proofs.Stepping.{Taken}
use Rattle.group_record.specs.Formed.{is_well_formed}
use Rattle.group_record.specs.declared.states.State.{State}
use Rattle.group_record.specs.declared.states.GroupRecord.{GroupRecord}
use Rattle.group_rows.specs.Causes.{cause_of, facts_of}
use Rattle.group_rows.specs.Rows.{row_number, row_in, row_of}
use Rattle.group_rows.specs.Found.{found_at}
use Rattle.group_rows.specs.declared.Row.{Row}
use Rattle.group_rows.specs.declared.Row.TheVariants.{G1, G7, G8}
use Rattle.group_rows.proofs.Meets.{found-is-met}
use Rattle.group_call.specs.Effects.{effect_of}
use Rattle.group_call.specs.Carried.{changes, carry_out}
use Rattle.group_call.specs.Step.{change_too_early}
use Rattle.stepping.specs.Answer.{Answer}
use Rattle.group_call.proofs.Steps.{answer-of-row, answer-told}
use Rattle.demands.specs.Machines.{group_machine}
use Rattle.demands.specs.GroupPlayed.{does_in_group}
use Rattle.demands.specs.Consequences.{IsHeeded, Heeds, NeverStill}
use Rattle.demands.proofs.Reflects.{true-reflects}
use Rattle.demands.proofs.GroupMachine.{early-reflects, group-keeps-well-formed}
use Rattle.demands.proofs.Consequences.{group-rows-hold, heeded-by-row, never-still}
use Rattle.group_record.specs.declared.states.Timers.{Timers}

-- ---- what is heeded

-- the row that an input meets from a record, if the record is in this state
abbrev row_found : Settings → GroupRecord → Input → State → Option Row
row_found s g i f = found_at f (cause_of s i.event) (facts_of s g.call (announced_of s i.event).call)

-- whether the announcement that it brings asks for confirm
abbrev confirms : Settings → Input → Bool
confirms s i = eqb (announced_of s i.event).confirm 1

-- an input that is not refused and meets a row to another state is heeded
heeded : (s : Settings) (g : GroupRecord) (i : Input) (f : State) (row : Option Row) → Taken s (is_well_formed s g) i → g.state ≡ f
    → row_found s g i f ≡ row → change_too_early s g i.event row ≡ false → 1 ≤ row_number row → changes f (effect_of row f (confirms s i)).to ≡ true
    → IsHeeded group_machine s g i
unfolding carry_out
heeded s g i f row t e r n h c =
    let x = facts_of s g.call (announced_of s i.event).call in
    let met : row_of s g i.event ≡ row = ap (λ (f : State). row_in f (cause_of s i.event) x) e ∙ sym (found-is-met f _ _) ∙ r in
    let number = ap row_number met in
    heeded-by-row group_machine group-rows-hold s g i
    (record {
      settings = t.settings;
      formed = t.formed;
      message = t.message;
      arguments = t.arguments;
      row = true-reflects (early-reflects s g i) (ap (change_too_early s g i.event) met ∙ n);
    }) (answer-told s g i).0 (subst (λ (k : ℕ). 1 ≤ k) (sym ((answer-told s g i).1 ∙ number)) h)
    (ap (λ (x : Answer GroupRecord Timers). changes g.state x.next.state) (answer-of-row s g i (λ e. let z = sym number ∙ e in omega (arith, z, h)))
    ∙ (λ j. changes (e j) (effect_of (met j) (e j) (confirms s i)).to) ∙ c)

-- ---- a start that is not refused

-- of call 16, as a basic call
abbrev start : GroupAction
start = GroupAction.Start (record { identifier = 16; call_type = 1; refresh = 30; confirm = 0; now = 1000 })

-- its arguments are good
start-good : (s : Settings) → settings_good s ≡ true → arguments_good s (does_in_group start).event (does_in_group start).media ≡ true
unfolding settings_good in_range group_call_good
start-good s h =
    let user = and_split (never_zero four s.own_user) _ h in
    let group = and_split (never_zero four s.own_group) _ user.1 in rw (user.0, group.0)

-- ---- in each state

module _ (s : Settings) (g : GroupRecord) (h : settings_good s ≡ true) (w : is_well_formed s g ≡ true) where
  -- some input is heeded
  abbrev SomeHeeded : Type 0
  SomeHeeded = (i : Input) × IsHeeded group_machine s g i

  -- this action of the user is, where its arguments are good and it meets this row
  by_row : (a : GroupAction) (f : State) (row : Option Row) → let i = does_in_group a in
      arguments_good s i.event i.media ≡ true → g.state ≡ f → row_found s g i f ≡ row → change_too_early s g i.event row ≡ false
      → 1 ≤ row_number row → changes f (effect_of row f (confirms s i)).to ≡ true → SomeHeeded
  by_row a f row b e r n k c = (does_in_group a, heeded s g (does_in_group a) f row (record { settings = h; formed = w; message = refl; arguments = b }) e r n k c)

  -- in S1 the user's start is heeded, in S3 the user who leaves, in S4 and S5 the user who rejects
  in-state : (f : State) → g.state ≡ f → SomeHeeded
  in-state State.S1 e = by_row start State.S1 (Some G1) (start-good s h) e refl refl (omega arith) refl
  in-state State.S3 e = by_row GroupAction.Leave State.S3 (Some G8) refl e refl refl (omega arith) refl
  in-state State.S4 e = by_row GroupAction.Reject State.S4 (Some G7) refl e refl refl (omega arith) refl
  in-state State.S5 e = by_row GroupAction.Reject State.S5 (Some G7) refl e refl refl (omega arith) refl

-- ---- the theorems

-- from every well-formed record some input is heeded
pub group-heeds : Heeds group_machine
group-heeds s g h w = in-state s g h w g.state refl

-- after any steps some input is heeded
pub group-never-still : NeverStill group_machine
group-never-still = never-still group_machine group-keeps-well-formed group-heeds
