-- G7 and G8 clear the record. Assumes nothing.
use mathlib.Core.Path.{◌≡◌, refl, sym, ap, ◌∙◌}
use mathlib.Core.Logic.{◌⊎◌, inl, inr, ⊎_elim}
use mathlib.Core.List.{List}
use mathlib.Core.Bool.{Bool, true, false}
use Prim.Native.Nat.{ℕ}
use native.Mathlib.Omega.{arith}
use lib.Dec.{eqb}
use borrow.Author.Tests.{eq-eqb, eqb-true, eqb-false}
use Rattle.std.specs.Prelude.{Option, Some}
use Rattle.frame.specs.Media.{no_media}
use Rattle.frame.specs.Frame.{no_group_call}
use Rattle.call.specs.declared.Settings.{Settings}
use Rattle.call.specs.declared.Input.{Input}
use Rattle.group_record.specs.States.{running_of}
use Rattle.group_record.specs.Formed.{cleared_record, is_well_formed}
use Rattle.group_record.specs.declared.states.State.{State}
use Rattle.group_record.specs.declared.states.GroupRecord.{GroupRecord}
use Rattle.group_rows.specs.Rows.{row_number, row_of}
use Rattle.group_rows.specs.declared.Row.{Row}
use Rattle.group_rows.specs.declared.Row.TheVariants.{G7, G8}
use Rattle.group_rows.proofs.Meets.{same_row}
use Rattle.group_call.specs.Carried.{carry_out}
use Rattle.group_call.specs.Step.{done_of, step_number, step_of}
use Rattle.group_call.proofs.Keeping.{fit, carried-well-formed}
use Rattle.group_call.proofs.Steps.{tests-passed, step-passed, step-done, step-refused}

-- either of them enters S1 and leaves no call
leaves-no-call : (s : Settings) (g : GroupRecord) (i : Input) (row : Option Row) → (row ≡ Some G7) ⊎ (row ≡ Some G8) → let next = (carry_out s g i row).next in
    (next.state ≡ State.S1) × (next.call ≡ no_group_call) × (next.media ≡ no_media)
unfolding carry_out
leaves-no-call s g i row (inl e) = rw e (refl, refl, refl)
leaves-no-call s g i row (inr e) = rw e (refl, refl, refl)

-- a well-formed record in S1 that holds no call is the cleared one
is-cleared : (s : Settings) (g : GroupRecord) → is_well_formed s g ≡ true → (g.state ≡ State.S1) × (g.call ≡ no_group_call) × (g.media ≡ no_media) → g ≡ cleared_record
is-cleared s g w (state, call, media) =
    let running = (fit s g w).running ∙ ap running_of state in λ j. record { state = state j; running = running j; call = call j; media = media j }

-- a step that tells one of them leaves the cleared record
pub rows-7-and-8-clear : (s : Settings) (g : GroupRecord) (i : Input) (out : List ℕ) → ((step_of s g i out).row ≡ 7) ⊎ ((step_of s g i out).row ≡ 8) → (step_of s g i out).next ≡ cleared_record
rows-7-and-8-clear s g i out told = go (eqb (step_number s g i out) 0) refl
  where
    go : (b : Bool) → eqb (step_number s g i out) 0 ≡ b → (step_of s g i out).next ≡ cleared_record
    go true t =
        let e = eqb-true _ 0 t in
        let done = (step-done s g i out e).0 in
        let row = row_of s g i.event in
        let is : (n : ℕ) → (step_of s g i out).row ≡ n → row_number row ≡ n = λ n h. sym (λ j. (done j).row) ∙ h in
        let met : (row ≡ Some G7) ⊎ (row ≡ Some G8) =
        ⊎_elim (λ h. inl (same_row row (Some G7) (eq-eqb _ 7 (is 7 h)))) (λ h. inr (same_row row (Some G8) (eq-eqb _ 8 (is 8 h)))) told in
        (λ j. (done j).next) ∙ is-cleared s (done_of s g i).next (carried-well-formed s g i (tests-passed s g i (step-passed s g i out e).0).0) (leaves-no-call s g i row met)
    go false t =
        let z : (step_of s g i out).row ≡ 0 = λ j. ((step-refused s g i out (eqb-false _ 0 t)).0 j).row in
        absurd (⊎_elim (λ h. let w : ⊥ = omega (arith, z, h) in w) (λ h. let w : ⊥ = omega (arith, z, h) in w) told)
