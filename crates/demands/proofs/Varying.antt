-- Answers vary with the input and with the record, shown by plays. Assumes nothing.
use mathlib.Core.Path.{◌≡◌, refl, sym, ap, ◌∙◌}
use mathlib.Core.List.{List}
use mathlib.Core.Bool.{false}
use Prim.Native.Nat.{ℕ}
use lib.ListN.{get_or}
use lib.Dec.{eqb}
use borrow.Author.Tests.{eqb-false}
use Rattle.frame.specs.Frame.{group_call_good, in_range}
use Rattle.frame.specs.declared.Message.TheVariants.{Release}
use Rattle.call.specs.Settings.{no_counters, settings_good}
use Rattle.call.specs.declared.Settings.{Settings}
use Rattle.call.specs.declared.PrivateTimer.{PrivateTimer}
use Rattle.call.specs.declared.PrivateAction.{PrivateAction}
use Rattle.call.specs.declared.GroupAction.{GroupAction}
use Rattle.call.specs.declared.Input.{Input}
use Rattle.private_record.specs.declared.states.Phase.{Phase}
use Rattle.private_record.specs.declared.states.PrivateRecord.{PrivateRecord}
use Rattle.group_record.specs.States.{tfg4, tfg2_and6}
use Rattle.group_record.specs.Formed.{cleared_record, is_well_formed}
use Rattle.group_record.specs.declared.states.State.{State}
use Rattle.group_record.specs.declared.states.GroupRecord.{GroupRecord}
use Rattle.group_rows.specs.Rows.{row_in}
use Rattle.group_call.specs.Carried.{stopped_of, running_after, carry_out}
use Rattle.group_call.specs.Step.{step_of, step_buffer}
use Rattle.demands.specs.Machines.{Machine, private_machine, group_machine}
use Rattle.demands.specs.Played.{crew, six, ours, theirs, cfp3_at, stored, hears, does, expires}
use Rattle.demands.specs.GroupPlayed.{asked_crew, heard, in_call, announces, does_in_group, starts_group}
use Rattle.demands.specs.RowPlays.{play, lent, ComesOut, plays}
use Rattle.demands.specs.GroupPlays.{group_plays}
use Rattle.demands.specs.Consequences.{Differ, Varies}
use Rattle.demands.proofs.RowPlays.{plays-come-out}
use Rattle.demands.proofs.GroupPlays.{group-plays-come-out}
use Rattle.stepping.specs.Answer.{Answer}

-- what two things are known to be differs in a number, so they differ
apart : {A : Type 0} (look : A → ℕ) {a b x y : A} → a ≡ x → b ≡ y → eqb (look x) (look y) ≡ false → a ≡ b → ⊥
apart look e h t z = eqb-false _ _ t (ap look (sym e ∙ z ∙ h))

-- two plays differ where their rows do, a number of their next records, and a byte of their lines
plays-differ : (M : Machine) {s : Settings} {p q : M.Stored} {i j : Input} {x y : Answer M.Stored M.Timers} {a b : List ℕ} (look : M.Stored → ℕ) (place : ℕ)
    → (M.step s p i lent ≡ x) × (M.buffer s p i lent ≡ a) → (M.step s q j lent ≡ y) × (M.buffer s q j lent ≡ b)
    → x.number ≡ 0 → y.number ≡ 0 → eqb x.row y.row ≡ false → eqb (look x.next) (look y.next) ≡ false
    → eqb (get_or a place 0) (get_or b place 0) ≡ false → Differ M s lent p i q j
plays-differ M look place e h m n row next byte = (
  (λ k. (e.0 k).number) ∙ m,
  (λ k. (h.0 k).number) ∙ n,
  apart (λ n. n) (λ k. (e.0 k).row) (λ k. (h.0 k).row) row,
  apart look (λ k. (e.0 k).next) (λ k. (h.0 k).next) next,
  apart (λ l. get_or l place 0) e.1 h.1 byte,
)

-- in P3 the expiry of TFP3 meets R10 and a RELEASE R13; the user's end meets R8 from P2 and R9 from P4
pub private-varies : Varies private_machine
unfolding plays
private-varies =
    let from = plays-come-out.1.1.1.1.1.1.1.1 in (
      (
        crew,
        lent,
        stored Phase.P3 (cfp3_at 1) ours,
        expires PrivateTimer.Tfp3,
        hears (Release ours.parties),
        plays-differ private_machine
            (λ (p : PrivateRecord). p.counters.cfp3) 1 from.1.1.0 from.1.1.1.1.1.0 refl refl refl refl refl,
      ),
      (
        crew,
        lent,
        stored Phase.P2Tfp2 no_counters ours,
        stored Phase.P4 no_counters theirs,
        does PrivateAction.End,
        plays-differ private_machine
            (λ (p : PrivateRecord). p.call.parties.caller) 13 from.0 from.1.0 refl refl refl refl refl,
      ),
    )

-- the user's accept in S4, where no confirm is asked for, of another call than the one that is played
accepted : ComesOut group_machine (play 6 asked_crew (in_call State.S4 (heard 2) six) (does_in_group GroupAction.Accept) tfg4 tfg2_and6 (in_call State.S3 (heard 2) six) "")
unfolding step_of step_buffer settings_good is_well_formed row_in carry_out stopped_of running_after in_range group_call_good
accepted = (refl, refl)

-- in S1 a start meets G1 and an announcement G4; the user's accept meets G5 from S5 and G6 from S4
pub group-varies : Varies group_machine
unfolding group_plays
group-varies = (
  (
    crew,
    lent,
    cleared_record,
    starts_group 2 30 1,
    announces (heard 3) 1,
    plays-differ group_machine
        (λ (g : GroupRecord). g.call.identifier) 1 group-plays-come-out.0 group-plays-come-out.1.1.1.1.0 refl refl refl refl refl,
  ),
  (
    asked_crew,
    lent,
    in_call State.S5 (heard 1) six,
    in_call State.S4 (heard 2) six,
    does_in_group GroupAction.Accept,
    plays-differ group_machine
        (λ (g : GroupRecord). g.call.call_type) 1 group-plays-come-out.1.1.1.1.1.1.0 accepted refl refl refl refl refl,
  ),
)
