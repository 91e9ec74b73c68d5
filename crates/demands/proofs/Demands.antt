-- The three demands hold. Assumes nothing.
use mathlib.Core.Path.{sym, ap, ◌∙◌, subst}
use Rattle.reader.specs.Line.{read_line}
use Rattle.reader.proofs.ReadsItsLine.{reads-its-line}
use Rattle.reader.proofs.OnlyLine.{line-is-the-only-one}
use Rattle.chooser.proofs.Chosen.{same_line}
use Rattle.group_call.specs.Hearing.{Build, promised}
use Rattle.demands.specs.Machines.{private_machine, group_machine}
use Rattle.demands.specs.Consequences.{last_private_row, last_group_row}
use Rattle.demands.specs.Demands.{NumbersGiven, RefusalsKeep, Demand1, OneLine, ByTheRows, MeetsDemands, Demand2, Demand3}
use Rattle.demands.specs.Builds.{BuildOf, as_step}
use Rattle.demands.specs.SameCall.{IsPromised, BestCall, SameCall, AnyOrder}
use Rattle.demands.proofs.ExactlyWhen.{line-exactly-when, read-exactly-when, write-exactly-when, send-exactly-when, answer-exactly-when, step-exactly-when}
use Rattle.demands.proofs.Choosing.{choose-number-exactly-when}
use Rattle.demands.proofs.NothingChanges.{read-nothing-changes, write-nothing-changes, write-sent-nothing-changes, answer-nothing-changes, choose-nothing-changes, chooses_none, step-nothing-changes}
use Rattle.demands.proofs.Machines.{private-carries-out, private-keeps-well-formed, private-sends-good, private-clears, private-timers-agree, private-change-stops, private-spares-ran-out}
use Rattle.demands.proofs.GroupMachine.{group-step-exactly-when, group-step-nothing-changes}
use Rattle.demands.proofs.GroupMachine.{group-carries-out, group-keeps-well-formed, group-sends-good, group-clears, group-timers-agree, group-change-stops, group-spares-ran-out}
use Rattle.demands.proofs.Consequences.{private-rows-hold, group-rows-hold, private-known-rows, group-known-rows, private-every-row, group-every-row}
use Rattle.demands.proofs.ReadsBack.{reads-back}
use Rattle.demands.proofs.PrivateHeeds.{private-heeds, private-never-still}
use Rattle.demands.proofs.GroupHeeds.{group-heeds, group-never-still}
use Rattle.demands.proofs.Varying.{private-varies, group-varies}
use Rattle.demands.proofs.Builds.{private-shuts-out, group-shuts-out}
use Rattle.demands.proofs.SameCall.{best-call, same-call, any_order}
use Rattle.demands.proofs.BetterLine.{better-given}

-- ---- demand 1

-- each number exactly when
pub exactly-when : NumbersGiven
exactly-when =
    record {
      of_line = line-exactly-when;
      of_reading = read-exactly-when;
      of_writing = write-exactly-when;
      of_sending = send-exactly-when;
      of_answering = answer-exactly-when;
      of_choosing = choose-number-exactly-when;
      of_private_step = step-exactly-when;
      of_group_step = group-step-exactly-when;
    }

-- a refusal changes nothing
pub nothing-changes : RefusalsKeep
nothing-changes =
    record {
      by_reading = read-nothing-changes;
      by_writing = write-nothing-changes;
      by_sending = write-sent-nothing-changes;
      by_answering = answer-nothing-changes;
      by_choosing = choose-nothing-changes;
      by_choice = chooses_none;
      by_private_step = step-nothing-changes;
      by_group_step = group-step-nothing-changes;
    }

-- whatever comes in gets an answer
pub demand-1 : Demand1
demand-1 = record { numbers = exactly-when; keeps = nothing-changes }

-- ---- demand 2

-- one frame, one line, both ways
pub one_line : OneLine
one_line l m media = (line-is-the-only-one l m media, λ h. ap read_line h.0 ∙ reads-its-line m media h.1)

-- the private call machine goes by its rows
pub private-by-the-rows : ByTheRows private_machine last_private_row
private-by-the-rows =
    record {
      rows_hold = private-rows-hold;
      carries_out = private-carries-out;
      known_rows = private-known-rows;
      every_row = private-every-row;
      keeps_well_formed = private-keeps-well-formed;
      sends_good = private-sends-good;
      reads_back = reads-back private_machine step-exactly-when step-nothing-changes private-sends-good;
      clears = private-clears;
      timers_agree = private-timers-agree;
      change_stops = private-change-stops;
      spares_ran_out = private-spares-ran-out;
      heeds = private-heeds;
      never_still = private-never-still;
      varies = private-varies;
    }

-- the group call machine goes by its own
pub group-by-the-rows : ByTheRows group_machine last_group_row
group-by-the-rows =
    record {
      rows_hold = group-rows-hold;
      carries_out = group-carries-out;
      known_rows = group-known-rows;
      every_row = group-every-row;
      keeps_well_formed = group-keeps-well-formed;
      sends_good = group-sends-good;
      reads_back = reads-back group_machine group-step-exactly-when group-step-nothing-changes group-sends-good;
      clears = group-clears;
      timers_agree = group-timers-agree;
      change_stops = group-change-stops;
      spares_ran_out = group-spares-ran-out;
      heeds = group-heeds;
      never_still = group-never-still;
      varies = group-varies;
    }

-- every step gives what the rows say, and a good message has one line
pub demand-2 : Demand2
demand-2 =
    record {
      one_line = one_line;
      private_rows = private-by-the-rows;
      group_rows = group-by-the-rows;
      private_shuts_out = private-shuts-out private-by-the-rows;
      group_shuts_out = group-shuts-out group-by-the-rows;
    }

-- ---- demand 3

-- what holds of what is promised holds of every build whose answers are those
kept : (P : Build → Type 0) → P promised → (b : Build) → IsPromised b → P b
kept P holds b is = subst P (sym (λ j s g i out. is s g i out j)) holds

-- a build that meets the other demands is the machine, so its answers are those that are promised
is-promised : (b : BuildOf group_machine) → MeetsDemands group_machine b → IsPromised (as_step b)
is-promised b m s g i out =
    let e = (group-shuts-out group-by-the-rows).one_build b m s g i out in λ j. (e.0 j, e.1 j)

-- two cabs that know of the same calls end in the same one, and of two lines that of the better call is given
pub demand-3 : Demand3
demand-3 =
    record {
      one_cab = kept BestCall best-call;
      two_cabs = kept SameCall same-call;
      any_order = kept AnyOrder any_order;
      from_the_others = λ b m. kept SameCall same-call (as_step b) (is-promised b m);
      better_line = better-given;
      either_first = same_line;
    }
