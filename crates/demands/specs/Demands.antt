-- The three demands, each as one statement, to be read first. Every part says which sentence it is; the definitions that it cites stand in the files
-- named by `use`, and behind them in the crates below. Assumes nothing.
use Rattle.std.specs.Prelude.{◌≡◌, ◌↔◌, List, ℕ, Option}
use Rattle.frame.specs.Frame.{GoodFrame}
use Rattle.frame.specs.Layout.{line_of}
use Rattle.frame.specs.declared.Media.{Media}
use Rattle.frame.specs.declared.Message.{Message}
use Rattle.reader.specs.Line.{number_of, reading, read_line, line_number}
use Rattle.writer.specs.Writing.{written_of, buffer_of}
use Rattle.log_answer.specs.Answer.{answer_of, answer_told, answer_buffer}
use Rattle.stepping.specs.Sending.{line_sent, send_told, send_buffer}
use Rattle.chooser.specs.Choice.{choice_number}
use Rattle.group_call.specs.Hearing.{Build}
use Rattle.demands.specs.ExactlyWhen.{GivenExactlyWhen, line_table, write_table, send_table, answer_table, choice_table, StepExactlyWhen}
use Rattle.demands.specs.NothingChanges.{NothingChanges, ReadNothingChanges, ChooseNothingChanges, ChoosesNone, StepNothingChanges}
use Rattle.demands.specs.Machines.{Machine, RowsHold, CarriesOut, KeepsWellFormed, SendsGood, ReadsBack, Clears, TimersAgree, ChangeStops, SparesRanOut, private_machine, group_machine}
use Rattle.demands.specs.Consequences.{last_private_row, last_group_row, KnownRows, EveryRowTold, Heeds, NeverStill, Varies}
use Rattle.demands.specs.Builds.{BuildOf, built_as, as_step, SameAs, RefusesAll, DiscardsAll, StandsStill, NeverVaries, MakesUpRow}
use Rattle.demands.specs.SameCall.{IsPromised, BestCall, SameCall, AnyOrder}
use Rattle.demands.specs.BetterLine.{BetterGiven, EitherFirst}

-- ---- Demand 1: whatever comes in gets an answer; what is bad gets its number, and nothing else happens

-- each number has its exact condition and its place in the order
pub record NumbersGiven : Type 0 where
  -- a line to check: 1, 2, 3, 4, 5
  pub of_line : (l : List ℕ) → GivenExactlyWhen (line_number l) (line_table l)
  -- a line to read: the same
  pub of_reading : (l : List ℕ) → GivenExactlyWhen (number_of (read_line l).read) (line_table l)
  -- a frame to write: 5, 6
  pub of_writing : (m : Message) (media : Media) (out : List ℕ) → GivenExactlyWhen (written_of m media out).number (write_table m media out)
  -- what a step sends: the same, and no number where it sends nothing
  pub of_sending : (sent : Option Message) (media : Media) (out : List ℕ) → GivenExactlyWhen (send_told sent media out).number (send_table sent media out)
  -- a log to answer: 6
  pub of_answering : (log out : List ℕ) → GivenExactlyWhen (answer_told log out).number (answer_table log out)
  -- two lines to choose between: a number of the first, else of the second, else 10
  pub of_choosing : (first second : List ℕ) → GivenExactlyWhen (choice_number first second) (choice_table first second)
  -- a step of the private call machine: 7, then 9, then 5 or 8, and 6 last
  pub of_private_step : StepExactlyWhen private_machine
  -- a step of the group call machine: the same
  pub of_group_step : StepExactlyWhen group_machine

-- a number that is not 0 leaves everything as it was: record, timers, and each byte of a lent buffer
pub record RefusalsKeep : Type 0 where
  -- the reader
  pub by_reading : ReadNothingChanges
  -- the writer
  pub by_writing : (m : Message) (media : Media) (out : List ℕ) → NothingChanges (line_of m media) (written_of m media out) out (buffer_of m media out)
  -- what a step sends
  pub by_sending : (sent : Option Message) (media : Media) (out : List ℕ) → NothingChanges (line_sent sent media) (send_told sent media out) out (send_buffer sent media out)
  -- the answer to a log
  pub by_answering : (log out : List ℕ) → NothingChanges (answer_of log) (answer_told log out) out (answer_buffer log out)
  -- the chooser
  pub by_choosing : ChooseNothingChanges
  -- its choice
  pub by_choice : ChoosesNone
  -- a step of the private call machine
  pub by_private_step : StepNothingChanges private_machine
  -- a step of the group call machine
  pub by_group_step : StepNothingChanges group_machine

-- demand 1: the numbers, and that nothing else happens
pub record Demand1 : Type 0 where
  -- the numbers
  pub numbers : NumbersGiven
  -- and nothing else
  pub keeps : RefusalsKeep

-- ---- Demand 2: every step gives what the numbered rows say; a good message has one line, and no other line reads as it

-- some bytes read as a frame exactly if the frame is good and they are its line
abbrev pub OneLine : Type 0
OneLine = (l : List ℕ) (m : Message) (media : Media) → (read_line l ≡ reading m media) ↔ ((l ≡ line_of m media) × GoodFrame m media)

-- a call machine whose rows are numbered up to the last
pub record ByTheRows (M : Machine) (last : ℕ) : Type 0 where
  -- row, next record, timers and line are those of the row that is met, from every well-formed record
  pub rows_hold : RowsHold M
  -- and in every step that has number 0
  pub carries_out : CarriesOut M
  -- no row number but those of the list
  pub known_rows : KnownRows M last
  -- and each of them
  pub every_row : EveryRowTold M last
  -- the next record is not refused either
  pub keeps_well_formed : KeepsWellFormed M
  -- no message of ours is out of range
  pub sends_good : SendsGood M
  -- and the line that is sent reads as that message
  pub reads_back : ReadsBack M
  -- the rows that clear the record leave the cleared one
  pub clears : Clears M
  -- the timers that run are those that the commands leave
  pub timers_agree : TimersAgree M
  -- a change of state stops what is not started anew
  pub change_stops : ChangeStops M
  -- what just ran out is not stopped
  pub spares_ran_out : SparesRanOut M
  -- from every well-formed record some event leads to another state
  pub heeds : Heeds M
  -- and after any steps
  pub never_still : NeverStill M
  -- answers vary with the input, and with the record
  pub varies : Varies M

-- a build of the step meets the demands: its numbers are those of the table, a refusal and a discard change nothing, and rows hold
pub record MeetsDemands (M : Machine) (b : BuildOf M) : Type 0 where
  -- each number exactly when
  pub numbers : StepExactlyWhen (built_as M b)
  -- and nothing else then
  pub keeps : StepNothingChanges (built_as M b)
  -- rows hold, whatever well-formed record a step starts from
  pub rows : RowsHold (built_as M b)

-- what follows for a build that meets the demands
pub record ShutsOut (M : Machine) (last : ℕ) : Type 0 where
  -- it is the machine: in all its answers, and in every byte of the buffer
  pub one_build : (b : BuildOf M) → MeetsDemands M b → SameAs M b
  -- so from no well-formed record it refuses everything
  pub refusing : (b : BuildOf M) → MeetsDemands M b → RefusesAll M b → ⊥
  -- in what it does not refuse, its reply varies
  pub unvarying : (b : BuildOf M) → MeetsDemands M b → NeverVaries M b → ⊥
  -- from no well-formed record it discards every event
  pub discarding : (b : BuildOf M) → MeetsDemands M b → DiscardsAll M b → ⊥
  -- it does not obey a first event and stand still
  pub standing_still : (b : BuildOf M) → MeetsDemands M b → StandsStill M b → ⊥
  -- it has no row of its own
  pub making_up : (b : BuildOf M) → MeetsDemands M b → MakesUpRow M last b → ⊥

-- demand 2: lines, both machines, and what they shut out
pub record Demand2 : Type 0 where
  -- one frame, one line
  pub one_line : OneLine
  -- R1 to R29
  pub private_rows : ByTheRows private_machine last_private_row
  -- G1 to G11
  pub group_rows : ByTheRows group_machine last_group_row
  -- builds that R1 to R29 shut out
  pub private_shuts_out : ShutsOut private_machine last_private_row
  -- builds that G1 to G11 shut out
  pub group_shuts_out : ShutsOut group_machine last_group_row

-- ---- Demand 3: two cabs of one group in S3 that know of the same calls end in the same call, the best of them

-- demand 3: every build whose answers are those that the contract of the group step names does so, and of two lines the chooser gives that of the better call
pub record Demand3 : Type 0 where
  -- one cab ends in the best call that it knows of
  pub one_cab : (b : Build) → IsPromised b → BestCall b
  -- two cabs end in the same one
  pub two_cabs : (b : Build) → IsPromised b → SameCall b
  -- order, repeats, unreadable lines and other traffic count for nothing
  pub any_order : (b : Build) → IsPromised b → AnyOrder b
  -- a build that meets the first two demands meets this one
  pub from_the_others : (b : BuildOf group_machine) → MeetsDemands group_machine b → SameCall (as_step b)
  -- of two announcement lines the one handed back is that of the better call
  pub better_line : BetterGiven
  -- whichever is lent first
  pub either_first : EitherFirst
