-- The three demands over the contracts, to be read next, after Demands.antt of `demands`: whatever the contracts of the public functions allow is as the
-- demands say. Every κ stands for the lifetimes of what is lent, which change nothing; the words of the statements stand in OfContracts.antt and in
-- `demands`. Assumes nothing.
use Rattle.std.specs.Prelude.{◌≡◌, ◌⊎◌, ◌↔◌, List, [], ◌∷◌, ℕ, ◌≤◌, length, take, Some}
use contract.Lifetimes.{Lfts}
use Rattle.frame.specs.Frame.{kind_of, media_of, GoodFrame}
use Rattle.frame.specs.Layout.{line_of}
use Rattle.frame.specs.declared.Media.{Media}
use Rattle.frame.specs.declared.Message.{Message}
use Rattle.reader.specs.Line.{number_of, reading, refusal}
use Rattle.reader.specs.Line.{Reading}
use Rattle.reader.proofs.check_line.Reads as check-line
use Rattle.reader.proofs.read_line.Reads as read-line
use Rattle.writer.proofs.write_line.Reads as write-line
use Rattle.log_answer.specs.Answer.{answer_of}
use Rattle.log_answer.proofs.answer_log.Reads as answer-log
use Rattle.call.specs.declared.Settings.{Settings}
use Rattle.call.specs.declared.Input.{Input}
use Rattle.stepping.specs.Sending.{line_sent}
use Rattle.stepping.proofs.write_sent.Reads as write-sent
use Rattle.stepping.specs.Answer.{Answer}
use Rattle.private_record.specs.declared.states.Timers.{Timers}
use Rattle.private_record.specs.declared.states.PrivateRecord.{PrivateRecord}
use Rattle.private_call.proofs.step.Reads as step
use Rattle.chooser.specs.Choice.{place}
use Rattle.chooser.proofs.choose.Reads as choose
use Rattle.chooser.proofs.choose_number.Reads as choose-number
use Rattle.chooser.proofs.choice.Reads as choice
use Rattle.group_record.specs.declared.states.GroupRecord.{GroupRecord}
use Rattle.group_call.specs.Hearing.{HeardLine, Build, answer_to}
use Rattle.group_call.proofs.step.Reads as group-step
use Rattle.demands.specs.Machines.{Machine, Unrefused, line_to_send, ByRow, private_machine, group_machine}
use Rattle.demands.specs.ExactlyWhen.{GivenExactlyWhen, line_table, write_table, send_table, answer_table, choice_table, step_table}
use Rattle.demands.specs.NothingChanges.{NothingChanges, StepKeeps}
use Rattle.demands.specs.Consequences.{last_private_row, last_group_row}
use Rattle.demands.specs.Builds.{BuildOf, built_as}
use Rattle.demands.specs.Demands.{MeetsDemands, ByTheRows}
use Rattle.demands.specs.SameCall.{Cab, call_of, Knows, Together, Best, BestCall, SameCall, AnyOrder}
use Rattle.demands.specs.BetterLine.{ByBetterCall}
use Rattle.promises.specs.OfContracts.{Promises, Lent, OfLine, OfTwoLines, OfWriting, OfSending, OfLog, OfStep, CheckLineTells, ReadLineTells, WriteLineTells, WriteSentTells, AnswerLogTells, ChooseNumberTells, ChoiceTells, PrivateStepTells, GroupStepTells, MayRead, MayNumber, MayHandBack, StepBuild, Obeys}

-- ---- Demand 1: whatever comes in gets an answer; what is bad gets its number, and nothing else happens

-- a choice names the line that is handed back
pub record NamesLine (first second : Lent) (chosen : ℕ) (line : Lent) : Type 0 where
  -- it is 0, 1 or 2
  pub known : (chosen ≡ 0) ⊎ ((chosen ≡ 1) ⊎ (chosen ≡ 2))
  -- 1: the first line itself
  pub one : chosen ≡ 1 → place line ≡ place first
  -- 2: the second line itself
  pub two : chosen ≡ 2 → place line ≡ place second
  -- 0: no bytes, where the first line begins
  pub none : chosen ≡ 0 → place line ≡ (first.ref_ptr, [])

-- an answer of a step, and the buffer after it: each number exactly when, and nothing else then
abbrev pub Numbered : (M : Machine) → Settings → M.Stored → Input → List ℕ → Answer M.Stored M.Timers → List ℕ → Type 0
Numbered M s p i lent answer after = GivenExactlyWhen answer.number (step_table M s p i lent) × StepKeeps M s p i lent answer after

-- demand 1, function by function
pub record Demand1Kept : Type 0 where
  -- a line to check: each number exactly when
  pub by_check_line : (κ : Lfts 1) → Promises (check-line.Asked κ) (CheckLineTells κ) (OfLine (λ line number. GivenExactlyWhen number (line_table line)))
  -- a line to read: the same, and where it has a number there is neither message nor media
  pub by_read_line : (κ : Lfts 1) → Promises (read-line.Asked κ) (ReadLineTells κ)
      (OfLine (λ line answer. GivenExactlyWhen (number_of answer.read) (line_table line) × ((number_of answer.read ≡ 0 → ⊥) → answer ≡ refusal (number_of answer.read))))
  -- a frame to write: each number exactly when, and nothing else then
  pub by_write_line : (κ : Lfts 1) → Promises (write-line.Asked κ) (WriteLineTells κ)
      (OfWriting (λ m media lent told after. GivenExactlyWhen told.number (write_table m media lent) × NothingChanges (line_of m media) told lent after))
  -- what a step sends: the same
  pub by_write_sent : (κ : Lfts 1) → Promises (write-sent.Asked κ) (WriteSentTells κ)
      (OfSending (λ sent media lent told after. GivenExactlyWhen told.number (send_table sent media lent) × NothingChanges (line_sent sent media) told lent after))
  -- a log to answer: the same
  pub by_answer_log : (κ : Lfts 2) → Promises (answer-log.Asked κ) (AnswerLogTells κ)
      (OfLog (λ log lent told after. GivenExactlyWhen told.number (answer_table log lent) × NothingChanges (answer_of log) told lent after))
  -- two lines to choose between: each number of the question exactly when
  pub by_choose_number : (κ : Lfts 2) → Promises (choose-number.Asked κ) (ChooseNumberTells κ)
      (OfTwoLines (λ first second number. GivenExactlyWhen number (choice_table first.now second.now)))
  -- where the question has a number, no bytes are handed back, where the first line begins
  pub by_choose : (κ : Lfts 1) (κn : Lfts 2) → Promises (choose.Asked κ) (choose.Learnt κ)
      (OfTwoLines (λ first second line. (number : ℕ) → MayNumber κn first second number → (number ≡ 0 → ⊥) → place line ≡ (first.ref_ptr, [])))
  -- the choice is 0 exactly where the question has a number
  pub by_choice : (κ κn : Lfts 2) → Promises (choice.Asked κ) (ChoiceTells κ)
      (OfTwoLines (λ first second chosen. (number : ℕ) → MayNumber κn first second number → (chosen ≡ 0) ↔ (number ≡ 0 → ⊥)))
  -- and it names the line that is handed back
  pub choice_names : (κ : Lfts 2) (κc : Lfts 1) → Promises (choice.Asked κ) (ChoiceTells κ)
      (OfTwoLines (λ first second chosen. (line : Lent) → MayHandBack κc first second line → NamesLine first second chosen line))
  -- a step of the private call machine: each number exactly when, and nothing else then
  pub by_private_step : (κ : Lfts 1) → Promises (step.Asked κ) (PrivateStepTells κ) (OfStep (λ s p i lent r after. Numbered private_machine s p i lent r after))
  -- a step of the group call machine: the same
  pub by_group_step : (κ : Lfts 1) → Promises (group-step.Asked κ) (GroupStepTells κ) (OfStep (λ s g i lent r after. Numbered group_machine s g i lent r after))

-- ---- Demand 2: every step gives what the numbered rows say; a good message has one line, and no other line reads as it

-- an answer of a step, and the buffer after it: as the row that is met says
pub record ByItsRow (M : Machine) (last : ℕ) (s : Settings) (p : M.Stored) (i : Input) (lent : List ℕ) (answer : Answer M.Stored M.Timers) (after : List ℕ) : Type 0 where
  -- where nothing is refused and the line has room, the row that is met is carried out
  pub row_holds : Unrefused M s p i → length (line_to_send M s p i) ≤ length lent → ByRow M s p i lent answer after
  -- and so it is wherever the number is 0
  pub carried_out : answer.number ≡ 0 → ByRow M s p i lent answer after
  -- the row is one of the list, or 0
  pub known_row : answer.row ≤ last
  -- the reader gives back what the row sends: its message, and its media where the kind carries media
  pub reads_back : (κr : Lfts 1) (m : Message) (back : Reading) → answer.number ≡ 0 → M.sent s p i ≡ Some m → MayRead κr (take answer.length after) back
      → back ≡ reading m (media_of (kind_of m) (M.media s p i))
  -- a row that clears the record leaves the cleared one
  pub clears : M.Clearing answer.row → answer.next ≡ M.cleared

-- a build of a step, as one of its machine
abbrev pub as_build : (M : Machine) → StepBuild M.Stored (Answer M.Stored M.Timers) → BuildOf M
as_build M b = record { answer = λ s p i out. (b s p i out).0; after = λ s p i out. (b s p i out).1 }

-- a build meets the demands, and goes by the rows
abbrev pub BuildKeeps : (M : Machine) → ℕ → BuildOf M → Type 0
BuildKeeps M last b = MeetsDemands M b × ByTheRows (built_as M b) last

-- demand 2, function by function, and of whole builds
pub record Demand2Kept : Type 0 where
  -- what is read is a frame exactly if the frame is good and the bytes are its line
  pub one_line : (κ : Lfts 1) → Promises (read-line.Asked κ) (ReadLineTells κ)
      (OfLine (λ line answer. (m : Message) (media : Media) → (answer ≡ reading m media) ↔ ((line ≡ line_of m media) × GoodFrame m media)))
  -- a line that is written reads as the frame that was to be written, with its media where the kind carries media
  pub reads_back : (κ κr : Lfts 1) → Promises (write-line.Asked κ) (WriteLineTells κ)
      (OfWriting (λ m media lent told after. told.number ≡ 0 → (back : Reading) → MayRead κr (take told.length after) back → back ≡ reading m (media_of (kind_of m) media)))
  -- and a line that was read is written again as it was
  pub writes_back : (κ κr : Lfts 1) → Promises (write-line.Asked κ) (WriteLineTells κ)
      (OfWriting (λ m media lent told after. told.number ≡ 0 → (line : List ℕ) → MayRead κr line (reading m media) → take told.length after ≡ line))
  -- what is written for a step to send reads as the message that was to be sent, with its media where the kind carries media
  pub sent_reads_back : (κ κr : Lfts 1) → Promises (write-sent.Asked κ) (WriteSentTells κ)
      (OfSending (λ sent media lent told after. (m : Message) → sent ≡ Some m → told.number ≡ 0 → (back : Reading) → MayRead κr (take told.length after) back
      → back ≡ reading m (media_of (kind_of m) media)))
  -- a log that is one readable line is answered where the line has room, and the answer is that very line
  pub line_comes_back : (κ : Lfts 2) (κr : Lfts 1) → Promises (answer-log.Asked κ) (AnswerLogTells κ)
      (OfLog (λ log lent told after. (answer : Reading) → MayRead κr log answer → number_of answer.read ≡ 0
      → (length log ≤ length lent → told.number ≡ 0) × (told.number ≡ 0 → take told.length after ≡ log)))
  -- R1 to R29, step by step
  pub private_step : (κ : Lfts 1) → Promises (step.Asked κ) (PrivateStepTells κ) (OfStep (λ s p i lent r after. ByItsRow private_machine last_private_row s p i lent r after))
  -- G1 to G11, step by step
  pub group_step : (κ : Lfts 1) → Promises (group-step.Asked κ) (GroupStepTells κ) (OfStep (λ s g i lent r after. ByItsRow group_machine last_group_row s g i lent r after))
  -- every build that the contract of the private step allows, and there are some, meets the demands and goes by the rows
  pub private_builds : (κ : Lfts 1) (b : StepBuild PrivateRecord (Answer PrivateRecord Timers)) → Obeys (PrivateStepTells κ) b → BuildKeeps private_machine last_private_row (as_build private_machine b)
  -- so does every build that the contract of the group step allows
  pub group_builds : (κ : Lfts 1) (b : Build) → Obeys (GroupStepTells κ) b → BuildKeeps group_machine last_group_row (as_build group_machine b)

-- ---- Demand 3: two cabs of one group in S3 that know of the same calls end in the same call, the best of them

-- the record of a cab after its lines, by a reader and a build of the step
abbrev pub end_by : (List ℕ → Reading) → Build → Settings → GroupRecord → List HeardLine → GroupRecord
end_by reads b s g [] = g
end_by reads b s g (x ∷ xs) = end_by reads b s (answer_to b s g (reads x.line).read (reads x.line).media x.verdicts x.lent).0.next xs

-- demand 3, of every build of the group step and every reader that the contracts allow, and of the chooser
pub record Demand3Kept : Type 0 where
  -- one cab ends in the best call that it knows of
  pub one_cab : (κ : Lfts 1) (b : Build) → Obeys (GroupStepTells κ) b → BestCall b
  -- two cabs that know of the same calls end in the same one
  pub two_cabs : (κ : Lfts 1) (b : Build) → Obeys (GroupStepTells κ) b → SameCall b
  -- order, repeats, unreadable lines and other traffic count for nothing
  pub any_order : (κ : Lfts 1) (b : Build) → Obeys (GroupStepTells κ) b → AnyOrder b
  -- with every reader that the contract of `read_line` allows two cabs end with one record, whose call is the best that they know of
  pub by_reader : (κ κr : Lfts 1) (b : Build) (reads : List ℕ → Reading) → Obeys (GroupStepTells κ) b → ((line : List ℕ) → MayRead κr line (reads line))
      → (x y : Cab) → Together x y → let end : Cab → GroupRecord = λ z. end_by reads b z.settings z.stored z.lines in
      (end x ≡ end y) × Best (Knows x) (call_of (end x))
  -- where `choose_number` may tell 0, the line that `choose` may hand back is that of the better call, itself
  pub better_line : (κ : Lfts 1) (κn : Lfts 2) → Promises (choose.Asked κ) (choose.Learnt κ)
      (OfTwoLines (λ first second line. MayNumber κn first second 0 → ByBetterCall first second (place line ≡ place first) (place line ≡ place second)))
  -- where it may tell 0, the number that `choice` may tell is 1 or 2, by the better call
  pub better_choice : (κ κn : Lfts 2) → Promises (choice.Asked κ) (ChoiceTells κ)
      (OfTwoLines (λ first second chosen. MayNumber κn first second 0 → ByBetterCall first second (chosen ≡ 1) (chosen ≡ 2)))
  -- and the line handed back is the same one, whichever of the two is lent first
  pub either_first : (κc : Lfts 1) (κn : Lfts 2) (first second line other : Lent) → MayNumber κn first second 0 → MayHandBack κc first second line
      → MayHandBack κc second first other → place line ≡ place other
