-- What a contract promises, in the names of what is handed over, and what it allows. Assumes nothing.
use Rattle.std.specs.Prelude.{◌≡◌, List, ℕ, Option}
use Rattle.std.specs.Borrow.{Bor, MutBor}
use contract.Lifetimes.{Lfts}
use Rattle.frame.specs.Refusal.{number_of}
use Rattle.frame.specs.declared.Media.{Media}
use Rattle.frame.specs.declared.Message.{Message}
use Rattle.frame.specs.declared.Frame.{Frame}
use Rattle.reader.specs.Line.{Reading, reading_of}
use Rattle.reader.proofs.check_line.Reads as check-line
use Rattle.reader.proofs.read_line.Reads as read-line
use Rattle.writer.specs.Lent.{Written, told_by}
use Rattle.writer.proofs.write_line.Reads as write-line
use Rattle.log_answer.proofs.answer_log.Reads as answer-log
use Rattle.call.specs.declared.Settings.{Settings}
use Rattle.call.specs.declared.Input.{Input}
use Rattle.stepping.specs.Answer.{Answer}
use Rattle.stepping.proofs.write_sent.Reads as write-sent
use Rattle.private_record.specs.declared.states.Timers as PrivateTimers
use Rattle.private_record.specs.declared.states.PrivateRecord.{PrivateRecord}
use Rattle.private_call.specs.Step as PrivateStep
use Rattle.private_call.proofs.step.Reads as step
use Rattle.chooser.specs.Choice.{chosen_number}
use Rattle.chooser.proofs.choice.Reads as choice
use Rattle.chooser.proofs.choose.Reads as choose
use Rattle.chooser.proofs.choose_number.Reads as choose-number
use Rattle.group_record.specs.declared.states.Timers as GroupTimers
use Rattle.group_record.specs.declared.states.GroupRecord.{GroupRecord}
use Rattle.group_call.specs.Step as GroupStep
use Rattle.group_call.proofs.step.Reads as group-step

-- ---- what a contract promises

-- A contract by its own reading: what it asks of the arguments (`Asked`), and what it says of the arguments, the result or what it tells, and the
-- arguments at exit (`Learnt`). It promises something (`Promised`) where it asks nothing, allows some result and exit, and whatever it allows is so.
pub record Promises {A R T : Type 0} (Asked : A → Type 0) (Learnt Promised : A → R → T → Type 0) : Type 0 where
  -- nothing is asked: whatever comes in gets an answer
  pub asks_nothing : (a : A) → Asked a
  -- some result and exit are allowed, whatever comes in
  pub allows_some : (a : A) → (r : R) × (t : T) × Learnt a r t
  -- and every result and exit that are allowed are so
  pub and_so : (a : A) (r : R) (t : T) → Learnt a r t → Promised a r t

-- bytes that are lent to be read
abbrev pub Lent : Type 0
Lent = Bor (List ℕ)

-- a buffer: bytes that are lent to be written
abbrev pub Buffer : Type 0
Buffer = MutBor (List ℕ)

-- said of a line that is lent to be read, and of what is told
abbrev pub OfLine : {R T : Type 0} → (List ℕ → R → Type 0) → Lent × Unit {0} → R → T → Type 0
OfLine P a r t = let line = a.0.now in P line r

-- said of two lines that are lent to be read, each with its place, and of what is told
abbrev pub OfTwoLines : {R T : Type 0} → (Lent → Lent → R → Type 0) → Lent × (Lent × Unit {0}) → R → T → Type 0
OfTwoLines P a r t =
    let first = a.0 in
    let second = a.1.0 in P first second r

-- what a writer is handed: a frame, and a lent buffer
abbrev pub ToWrite : Type 0
ToWrite = Frame × (Buffer × Unit {0})

-- said of a message that is to be written and its media, of the bytes lent, of what is told, and of the bytes afterwards
abbrev pub OfWriting : {R : Type 0} → (Message → Media → List ℕ → R → List ℕ → Type 0) → ToWrite → R → ToWrite → Type 0
OfWriting P a r t =
    let message = a.0.message in
    let media = a.0.media in
    let lent = a.1.0.now in
    let after = t.1.0.now in P message media lent r after

-- what is handed over where a step sends: a message or none, the media beside it, and a lent buffer
abbrev pub ToSend : Type 0
ToSend = Option Message × (Media × (Buffer × Unit {0}))

-- said of what is to be sent and its media, of the bytes lent, of what is told, and of the bytes afterwards
abbrev pub OfSending : {R : Type 0} → (Option Message → Media → List ℕ → R → List ℕ → Type 0) → ToSend → R → ToSend → Type 0
OfSending P a r t =
    let sent = a.0 in
    let media = a.1.0 in
    let lent = a.1.1.0.now in
    let after = t.1.1.0.now in P sent media lent r after

-- said of a log, of the bytes lent, of what is told, and of the bytes afterwards
abbrev pub OfLog : {R : Type 0} → (List ℕ → List ℕ → R → List ℕ → Type 0) → Lent × (Buffer × Unit {0}) → R → Lent × (Buffer × Unit {0}) → Type 0
OfLog P a r t =
    let log = a.0.now in
    let lent = a.1.0.now in
    let after = t.1.0.now in P log lent r after

-- what a step is handed: settings, a record, an input, and a lent buffer
abbrev pub ToStep : Type 0 → Type 0
ToStep Stored = Settings × (Stored × (Input × (Buffer × Unit {0})))

-- the bytes of that buffer
abbrev pub buffer_of_step : {Stored : Type 0} → ToStep Stored → List ℕ
buffer_of_step a = a.1.1.1.0.now

-- said of settings, record, input and the bytes lent, of the answer, and of the bytes afterwards
abbrev pub OfStep : {Stored R : Type 0} → (Settings → Stored → Input → List ℕ → R → List ℕ → Type 0) → ToStep Stored → R → ToStep Stored → Type 0
OfStep P a r t =
    let settings = a.0 in
    let stored = a.1.0 in
    let input = a.1.1.0 in P settings stored input (buffer_of_step a) r (buffer_of_step t)

-- ---- what a contract says of what its results tell

-- The demands speak of what results tell, in numbers and words of the rules (`told`): a contract allows this to be told (`what`) where it allows a
-- result that tells it.
pub record Tells {A R S T : Type 0} (told : A → R → S) (Learnt : A → R → T → Type 0) (a : A) (what : S) (t : T) : Type 0 where
  -- a result
  pub result : R
  -- it tells this
  pub tells : told a result ≡ what
  -- and the contract allows it
  pub learnt : Learnt a result t

-- `check_line`: a number, 0 where the line is readable
abbrev pub CheckLineTells : Lfts 1 → Lent × Unit {0} → ℕ → Lent × Unit {0} → Type 0
CheckLineTells κ = Tells (λ a r. number_of r) (check-line.Learnt κ)

-- `read_line`: a message with its media, or a number and no media
abbrev pub ReadLineTells : Lfts 1 → Lent × Unit {0} → Reading → Lent × Unit {0} → Type 0
ReadLineTells κ = Tells (λ a r. reading_of r) (read-line.Learnt κ)

-- `write_line`: a number and a length
abbrev pub WriteLineTells : Lfts 1 → ToWrite → Written → ToWrite → Type 0
WriteLineTells κ = Tells (λ a r. told_by r) (write-line.Learnt κ)

-- `write_sent`: the same
abbrev pub WriteSentTells : Lfts 1 → ToSend → Written → ToSend → Type 0
WriteSentTells κ = Tells (λ a r. told_by r) (write-sent.Learnt κ)

-- `answer_log`: the same
abbrev pub AnswerLogTells : Lfts 2 → Lent × (Buffer × Unit {0}) → Written → Lent × (Buffer × Unit {0}) → Type 0
AnswerLogTells κ = Tells (λ a r. told_by r) (answer-log.Learnt κ)

-- `choose_number`: a number, 0 where there is a choice
abbrev pub ChooseNumberTells : Lfts 2 → Lent × (Lent × Unit {0}) → ℕ → Lent × (Lent × Unit {0}) → Type 0
ChooseNumberTells κ = Tells (λ a r. number_of r) (choose-number.Learnt κ)

-- `choice`: 1, 2 or 0
abbrev pub ChoiceTells : Lfts 2 → Lent × (Lent × Unit {0}) → ℕ → Lent × (Lent × Unit {0}) → Type 0
ChoiceTells κ = Tells (λ a r. chosen_number r) (choice.Learnt κ)

-- the step of the private call machine: an answer, from the record that it is handed
abbrev pub PrivateStepTells : Lfts 1 → ToStep PrivateRecord → Answer PrivateRecord PrivateTimers.Timers → ToStep PrivateRecord → Type 0
PrivateStepTells κ = Tells (λ a r. PrivateStep.answer_told a.1.0 r) (step.Learnt κ)

-- the step of the group call machine: the same
abbrev pub GroupStepTells : Lfts 1 → ToStep GroupRecord → Answer GroupRecord GroupTimers.Timers → ToStep GroupRecord → Type 0
GroupStepTells κ = Tells (λ a r. GroupStep.answer_told a.1.0 r) (group-step.Learnt κ)

-- ---- what a contract allows

-- the reader's contract allows this reading of a line
abbrev pub MayRead : Lfts 1 → List ℕ → Reading → Type 0
MayRead κ line answer = (lent : Lent) × (exit : _) × (lent.now ≡ line) × ReadLineTells κ (lent, tt) answer exit

-- the contract of `choose_number` allows this number for two lines
abbrev pub MayNumber : Lfts 2 → Lent → Lent → ℕ → Type 0
MayNumber κ first second number = (exit : _) × ChooseNumberTells κ (first, (second, tt)) number exit

-- the contract of `choose` allows this line to be handed back, of two
abbrev pub MayHandBack : Lfts 1 → Lent → Lent → Lent → Type 0
MayHandBack κ first second line = (exit : _) × choose.Learnt κ (first, (second, tt)) line exit

-- the contract of a step allows this answer, and these bytes afterwards, for these settings, this record, this input and these bytes lent
abbrev pub MayStep : {Stored R : Type 0} → (ToStep Stored → R → ToStep Stored → Type 0) → Settings → Stored → Input → List ℕ → R → List ℕ → Type 0
MayStep {Stored} Learnt s p i bytes answer after =
    (lent : Buffer) × (exit : ToStep Stored) × (lent.now ≡ bytes) × Learnt (s, (p, (i, (lent, tt)))) answer exit × (buffer_of_step exit ≡ after)

-- ---- builds of a step

-- for all settings, records, inputs and lent buffers an answer, and the buffer after it
abbrev pub StepBuild : Type 0 → Type 0 → Type 0
StepBuild Stored R = Settings → Stored → Input → List ℕ → R × List ℕ

-- the contract allows its every answer
abbrev pub Obeys : {Stored R : Type 0} → (ToStep Stored → R → ToStep Stored → Type 0) → StepBuild Stored R → Type 0
Obeys {Stored} Learnt b = (s : Settings) (p : Stored) (i : Input) (out : List ℕ) → MayStep Learnt s p i out (b s p i out).0 (b s p i out).1
