-- A call machine, what is asked of the steps of every one, and the two that there are. Assumes nothing.
use Rattle.std.specs.Prelude.{◌≡◌, ◌⊎◌, List, Bool, true, false, not, ◌&&◌, ◌||◌, ℕ, ◌≤◌, length, take, Some, Option}
use Rattle.frame.specs.Frame.{kind_of, media_of, in_range}
use Rattle.frame.specs.declared.Media.{Media}
use Rattle.frame.specs.declared.Message.{Message}
use Rattle.reader.specs.Line.{reading, read_line}
use Rattle.writer.specs.Lent.{at_front}
use Rattle.call.specs.Settings.{settings_good}
use Rattle.call.specs.Request.{request_of}
use Rattle.call.specs.Announced.{announced_of}
use Rattle.call.specs.declared.Settings.{Settings}
use Rattle.call.specs.declared.PrivateTimer.{PrivateTimer}
use Rattle.call.specs.declared.GroupTimer.{GroupTimer}
use Rattle.call.specs.declared.Event.{Event}
use Rattle.call.specs.declared.Input.{Input}
use Rattle.stepping.specs.Numbers.{heard_good, arguments_good}
use Rattle.stepping.specs.Sending.{line_sent}
use Rattle.private_record.specs.Phases as Phases
use Rattle.private_record.specs.Formed as Formed
use Rattle.private_record.specs.declared.states.Timers as PrivateTimers
use Rattle.private_record.specs.declared.states.PrivateRecord.{PrivateRecord}
use Rattle.private_rows.specs.Rows.{row_of}
use Rattle.private_rows.specs.declared.Row.TheVariants.{R1}
use Rattle.private_call.specs.Carried as Carried
use Rattle.private_call.specs.Step.{done_of, answer_met, step_of, step_buffer}
use Rattle.stepping.specs.Answer.{Answer}
use Rattle.group_record.specs.States as GroupStates
use Rattle.group_record.specs.Formed as GroupFormed
use Rattle.group_record.specs.declared.states.Timers as GroupTimers
use Rattle.group_record.specs.declared.states.GroupRecord.{GroupRecord}
use Rattle.group_rows.specs.Rows as GroupRows
use Rattle.group_rows.specs.declared.Row.TheVariants.{G9}
use Rattle.group_call.specs.Carried as GroupCarried
use Rattle.group_call.specs.Step as GroupStep

-- ---- a machine

-- a call machine
pub record Machine : Type 1 where
  -- its records
  pub Stored : Type 0
  -- its sets of timers
  pub Timers : Type 0
  -- its timers
  pub Timer : Type 0
  -- whether a timer is in a set
  pub has : Timers → Timer → Bool
  -- no timer
  pub no_timer : Timers
  -- what runs
  pub running : Stored → Timers
  -- whether the states of two records differ
  pub changes : Stored → Stored → Bool
  -- the timer that just ran out
  pub ran_out_by : Event → Timers
  -- a record is well formed under the settings
  pub is_well_formed : Settings → Stored → Bool
  -- the cleared record
  pub cleared : Stored
  -- the rows that clear the record
  pub Clearing : ℕ → Type 0
  -- the row that is met refuses, with 8
  pub RefusedByRow : Settings → Stored → Input → Type 0
  -- what the row that is met sends
  pub sent : Settings → Stored → Input → Option Message
  -- the media that stands beside it: that of the next record
  pub media : Settings → Stored → Input → Media
  -- the answer that the row that is met asks for: row 0 changes nothing, any other row is carried out, with the length of its line
  pub carried : Settings → Stored → Input → Answer Stored Timers
  -- the answer of a step with a lent buffer
  pub step : Settings → Stored → Input → List ℕ → Answer Stored Timers
  -- the buffer after it
  pub buffer : Settings → Stored → Input → List ℕ → List ℕ

-- the line that the row that is met sends, no bytes where it sends nothing
abbrev pub line_to_send : (M : Machine) → Settings → M.Stored → Input → List ℕ
line_to_send M s p i = line_sent (M.sent s p i) (M.media s p i)

-- a refusal: the record as it was, row 0, no timer, length 0
abbrev pub refused_by : (M : Machine) → ℕ → M.Stored → Answer M.Stored M.Timers
refused_by M number p = record { number = number; row = 0; next = p; stop = M.no_timer; start = M.no_timer; length = 0 }

-- an input is refused with this number: nothing changes, and every byte of the buffer is as lent
abbrev pub IsRefused : (M : Machine) → ℕ → Settings → M.Stored → Input → List ℕ → Type 0
IsRefused M number s p i out = (M.step s p i out ≡ refused_by M number p) × (M.buffer s p i out ≡ out)

-- an input is discarded: number 0, row 0, the record as it was, no timer, length 0, and every byte of the buffer as lent
abbrev pub IsDiscarded : (M : Machine) → Settings → M.Stored → Input → List ℕ → Type 0
IsDiscarded M s p i out = IsRefused M 0 s p i out

-- ---- what is asked of the steps of a machine

-- nothing ahead of sending is refused, be it with 7, 9, 5 or 8
pub record Unrefused (M : Machine) (s : Settings) (p : M.Stored) (i : Input) : Type 0 where
  -- no 7
  pub settings : settings_good s ≡ true
  -- no 9
  pub formed : M.is_well_formed s p ≡ true
  -- no 5
  pub message : heard_good i.event i.media ≡ true
  -- no 8
  pub arguments : arguments_good s i.event i.media ≡ true
  -- nor the 8 of a row
  pub row : M.RefusedByRow s p i → ⊥

-- an answer, and the buffer after it, as the row that is met says: row, next record, timers to stop, then to start, and its line at the front of the buffer
abbrev pub ByRow : (M : Machine) → Settings → M.Stored → Input → List ℕ → Answer M.Stored M.Timers → List ℕ → Type 0
ByRow M s p i lent answer after = (answer ≡ M.carried s p i) × (after ≡ at_front (line_to_send M s p i) lent)

-- a step answers so
abbrev pub AnswersByRow : (M : Machine) → Settings → M.Stored → Input → List ℕ → Type 0
AnswersByRow M s p i out = ByRow M s p i out (M.step s p i out) (M.buffer s p i out)

-- a step with number 0 answers so
abbrev pub CarriesOut : Machine → Type 0
CarriesOut M = (s : Settings) (p : M.Stored) (i : Input) (out : List ℕ) → (M.step s p i out).number ≡ 0 → AnswersByRow M s p i out

-- so does every step from good settings and a well-formed record whose input is not refused and whose line has room
abbrev pub RowsHold : Machine → Type 0
RowsHold M =
    (s : Settings) (p : M.Stored) (i : Input) (out : List ℕ) → Unrefused M s p i → length (line_to_send M s p i) ≤ length out → AnswersByRow M s p i out

-- from good settings and a well-formed record, whatever the input and the buffer, the next record is well formed
abbrev pub KeepsWellFormed : Machine → Type 0
KeepsWellFormed M =
    (s : Settings) (p : M.Stored) (i : Input) (out : List ℕ) → settings_good s ≡ true → M.is_well_formed s p ≡ true
    → M.is_well_formed s (M.step s p i out).next ≡ true

-- where nothing ahead of sending is refused, the message that is sent is in range
abbrev pub SendsGood : Machine → Type 0
SendsGood M =
    (s : Settings) (p : M.Stored) (i : Input) → Unrefused M s p i → (m : Message) → M.sent s p i ≡ Some m → in_range m (M.media s p i) ≡ true

-- the line that is left at the front of the buffer reads as the message that the row sends, with its media where the kind carries media
abbrev pub FrontReads : (M : Machine) → Settings → M.Stored → Input → Answer M.Stored M.Timers → List ℕ → Type 0
FrontReads M s p i answer after =
    (m : Message) → answer.number ≡ 0 → M.sent s p i ≡ Some m
    → read_line (take answer.length after) ≡ reading m (media_of (kind_of m) (M.media s p i))

-- so does that of every step
abbrev pub ReadsBack : Machine → Type 0
ReadsBack M = (s : Settings) (p : M.Stored) (i : Input) (out : List ℕ) → FrontReads M s p i (M.step s p i out) (M.buffer s p i out)

-- a step that tells a clearing row leaves the cleared record
abbrev pub Clears : Machine → Type 0
Clears M = (s : Settings) (p : M.Stored) (i : Input) (out : List ℕ) → M.Clearing (M.step s p i out).row → (M.step s p i out).next ≡ M.cleared

-- a timer runs after a step that is not refused exactly if it was started, or ran before and was neither stopped nor ran out
abbrev pub TimersAgree : Machine → Type 0
TimersAgree M =
    (s : Settings) (p : M.Stored) (i : Input) (out : List ℕ) → (M.step s p i out).number ≡ 0 → (t : M.Timer) → let result = M.step s p i out in
    let ran = M.has (M.running p) t in
    let ran_out_by = M.has (M.ran_out_by i.event) t in
    let stopped = M.has result.stop t in
    let started = M.has result.start t in
    M.has (M.running result.next) t ≡ (started || (ran && (not stopped && not ran_out_by)))

-- leaving a state stops each timer that runs there, if it is not started anew and did not just run out
abbrev pub ChangeStops : Machine → Type 0
ChangeStops M =
    (s : Settings) (p : M.Stored) (i : Input) (out : List ℕ) → (M.step s p i out).number ≡ 0 → (t : M.Timer)
    → M.changes p (M.step s p i out).next ≡ true → M.has (M.running p) t ≡ true → M.has (M.step s p i out).start t ≡ false
    → M.has (M.ran_out_by i.event) t ≡ false → M.has (M.step s p i out).stop t ≡ true

-- no step stops the timer whose expiry it is about
abbrev pub SparesRanOut : Machine → Type 0
SparesRanOut M =
    (s : Settings) (p : M.Stored) (i : Input) (out : List ℕ) → (M.step s p i out).number ≡ 0 → (t : M.Timer)
    → M.has (M.ran_out_by i.event) t ≡ true → M.has (M.step s p i out).stop t ≡ false

-- ---- the private call machine

-- 8 of a row: all that R1 asks holds, and the identifier that the user names is the stored one
abbrev pub IdentifierStored : Settings → PrivateRecord → Input → Type 0
IdentifierStored s p i = (row_of s p i ≡ (Some R1)) × ((request_of s i.event).parties.identifier ≡ p.call.parties.identifier)

-- the machine
abbrev pub private_machine : Machine
private_machine =
    record {
      Stored = PrivateRecord;
      Timers = PrivateTimers.Timers;
      Timer = PrivateTimer;
      has = Phases.has;
      no_timer = Phases.no_timer;
      running = λ p. p.running;
      changes = λ p q. Carried.changes p.state q.state;
      ran_out_by = Carried.ran_out_by;
      is_well_formed = Formed.is_well_formed;
      cleared = Formed.cleared_record;
      Clearing = λ row. row ≡ 28;
      RefusedByRow = IdentifierStored;
      sent = λ s p i. (done_of s p i).sent;
      media = λ s p i. (done_of s p i).next.call.media;
      carried = answer_met;
      step = step_of;
      buffer = step_buffer;
    }

-- ---- the group call machine

-- 8 of a row: all that G9 asks holds, and now is not above the stored time of the last change
abbrev pub ChangeNotLater : Settings → GroupRecord → Input → Type 0
ChangeNotLater s g i = (GroupRows.row_of s g i.event ≡ (Some G9)) × ((announced_of s i.event).call.last_change ≤ g.call.last_change)

-- the machine
abbrev pub group_machine : Machine
group_machine =
    record {
      Stored = GroupRecord;
      Timers = GroupTimers.Timers;
      Timer = GroupTimer;
      has = GroupStates.has;
      no_timer = GroupStates.no_timer;
      running = λ g. g.running;
      changes = λ g h. GroupCarried.changes g.state h.state;
      ran_out_by = GroupCarried.ran_out_by;
      is_well_formed = GroupFormed.is_well_formed;
      cleared = GroupFormed.cleared_record;
      Clearing = λ row. (row ≡ 7) ⊎ (row ≡ 8);
      RefusedByRow = ChangeNotLater;
      sent = λ s g i. (GroupStep.done_of s g i).sent;
      media = λ s g i. (GroupStep.done_of s g i).next.media;
      carried = GroupStep.answer_met;
      step = GroupStep.step_of;
      buffer = GroupStep.step_buffer;
    }
