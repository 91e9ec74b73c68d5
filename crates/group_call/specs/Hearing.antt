-- A cab in an ongoing call, and what comes in: inputs, and lines as they are heard. Assumes nothing.
use Rattle.std.specs.Prelude.{ℕ, List, [], ◌∷◌}
use Rattle.frame.specs.declared.Media.{Media}
use Rattle.frame.specs.declared.GroupCall.{GroupCall}
use Rattle.frame.specs.declared.Message.TheVariants.{Announcement}
use Rattle.reader.specs.Line.{Read, Readable, Refused, read_line}
use Rattle.call.specs.declared.Settings.{Settings}
use Rattle.call.specs.declared.Verdicts.{Verdicts}
use Rattle.call.specs.declared.GroupTimer.{GroupTimer}
use Rattle.call.specs.declared.Timer.{Timer}
use Rattle.call.specs.declared.Event.{Event}
use Rattle.call.specs.declared.Input.{Input}
use Rattle.stepping.specs.Answer.{Answer}
use Rattle.group_record.specs.States.{tfg2_and6}
use Rattle.group_record.specs.declared.states.State.{State}
use Rattle.group_record.specs.declared.states.Timers.{Timers}
use Rattle.group_record.specs.declared.states.GroupRecord.{GroupRecord}
use Rattle.group_call.specs.Step.{refused_of, step_of, step_buffer}

-- ---- inputs

-- a record in S3 that holds this call
abbrev pub ongoing : GroupCall → Media → GroupRecord
ongoing call media = record { state = State.S3; running = tfg2_and6; call = call; media = media }

-- an event, with media and verdicts beside it
abbrev pub input_of : Event → Media → Verdicts → Input
input_of e media v = record { event = e; media = media; verdicts = v }

-- an announcement is heard, with any verdicts beside it
abbrev pub hears : GroupCall → ℕ → Media → Verdicts → Input
hears call confirm media v = input_of (Event.Message (Announcement call confirm)) media v

-- the expiry of a timer, with any media and verdicts beside it
abbrev pub expiry : GroupTimer → Media → Verdicts → Input
expiry t media v = input_of (Event.Expiry (Timer.Group t)) media v

-- ---- lines

-- a line that is heard, as bytes, with the host's verdicts and the buffer that is lent for an answer
pub record HeardLine : Type 0 where
  -- its bytes
  pub line : List ℕ
  -- the host's verdicts
  pub verdicts : Verdicts
  -- the buffer lent
  pub lent : List ℕ

-- a build of the step: for all settings, records, inputs and lent buffers an answer, and the buffer after it
abbrev pub Build : Type 0
Build = Settings → GroupRecord → Input → List ℕ → Answer GroupRecord Timers × List ℕ

-- the build that the contract of the step allows
abbrev pub promised : Build
promised s g i out = (step_of s g i out, step_buffer s g i out)

-- the answer to what was read: the step's to a message; a line that was refused has its number, and changes nothing
abbrev pub answer_to : Build → Settings → GroupRecord → Read → Media → Verdicts → List ℕ → Answer GroupRecord Timers × List ℕ
answer_to b s g (Readable m) media v out = b s g (input_of (Event.Message m) media v) out
answer_to b s g (Refused n) media v out = (refused_of n g, out)

-- the answer to a line that is heard: it is read, and what was read is answered
abbrev pub answer_hearing : Build → Settings → GroupRecord → HeardLine → Answer GroupRecord Timers × List ℕ
answer_hearing b s g x = answer_to b s g (read_line x.line).read (read_line x.line).media x.verdicts x.lent

-- the record after a line
abbrev pub hear : Build → Settings → GroupRecord → HeardLine → GroupRecord
hear b s g x = (answer_hearing b s g x).0.next

-- the record after all lines, one after the other
abbrev pub hear_all : Build → Settings → GroupRecord → List HeardLine → GroupRecord
hear_all b s g [] = g
hear_all b s g (x ∷ xs) = hear_all b s (hear b s g x) xs
