-- Whatever comes in, each contract that the demands speak of allows some result and exit. Assumes nothing.
use mathlib.Core.Path.{◌≡◌, refl}
use mathlib.Core.List.{List}
use mathlib.Core.Bool.{Bool, true, false}
use Prim.Native.Nat.{ℕ}
use lib.Dec.{leb}
use lib.ListN.{length}
use contract.Lifetimes.{Lfts}
use Rattle.std.specs.Prelude.{Result, Ok, Err}
use Rattle.frame.specs.declared.refusal.Refusal.{Refusal}
use Rattle.frame.specs.declared.refusal.Refusal.TheVariants.{NoRoom}
use Rattle.reader.specs.Line.{read_line, Reading}
use Rattle.reader.proofs.check_line.Reads as check-line
use Rattle.reader.proofs.read_line.Reads as read-line
use Rattle.writer.specs.Lent.{at_front, told_by}
use Rattle.writer.specs.Writing.{written_of, write_number, buffer_of}
use Rattle.frame.specs.Layout.{line_of}
use Rattle.frame.specs.declared.Media.{Media}
use Rattle.frame.specs.declared.Message.{Message}
use Rattle.writer.proofs.write_line.Reads as write-line
use Rattle.log_answer.specs.Answer.{answer_of}
use Rattle.log_answer.proofs.Room.{Gives, no_room, room}
use Rattle.log_answer.proofs.answer_log.Reads as answer-log
use Rattle.call.specs.declared.Settings.{Settings}
use Rattle.call.specs.declared.Input.{Input}
use Rattle.stepping.specs.Sending.{send_number, line_sent, send_buffer}
use Rattle.stepping.proofs.write_sent.Reads as write-sent
use Rattle.private_call.specs.Step.{step_buffer}
use Rattle.private_call.proofs.step.Reads as step
use Rattle.chooser.specs.Choice.{choice_of, place_of}
use Rattle.chooser.proofs.choose.Reads as choose
use Rattle.chooser.proofs.choose_number.Reads as choose-number
use Rattle.chooser.proofs.choice.Reads as choice
use Rattle.group_call.specs.Step as GroupStep
use Rattle.group_call.proofs.step.Reads as group-step
use Rattle.promises.specs.OfContracts.{Promises, Lent, Buffer, ToWrite, ToSend, ToStep, buffer_of_step, MayRead, StepBuild, Obeys}
use Rattle.promises.proofs.Telling.{line-told, write-told, send-told, choice-number-told, reading-told, written-told, choice-told, private-step-told, group-step-told}

-- bytes that are lent, somewhere
abbrev lent_at : List ℕ → Lent
lent_at bytes = record { ref_ptr = (0, 0); now = bytes }

-- a buffer with these bytes, somewhere
abbrev buffer_at : List ℕ → Buffer
buffer_at bytes = record { ref_ptr = (0, 0); ghost_name = 0; now = bytes }

-- a buffer, with other bytes in it
abbrev holding : Buffer → List ℕ → Buffer
holding lent bytes = record { ref_ptr = lent.ref_ptr; ghost_name = lent.ghost_name; now = bytes }

-- what a writer was handed, with other bytes in the buffer
abbrev written_in : ToWrite → List ℕ → ToWrite
written_in a bytes = (a.0, (holding a.1.0 bytes, tt))

-- what was handed over where a step sends, with other bytes in the buffer
abbrev sent_in : ToSend → List ℕ → ToSend
sent_in a bytes = (a.0, (a.1.0, (holding a.1.1.0 bytes, tt)))

-- what a step was handed, with other bytes in the buffer
abbrev stepped_in : {Stored : Type 0} → ToStep Stored → List ℕ → ToStep Stored
stepped_in a bytes = (a.0, (a.1.0, (a.1.1.0, (holding a.1.1.1.0 bytes, tt))))

-- what is answered of a log, and the buffer then, with room and without
log-answered : (log lent : List ℕ) → (r : Result ℕ Refusal) × (after : List ℕ) × Gives log lent (told_by r) after
log-answered log lent = go (leb (length (answer_of log)) (length lent)) refl
  where
    go : (b : Bool) → leb (length (answer_of log)) (length lent) ≡ b → (r : Result ℕ Refusal) × (after : List ℕ) × Gives log lent (told_by r) after
    go true e = (Ok (length (answer_of log)), at_front (answer_of log) lent, room log lent _ _ e refl refl)
    go false e = (Err NoRoom, lent, no_room log lent e)

-- what is answered of a frame to write
frame-written : (m : Message) (media : Media) (out : List ℕ) → (r : Result ℕ Refusal) × (told_by r ≡ written_of m media out)
unfolding written_of
frame-written m media out = written-told (line_of m media) (write_number m media out) (write-told m media out)

-- `check_line` allows a result
pub check-line-allows : (κ : Lfts 1) (a : _) → (r : _) × (t : _) × check-line.Learnt κ a r t
check-line-allows κ a = let (r, e) = line-told a.0.now in (r, a, e)

-- `read_line` allows one
pub read-line-allows : (κ : Lfts 1) (a : _) → (r : _) × (t : _) × read-line.Learnt κ a r t
read-line-allows κ a = let (r, e) = reading-told a.0.now in (r, a, e)

-- `write_line` allows one, and a buffer
pub write-line-allows : (κ : Lfts 1) (a : _) → (r : _) × (t : _) × write-line.Learnt κ a r t
write-line-allows κ a =
    let m = a.0.message in
    let media = a.0.media in
    let lent = a.1.0.now in
    let (r, e) = frame-written m media lent in (r, written_in a (buffer_of m media lent), (e, (refl, refl)))

-- `write_sent` allows the same
pub write-sent-allows : (κ : Lfts 1) (a : _) → (r : _) × (t : _) × write-sent.Learnt κ a r t
write-sent-allows κ a =
    let sent = a.0 in
    let media = a.1.0 in
    let lent = a.1.1.0.now in
    let (r, e) = written-told (line_sent sent media) (send_number sent media lent) (send-told sent media lent) in (r, sent_in a (send_buffer sent media lent), (e, refl))

-- so does `answer_log`
pub answer-log-allows : (κ : Lfts 2) (a : _) → (r : _) × (t : _) × answer-log.Learnt κ a r t
answer-log-allows κ a =
    let (r, after, gives) = log-answered a.0.now a.1.0.now in (r, (a.0, (holding a.1.0 after, tt)), gives)

-- `choose_number` allows a result
pub choose-number-allows : (κ : Lfts 2) (a : _) → (r : _) × (t : _) × choose-number.Learnt κ a r t
choose-number-allows κ a = let (r, e) = choice-number-told a.0.now a.1.0.now in (r, a, e)

-- `choice` allows a choice
pub choice-allows : (κ : Lfts 2) (a : _) → (r : _) × (t : _) × choice.Learnt κ a r t
choice-allows κ a = let (r, e) = choice-told a.0.now a.1.0.now in (r, a, e)

-- `choose` allows a line to be handed back
pub choose-allows : (κ : Lfts 1) (a : _) → (r : _) × (t : _) × choose.Learnt κ a r t
choose-allows κ a = let (ptr, bytes) = place_of (choice_of a.0.now a.1.0.now) a.0 a.1.0 in (record { ref_ptr = ptr; now = bytes }, a, refl)

-- the step of the private call machine allows an answer, and a buffer
pub step-allows : (κ : Lfts 1) (a : _) → (r : _) × (t : _) × step.Learnt κ a r t
step-allows κ a =
    let lent = buffer_of_step a in
    let (r, e) = private-step-told a.0 a.1.0 a.1.1.0 lent in (r, stepped_in a (step_buffer a.0 a.1.0 a.1.1.0 lent), (e, refl))

-- the step of the group call machine allows the same
pub group-step-allows : (κ : Lfts 1) (a : _) → (r : _) × (t : _) × group-step.Learnt κ a r t
group-step-allows κ a =
    let lent = buffer_of_step a in
    let (r, e) = group-step-told a.0 a.1.0 a.1.1.0 lent in (r, stepped_in a (GroupStep.step_buffer a.0 a.1.0 a.1.1.0 lent), (e, refl))

-- ---- so some builds and some readers are allowed

-- a contract of a step that promises something allows some build
pub some-build : {Stored R : Type 0} {Asked : ToStep Stored → Type 0} {Learnt Promised : ToStep Stored → R → ToStep Stored → Type 0} → Promises Asked Learnt Promised
    → (b : StepBuild Stored R) × Obeys Learnt b
some-build {Stored} {R} {Asked} {Learnt} p = (λ s q i out. ((of s q i out).0, buffer_of_step (of s q i out).1), λ s q i out. (buffer_at out, (of s q i out).1, refl, (of s q i out).2, refl))
  where
    of : (s : Settings) (q : Stored) (i : Input) (out : List ℕ) → (r : R) × (t : ToStep Stored) × Learnt (s, (q, (i, (buffer_at out, tt)))) r t
    of s q i out = p.allows_some (s, (q, (i, (buffer_at out, tt))))

-- the contract of `read_line` allows some reader
pub some-reader : (κ : Lfts 1) → (reads : List ℕ → Reading) × ((line : List ℕ) → MayRead κ line (reads line))
some-reader κ = (read_line, λ line. let (r, e) = reading-told line in (lent_at line, (lent_at line, tt), refl, record { result = r; tells = e; learnt = e }))
