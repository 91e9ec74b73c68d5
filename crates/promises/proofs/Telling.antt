-- Some result tells whatever the definitions say: numbers, readings, what is written, choices, answers of a step. Assumes nothing.
use mathlib.Core.Path.{◌≡◌, refl, ap, ◌∙◌}
use mathlib.Core.List.{List, [], ◌∷◌}
use mathlib.Core.Bool.{Bool, true, false, not, cond}
use Prim.Native.Nat.{ℕ}
use lib.Dec.{eqb, ltb}
use lib.ListN.{length}
use Rattle.std.specs.Prelude.{Option, Some, None, Result, Ok, Err}
use Rattle.frame.specs.Number.{first_given}
use Rattle.frame.specs.Frame.{in_range}
use Rattle.frame.specs.Layout.{line_of}
use Rattle.frame.specs.Refusal.{refusal_number, number_of}
use Rattle.frame.specs.declared.Frame.{Frame}
use Rattle.frame.specs.declared.GroupCall.{GroupCall}
use Rattle.frame.specs.declared.Media.{Media}
use Rattle.frame.specs.declared.Message.{Message}
use Rattle.frame.specs.declared.refusal.Refusal.{Refusal}
use Rattle.frame.specs.declared.refusal.Refusal.TheVariants.{NotEnded, NotDigits, NoKind, WrongLength, WrongField, NoRoom, WrongSetting, WrongArgument, NotWellFormed, NoChoice}
use Rattle.frame.proofs.Refusals.{refusal-not-0}
use Rattle.reader.specs.Line.{line_tests, refusal_of, kind_at, message_at, media_at, reading, refusal, reading_of, read_line, line_number}
use Rattle.writer.specs.Lent.{told, told_by}
use Rattle.writer.specs.Writing.{write_number}
use Rattle.call.specs.declared.Settings.{Settings}
use Rattle.call.specs.declared.Input.{Input}
use Rattle.stepping.specs.Answer.{refused_with, answer_by}
use Rattle.stepping.specs.Numbers.{tests_of_step, number_of_tests, number_sending}
use Rattle.stepping.specs.Sending.{send_number}
use Rattle.stepping.specs.declared.Carried.{Carried}
use Rattle.stepping.specs.declared.Stepped.{Stepped}
use Rattle.private_record.specs.Phases as Phases
use Rattle.private_record.specs.declared.states.PrivateRecord.{PrivateRecord}
use Rattle.private_rows.specs.Rows as PrivateRows
use Rattle.private_call.specs.Step as PrivateStep
use Rattle.chooser.specs.Choice.{line_announced, calls_choosable, choice_between, choice_of, chosen_number, lines_choosable, choice_number}
use Rattle.chooser.specs.declared.Winner.{Winner}
use Rattle.chooser.specs.declared.Winner.TheVariants.{First, Second}
use Rattle.group_order.specs.Order.{is_better}
use Rattle.group_record.specs.States as GroupStates
use Rattle.group_record.specs.declared.states.GroupRecord.{GroupRecord}
use Rattle.group_rows.specs.Rows as GroupRows
use Rattle.group_call.specs.Step as GroupStep

-- ---- numbers

-- some answer has this number
abbrev pub Told : ℕ → Type 0
Told n = (r : Result (Unit {0}) Refusal) × (number_of r ≡ n)

-- so it is with each number of a table
abbrev AllTold : List (ℕ × Bool) → Type 0
AllTold [] = Unit {0}
AllTold (row ∷ rows) = Told row.0 × AllTold rows

-- and with either of two numbers
either-told : (b : Bool) (x y : ℕ) → Told x → Told y → Told (cond b x y)
either-told true x y p q = p
either-told false x y p q = q

-- then so it is with the number that a table gives
given-told : (rows : List (ℕ × Bool)) → AllTold rows → Told (first_given rows)
given-told [] h = (Ok tt, refl)
given-told (row ∷ rows) h = either-told row.1 row.0 (first_given rows) h.0 (given-told rows h.1)

-- the number of a line
pub line-told : (l : List ℕ) → Told (line_number l)
unfolding refusal_of
line-told l = given-told (line_tests l) ((Err NotEnded, refl), ((Err NotDigits, refl), ((Err NoKind, refl), ((Err WrongLength, refl), ((Err WrongField, refl), tt)))))

-- the number of a frame to write
pub write-told : (m : Message) (media : Media) (out : List ℕ) → Told (write_number m media out)
unfolding write_number
write-told m media out = given-told ((5, not (in_range m media)) ∷ (6, ltb (length out) (length (line_of m media))) ∷ []) ((Err WrongField, refl), ((Err NoRoom, refl), tt))

-- the number of what is sent
pub send-told : (sent : Option Message) (media : Media) (out : List ℕ) → Told (send_number sent media out)
send-told None media out = (Ok tt, refl)
send-told (Some m) media out = write-told m media out

-- the number of a step
step-told : (s : Settings) (formed : Bool) (i : Input) (by_row : Bool) (sent : Option Message) (media : Media) (out : List ℕ)
    → Told (number_sending (number_of_tests s formed i by_row) sent media out)
step-told s formed i by_row sent media out =
    either-told _ _ _ (send-told sent media out)
    (given-told (tests_of_step s formed i by_row) ((Err WrongSetting, refl), ((Err NotWellFormed, refl), ((Err WrongField, refl), ((Err WrongArgument, refl), ((Err WrongArgument, refl), tt))))))

-- the number of a choice
pub choice-number-told : (first second : List ℕ) → Told (choice_number first second)
unfolding choice_number
choice-number-told first second =
    let one = line_number first in
    let other = line_number second in
    given-told ((one, not (eqb one 0)) ∷ (other, not (eqb other 0)) ∷ (10, not (lines_choosable first second)) ∷ []) (line-told first, (line-told second, ((Err NoChoice, refl), tt)))

-- ---- what stands beside a number

-- what results tell is told of each number, where it is of 0 and of the numbers of the refusals
telling : {A S : Type 0} (of : Result A Refusal → S) (What : ℕ → S) (x : A) → of (Ok x) ≡ What 0 → ((q : Refusal) → of (Err q) ≡ What (refusal_number q))
    → (n : ℕ) → Told n → (r : Result A Refusal) × (of r ≡ What n)
telling {A} of What x here there n t = go t.0 t.1
  where
    go : (r : Result (Unit {0}) Refusal) → number_of r ≡ n → (r : Result A Refusal) × (of r ≡ What n)
    go (Ok u) e = (Ok x, here ∙ ap What e)
    go (Err q) e = (Err q, there q ∙ ap What e)

-- a line's reading
pub reading-told : (l : List ℕ) → (r : Result Frame Refusal) × (reading_of r ≡ read_line l)
unfolding read_line
reading-told l =
    let m = message_at (kind_at l) l in
    let media = media_at (kind_at l) l in
    telling reading_of (λ n. cond (eqb n 0) (reading m media) (refusal n)) (record { message = m; media = media }) refl (λ q. rw (refusal-not-0 q) refl) (refusal_of l) (line-told l)

-- a text's length, where its number is 0
pub written-told : (text : List ℕ) (n : ℕ) → Told n → (r : Result ℕ Refusal) × (told_by r ≡ told n text)
written-told text = telling told_by (λ n. told n text) (length text) refl (λ q. rw (refusal-not-0 q) refl)

-- a choice
pub choice-told : (first second : List ℕ) → (r : Option Winner) × (chosen_number r ≡ choice_of first second)
unfolding choice_of
choice-told first second = go (line_announced first) (line_announced second)
  where
    chosen : (b better : Bool) → (r : Option Winner) × (chosen_number r ≡ cond b (cond better 1 2) 0)
    chosen true true = (Some First, refl)
    chosen true false = (Some Second, refl)
    chosen false better = (None, refl)

    go : (x y : Option GroupCall) → (r : Option Winner) × (chosen_number r ≡ choice_between x y)
    go (Some x) (Some y) = chosen (calls_choosable x y) (is_better x y)
    go (Some x) None = (None, refl)
    go None y = (None, refl)

-- ---- an answer of a step

module _ {Row Stored Timers : Type 0} (row_number : Option Row → ℕ) (none : Timers) (p : Stored) where
  -- what is answered where nothing is refused: a discard where the row's number is 0, else what is carried out
  abbrev unrefused : Option Row → Carried Stored Timers → ℕ → Bool → Stepped Row Stored Timers
  unrefused row d n discards =
      cond discards
      (record { row = None; next = p; stop = none; start = none; length = 0 })
      (record { row = row; next = d.next; stop = d.stop; start = d.start; length = n })

  -- the answer of a step that meets a row
  answer-told : (row : Option Row) (d : Carried Stored Timers) (length : ℕ) → row_number None ≡ 0 → (n : ℕ) → Told n → (r : Result (Stepped Row Stored Timers) Refusal)
      × (answer_by row_number none p r
      ≡ cond (eqb n 0)
      (cond (eqb (row_number row) 0) (refused_with none p 0)
      (record { number = 0; row = row_number row; next = d.next; stop = d.stop; start = d.start; length = length }))
      (refused_with none p n))
  answer-told row d length e =
      telling (answer_by row_number none p) _ (unrefused row d length (eqb (row_number row) 0)) (go (eqb (row_number row) 0)) (λ q. rw (refusal-not-0 q) refl)
    where
      go : (discards : Bool) → answer_by row_number none p (Ok (unrefused row d length discards))
          ≡ cond discards (refused_with none p 0)
          (record { number = 0; row = row_number row; next = d.next; stop = d.stop; start = d.start; length = length })
      go true = λ j. record { number = 0; row = e j; next = p; stop = none; start = none; length = 0 }
      go false = refl

-- of the private call machine
pub private-step-told : (s : Settings) (p : PrivateRecord) (i : Input) (out : List ℕ) → (r : _) × (PrivateStep.answer_told p r ≡ PrivateStep.step_of s p i out)
unfolding PrivateStep.step_of
private-step-told s p i out =
    answer-told PrivateRows.row_number Phases.no_timer p (PrivateRows.row_of s p i) (PrivateStep.done_of s p i) (length (PrivateStep.step_line s p i)) refl _ (step-told s _ i _ _ _ out)

-- of the group call machine
pub group-step-told : (s : Settings) (g : GroupRecord) (i : Input) (out : List ℕ) → (r : _) × (GroupStep.answer_told g r ≡ GroupStep.step_of s g i out)
unfolding GroupStep.step_of
group-step-told s g i out =
    answer-told GroupRows.row_number GroupStates.no_timer g (GroupRows.row_of s g i.event) (GroupStep.done_of s g i) (length (GroupStep.step_line s g i)) refl _ (step-told s _ i _ _ _ out)
