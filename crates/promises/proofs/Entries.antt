-- What C is told is what Rattle is told: the reader's number, the chooser's line and its number. Assumes nothing.
use mathlib.Core.Path.{◌≡◌, refl, sym, ap, ap₂, ◌∙◌}
use contract.Lifetimes as Lifetimes
use Rattle.std.specs.Prelude.{Result, Ok, Err}
use Rattle.frame.specs.Refusal.{number_of}
use Rattle.frame.specs.declared.Frame.{Frame}
use Rattle.frame.specs.declared.refusal.Refusal.{Refusal}
use Rattle.reader.specs.Line as Line
use Rattle.reader.proofs.OnlyLine.{number_read}
use Rattle.reader.proofs.read_line.Reads as read-line
use Rattle.chooser.specs.Choice.{choice_of, place, place_of}
use Rattle.chooser.proofs.choose_number.Reads as choose-number
use Rattle.chooser.proofs.choose.Reads as choose
use Rattle.panel.proofs.panel_line_check.Reads as panel-line-check
use Rattle.panel.proofs.panel_choose.Reads as panel-choose
use Rattle.panel.proofs.panel_choose_number.Reads as panel-choose-number

-- a reading has the number of the answer that says it
number-said : (answer : Result Frame Refusal) → Line.number_of (Line.reading_of answer).read ≡ number_of answer
number-said (Ok frame) = refl
number-said (Err r) = refl

-- the line check tells the number of what the reader answers
pub panel-line-check-agrees : (κs : Lifetimes.Lfts 1) (a : _) (r : _) (answer : _) (s t : _) → panel-line-check.Learnt κs a r s → read-line.Learnt κs a answer t
    → r ≡ number_of answer
panel-line-check-agrees κs a r answer s t x y =
    x ∙ sym (number_read a.0.now) ∙ ap (λ (g : Line.Reading). Line.number_of g.read) (sym y) ∙ number-said answer

-- the choice tells which line the chooser hands back, or that it hands back none of the first one's bytes
pub panel-choose-agrees : (κs : Lifetimes.Lfts 2) (own : Lifetimes.Lfts 1) (a : _) (b : _) (r : _) (line : _) (s : _) (t : _) → panel-choose.Learnt κs a r s → choose.Learnt own b line t
    → a.0.now ≡ b.0.now → a.1.0.now ≡ b.1.0.now → place line ≡ place_of r b.0 b.1.0
panel-choose-agrees κs own a b r line s t x y e f = y ∙ ap (λ (n : _). place_of n b.0 b.1.0) (sym (x ∙ ap₂ choice_of e f))

-- the number of the question is the chooser's
pub panel-choose-number-agrees : (κs : Lifetimes.Lfts 2) (a : _) (r : _) (q : _) (s t : _) → panel-choose-number.Learnt κs a r s → choose-number.Learnt κs a q t → r ≡ number_of q
panel-choose-number-agrees κs a r q s t x y = x ∙ sym y
