-- The reasons for which something is refused, by their numbers. Assumes nothing.
use Rattle.std.specs.Prelude.{ℕ, Result, Ok, Err}
use Rattle.frame.specs.declared.refusal.Refusal.{Refusal}
use Rattle.frame.specs.declared.refusal.Refusal.TheVariants.{NotEnded, NotDigits, NoKind, WrongLength, WrongField, NoRoom, WrongSetting, WrongArgument, NotWellFormed, NoChoice}

-- the number of each
abbrev pub refusal_number : Refusal → ℕ
refusal_number NotEnded = 1
refusal_number NotDigits = 2
refusal_number NoKind = 3
refusal_number WrongLength = 4
refusal_number WrongField = 5
refusal_number NoRoom = 6
refusal_number WrongSetting = 7
refusal_number WrongArgument = 8
refusal_number NotWellFormed = 9
refusal_number NoChoice = 10

-- the number of an answer: that of its refusal, 0 where nothing is refused
abbrev pub number_of : {A : Type 0} → Result A Refusal → ℕ
number_of (Ok x) = 0
number_of (Err refusal) = refusal_number refusal
