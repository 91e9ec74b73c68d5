-- What is known by its number: a reading, a kind, a choice, a row. Assumes nothing.
use mathlib.Core.Path.{◌≡◌, refl, sym, ap, ◌∙◌}
use Prim.Native.Nat.{ℕ}
use Rattle.std.specs.Prelude.{[], ◌∷◌, get_or, Option, Some, None, Result, Ok, Err, cond, eqb}
use Rattle.frame.specs.Kind.{kind_number}
use Rattle.frame.specs.declared.kind.Kind.{Kind}
use Rattle.frame.specs.declared.kind.Kind.TheVariants as Kinds
use Rattle.frame.specs.declared.Frame.{Frame}
use Rattle.frame.specs.declared.refusal.Refusal.{Refusal}
use Rattle.frame.proofs.Refusals.{refusal_with, refusal-with}
use Rattle.reader.specs.Line.{Read, Readable, Refused, Reading, reading_of}
use Rattle.private_rows.specs.Rows as PrivateRows
use Rattle.private_rows.specs.declared.Row as PrivateRow
use Rattle.private_rows.specs.declared.Row.TheVariants.{R1, R2, R3, R4, R5, R6, R7, R8, R9, R10, R11, R12, R13, R14, R15, R16, R17, R18, R19, R20, R21, R22, R23, R24, R25, R26, R27, R28, R29}
use Rattle.group_rows.specs.Rows as GroupRows
use Rattle.group_rows.specs.declared.Row as GroupRow
use Rattle.group_rows.specs.declared.Row.TheVariants.{G1, G2, G3, G4, G5, G6, G7, G8, G9, G10, G11}
use Rattle.chooser.specs.Choice.{chosen_number}
use Rattle.chooser.specs.declared.Winner.{Winner}
use Rattle.chooser.specs.declared.Winner.TheVariants.{First, Second}

-- what has a way back from what is told of it is known by that
known : {A B : Type 0} (told : A → B) (back : B → A) → ((a : A) → back (told a) ≡ a) → (a b : A) → told a ≡ told b → a ≡ b
known told back same a b e = sym (same a) ∙ ap back e ∙ same b

-- ---- a reading

-- the reader's answer that says this
abbrev answer_saying : Reading → Result Frame Refusal
answer_saying x = go x.read
  where
    go : Read → Result Frame Refusal
    go (Readable m) = Ok (record { message = m; media = x.media })
    go (Refused n) = Err (refusal_with n)

-- it is the answer that said it
answer-saying : (a : Result Frame Refusal) → answer_saying (reading_of a) ≡ a
answer-saying (Ok frame) = refl
answer-saying (Err r) = ap (λ (q : Refusal). Err q) (refusal-with r)

-- two answers of the reader that say the same are one
pub same-reading : (a b : Result Frame Refusal) → reading_of a ≡ reading_of b → a ≡ b
same-reading = known reading_of answer_saying answer-saying

-- ---- a kind

-- the kind with this number
abbrev kind_with : ℕ → Kind
kind_with n =
    get_or (Kinds.SetupRequest ∷ Kinds.SetupRequest ∷ Kinds.Ringing ∷ Kinds.Accept ∷ Kinds.Reject ∷ Kinds.Release ∷ Kinds.ReleaseAck ∷ Kinds.AcceptAck ∷ Kinds.Announcement ∷ Kinds.GroupAccept ∷ []) n Kinds.SetupRequest

-- it is the kind that had it
kind-with : (k : Kind) → kind_with (kind_number k) ≡ k
kind-with Kinds.SetupRequest = refl
kind-with Kinds.Ringing = refl
kind-with Kinds.Accept = refl
kind-with Kinds.Reject = refl
kind-with Kinds.Release = refl
kind-with Kinds.ReleaseAck = refl
kind-with Kinds.AcceptAck = refl
kind-with Kinds.Announcement = refl
kind-with Kinds.GroupAccept = refl

-- two kinds with one number are one
pub same-kind : (a b : Kind) → kind_number a ≡ kind_number b → a ≡ b
same-kind = known kind_number kind_with kind-with

-- ---- a choice

-- the choice with this number
abbrev choice_with : ℕ → Option Winner
choice_with n = cond (eqb n 1) (Some First) (cond (eqb n 2) (Some Second) None)

-- it is the choice that had it
choice-with : (c : Option Winner) → choice_with (chosen_number c) ≡ c
choice-with (Some First) = refl
choice-with (Some Second) = refl
choice-with None = refl

-- two choices with one number are one
pub same-choice : (a b : Option Winner) → chosen_number a ≡ chosen_number b → a ≡ b
same-choice = known chosen_number choice_with choice-with

-- ---- a row

-- the private row with this number
abbrev pub private_row_with : ℕ → Option PrivateRow.Row
private_row_with n =
    get_or (None ∷ Some R1 ∷ Some R2 ∷ Some R3 ∷ Some R4 ∷ Some R5 ∷ Some R6 ∷ Some R7 ∷ Some R8 ∷ Some R9 ∷ Some R10 ∷ Some R11 ∷ Some R12 ∷ Some R13 ∷ Some R14 ∷ Some R15 ∷ Some R16 ∷ Some R17 ∷ Some R18 ∷ Some R19 ∷ Some R20 ∷ Some R21 ∷ Some R22 ∷ Some R23 ∷ Some R24 ∷ Some R25 ∷ Some R26 ∷ Some R27 ∷ Some R28 ∷ Some R29 ∷ []) n None

-- it is the row that had it
pub private-row-with : (row : Option PrivateRow.Row) → private_row_with (PrivateRows.row_number row) ≡ row
private-row-with None = refl
private-row-with (Some R1) = refl
private-row-with (Some R2) = refl
private-row-with (Some R3) = refl
private-row-with (Some R4) = refl
private-row-with (Some R5) = refl
private-row-with (Some R6) = refl
private-row-with (Some R7) = refl
private-row-with (Some R8) = refl
private-row-with (Some R9) = refl
private-row-with (Some R10) = refl
private-row-with (Some R11) = refl
private-row-with (Some R12) = refl
private-row-with (Some R13) = refl
private-row-with (Some R14) = refl
private-row-with (Some R15) = refl
private-row-with (Some R16) = refl
private-row-with (Some R17) = refl
private-row-with (Some R18) = refl
private-row-with (Some R19) = refl
private-row-with (Some R20) = refl
private-row-with (Some R21) = refl
private-row-with (Some R22) = refl
private-row-with (Some R23) = refl
private-row-with (Some R24) = refl
private-row-with (Some R25) = refl
private-row-with (Some R26) = refl
private-row-with (Some R27) = refl
private-row-with (Some R28) = refl
private-row-with (Some R29) = refl

-- the group row with this number
abbrev pub group_row_with : ℕ → Option GroupRow.Row
group_row_with n =
    get_or (None ∷ Some G1 ∷ Some G2 ∷ Some G3 ∷ Some G4 ∷ Some G5 ∷ Some G6 ∷ Some G7 ∷ Some G8 ∷ Some G9 ∷ Some G10 ∷ Some G11 ∷ []) n None

-- it is the row that had it
pub group-row-with : (row : Option GroupRow.Row) → group_row_with (GroupRows.row_number row) ≡ row
group-row-with None = refl
group-row-with (Some G1) = refl
group-row-with (Some G2) = refl
group-row-with (Some G3) = refl
group-row-with (Some G4) = refl
group-row-with (Some G5) = refl
group-row-with (Some G6) = refl
group-row-with (Some G7) = refl
group-row-with (Some G8) = refl
group-row-with (Some G9) = refl
group-row-with (Some G10) = refl
group-row-with (Some G11) = refl
