-- A script that is played: how many of its steps meet a row, and the buffer after them. Assumes nothing.
use Rattle.std.specs.Prelude.{ℕ, ◌+◌, List, [], ◌∷◌}
use Rattle.private_record.specs.Formed as PrivateFormed
use Rattle.private_record.specs.declared.states.PrivateRecord.{PrivateRecord}
use Rattle.private_call.specs.Step as Private
use Rattle.group_record.specs.Formed as GroupFormed
use Rattle.group_record.specs.declared.states.GroupRecord.{GroupRecord}
use Rattle.group_call.specs.Step as Group
use Rattle.pace.specs.Script.{player, private_input, group_input, row_met}

-- a machine that plays: what is stored at first; and what a step from a record, by a byte and with a buffer, gives: its row, the next record, the buffer
pub record Play (Stored : Type 0) : Type 0 where
  pub first : Stored
  pub row : Stored → ℕ → List ℕ → ℕ
  pub next : Stored → ℕ → List ℕ → Stored
  pub buffer : Stored → ℕ → List ℕ → List ℕ

-- the private machine
abbrev pub private_play : Play PrivateRecord
private_play = record {
  first = PrivateFormed.cleared_record;
  row = λ p byte out. (Private.step_of player p (private_input byte) out).row;
  next = λ p byte out. (Private.step_of player p (private_input byte) out).next;
  buffer = λ p byte out. Private.step_buffer player p (private_input byte) out;
}

-- the group machine
abbrev pub group_play : Play GroupRecord
group_play = record {
  first = GroupFormed.cleared_record;
  row = λ g byte out. (Group.step_of player g (group_input byte) out).row;
  next = λ g byte out. (Group.step_of player g (group_input byte) out).next;
  buffer = λ g byte out. Group.step_buffer player g (group_input byte) out;
}

-- how many steps of a script meet a row, from a record and a buffer on
unfoldable pub rows_met_from : {Stored : Type 0} → Play Stored → Stored → List ℕ → List ℕ → ℕ
rows_met_from play p out [] = 0
rows_met_from play p out (byte ∷ script) = row_met (play.row p byte out) + rows_met_from play (play.next p byte out) (play.buffer p byte out) script

-- the buffer after them
unfoldable pub buffer_from : {Stored : Type 0} → Play Stored → Stored → List ℕ → List ℕ → List ℕ
buffer_from play p out [] = out
buffer_from play p out (byte ∷ script) = buffer_from play (play.next p byte out) (play.buffer p byte out) script

-- the same of a whole play, whose machine begins with what it stores at first
abbrev pub rows_met : {Stored : Type 0} → Play Stored → List ℕ → List ℕ → ℕ
rows_met play out script = rows_met_from play play.first out script

-- and the buffer
abbrev pub buffer_after : {Stored : Type 0} → Play Stored → List ℕ → List ℕ → List ℕ
buffer_after play out script = buffer_from play play.first out script
