-- What a step sends, written into a lent buffer. Assumes nothing.
use Rattle.std.specs.Prelude.{ℕ, List, [], Option, Some, None}
use Rattle.frame.specs.Layout.{line_of}
use Rattle.frame.specs.declared.Media.{Media}
use Rattle.writer.specs.Lent.{Written, told, lent_after}
use Rattle.writer.specs.Writing.{write_number}
use Rattle.frame.specs.declared.Message.{Message}

-- the line that is sent, no bytes where nothing is
abbrev pub line_sent : Option Message → Media → List ℕ
line_sent None media = []
line_sent (Some m) media = line_of m media

-- the writer's number of it, 0 where nothing is sent
abbrev pub send_number : Option Message → Media → List ℕ → ℕ
send_number None media out = 0
send_number (Some m) media out = write_number m media out

-- the number, and the line's length where it is 0
abbrev pub send_told : Option Message → Media → List ℕ → Written
send_told sent media out = told (send_number sent media out) (line_sent sent media)

-- the buffer with the line at its front, or as it was
abbrev pub send_buffer : Option Message → Media → List ℕ → List ℕ
send_buffer sent media out = lent_after (send_number sent media out) (line_sent sent media) out
