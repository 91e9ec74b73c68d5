-- What the number 10 says of two lines, in words of their messages. Assumes nothing.
use Rattle.std.specs.Prelude.{ℕ, ◌≡◌, ◌⊎◌, List}
use Rattle.frame.specs.declared.GroupCall.{GroupCall}
use Rattle.frame.specs.declared.Message.TheVariants.{Announcement}
use Rattle.reader.specs.Line.{line_message}
use Rattle.reader.specs.Line.{Readable}

-- the line reads as the announcement of a call
abbrev pub Announces : List ℕ → GroupCall → Type 0
Announces l call = (confirm : ℕ) × (line_message l ≡ Readable (Announcement call confirm))

-- the line is no announcement
abbrev pub NoAnnouncement : List ℕ → Type 0
NoAnnouncement l = (call : GroupCall) → Announces l call → ⊥

-- the groups of two calls differ, or their identifiers are equal
abbrev pub Apart : GroupCall → GroupCall → Type 0
Apart a b = (a.group ≡ b.group → ⊥) ⊎ (a.identifier ≡ b.identifier)

-- what the number 10 says: one of the lines is none, or the two calls cannot be chosen between
abbrev pub NoChoice : List ℕ → List ℕ → Type 0
NoChoice first second =
    NoAnnouncement first
    ⊎ (NoAnnouncement second
    ⊎ ((a : GroupCall) × (b : GroupCall) × Announces first a × Announces second b × Apart a b))
