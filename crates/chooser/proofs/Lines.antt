-- What a line announces, and when one cannot choose between two lines. Assumes nothing.
use Prim.Native.Nat.{ℕ}
use mathlib.Core.Path.{◌≡◌, refl, sym, ap, ap₂, ◌∙◌}
use mathlib.Core.Logic.{inl, inr, ◌↔◌}
use mathlib.Core.List.{List}
use mathlib.Core.Bool.{Bool, true, false, not, ◌&&◌, true≢false}
use lib.Dec.{eqb}
use borrow.Author.Tests.{eqb-true, eqb-false, eq-eqb, ne_eqb}
use Rattle.frame.specs.declared.GroupCall.{GroupCall}
use Rattle.frame.specs.declared.Message.{Message}
use Rattle.frame.specs.declared.Message.TheVariants.{SetupRequest, Ringing, Accept, Reject, Release, ReleaseAck, AcceptAck, Announcement, GroupAccept}
use Rattle.reader.specs.Line.{number_of, line_number, line_message}
use Rattle.reader.specs.Line.{Read, Readable, Refused}
use Rattle.reader.proofs.OnlyLine.{number_read}
use Rattle.chooser.specs.Choice.{announced_by, announced_in, line_announced, calls_choosable, choosable, lines_choosable}
use Rattle.chooser.specs.NoChoice.{Announces, NoAnnouncement, Apart, NoChoice}
use Rattle.std.specs.Prelude.{Option, Some, None}

-- ---- what a line announces

-- a call is not nothing
nothing-called : {call : GroupCall} → None ≡ Some call → ⊥
nothing-called e = true≢false (ap nothing e)
  where
    nothing : Option GroupCall → Bool
    nothing (Some call) = false
    nothing None = true

-- only an announcement announces a call, its own
message-announces : (m : Message) (call : GroupCall) → announced_by m ≡ Some call → (confirm : ℕ) × (m ≡ Announcement call confirm)
message-announces (SetupRequest p s) call e = absurd (nothing-called e)
message-announces (Ringing p) call e = absurd (nothing-called e)
message-announces (Accept p) call e = absurd (nothing-called e)
message-announces (Reject p reason) call e = absurd (nothing-called e)
message-announces (Release p) call e = absurd (nothing-called e)
message-announces (ReleaseAck p) call e = absurd (nothing-called e)
message-announces (AcceptAck p) call e = absurd (nothing-called e)
message-announces (Announcement c confirm) call e = let h : c ≡ call = cc in (confirm, ap (λ (x : GroupCall). Announcement x confirm) h)
message-announces (GroupAccept a) call e = absurd (nothing-called e)

-- so a line that announces a call reads as the announcement of it
pub line-announces : (l : List ℕ) (call : GroupCall) → line_announced l ≡ Some call → Announces l call
line-announces l call e = go (line_message l) e
  where
    go : (r : Read) → announced_in r ≡ Some call → (confirm : ℕ) × (r ≡ Readable (Announcement call confirm))
    go (Readable m) h = let (confirm, k) = message-announces m call h in (confirm, ap Readable k)
    go (Refused n) h = absurd (nothing-called h)

-- and one that announces nothing is no announcement
line-announces-nothing : (l : List ℕ) → line_announced l ≡ None → NoAnnouncement l
line-announces-nothing l e call (confirm, h) = nothing-called (sym e ∙ ap announced_in h)

-- an announcement has number 0
pub announced-number : (l : List ℕ) (call : GroupCall) → Announces l call → line_number l ≡ 0
announced-number l call (confirm, e) = sym (number_read l) ∙ ap number_of e

-- one cannot choose between what two lines announce exactly for one of the reasons of number 10
pub no-choice : (first second : List ℕ) → (lines_choosable first second ≡ false) ↔ NoChoice first second
no-choice first second = (λ e. forth (line_announced first) (line_announced second) refl refl e, back)
  where
    apart : (a b : GroupCall) (x y : Bool) → eqb a.group b.group ≡ x → eqb a.identifier b.identifier ≡ y → (x && not y) ≡ false → Apart a b
    apart a b true true h k e = inr (eqb-true _ _ k)
    apart a b true false h k e = absurd (true≢false e)
    apart a b false y h k e = inl (eqb-false _ _ h)

    forth : (p q : Option GroupCall) → line_announced first ≡ p → line_announced second ≡ q → choosable p q ≡ false → NoChoice first second
    forth (Some a) (Some b) h k e =
        inr (inr (a, b, line-announces first a h, line-announces second b k, apart a b (eqb a.group b.group) (eqb a.identifier b.identifier) refl refl e))
    forth (Some a) None h k e = inr (inl (line-announces-nothing second k))
    forth None q h k e = inl (line-announces-nothing first h)

    without-first : (p q : Option GroupCall) → line_announced first ≡ p → NoAnnouncement first → choosable p q ≡ false
    without-first (Some a) q h n = absurd (n a (line-announces first a h))
    without-first None q h n = refl

    without-second : (p q : Option GroupCall) → line_announced second ≡ q → NoAnnouncement second → choosable p q ≡ false
    without-second (Some a) (Some b) h n = absurd (n b (line-announces second b h))
    without-second (Some a) None h n = refl
    without-second None q h n = refl

    barred : (a b : GroupCall) → Apart a b → calls_choosable a b ≡ false
    barred a b (inl f) = rw (ne_eqb a.group b.group f)
    barred a b (inr e) = rw (eq-eqb a.identifier b.identifier e) (never (eqb a.group b.group))
      where
        never : (x : Bool) → (x && not true) ≡ false
        never true = refl
        never false = refl

    back : NoChoice first second → lines_choosable first second ≡ false
    back (inl n) = without-first (line_announced first) (line_announced second) refl n
    back (inr (inl n)) = without-second (line_announced first) (line_announced second) refl n
    back (inr (inr (a, b, (confirm, h), (confirm', k), d))) =
        ap₂ choosable (ap announced_in h) (ap announced_in k) ∙ barred a b d
