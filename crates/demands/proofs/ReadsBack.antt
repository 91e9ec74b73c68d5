-- The line that a step leaves at the front of the buffer reads as what the row sends. Assumes nothing.
use Rattle.std.specs.Prelude.{Option}
use mathlib.Core.Path.{◌≡◌, refl, ap, ap₂, ◌∙◌}
use mathlib.Core.Bool.{Bool, true, false, cond}
use lib.ListN.{take}
use lib.Seq.{take-append_seam}
use Rattle.frame.specs.Media.{no_media}
use Rattle.frame.specs.Frame.{kind_of, carries, media_of, in_range}
use Rattle.frame.specs.Layout.{frame_in_hex, line_of}
use Rattle.frame.specs.declared.Media.{Media}
use Rattle.frame.specs.declared.Message.{Message}
use Rattle.reader.specs.Line.{reading, read_line}
use Rattle.reader.proofs.ReadsItsLine.{reads-its-line}
use Rattle.stepping.specs.Sending.{line_sent}
use Rattle.demands.specs.Machines.{Machine, line_to_send, SendsGood, ReadsBack}
use Rattle.demands.specs.ExactlyWhen.{StepExactlyWhen}
use Rattle.demands.specs.NothingChanges.{StepNothingChanges}
use Rattle.demands.proofs.Consequences.{passed-tests}

-- the line of a message in range reads as the message, with its media where the kind carries media
pub reads_as : (m : Message) (media : Media) → in_range m media ≡ true → read_line (line_of m media) ≡ reading m (media_of (kind_of m) media)
unfolding in_range line_of frame_in_hex
reads_as m media r = go (carries (kind_of m)) refl
  where
    go : (b : Bool) → carries (kind_of m) ≡ b → read_line (line_of m media) ≡ reading m (cond b media no_media)
    go true e = reads-its-line m media (record { ranged = r; its_media = rw e refl })
    go false e =
        let line : line_of m media ≡ line_of m no_media = rw e refl in
        ap read_line line ∙ reads-its-line m no_media (record { ranged = rw e (rw e at r); its_media = rw e refl })

-- of a machine that writes its line and sends nothing out of range
pub reads-back : (M : Machine) → StepExactlyWhen M → StepNothingChanges M → SendsGood M → ReadsBack M
reads-back M told kept good s p i out m e sent =
    let media = M.media s p i in
    let line = ap (λ (x : Option Message). line_sent x media) sent in
    ap read_line (ap₂ take ((kept s p i out).2 e).0 ((kept s p i out).2 e).1 ∙ (take-append_seam (line_to_send M s p i) _ ∙ line))
    ∙ reads_as m media (good s p i (passed-tests M told s p i out e).0 m sent)
