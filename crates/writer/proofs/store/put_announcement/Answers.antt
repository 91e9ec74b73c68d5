-- The front, the media, the back. Assumes nothing.
use Rattle.writer.proofs.Stores.{sets-frame}
use Rattle.writer.proofs.store.put_announcement.Goals as goal

pub returns : goal.returns
returns c = rw (c.put_group_back.ensures, c.put_media.ensures, c.put_group_front.ensures, ← sets-frame)
