-- The ranges of a group call, field by field. Assumes nothing.
use Prim.Native.Nat.{ℕ}
use mathlib.Core.Path.{◌≡◌}
use mathlib.Core.Bool.{true}
use Rattle.frame.specs.Digits.{two, four}
use Rattle.frame.specs.Range.{never_zero, time_good, flag_good, type_good}
use Rattle.frame.specs.Media.{media_good}
use Rattle.frame.specs.Frame.{group_call_good, acceptance_good, in_range}
use Rattle.frame.specs.declared.Media.{Media}
use Rattle.frame.specs.declared.GroupCall.{GroupCall}
use Rattle.frame.specs.declared.Message.TheVariants.{Announcement, GroupAccept}
use Rattle.frame.proofs.Laws.{and_split}
use Rattle.call.specs.declared.Settings.{Settings}
use Rattle.call.proofs.Laws.{both}
use Rattle.group_call.specs.Carried.{changed_by, acceptance}

-- what a call in range consists of
pub record Ranged (c : GroupCall) (confirm : ℕ) (media : Media) : Type 0 where
  pub identifier : never_zero two c.identifier ≡ true
  pub group : never_zero four c.group ≡ true
  pub type : type_good 8 c.call_type ≡ true
  pub refresh : never_zero two c.refresh ≡ true
  pub originator : never_zero four c.originator ≡ true
  pub start : time_good c.start ≡ true
  pub change : time_good c.last_change ≡ true
  pub changer : never_zero four c.last_changer ≡ true
  pub confirms : flag_good confirm ≡ true
  pub its_media : media_good media ≡ true

-- of an announcement
pub ranged : (c : GroupCall) (confirm : ℕ) (media : Media) → in_range (Announcement c confirm) media ≡ true → Ranged c confirm media
unfolding in_range group_call_good
ranged c confirm media e =
    let m = and_split (media_good media) _ e in
    let f = and_split (group_call_good c) (flag_good confirm) m.1 in
    let a = and_split (never_zero two c.identifier) _ f.0 in
    let b = and_split (never_zero four c.group) _ a.1 in
    let d = and_split (type_good 8 c.call_type) _ b.1 in
    let g = and_split (never_zero two c.refresh) _ d.1 in
    let h = and_split (never_zero four c.originator) _ g.1 in
    let j = and_split (time_good c.start) _ h.1 in
    let k = and_split (time_good c.last_change) _ j.1 in
    record {
      identifier = a.0;
      group = b.0;
      type = d.0;
      refresh = g.0;
      originator = h.0;
      start = j.0;
      change = k.0;
      changer = k.1;
      confirms = f.1;
      its_media = m.0;
    }

-- and back
pub announces : (c : GroupCall) (confirm : ℕ) (media : Media) → Ranged c confirm media → in_range (Announcement c confirm) media ≡ true
unfolding in_range group_call_good
announces c confirm media r =
    both (media_good media) _ r.its_media
    (both (group_call_good c) (flag_good confirm)
    (both (never_zero two c.identifier) _ r.identifier
    (both (never_zero four c.group) _ r.group
    (both (type_good 8 c.call_type) _ r.type
    (both (never_zero two c.refresh) _ r.refresh
    (both (never_zero four c.originator) _ r.originator
    (both (time_good c.start) _ r.start (both (time_good c.last_change) _ r.change r.changer))))))) r.confirms)

-- an accept of a call in range by a user in range
pub accepts : (s : Settings) (c : GroupCall) (confirm : ℕ) (media other : Media) → never_zero four s.own_user ≡ true → Ranged c confirm media
    → in_range (GroupAccept (acceptance s c)) other ≡ true
unfolding in_range acceptance_good
accepts s c confirm media other o r =
    both (never_zero two c.identifier) _ r.identifier
    (both (never_zero four s.own_user) _ o (both (type_good 9 c.call_type) _ r.type r.group))

-- a call in range with another type, time and changer in range
pub changes-good : (c d : GroupCall) (confirm : ℕ) (media : Media) → Ranged c confirm media → type_good 8 d.call_type ≡ true
    → time_good d.last_change ≡ true → never_zero four d.last_changer ≡ true → Ranged (changed_by c d) confirm media
changes-good c d confirm media r x y z =
    record {
      identifier = r.identifier;
      group = r.group;
      type = x;
      refresh = r.refresh;
      originator = r.originator;
      start = r.start;
      change = y;
      changer = z;
      confirms = r.confirms;
      its_media = r.its_media;
    }
