-- The call stays good: what a row may hold, it holds. Assumes nothing.
use mathlib.Core.Path.{◌≡◌, refl, sym, ◌∙◌}
use mathlib.Core.Bool.{Bool, true, false, cond, not, ◌&&◌, ◌||◌, false≢true, true≢false}
use native.Mathlib.Omega.{arith}
use lib.Dec.{eqb}
use borrow.Author.Tests.{ne_eqb, not-true}
use Rattle.frame.specs.Digits.{two}
use Rattle.frame.specs.Range.{never_zero, flag_good, type_good, pck_good}
use Rattle.frame.specs.Media.{media_good}
use Rattle.frame.specs.Frame.{parties_good, setup_good, in_range}
use Rattle.frame.specs.declared.Media.{Media}
use Rattle.frame.specs.declared.Parties.{Parties}
use Rattle.frame.proofs.Laws.{and_split, within-split}
use Rattle.call.specs.Request.{as_message}
use Rattle.call.specs.declared.Settings.{Settings}
use Rattle.call.specs.declared.Request.{Request}
use Rattle.call.proofs.Laws.{both, both_bools, at-bool}
use Rattle.private_record.specs.Formed.{call_none, call_request, fields_good, one_own, role_good, users_good, users_of, call_good}
use Rattle.private_record.specs.declared.states.State.{State}
use Rattle.private_record.specs.declared.states.PrivateCall.{PrivateCall}
use Rattle.private_rows.specs.Causes.{same_cause}
use Rattle.private_rows.specs.declared.causes.Cause.{Cause}
use Rattle.private_call.specs.Carried.{call_of, with_media, held_of}
use Rattle.private_call.specs.declared.effects.Hold.{Hold}
use Rattle.private_call.proofs.Brought.{New, Brings, brings_call, brings_media}
use Rattle.private_call.proofs.Settling.{start_stop, may_stay, may_hold}

-- ---- the fields

-- what a call in range consists of
pub record Ranged (c : PrivateCall) : Type 0 where
  pub parties : parties_good c.parties ≡ true
  pub its_media : media_good c.media ≡ true
  pub commencement : flag_good c.commencement ≡ true
  pub pck : pck_good c.pck_id ≡ true

-- of a setup request
pub split : (r : Request) (media : Media) → in_range (as_message r) media ≡ true → Ranged (call_of r media)
unfolding in_range setup_good
split r media e =
    let a = and_split (media_good media) _ e in
    let b = and_split (parties_good r.parties) _ a.1 in
    let d = and_split (flag_good r.setup.commencement) _ b.1 in
    record { parties = b.0; its_media = a.0; commencement = d.0; pck = (and_split (type_good 1 r.setup.call_type) _ d.1).1 }

-- of a call, and back
pub ranged : (c : PrivateCall) → fields_good c ≡ true → Ranged c
ranged c e = split (call_request c) c.media e

-- back
pub fields : (c : PrivateCall) → Ranged c → fields_good c ≡ true
unfolding in_range setup_good
fields c r =
    both (media_good c.media) _ r.its_media
    (both (parties_good c.parties) _ r.parties (both (flag_good c.commencement) _ r.commencement r.pck))

-- a call in range has an identifier
has-identifier : (p : Parties) → parties_good p ≡ true → eqb p.identifier 0 ≡ false
unfolding parties_good
has-identifier p e =
    let n = and_split (never_zero two p.identifier) _ e in
    let l = within-split 1 p.identifier _ n.0 in ne_eqb p.identifier 0 (λ z. let h = l.0 in omega (arith, h, z))

-- ---- the call of a record

-- a call in range with the right users is good
good : (s : Settings) (state : State) (c : PrivateCall) → Ranged c
    → users_of s state c ≡ true → call_good s state c ≡ true
good s state c r u = rw (has-identifier c.parties r.parties) (both (fields_good c) _ (fields c r) u)

-- a call that may stay is good where it stays
stays-good : (s : Settings) (state to : State) (c : PrivateCall) → may_stay state to ≡ true → call_good s state c ≡ true → call_good s to c ≡ true
stays-good s state to c m g = go (eqb c.parties.identifier 0) g
  where
    parts : ((not (start_stop state) || start_stop to) ≡ true) × (both_bools (λ a. both_bools (λ b. not (role_good state a b) || role_good to a b)) ≡ true)
    parts = and_split (not (start_stop state) || start_stop to) _ m

    implied : (a b : Bool) → (not a || b) ≡ true → a ≡ true → b ≡ true
    implied true b h e = h
    implied false b h e = absurd (false≢true e)

    role : (a b : Bool) → role_good state a b ≡ true → role_good to a b ≡ true
    role a b =
        implied (role_good state a b) (role_good to a b)
        (at-bool (λ b. not (role_good state a b) || role_good to a b) (at-bool (λ a. both_bools (λ b. not (role_good state a b) || role_good to a b)) parts.1 a) b)

    users : (a b : Bool) → users_good state a b ≡ true → users_good to a b ≡ true
    users a b u = let h = and_split (one_own a b) (role_good state a b) u in both (one_own a b) (role_good to a b) h.0 (role a b h.1)

    go : (b : Bool) → cond b (start_stop state && call_none c) (fields_good c && users_of s state c) ≡ true
        → cond b (start_stop to && call_none c) (fields_good c && users_of s to c) ≡ true
    go true h = let k = and_split (start_stop state) (call_none c) h in both (start_stop to) (call_none c) (implied (start_stop state) (start_stop to) parts.0 k.0) k.1
    go false h =
        let k = and_split (fields_good c) _ h in
        both (fields_good c) (users_of s to c) k.0 (users (eqb c.parties.caller s.own_user) (eqb c.parties.callee s.own_user) k.1)

-- a setup request that is brought makes a good call
new-good : (s : Settings) (to : State) (mine : Bool) (r : Request) (media : Media) → New s.own_user mine r media
    → role_good to mine (not mine) ≡ true → call_good s to (call_of r media) ≡ true
new-good s to mine r media n role = good s to (call_of r media) (split r media n.ranged) (rw (n.caller, n.callee) (both (one_own mine (not mine)) _ (one mine) role))
  where
    one : (b : Bool) → one_own b (not b) ≡ true
    one true = refl
    one false = refl

-- outside P0 there is a call, in range and with the right users
held-parts : (s : Settings) (state : State) (c : PrivateCall) → start_stop state ≡ false → call_good s state c ≡ true
    → (fields_good c ≡ true) × (users_of s state c ≡ true)
held-parts s state c p g = go (eqb c.parties.identifier 0) g
  where
    go : (b : Bool) → cond b (start_stop state && call_none c) (fields_good c && users_of s state c) ≡ true → (fields_good c ≡ true) × (users_of s state c ≡ true)
    go true h = absurd (true≢false (sym (and_split (start_stop state) (call_none c) h).0 ∙ p))
    go false h = and_split (fields_good c) (users_of s state c) h

-- in range
pub one-held : (s : Settings) (state : State) (c : PrivateCall) → start_stop state ≡ false → call_good s state c ≡ true → fields_good c ≡ true
one-held s state c p g = (held-parts s state c p g).0

-- other media in range does no harm
media-good : (s : Settings) (state : State) (c : PrivateCall) (media : Media) → start_stop state ≡ false → media_good media ≡ true
    → call_good s state c ≡ true → call_good s state (with_media c media) ≡ true
media-good s state c media p m g =
    let h = held-parts s state c p g in
    let r = ranged c h.0 in
    good s state (with_media c media) (record { parties = r.parties; its_media = m; commencement = r.commencement; pck = r.pck }) h.1

-- what may be held is good
pub held-good : (s : Settings) (state to : State) (hold : Hold) (c : Cause) (call : PrivateCall) (r : Request) (media : Media)
    → may_hold c state to hold ≡ true → call_good s state call ≡ true → Brings s.own_user c r media → call_good s to (held_of hold call r media) ≡ true
held-good s state to Hold.Keep c call r media m g b = stays-good s state to call m g
held-good s state to Hold.Request c call r media m g b =
    let h = and_split (brings_call c) _ m in new-good s to (same_cause c Cause.UserStarts) r media (b.call h.0) h.1
held-good s state to Hold.Media c call r media m g b =
    let h = and_split (brings_media c) _ m in
    let k = and_split (not (start_stop state)) _ h.1 in
    stays-good s state to (with_media call media) k.1 (media-good s state call media (not-true _ k.0) (b.its_media h.0) g)
held-good s state to Hold.Clear c call r media m g b = both (start_stop to) true m refl
