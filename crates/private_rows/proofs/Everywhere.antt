-- A test that is computed for every phase, cause and set of facts, and what it shows of each. Assumes nothing.
use Prim.Native.Nat.{ℕ}
use mathlib.Core.Path.{◌≡◌, refl, subst}
use mathlib.Core.List.{List, [], ◌∷◌}
use mathlib.Core.Bool.{Bool, true}
use lib.ListN.{get_or, set}
use Rattle.call.specs.declared.PrivateTimer.{PrivateTimer}
use Rattle.call.proofs.Laws.{each, nth, both_bools, at-bool}
use Rattle.private_record.specs.declared.states.Phase.{Phase}
use Rattle.private_rows.specs.declared.causes.Cause.{Cause}
use Rattle.private_rows.specs.declared.causes.Facts.{Facts}

-- of every phase
abbrev phase_tests : (Phase → Bool) → List Bool
phase_tests q = q Phase.P0 ∷ q Phase.P1 ∷ q Phase.P2Tfp1 ∷ q Phase.P2Tfp2 ∷ q Phase.P3 ∷ q Phase.P4 ∷ q Phase.P5Tfp2 ∷ q Phase.P5Tfp4 ∷ []

-- at once
abbrev pub every_phase : (Phase → Bool) → Bool
every_phase q = each (phase_tests q)

-- of one
pub at-phase : (q : Phase → Bool) → every_phase q ≡ true → (f : Phase) → q f ≡ true
at-phase q t Phase.P0 = nth (phase_tests q) 0 t
at-phase q t Phase.P1 = nth (phase_tests q) 1 t
at-phase q t Phase.P2Tfp1 = nth (phase_tests q) 2 t
at-phase q t Phase.P2Tfp2 = nth (phase_tests q) 3 t
at-phase q t Phase.P3 = nth (phase_tests q) 4 t
at-phase q t Phase.P4 = nth (phase_tests q) 5 t
at-phase q t Phase.P5Tfp2 = nth (phase_tests q) 6 t
at-phase q t Phase.P5Tfp4 = nth (phase_tests q) 7 t

-- of every timer
abbrev timer_tests : (PrivateTimer → Bool) → List Bool
timer_tests q =
    q PrivateTimer.Tfp1 ∷ q PrivateTimer.Tfp2 ∷ q PrivateTimer.Tfp3 ∷ q PrivateTimer.Tfp4 ∷ q PrivateTimer.Tfp5 ∷ q PrivateTimer.Tfp7 ∷ []

-- at once
abbrev pub every_timer : (PrivateTimer → Bool) → Bool
every_timer q = each (timer_tests q)

-- of one
pub at-timer : (q : PrivateTimer → Bool) → every_timer q ≡ true → (t : PrivateTimer) → q t ≡ true
at-timer q t PrivateTimer.Tfp1 = nth (timer_tests q) 0 t
at-timer q t PrivateTimer.Tfp2 = nth (timer_tests q) 1 t
at-timer q t PrivateTimer.Tfp3 = nth (timer_tests q) 2 t
at-timer q t PrivateTimer.Tfp4 = nth (timer_tests q) 3 t
at-timer q t PrivateTimer.Tfp5 = nth (timer_tests q) 4 t
at-timer q t PrivateTimer.Tfp7 = nth (timer_tests q) 5 t

-- of every cause
abbrev cause_tests : (Cause → Bool) → List Bool
cause_tests q =
    q Cause.UserStarts
    ∷ q Cause.UserEnds
    ∷ q Cause.UserAccepts
    ∷ q Cause.UserRejects
    ∷ q Cause.Tfp1Expires
    ∷ q Cause.Tfp2Expires
    ∷ q Cause.Tfp3Expires
    ∷ q Cause.Tfp4Expires
    ∷ q Cause.Tfp5Expires
    ∷ q Cause.Tfp7Expires
    ∷ q Cause.SetupHeard
    ∷ q Cause.RingingHeard
    ∷ q Cause.AcceptHeard
    ∷ q Cause.RejectHeard
    ∷ q Cause.ReleaseHeard
    ∷ q Cause.ReleaseAckHeard
    ∷ q Cause.AcceptAckHeard
    ∷ q Cause.Other
    ∷ []

-- of one
at-cause : (q : Cause → Bool) → each (cause_tests q) ≡ true → (c : Cause) → q c ≡ true
at-cause q t Cause.UserStarts = nth (cause_tests q) 0 t
at-cause q t Cause.UserEnds = nth (cause_tests q) 1 t
at-cause q t Cause.UserAccepts = nth (cause_tests q) 2 t
at-cause q t Cause.UserRejects = nth (cause_tests q) 3 t
at-cause q t Cause.Tfp1Expires = nth (cause_tests q) 4 t
at-cause q t Cause.Tfp2Expires = nth (cause_tests q) 5 t
at-cause q t Cause.Tfp3Expires = nth (cause_tests q) 6 t
at-cause q t Cause.Tfp4Expires = nth (cause_tests q) 7 t
at-cause q t Cause.Tfp5Expires = nth (cause_tests q) 8 t
at-cause q t Cause.Tfp7Expires = nth (cause_tests q) 9 t
at-cause q t Cause.SetupHeard = nth (cause_tests q) 10 t
at-cause q t Cause.RingingHeard = nth (cause_tests q) 11 t
at-cause q t Cause.AcceptHeard = nth (cause_tests q) 12 t
at-cause q t Cause.RejectHeard = nth (cause_tests q) 13 t
at-cause q t Cause.ReleaseHeard = nth (cause_tests q) 14 t
at-cause q t Cause.ReleaseAckHeard = nth (cause_tests q) 15 t
at-cause q t Cause.AcceptAckHeard = nth (cause_tests q) 16 t
at-cause q t Cause.Other = nth (cause_tests q) 17 t

-- ---- the facts

-- the facts as Bools
abbrev bools : Facts → List Bool
bools x = x.same ∷ x.media_verdict ∷ x.manual ∷ x.trusted ∷ x.own_caller ∷ x.under ∷ []

-- and back
abbrev of_bools : List Bool → Facts
of_bools bs =
    record {
      same = get_or bs 0 true;
      media_verdict = get_or bs 1 true;
      manual = get_or bs 2 true;
      trusted = get_or bs 3 true;
      own_caller = get_or bs 4 true;
      under = get_or bs 5 true;
    }

-- the facts with another Bool at a place
abbrev put : ℕ → Facts → Bool → Facts
put k x b = of_bools (set (bools x) k b)

-- a fact by its place: its own Bool there changes nothing
record Fact : Type 0 where
  place : ℕ
  kept : (x : Facts) → put place x (get_or (bools x) place true) ≡ x

-- the message is the same
abbrev same_fact : Fact
same_fact = record { place = 0; kept = λ x. refl }

-- the host's verdict: media can be set up
abbrev media_fact : Fact
media_fact = record { place = 1; kept = λ x. refl }

-- the commencement is manual
abbrev manual_fact : Fact
manual_fact = record { place = 2; kept = λ x. refl }

-- there is no PCK-ID, or the signature is good
abbrev trusted_fact : Fact
trusted_fact = record { place = 3; kept = λ x. refl }

-- the caller is own
abbrev own_fact : Fact
own_fact = record { place = 4; kept = λ x. refl }

-- the counter is under its limit
abbrev under_fact : Fact
under_fact = record { place = 5; kept = λ x. refl }

-- the facts that the rows of a cause look at: a test need not be computed for both Bools of any other
abbrev looked_at : Cause → List Fact
looked_at Cause.UserStarts = []
looked_at Cause.UserEnds = []
looked_at Cause.UserAccepts = trusted_fact ∷ []
looked_at Cause.UserRejects = []
looked_at Cause.Tfp1Expires = under_fact ∷ []
looked_at Cause.Tfp2Expires = []
looked_at Cause.Tfp3Expires = under_fact ∷ []
looked_at Cause.Tfp4Expires = under_fact ∷ []
looked_at Cause.Tfp5Expires = []
looked_at Cause.Tfp7Expires = []
looked_at Cause.SetupHeard = same_fact ∷ media_fact ∷ manual_fact ∷ trusted_fact ∷ []
looked_at Cause.RingingHeard = same_fact ∷ []
looked_at Cause.AcceptHeard = same_fact ∷ media_fact ∷ own_fact ∷ []
looked_at Cause.RejectHeard = same_fact ∷ []
looked_at Cause.ReleaseHeard = same_fact ∷ []
looked_at Cause.ReleaseAckHeard = same_fact ∷ []
looked_at Cause.AcceptAckHeard = same_fact ∷ []
looked_at Cause.Other = []

-- of both Bools of each of these facts, the others being as they are
abbrev both_of : List Fact → (Facts → Bool) → Facts → Bool
both_of [] q x = q x
both_of (k ∷ ks) q x = both_bools (λ b. both_of ks q (put k.place x b))

-- of one
at-facts : (ks : List Fact) (q : Facts → Bool) → ((x : Facts) → both_of ks q x ≡ true) → (x : Facts) → q x ≡ true
at-facts [] q t x = t x
at-facts (k ∷ ks) q t x =
    at-facts ks q (λ y. subst (λ z. both_of ks q z ≡ true) (k.kept y) (at-bool (λ b. both_of ks q (put k.place y b)) (t y) (get_or (bools y) k.place true))) x

-- a test of everything, whatever the facts are that a cause does not look at
abbrev pub everywhere : (Phase → Cause → Facts → Bool) → Facts → Bool
everywhere q x = every_phase (λ f. each (cause_tests (λ c. both_of (looked_at c) (q f c) x)))

-- and what it shows
pub anywhere : (q : Phase → Cause → Facts → Bool) → ((x : Facts) → everywhere q x ≡ true) → (f : Phase) (c : Cause) (x : Facts) → q f c x ≡ true
anywhere q t f c =
    at-facts (looked_at c) (q f c)
    (λ x. at-cause (λ c. both_of (looked_at c) (q f c) x) (at-phase (λ f. each (cause_tests (λ c. both_of (looked_at c) (q f c) x))) (t x) f) c)
