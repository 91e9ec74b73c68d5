-- A test that is computed for every state, cause and set of facts, and what it shows of each. Assumes nothing.
use mathlib.Core.Path.{◌≡◌}
use mathlib.Core.List.{List, [], ◌∷◌}
use mathlib.Core.Bool.{Bool, true}
use Rattle.call.proofs.Laws.{each, nth, both_bools, at-bool}
use Rattle.group_record.specs.declared.states.State.{State}
use Rattle.group_rows.specs.declared.causes.Cause.{Cause}
use Rattle.group_rows.specs.declared.causes.Facts.{Facts}

-- of every state
abbrev state_tests : (State → Bool) → List Bool
state_tests q = q State.S1 ∷ q State.S3 ∷ q State.S4 ∷ q State.S5 ∷ []

-- of one
at-state : (q : State → Bool) → each (state_tests q) ≡ true → (f : State) → q f ≡ true
at-state q t State.S1 = nth (state_tests q) 0 t
at-state q t State.S3 = nth (state_tests q) 1 t
at-state q t State.S4 = nth (state_tests q) 2 t
at-state q t State.S5 = nth (state_tests q) 3 t

-- of every cause
abbrev cause_tests : (Cause → Bool) → List Bool
cause_tests q =
    q Cause.UserStarts
    ∷ q Cause.UserAccepts
    ∷ q Cause.UserRejects
    ∷ q Cause.UserLeaves
    ∷ q Cause.UserRaises
    ∷ q Cause.Tfg2Expires
    ∷ q Cause.Tfg4Expires
    ∷ q Cause.Tfg6Expires
    ∷ q Cause.AnnouncementHeard
    ∷ q Cause.Other
    ∷ []

-- of one
at-cause : (q : Cause → Bool) → each (cause_tests q) ≡ true → (c : Cause) → q c ≡ true
at-cause q t Cause.UserStarts = nth (cause_tests q) 0 t
at-cause q t Cause.UserAccepts = nth (cause_tests q) 1 t
at-cause q t Cause.UserRejects = nth (cause_tests q) 2 t
at-cause q t Cause.UserLeaves = nth (cause_tests q) 3 t
at-cause q t Cause.UserRaises = nth (cause_tests q) 4 t
at-cause q t Cause.Tfg2Expires = nth (cause_tests q) 5 t
at-cause q t Cause.Tfg4Expires = nth (cause_tests q) 6 t
at-cause q t Cause.Tfg6Expires = nth (cause_tests q) 7 t
at-cause q t Cause.AnnouncementHeard = nth (cause_tests q) 8 t
at-cause q t Cause.Other = nth (cause_tests q) 9 t

-- facts by their Bools
abbrev facts : Bool → Bool → Bool → Bool → Facts
facts acknowledgement same better rank = record { acknowledgement = acknowledgement; same = same; better = better; better_rank = rank }

-- of every set of facts
abbrev every_facts : (Facts → Bool) → Bool
every_facts q = both_bools (λ a. both_bools (λ b. both_bools (λ c. both_bools (λ d. q (facts a b c d)))))

-- of one
at-facts : (q : Facts → Bool) → every_facts q ≡ true → (x : Facts) → q x ≡ true
at-facts q t x =
    let a = x.acknowledgement in
    let b = x.same in
    let c = x.better in
    at-bool (λ d. q (facts a b c d))
    (at-bool (λ c. both_bools (λ d. q (facts a b c d)))
    (at-bool (λ b. both_bools (λ c. both_bools (λ d. q (facts a b c d))))
    (at-bool (λ a. both_bools (λ b. both_bools (λ c. both_bools (λ d. q (facts a b c d))))) t a) b) c) x.better_rank

-- a test of everything
abbrev pub everywhere : (State → Cause → Facts → Bool) → Bool
everywhere q = each (state_tests (λ f. each (cause_tests (λ c. every_facts (q f c)))))

-- and what it shows
pub anywhere : (q : State → Cause → Facts → Bool) → everywhere q ≡ true → (f : State) (c : Cause) (x : Facts) → q f c x ≡ true
anywhere q t f c x =
    at-facts (q f c) (at-cause (λ c. every_facts (q f c)) (at-state (λ f. each (cause_tests (λ c. every_facts (q f c)))) t f) c) x
