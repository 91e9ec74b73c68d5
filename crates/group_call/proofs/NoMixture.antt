-- The call held after a step: no fields of two calls are mixed, but for a change. Assumes nothing.
use Prim.Native.Nat.{ℕ}
use mathlib.Core.Path.{◌≡◌, refl}
use mathlib.Core.Logic.{◌⊎◌, inl, inr}
use mathlib.Core.List.{List}
use mathlib.Core.Bool.{Bool, true, false, cond}
use lib.ListN.{length}
use lib.Dec.{eqb}
use Rattle.std.specs.Prelude.{Option, Some, None}
use Rattle.frame.specs.Media.{no_media}
use Rattle.frame.specs.Frame.{no_group_call}
use Rattle.frame.specs.declared.Media.{Media}
use Rattle.frame.specs.declared.GroupCall.{GroupCall}
use Rattle.call.specs.Announced.{announced_of}
use Rattle.call.specs.declared.Settings.{Settings}
use Rattle.call.specs.declared.Input.{Input}
use Rattle.stepping.proofs.Answers.{by_cases}
use Rattle.group_record.specs.declared.states.State.{State}
use Rattle.group_record.specs.declared.states.GroupRecord.{GroupRecord}
use Rattle.group_rows.specs.Rows.{row_number, row_of}
use Rattle.group_rows.specs.declared.Row.{Row}
use Rattle.group_rows.specs.declared.Row.TheVariants.{G1, G2, G3, G4, G5, G6, G7, G8, G9, G10, G11}
use Rattle.group_call.specs.Effects.{effect_of}
use Rattle.group_call.specs.Carried.{is_later, changed_by, held_of, media_held, carry_out}
use Rattle.group_call.specs.Step.{done_of, step_line, step_number, refused_of, discarded, moved_of, answer_met, step_of}

-- a call and its media are these
abbrev pub Is : GroupCall → Media → GroupCall → Media → Type 0
Is call media held its = (held ≡ call) × (its ≡ media)

-- what may be held after a row: the stored call, the one brought in all nine fields, none, or by G9 and G11 alone the stored call with type, time and changer of another
abbrev pub Unmixed : ℕ → GroupCall → Media → GroupCall → Media → GroupCall → Media → Type 0
Unmixed row stored own call media held its =
    Is stored own held its
    ⊎ (Is call media held its ⊎ (Is no_group_call no_media held its ⊎ (((row ≡ 9) ⊎ (row ≡ 11)) × Is (changed_by stored call) own held its)))

-- by the row
unmixed-by : (row : Option Row) (state : State) (confirm : Bool) (stored : GroupCall) (own : Media) (call : GroupCall) (media : Media)
    → let hold = (effect_of row state confirm).hold in Unmixed (row_number row) stored own call media (held_of hold stored call) (media_held hold own media)
unmixed-by None state confirm stored own call media = inl (refl, refl)
unmixed-by (Some G1) state confirm stored own call media = inr (inl (refl, refl))
unmixed-by (Some G2) state confirm stored own call media = inl (refl, refl)
unmixed-by (Some G3) state confirm stored own call media = inr (inl (refl, refl))
unmixed-by (Some G4) state confirm stored own call media = inr (inl (refl, refl))
unmixed-by (Some G5) state confirm stored own call media = inl (refl, refl)
unmixed-by (Some G6) state confirm stored own call media = inl (refl, refl)
unmixed-by (Some G7) state confirm stored own call media = inr (inr (inl (refl, refl)))
unmixed-by (Some G8) state confirm stored own call media = inr (inr (inl (refl, refl)))
unmixed-by (Some G9) state confirm stored own call media = inr (inr (inr (inl refl, (refl, refl))))
unmixed-by (Some G10) state confirm stored own call media = inr (inl (refl, refl))
unmixed-by (Some G11) state confirm stored own call media = go (is_later call stored)
  where
    go : (b : Bool) → Unmixed 11 stored own call media (cond b (changed_by stored call) stored) own
    go true = inr (inr (inr (inr refl, (refl, refl))))
    go false = inl (refl, refl)

-- after a row's answer, be it a discard
answer-unmixed : (s : Settings) (g : GroupRecord) (i : Input) (b : Bool) → let x = cond b (discarded g) (moved_of (row_of s g i.event) (done_of s g i) (length (step_line s g i))) in
    Unmixed x.row g.call g.media (announced_of s i.event).call i.media x.next.call x.next.media
unfolding carry_out
answer-unmixed s g i true = inl (refl, refl)
answer-unmixed s g i false =
    unmixed-by (row_of s g i.event) g.state (eqb (announced_of s i.event).confirm 1) g.call g.media (announced_of s i.event).call i.media

-- after any step, refused or not
pub no-mixture : (s : Settings) (g : GroupRecord) (i : Input) (out : List ℕ)
    → Unmixed (step_of s g i out).row g.call g.media (announced_of s i.event).call i.media (step_of s g i out).next.call (step_of s g i out).next.media
unfolding step_of
no-mixture s g i out =
    by_cases (step_number s g i out) (answer_met s g i) (λ n. refused_of n g)
    (λ x. Unmixed x.row g.call g.media (announced_of s i.event).call i.media x.next.call x.next.media)
    (λ e. answer-unmixed s g i (eqb (row_number (row_of s g i.event)) 0))
    (λ f. inl (refl, refl))
