-- What an announcement does to an ongoing call. Assumes nothing.
use Prim.Native.Nat.{ℕ}
use mathlib.Core.Path.{◌≡◌, refl, sym, ap, ◌∙◌}
use mathlib.Core.List.{List}
use mathlib.Core.Bool.{Bool, true, false, cond, not, ◌&&◌}
use lib.Dec.{eqb}
use Rattle.std.specs.Prelude.{Option, Some, None}
use Rattle.std.specs.Bool.{then_some}
use Rattle.frame.specs.Frame.{in_range}
use Rattle.frame.specs.declared.Media.{Media}
use Rattle.frame.specs.declared.GroupCall.{GroupCall}
use Rattle.frame.specs.declared.Message.TheVariants.{Announcement}
use Rattle.call.specs.Settings.{settings_good}
use Rattle.call.specs.declared.Settings.{Settings}
use Rattle.call.specs.declared.Verdicts.{Verdicts}
use Rattle.stepping.proofs.Stepping.{Taken, tests-pass}
use Rattle.group_order.specs.Order.{is_better}
use Rattle.stepping.specs.Answer.{Answer}
use Rattle.call.specs.Timing.{stopped_of, running_after}
use Rattle.group_record.specs.States.{tfg2, tfg2_and6, running_of}
use Rattle.group_record.specs.Formed.{is_well_formed}
use Rattle.group_record.specs.declared.states.State.{State}
use Rattle.group_record.specs.declared.states.Timers.{Timers}
use Rattle.group_record.specs.declared.states.GroupRecord.{GroupRecord}
use Rattle.group_rows.specs.Causes.{same_identifier, facts_of}
use Rattle.group_rows.specs.Rows.{row_number, row_in, row_of}
use Rattle.group_rows.specs.declared.Row.{Row}
use Rattle.group_rows.specs.declared.Row.TheVariants.{G10, G11}
use Rattle.group_rows.specs.declared.causes.Cause.{Cause}
use Rattle.group_rows.specs.declared.causes.Facts.{Facts}
use Rattle.group_rows.proofs.Meets.{found-is-met}
use Rattle.group_call.specs.Carried.{is_later, later_change, carry_out}
use Rattle.group_call.specs.Step.{change_too_early, number_before_sending, discarded, step_of, step_buffer}
use Rattle.group_call.specs.Hearing.{ongoing, hears}
use Rattle.group_call.proofs.Keeping.{fit}
use Rattle.group_call.proofs.Steps.{carries, discards}

-- a well-formed record in S3 is an ongoing call
pub ongoing-is : (s : Settings) (g : GroupRecord) → is_well_formed s g ≡ true → g.state ≡ State.S3 → g ≡ ongoing g.call g.media
ongoing-is s g w e =
    let running = (fit s g w).running ∙ ap running_of e in
    λ j. record { state = e j; running = running j; call = g.call; media = g.media }

-- the row of an announcement of the own group in S3
heard-row : (x : Facts) → row_in State.S3 Cause.AnnouncementHeard x ≡ cond x.same (Some G11) (then_some x.better G10)
heard-row x = sym (found-is-met State.S3 Cause.AnnouncementHeard x)

-- the answer of a step that merges: all nine fields are those heard, TFG2 and TFG6 run anew, and nothing is sent
abbrev pub merged : GroupCall → Media → Answer GroupRecord Timers
merged call media = record { number = 0; row = 10; next = ongoing call media; stop = tfg2_and6; start = tfg2_and6; length = 0 }

-- the answer of a step that hears its own call again: TFG2 runs anew, and a later change is taken over
abbrev pub refreshed : GroupCall → GroupCall → Media → Answer GroupRecord Timers
refreshed stored call own = record { number = 0; row = 11; next = ongoing (later_change stored call) own; stop = tfg2; start = tfg2; length = 0 }

module _ (s : Settings) (stored : GroupCall) (own : Media) (call : GroupCall) (confirm : ℕ) (media : Media) (v : Verdicts) (out : List ℕ)
    (good : settings_good s ≡ true) (formed : is_well_formed s (ongoing stored own) ≡ true) (in_ranges : in_range (Announcement call confirm) media ≡ true) where
  -- the facts
  abbrev facts : Facts
  facts = facts_of s stored call

  -- the step is not refused
  taken : Taken s (is_well_formed s (ongoing stored own)) (hears call confirm media v)
  taken = record { settings = good; formed = formed; message = in_ranges; arguments = refl }

  -- nor is it by its row
  not-early : (row : Option Row) → row_of s (ongoing stored own) (hears call confirm media v).event ≡ row → eqb (row_number row) 9 ≡ false
      → number_before_sending s (ongoing stored own) (hears call confirm media v) ≡ 0
  not-early row r e =
      let z = ap (λ (x : Option Row). eqb (row_number x) 9) r ∙ e in
      let i = hears call confirm media v in
      tests-pass s (is_well_formed s (ongoing stored own)) i (change_too_early s (ongoing stored own) i.event (row_of s (ongoing stored own) i.event)) taken
      (λ j. z j && not (is_later call stored))

  -- the row of an announcement of the own group
  own_row : eqb call.group s.own_group ≡ true
      → row_of s (ongoing stored own) (hears call confirm media v).event ≡ cond (same_identifier call stored) (Some G11) (then_some (is_better call stored) G10)
  own_row o = ap (λ (b : Bool). row_in State.S3 (cond b Cause.AnnouncementHeard Cause.Other) facts) o ∙ heard-row facts

  -- a better call with another identifier is joined
  pub better-joined : eqb call.group s.own_group ≡ true → same_identifier call stored ≡ false → is_better call stored ≡ true
      → (step_of s (ongoing stored own) (hears call confirm media v) out ≡ merged call media)
      × (step_buffer s (ongoing stored own) (hears call confirm media v) out ≡ out)
  unfolding carry_out stopped_of running_after
  better-joined o a b =
      let r = own_row o ∙ (λ j. cond (a j) (Some G11) (then_some (b j) G10)) in
      carries s (ongoing stored own) (hears call confirm media v) out (Some G10) (not-early (Some G10) r refl) r refl

  -- a call with another identifier that is not better is passed over
  pub not-better-discarded : eqb call.group s.own_group ≡ true → same_identifier call stored ≡ false → is_better call stored ≡ false
      → (step_of s (ongoing stored own) (hears call confirm media v) out ≡ discarded (ongoing stored own))
      × (step_buffer s (ongoing stored own) (hears call confirm media v) out ≡ out)
  not-better-discarded o a b =
      let r = own_row o ∙ (λ j. cond (a j) (Some G11) (then_some (b j) G10)) in
      discards s (ongoing stored own) (hears call confirm media v) out (not-early None r refl) r

  -- the own call heard again starts TFG2 anew, and a later change of it is taken over
  pub same-refreshed : eqb call.group s.own_group ≡ true → same_identifier call stored ≡ true
      → (step_of s (ongoing stored own) (hears call confirm media v) out ≡ refreshed stored call own)
      × (step_buffer s (ongoing stored own) (hears call confirm media v) out ≡ out)
  unfolding carry_out stopped_of running_after
  same-refreshed o a =
      let r = own_row o ∙ (λ j. cond (a j) (Some G11) (then_some (is_better call stored) G10)) in
      carries s (ongoing stored own) (hears call confirm media v) out (Some G11) (not-early (Some G11) r refl) r refl
