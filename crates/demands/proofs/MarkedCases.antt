-- The marked cases hold. Assumes nothing.
use mathlib.Core.Path.{◌≡◌, refl, sym, ap, ◌∙◌, subst}
use mathlib.Core.List.{List, [], ◌∷◌}
use mathlib.Core.Bool.{true, false, not, true≢false}
use Prim.Native.Nat.{ℕ, ◌<◌}
use native.Mathlib.Omega.{arith}
use lib.ListN.{length, set, replicate, length-replicate}
use lib.Dec.{ltb, eqb}
use borrow.Author.Tests.{eqb-true, eq-eqb, ne_eqb}
use Rattle.frame.specs.Number.{first_given}
use Rattle.frame.specs.Digits.{all_digits, in_hex, number_at, all_in_hex, numbers_at}
use Rattle.frame.specs.Frame.{parties_good, setup_good, group_call_good, acceptance_good, in_range}
use Rattle.frame.specs.Layout.{digits_of, frame_in_hex, line_of}
use Rattle.frame.specs.declared.Media.{Media}
use Rattle.frame.specs.declared.Message.{Message}
use Rattle.reader.specs.Line.{message_at, media_at, count, refusal_of, read_line, line_number}
use Rattle.writer.specs.Writing.{write_number}
use Rattle.call.specs.Settings.{no_counters, settings_good}
use Rattle.call.specs.declared.PrivateTimer.{PrivateTimer}
use Rattle.call.specs.declared.PrivateAction.{PrivateAction}
use Rattle.call.specs.declared.Event.{Event}
use Rattle.private_record.specs.Phases.{has, running_of, phase_in}
use Rattle.private_record.specs.Formed.{is_well_formed, cleared_record}
use Rattle.private_record.specs.declared.states.State.{State}
use Rattle.private_record.specs.declared.states.Phase.{Phase}
use Rattle.private_record.specs.declared.states.Timers.{Timers}
use Rattle.private_record.proofs.WellFormed.{fit}
use Rattle.private_rows.specs.Rows.{row_in}
use Rattle.call.specs.Timing.{stopped_of, running_after}
use Rattle.private_call.specs.Carried.{started_of, counters_after, carry_out}
use Rattle.private_call.specs.Step.{step_of}
use Rattle.stepping.specs.Answer.{Answer}
use Rattle.private_call.proofs.MarkedSteps.{expiry-discarded, second-accept, last-expiry}
use Rattle.group_order.specs.Order.{rank_of}
use Rattle.group_order.proofs.Order.{asymmetric, by_rank, by-identifier}
use Rattle.group_record.specs.Formed as GroupFormed
use Rattle.group_record.specs.declared.states.GroupRecord.{GroupRecord}
use Rattle.group_rows.specs.Rows as GroupRows
use Rattle.group_call.specs.Carried as GroupCarried
use Rattle.group_call.specs.Step as GroupStep
use Rattle.group_call.specs.Hearing.{hears}
use Rattle.group_record.specs.declared.states.Timers as GroupTimers
use Rattle.group_call.proofs.Merging.{ongoing-is, better-joined}
use Rattle.chooser.specs.Choice.{choice_of, choice_number}
use Rattle.demands.specs.Machines.{Machine, private_machine, group_machine}
use Rattle.demands.specs.ExactlyWhen.{ExactlyWhen, StepExactlyWhen}
use Rattle.demands.specs.MarkedCases.{spoilt, writes, expiry_discarded, Holds, reading-holds, spoilt-holds, writing-holds, ringing, table, AllHold}
use Rattle.demands.specs.Played.{crew_with, crew, ours, theirs, cfp1_at, stored, hears_signed, request, does, expires}
use Rattle.demands.specs.GroupPlayed.{mine, heard, goes_on, announces}
use Rattle.demands.specs.MarkedCases.{steps, hearing, step-holds, hearing-holds, last-expiry-holds, second-discarded-holds, expiry-discarded-holds}
use Rattle.demands.specs.MarkedCases.{merges, lower_wins, type_beats, merges-holds, lower-wins-holds, type-beats-holds, choosing-holds}
use Rattle.demands.proofs.Tables.{below, at}
use Rattle.demands.proofs.ExactlyWhen.{step-exactly-when}
use Rattle.demands.proofs.GroupMachine.{group-step-exactly-when}

-- a byte in place of any digit, by the test at each place
everywhere : {l : List ℕ} {byte n : ℕ} → below (count l) (λ (k : ℕ). eqb (line_number (set l k byte)) n) ≡ true → Holds (spoilt l byte n)
everywhere {l} {byte} {n} e = spoilt-holds (λ i h. eqb-true _ n (at (count l) (λ (k : ℕ). eqb (line_number (set l k byte)) n) e i h))

-- the writer's number looks at a buffer's length alone
by_length : {m : Message} {media : Media} {room n : ℕ} → write_number m media (replicate room 0) ≡ n → Holds (writes m media room n)
unfolding write_number
by_length {m} {media} {room} h =
    writing-holds (λ out e.
    ap (λ (k : ℕ). first_given ((5, not (in_range m media)) ∷ (6, ltb k (length (line_of m media))) ∷ [])) (e ∙ sym (length-replicate room 0)) ∙ h)

-- a timer that does not run in a state, whatever runs there: its expiry is discarded
quiet : {state : State} {timer : PrivateTimer} → ((w : Timers) → has (running_of (phase_in state w)) timer ≡ false) → Holds (expiry_discarded state timer)
quiet {state} {timer} h =
    expiry-discarded-holds (λ s p media v out g w e.
    let runs = (fit s p w).running ∙ ap (λ (x : State). running_of (phase_in x p.running)) e in
    expiry-discarded s p timer media v out g w (ap (λ (x : Timers). has x timer) runs ∙ h p.running))

-- case E, for a record
step-E : Holds (steps private_machine (crew_with false 1) (stored Phase.P2Tfp1 (cfp1_at 1) ours) (expires PrivateTimer.Tfp1) [] 0 3)
unfolding step_of settings_good is_well_formed row_in carry_out started_of stopped_of running_after counters_after in_range parties_good setup_good
step-E = step-holds refl refl

-- case F, for a record
step-F : Holds (steps private_machine crew (stored Phase.P5Tfp2 no_counters theirs) (does PrivateAction.Accept) (replicate 31 0) 0 23)
unfolding step_of settings_good is_well_formed row_in carry_out started_of stopped_of running_after counters_after in_range parties_good setup_good write_number line_of frame_in_hex all_in_hex in_hex
step-F = step-holds refl refl

-- case G, for a record
step-G : Holds (steps private_machine crew (stored Phase.P4 no_counters ours) (expires PrivateTimer.Tfp7) [] 0 0)
unfolding step_of settings_good is_well_formed row_in carry_out started_of stopped_of running_after counters_after in_range parties_good setup_good
step-G = step-holds refl refl

-- an announced type of better rank wins, from every record: case H
better-joins : {type other : ℕ} → rank_of other < rank_of type → Holds (merges type other 10)
better-joins {type} {other} better =
    merges-holds {type = type} {other = other} {row = 10} (λ s g call confirm media v out h w e stored r own f heard.
    let is = ongoing-is s g w e in
    let w' = subst (λ (x : GroupRecord). GroupFormed.is_well_formed s x ≡ true) is w in
    let rank : rank_of call.call_type < rank_of g.call.call_type = rw (heard, stored) better in
    let step = better-joined s g.call g.media call confirm media v out h w' r (eq-eqb _ _ own) (ne_eqb _ _ f) (by_rank call g.call rank) in
    ap (λ (x : GroupRecord). (GroupStep.step_of s x (hears call confirm media v) out).row) is ∙ ap (λ (x : Answer GroupRecord GroupTimers.Timers). x.row) step.0)

-- case H, for a record
step-H : Holds (steps group_machine crew (goes_on (mine 1)) (announces (heard 2) 0) [] 0 10)
unfolding GroupStep.step_of settings_good GroupFormed.is_well_formed GroupRows.row_in GroupCarried.carry_out GroupCarried.stopped_of GroupCarried.running_after in_range group_call_good
step-H = step-holds refl refl

-- the lower identifier wins, of every two calls: case I
lower-wins : {low high : ℕ} → low < high → Holds (lower_wins low high)
lower-wins {low} {high} h =
    lower-wins-holds {low = low} {high = high} (λ a b r s x y.
    let below : a.identifier < b.identifier = rw (x, y) h in
    let is = by-identifier a b r s below in (is, asymmetric a b is))

-- the better rank wins, of every two calls: case J
rank-wins : {type other : ℕ} → rank_of type < rank_of other → Holds (type_beats type other)
rank-wins {type} {other} h =
    type-beats-holds {type = type} {other = other} (λ a b x y.
    let rank : rank_of a.call_type < rank_of b.call_type = rw (x, y) h in
    let is = by_rank a b rank in (is, asymmetric a b is))

-- a message with a field out of range is refused with 5, from every record: case L
five-heard : (M : Machine) {m : Message} {media : Media} → StepExactlyWhen M → in_range m media ≡ false → Holds (hearing M m media 5)
unfolding ExactlyWhen
five-heard M {m} {media} exact out_of_range =
    hearing-holds (λ s p v out g w.
    (exact s p (record { event = Event.Message m; media = media; verdicts = v }) out).exactly.1.1.0.1
    (((tt, λ h. true≢false (sym g ∙ h)), λ h. true≢false (sym w ∙ h)), out_of_range))

-- case L, for a record of the private call machine
private-L : Holds (steps private_machine crew cleared_record (hears_signed (request 0 0x1000_0000)) (replicate 31 0) 0 20)
unfolding step_of settings_good is_well_formed row_in carry_out started_of stopped_of running_after counters_after in_range parties_good setup_good write_number line_of frame_in_hex all_in_hex in_hex
private-L = step-holds refl refl

-- case L, for a record of the group call machine
group-L : Holds (steps group_machine crew GroupFormed.cleared_record (hears_signed (request 0 0x1000_0000)) [] 0 0)
unfolding GroupStep.step_of settings_good GroupFormed.is_well_formed GroupRows.row_in GroupCarried.carry_out GroupCarried.stopped_of GroupCarried.running_after in_range parties_good setup_good
group-L = step-holds refl refl

-- every marked case holds
pub marked-cases : AllHold table
unfolding below AllHold table ringing read_line refusal_of message_at media_at numbers_at number_at digits_of all_digits in_range parties_good setup_good group_call_good acceptance_good write_number line_of frame_in_hex all_in_hex in_hex choice_number choice_of
marked-cases =
    (reading-holds refl, (everywhere refl, (reading-holds refl, (reading-holds refl, (last-expiry-holds last-expiry, (step-E, (second-discarded-holds (λ s p media media' v v' out out' e. second-accept s p media media' v v' out out' e), (step-F, (quiet (λ w. refl), (step-G, (better-joins (omega arith), (step-H, (lower-wins (omega arith), (choosing-holds refl refl, (choosing-holds refl refl, (rank-wins (omega arith), (choosing-holds refl refl, (by_length refl, (by_length refl, (reading-holds refl, (by_length refl, (private-L, (group-L, (reading-holds refl, (by_length refl, (five-heard private_machine step-exactly-when refl, (five-heard group_machine group-step-exactly-when refl, tt)))))))))))))))))))))))))))
