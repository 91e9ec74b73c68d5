-- A step is refused by a test, met by no row, refused by G9, refused by the writer, or carried out. Assumes nothing.
use Rattle.std.proofs.Common.{◌≡◌, ℕ, Bool, List, Some, Ok, sym, ap, ◌∙◌}
use Rattle.writer.specs.Lent.{Written}
use Rattle.call.specs.declared.Settings.{Settings}
use Rattle.call.specs.declared.Input.{Input}
use Rattle.stepping.specs.Numbers.{number_before_row}
use Rattle.stepping.specs.Sending.{send_told, send_buffer}
use Rattle.stepping.specs.declared.Carried.{Carried}
use Rattle.stepping.specs.declared.Stepped.{Stepped}
use Rattle.group_record.specs.Formed.{is_well_formed}
use Rattle.group_record.specs.declared.states.Timers.{Timers}
use Rattle.group_record.specs.declared.states.GroupRecord.{GroupRecord}
use Rattle.group_rows.specs.Rows.{row_number, row_of}
use Rattle.group_rows.specs.declared.Row.{Row}
use Rattle.group_call.specs.Carried.{carry_out}
use Rattle.group_call.specs.Step.{change_too_early, answer_told, done_of, moved_of}
use Rattle.group_call.proofs.Answers.{handed-up, first-refusal, refused-by-row, sending-refusal, carried-out}
use Rattle.group_call.proofs.Steps.{answered-at-once}
use Rattle.group_call.proofs.step.Goals as goal

-- the number before a row is looked for
number : (s : Settings) (g : GroupRecord) (i : Input) (formed : Bool) (n : ℕ) → formed ≡ is_well_formed s g → n ≡ number_before_row s formed i
    → n ≡ number_before_row s (is_well_formed s g) i
number s g i formed n f e = e ∙ ap (λ (w : Bool). number_before_row s w i) f

-- whether G9 refuses
early : (s : Settings) (g : GroupRecord) (i : Input) (row : Row) (b : Bool) → Some row ≡ row_of s g i.event → b ≡ change_too_early s g i.event (Some row)
    → change_too_early s g i.event (row_of s g i.event) ≡ b
early s g i row b r e = sym (e ∙ ap (change_too_early s g i.event) r)

-- what is carried out
done : (s : Settings) (g : GroupRecord) (i : Input) (row : Row) (d : Carried GroupRecord Timers) → Some row ≡ row_of s g i.event → d ≡ carry_out s g i (Some row) → d ≡ done_of s g i
done s g i row d r e = e ∙ ap (carry_out s g i) r

-- what the writer tells
told : (d e : Carried GroupRecord Timers) (out : List ℕ) (written : Written) → d ≡ e → written ≡ send_told d.sent d.next.media out
    → written ≡ send_told e.sent e.next.media out
told d e out written r t = t ∙ ap (λ (x : Carried GroupRecord Timers). send_told x.sent x.next.media out) r

-- what the writer leaves
left : (d e : Carried GroupRecord Timers) (out after : List ℕ) → d ≡ e → after ≡ send_buffer d.sent d.next.media out
    → after ≡ send_buffer e.sent e.next.media out
left d e out after r t = t ∙ ap (λ (x : Carried GroupRecord Timers). send_buffer x.sent x.next.media out) r

pub returns-in_err-number_before_row : goal.returns-in_err-number_before_row
returns-in_err-number_before_row c =
    let a = c.args in
    let n = number a.settings a.stored a.input _ _ c.well_formed-2.ensures c.in_err-number_before_row.ensures in
    let r = first-refusal a.settings a.stored a.input a.out.now _ n in
    record { value = ap (answer_told a.stored) (handed-up _ _ c.from_residual.ensures.1) ∙ r.0; out_after = r.1 }

pub returns-in_default : goal.returns-in_default
returns-in_default c =
    let a = c.args in
    let n = number a.settings a.stored a.input _ _ c.well_formed-2.ensures c.in_ok-number_before_row.ensures in
    let r = answered-at-once a.settings a.stored a.input a.out.now (sym n) (sym (ap row_number c.in_default.ensures)) in
    record { value = ap (λ (x : Stepped Row GroupRecord Timers). answer_told a.stored (Ok x)) c.nothing.ensures ∙ r.0; out_after = r.1 }

pub returns-then-change_too_early : goal.returns-then-change_too_early
returns-then-change_too_early c =
    let a = c.args in
    let n = number a.settings a.stored a.input _ _ c.well_formed-2.ensures c.in_ok-number_before_row.ensures in
    let t = early a.settings a.stored a.input _ _ c.in-Some.ensures c.if-change_too_early.ensures in
    let r = refused-by-row a.settings a.stored a.input a.out.now (sym n) t in
    record { value = r.0; out_after = r.1 }

pub returns-in_err-length : goal.returns-in_err-length
returns-in_err-length c =
    let a = c.args in
    let n = number a.settings a.stored a.input _ _ c.well_formed-2.ensures c.in_ok-number_before_row.ensures in
    let t = early a.settings a.stored a.input _ _ c.in-Some.ensures c.if-change_too_early.ensures in
    let d = done a.settings a.stored a.input _ _ c.in-Some.ensures c.carry_out-done.ensures in
    let w = told _ _ a.out.now _ d c.in_err-length.ensures.value in
    let b = left _ _ a.out.now _ d c.in_err-length.ensures.out_after in
    let r = sending-refusal a.settings a.stored a.input a.out.now (sym n) t _ (ap (λ (x : Written). x.number) w) in
    record { value = ap (answer_told a.stored) (handed-up _ _ c.from_residual-in_err-length.ensures.1) ∙ r.0; out_after = b ∙ r.1 }

pub returns : goal.returns
returns c =
    let a = c.args in
    let n = number a.settings a.stored a.input _ _ c.well_formed-2.ensures c.in_ok-number_before_row.ensures in
    let t = early a.settings a.stored a.input _ _ c.in-Some.ensures c.if-change_too_early.ensures in
    let d = done a.settings a.stored a.input _ _ c.in-Some.ensures c.carry_out-done.ensures in
    let w = told _ _ a.out.now _ d c.in_ok-length.ensures.value in
    let b = left _ _ a.out.now _ d c.in_ok-length.ensures.out_after in
    let r = carried-out a.settings a.stored a.input a.out.now (sym n) _ c.in-Some.ensures t (ap (λ (x : Written). x.number) (sym w)) in
    record {
      value = (λ j. moved_of (c.in-Some.ensures j) (d j) (w j).length) ∙ r.0;
      out_after = b ∙ r.1;
    }
