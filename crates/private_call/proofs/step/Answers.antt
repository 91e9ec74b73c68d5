-- A step is refused by a test, discarded, refused by R1, refused by the writer, or carried out. Assumes nothing.
use Rattle.std.proofs.Common.{◌≡◌, ℕ, Bool, List, Some, Ok, sym, ap, ◌∙◌}
use Rattle.std.proofs.lemmas.Result.{err_from_is_err_and}
use Rattle.writer.specs.Lent.{Written}
use Rattle.call.specs.declared.Settings.{Settings}
use Rattle.call.specs.declared.Input.{Input}
use Rattle.stepping.specs.Numbers.{number_before_row}
use Rattle.stepping.specs.Sending.{send_told, send_buffer}
use Rattle.stepping.specs.declared.Carried.{Carried}
use Rattle.stepping.specs.declared.Stepped.{Stepped}
use Rattle.stepping.proofs.Answers.{refusal-given}
use Rattle.private_record.specs.Formed.{is_well_formed}
use Rattle.private_record.specs.declared.states.Timers.{Timers}
use Rattle.private_record.specs.declared.states.PrivateRecord.{PrivateRecord}
use Rattle.private_rows.specs.Rows.{row_of}
use Rattle.private_rows.specs.declared.Row.{Row}
use Rattle.private_call.specs.Carried.{carry_out}
use Rattle.private_call.specs.Step.{identifier_taken, answer_told, done_of, refused_of, moved_of}
use Rattle.private_call.proofs.Answers.{refused-first, refused-by-row, refused-sending, carried-out}
use Rattle.private_call.proofs.Steps.{answered-at-once}
use Rattle.private_call.proofs.step.Goals as goal

-- the number before a row is looked for
number : (s : Settings) (p : PrivateRecord) (i : Input) (formed : Bool) (n : ℕ) → formed ≡ is_well_formed s p → n ≡ number_before_row s formed i
    → n ≡ number_before_row s (is_well_formed s p) i
number s p i formed n f e = e ∙ ap (λ (w : Bool). number_before_row s w i) f

-- whether R1 refuses
taken : (s : Settings) (p : PrivateRecord) (i : Input) (row : Row) (b : Bool) → row_of s p i ≡ Some row → b ≡ identifier_taken s p i.event (Some row)
    → identifier_taken s p i.event (row_of s p i) ≡ b
taken s p i row b m e = ap (identifier_taken s p i.event) m ∙ sym e

-- what is carried out
done : (s : Settings) (p : PrivateRecord) (i : Input) (row : Row) (d : Carried PrivateRecord Timers) → row_of s p i ≡ Some row → d ≡ carry_out s p i (Some row)
    → d ≡ done_of s p i
done s p i row d m e = e ∙ ap (carry_out s p i) (sym m)

-- what the writer tells
told : (d e : Carried PrivateRecord Timers) (out : List ℕ) (written : Written) → d ≡ e → written ≡ send_told d.sent d.next.call.media out
    → written ≡ send_told e.sent e.next.call.media out
told d e out written r t = t ∙ ap (λ (x : Carried PrivateRecord Timers). send_told x.sent x.next.call.media out) r

-- what the writer leaves
left : (d e : Carried PrivateRecord Timers) (out after : List ℕ) → d ≡ e → after ≡ send_buffer d.sent d.next.call.media out
    → after ≡ send_buffer e.sent e.next.call.media out
left d e out after r t = t ∙ ap (λ (x : Carried PrivateRecord Timers). send_buffer x.sent x.next.call.media out) r

pub returns-in_err-number_before_row : goal.returns-in_err-number_before_row
returns-in_err-number_before_row c =
    let a = c.args in
    let refusal = c.in_err-number_before_row.field-0.0 in
    let p = err_from_is_err_and c.from_residual.result c.from_residual.ensures.1 in
    let n = number a.settings a.stored a.input _ _ c.well_formed-2.ensures c.in_err-number_before_row.ensures in
    let r = refused-first a.settings a.stored a.input a.out.now (λ e. refusal-given refusal (n ∙ e)) in
    record { value = rw (p.1, p.2) (ap (λ (n : ℕ). refused_of n a.stored) n ∙ r.0); out_after = r.1 }

pub returns-in_default : goal.returns-in_default
returns-in_default c =
    let a = c.args in
    let n = number a.settings a.stored a.input _ _ c.well_formed-2.ensures c.in_ok-number_before_row.ensures in
    let r = answered-at-once a.settings a.stored a.input a.out.now (sym n) (sym c.row_of.ensures ∙ c.in_default.is) in
    record { value = ap (λ (x : Stepped Row PrivateRecord Timers). answer_told a.stored (Ok x)) c.nothing.ensures ∙ r.0; out_after = r.1 }

pub returns-then-identifier_taken : goal.returns-then-identifier_taken
returns-then-identifier_taken c =
    let a = c.args in
    let n = number a.settings a.stored a.input _ _ c.well_formed-2.ensures c.in_ok-number_before_row.ensures in
    let t = taken a.settings a.stored a.input _ _ (sym c.row_of.ensures ∙ c.in-Some.is) c.if-identifier_taken.ensures in
    let r = refused-by-row a.settings a.stored a.input a.out.now (sym n) t in
    record { value = r.0; out_after = r.1 }

pub returns-in_err-length : goal.returns-in_err-length
returns-in_err-length c =
    let a = c.args in
    let refusal = c.in_err-length.field-0.0 in
    let p = err_from_is_err_and c.from_residual-in_err-length.result c.from_residual-in_err-length.ensures.1 in
    let n = number a.settings a.stored a.input _ _ c.well_formed-2.ensures c.in_ok-number_before_row.ensures in
    let m = sym c.row_of.ensures ∙ c.in-Some.is in
    let t = taken a.settings a.stored a.input _ _ m c.if-identifier_taken.ensures in
    let d = done a.settings a.stored a.input _ _ m c.carry_out-done.ensures in
    let w = ap (λ (x : Written). x.number) (told _ _ a.out.now _ d c.in_err-length.ensures.value) in
    let b = left _ _ a.out.now _ d c.in_err-length.ensures.out_after in
    let r = refused-sending a.settings a.stored a.input a.out.now (sym n) t (λ e. refusal-given refusal (w ∙ e)) in
    record { value = rw (p.1, p.2) (ap (λ (n : ℕ). refused_of n a.stored) w ∙ r.0); out_after = b ∙ r.1 }

pub returns : goal.returns
returns c =
    let a = c.args in
    let n = number a.settings a.stored a.input _ _ c.well_formed-2.ensures c.in_ok-number_before_row.ensures in
    let m = sym c.row_of.ensures ∙ c.in-Some.is in
    let t = taken a.settings a.stored a.input _ _ m c.if-identifier_taken.ensures in
    let d = done a.settings a.stored a.input _ _ m c.carry_out-done.ensures in
    let w = told _ _ a.out.now _ d c.in_ok-length.ensures.value in
    let b = left _ _ a.out.now _ d c.in_ok-length.ensures.out_after in
    let r = carried-out a.settings a.stored a.input a.out.now (sym n) m t (sym (ap (λ (x : Written). x.number) w)) in
    record {
      value = (λ j. moved_of (sym m j) (d j) (w j).length) ∙ r.0;
      out_after = b ∙ r.1;
    }
