-- The contracts keep the three demands. Assumes nothing.
use Rattle.std.specs.Prelude.{Option}
use mathlib.Core.Path.{◌≡◌, refl, sym, ap, ap₂, ◌∙◌, subst}
use mathlib.Core.Logic.{◌⊎◌, inl, inr, ⊎_elim}
use mathlib.Core.List.{List, [], ◌∷◌, append-nil, flatten}
use mathlib.Core.Bool.{Bool, true, false}
use Prim.Native.Nat.{ℕ, ◌≤◌}
use native.Mathlib.Omega.{arith}
use lib.Dec.{eqb}
use lib.ListN.{length, take}
use lib.Seq.{take-append_seam}
use borrow.Author.Tests.{eqb-true, eqb-false}
use contract.Lifetimes.{Lfts}
use Rattle.frame.specs.Frame.{kind_of, media_of, in_range}
use Rattle.frame.specs.Layout.{line_of}
use Rattle.frame.specs.declared.Media.{Media}
use Rattle.frame.specs.declared.Message.{Message}
use Rattle.reader.specs.Line.{number_of, reading, refusal, read_line, line_number}
use Rattle.reader.specs.Line.{Reading}
use Rattle.reader.proofs.OnlyLine.{number_read}
use Rattle.writer.specs.Lent.{Written, told_by}
use Rattle.log_lines.specs.Lines.{lines_of}
use Rattle.log_lines.proofs.Lines.{ended-cut, lines-are-the-only-ones}
use Rattle.log_answer.specs.Answer.{answer_of, AllReadable}
use Rattle.log_answer.proofs.LineByLine.{answer-all-readable}
use Rattle.log_answer.proofs.Parts.{readable-ended}
use Rattle.call.specs.declared.Settings.{Settings}
use Rattle.call.specs.declared.Input.{Input}
use Rattle.stepping.specs.Sending.{line_sent}
use Rattle.stepping.specs.Answer.{Answer}
use Rattle.private_record.specs.declared.states.Timers.{Timers}
use Rattle.private_record.specs.declared.states.PrivateRecord.{PrivateRecord}
use Rattle.private_call.specs.Step.{step_of, step_buffer}
use Rattle.chooser.specs.Choice.{chosen_number, choice_of, choice_number, place_of}
use Rattle.group_record.specs.declared.states.GroupRecord.{GroupRecord}
use Rattle.group_call.specs.Hearing.{HeardLine, Build, promised, hear_all}
use Rattle.demands.specs.Machines.{Machine, private_machine, group_machine}
use Rattle.demands.specs.ExactlyWhen.{ExactlyWhen, GivenExactlyWhen, write_table, send_table, answer_table}
use Rattle.demands.specs.NothingChanges.{Done, NothingChanges}
use Rattle.demands.specs.Consequences.{last_private_row, last_group_row}
use Rattle.demands.specs.Demands.{ByTheRows}
use Rattle.demands.specs.SameCall.{Cab, call_of, Knows, Best, BestCall, SameCall, AnyOrder, end_of}
use Rattle.demands.specs.BetterLine.{ByBetterCall}
use Rattle.demands.proofs.ReadsBack.{reads_as}
use Rattle.demands.proofs.Demands.{demand-1, demand-2, demand-3}
use Rattle.promises.specs.OfContracts.{Promises, Lent, ToStep, OfStep, Tells, PrivateStepTells, GroupStepTells, MayRead, MayNumber, MayHandBack, StepBuild, Obeys}
use Rattle.promises.specs.DemandsKept.{NamesLine, Demand1Kept, ByItsRow, as_build, BuildKeeps, Demand2Kept, end_by, Demand3Kept}
use Rattle.promises.proofs.Allows.{check-line-allows, read-line-allows, write-line-allows, write-sent-allows, answer-log-allows, choose-number-allows, choice-allows, choose-allows, step-allows, group-step-allows}

-- a contract that asks nothing promises what is so of all that it allows, if it allows something
promise : {A R T : Type 0} {Learnt Promised : A → R → T → Type 0} → ((a : A) (r : R) (t : T) → Learnt a r t → Promised a r t) → ((a : A) → (r : R) × (t : T) × Learnt a r t)
    → Promises (λ a. Unit {0}) Learnt Promised
promise so some = record { asks_nothing = λ a. tt; allows_some = some; and_so = so }

-- so does one whose results are known by what they tell
promise-told : {A R S T : Type 0} {told : A → R → S} {Learnt : A → R → T → Type 0} {Promised : A → S → T → Type 0} → ((a : A) (r : R) (t : T) → Learnt a r t → Promised a (told a r) t)
    → ((a : A) → (r : R) × (t : T) × Learnt a r t) → Promises (λ a. Unit {0}) (Tells told Learnt) Promised
promise-told {told = told} {Promised = Promised} so some =
    promise (λ a s t x. subst (λ what. Promised a what t) x.tells (so a x.result t x.learnt))
    (λ a. let (r, t, x) = some a in (told a r, t, record { result = r; tells = refl; learnt = x }))

-- what a result that is allowed tells may be told
tells-so : {A R S T : Type 0} {told : A → R → S} {Learnt : A → R → T → Type 0} {a : A} {t : T} (r : R) → Learnt a r t → Tells told Learnt a (told a r) t
tells-so r x = record { result = r; tells = refl; learnt = x }

-- a reading that the reader's contract allows is the reader's
read-so : (κ : Lfts 1) (line : List ℕ) (answer : Reading) → MayRead κ line answer → answer ≡ read_line line
read-so κ line answer may = sym may.3.tells ∙ may.3.learnt ∙ ap read_line may.2

-- a number that the contract of `choose_number` allows is the question's
number-so : (κ : Lfts 2) (first second : Lent) (number : ℕ) → MayNumber κ first second number → number ≡ choice_number first.now second.now
number-so κ first second number may = sym may.1.tells ∙ may.1.learnt

-- ---- demand 1

-- a choice is 0, 1 or 2
choice-known : (first second : Lent) → let chosen = choice_of first.now second.now in (chosen ≡ 0) ⊎ ((chosen ≡ 1) ⊎ (chosen ≡ 2))
choice-known first second = go (eqb (choice_number first.now second.now) 0) refl
  where
    go : (b : Bool) → eqb (choice_number first.now second.now) 0 ≡ b → let chosen = choice_of first.now second.now in (chosen ≡ 0) ⊎ ((chosen ≡ 1) ⊎ (chosen ≡ 2))
    go true e = inr (⊎_elim (λ h. inl h.1.0) (λ h. inr h.1.0) (demand-3.better_line first second (eqb-true _ 0 e)).better)
    go false e = inl ((demand-1.keeps.by_choice first.now second.now).1 (eqb-false _ 0 e))

-- what is handed back is what the choice says
choice-names : (κ : Lfts 1) (first second line : Lent) (chosen : ℕ) → chosen ≡ choice_of first.now second.now → MayHandBack κ first second line → NamesLine first second chosen line
choice-names κ first second line chosen x (t, y) =
    let handed : (n : ℕ) → chosen ≡ n → (line.ref_ptr, line.now) ≡ place_of n first second = λ n e. y ∙ ap (λ (k : ℕ). place_of k first second) (sym x ∙ e) in
    record { known = rw x (choice-known first second); one = handed 1; two = handed 2; none = handed 0 }

-- its numbers and that nothing else happens, contract by contract
pub demand-1-kept : Demand1Kept
demand-1-kept =
    let n = demand-1.numbers in
    let k = demand-1.keeps in
    record {
      by_check_line = λ κ. promise-told (λ a r t x. rw x (n.of_line _)) (check-line-allows κ);
      by_read_line = λ κ. promise-told (λ a r t x.
          let e = number_read a.0.now in rw x (n.of_reading a.0.now, λ f. k.by_reading a.0.now (λ z. f (e ∙ z)) ∙ ap refusal (sym e))) (read-line-allows κ);
      by_write_line = λ κ. promise-told (λ a r t x. rw (x.0, x.1.0) (n.of_writing _ _ _, k.by_writing _ _ _)) (write-line-allows κ);
      by_write_sent = λ κ. promise-told (λ a r t x. rw (x.0, x.1) (n.of_sending a.0 a.1.0 a.1.1.0.now, k.by_sending a.0 a.1.0 a.1.1.0.now)) (write-sent-allows κ);
      by_answer_log = λ κ. promise-told (λ a r t x. rw (x.0, x.1.0) (n.of_answering _ _, k.by_answering _ _)) (answer-log-allows κ);
      by_choose_number = λ κ. promise-told (λ a r t x. rw x (n.of_choosing _ _)) (choose-number-allows κ);
      by_choose = λ κ κn. promise (λ a r t x m y f. x ∙ k.by_choosing a.0 a.1.0 (λ z. f (number-so κn a.0 a.1.0 m y ∙ z))) (choose-allows κ);
      by_choice = λ κ κn. promise-told (λ a r t x m y. rw (x, number-so κn a.0 a.1.0 m y) (k.by_choice a.0.now a.1.0.now)) (choice-allows κ);
      choice_names = λ κ κc. promise-told (λ a r t x line y. choice-names κc a.0 a.1.0 line (chosen_number r) x y) (choice-allows κ);
      by_private_step = λ κ. promise-told (λ a r t x. rw (x.0, x.1) (n.of_private_step _ _ _ _, k.by_private_step _ _ _ _)) (step-allows κ);
      by_group_step = λ κ. promise-told (λ a r t x. rw (x.0, x.1) (n.of_group_step _ _ _ _, k.by_group_step _ _ _ _)) (group-step-allows κ);
    }

-- ---- demand 2

-- what was written stands at the front
front : (text lent after : List ℕ) (n : ℕ) → Done text n lent after → take n after ≡ text
front text lent after n d = ap₂ take d.0 d.1 ∙ take-append_seam text _

-- a frame with number 0 is in range
written-ranged : (m : Message) (media : Media) (out : List ℕ) (n : ℕ) → GivenExactlyWhen n (write_table m media out) → n ≡ 0 → in_range m media ≡ true
unfolding ExactlyWhen
written-ranged m media out n g e = go (in_range m media) (g.exactly.1.1.0 e).0.1
  where
    go : (b : Bool) → (b ≡ false → ⊥) → b ≡ true
    go true f = refl
    go false f = absurd (f refl)

-- so what was written reads as the frame that was to be written
written-reads : (κ : Lfts 1) (m : Message) (media : Media) (lent after : List ℕ) (w : Written) → GivenExactlyWhen w.number (write_table m media lent)
    → NothingChanges (line_of m media) w lent after → w.number ≡ 0 → (back : Reading) → MayRead κ (take w.length after) back → back ≡ reading m (media_of (kind_of m) media)
written-reads κ m media lent after w g d e back may =
    read-so κ _ back may ∙ ap read_line (front (line_of m media) _ _ _ (d.1 e)) ∙ reads_as m media (written-ranged m media lent w.number g e)

-- a log that is one readable line is its own answer
answer-one-line : (line : List ℕ) → line_number line ≡ 0 → answer_of line ≡ line
unfolding flatten
answer-one-line line e =
    let alone = lines-are-the-only-ones (line ∷ []) (ended-cut line (readable-ended line e) [] refl) in
    answer-all-readable line (subst AllReadable (sym (ap lines_of (sym (append-nil line)) ∙ alone)) (e, tt))

-- where it has room it is answered
answered : (log lent : List ℕ) (n : ℕ) → GivenExactlyWhen n (answer_table log lent) → answer_of log ≡ log → length log ≤ length lent → n ≡ 0
unfolding ExactlyWhen
answered log lent n g same room = let e = ap length same in g.exactly.1.1 (tt, λ short. omega (arith, short, room, e))

-- what holds of the build that a contract names holds of every build whose answers the contract allows
every : {Stored R : Type 0} (Learnt : ToStep Stored → R → ToStep Stored → Type 0) (c : StepBuild Stored R)
    → ((a : ToStep Stored) (r : R) (t : ToStep Stored) → Learnt a r t → OfStep (λ s p i lent q after. (q ≡ (c s p i lent).0) × (after ≡ (c s p i lent).1)) a r t)
    → (P : StepBuild Stored R → Type 0) → P c → (b : StepBuild Stored R) → Obeys Learnt b → P b
every Learnt c says P holds b obeys = subst P (λ j s p i out. same s p i out j) holds
  where
    same : (s : Settings) (p : _) (i : Input) (out : List ℕ) → c s p i out ≡ b s p i out
    same s p i out =
        let (lent, t, e, x, f) = obeys s p i out in
        let y = says (s, (p, (i, (lent, tt)))) (b s p i out).0 t x in
        let h : c s p i lent.now ≡ b s p i out = λ j. (sym y.0 j, (sym y.1 ∙ f) j) in sym (ap (c s p i) e) ∙ h

-- the build that the contract of the private step names
abbrev private_promised : StepBuild PrivateRecord (Answer PrivateRecord Timers)
private_promised s p i out = (step_of s p i out, step_buffer s p i out)

-- of the private step
private-every : (κ : Lfts 1) (P : StepBuild PrivateRecord (Answer PrivateRecord Timers) → Type 0) → P private_promised → (b : StepBuild PrivateRecord (Answer PrivateRecord Timers))
    → Obeys (PrivateStepTells κ) b → P b
private-every κ = every (PrivateStepTells κ) private_promised (λ a r t x. (sym x.tells ∙ x.learnt.0, x.learnt.1))

-- of the group step
group-every : (κ : Lfts 1) (P : Build → Type 0) → P promised → (b : Build) → Obeys (GroupStepTells κ) b → P b
group-every κ = every (GroupStepTells κ) promised (λ a r t x. (sym x.tells ∙ x.learnt.0, x.learnt.1))

-- a step that is the machine's goes by its row
by-its-row : (M : Machine) (last : ℕ) → ByTheRows M last → (s : Settings) (p : M.Stored) (i : Input) (out : List ℕ) → ByItsRow M last s p i out (M.step s p i out) (M.buffer s p i out)
by-its-row M last rows s p i out =
    record {
      row_holds = rows.rows_hold s p i out;
      carried_out = rows.carries_out s p i out;
      known_row = rows.known_rows s p i out;
      reads_back = λ κr m back e sent may. read-so κr _ back may ∙ rows.reads_back s p i out m e sent;
      clears = rows.clears s p i out;
    }

-- one frame, one line; and the rows, contract by contract and build by build
pub demand-2-kept : Demand2Kept
demand-2-kept =
    let n = demand-1.numbers in
    let k = demand-1.keeps in
    record {
      one_line = λ κ. promise-told (λ a r t x. rw x (demand-2.one_line a.0.now)) (read-line-allows κ);
      reads_back = λ κ κr. promise-told (λ a r t x e back may.
          let w = told_by r in
          let (g, d) = (demand-1-kept.by_write_line κ).and_so a w t (tells-so r x) in written-reads κr a.0.message a.0.media a.1.0.now t.1.0.now w g d e back may) (write-line-allows κ);
      writes_back = λ κ κr. promise-told (λ a r t x e line may.
          let m = a.0.message in
          let media = a.0.media in
          let (g, d) = (demand-1-kept.by_write_line κ).and_so a (told_by r) t (tells-so r x) in
          front (line_of m media) _ _ _ (d.1 e) ∙ sym ((demand-2.one_line line m media).0 (sym (read-so κr line _ may))).0) (write-line-allows κ);
      sent_reads_back = λ κ κr. promise-told (λ a r t x m sent e back may.
          let w = told_by r in
          let media = a.1.0 in
          let lent = a.1.1.0.now in
          let after = t.1.1.0.now in
          let (g, d) = subst (λ (s : Option Message). GivenExactlyWhen w.number (send_table s media lent) × NothingChanges (line_sent s media) w lent after) sent ((demand-1-kept.by_write_sent κ).and_so a w t (tells-so r x)) in
          written-reads κr m media lent after w g d e back may) (write-sent-allows κ);
      line_comes_back = λ κ κr. promise-told (λ a r t x back may e.
          let w = told_by r in
          let log = a.0.now in
          let lent = a.1.0.now in
          let same = answer-one-line log (sym (number_read log) ∙ (ap (λ (g : Reading). number_of g.read) (sym (read-so κr log back may)) ∙ e)) in
          let (g, d) = (demand-1-kept.by_answer_log κ).and_so a w t (tells-so r x) in (answered log lent w.number g same, λ z. front (answer_of log) _ _ _ (d.1 z) ∙ same)) (answer-log-allows κ);
      private_step = λ κ. promise-told (λ a r t x. rw (x.0, x.1) (by-its-row private_machine last_private_row demand-2.private_rows _ _ _ _)) (step-allows κ);
      group_step = λ κ. promise-told (λ a r t x. rw (x.0, x.1) (by-its-row group_machine last_group_row demand-2.group_rows _ _ _ _)) (group-step-allows κ);
      private_builds = λ κ. private-every κ (λ b. BuildKeeps private_machine last_private_row (as_build private_machine b))
          (record { numbers = n.of_private_step; keeps = k.by_private_step; rows = demand-2.private_rows.rows_hold }, demand-2.private_rows);
      group_builds = λ κ. group-every κ (λ b. BuildKeeps group_machine last_group_row (as_build group_machine b))
          (record { numbers = n.of_group_step; keeps = k.by_group_step; rows = demand-2.group_rows.rows_hold }, demand-2.group_rows);
    }

-- ---- demand 3

-- with the reader itself a cab ends as it does where its lines are heard
end-heard : (b : Build) (s : Settings) (xs : List HeardLine) (g : GroupRecord) → end_by read_line b s g xs ≡ hear_all b s g xs
end-heard b s [] g = refl
end-heard b s (x ∷ xs) g = end-heard b s xs _

-- what goes with the better call may be less
by-better : {first second : Lent} {A B C D : Type 0} → ByBetterCall first second A B → (A → C) → (B → D) → ByBetterCall first second C D
by-better g f h =
    record {
      one = g.one;
      first_announces = g.first_announces;
      other = g.other;
      second_announces = g.second_announces;
      better = ⊎_elim (λ b. inl (b.0, f b.1)) (λ b. inr (b.0, h b.1)) g.better;
    }

-- the same call, with every build and every reader that the contracts allow; and the better of two lines
pub demand-3-kept : Demand3Kept
demand-3-kept =
    record {
      one_cab = λ κ. group-every κ BestCall (demand-3.one_cab promised (λ s g i out. refl));
      two_cabs = λ κ. group-every κ SameCall (demand-3.two_cabs promised (λ s g i out. refl));
      any_order = λ κ. group-every κ AnyOrder (demand-3.any_order promised (λ s g i out. refl));
      by_reader = λ κ κr b reads obeys may x y together.
          let e : reads ≡ read_line = λ j l. read-so κr l (reads l) (may l) j in
          let ends : (z : Cab) → end_by reads b z.settings z.stored z.lines ≡ end_of b z = λ z.
          ap (λ (f : List ℕ → Reading). end_by f b z.settings z.stored z.lines) e ∙ end-heard b z.settings z.lines z.stored in
          let d = group-every κ SameCall (demand-3.two_cabs promised (λ s g i out. refl)) b obeys x y together in
          (ends x ∙ (d.same_record ∙ sym (ends y)), subst (λ (g : GroupRecord). Best (Knows x) (call_of g)) (sym (ends x)) d.first.best);
      better_line = λ κ κn. promise (λ a r t x number.
          by-better (demand-3.better_line a.0 a.1.0 (sym (number-so κn a.0 a.1.0 0 number))) (λ h. x ∙ h.1) (λ h. x ∙ h.1)) (choose-allows κ);
      better_choice = λ κ κn. promise-told (λ a r t x number.
          by-better (demand-3.better_line a.0 a.1.0 (sym (number-so κn a.0 a.1.0 0 number))) (λ h. x ∙ h.0) (λ h. x ∙ h.0)) (choice-allows κ);
      either_first = λ κc κn first second line other number one two. one.1 ∙ (demand-3.either_first first second (sym (number-so κn first second 0 number)) ∙ sym two.1);
    }
