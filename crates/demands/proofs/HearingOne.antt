-- What one line does to a cab in a call. Assumes nothing.
use mathlib.Core.Path.{◌≡◌, refl, sym, ap, ◌∙◌, subst}
use mathlib.Core.Logic.{◌⊎◌, inl, inr}
use mathlib.Core.List.{List}
use mathlib.Core.Bool.{Bool, true, false, cond, true≢false}
use Prim.Native.Nat.{ℕ}
use native.Mathlib.Omega.{arith}
use lib.Dec.{eqb}
use borrow.Author.Tests.{eq-eqb, eqb-true, le-ltb}
use Rattle.frame.specs.Frame.{in_range}
use Rattle.frame.specs.declared.Media.{Media}
use Rattle.frame.specs.declared.GroupCall.{GroupCall}
use Rattle.frame.specs.declared.Message.{Message}
use Rattle.frame.specs.declared.Message.TheVariants.{SetupRequest, Ringing, Accept, Reject, Release, ReleaseAck, AcceptAck, Announcement, GroupAccept}
use Rattle.reader.specs.Line.{number_of, reading, read_line}
use Rattle.reader.specs.Line.{Read}
use Rattle.reader.specs.Line.{Readable, Refused}
use Rattle.reader.specs.Line.{Reading}
use Rattle.reader.proofs.OnlyLine.{line-is-the-only-one, number_read}
use Rattle.reader.proofs.LineNumbers.{read_number}
use Rattle.call.specs.Settings.{settings_good}
use Rattle.call.specs.declared.Settings.{Settings}
use Rattle.call.specs.declared.Event.{Event}
use Rattle.group_order.specs.Order.{is_better}
use Rattle.group_order.proofs.Order.{never-itself, asymmetric}
use Rattle.group_record.specs.Formed.{is_well_formed}
use Rattle.group_record.specs.declared.states.GroupRecord.{GroupRecord}
use Rattle.group_rows.specs.Causes.{message_cause, same_identifier}
use Rattle.group_rows.specs.declared.causes.Cause.{Cause}
use Rattle.group_call.specs.Carried.{changed_by, later_change}
use Rattle.group_call.specs.Hearing.{ongoing, input_of, hears, HeardLine, promised, answer_to, answer_hearing}
use Rattle.stepping.specs.Answer.{Answer}
use Rattle.group_call.proofs.Steps.{keeps-well-formed}
use Rattle.group_call.proofs.Unheeded.{other-discarded}
use Rattle.group_call.proofs.Merging.{ongoing-is, merged, better-joined, not-better-discarded, same-refreshed}
use Rattle.demands.specs.SameCall.{Call, call_of, Announcing, InCall, Unsent}
use Rattle.group_record.specs.declared.states.Timers.{Timers}

-- a line announces a call of the own group
abbrev pub Brings : Settings → List ℕ → Call → Type 0
Brings s line c = Announcing line c × (c.0.group ≡ s.own_group)

-- what a line does to a cab in a call: to its record g, with the answer and the buffer that it gets
pub record AfterLine (s : Settings) (g : GroupRecord) (x : HeardLine) (answer : Answer GroupRecord Timers × List ℕ) : Type 0 where
  -- the cab is still in a call
  pub in_call : InCall s answer.0.next
  -- the answer is the line's number, and nothing is sent
  pub silent : Unsent x answer
  -- its call is the one that it had, or one that the line brings
  pub known : (call_of answer.0.next ≡ call_of g) ⊎ Brings s x.line (call_of answer.0.next)
  -- the call that it had is not better
  pub old_not_better : is_better g.call answer.0.next.call ≡ false
  -- nor is one that the line brings
  pub brought_not_better : (c : Call) → Brings s x.line c → is_better c.0 answer.0.next.call ≡ false

-- ---- what a line brings

-- whether a message announces a call of this group
own_message : ℕ → Message → Bool
own_message own (SetupRequest p s) = false
own_message own (Ringing p) = false
own_message own (Accept p) = false
own_message own (Reject p reason) = false
own_message own (Release p) = false
own_message own (ReleaseAck p) = false
own_message own (AcceptAck p) = false
own_message own (Announcement call confirm) = eqb call.group own
own_message own (GroupAccept a) = false

-- whether what was read does
own_read : ℕ → Read → Bool
own_read own (Readable m) = own_message own m
own_read own (Refused n) = false

-- what was read, as the reader answers it
abbrev read_as : Read → Media → Reading
read_as r media = record { read = r; media = media }

-- a line that brings a call was read so
brings-own : (s : Settings) (line : List ℕ) (r : Read) (media : Media) → read_line line ≡ read_as r media → (c : Call) → Brings s line c → own_read s.own_group r ≡ true
unfolding own_read own_message
brings-own s line r media e c m =
    ap (λ (x : Reading). own_read s.own_group x.read) (sym e ∙ m.0.1) ∙ eq-eqb c.0.group s.own_group m.1

-- the call of an announcement, and this call where there is none
call_read : Call → Read → Media → Call
call_read d (Readable (Announcement call confirm)) media = (call, media)
call_read d (Readable (SetupRequest p s)) media = d
call_read d (Readable (Ringing p)) media = d
call_read d (Readable (Accept p)) media = d
call_read d (Readable (Reject p reason)) media = d
call_read d (Readable (Release p)) media = d
call_read d (Readable (ReleaseAck p)) media = d
call_read d (Readable (AcceptAck p)) media = d
call_read d (Readable (GroupAccept a)) media = d
call_read d (Refused n) media = d

-- a line announces one call and no other
pub announced-one : (line : List ℕ) (c d : Call) → Announcing line c → Announcing line d → c ≡ d
unfolding call_read
announced-one line c d m n = ap (λ (x : Reading). call_read c x.read x.media) (sym m.1 ∙ n.1)

-- what brings no call is the other machine's, another group's, or an acceptance
unbrought : (own : ℕ) (m : Message) → own_message own m ≡ false → message_cause own m ≡ Cause.Other
unfolding own_message
unbrought own (SetupRequest p s) e = refl
unbrought own (Ringing p) e = refl
unbrought own (Accept p) e = refl
unbrought own (Reject p reason) e = refl
unbrought own (Release p) e = refl
unbrought own (ReleaseAck p) e = refl
unbrought own (AcceptAck p) e = refl
unbrought own (Announcement call confirm) e = ap (λ (b : Bool). cond b Cause.AnnouncementHeard Cause.Other) e
unbrought own (GroupAccept a) e = refl

-- ---- what it does

module _ (s : Settings) (stored : GroupCall) (own : Media) (x : HeardLine) (good : settings_good s ≡ true) (formed : is_well_formed s (ongoing stored own) ≡ true) where
  -- the record
  abbrev g : GroupRecord
  g = ongoing stored own

  -- a line that leaves the record as it was, and brings nothing better
  keeps : (answer : Answer GroupRecord Timers × List ℕ) → answer.0.next ≡ g → Unsent x answer
      → ((c : Call) → Brings s x.line c → is_better c.0 stored ≡ false) → AfterLine s g x answer
  keeps answer e unsent worse =
      record {
        in_call = subst (λ (h : GroupRecord). InCall s h) (sym e) (record { settings = good; formed = formed; ongoing = refl });
        silent = unsent;
        known = inl (ap call_of e);
        old_not_better = ap (λ (h : GroupRecord). is_better stored h.call) e ∙ never-itself stored;
        brought_not_better = λ c m. ap (λ (h : GroupRecord). is_better c.0 h.call) e ∙ worse c m;
      }

  -- the answer of a step, where it has number 0 and length 0 and the line was read
  unsent-step : (m : Message) (media : Media) → read_line x.line ≡ reading m media → (answer : Answer GroupRecord Timers × List ℕ) (a : Answer GroupRecord Timers) → answer.0 ≡ a → a.number ≡ 0
      → a.length ≡ 0 → answer.1 ≡ x.lent → Unsent x answer
  unsent-step m media e answer a d n l b =
      (ap (λ (y : Answer GroupRecord Timers). y.number) d ∙ (n ∙ sym (read_number x.line m media e)), ap (λ (y : Answer GroupRecord Timers). y.length) d ∙ l, b)

  -- a line that brings nothing
  brings-none : (r : Read) (media : Media) → read_line x.line ≡ read_as r media → own_read s.own_group r ≡ false → (c : Call) → Brings s x.line c
      → is_better c.0 stored ≡ false
  brings-none r media e f c m = absurd (true≢false (sym (brings-own s x.line r media e c m) ∙ f))

  -- a message that brings nothing
  unheeded : (m : Message) (media : Media) → read_line x.line ≡ reading m media → own_message s.own_group m ≡ false
      → AfterLine s g x (promised s g (input_of (Event.Message m) media x.verdicts) x.lent)
  unfolding own_read
  unheeded m media e f =
      let ranged = (line-is-the-only-one x.line m media e).1.ranged in
      let d = other-discarded s g (input_of (Event.Message m) media x.verdicts) x.lent
      (record { settings = good; formed = formed; message = ranged; arguments = refl }) (unbrought s.own_group m f) in
      keeps _ (ap (λ (a : Answer GroupRecord Timers). a.next) d.0) (unsent-step m media e _ _ d.0 refl refl d.1) (brings-none (Readable m) media e f)

  -- a call that the line brings is joined
  joins : (call : GroupCall) (media : Media) (answer : Answer GroupRecord Timers × List ℕ) → answer.0 ≡ merged call media → Unsent x answer
      → is_well_formed s answer.0.next ≡ true → Brings s x.line (call, media) → is_better call stored ≡ true → AfterLine s g x answer
  joins call media answer e unsent w m better =
      let n : answer.0.next ≡ ongoing call media = ap (λ (a : Answer GroupRecord Timers). a.next) e in
      record {
        in_call = record { settings = good; formed = w; ongoing = ap (λ (h : GroupRecord). h.state) n };
        silent = unsent;
        known = inr (subst (λ (c : Call). Brings s x.line c) (sym (ap call_of n)) m);
        old_not_better = ap (λ (h : GroupRecord). is_better stored h.call) n ∙ asymmetric call stored better;
        brought_not_better = λ c k.
            (λ j. is_better (announced-one x.line c (call, media) k.0 m.0 j).0 (n j).call) ∙ never-itself call;
      }

  -- of the own call heard again, where it is alike, nothing is taken over
  same-change : (call : GroupCall) → call ≡ stored → later_change stored call ≡ stored
  same-change call e =
      ap (λ (c : GroupCall). later_change stored c) e
      ∙ ap (λ (b : Bool). cond b (changed_by stored stored) stored) (le-ltb stored.last_change stored.last_change (omega arith))

  -- same identifier, same call: of what the line brings and what is stored
  abbrev AlikeBrought : Type 0
  AlikeBrought = (c : Call) → Brings s x.line c → c.0.identifier ≡ stored.identifier → c ≡ (stored, own)

  -- an announcement of the own group
  after-own : (call : GroupCall) (confirm : ℕ) (media : Media) → read_line x.line ≡ reading (Announcement call confirm) media
      → eqb call.group s.own_group ≡ true → AlikeBrought
      → AfterLine s g x (promised s g (hears call confirm media x.verdicts) x.lent)
  after-own call confirm media e o alike = go (same_identifier call stored) (is_better call stored) refl refl
    where
      ranged : in_range (Announcement call confirm) media ≡ true
      ranged = (line-is-the-only-one x.line (Announcement call confirm) media e).1.ranged

      brought : Brings s x.line (call, media)
      brought = ((confirm, e), eqb-true call.group s.own_group o)

      only : (c : Call) → Brings s x.line c → c ≡ (call, media)
      only c m = announced-one x.line c (call, media) m.0 brought.0

      sent : {answer : Answer GroupRecord Timers × List ℕ} {a : (Answer GroupRecord Timers)} → answer.0 ≡ a → a.number ≡ 0 → a.length ≡ 0 → answer.1 ≡ x.lent → Unsent x answer
      sent {answer} {a} = unsent-step (Announcement call confirm) media e answer a

      go : (same better : Bool) → same_identifier call stored ≡ same → is_better call stored ≡ better
          → AfterLine s g x (promised s g (hears call confirm media x.verdicts) x.lent)
      go true better p q =
          let d = same-refreshed s stored own call confirm media x.verdicts x.lent good formed ranged o p in
          let is = alike (call, media) brought (eqb-true call.identifier stored.identifier p) in
          keeps _ (ap (λ (a : Answer GroupRecord Timers). a.next) d.0 ∙ ap (λ (c : GroupCall). ongoing c own) (same-change call (ap (λ (c : Call). c.0) is)))
          (sent d.0 refl refl d.1)
          (λ c m. ap (λ (k : Call). is_better k.0 stored) (only c m ∙ is) ∙ never-itself stored)
      go false true p q =
          let d = better-joined s stored own call confirm media x.verdicts x.lent good formed ranged o p q in
          joins call media _ d.0 (sent d.0 refl refl d.1) (keeps-well-formed s g (hears call confirm media x.verdicts) x.lent good formed) brought q
      go false false p q =
          let d = not-better-discarded s stored own call confirm media x.verdicts x.lent good formed ranged o p q in
          keeps _ (ap (λ (a : Answer GroupRecord Timers). a.next) d.0) (sent d.0 refl refl d.1)
          (λ c m. ap (λ (k : Call). is_better k.0 stored) (only c m) ∙ q)

  -- whatever message was read
  after-message : AlikeBrought → (m : Message) (media : Media) → read_line x.line ≡ reading m media
      → AfterLine s g x (promised s g (input_of (Event.Message m) media x.verdicts) x.lent)
  unfolding own_message
  after-message alike (SetupRequest p t) media e = unheeded (SetupRequest p t) media e refl
  after-message alike (Ringing p) media e = unheeded (Ringing p) media e refl
  after-message alike (Accept p) media e = unheeded (Accept p) media e refl
  after-message alike (Reject p reason) media e = unheeded (Reject p reason) media e refl
  after-message alike (Release p) media e = unheeded (Release p) media e refl
  after-message alike (ReleaseAck p) media e = unheeded (ReleaseAck p) media e refl
  after-message alike (AcceptAck p) media e = unheeded (AcceptAck p) media e refl
  after-message alike (GroupAccept a) media e = unheeded (GroupAccept a) media e refl
  after-message alike (Announcement call confirm) media e = go (eqb call.group s.own_group) refl
    where
      go : (b : Bool) → eqb call.group s.own_group ≡ b → AfterLine s g x (promised s g (hears call confirm media x.verdicts) x.lent)
      go true o = after-own call confirm media e o alike
      go false o = unheeded (Announcement call confirm) media e o

  -- whatever was read
  after_read : AlikeBrought → (r : Read) (media : Media) → read_line x.line ≡ read_as r media
      → AfterLine s g x (answer_to promised s g r media x.verdicts x.lent)
  unfolding own_read
  after_read alike (Refused n) media e = keeps _ refl (sym (ap (λ (y : Reading). number_of y.read) e) ∙ number_read x.line, refl, refl) (brings-none (Refused n) media e refl)
  after_read alike (Readable m) media e = after-message alike m media e

-- whatever line is heard, where a call that it brings is alike the stored one if it has its identifier
pub after_line : (s : Settings) (g : GroupRecord) (x : HeardLine) → InCall s g
    → ((c : Call) → Brings s x.line c → c.0.identifier ≡ g.call.identifier → c ≡ call_of g) → AfterLine s g x (answer_hearing promised s g x)
after_line s g x is alike =
    let e = ongoing-is s g is.formed is.ongoing in
    subst (λ (h : GroupRecord). AfterLine s h x (answer_hearing promised s h x)) (sym e)
    (after_read s g.call g.media x is.settings (rw e at is.formed) alike (read_line x.line).read (read_line x.line).media refl)
