-- Two cabs meet the premises of demand 3, no build that stays in its call meets the demand, and no premise can go. Assumes nothing.
use mathlib.Core.Path.{◌≡◌, refl, sym, ap, ◌∙◌, subst}
use mathlib.Core.Logic.{◌⊎◌, inl, inr, ⊎_elim}
use mathlib.Core.List.Memᴰ
use mathlib.Core.List.{List, [], ◌∷◌}
use mathlib.Core.Bool.{cond}
use Prim.Native.Nat.{ℕ}
use lib.Dec.{eqb}
use lib.ListN.{get_or}
use borrow.Author.Tests.{eqb-false}
use Rattle.frame.specs.Digits.{number_at, numbers_at, all_digits}
use Rattle.frame.specs.Frame.{parties_good, group_call_good, in_range}
use Rattle.frame.specs.Layout.{digits_of}
use Rattle.frame.specs.Media.{no_media}
use Rattle.frame.specs.declared.Media.{Media}
use Rattle.reader.specs.Line.{message_at, media_at, refusal_of, number_of, values_of, refusal, reading, read_line}
use Rattle.reader.specs.Line.{Read}
use Rattle.reader.specs.Line.{Readable, Refused}
use Rattle.reader.specs.Line.{Reading}
use Rattle.call.specs.Settings.{settings_good}
use Rattle.call.specs.declared.Settings.{Settings}
use Rattle.call.specs.declared.Verdicts.{Verdicts}
use Rattle.group_record.specs.Formed.{is_well_formed}
use Rattle.group_record.specs.declared.states.State.{State}
use Rattle.group_record.specs.declared.states.GroupRecord.{GroupRecord}
use Rattle.group_rows.specs.Rows.{row_in}
use Rattle.group_call.specs.Carried.{stopped_of, running_after, carry_out}
use Rattle.group_call.specs.Step.{step_of, step_buffer}
use Rattle.group_call.specs.Hearing.{HeardLine, Build, promised, answer_to, hear, hear_all}
use Rattle.demands.specs.MarkedCases.{ringing}
use Rattle.demands.specs.SameCall.{Call, call_of, Announcing, HearsOf, Knows, Alike, SameSet, Together, end_of, SameCall}
use Rattle.demands.specs.TwoCabs.{basic, peril, emergency, elsewhere, basic_later, basic_said, peril_said, emergency_said, elsewhere_said, basic_later_said, cut_short, ringing_said}
use Rattle.demands.specs.TwoCabs.{first_cab, second_cab, NeverMerges, staying, EndApart, hears_later, hears_earlier, AlikeNeeded, hears_nothing, hears_emergency, SameSetNeeded}
use Rattle.demands.proofs.HearingOne.{Brings, announced-one}
use Rattle.demands.proofs.SameCall.{announced-split}

-- ---- what the lines say

-- each of them is read
lines-said :
    Announcing basic_said.line basic × Announcing peril_said.line peril × Announcing emergency_said.line emergency
    × Announcing elsewhere_said.line elsewhere × Announcing basic_later_said.line basic_later × (read_line cut_short.line ≡ refusal 4)
    × (read_line ringing_said.line ≡ reading ringing no_media)
unfolding read_line refusal_of message_at media_at numbers_at number_at digits_of all_digits in_range parties_good group_call_good ringing
lines-said = ((0, refl), (1, refl), (0, refl), (0, refl), (0, refl), refl, refl)

-- the line that is cut short announces nothing
cut-announces-none : (c : Call) → Announcing cut_short.line c → ⊥
cut-announces-none c m = eqb-false 4 0 refl (ap (λ (r : Reading). number_of r.read) (sym lines-said.5 ∙ m.1))

-- neither does RINGING: its kind is 2
ringing-announces-none : (c : Call) → Announcing ringing_said.line c → ⊥
unfolding ringing
ringing-announces-none c m = eqb-false 2 8 refl (ap (λ (r : Reading). get_or (values_of r) 0 0) (sym lines-said.6 ∙ m.1))

-- call 19 is not of group 3
elsewhere-brings-none : (s : Settings) → s.own_group ≡ 3 → (c : Call) → Brings s elsewhere_said.line c → ⊥
elsewhere-brings-none s own c m =
    eqb-false 4 3 refl (ap (λ (d : Call). d.0.group) (announced-one elsewhere_said.line elsewhere c lines-said.3 m.0) ∙ (m.1 ∙ own))

-- ---- the sets of the two cabs

-- one of the three calls
Three : Call → Type 0
Three c = (c ≡ basic) ⊎ ((c ≡ peril) ⊎ (c ≡ emergency))

module _ {P : Type 0} (s : Settings) (c : Call) where
  -- what is announced, by the first line or by a later one
  by-line : (x : HeardLine) (xs : List HeardLine) → (Brings s x.line c → P) → (HearsOf s xs c → P) → HearsOf s (x ∷ xs) c → P
  by-line x xs here later m = ⊎_elim here later (announced-split s x xs c m)

  -- no line announces nothing
  by-none : HearsOf s [] c → P
  by-none m = absurd (Memᴰ.not-nil m.0.1)

-- the first cab knows of no others
first-knows : (c : Call) → Knows first_cab c → Three c
unfolding Three
first-knows c (inl e) = inl e
first-knows c (inr m) = let s = first_cab.settings in
    by-line s c _ _ is-peril (by-line s c _ _ (λ b. absurd (cut-announces-none c b.0)) (by-line s c _ _ is-emergency (by-line s c _ _ is-peril (by-line s c _ _ is-emergency (by-none s c))))) m
  where
    is-peril : Brings first_cab.settings peril_said.line c → Three c
    is-peril b = inr (inl (announced-one peril_said.line c peril b.0 lines-said.1))

    is-emergency : Brings first_cab.settings emergency_said.line c → Three c
    is-emergency b = inr (inr (announced-one emergency_said.line c emergency b.0 lines-said.2))

-- nor does the second
second-knows : (c : Call) → Knows second_cab c → Three c
unfolding Three
second-knows c (inl e) = inr (inl e)
second-knows c (inr m) = let s = second_cab.settings in
    by-line s c _ _ is-emergency (by-line s c _ _ (λ b. absurd (elsewhere-brings-none s refl c b))
    (by-line s c _ _ (λ b. absurd (ringing-announces-none c b.0)) (by-line s c _ _ is-basic (by-none s c)))) m
  where
    is-emergency : Brings second_cab.settings emergency_said.line c → Three c
    is-emergency b = inr (inr (announced-one emergency_said.line c emergency b.0 lines-said.2))

    is-basic : Brings second_cab.settings basic_said.line c → Three c
    is-basic b = inl (announced-one basic_said.line c basic b.0 lines-said.0)

-- the first cab knows of all three
first-knows-all : (c : Call) → Three c → Knows first_cab c
unfolding Three
first-knows-all c (inl e) = inl e
first-knows-all c (inr (inl e)) = subst (Knows first_cab) (sym e) (inr ((peril_said, Memᴰ.head refl, lines-said.1), refl))
first-knows-all c (inr (inr e)) =
    subst (Knows first_cab) (sym e) (inr ((emergency_said, Memᴰ.tail (Memᴰ.tail (Memᴰ.head refl)), lines-said.2), refl))

-- so does the second
second-knows-all : (c : Call) → Three c → Knows second_cab c
unfolding Three
second-knows-all c (inl e) =
    subst (Knows second_cab) (sym e) (inr ((basic_said, Memᴰ.tail (Memᴰ.tail (Memᴰ.tail (Memᴰ.head refl))), lines-said.0), refl))
second-knows-all c (inr (inl e)) = inl e
second-knows-all c (inr (inr e)) = subst (Knows second_cab) (sym e) (inr ((emergency_said, Memᴰ.head refl, lines-said.2), refl))

-- ---- the two cabs are together

-- the calls by their identifiers
named : ℕ → Call
named n = cond (eqb n 16) basic (cond (eqb n 17) peril emergency)

-- one of the three is known by its identifier
three-named : (c : Call) → Three c → c ≡ named c.0.identifier
unfolding Three named
three-named c (inl e) = e ∙ sym (ap (λ (d : Call). named d.0.identifier) e)
three-named c (inr (inl e)) = e ∙ sym (ap (λ (d : Call). named d.0.identifier) e)
three-named c (inr (inr e)) = e ∙ sym (ap (λ (d : Call). named d.0.identifier) e)

-- so they are alike
three-alike : Alike Three
three-alike a b k l e = three-named a k ∙ (ap named e ∙ sym (three-named b l))

-- all that demand 3 assumes holds of them
pub cabs-together : Together first_cab second_cab
unfolding settings_good is_well_formed in_range group_call_good
cabs-together =
    record {
      one_group = refl;
      first = record { settings = refl; formed = refl; ongoing = refl };
      second = record { settings = refl; formed = refl; ongoing = refl };
      alike = λ a b k l e. three-alike a b (⊎_elim (first-knows a) (second-knows a) k) (⊎_elim (first-knows b) (second-knows b) l) e;
      same_set =
          record {
            there = λ c k. second-knows-all c (first-knows c k);
            back = λ c k. first-knows-all c (second-knows c k);
          };
    }

-- and they end in the emergency, step by step as the demand says
pub cabs-in-emergency : (call_of (end_of promised first_cab) ≡ emergency) × (call_of (end_of promised second_cab) ≡ emergency)
unfolding read_line refusal_of message_at media_at numbers_at number_at digits_of all_digits in_range parties_good group_call_good step_of step_buffer settings_good is_well_formed row_in carry_out stopped_of running_after
cabs-in-emergency = (refl, refl)

-- ---- a build that never merges

-- a line that is heard leaves it in S3 and in its call
stays-hearing : (b : Build) → NeverMerges b → (s : Settings) (g : GroupRecord) (r : Read) (media : Media) (v : Verdicts) (out : List ℕ) → g.state ≡ State.S3
    → let next = (answer_to b s g r media v out).0.next in (next.state ≡ State.S3) × (next.call.identifier ≡ g.call.identifier)
stays-hearing b never s g (Readable m) media v out e = never s g m media v out e
stays-hearing b never s g (Refused n) media v out e = (e, refl)

-- so do all lines
stays-hearing-all : (b : Build) → NeverMerges b → (s : Settings) (xs : List HeardLine) (g : GroupRecord) → g.state ≡ State.S3
    → (hear_all b s g xs).call.identifier ≡ g.call.identifier
stays-hearing-all b never s [] g e = refl
stays-hearing-all b never s (x ∷ xs) g e =
    let k = stays-hearing b never s g (read_line x.line).read (read_line x.line).media x.verdicts x.lent e in
    stays-hearing-all b never s xs (hear b s g x) k.0 ∙ k.1

-- with it the one cab stays in call 16, the other in call 17
pub never-merging-fails : (b : Build) → NeverMerges b → SameCall b → ⊥
never-merging-fails b never demand =
    let stays = stays-hearing-all b never in
    let same = ap (λ (c : Call). c.0.identifier) (demand first_cab second_cab cabs-together).same_call in
    eqb-false 16 17 refl
    (sym (stays first_cab.settings first_cab.lines first_cab.stored refl) ∙ (same ∙ stays second_cab.settings second_cab.lines second_cab.stored refl))

-- there is such a build
pub staying-never-merges : NeverMerges staying
staying-never-merges s g m media v out e = (e, refl)

-- ---- what the premises are for

-- the cab in the one call 16 knows of both, and so does the other
both-known : SameSet hears_later hears_earlier
both-known =
    record {
      there = λ c k.
          ⊎_elim (λ e. subst (Knows hears_earlier) (sym e) (inr ((basic_said, Memᴰ.head refl, lines-said.0), refl)))
          (by-line hears_later.settings c _ _ (λ b. inl (announced-one basic_later_said.line c basic_later b.0 lines-said.4)) (by-none hears_later.settings c)) k;
      back = λ c k.
          ⊎_elim (λ e. subst (Knows hears_later) (sym e) (inr ((basic_later_said, Memᴰ.head refl, lines-said.4), refl)))
          (by-line hears_earlier.settings c _ _ (λ b. inl (announced-one basic_said.line c basic b.0 lines-said.0)) (by-none hears_earlier.settings c)) k;
    }

-- the cab in call 16 that hears nothing knows of one of the three
nothing-knows : (c : Call) → Knows hears_nothing c → Three c
unfolding Three
nothing-knows c = ⊎_elim (λ e. inl e) (by-none hears_nothing.settings c)

-- so does the one that hears of the emergency
emergency-knows : (c : Call) → Knows hears_emergency c → Three c
unfolding Three
emergency-knows c =
    let s = hears_emergency.settings in
    ⊎_elim (λ e. inl e) (by-line s c _ _ (λ b. inr (inr (announced-one emergency_said.line c emergency b.0 lines-said.2))) (by-none s c))

-- each cab keeps its own start; and the cab that heard nothing stays in call 16
ends-apart : EndApart hears_later hears_earlier × EndApart hears_nothing hears_emergency
unfolding read_line refusal_of message_at media_at numbers_at number_at digits_of all_digits in_range group_call_good step_of settings_good is_well_formed row_in carry_out stopped_of running_after
ends-apart = (
  record {
    one_group = refl;
    first = record { settings = refl; formed = refl; ongoing = refl };
    second = record { settings = refl; formed = refl; ongoing = refl };
    apart = λ e. eqb-false 1000 1001 refl (ap (λ (c : Call). c.0.start) e);
  },
  record {
    one_group = refl;
    first = record { settings = refl; formed = refl; ongoing = refl };
    second = record { settings = refl; formed = refl; ongoing = refl };
    apart = λ e. eqb-false 16 18 refl (ap (λ (c : Call). c.0.identifier) e);
  },
)

-- without alike calls the demand would be false
pub alike-needed : AlikeNeeded
alike-needed = (ends-apart.0, both-known)

-- and so it would with sets that are the same in one direction only
pub same-set-needed : SameSetNeeded
same-set-needed = (
  ends-apart.1,
  λ a b k l e. three-alike a b (⊎_elim (nothing-knows a) (emergency-knows a) k) (⊎_elim (nothing-knows b) (emergency-knows b) l) e,
  λ c k. ⊎_elim (λ e. inl e) (by-none hears_nothing.settings c) k,
)
