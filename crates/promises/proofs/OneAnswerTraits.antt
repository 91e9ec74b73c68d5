-- No contract of a method by a trait leaves a choice: nothing is asked, and two results that it allows are one. Assumes nothing.
use contract.Lifetimes as Lifetimes
use mathlib.Core.Path.{◌≡◌, refl, sym, ap, ◌∙◌}
use mathlib.Core.Bool.{true, true≢false}
use Prim.Native.Nat.{ℕ}
use Rattle.std.specs.Prelude.{Result, Ok, Err}
use Rattle.frame.specs.Range.{within}
use Rattle.frame.specs.Kind.{kind_number, NamesKind}
use Rattle.frame.specs.declared.kind.Kind.{Kind}
use Rattle.frame.specs.declared.kind.Kind.TheVariants.{SetupRequest, Ringing, Accept, Reject, Release, ReleaseAck, AcceptAck, Announcement, GroupAccept}
use Rattle.frame.specs.declared.refusal.Refusal.{Refusal}
use Rattle.frame.proofs.kind.KindTryFromU8.try_from.Reads as kind-try-from
use Rattle.private_record.proofs.states.TimersTimerSet.has.Reads as private-has
use Rattle.private_record.proofs.states.TimersSetByRule.by_rule.Reads as private-by-rule
use Rattle.group_record.proofs.states.TimersTimerSet.has.Reads as group-has
use Rattle.group_record.proofs.states.TimersSetByRule.by_rule.Reads as group-by-rule
use Rattle.promises.specs.OneAnswer.{OneAnswer}
use Rattle.promises.proofs.OneAnswer.{same, result-alone}
use Rattle.promises.proofs.Known.{same-kind}

-- the number of a kind is one of 1 to 9
kind-within : (k : Kind) → within 1 (kind_number k) 9 ≡ true
kind-within SetupRequest = refl
kind-within Ringing = refl
kind-within Accept = refl
kind-within Reject = refl
kind-within Release = refl
kind-within ReleaseAck = refl
kind-within AcceptAck = refl
kind-within Announcement = refl
kind-within GroupAccept = refl

-- a number names one kind, or none
same-named : (n : ℕ) (r q : Result Kind Refusal) → NamesKind n r → NamesKind n q → r ≡ q
same-named n (Ok a) (Ok b) x y = ap (λ (k : Kind). Ok k) (same-kind a b (x ∙ sym y))
same-named n (Ok a) (Err r) x y = absurd (true≢false (sym (kind-within a) ∙ ap (λ (m : ℕ). within 1 m 9) x ∙ y.0))
same-named n (Err r) (Ok b) x y = absurd (true≢false (sym (kind-within b) ∙ ap (λ (m : ℕ). within 1 m 9) y ∙ x.0))
same-named n (Err r) (Err q) x y = ap (λ (e : Refusal). Err e) (x.1 ∙ sym y.1)

-- the kind that a number names, or that it names none
pub kind-try-from-one : (κs : Lifetimes.Lfts 0) → OneAnswer (kind-try-from.Asked κs) (kind-try-from.Learnt κs) (λ r. r) (λ t. tt {0})
kind-try-from-one κs = result-alone (λ a. tt) (λ a r q s t x y. same-named a.0 r q x y)

-- whether a set has a timer
pub private-has-one : (κs : Lifetimes.Lfts 0) → OneAnswer (private-has.Asked κs) (private-has.Learnt κs) (λ r. r) (λ t. tt {0})
private-has-one κs = result-alone (λ a. tt) (λ a r q s t x y. same x y)

-- the same of the group machine
pub group-has-one : (κs : Lifetimes.Lfts 0) → OneAnswer (group-has.Asked κs) (group-has.Learnt κs) (λ r. r) (λ t. tt {0})
group-has-one κs = result-alone (λ a. tt) (λ a r q s t x y. same x y)

-- the set of the timers that a rule takes
pub private-by-rule-one : (κs : Lifetimes.Lfts 0) → OneAnswer (private-by-rule.Asked κs) (private-by-rule.Learnt κs) (λ r. r) (λ t. tt {0})
private-by-rule-one κs = result-alone (λ a. tt) (λ a r q s t x y. same x.1 y.1)

-- the same of the group machine
pub group-by-rule-one : (κs : Lifetimes.Lfts 0) → OneAnswer (group-by-rule.Asked κs) (group-by-rule.Learnt κs) (λ r. r) (λ t. tt {0})
group-by-rule-one κs = result-alone (λ a. tt) (λ a r q s t x y. same x.1 y.1)
