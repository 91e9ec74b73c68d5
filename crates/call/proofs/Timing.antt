-- The rules for a timer, for each that may be stopped. Assumes nothing.
use mathlib.Core.Path.{◌≡◌, refl, sym, ap, ◌∙◌}
use mathlib.Core.Bool.{Bool, true, false, not, ◌&&◌, ◌||◌}
use Rattle.call.specs.Timing.{is_stopped, runs_after}
use Rattle.call.specs.declared.timers.TimerFacts.{TimerFacts}
use Rattle.call.proofs.Laws.{and-false}

-- leaving a state stops what runs, is not started anew and did not run out just now
pub change-stops-one : (x : TimerFacts) → x.state_changes ≡ true → x.was_running ≡ true → x.started ≡ false → x.ran_out ≡ false
    → is_stopped x ≡ true
change-stops-one x a b c d = rw (a, b, c, d) (either x.stop_asked)
  where
    either : (b : Bool) → (b || true) ≡ true
    either true = refl
    either false = refl

-- one that just ran out is not stopped
pub spares-one : (x : TimerFacts) → x.ran_out ≡ true → is_stopped x ≡ false
spares-one x e = rw e (and-false x.was_running)

-- where nothing changes and nothing is asked for, nothing is stopped
pub stops-none : (x : TimerFacts) → x.stop_asked ≡ false → x.state_changes ≡ false → is_stopped x ≡ false
stops-none x a b = rw (a, b) (go x.was_running x.ran_out)
  where
    go : (was out : Bool) → (was && (not out && false)) ≡ false
    go false out = refl
    go true true = refl
    go true false = refl

-- and one that is not started runs on, unless it ran out
pub runs-on-one : (x : TimerFacts) → x.started ≡ false → x.stop_asked ≡ false → x.state_changes ≡ false
    → runs_after x ≡ (x.was_running && not x.ran_out)
runs-on-one x a b c = λ j. a j || (x.was_running && (not (stops-none x b c j) && not x.ran_out))

-- a set is that of the timers that pass a test, where those are its timers
pub of-test : {Set Timer : Type 0} (has : Set → Timer → Bool) (set_of : (Timer → Bool) → Set) (set : Set) (test : Timer → Bool)
    → set_of (has set) ≡ set → ((t : Timer) → has set t ≡ test t) → set ≡ set_of test
of-test has set_of set test e f = sym e ∙ ap set_of (λ j t. f t j)
