-- What becomes of the timers in a step of either machine. Assumes nothing.
use Rattle.std.specs.Prelude.{Bool, not, ◌&&◌, ◌||◌}
use Rattle.call.specs.declared.timers.TimerFacts.{TimerFacts}
use Rattle.call.specs.declared.timers.TimerRule.{TimerRule}
use Rattle.call.specs.declared.timers.TimerSets.{TimerSets}

-- whether it is stopped: it runs and did not run out just now, and the row asks for its stop, or the state changes and the row does not start it anew
abbrev pub is_stopped : TimerFacts → Bool
is_stopped x = x.was_running && (not x.ran_out && (x.stop_asked || (x.state_changes && not x.started)))

-- whether it runs afterwards: it was started, or it ran and was neither stopped nor ran out
abbrev pub runs_after : TimerFacts → Bool
runs_after x = x.started || (x.was_running && (not (is_stopped x) && not x.ran_out))

-- whether a rule takes it
abbrev pub taken_by : TimerRule → TimerFacts → Bool
taken_by TimerRule.IsStopped x = is_stopped x
taken_by TimerRule.RunsAfter x = runs_after x

-- ---- the timers of a machine

-- what the rules ask of one timer, from the sets and from whether the state changes
abbrev pub timer_facts : {Set Timer : Type 0} → (Set → Timer → Bool) → TimerSets Set → Timer → TimerFacts
timer_facts has x t =
    record {
      was_running = has x.was_running t;
      ran_out = has x.ran_out t;
      stop_asked = has x.stop_asked t;
      started = has x.started t;
      state_changes = x.state_changes;
    }

-- the timers that a rule takes, each by what is asked of it
abbrev pub set_by : {Set Timer : Type 0} → (Set → Timer → Bool) → ((Timer → Bool) → Set) → TimerRule → TimerSets Set → Set
set_by has set_of rule x = set_of (λ t. taken_by rule (timer_facts has x t))

-- the timers that are stopped, by the rule for each
unfoldable pub stopped_of : {Set Timer : Type 0} → (Set → Timer → Bool) → ((Timer → Bool) → Set) → TimerSets Set → Set
stopped_of has set_of x = set_of (λ t. is_stopped (timer_facts has x t))

-- the timers that run afterwards, by the rule for each
unfoldable pub running_after : {Set Timer : Type 0} → (Set → Timer → Bool) → ((Timer → Bool) → Set) → TimerSets Set → Set
running_after has set_of x = set_of (λ t. runs_after (timer_facts has x t))
