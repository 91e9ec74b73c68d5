-- The well-formed private records. Assumes nothing.
use Rattle.std.specs.Prelude.{ℕ, Bool, true, cond, not, ◌&&◌, ◌||◌, eqb}
use Rattle.frame.specs.Range.{within}
use Rattle.frame.specs.Media.{no_media, media_none}
use Rattle.frame.specs.Frame.{in_range}
use Rattle.call.specs.Settings.{no_counters}
use Rattle.call.specs.Request.{no_parties, as_message, private_request}
use Rattle.call.specs.declared.Counters.{Counters}
use Rattle.call.specs.declared.Settings.{Settings}
use Rattle.call.specs.declared.Request.{Request}
use Rattle.private_record.specs.Phases.{state_number, no_timer, same_timers, running_of, phase_in}
use Rattle.private_record.specs.declared.states.State.{State}
use Rattle.private_record.specs.declared.states.Timers.{Timers}
use Rattle.private_record.specs.declared.states.PrivateCall.{PrivateCall}
use Rattle.private_record.specs.declared.states.PrivateRecord.{PrivateRecord}

-- no call
abbrev pub no_call : PrivateCall
no_call = record { parties = no_parties; commencement = 0; media = no_media; pck_id = 0 }

-- the cleared record
abbrev pub cleared_record : PrivateRecord
cleared_record = record { state = State.P0; running = no_timer; counters = no_counters; call = no_call }

-- ---- the running timers

-- what runs is what the table of phases has for the state
abbrev pub running_good : State → Timers → Bool
running_good state running = same_timers running (running_of (phase_in state running))

-- ---- the counters

-- a counter: 1 to its limit while its timer runs, else 0
abbrev pub counter_good : Bool → ℕ → ℕ → Bool
counter_good runs limit counter = cond runs (within 1 counter limit) (eqb counter 0)

-- CFP1, CFP3 and CFP4, each with TFP1, TFP3 or TFP4
abbrev pub counters_good : Timers → Counters → Counters → Bool
counters_good running limits counters =
    counter_good running.tfp1 limits.cfp1 counters.cfp1
    && (counter_good running.tfp3 limits.cfp3 counters.cfp3 && counter_good running.tfp4 limits.cfp4 counters.cfp4)

-- ---- the call

-- every field is 0
abbrev pub call_none : PrivateCall → Bool
call_none c =
    eqb c.parties.identifier 0
    && (eqb c.parties.caller 0
    && (eqb c.parties.callee 0 && (eqb c.commencement 0 && (media_none c.media && eqb c.pck_id 0))))

-- the setup request of a call
abbrev pub call_request : PrivateCall → Request
call_request c = private_request c.parties c.commencement c.pck_id

-- every field is in range: each has the range that it has in a setup request
abbrev pub fields_good : PrivateCall → Bool
fields_good c = in_range (as_message (call_request c)) c.media

-- own is the caller or the callee, and not both
abbrev pub one_own : Bool → Bool → Bool
one_own caller callee = (caller && not callee) || (not caller && callee)

-- in P2 own is the caller, in P5 the callee, elsewhere either
abbrev pub role_good : State → Bool → Bool → Bool
role_good State.P0 caller callee = true
role_good State.P1 caller callee = true
role_good State.P2 caller callee = caller
role_good State.P3 caller callee = true
role_good State.P4 caller callee = true
role_good State.P5 caller callee = callee

-- one of the users is own, and it is the one that the state asks for
abbrev pub users_good : State → Bool → Bool → Bool
users_good state caller callee = one_own caller callee && role_good state caller callee

-- the users of a call
abbrev pub users_of : Settings → State → PrivateCall → Bool
users_of s state c = users_good state (eqb c.parties.caller s.own_user) (eqb c.parties.callee s.own_user)

-- the identifier is 0 in P0 alone, and then every field is; otherwise every field is in range, and so are the users
abbrev pub call_good : Settings → State → PrivateCall → Bool
call_good s state c =
    cond (eqb c.parties.identifier 0) (eqb (state_number state) 0 && call_none c)
    (fields_good c && users_of s state c)

-- a record is well formed under the settings
unfoldable pub is_well_formed : Settings → PrivateRecord → Bool
is_well_formed s p =
    running_good p.state p.running
    && (counters_good p.running s.limits p.counters && call_good s p.state p.call)
