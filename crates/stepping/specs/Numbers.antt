-- The numbers of a step: 7, 9, and 5 or 8 ahead of any row, whatever the state, then the 8 of a row, then the writer's. Assumes nothing.
use Rattle.std.specs.Prelude.{ℕ, List, [], ◌∷◌, ◌++◌, Bool, true, cond, not, ◌&&◌, eqb, Option}
use Rattle.frame.specs.Number.{first_given}
use Rattle.frame.specs.Range.{time_good, type_good}
use Rattle.frame.specs.Frame.{in_range}
use Rattle.frame.specs.declared.Media.{Media}
use Rattle.frame.specs.declared.Message.TheVariants.{Announcement}
use Rattle.call.specs.Settings.{settings_good}
use Rattle.call.specs.Request.{as_message, start_request}
use Rattle.call.specs.Announced.{started_group_call}
use Rattle.call.specs.declared.Settings.{Settings}
use Rattle.call.specs.declared.PrivateStart.{PrivateStart}
use Rattle.call.specs.declared.PrivateAction.{PrivateAction}
use Rattle.call.specs.declared.GroupStart.{GroupStart}
use Rattle.call.specs.declared.GroupRaise.{GroupRaise}
use Rattle.call.specs.declared.GroupAction.{GroupAction}
use Rattle.call.specs.declared.Action.{Action}
use Rattle.call.specs.declared.Event.{Event}
use Rattle.call.specs.declared.Input.{Input}
use Rattle.frame.specs.declared.Message.{Message}
use Rattle.stepping.specs.Sending.{send_number}

-- ---- ahead of any row

-- a message's fields are in range; other events have none
abbrev pub heard_good : Event → Media → Bool
heard_good (Event.Action a) media = true
heard_good (Event.Expiry t) media = true
heard_good (Event.Message m) media = in_range m media

-- a private start: its arguments have the ranges of the setup request that it makes, and the callee is not own
abbrev pub private_start_good : Settings → PrivateStart → Media → Bool
private_start_good s x media = in_range (as_message (start_request s x)) media && not (eqb x.callee s.own_user)

-- the arguments of the private actions
abbrev pub private_arguments_good : Settings → PrivateAction → Media → Bool
private_arguments_good s (PrivateAction.Start x) media = private_start_good s x media
private_arguments_good s PrivateAction.End media = true
private_arguments_good s PrivateAction.Accept media = true
private_arguments_good s PrivateAction.Reject media = true

-- a group start: its arguments have the ranges of the announcement that it makes
abbrev pub group_start_good : Settings → GroupStart → Media → Bool
group_start_good s x media = in_range (Announcement (started_group_call s x) x.confirm) media

-- a raise: its type and its time have the ranges of an announcement's
abbrev pub raise_good : GroupRaise → Bool
raise_good x = type_good 8 x.call_type && time_good x.now

-- the arguments of the group actions
abbrev pub group_arguments_good : Settings → GroupAction → Media → Bool
group_arguments_good s (GroupAction.Start x) media = group_start_good s x media
group_arguments_good s GroupAction.Accept media = true
group_arguments_good s GroupAction.Reject media = true
group_arguments_good s GroupAction.Leave media = true
group_arguments_good s (GroupAction.Raise x) media = raise_good x

-- of both machines
abbrev pub action_good : Settings → Action → Media → Bool
action_good s (Action.Private a) media = private_arguments_good s a media
action_good s (Action.Group a) media = group_arguments_good s a media

-- an action's arguments are in range; other events have none
abbrev pub arguments_good : Settings → Event → Media → Bool
arguments_good s (Event.Action a) media = action_good s a media
arguments_good s (Event.Expiry t) media = true
arguments_good s (Event.Message m) media = true

-- the tests ahead of any row, in their order: a setting, the record, a field of a message, an argument of an action
abbrev pub tests_before_row : Settings → Bool → Input → List (ℕ × Bool)
tests_before_row s is_well_formed i =
    (7, not (settings_good s)) ∷ (9, not is_well_formed) ∷ (5, not (heard_good i.event i.media))
    ∷ (8, not (arguments_good s i.event i.media)) ∷ []

-- the first of them that is given, or 0
unfoldable pub number_before_row : Settings → Bool → Input → ℕ
number_before_row s is_well_formed i = first_given (tests_before_row s is_well_formed i)

-- ---- with the 8 that only a row gives

-- the tests of a step ahead of sending, in their order: those ahead of any row, then the 8 of R1 or G9
abbrev pub tests_of_step : Settings → Bool → Input → Bool → List (ℕ × Bool)
tests_of_step s is_well_formed i refused_by_row = tests_before_row s is_well_formed i ++ ((8, refused_by_row) ∷ [])

-- the first of them that is given, or 0
abbrev pub number_of_tests : Settings → Bool → Input → Bool → ℕ
number_of_tests s is_well_formed i refused_by_row = first_given (tests_of_step s is_well_formed i refused_by_row)

-- ---- with what is sent

-- the number of a step: that of a test, else the writer's of what is sent
abbrev pub number_sending : ℕ → Option Message → Media → List ℕ → ℕ
number_sending tested sent media out = cond (eqb tested 0) (send_number sent media out) tested
