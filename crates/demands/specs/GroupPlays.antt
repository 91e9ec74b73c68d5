-- Every group row played once or more, what meets no row, and what is refused, to the last byte. Assumes nothing.
use Rattle.std.specs.Prelude.{List, [], ◌∷◌, false}
use Rattle.frame.specs.Media.{no_media}
use Rattle.frame.specs.declared.Message.TheVariants.{Release, GroupAccept}
use Rattle.call.specs.declared.PrivateTimer.{PrivateTimer}
use Rattle.call.specs.declared.GroupTimer.{GroupTimer}
use Rattle.call.specs.declared.PrivateAction.{PrivateAction}
use Rattle.call.specs.declared.GroupAction.{GroupAction}
use Rattle.group_record.specs.States.{no_timer, tfg2, tfg4, tfg2_and6}
use Rattle.group_record.specs.Formed.{cleared_record}
use Rattle.group_record.specs.declared.states.State.{State}
use Rattle.demands.specs.Machines.{group_machine}
use Rattle.demands.specs.Played.{crew_with, crew, five, six, hears, does, expires}
use Rattle.demands.specs.GroupPlayed.{asked_crew, call_in, mine, heard, changed, in_call, goes_on, announces, does_in_group, starts_group, raises, group_expires}
use Rattle.demands.specs.RowPlays.{Play, play}
use Rattle.demands.specs.Strays.{Stray, Refusal}

-- in the order of the rows; the first is the announcement of group 3 that is told in full
unfoldable pub group_plays : List (Play group_machine)
group_plays =
    play 1 crew cleared_record (starts_group 2 30 1) no_timer tfg2_and6 (goes_on (mine 2)) "0800100000000302001e0000000500000007000003e8000003e80000000701\n"
    ∷ play 2 crew (goes_on (mine 2)) (group_expires GroupTimer.Tfg2) no_timer tfg2 (goes_on (mine 2)) "0800100000000302001e0000000500000007000003e8000003e80000000700\n"
    ∷ play 3 asked_crew cleared_record (announces (heard 1) 1) no_timer tfg4 (in_call State.S5 (heard 1) six) ""
    ∷ play 3 asked_crew cleared_record (announces (heard 1) 0) no_timer tfg4 (in_call State.S4 (heard 1) six) ""
    ∷ play 4 crew cleared_record (announces (heard 3) 1) no_timer tfg2_and6 (in_call State.S3 (heard 3) six) "090011000000070300000003\n"
    ∷ play 4 crew cleared_record (announces (heard 3) 0) no_timer tfg2_and6 (in_call State.S3 (heard 3) six) ""
    ∷ play 5 asked_crew (in_call State.S5 (heard 1) six) (does_in_group GroupAction.Accept) tfg4 tfg2_and6 (in_call State.S3 (heard 1) six) "090011000000070100000003\n"
    ∷ play 6 asked_crew (in_call State.S4 (heard 1) six) (does_in_group GroupAction.Accept) tfg4 tfg2_and6 (in_call State.S3 (heard 1) six) ""
    ∷ play 7 crew (in_call State.S4 (heard 1) six) (does_in_group GroupAction.Reject) tfg4 no_timer cleared_record ""
    ∷ play 7 crew (in_call State.S5 (heard 1) six) (group_expires GroupTimer.Tfg4) no_timer no_timer cleared_record ""
    ∷ play 8 crew (goes_on (mine 1)) (does_in_group GroupAction.Leave) tfg2_and6 no_timer cleared_record ""
    ∷ play 8 crew (goes_on (mine 1)) (group_expires GroupTimer.Tfg6) tfg2 no_timer cleared_record ""
    ∷ play 9 crew (in_call State.S3 (heard 1) six) (raises 3 2001) no_timer no_timer (in_call State.S3 (record { identifier = 17; group = 3; call_type = 3; refresh = 30; originator = 9; start = 2000; last_change = 2001; last_changer = 7 }) six) "0800110000000303001e0000000600000009000007d0000007d10000000700\n"
    ∷ play 10 crew (goes_on (mine 1)) (announces (heard 2) 1) tfg2_and6 tfg2_and6 (in_call State.S3 (heard 2) six) ""
    ∷ play 10 crew (goes_on (mine 3)) (announces (call_in 3 17 3 9 999 3000) 0) tfg2_and6 tfg2_and6 (in_call State.S3 (call_in 3 17 3 9 999 3000) six) ""
    ∷ play 10 crew (goes_on (mine 3)) (announces (call_in 3 15 3 9 1000 1000) 0) tfg2_and6 tfg2_and6 (in_call State.S3 (call_in 3 15 3 9 1000 1000) six) ""
    ∷ play 11 crew (goes_on (mine 1)) (announces (call_in 3 16 2 9 900 1001) 0) tfg2 tfg2 (goes_on (changed 2 1001 9)) ""
    ∷ play 11 crew (goes_on (mine 2)) (announces (call_in 3 16 1 9 900 1001) 0) tfg2 tfg2 (goes_on (changed 1 1001 9)) ""
    ∷ play 11 crew (goes_on (mine 1)) (announces (call_in 3 16 2 9 900 1000) 0) tfg2 tfg2 (goes_on (mine 1)) ""
    ∷ []

-- what is stored, and what happens to no avail
unfoldable pub group_strays : List (Stray group_machine)
group_strays =
    (goes_on (mine 1), announces (heard 1) 0)
    ∷ (goes_on (mine 2), announces (call_in 3 17 3 9 1 1) 0)
    ∷ (goes_on (mine 1), announces (call_in 4 17 2 9 1 1) 0)
    ∷ (cleared_record, announces (call_in 4 17 2 9 1 1) 1)
    ∷ (in_call State.S4 (heard 1) six, announces (mine 2) 0)
    ∷ (in_call State.S5 (heard 1) six, announces (heard 1) 1)
    ∷ (goes_on (mine 1), hears (GroupAccept (record { identifier = 16; sender = 9; call_type = 1; group = 3 })))
    ∷ (goes_on (mine 1), hears (Release (record { identifier = 16; caller = 9; callee = 7 })))
    ∷ (goes_on (mine 1), does PrivateAction.End)
    ∷ (goes_on (mine 1), expires PrivateTimer.Tfp1)
    ∷ (goes_on (mine 1), group_expires GroupTimer.Tfg4)
    ∷ (cleared_record, group_expires GroupTimer.Tfg2)
    ∷ (in_call State.S4 (heard 1) six, group_expires GroupTimer.Tfg6)
    ∷ (goes_on (mine 1), starts_group 2 30 0)
    ∷ (goes_on (mine 1), does_in_group GroupAction.Accept)
    ∷ (goes_on (mine 1), does_in_group GroupAction.Reject)
    ∷ (in_call State.S5 (heard 1) six, does_in_group GroupAction.Leave)
    ∷ (in_call State.S4 (heard 1) six, raises 2 5000)
    ∷ (goes_on (mine 2), raises 3 5000)
    ∷ (goes_on (mine 3), raises 3 0)
    ∷ []

-- number, settings, record, input and the length of the buffer of what is refused
unfoldable pub group_refusals : List (Refusal group_machine)
group_refusals =
    (5, crew, in_call State.S4 (heard 1) six, announces (call_in 0 17 2 9 1 1) 0, 0)
    ∷ (5, crew, goes_on (mine 1), announces (heard 2) 2, 0)
    ∷ (6, crew, cleared_record, starts_group 2 30 1, 62)
    ∷ (6, crew, cleared_record, announces (heard 3) 1, 24)
    ∷ (7, crew_with false 17, goes_on (mine 1), raises 4 0, 0)
    ∷ (8, crew, cleared_record, starts_group 2 0 0, 63)
    ∷ (8, crew, cleared_record, starts_group 4 30 0, 63)
    ∷ (8, crew, cleared_record, starts_group 2 30 2, 63)
    ∷ (8, crew, cleared_record, raises 4 2000, 63)
    ∷ (8, crew, goes_on (mine 1), raises 2 1000, 0)
    ∷ (9, crew, in_call State.S1 (mine 1) five, group_expires GroupTimer.Tfg2, 0)
    ∷ (9, crew, goes_on (call_in 4 16 1 7 1000 1000), raises 2 2000, 63)
    ∷ (9, crew, goes_on (mine 4), raises 2 2000, 63)
    ∷ (9, crew, in_call State.S3 (mine 1) no_media, raises 2 2000, 63)
    ∷ (9, crew, record { state = State.S3; running = tfg2; call = mine 1; media = five }, group_expires GroupTimer.Tfg2, 63)
    ∷ (9, crew, record { state = State.S4; running = tfg2_and6; call = mine 1; media = five }, does_in_group GroupAction.Accept, 63)
    ∷ []
