-- Every group row, played, comes out as told; what meets no row is discarded, and what is refused is refused as told. Assumes nothing.
use mathlib.Core.Path.{refl}
use Rattle.frame.specs.Digits.{in_hex, all_in_hex}
use Rattle.frame.specs.Frame.{parties_good, setup_good, group_call_good, acceptance_good, in_range}
use Rattle.frame.specs.Layout.{digits_of, frame_in_hex, line_of}
use Rattle.writer.specs.Writing.{write_number}
use Rattle.call.specs.Settings.{settings_good}
use Rattle.group_record.specs.Formed.{is_well_formed}
use Rattle.group_rows.specs.Rows.{row_in}
use Rattle.group_call.specs.Carried.{stopped_of, running_after, carry_out}
use Rattle.group_call.specs.Step.{step_of, step_buffer}
use Rattle.demands.specs.Machines.{group_machine}
use Rattle.demands.specs.Played.{crew}
use Rattle.demands.specs.RowPlays.{AllComeOut}
use Rattle.demands.specs.Strays.{AllStray, AllRefused}
use Rattle.demands.specs.GroupPlays.{group_plays, group_strays, group_refusals}

-- each by computing the step
pub group-plays-come-out : AllComeOut group_machine group_plays
unfolding group_plays step_of step_buffer settings_good is_well_formed row_in carry_out stopped_of running_after in_range parties_good setup_good group_call_good acceptance_good write_number digits_of line_of frame_in_hex all_in_hex in_hex
group-plays-come-out =
    ((refl, refl), ((refl, refl), ((refl, refl), ((refl, refl), ((refl, refl), ((refl, refl), ((refl, refl), ((refl, refl), ((refl, refl), ((refl, refl), ((refl, refl), ((refl, refl), ((refl, refl), ((refl, refl), ((refl, refl), ((refl, refl), ((refl, refl), ((refl, refl), ((refl, refl), tt)))))))))))))))))))

-- what meets no row is discarded
pub group-strays-discarded : AllStray group_machine crew group_strays
unfolding group_strays step_of step_buffer settings_good is_well_formed row_in carry_out stopped_of running_after in_range parties_good setup_good group_call_good acceptance_good write_number digits_of line_of frame_in_hex all_in_hex in_hex
group-strays-discarded =
    ((refl, refl), ((refl, refl), ((refl, refl), ((refl, refl), ((refl, refl), ((refl, refl), ((refl, refl), ((refl, refl), ((refl, refl), ((refl, refl), ((refl, refl), ((refl, refl), ((refl, refl), ((refl, refl), ((refl, refl), ((refl, refl), ((refl, refl), ((refl, refl), ((refl, refl), ((refl, refl), tt))))))))))))))))))))

-- what is refused is refused so
pub group-refusals-come-out : AllRefused group_machine group_refusals
unfolding group_refusals step_of step_buffer settings_good is_well_formed row_in carry_out stopped_of running_after in_range parties_good setup_good group_call_good acceptance_good write_number digits_of line_of frame_in_hex all_in_hex in_hex
group-refusals-come-out =
    ((refl, refl), ((refl, refl), ((refl, refl), ((refl, refl), ((refl, refl), ((refl, refl), ((refl, refl), ((refl, refl), ((refl, refl), ((refl, refl), ((refl, refl), ((refl, refl), ((refl, refl), ((refl, refl), ((refl, refl), ((refl, refl), tt))))))))))))))))
