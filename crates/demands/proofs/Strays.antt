-- What meets no row is discarded, and what is refused is refused as told. Assumes nothing.
use mathlib.Core.Path.{refl}
use Rattle.frame.specs.Digits.{in_hex, all_in_hex}
use Rattle.frame.specs.Frame.{parties_good, setup_good, group_call_good, acceptance_good, in_range}
use Rattle.frame.specs.Layout.{digits_of, frame_in_hex, line_of}
use Rattle.writer.specs.Writing.{write_number}
use Rattle.call.specs.Settings.{settings_good}
use Rattle.private_record.specs.Formed.{is_well_formed}
use Rattle.private_rows.specs.Rows.{row_in}
use Rattle.call.specs.Timing.{stopped_of, running_after}
use Rattle.private_call.specs.Carried.{started_of, counters_after, carry_out}
use Rattle.private_call.specs.Step.{step_of, step_buffer}
use Rattle.demands.specs.Machines.{private_machine}
use Rattle.demands.specs.Played.{crew}
use Rattle.demands.specs.Strays.{strays, AllStray, refusals, AllRefused}

-- what meets no row is discarded
pub strays-discarded : AllStray private_machine crew strays
unfolding strays step_of step_buffer settings_good is_well_formed row_in carry_out started_of stopped_of running_after counters_after in_range parties_good setup_good write_number digits_of line_of frame_in_hex all_in_hex in_hex group_call_good acceptance_good
strays-discarded =
    ((refl, refl), ((refl, refl), ((refl, refl), ((refl, refl), ((refl, refl), ((refl, refl), ((refl, refl), ((refl, refl), ((refl, refl), ((refl, refl), ((refl, refl), ((refl, refl), ((refl, refl), tt)))))))))))))

-- what is refused is refused so
pub refusals-come-out : AllRefused private_machine refusals
unfolding refusals step_of step_buffer settings_good is_well_formed row_in carry_out started_of stopped_of running_after counters_after in_range parties_good setup_good write_number digits_of line_of frame_in_hex all_in_hex in_hex group_call_good acceptance_good
refusals-come-out =
    ((refl, refl), ((refl, refl), ((refl, refl), ((refl, refl), ((refl, refl), ((refl, refl), ((refl, refl), ((refl, refl), ((refl, refl), ((refl, refl), ((refl, refl), ((refl, refl), ((refl, refl), ((refl, refl), ((refl, refl), ((refl, refl), ((refl, refl), tt)))))))))))))))))
