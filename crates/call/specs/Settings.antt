-- What the terminal may be set to, and what its flags say. Assumes nothing.
use Rattle.std.specs.Prelude.{ℕ, Bool, ◌&&◌}
use Rattle.frame.specs.Digits.{four}
use Rattle.frame.specs.Range.{within, never_zero}
use Rattle.call.specs.declared.Counters.{Counters}
use Rattle.call.specs.declared.Settings.{Settings}

-- where no counter counts
abbrev pub no_counters : Counters
no_counters = record { cfp1 = 0; cfp3 = 0; cfp4 = 0 }

-- the limit of a counter: 1 to 16
abbrev pub limit_good : ℕ → Bool
limit_good limit = within 1 limit 16

-- the limits of CFP1, CFP3 and CFP4
abbrev pub limits_good : Counters → Bool
limits_good limits = limit_good limits.cfp1 && (limit_good limits.cfp3 && limit_good limits.cfp4)

-- every setting is in its range; the two flags always are
unfoldable pub settings_good : Settings → Bool
settings_good s = never_zero four s.own_user && (never_zero four s.own_group && limits_good s.limits)

-- whether the reason of a reject is kept back
abbrev pub restricted : Settings → Bool
restricted s = s.restrict
