-- The order of group calls: by rank, then by start, then by identifier. Assumes nothing.
use Rattle.std.specs.Prelude.{ℕ, Bool, cond, ◌&&◌, ◌||◌, ltb, eqb}
use Rattle.frame.specs.declared.GroupCall.{GroupCall}

-- the rank of a type, best first: emergency (2), imminent peril (3), basic (1) and whatever is no type of a group call
abbrev pub rank_of : ℕ → ℕ
rank_of type = cond (eqb type 2) 0 (cond (eqb type 3) 1 2)

-- the smaller of two numbers decides; where they are equal, the rest does
abbrev pub by_first : ℕ → ℕ → Bool → Bool
by_first m n rest = ltb m n || (eqb m n && rest)

-- whether the first call is better than the second: the rank decides, then the earlier start, then the lower identifier
abbrev pub is_better : GroupCall → GroupCall → Bool
is_better a b =
    by_first (rank_of a.call_type) (rank_of b.call_type)
    (by_first a.start b.start (ltb a.identifier b.identifier))
