-- Positions of a log. Assumes nothing.
use Rattle.std.specs.Prelude.{ℕ, ◌+◌, ◌*◌, ◌/◌, ◌%◌, ◌^◌, cond, Some, None, Option, nat_lt}
use Rattle.label.specs.declared.label.Label.{Label}

-- log sector i in cycle c has this position
abbrev pub position : Label → ℕ → ℕ → ℕ
position L c i = c * L.count + i

-- the cycle of a position; at count 32, position 34 is in cycle 1
abbrev pub cycle : Label → ℕ → ℕ
cycle L x = x / L.count

-- its log sector; at count 32, position 34 is on log sector 2
abbrev pub log_sector : Label → ℕ → ℕ
log_sector L x = x % L.count

-- that sector on the volume
abbrev pub volume_sector : Label → ℕ → ℕ
volume_sector L x = L.start + log_sector L x

-- a position as a pair (cycle, log sector)
abbrev pub place : Label → ℕ → ℕ × ℕ
place L x = (cycle L x, log_sector L x)

-- the pair of a position whose cycle has at most 32 bits
abbrev pub split_of : Label → ℕ → Option (ℕ × ℕ)
split_of L x = cond (nat_lt (cycle L x) (2 ^ 32)) (Some (place L x)) None
