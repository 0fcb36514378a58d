use Rattle.std.proofs.Common.{◌≡◌, ◌<◌, ℕ, length, slice_index}
use Rattle.codec.proofs.fields.padded.Given as goal

-- so far each byte is there, or 0 behind the last
abbrev pub invariant-loop-k : goal.invariant-loop-k
invariant-loop-k g l = (length l.whole ≡ g.row.K) × ((j : ℕ) → j < l.k → slice_index l.whole j ≡ slice_index l.bytes j)
