-- Worked cases of buffers. Assumes nothing.
use Rattle.std.specs.Prelude.{◌≡◌, ℕ, List, [], ◌∷◌, map, length, replicate, pos, Some, None, Option, slice_index_or}
use Rattle.codec.specs.Fields.{same, joined}
use Rattle.keys.specs.declared.patch.PatchKey.{PatchKey}
use Rattle.item.specs.Meaning.{malformed, patch, cancel}
use Rattle.item.specs.Buffer.{chunks, regions_fit, cover, buffer_meaning}

-- the first region of a buffer of sector 8, length 1, with the given flags and the given least byte of its map word
abbrev pub head_with : ℕ → ℕ → List ℕ
head_with flags bits = 0x3C ∷ 0x12 ∷ 3 ∷ 0 ∷ flags ∷ 0 ∷ 1 ∷ 0 ∷ 8 ∷ 0 ∷ 0 ∷ 0 ∷ 0 ∷ 0 ∷ 0 ∷ 0 ∷ 1 ∷ 0 ∷ 0 ∷ 0 ∷ bits ∷ 0 ∷ 0 ∷ 0 ∷ []

-- its range
abbrev pub sector_8 : PatchKey
sector_8 = record { sector = pos 8; length = 1 }

-- what map 0x0000000D gives of a region of 128 bytes 7 and one of 256 bytes 9
abbrev pub two_runs : List (Option ℕ)
two_runs = cover (chunks (head_with 0 0x0D)) (joined (replicate 128 7 ∷ replicate 256 9 ∷ []))

pub record BufferCases : Type 0 where
  -- map 0x0000000D has regions of 128 and of 256 bytes, and no others fit
  pub sizes : (ds : List (List ℕ)) → regions_fit (chunks (head_with 0 0x0D)) ds ≡ same (map length ds) (128 ∷ 256 ∷ [])
  pub fits : buffer_meaning (head_with 0 0x0D ∷ replicate 128 7 ∷ replicate 256 9 ∷ []) ≡ patch sector_8 two_runs
  -- the first goes to bytes 0 to 127, the second to bytes 256 to 511, and nothing to those between
  pub at_0 : slice_index_or two_runs 0 None ≡ Some 7
  pub at_127 : slice_index_or two_runs 127 None ≡ Some 7
  pub at_128 : slice_index_or two_runs 128 None ≡ None
  pub at_255 : slice_index_or two_runs 255 None ≡ None
  pub at_256 : slice_index_or two_runs 256 None ≡ Some 9
  pub at_511 : slice_index_or two_runs 511 None ≡ Some 9
  pub covers_512 : length two_runs ≡ 512
  -- bit 4 at length 1 is malformed, whatever the regions
  pub bit_4 : (ds : List (List ℕ)) → buffer_meaning (head_with 0 0x1D ∷ ds) ≡ malformed
  -- a patch may cover nothing; a cancel's map is not read; flags are a number
  pub no_bits : buffer_meaning (head_with 0 0 ∷ []) ≡ patch sector_8 (replicate 512 None)
  pub flags_2 : (bits : ℕ) → buffer_meaning (head_with 2 bits ∷ []) ≡ cancel sector_8
  pub flags_1 : (bits : ℕ) (ds : List (List ℕ)) → buffer_meaning (head_with 1 bits ∷ ds) ≡ malformed
