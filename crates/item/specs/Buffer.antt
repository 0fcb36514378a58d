-- The kind of buffers: a patch of chunks of 128 bytes that a map tells, or a cancel. Assumes nothing.
use Rattle.std.specs.Prelude.{ℕ, zero, suc, ◌+◌, ◌*◌, ◌/◌, ◌%◌, ◌^◌, Bool, true, false, cond, not, ◌&&◌, List, [], ◌∷◌, ◌++◌, map, length, take, drop, replicate, Some, None, Option, ◌==◌, nat_le, slice_index, slice_index_or}
use Rattle.keys.specs.declared.patch.PatchKey.{PatchKey}
use Rattle.codec.specs.Fields.{le16, le32, le64, signed64, same, joined}
use Rattle.item.specs.Meaning.{Meaning, malformed, patch, cancel, Kind}

-- bit b of the map, least bit first
abbrev pub map_bit : List ℕ → ℕ → Bool
map_bit r b = slice_index r (20 + b / 8) / 2 ^ (b % 8) % 2 == 1

-- n bits of the map from bit b on
abbrev pub map_bits : List ℕ → ℕ → ℕ → List Bool
map_bits r b zero = []
map_bits r b (suc n) = map_bit r b ∷ map_bits r (b + 1) n

-- no bit is set
abbrev pub none_set : List Bool → Bool
none_set [] = true
none_set (b ∷ bs) = not b && none_set bs

-- a run of n set bits that ends
abbrev pub run_of : ℕ → List ℕ
run_of zero = []
run_of (suc n) = suc n ∷ []

-- the lengths of the runs of set bits, with n set bits just before
abbrev pub runs : ℕ → List Bool → List ℕ
runs n [] = run_of n
runs n (true ∷ bs) = runs (suc n) bs
runs n (false ∷ bs) = run_of n ++ runs 0 bs

-- each run of set bits has one region of just its size: 128 bytes to a bit
abbrev pub regions_fit : List Bool → List (List ℕ) → Bool
regions_fit bits rs = same (map length rs) (map (λ n. 128 * n) (runs 0 bits))

-- 128 bytes of the range for each bit: the next ones given where it is set, else nothing
abbrev pub cover : List Bool → List ℕ → List (Option ℕ)
cover [] b = []
cover (true ∷ bits) b = map Some (take 128 b) ++ cover bits (drop 128 b)
cover (false ∷ bits) b = replicate 128 None ++ cover bits b

-- the length in sectors
abbrev pub buffer_length : List ℕ → ℕ
buffer_length r = le16 r 6

-- the range of a buffer
abbrev pub buffer_key : List ℕ → PatchKey
buffer_key r = record { sector = signed64 (le64 r 8); length = buffer_length r }

-- the words of a buffer's map: one for 8 sectors, or part of them
abbrev pub map_words : List ℕ → ℕ
map_words r = (buffer_length r + 7) / 8

-- the bits of the map that stand for chunks of the range
abbrev pub chunks : List ℕ → List Bool
chunks r = map_bits r 0 (4 * buffer_length r)

-- a buffer's first region r and its data regions are well formed: the map's words are counted rightly and end the region,
-- no bit stands beyond the length, and the regions fit the runs
abbrev pub buffer_fits : List ℕ → List (List ℕ) → Bool
buffer_fits r rs =
    (le32 r 16 == map_words r) && length r == 20 + 4 * map_words r
    && none_set (drop (4 * buffer_length r) (map_bits r 0 (32 * map_words r)))
    && regions_fit (chunks r) rs

-- by flags: 2 is a cancel, of one region; 0 is a patch
abbrev pub flagged : ℕ → List ℕ → List (List ℕ) → Meaning
flagged f r rs =
    cond (f == 2) (cond (length rs == 0) (cancel (buffer_key r)) malformed)
    (cond (f == 0 && buffer_fits r rs) (patch (buffer_key r) (cover (chunks r) (joined rs))) malformed)

-- a buffer: its first region has at least 20 bytes, its length is 1 to 64 sectors
abbrev pub buffer_meaning : List (List ℕ) → Meaning
buffer_meaning rs =
    let r = slice_index_or rs 0 [] in
    cond (nat_le 20 (length r) && nat_le 1 (buffer_length r) && nat_le (buffer_length r) 64) (flagged (le16 r 4) r (drop 1 rs)) malformed

-- the kind of buffers
abbrev pub buffer : Kind
buffer = record { early = true; meaning = buffer_meaning }
