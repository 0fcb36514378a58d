-- What holds of numbers written as bytes, at every width. Assumes nothing.
use Rattle.std.specs.Prelude.{◌≡◌, ℕ, ◌+◌, ◌^◌, ◌<◌, ◌≤◌, List, ◌++◌, length, slice_index_or}
use Rattle.codec.specs.Fields.{be, le, be_bytes, le_bytes, put, signed32, signed64, unsigned32, unsigned64}

pub record CodecLaws : Type 0 where
  -- n bytes are written
  pub be_length : (n x : ℕ) → length (be_bytes n x) ≡ n
  pub le_length : (n x : ℕ) → length (le_bytes n x) ≡ n
  -- what is written is read, behind any bytes and before any
  pub be_within : (n x : ℕ) (front rest : List ℕ) → x < 256 ^ n → be n (front ++ (be_bytes n x ++ rest)) (length front) ≡ x
  pub le_within : (n x : ℕ) (front rest : List ℕ) → x < 256 ^ n → le n (front ++ (le_bytes n x ++ rest)) (length front) ≡ x
  -- so it is at the front
  pub be_first : (n x : ℕ) (rest : List ℕ) → x < 256 ^ n → be n (be_bytes n x ++ rest) 0 ≡ x
  pub le_first : (n x : ℕ) (rest : List ℕ) → x < 256 ^ n → le n (le_bytes n x ++ rest) 0 ≡ x
  -- what is put where it fits is read there
  pub be_put : (n x : ℕ) (b : List ℕ) (at : ℕ) → x < 256 ^ n → at + n ≤ length b → be n (put b at (be_bytes n x)) at ≡ x
  pub le_put : (n x : ℕ) (b : List ℕ) (at : ℕ) → x < 256 ^ n → at + n ≤ length b → le n (put b at (le_bytes n x)) at ≡ x
  -- to put keeps the length, each byte before the place, and each byte behind what is put
  pub put_length : (b : List ℕ) (at : ℕ) (xs : List ℕ) → length (put b at xs) ≡ length b
  pub put_below : (b : List ℕ) (at : ℕ) (xs : List ℕ) (i d : ℕ) → i < at → slice_index_or (put b at xs) i d ≡ slice_index_or b i d
  pub put_above : (b : List ℕ) (at : ℕ) (xs : List ℕ) (i d : ℕ) → at + length xs ≤ i → slice_index_or (put b at xs) i d ≡ slice_index_or b i d
  -- a number read with a sign has the bits that it was read from
  pub signed32_back : (x : ℕ) → x < 4294967296 → unsigned32 (signed32 x) ≡ x
  pub signed64_back : (x : ℕ) → x < 18446744073709551616 → unsigned64 (signed64 x) ≡ x
