-- What holds of the checksums of all bytes. Assumes nothing.
use Rattle.std.specs.Prelude.{◌≡◌, ℕ, ◌^◌, ◌<◌, List, ◌++◌}
use Rattle.std.specs.List.{AllByRecursion}
use Rattle.crc.specs.Crc.{crc_of, crc32c}

pub record CrcLaws : Type 0 where
  -- bytes may come in two pieces
  pub pieces : (c : ℕ) (a b : List ℕ) → crc_of c (a ++ b) ≡ crc_of (crc_of c a) b
  -- the state and the checksum of bytes are numbers of 32 bits
  pub state_small : (c : ℕ) (bs : List ℕ) → c < 2 ^ 32 → AllByRecursion (λ v. v < 256) bs → crc_of c bs < 2 ^ 32
  pub small : (bs : List ℕ) → AllByRecursion (λ v. v < 256) bs → crc32c bs < 2 ^ 32
