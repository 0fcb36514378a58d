-- A checksum that is carried on over four parts. Assumes nothing.
use mathlib.Core.Path.{◌≡◌, sym, ◌∙◌}
use mathlib.Core.List.{List, ◌++◌}
use Prim.Native.Nat.{ℕ}
use Rattle.crc.specs.Crc.{crc_of}
use Rattle.crc.proofs.Linear.{crc_append}

pub four_parts : (s : ℕ) (a b c d : List ℕ) → crc_of (crc_of (crc_of (crc_of s a) b) c) d ≡ crc_of s (a ++ (b ++ (c ++ d)))
four_parts s a b c d =
    sym (crc_append s a (b ++ (c ++ d)) ∙ crc_append (crc_of s a) b (c ++ d) ∙ crc_append (crc_of (crc_of s a) b) c d)
