-- A checksum is below 2^32. Assumes nothing.
use Rattle.std.proofs.Common.{ℕ, zero, suc, ◌/◌, ◌%◌, ◌^◌, ◌<◌, Bool, true, false, cond, eqb, List, [], ◌∷◌, arith, lit<}
use lib.Bits.{bit_xor, xor_lt}
use Rattle.std.specs.List.{AllByRecursion}
use Rattle.crc.specs.Crc.{picked, bit_step, steps, byte_step, crc_of, crc32c}

picked_lt : (b : Bool) → cond b 0x82F63B78 0 < 2 ^ 32
picked_lt true = lit< tt
picked_lt false = lit< tt

bit_step_lt : (c : ℕ) → c < 2 ^ 32 → bit_step c < 2 ^ 32
bit_step_lt c h = xor_lt 32 (c / 2) (picked (c % 2)) (omega arith) (picked_lt (eqb (c % 2) 1))

steps_lt : (n c : ℕ) → c < 2 ^ 32 → steps n c < 2 ^ 32
steps_lt zero c h = h
steps_lt (suc n) c h = steps_lt n (bit_step c) (bit_step_lt c h)

pub crc_of_lt : (c : ℕ) (bs : List ℕ) → c < 2 ^ 32 → AllByRecursion (λ v. v < 256) bs → crc_of c bs < 2 ^ 32
crc_of_lt c [] h a = h
crc_of_lt c (b ∷ bs) h a =
    let s : b < 2 ^ 32 = omega (arith, a.0) in
    crc_of_lt (byte_step c b) bs (steps_lt 8 (bit_xor c b) (xor_lt 32 c b h s)) a.1

pub crc_lt : (bs : List ℕ) → AllByRecursion (λ v. v < 256) bs → crc32c bs < 2 ^ 32
crc_lt bs a = xor_lt 32 (crc_of 0xFFFFFFFF bs) 0xFFFFFFFF (crc_of_lt 0xFFFFFFFF bs (lit< tt) a) (lit< tt)
