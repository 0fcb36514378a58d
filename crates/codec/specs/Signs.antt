-- A number read with a sign has the bits that it was read from. Assumes nothing.
use Rattle.std.specs.Prelude.{◌≡◌, ℕ, ◌-◌, ◌^◌, ◌<◌, Bool, true, false, cond, pos, negsuc, refl, nat_lt}
use Rattle.std.proofs.Math.Arith.{sub-sub_self}
use Rattle.std.proofs.Common.{le_of_suc-le-suc}
use Rattle.codec.specs.Fields.{signed32, signed64, unsigned32, unsigned64}

pub signed32_back : (x : ℕ) → x < 256 ^ 4 → unsigned32 (signed32 x) ≡ x
signed32_back x h = go (nat_lt x 2147483648)
  where
    go : (t : Bool) → unsigned32 (cond t (pos x) (negsuc (4294967295 - x))) ≡ x
    go true = refl
    go false = sub-sub_self (le_of_suc-le-suc h)

pub signed64_back : (x : ℕ) → x < 256 ^ 8 → unsigned64 (signed64 x) ≡ x
signed64_back x h = go (nat_lt x 9223372036854775808)
  where
    go : (t : Bool) → unsigned64 (cond t (pos x) (negsuc (18446744073709551615 - x))) ≡ x
    go true = refl
    go false = sub-sub_self (le_of_suc-le-suc h)
