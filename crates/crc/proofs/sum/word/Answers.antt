-- Eight bytes by the eight tables.
use Rattle.std.proofs.Common.{◌≡◌, ℕ, List, [], ◌∷◌, get_or, sym, refl, ap, ◌∙◌, arith, rules}
use Rattle.std.proofs.lemmas.Nat.{le_bytes_4}
use lib.Bits.{bit_xor, xor_zero_l}
use Rattle.std.specs.Int.{w32, from_le_bytes, to_le_bytes}
use Rattle.crc.specs.Crc.{crc_of}
use Rattle.crc.proofs.Linear.{word_is, taken, listed, listed_is}
use Rattle.crc.proofs.sum.word.Goals as goal

pub returns : goal.returns
returns c =
    let x = c.args.c in
    let bs = c.args.b.now in
    let b : ℕ → ℕ = λ i. get_or bs i 0 in
    let first : List ℕ = b 0 ∷ b 1 ∷ b 2 ∷ b 3 ∷ [] in
    let others : List ℕ = b 4 ∷ b 5 ∷ b 6 ∷ b 7 ∷ [] in
    let y = from_le_bytes w32 first in
    let s : ℕ → ℕ = λ i. get_or c.to_le_bytes.result i 0 in
    let sum : c.to_le_bytes.result ≡ to_le_bytes w32 (bit_xor y x) = search rules in
    let read : to_le_bytes w32 y ≡ first = le_bytes_4 first y refl (λ i. search rules) refl in
    word_is (s 0) (s 1) (s 2) (s 3) (b 4) (b 5) (b 6) (b 7) c.entry-5.ensures c.entry-6.ensures c.entry-7.ensures c.entry-8.ensures c.entry.ensures c.entry-2.ensures c.entry-3.ensures c.entry-4.ensures
    ∙ ap (λ l. crc_of (crc_of 0 (get_or l 0 0 ∷ get_or l 1 0 ∷ get_or l 2 0 ∷ get_or l 3 0 ∷ [])) others) sum
    ∙ ap (λ z. crc_of z others) (sym (taken 4 0 x y (omega (arith, c.ranges.c.fits))) ∙ ap (λ z. crc_of z (to_le_bytes w32 y)) (xor_zero_l x) ∙ ap (crc_of x) read)
    ∙ ap (crc_of x) (sym (listed_is bs ∙ ap (λ m. listed m b) c.told-b))
