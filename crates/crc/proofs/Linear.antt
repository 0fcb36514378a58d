-- The step of a bit is linear, so a byte's eight steps are a table's entry and a shift. Assumes nothing.
use Rattle.std.proofs.Common.{◌≡◌, ℕ, zero, suc, ◌+◌, ◌*◌, ◌/◌, ◌%◌, ◌^◌, ◌<◌, List, [], ◌∷◌, ◌++◌, length, get_or, take, drop, sym, refl, ap, ◌∙◌, suc-add, suc-mul, add_comm, zero-add, arith, take-append-drop, pow_pos}
use lib.Bits.{bit_xor, xor_shr, xor_mod, xor_assoc, xor_comm, xor_zero_r, xor_zero_l, xor_shifted, shifted_half, shifted_even}
use Rattle.std.proofs.Math.Nat.{div-div-eq-div-mul}
use Rattle.std.proofs.lemmas.Nat.{shr_split, mod_below}
use Rattle.std.proofs.lemmas.List.{drop-drop}
use Rattle.std.specs.Int.{byte_at, bytes_low_first}
use Rattle.std.specs.List.{fold}
use Rattle.std.specs.Simd.{first_chunks}
use Rattle.crc.specs.Crc.{picked, bit_step, steps, byte_step, crc_of}

-- (a ⊕ b) ⊕ (p ⊕ q) ≡ (a ⊕ p) ⊕ (b ⊕ q)
pub swap4 : (a b p q : ℕ) → bit_xor (bit_xor a b) (bit_xor p q) ≡ bit_xor (bit_xor a p) (bit_xor b q)
swap4 a b p q =
    xor_assoc a b (bit_xor p q)
    ∙ ap (bit_xor a) (sym (xor_assoc b p q) ∙ ap (λ x. bit_xor x q) (xor_comm b p) ∙ xor_assoc p b q)
    ∙ sym (xor_assoc a p (bit_xor b q))

picked_cases : (r s : ℕ) → r < 2 → s < 2 → picked (bit_xor r s) ≡ bit_xor (picked r) (picked s)
picked_cases zero zero h k = refl
picked_cases zero (suc zero) h k = refl
picked_cases (suc zero) zero h k = refl
picked_cases (suc zero) (suc zero) h k = refl
picked_cases zero (suc (suc s)) h k = absurd (omega arith)
picked_cases (suc zero) (suc (suc s)) h k = absurd (omega arith)
picked_cases (suc (suc r)) s h k = absurd (omega arith)

pub bit_linear : (a b : ℕ) → bit_step (bit_xor a b) ≡ bit_xor (bit_step a) (bit_step b)
bit_linear a b =
    let e : bit_xor a b / 2 ≡ bit_xor (a / 2) (b / 2) = xor_shr a b 1 in
    let m : bit_xor a b % 2 ≡ bit_xor (a % 2) (b % 2) = xor_mod a b 1 in
    rw (e, m, picked_cases (a % 2) (b % 2) (omega arith) (omega arith)) (swap4 (a / 2) (b / 2) (picked (a % 2)) (picked (b % 2)))

pub steps_linear : (n a b : ℕ) → steps n (bit_xor a b) ≡ bit_xor (steps n a) (steps n b)
steps_linear zero a b = refl
steps_linear (suc n) a b = ap (steps n) (bit_linear a b) ∙ steps_linear n (bit_step a) (bit_step b)

pub bit_shifted : (y k : ℕ) → bit_step (y * 2 ^ suc k) ≡ y * 2 ^ k
bit_shifted y k = rw (shifted_half y k, shifted_even y k) (xor_zero_r (y * 2 ^ k))

pub steps_shifted : (n y : ℕ) → steps n (y * 2 ^ n) ≡ y
steps_shifted zero y = omega arith
steps_shifted (suc n) y = ap (steps n) (bit_shifted y n) ∙ steps_shifted n y

-- the low n bits go n steps, and what lies above is shifted down
pub steps_split : (n x : ℕ) → steps n x ≡ bit_xor (steps n (x % 2 ^ n)) (x / 2 ^ n)
steps_split n x =
    let e : bit_xor (x / 2 ^ n * 2 ^ n) (x % 2 ^ n) ≡ x = xor_shifted (x / 2 ^ n) n (x % 2 ^ n) (mod_below x (2 ^ n) (pow_pos n)) ∙ shr_split x n in
    ap (steps n) (sym e) ∙ steps_linear n (x / 2 ^ n * 2 ^ n) (x % 2 ^ n)
    ∙ ap (λ y. bit_xor y (steps n (x % 2 ^ n))) (steps_shifted n (x / 2 ^ n))
    ∙ xor_comm (x / 2 ^ n) (steps n (x % 2 ^ n))

-- a byte changes the lowest eight bits alone
xor_low : (c b : ℕ) → b < 256 → bit_xor c b % 256 ≡ bit_xor (c % 256) b
xor_low c b h = let w : b % 256 ≡ b = omega arith in xor_mod c b 8 ∙ ap (bit_xor (c % 256)) w

xor_high : (c b : ℕ) → b < 256 → bit_xor c b / 256 ≡ c / 256
xor_high c b h = let z : b / 256 ≡ 0 = omega arith in xor_shr c b 8 ∙ ap (bit_xor (c / 256)) z ∙ xor_zero_r (c / 256)

pub byte_by_table : (c b : ℕ) → b < 256 → bit_xor (steps 8 (bit_xor (c % 256) b)) (c / 256) ≡ byte_step c b
byte_by_table c b h = sym (steps_split 8 (bit_xor c b) ∙ ap (λ x. bit_xor (steps 8 x) (bit_xor c b / 256)) (xor_low c b h) ∙ ap (bit_xor (steps 8 (bit_xor (c % 256) b))) (xor_high c b h))

-- n + m steps
pub steps_add : (n m c : ℕ) → steps (n + m) c ≡ steps m (steps n c)
steps_add zero m c = rw zero-add
steps_add (suc n) m c = rw suc-add (steps_add n m (bit_step c))

-- what is added to the state is added to what comes out
pub carried : (x y : ℕ) (bs : List ℕ) → crc_of (bit_xor x y) bs ≡ bit_xor (steps (8 * length bs) x) (crc_of y bs)
carried x y [] = refl
carried x y (b ∷ bs) =
    let e : 8 * suc (length bs) ≡ 8 + 8 * length bs = omega arith in
    let p : steps 8 (bit_xor (bit_xor x y) b) ≡ bit_xor (steps 8 x) (steps 8 (bit_xor y b)) = ap (steps 8) (xor_assoc x y b) ∙ steps_linear 8 x (bit_xor y b) in
    ap (λ s. crc_of s bs) p ∙ carried (steps 8 x) (steps 8 (bit_xor y b)) bs
    ∙ ap (λ s. bit_xor s (crc_of (steps 8 (bit_xor y b)) bs)) (sym (ap (λ n. steps n x) e ∙ steps_add 8 (8 * length bs) x))

-- a byte where the state is used up
pub spent : (b : ℕ) (bs : List ℕ) → crc_of 0 (b ∷ bs) ≡ bit_xor (steps (8 * suc (length bs)) b) (crc_of 0 bs)
spent b bs =
    let e : 8 * suc (length bs) ≡ 8 + 8 * length bs = omega arith in
    ap (λ x. crc_of (steps 8 x) bs) (xor_zero_l b) ∙ ap (λ x. crc_of x bs) (sym (xor_zero_r (steps 8 b))) ∙ carried (steps 8 b) 0 bs
    ∙ ap (λ x. bit_xor x (crc_of 0 bs)) (sym (ap (λ n. steps n b) e ∙ steps_add 8 (8 * length bs) b))

-- the bytes of a number from the second on are the bytes of what lies above its first
byte_above : (i n : ℕ) → byte_at (suc i) n ≡ byte_at i (n / 256)
byte_above zero n = omega arith
byte_above (suc i) n =
    let e : 256 ^ suc (suc i) ≡ 256 * 256 ^ suc i = omega arith in
    ap (λ p. n / p % 256) e ∙ ap (λ x. x % 256) (sym (div-div-eq-div-mul n 256 (256 ^ suc i)))

bytes_above : (i k n : ℕ) → bytes_low_first (suc i) k n ≡ bytes_low_first i k (n / 256)
bytes_above i zero n = refl
bytes_above i (suc k) n = rw (byte_above i n, bytes_above (suc i) k n)

-- one byte, with what is added to the state added to the byte
byte_taken : (s c y : ℕ) → byte_step (bit_xor s c) (y % 256) ≡ bit_xor (byte_step s (bit_xor y c % 256)) (c / 256)
byte_taken s c y =
    let l : y % 256 < 256 = omega arith in
    let m : bit_xor (c % 256) (y % 256) ≡ bit_xor y c % 256 = xor_comm (c % 256) (y % 256) ∙ sym (xor_mod y c 8) in
    ap (steps 8) (xor_assoc s c (y % 256)) ∙ steps_linear 8 s (bit_xor c (y % 256))
    ∙ ap (bit_xor (steps 8 s)) (sym (byte_by_table c (y % 256) l) ∙ ap (λ x. bit_xor (steps 8 x) (c / 256)) m)
    ∙ sym (xor_assoc (steps 8 s) (steps 8 (bit_xor y c % 256)) (c / 256))
    ∙ ap (λ x. bit_xor x (c / 256)) (sym (steps_linear 8 s (bit_xor y c % 256)))

-- what is added to the state may be added to the bytes, read as one number
pub taken : (k s c y : ℕ) → c < 256 ^ k → crc_of (bit_xor s c) (bytes_low_first 0 k y) ≡ crc_of s (bytes_low_first 0 k (bit_xor y c))
taken zero s c y h = let z : c ≡ 0 = omega arith in ap (bit_xor s) z ∙ xor_zero_r s
taken (suc k) s c y h =
    let n = bit_xor y c in
    let l : c / 256 < 256 ^ k = omega arith in
    ap (crc_of (byte_step (bit_xor s c) (y % 256))) (bytes_above 0 k y)
    ∙ ap (λ x. crc_of x (bytes_low_first 0 k (y / 256))) (byte_taken s c y)
    ∙ taken k (byte_step s (n % 256)) (c / 256) (y / 256) l
    ∙ ap (λ x. crc_of (byte_step s (n % 256)) (bytes_low_first 0 k x)) (sym (xor_shr y c 8))
    ∙ ap (crc_of (byte_step s (n % 256))) (sym (bytes_above 0 k n))

-- what eight tables give, added up: four by the first four bytes, and four by the others
pub word_is : {a0 a1 a2 a3 a4 a5 a6 a7 : ℕ} (b0 b1 b2 b3 b4 b5 b6 b7 : ℕ)
    → a0 ≡ steps 64 b0 → a1 ≡ steps 56 b1 → a2 ≡ steps 48 b2 → a3 ≡ steps 40 b3 → a4 ≡ steps 32 b4 → a5 ≡ steps 24 b5 → a6 ≡ steps 16 b6 → a7 ≡ steps 8 b7
    → bit_xor (bit_xor (bit_xor (bit_xor a0 a1) a2) a3) (bit_xor (bit_xor (bit_xor a4 a5) a6) a7) ≡ crc_of 0 (b0 ∷ b1 ∷ b2 ∷ b3 ∷ b4 ∷ b5 ∷ b6 ∷ b7 ∷ [])
word_is b0 b1 b2 b3 b4 b5 b6 b7 e0 e1 e2 e3 e4 e5 e6 e7 =
    let r7 = spent b7 [] ∙ xor_zero_r (steps 8 b7) in
    let r6 = spent b6 (b7 ∷ []) in
    let r5 = spent b5 (b6 ∷ b7 ∷ []) in
    let r4 = spent b4 (b5 ∷ b6 ∷ b7 ∷ []) in
    let r3 = spent b3 (b4 ∷ b5 ∷ b6 ∷ b7 ∷ []) in
    let r2 = spent b2 (b3 ∷ b4 ∷ b5 ∷ b6 ∷ b7 ∷ []) in
    let r1 = spent b1 (b2 ∷ b3 ∷ b4 ∷ b5 ∷ b6 ∷ b7 ∷ []) in
    let r0 = spent b0 (b1 ∷ b2 ∷ b3 ∷ b4 ∷ b5 ∷ b6 ∷ b7 ∷ []) in
    rw (e0, e1, e2, e3, e4, e5, e6, e7, r0, r1, r2, r3, r4, r5, r6, r7) (simp xor_assoc)

-- bytes one after the other, cut in two
pub crc_append : (c : ℕ) (a b : List ℕ) → crc_of c (a ++ b) ≡ crc_of (crc_of c a) b
crc_append c [] b = refl
crc_append c (x ∷ a) b = crc_append (byte_step c x) a b

pub crc_cut : (c n : ℕ) (b : List ℕ) → crc_of (crc_of c (take n b)) (drop n b) ≡ crc_of c b
crc_cut c n b = sym (crc_append c (take n b) (drop n b)) ∙ ap (crc_of c) (take-append-drop n b)

-- bytes one at a time, and runs of n bytes at a time, then what is left
pub crc_bytes : (c : ℕ) (b : List ℕ) → fold byte_step c b ≡ crc_of c b
crc_bytes c [] = refl
crc_bytes c (x ∷ b) = crc_bytes (byte_step c x) b

pub crc_runs : (n k c : ℕ) (b : List ℕ) → crc_of (fold crc_of c (first_chunks n k b)) (drop (k * n) b) ≡ crc_of c b
crc_runs n zero c b = let e : 0 * n ≡ 0 = omega arith in ap (λ i. crc_of c (drop i b)) e
crc_runs n (suc k) c b =
    let e : suc k * n ≡ n + k * n = suc-mul k n ∙ add_comm (k * n) n in
    let s = crc_of c (take n b) in
    ap (λ i. crc_of (fold crc_of s (first_chunks n k (drop n b))) (drop i b)) e
    ∙ ap (crc_of (fold crc_of s (first_chunks n k (drop n b)))) (sym (drop-drop (k * n) n b)) ∙ crc_runs n k s (drop n b) ∙ crc_cut c n b

-- a list, element by element
abbrev pub listed : ℕ → (ℕ → ℕ) → List ℕ
listed zero f = []
listed (suc n) f = f 0 ∷ listed n (λ k. f (suc k))

pub listed_is : (b : List ℕ) → b ≡ listed (length b) (λ k. get_or b k 0)
listed_is [] = refl
listed_is (x ∷ b) = ap (λ r. x ∷ r) (listed_is b)
