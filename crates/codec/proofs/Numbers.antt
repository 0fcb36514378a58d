-- A number written as bytes is read back, at every width. Assumes nothing.
use Rattle.std.proofs.Common.{◌≡◌, ℕ, zero, suc, ◌+◌, ◌*◌, ◌/◌, ◌%◌, ◌^◌, ◌<◌, ◌≤◌, List, [], ◌∷◌, ◌++◌, length, get_or, sym, refl, ap, ◌∙◌, mod-eq_of_lt, add_comm, pow-suc, zero-add, div-one, arith, lit<, lit≤, length-append}
use native.Mathlib.Nat.{pow-succ', div-div-eq-div-mul, mod-one, one-le-pow}
use lib.Arith.{mod-mul}
use Rattle.std.proofs.lemmas.List.{get_or_append_left, get_or-append-add, get_or_at}
use Rattle.codec.specs.Fields.{be, le, be_bytes, le_bytes, put}
use Rattle.codec.proofs.Puts.{put_there}

pub length_be_bytes : (n x : ℕ) → length (be_bytes n x) ≡ n
length_be_bytes zero x = refl
length_be_bytes (suc n) x = simp (length-append, length_be_bytes n (x / 256)) (omega arith)

pub length_le_bytes : (n x : ℕ) → length (le_bytes n x) ≡ n
length_le_bytes zero x = refl
length_le_bytes (suc n) x = ap suc (length_le_bytes n (x / 256))

-- a number is made of the bytes at its place alone
pub be_same : (n : ℕ) (b c : List ℕ) (i j : ℕ) → ((k : ℕ) → k < n → get_or b (i + k) 0 ≡ get_or c (j + k) 0) → be n b i ≡ be n c j
be_same zero b c i j h = refl
be_same (suc n) b c i j h = rw (be_same n b c i j (λ k l. h k (omega arith)), h n (omega arith))

pub le_same : (n : ℕ) (b c : List ℕ) (i j : ℕ) → ((k : ℕ) → k < n → get_or b (i + k) 0 ≡ get_or c (j + k) 0) → le n b i ≡ le n c j
le_same zero b c i j h = refl
le_same (suc n) b c i j h = rw (le_same n b c i j (λ k l. h k (omega arith)), h n (omega arith))

-- what n bytes keep of a number
be_kept : (n x : ℕ) → be n (be_bytes n x) 0 ≡ x % 256 ^ n
be_kept zero x = sym (mod-one x)
be_kept (suc n) x =
    let front = be_bytes n (x / 256) in
    let last : List ℕ = x % 256 ∷ [] in
    let l = length_be_bytes n (x / 256) in
    let a : be n (front ++ last) 0 ≡ x / 256 % 256 ^ n = be_same n (front ++ last) front 0 0 (λ k h. get_or_append_left front last 0 (0 + k) (omega arith)) ∙ be_kept n (x / 256) in
    let z : get_or (front ++ last) (0 + n) 0 ≡ x % 256 = get_or_at front (x % 256) [] 0 (0 + n) (omega arith) in
    ap (λ v. v * 256 + get_or (front ++ last) (0 + n) 0) a ∙ ap (λ v. x / 256 % 256 ^ n * 256 + v) z ∙ sym (mod-mul x (one-le-pow n 256 (lit≤ tt)) (lit< tt)) ∙ ap (λ m. x % m) (sym (pow-suc 256 n))

-- the bytes least first, by their last
le_bytes_last : (n x : ℕ) → le_bytes (suc n) x ≡ le_bytes n x ++ (x / 256 ^ n % 256 ∷ [])
le_bytes_last zero x = ap (λ v. v % 256 ∷ []) (sym (div-one x))
le_bytes_last (suc n) x =
    let e : x / 256 / 256 ^ n ≡ x / 256 ^ suc n = div-div-eq-div-mul x 256 (256 ^ n) ∙ ap (λ m. x / m) (sym (pow-succ' 256 n)) in
    ap (λ b. x % 256 ∷ b) (le_bytes_last n (x / 256)) ∙ ap (λ v. x % 256 ∷ (le_bytes n (x / 256) ++ (v % 256 ∷ []))) e

le_kept : (n x : ℕ) → le n (le_bytes n x) 0 ≡ x % 256 ^ n
le_kept zero x = sym (mod-one x)
le_kept (suc n) x =
    let front = le_bytes n x in
    let v : ℕ = x / 256 ^ n % 256 in
    let last : List ℕ = v ∷ [] in
    let l = length_le_bytes n x in
    let a : le n (front ++ last) 0 ≡ x % 256 ^ n = le_same n (front ++ last) front 0 0 (λ k h. get_or_append_left front last 0 (0 + k) (omega arith)) ∙ le_kept n x in
    let z : get_or (front ++ last) (0 + n) 0 ≡ v = get_or_at front v [] 0 (0 + n) (omega arith) in
    let m : x % 256 ^ suc n ≡ v * 256 ^ n + x % 256 ^ n = ap (λ p. x % p) (pow-succ' 256 n) ∙ mod-mul x (lit< tt) (one-le-pow n 256 (lit≤ tt)) in
    ap (λ b. le (suc n) b 0) (le_bytes_last n x) ∙ ap (λ w. w + get_or (front ++ last) (0 + n) 0 * 256 ^ n) a ∙ ap (λ w. x % 256 ^ n + w * 256 ^ n) z
    ∙ add_comm (x % 256 ^ n) (v * 256 ^ n) ∙ sym m

-- where the bytes of a number stand, it is read
pub be_read : (n x : ℕ) (b : List ℕ) (at : ℕ) → x < 256 ^ n → ((k : ℕ) → k < n → get_or b (at + k) 0 ≡ get_or (be_bytes n x) (0 + k) 0) → be n b at ≡ x
be_read n x b at small h = be_same n b (be_bytes n x) at 0 h ∙ be_kept n x ∙ mod-eq_of_lt small

pub le_read : (n x : ℕ) (b : List ℕ) (at : ℕ) → x < 256 ^ n → ((k : ℕ) → k < n → get_or b (at + k) 0 ≡ get_or (le_bytes n x) (0 + k) 0) → le n b at ≡ x
le_read n x b at small h = le_same n b (le_bytes n x) at 0 h ∙ le_kept n x ∙ mod-eq_of_lt small

-- so it is between other bytes
within : (front xs rest : List ℕ) (k : ℕ) → k < length xs → get_or (front ++ (xs ++ rest)) (length front + k) 0 ≡ get_or xs (0 + k) 0
within front xs rest k h =
    get_or-append-add front (xs ++ rest) k 0 ∙ get_or_append_left xs rest 0 k h ∙ ap (λ i. get_or xs i 0) (sym (zero-add k))

pub be_within : (n x : ℕ) (front rest : List ℕ) → x < 256 ^ n → be n (front ++ (be_bytes n x ++ rest)) (length front) ≡ x
be_within n x front rest small =
    be_read n x (front ++ (be_bytes n x ++ rest)) (length front) small (λ k h. within front (be_bytes n x) rest k (omega (arith, length_be_bytes n x)))

pub le_within : (n x : ℕ) (front rest : List ℕ) → x < 256 ^ n → le n (front ++ (le_bytes n x ++ rest)) (length front) ≡ x
le_within n x front rest small =
    le_read n x (front ++ (le_bytes n x ++ rest)) (length front) small (λ k h. within front (le_bytes n x) rest k (omega (arith, length_le_bytes n x)))

-- and where they were put
there : (b : List ℕ) (at : ℕ) (xs : List ℕ) (k : ℕ) → k < length xs → at + length xs ≤ length b → get_or (put b at xs) (at + k) 0 ≡ get_or xs (0 + k) 0
there b at xs k h fits = put_there b at xs k 0 h (omega arith) ∙ ap (λ i. get_or xs i 0) (sym (zero-add k))

pub be_put : (n x : ℕ) (b : List ℕ) (at : ℕ) → x < 256 ^ n → at + n ≤ length b → be n (put b at (be_bytes n x)) at ≡ x
be_put n x b at small fits =
    let l = length_be_bytes n x in
    be_read n x (put b at (be_bytes n x)) at small (λ k h. there b at (be_bytes n x) k (omega arith) (omega arith))

pub le_put : (n x : ℕ) (b : List ℕ) (at : ℕ) → x < 256 ^ n → at + n ≤ length b → le n (put b at (le_bytes n x)) at ≡ x
le_put n x b at small fits =
    let l = length_le_bytes n x in
    le_read n x (put b at (le_bytes n x)) at small (λ k h. there b at (le_bytes n x) k (omega arith) (omega arith))
