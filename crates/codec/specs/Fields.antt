-- Numbers and runs of bytes in lists of bytes. Assumes nothing.
use Rattle.std.specs.Prelude.{ℕ, zero, suc, ◌+◌, ◌-◌, ◌*◌, ◌/◌, ◌%◌, ◌^◌, ◌<◌, Bool, cond, List, [], ◌∷◌, ◌++◌, take, drop, replicate, ℤ, pos, negsuc, nat_lt, slice_index, slice_set}
use Rattle.std.specs.List.{AllByRecursion}
use Rattle.std.specs.Str.{bytes_eq}

-- the number of n bytes at a place, greatest byte first; a byte past the end counts as 0: be 2 (0 ∷ 1 ∷ 2 ∷ []) 1 = 258
abbrev pub be : ℕ → List ℕ → ℕ → ℕ
be zero b at = 0
be (suc n) b at = be n b at * 256 + slice_index b (at + n)

-- the same, least byte first: le 2 (0 ∷ 1 ∷ 2 ∷ []) 1 = 513
abbrev pub le : ℕ → List ℕ → ℕ → ℕ
le zero b at = 0
le (suc n) b at = le n b at + slice_index b (at + n) * 256 ^ n

-- numbers of 32, 16 and 64 bits at a place
abbrev pub be16 : List ℕ → ℕ → ℕ
be16 = be 2

abbrev pub be32 : List ℕ → ℕ → ℕ
be32 = be 4

abbrev pub be64 : List ℕ → ℕ → ℕ
be64 = be 8

abbrev pub le16 : List ℕ → ℕ → ℕ
le16 = le 2

abbrev pub le32 : List ℕ → ℕ → ℕ
le32 = le 4

abbrev pub le64 : List ℕ → ℕ → ℕ
le64 = le 8

-- a number of 32 bits read with a sign: from 2^31 on it is the number less 2^32, so 2^32 - 1 is -1
abbrev pub signed32 : ℕ → ℤ
signed32 x = cond (nat_lt x 2147483648) (pos x) (negsuc (4294967295 - x))

-- a number of 64 bits read with a sign: from 2^63 on it is the number less 2^64
abbrev pub signed64 : ℕ → ℤ
signed64 x = cond (nat_lt x 9223372036854775808) (pos x) (negsuc (18446744073709551615 - x))

-- a number with a sign as 32 bits: -1 is 2^32 - 1
abbrev pub unsigned32 : ℤ → ℕ
unsigned32 (pos x) = x
unsigned32 (negsuc x) = 4294967295 - x

-- a number with a sign as 64 bits
abbrev pub unsigned64 : ℤ → ℕ
unsigned64 (pos x) = x
unsigned64 (negsuc x) = 18446744073709551615 - x

-- the n bytes of a number, greatest first: be_bytes 2 258 = 1 ∷ 2 ∷ []
abbrev pub be_bytes : ℕ → ℕ → List ℕ
be_bytes zero x = []
be_bytes (suc n) x = be_bytes n (x / 256) ++ (x % 256 ∷ [])

-- the n bytes of a number, least first: le_bytes 2 258 = 2 ∷ 1 ∷ []
abbrev pub le_bytes : ℕ → ℕ → List ℕ
le_bytes zero x = []
le_bytes (suc n) x = x % 256 ∷ le_bytes n (x / 256)

-- the bytes of numbers of 32, 16 and 64 bits
abbrev pub be16_bytes : ℕ → List ℕ
be16_bytes = be_bytes 2

abbrev pub be32_bytes : ℕ → List ℕ
be32_bytes = be_bytes 4

abbrev pub be64_bytes : ℕ → List ℕ
be64_bytes = be_bytes 8

abbrev pub le16_bytes : ℕ → List ℕ
le16_bytes = le_bytes 2

abbrev pub le32_bytes : ℕ → List ℕ
le32_bytes = le_bytes 4

abbrev pub le64_bytes : ℕ → List ℕ
le64_bytes = le_bytes 8

-- each is a byte
abbrev pub Bytes : List ℕ → Type 0
Bytes b = AllByRecursion (λ v. v < 256) b

-- bytes put at a place, one after the other; what would fall past the end is not written: put (1 ∷ 2 ∷ []) 1 (8 ∷ 9 ∷ []) = 1 ∷ 8 ∷ []
abbrev pub put : List ℕ → ℕ → List ℕ → List ℕ
put b at [] = b
put b at (x ∷ xs) = put (slice_set b at x) (at + 1) xs

-- n zero bytes
abbrev pub zeros : ℕ → List ℕ
zeros n = replicate n 0

-- the n bytes from a place on, fewer at the end
abbrev pub part : ℕ → ℕ → List ℕ → List ℕ
part at n b = take n (drop at b)

-- lists joined one after the other
abbrev pub joined : {A : Type 0} → List (List A) → List A
joined [] = []
joined (x ∷ xs) = x ++ joined xs

-- whether two lists of numbers are the same
abbrev pub same : List ℕ → List ℕ → Bool
same = bytes_eq
