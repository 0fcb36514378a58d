-- What is written is bytes. Assumes nothing.
use Rattle.std.proofs.Common.{ℕ, zero, suc, ◌/◌, ◌%◌, ◌<◌, List, [], ◌∷◌, ◌++◌, take, drop, mod-lt, lit<}
use Rattle.std.proofs.ByRecursion.{All-append, All-take, All-drop}
use Rattle.codec.specs.Fields.{be_bytes, le_bytes, zeros, Bytes}

pub bytes_append : (xs ys : List ℕ) → Bytes xs → Bytes ys → Bytes (xs ++ ys)
bytes_append xs ys a b = All-append (λ v. v < 256) xs ys a b

pub bytes_take : (n : ℕ) (xs : List ℕ) → Bytes xs → Bytes (take n xs)
bytes_take n xs a = All-take (λ v. v < 256) n xs a

pub bytes_drop : (n : ℕ) (xs : List ℕ) → Bytes xs → Bytes (drop n xs)
bytes_drop n xs a = All-drop (λ v. v < 256) n xs a

pub bytes_be : (n x : ℕ) → Bytes (be_bytes n x)
bytes_be zero x = tt
bytes_be (suc n) x = bytes_append (be_bytes n (x / 256)) (x % 256 ∷ []) (bytes_be n (x / 256)) (mod-lt x (lit< tt), tt)

pub bytes_le : (n x : ℕ) → Bytes (le_bytes n x)
bytes_le zero x = tt
bytes_le (suc n) x = (mod-lt x (lit< tt), bytes_le n (x / 256))

pub bytes_zeros : (n : ℕ) → Bytes (zeros n)
bytes_zeros zero = tt
bytes_zeros (suc n) = (lit< tt, bytes_zeros n)
