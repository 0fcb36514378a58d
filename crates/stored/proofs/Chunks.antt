-- Runs of n bytes, one after the other, with their numbers. Assumes nothing.
use Rattle.std.proofs.Common.{◌≡◌, ℕ, zero, suc, ◌+◌, ◌*◌, ◌<◌, min, List, length, get_or, take, drop, sym, refl, ap, ◌∙◌, subst, mul-suc, add_comm, zero-add, arith}
use Rattle.std.proofs.lemmas.List.{length-take, get_or-take, drop-drop}
use Rattle.std.proofs.lemmas.List.FromFn.{length-enumerate_from, get_or-enumerate_from}
use Rattle.std.specs.List.{enumerate_from}
use Rattle.std.specs.Simd.{first_chunks}

-- run k of m
chunk_at : (n k m : ℕ) (b d : List ℕ) → k < m → get_or (first_chunks n m b) k d ≡ take n (drop (n * k) b)
chunk_at n k zero b d h = absurd (omega arith)
chunk_at n zero (suc m) b d h = let e : 0 ≡ n * 0 = omega arith in ap (λ i. take n (drop i b)) e
chunk_at n (suc k) (suc m) b d h =
    let e : n + n * k ≡ n * suc k = add_comm n (n * k) ∙ sym (mul-suc n k) in
    chunk_at n k m (drop n b) d (omega arith) ∙ ap (take n) (drop-drop (n * k) n b) ∙ ap (λ i. take n (drop i b)) e

length_chunks : (n m : ℕ) (b : List ℕ) → length (first_chunks n m b) ≡ m
length_chunks n zero b = refl
length_chunks n (suc m) b = ap suc (length_chunks n m (drop n b))

-- the first q of m runs, each with its number
abbrev pub numbered : ℕ → ℕ → ℕ → List ℕ → List (ℕ × List ℕ)
numbered q n m b = enumerate_from 0 (take q (first_chunks n m b))

pub length_numbered : (q n m : ℕ) (b : List ℕ) → length (numbered q n m b) ≡ min q m
length_numbered q n m b = length-enumerate_from 0 (take q (first_chunks n m b)) ∙ length-take q (first_chunks n m b) ∙ ap (min q) (length_chunks n m b)

-- the one at place i
pub numbered_at : (q n m : ℕ) (b : List ℕ) (i k : ℕ) (s : List ℕ) → (i < length (numbered q n m b)) × ((k, s) ≡ get_or (numbered q n m b) i (k, s)) →
    (i < q) × (i < m) × (k ≡ i) × (s ≡ take n (drop (n * i) b))
numbered_at q n m b i k s t =
    let ys = first_chunks n m b in
    let h : i < min q m = subst (λ j. i < j) (length_numbered q n m b) t.0 in
    let hq : i < q = omega arith in
    let hm : i < m = omega arith in
    let l : i < length (take q ys) = subst (λ j. i < j) (length-enumerate_from 0 (take q ys)) t.0 in
    let e : (k, s) ≡ (0 + i, get_or (take q ys) i s) = t.1 ∙ get_or-enumerate_from 0 (take q ys) i (k, s) l in
    (hq, hm, ap (λ (p : ℕ × List ℕ). p.0) e ∙ zero-add i, ap (λ (p : ℕ × List ℕ). p.1) e ∙ get_or-take q ys i s hq ∙ chunk_at n i m b s hm)
