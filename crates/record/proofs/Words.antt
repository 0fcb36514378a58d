-- The first words of data sectors, taken out and put in. Assumes nothing.
use Rattle.std.proofs.Common.{◌≡◌, ℕ, zero, suc, ◌+◌, ◌-◌, ◌*◌, ◌/◌, ◌%◌, ◌<◌, ◌≤◌, List, [], ◌∷◌, ◌++◌, length, take, drop, set, sym, refl, ap, ◌∙◌, append-nil, arith}
use Rattle.std.proofs.lemmas.List.{length-take, length-drop, length-append, take_at, drop_at, take-append-drop, drop-drop, append_assoc}
use Rattle.codec.specs.Fields.{put, part, be32_bytes, zeros}
use Rattle.label.specs.Position.{cycle}
use Rattle.label.specs.declared.label.Label.{Label}
use Rattle.record.specs.Record.{first_words, with_words, saved_words, cycle_words}
use Rattle.codec.proofs.Puts.{fill_at}

-- bytes put behind a front
pub put_behind : (front rest : List ℕ) (j : ℕ) (xs : List ℕ) → put (front ++ rest) (length front + j) xs ≡ front ++ put rest j xs
put_behind [] rest j xs = let e : 0 + j ≡ j = omega arith in ap (λ i. put rest i xs) e
put_behind (f ∷ front) rest j xs = let e : suc (length front) + j ≡ suc (length front + j) = omega arith in ap (λ i. put (f ∷ (front ++ rest)) i xs) e ∙ past f (front ++ rest) (length front + j) xs ∙ ap (λ l. f ∷ l) (put_behind front rest j xs)
  where
    past : (x : ℕ) (b : List ℕ) (i : ℕ) (xs : List ℕ) → put (x ∷ b) (suc i) xs ≡ x ∷ put b i xs
    past x b i [] = refl
    past x b i (y ∷ ys) = let e : suc i + 1 ≡ suc (i + 1) = omega arith in ap (λ k. put (x ∷ set b i y) k ys) e ∙ past x (set b i y) (i + 1) ys

-- bytes put at the front
pub put_front : (b xs : List ℕ) → length xs ≤ length b → put b 0 xs ≡ xs ++ drop (length xs) b
put_front b [] h = refl
put_front [] (x ∷ xs) h = let z : ⊥ = omega arith in elim z [ ]
put_front (y ∷ b) (x ∷ xs) h = put_behind (x ∷ []) b 0 xs ∙ ap (λ l. x ∷ l) (put_front b xs (omega arith))

-- a sector of data: its first word, the rest of it, and what follows
pub pieces : (b : List ℕ) → take 4 b ++ (part 4 508 b ++ drop 512 b) ≡ b
pieces b = ap (λ r. take 4 b ++ (take 508 (drop 4 b) ++ r)) (sym (drop-drop 508 4 b)) ∙ ap (λ r. take 4 b ++ r) (take-append-drop 508 (drop 4 b)) ∙ take-append-drop 4 b

-- one word more is put in
pub word_more : (k : ℕ) (w b : List ℕ) → 512 * (k + 1) ≤ length b → 4 * (k + 1) ≤ length w →
    put (with_words k w b) (512 * k) (part (4 * k) 4 w) ≡ with_words (k + 1) w b
word_more zero w b h l =
    put_front b (take 4 w) (omega (arith, length-take 4 w))
    ∙ ap (λ n. take 4 w ++ drop n b) (let e : length (take 4 w) ≡ 4 = omega (arith, length-take 4 w) in e)
    ∙ ap (λ r. take 4 w ++ r) (sym (take-append-drop 508 (drop 4 b)) ∙ ap (λ r. part 4 508 b ++ r) (drop-drop 508 4 b))
word_more (suc k) w b h l =
    let f = take 4 w ++ part 4 508 b in
    let r = with_words k (drop 4 w) (drop 512 b) in
    let n : length f ≡ 512 = omega (arith, length-append (take 4 w) (part 4 508 b), length-take 4 w, length-take 508 (drop 4 b), length-drop 4 b) in
    let e : 512 * suc k ≡ length f + 512 * k = omega arith in
    let p : part (4 * suc k) 4 w ≡ part (4 * k) 4 (drop 4 w) = ap (take 4) (let q : 4 * suc k ≡ 4 + 4 * k = omega arith in ap (λ i. drop i w) q ∙ sym (drop-drop (4 * k) 4 w)) in
    let s : suc k + 1 ≡ suc (k + 1) = omega arith in
    ap (λ i. put (take 4 w ++ (part 4 508 b ++ r)) i (part (4 * suc k) 4 w)) e
    ∙ ap (λ x. put (take 4 w ++ (part 4 508 b ++ r)) (length f + 512 * k) x) p
    ∙ ap (λ x. put x (length f + 512 * k) (part (4 * k) 4 (drop 4 w))) (sym (append_assoc (take 4 w) (part 4 508 b) r))
    ∙ put_behind f r (512 * k) (part (4 * k) 4 (drop 4 w))
    ∙ ap (λ x. f ++ x) (word_more k (drop 4 w) (drop 512 b) (omega (arith, length-drop 512 b)) (omega (arith, length-drop 4 w)))
    ∙ append_assoc (take 4 w) (part 4 508 b) (with_words (k + 1) (drop 4 w) (drop 512 b))
    ∙ ap (λ i. with_words i w b) (sym s)

-- the words of one sector more
pub words_more : (k : ℕ) (b : List ℕ) → first_words (k + 1) b ≡ first_words k b ++ part (512 * k) 4 b
words_more zero b = let e : take 4 b ++ [] ≡ take 4 b = simp append-nil in e
words_more (suc k) b =
    let s : suc k + 1 ≡ suc (k + 1) = omega arith in
    let q : 512 + 512 * k ≡ 512 * suc k = omega arith in
    ap (λ i. first_words i b) s ∙ ap (λ r. take 4 b ++ r) (words_more k (drop 512 b)) ∙ sym (append_assoc (take 4 b) (first_words k (drop 512 b)) (part (512 * k) 4 (drop 512 b)))
    ∙ ap (λ r. (take 4 b ++ first_words k (drop 512 b)) ++ take 4 r) (drop-drop (512 * k) 512 b ∙ ap (λ i. drop i b) q)

-- the words of k sectors
pub length_words : (k : ℕ) (b : List ℕ) → 512 * k ≤ length b → length (first_words k b) ≡ 4 * k
length_words zero b h = refl
length_words (suc k) b h =
    let i : 512 * k ≤ length (drop 512 b) = omega (arith, length-drop 512 b) in
    omega (arith, length-append (take 4 b) (first_words k (drop 512 b)), length-take 4 b, length_words k (drop 512 b) i)

-- one word more is saved
pub saved_more : (k : ℕ) (b : List ℕ) → k + 1 ≤ 64 → 512 * (k + 1) ≤ length b → put (saved_words k b) (4 * k) (part (512 * k) 4 b) ≡ saved_words (k + 1) b
saved_more k b l h =
    let n : length (part (512 * k) 4 b) ≡ 4 = omega (arith, length-take 4 (drop (512 * k) b), length-drop (512 * k) b) in
    let e : length (part (512 * k) 4 b) + 4 * (64 - (k + 1)) ≡ 4 * (64 - k) = omega arith in
    fill_at (first_words k b) (part (512 * k) 4 b) (4 * k) (4 * (64 - k)) (4 * (64 - (k + 1))) (length_words k b (omega arith)) e
    ∙ ap (λ x. x ++ zeros (4 * (64 - (k + 1)))) (sym (words_more k b))

-- the words that were there, put back whatever stands in their place
pub words_back : (n : ℕ) (b w rest : List ℕ) → 512 * n ≤ length b → 4 * n ≤ length w → with_words n (first_words n b ++ rest) (with_words n w b) ≡ b
words_back zero b w rest h l = refl
words_back (suc n) b w rest h l =
    let fw = first_words n (drop 512 b) in
    let r = with_words n (drop 4 w) (drop 512 b) in
    let t : length (take 4 b) ≡ 4 = omega (arith, length-take 4 b) in
    let u : length (take 4 w) ≡ 4 = omega (arith, length-take 4 w) in
    let m : length (part 4 508 b) ≡ 508 = omega (arith, length-take 508 (drop 4 b), length-drop 4 b) in
    let v : (take 4 b ++ fw) ++ rest ≡ take 4 b ++ (fw ++ rest) = append_assoc (take 4 b) fw rest in
    let x = take 4 w ++ (part 4 508 b ++ r) in
    let a : take 4 ((take 4 b ++ fw) ++ rest) ≡ take 4 b = ap (take 4) v ∙ take_at (take 4 b) (fw ++ rest) 4 t in
    let c : drop 4 ((take 4 b ++ fw) ++ rest) ≡ fw ++ rest = ap (drop 4) v ∙ drop_at (take 4 b) (fw ++ rest) 4 t in
    let d : drop 4 x ≡ part 4 508 b ++ r = drop_at (take 4 w) (part 4 508 b ++ r) 4 u in
    let e : part 4 508 x ≡ part 4 508 b = ap (take 508) d ∙ take_at (part 4 508 b) r 508 m in
    let g : drop 512 x ≡ r = sym (drop-drop 508 4 x) ∙ ap (drop 508) d ∙ drop_at (part 4 508 b) r 508 m in
    let G : List ℕ → List ℕ → List ℕ → List ℕ → List ℕ = λ p q s o. p ++ (q ++ with_words n s o) in
    ap (λ p. G p (part 4 508 x) (drop 4 ((take 4 b ++ fw) ++ rest)) (drop 512 x)) a
    ∙ ap (λ q. G (take 4 b) q (drop 4 ((take 4 b ++ fw) ++ rest)) (drop 512 x)) e
    ∙ ap (λ s. G (take 4 b) (part 4 508 b) s (drop 512 x)) c
    ∙ ap (λ o. G (take 4 b) (part 4 508 b) (fw ++ rest) o) g
    ∙ ap (λ y. take 4 b ++ (part 4 508 b ++ y)) (words_back n (drop 512 b) (drop 4 w) rest (omega (arith, length-drop 512 b)) (omega (arith, length-drop 4 w)))
    ∙ pieces b

-- the cycles of n positions
pub length_cycles : (L : Label) (x n : ℕ) → length (cycle_words L x n) ≡ 4 * n
length_cycles L x zero = refl
length_cycles L x (suc n) = omega (arith, length-append (be32_bytes (cycle L x)) (cycle_words L (x + 1) n), length_cycles L (x + 1) n)

-- the cycle of the position k places on
pub cycle_at : (L : Label) (x n k : ℕ) → k < n → part (4 * k) 4 (cycle_words L x n) ≡ be32_bytes (cycle L (x + k))
cycle_at L x zero k h = let z : ⊥ = omega arith in elim z [ ]
cycle_at L x (suc n) zero h = let e : x ≡ x + 0 = omega arith in ap (λ y. be32_bytes (cycle L y)) e
cycle_at L x (suc n) (suc k) h =
    let e : 4 * suc k ≡ 4 + 4 * k = omega arith in
    let q : x + 1 + k ≡ x + suc k = omega arith in
    ap (λ i. part i 4 (cycle_words L x (suc n))) e ∙ ap (take 4) (sym (drop-drop (4 * k) 4 (cycle_words L x (suc n))))
    ∙ cycle_at L (x + 1) n k (omega arith) ∙ ap (λ y. be32_bytes (cycle L y)) q

-- data keeps its length
pub length_with : (n : ℕ) (w b : List ℕ) → 4 * n ≤ length w → 512 * n ≤ length b → length (with_words n w b) ≡ length b
length_with zero w b h l = refl
length_with (suc n) w b h l =
    omega (
      arith,
      length-append (take 4 w) (part 4 508 b ++ with_words n (drop 4 w) (drop 512 b)),
      length-append (part 4 508 b) (with_words n (drop 4 w) (drop 512 b)),
      length-take 4 w,
      length-take 508 (drop 4 b),
      length-drop 4 b,
      length-drop 512 b,
      length_with n (drop 4 w) (drop 512 b) (omega (arith, length-drop 4 w)) (omega (arith, length-drop 512 b)),
    )

-- a number and its low 32 bits have the same bytes
pub low_bytes : (x : ℕ) → be32_bytes (x % 4294967296) ≡ be32_bytes x
low_bytes x =
    let a : x % 4294967296 / 256 / 256 / 256 % 256 ≡ x / 256 / 256 / 256 % 256 = omega arith in
    let b : x % 4294967296 / 256 / 256 % 256 ≡ x / 256 / 256 % 256 = omega arith in
    let c : x % 4294967296 / 256 % 256 ≡ x / 256 % 256 = omega arith in
    let d : x % 4294967296 % 256 ≡ x % 256 = omega arith in
    rw (a, b, c, d)
