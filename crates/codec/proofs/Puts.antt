-- What bytes put at a place leave. Assumes nothing.
use Rattle.std.proofs.Common.{◌≡◌, ℕ, zero, suc, ◌+◌, ◌-◌, ◌<◌, ◌≤◌, min, ◌⊎◌, List, [], ◌∷◌, ◌++◌, length, get_or, take, drop, set, sym, refl, ap, ◌∙◌, inl, inr, append_assoc, append-nil, add-zero, arith, length-append, length-drop, length-set, get_or-set_other, get_or-set_same}
use native.Mathlib.Nat.{sub-zero, suc-sub-suc}
use lib.Seq.{set-append_seam}
use Rattle.std.proofs.lemmas.List.{same_lists, set_past, length-take-le, get_or_past, get_or_append_left, get_or-append_right, get_or-take, get_or-drop}
use Rattle.std.proofs.lemmas.Bool.{cases_lt}
use Rattle.codec.specs.Fields.{put, zeros}

pub length_put : (b : List ℕ) (at : ℕ) (xs : List ℕ) → length (put b at xs) ≡ length b
length_put b at [] = refl
length_put b at (x ∷ xs) = length_put (set b at x) (at + 1) xs ∙ length-set b at x

-- a byte before the place, and one behind what is put, stay as they were
pub put_below : (b : List ℕ) (at : ℕ) (xs : List ℕ) (i d : ℕ) → i < at → get_or (put b at xs) i d ≡ get_or b i d
put_below b at [] i d h = refl
put_below b at (x ∷ xs) i d h = put_below (set b at x) (at + 1) xs i d (omega arith) ∙ get_or-set_other b at i x d (omega arith)

pub put_above : (b : List ℕ) (at : ℕ) (xs : List ℕ) (i d : ℕ) → at + length xs ≤ i → get_or (put b at xs) i d ≡ get_or b i d
put_above b at [] i d h = refl
put_above b at (x ∷ xs) i d h = put_above (set b at x) (at + 1) xs i d (omega arith) ∙ get_or-set_other b at i x d (omega arith)

-- what is put is there
pub put_there : (b : List ℕ) (at : ℕ) (xs : List ℕ) (k d : ℕ) → k < length xs → at + k < length b → get_or (put b at xs) (at + k) d ≡ get_or xs k d
put_there b at [] k d h l = let z : ⊥ = omega arith in elim z [ ]
put_there b at (x ∷ xs) zero d h l =
    ap (λ i. get_or (put (set b at x) (at + 1) xs) i d) (add-zero at) ∙ put_below (set b at x) (at + 1) xs at d (omega arith) ∙ get_or-set_same b at x d (omega arith)
put_there b at (x ∷ xs) (suc k) d h l =
    let e : at + suc k ≡ at + 1 + k = omega arith in
    ap (λ i. get_or (put (set b at x) (at + 1) xs) i d) e ∙ put_there (set b at x) (at + 1) xs k d (omega arith) (omega (arith, length-set b at x))

-- zeros filled up from the front
pub fill : (front xs : List ℕ) (m : ℕ) → length xs ≤ m → put (front ++ zeros m) (length front) xs ≡ (front ++ xs) ++ zeros (m - length xs)
fill front [] m h = rw (append-nil, sub-zero)
fill front (x ∷ xs) zero h = let z : ⊥ = omega arith in elim z [ ]
fill front (x ∷ xs) (suc m) h =
    let one : List ℕ = x ∷ [] in
    let written : set (front ++ zeros (suc m)) (length front) x ≡ (front ++ one) ++ zeros m = set-append_seam front 0 (zeros m) x ∙ sym (append_assoc front one (zeros m)) in
    let next : length front + 1 ≡ length (front ++ one) = sym (length-append front one) in
    ap (λ b. put b (length front + 1) xs) written ∙ ap (λ n. put ((front ++ one) ++ zeros m) n xs) next ∙ fill (front ++ one) xs m (omega arith)
    ∙ ap (λ b. b ++ zeros (m - length xs)) (append_assoc front one xs) ∙ ap (λ n. (front ++ (x ∷ xs)) ++ zeros n) (sym (suc-sub-suc m (length xs)))

-- past the end nothing is written
pub put_past : (b : List ℕ) (at : ℕ) (xs : List ℕ) → length b ≤ at → put b at xs ≡ b
put_past b at [] h = refl
put_past b at (x ∷ xs) h = ap (λ v. put v (at + 1) xs) (set_past b at x h) ∙ put_past b (at + 1) xs (omega arith)

-- the bytes that fit, put by cutting
pub put_cut : (b : List ℕ) (at : ℕ) (xs : List ℕ) (n : ℕ) → at ≤ length b → n ≡ min (length xs) (length b - at) →
    take at b ++ (take n xs ++ drop n (drop at b)) ≡ put b at xs
put_cut b at xs n h e = same_lists (take at b ++ (take n xs ++ drop n (drop at b))) (put b at xs) lengths (λ i d l. by i d (cases_lt i at))
  where
    front : length (take at b) ≡ at
    front = length-take-le at b h

    middle : length (take n xs) ≡ n
    middle = length-take-le n xs (omega arith)

    lengths : length (take at b ++ (take n xs ++ drop n (drop at b))) ≡ length (put b at xs)
    lengths = simp (length-append, front, middle, length-drop, length_put) (omega arith)

    behind : (i d : ℕ) → at + n ≤ i → (n < length xs) ⊎ (length xs ≤ n) → get_or b i d ≡ get_or (put b at xs) i d
    behind i d l (inl t) = get_or_past b i d (omega arith) ∙ sym (get_or_past (put b at xs) i d (omega (arith, length_put b at xs)))
    behind i d l (inr t) = sym (put_above b at xs i d (omega arith))

    within : (i d : ℕ) → at ≤ i → (i < at + n) ⊎ (at + n ≤ i) → get_or (take n xs ++ drop n (drop at b)) (i - at) d ≡ get_or (put b at xs) i d
    within i d l (inl t) =
        let s : at + (i - at) ≡ i = omega arith in
        get_or_append_left (take n xs) (drop n (drop at b)) d (i - at) (omega (arith, middle)) ∙ get_or-take n xs (i - at) d (omega arith)
        ∙ sym (put_there b at xs (i - at) d (omega arith) (omega arith)) ∙ ap (λ j. get_or (put b at xs) j d) s
    within i d l (inr t) =
        let s : at + (n + (i - at - n)) ≡ i = omega arith in
        get_or-append_right (take n xs) (drop n (drop at b)) n (i - at) d middle (omega arith) ∙ get_or-drop n (drop at b) (i - at - n) d ∙ get_or-drop at b (n + (i - at - n)) d
        ∙ ap (λ j. get_or b j d) s ∙ behind i d t (cases_lt n (length xs))

    by : (i d : ℕ) → (i < at) ⊎ (at ≤ i) → get_or (take at b ++ (take n xs ++ drop n (drop at b))) i d ≡ get_or (put b at xs) i d
    by i d (inl l) = get_or_append_left (take at b) (take n xs ++ drop n (drop at b)) d i (omega (arith, front)) ∙ get_or-take at b i d l ∙ sym (put_below b at xs i d l)
    by i d (inr l) = get_or-append_right (take at b) (take n xs ++ drop n (drop at b)) at i d front l ∙ within i d l (cases_lt i (at + n))

-- bytes put where the zeros begin
pub fill_at : (front xs : List ℕ) (i m r : ℕ) → length front ≡ i → length xs + r ≡ m → put (front ++ zeros m) i xs ≡ (front ++ xs) ++ zeros r
fill_at front xs i m r e f =
    let q : m - length xs ≡ r = omega arith in
    ap (λ j. put (front ++ zeros m) j xs) (sym e) ∙ fill front xs m (omega arith) ∙ ap (λ j. (front ++ xs) ++ zeros j) q
