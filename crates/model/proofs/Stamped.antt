-- The data sectors of a record as they are stored, one by one. Assumes nothing.
use Rattle.std.proofs.Common.{◌≡◌, ℕ, zero, suc, ◌+◌, ◌-◌, ◌*◌, ◌<◌, ◌≤◌, false, List, [], ◌∷◌, ◌++◌, length, get_or, take, drop, sym, refl, ap, ◌∙◌, div-lt_iff_lt-mul, arith}
use Rattle.std.proofs.lemmas.List.{length-append, length-replicate, length-take, length-drop, take_at, drop_at, take-append-drop, nil_from_length}
use Rattle.std.proofs.lemmas.Bool.{ne_eqb, cond-false}
use Rattle.codec.specs.Fields.{be32, be32_bytes, part, zeros, joined}
use Rattle.codec.proofs.Numbers.{be_within}
use Rattle.label.specs.declared.label.Label.{Label}
use Rattle.label.specs.Position.{cycle}
use Rattle.record.specs.Record.{is_header, held_cycle, stored, sectors, sectors_for, padded, cycle_words}
use Rattle.record.proofs.Words.{length_with, length_cycles}

pub cycle_low : (L : Label) (x : ℕ) → 1 ≤ L.count → x < 2147483648 * L.count → cycle L x < 2147483648
cycle_low L x p h = (div-lt_iff_lt-mul p).1 h

-- n sectors of data for the positions from x on, the cycle in place of each first word
abbrev pub stamped : Label → ℕ → ℕ → List ℕ → List (List ℕ)
stamped L x zero b = []
stamped L x (suc n) b = (be32_bytes (cycle L x) ++ part 4 508 b) ∷ stamped L (x + 1) n (drop 512 b)

pub sectors_stored : (L : Label) (x n : ℕ) (b : List ℕ) → 512 * n ≤ length b → sectors n (stored L x n b) ≡ stamped L x n b
sectors_stored L x zero b h = refl
sectors_stored L x (suc n) b h =
    let w : List ℕ = be32_bytes (cycle L x) in
    let p : List ℕ = part 4 508 b in
    let r : List ℕ = stored L (x + 1) n (drop 512 b) in
    let m : length p ≡ 508 = omega (arith, length-take 508 (drop 4 b), length-drop 4 b) in
    ap (λ s. (w ++ s) ∷ sectors n (drop 508 (p ++ r))) (take_at p r 508 m)
    ∙ ap (λ s. (w ++ p) ∷ sectors n s) (drop_at p r 508 m)
    ∙ ap (λ l. (w ++ p) ∷ l) (sectors_stored L (x + 1) n (drop 512 b) (omega (arith, length-drop 512 b)))

-- sectors joined again
pub joined_sectors : (n : ℕ) (s : List ℕ) → length s ≡ 512 * n → joined (sectors n s) ≡ s
joined_sectors zero s e = sym (nil_from_length s e)
joined_sectors (suc n) s e =
    ap (λ r. take 512 s ++ r) (joined_sectors n (drop 512 s) (omega (arith, length-drop 512 s))) ∙ take-append-drop 512 s

pub length_stored : (L : Label) (x n : ℕ) (b : List ℕ) → length b ≡ 512 * n → length (stored L x n b) ≡ 512 * n
length_stored L x n b e = length_with n (cycle_words L x n) b (omega (arith, length_cycles L x n)) (omega arith) ∙ e

pub length_padded : (b : List ℕ) → length (padded b) ≡ 512 * sectors_for (length b)
length_padded b =
    omega (arith, length-append b (zeros (512 * sectors_for (length b) - length b)), length-replicate {A = ℕ} (512 * sectors_for (length b) - length b) 0)

-- a data sector holds its cycle and is no header
stamp_no : (c : ℕ) (p : List ℕ) → c < 2147483648 → is_header (be32_bytes c ++ p) ≡ false
stamp_no c p h =
    let e : be32 (be32_bytes c ++ p) 0 ≡ c = be_within 4 c [] p (omega arith) in
    ne_eqb (be32 (be32_bytes c ++ p) 0) 0xFEEDBABE (λ f. omega (arith, e, f))

stamp_turn : (c : ℕ) (p : List ℕ) → c < 2147483648 → held_cycle (be32_bytes c ++ p) ≡ c
stamp_turn c p h =
    cond-false (is_header (be32_bytes c ++ p)) (be32 (be32_bytes c ++ p) 4) (be32 (be32_bytes c ++ p) 0) (stamp_no c p h) ∙ be_within 4 c [] p (omega arith)

pub length_stamped : (L : Label) (x n : ℕ) (b : List ℕ) → length (stamped L x n b) ≡ n
length_stamped L x zero b = refl
length_stamped L x (suc n) b = ap suc (length_stamped L (x + 1) n (drop 512 b))

pub stamped_turns : (L : Label) (x n : ℕ) (b : List ℕ) (j : ℕ) → 1 ≤ L.count → j < n → x + j < 2147483648 * L.count →
    held_cycle (get_or (stamped L x n b) j []) ≡ cycle L (x + j)
stamped_turns L x zero b j p h l = let z : ⊥ = omega arith in elim z [ ]
stamped_turns L x (suc n) b zero p h l = let e : x + 0 ≡ x = omega arith in
    stamp_turn (cycle L x) (part 4 508 b) (cycle_low L x p (omega arith)) ∙ ap (cycle L) (sym e)
stamped_turns L x (suc n) b (suc j) p h l = let e : x + 1 + j ≡ x + suc j = omega arith in
    stamped_turns L (x + 1) n (drop 512 b) j p (omega arith) (omega arith) ∙ ap (cycle L) e

pub stamped_no : (L : Label) (x n : ℕ) (b : List ℕ) (j : ℕ) → 1 ≤ L.count → j < n → x + j < 2147483648 * L.count →
    is_header (get_or (stamped L x n b) j []) ≡ false
stamped_no L x zero b j p h l = refl
stamped_no L x (suc n) b zero p h l = stamp_no (cycle L x) (part 4 508 b) (cycle_low L x p (omega arith))
stamped_no L x (suc n) b (suc j) p h l = stamped_no L (x + 1) n (drop 512 b) j p (omega arith) (omega arith)

-- each sector has 512 bytes
pub stamped_whole : (L : Label) (x n : ℕ) (b : List ℕ) (j : ℕ) → length b ≡ 512 * n → j < n → length (get_or (stamped L x n b) j []) ≡ 512
stamped_whole L x zero b j e h = let z : ⊥ = omega arith in elim z [ ]
stamped_whole L x (suc n) b zero e h =
    omega (arith, length-append (be32_bytes (cycle L x)) (part 4 508 b), length-take 508 (drop 4 b), length-drop 4 b)
stamped_whole L x (suc n) b (suc j) e h = stamped_whole L (x + 1) n (drop 512 b) j (omega (arith, length-drop 512 b)) (omega arith)
