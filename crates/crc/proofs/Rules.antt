-- A rule of a table, proved at all of its entries by one test that antt computes, one entry after the other.
-- Assumes nothing.
use Rattle.std.proofs.Common.{◌≡◌, ℕ, zero, suc, ◌+◌, ◌<◌, Bool, true, false, T, eqb, eqb→eq, List, [], ◌∷◌, length, get_or, sym, ◌∙◌, subst, le_of_suc-le-suc, not-suc-le-zero, add-zero, add-suc, suc-add, zero-add}

abbrev pub both : Bool → Bool → Bool
both true b = b
both false b = false

both_left : (a b : Bool) → T (both a b) → T a
both_left true b t = tt
both_left false b t = t

both_right : (a b : Bool) → T (both a b) → T b
both_right true b t = t
both_right false b t = absurd t

-- the test f passes at each entry of the list and its place, counted from i
abbrev pub every : {A : Type 0} → (ℕ → A → Bool) → ℕ → List A → Bool
every f i [] = true
every f i (x ∷ xs) = both (f i x) (every f (suc i) xs)

from : {A : Type 0} (f : ℕ → A → Bool) (xs : List A) (d : A) (i : ℕ) → T (every f i xs) → (k : ℕ) → k < length xs → T (f (i + k) (get_or xs k d))
from f [] d i t k h = absurd (not-suc-le-zero h)
from f (x ∷ xs) d i t zero h = subst (λ (m : ℕ). T (f m x)) (sym (add-zero i)) (both_left (f i x) (every f (suc i) xs) t)
from f (x ∷ xs) d i t (suc k) h =
    subst (λ (m : ℕ). T (f m (get_or xs k d))) (suc-add i k ∙ sym (add-suc i k))
    (from f xs d (suc i) (both_right (f i x) (every f (suc i) xs) t) k (le_of_suc-le-suc h))

at : {A : Type 0} (f : ℕ → A → Bool) (xs : List A) (d : A) → T (every f 0 xs) → (k : ℕ) → k < length xs → T (f k (get_or xs k d))
at f xs d t k h = subst (λ (m : ℕ). T (f m (get_or xs k d))) (zero-add k) (from f xs d 0 t k h)

-- a row has n entries, and each passes
abbrev pub full : ℕ → (ℕ → ℕ → Bool) → List ℕ → Bool
full n f row = both (eqb (length row) n) (every f 0 row)

-- the test f passes at entry k of row j, if each row is full
pub at_row : (n : ℕ) (f : ℕ → ℕ → ℕ → Bool) (rows : List (List ℕ)) → T (every (λ j row. full n (f j) row) 0 rows) → (j k : ℕ) → j < length rows → k < n →
    T (f j k (get_or (get_or rows j []) k 0))
at_row n f rows t j k h l =
    let row = get_or rows j [] in
    let u : T (full n (f j) row) = at (λ i r. full n (f i) r) rows [] t j h in
    let e : length row ≡ n = eqb→eq (length row) n (both_left (eqb (length row) n) (every (f j) 0 row) u) in
    at (f j) row 0 (both_right (eqb (length row) n) (every (f j) 0 row) u) k (subst (λ m. k < m) (sym e) l)
