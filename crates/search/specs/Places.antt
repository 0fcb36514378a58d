-- Where an entry is found. Assumes nothing.
use Rattle.std.specs.Prelude.{◌≡◌, ℕ, suc, ◌<◌, Bool, true, cond, List, [], ◌∷◌, length, Some, None, Option, ◌≢◌}
use Rattle.std.specs.List.{AllWithin, HoldsAt}

-- a place in a list, counted from one element before it
abbrev pub further : Option ℕ → Option ℕ
further None = None
further (Some i) = Some (suc i)

-- the first place where a test passes, if any: place_of (nat_eq 7) (5 ∷ 7 ∷ 7 ∷ []) = Some 1
abbrev pub place_of : {A : Type 0} → (A → Bool) → List A → Option ℕ
place_of p [] = None
place_of p (x ∷ xs) = cond (p x) (Some 0) (further (place_of p xs))

-- the same in words: at Some i the test passes at place i and at none before, at None it passes nowhere
abbrev pub First : {A : Type 0} → (A → Bool) → List A → Option ℕ → Type 0
First p xs None = AllWithin (λ x. p x ≢ true) xs 0 (length xs)
First p xs (Some i) = (i < length xs) × HoldsAt (λ x. p x ≡ true) xs i × AllWithin (λ x. p x ≢ true) xs 0 i
