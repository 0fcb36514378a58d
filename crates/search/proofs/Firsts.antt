-- A place in words is the first place, and is found by each key that is the same. Assumes nothing.
use Rattle.std.proofs.Common.{◌≡◌, ℕ, zero, suc, Bool, true, List, [], ◌∷◌, Some, None, Option, sym, refl, ap, ◌∙◌, zero-le, arith}
use Rattle.std.proofs.lemmas.Bool.{false_from_ne_true}
use Rattle.std.specs.Cmp.{both_ways}
use Rattle.search.specs.Places.{further, place_of, First}

module _ {A : Type 0} (p : A → Bool) where
  fails : (x : A) (xs : List A) → (p x ≡ true → ⊥) → place_of p (x ∷ xs) ≡ further (place_of p xs)
  fails x xs f = let e = false_from_ne_true (p x) f in rw e

  pub first_is : (xs : List A) (r : Option ℕ) → First p xs r → r ≡ place_of p xs
  first_is [] None h = refl
  first_is [] (Some i) h = absurd (omega (arith, h.0))
  first_is (x ∷ xs) None h =
      sym (fails x xs (h 0 x zero-le (omega arith)) ∙ ap further (sym (first_is xs None (λ k d l m. h (suc k) d zero-le (omega arith)))))
  first_is (x ∷ xs) (Some zero) h = let e = h.1 x in rw e
  first_is (x ∷ xs) (Some (suc i)) h =
      sym (fails x xs (h.2 0 x zero-le (omega arith)) ∙ ap further (sym (first_is xs (Some i) (omega (arith, h.0), h.1, λ k d l m. h.2 (suc k) d zero-le (omega arith)))))

-- tests that agree find one place
place_same : {A : Type 0} (p q : A → Bool) → ((x : A) → p x ≡ q x) → (xs : List A) → place_of p xs ≡ place_of q xs
place_same p q h [] = refl
place_same p q h (x ∷ xs) = rw (h x, place_same p q h xs)

-- and so do keys that are the same, where sameness is symmetric and transitive
pub first_alike : {E K : Type 0} (same : K → K → Bool) (by : E → K) →
    ((x y : K) → same x y ≡ true → same y x ≡ true) → ((x y z : K) → same x y ≡ true → same y z ≡ true → same x z ≡ true) →
    (xs : List E) (k l : K) → same k l ≡ true → (r : Option ℕ) → First (λ e. same (by e) k) xs r → r ≡ place_of (λ e. same (by e) l) xs
first_alike same by symmetric transitive xs k l t r h =
    first_is (λ e. same (by e) k) xs r h
    ∙ place_same (λ e. same (by e) k) (λ e. same (by e) l)
    (λ e. both_ways (same (by e) k) (same (by e) l) (λ s. transitive (by e) k l s t) (λ s. transitive (by e) l k s (symmetric k l t))) xs
