-- The head, looked for position by position. Assumes nothing.
use Rattle.std.proofs.Common.{◌≡◌, ℕ, zero, suc, ◌+◌, ◌-◌, ◌<◌, ◌≤◌, true, false, cond, List, sym, ap, ◌∙◌, arith}
use Rattle.std.proofs.lemmas.Bool.{cond_both}
use Rattle.label.specs.declared.label.Label.{Label}
use Rattle.model.specs.View.{held, first_free, head}

free_step : (L : Label) (log : List (List ℕ)) (n x : ℕ) → x < n → first_free L log x (n - x) ≡ cond (held L log x) (first_free L log (x + 1) (n - (x + 1))) x
free_step L log n x l = let e : n - x ≡ suc (n - (x + 1)) = omega arith in ap (first_free L log x) e

pub free_goes : (L : Label) (log : List (List ℕ)) (n x : ℕ) → x < n → held L log x ≡ true → first_free L log (x + 1) (n - (x + 1)) ≡ first_free L log x (n - x)
free_goes L log n x l h = sym (free_step L log n x l ∙ ap (λ t. cond t (first_free L log (x + 1) (n - (x + 1))) x) h)

pub free_here : (L : Label) (log : List (List ℕ)) (n x : ℕ) → x < n → held L log x ≡ false → first_free L log x (n - x) ≡ x
free_here L log n x l h = free_step L log n x l ∙ ap (λ t. cond t (first_free L log (x + 1) (n - (x + 1))) x) h

free_le : (L : Label) (log : List (List ℕ)) (x n : ℕ) → first_free L log x n ≤ x + n
free_le L log x zero = omega arith
free_le L log x (suc n) = cond_both (held L log x) (first_free L log (x + 1) n) x (λ y. y ≤ x + suc n) (λ _. omega (arith, free_le L log (x + 1) n)) (λ _. omega arith)

free_ge : (L : Label) (log : List (List ℕ)) (x n : ℕ) → x ≤ first_free L log x n
free_ge L log x zero = omega arith
free_ge L log x (suc n) = cond_both (held L log x) (first_free L log (x + 1) n) x (λ y. x ≤ y) (λ _. omega (arith, free_ge L log (x + 1) n)) (λ _. omega arith)

-- the head lies in the window, or behind it
pub head_le : (L : Label) (log : List (List ℕ)) (m : ℕ) → L.window ≤ m + 1 → head L log m ≤ m + 1
head_le L log m h = omega (arith, free_le L log (m + 1 - L.window) L.window)

pub head_ge : (L : Label) (log : List (List ℕ)) (m : ℕ) → m + 1 ≤ head L log m + L.window
head_ge L log m = omega (arith, free_ge L log (m + 1 - L.window) L.window)
