-- One more byte of those that are filled up. Assumes nothing.
use Rattle.std.proofs.Common.{◌≡◌, ℕ, ◌+◌, ◌<◌, List, length, slice_index, slice_set, get_or-set_other, get_or-set_same, ◌∙◌, subst, ⊎_elim, arith}
use Rattle.std.proofs.lemmas.Bool.{cases_lt}

pub one_more : (w b : List ℕ) (k v : ℕ) → k < length w → v ≡ slice_index b k → ((j : ℕ) → j < k → slice_index w j ≡ slice_index b j) →
    (j : ℕ) → j < k + 1 → slice_index (slice_set w k v) j ≡ slice_index b j
one_more w b k v l e h j t = ⊎_elim (λ s. get_or-set_other w k j v 0 (omega arith) ∙ h j s) (λ s. let q : k ≡ j = omega arith in subst (λ i. slice_index (slice_set w k v) i ≡ slice_index b i) q (get_or-set_same w k v 0 l ∙ e)) (cases_lt j k)
