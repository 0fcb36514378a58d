-- Bits of a map, its runs, and regions matched to them one after the other. Assumes nothing.
use Rattle.std.proofs.Common.{◌≡◌, ℕ, zero, suc, ◌+◌, ◌-◌, ◌*◌, ◌<◌, ◌≤◌, Bool, true, false, not, ◌&&◌, eqb, List, [], ◌∷◌, map, length, get_or, drop, refl, inl, inr, arith}
use Rattle.std.proofs.lemmas.List.{get_or-map, get_or-drop, drop_all, drop_more}
use Rattle.std.proofs.lemmas.Grind.{common_steps}
use Rattle.std.proofs.lemmas.Bool.{cases_eq}
use Rattle.std.specs.List.{list_any, range_with_len}
use Rattle.codec.specs.Fields.{same}
use Rattle.item.specs.Buffer.{map_bit, map_bits, none_set, runs}
use Rattle.item.specs.Whole.{length_bits}
use Rattle.item.specs.Regions.{region, regions}
use Rattle.item.specs.declared.place.Place.{Place}
use Rattle.buffer.specs.Runs.{FirstSet, RunTo}

-- a run that was begun is there
some_run : (t : ℕ) (bs : List Bool) → same [] (map (λ (x : ℕ). 128 * x) (runs (suc t) bs)) ≡ false
some_run t [] = refl
some_run t (true ∷ bs) = some_run (suc t) bs
some_run t (false ∷ bs) = refl

module _ (h : List ℕ) where
  -- bits from a place on
  drop_bits : (j b m : ℕ) → drop j (map_bits h b (j + m)) ≡ map_bits h (b + j) m
  drop_bits zero b m = grind arith
  drop_bits (suc j) b m = let e : suc j + m ≡ suc (j + m) = omega arith in grind (arith, drop_bits j (b + 1) m)

  pub bits_beyond : (n m : ℕ) → map_bits h n (m - n) ≡ drop n (map_bits h 0 m)
  bits_beyond n m = grind (arith, common_steps, drop_bits n 0 (m - n), length_bits)

  -- no bit of some is set where not any is
  pub none_any : (b m : ℕ) → not (list_any (map_bit h) (range_with_len b m)) ≡ none_set (map_bits h b m)
  none_any b zero = refl
  none_any b (suc m) = grind (arith, none_any (b + 1) m)

  -- bits that are not set are before the runs; bits that are set lengthen the first one
  clear_by : (j b m : ℕ) → ((k : ℕ) → b ≤ k → k < b + j → map_bit h k ≡ false) → runs 0 (map_bits h b (j + m)) ≡ runs 0 (map_bits h (b + j) m)
  clear_by zero b m z = grind arith
  clear_by (suc j) b m z =
      let e : suc j + m ≡ suc (j + m) = omega arith in
      grind (arith, z b, clear_by j (b + 1) m (λ k x y. z k (omega arith) (omega arith)))

  set_by : (j b m t : ℕ) → ((k : ℕ) → b ≤ k → k < b + j → map_bit h k ≡ true) → runs t (map_bits h b (j + m)) ≡ runs (t + j) (map_bits h (b + j) m)
  set_by zero b m t z = grind arith
  set_by (suc j) b m t z =
      let e : suc j + m ≡ suc (j + m) = omega arith in
      grind (arith, z b, set_by j (b + 1) m (suc t) (λ k x y. z k (omega arith) (omega arith)))

  -- a run ends where a bit is not set, or no more bits are
  run_ends : (t e m : ℕ) → (0 < m → map_bit h e ≡ false) → runs (suc t) (map_bits h e m) ≡ suc t ∷ runs 0 (map_bits h e m)
  run_ends t e m z = grind (arith, z)

  -- the runs from the next set bit on
  runs_clear : (n b f : ℕ) → FirstSet h n b f → runs 0 (map_bits h b (n - b)) ≡ runs 0 (map_bits h f (n - f))
  runs_clear n b f first = grind (arith, clear_by (f - b) b (n - f) (λ k p q. first.2 k p (omega (arith, first.0))), first.0, first.1)

  runs_set : (n f e : ℕ) → f < n → map_bit h f ≡ true → RunTo h n f e → runs 0 (map_bits h f (n - f)) ≡ (e - f) ∷ runs 0 (map_bits h e (n - e))
  runs_set n f e l t run =
      let s = set_by (e - f) f (n - e) 0 (λ k p q. run.2 k p (omega (arith, run.0))) in
      let r = run_ends (e - f - 1) e (n - e) (λ p. run.3 (omega arith)) in
      grind (arith, s, r, run.0, run.1)

  -- whether the data regions from number i on fit the runs from bit b on
  abbrev pub left : ℕ → List (List ℕ) → ℕ → ℕ → Bool
  left n ds i b = same (map length (drop i ds)) (map (λ (x : ℕ). 128 * x) (runs 0 (map_bits h b (n - b))))

  module _ (n : ℕ) (ds : List (List ℕ)) (i b f : ℕ) (first : FirstSet h n b f) where
    -- a region, and no run for it
    pub left_none : f ≡ n → i < length ds → left n ds i b ≡ false
    left_none e l = let r = runs_clear n b f first in let z : n - f ≡ 0 = omega arith in let d = drop_more ds i [] l in rw (r, z, d)

    -- a region, and a run
    left_run : (e : ℕ) → f < n → RunTo h n f e → i < length ds → left n ds i b ≡ (eqb (length (get_or ds i [])) (128 * (e - f)) && left n ds (i + 1) e)
    left_run e l run k = let r = runs_clear n b f first in let s = runs_set n f e l (first.3 l) run in let d = drop_more ds i [] k in rw (r, s, d)

    -- no region: there is to be no run
    pub left_end : length ds ≤ i → left n ds i b ≡ eqb f n
    left_end l =
        let r = runs_clear n b f first in
        let d = drop_all i ds l in
        elim (cases_eq f n) [
          | inl q ↦ grind arith
          | inr q ↦ (let m : n - f ≡ suc (n - f - 1) = omega (arith, first.1) in
              let s = some_run 0 (map_bits h (f + 1) (n - f - 1)) in
              grind (arith, first.3, first.1))
        ]

-- how many data regions places have
pub data_length : (b : List ℕ) (ps : List Place) → length (drop 1 (regions b ps)) ≡ length ps - 1
data_length b ps = grind (arith, common_steps)

-- a turn of the loop over the places: t says whether region i is of the size of its run
pub turn : (h : List ℕ) (n : ℕ) (bytes : List ℕ) (ps : List Place) (i b f e : ℕ) (t : Bool) → FirstSet h n b f → f < n → RunTo h n f e → 0 < i → i < length ps
    → t ≡ eqb (length (region bytes (get_or ps i (record { offset = 0; length = 0 })))) (128 * (e - f)) → left h n (drop 1 (regions bytes ps)) (i - 1) b ≡ (t && left h n (drop 1 (regions bytes ps)) i e)
turn h n bytes ps i b f e t first l run z k q =
    let r = left_run h n (drop 1 (regions bytes ps)) (i - 1) b f first e l run (omega (arith, data_length bytes ps)) in
    let j : (i - 1) + 1 ≡ i = omega arith in
    grind (arith, get_or-drop 1 (regions bytes ps) (i - 1) [], get_or-map (region bytes) ps i (record { offset = 0; length = 0 }) [] k)
