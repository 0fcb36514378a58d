-- Which sectors of its range a patch covers. Assumes nothing.
use Rattle.std.proofs.Common.{◌≡◌, ℕ, zero, suc, ◌+◌, ◌-◌, ◌*◌, ◌/◌, ◌%◌, ◌<◌, ◌≤◌, true, false, not, List, [], ◌∷◌, length, get_or, drop, Some, None, Option, sym, refl, ap, ◌∙◌, inl, inr, arith}
use Rattle.std.proofs.lemmas.List.{get_or-take, get_or-drop, length-take, drop_all}
use Rattle.std.proofs.lemmas.Bool.{cases_Bool}
use Rattle.codec.specs.Fields.{joined}
use Rattle.keys.specs.declared.patch.PatchKey.{PatchKey}
use Rattle.item.specs.Buffer.{map_bit, map_bits, none_set, buffer_length, chunks, cover, buffer_meaning}
use Rattle.item.specs.Covers.{cover_of, gives_any, covers_sector}
use Rattle.item.specs.Whole.{Patched, length_patch}
use Rattle.buffer.specs.Walk.{cursor}
use Rattle.buffer.proofs.Chunks.{chunk_set, chunk_clear}

gives_some : (os : List (Option ℕ)) (o v : ℕ) → get_or os o None ≡ Some v → gives_any os ≡ true
gives_some [] o v e = cc
gives_some (Some w ∷ os) o v e = refl
gives_some (None ∷ os) zero v e = cc
gives_some (None ∷ os) (suc o) v e = gives_some os o v e

gives_none : (os : List (Option ℕ)) → ((o : ℕ) → o < length os → get_or os o None ≡ None) → gives_any os ≡ false
gives_none [] z = refl
gives_none (None ∷ os) z = gives_none os (λ o l. z (suc o) (omega arith))
gives_none (Some w ∷ os) z = grind (arith, z 0)

-- a sector's part of a cover
sector_at : (c : List (Option ℕ)) (j o : ℕ) → o < 512 → get_or (cover_of c j) o None ≡ get_or c (512 * j + o) None
sector_at c j o l = get_or-take 512 (drop (512 * j) c) o None l ∙ get_or-drop (512 * j) c o None

-- chunk i of it
pub sector_chunk : (c : List (Option ℕ)) (k i o : ℕ) → i < 4 → o < 128 → get_or (cover_of c k) (128 * i + o) None ≡ get_or c (128 * (4 * k + i) + o) None
sector_chunk c k i o l h = grind (arith, sector_at c k (128 * i + o))

none_means : (h : List ℕ) (b m : ℕ) → none_set (map_bits h b m) ≡ true → (k : ℕ) → b ≤ k → k < b + m → map_bit h k ≡ false
none_means h b zero e k x y = absurd (omega arith)
none_means h b (suc m) e k x y = grind (arith, none_means h (b + 1) m)

some_means : (h : List ℕ) (b m : ℕ) → none_set (map_bits h b m) ≡ false → (k : ℕ) × (b ≤ k) × (k < b + m) × (map_bit h k ≡ true)
some_means h b zero e = cc
some_means h b (suc m) e = grind (arith, some_means h (b + 1) m)

module _ (rs : List (List ℕ)) (key : PatchKey) (w : Patched rs key) (j : ℕ) where
  abbrev whole : List (Option ℕ)
  whole = cover (chunks (get_or rs 0 [])) (joined (drop 1 rs))

  chunk_count : 4 * buffer_length (get_or rs 0 []) ≡ 4 * key.length
  chunk_count = ap (λ (x : PatchKey). 4 * x.length) w.key

  sector_any : j < key.length → gives_any (cover_of whole j) ≡ not (none_set (map_bits (get_or rs 0 []) (4 * j) 4))
  sector_any l =
      let h = get_or rs 0 [] in
      let n = 4 * buffer_length h in
      let cc' = chunk_count in
      elim (cases_Bool (none_set (map_bits h (4 * j) 4))) [
        | inl e ↦ (let z : gives_any (cover_of whole j) ≡ false = gives_none (cover_of whole j) (λ o p.
            let q = length-take 512 (drop (512 * j) whole) in
            let s : o < 512 = omega arith in
            let c = 4 * j + o / 128 in
            let x : 512 * j + o ≡ 128 * c + o % 128 = omega arith in
            sector_at whole j o s ∙ ap (λ (y : ℕ). get_or whole y None) x ∙ chunk_clear h n (drop 1 rs) w.fitting c (omega arith) (none_means h (4 * j) 4 e c (omega arith) (omega arith)) (o % 128) (omega arith)) in
            rw e z)
        | inr e ↦ (let u = some_means h (4 * j) 4 e in
            let c = u.0 in
            let o = 128 * (c - 4 * j) in
            let p : 512 * j + o ≡ 128 * c + 0 = omega arith in
            let z : gives_any (cover_of whole j) ≡ true = gives_some (cover_of whole j) o (get_or (get_or (drop 1 rs) (cursor h c).region []) ((cursor h c).byte + 0) 0)
            (sector_at whole j o (omega arith) ∙ ap (λ (y : ℕ). get_or whole y None) p ∙ chunk_set h n (drop 1 rs) w.fitting c (omega arith) u.3 0 (omega arith)) in
            rw e z)
      ]

  pub covered_in : j < key.length → not (none_set (map_bits (get_or rs 0 []) (4 * j) 4)) ≡ covers_sector (buffer_meaning rs) j
  covered_in l = rw w.meaning (sym (sector_any l))

  -- past the range nothing is given
  pub past : key.length ≤ j → cover_of whole j ≡ []
  past l = grind (arith, drop_all (512 * j) whole, length_patch rs key w)

  pub covered_past : key.length ≤ j → false ≡ covers_sector (buffer_meaning rs) j
  covered_past l = rw (w.meaning, past l)
