-- Chunk after chunk laid over a sector. Assumes nothing.
use Rattle.std.proofs.Common.{◌≡◌, ℕ, zero, suc, ◌+◌, ◌-◌, ◌*◌, ◌<◌, ◌≤◌, Bool, true, false, cond, ltb, List, [], ◌∷◌, length, get_or, Some, None, Option, sym, refl, ap, ◌∙◌, arith}
use Rattle.std.proofs.lemmas.List.{ext_get_or}
use Rattle.std.proofs.lemmas.Bool.Decides.{nat_tests}
use Rattle.codec.specs.Fields.{joined}
use Rattle.keys.specs.declared.patch.PatchKey.{PatchKey}
use Rattle.item.specs.Buffer.{map_bit, map_bits, regions_fit, cover, buffer_meaning}
use Rattle.item.specs.Covers.{cover_of, give, overlay, laid}
use Rattle.item.specs.Whole.{Patched}
use Rattle.buffer.specs.Walk.{moved, cursor}
use Rattle.buffer.specs.declared.cursor.Cursor.{Cursor}
use Rattle.buffer.proofs.Chunks.{chunk_room, chunk_set, chunk_clear}
use Rattle.buffer.proofs.Covered.{sector_chunk, past}

-- The walk goes by one region or 128 bytes at most.

pub moved_small : (x : Bool) (c : Cursor) → ((moved x c).region ≤ c.region + 1) × ((moved x c).byte ≤ c.byte + 128)
moved_small x c = grind (arith, nat_tests)

cursor_small : (h : List ℕ) (k : ℕ) → ((cursor h k).region ≤ k) × ((cursor h k).byte ≤ 128 * k)
cursor_small h zero = (omega arith, omega arith)
cursor_small h (suc k) =
    let i = cursor_small h k in
    let a = moved_small (map_bit h k) (cursor h k) in
    (omega arith, omega arith)

-- where the walk stands no number is large
pub small_at : (h : List ℕ) (k : ℕ) (at : Cursor) → at ≡ cursor h k → (at.region ≤ k) × (at.byte ≤ 128 * k)
small_at h k at e = rw e (cursor_small h k)

-- a step of the walk in the code
pub stepped : (h : List ℕ) (k k' : ℕ) (at next : Cursor) (x : Bool) → k' ≡ k + 1 → at ≡ cursor h k → x ≡ map_bit h k → next ≡ moved x at → next ≡ cursor h k'
stepped h k k' at next x e a b m =
    let s : suc k ≡ k' = omega arith in
    cc

-- A sector with values laid over it, byte by byte.

length_overlay : (os : List (Option ℕ)) (b : List ℕ) → length (overlay os b) ≡ length b
length_overlay os [] = refl
length_overlay [] (b ∷ bs) = refl
length_overlay (o ∷ os) (b ∷ bs) = ap suc (length_overlay os bs)

overlay_at : (os : List (Option ℕ)) (b : List ℕ) (o : ℕ) → o < length b → get_or (overlay os b) o 0 ≡ give (get_or os o None) (get_or b o 0)
overlay_at os [] o h = absurd (omega arith)
overlay_at [] (b ∷ bs) o h = refl
overlay_at (v ∷ os) (b ∷ bs) zero h = refl
overlay_at (v ∷ os) (b ∷ bs) (suc o) h = overlay_at os bs o (omega arith)

overlay_none : (b : List ℕ) → overlay [] b ≡ b
overlay_none [] = refl
overlay_none (b ∷ bs) = refl

-- ys is xs with the values os laid over its bytes below m
abbrev pub Laid : List (Option ℕ) → List ℕ → List ℕ → ℕ → Type 0
Laid os xs ys m = (j : ℕ) → get_or ys j 0 ≡ cond (ltb j m) (give (get_or os j None) (get_or xs j 0)) (get_or xs j 0)

pub laid_all : (os : List (Option ℕ)) (xs ys : List ℕ) (m : ℕ) → length ys ≡ length xs → length xs ≤ m → Laid os xs ys m → ys ≡ overlay os xs
laid_all os xs ys m l h g = ext_get_or 0 ys (overlay os xs) (l ∙ sym (length_overlay os xs)) (λ j a. let q = g j in let o = overlay_at os xs j (omega arith) in grind (arith, nat_tests))

-- a chunk that is not set
skip_chunk : (os : List (Option ℕ)) (xs ys : List ℕ) (m : ℕ) → Laid os xs ys m → ((j : ℕ) → j < 128 → get_or os (m + j) None ≡ None) → Laid os xs ys (m + 128)
skip_chunk os xs ys m g z j = let q = g j in let n = z (j - m) in let w : m + (j - m) ≡ cond (ltb j m) m j = grind (arith, nat_tests) in grind (arith, nat_tests)

-- a chunk that is set: v j is its byte j
set_chunk : (os : List (Option ℕ)) (xs ys zs : List ℕ) (m : ℕ) (v : ℕ → ℕ) → Laid os xs ys m → ((j : ℕ) → j < 128 → get_or os (m + j) None ≡ Some (v j)) → ((j : ℕ) → j < 128 → get_or zs (m + j) 0 ≡ v j)
    → ((j : ℕ) → j < m → get_or zs j 0 ≡ get_or ys j 0) → ((j : ℕ) → m + 128 ≤ j → get_or zs j 0 ≡ get_or ys j 0) → Laid os xs zs (m + 128)
set_chunk os xs ys zs m v g s inside before behind j =
    let q = g j in
    let n = s (j - m) in
    let i = inside (j - m) in
    let b = before j in
    let e = behind j in
    let w : m + (j - m) ≡ cond (ltb j m) m j = grind (arith, nat_tests) in
    grind (arith, nat_tests)

-- A turn of the loop over the chunks of sector k: chunk i, where the walk stands at `at`.
module _ (h : List ℕ) (n : ℕ) (ds : List (List ℕ)) (fit : regions_fit (map_bits h 0 n) ds ≡ true) (k i : ℕ) (low : i < 4) (in-range : 4 * k + 4 ≤ n) (at : Cursor) (here : at ≡ cursor h (4 * k + i)) where
  abbrev pub sector_cover : List (Option ℕ)
  sector_cover = cover_of (cover (map_bits h 0 n) (joined ds)) k

  -- the region that the walk stands in
  region_is : (d : List ℕ) → d ≡ get_or ds at.region [] → d ≡ get_or ds (cursor h (4 * k + i)).region []
  region_is d e = cc

  pub has_room : (d : List ℕ) → map_bit h (4 * k + i) ≡ true → d ≡ get_or ds at.region [] → at.byte + 128 ≤ length d
  has_room d t e =
      let r = chunk_room h n ds fit (4 * k + i) (omega arith) t in
      rw (e, here) r

  pub turn_set : (xs ys zs d : List ℕ) → map_bit h (4 * k + i) ≡ true → d ≡ get_or ds at.region [] → Laid sector_cover xs ys (128 * i)
      → ((j : ℕ) → j < 128 → get_or zs (128 * i + j) 0 ≡ get_or d (at.byte + j) 0) → ((j : ℕ) → j < 128 * i → get_or zs j 0 ≡ get_or ys j 0) → ((j : ℕ) → 128 * i + 128 ≤ j → get_or zs j 0 ≡ get_or ys j 0)
      → Laid sector_cover xs zs (128 * (i + 1))
  turn_set xs ys zs d t e g inside before behind =
      let q : 128 * i + 128 ≡ 128 * (i + 1) = omega arith in
      let c = cursor h (4 * k + i) in
      let b = get_or ds c.region [] in
      let given : (j : ℕ) → j < 128 → get_or sector_cover (128 * i + j) None ≡ Some (get_or b (c.byte + j) 0) = λ j l.
      sector_chunk (cover (map_bits h 0 n) (joined ds)) k i j low l ∙ chunk_set h n ds fit (4 * k + i) (omega arith) t j l in
      let one : (j : ℕ) → j < 128 → get_or zs (128 * i + j) 0 ≡ get_or b (c.byte + j) 0 = λ j l. (let w = inside j l in cc) in
      rw (← q) (set_chunk sector_cover xs ys zs (128 * i) (λ j. get_or b (c.byte + j) 0) g given one before behind)

  pub turn_clear : (xs ys zs : List ℕ) → map_bit h (4 * k + i) ≡ false → zs ≡ ys → Laid sector_cover xs ys (128 * i) → Laid sector_cover xs zs (128 * (i + 1))
  turn_clear xs ys zs t e g =
      let q : 128 * i + 128 ≡ 128 * (i + 1) = omega arith in
      let given : (j : ℕ) → j < 128 → get_or sector_cover (128 * i + j) None ≡ None = λ j l.
      sector_chunk (cover (map_bits h 0 n) (joined ds)) k i j low l ∙ chunk_clear h n ds fit (4 * k + i) (omega arith) t j l in
      let r = skip_chunk sector_cover xs ys (128 * i) g given in
      rw (← q, e) r

-- past the range nothing is laid
pub laid_past : (rs : List (List ℕ)) (key : PatchKey) (k : ℕ) (xs : List ℕ) → Patched rs key → key.length ≤ k → xs ≡ laid (buffer_meaning rs) k xs
laid_past rs key k xs w l = cc (w.meaning, past rs key w k l, overlay_none xs)
