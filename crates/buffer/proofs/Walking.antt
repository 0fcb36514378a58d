-- A walk over a map as a fold over the numbers of its bits. Assumes nothing.
use Rattle.std.proofs.Common.{◌≡◌, ℕ, suc, ◌+◌, ◌-◌, ◌*◌, ◌^◌, ◌<◌, ◌≤◌, List, [], ◌∷◌, ◌++◌, length, get_or, refl, sym, ap, ◌∙◌, arith}
use Rattle.std.proofs.iter.Yields.{nat_range_steps, Range-gives}
use Rattle.std.proofs.lemmas.Fn.{chained_keeps, fold_over}
use Rattle.std.proofs.lemmas.List.{length_push, get_or_push, get_or_append_left}
use Rattle.std.proofs.lemmas.List.FromFn.{length-range_with_len, get_or-range_with_len}
use Rattle.std.specs.List.{range_with_len}
use Rattle.std.specs.Fn.{Called, Takes}
use Rattle.std.specs.Iterator.{Yields, CallableAtEachTurn, FoldTurn, FoldsItems}
use Rattle.std.specs.declared.ops.Range.{Range}
use denote.Param.Members.{Mut}
use Rattle.item.specs.Buffer.{map_bit}
use Rattle.buffer.specs.Walk.{moved, cursor}
use Rattle.buffer.specs.declared.cursor.Cursor.{Cursor}
use Rattle.buffer.proofs.Lays.{moved_small}

-- a range that gave some numbers stands that much further
further : (xs : List ℕ) (s t : Range ℕ) → Yields nat_range_steps s xs t → (t.end ≡ s.end) × (t.start ≡ s.start + length xs)
further [] s t y = grind (arith, y)
further (x ∷ xs) s t y = grind (arith, y, further xs y.0 t y.2)

module _ {F : Type 0} (g : Mut F (Cursor × (ℕ × Unit {0})) Cursor) (h : List ℕ) (f : F) (steps_on : (at : Cursor) (k : ℕ) (r : Cursor) (e : F) → Called g f (at, (k, tt)) r e → (r ≡ moved (map_bit h k) at) × (e ≡ f)) where
  -- after some turns no number is large
  abbrev Small : List ℕ → F × Cursor → Type 0
  Small xs q = (q.0 ≡ f) × (q.1.region ≤ length xs) × (q.1.byte ≤ 128 * length xs)

  small_on : (xs : List ℕ) (q : F × Cursor) (x : ℕ) (v : F × Cursor) → Small xs q → FoldTurn g q x v → Small (xs ++ (x ∷ [])) v
  small_on xs q x v z call =
      let s = steps_on q.1 x v.1 v.0 (rw z.0 at call) in
      let m = moved_small (map_bit h x) q.1 in
      let l = length_push xs x in
      grind (arith, s, m, z)

  pub walk_callable : (c : Cursor) (b : ℕ) (s : Range ℕ) → s ≡ record { start = 0; end = b } → b < 2 ^ 20 → (c.region ≡ 0) × (c.byte ≡ 0)
      → ((at : Cursor) (k : ℕ) → at.region < 2 ^ 20 → at.byte < 2 ^ 27 → Takes g f (at, (k, tt))) → CallableAtEachTurn nat_range_steps (FoldTurn g) (λ p x. Takes g p.0 (p.1, (x, tt))) s (f, c)
  walk_callable c b s from few zeros may = record {
    at = λ xs t q x u y runs e.
        let w = further xs s t y in
        let z = chained_keeps (FoldTurn g) Small small_on xs (f, c) q (refl, omega (arith, zeros.0), omega (arith, zeros.1)) runs in
        let i : s.start ≡ 0 = ap (λ (k : Range ℕ). k.start) from in
        let j : s.end ≡ b = ap (λ (k : Range ℕ). k.end) from in
        rw z.0 (may q.1 x (omega (arith, z.1, w.0, w.1, e.1.0)) (omega (arith, z.2, w.0, w.1, e.1.0)));
  }

  -- and the walk goes from bit to bit
  abbrev Walked : List ℕ → Cursor → Type 0
  Walked xs at = ((k : ℕ) → k < length xs → get_or xs k 0 ≡ k) → at ≡ cursor h (length xs)

  walked_on : (xs : List ℕ) (at : Cursor) (k : ℕ) (r : Cursor) (e : F) → Walked xs at → Called g f (at, (k, tt)) r e → Walked (xs ++ (k ∷ [])) r × (e ≡ f)
  walked_on xs at k r e w call =
      let s = steps_on at k r e call in
      let l = length_push xs k in (
        λ counts.
            let here = w (λ j d. sym (get_or_append_left xs (k ∷ []) 0 j d) ∙ counts j (omega arith)) in
            let n : k ≡ length xs = sym (get_or_push xs k 0 (length xs) refl) ∙ counts (length xs) (omega arith) in
            let o : length (xs ++ (k ∷ [])) ≡ suc (length xs) = omega arith in
            cc,
        s.1,
      )

  pub walk_gives : (c : Cursor) (b : ℕ) (s : Range ℕ) (r : Cursor) → s ≡ record { start = 0; end = b } → (c.region ≡ 0) × (c.byte ≡ 0) → FoldsItems nat_range_steps g s f c r → r ≡ cursor h b
  walk_gives c b s r from zeros runs =
      let begin : c ≡ cursor h 0 = grind (arith, zeros) in
      let all = range_with_len s.start (s.end - s.start) in
      let i : s.start ≡ 0 = ap (λ (k : Range ℕ). k.start) from in
      let j : s.end ≡ b = ap (λ (k : Range ℕ). k.end) from in
      let l = length-range_with_len s.start (s.end - s.start) in
      let n : length all ≡ b = omega arith in
      fold_over nat_range_steps (λ x. x) g Walked f walked_on s all c r (Range-gives s) (λ _. begin) runs
      (λ k d. omega (arith, get_or-range_with_len s.start (s.end - s.start) k 0))
      ∙ ap (cursor h) n
