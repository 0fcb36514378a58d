-- The clearing record, and where label puts it. Assumes nothing.
use Rattle.std.proofs.Common.{◌≡◌, ℕ, ◌+◌, ◌*◌, ◌/◌, ◌%◌, ◌<◌, ◌≤◌, List, [], ◌∷◌, sym, ap, ◌∙◌, arith}
use lib.Arith.{digits_div, digits_mod}
use Rattle.device.specs.Actions.{Action, write, writes}
use Rattle.label.specs.declared.label.Label.{Label}
use Rattle.label.specs.Position.{position, place}
use Rattle.record.specs.Record.{padded, saved_words, stored, header_at, sealed, short_record}
use Rattle.model.specs.Calls.{clearing_op, clearing, first_writes}

-- a pair whose log sector lies in the log is the place of its position
pub placed : (L : Label) (p : ℕ × ℕ) → p.1 < L.count → p ≡ place L (position L p.0 p.1)
placed L p low =
    let a : p.0 ≡ (p.0 * L.count + p.1) / L.count = sym (digits_div p.0 low) in
    let b : p.1 ≡ (p.0 * L.count + p.1) % L.count = sym (digits_mod p.0 low) in
    let f : ℕ → ℕ × ℕ = λ v. (v, p.1) in
    let h : ℕ → ℕ × ℕ = λ v. ((p.0 * L.count + p.1) / L.count, v) in
    ap f a ∙ ap h b

-- a record with one data sector, the op of a clearing record, is the clearing record
pub cleared : (L : Label) (p : ℕ × ℕ) (previous : ℕ) (d : List ℕ) → p.1 < L.count → d ≡ padded clearing_op
    → short_record L p p previous 1 d ≡ clearing L (position L p.0 p.1) previous
cleared L p previous d low e =
    let x = position L p.0 p.1 in
    let S = stored L (x + 1) 1 (padded clearing_op) in
    ap (short_record L p p previous 1) e ∙ ap (λ q. sealed (header_at L q q previous 1 1) (saved_words 1 (padded clearing_op)) S ∷ (S ∷ [])) (placed L p low)

-- the first positions of cycle 1 lie on the first sectors of the log
pub first_in_a_row : (L : Label) → 16 ≤ L.count → first_writes L ≡ writes L.start (clearing L (position L 1 0) 0xFFFFFFFF)
first_in_a_row L h =
    let N = L.count in
    let one : 1 * N + 0 ≡ N = omega arith in
    let two : 1 * N + 1 ≡ N + 1 = omega arith in
    let a : L.start + N % N ≡ L.start = let z : N % N ≡ 0 = ap (λ v. v % N) (sym one) ∙ digits_mod 1 (omega arith) in omega arith in
    let b : L.start + (N + 1) % N ≡ L.start + 1 = ap (λ v. L.start + v) (ap (λ v. v % N) (sym two) ∙ digits_mod 1 (omega arith)) in
    let G : ℕ → ℕ → ℕ → List Action = λ i j x. pair i j (clearing L x 0xFFFFFFFF) in
    ap (λ i. G i (L.start + (N + 1) % N) N) a ∙ ap (λ j. G L.start j N) b ∙ ap (λ x. G L.start (L.start + 1) x) (sym one)
  where
    pair : ℕ → ℕ → List (List ℕ) → List Action
    pair i j [] = []
    pair i j (h ∷ []) = write i h ∷ []
    pair i j (h ∷ (d ∷ ds)) = write i h ∷ (write j d ∷ [])
