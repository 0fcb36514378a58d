-- What is written of a label and of a position is read back. Assumes nothing.
use Rattle.std.proofs.Common.{◌≡◌, ℕ, ◌+◌, ◌*◌, ◌/◌, ◌%◌, ◌^◌, ◌<◌, ◌≤◌, Bool, true, false, cond, ltb, List, [], ◌++◌, Some, None, Option, sym, ap, ◌∙◌, subst, mod-lt, div-add-mod', arith}
use lib.Arith.{digits_div, digits_mod}
use Rattle.std.proofs.lemmas.List.{take_at}
use Rattle.std.proofs.lemmas.Bool.{lt-ltb}
use Rattle.codec.specs.Fields.{be32, be32_bytes, part, zeros}
use Rattle.codec.proofs.Numbers.{be_within}
use Rattle.label.specs.Position.{position, split_of}
use Rattle.label.specs.Label.{label_bytes}
use Rattle.label.specs.Laws.{LabelBack, LabelLaws}
use Rattle.label.specs.declared.label.Label.{Label}

-- Positions.

split_joined : (L : Label) (c i : ℕ) → c < 2 ^ 32 → i < L.count → split_of L (position L c i) ≡ Some (c, i)
split_joined L c i small low =
    let d : (c * L.count + i) / L.count ≡ c = digits_div c low in
    let m : (c * L.count + i) % L.count ≡ i = digits_mod c low in
    let G : ℕ → ℕ → Option (ℕ × ℕ) = λ q r. cond (ltb q (2 ^ 32)) (Some (q, r)) None in
    ap (λ q. G q ((c * L.count + i) % L.count)) d ∙ ap (λ r. G c r) m ∙ ap (λ t. let o : Option (ℕ × ℕ) = cond t (Some (c, i)) None in o) (lt-ltb c (2 ^ 32) small)

joined_split : (L : Label) (x c i : ℕ) → split_of L x ≡ Some (c, i) → 1 ≤ L.count → (position L c i ≡ x) × (i < L.count)
joined_split L x c i e some = go (ltb (x / L.count) (2 ^ 32)) e
  where
    pair : ℕ → ℕ → ℕ × ℕ
    pair a b = (a, b)

    go : (t : Bool) → cond t (Some (pair (x / L.count) (x % L.count))) None ≡ Some (pair c i) → (c * L.count + i ≡ x) × (i < L.count)
    go true q =
        let p : pair (x / L.count) (x % L.count) ≡ pair c i = cc in
        let a : x / L.count ≡ c = ap (λ (v : ℕ × ℕ). v.0) p in
        let b : x % L.count ≡ i = ap (λ (v : ℕ × ℕ). v.1) p in
        (ap (λ v. v * L.count + i) (sym a) ∙ ap (λ v. x / L.count * L.count + v) (sym b) ∙ div-add-mod' x L.count, subst (λ (v : ℕ). v < L.count) b (mod-lt x some))
    go false q = let z : ◌≡◌ {A = ℕ} 0 1 = cc in let y : ⊥ = omega arith in elim y [ ]

-- The label.

label_back : LabelBack
label_back L f =
    let a : be32 (label_bytes L) 0 ≡ L.start = be_within 4 L.start [] (be32_bytes L.count ++ be32_bytes L.window ++ be32_bytes L.most ++ L.uuid ++ zeros 480) f.start in
    let b : be32 (label_bytes L) 4 ≡ L.count = be_within 4 L.count (be32_bytes L.start) (be32_bytes L.window ++ be32_bytes L.most ++ L.uuid ++ zeros 480) f.count in
    let c : be32 (label_bytes L) 8 ≡ L.window = be_within 4 L.window (be32_bytes L.start ++ be32_bytes L.count) (be32_bytes L.most ++ L.uuid ++ zeros 480) f.window in
    let d : be32 (label_bytes L) 12 ≡ L.most = be_within 4 L.most (be32_bytes L.start ++ be32_bytes L.count ++ be32_bytes L.window) (L.uuid ++ zeros 480) f.most in
    let e : part 16 16 (label_bytes L) ≡ L.uuid = take_at L.uuid (zeros 480) 16 f.uuid in
    let G : ℕ → ℕ → ℕ → ℕ → List ℕ → Label = λ p q r s u. record { start = p; count = q; window = r; most = s; uuid = u } in
    ap (λ p. G p (be32 (label_bytes L) 4) (be32 (label_bytes L) 8) (be32 (label_bytes L) 12) (part 16 16 (label_bytes L))) a
    ∙ ap (λ q. G L.start q (be32 (label_bytes L) 8) (be32 (label_bytes L) 12) (part 16 16 (label_bytes L))) b
    ∙ ap (λ r. G L.start L.count r (be32 (label_bytes L) 12) (part 16 16 (label_bytes L))) c
    ∙ ap (λ s. G L.start L.count L.window s (part 16 16 (label_bytes L))) d
    ∙ ap (λ u. G L.start L.count L.window L.most u) e

pub label_laws : LabelLaws
label_laws = record { positions = record { split_joined = split_joined; joined_split = joined_split }; label = label_back }
