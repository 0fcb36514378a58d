-- Items of the same regions at other places. Assumes nothing.
use Rattle.std.proofs.Common.{◌≡◌, ℕ, zero, suc, ◌-◌, List, [], ◌∷◌, ◌++◌, map, Ok, sym, refl, ap, ◌∙◌, arith}
use Rattle.codec.specs.Fields.{le16}
use Rattle.item.specs.Meaning.{Meaning, malformed, patch, cancel, opens, closes, Bank}
use Rattle.model.specs.Items.{Region, Item, items_after, replay_order, verdict, meant}
use Rattle.model.specs.Reading.{Transaction}
use Rattle.model.specs.Laws.{located, meanings}
use Rattle.model.proofs.Checked.{plain_verdict, order_same, meant_all, same_bytes, first_again}
use Rattle.model.proofs.Checked as checked
use Rattle.layout.specs.Read.{asked, asked_by, items}

-- the items of regions are those of the same regions elsewhere, but for their places
pub items_on : (P Q : List Region) (skip : ℕ) (is : List Item) → map (λ x. x.bytes) P ≡ map (λ x. x.bytes) Q → items_after skip P ≡ Ok is → checked.Alike skip Q is
items_on [] [] skip is q e = (is, e, refl)
items_on [] (B ∷ Q) skip is q e = let z : ◌≡◌ {A = ℕ} 0 1 = cc in let y : ⊥ = omega arith in elim y [ ]
items_on (A ∷ P) [] skip is q e = let z : ◌≡◌ {A = ℕ} 0 1 = cc in let y : ⊥ = omega arith in elim y [ ]
items_on (A ∷ P) (B ∷ Q) (suc k) is q e =
    let t : map (λ (x : Region). x.bytes) P ≡ map (λ (x : Region). x.bytes) Q = cc in
    items_on P Q k is t e
items_on (A ∷ P) (B ∷ Q) zero is q e =
    let h : A.bytes ≡ B.bytes = cc in
    let t : map (λ (x : Region). x.bytes) P ≡ map (λ (x : Region). x.bytes) Q = cc in
    first_again B.bytes A B h refl P Q (map (λ (x : Region). x.bytes) Q) t refl is (λ is' w. items_on P Q (le16 A.bytes 2 - 1) is' t w) e

-- what a transaction's regions ask is what its items were found to mean
abbrev pub Told : Bank → Transaction → Type 0
Told bank x = items bank x.regions ≡ asked x.items

pub told : (bank : Bank) (rs : List Region) (is : List Item) → items_after 0 rs ≡ Ok is →
    Told bank (record { regions = map (λ x. x.bytes) rs; items = meanings bank (replay_order bank is) })
told bank rs is e =
    let bs : List (List ℕ) = map (λ (x : Region). x.bytes) rs in
    let k = items_on rs (located 0 0 bs) 0 is (sym (same_bytes 0 0 0 0 bs).1) e in
    let js : List Item = k.0 in
    let v : map (verdict bank) (replay_order bank is) ≡ map (verdict bank) (replay_order bank js) = order_same bank is js (plain_verdict bank is js k.2) in
    ap (asked_by bank) k.1
    ∙ ap asked (meant_all bank (replay_order bank js) ∙ ap (map meant) (sym v) ∙ sym (meant_all bank (replay_order bank is)))

-- what meanings ask, in two goes
pub asked_joins : (l m : List Meaning) → asked (l ++ m) ≡ asked l ++ asked m
asked_joins [] m = refl
asked_joins (malformed ∷ l) m = asked_joins l m
asked_joins (patch k c ∷ l) m = ap (λ x. asked (patch k c ∷ []) ++ x) (asked_joins l m)
asked_joins (cancel k ∷ l) m = ap (λ x. asked (cancel k ∷ []) ++ x) (asked_joins l m)
asked_joins (opens i ∷ l) m = ap (λ x. asked (opens i ∷ []) ++ x) (asked_joins l m)
asked_joins (closes i ∷ l) m = ap (λ x. asked (closes i ∷ []) ++ x) (asked_joins l m)
