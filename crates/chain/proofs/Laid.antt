-- Sectors laid one after the other at the front of a buffer. Assumes nothing.
use Rattle.std.proofs.Common.{◌≡◌, ℕ, ◌+◌, ◌-◌, ◌*◌, List, ◌++◌, length, drop, Ok, sym, ap, ◌∙◌, append_assoc, arith}
use Rattle.std.proofs.lemmas.List.{length-append, drop-drop, take_at, drop_at}
use Rattle.codec.specs.Fields.{joined}
use Rattle.device.specs.State.{DevState}
use Rattle.device.specs.Steps.{read}
use Rattle.label.specs.declared.label.Label.{Label}
use Rattle.label.specs.Position.{volume_sector}
use Rattle.volume_log.proofs.Rows.{read_holds}
use Rattle.chain.specs.Rows.{row, over}
use Rattle.chain.proofs.Positions.{joined_more}
use borrow.Rule.Slice.PartMut.{put_mid}

-- a sector put behind k of them
pub lay_more : (front s b : List ℕ) (k : ℕ) → length front ≡ 512 * k → put_mid (512 * k) (512 * (k + 1) - 512 * k) (over k front b) s ≡ over (k + 1) (front ++ s) b
lay_more front s b k n =
    let rest = drop (512 * k) b in
    let one : 512 * (k + 1) - 512 * k ≡ 512 = omega arith in
    let next : 512 * k + 512 ≡ 512 * (k + 1) = omega arith in
    ap (λ y. y ++ (s ++ drop (512 * (k + 1) - 512 * k) (drop (512 * k) (front ++ rest)))) (take_at front rest (512 * k) n)
    ∙ ap (λ y. front ++ (s ++ drop (512 * (k + 1) - 512 * k) y)) (drop_at front rest (512 * k) n)
    ∙ ap (λ (i : ℕ). front ++ (s ++ drop i rest)) one
    ∙ ap (λ y. front ++ (s ++ y)) (drop-drop 512 (512 * k) b ∙ ap (λ (i : ℕ). drop i b) next)
    ∙ sym (append_assoc front s (drop (512 * (k + 1)) b))

-- position x + k was read, and its sector put behind those before it
pub row_more : (d : DevState) (L : Label) (x k : ℕ) (s b now : List ℕ) → read d (volume_sector L (x + k)) ≡ Ok s → length s ≡ 512 → length (joined (row d L x k)) ≡ 512 * k → now ≡ over k (joined (row d L x k)) b
    → (put_mid (512 * k) (512 * (k + 1) - 512 * k) now s ≡ over (k + 1) (joined (row d L x (k + 1))) b) × (length (joined (row d L x (k + 1))) ≡ 512 * (k + 1))
row_more d L x k s b now e m n i =
    let q : joined (row d L x k) ++ s ≡ joined (row d L x (k + 1)) = ap (λ y. joined (row d L x k) ++ y) (read_holds d (volume_sector L (x + k)) s e) ∙ sym (joined_more d L x k) in
    let l : length (joined (row d L x (k + 1))) ≡ 512 * (k + 1) = ap length (sym q) ∙ length-append (joined (row d L x k)) s ∙ (let o : length (joined (row d L x k)) + length s ≡ 512 * (k + 1) = omega arith in o) in
    (ap (λ y. put_mid (512 * k) (512 * (k + 1) - 512 * k) y s) i ∙ lay_more (joined (row d L x k)) s b k n ∙ ap (λ y. over (k + 1) y b) q, l)
