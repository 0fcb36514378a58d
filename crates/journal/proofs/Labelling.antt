-- The first action of label. Assumes nothing.
use Rattle.std.proofs.Common.{◌≡◌, ℕ, List, [], ◌∷◌, ◌++◌, Ok, sym, ap, ◌∙◌}
use Rattle.device.specs.State.{DevState}
use Rattle.device.specs.Steps.{Answer, write_answer, write_step}
use Rattle.device.specs.Actions.{Ran, force, run, then, zero_writes}
use Rattle.label.specs.declared.label.Label.{Label}
use Rattle.label.specs.Label.{label_bytes}
use Rattle.model.specs.Calls.{first_writes, label_actions}

-- once the label's sector is written, the rest is run
pub begun : (L : Label) (b : List ℕ) (d e : DevState) (r : Answer) → b ≡ label_bytes L → r ≡ write_answer d 0 → e ≡ write_step d 0 b → r ≡ Ok tt →
    run (label_actions L) d ≡ run (zero_writes L.start L.count ++ (first_writes L ++ (force ∷ []))) e
begun L b d e r eb ea ee ok =
    let rest = zero_writes L.start L.count ++ (first_writes L ++ (force ∷ [])) in
    let s : write_step d 0 (label_bytes L) ≡ e = ap (write_step d 0) (sym eb) ∙ sym ee in
    ap (λ x. then (write_answer d 0) x (run rest x)) s ∙ ap (λ q. then q e (run rest e)) (sym ea ∙ ok)

-- the log is made of zeros, by the start and the count of its geometry
pub zeroed : (L : Label) (i n : ℕ) (s : DevState) (x : Ran) → i ≡ L.start → n ≡ L.count → run (zero_writes i n) s ≡ x → run (zero_writes L.start L.count) s ≡ x
zeroed L i n s x a b e = ap (λ k. run (zero_writes k L.count) s) (sym a) ∙ ap (λ k. run (zero_writes i k) s) (sym b) ∙ e
