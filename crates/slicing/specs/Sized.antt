-- A slice is a device: the limits of a device hold of each slice of it, and what lies outside stays. Assumes nothing.
use Rattle.std.specs.Prelude.{◌≡◌, ℕ, ◌^◌, ◌≤◌, length}
use Rattle.std.proofs.Common.{◌∙◌, arith, length-take, length-drop}
use Rattle.device.specs.State.{DevState}
use Rattle.slicing.specs.Slices.{slice_state, Outside}

pub slice_sized : (s : DevState) (a n : ℕ) → length s.contents ≡ s.size → length (slice_state s a n).contents ≡ (slice_state s a n).size
slice_sized s a n h = simp (length-take, length-drop) (omega arith)

pub slice_small : (s : DevState) (a n : ℕ) → s.size ≤ 2 ^ 30 → (slice_state s a n).size ≤ 2 ^ 30
slice_small s a n h = omega arith

pub outside_joins : (a n a' n' : ℕ) (x y z : DevState) → a ≡ a' → n ≡ n' → Outside a n x y → Outside a' n' y z → Outside a n x z
outside_joins a n a' n' x y z p q h k =
    let l : Outside a n y z = rw (p, q) k in
    (h.0 ∙ l.0, h.1 ∙ l.1, h.2 ∙ l.2)
