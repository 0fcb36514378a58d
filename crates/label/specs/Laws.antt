-- What is written of a label and of a position is read back. Assumes nothing.
use Rattle.std.specs.Prelude.{◌≡◌, ℕ, ◌^◌, ◌<◌, ◌≤◌, length, Some}
use Rattle.label.specs.Position.{position, split_of}
use Rattle.label.specs.Label.{label_of, label_bytes}
use Rattle.label.specs.declared.label.Label.{Label}

-- a pair is joined and split again, and a position split and joined again
pub record PositionsBack : Type 0 where
  pub split_joined : (L : Label) (c i : ℕ) → c < 2 ^ 32 → i < L.count → split_of L (position L c i) ≡ Some (c, i)
  pub joined_split : (L : Label) (x c i : ℕ) → split_of L x ≡ Some (c, i) → 1 ≤ L.count → (position L c i ≡ x) × (i < L.count)

-- the numbers of a label have 32 bits, its uuid 16 bytes
pub record LabelFits (L : Label) : Type 0 where
  pub start : L.start < 2 ^ 32
  pub count : L.count < 2 ^ 32
  pub window : L.window < 2 ^ 32
  pub most : L.most < 2 ^ 32
  pub uuid : length L.uuid ≡ 16

-- a label that is written is read back
abbrev pub LabelBack : Type 0
LabelBack = (L : Label) → LabelFits L → label_of (label_bytes L) ≡ L

-- both of these
pub record LabelLaws : Type 0 where
  pub positions : PositionsBack
  pub label : LabelBack
