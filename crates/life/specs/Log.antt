-- The positions of a log: which are held, the greatest, the head, and the newest record. Assumes nothing.
use Rattle.std.specs.Prelude.{◌≡◌, ℕ, ◌+◌, ◌*◌, ◌<◌, ◌≤◌, Bool, true, ◌⊎◌}
use Rattle.life.specs.Disk.{Sector}

-- a log on a device: the device's size in sectors; N log sectors that are used in turn, and the sector of each position; W, the window of sectors in
-- flight, and R, the most bytes of data of a record; how a log sector is read: the position that it holds, the length of the record whose header it is
-- (0 where it is none), the tail that the header tells, and whether it is a sound header for a position
pub record Ring : Type 0 where
  pub sectors : ℕ
  pub N : ℕ
  pub W : ℕ
  pub R : ℕ
  pub slot : ℕ → ℕ
  pub pos : ℕ → Sector → ℕ
  pub len : Sector → ℕ
  pub tail : Sector → ℕ
  pub sound : ℕ → Sector → Bool
  -- a turn on stands the same sector, and within a turn each position has its own
  pub period : (x : ℕ) → slot (x + N) ≡ slot x
  pub apart : (x y : ℕ) → slot x ≡ slot y → x ≤ y → y < x + N → x ≡ y
  pub narrow : W < N
  -- the log lies on the device, past its first sector
  pub inside : (x : ℕ) → (1 ≤ slot x) × (slot x < sectors)

-- the first position that cannot be written, for its cycle would be 2^31
abbrev pub limit : Ring → ℕ
limit g = 2147483648 * g.N

-- the position that the sector of x holds
abbrev pub at : Ring → (ℕ → Sector) → ℕ → ℕ
at g c x = g.pos (g.slot x) (c (g.slot x))

-- position x is held
abbrev pub Held : Ring → (ℕ → Sector) → ℕ → Type 0
Held g c x = at g c x ≡ x

-- m is the greatest position held, and its cycle is below 2^31
pub record Greatest (g : Ring) (c : ℕ → Sector) (m : ℕ) : Type 0 where
  pub held : Held g c m
  pub most : (x : ℕ) → Held g c x → x ≤ m
  pub low : m < limit g

-- the log is coherent: each of the last N positions up to m is held, or is one of the last W, and its sector holds the position a turn before
abbrev pub Coherent : Ring → (ℕ → Sector) → ℕ → Type 0
Coherent g c m = (x : ℕ) → m < x + g.N → x ≤ m → Held g c x ⊎ ((at g c x + g.N ≡ x) × (m < x + g.W))

-- h is the head: the least position from m + 1 - W on that is not held
pub record Head (g : Ring) (c : ℕ → Sector) (m h : ℕ) : Type 0 where
  pub near : m + 1 ≤ h + g.W
  pub free : Held g c h → ⊥
  pub full : (x : ℕ) → m + 1 ≤ x + g.W → x < h → Held g c x

-- n is the position of the newest record: from h back the first header whose record ends by h; every header down to it is sound
pub record Newest (g : Ring) (c : ℕ → Sector) (h n : ℕ) : Type 0 where
  pub header : 1 ≤ g.len (c (g.slot n))
  pub sound : g.sound n (c (g.slot n)) ≡ true
  pub ends : n + g.len (c (g.slot n)) ≤ h
  pub first : (y : ℕ) → n < y → y < h → (g.len (c (g.slot y)) ≡ 0) ⊎ ((g.sound y (c (g.slot y)) ≡ true) × (h < y + g.len (c (g.slot y))))
