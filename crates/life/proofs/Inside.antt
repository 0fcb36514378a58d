-- Where the calls write: on the device, and never on the label.
use Rattle.std.proofs.Common.{◌≡◌, ℕ, zero, suc, ◌+◌, ◌-◌, ◌<◌, ◌≤◌, List, [], ◌∷◌, ◌++◌, refl, arith}
use Rattle.life.specs.Disk.{Sector, holds, Action, force, Disk, AllByRecursion, run}
use Rattle.life.specs.Items.{Item}
use Rattle.life.specs.Format.{Rec, size, Format, chain_items}
use Rattle.life.specs.Calls.{Home, Sound, Readable, Inside, lays, blanks, record_writes, replays, clearings}
use Rattle.life.proofs.Lists.{all_of, all_map}
use Rattle.life.proofs.Disk.{Current, run_keeps, writes-++, writes_map}
use Rattle.life.proofs.Bytes.{lays_home, blanks_writes, puts_writes}

-- a sector of the device past the label
abbrev On : Format → ℕ → Sector → Type 0
On F i s = (1 ≤ i) × (i < F.ring.sectors)

-- the writes of patches
lays_inside : (F : Format) (l : List Item) (c : ℕ → Sector) → AllByRecursion (Sound F) l → Readable c l → Inside F (lays l c)
lays_inside F l c s r = writes_map (λ i z. Home F i) (On F) (lays l c) (λ i z h. (h.later, h.inside)) (lays_home F l c s r)

-- commit's writes
pub commit_inside : (F : Format) (r : Rec) (t p : ℕ) → Inside F (record_writes F r t p)
commit_inside F r t p = puts_writes F (On F) r t p (size r) 0 (λ i lo hi. F.ring.inside (p + i))

-- replay's writes
pub replay_inside : (F : Format) (c : ℕ → Sector) (m e : ℕ) (chain : List Rec) → AllByRecursion (Sound F) (chain_items F chain) → Readable c (chain_items F chain) →
    Inside F (replays F c m e chain)
replay_inside F c m e chain s r =
    writes-++ (On F) (lays (chain_items F chain) c ++ blanks F c e (m + 1 - e)) (force ∷ [])
    (writes-++ (On F) (lays (chain_items F chain) c) (blanks F c e (m + 1 - e)) (lays_inside F (chain_items F chain) c s r)
    (blanks_writes F (On F) c (m + 1 - e) e (λ y lo hi. F.ring.inside y))) tt

-- clear's writes
pub clear_inside : (F : Format) (c : ℕ → Sector) (e : ℕ) (chain : List Rec) (q : Rec) → AllByRecursion (Sound F) (chain_items F chain) → Readable c (chain_items F chain) →
    Inside F (clearings F c e chain q)
clear_inside F c e chain q s r =
    writes-++ (On F) (lays (chain_items F chain) c) (force ∷ (record_writes F q e e ++ (force ∷ []))) (lays_inside F (chain_items F chain) c s r)
    (writes-++ (On F) (record_writes F q e e) (force ∷ []) (commit_inside F q e e) tt)

-- such writes leave nothing but the label on sector 0
pub label_kept : (F : Format) (l : List Action) (d : Disk) → Current d → AllByRecursion (λ s. s ≡ holds F.label) (d.past 0) → Inside F l → AllByRecursion (λ s. s ≡ holds F.label) ((run l d).0.past 0)
label_kept F l d cur h w =
    all_map (P 0) (λ s. s ≡ holds F.label) ((run l d).0.past 0) (λ s z. z refl)
    ((run_keeps P l d (cur, every) (writes_map (On F) P l (λ i s on e. absurd (omega (arith, on.0))) w)).1 0)
  where
    P : ℕ → Sector → Type 0
    P i s = i ≡ 0 → s ≡ holds F.label

    every : (j : ℕ) → AllByRecursion (λ s. j ≡ 0 → s ≡ holds F.label) (d.past j)
    every zero = all_map (λ s. s ≡ holds F.label) (λ s. 0 ≡ 0 → s ≡ holds F.label) (d.past 0) (λ s z _. z) h
    every (suc j) = all_of (λ s. suc j ≡ 0 → s ≡ holds F.label) (d.past (suc j)) (λ s m e. absurd (omega arith))
