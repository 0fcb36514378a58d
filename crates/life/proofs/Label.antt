-- What an accepted label leaves.
use Rattle.std.proofs.Common.{◌≡◌, ℕ, zero, suc, ◌+◌, ◌<◌, ◌≤◌, true, [], ◌∷◌, ◌++◌, replicate, sym, refl, ap, ◌∙◌, subst, arith}
use native.Mathlib.Decide.{ℕ_discrete, dec_lt}
use Rattle.life.specs.Disk.{Sector, holds, write, force, Disk, Whole, put, Writes, Fixed}
use Rattle.life.specs.Log.{Held}
use Rattle.life.specs.Format.{Rec, size, Fits, Format, sector, slot}
use Rattle.life.specs.Calls.{effect, record_writes, Clearing, zero_writes, Labels, labels}
use Rattle.life.specs.Life.{on_label}
use Rattle.life.proofs.Disk.{put_case, run_forced, run_effect, effect-++, effect_other}
use Rattle.life.proofs.Log.{rep}
use Rattle.life.proofs.Bytes.{puts_writes, puts_at}

-- a volume right after the label: the label on sector 0, a clearing record at position N, the rest of the log a turn behind, and nothing to lose
pub record Labelled (F : Format) (q : Rec) (d : Disk) : Type 0 where
  pub label : d.now 0 ≡ holds F.label
  pub clearing : Clearing F q
  pub fits : Fits F.ring q F.ring.N F.ring.N
  pub stands : (j : ℕ) → j < size q → d.now (slot F (F.ring.N + j)) ≡ sector F q F.ring.N F.ring.N j
  pub behind : (x : ℕ) → size q ≤ x → x < F.ring.N → Held F.ring d.now x
  pub whole : (x : ℕ) → Whole (d.now (slot F x))
  pub fixed : Fixed d

-- the sectors of zeros, as they are written
pub zeros_writes : (F : Format) (P : ℕ → Sector → Type 0) (n x : ℕ) → ((y : ℕ) → x ≤ y → y < x + n → P (slot F y) (holds (replicate 512 0))) → Writes P (zero_writes F x n)
zeros_writes F P zero x h = tt
zeros_writes F P (suc n) x h = (h x (omega arith) (omega arith), zeros_writes F P n (x + 1) (λ y lo hi. h y (omega arith) (omega arith)))

-- each of n log sectors is zeros then
zeros_at : (F : Format) (n x : ℕ) (c : ℕ → Sector) → n ≤ F.ring.N → (y : ℕ) → x ≤ y → y < x + n → effect (zero_writes F x n) c (slot F y) ≡ holds (replicate 512 0)
zeros_at F zero x c small y lo hi = absurd (omega arith)
zeros_at F (suc n) x c small y lo hi = go (ℕ_discrete y x) (zeros_at F n (x + 1) (put c (slot F x) (holds (replicate 512 0))) (omega arith) y)
  where
    Z : Sector
    Z = holds (replicate 512 0)

    go : Dec (y ≡ x) → (x + 1 ≤ y → y < x + 1 + n → effect (zero_writes F (x + 1) n) (put c (slot F x) (holds (replicate 512 0))) (slot F y) ≡ holds (replicate 512 0)) →
        effect (zero_writes F (x + 1) n) (put c (slot F x) (holds (replicate 512 0))) (slot F y) ≡ holds (replicate 512 0)
    go (yes e) ih =
        effect_other (zero_writes F (x + 1) n) (put c (slot F x) Z) (slot F y)
        (zeros_writes F (λ i s. slot F y ≡ i → ⊥) n (x + 1) (λ z a b q. let k : y ≡ z = F.ring.apart y z q (omega arith) (omega arith) in omega arith))
        ∙ put_case (λ z. z ≡ Z) c (slot F x) Z (slot F y) (λ _. refl) (λ n. absurd (n (ap (slot F) e)))
    go (no n) ih = ih (omega arith) (omega arith)

module _ (F : Format) (q : Rec) (d : Disk) (l : Labels F q) (ok : (on_label F q d).1 ≡ true) where
  -- the log's length
  abbrev N : ℕ
  N = F.ring.N

  -- what the label leaves
  abbrev v : Disk
  v = (on_label F q d).0

  -- the window is shorter than the log
  nar : F.ring.W < F.ring.N
  nar = F.ring.narrow

  -- the clearing record is no longer than the window
  short : size q ≤ F.ring.W
  short = l.clearing.short

  -- the contents after the zeros
  abbrev zeroed : ℕ → Sector
  zeroed = effect (zero_writes F 0 F.ring.N) (put d.now 0 (holds F.label))

  -- the contents at the end
  now_is : v.now ≡ effect (record_writes F q N N) (effect (zero_writes F 0 N) (put d.now 0 (holds F.label)))
  now_is =
      run_effect (labels F q) d ok
      ∙ effect-++ (zero_writes F 0 N ++ record_writes F q N N) (force ∷ []) (put d.now 0 (holds F.label))
      ∙ effect-++ (zero_writes F 0 N) (record_writes F q N N) (put d.now 0 (holds F.label))

  -- sector 0
  at_label : v.now 0 ≡ holds F.label
  at_label =
      ap (λ (c : ℕ → Sector). c 0) now_is
      ∙ effect_other (record_writes F q N N) zeroed 0
      (puts_writes F (λ i s. 0 ≡ i → ⊥) q N N (size q) 0 (λ i lo hi e. absurd (omega (arith, (F.ring.inside (N + i)).0))))
      ∙ effect_other (zero_writes F 0 N) (put d.now 0 (holds F.label)) 0
      (zeros_writes F (λ i s. 0 ≡ i → ⊥) N 0 (λ y lo hi e. absurd (omega (arith, (F.ring.inside y).0))))
      ∙ put_case (λ z. z ≡ holds F.label) d.now 0 (holds F.label) 0 (λ _. refl) (λ n. absurd (n refl))

  -- the clearing record
  stands : (j : ℕ) → j < size q → v.now (slot F (N + j)) ≡ sector F q N N j
  stands j lt = ap (λ (c : ℕ → Sector). c (slot F (N + j))) now_is ∙ puts_at F q N N (size q) 0 zeroed (omega (arith, short, nar)) j (omega arith) (omega arith)

  -- the other log sectors
  rest_zero : (x : ℕ) → size q ≤ x → x < N → v.now (slot F x) ≡ holds (replicate 512 0)
  rest_zero x lo hi =
      ap (λ (c : ℕ → Sector). c (slot F x)) now_is
      ∙ effect_other (record_writes F q N N) zeroed (slot F x)
      (puts_writes F (λ i s. slot F x ≡ i → ⊥) q N N (size q) 0
      (λ i a b e. let z : x ≡ N + i = F.ring.apart x (N + i) e (omega arith) (omega arith) in omega arith))
      ∙ zeros_at F N 0 (put d.now 0 (holds F.label)) (omega arith) x (omega arith) (omega arith)

  -- they hold positions of the first turn
  behind : (x : ℕ) → size q ≤ x → x < N → Held F.ring v.now x
  behind x lo hi = ap (λ (s : Sector). F.ring.pos (slot F x) s) (rest_zero x lo hi) ∙ F.zero_pos x hi

  -- the clearing record fits
  fits : Fits F.ring q N N
  fits = record { small = l.clearing.small; begun = omega arith; behind = omega arith; last = l.last }

  -- all log sectors can be read
  whole : (x : ℕ) → Whole (v.now (slot F x))
  whole x = go (rep F.ring N (x + 1) x (omega arith) (omega arith))
    where
      go : ((y : ℕ) × (N ≤ y + F.ring.N) × (y < N) × (F.ring.slot y ≡ F.ring.slot x)) → Whole (v.now (slot F x))
      go (y, p, hi, e) = subst (λ (i : ℕ). Whole (v.now i)) e (by (dec_lt y (size q)))
        where
          by : Dec (y < size q) → Whole (v.now (slot F y))
          by (yes lt) =
              let turn : slot F (N + y) ≡ slot F y = ap (slot F) (let k : N + y ≡ y + N = omega arith in k) ∙ F.ring.period y in
              subst (λ (s : Sector). Whole s) (sym (stands y lt) ∙ ap v.now turn) (F.sec q N N y, refl, F.sec_whole q N N y fits lt)
          by (no ge) = subst (λ (s : Sector). Whole s) (sym (rest_zero y (omega arith) hi)) (replicate 512 0, refl, refl)

  -- nothing to lose
  fixed : Fixed v
  fixed = run_forced (write 0 F.label ∷ (zero_writes F 0 N ++ record_writes F q N N)) d ok

  -- so it is
  pub label_leaves : Labelled F q (on_label F q d).0
  label_leaves = record { label = at_label; clearing = l.clearing; fits = fits; stands = stands; behind = behind; whole = whole; fixed = fixed }
