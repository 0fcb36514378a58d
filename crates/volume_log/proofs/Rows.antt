-- Sectors read one after the other, and the list of them. Assumes nothing.
use Rattle.std.proofs.Common.{◌≡◌, ℕ, zero, suc, ◌+◌, ◌-◌, ◌<◌, ◌≤◌, max, Bool, true, false, cond, ltb, List, [], get_or, Ok, Err, Result, sym, refl, ap, ◌∙◌, inl, inr, arith}
use Rattle.std.proofs.Math.Nat.{mod-eq_of_lt, mod-lt}
use Rattle.std.proofs.lemmas.Bool.{cases_lt}
use Rattle.device.specs.State.{DevState, Sector, holds, unreadable, sector_at, bytes_of}
use Rattle.device.specs.Steps.{fault, readable, read, then_rest, then_read, reads}
use Rattle.device.proofs.Reading.{reads_each}
use Rattle.device.specs.declared.fault.Cause.TheVariants.{Beyond}
use Rattle.device.specs.declared.fault.DeviceFault.{DeviceFault}
use Rattle.label.specs.declared.label.Label.{Label}
use Rattle.label.specs.Position.{volume_sector, log_sector}
use Rattle.record.specs.Record.{held_position}
use Rattle.model.specs.View.{at, held_by, greatest_of, greatest}
use Rattle.volume_log.proofs.Outcomes.{not_both}
use Rattle.volume_log.specs.Sectors.{sectors_of, log_of, Readable, greatest_on}

-- what was read is what the sector holds
pub read_holds : (d : DevState) (i : ℕ) (b : List ℕ) → read d i ≡ Ok b → b ≡ bytes_of (sector_at d i)
read_holds d i b e = go (ltb i d.size) (sector_at d i) e
  where
    go : (t : Bool) (c : Sector) → cond t (readable i c) (Err (fault Beyond i)) ≡ Ok b → b ≡ bytes_of c
    go true (holds a) e = cc
    go true unreadable e = not_both (Ok b) b _ refl (sym e)
    go false c e = not_both (Ok b) b _ refl (sym e)

-- each of the first n of some sectors can be read
abbrev pub Each : DevState → (ℕ → ℕ) → ℕ → Type 0
Each d p n = (k : ℕ) → k < n → read d (p k) ≡ Ok (bytes_of (sector_at d (p k)))

pub each_more : (d : DevState) (p : ℕ → ℕ) (n : ℕ) (b : List ℕ) → Each d p n → read d (p n) ≡ Ok b → Each d p (n + 1)
each_more d p n b h e k l = elim (cases_lt k n) [ inl t ↦ h k t | inr t ↦ let q : k ≡ n = omega arith in rw q (e ∙ ap Ok (read_holds d (p n) b e)) ]

pub each_next : (d : DevState) (p q : ℕ → ℕ) (n : ℕ) → ((k : ℕ) → p (suc k) ≡ q k) → Each d p (suc n) → Each d q n
each_next d p q n z h k l = ap (read d) (sym (z k)) ∙ h (suc k) (omega arith) ∙ ap (λ i. Ok (bytes_of (sector_at d i))) (z k)

pub each_first : (d : DevState) (p : ℕ → ℕ) (n i : ℕ) → p 0 ≡ i → Each d p (suc n) → read d i ≡ Ok (bytes_of (sector_at d i))
each_first d p n i z h = ap (read d) (sym z) ∙ h 0 (omega arith) ∙ ap (λ i. Ok (bytes_of (sector_at d i))) z

-- the sectors from a on
abbrev pub along : ℕ → ℕ → ℕ
along a k = a + k

along_next : (a k : ℕ) → along a (suc k) ≡ along (a + 1) k
along_next a k = omega arith

-- all of them are read, or the first refusal stands
pub reads_all : (d : DevState) (a n : ℕ) → Each d (along a) n → reads d a n ≡ Ok (sectors_of d a n)
reads_all d a zero h = refl
reads_all d a (suc n) h =
    ap (λ r. then_read r (reads d (a + 1) n)) (each_first d (along a) n a (omega arith) h)
    ∙ ap (then_rest (bytes_of (sector_at d a))) (reads_all d (a + 1) n (each_next d (along a) (along (a + 1)) n (along_next a) h))

pub reads_stop : (d : DevState) (a n j : ℕ) (f : DeviceFault) → j < n → Each d (along a) j → read d (a + j) ≡ Err f → reads d a n ≡ Err f
reads_stop d a zero j f l h e = absurd (omega arith)
reads_stop d a (suc n) zero f l h e = let z : a + 0 ≡ a = omega arith in ap (λ r. then_read r (reads d (a + 1) n)) (ap (read d) (sym z) ∙ e)
reads_stop d a (suc n) (suc j) f l h e =
    let z : a + suc j ≡ a + 1 + j = omega arith in
    ap (λ r. then_read r (reads d (a + 1) n)) (each_first d (along a) j a (omega arith) h)
    ∙ ap (then_rest (bytes_of (sector_at d a))) (reads_stop d (a + 1) n j f (omega arith) (each_next d (along a) (along (a + 1)) j (along_next a) h) (ap (read d) (sym z) ∙ e))

-- the sector at a place of the list
pub list_at : (d : DevState) (a n k : ℕ) → k < n → get_or (sectors_of d a n) k [] ≡ bytes_of (sector_at d (a + k))
list_at d a zero k l = absurd (omega arith)
list_at d a (suc n) zero l = let z : a ≡ a + 0 = omega arith in ap (λ i. bytes_of (sector_at d i)) z
list_at d a (suc n) (suc k) l = let z : a + 1 + k ≡ a + suc k = omega arith in list_at d (a + 1) n k (omega arith) ∙ ap (λ i. bytes_of (sector_at d i)) z

-- log sector i is that of position i
pub read_own : (d : DevState) (L : Label) (i : ℕ) (r q : Result (List ℕ) DeviceFault) → i < L.count → r ≡ read d (volume_sector L i) → r ≡ q → read d (L.start + i) ≡ q
read_own d L i r q l e h = ap (λ k. read d (L.start + k)) (sym (mod-eq_of_lt l)) ∙ sym e ∙ h

-- a log sector that was read is that of the list
pub log_at : (d : DevState) (L : Label) (i : ℕ) (b : List ℕ) → i < L.count → read d (L.start + i) ≡ Ok b → b ≡ get_or (log_of d L) i []
log_at d L i b l e = read_holds d (L.start + i) b e ∙ sym (list_at d L.start L.count i l)

-- one sector more: the greater of m and what log sector i holds
pub greatest_more : (d : DevState) (L : Label) (i m m' p : ℕ) (b : List ℕ) → i < L.count → read d (L.start + i) ≡ Ok b → m ≡ greatest_of L (log_of d L) i → p ≡ held_position L i b → m' ≡ max m p
    → m' ≡ greatest_of L (log_of d L) (i + 1)
greatest_more d L i m m' p b l e a h q =
    let s : i + 1 ≡ suc i = omega arith in
    q ∙ ap (λ x. max x p) a ∙ ap (max (greatest_of L (log_of d L) i)) (h ∙ ap (held_position L i) (log_at d L i b l e)) ∙ ap (greatest_of L (log_of d L)) (sym s)

-- all sectors were looked at
pub greatest_all : (d : DevState) (L : Label) (i m : ℕ) → i ≡ L.count → Each d (along L.start) i → m ≡ greatest_of L (log_of d L) i → Readable d L × (m ≡ greatest_on d L)
greatest_all d L i m e h q = (reads_all d L.start L.count (λ k l. h k (omega arith)), q ∙ ap (greatest_of L (log_of d L)) e)

at_most : (L : Label) (log : List (List ℕ)) (n k : ℕ) → k < n → held_by L log k ≤ greatest_of L log n
at_most L log zero k h = absurd (omega arith)
at_most L log (suc n) k h =
    elim (cases_lt k n) [ inl l ↦ omega (arith, at_most L log n k l) | inr l ↦ let e : k ≡ n = omega arith in let u : held_by L log k ≡ held_by L log n = ap (held_by L log) e in omega arith ]

-- the last log sector holds count - 1 at least
pub greatest_least : (L : Label) (log : List (List ℕ)) → 1 ≤ L.count → L.count ≤ greatest L log + 1
greatest_least L log h = omega (arith, at_most L log L.count (L.count - 1) (omega arith))

-- a sector of a log that can be read
pub read_at : (d : DevState) (L : Label) (x : ℕ) → 0 < L.count → Readable d L → read d (volume_sector L x) ≡ Ok (at L (log_of d L) x)
read_at d L x l r = (reads_each d L.start L.count (log_of d L) r).1 (log_sector L x) (mod-lt x l)
