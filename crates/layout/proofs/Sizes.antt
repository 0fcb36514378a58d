-- Whatever can be read has 512 bytes, and every write lies on the device. Assumes nothing.
use Rattle.std.proofs.Common.{◌≡◌, ℕ, ◌+◌, ◌-◌, ◌<◌, ◌≤◌, List, [], ◌∷◌, ◌++◌, length, replicate, Option, sym, refl, ap, ◌∙◌, arith}
use Rattle.std.proofs.lemmas.List.{length-append}
use Rattle.codec.specs.Fields.{zeros}
use Rattle.label.specs.declared.label.Label.{Label}
use Rattle.label.specs.Label.{label_bytes}
use Rattle.life.specs.Disk.{Sector, holds, Action, force, Disk, Whole, AllByRecursion, Writes, run}
use Rattle.life.specs.Items.{Item, patch, cancel, opens, closes, applied}
use Rattle.life.specs.Log.{limit}
use Rattle.life.specs.Format.{Rec, size, Fits, Format, chain_items}
use Rattle.life.specs.Calls.{Readable, Inside, effect, mended, patch_writes, all_writes, lays, blanks, record_writes, zero_writes, replays, clearings, labels}
use Rattle.life.proofs.Lists.{in_all}
use Rattle.life.proofs.Disk.{Kept, run_keeps, writes-++, writes_map}
use Rattle.life.proofs.Bytes.{readable_map, mended_whole, secs_whole, blanks_writes, puts_writes}
use Rattle.life.proofs.Inside.{commit_inside}
use Rattle.life.proofs.Label.{zeros_writes}
use Rattle.layout.proofs.Laying.{applied_readable}

-- a sector has 512 bytes where it can be read
abbrev pub Sized : Sector → Type 0
Sized s = (b : List ℕ) → s ≡ holds b → length b ≡ 512

-- the same of a sector written somewhere
abbrev pub SizedAt : ℕ → Sector → Type 0
SizedAt i s = Sized s

pub holds_sized : (b : List ℕ) → length b ≡ 512 → Sized (holds b)
holds_sized b l c e = let q : b ≡ c = cc in ap length (sym q) ∙ l

pub whole_sized : (s : Sector) → Whole s → Sized s
whole_sized s (b, e, l) c q = holds_sized b l c (sym e ∙ q)

-- Each part of what is written.

-- the writes of a patch
secs_sized : (f : ℕ → Option ℕ) (l : List ℕ) (c : ℕ → Sector) → AllByRecursion (λ i. Whole (c i)) l → Writes SizedAt (patch_writes f l c)
secs_sized f [] c a = tt
secs_sized f (i ∷ l) c a = (whole_sized (holds (mended f i (c i))) (mended_whole f i (c i) a.0), secs_sized f l c a.1)

-- of patches one after the other
patches_sized : (l : List Item) (c : ℕ → Sector) → Readable c l → Writes SizedAt (all_writes l c)
patches_sized [] c r = tt
patches_sized (patch k q f ∷ rest) c r =
    let c' : ℕ → Sector = effect (patch_writes f q c) c in
    writes-++ SizedAt (patch_writes f q c) (all_writes rest c') (secs_sized f q c r.0)
    (patches_sized rest c' (readable_map c c' rest (λ j h. secs_whole f q c c j r.0 h) r.1))
patches_sized (cancel k ∷ rest) c r = patches_sized rest c r.1
patches_sized (opens i ∷ rest) c r = patches_sized rest c r.1
patches_sized (closes i ∷ rest) c r = patches_sized rest c r.1

-- of the patches that are applied
pub lays_sized : (F : Format) (l : List Item) (c : ℕ → Sector) → Readable c l → Writes (λ i s. Sized s) (lays l c)
lays_sized F l c r = patches_sized (applied l) c (applied_readable c l r)

-- of positions that are given up
pub blanks_sized : (F : Format) (c : ℕ → Sector) (x k : ℕ) → F.ring.N ≤ x → x + k ≤ limit F.ring → Writes (λ i s. Sized s) (blanks F c x k)
blanks_sized F c x k h l = blanks_writes F SizedAt c k x (λ y lo hi. holds_sized (F.blank y) (F.blank_whole y (omega arith) (omega arith)))

-- of a record
pub puts_sized : (F : Format) (r : Rec) (t p : ℕ) → Fits F.ring r t p → Writes (λ i s. Sized s) (record_writes F r t p)
puts_sized F r t p f = puts_writes F SizedAt r t p (size r) 0 (λ i lo hi. holds_sized (F.sec r t p i) (F.sec_whole r t p i f (omega arith)))

-- of a log of zeros
pub zeros_sized : (F : Format) (x k : ℕ) → Writes (λ i s. Sized s) (zero_writes F x k)
zeros_sized F x k = zeros_writes F SizedAt k x (λ y lo hi. holds_sized (replicate 512 0) refl)

-- the sector of a label
pub label_whole : (L : Label) → length L.uuid ≡ 16 → length (label_bytes L) ≡ 512
label_whole L e = let n : length (L.uuid ++ zeros 480) ≡ length L.uuid + 480 = length-append L.uuid (zeros 480) in omega (arith, n, e)

-- The calls.

pub replays_sized : (F : Format) (c : ℕ → Sector) (m e : ℕ) (chain : List Rec) → Readable c (chain_items F chain) → F.ring.N ≤ e → m < limit F.ring →
    Writes (λ i s. Sized s) (replays F c m e chain)
replays_sized F c m e chain r h l =
    writes-++ SizedAt (lays (chain_items F chain) c ++ blanks F c e (m + 1 - e)) (force ∷ [])
    (writes-++ SizedAt (lays (chain_items F chain) c) (blanks F c e (m + 1 - e)) (lays_sized F (chain_items F chain) c r)
    (blanks_writes F SizedAt c (m + 1 - e) e (λ y lo hi. holds_sized (F.blank y) (F.blank_whole y (omega arith) (omega arith))))) tt

pub clearings_sized : (F : Format) (c : ℕ → Sector) (e : ℕ) (chain : List Rec) (q : Rec) → Readable c (chain_items F chain) → Fits F.ring q e e →
    Writes (λ i s. Sized s) (clearings F c e chain q)
clearings_sized F c e chain q r f =
    writes-++ SizedAt (lays (chain_items F chain) c) (force ∷ (record_writes F q e e ++ (force ∷ []))) (lays_sized F (chain_items F chain) c r)
    (writes-++ SizedAt (record_writes F q e e) (force ∷ []) (puts_sized F q e e f) tt)

pub labels_sized : (F : Format) (q : Rec) → length F.label ≡ 512 → Fits F.ring q F.ring.N F.ring.N → Writes (λ i s. Sized s) (labels F q)
labels_sized F q l f =
    let N : ℕ = F.ring.N in (
      holds_sized F.label l,
      writes-++ SizedAt (zero_writes F 0 N ++ record_writes F q N N) (force ∷ [])
          (writes-++ SizedAt (zero_writes F 0 N) (record_writes F q N N) (zeros_sized F 0 N) (puts_sized F q N N f)) tt,
    )

-- Runs.

-- where all that sectors have held is so, it is after a run of such writes
pub all_sized : (xs : List Action) (d : Disk) → Kept (λ i s. Sized s) d → Writes (λ i s. Sized s) xs → Kept (λ i s. Sized s) (run xs d).0
all_sized xs d k w = run_keeps SizedAt xs d k w

-- and so are the present contents
pub now_sized : (d : Disk) → Kept (λ i s. Sized s) d → (j : ℕ) → Sized (d.now j)
now_sized d k j = in_all Sized (d.now j) (d.past j) (k.1 j) (k.0 j)

-- Where the calls write.

pub inside_below : (F : Format) (xs : List Action) → Inside F xs → Writes (λ i s. i < F.ring.sectors) xs
inside_below F xs w = writes_map (λ i s. (1 ≤ i) × (i < F.ring.sectors)) (λ i s. i < F.ring.sectors) xs (λ i s h. h.1) w

pub labels_below : (F : Format) (q : Rec) → Writes (λ i s. i < F.ring.sectors) (labels F q)
labels_below F q =
    let N : ℕ = F.ring.N in
    let P : ℕ → Sector → Type 0 = λ i s. i < F.ring.sectors in
    let o = F.ring.inside 0 in (
      omega (arith, o.0, o.1),
      writes-++ P (zero_writes F 0 N ++ record_writes F q N N) (force ∷ [])
          (writes-++ P (zero_writes F 0 N) (record_writes F q N N) (zeros_writes F P N 0 (λ y lo hi. (F.ring.inside y).1))
          (inside_below F (record_writes F q N N) (commit_inside F q N N))) tt,
    )
