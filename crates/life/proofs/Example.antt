-- A small format that meets the laws, on a device of 40 sectors with a log of 16, and a life in it: a label, a replay, a commit and a cut.
use Rattle.std.proofs.Common.{◌≡◌, ℕ, zero, suc, ◌+◌, ◌-◌, ◌*◌, ◌/◌, ◌%◌, ◌<◌, ◌≤◌, Bool, true, false, cond, eqb, List, [], ◌∷◌, ◌++◌, length, get_or, replicate, pos, Some, None, Option, sym, refl, ap, ◌∙◌, subst, inl, inr, append_assoc, arith}
use native.Mathlib.Decide.{dec_lt}
use Rattle.life.specs.Disk.{Sector, holds, unreadable, Disk, In, AllByRecursion, Cut}
use Rattle.life.specs.Items.{Item, patch, Covers}
use Rattle.life.specs.Log.{Ring, at, Held}
use Rattle.life.specs.Format.{Rec, size, Small, Fits, Transaction, Format}
use Rattle.life.specs.Calls.{Plan, replayed, Commits, committed, Labels}
use Rattle.life.specs.Life.{Finds, on_label, on_replay, on_commit, Life, labelled, replay, commits, cuts}
use Rattle.life.proofs.Lists.{eqb_same, same_eqb}
use Rattle.life.proofs.Label.{Labelled, label_leaves}
use Rattle.life.proofs.Second.{life_stands}

-- The format. A header is: the record's length, its cycle, its tail, the record before, the number of ops, the data as one number, zeros.

-- number n of a sector
abbrev word : ℕ → Sector → ℕ
word n (holds b) = get_or b n 0
word n unreadable = 0

-- the log is sectors 1 to 16
abbrev ring : Ring
ring = record {
  sectors = 40;
  N = 16;
  W = 8;
  R = 1024;
  slot = λ x. 1 + x % 16;
  pos = λ i s. word 1 s * 16 + (i - 1);
  len = word 0;
  tail = word 2;
  sound = λ p s. eqb (word 1 s) (p / 16);
  period = λ x. omega arith;
  apart = λ x y e l h. omega arith;
  narrow = omega arith;
  inside = λ x. (omega arith, omega arith);
}

-- bytes as one number
abbrev code : List ℕ → ℕ
code [] = 0
code (b ∷ l) = b + 256 * code l

-- n bytes of a number
abbrev uncode : ℕ → ℕ → List ℕ
uncode zero n = []
uncode (suc k) n = n % 256 ∷ uncode k (n / 256)

-- the number gives the bytes back
uncode_code : (l : List ℕ) → AllByRecursion (λ b. b < 256) l → uncode (length l) (code l) ≡ l
uncode_code [] a = refl
uncode_code (b ∷ l) a =
    let low : b < 256 = a.0 in
    let first : (b + 256 * code l) % 256 ≡ b = omega arith in
    let rest : (b + 256 * code l) / 256 ≡ code l = omega arith in
    ap (λ (k : ℕ). k ∷ uncode (length l) ((b + 256 * code l) / 256)) first ∙ ap (λ (k : ℕ). b ∷ uncode (length l) k) rest ∙ ap (λ (k : List ℕ). b ∷ k) (uncode_code l a.1)

-- the sector of position x, if it is no header
abbrev inner : ℕ → List ℕ
inner x = 0 ∷ (x / 16) ∷ replicate 510 0

-- the sectors of a record
abbrev sec : Rec → ℕ → ℕ → ℕ → List ℕ
sec r t p zero = size r ∷ (p / 16) ∷ t ∷ r.previous ∷ r.ops ∷ code r.payload ∷ replicate 506 0
sec r t p (suc j) = inner (p + suc j)

-- they have 512 numbers
pub sec_whole : (r : Rec) (t p j : ℕ) → Fits ring r t p → j < size r → length (sec r t p j) ≡ 512
sec_whole r t p zero f l = refl
sec_whole r t p (suc j) f l = refl

-- each holds its position
pub sec_pos : (r : Rec) (t p j : ℕ) → Fits ring r t p → j < size r → ring.pos (ring.slot (p + j)) (holds (sec r t p j)) ≡ p + j
sec_pos r t p zero f l = omega arith
sec_pos r t p (suc j) f l = omega arith

-- they tell the record
pub sec_one : (r q : Rec) (t u p : ℕ) → Fits ring r t p → Fits ring q u p → ((j : ℕ) → j < size r → sec r t p j ≡ sec q u p j) → size r ≡ size q → r ≡ q
sec_one r q t u p fr fq f e =
    let heads : sec r t p 0 ≡ sec q u p 0 = f 0 (omega arith) in
    let a : r.previous ≡ q.previous = ap (λ (l : List ℕ). get_or l 3 0) heads in
    let b : r.ops ≡ q.ops = ap (λ (l : List ℕ). get_or l 4 0) heads in
    let m : r.more ≡ q.more = omega arith in
    let c : code r.payload ≡ code q.payload = ap (λ (l : List ℕ). get_or l 5 0) heads in
    let n : length r.payload ≡ length q.payload = omega (arith, fr.small.whole, fq.small.whole) in
    let d : r.payload ≡ q.payload =
    sym (uncode_code r.payload fr.small.bytes) ∙ ap (λ (k : ℕ). uncode k (code r.payload)) n ∙ ap (λ (k : ℕ). uncode (length q.payload) k) c
    ∙ uncode_code q.payload fq.small.bytes in
    λ i. record { previous = a i; ops = b i; more = m i; payload = d i }

-- a record with no ops commits nothing, another one its data as one region
abbrev said : ℕ → List ℕ → List Transaction
said zero b = []
said (suc n) b = (b ∷ []) ∷ []

-- the transactions of records
abbrev reads : List Rec → List Transaction
reads [] = []
reads (r ∷ rs) = said r.ops r.payload ++ reads rs

-- more records commit no fewer
pub reads_more : (l m : List Rec) → (w : List Transaction) × (reads (l ++ m) ≡ reads l ++ w)
reads_more [] m = (reads m, refl)
reads_more (r ∷ l) m =
    let h = reads_more l m in
    (h.0, ap (λ (k : List Transaction). said r.ops r.payload ++ k) h.1 ∙ sym (append_assoc (said r.ops r.payload) (reads l) h.0))

-- the value for the first byte of sector 20
abbrev value : ℕ → ℕ → Option ℕ
value v x = cond (eqb x 10240) (Some v) None

-- a region is a patch of the first byte of sector 20
abbrev meant : Transaction → List Item
meant [] = []
meant (b ∷ bs) = patch (record { sector = pos 20; length = 1 }) (20 ∷ []) (value (get_or b 0 0)) ∷ []

-- all laws are met
abbrev pub small_format : Format
small_format = record {
  ring = ring;
  label = replicate 512 7;
  sec = sec;
  sec_whole = sec_whole;
  sec_pos = sec_pos;
  sec_sound = λ r t p f. eqb_same (p / 16) (p / 16) refl;
  sec_len = λ r t p f. refl;
  sec_tail = λ r t p f. refl;
  sec_data = λ r t p j f l. refl;
  sec_one = sec_one;
  blank = λ x. inner (x - 16);
  blank_whole = λ x n l. refl;
  blank_pos = λ x n l. omega arith;
  zero_pos = λ x l. omega arith;
  reads = reads;
  reads_more = reads_more;
  pass = λ l. true;
  pass_front = λ l m e. refl;
  items = meant;
}

-- The life.

-- a clearing record
abbrev clearing : Rec
clearing = record { previous = 0; ops = 0; more = 1; payload = replicate 512 0 }

-- zeros are bytes
all_zero : (n : ℕ) → AllByRecursion (λ b. b < 256) (replicate n 0)
all_zero zero = tt
all_zero (suc n) = (omega arith, all_zero n)

-- it can be written
clearing_small : Small ring clearing
clearing_small = record { previous_low = omega arith; ops_low = omega arith; some = omega arith; most = omega arith; whole = refl; bytes = all_zero 512 }

-- label accepts it
label_passes : Labels small_format clearing
label_passes = record { clearing = record { empty = refl; passes = refl; short = omega arith; small = clearing_small }; last = omega arith }

-- a device with one sector that cannot be read
abbrev empty_disk : Disk
empty_disk = record { now = λ i. cond (eqb i 30) unreadable (holds (replicate 512 0)); past = λ i. []; left = 100; settled = false }

-- that device right after the label, and what it holds: the clearing record at position 16, and positions 2 to 15 a turn behind
abbrev disk : Disk
disk = (on_label small_format clearing empty_disk).0

-- its contents
abbrev fresh : ℕ → Sector
fresh = (on_label small_format clearing empty_disk).0.now

-- an accepted label
pub first_life : Life small_format fresh disk None
first_life = labelled empty_disk clearing label_passes refl (λ i. refl)

-- in words
leaves : Labelled small_format clearing disk
leaves = label_leaves small_format clearing empty_disk label_passes refl

-- positions 2 to 17 are held
held : (x : ℕ) → 2 ≤ x → x < 18 → Held ring fresh x
held x p q = go (dec_lt x 16) (dec_lt x 17)
  where
    go : Dec (x < 16) → Dec (x < 17) → Held ring fresh x
    go (yes l) m = leaves.behind x p l
    go (no l) (yes m) = subst (λ (k : ℕ). Held ring fresh k) (let e : 16 ≡ x = omega arith in e) refl
    go (no l) (no m) = subst (λ (k : ℕ). Held ring fresh k) (let e : 17 ≡ x = omega arith in e) refl

-- no position above 17 is
most : (x : ℕ) → Held ring fresh x → x ≤ 17
most x h = go (dec_lt (x % 16) 2)
  where
    same : (y : ℕ) → x % 16 ≡ y % 16 → at ring fresh x ≡ at ring fresh y
    same y e = ap (λ (k : ℕ). ring.pos (1 + k) (fresh (1 + k))) e

    go : Dec (x % 16 < 2) → x ≤ 17
    go (yes l) = by (dec_lt (x % 16) 1)
      where
        by : Dec (x % 16 < 1) → x ≤ 17
        by (yes z) = let e : at ring fresh x ≡ at ring fresh 16 = same 16 (omega arith) in let f : at ring fresh 16 ≡ 16 = refl in omega (arith, h)
        by (no z) = let e : at ring fresh x ≡ at ring fresh 17 = same 17 (omega arith) in let f : at ring fresh 17 ≡ 17 = refl in omega (arith, h)
    go (no l) =
        let e : at ring fresh x ≡ at ring fresh (x % 16) = same (x % 16) (omega arith) in
        let f : at ring fresh (x % 16) ≡ x % 16 = held (x % 16) (omega arith) (omega arith) in
        omega (arith, h)

-- what a reading finds then
plan : Plan small_format fresh 17 18 16 18 16 (clearing ∷ [])
plan = record {
  greatest = record { held = refl; most = most; low = omega arith };
  coherent = λ x p q. inl (held x (omega arith) (omega arith));
  head = record { near = omega arith; free = λ e. let z : at ring fresh 18 ≡ 2 = refl in omega arith; full = λ x p q. held x (omega arith) q };
  newest = record { header = omega arith; sound = refl; ends = omega arith; first = λ y p q. inl (only y (omega arith) (omega arith)) };
  within = omega arith;
  ends = refl;
  told = refl;
  range = omega arith;
  before = omega arith;
  chained = (omega arith, (16, leaves.fits, leaves.stands), refl);
}
  where
    only : (y : ℕ) → 17 ≤ y → y < 18 → word 0 (fresh (1 + y % 16)) ≡ 0
    only y p q = subst (λ (k : ℕ). word 0 (fresh (1 + k % 16)) ≡ 0) (let e : 17 ≡ y = omega arith in e) refl

-- an accepted replay
pub replayed_life : Life small_format fresh (on_replay small_format 17 18 (clearing ∷ []) disk).0 (Some (replayed 16 18 16 (clearing ∷ [])))
replayed_life = replay first_life plan tt

-- a record whose one transaction gives the first byte of sector 20 the value 0
abbrev record_of_one : Rec
record_of_one = record { previous = 0; ops = 1; more = 1; payload = replicate 512 0 }

-- its patch covers that byte alone
covers : (x : ℕ) → Covers (patch (record { sector = pos 20; length = 1 }) (20 ∷ []) (value 0)) x → In (x / 512) (20 ∷ [])
covers x (w, e) = go (eqb x 10240) refl e
  where
    go : (b : Bool) → eqb x 10240 ≡ b → cond b (Some 0) None ≡ Some w → In (x / 512) (20 ∷ [])
    go true q e = inl (let same : x ≡ 10240 = same_eqb x 10240 q in omega arith)
    go false q e = let z : ◌≡◌ {A = ℕ} 0 1 = cc in absurd (omega arith)

-- commit accepts it
commit_passes : Commits small_format (replayed 16 18 16 (clearing ∷ [])) record_of_one (replicate 512 0 ∷ [])
commit_passes = record {
  window = omega arith;
  room = omega arith;
  last = omega arith;
  reads = refl;
  passes = refl;
  small = record { previous_low = omega arith; ops_low = omega arith; some = omega arith; most = omega arith; whole = refl; bytes = all_zero 512 };
  sound = (record { home = (record { later = omega arith; inside = omega arith; free = λ x e. omega arith }, tt); within = covers }, tt);
}

-- the device after that replay and this commit
abbrev written : Disk
written = (on_commit small_format (replayed 16 18 16 (clearing ∷ [])) record_of_one (on_replay small_format 17 18 (clearing ∷ []) disk).0).0

-- an accepted commit
pub committed_life : Life small_format fresh written (Some (committed (replayed 16 18 16 (clearing ∷ [])) record_of_one))
committed_life = commits replayed_life record_of_one (replicate 512 0 ∷ []) commit_passes

-- a cut that loses the record's data sector and leaves its header: a torn record
abbrev torn : Disk
torn = record { now = λ i. cond (eqb i 4) (fresh 4) (written.now i); past = written.past; left = 5; settled = false }

-- it is a cut
torn_cut : Cut written torn
torn_cut = record { each = λ j. each j (eqb j 4) (eqb j 3); same = λ j. refl }
  where
    header : Sector
    header = holds (sec record_of_one 16 18 0)

    each : (j : ℕ) (b c : Bool) → In (cond b (fresh 4) (cond b (holds (inner 19)) (cond c header (fresh j))))
        (cond b (holds (inner 19) ∷ fresh 4 ∷ []) (cond c (header ∷ fresh 3 ∷ []) (fresh j ∷ [])))
    each j true c = inr (inl refl)
    each j false true = inl refl
    each j false false = inl refl

-- a life that goes on with a cut
pub cut_life : Life small_format fresh torn None
cut_life = cuts committed_life torn_cut

-- a reading of the torn log finds a chain on which every check passes
pub torn_found : Finds small_format torn.now
torn_found = (life_stands small_format fresh torn None cut_life).finds
