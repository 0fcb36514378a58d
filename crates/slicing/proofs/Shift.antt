-- A call on a slice is the call on the device, further on. Assumes nothing.
use Rattle.std.proofs.Common.{◌≡◌, ℕ, ◌+◌, ◌-◌, ◌<◌, min, Bool, true, false, cond, eqb, ltb, List, get_or, take, drop, set, Ok, Err, Result, sym, refl, ap, ◌∙◌, ⊎_elim, arith}
use lib.Seq.{take-set-lt}
use Rattle.std.proofs.lemmas.List.{get_or-take, get_or-drop, take-set-le, drop-set-lt, drop-set-add}
use Rattle.std.proofs.lemmas.Bool.{lt-ltb, le-ltb, cases_lt}
use Rattle.device.specs.State.{DevState, Sector, holds, unreadable}
use Rattle.device.specs.Steps.{refusal, fault, readable, read, done, given_or, read_answer, read_bytes, write_answer, write_step, written, force_step, forced}
use Rattle.slicing.specs.Slices.{slice_state, slice_write, Outside}
use Rattle.device.specs.declared.fault.Cause.TheVariants.{Spent}
use Rattle.device.specs.declared.fault.DeviceFault.{DeviceFault}

-- the same answer, told of the sector i
abbrev pub relabel : {A : Type 0} → ℕ → Result A DeviceFault → Result A DeviceFault
relabel i (Ok x) = Ok x
relabel i (Err f) = Err (fault f.cause i)

relabel_done : (i : ℕ) (x : Result (List ℕ) DeviceFault) → done (relabel i x) ≡ relabel i (done x)
relabel_done i (Ok b) = refl
relabel_done i (Err f) = refl

relabel_given : (i : ℕ) (x : Result (List ℕ) DeviceFault) (old : List ℕ) → given_or (relabel i x) old ≡ given_or x old
relabel_given i (Ok b) old = refl
relabel_given i (Err f) old = refl

at_slice : (s : DevState) (a n i : ℕ) → i < min (s.size - a) n → get_or (slice_state s a n).contents i unreadable ≡ get_or s.contents (a + i) unreadable
at_slice s a n i h = let l : i < n = omega arith in get_or-take n (drop a s.contents) i unreadable l ∙ get_or-drop a s.contents i unreadable

relabel_readable : (x : Sector) (i j : ℕ) → readable i x ≡ relabel i (readable j x)
relabel_readable (holds b) i j = refl
relabel_readable unreadable i j = refl

-- reading sector i of a slice is reading sector a + i of the device
pub slice_read : (s : DevState) (a n i : ℕ) → i < min (s.size - a) n → read (slice_state s a n) i ≡ relabel i (read s (a + i))
slice_read s a n i h =
    let l : a + i < s.size = omega arith in
    rw (lt-ltb i (min (s.size - a) n) h, lt-ltb (a + i) s.size l, at_slice s a n i h) (relabel_readable (get_or s.contents (a + i) unreadable) i (a + i))

pub slice_read_answer : (s : DevState) (a n i : ℕ) → i < min (s.size - a) n → read_answer (slice_state s a n) i ≡ relabel i (read_answer s (a + i))
slice_read_answer s a n i h = ap done (slice_read s a n i h) ∙ relabel_done i (read s (a + i))

pub slice_read_bytes : (s : DevState) (a n i : ℕ) (old : List ℕ) → i < min (s.size - a) n → read_bytes (slice_state s a n) i old ≡ read_bytes s (a + i) old
slice_read_bytes s a n i old h = ap (λ x. given_or x old) (slice_read s a n i h) ∙ relabel_given i (read s (a + i)) old

past : (s : DevState) (a n i : ℕ) (b : List ℕ) → i < n → (z : Bool) → cond z (slice_state s a n) (written (slice_state s a n) i b) ≡ slice_state (cond z s (written s (a + i) b)) a n
past s a n i b l true = refl
past s a n i b l false =
    let e : set (take n (drop a s.contents)) i (holds b) ≡ take n (drop a (set s.contents (a + i) (holds b))) = sym (take-set-lt n (drop a s.contents) i (holds b) l) ∙ ap (take n) (sym (drop-set-add a s.contents i (holds b))) in
    ap (λ xs. let t : DevState = record { size = min (s.size - a) n; contents = xs; actions = s.actions - 1; settled = false } in t) e

inner_write : (s : DevState) (a n i : ℕ) (b : List ℕ) → i < min (s.size - a) n → write_step (slice_state s a n) i b ≡ slice_state (write_step s (a + i) b) a n
inner_write s a n i b h =
    let l : a + i < s.size = omega arith in
    rw (lt-ltb i (min (s.size - a) n) h, lt-ltb (a + i) s.size l) (past s a n i b (omega arith) (eqb s.actions 0))

-- the slice of a device that was written through it
pub slice_written : (s : DevState) (a n i : ℕ) (b : List ℕ) → slice_state (slice_write s a n i b) a n ≡ write_step (slice_state s a n) i b
slice_written s a n i b =
    ⊎_elim (λ h. rw (lt-ltb i (min (s.size - a) n) h) (sym (inner_write s a n i b h) ∙ rw (lt-ltb i (min (s.size - a) n) h))
    ) (λ h. rw (le-ltb i (min (s.size - a) n) h)) (cases_lt i (min (s.size - a) n))

relabel_write : (z : Bool) (i j : ℕ) → cond z (refusal Spent i) (Ok tt) ≡ relabel i (cond z (refusal Spent j) (Ok tt))
relabel_write true i j = refl
relabel_write false i j = refl

pub slice_write_answer : (s : DevState) (a n i : ℕ) → i < min (s.size - a) n → write_answer (slice_state s a n) i ≡ relabel i (write_answer s (a + i))
slice_write_answer s a n i h =
    let l : a + i < s.size = omega arith in
    rw (lt-ltb i (min (s.size - a) n) h, lt-ltb (a + i) s.size l) (relabel_write (eqb s.actions 0) i (a + i))

inside : (s : DevState) (a n i : ℕ) (b : List ℕ) → i < n → (y z : Bool) → Outside a n s (cond y (cond z s (written s (a + i) b)) s)
inside s a n i b l true true = (refl, refl, refl)
inside s a n i b l false z = (refl, refl, refl)
inside s a n i b l true false = (refl, sym (take-set-le a s.contents (a + i) (holds b) (omega arith)), sym (drop-set-lt (a + n) s.contents (a + i) (holds b) (omega arith)))

-- a write through a slice leaves what lies outside
pub write_outside : (s : DevState) (a n i : ℕ) (b : List ℕ) → Outside a n s (slice_write s a n i b)
write_outside s a n i b =
    ⊎_elim (λ h. rw (lt-ltb i (min (s.size - a) n) h) (inside s a n i b (omega arith) (ltb (a + i) s.size) (eqb s.actions 0))
    ) (λ h. rw (le-ltb i (min (s.size - a) n) h) (refl, refl, refl)) (cases_lt i (min (s.size - a) n))

forced_part : (s : DevState) (a n : ℕ) (z : Bool) → slice_state (cond z s (forced s)) a n ≡ cond z (slice_state s a n) (forced (slice_state s a n))
forced_part s a n true = refl
forced_part s a n false = refl

-- the slice of a device that was forced through it
pub slice_forced : (s : DevState) (a n : ℕ) → slice_state (force_step s) a n ≡ force_step (slice_state s a n)
slice_forced s a n = forced_part s a n (eqb s.actions 0)

unforced : (s : DevState) (a n : ℕ) (z : Bool) → Outside a n s (cond z s (forced s))
unforced s a n true = (refl, refl, refl)
unforced s a n false = (refl, refl, refl)

-- a force leaves what lies outside
pub force_outside : (s : DevState) (a n : ℕ) → Outside a n s (force_step s)
force_outside s a n = unforced s a n (eqb s.actions 0)
