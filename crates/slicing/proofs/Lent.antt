-- What a lender has once a slice of its device is gone. Assumes nothing.
use Rattle.std.proofs.Common.{◌≡◌, ℕ, ◌+◌, List, ◌++◌, take, drop, sym, ap, ◌∙◌}
use Rattle.std.proofs.lemmas.List.{take-append-drop, drop-drop}
use Rattle.device.specs.State.{DevState, bundle}
use Rattle.device.specs.Steps.{write_step, force_step}
use Rattle.slicing.specs.Slices.{slice_state, slice_write, Outside}
use Rattle.slicing.proofs.Shift.{slice_written, write_outside, slice_forced, force_outside}

-- what follows place a, in two parts
parted : {X : Type 0} (a n : ℕ) (xs : List X) → drop a xs ≡ take n (drop a xs) ++ drop (a + n) xs
parted a n xs = sym (take-append-drop n (drop a xs)) ∙ ap (λ zs. take n (drop a xs) ++ zs) (drop-drop n a xs)

-- lists that agree before a part, on it and after it
agree : {X : Type 0} (a n : ℕ) (xs ys : List X) → take a xs ≡ take a ys → take n (drop a xs) ≡ take n (drop a ys) → drop (a + n) xs ≡ drop (a + n) ys → xs ≡ ys
agree a n xs ys before on after =
    sym (take-append-drop a xs)
    ∙ ap (λ zs. take a xs ++ zs) (parted a n xs ∙ ap (λ zs. zs ++ drop (a + n) xs) on ∙ ap (λ zs. take n (drop a ys) ++ zs) after ∙ sym (parted a n ys))
    ∙ ap (λ zs. zs ++ drop a ys) before
    ∙ take-append-drop a ys

-- devices with the same slice and the same rest are the same
pub same_device : (a n : ℕ) (d e : DevState) → slice_state d a n ≡ slice_state e a n → Outside a n d e → d ≡ e
same_device a n d e on out =
    ap (λ x. bundle x d.contents d.actions d.settled) out.0
    ∙ ap (λ xs. bundle e.size xs d.actions d.settled) (agree a n d.contents e.contents out.1 (ap (λ s. s.contents) on) out.2)
    ∙ ap (λ x. bundle e.size e.contents x d.settled) (ap (λ s. s.actions) on)
    ∙ ap (λ b. bundle e.size e.contents e.actions b) (ap (λ s. s.settled) on)

meet : (a n : ℕ) (s d e : DevState) → Outside a n s d → Outside a n s e → Outside a n d e
meet a n s d e p q = (sym p.0 ∙ q.0, sym p.1 ∙ q.1, sym p.2 ∙ q.2)

-- the lender's device after a write through a slice of it
pub lent_written : (s e : DevState) (a n i : ℕ) (b : List ℕ) → slice_state e a n ≡ write_step (slice_state s a n) i b → Outside a n s e → e ≡ slice_write s a n i b
lent_written s e a n i b h out =
    same_device a n e (slice_write s a n i b) (h ∙ sym (slice_written s a n i b)) (meet a n s e (slice_write s a n i b) out (write_outside s a n i b))

-- and after a force through it
pub lent_forced : (s e : DevState) (a n : ℕ) → slice_state e a n ≡ force_step (slice_state s a n) → Outside a n s e → e ≡ force_step s
lent_forced s e a n h out =
    same_device a n e (force_step s) (h ∙ sym (slice_forced s a n)) (meet a n s e (force_step s) out (force_outside s a n))
