-- Positions read one after the other. Assumes nothing.
use Rattle.std.proofs.Common.{◌≡◌, ℕ, zero, suc, ◌+◌, ◌<◌, List, [], ◌++◌, Ok, Err, Result, sym, refl, ap, ◌∙◌, append_assoc, append-nil, arith}
use Rattle.codec.specs.Fields.{joined}
use Rattle.device.specs.State.{DevState, sector_at, bytes_of}
use Rattle.device.specs.Steps.{read, then_read, then_rest}
use Rattle.device.specs.declared.fault.DeviceFault.{DeviceFault}
use Rattle.label.specs.declared.label.Label.{Label}
use Rattle.label.specs.Position.{volume_sector}
use Rattle.volume_log.proofs.Outcomes.{not_both}
use Rattle.volume_log.proofs.Rows.{Each, each_first, each_next, read_holds}
use Rattle.chain.specs.Rows.{row, told, sectors_on, one_more, read_before}

-- the bytes at position x
abbrev pub bytes_at : DevState → Label → ℕ → List ℕ
bytes_at d L x = bytes_of (sector_at d (volume_sector L x))

-- the sectors of the positions from x on
abbrev pub along : Label → ℕ → ℕ → ℕ
along L x k = volume_sector L (x + k)

along_next : (L : Label) (x k : ℕ) → along L x (suc k) ≡ along L (x + 1) k
along_next L x k = let e : x + suc k ≡ x + 1 + k = omega arith in ap (volume_sector L) e

along_first : (L : Label) (x : ℕ) → along L x 0 ≡ volume_sector L x
along_first L x = let e : x + 0 ≡ x = omega arith in ap (volume_sector L) e

-- all of them are read
pub on_all : (d : DevState) (L : Label) (x n : ℕ) → Each d (along L x) n → (sectors_on d L x n ≡ Ok (row d L x n)) × (read_before d L x n ≡ n)
on_all d L x zero h = (refl, refl)
on_all d L x (suc n) h =
    let f = each_first d (along L x) n (volume_sector L x) (along_first L x) h in
    let r = on_all d L (x + 1) n (each_next d (along L x) (along L (x + 1)) n (along_next L x) h) in
    (ap (λ y. then_read y (sectors_on d L (x + 1) n)) f ∙ ap (then_rest (bytes_at d L x)) r.0, ap (λ y. one_more y (read_before d L (x + 1) n)) f ∙ ap suc r.1)

-- or those before the first refusal
pub on_stop : (d : DevState) (L : Label) (x n j : ℕ) (f : DeviceFault) → j < n → Each d (along L x) j → read d (volume_sector L (x + j)) ≡ Err f → (sectors_on d L x n ≡ Err f) × (read_before d L x n ≡ j)
on_stop d L x zero j f l h e = absurd (omega arith)
on_stop d L x (suc n) zero f l h e =
    let z : x + 0 ≡ x = omega arith in
    let g : read d (volume_sector L x) ≡ Err f = ap (λ y. read d (volume_sector L y)) (sym z) ∙ e in
    (ap (λ y. then_read y (sectors_on d L (x + 1) n)) g, ap (λ y. one_more y (read_before d L (x + 1) n)) g)
on_stop d L x (suc n) (suc j) f l h e =
    let z : x + suc j ≡ x + 1 + j = omega arith in
    let g = each_first d (along L x) j (volume_sector L x) (along_first L x) h in
    let r = on_stop d L (x + 1) n j f (omega arith) (each_next d (along L x) (along L (x + 1)) j (along_next L x) h) (ap (λ y. read d (volume_sector L y)) (sym z) ∙ e) in
    (ap (λ y. then_read y (sectors_on d L (x + 1) n)) g ∙ ap (then_rest (bytes_at d L x)) r.0, ap (λ y. one_more y (read_before d L (x + 1) n)) g ∙ ap suc r.1)

-- one position more
pub joined_more : (d : DevState) (L : Label) (x k : ℕ) → joined (row d L x (k + 1)) ≡ joined (row d L x k) ++ bytes_at d L (x + k)
joined_more d L x zero = let z : x ≡ x + 0 = omega arith in let n : bytes_at d L x ++ [] ≡ bytes_at d L x = simp append-nil in n ∙ ap (bytes_at d L) z
joined_more d L x (suc k) =
    let s : suc k + 1 ≡ suc (k + 1) = omega arith in
    let z : x + 1 + k ≡ x + suc k = omega arith in
    ap (λ i. joined (row d L x i)) s ∙ ap (λ y. bytes_at d L x ++ y) (joined_more d L (x + 1) k ∙ ap (λ y. joined (row d L (x + 1) k) ++ bytes_at d L y) z)
    ∙ sym (append_assoc (bytes_at d L x) (joined (row d L (x + 1) k)) (bytes_at d L (x + suc k)))

-- where all were read, they are the row
pub on_told : (d : DevState) (L : Label) (x n : ℕ) → told (sectors_on d L x n) ≡ Ok tt → (sectors_on d L x n ≡ Ok (row d L x n)) × (read_before d L x n ≡ n)
on_told d L x zero h = (refl, refl)
on_told d L x (suc n) h =
    let p = parts (read d (volume_sector L x)) (sectors_on d L (x + 1) n) h in
    let b : read d (volume_sector L x) ≡ Ok (bytes_at d L x) = p.1 ∙ ap Ok (read_holds d (volume_sector L x) p.0 p.1) in
    let r = on_told d L (x + 1) n p.2 in
    (ap (λ y. then_read y (sectors_on d L (x + 1) n)) b ∙ ap (then_rest (bytes_at d L x)) r.0, ap (λ y. one_more y (read_before d L (x + 1) n)) b ∙ ap suc r.1)
  where
    parts : (r : Result (List ℕ) DeviceFault) (q : Result (List (List ℕ)) DeviceFault) → told (then_read r q) ≡ Ok tt → (b : List ℕ) × (r ≡ Ok b) × (told q ≡ Ok tt)
    parts (Ok b) (Ok bs) e = (b, refl, refl)
    parts (Ok b) (Err f) e = not_both (Err f) tt f e refl
    parts (Err f) q e = not_both (Err f) tt f e refl

pub told_err : (r : Result (List (List ℕ)) DeviceFault) (f : DeviceFault) → told r ≡ Err f → r ≡ Err f
told_err (Ok bs) f e = not_both (Err f) tt f (sym e) refl
told_err (Err h) f e = let q : h ≡ f = cc in ap Err q
