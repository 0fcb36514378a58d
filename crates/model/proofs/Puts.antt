-- The sectors of a record on a device. Assumes nothing.
use Rattle.std.proofs.Common.{◌≡◌, ℕ, zero, suc, ◌+◌, ◌*◌, ◌/◌, ◌%◌, ◌<◌, ◌≤◌, ◌⊎◌, List, [], ◌∷◌, length, get_or, set, Ok, sym, refl, ap, ◌∙◌, inl, inr, mul-le-mul_right, mod-lt, suc-mul, div-add-mod', arith}
use Rattle.std.proofs.lemmas.List.{get_or-set_same, get_or-set_other, length-set}
use Rattle.std.proofs.lemmas.Bool.{cases_lt}
use Rattle.device.specs.State.{Sector, holds, unreadable}
use Rattle.device.specs.Steps.{readable, read, reads}
use Rattle.device.specs.Actions.{effect}
use Rattle.label.specs.declared.label.Label.{Label}
use Rattle.label.specs.Position.{log_sector, volume_sector}
use Rattle.model.specs.Lay.{record_writes}
use Rattle.model.specs.Laws.{WritesPut, HeldStand}
use Rattle.device.proofs.Reading.{reads_each}
use Rattle.model.proofs.Outcomes.{device_ok, read_held}

-- two positions less than a turn apart are not on one sector
pub apart : (N x y : ℕ) → 1 ≤ N → x < y → y < x + N → x % N ≡ y % N → ⊥
apart N x y p h l e = go (cases_lt (x / N) (y / N))
  where
    go : (x / N < y / N) ⊎ (y / N ≤ x / N) → ⊥
    go (inl a) =
        let m : suc (x / N) * N ≤ y / N * N = mul-le-mul_right N a in
        omega (arith, m, suc-mul (x / N) N, div-add-mod' x N, div-add-mod' y N, e)
    go (inr b) =
        let m : y / N * N ≤ x / N * N = mul-le-mul_right N b in
        omega (arith, m, div-add-mod' x N, div-add-mod' y N, e)

puts_other : (L : Label) (secs : List (List ℕ)) (x : ℕ) (c : List Sector) (i : ℕ) → ((j : ℕ) → j < length secs → volume_sector L (x + j) ≡ i → ⊥) →
    get_or (effect (record_writes L x secs) c) i unreadable ≡ get_or c i unreadable
puts_other L [] x c i h = refl
puts_other L (b ∷ secs) x c i h =
    let z : x + 0 ≡ x = omega arith in
    puts_other L secs (x + 1) (set c (volume_sector L x) (holds b)) i (λ j l e. let q : x + suc j ≡ x + 1 + j = omega arith in h (suc j) (omega arith) (ap (volume_sector L) q ∙ e))
    ∙ get_or-set_other c (volume_sector L x) i (holds b) unreadable (λ e. h 0 (omega arith) (ap (volume_sector L) z ∙ sym e))

puts_at : (L : Label) (secs : List (List ℕ)) (x : ℕ) (c : List Sector) (j : ℕ) → 1 ≤ L.count → length secs ≤ L.count → L.start + L.count ≤ length c → j < length secs →
    get_or (effect (record_writes L x secs) c) (volume_sector L (x + j)) unreadable ≡ holds (get_or secs j [])
puts_at L [] x c j p n m h = let z : ⊥ = omega arith in elim z [ ]
puts_at L (b ∷ secs) x c zero p n m h =
    let z : x + 0 ≡ x = omega arith in
    let i : log_sector L x < L.count = mod-lt x p in
    ap (λ k. get_or (effect (record_writes L (x + 1) secs) (set c (volume_sector L x) (holds b))) (volume_sector L k) unreadable) z
    ∙ puts_other L secs (x + 1) (set c (volume_sector L x) (holds b)) (volume_sector L x)
    (λ j l e. apart L.count x (x + 1 + j) p (omega arith) (omega arith) (omega (arith, e)))
    ∙ get_or-set_same c (volume_sector L x) (holds b) unreadable (omega (arith, i, m))
puts_at L (b ∷ secs) x c (suc j) p n m h =
    let z : x + suc j ≡ x + 1 + j = omega arith in
    ap (λ k. get_or (effect (record_writes L (x + 1) secs) (set c (volume_sector L x) (holds b))) (volume_sector L k) unreadable) z
    ∙ puts_at L secs (x + 1) (set c (volume_sector L x) (holds b)) j p (omega arith) (omega (arith, length-set c (volume_sector L x) (holds b))) (omega arith)

pub writes_put : WritesPut
writes_put L x secs c p n m = record { put = λ j h. puts_at L secs x c j p n m h; kept = λ i h. puts_other L secs x c i h }

pub held_stand : HeldStand
held_stand d L log x secs p e f j h =
    let i : ℕ = log_sector L (x + j) in
    let r : read d (L.start + i) ≡ Ok (get_or log i []) = (reads_each d L.start L.count log (device_ok (reads d L.start L.count) log e)).1 i (mod-lt (x + j) p) in
    let q : Ok (get_or secs j []) ≡ Ok (get_or log i []) = ap (readable (L.start + i)) (sym (f j h)) ∙ read_held d (L.start + i) (get_or log i []) r in
    let same : get_or secs j [] ≡ get_or log i [] = cc in
    sym same
