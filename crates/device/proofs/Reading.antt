-- The laws of reading sectors in a row, and what a read that was answered says. Assumes nothing.
use Rattle.std.proofs.Common.{◌≡◌, ℕ, zero, suc, ◌+◌, ◌<◌, ◌⊎◌, List, [], ◌∷◌, length, get_or, Ok, Err, Result, sym, refl, ap, ◌∙◌, inl, inr, arith}
use Rattle.device.specs.State.{DevState}
use Rattle.device.specs.Steps.{read, then_read, reads, done, given_or}
use Rattle.device.specs.Laws.{ReadsEach, ReadsStops, ReadLaws}
use Rattle.device.specs.declared.fault.DeviceFault.{DeviceFault}

-- a value is no refusal
never : {A B : Type 0} (x : A) (f : DeviceFault) → ◌≡◌ {A = Result A DeviceFault} (Ok x) (Err f) → B
never x f h = let z : ◌≡◌ {A = ℕ} 0 1 = cc in let y : ⊥ = omega arith in absurd y

-- a read that was accepted gave what the buffer then holds
pub read_ok : (x : Result (List ℕ) DeviceFault) (old : List ℕ) → done x ≡ Ok tt → x ≡ Ok (given_or x old)
read_ok (Ok b) old h = refl
read_ok (Err f) old h = never tt f (sym h)

-- a read that was refused left the buffer
pub read_err : (x : Result (List ℕ) DeviceFault) (old : List ℕ) (f : DeviceFault) → done x ≡ Err f → (x ≡ Err f) × (given_or x old ≡ old)
read_err (Ok b) old f h = never tt f h
read_err (Err g) old f h = let e : g ≡ f = cc in (ap (λ y. Err y) e, refl)

both : (x : Result (List ℕ) DeviceFault) (y : Result (List (List ℕ)) DeviceFault) (bs : List (List ℕ)) → then_read x y ≡ Ok bs
    → (b : List ℕ) × (cs : List (List ℕ)) × (x ≡ Ok b) × (y ≡ Ok cs) × (b ∷ cs ≡ bs)
both (Ok b) (Ok cs) bs h = (b, cs, refl, refl, cc)
both (Ok b) (Err f) bs h = never bs f (sym h)
both (Err f) y bs h = never bs f (sym h)

at_place : (d : DevState) (i n j : ℕ) → j < suc n → (b : List ℕ) (cs : List (List ℕ)) → read d i ≡ Ok b
    → ((k : ℕ) → k < n → read d (i + 1 + k) ≡ Ok (get_or cs k [])) → read d (i + j) ≡ Ok (get_or (b ∷ cs) j [])
at_place d i n zero h b cs e f = let z : i + 0 ≡ i = omega arith in ap (read d) z ∙ e
at_place d i n (suc j) h b cs e f = let z : i + suc j ≡ i + 1 + j = omega arith in ap (read d) z ∙ f j (omega arith)

pub reads_each : ReadsEach
reads_each d i zero bs h = let q : [] ≡ bs = cc in (ap length (sym q), λ j l. let x : ⊥ = omega arith in absurd x)
reads_each d i (suc n) bs h =
    let p = both (read d i) (reads d (i + 1) n) bs h in
    let r = reads_each d (i + 1) n p.1 p.3 in
    (ap length (sym p.4) ∙ ap suc r.0, λ j l. at_place d i n j l p.0 p.1 p.2 r.1 ∙ ap (λ xs. Ok (get_or xs j [])) p.4)

either : (x : Result (List ℕ) DeviceFault) (y : Result (List (List ℕ)) DeviceFault) (f : DeviceFault) → then_read x y ≡ Err f
    → (x ≡ Err f) ⊎ ((b : List ℕ) × (x ≡ Ok b) × (y ≡ Err f))
either (Ok b) (Ok cs) f h = never (b ∷ cs) f h
either (Ok b) (Err g) f h = inr (b, refl, h)
either (Err g) y f h = let e : g ≡ f = cc in inl (ap (λ z. Err z) e)

before : (d : DevState) (i j k : ℕ) → k < suc j → (b : List ℕ) → read d i ≡ Ok b
    → ((m : ℕ) → m < j → (c : List ℕ) × (read d (i + 1 + m) ≡ Ok c)) → (c : List ℕ) × (read d (i + k) ≡ Ok c)
before d i j zero h b e f = let z : i + 0 ≡ i = omega arith in (b, ap (read d) z ∙ e)
before d i j (suc k) h b e f =
    let z : i + suc k ≡ i + 1 + k = omega arith in
    let p = f k (omega arith) in
    (p.0, ap (read d) z ∙ p.1)

-- where reading is refused: at the first sector, or further on
abbrev At : DevState → ℕ → ℕ → DeviceFault → Type 0
At d i n f = (j : ℕ) × (j < n) × (read d (i + j) ≡ Err f) × ((k : ℕ) → k < j → (b : List ℕ) × (read d (i + k) ≡ Ok b))

at_first : (d : DevState) (i n : ℕ) (f : DeviceFault) → read d i ≡ Err f → At d i (suc n) f
at_first d i n f e = let z : i + 0 ≡ i = omega arith in (0, omega arith, ap (read d) z ∙ e, λ k l. let x : ⊥ = omega arith in absurd x)

further : (d : DevState) (i n : ℕ) (f : DeviceFault) (b : List ℕ) → read d i ≡ Ok b → At d (i + 1) n f → At d i (suc n) f
further d i n f b e p =
    let z : i + suc p.0 ≡ i + 1 + p.0 = omega arith in
    (suc p.0, omega (arith, p.1), ap (read d) z ∙ p.2, λ k l. before d i p.0 k l b e p.3)

pub reads_stops : ReadsStops
reads_stops d i zero f h = never [] f h
reads_stops d i (suc n) f h =
    elim (either (read d i) (reads d (i + 1) n) f h) [ inl e ↦ at_first d i n f e | inr p ↦ further d i n f p.0 p.1 (reads_stops d (i + 1) n f p.2) ]

pub read_laws : ReadLaws
read_laws = record { each = reads_each; stops = reads_stops }
