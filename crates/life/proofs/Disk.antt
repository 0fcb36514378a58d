-- What runs and cuts do to the contents that sectors have held.
use Rattle.std.proofs.Common.{◌≡◌, ℕ, zero, suc, Bool, true, false, cond, T, eqb, List, [], ◌∷◌, ◌++◌, sym, refl, ap, ◌∙◌, subst, inl, eqb→eq}
use lib.Dec.{eqb_refl}
use Rattle.life.specs.Disk.{Sector, holds, Action, write, force, Disk, In, AllByRecursion, put, act, run, Writes, Fixed}
use Rattle.life.specs.Calls.{effect}
use Rattle.life.proofs.Lists.{false_true, in_all}

-- a change at one place, by cases: what holds of the new value and of the old ones holds everywhere
pub put_each : {A : Type 0} (P : ℕ → A → Type 0) (f : ℕ → A) (i : ℕ) (v : A) (j : ℕ) → (j ≡ i → P j v) → P j (f j) → P j (put f i v j)
put_each {A} P f i v j here there = go (eqb j i) refl
  where
    go : (b : Bool) → eqb j i ≡ b → P j (cond b v (f j))
    go true e = here (eqb→eq j i (subst T (sym e) tt))
    go false e = there

-- the same, with the places told apart
pub put_case : {A : Type 0} (P : A → Type 0) (f : ℕ → A) (i : ℕ) (v : A) (j : ℕ) → (j ≡ i → P v) → ((j ≡ i → ⊥) → P (f j)) → P (put f i v j)
put_case {A} P f i v j here there = go (eqb j i) refl
  where
    go : (b : Bool) → eqb j i ≡ b → P (cond b v (f j))
    go true e = here (eqb→eq j i (subst T (sym e) tt))
    go false e = there (λ q. subst T e (subst (λ (n : ℕ). T (eqb j n)) q (eqb_refl j)))

-- each sector's contents are among those that it has held
abbrev pub Current : Disk → Type 0
Current d = (j : ℕ) → In (d.now j) (d.past j)

-- all that sectors have held since the last force has P
abbrev pub Every : (ℕ → Sector → Type 0) → Disk → Type 0
Every P d = (j : ℕ) → AllByRecursion (P j) (d.past j)

-- an accepted action leaves its contents among those held
act_current : (a : Action) (k : ℕ) (d : Disk) → Current d → Current (act a k d)
act_current (write i s) k d c j =
    go (eqb j i) refl
  where
    go : (b : Bool) → eqb j i ≡ b → In (cond b (holds s) (d.now j)) (cond b (holds s ∷ d.past i) (d.past j))
    go true e = inl refl
    go false e = c j
act_current force k d c j = inl refl

-- it keeps what holds of all that was held and of what it writes
act_every : (P : ℕ → Sector → Type 0) (a : Action) (k : ℕ) (d : Disk) → Current d → Every P d → Writes P (a ∷ []) → Every P (act a k d)
act_every P (write i s) k d c e w j =
    put_each (λ j l. AllByRecursion (P j) l) d.past i (holds s ∷ d.past i) j
    (λ same. subst (λ (n : ℕ). AllByRecursion (P n) (holds s ∷ d.past i)) (sym same) (w.0, e i)) (e j)
act_every P force k d c e w j = (in_all (P j) (d.now j) (d.past j) (e j) (c j), tt)

-- all that is held has P, the present contents too
abbrev pub Kept : (ℕ → Sector → Type 0) → Disk → Type 0
Kept P d = Current d × Every P d

-- the first action and the rest
writes_one : (P : ℕ → Sector → Type 0) (a : Action) (rest : List Action) → Writes P (a ∷ rest) → Writes P (a ∷ []) × Writes P rest
writes_one P (write i s) rest w = ((w.0, tt), w.1)
writes_one P force rest w = (tt, w)

-- a run keeps what holds of all that was held and of all that it writes, wherever it is refused
pub run_keeps : (P : ℕ → Sector → Type 0) (l : List Action) (d : Disk) → Kept P d → Writes P l → Kept P (run l d).0
run_keeps P [] d h w = h
run_keeps P (a ∷ rest) d h w = go d.left (λ k. run_keeps P rest (act a k d) (next k) (writes_one P a rest w).1)
  where
    next : (k : ℕ) → Kept P (act a k d)
    next k = (act_current a k d h.0, act_every P a k d h.0 h.1 (writes_one P a rest w).0)

    go : (n : ℕ) → ((k : ℕ) → Kept P (run rest (act a k d)).0) →
        Kept P (elim n as (λ _. Disk × Bool) [ zero ↦ (d, false) | suc k ↦ run rest (act a k d) ]).0
    go zero ih = h
    go (suc k) ih = ih k

-- an accepted run ends as its actions leave the device; one that ends in a force leaves nothing to lose
pub run_forced : (l : List Action) (d : Disk) → (run (l ++ (force ∷ [])) d).1 ≡ true → Fixed (run (l ++ (force ∷ [])) d).0
run_forced [] d ok = go d.left ok
  where
    go : (n : ℕ) → (elim n as (λ _. Disk × Bool) [ zero ↦ (d, false) | suc k ↦ (act force k d, true) ]).1 ≡ true →
        Fixed (elim n as (λ _. Disk × Bool) [ zero ↦ (d, false) | suc k ↦ (act force k d, true) ]).0
    go zero e = false_true e
    go (suc k) e = λ j. refl
run_forced (a ∷ rest) d ok = go d.left ok (λ k. run_forced rest (act a k d))
  where
    go : (n : ℕ) → (elim n as (λ _. Disk × Bool) [ zero ↦ (d, false) | suc k ↦ run (rest ++ (force ∷ [])) (act a k d) ]).1 ≡ true →
        ((k : ℕ) → (run (rest ++ (force ∷ [])) (act a k d)).1 ≡ true → Fixed (run (rest ++ (force ∷ [])) (act a k d)).0) →
        Fixed (elim n as (λ _. Disk × Bool) [ zero ↦ (d, false) | suc k ↦ run (rest ++ (force ∷ [])) (act a k d) ]).0
    go zero e ih = false_true e
    go (suc k) e ih = ih k e

-- a refused run has no action left
pub refused_left : (l : List Action) (d : Disk) → (run l d).1 ≡ false → (run l d).0.left ≡ 0
refused_left [] d e = false_true (sym e)
refused_left (a ∷ rest) d e = go d.left refl e (λ k. refused_left rest (act a k d))
  where
    go : (n : ℕ) → d.left ≡ n → (elim n as (λ _. Disk × Bool) [ zero ↦ (d, false) | suc k ↦ run rest (act a k d) ]).1 ≡ false →
        ((k : ℕ) → (run rest (act a k d)).1 ≡ false → (run rest (act a k d)).0.left ≡ 0) →
        (elim n as (λ _. Disk × Bool) [ zero ↦ (d, false) | suc k ↦ run rest (act a k d) ]).0.left ≡ 0
    go zero q e ih = q
    go (suc k) q e ih = ih k e

-- with none left nothing happens
pub run_none : (a : Action) (rest : List Action) (d : Disk) → d.left ≡ 0 → run (a ∷ rest) d ≡ (d, false)
run_none a rest d e = ap (λ (n : ℕ). elim n as (λ _. Disk × Bool) [ zero ↦ (d, false) | suc k ↦ run rest (act a k d) ]) e

-- one list of actions after another
pub run-++ : (l m : List Action) (d : Disk) → run (l ++ m) d ≡ cond (run l d).1 (run m (run l d).0) (run l d)
run-++ [] m d = refl
run-++ (a ∷ l) m d = go d.left (λ k. run-++ l m (act a k d))
  where
    go : (n : ℕ) → ((k : ℕ) → run (l ++ m) (act a k d) ≡ cond (run l (act a k d)).1 (run m (run l (act a k d)).0) (run l (act a k d))) →
        (elim n as (λ _. Disk × Bool) [ zero ↦ (d, false) | suc k ↦ run (l ++ m) (act a k d) ]) ≡
        cond (elim n as (λ _. Disk × Bool) [ zero ↦ (d, false) | suc k ↦ run l (act a k d) ]).1
        (run m (elim n as (λ _. Disk × Bool) [ zero ↦ (d, false) | suc k ↦ run l (act a k d) ]).0)
        (elim n as (λ _. Disk × Bool) [ zero ↦ (d, false) | suc k ↦ run l (act a k d) ])
    go zero ih = refl
    go (suc k) ih = ih k

-- one list of writes after another
pub effect-++ : (l m : List Action) (c : ℕ → Sector) → effect (l ++ m) c ≡ effect m (effect l c)
effect-++ [] m c = refl
effect-++ (write i s ∷ l) m c = effect-++ l m (put c i (holds s))
effect-++ (force ∷ l) m c = effect-++ l m c

-- what both lists write has P
pub writes-++ : (P : ℕ → Sector → Type 0) (l m : List Action) → Writes P l → Writes P m → Writes P (l ++ m)
writes-++ P [] m v w = w
writes-++ P (write i s ∷ l) m v w = (v.0, writes-++ P l m v.1 w)
writes-++ P (force ∷ l) m v w = writes-++ P l m v w

-- one property for another
pub writes_map : (P Q : ℕ → Sector → Type 0) (l : List Action) → ((i : ℕ) (s : Sector) → P i s → Q i s) → Writes P l → Writes Q l
writes_map P Q [] f w = tt
writes_map P Q (write i s ∷ l) f w = (f i (holds s) w.0, writes_map P Q l f w.1)
writes_map P Q (force ∷ l) f w = writes_map P Q l f w

-- a sector that none of the writes names stays
pub effect_other : (l : List Action) (c : ℕ → Sector) (j : ℕ) → Writes (λ i s. j ≡ i → ⊥) l → effect l c j ≡ c j
effect_other [] c j w = refl
effect_other (write i s ∷ l) c j w =
    effect_other l (put c i (holds s)) j w.1 ∙ put_each (λ k z. k ≡ j → z ≡ c j) c i (holds s) j (λ e _. absurd (w.0 e)) (λ _. refl) refl
effect_other (force ∷ l) c j w = effect_other l c j w

-- an accepted run's contents
pub run_effect : (l : List Action) (d : Disk) → (run l d).1 ≡ true → (run l d).0.now ≡ effect l d.now
run_effect [] d ok = refl
run_effect (a ∷ rest) d ok = go d.left ok (λ k. run_effect rest (act a k d)) a refl
  where
    go : (n : ℕ) → (elim n as (λ _. Disk × Bool) [ zero ↦ (d, false) | suc k ↦ run rest (act a k d) ]).1 ≡ true →
        ((k : ℕ) → (run rest (act a k d)).1 ≡ true → (run rest (act a k d)).0.now ≡ effect rest (act a k d).now) →
        (b : Action) → a ≡ b →
        (elim n as (λ _. Disk × Bool) [ zero ↦ (d, false) | suc k ↦ run rest (act a k d) ]).0.now ≡ effect (a ∷ rest) d.now
    go zero e ih b q = false_true e
    go (suc k) e ih (write i s) q = ih k e ∙ ap (λ (z : Action). effect rest (act z k d).now) q ∙ ap (λ (z : Action). effect (z ∷ rest) d.now) (sym q)
    go (suc k) e ih force q = ih k e ∙ ap (λ (z : Action). effect rest (act z k d).now) q ∙ ap (λ (z : Action). effect (z ∷ rest) d.now) (sym q)
