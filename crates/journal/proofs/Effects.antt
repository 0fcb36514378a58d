-- What writes in a row leave on each sector. Assumes nothing.
use Rattle.std.proofs.Common.{◌≡◌, ℕ, zero, suc, ◌+◌, ◌-◌, ◌<◌, ◌≤◌, Bool, true, false, cond, eqb, ltb, ◌≢◌, ◌⊎◌, List, [], ◌∷◌, ◌++◌, length, get_or, set, Ok, refl, ap, ◌∙◌, inl, inr, arith, length-set, get_or-set_other, get_or-set_same}
use Rattle.std.proofs.lemmas.Bool.{eqb-false}
use Rattle.device.specs.State.{DevState, Sector, holds, unreadable}
use Rattle.device.specs.Steps.{refusal, written, forced}
use Rattle.device.specs.Actions.{Action, write, force, effect, writes, Ran, then, run}
use Rattle.device.specs.Laws.{settled_after, after_all}
use Rattle.device.specs.declared.fault.Cause.TheVariants.{Spent, Beyond}

-- the effect of two lists is that of the first and then the second
pub effect_joins : (xs ys : List Action) (c : List Sector) → effect (xs ++ ys) c ≡ effect ys (effect xs c)
effect_joins [] ys c = refl
effect_joins (write i b ∷ xs) ys c = effect_joins xs ys (set c i (holds b))
effect_joins (force ∷ xs) ys c = effect_joins xs ys c

-- no sector comes or goes
pub length_effect : (xs : List Action) (c : List Sector) → length (effect xs c) ≡ length c
length_effect [] c = refl
length_effect (write i b ∷ xs) c = length_effect xs (set c i (holds b)) ∙ length-set c i (holds b)
length_effect (force ∷ xs) c = length_effect xs c

-- a sector beside those that are written stays
pub writes_beside : (i : ℕ) (bs : List (List ℕ)) (c : List Sector) (j : ℕ) → (j < i) ⊎ (i + length bs ≤ j) → get_or (effect (writes i bs) c) j unreadable ≡ get_or c j unreadable
writes_beside i [] c j h = refl
writes_beside i (b ∷ bs) c j (inl l) = writes_beside (i + 1) bs (set c i (holds b)) j (inl (omega arith)) ∙ get_or-set_other c i j (holds b) unreadable (omega arith)
writes_beside i (b ∷ bs) c j (inr l) = writes_beside (i + 1) bs (set c i (holds b)) j (inr (omega arith)) ∙ get_or-set_other c i j (holds b) unreadable (omega arith)

-- each sector that is written holds what was written there
pub writes_there : (i : ℕ) (bs : List (List ℕ)) (c : List Sector) (k : ℕ) → k < length bs → i + length bs ≤ length c → get_or (effect (writes i bs) c) (i + k) unreadable ≡ holds (get_or bs k [])
writes_there i [] c k h l = let z : ⊥ = omega arith in elim z [ ]
writes_there i (b ∷ bs) c zero h l =
    let e : i + 0 ≡ i = omega arith in
    ap (λ j. get_or (effect (writes (i + 1) bs) (set c i (holds b))) j unreadable) e
    ∙ writes_beside (i + 1) bs (set c i (holds b)) i (inl (omega arith)) ∙ get_or-set_same c i (holds b) unreadable (omega arith)
writes_there i (b ∷ bs) c (suc k) h l =
    let e : i + suc k ≡ i + 1 + k = omega arith in
    ap (λ j. get_or (effect (writes (i + 1) bs) (set c i (holds b))) j unreadable) e
    ∙ writes_there (i + 1) bs (set c i (holds b)) k (omega arith) (omega (arith, length-set c i (holds b)))

-- as many actions as sectors
pub length_writes : (i : ℕ) (bs : List (List ℕ)) → length (writes i bs) ≡ length bs
length_writes i [] = refl
length_writes i (b ∷ bs) = ap suc (length_writes (i + 1) bs)

-- the settled mark after two lists
pub settled_joins : (xs ys : List Action) (s : Bool) → settled_after (xs ++ ys) s ≡ settled_after ys (settled_after xs s)
settled_joins [] ys s = refl
settled_joins (write i b ∷ xs) ys s = settled_joins xs ys false
settled_joins (force ∷ xs) ys s = settled_joins xs ys true

-- an accepted run had an action for each, and left what they leave
pub all_ran : (xs : List Action) (d : DevState) → (run xs d).answer ≡ Ok tt → (length xs ≤ d.actions) × ((run xs d).after ≡ after_all xs d)
all_ran [] d h = let e : d.actions ≡ d.actions - 0 = omega arith in (omega arith, ap (told [] d) e)
  where
    told : List Action → DevState → ℕ → DevState
    told xs d n = record { size = d.size; contents = effect xs d.contents; actions = n; settled = settled_after xs d.settled }
all_ran (write i b ∷ xs) d h = go (all_ran xs (written d i b)) (ltb i d.size) (eqb d.actions 0) refl h
  where
    ran : Bool → Bool → Ran
    ran p q = then (cond p (cond q (refusal Spent i) (Ok tt)) (refusal Beyond i)) (cond p (cond q d (written d i b)) d) (run xs (cond p (cond q d (written d i b)) d))

    told : ℕ → DevState
    told n = record { size = d.size; contents = effect xs (set d.contents i (holds b)); actions = n; settled = settled_after xs false }

    go : ((run xs (written d i b)).answer ≡ Ok tt → (length xs ≤ d.actions - 1) × ((run xs (written d i b)).after ≡ after_all xs (written d i b))) →
        (p q : Bool) → eqb d.actions 0 ≡ q → (ran p q).answer ≡ Ok tt → (suc (length xs) ≤ d.actions) × ((ran p q).after ≡ after_all (write i b ∷ xs) d)
    go ih false q e k = let z : ◌≡◌ {A = ℕ} 0 1 = cc in let y : ⊥ = omega arith in elim y [ ]
    go ih true true e k = let z : ◌≡◌ {A = ℕ} 0 1 = cc in let y : ⊥ = omega arith in elim y [ ]
    go ih true false e k =
        let r = ih k in
        let some : d.actions ≢ 0 = eqb-false d.actions 0 e in
        let m : d.actions - 1 - length xs ≡ d.actions - suc (length xs) = omega arith in
        (omega (arith, r.0), r.1 ∙ ap told m)
all_ran (force ∷ xs) d h = go (all_ran xs (forced d)) (eqb d.actions 0) refl h
  where
    ran : Bool → Ran
    ran q = then (cond q (refusal Spent 0) (Ok tt)) (cond q d (forced d)) (run xs (cond q d (forced d)))

    told : ℕ → DevState
    told n = record { size = d.size; contents = effect xs d.contents; actions = n; settled = settled_after xs true }

    go : ((run xs (forced d)).answer ≡ Ok tt → (length xs ≤ d.actions - 1) × ((run xs (forced d)).after ≡ after_all xs (forced d))) →
        (q : Bool) → eqb d.actions 0 ≡ q → (ran q).answer ≡ Ok tt → (suc (length xs) ≤ d.actions) × ((ran q).after ≡ after_all (force ∷ xs) d)
    go ih true e k = let z : ◌≡◌ {A = ℕ} 0 1 = cc in let y : ⊥ = omega arith in elim y [ ]
    go ih false e k =
        let r = ih k in
        let some : d.actions ≢ 0 = eqb-false d.actions 0 e in
        let m : d.actions - 1 - length xs ≡ d.actions - suc (length xs) = omega arith in
        (omega (arith, r.0), r.1 ∙ ap told m)
