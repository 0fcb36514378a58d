-- Runs on a volume, and on the disk that lives see. Assumes nothing.
use Rattle.std.proofs.Common.{◌≡◌, ℕ, zero, suc, ◌-◌, ◌<◌, Bool, true, false, cond, eqb, ltb, ◌⊎◌, List, [], ◌∷◌, length, get_or, set, Ok, Err, sym, refl, ap, ◌∙◌, subst, inl, inr, arith}
use Rattle.std.proofs.lemmas.List.{length-set, get_or-set_same, get_or-set_other}
use Rattle.std.proofs.lemmas.Bool.{cases_eq, eq-eqb, ne_eqb, cond-true, cond-false, lt-ltb}
use Rattle.device.specs.State.{Sector, holds, unreadable, DevState, bundle}
use Rattle.device.specs.Steps.{Answer, fault, refusal, written, forced}
use Rattle.device.specs.declared.fault.Cause.TheVariants.{Spent, Beyond}
use Rattle.device.specs.declared.fault.DeviceFault.{DeviceFault}
use Rattle.device.specs.Actions.{Action, write, force, then}
use Rattle.device.specs.Actions as device
use Rattle.device.proofs.Runs.{run_alone, run_sized}
use Rattle.life.specs.Disk.{Disk, put, Writes}
use Rattle.life.specs.Disk as disk
use Rattle.layout.specs.Volumes.{Volume, accepted, histories, after_run, disk_of}

-- a sector that is set is a sector that is put
pub set_put : (c : List Sector) (i : ℕ) (s : Sector) → i < length c → (λ j. get_or (set c i s) j unreadable) ≡ put (λ j. get_or c j unreadable) i s
set_put c i s l = λ k j. each j (cases_eq j i) k
  where
    each : (j : ℕ) → (j ≡ i) ⊎ (j ≡ i → ⊥) → get_or (set c i s) j unreadable ≡ put (λ j. get_or c j unreadable) i s j
    each j (inl e) = ap (λ x. get_or (set c i s) x unreadable) e ∙ get_or-set_same c i s unreadable l ∙ sym (cond-true (eqb j i) s (get_or c j unreadable) (eq-eqb j i e))
    each j (inr e) = get_or-set_other c i j s unreadable e ∙ sym (cond-false (eqb j i) s (get_or c j unreadable) (ne_eqb j i e))

-- a volume by its parts
abbrev volume : ℕ → List Sector → ℕ → Bool → (ℕ → List Sector) → Volume
volume n c l b p = record { device = bundle n c l b; past = p }

-- actions leave the same of a volume as of its disk, and are accepted by both or by none
abbrev Same : List Action → Volume → Type 0
Same xs v = (disk_of (after_run xs v) ≡ (disk.run xs (disk_of v)).0) × (accepted (device.run xs v.device).answer ≡ (disk.run xs (disk_of v)).1)

-- where the disk of a volume is e
along : (xs : List Action) (v : Volume) (e : Disk) → disk_of v ≡ e → Same xs v → (disk_of (after_run xs v) ≡ (disk.run xs e).0) × (accepted (device.run xs v.device).answer ≡ (disk.run xs e).1)
along xs v e q s = (s.0 ∙ ap (λ d. (disk.run xs d).0) q, s.1 ∙ ap (λ d. (disk.run xs d).1) q)

module _ (n : ℕ) (c : List Sector) (b : Bool) (p : ℕ → List Sector) where
  -- a write that lies on the device or not, and finds no action left or one
  abbrev write_told : Bool → Bool → ℕ → Answer
  write_told t z i = cond t (cond z (refusal Spent i) (Ok tt)) (refusal Beyond i)

  abbrev write_left : Bool → Bool → ℕ → ℕ → List ℕ → DevState
  write_left t z l i s = cond t (cond z (bundle n c l b) (written (bundle n c l b) i s)) (bundle n c l b)

  abbrev write_volume : List Action → ℕ → ℕ → List ℕ → Bool → Bool → Volume
  write_volume rest l i s t z = record {
    device = (then (write_told t z i) (write_left t z l i s) (device.run rest (write_left t z l i s))).after;
    past = cond (accepted (write_told t z i)) (histories rest (write_left t z l i s) (put p i (holds s ∷ p i))) p;
  }

  abbrev write_answer : List Action → ℕ → ℕ → List ℕ → Bool → Bool → Answer
  write_answer rest l i s t z = (then (write_told t z i) (write_left t z l i s) (device.run rest (write_left t z l i s))).answer

  write_same : (i : ℕ) (s : List ℕ) (rest : List Action) (l : ℕ) → length c ≡ n → i < n →
      ((k : ℕ) → Same rest (volume n (set c i (holds s)) k false (put p i (holds s ∷ p i)))) → Same (write i s ∷ rest) (volume n c l b p)
  write_same i s rest zero e h ih =
      let t : ltb i n ≡ true = lt-ltb i n h in
      (ap (λ x. disk_of (write_volume rest 0 i s x (eqb 0 0))) t, ap (λ x. accepted (write_answer rest 0 i s x (eqb 0 0))) t)
  write_same i s rest (suc l) e h ih =
      let t : ltb i n ≡ true = lt-ltb i n h in
      let z : eqb (suc l) 0 ≡ false = ne_eqb (suc l) 0 (λ q. omega arith) in
      let m : suc l - 1 ≡ l = omega arith in
      let q : (λ j. get_or (set c i (holds s)) j unreadable) ≡ put (λ j. get_or c j unreadable) i (holds s) = set_put c i (holds s) (omega (arith, e, h)) in
      let V : ℕ → Volume = λ k. volume n (set c i (holds s)) k false (put p i (holds s ∷ p i)) in
      let w = along rest (V l) (disk.act (write i s) l (disk_of (volume n c (suc l) b p)))
      (λ k. record { now = q k; past = put p i (holds s ∷ p i); left = l; settled = false }) (ih l) in (
        ap (λ x. disk_of (write_volume rest (suc l) i s x (eqb (suc l) 0))) t ∙ ap (λ x. disk_of (write_volume rest (suc l) i s true x)) z
            ∙ ap (λ x. disk_of (after_run rest (V x))) m ∙ w.0,
        ap (λ x. accepted (write_answer rest (suc l) i s x (eqb (suc l) 0))) t ∙ ap (λ x. accepted (write_answer rest (suc l) i s true x)) z
            ∙ ap (λ x. accepted (device.run rest (V x).device).answer) m ∙ w.1,
      )

  -- a force that finds no action left or one
  abbrev force_told : Bool → Answer
  force_told z = cond z (refusal Spent 0) (Ok tt)

  abbrev force_left : Bool → ℕ → DevState
  force_left z l = cond z (bundle n c l b) (forced (bundle n c l b))

  abbrev force_volume : List Action → ℕ → Bool → Volume
  force_volume rest l z = record {
    device = (then (force_told z) (force_left z l) (device.run rest (force_left z l))).after;
    past = cond (accepted (force_told z)) (histories rest (force_left z l) (λ j. get_or c j unreadable ∷ [])) p;
  }

  abbrev force_answer : List Action → ℕ → Bool → Answer
  force_answer rest l z = (then (force_told z) (force_left z l) (device.run rest (force_left z l))).answer

  force_same : (rest : List Action) (l : ℕ) → ((k : ℕ) → Same rest (volume n c k true (λ j. get_or c j unreadable ∷ []))) → Same (force ∷ rest) (volume n c l b p)
  force_same rest zero ih = (refl, refl)
  force_same rest (suc l) ih =
      let z : eqb (suc l) 0 ≡ false = ne_eqb (suc l) 0 (λ q. omega arith) in
      let m : suc l - 1 ≡ l = omega arith in
      let V : ℕ → Volume = λ k. volume n c k true (λ j. get_or c j unreadable ∷ []) in (
        ap (λ x. disk_of (force_volume rest (suc l) x)) z ∙ ap (λ x. disk_of (after_run rest (V x))) m ∙ (ih l).0,
        ap (λ x. accepted (force_answer rest (suc l) x)) z ∙ ap (λ x. accepted (device.run rest (V x).device).answer) m ∙ (ih l).1,
      )

-- by the parts
runs : (xs : List Action) (n : ℕ) (c : List Sector) (l : ℕ) (b : Bool) (p : ℕ → List Sector) → length c ≡ n → Writes (λ i s. i < n) xs → Same xs (volume n c l b p)
runs [] n c l b p e w = (refl, refl)
runs (write i s ∷ rest) n c l b p e w =
    write_same n c b p i s rest l e w.0 (λ k. runs rest n (set c i (holds s)) k false (put p i (holds s ∷ p i)) (length-set c i (holds s) ∙ e) w.1)
runs (force ∷ rest) n c l b p e w = force_same n c b p rest l (λ k. runs rest n c k true (λ j. get_or c j unreadable ∷ []) e w)

-- a run on a volume is one on its disk
pub run_disk : (xs : List Action) (v : Volume) → length v.device.contents ≡ v.device.size → Writes (λ i s. i < v.device.size) xs →
    (disk_of (after_run xs v) ≡ (disk.run xs (disk_of v)).0) × (accepted (device.run xs v.device).answer ≡ (disk.run xs (disk_of v)).1)
run_disk xs v e w = runs xs v.device.size v.device.contents v.device.actions v.device.settled v.past e w

-- a run changes no size
pub run_size : (xs : List Action) (v : Volume) →
    ((after_run xs v).device.size ≡ v.device.size) × (length (after_run xs v).device.contents ≡ length v.device.contents)
run_size xs v = run_sized xs v.device

never : (f : DeviceFault) → ◌≡◌ {A = Answer} (Ok tt) (Err f) → ⊥
never f q = let z : ◌≡◌ {A = ℕ} 0 1 = cc in omega arith

-- an action that lies on the device is refused only where none is left
spent : (x : Action) (rest : List Action) (d : DevState) (f : DeviceFault) → Writes (λ i s. i < d.size) (x ∷ rest) → device.answers x d ≡ Err f → f.cause ≡ Spent
spent (write i s) rest d f w e = write_case (eqb d.actions 0) (ap (λ t. cond t (cond (eqb d.actions 0) (refusal Spent i) (Ok tt)) (refusal Beyond i)) (sym (lt-ltb i d.size w.0)) ∙ e)
  where
    write_case : (z : Bool) → cond z (refusal Spent i) (Ok tt) ≡ Err f → f.cause ≡ Spent
    write_case true q = let g : fault Spent i ≡ f = cc in ap (λ h. h.cause) (sym g)
    write_case false q = absurd (never f q)
spent force rest d f w e = force_case (eqb d.actions 0) e
  where
    force_case : (z : Bool) → cond z (refusal Spent 0) (Ok tt) ≡ Err f → f.cause ≡ Spent
    force_case true q = let g : fault Spent 0 ≡ f = cc in ap (λ h. h.cause) (sym g)
    force_case false q = absurd (never f q)

answered : (xs : List Action) (d : DevState) (f : DeviceFault) → Writes (λ i s. i < d.size) xs → (device.run xs d).answer ≡ Err f → f.cause ≡ Spent
answered [] d f w e = absurd (never f e)
answered (x ∷ xs) d f w e =
    let n : (device.acts x d).size ≡ d.size = ap (λ r. r.after.size) (sym (run_alone x d)) ∙ (run_sized (x ∷ []) d).0 in
    go (device.answers x d) refl e (answered xs (device.acts x d) f (subst (λ (k : ℕ). Writes (λ i s. i < k) xs) (sym n) (later x w)))
  where
    later : (x : Action) → Writes (λ i s. i < d.size) (x ∷ xs) → Writes (λ i s. i < d.size) xs
    later (write i s) w = w.1
    later force w = w

    go : (a : Answer) → device.answers x d ≡ a → (then a (device.acts x d) (device.run xs (device.acts x d))).answer ≡ Err f →
        ((device.run xs (device.acts x d)).answer ≡ Err f → f.cause ≡ Spent) → f.cause ≡ Spent
    go (Ok u) q e ih = ih e
    go (Err g) q e ih = spent x xs d f w (q ∙ e)

-- a run of actions that lie on the volume is refused only where none is left
pub run_answer : (xs : List Action) (v : Volume) (f : DeviceFault) → Writes (λ i s. i < v.device.size) xs → (device.run xs v.device).answer ≡ Err f → f.cause ≡ Spent
run_answer xs v f w e = answered xs v.device f w e
