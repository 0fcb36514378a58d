-- The laws of runs. Assumes nothing.
use Rattle.std.proofs.Common.{◌≡◌, ℕ, suc, ◌-◌, ◌<◌, ◌≤◌, Bool, true, false, cond, eqb, ltb, List, [], ◌∷◌, ◌++◌, length, Ok, Err, sym, refl, ap, ◌∙◌, subst, arith}
use Rattle.std.proofs.lemmas.List.{get_or-set_other, length-set}
use Rattle.std.proofs.lemmas.Bool.{lt-ltb, eq-eqb, ne_eqb}
use Rattle.std.specs.List.{AllByRecursion}
use Rattle.device.specs.State.{DevState, holds, unreadable, sector_at}
use Rattle.device.specs.Steps.{Answer, refusal, write_step, written, force_step, forced}
use Rattle.device.specs.Actions.{Action, write, force, answers, acts, Ran, then, run, effect}
use Rattle.device.specs.Laws.{RunAlone, RunJoins, Stopped, RunStops, Leaves, RunLeaves, RunSized, Inside, settled_after, after_all, sector_of, RunSays, RunLaws}
use Rattle.device.specs.declared.fault.Cause.TheVariants.{Spent}
use Rattle.device.specs.declared.fault.DeviceFault.{DeviceFault}

alone : (a : Answer) (e : DevState) → then a e (record { answer = Ok tt; after = e }) ≡ record { answer = a; after = e }
alone (Ok u) e = refl
alone (Err f) e = refl

pub run_alone : RunAlone
run_alone x d = alone (answers x d) (acts x d)

join : (a : Answer) (e : DevState) (m n : Ran) (ys : List Action) → n ≡ then m.answer m.after (run ys m.after)
    → then a e n ≡ then (then a e m).answer (then a e m).after (run ys (then a e m).after)
join (Ok u) e m n ys h = h
join (Err f) e m n ys h = refl

pub run_joins : RunJoins
run_joins [] ys d = refl
run_joins (x ∷ xs) ys d = join (answers x d) (acts x d) (run xs (acts x d)) (run (xs ++ ys) (acts x d)) ys (run_joins xs ys (acts x d))

-- what follows actions that answered r and left e
pub run_on : (xs ys : List Action) (d e : DevState) (r : Answer) → run xs d ≡ record { answer = r; after = e } → run (xs ++ ys) d ≡ then r e (run ys e)
run_on xs ys d e r h = run_joins xs ys d ∙ ap (λ m. then m.answer m.after (run ys m.after)) h

never : (f : DeviceFault) (r : Answer) → r ≡ Ok tt → r ≡ Err f → ⊥
never f r p q = let z : ◌≡◌ {A = ℕ} 0 1 = cc in omega arith

kept_write : (y z : Bool) (d e : DevState) (p q f : DeviceFault) → cond {A = Answer} y (cond {A = Answer} z (Err p) (Ok tt)) (Err q) ≡ Err f → cond y (cond z d e) d ≡ d
kept_write true true d e p q f h = refl
kept_write true false d e p q f h = absurd (never f (Ok tt) refl h)
kept_write false z d e p q f h = refl

kept_force : (z : Bool) (d e : DevState) (p f : DeviceFault) → cond {A = Answer} z (Err p) (Ok tt) ≡ Err f → cond z d e ≡ d
kept_force true d e p f h = refl
kept_force false d e p f h = absurd (never f (Ok tt) refl h)

-- a refused action changes nothing
pub refused_keeps : (x : Action) (d : DevState) (f : DeviceFault) → answers x d ≡ Err f → acts x d ≡ d
refused_keeps (write i b) d f h = kept_write (ltb i d.size) (eqb d.actions 0) d (written d i b) _ _ f h
refused_keeps force d f h = kept_force (eqb d.actions 0) d (forced d) _ f h

-- a run that goes on after an accepted action, and one that stops at once
longer : (x : Action) (xs : List Action) (d : DevState) (f : DeviceFault) (e : DevState) (u : Unit {0}) → answers x d ≡ Ok u → Stopped xs (acts x d) f e → Stopped (x ∷ xs) d f e
longer x xs d f e u a s = record {
  front = x ∷ s.front;
  x = s.x;
  rest = s.rest;
  split = ap (λ ys. x ∷ ys) s.split;
  accepted = ap (λ r. then r (acts x d) (run s.front (acts x d))) a ∙ s.accepted;
  refused = s.refused;
}

at_once : (x : Action) (xs : List Action) (d : DevState) (f : DeviceFault) → answers x d ≡ Err f → Stopped (x ∷ xs) d f (acts x d)
at_once x xs d f a =
    let k : acts x d ≡ d = refused_keeps x d f a in
    record {
      front = [];
      x = x;
      rest = xs;
      split = refl;
      accepted = ap (λ e. let r : Ran = record { answer = Ok tt; after = e } in r) (sym k);
      refused = ap (answers x) k ∙ a;
    }

one_stop : (x : Action) (xs : List Action) (d : DevState) (f : DeviceFault) (a : Answer) → answers x d ≡ a
    → ((e : DevState) → (run xs e).answer ≡ Err f → Stopped xs e f (run xs e).after)
    → (then a (acts x d) (run xs (acts x d))).answer ≡ Err f → Stopped (x ∷ xs) d f (then a (acts x d) (run xs (acts x d))).after
one_stop x xs d f (Ok u) p more h = longer x xs d f (run xs (acts x d)).after u p (more (acts x d) h)
one_stop x xs d f (Err g) p more h = at_once x xs d f (p ∙ h)

pub run_stops : RunStops
run_stops [] d f h = absurd (never f (Ok tt) refl h)
run_stops (x ∷ xs) d f h = one_stop x xs d f (answers x d) refl (λ e. run_stops xs e f) h

then_keeps : (P : DevState → Type 0) (a : Answer) (e : DevState) (m : Ran) → P e → P m.after → P (then a e m).after
then_keeps P (Ok u) e m h k = k
then_keeps P (Err f) e m h k = h

-- what each of the actions keeps, their run keeps, wherever it stops
pub run_keeps : (Q : Action → Type 0) (P : DevState → Type 0) → ((x : Action) (d : DevState) → Q x → P d → P (acts x d)) → (xs : List Action) (d : DevState) → AllByRecursion Q xs → P d → P (run xs d).after
run_keeps Q P step [] d a h = h
run_keeps Q P step (x ∷ xs) d a h =
    let k = step x d a.0 h in
    then_keeps P (answers x d) (acts x d) (run xs (acts x d)) k (run_keeps Q P step xs (acts x d) a.1 k)

cond_keeps : (P : DevState → Type 0) (b : Bool) (d e : DevState) → P d → P e → P (cond b d e)
cond_keeps P true d e h k = h
cond_keeps P false d e h k = k

-- what holds of a device, and of what an accepted call leaves, holds of what the call leaves
write_keeps : (P : DevState → Type 0) (d : DevState) (i : ℕ) (b : List ℕ) → P d → P (written d i b) → P (write_step d i b)
write_keeps P d i b h k = cond_keeps P (ltb i d.size) (cond (eqb d.actions 0) d (written d i b)) d (cond_keeps P (eqb d.actions 0) d (written d i b) h k) h

force_keeps : (P : DevState → Type 0) (d : DevState) → P d → P (forced d) → P (force_step d)
force_keeps P d h k = cond_keeps P (eqb d.actions 0) d (forced d) h k

leaves_step : (i : ℕ) (c : DevState) (x : Action) (d : DevState) → Leaves i x → sector_at d i ≡ sector_at c i → sector_at (acts x d) i ≡ sector_at c i
leaves_step i c (write j b) d l h = write_keeps (λ e. sector_at e i ≡ sector_at c i) d j b h (get_or-set_other d.contents j i (holds b) unreadable l ∙ h)
leaves_step i c force d l h = force_keeps (λ e. sector_at e i ≡ sector_at c i) d h h

pub run_leaves : RunLeaves
run_leaves xs d i a = run_keeps (Leaves i) (λ e. sector_at e i ≡ sector_at d i) (leaves_step i d) xs d a refl

-- the same size, and contents for as many sectors
abbrev Alike : DevState → DevState → Type 0
Alike c e = (e.size ≡ c.size) × (length e.contents ≡ length c.contents)

sized_step : (c : DevState) (x : Action) (d : DevState) → Unit {0} → Alike c d → Alike c (acts x d)
sized_step c (write i b) d u h = write_keeps (Alike c) d i b h (h.0, length-set d.contents i (holds b) ∙ h.1)
sized_step c force d u h = force_keeps (Alike c) d h h

all_units : (xs : List Action) → AllByRecursion (λ _. Unit {0}) xs
all_units [] = tt
all_units (x ∷ xs) = (tt, all_units xs)

pub run_sized : RunSized
run_sized xs d = run_keeps (λ _. Unit {0}) (Alike d) (sized_step d) xs d (all_units xs) (refl, refl)

-- a device after an accepted action
abbrev acted : Action → DevState → DevState
acted (write i b) d = written d i b
acted force d = forced d

goes : (x : Action) (xs : List Action) (d : DevState) → Inside d.size x → 0 < d.actions → run (x ∷ xs) d ≡ run xs (acted x d)
goes (write i b) xs d h l = rw (lt-ltb i d.size h, ne_eqb d.actions 0 (λ e. omega arith))
goes force xs d h l = rw (ne_eqb d.actions 0 (λ e. omega arith))

stops : (x : Action) (xs : List Action) (d : DevState) → Inside d.size x → d.actions ≡ 0 → run (x ∷ xs) d ≡ record { answer = refusal Spent (sector_of x); after = d }
stops (write i b) xs d h l = rw (lt-ltb i d.size h, eq-eqb d.actions 0 l)
stops force xs d h l = rw (eq-eqb d.actions 0 l)

-- what actions leave, with the actions left written otherwise
abbrev told : List Action → DevState → ℕ → DevState
told xs d n = record { size = d.size; contents = effect xs d.contents; actions = n; settled = settled_after xs d.settled }

all_after : (x : Action) (xs : List Action) (d : DevState) → after_all xs (acted x d) ≡ after_all (x ∷ xs) d
all_after (write i b) xs d = let e : d.actions - 1 - length xs ≡ d.actions - suc (length xs) = omega arith in ap (told (write i b ∷ xs) d) e
all_after force xs d = let e : d.actions - 1 - length xs ≡ d.actions - suc (length xs) = omega arith in ap (told (force ∷ xs) d) e

one_less : (x : Action) (d : DevState) → ((acted x d).size ≡ d.size) × ((acted x d).actions ≡ d.actions - 1)
one_less (write i b) d = (refl, refl)
one_less force d = (refl, refl)

inside_after : (x : Action) (xs : List Action) (d : DevState) → AllByRecursion (Inside d.size) xs → AllByRecursion (Inside (acted x d).size) xs
inside_after x xs d a = subst (λ (n : ℕ). AllByRecursion (Inside n) xs) (sym (one_less x d).0) a

-- a run by its two parts
abbrev ran : Answer → DevState → Ran
ran a d = record { answer = a; after = d }

none_spent : (d : DevState) → d ≡ after_all [] d
none_spent d = let e : d.actions ≡ d.actions - 0 = omega arith in ap (told [] d) e

accepted : (xs : List Action) (d : DevState) → AllByRecursion (Inside d.size) xs → length xs ≤ d.actions → run xs d ≡ ran (Ok tt) (after_all xs d)
accepted [] d a h = ap (ran (Ok tt)) (none_spent d)
accepted (x ∷ xs) d a h =
    goes x xs d a.0 (omega arith)
    ∙ accepted xs (acted x d) (inside_after x xs d a.1) (omega (arith, (one_less x d).1))
    ∙ ap (ran (Ok tt)) (all_after x xs d)

refused : (front rest : List Action) (x : Action) (d : DevState) → AllByRecursion (Inside d.size) (front ++ (x ∷ rest)) → length front ≡ d.actions
    → run (front ++ (x ∷ rest)) d ≡ ran (refusal Spent (sector_of x)) (after_all front d)
refused [] rest x d a h = stops x rest d a.0 (omega arith) ∙ ap (ran (refusal Spent (sector_of x))) (none_spent d)
refused (y ∷ front) rest x d a h =
    goes y (front ++ (x ∷ rest)) d a.0 (omega arith)
    ∙ refused front rest x (acted y d) (inside_after y (front ++ (x ∷ rest)) d a.1) (omega (arith, (one_less y d).1))
    ∙ ap (ran (refusal Spent (sector_of x))) (all_after y front d)

pub run_says : RunSays
run_says d xs a = record {
  accepted = accepted xs d a;
  refused = λ front rest x e l. ap (λ s. run s d) e ∙ refused front rest x d (subst (λ (s : List Action). AllByRecursion (Inside d.size) s) e a) l;
}

pub run_laws : RunLaws
run_laws = record { alone = run_alone; joins = run_joins; stops = run_stops; leaves = run_leaves; sized = run_sized; says = run_says }
