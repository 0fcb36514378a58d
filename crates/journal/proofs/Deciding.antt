-- What the call label leaves, from what its actions left. Assumes nothing.
use Rattle.std.proofs.Common.{◌≡◌, ℕ, ◌+◌, true, false, length, Option, Some, None, MatchOption, ok_or, Ok, Err, sym, refl, ap, ◌∙◌, arith}
use Rattle.std.proofs.lemmas.Bool.{and_parts, leb-true}
use Rattle.device.specs.State.{DevState}
use Rattle.device.specs.Steps.{Answer}
use Rattle.device.specs.Actions.{Ran, run}
use Rattle.label.specs.declared.label.Label.{Label}
use Rattle.label.specs.declared.geometry.Geometry.{Geometry}
use Rattle.label.specs.Label.{limits}
use Rattle.faults.specs.declared.cause.Fault.{Fault}
use Rattle.model.specs.Refusals.{refusal, by_session, device_refusal, Outcome, ◌>>=◌, need}
use Rattle.model.specs.Calls.{label_actions, label_call, acted, finished, Plan, Left}
use Rattle.journal.specs.Laws.{Labelled}
use Rattle.journal.proofs.Acting.{ran}
use Rattle.journal.proofs.Labelled.{made_by}

-- the plan of label
abbrev plan : Label → Plan (Unit {0}) (Unit {0})
plan L = record { actions = label_actions L; answer = tt; session = tt }

-- what a call left
abbrev pub left : Outcome (Unit {0}) → DevState → Left (Unit {0}) (Unit {0})
left r d = record { answer = r; device = d; session = tt }

-- what the device answered to the last action, as the call tells it
abbrev pub told : Answer → Outcome (Unit {0})
told (Ok x) = Ok tt
told (Err f) = Err (device_refusal f)

-- a plan that was run
ran_plan : (K : Label) (s : DevState) (r : Answer) (e : DevState) → finished (plan K) tt r e ≡ left (told r) e
ran_plan K s (Ok x) e = refl
ran_plan K s (Err f) e = refl

-- within the limits the actions are run
pub labelled : (s e : DevState) (L K : Label) (r : Answer) → limits L s.size ≡ true → K ≡ L → run (label_actions K) s ≡ ran r e → label_call s L ≡ left (told r) e
labelled s e L K r lim k h =
    ap (λ b. acted (need b (refusal 1 by_session 0 0) >>= λ _. Ok (plan L)) tt s) lim
    ∙ ap (λ (q : Ran). finished (plan L) tt q.answer q.after) (ap (λ x. run (label_actions x) s) (sym k) ∙ h)
    ∙ ran_plan L s r e

-- and where all of them are accepted the volume is made
pub made_from : (s e : DevState) (L K : Label) → limits L s.size ≡ true → K ≡ L → length s.contents ≡ s.size → run (label_actions K) s ≡ ran (Ok tt) e → Labelled L s e
made_from s e L K lim k n h =
    let p = and_parts _ _ lim in
    let q = and_parts _ _ p.1 in
    let r = and_parts _ _ q.1 in
    made_by L s e (leb-true 1 L.start p.0) (leb-true 16 L.count r.0) (leb-true (L.start + L.count) s.size q.0) n (ap (λ x. run (label_actions x) s) (sym k) ∙ h)

-- the geometry that `ok_or` hands on is that of a label within its limits on a device of this size
pub within : (o : Option Geometry) (G : Geometry) (f : Fault) (L : Label) (n size : ℕ) → n ≡ size → MatchOption o (limits L n ≡ false) (λ k. (limits L n ≡ true) × (k.label ≡ L))
    → ok_or o f ≡ Ok G → (limits L size ≡ true) × (G.label ≡ L)
within (Some k) G f L n size same h e = let q : k.label ≡ G.label = cc in (ap (limits L) (sym same) ∙ h.0, sym q ∙ h.1)
within None G f L n size same h e = let z : ◌≡◌ {A = ℕ} 0 1 = cc in let y : ⊥ = omega arith in absurd y
