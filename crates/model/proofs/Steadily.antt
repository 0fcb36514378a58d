-- Sessions stay steady. Assumes nothing.
use Rattle.std.proofs.Common.{◌≡◌, ℕ, ◌+◌, ◌≤◌, not, eqb, leb, List, [], ◌∷◌, ◌++◌, length, Ok, Err, sym, refl, ap, subst, mod-lt, arith}
use Rattle.codec.specs.Fields.{Bytes}
use Rattle.device.specs.State.{DevState}
use Rattle.device.specs.Steps.{Answer}
use Rattle.device.specs.Actions.{force, run}
use Rattle.label.specs.declared.label.Label.{Label}
use Rattle.item.specs.Meaning.{Bank}
use Rattle.model.specs.Refusals.{refusal, by_record, by_session, Outcome, ◌>>=◌, need}
use Rattle.model.specs.View.{Found}
use Rattle.model.specs.Items.{Book}
use Rattle.model.specs.Reading.{Reading, read_chain}
use Rattle.model.specs.Lay.{record_writes}
use Rattle.model.specs.Calls.{Session, Plan, finished, acted, clearing, searched, patches, region_bytes, end_after, lengthened, worn_out, commit_plan, settles, same_log, cleared, clear_plan}
use Rattle.model.specs.Laws.{Steady, ops_of, SteadyKept}
use Rattle.model.proofs.Outcomes.{need_ok, bind_ok}
use Rattle.model.proofs.Commits.{commit_says}

-- what holds of the session before and of the plan's holds of the session that a call leaves
run_keeps : {A S : Type 0} (P : S → Type 0) (p : Plan A S) (s : S) (d : DevState) → P s → P p.session → P (acted (Ok p) s d).session
run_keeps P p s d a b = go (run p.actions d).answer
  where
    go : (x : Answer) → P (finished p s x (run p.actions d).after).session
    go (Ok x) = b
    go (Err f) = a

call_keeps : {A S : Type 0} (P : S → Type 0) (o : Outcome (Plan A S)) (s : S) (d : DevState) → P s → ((p : Plan A S) → o ≡ Ok p → P p.session) → P (acted o s d).session
call_keeps P (Err r) s d a f = a
call_keeps P (Ok p) s d a f = run_keeps P p s d a (f p refl)

-- Commit.

longer : (s : Session) (b : ℕ) (book : Book) → Steady s → s.e ≤ b → Steady (lengthened s b book)
longer s b book w h = record {
  sane = w.sane;
  even = w.even;
  begun = omega (arith, w.begun);
  behind = omega (arith, w.behind);
  low = mod-lt s.e w.sane.some;
}

after_commit : (d : DevState) (s : Session) (bank : Bank) (bytes : List ℕ) (regions : List (ℕ × ℕ)) (p : Plan ℕ Session) → Steady s → Bytes bytes →
    commit_plan d s bank bytes regions ≡ Ok p → Steady p.session
after_commit d s bank bytes regions p w small e =
    let C = commit_says d s bank bytes regions p w small e in
    let b : ℕ = end_after s.e (ops_of s (region_bytes bytes regions) (length C.0)) in
    let q : p.session ≡ lengthened s b C.1 = ap (λ z. z.session) C.2.plan in
    subst (λ (z : Session). Steady z) (sym q) (longer s b C.1 w (omega arith))

-- Clear.

after_clear : (d : DevState) (s : Session) (bank : Bank) (work : ℕ) (p : Plan (Unit {0}) Session) → Steady s → clear_plan d s bank work ≡ Ok p → Steady p.session
after_clear d s bank work p w e =
    let P : Reading → Plan (Unit {0}) Session = λ r. record {
      actions = force ∷ patches d r ++ (force ∷ record_writes s.label s.e (clearing s.label s.e s.newest) ++ (force ∷ []));
      answer = tt;
      session = cleared s;
    } in
    let K₆ : Reading → Outcome (Plan (Unit {0}) Session) = λ r. Ok (P r) in
    let K₅ : Label × Found → Unit {0} → Outcome (Plan (Unit {0}) Session) = λ x _. read_chain d x.0 bank x.1 >>= K₆ in
    let K₄ : Label × Found → Outcome (Plan (Unit {0}) Session) = λ x. need (same_log s x.0 x.1) (refusal 8 by_record 0 0) >>= K₅ x in
    let K₃ : Unit {0} → Outcome (Plan (Unit {0}) Session) = λ _. searched d >>= K₄ in
    let K₂ : Unit {0} → Outcome (Plan (Unit {0}) Session) = λ _. need (leb (s.e + 2) (s.t + s.label.count)) (refusal 17 by_session 0 0) >>= K₃ in
    let K₁ : Unit {0} → Outcome (Plan (Unit {0}) Session) = λ _. need (not (worn_out s.label (s.e + 1))) (refusal 19 by_session 0 0) >>= K₂ in
    let K₀ : Unit {0} → Outcome (Plan (Unit {0}) Session) = λ _. need (eqb (length s.book.intents) 0) (refusal 18 by_session 0 0) >>= K₁ in
    let e₀ = need_ok (leb 65536 work) (refusal 4 by_session 0 0) K₀ p e in
    let e₁ = need_ok (eqb (length s.book.intents) 0) (refusal 18 by_session 0 0) K₁ p e₀.1 in
    let e₂ = need_ok (not (worn_out s.label (s.e + 1))) (refusal 19 by_session 0 0) K₂ p e₁.1 in
    let e₃ = need_ok (leb (s.e + 2) (s.t + s.label.count)) (refusal 17 by_session 0 0) K₃ p e₂.1 in
    let x = bind_ok (searched d) K₄ p e₃.1 in
    let e₄ = need_ok (same_log s x.0.0 x.0.1) (refusal 8 by_record 0 0) (K₅ x.0) p x.2 in
    let r = bind_ok (read_chain d x.0.0 bank x.0.1) K₆ p e₄.1 in
    let o : Ok (P r.0) ≡ Ok p = r.2 in
    let q : P r.0 ≡ p = cc in
    let S : Steady (cleared s) = record {
      sane = w.sane;
      even = w.even;
      begun = omega (arith, w.begun);
      behind = omega arith;
      low = mod-lt s.e w.sane.some;
    } in
    subst (λ (z : Session). Steady z) (ap (λ z. z.session) q) S

pub steady_kept : SteadyKept
steady_kept = record {
  after_commit = λ d s bank bytes regions w small. call_keeps Steady (commit_plan d s bank bytes regions) s d w (λ p e. after_commit d s bank bytes regions p w small e);
  after_force = λ d s w. run_keeps Steady (record { actions = force ∷ []; answer = tt; session = settles s }) s d w
      (record { sane = w.sane; even = w.even; begun = w.begun; behind = w.behind; low = w.low });
  after_clear = λ d s bank work w. call_keeps Steady (clear_plan d s bank work) s d w (λ p e. after_clear d s bank work p w e);
}
