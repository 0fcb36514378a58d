-- A clear that its checks accept is a step of a life. Assumes nothing.
use Rattle.std.proofs.Common.{◌≡◌, ℕ, ◌+◌, ◌<◌, ◌≤◌, not, ◌&&◌, eqb, leb, List, [], ◌∷◌, ◌++◌, length, Ok, sym, ap, ◌∙◌, subst, mod-lt, div-lt_iff_lt-mul, arith}
use Rattle.std.proofs.lemmas.List.{nil_from_length}
use Rattle.std.proofs.lemmas.Bool.{and_parts, not-true, eqb-true, leb-true, leb-false}
use Rattle.device.specs.State.{DevState}
use Rattle.device.specs.Actions.{force}
use Rattle.label.specs.declared.label.Label.{Label}
use Rattle.label.specs.Position.{cycle, log_sector}
use Rattle.item.specs.Meaning.{Bank}
use Rattle.model.specs.Refusals.{refusal, by_record, by_session, Outcome, ◌>>=◌, need}
use Rattle.model.specs.View.{Found}
use Rattle.model.specs.Reading.{Reading, read_chain}
use Rattle.model.specs.Lay.{record_writes}
use Rattle.model.specs.Calls.{Session, Plan, clearing, patches, searched, worn_out, same_label, same_log, cleared, clear_plan}
use Rattle.model.proofs.Outcomes.{need_ok, bind_ok}
use Rattle.life.specs.Format.{Rec, Fits}
use Rattle.life.specs.Calls as life
use Rattle.layout.specs.Real.{Usable}
use Rattle.layout.proofs.Ring.{ring, limited, sane}
use Rattle.layout.proofs.Real.{real}
use Rattle.layout.proofs.Matches.{Matches}
use Rattle.layout.proofs.Clearing.{clearing_rec, is_clearing, clearing_read, clearing_writes}

-- the plan p of a clear that found f is a clear of a life, with what its reading of the chain gave
abbrev pub ClearSteps : (L : Label) (n : ℕ) (bank : Bank) → Usable L n → DevState → ℕ → life.Session → Found → Plan (Unit {0}) Session → Type 0
ClearSteps L n bank u d previous s' f p =
    life.Clears (real L n bank u) s' (clearing_rec previous) × (f.e ≡ s'.e) × (f.t ≡ s'.t) × (r : Reading) × (read_chain d L bank f ≡ Ok r) ×
    (p.actions ≡ force ∷ (patches d r ++ (force ∷ (life.record_writes (real L n bank u) (clearing_rec previous) s'.e s'.e ++ (force ∷ []))))) ×
    Matches L n bank p.session (life.cleared s' (clearing_rec previous)) × Fits (ring L n u) (clearing_rec previous) s'.e s'.e

-- what a clear that its checks accept does, in words
pub record Planned (d : DevState) (s : Session) (bank : Bank) (f : Found) (p : Plan (Unit {0}) Session) : Type 0 where
  pub closed : s.book.intents ≡ []
  pub last : cycle s.label (s.e + 1) < 2147483648
  pub room : s.e + 2 ≤ s.t + s.label.count
  pub end : f.e ≡ s.e
  pub tail : f.t ≡ s.t
  pub read : Reading
  pub reads : read_chain d s.label bank f ≡ Ok read
  pub plan : p ≡ record {
    actions = force ∷ patches d read ++ (force ∷ record_writes s.label s.e (clearing s.label s.e s.newest) ++ (force ∷ []));
    answer = tt;
    session = cleared s;
  }

pub clear_says : (d : DevState) (s : Session) (bank : Bank) (work : ℕ) (f : Found) (p : Plan (Unit {0}) Session) → searched d ≡ Ok (s.label, f) →
    clear_plan d s bank work ≡ Ok p → Planned d s bank f p
clear_says d s bank work f p found e =
    let O : Type 0 = Outcome (Plan (Unit {0}) Session) in
    let P : Reading → Plan (Unit {0}) Session = λ r. record {
      actions = force ∷ patches d r ++ (force ∷ record_writes s.label s.e (clearing s.label s.e s.newest) ++ (force ∷ []));
      answer = tt;
      session = cleared s;
    } in
    let K₅ : Label → Found → Unit {0} → O = λ L f _. read_chain d L bank f >>= λ r. Ok (P r) in
    let K₄ : Label × Found → O = λ x. need (same_log s x.0 x.1) (refusal 8 by_record 0 0) >>= K₅ x.0 x.1 in
    let K₃ : Unit {0} → O = λ _. searched d >>= K₄ in
    let K₂ : Unit {0} → O = λ _. need (leb (s.e + 2) (s.t + s.label.count)) (refusal 17 by_session 0 0) >>= K₃ in
    let K₁ : Unit {0} → O = λ _. need (not (worn_out s.label (s.e + 1))) (refusal 19 by_session 0 0) >>= K₂ in
    let K₀ : Unit {0} → O = λ _. need (eqb (length s.book.intents) 0) (refusal 18 by_session 0 0) >>= K₁ in
    let e₀ = need_ok (leb 65536 work) (refusal 4 by_session 0 0) K₀ p e in
    let e₁ = need_ok (eqb (length s.book.intents) 0) (refusal 18 by_session 0 0) K₁ p e₀.1 in
    let e₂ = need_ok (not (worn_out s.label (s.e + 1))) (refusal 19 by_session 0 0) K₂ p e₁.1 in
    let e₃ = need_ok (leb (s.e + 2) (s.t + s.label.count)) (refusal 17 by_session 0 0) K₃ p e₂.1 in
    let w : K₄ (s.label, f) ≡ Ok p = ap (λ z. z >>= K₄) (sym found) ∙ e₃.1 in
    let e₄ = need_ok (same_log s s.label f) (refusal 8 by_record 0 0) (K₅ s.label f) p w in
    let r = bind_ok (read_chain d s.label bank f) (λ r. Ok (P r)) p e₄.1 in
    let q : Ok (P r.0) ≡ Ok p = r.2 in
    let same : P r.0 ≡ p = cc in
    let a = and_parts (same_label s.label s.label && eqb f.e s.e) (eqb f.t s.t) e₄.0 in
    let b = and_parts (same_label s.label s.label) (eqb f.e s.e) a.0 in
    record {
      closed = nil_from_length s.book.intents (eqb-true (length s.book.intents) 0 e₁.0);
      last = leb-false 2147483648 (cycle s.label (s.e + 1)) (not-true (worn_out s.label (s.e + 1)) e₂.0);
      room = leb-true (s.e + 2) (s.t + s.label.count) e₃.0;
      end = eqb-true f.e s.e b.1;
      tail = eqb-true f.t s.t a.1;
      read = r.0;
      reads = r.1;
      plan = sym same;
    }

-- with the label, the end and the tail of the session itself
module _ (n : ℕ) (bank : Bank) (d : DevState) (s : Session) (u : Usable s.label n) (newest : ℕ) (chain : List Rec) (near : s.newest ≡ log_sector s.label newest) where
  abbrev twin : life.Session
  twin = record { e = s.e; t = s.t; a = s.a; newest = newest; chain = chain }

  module _ (steady : life.Steady (real s.label n bank u) twin) (ids : s.book.intents ≡ life.book_ids (real s.label n bank u) twin)
      (f : Found) (p : Plan (Unit {0}) Session) (K : Planned d s bank f p) where
    low_here : s.newest < 4294967296
    low_here = omega (arith, near, mod-lt newest (sane s.label n u).some, (limited s.label n u).few)

    clears_here : life.Clears (real s.label n bank u) twin (clearing_rec s.newest)
    clears_here = record {
      closed = sym ids ∙ K.closed;
      clearing = is_clearing s.label n bank u s.newest low_here;
      last = (div-lt_iff_lt-mul (sane s.label n u).some).0 K.last;
      room = K.room;
    }

    fits_here : Fits (ring s.label n u) (clearing_rec s.newest) s.e s.e
    fits_here = record {
      small = clears_here.clearing.small;
      begun = omega (arith, steady.turn, steady.begun, steady.low);
      behind = omega arith;
      last = clears_here.last;
    }

    acts_here : p.actions ≡
        force ∷ (patches d K.read ++ (force ∷ (life.record_writes (real s.label n bank u) (clearing_rec s.newest) s.e s.e ++ (force ∷ []))))
    acts_here =
        ap (λ q. q.actions) K.plan
        ∙ ap (λ l. force ∷ (patches d K.read ++ (force ∷ (l ++ (force ∷ []))))) (clearing_writes s.label n bank u s.e s.newest fits_here)

    matches_here : Matches s.label n bank p.session (life.cleared twin (clearing_rec s.newest))
    matches_here = record {
      label = ap (λ q. q.session.label) K.plan;
      e = ap (λ q. q.session.e) K.plan;
      t = ap (λ q. q.session.t) K.plan;
      a = ap (λ q. q.session.a) K.plan;
      newest = ap (λ q. q.session.newest) K.plan;
      book = ap (λ q. q.session.book) K.plan ∙ sym (clearing_read s.label n bank u s.newest);
    }

    step_here : ClearSteps s.label n bank u d s.newest twin f p
    step_here = (clears_here, K.end, K.tail, K.read, K.reads, acts_here, matches_here, fits_here)

-- with any session that matches
module _ (L : Label) (n : ℕ) (bank : Bank) (u : Usable L n) where
  pub clear_step : (d : DevState) (s : Session) (s' : life.Session) (work : ℕ) (f : Found) (p : Plan (Unit {0}) Session) →
      Matches L n bank s s' → life.Steady (real L n bank u) s' → s.book.intents ≡ life.book_ids (real L n bank u) s' → searched d ≡ Ok (L, f) →
      clear_plan d s bank work ≡ Ok p → ClearSteps L n bank u d s.newest s' f p
  clear_step d s s' work f p m steady ids found e =
      let z : life.Session = record { e = s.e; t = s.t; a = s.a; newest = s'.newest; chain = s'.chain } in
      let q : z ≡ s' = λ i. record { e = m.e i; t = m.t i; a = m.a i; newest = s'.newest; chain = s'.chain } in
      let P : life.Session → Type 0 = λ y. life.Steady (real L n bank u) y → s.book.intents ≡ life.book_ids (real L n bank u) y → ClearSteps L n bank u d s.newest y f p in
      let Q : Label → Type 0 = λ K. (v : Usable K n) → s.newest ≡ log_sector K s'.newest → searched d ≡ Ok (K, f) →
      life.Steady (real K n bank v) z → s.book.intents ≡ life.book_ids (real K n bank v) z → ClearSteps K n bank v d s.newest z f p in
      let here : Q s.label = λ v near found w ids. step_here n bank d s v s'.newest s'.chain near w ids f p (clear_says d s bank work f p found e) in
      subst P q (subst Q m.label here u m.newest found) steady ids
