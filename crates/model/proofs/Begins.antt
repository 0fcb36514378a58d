-- A session that replay gives is steady. Assumes nothing.
use Rattle.std.proofs.Common.{◌≡◌, ℕ, zero, suc, ◌+◌, ◌-◌, ◌*◌, ◌/◌, ◌%◌, ◌<◌, ◌≤◌, Bool, true, not, ◌&&◌, eqb, ltb, leb, ◌⊎◌, List, [], ◌∷◌, ◌++◌, drop, Some, Ok, Option, sym, refl, ap, ◌∙◌, subst, inl, inr, mod-lt, suc-mul, arith}
use Rattle.std.specs.Str.{bytes_eq}
use Rattle.std.proofs.lemmas.List.{length-take, length-drop}
use Rattle.std.proofs.lemmas.Bool.{both_ways, cases_lt, eq-eqb, eqb-true, leb-true, and_parts, not-true, cond-true}
use Rattle.codec.specs.Fields.{be32}
use Rattle.codec.proofs.Allbytes.{bytes_take, bytes_drop}
use Rattle.device.specs.State.{DevState, Sector, holds, unreadable, sector_at}
use Rattle.device.specs.Steps.{readable, read}
use Rattle.device.specs.Actions.{force}
use Rattle.label.specs.declared.label.Label.{Label}
use Rattle.record.specs.declared.header.RecordHeader.{RecordHeader}
use Rattle.label.specs.Label.{label_of, limits}
use Rattle.label.specs.Position.{cycle, log_sector}
use Rattle.record.specs.Record.{is_header, held_cycle}
use Rattle.model.specs.Refusals.{refusal, by_session, Outcome, ◌>>=◌, need, from_device}
use Rattle.model.specs.View.{read_label, read_log, at, log_header, held, held_by, Found, search_log}
use Rattle.model.specs.Reading.{Reading, read_chain}
use Rattle.model.specs.Lay.{blanks}
use Rattle.model.specs.Calls.{Session, Plan, Passed, searched, pass_one, Counts, counts, patches}
use Rattle.model.specs.Laws.{Searched, Sane, Steady, Whole, ReplaySteady}
use Rattle.model.proofs.Outcomes.{need_ok, bind_ok, device_ok, read_held}
use Rattle.model.proofs.Found.{search_says}

-- a sector that was read is whole
read_whole : (d : DevState) → Whole d → (i : ℕ) (b : List ℕ) → read d i ≡ Ok b → sector_at d i ≡ holds b
read_whole d w i b e = go (sector_at d i) refl (read_held d i b e)
  where
    go : (x : Sector) → sector_at d i ≡ x → readable i x ≡ Ok b → sector_at d i ≡ holds b
    go (holds c) q r = let s : c ≡ b = cc in q ∙ ap holds s
    go unreadable q r = let z : ◌≡◌ {A = ℕ} 0 1 = cc in let y : ⊥ = omega arith in elim y [ ]

-- what the limits of a label say
record Limited (L : Label) : Type 0 where
  pub most_even : L.most % 512 ≡ 0
  pub some : 16 ≤ L.count
  pub few : L.count ≤ 2097152
  pub short : L.most ≤ 32768
  pub wide : 1 + L.most / 512 ≤ L.window
  pub two : 2 * L.window ≤ L.count

limited : (L : Label) (size : ℕ) → limits L size ≡ true → Limited L
limited L size e =
    let p₁ = and_parts (leb 1 L.start) (leb (L.start + L.count) size && (leb 16 L.count && (leb L.count 2097152 && (eqb (L.most % 512) 0 && (leb 512 L.most && (leb L.most 32768 && (leb (1 + L.most / 512) L.window && leb (2 * L.window) L.count))))))) e in
    let p₂ = and_parts (leb (L.start + L.count) size) (leb 16 L.count && (leb L.count 2097152 && (eqb (L.most % 512) 0 && (leb 512 L.most && (leb L.most 32768 && (leb (1 + L.most / 512) L.window && leb (2 * L.window) L.count)))))) p₁.1 in
    let p₃ = and_parts (leb 16 L.count) (leb L.count 2097152 && (eqb (L.most % 512) 0 && (leb 512 L.most && (leb L.most 32768 && (leb (1 + L.most / 512) L.window && leb (2 * L.window) L.count))))) p₂.1 in
    let p₄ = and_parts (leb L.count 2097152) (eqb (L.most % 512) 0 && (leb 512 L.most && (leb L.most 32768 && (leb (1 + L.most / 512) L.window && leb (2 * L.window) L.count)))) p₃.1 in
    let p₅ = and_parts (eqb (L.most % 512) 0) (leb 512 L.most && (leb L.most 32768 && (leb (1 + L.most / 512) L.window && leb (2 * L.window) L.count))) p₄.1 in
    let p₆ = and_parts (leb 512 L.most) (leb L.most 32768 && (leb (1 + L.most / 512) L.window && leb (2 * L.window) L.count)) p₅.1 in
    let p₇ = and_parts (leb L.most 32768) (leb (1 + L.most / 512) L.window && leb (2 * L.window) L.count) p₆.1 in
    let p₈ = and_parts (leb (1 + L.most / 512) L.window) (leb (2 * L.window) L.count) p₇.1 in
    record {
      most_even = eqb-true (L.most % 512) 0 p₅.0;
      some = leb-true 16 L.count p₃.0;
      few = leb-true L.count 2097152 p₄.0;
      short = leb-true L.most 32768 p₇.0;
      wide = leb-true (1 + L.most / 512) L.window p₈.0;
      two = leb-true (2 * L.window) L.count p₈.1;
    }

-- a label that was read keeps its limits and has a uuid of 16 bytes
label_read : (d : DevState) (L : Label) → Whole d → read_label d ≡ Ok L → Limited L × Sane L
label_read d L w e =
    let K₂ : List ℕ → Unit {0} → Outcome Label = λ b _. Ok (label_of b) in
    let K₁ : List ℕ → Outcome Label = λ b. need (limits (label_of b) d.size) (refusal 1 by_session 0 0) >>= K₂ b in
    let K₀ : Unit {0} → Outcome Label = λ _. from_device (read d 0) >>= K₁ in
    let e₀ = need_ok (ltb 0 d.size) (refusal 1 by_session 0 0) K₀ L e in
    let r = bind_ok (from_device (read d 0)) K₁ L e₀.1 in
    let b : List ℕ = r.0 in
    let e₁ = need_ok (limits (label_of b) d.size) (refusal 1 by_session 0 0) (K₂ b) L r.2 in
    let o : Ok (label_of b) ≡ Ok L = e₁.1 in
    let q : label_of b ≡ L = cc in
    let h = w 0 b (read_whole d w 0 b (device_ok (read d 0) b r.1)) in
    let K : Limited (label_of b) = limited (label_of b) d.size e₁.0 in
    let S : Sane (label_of b) = record {
      some = omega (arith, K.some);
      few = K.few;
      short = K.short;
      uuid = omega (arith, length-take 16 (drop 16 b), length-drop 16 b, h.0);
      bytes = bytes_take 16 (drop 16 b) (bytes_drop 16 b h.1);
    } in
    subst (λ (M : Label). Limited M × Sane M) q (K, S)

-- The newest record lies past the first turn.

past : (c N i n : ℕ) → c * N + i ≡ n → (c ≡ 0 → ⊥) → N ≤ n
past zero N i n e some = let x : ⊥ = some refl in elim x [ ]
past (suc c) N i n e some = omega (arith, suc-mul c N, e)

module _ (L : Label) (f : Found) (w : 1 ≤ L.window) (S : Searched L f) where
  top_near : f.h ≤ f.M + 1
  top_near = go (cases_lt (f.M + 1) f.h)
    where
      go : (f.M + 1 < f.h) ⊎ (f.h ≤ f.M + 1) → f.h ≤ f.M + 1
      go (inl a) = let b = S.most (f.M + 1) (S.full (f.M + 1) (omega arith) a) in let x : ⊥ = omega arith in elim x [ ]
      go (inr a) = a

  abbrev newest_header : RecordHeader
  newest_header = log_header L f.log f.n

  -- a sound header has a cycle that is not 0
  cycle_there : newest_header.cycle ≡ 0 → ⊥
  cycle_there z =
      let h : RecordHeader = newest_header in
      let F : Bool = eqb (h.length % 512) 0 && (leb 512 h.length && leb h.length L.most) in
      let N : Bool = not (eqb h.cycle 0) in
      let p₁ = and_parts (eqb h.version 2) (eqb h.format 1 && (bytes_eq h.uuid L.uuid && (eqb h.own.0 (cycle L f.n) && (eqb h.own.1 (log_sector L f.n) && (N && F))))) S.sound_one in
      let p₂ = and_parts (eqb h.format 1) (bytes_eq h.uuid L.uuid && (eqb h.own.0 (cycle L f.n) && (eqb h.own.1 (log_sector L f.n) && (N && F)))) p₁.1 in
      let p₃ = and_parts (bytes_eq h.uuid L.uuid) (eqb h.own.0 (cycle L f.n) && (eqb h.own.1 (log_sector L f.n) && (N && F))) p₂.1 in
      let p₄ = and_parts (eqb h.own.0 (cycle L f.n)) (eqb h.own.1 (log_sector L f.n) && (N && F)) p₃.1 in
      let p₅ = and_parts (eqb h.own.1 (log_sector L f.n)) (N && F) p₄.1 in
      let p₆ = and_parts N F p₅.1 in
      both_ways (eqb h.cycle 0) (not-true (eqb h.cycle 0) p₆.0) (eq-eqb h.cycle 0 z)

  begun_there : L.count ≤ f.e
  begun_there = go (S.coherent f.n (omega (arith, S.within)) (omega (arith, S.by_head, S.end, top_near)))
    where
      go : (held L f.log f.n ≡ true) ⊎ ((held_by L f.log (log_sector L f.n) + L.count ≡ f.n) × (f.M < f.n + L.window)) → L.count ≤ f.e
      go (inl a) =
          let b : List ℕ = at L f.log f.n in
          let c : held_cycle b ≡ newest_header.cycle = cond-true (is_header b) (be32 b 4) (be32 b 0) S.header in
          let p : L.count ≤ f.n = past (held_cycle b) L.count (log_sector L f.n) f.n (eqb-true (held_by L f.log (log_sector L f.n)) f.n a) (λ z. cycle_there (sym c ∙ z)) in
          omega (arith, p, S.end)
      go (inr b) = omega (arith, b.0, S.end)

pub replay_steady : ReplaySteady
replay_steady d bank work p n w e m =
    let Q : Passed → Plan Counts (Option Session) = λ x. record {
      actions = force ∷ patches d x.read ++ blanks x.label x.found.log x.found.e (x.found.M + 1 - x.found.e) ++ (force ∷ []);
      answer = counts x.read;
      session = Some (record { label = x.label; e = x.found.e; t = x.found.t; a = x.found.e; newest = log_sector x.label x.found.n; book = x.read.book });
    } in
    let K₁ : Passed → Outcome (Plan Counts (Option Session)) = λ x. Ok (Q x) in
    let e₀ = need_ok (leb 65536 work) (refusal 4 by_session 0 0) (λ _. pass_one d bank >>= K₁) p e in
    let x = bind_ok (pass_one d bank) K₁ p e₀.1 in
    let o : Ok (Q x.0) ≡ Ok p = x.2 in
    let q : Q x.0 ≡ p = cc in
    let J₁ : Label × Found → Reading → Outcome Passed = λ y r. Ok (record { label = y.0; found = y.1; read = r }) in
    let J₀ : Label × Found → Outcome Passed = λ y. read_chain d y.0 bank y.1 >>= J₁ y in
    let y = bind_ok (searched d) J₀ x.0 x.1 in
    let r = bind_ok (read_chain d y.0.0 bank y.0.1) (J₁ y.0) x.0 y.2 in
    let X : Passed = record { label = y.0.0; found = y.0.1; read = r.0 } in
    let o₂ : Ok X ≡ Ok x.0 = r.2 in
    let q₂ : X ≡ x.0 = cc in
    let I₂ : Label → Found → Outcome (Label × Found) = λ L f. Ok (L, f) in
    let I₁ : Label → List (List ℕ) → Outcome (Label × Found) = λ L log. search_log L log >>= I₂ L in
    let I₀ : Label → Outcome (Label × Found) = λ L. read_log d L >>= I₁ L in
    let l = bind_ok (read_label d) I₀ y.0 y.1 in
    let g = bind_ok (read_log d l.0) (I₁ l.0) y.0 l.2 in
    let f = bind_ok (search_log l.0 g.0) (I₂ l.0) y.0 g.2 in
    let pair : Label × Found = (l.0, f.0) in
    let o₃ : Ok pair ≡ Ok y.0 = f.2 in
    let q₃ : pair ≡ y.0 = cc in
    let K = label_read d l.0 w l.1 in
    let S : Searched l.0 f.0 = (search_says l.0 g.0 f.0 (omega (arith, K.0.wide)) K.0.two f.1).1 in
    let N : Session = record { label = l.0; e = f.0.e; t = f.0.t; a = f.0.e; newest = log_sector l.0 f.0.n; book = r.0.book } in
    let T : Steady N = record {
      sane = K.1;
      even = K.0.most_even;
      begun = begun_there l.0 f.0 (omega (arith, K.0.wide)) S;
      behind = omega (arith, S.before);
      low = mod-lt f.0.n K.1.some;
    } in
    let G : Label × Found → Session = λ z. record { label = z.0; e = z.1.e; t = z.1.t; a = z.1.e; newest = log_sector z.0 z.1.n; book = r.0.book } in
    let H : Passed → Option Session = λ z. (Q z).session in
    let o₄ : Some N ≡ Some n = ap (λ z. Some (G z)) q₃ ∙ ap H q₂ ∙ ap (λ z. z.session) q ∙ m in
    let q₄ : N ≡ n = cc in
    subst (λ (z : Session). Steady z) q₄ T
