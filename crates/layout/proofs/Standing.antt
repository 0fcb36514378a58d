-- What is true of every life by the calls. Assumes nothing.
use Rattle.std.proofs.Common.{◌≡◌, ℕ, ◌+◌, ◌-◌, ◌/◌, ◌%◌, ◌<◌, ◌≤◌, true, cond, ◌⊎◌, List, length, Some, None, Ok, Err, Option, sym, refl, ap, ◌∙◌, subst, inl, inr, mod-eq_of_lt, arith}
use Rattle.std.proofs.lemmas.List.{get_or_past}
use Rattle.std.proofs.lemmas.Bool.{cases_lt}
use Rattle.device.specs.State.{DevState, Sector, sector_at, unreadable}
use Rattle.device.specs.Steps.{Answer}
use Rattle.device.specs.Faults.{cause_number}
use Rattle.device.specs.Actions.{Action, run}
use Rattle.label.specs.declared.label.Label.{Label}
use Rattle.label.specs.Position.{log_sector}
use Rattle.item.specs.Meaning.{Bank, WholeBank}
use Rattle.model.specs.Refusals.{Refusal, Outcome, device_refusal}
use Rattle.model.specs.Calls.{Session, Plan, Counts, finished, acted, replay_plan, replay_call}
use Rattle.life.specs.Disk.{Disk}
use Rattle.life.specs.Disk as disk
use Rattle.life.specs.Format.{Rec, chain_items}
use Rattle.life.specs.Items.{open_ids}
use Rattle.life.specs.Items as items
use Rattle.life.specs.Calls.{Readable, byte, byte_at}
use Rattle.life.specs.Calls as calls
use Rattle.life.specs.Life.{Entry}
use Rattle.life.specs.Life as life
use Rattle.life.proofs.Second.{life_stands}
use Rattle.layout.specs.Read.{unread, progress}
use Rattle.layout.specs.Real.{Usable}
use Rattle.layout.specs.Volumes.{Volume, accepted, after_run, disk_of}
use Rattle.layout.specs.Lives.{Account, Again, Lived, LivesStand}
use Rattle.layout.proofs.Real.{real}
use Rattle.layout.proofs.Deciding.{replay_decides}
use Rattle.layout.proofs.Showing.{acted_answer, acted_device, acted_session, Fair, Ran, normal, Facts, facts}
use Rattle.layout.proofs.Steps.{home_here, replay_ran}
use Rattle.layout.proofs.Replaying.{Decides, todo, shown}

module _ (L : Label) (n : ℕ) (bank : Bank) (u : Usable L n) (wide : WholeBank bank) (base : ℕ → Sector) where
  -- One replay.

  -- a volume in a life, as a replay meets it
  pub record Point (v : Volume) : Type 0 where
    pub o' : Option calls.Session
    pub lived : life.Life (real L n bank u) base (disk_of v) o'
    pub fair : Fair L n bank u v None (disk_of v) None
    pub known : Facts L n bank u base v

  point : (v : Volume) (o : Option Session) (o' : Option calls.Session) (l' : life.Life (real L n bank u) base (disk_of v) o') → Fair L n bank u v o (disk_of v) o' → Point v
  point v o o' l' f = record {
    o' = o';
    lived = l';
    fair = record { shows = refl; match = tt; size = f.size; listed = f.listed; kept = f.kept };
    known = facts L n bank u base v o' l' f.kept;
  }

  abbrev steps : (v : Volume) → Point v → List Action
  steps v P = todo L n bank u wide base v P.known

  -- an accepted replay: its plan, and what it leaves
  pub record Went (v : Volume) (P : Point v) (o : Option Session) (work : ℕ) (answer : Counts) : Type 0 where
    pub p : Plan Counts (Option Session)
    pub decided : Decides L n bank u wide base v P.fair.size P.known p
    pub ran : Ran L n bank u v (steps v P)
    pub counted : p.answer ≡ answer
    pub accepts : (disk.run (steps v P) (disk_of v)).1 ≡ true
    pub session : (replay_call v.device o bank work).session ≡ Some decided.session
    pub device : (replay_call v.device o bank work).device ≡ (after_run (steps v P) v).device

  went_so : (v : Volume) (P : Point v) (o : Option Session) (work : ℕ) (answer : Counts) → (replay_call v.device o bank work).answer ≡ Ok answer → Went v P o work answer
  went_so v P o work answer q = go (replay_decides L n bank u v.device P.fair.size P.known.full P.known.label P.known.whole P.known.found work)
    where
      go : ((r : Refusal) × (replay_plan v.device bank work ≡ Err r) × ((r.number ≡ 3) ⊎ (r.number ≡ 4)))
          ⊎ ((p : Plan Counts (Option Session)) × (replay_plan v.device bank work ≡ Ok p) × Decides L n bank u wide base v P.fair.size P.known p) → Went v P o work answer
      go (inl x) =
          let w : ◌≡◌ {A = Outcome Counts} (Err x.0) (Ok answer) = ap (λ (y : Outcome (Plan Counts (Option Session))). (acted y o v.device).answer) (sym x.1) ∙ q in
          let z : ◌≡◌ {A = ℕ} 0 1 = cc in let y : ⊥ = omega arith in elim y [ ]
      go (inr x) =
          let p : Plan Counts (Option Session) = x.0 in
          let e : replay_plan v.device bank work ≡ Ok p = x.1 in
          let D : Decides L n bank u wide base v P.fair.size P.known p = x.2 in
          let R : Ran L n bank u v (steps v P) = replay_ran L n bank u wide base v None None P.fair P.known D.reads in
          let y = acted_answer p o v.device answer (ap (λ (y : Outcome (Plan Counts (Option Session))). (acted y o v.device).answer) (sym e) ∙ q) in
          record {
            p = p;
            decided = D;
            ran = R;
            counted = y.1;
            accepts = sym R.answer ∙ ap (λ l. accepted (run l v.device).answer) (sym D.actions) ∙ y.0;
            session = ap (λ (y : Outcome (Plan Counts (Option Session))). (acted y o v.device).session) e ∙ acted_session p o v.device ∙ ap (λ b. cond b p.session o) y.0 ∙ D.given;
            device = ap (λ (y : Outcome (Plan Counts (Option Session))). (acted y o v.device).device) e ∙ acted_device p o v.device ∙ ap (λ l. (run l v.device).after) D.actions;
          }

  -- the volume that it leaves
  next : (v : Volume) (P : Point v) (o : Option Session) (work : ℕ) (answer : Counts) (W : Went v P o work answer) → Point (after_run (steps v P) v)
  next v P o work answer W =
      let K = P.known in
      let R = W.ran in
      let O : Option calls.Session = cond (disk.run (steps v P) (disk_of v)).1 (Some (calls.replayed K.found.n K.found.e K.found.t K.found.chain)) P.o' in
      let l : life.Life (real L n bank u) base (disk_of (after_run (steps v P) v)) O =
      subst (λ (d : Disk). life.Life (real L n bank u) base d O) (sym R.after) (life.replay P.lived K.found.plan W.decided.reads) in
      record {
        o' = O;
        lived = l;
        fair = record { shows = refl; match = tt; size = R.size; listed = R.listed; kept = R.kept };
        known = facts L n bank u base (after_run (steps v P) v) O l R.kept;
      }

  -- Refusals.

  refused : (v : Volume) (P : Point v) (o : Option Session) (work : ℕ) (r : Refusal) → (replay_call v.device o bank work).answer ≡ Err r → (r.number ≡ 2) ⊎ ((r.number ≡ 3) ⊎ (r.number ≡ 4))
  refused v P o work r q = go (replay_decides L n bank u v.device P.fair.size P.known.full P.known.label P.known.whole P.known.found work)
    where
      either : (x : Refusal) → x ≡ r → (x.number ≡ 3) ⊎ (x.number ≡ 4) → (r.number ≡ 2) ⊎ ((r.number ≡ 3) ⊎ (r.number ≡ 4))
      either x e (inl a) = inr (inl (ap (λ (y : Refusal). y.number) (sym e) ∙ a))
      either x e (inr a) = inr (inr (ap (λ (y : Refusal). y.number) (sym e) ∙ a))

      spent : (p : Plan Counts (Option Session)) (X : List Action) → p.actions ≡ X → Ran L n bank u v X → (a : Answer) → (run p.actions v.device).answer ≡ a →
          (finished p o a (run p.actions v.device).after).answer ≡ Err r → r.number ≡ 2
      spent p X e R (Ok x) w q = let z : ◌≡◌ {A = ℕ} 0 1 = cc in let y : ⊥ = omega arith in elim y [ ]
      spent p X e R (Err f) w q =
          let z : device_refusal f ≡ r = cc in
          ap (λ (y : Refusal). y.number) (sym z) ∙ ap cause_number (R.spent f (ap (λ l. (run l v.device).answer) (sym e) ∙ w))

      go : ((r : Refusal) × (replay_plan v.device bank work ≡ Err r) × ((r.number ≡ 3) ⊎ (r.number ≡ 4)))
          ⊎ ((p : Plan Counts (Option Session)) × (replay_plan v.device bank work ≡ Ok p) × Decides L n bank u wide base v P.fair.size P.known p) →
          (r.number ≡ 2) ⊎ ((r.number ≡ 3) ⊎ (r.number ≡ 4))
      go (inl x) =
          let w : ◌≡◌ {A = Outcome Counts} (Err x.0) (Err r) = ap (λ (y : Outcome (Plan Counts (Option Session))). (acted y o v.device).answer) (sym x.1) ∙ q in
          let z : x.0 ≡ r = cc in
          either x.0 z x.2
      go (inr x) =
          let R : Ran L n bank u v (steps v P) = replay_ran L n bank u wide base v None None P.fair P.known x.2.reads in
          inl (spent x.0 (steps v P) x.2.actions R (run x.0.actions v.device).answer refl
          (ap (λ (y : Outcome (Plan Counts (Option Session))). (acted y o v.device).answer) (sym x.1) ∙ q))

  -- Two replays.

  counts_same : (c c' : Counts) → c.records ≡ c'.records → c.transactions ≡ c'.transactions → c.applied ≡ c'.applied → c.skipped ≡ c'.skipped → c.intents ≡ c'.intents → c ≡ c'
  counts_same c c' a b d e f = λ i. record { records = a i; transactions = b i; applied = d i; skipped = e i; intents = f i }

  session_same : (s t : Session) → s.label ≡ t.label → s.e ≡ t.e → s.t ≡ t.t → s.a ≡ t.a → s.newest ≡ t.newest → s.book ≡ t.book → s ≡ t
  session_same s t a b c d e f = λ i. record { label = a i; e = b i; t = c i; a = d i; newest = e i; book = f i }

  module _ (v : Volume) (P : Point v) (o : Option Session) (work work' : ℕ) (answer answer' : Counts) (W : Went v P o work answer)
      (W' : Went (after_run (steps v P) v) (next v P o work answer W) (replay_call v.device o bank work).session work' answer') where
    abbrev Q : Point (after_run (steps v P) v)
    Q = next v P o work answer W

    -- the second finds what the first found
    twice : life.Again (real L n bank u) (disk.run (steps v P) (disk_of v)).0.now
        (life.on_replay (real L n bank u) Q.known.found.m Q.known.found.e Q.known.found.chain (disk.run (steps v P) (disk_of v)).0).0.now
        P.known.found.n P.known.found.e P.known.found.t P.known.found.chain Q.known.found.n Q.known.found.e Q.known.found.t Q.known.found.chain
    twice =
        let K = P.known.found in
        let M = Q.known.found in
        let c : disk_of (after_run (steps v P) v) ≡ (disk.run (steps v P) (disk_of v)).0 = W.ran.after in
        (life_stands (real L n bank u) base (disk_of v) P.o' P.lived).again K.m K.h K.n K.e K.t K.chain K.plan W.decided.reads W.accepts
        M.m M.h M.n M.e M.t M.chain
        (subst (λ (d : Disk). calls.Plan (real L n bank u) d.now M.m M.h M.n M.e M.t M.chain) c M.plan)
        (subst (λ (d : Disk). Readable d.now (chain_items (real L n bank u) M.chain)) c W'.decided.reads)
        (subst (λ (d : Disk). (life.on_replay (real L n bank u) M.m M.e M.chain d).1 ≡ true) c W'.accepts)

    chain_same : Q.known.found.chain ≡ P.known.found.chain
    chain_same = ap (λ (s : calls.Session). s.chain) twice.session

    answers_same : answer' ≡ answer
    answers_same =
        let D = W.decided in
        let E = W'.decided in
        let f : List Rec → List items.Item = chain_items (real L n bank u) in
        sym W'.counted
        ∙ counts_same W'.p.answer W.p.answer
        (E.records ∙ ap length chain_same ∙ sym D.records)
        (E.transactions ∙ ap (λ (l : List Rec). length ((real L n bank u).reads l)) chain_same ∙ sym D.transactions)
        (E.applies ∙ ap (λ (l : List Rec). length (items.applied (f l))) chain_same ∙ sym D.applies)
        (E.skips ∙ ap (λ (l : List Rec). length (items.skipped (f l))) chain_same ∙ sym D.skips)
        (E.opens ∙ ap length E.intents ∙ ap (λ (l : List Rec). length (open_ids (f l))) chain_same ∙ ap length (sym D.intents) ∙ sym D.opens)
        ∙ W.counted

    sessions_same : W'.decided.session ≡ W.decided.session
    sessions_same =
        let a = W'.decided.matches in
        let b = W.decided.matches in
        let s = twice.session in
        session_same W'.decided.session W.decided.session
        (a.label ∙ sym b.label)
        (a.e ∙ ap (λ (s : calls.Session). s.e) s ∙ sym b.e)
        (a.t ∙ ap (λ (s : calls.Session). s.t) s ∙ sym b.t)
        (a.a ∙ ap (λ (s : calls.Session). s.a) s ∙ sym b.a)
        (a.newest ∙ ap (λ (s : calls.Session). log_sector L s.newest) s ∙ sym b.newest)
        (a.book ∙ ap (λ (s : calls.Session). (progress n L bank s.chain unread).reading.book) s ∙ sym b.book)

    -- the volume after the second
    abbrev w : Volume
    w = after_run (steps v P) v

    abbrev x₂ : Volume
    x₂ = after_run (steps w Q) w

    sectors_same : (x : ℕ) → byte_at (sector_at x₂.device) x ≡ byte_at (sector_at w.device) x
    sectors_same x = go (cases_lt (x / 512) n) (cases_lt 0 (x / 512)) (cases_lt (x / 512) L.start) (cases_lt (x / 512) (L.start + L.count))
      where
        i : ℕ
        i = x / 512

        T : Point x₂
        T = next w Q (replay_call v.device o bank work).session work' answer' W'

        first : sector_at w.device ≡ (disk.run (steps v P) (disk_of v)).0.now
        first = ap (λ (d : Disk). d.now) W.ran.after

        second : sector_at x₂.device ≡ (life.on_replay (real L n bank u) Q.known.found.m Q.known.found.e Q.known.found.chain (disk.run (steps v P) (disk_of v)).0).0.now
        second = ap (λ (d : Disk). d.now) W'.ran.after
            ∙ ap (λ (d : Disk). (life.on_replay (real L n bank u) Q.known.found.m Q.known.found.e Q.known.found.chain d).0.now) W.ran.after

        at_home : calls.Home (real L n bank u) (x / 512) → byte_at (sector_at x₂.device) x ≡ byte_at (sector_at w.device) x
        at_home h = ap (λ (c : ℕ → Sector). byte_at c x) second ∙ twice.bytes x h ∙ ap (λ (c : ℕ → Sector). byte_at c x) (sym first)

        go : (x / 512 < n) ⊎ (n ≤ x / 512) → (0 < x / 512) ⊎ (x / 512 ≤ 0) → (x / 512 < L.start) ⊎ (L.start ≤ x / 512) → (x / 512 < L.start + L.count) ⊎ (L.start + L.count ≤ x / 512) →
            byte_at (sector_at x₂.device) x ≡ byte_at (sector_at w.device) x
        go (inr a) b c d =
            let p : sector_at w.device (x / 512) ≡ unreadable = get_or_past w.device.contents (x / 512) unreadable (omega (arith, a, Q.fair.listed)) in
            let q : sector_at x₂.device (x / 512) ≡ unreadable = get_or_past x₂.device.contents (x / 512) unreadable (omega (arith, a, T.fair.listed)) in
            ap (λ s. byte s (x % 512)) (q ∙ sym p)
        go (inl a) (inr b) c d =
            let z : x / 512 ≡ 0 = omega arith in
            ap (λ k. byte (sector_at x₂.device k) (x % 512)) z ∙ ap (λ s. byte s (x % 512)) (T.known.label ∙ sym Q.known.label) ∙ ap (λ k. byte (sector_at w.device k) (x % 512)) (sym z)
        go (inl a) (inl b) (inl c) d = at_home (home_here L n bank u wide base (x / 512) (record { later = b; inside = a; free = inl c }))
        go (inl a) (inl b) (inr c) (inr d) = at_home (home_here L n bank u wide base (x / 512) (record { later = b; inside = a; free = inr d }))
        go (inl a) (inl b) (inr c) (inl d) =
            let k : ℕ = x / 512 - L.start in
            let m : k % L.count ≡ k = mod-eq_of_lt (omega arith) in
            let z : x / 512 ≡ L.start + k % L.count = omega (arith, m, c) in
            let e : sector_at x₂.device (L.start + k % L.count) ≡ sector_at w.device (L.start + k % L.count) =
            ap (λ (c : ℕ → Sector). c (L.start + k % L.count)) second ∙ twice.log k ∙ ap (λ (c : ℕ → Sector). c (L.start + k % L.count)) (sym first) in
            ap (λ y. byte (sector_at x₂.device y) (x % 512)) z ∙ ap (λ s. byte s (x % 512)) e ∙ ap (λ y. byte (sector_at w.device y) (x % 512)) (sym z)

  again : (v : Volume) (P : Point v) (o : Option Session) (work work' : ℕ) (answer answer' : Counts) → (replay_call v.device o bank work).answer ≡ Ok answer →
      (replay_call (replay_call v.device o bank work).device (replay_call v.device o bank work).session bank work').answer ≡ Ok answer' →
      Again (replay_call v.device o bank work).device
      (replay_call (replay_call v.device o bank work).device (replay_call v.device o bank work).session bank work').device
      (replay_call v.device o bank work).session
      (replay_call (replay_call v.device o bank work).device (replay_call v.device o bank work).session bank work').session answer answer'
  again v P o work work' answer answer' q r =
      let o₁ : Option Session = (replay_call v.device o bank work).session in
      let W : Went v P o work answer = went_so v P o work answer q in
      let w : Volume = after_run (steps v P) v in
      let c : w.device ≡ (replay_call v.device o bank work).device = sym W.device in
      let Q : Point w = next v P o work answer W in
      let W' : Went w Q o₁ work' answer' = went_so w Q o₁ work' answer' (ap (λ (d : DevState). (replay_call d o₁ bank work').answer) c ∙ r) in
      subst (λ (d : DevState). Again d (replay_call d o₁ bank work').device o₁ (replay_call d o₁ bank work').session answer answer') c
      (record {
        same_answer = answers_same v P o work work' answer answer' W W';
        same_session = W'.session ∙ ap (λ (s : Session). Some s) (sessions_same v P o work work' answer answer' W W') ∙ sym W.session;
        same_bytes = λ x. ap (λ (d : DevState). byte_at (sector_at d) x) W'.device ∙ sectors_same v P o work work' answer answer' W W' x;
      })

pub lives_stand : LivesStand
lives_stand L n bank u wide base v o l = normal L n bank u base l (Lived l) (shown L n bank u wide base l) go
  where
    go : (o' : Option calls.Session) (l' : life.Life (real L n bank u) base (disk_of v) o') → Fair L n bank u v o (disk_of v) o' →
        ((acc : List Entry) → life.Account l' acc → Account l acc) → Lived l
    go o' l' f a =
        let V = life_stands (real L n bank u) base (disk_of v) o' l' in
        let P : Point L n bank u wide base v = point L n bank u wide base v o o' l' f in
        record {
          account = V.account;
          accounted = a V.account V.accounted;
          label = P.known.labels;
          refused = refused L n bank u wide base v P o;
          again = again L n bank u wide base v P o;
        }
