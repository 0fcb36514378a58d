-- Each call and each cut keeps what holds of a volume, so every life has its account.
use Rattle.std.proofs.Common.{◌≡◌, ℕ, zero, suc, ◌+◌, ◌-◌, ◌/◌, ◌%◌, ◌<◌, ◌≤◌, Bool, true, false, cond, ◌⊎◌, List, [], ◌∷◌, ◌++◌, Some, None, Option, sym, refl, ap, ◌∙◌, subst, inl, inr, append_assoc, append-nil, add-zero, arith}
use Rattle.life.specs.Disk.{Sector, holds, Action, write, force, Disk, Whole, In, AllByRecursion, act, run, Cut}
use Rattle.life.specs.Items.{open_ids}
use Rattle.life.specs.Format.{Rec, size, Fits, Transaction, Format, all_items, chain_items, slot}
use Rattle.life.specs.Calls.{byte, byte_at, Home, Sound, Readable, Inside, lays, blanks, puts, record_writes, Plan, replays}
use Rattle.life.specs.Calls.{counts, Session, replayed, Commits, committed, settles, Clears, cleared, clearings, Steady}
use Rattle.life.specs.Life.{on_label, on_clear, on_replay, Life, labelled, commits, forces, clears, replay, cuts, Entry}
use Rattle.life.specs.Life.{transactions, secure, Replayed, Account, Finds}
use Rattle.life.proofs.Lists.{false_true, all_map}
use Rattle.life.proofs.Disk.{refused_left, run_none, run-++}
use Rattle.life.proofs.Lay.{Holds}
use Rattle.life.proofs.Log.{rep}
use Rattle.life.proofs.Tiles.{Tile, width, Okay, tile_bodies, width-++}
use Rattle.life.proofs.Dead.{Outcome, Dead, SamePlan, plan_one, Planned, planned, chain_one, chain_tiles}
use Rattle.life.proofs.Replay.{todo, replay_dead}
use Rattle.life.proofs.Live.{Live, transactions_secure, fixed, holds_now, ids_now, replay_does, replay_live}
use Rattle.life.proofs.Ends.{live_dead}
use Rattle.life.proofs.Label.{label_leaves}
use Rattle.life.proofs.Calls.{commit_dead, commit_live, fit, force_live, label_dead}
use Rattle.life.proofs.Clear.{written_dead, cleared_live}
use Rattle.life.proofs.Inside.{commit_inside, replay_inside, clear_inside, label_kept}

-- what holds at each point of a life: with a session the volume is that session's, or no action is left and it is one that a cut may have left
abbrev pub Inv : Format → (ℕ → Sector) → List Entry → Disk → Option Session → Type 0
Inv F base acc d None = Dead F base acc d
Inv F base acc d (Some s) = Live F base acc d s ⊎ ((d.left ≡ 0) × Steady F s × Dead F base acc d)

-- in either case
pub inv_dead : (F : Format) (base : ℕ → Sector) (acc : List Entry) (d : Disk) (o : Option Session) → Inv F base acc d o → Dead F base acc d
inv_dead F base acc d None i = i
inv_dead F base acc d (Some s) (inl L) = live_dead F base acc d s L
inv_dead F base acc d (Some s) (inr (e, st, D)) = D

-- a session whose volume is live is in order
live_steady : (F : Format) (base : ℕ → Sector) (acc : List Entry) (d : Disk) (s : Session) → Live F base acc d s → Steady F s
live_steady F base acc d s L = record { turn = L.turn; begun = L.begun; low = L.low; window = L.window; room = L.room; passes = ap F.pass L.chain ∙ L.passes }

-- a session that stands is in order
pub inv_steady : (F : Format) (base : ℕ → Sector) (acc : List Entry) (d : Disk) (s : Session) → Inv F base acc d (Some s) → Steady F s
inv_steady F base acc d s (inl L) = live_steady F base acc d s L
inv_steady F base acc d s (inr (e, st, D)) = st

-- a cut
pub dead_cut : (F : Format) (base : ℕ → Sector) (acc : List Entry) (d f : Disk) → Cut d f → Dead F base acc d → Dead F base acc f
dead_cut F base acc d f c D = record {
  t = D.t;
  tiles = D.tiles;
  a = D.a;
  u = D.u;
  b = D.b;
  log = D.log;
  last = D.last;
  last_tile = D.last_tile;
  at_a = D.at_a;
  current = λ j. subst (λ (l : List Sector). In (f.now j) l) (sym (c.same j)) (c.each j);
  okay = λ x p q. subst (λ (l : List Sector). AllByRecursion (Okay F D.t D.tiles D.a x) l) (sym (c.same (slot F x))) (D.okay x p q);
  free = λ l. subst (λ (l : List Sector). AllByRecursion (λ s. F.ring.pos (slot F D.u) s + F.ring.N ≡ D.u) l) (sym (c.same (slot F D.u))) (D.free l);
  outcomes = λ n e tile B lo hi. out e (D.outcomes n e tile B lo hi);
}
  where
    out : (e : ℕ) → Outcome F base acc d.past D.t D.tiles e → Outcome F base acc f.past D.t D.tiles e
    out e O = record {
      n = O.n;
      tile = O.tile;
      boundary = O.boundary;
      front = O.front;
      clearing = O.clearing;
      counted = O.counted;
      rest = O.rest;
      cut = O.cut;
      ends = O.ends;
      told = O.told;
      tails = O.tails;
      kept = O.kept;
      dropped = O.dropped;
      split = O.split;
      unsafe = O.unsafe;
      whole = O.whole;
      older = O.older;
      youngest = O.youngest;
      closed = O.closed;
      sound = O.sound;
      passes = O.passes;
      claim = λ x hm na. subst (λ (l : List Sector). AllByRecursion (λ s. Holds (all_items F (transactions O.kept)) x (byte_at base x) (byte s (x % 512))) l) (sym (c.same (x / 512))) (O.claim x hm na);
    }

-- Replay, by any plan.
abbrev Step : Format → (ℕ → Sector) → List Entry → Disk → Option Session → ℕ → ℕ → ℕ → ℕ → List Rec → Type 0
Step F base acc d o m n e t chain =
    (new : List Entry) × Inside F (replays F d.now m e chain) ×
    ((on_replay F m e chain d).1 ≡ false → new ≡ acc) ×
    ((on_replay F m e chain d).1 ≡ true → Replayed F base acc new d.now (on_replay F m e chain d).0.now chain (counts F chain)) ×
    Inv F base new (on_replay F m e chain d).0 (cond (on_replay F m e chain d).1 (Some (replayed n e t chain)) o)

module _ (F : Format) (base : ℕ → Sector) (acc : List Entry) (d : Disk) (o : Option Session) (D : Dead F base acc d)
    (order : (s : Session) → o ≡ Some s → Steady F s) where
  -- by the plan that is there
  step_own : (m h n e : ℕ) (P : Planned F base acc d D m h n e) → Readable d.now (chain_items F (tile_bodies (P.outcome.clearing ∷ P.outcome.counted))) →
      Step F base acc d o m n e (D.t + width P.outcome.front) (tile_bodies (P.outcome.clearing ∷ P.outcome.counted))
  step_own m h n e P ready = go (run acts d).1 refl
    where
      acts : List Action
      acts = force ∷ todo F base acc d D m h n e P ready

      chain : List Rec
      chain = tile_bodies (P.outcome.clearing ∷ P.outcome.counted)

      ins : Inside F (replays F d.now m e chain)
      ins = replay_inside F d.now m e chain P.outcome.sound ready

      S : Option Session
      S = Some (replayed n e (D.t + width P.outcome.front) (tile_bodies (P.outcome.clearing ∷ P.outcome.counted)))

      refused : (p : Option Session) → o ≡ p → (run acts d).1 ≡ false → Inv F base acc (run acts d).0 p
      refused None w q = replay_dead F base acc d D m h n e P ready
      refused (Some s) w q = inr (refused_left acts d q, order s w, replay_dead F base acc d D m h n e P ready)

      go : (b : Bool) → (run acts d).1 ≡ b → Step F base acc d o m n e (D.t + width P.outcome.front) (tile_bodies (P.outcome.clearing ∷ P.outcome.counted))
      go false q = (acc, ins, (λ _. refl), (λ z. false_true (sym q ∙ z)), subst (λ (b : Bool). Inv F base acc (run acts d).0 (cond b S o)) (sym q) (refused o refl q))
      go true q = (
        secure P.outcome.kept,
        ins,
        (λ z. false_true (sym z ∙ q)),
        (λ _. replay_does F base acc d D m h n e P ready q),
        subst (λ (b : Bool). Inv F base (secure P.outcome.kept) (run acts d).0 (cond b S o)) (sym q)
            (inl (replay_live F base acc d D m h n e P ready q (secure P.outcome.kept) (transactions_secure P.outcome.kept))),
      )

  -- which is the only one
  step : (m h n e t : ℕ) (chain : List Rec) → Plan F d.now m h n e t chain → Readable d.now (chain_items F chain) → Step F base acc d o m n e t chain
  step m h n e t chain p r = go (planned F base acc d D)
    where
      go : ((m : ℕ) × (h : ℕ) × (n : ℕ) × (e : ℕ) × Planned F base acc d D m h n e) → Step F base acc d o m n e t chain
      go (m', h', n', e', P) =
          subst (λ (k : ℕ). Step F base acc d o k n e t chain) same.em
          (subst (λ (k : ℕ). Step F base acc d o m' k e t chain) same.en
          (subst (λ (k : ℕ). Step F base acc d o m' n' k t chain) same.ee
          (subst (λ (k : ℕ). Step F base acc d o m' n' e' k chain) same.et
          (subst (λ (k : List Rec). Step F base acc d o m' n' e' t' k) same.ec
          (step_own m' h' n' e' P (subst (λ (k : List Rec). Readable d.now (chain_items F k)) (sym same.ec) r))))))
        where
          t' : ℕ
          t' = D.t + width P.outcome.front

          same : SamePlan m n e t chain m' n' e' t' (tile_bodies (P.outcome.clearing ∷ P.outcome.counted))
          same = plan_one F d.now m h n e t chain m' h' n' e' t' (tile_bodies (P.outcome.clearing ∷ P.outcome.counted)) p P.plan

-- Commit and force, from either state of a volume with a session.
commit_step : (F : Format) (base : ℕ → Sector) (acc : List Entry) (d : Disk) (s : Session) (r : Rec) (x : Transaction) → Commits F s r x → Inv F base acc d (Some s) →
    (new : List Entry) × (new ≡ cond (run (puts F r s.t s.e 0 (size r)) d).1 (acc ++ (record { transaction = x; safe = false } ∷ [])) acc) ×
    Inv F base new (run (puts F r s.t s.e 0 (size r)) d).0 (Some (cond (run (puts F r s.t s.e 0 (size r)) d).1 (committed s r) s))
commit_step F base acc d s r x k i = by i
  where
    acts : List Action
    acts = puts F r s.t s.e 0 (size r)

    more : List Entry
    more = acc ++ (record { transaction = x; safe = false } ∷ [])

    Goal : Disk → Bool → Type 0
    Goal v b = (new : List Entry) × (new ≡ cond b more acc) × Inv F base new v (Some (cond b (committed s r) s))

    live : Live F base acc d s → (b : Bool) → (run acts d).1 ≡ b → Goal (run acts d).0 (run acts d).1
    live L true q = subst (λ (b : Bool). Goal (run acts d).0 b) (sym q) (more, refl, inl (commit_live F base acc d s L r x k q))
    live L false q = subst (λ (b : Bool). Goal (run acts d).0 b) (sym q) (acc, refl, inr (refused_left acts d q, live_steady F base acc d s L, commit_dead F base acc d s L r s.t k.window k.room (fit F base acc d s L r x k) q))

    by : Inv F base acc d (Some s) → Goal (run acts d).0 (run acts d).1
    by (inl L) = live L (run acts d).1 refl
    by (inr (z, st, D)) =
        subst (λ (p : Disk × Bool). Goal p.0 p.1) (sym (run_none (write (slot F (s.e + 0)) (F.sec r s.t s.e 0)) (puts F r s.t s.e (0 + 1) r.more) d z))
        (acc, refl, inr (z, st, D))

-- force
force_step : (F : Format) (base : ℕ → Sector) (acc : List Entry) (d : Disk) (s : Session) → Inv F base acc d (Some s) →
    (new : List Entry) × (new ≡ cond (run (force ∷ []) d).1 (secure acc) acc) × Inv F base new (run (force ∷ []) d).0 (Some (cond (run (force ∷ []) d).1 (settles s) s))
force_step F base acc d s i = by i
  where
    Goal : Disk → Bool → Type 0
    Goal v b = (new : List Entry) × (new ≡ cond b (secure acc) acc) × Inv F base new v (Some (cond b (settles s) s))

    live : Live F base acc d s → (n : ℕ) → d.left ≡ n →
        Goal (elim n as (λ _. Disk × Bool) [ zero ↦ (d, false) | suc k ↦ (act force k d, true) ]).0 (elim n as (λ _. Disk × Bool) [ zero ↦ (d, false) | suc k ↦ (act force k d, true) ]).1
    live L zero q = (acc, refl, inr (q, live_steady F base acc d s L, live_dead F base acc d s L))
    live L (suc k) q = (secure acc, refl, inl (force_live F base acc d s L k))

    by : Inv F base acc d (Some s) → Goal (run (force ∷ []) d).0 (run (force ∷ []) d).1
    by (inl L) = live L d.left refl
    by (inr (z, st, D)) = subst (λ (p : Disk × Bool). Goal p.0 p.1) (sym (run_none force [] d z)) (acc, refl, inr (z, st, D))

-- what is found is in bounds
found_sound : (F : Format) (base : ℕ → Sector) (acc : List Entry) (d : Disk) → Dead F base acc d → (m h n e t : ℕ) (chain : List Rec) → Plan F d.now m h n e t chain →
    AllByRecursion (Sound F) (chain_items F chain)
found_sound F base acc d D m h n e t chain p = go (planned F base acc d D)
  where
    go : ((m : ℕ) × (h : ℕ) × (n : ℕ) × (e : ℕ) × Planned F base acc d D m h n e) → AllByRecursion (Sound F) (chain_items F chain)
    go (m', h', n', e', P) =
        subst (λ (l : List Rec). AllByRecursion (Sound F) (chain_items F l))
        (plan_one F d.now m h n e t chain m' h' n' e' (D.t + width P.outcome.front) (tile_bodies (P.outcome.clearing ∷ P.outcome.counted)) p P.plan).ec
        P.outcome.sound

-- Clear, from a session's volume.
module _ (F : Format) (base : ℕ → Sector) (acc : List Entry) (d : Disk) (s : Session) (L : Live F base acc d s) (q : Rec) (K : Clears F s q) where
  -- what clear is to leave
  abbrev ClearLeaves : ℕ → List Rec → Disk × Bool → Type 0
  ClearLeaves e chain p = (new : List Entry) × (new ≡ cond p.1 (secure acc) acc) ×
      Inv F base new p.0 (Some (cond p.1 (record { e = e + size q; t = e; a = e + size q; newest = e; chain = q ∷ [] }) s))

  -- by the plan that is there
  clear_own : (m h n e : ℕ) (P : Planned F base acc d (live_dead F base acc d s L) m h n e) →
      Readable d.now (chain_items F (tile_bodies (P.outcome.clearing ∷ P.outcome.counted))) → e ≡ s.e →
      (live_dead F base acc d s L).t + width P.outcome.front ≡ s.t → tile_bodies (P.outcome.clearing ∷ P.outcome.counted) ≡ s.chain →
      ClearLeaves e (tile_bodies (P.outcome.clearing ∷ P.outcome.counted)) (run (clearings F d.now e (tile_bodies (P.outcome.clearing ∷ P.outcome.counted)) q) d)
  unfolding live_dead
  clear_own m h n e P ready ee et ec = subst (λ (l : List Action). G (run l d)) (sym list_is) (subst G (sym (run-++ A B d)) (go (run A d).1 refl))
    where
      D : Dead F base acc d
      D = live_dead F base acc d s L

      own : List Rec
      own = tile_bodies (P.outcome.clearing ∷ P.outcome.counted)

      G : Disk × Bool → Type 0
      G = ClearLeaves e own

      ns : Session
      ns = record { e = e + size q; t = e; a = e + size q; newest = e; chain = q ∷ [] }

      A : List Action
      A = force ∷ todo F base acc d (live_dead F base acc d s L) m h n e P ready

      X : List Action
      X = lays (chain_items F own) d.now

      B : List Action
      B = puts F q e e 0 (size q) ++ (force ∷ [])

      none : m + 1 - e ≡ 0
      none = omega (arith, P.found.top)

      list_is : clearings F d.now e own q ≡ A ++ B
      list_is = ap (λ (l : List Action). force ∷ l)
          (sym (append_assoc X (force ∷ []) B)
          ∙ ap (λ (l : List Action). (l ++ (force ∷ [])) ++ B) (sym (append-nil X))
          ∙ ap (λ (k : ℕ). ((X ++ blanks F d.now e k) ++ (force ∷ [])) ++ B) (sym none))

      all_kept : P.outcome.dropped ≡ []
      all_kept = P.outcome.whole (let w = width-++ (L.clearing ∷ L.counted) [] in omega (arith, L.ends))

      acc_is : acc ≡ P.outcome.kept
      acc_is = P.outcome.split ∙ ap (λ (l : List Entry). P.outcome.kept ++ l) all_kept ∙ append-nil P.outcome.kept

      go : (b : Bool) → (run A d).1 ≡ b → G (cond (run A d).1 (run B (run A d).0) (run A d))
      go false z = subst (λ (b : Bool). G (cond b (run B (run A d).0) (run A d))) (sym z) (
        acc,
        ap (λ (b : Bool). cond b (secure acc) acc) (sym z),
        subst (λ (b : Bool). Inv F base acc (run A d).0 (Some (cond b ns s))) (sym z)
            (inr (refused_left A d z, live_steady F base acc d s L, replay_dead F base acc d D m h n e P ready)),
      )
      go true z = subst (λ (b : Bool). G (cond b (run B (run A d).0) (run A d))) (sym z) (subst G (sym (run-++ C (force ∷ []) d1)) (next (run C d1).1 refl))
        where
          d1 : Disk
          d1 = (run A d).0

          C : List Action
          C = puts F q e e 0 (size q)

          s1 : Session
          s1 = replayed n e ((live_dead F base acc d s L).t + width P.outcome.front) own

          L1 : Live F base acc d1 s1
          L1 = replay_live F base acc d D m h n e P ready z acc (ap transactions acc_is)

          win : e + size q ≤ e + F.ring.W
          win = omega (arith, K.clearing.short)

          room : e + size q ≤ (live_dead F base acc d s L).t + width P.outcome.front + F.ring.N
          room = omega (arith, K.room, et)

          fits : Fits F.ring q e e
          fits = record { small = K.clearing.small; begun = omega (arith, L.turn, L.begun, L.low, ee); behind = omega arith; last = omega (arith, K.last, ee) }

          full : (x : ℕ) → Home F (x / 512) → AllByRecursion (λ y. Holds (all_items F (transactions acc)) x (byte_at base x) (byte y (x % 512))) (d1.past (x / 512))
          full x hm = subst (λ (l : List Sector). AllByRecursion (λ y. Holds (all_items F (transactions acc)) x (byte_at base x) (byte y (x % 512))) l) (sym (fixed F base acc d D m h n e P ready z (x / 512)))
              (subst (λ (l : List Entry). Holds (all_items F (transactions l)) x (byte_at base x) (byte_at d1.now x)) (sym acc_is) (holds_now F base acc d D m h n e P ready z x hm), tt)

          shut : open_ids (all_items F (transactions acc)) ≡ []
          shut = ap (λ (l : List Entry). open_ids (all_items F (transactions l))) acc_is ∙ sym (ids_now F base acc d D m h n e P ready z)
              ∙ ap (λ (l : List Rec). open_ids (chain_items F l)) ec ∙ K.closed

          next : (b : Bool) → (run C d1).1 ≡ b → G (cond (run C d1).1 (run (force ∷ []) (run C d1).0) (run C d1))
          next false y = subst (λ (b : Bool). G (cond b (run (force ∷ []) (run C d1).0) (run C d1))) (sym y) (
            acc,
            ap (λ (b : Bool). cond b (secure acc) acc) (sym y),
            subst (λ (b : Bool). Inv F base acc (run C d1).0 (Some (cond b ns s))) (sym y)
                (inr (refused_left C d1 y, live_steady F base acc d s L, commit_dead F base acc d1 s1 L1 q e win room fits y)),
          )
          next true y = subst (λ (b : Bool). G (cond b (run (force ∷ []) (run C d1).0) (run C d1))) (sym y) (fin (run C d1).0.left refl)
            where
              v : Disk
              v = (run C d1).0

              fin : (k : ℕ) → v.left ≡ k → G (elim k as (λ _. Disk × Bool) [ zero ↦ (v, false) | suc j ↦ (act force j v, true) ])
              fin zero w = (acc, refl, inr (w, live_steady F base acc d s L, written_dead F base acc d1 s1 L1 q win room fits K.clearing.empty K.clearing.passes full shut))
              fin (suc j) w = (secure acc, refl, inl (cleared_live F base acc d1 s1 L1 q win room fits K.clearing.empty K.clearing.passes full shut y j))

  -- which is the only one
  clear_live : (m h n : ℕ) (chain : List Rec) → Plan F d.now m h n s.e s.t chain → Readable d.now (chain_items F chain) →
      Inside F (clearings F d.now s.e chain q) × ClearLeaves s.e chain (run (clearings F d.now s.e chain q) d)
  clear_live m h n chain p r = go (planned F base acc d D)
    where
      D : Dead F base acc d
      D = live_dead F base acc d s L

      go : ((m : ℕ) × (h : ℕ) × (n : ℕ) × (e : ℕ) × Planned F base acc d D m h n e) →
          Inside F (clearings F d.now s.e chain q) × ClearLeaves s.e chain (run (clearings F d.now s.e chain q) d)
      go (m', h', n', e', P) = (
        clear_inside F d.now s.e chain q (subst (λ (l : List Rec). AllByRecursion (Sound F) (chain_items F l)) same.ec P.outcome.sound) r,
        subst (λ (k : ℕ). ClearLeaves k chain (run (clearings F d.now k chain q) d)) same.ee
            (subst (λ (l : List Rec). ClearLeaves e' l (run (clearings F d.now e' l q) d)) same.ec (clear_own m' h' n' e' P (subst (λ (l : List Rec). Readable d.now (chain_items F l)) (sym same.ec) r) same.ee same.et (same.ec ∙ is_chain))),
      )
        where
          own : List Rec
          own = tile_bodies (P.outcome.clearing ∷ P.outcome.counted)

          same : SamePlan m n s.e s.t chain m' n' e' (D.t + width P.outcome.front) own
          same = plan_one F d.now m h n s.e s.t chain m' h' n' e' (D.t + width P.outcome.front) own p P.plan

          T : List Tile
          T = L.clearing ∷ L.counted

          is_chain : chain ≡ s.chain
          is_chain = chain_one F d.now s.t s.e chain (tile_bodies (L.clearing ∷ L.counted)) p.chained
              (chain_tiles F s.t (L.clearing ∷ L.counted) s.e d.now (λ x lo hi. (L.now_ok x (omega (arith, L.room)) hi).part lo hi)
              (L.clearing ∷ L.counted) [] [] s.t s.e (sym (append-nil (L.clearing ∷ L.counted))) (sym (add-zero s.t)) L.ends (omega arith))
              ∙ sym L.chain

-- clear, from either state of a volume with a session
clear_step : (F : Format) (base : ℕ → Sector) (acc : List Entry) (d : Disk) (s : Session) (q : Rec) → Clears F s q → Inv F base acc d (Some s) →
    (m h n : ℕ) (chain : List Rec) → Plan F d.now m h n s.e s.t chain → Readable d.now (chain_items F chain) →
    (new : List Entry) × Inside F (clearings F d.now s.e chain q) × (new ≡ cond (on_clear F s q chain d).1 (secure acc) acc) ×
    Inv F base new (on_clear F s q chain d).0 (Some (cond (on_clear F s q chain d).1 (cleared s q) s))
clear_step F base acc d s q k (inl L) m h n chain p r =
    let c = clear_live F base acc d s L q k m h n chain p r in
    (c.1.0, c.0, c.1.1, c.1.2)
clear_step F base acc d s q k (inr (z, st, D)) m h n chain p r =
    subst (λ (r : Disk × Bool). (new : List Entry) × Inside F (clearings F d.now s.e chain q) × (new ≡ cond r.1 (secure acc) acc) ×
    Inv F base new r.0 (Some (cond r.1 (cleared s q) s)))
    (sym (run_none force (lays (chain_items F chain) d.now ++ (force ∷ (record_writes F q s.e s.e ++ (force ∷ [])))) d z))
    (acc, clear_inside F d.now s.e chain q (found_sound F base acc d D m h n s.e s.t chain p) r, refl, inr (z, st, D))

-- The account of a life, and what holds at its end.
pub record AtEnd {F : Format} {base : ℕ → Sector} {d : Disk} {o : Option Session} (l : Life F base d o) : Type 0 where
  pub account : List Entry
  pub accounted : Account l account
  pub inv : Inv F base account d o
  pub label : AllByRecursion (λ s. s ≡ holds F.label) (d.past 0)

-- the session that stands, if one does, is in order
pub order : (F : Format) (base : ℕ → Sector) (acc : List Entry) (d : Disk) (o : Option Session) → Inv F base acc d o → (s : Session) → o ≡ Some s → Steady F s
order F base acc d o i s e = inv_steady F base acc d s (subst (λ (p : Option Session). Inv F base acc d p) e i)

-- so it is in every life, by induction over its calls and cuts
pub lives : {F : Format} {base : ℕ → Sector} {d : Disk} {o : Option Session} (l : Life F base d o) → AtEnd l
lives {F} {base} (labelled d q l ok same) =
    let L = label_leaves F q d l ok in
    record {
      account = [];
      accounted = refl;
      inv = label_dead F base q (on_label F q d).0 L same;
      label = subst (λ (k : List Sector). AllByRecursion (λ s. s ≡ holds F.label) k) (sym (L.fixed 0)) (L.label, tt);
    }
lives {F} {base} (cuts {d} {f} {o} l c) =
    let h = lives l in
    record {
      account = h.account;
      accounted = h.accounted;
      inv = dead_cut F base h.account d f c (inv_dead F base h.account d o h.inv);
      label = subst (λ (k : List Sector). AllByRecursion (λ s. s ≡ holds F.label) k) (sym (c.same 0)) h.label;
    }
lives {F} {base} (replay {d} {o} l {m} {h} {n} {e} {t} {chain} p r) =
    let i = lives l in
    let D = inv_dead F base i.account d o i.inv in
    let s = step F base i.account d o D (order F base i.account d o i.inv) m h n e t chain p r in
    record {
      account = s.0;
      accounted = (i.account, i.accounted, s.1, s.2, s.3);
      inv = s.4;
      label = label_kept F (replays F d.now m e chain) d D.current i.label s.1;
    }
lives {F} {base} (commits {d} {s} l r x k) =
    let h = lives l in
    let c = commit_step F base h.account d s r x k h.inv in
    let ins = commit_inside F r s.t s.e in
    record {
      account = c.0;
      accounted = (h.account, h.accounted, ins, c.1);
      inv = c.2;
      label = label_kept F (record_writes F r s.t s.e) d (inv_dead F base h.account d (Some s) h.inv).current h.label ins;
    }
lives {F} {base} (clears {d} {s} l q k {m} {h} {n} {chain} p r) =
    let i = lives l in
    let c = clear_step F base i.account d s q k i.inv m h n chain p r in
    record {
      account = c.0;
      accounted = (i.account, i.accounted, c.1, c.2);
      inv = c.3;
      label = label_kept F (clearings F d.now s.e chain q) d (inv_dead F base i.account d (Some s) i.inv).current i.label c.1;
    }
lives {F} {base} (forces {d} {s} l) =
    let h = lives l in
    let c = force_step F base h.account d s h.inv in
    record {
      account = c.0;
      accounted = (h.account, h.accounted, c.1);
      inv = c.2;
      label = label_kept F (force ∷ []) d (inv_dead F base h.account d (Some s) h.inv).current h.label tt;
    }

-- the sectors of the log can be read
pub log_whole : (F : Format) (base : ℕ → Sector) (acc : List Entry) (d : Disk) → Dead F base acc d → (x : ℕ) → AllByRecursion Whole (d.past (slot F x))
log_whole F base acc d D x = go (rep F.ring D.b (x + 1) x (omega (arith, D.log.turn, D.log.begun, D.log.low, D.log.high)) (omega arith))
  where
    go : ((y : ℕ) × (D.b ≤ y + F.ring.N) × (y < D.b) × (F.ring.slot y ≡ F.ring.slot x)) → AllByRecursion Whole (d.past (slot F x))
    go (y, p, q, e) = subst (λ (i : ℕ). AllByRecursion Whole (d.past i)) e
        (all_map (Okay F D.t D.tiles D.a y) (λ s. Whole s) (d.past (slot F y)) (λ s z. z.whole) (D.okay y p q))

-- a reading finds a chain on which every check passes
pub finds : (F : Format) (base : ℕ → Sector) (acc : List Entry) (d : Disk) → Dead F base acc d → Finds F d.now
finds F base acc d D =
    let p = planned F base acc d D in
    let P = p.4 in
    record {
      m = p.0;
      h = p.1;
      n = p.2;
      e = p.3;
      t = D.t + width P.outcome.front;
      chain = tile_bodies (P.outcome.clearing ∷ P.outcome.counted);
      plan = P.plan;
      passes = P.outcome.passes;
      sound = P.outcome.sound;
    }
