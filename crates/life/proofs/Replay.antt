-- Replay on a volume that a life has left: refused anywhere it leaves such a volume.
use Rattle.std.proofs.Common.{◌≡◌, ℕ, zero, suc, ◌+◌, ◌-◌, ◌/◌, ◌%◌, ◌<◌, ◌≤◌, Bool, true, false, List, [], ◌∷◌, ◌++◌, Option, sym, refl, ◌∙◌, subst, inl, inr, ⊎_elim, arith}
use native.Mathlib.Decide.{dec_le, dec_lt}
use Rattle.life.specs.Disk.{Sector, holds, Action, force, Disk, act, run, Writes}
use Rattle.life.specs.Items.{Item}
use Rattle.life.specs.Log.{limit}
use Rattle.life.specs.Format.{Format, all_items, chain_items, slot}
use Rattle.life.specs.Calls.{byte, byte_at, Home, Readable, lays, blanks}
use Rattle.life.specs.Life.{Entry, transactions}
use Rattle.life.proofs.Lists.{false_true, in_all, all_map}
use Rattle.life.proofs.Disk.{Kept, run_keeps, writes-++, writes_map}
use Rattle.life.proofs.Lay.{Holds, Applied}
use Rattle.life.proofs.Log.{Found}
use Rattle.life.proofs.Tiles.{Tile, Okay, Numbers, tile_bodies}
use Rattle.life.proofs.Bytes.{Within, lays_within, blanks_writes}
use Rattle.life.proofs.Dead.{Boundary, Outcome, Dead, Planned, marks, now_okay, same_boundary}

-- what holds of all contents from replay's first force on
pub record Frozen (F : Format) (base : ℕ → Sector) (t : ℕ) (tiles : List Tile) (e h b : ℕ) (chain kept : List Item) (i : ℕ) (s : Sector) : Type 0 where
  pub log : (x : ℕ) → b ≤ x + F.ring.N → x < b → slot F x ≡ i → Okay F t tiles e x s
  pub free : h < b → slot F h ≡ i → F.ring.pos i s + F.ring.N ≡ h
  pub home : Home F i → (x : ℕ) → x / 512 ≡ i → (Applied chain x → ⊥) → Holds kept x (byte_at base x) (byte s (x % 512))

module _ (F : Format) (base : ℕ → Sector) (acc : List Entry) (d : Disk) (D : Dead F base acc d) (m h n e : ℕ) (P : Planned F base acc d D m h n e)
    (ready : Readable d.now (chain_items F (tile_bodies (P.outcome.clearing ∷ P.outcome.counted)))) where
  -- that, with this plan
  abbrev pub FrozenHere : ℕ → Sector → Type 0
  FrozenHere i s = Frozen F base D.t D.tiles e h D.b (chain_items F (tile_bodies (P.outcome.clearing ∷ P.outcome.counted))) (all_items F (transactions P.outcome.kept)) i s

  -- the numbers of the log
  lg : Numbers F D.t D.tiles D.a D.u D.b
  lg = D.log

  -- what the search found
  f : Found F.ring D.a D.u D.b d.now m h
  f = P.found

  -- a byte that no applied patch covers holds what is asked of it
  pub home_start : (x : ℕ) → Home F (x / 512) → (Applied (chain_items F (tile_bodies (P.outcome.clearing ∷ P.outcome.counted))) x → ⊥) →
      Holds (all_items F (transactions P.outcome.kept)) x (byte_at base x) (byte_at d.now x)
  home_start x hm na =
      in_all (λ s. Holds (all_items F (transactions P.outcome.kept)) x (byte_at base x) (byte s (x % 512))) (d.now (x / 512)) (d.past (x / 512))
      (P.outcome.claim x hm na) (D.current (x / 512))

  -- two positions of the window with one sector are the same
  pub one_slot : (x y : ℕ) → D.b ≤ x + F.ring.N → x < D.b → D.b ≤ y + F.ring.N → y < D.b → slot F x ≡ slot F y → x ≡ y
  one_slot x y p q r s z = by (dec_le x y)
    where
      by : Dec (x ≤ y) → x ≡ y
      by (yes l) = F.ring.apart x y z l (omega arith)
      by (no l) = sym (F.ring.apart y x (sym z) (omega arith) (omega arith))

  -- in the log
  start_okay : (x : ℕ) → D.b ≤ x + F.ring.N → x < D.b → Okay F D.t D.tiles e x (d.now (slot F x))
  start_okay x p q = record { whole = o.whole; held = held; part = λ lo l. P.shows x lo (omega (arith, P.most)); new = λ l. o.new (omega (arith, P.least)) }
    where
      o : Okay F D.t D.tiles D.a x (d.now (slot F x))
      o = now_okay F base acc d D x p q

      held : x < e → F.ring.pos (slot F x) (d.now (slot F x)) ≡ x
      held l = by (dec_lt x D.a)
        where
          by : Dec (x < D.a) → F.ring.pos (slot F x) (d.now (slot F x)) ≡ x
          by (yes z) = o.held z
          by (no z) = f.head.full x (omega (arith, f.top, lg.window)) (omega (arith, P.most))

  -- it holds of the contents that the first force fixes
  start : (j : ℕ) → FrozenHere j (d.now j)
  start j = record {
    log = λ x p q z. subst (λ (i : ℕ). Okay F D.t D.tiles e x (d.now i)) z (start_okay x p q);
    free = λ l z. subst (λ (i : ℕ). F.ring.pos i (d.now i) + F.ring.N ≡ h) z (not_held l);
    home = λ hm x z na. subst (λ (i : ℕ). Holds (all_items F (transactions P.outcome.kept)) x (byte_at base x) (byte (d.now i) (x % 512))) z
        (home_start x (subst (λ (i : ℕ). Home F i) (sym z) hm) na);
  }
    where
      not_held : h < D.b → F.ring.pos (slot F h) (d.now (slot F h)) + F.ring.N ≡ h
      not_held l = ⊎_elim (λ z. absurd (f.head.free z)) (λ z. z) ((marks F base acc d D).new h f.from l)

  -- the patches keep it
  lays_frozen : Writes FrozenHere (lays (chain_items F (tile_bodies (P.outcome.clearing ∷ P.outcome.counted))) d.now)
  lays_frozen =
      let C : List Item = chain_items F (tile_bodies (P.outcome.clearing ∷ P.outcome.counted)) in
      writes_map (Within F (Applied C) (byte_at d.now)) FrozenHere (lays C d.now) conv
      (lays_within F (Applied C) (byte_at d.now) C d.now P.outcome.sound ready (λ x a. a) (λ x z. refl))
    where
      conv : (i : ℕ) (s : Sector) → Within F (Applied (chain_items F (tile_bodies (P.outcome.clearing ∷ P.outcome.counted)))) (byte_at d.now) i s → FrozenHere i s
      conv i s w = record {
        log = λ x p q z. absurd (w.home.free x z);
        free = λ l z. absurd (w.home.free h z);
        home = λ hm x z na. subst (λ (v : Option ℕ). Holds (all_items F (transactions P.outcome.kept)) x (byte_at base x) v) (sym (w.same x z na))
            (home_start x (subst (λ (k : ℕ). Home F k) (sym z) hm) na);
      }

  -- giving up positions keeps it
  blanks_frozen : Writes FrozenHere (blanks F d.now e (m + 1 - e))
  blanks_frozen = blanks_writes F FrozenHere d.now (m + 1 - e) e each
    where
      each : (y : ℕ) → e ≤ y → y < e + (m + 1 - e) → FrozenHere (slot F y) (holds (F.blank y))
      each y lo hi = record {
        log = λ x p q z. ok x (one_slot x y p q yb ym z);
        free = λ l z. let same : h ≡ y = one_slot h y (omega (arith, f.from, lg.window, F.ring.narrow)) l yb ym z in bp ∙ sym same;
        home = λ hm. absurd (hm.free y refl);
      }
        where
          ym : y < D.b
          ym = omega (arith, f.top)

          yb : D.b ≤ y + F.ring.N
          yb = omega (arith, P.least, lg.window, F.ring.narrow)

          big : F.ring.N ≤ y
          big = omega (arith, lg.turn, lg.begun, P.least)

          lim : y < limit F.ring
          lim = omega (arith, P.plan.greatest.low)

          bp : F.ring.pos (slot F y) (holds (F.blank y)) + F.ring.N ≡ y
          bp = F.blank_pos y big lim

          ok : (x : ℕ) → x ≡ y → Okay F D.t D.tiles e x (holds (F.blank y))
          ok x z = record {
            whole = (F.blank y, refl, F.blank_whole y big lim);
            held = λ l. absurd (omega arith);
            part = λ l k. absurd (omega arith);
            new = λ l. inr (subst (λ (i : ℕ). F.ring.pos (slot F i) (holds (F.blank y)) + F.ring.N ≡ i) (sym z) bp);
          }

  -- from the first force on
  forced : (k : ℕ) → Kept FrozenHere (act force k d)
  forced k = ((λ j. inl refl), (λ j. (start j, tt)))

  -- what follows the first force
  abbrev pub todo : List Action
  todo = (lays (chain_items F (tile_bodies (P.outcome.clearing ∷ P.outcome.counted))) d.now ++ blanks F d.now e (m + 1 - e)) ++ (force ∷ [])

  -- all of it keeps it
  todo_frozen : Writes FrozenHere todo
  todo_frozen = writes-++ FrozenHere (lays (chain_items F (tile_bodies (P.outcome.clearing ∷ P.outcome.counted))) d.now ++ blanks F d.now e (m + 1 - e)) (force ∷ [])
      (writes-++ FrozenHere (lays (chain_items F (tile_bodies (P.outcome.clearing ∷ P.outcome.counted))) d.now) (blanks F d.now e (m + 1 - e)) lays_frozen blanks_frozen) tt

  -- a volume that has been through replay's first force is one that a life leaves, with the end fixed at e
  pub thaw : (v : Disk) → Kept FrozenHere v → Dead F base acc v
  thaw v (cur, ev) = record {
    t = D.t;
    tiles = D.tiles;
    a = e;
    u = h;
    b = D.b;
    last = n;
    last_tile = P.tile;
    at_a = P.boundary;
    current = cur;
    log = record {
      begun = omega (arith, lg.begun, P.least);
      low = P.most;
      high = omega (arith, f.upto, lg.high);
      window = omega (arith, lg.window, P.least);
      turn = lg.turn;
      room = lg.room;
      long = lg.long;
    };
    okay = λ x p q. all_map (FrozenHere (slot F x)) (Okay F D.t D.tiles e x) (v.past (slot F x)) (λ s z. z.log x p q refl) (ev (slot F x));
    free = λ l. all_map (FrozenHere (slot F h)) (λ s. F.ring.pos (slot F h) s + F.ring.N ≡ h) (v.past (slot F h)) (λ s z. z.free l refl) (ev (slot F h));
    outcomes = outs;
  }
    where
      O : Outcome F base acc d.past D.t D.tiles e
      O = P.outcome

      out : Outcome F base acc v.past D.t D.tiles e
      out = record {
        n = O.n;
        tile = O.tile;
        boundary = O.boundary;
        front = O.front;
        clearing = O.clearing;
        counted = O.counted;
        rest = O.rest;
        cut = O.cut;
        ends = O.ends;
        told = O.told;
        tails = O.tails;
        kept = O.kept;
        dropped = O.dropped;
        split = O.split;
        unsafe = O.unsafe;
        whole = O.whole;
        older = O.older;
        youngest = O.youngest;
        closed = O.closed;
        sound = O.sound;
        passes = O.passes;
        claim = λ x hm na. all_map (FrozenHere (x / 512)) (λ s. Holds (all_items F (transactions O.kept)) x (byte_at base x) (byte s (x % 512))) (v.past (x / 512))
            (λ s z. z.home hm x refl na) (ev (x / 512));
      }

      outs : (k z : ℕ) (tile : Tile) → Boundary D.t D.tiles k z tile → e ≤ z → z ≤ h → Outcome F base acc v.past D.t D.tiles z
      outs k z tile B lo hi =
          let s = (same_boundary F D.t D.tiles h d.now P.shows n k z tile P.newest B hi (omega (arith, P.ends))).1 in
          let q : e ≡ z = omega (arith, P.ends) in
          subst (λ (y : ℕ). Outcome F base acc v.past D.t D.tiles y) q out

  -- wherever it is refused
  pub replay_dead : Dead F base acc (run (force ∷ todo) d).0
  replay_dead = go d.left
    where
      go : (j : ℕ) → Dead F base acc (elim j as (λ _. Disk × Bool) [ zero ↦ (d, false) | suc k ↦ run todo (act force k d) ]).0
      go zero = D
      go (suc k) = thaw (run todo (act force k d)).0 (run_keeps FrozenHere todo (act force k d) (forced k) todo_frozen)

  -- what an accepted replay leaves
  pub replay_kept : (run (force ∷ todo) d).1 ≡ true → Kept FrozenHere (run (force ∷ todo) d).0
  replay_kept ok = go d.left ok
    where
      go : (j : ℕ) → (elim j as (λ _. Disk × Bool) [ zero ↦ (d, false) | suc k ↦ run todo (act force k d) ]).1 ≡ true →
          Kept FrozenHere (elim j as (λ _. Disk × Bool) [ zero ↦ (d, false) | suc k ↦ run todo (act force k d) ]).0
      go zero q = false_true q
      go (suc k) q = run_keeps FrozenHere todo (act force k d) (forced k) todo_frozen
