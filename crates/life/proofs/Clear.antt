-- Clear: wherever it is refused a replay keeps all; accepted, it leaves a session's volume with an empty chain.
use Rattle.std.proofs.Common.{◌≡◌, ℕ, zero, suc, ◌+◌, ◌/◌, ◌%◌, ◌<◌, ◌≤◌, Bool, true, false, List, [], ◌∷◌, ◌++◌, sym, refl, ap, ◌∙◌, subst, inl, append-nil, arith}
use native.Mathlib.Decide.{ℕ_discrete}
use Rattle.life.specs.Disk.{Sector, Action, write, force, Disk, AllByRecursion, act, run}
use Rattle.life.specs.Items.{open_ids}
use Rattle.life.specs.Format.{Rec, size, Fits, Transaction, Format, all_items, sector, slot}
use Rattle.life.specs.Calls.{byte, byte_at, Home, Sound, puts, Session, cleared}
use Rattle.life.specs.Life.{Entry, transactions, secure}
use Rattle.life.proofs.Lists.{in_all}
use Rattle.life.proofs.Disk.{put_case}
use Rattle.life.proofs.Lay.{Holds}
use Rattle.life.proofs.Tiles.{Tile, width, Okay, tile_bodies, width-++, part_drop}
use Rattle.life.proofs.Dead.{Boundary, Outcome, Dead}
use Rattle.life.proofs.Live.{Live, transactions_secure, no_loose}
use Rattle.life.proofs.Ends.{live_outcomes, firm_end}
use Rattle.life.proofs.Calls.{boundary_le, kept, okay_v, put_now}

-- a record's writes leave what other sectors have held
puts_home : (F : Format) (r : Rec) (t p k j : ℕ) (d : Disk) (i : ℕ) → Home F i → (run (puts F r t p j k) d).0.past i ≡ d.past i
puts_home F r t p zero j d i hm = refl
puts_home F r t p (suc k) j d i hm = go d.left (λ n. puts_home F r t p k (j + 1) (act (write (slot F (p + j)) (F.sec r t p j)) n d) i hm)
  where
    w : Action
    w = write (slot F (p + j)) (F.sec r t p j)

    go : (n : ℕ) → ((n : ℕ) → (run (puts F r t p (j + 1) k) (act w n d)).0.past i ≡ (act w n d).past i) →
        (elim n as (λ _. Disk × Bool) [ zero ↦ (d, false) | suc q ↦ run (puts F r t p (j + 1) k) (act w q d) ]).0.past i ≡ d.past i
    go zero ih = refl
    go (suc n) ih = ih n ∙ put_case (λ z. z ≡ d.past i) d.past (slot F (p + j)) (sector F r t p j ∷ d.past (slot F (p + j))) i (λ e. absurd (hm.free (p + j) (sym e))) (λ _. refl)

-- a volume on which all patches are laid and forced, before and while the clearing record is written
module _ (F : Format) (base : ℕ → Sector) (acc : List Entry) (d : Disk) (s : Session) (L : Live F base acc d s) (q : Rec)
    (win : s.e + size q ≤ s.a + F.ring.W) (room : s.e + size q ≤ s.t + F.ring.N) (fit : Fits F.ring q s.e s.e) (empty : F.reads (q ∷ []) ≡ []) (passes : F.pass (q ∷ []) ≡ true)
    (full : (x : ℕ) → Home F (x / 512) → AllByRecursion (λ z. Holds (all_items F (transactions acc)) x (byte_at base x) (byte z (x % 512))) (d.past (x / 512)))
    (shut : open_ids (all_items F (transactions acc)) ≡ []) where
  -- the session's records
  abbrev T : List Tile
  T = L.clearing ∷ L.counted

  -- the clearing record
  abbrev Q : Tile
  Q = record { body = q; tail = s.e }

  -- its writes
  abbrev acts : List Action
  acts = puts F q s.e s.e 0 (size q)

  -- what they leave
  abbrev v : Disk
  v = (run (puts F q s.e s.e 0 (size q)) d).0

  -- the clearing record commits nothing
  none_more : transactions acc ≡ transactions acc ++ F.reads (q ∷ [])
  none_more = sym (append-nil (transactions acc)) ∙ ap (λ (l : List Transaction). transactions acc ++ l) (sym empty)

  -- its writes leave the volume's own sectors
  full_v : (x : ℕ) → Home F (x / 512) → AllByRecursion (λ z. Holds (all_items F (transactions acc)) x (byte_at base x) (byte z (x % 512))) (v.past (x / 512))
  full_v x hm = subst (λ (l : List Sector). AllByRecursion (λ z. Holds (all_items F (transactions acc)) x (byte_at base x) (byte z (x % 512))) l)
      (sym (puts_home F q s.e s.e (size q) 0 d (x / 512) hm)) (full x hm)

  -- nor what the session knows of them
  half_v : (x : ℕ) → Home F (x / 512) → AllByRecursion (λ z. Holds (all_items F (L.older ++ F.reads (tile_bodies (L.clearing ∷ L.laid)))) x (byte_at base x) (byte z (x % 512))) (v.past (x / 512))
  half_v x hm = subst (λ (l : List Sector). AllByRecursion (λ z. Holds (all_items F (L.older ++ F.reads (tile_bodies (L.clearing ∷ L.laid)))) x (byte_at base x) (byte z (x % 512))) l)
      (sym (puts_home F q s.e s.e (size q) 0 d (x / 512) hm)) (L.holds x hm)

  -- the clearing record is written and not yet forced
  pub written_dead : Dead F base acc v
  written_dead = record {
    t = s.t;
    tiles = T ++ (Q ∷ []);
    a = s.a;
    u = s.e + size q;
    b = s.e + size q;
    last = fe.0;
    last_tile = fe.1;
    at_a = fe.2;
    current = (kept F base acc d s L q s.e win room fit).0;
    log = record {
      begun = L.begun;
      low = omega (arith, L.low);
      high = omega arith;
      window = win;
      turn = L.turn;
      room = room;
      long = let w = width-++ T (Q ∷ []) in omega (arith, L.ends);
    };
    okay = okay_v F base acc d s L q s.e win room fit;
    free = λ l. absurd (omega arith);
    outcomes = outs;
  }
    where
      fe : (n : ℕ) × (tile : Tile) × Boundary s.t (T ++ (Q ∷ [])) n s.a tile
      fe = firm_end F base acc d s L (Q ∷ [])

      both : width (T ++ (Q ∷ [])) ≡ width T + size q
      both = let w = width-++ T (Q ∷ []) in omega arith

      -- the clearing record is found
      new : Outcome F base acc v.past s.t (T ++ (Q ∷ [])) (s.e + size q)
      new = record {
        n = s.e;
        tile = Q;
        boundary = record { done = T; rest = []; split = refl; starts = L.ends; ends = refl };
        front = T;
        clearing = Q;
        counted = [];
        rest = [];
        cut = refl;
        ends = omega (arith, L.ends);
        told = L.ends;
        tails = (L.ends, tt);
        kept = acc;
        dropped = [];
        split = sym (append-nil acc);
        unsafe = tt;
        whole = λ _. refl;
        older = transactions acc;
        youngest = none_more;
        claim = λ x hm na. full_v x hm;
        closed = shut;
        sound = subst (λ (l : List Transaction). AllByRecursion (Sound F) (all_items F l)) (sym empty) tt;
        passes = passes;
      }

      outs : (n e : ℕ) (tile : Tile) → Boundary s.t (T ++ (Q ∷ [])) n e tile → s.a ≤ e → e ≤ s.e + size q → Outcome F base acc v.past s.t (T ++ (Q ∷ [])) e
      outs n e tile B lo hi = by (ℕ_discrete (s.e + size q) e)
        where
          by : Dec (s.e + size q ≡ e) → Outcome F base acc v.past s.t (T ++ (Q ∷ [])) e
          by (yes z) = subst (λ (k : ℕ). Outcome F base acc v.past s.t (T ++ (Q ∷ [])) k) z new
          by (no z) = live_outcomes F base acc d s L (Q ∷ []) v.past half_v n e tile B lo
              (let w = boundary_le s.t T Q n e tile B (omega (arith, L.ends)) in omega (arith, L.ends))

  -- and forced
  pub cleared_live : (run acts d).1 ≡ true → (k : ℕ) → Live F base (secure acc) (act force k v) (cleared s q)
  cleared_live ok k = record {
    clearing = Q;
    counted = [];
    tails = (refl, tt);
    ends = omega arith;
    chain = refl;
    begun = omega arith;
    low = omega arith;
    window = omega arith;
    turn = omega (arith, L.turn, L.begun, L.low);
    room = omega (arith, win, F.ring.narrow, L.low);
    firm = [];
    loose = [];
    apart = refl;
    at_a = omega arith;
    current = λ j. inl refl;
    okay = λ x p r. (ok_now x p r, tt);
    now_ok = ok_now;
    sure = secure acc;
    open_end = [];
    split = sym (append-nil (secure acc));
    unsafe = tt;
    older = transactions acc;
    sure_is = transactions_secure acc ∙ none_more;
    open_is = no_loose F Q [];
    laid = [];
    later = [];
    laid_is = refl;
    holds = λ x hm. (
      subst (λ (l : List Transaction). Holds (all_items F l) x (byte_at base x) (byte_at v.now x)) none_more
          (in_all (λ z. Holds (all_items F (transactions acc)) x (byte_at base x) (byte z (x % 512))) (v.now (x / 512)) (v.past (x / 512)) (full_v x hm)
          ((kept F base acc d s L q s.e win room fit).0 (x / 512))),
      tt,
    );
    closed = shut;
    sound = subst (λ (l : List Transaction). AllByRecursion (Sound F) (all_items F l)) (sym empty) tt;
    passes = passes;
  }
    where
      ok_now : (x : ℕ) → s.e + size q ≤ x + F.ring.N → x < s.e + size q → Okay F s.e (Q ∷ []) (s.e + size q) x (v.now (slot F x))
      ok_now x p r =
          let o = put_now F base acc d s L q s.e win room fit ok x p r in
          record {
            whole = o.whole;
            held = λ l. o.held l;
            part = λ lo l. part_drop F s.t s.e T (Q ∷ []) x (v.now (slot F x)) L.ends (o.part (omega (arith, L.begun, L.low)) l) lo;
            new = λ l. absurd (omega arith);
          }
