-- A second replay right after an accepted one changes nothing; and all together.
use Rattle.std.proofs.Common.{◌≡◌, ℕ, ◌+◌, ◌-◌, true, List, [], ◌∷◌, ◌++◌, sym, refl, ap, ◌∙◌, subst, append-nil, add-zero, arith}
use Rattle.life.specs.Disk.{Sector, Disk, AllByRecursion}
use Rattle.life.specs.Log.{Newest}
use Rattle.life.specs.Format.{Rec, Format, chain_items, slot}
use Rattle.life.specs.Calls.{byte_at, Readable, effect, lays, blanks, Chain, Plan, counts, Session, replayed}
use Rattle.life.specs.Life.{on_replay, Entry, Again, LifeStands}
use Rattle.life.proofs.Lists.{all_right}
use Rattle.life.proofs.Lay.{lay, lay_twice}
use Rattle.life.proofs.Tiles.{Tile, width, tile_bodies, stand}
use Rattle.life.proofs.Bytes.{lays_log}
use Rattle.life.proofs.Dead.{Boundary, Dead, newest_one, SamePlan, plan_one, Planned, planned, chain_one, chain_tiles}
use Rattle.life.proofs.Live.{Live, bytes_now, newest_now, now_is, replay_live}
use Rattle.life.proofs.Ends.{live_dead}
use Rattle.life.proofs.Whole.{inv_dead, order, lives, log_whole, finds}

-- the plan on a session's volume with nothing since the last force is the session
module _ (F : Format) (base : ℕ → Sector) (acc : List Entry) (d : Disk) (s : Session) (L : Live F base acc d s) (firm : s.a ≡ s.e) where
  -- the plan of a volume with nothing to lose is its session
  pub record Own (m h n e : ℕ) (P : Planned F base acc d (live_dead F base acc d s L) m h n e) : Type 0 where
    pub end : e ≡ s.e
    pub head : h ≡ s.e
    pub tail : (live_dead F base acc d s L).t + width P.outcome.front ≡ s.t
    pub records : tile_bodies (P.outcome.clearing ∷ P.outcome.counted) ≡ s.chain
    pub none : m + 1 - e ≡ 0

  -- so it is
  pub own : (m h n e : ℕ) (P : Planned F base acc d (live_dead F base acc d s L) m h n e) → Own m h n e P
  unfolding live_dead
  own m h n e P = record { end = en; head = omega (arith, firm, P.found.from, P.found.upto); tail = tl; records = rc; none = omega (arith, P.found.top, en) }
    where
      en : e ≡ s.e
      en = omega (arith, P.least, P.most, P.found.upto)

      T : List Tile
      T = (L.clearing ∷ L.counted) ++ []

      B : Boundary s.t ((L.clearing ∷ L.counted) ++ []) n e P.tile
      B = P.boundary

      told : P.tile.tail ≡ s.t
      told = (all_right (λ r. r.tail ≡ s.t) B.done (P.tile ∷ B.rest)
          (subst (λ (l : List Tile). AllByRecursion (λ r. r.tail ≡ s.t) l) (sym (append-nil (L.clearing ∷ L.counted)) ∙ B.split) L.tails)).0

      tl : s.t + width P.outcome.front ≡ s.t
      tl =
          let st = B.starts in
          let z = stand F s.t ((L.clearing ∷ L.counted) ++ []) h d.now P.shows B.done P.tile B.rest B.split 0 (omega arith) (omega (arith, B.ends, P.most)) in
          let q : n ≡ s.t + width B.done + 0 = omega arith in
          P.plan.told ∙ ap (λ (y : ℕ). F.ring.tail (d.now (slot F y))) q ∙ ap F.ring.tail z.0 ∙ F.sec_tail P.tile.body P.tile.tail (s.t + width B.done) z.1 ∙ told

      rc : tile_bodies (P.outcome.clearing ∷ P.outcome.counted) ≡ s.chain
      rc =
          let own : List Rec = tile_bodies (P.outcome.clearing ∷ P.outcome.counted) in
          chain_one F d.now s.t s.e (tile_bodies (P.outcome.clearing ∷ P.outcome.counted)) (tile_bodies (L.clearing ∷ L.counted))
          (subst (λ (k : ℕ). Chain F d.now k s.e (tile_bodies (P.outcome.clearing ∷ P.outcome.counted))) tl
          (subst (λ (k : ℕ). Chain F d.now (s.t + width P.outcome.front) k (tile_bodies (P.outcome.clearing ∷ P.outcome.counted))) en P.plan.chained))
          (chain_tiles F s.t (L.clearing ∷ L.counted) s.e d.now (λ x lo hi. (L.now_ok x (omega (arith, L.room)) hi).part lo hi)
          (L.clearing ∷ L.counted) [] [] s.t s.e (sym (append-nil (L.clearing ∷ L.counted))) (sym (add-zero s.t)) L.ends (omega arith))
          ∙ sym L.chain

-- both replays by their own plans
module _ (F : Format) (base : ℕ → Sector) (acc : List Entry) (d : Disk) (D : Dead F base acc d) (m h n e : ℕ) (P : Planned F base acc d D m h n e)
    (ready : Readable d.now (chain_items F (tile_bodies (P.outcome.clearing ∷ P.outcome.counted)))) where
  -- the records found first
  abbrev C : List Rec
  C = tile_bodies (P.outcome.clearing ∷ P.outcome.counted)

  -- what the first replay leaves
  abbrev v : Disk
  v = (on_replay F m e (tile_bodies (P.outcome.clearing ∷ P.outcome.counted)) d).0

  -- the second replay
  twice : (on_replay F m e C d).1 ≡ true → (m' h' n' e' t' : ℕ) (chain' : List Rec) → Plan F v.now m' h' n' e' t' chain' → Readable v.now (chain_items F chain') →
      (on_replay F m' e' chain' v).1 ≡ true → Again F v.now (on_replay F m' e' chain' v).0.now n e (D.t + width P.outcome.front) C n' e' t' chain'
  twice ok m' h' n' e' t' chain' p r = go (planned F base P.outcome.kept v (live_dead F base P.outcome.kept v s L))
    where
      s : Session
      s = replayed n e (D.t + width P.outcome.front) C

      L : Live F base P.outcome.kept v s
      L = replay_live F base acc d D m h n e P ready ok P.outcome.kept refl

      D2 : Dead F base P.outcome.kept v
      D2 = live_dead F base P.outcome.kept v s L

      go : ((m : ℕ) × (h : ℕ) × (n : ℕ) × (e : ℕ) × Planned F base P.outcome.kept v D2 m h n e) → (on_replay F m' e' chain' v).1 ≡ true →
          Again F v.now (on_replay F m' e' chain' v).0.now n e (D.t + width P.outcome.front) C n' e' t' chain'
      go (m2, h2, n2, e2, P2) ok2 =
          subst (λ (k : ℕ). A m' n' k t' chain') same.ee
          (subst (λ (k : ℕ). A k n' e2 t' chain') same.em
          (subst (λ (k : ℕ). A m2 k e2 t' chain') same.en
          (subst (λ (k : ℕ). A m2 n2 e2 k chain') same.et
          (subst (λ (k : List Rec). A m2 n2 e2 t2 k) same.ec first))))
          ok2
        where
          t2 : ℕ
          t2 = D2.t + width P2.outcome.front

          c2 : List Rec
          c2 = tile_bodies (P2.outcome.clearing ∷ P2.outcome.counted)

          same : SamePlan m' n' e' t' chain' m2 n2 e2 t2 c2
          same = plan_one F v.now m' h' n' e' t' chain' m2 h2 n2 e2 t2 c2 p P2.plan

          A : ℕ → ℕ → ℕ → ℕ → List Rec → Type 0
          A m n2 e2 t2 c2 = (on_replay F m e2 c2 v).1 ≡ true → Again F v.now (on_replay F m e2 c2 v).0.now n e (D.t + width P.outcome.front) C n2 e2 t2 c2

          O2 : Own F base P.outcome.kept v s L refl m2 h2 n2 e2 P2
          O2 = own F base P.outcome.kept v s L refl m2 h2 n2 e2 P2

          r2 : Readable v.now (chain_items F c2)
          r2 = subst (λ (k : List Rec). Readable v.now (chain_items F k)) (sym same.ec) r

          newest : n2 ≡ n
          newest = newest_one F.ring v.now e n2 n (subst (λ (k : ℕ). Newest F.ring v.now k n2) O2.head P2.newest) (newest_now F base acc d D m h n e P ready ok)

          first : A m2 n2 e2 t2 c2
          first ok2 = record {
            session = λ i. replayed (newest i) (O2.end i) (O2.tail i) (O2.records i);
            answer = ap (counts F) O2.records;
            bytes = λ x hm. bytes_now F base P.outcome.kept v D2 m2 h2 n2 e2 P2 r2 ok2 x hm ∙ ap (λ (l : List Rec). lay (chain_items F l) x (byte_at v.now x)) O2.records
                ∙ ap (lay (chain_items F C) x) (bytes_now F base acc d D m h n e P ready ok x hm) ∙ lay_twice (chain_items F C) x (byte_at d.now x)
                ∙ sym (bytes_now F base acc d D m h n e P ready ok x hm);
            log = λ x. ap (λ (c : ℕ → Sector). c (slot F x)) (now_is F base P.outcome.kept v D2 m2 h2 n2 e2 P2 r2 ok2)
                ∙ ap (λ (k : ℕ). effect (blanks F v.now e2 k) (effect (lays (chain_items F c2) v.now) v.now) (slot F x)) O2.none
                ∙ lays_log F (chain_items F c2) v.now x P2.outcome.sound r2;
          }

-- a replay accepted right after an accepted replay, by any plans
pub again : (F : Format) (base : ℕ → Sector) (acc : List Entry) (d : Disk) → Dead F base acc d →
    (m h n e t : ℕ) (chain : List Rec) → Plan F d.now m h n e t chain → Readable d.now (chain_items F chain) → (on_replay F m e chain d).1 ≡ true →
    (m' h' n' e' t' : ℕ) (chain' : List Rec) → Plan F (on_replay F m e chain d).0.now m' h' n' e' t' chain' →
    Readable (on_replay F m e chain d).0.now (chain_items F chain') → (on_replay F m' e' chain' (on_replay F m e chain d).0).1 ≡ true →
    Again F (on_replay F m e chain d).0.now (on_replay F m' e' chain' (on_replay F m e chain d).0).0.now n e t chain n' e' t' chain'
again F base acc d D m h n e t chain p r ok m' h' n' e' t' chain' p' r' ok' = go (planned F base acc d D)
  where
    G : ℕ → ℕ → ℕ → ℕ → List Rec → Type 0
    G m n e t chain = (on_replay F m e chain d).1 ≡ true → Plan F (on_replay F m e chain d).0.now m' h' n' e' t' chain' →
        Readable (on_replay F m e chain d).0.now (chain_items F chain') → (on_replay F m' e' chain' (on_replay F m e chain d).0).1 ≡ true →
        Again F (on_replay F m e chain d).0.now (on_replay F m' e' chain' (on_replay F m e chain d).0).0.now n e t chain n' e' t' chain'

    go : ((m : ℕ) × (h : ℕ) × (n : ℕ) × (e : ℕ) × Planned F base acc d D m h n e) →
        Again F (on_replay F m e chain d).0.now (on_replay F m' e' chain' (on_replay F m e chain d).0).0.now n e t chain n' e' t' chain'
    go (m1, h1, n1, e1, P) =
        (subst (λ (k : ℕ). G k n e t chain) same.em
        (subst (λ (k : ℕ). G m1 k e t chain) same.en
        (subst (λ (k : ℕ). G m1 n1 k t chain) same.ee
        (subst (λ (k : ℕ). G m1 n1 e1 k chain) same.et
        (subst (λ (k : List Rec). G m1 n1 e1 t1 k) same.ec
        (λ ok p r ok2. twice F base acc d D m1 h1 n1 e1 P ready ok m' h' n' e' t' chain' p r ok2)))))) ok p' r' ok'
      where
        t1 : ℕ
        t1 = D.t + width P.outcome.front

        same : SamePlan m n e t chain m1 n1 e1 t1 (tile_bodies (P.outcome.clearing ∷ P.outcome.counted))
        same = plan_one F d.now m h n e t chain m1 h1 n1 e1 t1 (tile_bodies (P.outcome.clearing ∷ P.outcome.counted)) p P.plan

        ready : Readable d.now (chain_items F (tile_bodies (P.outcome.clearing ∷ P.outcome.counted)))
        ready = subst (λ (k : List Rec). Readable d.now (chain_items F k)) (sym same.ec) r

-- all that is true of every life
pub life_stands : LifeStands
life_stands F base d o l =
    let h = lives l in
    let D = inv_dead F base h.account d o h.inv in
    record {
      account = h.account;
      accounted = h.accounted;
      label = h.label;
      log = log_whole F base h.account d D;
      steady = order F base h.account d o h.inv;
      finds = finds F base h.account d D;
      again = again F base h.account d D;
    }
