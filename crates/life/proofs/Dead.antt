-- What holds of a volume from a cut, or a refusal for want of actions, up to the next accepted replay.
use Rattle.std.proofs.Common.{◌≡◌, ℕ, ◌+◌, ◌-◌, ◌/◌, ◌%◌, ◌<◌, ◌≤◌, true, false, ◌⊎◌, List, [], ◌∷◌, ◌++◌, sym, refl, ap, ◌∙◌, subst, inl, inr, ⊎_elim, append_assoc, arith}
use native.Mathlib.Decide.{dec_lt}
use Rattle.life.specs.Disk.{Sector, Disk, AllByRecursion}
use Rattle.life.specs.Items.{open_ids}
use Rattle.life.specs.Log.{Ring, limit, at, Held, Greatest, Head, Newest}
use Rattle.life.specs.Format.{Rec, size, Fits, Transaction, Format, all_items, chain_items, sector, slot}
use Rattle.life.specs.Calls.{byte, byte_at, Home, Sound, Stands, Chain, Plan}
use Rattle.life.specs.Life.{Entry, transactions}
use Rattle.life.proofs.Lists.{in_all}
use Rattle.life.proofs.Disk.{Current}
use Rattle.life.proofs.Lay.{Holds, Applied}
use Rattle.life.proofs.Log.{Marks, Found, search_finds, same_at}
use Rattle.life.proofs.Tiles.{Tile, width, Part, Okay, Numbers, tile_bodies, width-++, part_pos, part_whole, Last, stand}
use Rattle.life.proofs.Tiles.{inner, first, newest_from}

-- a record that ends at e, n its position
pub record Boundary (t : ℕ) (tiles : List Tile) (n e : ℕ) (tile : Tile) : Type 0 where
  pub done : List Tile
  pub rest : List Tile
  pub split : tiles ≡ done ++ (tile ∷ rest)
  pub starts : n ≡ t + width done
  pub ends : e ≡ n + size tile.body

-- what replay keeps if it finds the end e: the records from `front` on up to e are the chain
pub record Outcome (F : Format) (base : ℕ → Sector) (acc : List Entry) (past : ℕ → List Sector) (t : ℕ) (tiles : List Tile) (e : ℕ) : Type 0 where
  pub n : ℕ
  pub tile : Tile
  pub boundary : Boundary t tiles n e tile
  pub front : List Tile
  pub clearing : Tile
  pub counted : List Tile
  pub rest : List Tile
  pub cut : tiles ≡ front ++ ((clearing ∷ counted) ++ rest)
  pub ends : e ≡ t + width front + width (clearing ∷ counted)
  pub told : tile.tail ≡ t + width front
  pub tails : AllByRecursion (λ r. r.tail ≡ t + width front) (clearing ∷ counted)
  pub kept : List Entry
  pub dropped : List Entry
  pub split : acc ≡ kept ++ dropped
  pub unsafe : AllByRecursion (λ x. x.safe ≡ false) dropped
  pub whole : e ≡ t + width tiles → dropped ≡ []
  pub older : List Transaction
  pub youngest : transactions kept ≡ older ++ F.reads (tile_bodies (clearing ∷ counted))
  pub claim : (x : ℕ) → Home F (x / 512) → (Applied (chain_items F (tile_bodies (clearing ∷ counted))) x → ⊥) →
      AllByRecursion (λ s. Holds (all_items F (transactions kept)) x (byte_at base x) (byte s (x % 512))) (past (x / 512))
  pub closed : open_ids (all_items F older) ≡ []
  pub sound : AllByRecursion (Sound F) (chain_items F (tile_bodies (clearing ∷ counted)))
  pub passes : F.pass (tile_bodies (clearing ∷ counted)) ≡ true

-- a volume without a session: its log, and what replay would keep, whichever end it finds
pub record Dead (F : Format) (base : ℕ → Sector) (acc : List Entry) (d : Disk) : Type 0 where
  pub t : ℕ
  pub tiles : List Tile
  pub a : ℕ
  pub u : ℕ
  pub b : ℕ
  pub log : Numbers F t tiles a u b
  pub last : ℕ
  pub last_tile : Tile
  pub at_a : Boundary t tiles last a last_tile
  pub current : Current d
  pub okay : (x : ℕ) → b ≤ x + F.ring.N → x < b → AllByRecursion (Okay F t tiles a x) (d.past (slot F x))
  pub free : u < b → AllByRecursion (λ s. F.ring.pos (slot F u) s + F.ring.N ≡ u) (d.past (slot F u))
  pub outcomes : (n e : ℕ) (tile : Tile) → Boundary t tiles n e tile → a ≤ e → e ≤ u → Outcome F base acc d.past t tiles e

-- there is one greatest position
pub greatest_one : (g : Ring) (c : ℕ → Sector) (m k : ℕ) → Greatest g c m → Greatest g c k → m ≡ k
greatest_one g c m k p q =
    let h1 : m ≤ k = q.most m p.held in
    let h2 : k ≤ m = p.most k q.held in
    omega arith

-- the head
pub head_one : (g : Ring) (c : ℕ → Sector) (m h k : ℕ) → Head g c m h → Head g c m k → h ≡ k
head_one g c m h k p q = go (dec_lt h k) (dec_lt k h)
  where
    go : Dec (h < k) → Dec (k < h) → h ≡ k
    go (yes l) r = absurd (p.free (q.full h p.near l))
    go (no l) (yes r) = absurd (q.free (p.full k q.near r))
    go (no l) (no r) = omega arith

-- the newest record
pub newest_one : (g : Ring) (c : ℕ → Sector) (h n k : ℕ) → Newest g c h n → Newest g c h k → n ≡ k
newest_one g c h n k p q = go (dec_lt n k) (dec_lt k n)
  where
    no_header : (n k : ℕ) → Newest g c h n → Newest g c h k → n < k → ⊥
    no_header n k p q l =
        let w1 = q.header in
        let w2 = q.ends in
        ⊎_elim (λ (e : g.len (c (g.slot k)) ≡ 0). omega arith) (λ e. omega arith) (p.first k l (omega arith))

    go : Dec (n < k) → Dec (k < n) → n ≡ k
    go (yes l) r = absurd (no_header n k p q l)
    go (no l) (yes r) = absurd (no_header k n q p r)
    go (no l) (no r) = omega arith

module _ (F : Format) (base : ℕ → Sector) (acc : List Entry) (d : Disk) (D : Dead F base acc d) where
  -- what the present contents may be
  pub now_okay : (x : ℕ) → D.b ≤ x + F.ring.N → x < D.b → Okay F D.t D.tiles D.a x (d.now (slot F x))
  now_okay x p q = in_all (Okay F D.t D.tiles D.a x) (d.now (slot F x)) (d.past (slot F x)) (D.okay x p q) (D.current (slot F x))

  -- the numbers of the log
  pub numbers : Numbers F D.t D.tiles D.a D.u D.b
  numbers = D.log

  -- so the log can be searched
  pub marks : Marks F.ring D.a D.u D.b d.now
  marks = record {
    begun = omega (arith, numbers.begun);
    low = numbers.low;
    high = numbers.high;
    window = numbers.window;
    turn = omega (arith, numbers.turn, numbers.begun, numbers.low, numbers.high);
    old = λ x p q. (now_okay x p (omega (arith, numbers.low, numbers.high))).held q;
    new = new;
    free = free (dec_lt D.u D.b);
    limited = limited;
  }
    where
      new : (x : ℕ) → D.a ≤ x → x < D.b → Held F.ring d.now x ⊎ (at F.ring d.now x + F.ring.N ≡ x)
      new x p q =
          let o = now_okay x (omega (arith, numbers.window, F.ring.narrow)) q in
          ⊎_elim (λ h. inl (part_pos F D.t D.tiles x (d.now (slot F x)) h)) (λ h. inr h) (o.new p)

      limited : (x : ℕ) → D.a ≤ x + 1 → x < D.b → Held F.ring d.now x → x < limit F.ring
      limited x p q h = by (dec_lt x D.a)
        where
          o : Okay F D.t D.tiles D.a x (d.now (slot F x))
          o = now_okay x (omega (arith, numbers.window, F.ring.narrow)) q

          by : Dec (x < D.a) → x < limit F.ring
          by (yes l) = (part_whole F D.t D.tiles x (d.now (slot F x)) (o.part (omega (arith, numbers.begun)) l)).1
          by (no l) = ⊎_elim (λ z. (part_whole F D.t D.tiles x (d.now (slot F x)) z).1) (λ z. absurd (omega (arith, h, z, F.ring.narrow))) (o.new (omega arith))

      free : Dec (D.u < D.b) → Held F.ring d.now D.u → ⊥
      free (yes l) h =
          let f = in_all (λ s. F.ring.pos (slot F D.u) s + F.ring.N ≡ D.u) (d.now (slot F D.u)) (d.past (slot F D.u)) (D.free l) (D.current (slot F D.u)) in
          omega (arith, h, f, F.ring.narrow)
      free (no l) h =
          let y : ℕ = D.u - F.ring.N in
          let e : D.u - F.ring.N + F.ring.N ≡ D.u = omega (arith, numbers.high, numbers.turn, numbers.begun, numbers.low) in
          let s = same_at F.ring d.now (D.u - F.ring.N) in
          let s2 : at F.ring d.now D.u ≡ at F.ring d.now (D.u - F.ring.N) = ap (at F.ring d.now) (sym e) ∙ s in
          let l1 : D.b ≤ D.u - F.ring.N + F.ring.N = omega arith in
          let l2 : D.u - F.ring.N < D.a = omega (arith, numbers.high, numbers.window, F.ring.narrow, numbers.begun) in
          let l3 : D.u - F.ring.N < D.b = omega (arith, numbers.low, numbers.high) in
          let o = (now_okay (D.u - F.ring.N) l1 l3).held l2 in
          omega (arith, h, s2, o, F.ring.narrow)

-- one record stands at p
pub stands_one : (F : Format) (c : ℕ → Sector) (p : ℕ) (r q : Rec) → Stands F c p r → Stands F c p q → r ≡ q
stands_one F c p r q (t, fr, f) (u, fq, g) = F.sec_one r q t u p fr fq both sizes
  where
    zero_at : (r : Rec) (t : ℕ) → Fits F.ring r t p → ((j : ℕ) → j < size r → c (slot F (p + j)) ≡ sector F r t p j) → F.ring.len (c (slot F (p + 0))) ≡ size r
    zero_at r t k f = ap F.ring.len (f 0 (omega arith)) ∙ F.sec_len r t p k

    sizes : size r ≡ size q
    sizes = sym (zero_at r t fr f) ∙ zero_at q u fq g

    both : (j : ℕ) → j < size r → F.sec r t p j ≡ F.sec q u p j
    both j l =
        let same : sector F r t p j ≡ sector F q u p j = sym (f j l) ∙ g j (let e = sizes in omega arith) in
        cc

-- one chain stands from p to e
pub chain_one : (F : Format) (c : ℕ → Sector) (p e : ℕ) (l m : List Rec) → Chain F c p e l → Chain F c p e m → l ≡ m
chain_one F c p e [] [] h k = refl
chain_one F c p e [] (r ∷ m) h k = absurd (omega (arith, h, k.0))
chain_one F c p e (r ∷ l) [] h k = absurd (omega (arith, k, h.0))
chain_one F c p e (r ∷ l) (q ∷ m) h k =
    let same : r ≡ q = stands_one F c p r q h.1 k.1 in
    let next : Chain F c (p + size r) e m = subst (λ (z : Rec). Chain F c (p + size z) e m) (sym same) k.2 in
    ap (λ (z : Rec). z ∷ l) same ∙ ap (λ (z : List Rec). q ∷ z) (chain_one F c (p + size r) e l m h.2 next)

-- two plans have the same numbers and records
pub record SamePlan (m n e t : ℕ) (chain : List Rec) (m' n' e' t' : ℕ) (chain' : List Rec) : Type 0 where
  pub em : m' ≡ m
  pub en : n' ≡ n
  pub ee : e' ≡ e
  pub et : t' ≡ t
  pub ec : chain' ≡ chain

-- one plan is found
pub plan_one : (F : Format) (c : ℕ → Sector) (m h n e t : ℕ) (chain : List Rec) (m' h' n' e' t' : ℕ) (chain' : List Rec) →
    Plan F c m h n e t chain → Plan F c m' h' n' e' t' chain' → SamePlan m n e t chain m' n' e' t' chain'
plan_one F c m h n e t chain m' h' n' e' t' chain' p pl = record { em = em; en = en; ee = ee; et = et; ec = ec }
  where
    em : m' ≡ m
    em = greatest_one F.ring c m' m pl.greatest p.greatest

    eh : h' ≡ h
    eh = head_one F.ring c m h' h (subst (λ (k : ℕ). Head F.ring c k h') em pl.head) p.head

    en : n' ≡ n
    en = newest_one F.ring c h n' n (subst (λ (k : ℕ). Newest F.ring c k n') eh pl.newest) p.newest

    ee : e' ≡ e
    ee = pl.ends ∙ ap (λ (k : ℕ). k + F.ring.len (c (slot F k))) en ∙ sym p.ends

    et : t' ≡ t
    et = pl.told ∙ ap (λ (k : ℕ). F.ring.tail (c (slot F k))) en ∙ sym p.told

    ec : chain' ≡ chain
    ec = chain_one F c t e chain' chain (subst (λ (k : ℕ). Chain F c k e chain') et (subst (λ (k : ℕ). Chain F c t' k chain') ee pl.chained)) p.chained

-- records that stand in the contents are a chain
pub chain_tiles : (F : Format) (t : ℕ) (tiles : List Tile) (h : ℕ) (c : ℕ → Sector) (shows : (x : ℕ) → t ≤ x → x < h → Part F t tiles x (c (slot F x)))
    (back front rest : List Tile) (p e : ℕ) → tiles ≡ front ++ (back ++ rest) → p ≡ t + width front → e ≡ p + width back → e ≤ h → Chain F c p e (tile_bodies back)
chain_tiles F t tiles h c shows [] front rest p e s q w l = omega arith
chain_tiles F t tiles h c shows (r ∷ back) front rest p e s q w l = (
  omega arith,
  (r.tail, fit, st),
  chain_tiles F t tiles h c shows back (front ++ (r ∷ [])) rest (p + size r.body) e
      (s ∙ sym (append_assoc front (r ∷ []) (back ++ rest))) (let z = width-++ front (r ∷ []) in omega arith) (omega arith) l,
)
  where
    st : (j : ℕ) → j < size r.body → c (slot F (p + j)) ≡ sector F r.body r.tail p j
    st j lt =
        subst (λ (z : ℕ). c (slot F (z + j)) ≡ sector F r.body r.tail z j) (sym q)
        (stand F t tiles h c shows front r (back ++ rest) s j lt (omega arith)).0

    fit : Fits F.ring r.body r.tail p
    fit = subst (λ (z : ℕ). Fits F.ring r.body r.tail z) (sym q) (stand F t tiles h c shows front r (back ++ rest) s 0 (omega arith) (omega arith)).1

-- a boundary from the newest record's end up to h is that end
pub same_boundary : (F : Format) (t : ℕ) (tiles : List Tile) (h : ℕ) (c : ℕ → Sector) (shows : (x : ℕ) → t ≤ x → x < h → Part F t tiles x (c (slot F x)))
    (n k e : ℕ) (tile : Tile) → Newest F.ring c h n → Boundary t tiles k e tile → e ≤ h → n + F.ring.len (c (slot F n)) ≤ e →
    (k ≡ n) × (e ≡ n + F.ring.len (c (slot F n)))
same_boundary F t tiles h c shows n k e tile N B le ge = go (dec_lt n k) (dec_lt k n)
  where
    done : List Tile
    done = B.done

    st : k ≡ t + width done
    st = B.starts

    en : e ≡ k + size tile.body
    en = B.ends

    header : F.ring.len (c (slot F k)) ≡ size tile.body
    header = subst (λ (z : ℕ). F.ring.len (c (slot F z)) ≡ size tile.body) (sym st)
        (first F t tiles h c shows done tile B.rest B.split (let a = st in let b = en in omega arith))

    go : Dec (n < k) → Dec (k < n) → (k ≡ n) × (e ≡ n + F.ring.len (c (slot F n)))
    go (yes l) r =
        let a = en in let b = header in
        absurd (⊎_elim (λ (z : F.ring.len (c (slot F k)) ≡ 0). omega arith) (λ z. omega arith) (N.first k l (omega arith)))
    go (no l) (yes r) =
        let a = en in let b = st in let hd = N.header in let en2 = N.ends in
        let z = inner F t tiles h c shows done tile B.rest B.split n (omega arith) (omega arith) (omega arith) in
        absurd (omega arith)
    go (no l) (no r) =
        let same : k ≡ n = omega arith in
        let hd : F.ring.len (c (slot F n)) ≡ size tile.body = subst (λ (z : ℕ). F.ring.len (c (slot F z)) ≡ size tile.body) same header in
        (same, let a = en in omega arith)

-- the plan that replay finds, with what it keeps
pub record Planned (F : Format) (base : ℕ → Sector) (acc : List Entry) (d : Disk) (D : Dead F base acc d) (m h n e : ℕ) : Type 0 where
  pub found : Found F.ring D.a D.u D.b d.now m h
  pub shows : (x : ℕ) → D.t ≤ x → x < h → Part F D.t D.tiles x (d.now (slot F x))
  pub newest : Newest F.ring d.now h n
  pub ends : e ≡ n + F.ring.len (d.now (slot F n))
  pub least : D.a ≤ e
  pub most : e ≤ h
  pub outcome : Outcome F base acc d.past D.t D.tiles e
  pub tile : Tile
  pub boundary : Boundary D.t D.tiles n e tile
  pub plan : Plan F d.now m h n e (D.t + width outcome.front) (tile_bodies (outcome.clearing ∷ outcome.counted))

module _ (F : Format) (base : ℕ → Sector) (acc : List Entry) (d : Disk) (D : Dead F base acc d) where
  -- a plan is there, and what it keeps
  pub planned : (m : ℕ) × (h : ℕ) × (n : ℕ) × (e : ℕ) × Planned F base acc d D m h n e
  planned = go (search_finds F.ring D.a D.u D.b d.now (marks F base acc d D))
    where
      lg : Numbers F D.t D.tiles D.a D.u D.b
      lg = D.log

      go : ((m : ℕ) × (h : ℕ) × Found F.ring D.a D.u D.b d.now m h) → (m : ℕ) × (h : ℕ) × (n : ℕ) × (e : ℕ) × Planned F base acc d D m h n e
      go (m, h, f) = (
        m,
        h,
        n,
        e,
        record {
          found = f;
          shows = shows;
          newest = L.newest;
          ends = is_end;
          least = L.later;
          most = L.ends;
          outcome = O;
          tile = L.tile;
          boundary = B;
          plan = pl;
        },
      )
        where
          shows : (x : ℕ) → D.t ≤ x → x < h → Part F D.t D.tiles x (d.now (slot F x))
          shows x lo hi = by (dec_lt x D.a)
            where
              o : Okay F D.t D.tiles D.a x (d.now (slot F x))
              o = now_okay F base acc d D x (omega (arith, lg.room)) (omega (arith, f.upto, lg.high))

              by : Dec (x < D.a) → Part F D.t D.tiles x (d.now (slot F x))
              by (yes l) = o.part lo l
              by (no l) =
                  let k : Held F.ring d.now x = f.head.full x (omega (arith, f.top, lg.window)) hi in
                  ⊎_elim (λ z. z) (λ z. absurd (omega (arith, k, z, F.ring.narrow))) (o.new (omega arith))

          A : Boundary D.t D.tiles D.last D.a D.last_tile
          A = D.at_a

          L : Last F D.t D.tiles h D.a d.now
          L =
              let w = width-++ A.done (D.last_tile ∷ A.rest) in
              let w2 : width D.tiles ≡ width (A.done ++ (D.last_tile ∷ A.rest)) = ap width A.split in
              let s = A.starts in let e = A.ends in
              newest_from F D.t D.tiles h d.now shows A.rest A.done D.last_tile D.a A.split
              (omega (arith, f.from)) (omega (arith, f.upto, lg.high, lg.long)) (omega arith)

          n : ℕ
          n = D.t + width L.done

          e : ℕ
          e = D.t + width L.done + size L.tile.body

          B : Boundary D.t D.tiles n e L.tile
          B = record { done = L.done; rest = L.rest; split = L.split; starts = refl; ends = refl }

          len : F.ring.len (d.now (slot F n)) ≡ size L.tile.body
          len = first F D.t D.tiles h d.now shows L.done L.tile L.rest L.split (omega (arith, L.ends))

          is_end : e ≡ n + F.ring.len (d.now (slot F n))
          is_end = let z = len in omega arith

          O : Outcome F base acc d.past D.t D.tiles e
          O = D.outcomes n e L.tile B L.later (omega (arith, L.ends, f.upto))

          same : O.n ≡ n
          same = (same_boundary F D.t D.tiles h d.now shows n O.n e O.tile L.newest O.boundary L.ends (omega (arith, is_end))).0

          tail_is : F.ring.tail (d.now (slot F n)) ≡ D.t + width O.front
          tail_is =
              let OB = O.boundary in
              let st = OB.starts in let oe = OB.ends in
              let z = stand F D.t D.tiles h d.now shows OB.done O.tile OB.rest OB.split 0 (omega arith) (omega (arith, L.ends)) in
              let q : n ≡ D.t + width OB.done + 0 = omega (arith, same) in
              ap (λ (y : ℕ). F.ring.tail (d.now (slot F y))) q ∙ ap F.ring.tail z.0 ∙ F.sec_tail O.tile.body O.tile.tail (D.t + width OB.done) z.1 ∙ O.told

          pl : Plan F d.now m h n e (D.t + width O.front) (tile_bodies (O.clearing ∷ O.counted))
          pl = record {
            greatest = f.greatest;
            coherent = f.coherent;
            head = f.head;
            newest = L.newest;
            within = omega (arith, f.top, lg.room);
            ends = is_end;
            told = sym tail_is;
            range = omega (arith, f.top, lg.room);
            before = omega (arith, O.ends);
            chained = chain_tiles F D.t D.tiles h d.now shows (O.clearing ∷ O.counted) O.front O.rest (D.t + width O.front) e O.cut refl O.ends L.ends;
          }
