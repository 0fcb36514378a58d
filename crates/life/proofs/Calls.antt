-- Commit, force and label: what they leave.
use Rattle.std.proofs.Common.{◌≡◌, ℕ, zero, suc, ◌+◌, ◌-◌, ◌/◌, ◌%◌, ◌<◌, ◌≤◌, Bool, true, false, List, [], ◌∷◌, ◌++◌, sym, refl, ap, ◌∙◌, subst, inl, inr, ⊎_elim, append_assoc, append-nil, add-zero, arith}
use native.Mathlib.Decide.{dec_le, dec_lt}
use Rattle.life.specs.Disk.{Sector, Action, write, force, Disk, Whole, In, AllByRecursion, act, run, Writes}
use Rattle.life.specs.Items.{Item}
use Rattle.life.specs.Format.{Rec, size, Fits, Transaction, Format, all_items, chain_items, sector, slot}
use Rattle.life.specs.Calls.{byte, byte_at, Home, Sound, effect, puts, Session, Commits, committed, settles}
use Rattle.life.specs.Life.{Entry, transactions, secure}
use Rattle.life.proofs.Lists.{false_true, in_all, all_of, all_map, all_both, snoc_split}
use Rattle.life.proofs.Disk.{put_case, Every, Kept, run_keeps, run_effect, effect_other}
use Rattle.life.proofs.Lay.{Holds}
use Rattle.life.proofs.Tiles.{Tile, width, Part, Okay, tile_bodies, width-++, tile_bodies-++, part_pos, part_whole}
use Rattle.life.proofs.Tiles.{part_more, part_end, front_of}
use Rattle.life.proofs.Bytes.{puts_writes, puts_apart, puts_at}
use Rattle.life.proofs.Dead.{Boundary, Outcome, Dead}
use Rattle.life.proofs.Live.{Front, Live, all_items-++, transactions_secure, no_loose}
use Rattle.life.proofs.Label.{Labelled}
use Rattle.life.proofs.Ends.{transactions-++, live_outcomes, live_reads, firm_end}

-- a list with one more is not empty
not_nil : {A : Type 0} {S : Type 0} (w : List S) (r : S) → w ++ (r ∷ []) ≡ [] → A
not_nil [] r e = let z : ◌≡◌ {A = ℕ} 0 1 = cc in absurd (omega arith)
not_nil (c ∷ w) r e = let z : ◌≡◌ {A = ℕ} 0 1 = cc in absurd (omega arith)

-- where commit is refused, the sector it was to write next is as it was
pub puts_refused : (F : Format) (r : Rec) (t p k j : ℕ) (d : Disk) → k ≤ F.ring.N → (run (puts F r t p j k) d).1 ≡ false →
    (i : ℕ) × (j ≤ i) × (i < j + k) × ((run (puts F r t p j k) d).0.past (slot F (p + i)) ≡ d.past (slot F (p + i)))
puts_refused F r t p zero j d small e = false_true (sym e)
puts_refused F r t p (suc k) j d small e = go d.left e (λ n. puts_refused F r t p k (j + 1) (act (write (slot F (p + j)) (F.sec r t p j)) n d) (omega arith))
  where
    w : Action
    w = write (slot F (p + j)) (F.sec r t p j)

    go : (n : ℕ) → (elim n as (λ _. Disk × Bool) [ zero ↦ (d, false) | suc q ↦ run (puts F r t p (j + 1) k) (act w q d) ]).1 ≡ false →
        ((n : ℕ) → (run (puts F r t p (j + 1) k) (act w n d)).1 ≡ false →
        (i : ℕ) × (j + 1 ≤ i) × (i < j + 1 + k) × ((run (puts F r t p (j + 1) k) (act w n d)).0.past (slot F (p + i)) ≡ (act w n d).past (slot F (p + i)))) →
        (i : ℕ) × (j ≤ i) × (i < j + suc k) ×
        ((elim n as (λ _. Disk × Bool) [ zero ↦ (d, false) | suc q ↦ run (puts F r t p (j + 1) k) (act w q d) ]).0.past (slot F (p + i)) ≡ d.past (slot F (p + i)))
    go zero e ih = (j, omega arith, omega arith, refl)
    go (suc n) e ih =
        let h = ih n e in
        let lo : j + 1 ≤ h.0 = h.1 in
        let hi : h.0 < j + 1 + k = h.2 in (
          h.0,
          omega arith,
          omega arith,
          h.3 ∙ put_case (λ z. z ≡ d.past (slot F (p + h.0))) d.past (slot F (p + j)) (sector F r t p j ∷ d.past (slot F (p + j))) (slot F (p + h.0))
              (λ q. absurd (puts_apart F p j h.0 (omega arith) (omega arith) (sym q))) (λ _. refl),
        )

-- a front of the records and one more, that does not reach the end of that, ends by the end of the first
pub boundary_le : (t : ℕ) (l : List Tile) (r : Tile) (n e : ℕ) (tile : Tile) → Boundary t (l ++ (r ∷ [])) n e tile → e < t + width l + size r.body → e ≤ t + width l
boundary_le t l r n e tile B lt = by (dec_le (width l) (width p))
  where
    p : List Tile
    p = B.done ++ (tile ∷ [])

    wide : e ≡ t + width p
    wide = let w = width-++ B.done (tile ∷ []) in omega (arith, B.starts, B.ends)

    whole : l ++ (r ∷ []) ≡ p ++ B.rest
    whole = B.split ∙ sym (append_assoc B.done (tile ∷ []) B.rest)

    fin : (y : List Tile) → p ≡ l ++ y → (r ∷ []) ≡ y ++ B.rest → e ≤ t + width l
    fin [] q z = let a = ap width q in let b = width-++ l [] in omega (arith, wide)
    fin (x ∷ y) q z =
        let a = ap width q in let b = width-++ l (x ∷ y) in
        let same : r ≡ x = cc in
        let sz : size r.body ≡ size x.body = ap (λ (k : Tile). size k.body) same in
        absurd (omega (arith, wide))

    by : Dec (width l ≤ width p) → e ≤ t + width l
    by (yes w) = let h = front_of l (r ∷ []) p B.rest whole w in fin h.0 h.1 h.2
    by (no w) = omega (arith, wide)

module _ (F : Format) (base : ℕ → Sector) (acc : List Entry) (d : Disk) (s : Session) (L : Live F base acc d s) (r : Rec) (tl : ℕ)
    (win : s.e + size r ≤ s.a + F.ring.W) (room : s.e + size r ≤ s.t + F.ring.N) (fit : Fits F.ring r tl s.e) where
  -- the session's records
  abbrev pub T : List Tile
  T = L.clearing ∷ L.counted

  -- the new record
  abbrev pub R : Tile
  R = record { body = r; tail = tl }

  -- its end
  abbrev b : ℕ
  b = s.e + size r

  -- its writes
  abbrev acts : List Action
  acts = puts F r tl s.e 0 (size r)

  -- what they leave
  abbrev v : Disk
  v = (run (puts F r tl s.e 0 (size r)) d).0

  -- what a sector may have held while the record is written
  pub record Committing (i : ℕ) (z : Sector) : Type 0 where
    pub log : (x : ℕ) → s.e + size r ≤ x + F.ring.N → x < s.e + size r → slot F x ≡ i → Okay F s.t (T ++ (R ∷ [])) s.a x z
    pub home : Home F i → (x : ℕ) → x / 512 ≡ i → Holds (all_items F (L.older ++ F.reads (tile_bodies (L.clearing ∷ L.laid)))) x (byte_at base x) (byte z (x % 512))

  -- the window is shorter than the log
  nar : F.ring.W < F.ring.N
  nar = F.ring.narrow

  -- what a sector that commit will write has held so far
  behind : (x : ℕ) → s.e ≤ x → x < s.e + size r → (z : Sector) → In z (d.past (slot F x)) → F.ring.pos (slot F x) z + F.ring.N ≡ x
  behind x lo hi z m =
      let y : ℕ = x - F.ring.N in
      let e : x - F.ring.N + F.ring.N ≡ x = omega (arith, L.turn, L.begun, L.low) in
      let sl : slot F x ≡ slot F (x - F.ring.N) = ap (slot F) (sym e) ∙ F.ring.period (x - F.ring.N) in
      let l1 : s.e ≤ x - F.ring.N + F.ring.N = omega arith in
      let l2 : x - F.ring.N < s.a = omega (arith, win, nar) in
      let l3 : x - F.ring.N < s.e = omega (arith, L.low) in
      let m2 : In z (d.past (slot F (x - F.ring.N))) = subst (λ (i : ℕ). In z (d.past i)) sl m in
      let o = in_all (Okay F s.t T s.a (x - F.ring.N)) z (d.past (slot F (x - F.ring.N))) (L.okay (x - F.ring.N) l1 l3) m2 in
      let h = o.held l2 in
      ap (λ (i : ℕ). F.ring.pos i z + F.ring.N) sl ∙ ap (λ (i : ℕ). i + F.ring.N) h ∙ e

  -- and could be read
  whole_of : (x : ℕ) → s.e ≤ x → x < s.e + size r → (z : Sector) → In z (d.past (slot F x)) → Whole z
  whole_of x lo hi z m =
      let e : x - F.ring.N + F.ring.N ≡ x = omega (arith, L.turn, L.begun, L.low) in
      let sl : slot F x ≡ slot F (x - F.ring.N) = ap (slot F) (sym e) ∙ F.ring.period (x - F.ring.N) in
      let l1 : s.e ≤ x - F.ring.N + F.ring.N = omega arith in
      let l3 : x - F.ring.N < s.e = omega (arith, win, nar, L.low) in
      let m2 : In z (d.past (slot F (x - F.ring.N))) = subst (λ (i : ℕ). In z (d.past i)) sl m in
      (in_all (Okay F s.t T s.a (x - F.ring.N)) z (d.past (slot F (x - F.ring.N))) (L.okay (x - F.ring.N) l1 l3) m2).whole

  -- so it is before
  begin : Every Committing d
  begin j = all_of (Committing j) (d.past j) each
    where
      each : (z : Sector) → In z (d.past j) → Committing j z
      each z m = record {
        log = lg;
        home = λ hm x q. in_all (λ z. Holds (all_items F (L.older ++ F.reads (tile_bodies (L.clearing ∷ L.laid)))) x (byte_at base x) (byte z (x % 512))) z (d.past (x / 512))
            (L.holds x (subst (λ (i : ℕ). Home F i) (sym q) hm)) (subst (λ (i : ℕ). In z (d.past i)) (sym q) m);
      }
        where
          lg : (x : ℕ) → s.e + size r ≤ x + F.ring.N → x < s.e + size r → slot F x ≡ j → Okay F s.t (T ++ (R ∷ [])) s.a x z
          lg x p q w = by (dec_lt x s.e)
            where
              m2 : In z (d.past (slot F x))
              m2 = subst (λ (i : ℕ). In z (d.past i)) (sym w) m

              by : Dec (x < s.e) → Okay F s.t (T ++ (R ∷ [])) s.a x z
              by (yes l) =
                  let o = in_all (Okay F s.t T s.a x) z (d.past (slot F x)) (L.okay x (omega arith) l) m2 in
                  record {
                    whole = o.whole;
                    held = o.held;
                    part = λ lo hi. part_more F s.t T (R ∷ []) x z (o.part lo hi);
                    new = λ lo. ⊎_elim (λ h. inl (part_more F s.t T (R ∷ []) x z h)) (λ h. inr h) (o.new lo);
                  }
              by (no l) = record { whole = whole_of x (omega arith) q z m2; held = λ h. absurd (omega (arith, L.low)); part = λ lo hi. absurd (omega (arith, L.low)); new = λ lo. inr (behind x (omega arith) q z m2) }

  -- the session ends where its records do
  ends_at : s.e ≡ s.t + width T
  ends_at = L.ends

  -- each sector written is the new record's
  put_part : (j : ℕ) → j < size r → Part F s.t (T ++ (R ∷ [])) (s.e + j) (sector F r tl s.e j)
  put_part j lt = part_end F s.t T R s.e j fit ends_at lt

  -- and with each write
  writes : Writes Committing acts
  writes = puts_writes F Committing r tl s.e (size r) 0 each
    where
      each : (i : ℕ) → 0 ≤ i → i < 0 + size r → Committing (slot F (s.e + i)) (sector F r tl s.e i)
      each i lo hi = record { log = lg; home = λ hm. absurd (hm.free (s.e + i) refl) }
        where
          lt : i < size r
          lt = omega arith

          lg : (x : ℕ) → s.e + size r ≤ x + F.ring.N → x < s.e + size r → slot F x ≡ slot F (s.e + i) → Okay F s.t (T ++ (R ∷ [])) s.a x (sector F r tl s.e i)
          lg x p q w =
              let same : x ≡ s.e + i = one (dec_le x (s.e + i)) in
              record {
                whole = (F.sec r tl s.e i, refl, F.sec_whole r tl s.e i fit lt);
                held = λ h. absurd (omega (arith, L.low));
                part = λ a b. absurd (omega (arith, L.low));
                new = λ _. inl (subst (λ (k : ℕ). Part F s.t (T ++ (R ∷ [])) k (sector F r tl s.e i)) (sym same) (put_part i lt));
              }
            where
              one : Dec (x ≤ s.e + i) → x ≡ s.e + i
              one (yes l) = F.ring.apart x (s.e + i) w l (omega (arith, lt))
              one (no l) = sym (F.ring.apart (s.e + i) x (sym w) (omega arith) (omega (arith, win, nar, L.low)))

  -- so it is wherever the writes stop
  pub kept : Kept Committing v
  kept = run_keeps Committing acts d (L.current, begin) writes

  -- the log
  pub okay_v : (x : ℕ) → s.e + size r ≤ x + F.ring.N → x < s.e + size r → AllByRecursion (Okay F s.t (T ++ (R ∷ [])) s.a x) (v.past (slot F x))
  okay_v x p q = all_map (Committing (slot F x)) (Okay F s.t (T ++ (R ∷ [])) s.a x) (v.past (slot F x)) (λ z c. c.log x p q refl) (kept.1 (slot F x))

  -- the volume's own sectors
  pub holds_v : (x : ℕ) → Home F (x / 512) → AllByRecursion (λ z. Holds (all_items F (L.older ++ F.reads (tile_bodies (L.clearing ∷ L.laid)))) x (byte_at base x) (byte z (x % 512))) (v.past (x / 512))
  holds_v x hm = all_map (Committing (x / 512)) _ (v.past (x / 512)) (λ z c. c.home hm x refl) (kept.1 (x / 512))

  -- refused at some sector
  pub commit_dead : (run acts d).1 ≡ false → Dead F base acc v
  commit_dead no_more = go (puts_refused F r tl s.e (size r) 0 d (omega (arith, win, nar, L.low)) no_more)
    where
      fe : (n : ℕ) × (tile : Tile) × Boundary s.t (T ++ (R ∷ [])) n s.a tile
      fe = firm_end F base acc d s L (R ∷ [])

      go : ((i : ℕ) × (0 ≤ i) × (i < 0 + size r) × (v.past (slot F (s.e + i)) ≡ d.past (slot F (s.e + i)))) → Dead F base acc v
      go (i, lo, hi, same) = record {
        t = s.t;
        tiles = T ++ (R ∷ []);
        a = s.a;
        u = s.e + i;
        b = s.e + size r;
        last = fe.0;
        last_tile = fe.1;
        at_a = fe.2;
        current = kept.0;
        log = record {
          begun = L.begun;
          low = omega (arith, L.low);
          high = omega arith;
          window = win;
          turn = L.turn;
          room = room;
          long = let w = width-++ T (R ∷ []) in omega (arith, ends_at);
        };
        okay = okay_v;
        free = λ l. subst (λ (k : List Sector). AllByRecursion (λ z. F.ring.pos (slot F (s.e + i)) z + F.ring.N ≡ s.e + i) k) (sym same)
            (all_of (λ z. F.ring.pos (slot F (s.e + i)) z + F.ring.N ≡ s.e + i) (d.past (slot F (s.e + i))) (behind (s.e + i) (omega arith) (omega arith)));
        outcomes = λ n e tile B a u. live_outcomes F base acc d s L (R ∷ []) v.past holds_v n e tile B a
            (let z = boundary_le s.t T R n e tile B (omega (arith, ends_at)) in omega (arith, ends_at));
      }

  -- where all is written the contents show all records
  pub put_now : (run acts d).1 ≡ true → (x : ℕ) → s.e + size r ≤ x + F.ring.N → x < s.e + size r → Okay F s.t (T ++ (R ∷ [])) (s.e + size r) x (v.now (slot F x))
  put_now ok x p q = subst (λ (c : ℕ → Sector). Okay F s.t (T ++ (R ∷ [])) (s.e + size r) x (c (slot F x))) (sym (run_effect acts d ok)) (by (dec_lt x s.e))
    where
      by : Dec (x < s.e) → Okay F s.t (T ++ (R ∷ [])) (s.e + size r) x (effect acts d.now (slot F x))
      by (yes l) =
          let o = L.now_ok x (omega arith) l in
          let keep : effect acts d.now (slot F x) ≡ d.now (slot F x) = effect_other acts d.now (slot F x)
          (puts_writes F (λ i z. slot F x ≡ i → ⊥) r tl s.e (size r) 0
          (λ i lo hi w. let z : x ≡ s.e + i = F.ring.apart x (s.e + i) w (omega arith) (omega arith) in omega arith)) in
          subst (λ (z : Sector). Okay F s.t (T ++ (R ∷ [])) (s.e + size r) x z) (sym keep)
          (record { whole = o.whole; held = λ _. o.held l; part = λ lo _. part_more F s.t T (R ∷ []) x (d.now (slot F x)) (o.part lo l); new = λ z. absurd (omega arith) })
      by (no l) =
          let i : ℕ = x - s.e in
          let e : s.e + (x - s.e) ≡ x = omega arith in
          let lt : x - s.e < size r = omega arith in
          let wr : effect acts d.now (slot F (s.e + (x - s.e))) ≡ sector F r tl s.e (x - s.e) =
          puts_at F r tl s.e (size r) 0 d.now (omega (arith, win, nar, L.low)) (x - s.e) (omega arith) (omega arith) in
          let pt : Part F s.t (T ++ (R ∷ [])) (s.e + (x - s.e)) (effect acts d.now (slot F (s.e + (x - s.e)))) =
          subst (λ (z : Sector). Part F s.t (T ++ (R ∷ [])) (s.e + (x - s.e)) z) (sym wr) (put_part (x - s.e) lt) in
          let pt2 : Part F s.t (T ++ (R ∷ [])) x (effect acts d.now (slot F x)) =
          subst (λ (k : ℕ). Part F s.t (T ++ (R ∷ [])) k (effect acts d.now (slot F k))) e pt in
          record { whole = (part_whole F s.t (T ++ (R ∷ [])) x (effect acts d.now (slot F x)) pt2).0; held = λ _. part_pos F s.t (T ++ (R ∷ [])) x (effect acts d.now (slot F x)) pt2; part = λ _ _. pt2; new = λ z. absurd (omega arith) }

module _ (F : Format) (base : ℕ → Sector) (acc : List Entry) (d : Disk) (s : Session) (L : Live F base acc d s) (r : Rec) (x : Transaction) (K : Commits F s r x) where
  -- the session's records
  abbrev T' : List Tile
  T' = L.clearing ∷ L.counted

  -- the new record
  abbrev R' : Tile
  R' = record { body = r; tail = s.t }

  -- it fits
  pub fit : Fits F.ring r s.t s.e
  fit = record { small = K.small; begun = omega (arith, L.turn, L.begun, L.low); behind = omega (arith, L.begun, L.low); last = K.last }

  -- accepted
  pub commit_live : (run (puts F r s.t s.e 0 (size r)) d).1 ≡ true → Live F base (acc ++ (record { transaction = x; safe = false } ∷ [])) (run (puts F r s.t s.e 0 (size r)) d).0 (committed s r)
  commit_live ok = record {
    clearing = L.clearing;
    counted = L.counted ++ (R' ∷ []);
    tails = all_both (λ q. q.tail ≡ s.t) T' (R' ∷ []) L.tails (refl, tt);
    ends = let w = width-++ T' (R' ∷ []) in omega (arith, L.ends);
    chain = ap (λ (z : List Rec). z ++ (r ∷ [])) L.chain ∙ sym (tile_bodies-++ T' (R' ∷ []));
    begun = L.begun;
    low = omega (arith, L.low);
    window = K.window;
    turn = L.turn;
    room = K.room;
    firm = L.firm;
    loose = L.loose ++ (R' ∷ []);
    apart = ap (λ (z : List Tile). z ++ (R' ∷ [])) L.apart ∙ append_assoc L.firm L.loose (R' ∷ []);
    at_a = L.at_a;
    current = (kept F base acc d s L r s.t K.window K.room fit).0;
    okay = okay_v F base acc d s L r s.t K.window K.room fit;
    now_ok = put_now F base acc d s L r s.t K.window K.room fit ok;
    sure = L.sure;
    open_end = L.open_end ++ (E ∷ []);
    split = ap (λ (z : List Entry). z ++ (E ∷ [])) L.split ∙ append_assoc L.sure L.open_end (E ∷ []);
    unsafe = all_both (λ x. x.safe ≡ false) L.open_end (E ∷ []) L.unsafe (refl, tt);
    older = L.older;
    sure_is = L.sure_is;
    open_is = fronts;
    laid = L.laid;
    later = L.later;
    laid_is = L.laid_is;
    holds = holds_v F base acc d s L r s.t K.window K.room fit;
    closed = L.closed;
    sound = subst (λ (z : List Item). AllByRecursion (Sound F) z) (sym (ap (all_items F) reads_on ∙ all_items-++ F (F.reads (tile_bodies T')) (x ∷ [])))
        (all_both (Sound F) (chain_items F (tile_bodies T')) (F.items x ++ []) L.sound (subst (λ (z : List Item). AllByRecursion (Sound F) z) (sym (append-nil (F.items x))) K.sound));
    passes = ap F.pass (tile_bodies-++ T' (R' ∷ []) ∙ ap (λ (z : List Rec). z ++ (r ∷ [])) (sym L.chain)) ∙ K.passes;
  }
    where
      E : Entry
      E = record { transaction = x; safe = false }

      -- the record is read as one more transaction
      reads_on : F.reads (tile_bodies (T' ++ (R' ∷ []))) ≡ F.reads (tile_bodies T') ++ (x ∷ [])
      reads_on =
          ap F.reads (tile_bodies-++ T' (R' ∷ []) ∙ ap (λ (z : List Rec). z ++ (r ∷ [])) (sym L.chain)) ∙ K.reads
          ∙ ap (λ (z : List Rec). F.reads z ++ (x ∷ [])) L.chain

      -- a reading finds all records, or a front of those before
      fronts : (y z : List Tile) → L.loose ++ (R' ∷ []) ≡ y ++ z → Front F L.clearing L.firm y z (L.open_end ++ (E ∷ []))
      fronts y z e = ⊎_elim whole some (snoc_split L.loose R' y z e)
        where
          whole : (z ≡ []) × (y ≡ L.loose ++ (R' ∷ [])) → Front F L.clearing L.firm y z (L.open_end ++ (E ∷ []))
          whole (p, q) = record {
            found = L.open_end ++ (E ∷ []);
            missed = [];
            split = sym (append-nil (L.open_end ++ (E ∷ [])));
            whole = λ _. refl;
            reads =
                ap (λ (k : List Tile). F.reads (tile_bodies (L.clearing ∷ k)))
                (ap (λ (k : List Tile). L.firm ++ k) q ∙ sym (append_assoc L.firm L.loose (R' ∷ [])) ∙ ap (λ (k : List Tile). k ++ (R' ∷ [])) (sym L.apart))
                ∙ reads_on ∙ ap (λ (k : List Transaction). k ++ (x ∷ [])) (live_reads F base acc d s L)
                ∙ append_assoc (F.reads (tile_bodies (L.clearing ∷ L.firm))) (transactions L.open_end) (x ∷ [])
                ∙ ap (λ (k : List Transaction). F.reads (tile_bodies (L.clearing ∷ L.firm)) ++ k) (sym (transactions-++ L.open_end (E ∷ [])));
          }

          some : ((w : List Tile) × (z ≡ w ++ (R' ∷ [])) × (L.loose ≡ y ++ w)) → Front F L.clearing L.firm y z (L.open_end ++ (E ∷ []))
          some (w, p, q) =
              let W = L.open_is y w q in
              record {
                found = W.found;
                missed = W.missed ++ (E ∷ []);
                split = ap (λ (k : List Entry). k ++ (E ∷ [])) W.split ∙ append_assoc W.found W.missed (E ∷ []);
                reads = W.reads;
                whole = λ n. not_nil w R' (sym p ∙ n);
              }

-- an accepted force
pub force_live : (F : Format) (base : ℕ → Sector) (acc : List Entry) (d : Disk) (s : Session) → Live F base acc d s → (k : ℕ) →
    Live F base (secure acc) (act force k d) (settles s)
force_live F base acc d s L k = record {
  clearing = L.clearing;
  counted = L.counted;
  tails = L.tails;
  ends = L.ends;
  chain = L.chain;
  begun = omega (arith, L.begun, L.low);
  low = omega arith;
  window = omega arith;
  turn = L.turn;
  room = L.room;
  firm = L.counted;
  loose = [];
  apart = sym (append-nil L.counted);
  at_a = L.ends;
  current = λ j. inl refl;
  okay = λ x p q. (L.now_ok x p q, tt);
  now_ok = L.now_ok;
  sure = secure acc;
  open_end = [];
  split = sym (append-nil (secure acc));
  unsafe = tt;
  older = L.older;
  sure_is = sure_is;
  open_is = no_loose F L.clearing L.counted;
  laid = L.laid;
  later = L.later ++ L.loose;
  laid_is = L.apart ∙ ap (λ (z : List Tile). z ++ L.loose) L.laid_is ∙ append_assoc L.laid L.later L.loose;
  holds = λ x hm. (
    in_all (λ z. Holds (all_items F (L.older ++ F.reads (tile_bodies (L.clearing ∷ L.laid)))) x (byte_at base x) (byte z (x % 512))) (d.now (x / 512)) (d.past (x / 512))
        (L.holds x hm) (L.current (x / 512)),
    tt,
  );
  closed = L.closed;
  sound = L.sound;
  passes = L.passes;
}
  where
    sure_is : transactions (secure acc) ≡ L.older ++ F.reads (tile_bodies (L.clearing ∷ L.counted))
    sure_is =
        transactions_secure acc ∙ ap transactions L.split ∙ transactions-++ L.sure L.open_end
        ∙ ap (λ (z : List Transaction). z ++ transactions L.open_end) L.sure_is
        ∙ append_assoc L.older (F.reads (tile_bodies (L.clearing ∷ L.firm))) (transactions L.open_end)
        ∙ ap (λ (z : List Transaction). L.older ++ z) (sym (live_reads F base acc d s L))

-- right after the label
pub label_dead : (F : Format) (base : ℕ → Sector) (r : Rec) (d : Disk) → Labelled F r d → ((i : ℕ) → d.now i ≡ base i) → Dead F base [] d
label_dead F base r d l same = record {
  t = F.ring.N;
  tiles = Q ∷ [];
  a = e;
  u = e;
  b = e;
  last = F.ring.N;
  last_tile = Q;
  at_a = B;
  current = λ j. subst (λ (k : List Sector). In (d.now j) k) (sym (l.fixed j)) (inl refl);
  log = record { begun = omega arith; low = omega arith; high = omega arith; window = omega arith; turn = omega arith; room = omega (arith, l.clearing.short, F.ring.narrow); long = omega arith };
  okay = λ x p q. subst (λ (k : List Sector). AllByRecursion (Okay F F.ring.N (Q ∷ []) e x) k) (sym (l.fixed (slot F x))) (ok x p q, tt);
  free = λ z. absurd (omega arith);
  outcomes = outs;
}
  where
    Q : Tile
    Q = record { body = r; tail = F.ring.N }

    e : ℕ
    e = F.ring.N + size r

    B : Boundary F.ring.N (Q ∷ []) F.ring.N e Q
    B = record { done = []; rest = []; split = refl; starts = sym (add-zero F.ring.N); ends = refl }

    ok : (x : ℕ) → e ≤ x + F.ring.N → x < e → Okay F F.ring.N (Q ∷ []) e x (d.now (slot F x))
    ok x p q = by (dec_lt x F.ring.N)
      where
        by : Dec (x < F.ring.N) → Okay F F.ring.N (Q ∷ []) e x (d.now (slot F x))
        by (yes z) = record { whole = l.whole x; held = λ _. l.behind x (omega arith) z; part = λ lo _. absurd (omega arith); new = λ lo. absurd (omega arith) }
        by (no z) =
            let j : ℕ = x - F.ring.N in
            let eq : x ≡ F.ring.N + (x - F.ring.N) = omega arith in
            let lt : x - F.ring.N < size r = omega arith in
            let st : d.now (slot F x) ≡ sector F r F.ring.N F.ring.N (x - F.ring.N) = ap (λ (k : ℕ). d.now (slot F k)) eq ∙ l.stands (x - F.ring.N) lt in
            let pt : Part F F.ring.N (Q ∷ []) x (d.now (slot F x)) = inl (x - F.ring.N, lt, eq, st, l.fits) in
            record { whole = l.whole x; held = λ _. part_pos F F.ring.N (Q ∷ []) x (d.now (slot F x)) pt; part = λ _ _. pt; new = λ lo. absurd (omega arith) }

    out : Outcome F base [] d.past F.ring.N (Q ∷ []) e
    out = record {
      n = F.ring.N;
      tile = Q;
      boundary = B;
      front = [];
      clearing = Q;
      counted = [];
      rest = [];
      cut = refl;
      ends = omega arith;
      told = sym (add-zero F.ring.N);
      tails = (sym (add-zero F.ring.N), tt);
      kept = [];
      dropped = [];
      split = refl;
      unsafe = tt;
      whole = λ _. refl;
      older = [];
      youngest = sym l.clearing.empty;
      claim = λ x hm na. subst (λ (k : List Sector). AllByRecursion (λ z. byte z (x % 512) ≡ byte_at base x) k) (sym (l.fixed (x / 512))) (ap (λ (z : Sector). byte z (x % 512)) (same (x / 512)), tt);
      closed = refl;
      sound = subst (λ (k : List Transaction). AllByRecursion (Sound F) (all_items F k)) (sym l.clearing.empty) tt;
      passes = l.clearing.passes;
    }

    outs : (n z : ℕ) (tile : Tile) → Boundary F.ring.N (Q ∷ []) n z tile → e ≤ z → z ≤ e → Outcome F base [] d.past F.ring.N (Q ∷ []) z
    outs n z tile b lo hi = subst (λ (k : ℕ). Outcome F base [] d.past F.ring.N (Q ∷ []) k) (let q : e ≡ z = omega arith in q) out
