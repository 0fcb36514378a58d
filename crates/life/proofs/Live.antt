-- What holds of a volume while its session lives, and that an accepted replay leaves such a volume.
use Rattle.std.proofs.Common.{◌≡◌, ℕ, ◌+◌, ◌-◌, ◌/◌, ◌%◌, ◌<◌, ◌≤◌, true, false, ◌⊎◌, List, [], ◌∷◌, ◌++◌, Option, sym, refl, ap, ◌∙◌, subst, inl, ⊎_elim, append_assoc, append-nil, arith}
use native.Mathlib.Decide.{dec_le, dec_lt}
use Rattle.life.specs.Disk.{Sector, force, Disk, Whole, In, AllByRecursion, run, Fixed}
use Rattle.life.specs.Items.{Item, open_after, open_ids}
use Rattle.life.specs.Log.{at, Held, Newest}
use Rattle.life.specs.Format.{size, Transaction, Format, all_items, chain_items, slot}
use Rattle.life.specs.Calls.{byte, byte_at, Home, Sound, Readable, effect, lays, blanks, counts, Session, replayed}
use Rattle.life.specs.Life.{Entry, transactions, secure, Replayed}
use Rattle.life.proofs.Lists.{in_all}
use Rattle.life.proofs.Disk.{Current, run_forced, run_effect, effect-++, effect_other}
use Rattle.life.proofs.Lay.{lay, Holds, Applied, lay_outside, holds_laid}
use Rattle.life.proofs.Words.{in_words, touched}
use Rattle.life.proofs.Intents.{open-++, ids_open, open_in, open_distinct}
use Rattle.life.proofs.Log.{Found, same_at}
use Rattle.life.proofs.Tiles.{Tile, width, Part, Okay, Numbers, tile_bodies, part_drop, part_take, first, first_sound, inner}
use Rattle.life.proofs.Bytes.{lays_log, lays_bytes, blanks_writes, blanks_done}
use Rattle.life.proofs.Dead.{Boundary, Outcome, Dead, Planned, marks}
use Rattle.life.proofs.Replay.{replay_kept, todo, one_slot, home_start}

-- what a reading that ends among the records not yet forced finds: y was read of them and z was not; `entries` are the transactions committed by them
pub record Front (F : Format) (clearing : Tile) (firm y z : List Tile) (entries : List Entry) : Type 0 where
  pub found : List Entry
  pub missed : List Entry
  pub split : entries ≡ found ++ missed
  pub reads : F.reads (tile_bodies (clearing ∷ (firm ++ y))) ≡ F.reads (tile_bodies (clearing ∷ firm)) ++ transactions found
  pub whole : z ≡ [] → missed ≡ []

-- a volume with a session: the records from the tail on are a clearing record, those that were forced and those that were not; the account's last
-- transactions are those of the records not forced
pub record Live (F : Format) (base : ℕ → Sector) (acc : List Entry) (d : Disk) (s : Session) : Type 0 where
  pub clearing : Tile
  pub counted : List Tile
  pub tails : AllByRecursion (λ r. r.tail ≡ s.t) (clearing ∷ counted)
  pub ends : s.e ≡ s.t + width (clearing ∷ counted)
  pub chain : s.chain ≡ tile_bodies (clearing ∷ counted)
  pub begun : s.t < s.a
  pub low : s.a ≤ s.e
  pub window : s.e ≤ s.a + F.ring.W
  pub turn : F.ring.N ≤ s.t
  pub room : s.e ≤ s.t + F.ring.N
  pub firm : List Tile
  pub loose : List Tile
  pub apart : counted ≡ firm ++ loose
  pub at_a : s.a ≡ s.t + width (clearing ∷ firm)
  pub current : Current d
  pub okay : (x : ℕ) → s.e ≤ x + F.ring.N → x < s.e → AllByRecursion (Okay F s.t (clearing ∷ counted) s.a x) (d.past (slot F x))
  pub now_ok : (x : ℕ) → s.e ≤ x + F.ring.N → x < s.e → Okay F s.t (clearing ∷ counted) s.e x (d.now (slot F x))
  pub sure : List Entry
  pub open_end : List Entry
  pub split : acc ≡ sure ++ open_end
  pub unsafe : AllByRecursion (λ x. x.safe ≡ false) open_end
  pub older : List Transaction
  pub sure_is : transactions sure ≡ older ++ F.reads (tile_bodies (clearing ∷ firm))
  pub open_is : (y z : List Tile) → loose ≡ y ++ z → Front F clearing firm y z open_end
  pub laid : List Tile
  pub later : List Tile
  pub laid_is : firm ≡ laid ++ later
  pub holds : (x : ℕ) → Home F (x / 512) → AllByRecursion (λ z. Holds (all_items F (older ++ F.reads (tile_bodies (clearing ∷ laid)))) x (byte_at base x) (byte z (x % 512))) (d.past (x / 512))
  pub closed : open_ids (all_items F older) ≡ []
  pub sound : AllByRecursion (Sound F) (chain_items F (tile_bodies (clearing ∷ counted)))
  pub passes : F.pass (tile_bodies (clearing ∷ counted)) ≡ true

-- making them safe changes no transaction
pub transactions_secure : (l : List Entry) → transactions (secure l) ≡ transactions l
transactions_secure [] = refl
transactions_secure (x ∷ l) = ap (λ (z : List Transaction). x.transaction ∷ z) (transactions_secure l)

-- the items of two lists of transactions
pub all_items-++ : (F : Format) (l m : List Transaction) → all_items F (l ++ m) ≡ all_items F l ++ all_items F m
all_items-++ F [] m = refl
all_items-++ F (r ∷ l) m = ap (λ (z : List Item). F.items r ++ z) (all_items-++ F l m) ∙ sym (append_assoc (F.items r) (all_items F l) (all_items F m))

-- where all records were forced
pub no_loose : (F : Format) (clearing : Tile) (firm y z : List Tile) → [] ≡ y ++ z → Front F clearing firm y z []
no_loose F clearing firm [] z e = record {
  found = [];
  missed = [];
  split = refl;
  whole = λ _. refl;
  reads = ap (λ (l : List Tile). F.reads (tile_bodies (clearing ∷ l))) (append-nil firm) ∙ sym (append-nil (F.reads (tile_bodies (clearing ∷ firm))));
}
no_loose F clearing firm (c ∷ y) z e = let n : ◌≡◌ {A = ℕ} 0 1 = cc in absurd (omega arith)

module _ (F : Format) (base : ℕ → Sector) (acc : List Entry) (d : Disk) (D : Dead F base acc d) (m h n e : ℕ) (P : Planned F base acc d D m h n e)
    (ready : Readable d.now (chain_items F (tile_bodies (P.outcome.clearing ∷ P.outcome.counted))))
    (ok : (run (force ∷ todo F base acc d D m h n e P ready) d).1 ≡ true) where
  -- what is kept
  abbrev O : Outcome F base acc d.past D.t D.tiles e
  O = P.outcome

  -- the items of the chain
  abbrev C : List Item
  C = chain_items F (tile_bodies (P.outcome.clearing ∷ P.outcome.counted))

  -- what replay leaves
  abbrev v : Disk
  v = (run (force ∷ todo F base acc d D m h n e P ready) d).0

  -- the numbers of the log
  lg : Numbers F D.t D.tiles D.a D.u D.b
  lg = D.log

  -- what the search found
  f : Found F.ring D.a D.u D.b d.now m h
  f = P.found

  -- nothing to lose
  pub fixed : Fixed v
  fixed = run_forced (force ∷ (lays C d.now ++ blanks F d.now e (m + 1 - e))) d ok

  -- the contents at the end
  pub now_is : v.now ≡ effect (blanks F d.now e (m + 1 - e)) (effect (lays C d.now) d.now)
  now_is =
      run_effect (force ∷ todo F base acc d D m h n e P ready) d ok
      ∙ effect-++ (lays C d.now ++ blanks F d.now e (m + 1 - e)) (force ∷ []) d.now
      ∙ effect-++ (lays C d.now) (blanks F d.now e (m + 1 - e)) d.now

  -- bytes outside the log
  pub bytes_now : (x : ℕ) → Home F (x / 512) → byte_at v.now x ≡ lay C x (byte_at d.now x)
  bytes_now x hm =
      ap (λ (c : ℕ → Sector). byte_at c x) now_is
      ∙ ap (λ (z : Sector). byte z (x % 512)) (effect_other (blanks F d.now e (m + 1 - e)) (effect (lays C d.now) d.now) (x / 512)
      (blanks_writes F (λ i s. x / 512 ≡ i → ⊥) d.now (m + 1 - e) e (λ y lo hi z. hm.free y (sym z))))
      ∙ lays_bytes F C d.now x O.sound ready

  -- no position from e on is held
  none_held : (y : ℕ) → e ≤ y → y < D.b → at F.ring v.now y + F.ring.N ≡ y
  none_held y lo hi = by (dec_lt y (m + 1))
    where
      state : (y : ℕ) → e ≤ y → y < D.b → Held F.ring d.now y ⊎ (at F.ring d.now y + F.ring.N ≡ y)
      state y p q = (marks F base acc d D).new y (omega (arith, P.least)) q

      via : at F.ring (effect (blanks F d.now e (m + 1 - e)) (effect (lays C d.now) d.now)) y + F.ring.N ≡ y → at F.ring v.now y + F.ring.N ≡ y
      via z = subst (λ (c : ℕ → Sector). at F.ring c y + F.ring.N ≡ y) (sym now_is) z

      by : Dec (y < m + 1) → at F.ring v.now y + F.ring.N ≡ y
      by (yes l) = via (blanks_done F d.now (m + 1 - e) e (effect (lays C d.now) d.now)
          (omega (arith, f.top, lg.window, P.least, F.ring.narrow)) (omega (arith, lg.turn, lg.begun, P.least)) (omega (arith, P.plan.greatest.low))
          (λ z p q. lays_log F C d.now z O.sound ready) (λ z p q. state z p (omega (arith, f.top))) y lo (omega arith))
      by (no l) =
          let same : effect (blanks F d.now e (m + 1 - e)) (effect (lays C d.now) d.now) (slot F y) ≡ d.now (slot F y) =
          effect_other (blanks F d.now e (m + 1 - e)) (effect (lays C d.now) d.now) (slot F y)
          (blanks_writes F (λ i s. slot F y ≡ i → ⊥) d.now (m + 1 - e) e
          (λ z p q w. let k : y ≡ z = one_slot F base acc d D m h n e P ready y z (omega (arith, P.least, lg.window, F.ring.narrow)) hi
          (omega (arith, P.least, lg.window, F.ring.narrow)) (omega (arith, f.top)) w in omega arith))
          ∙ lays_log F C d.now y O.sound ready in
          via (ap (λ (s : Sector). F.ring.pos (slot F y) s + F.ring.N) same
          ∙ ⊎_elim (λ (z : Held F.ring d.now y). absurd (omega (arith, f.greatest.most y z))) (λ z. z) (state y lo hi))

  -- the tail
  t' : ℕ
  t' = D.t + width P.outcome.front

  -- the contents show the chain
  now_okay' : (x : ℕ) → e ≤ x + F.ring.N → x < e → Okay F (D.t + width P.outcome.front) (P.outcome.clearing ∷ P.outcome.counted) e x (v.now (slot F x))
  now_okay' x p q = by (dec_le D.b (x + F.ring.N))
    where
      by : Dec (D.b ≤ x + F.ring.N) → Okay F (D.t + width P.outcome.front) (P.outcome.clearing ∷ P.outcome.counted) e x (v.now (slot F x))
      by (yes l) =
          let kept = replay_kept F base acc d D m h n e P ready ok in
          let fr = in_all _ (v.now (slot F x)) (v.past (slot F x)) (kept.1 (slot F x)) (kept.0 (slot F x)) in
          let o : Okay F D.t D.tiles e x (v.now (slot F x)) = fr.log x l (omega (arith, P.most, f.upto, lg.high)) refl in
          record {
            whole = o.whole;
            held = o.held;
            part = λ lo hi. part_take F (D.t + width O.front) (O.clearing ∷ O.counted) O.rest x (v.now (slot F x))
                (part_drop F D.t (D.t + width O.front) O.front ((O.clearing ∷ O.counted) ++ O.rest) x (v.now (slot F x)) refl
                (subst (λ (z : List Tile). Part F D.t z x (v.now (slot F x))) O.cut (o.part (omega arith) hi)) lo)
                (omega (arith, O.ends));
            new = λ z. absurd (omega arith);
          }
      by (no l) =
          let y : ℕ = x + F.ring.N in
          let nh = none_held (x + F.ring.N) p (omega arith) in
          let s = same_at F.ring v.now x in
          let held : F.ring.pos (slot F x) (v.now (slot F x)) ≡ x = omega arith in
          let kept = replay_kept F base acc d D m h n e P ready ok in
          let fr = in_all _ (v.now (slot F (x + F.ring.N))) (v.past (slot F (x + F.ring.N))) (kept.1 (slot F (x + F.ring.N))) (kept.0 (slot F (x + F.ring.N))) in
          let wh : Whole (v.now (slot F (x + F.ring.N))) = (fr.log (x + F.ring.N) (omega (arith, P.least, lg.window, F.ring.narrow)) (omega arith) refl).whole in
          record { whole = subst (λ (i : ℕ). Whole (v.now i)) (F.ring.period x) wh; held = λ _. held; part = λ lo hi. absurd (omega (arith, lg.room)); new = λ z. absurd (omega arith) }

  -- the newest record is still the newest
  pub newest_now : Newest F.ring v.now e n
  newest_now = subst (λ (k : ℕ). Newest F.ring v.now e k) (sym B.starts) (record { header = omega (arith, len); sound = first_sound F D.t D.tiles e v.now shows B.done P.tile B.rest B.split start; ends = omega (arith, len, B.starts, B.ends); first = λ y p q. inl (inner F D.t D.tiles e v.now shows B.done P.tile B.rest B.split y p (omega (arith, B.starts, B.ends)) q) })
    where
      B : Boundary D.t D.tiles n e P.tile
      B = P.boundary

      start : D.t + width B.done < e
      start = omega (arith, B.starts, B.ends)

      shows : (x : ℕ) → D.t ≤ x → x < e → Part F D.t D.tiles x (v.now (slot F x))
      shows x lo hi =
          let kept = replay_kept F base acc d D m h n e P ready ok in
          let fr = in_all _ (v.now (slot F x)) (v.past (slot F x)) (kept.1 (slot F x)) (kept.0 (slot F x)) in
          (fr.log x (omega (arith, lg.room)) (omega (arith, P.most, f.upto, lg.high)) refl).part lo hi

      len : F.ring.len (v.now (slot F (D.t + width B.done))) ≡ size P.tile.body
      len = first F D.t D.tiles e v.now shows B.done P.tile B.rest B.split start

  -- the items kept are older ones and the chain's
  kept_items : all_items F (transactions O.kept) ≡ all_items F O.older ++ C
  kept_items = ap (all_items F) O.youngest ∙ all_items-++ F O.older (F.reads (tile_bodies (O.clearing ∷ O.counted)))

  -- each byte holds what is asked of it
  pub holds_now : (x : ℕ) → Home F (x / 512) → Holds (all_items F (transactions O.kept)) x (byte_at base x) (byte_at v.now x)
  holds_now x hm = subst (λ (w : Option ℕ). Holds K x b w) (sym (bytes_now x hm)) laid
    where
      K : List Item
      K = all_items F (transactions P.outcome.kept)

      b : Option ℕ
      b = byte_at base x

      w : Option ℕ
      w = byte_at d.now x

      start : (Applied C x → ⊥) → Holds (all_items F O.older ++ C) x b w
      start na = subst (λ (l : List Item). Holds l x b w) kept_items (home_start F base acc d D m h n e P ready x hm na)

      laid : Holds K x b (lay C x w)
      laid = subst (λ (l : List Item). Holds l x b (lay C x w)) (sym kept_items) (holds_laid (all_items F O.older) C x b w start)

  -- the chain leaves the intents open that all items kept leave open
  pub ids_now : open_ids C ≡ open_ids (all_items F (transactions O.kept))
  ids_now = sym (ap open_ids kept_items ∙ open-++ [] (all_items F O.older) C ∙ ap (λ (l : List ℕ). open_after l C) O.closed)

  -- what an accepted replay has done
  pub replay_does : Replayed F base acc (secure O.kept) d.now v.now (tile_bodies (O.clearing ∷ O.counted)) (counts F (tile_bodies (O.clearing ∷ O.counted)))
  replay_does = record {
    kept = O.kept;
    dropped = O.dropped;
    split = O.split;
    unsafe = O.unsafe;
    now_safe = refl;
    older = O.older;
    youngest = O.youngest;
    counted = refl;
    bytes = λ x hm. in_words (all_items F (transactions O.kept)) x (byte_at base x) (byte_at v.now x) (holds_now x hm);
    still = λ x hm na. bytes_now x hm ∙ lay_outside C x (byte_at d.now x) (λ a. na (touched C x a));
    listed_open = λ i z. ⊎_elim (λ q. q) (λ q. absurd q.0) (ids_open i [] (all_items F (transactions O.kept)) (subst (λ (l : List ℕ). In i l) ids_now z));
    open_listed = λ i q. subst (λ (l : List ℕ). In i l) (sym ids_now) (open_in i [] (all_items F (transactions O.kept)) q);
    once = open_distinct [] C tt;
  }

  -- and it leaves a session's volume
  pub replay_live : (new : List Entry) → transactions new ≡ transactions O.kept → Live F base new v (replayed n e (D.t + width O.front) (tile_bodies (O.clearing ∷ O.counted)))
  replay_live new same = record {
    clearing = O.clearing;
    counted = O.counted;
    tails = O.tails;
    ends = O.ends;
    chain = refl;
    begun = omega (arith, O.ends);
    low = omega arith;
    window = omega arith;
    turn = omega (arith, lg.turn);
    room = omega (arith, lg.room, P.most, f.upto, lg.high);
    firm = O.counted;
    loose = [];
    apart = sym (append-nil O.counted);
    at_a = O.ends;
    current = λ j. subst (λ (l : List Sector). In (v.now j) l) (sym (fixed j)) (inl refl);
    okay = λ x p q. subst (λ (l : List Sector). AllByRecursion (Okay F (D.t + width O.front) (O.clearing ∷ O.counted) e x) l) (sym (fixed (slot F x))) (now_okay' x p q, tt);
    now_ok = now_okay';
    sure = new;
    open_end = [];
    split = sym (append-nil new);
    unsafe = tt;
    older = O.older;
    sure_is = same ∙ O.youngest;
    open_is = no_loose F O.clearing O.counted;
    laid = O.counted;
    later = [];
    laid_is = sym (append-nil O.counted);
    holds = λ x hm. subst (λ (l : List Sector). AllByRecursion (λ z. Holds (all_items F (O.older ++ F.reads (tile_bodies (O.clearing ∷ O.counted)))) x (byte_at base x) (byte z (x % 512))) l) (sym (fixed (x / 512)))
        (subst (λ (l : List Transaction). Holds (all_items F l) x (byte_at base x) (byte_at v.now x)) O.youngest (holds_now x hm), tt);
    closed = O.closed;
    sound = O.sound;
    passes = O.passes;
  }
