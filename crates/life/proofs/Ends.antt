-- A volume whose session lives is one that a cut may fall on: what replay may find then.
use Rattle.std.proofs.Common.{◌≡◌, ℕ, ◌+◌, ◌/◌, ◌%◌, ◌≤◌, true, false, List, [], ◌∷◌, ◌++◌, sym, refl, ap, ◌∙◌, subst, append_assoc, append-nil, add-zero, arith}
use Rattle.life.specs.Disk.{Sector, Disk, AllByRecursion}
use Rattle.life.specs.Items.{Item}
use Rattle.life.specs.Format.{size, Transaction, Format, all_items, chain_items, slot}
use Rattle.life.specs.Calls.{byte, byte_at, Home, Sound, Session}
use Rattle.life.specs.Life.{Entry, transactions}
use Rattle.life.proofs.Lists.{all_map, all_left, all_right}
use Rattle.life.proofs.Lay.{Holds, Applied, after_more, applied_last}
use Rattle.life.proofs.Tiles.{Tile, width, Okay, tile_bodies, width-++, tile_bodies-++, front_of}
use Rattle.life.proofs.Dead.{Boundary, Outcome, Dead}
use Rattle.life.proofs.Live.{Front, Live, all_items-++}

-- the transactions of two lists
pub transactions-++ : (l m : List Entry) → transactions (l ++ m) ≡ transactions l ++ transactions m
transactions-++ [] m = refl
transactions-++ (r ∷ l) m = ap (λ (z : List Transaction). r.transaction ∷ z) (transactions-++ l m)

module _ (F : Format) (base : ℕ → Sector) (acc : List Entry) (d : Disk) (s : Session) (L : Live F base acc d s) where
  -- the records of the session
  abbrev tiles : List Tile
  tiles = L.clearing ∷ L.counted

  -- what replay keeps when it finds an end that is the session's or lies between the last force and that
  pub live_outcomes : (extra : List Tile) (past : ℕ → List Sector) →
      ((x : ℕ) → Home F (x / 512) → AllByRecursion (λ z. Holds (all_items F (L.older ++ F.reads (tile_bodies (L.clearing ∷ L.laid)))) x (byte_at base x) (byte z (x % 512))) (past (x / 512))) →
      (n e : ℕ) (tile : Tile) → Boundary s.t (tiles ++ extra) n e tile → s.a ≤ e → e ≤ s.e → Outcome F base acc past s.t (tiles ++ extra) e
  live_outcomes extra past holds n e tile B lo hi = go p refl
    where
      p : List Tile
      p = B.done ++ (tile ∷ [])

      whole : tiles ++ extra ≡ p ++ B.rest
      whole = B.split ∙ sym (append_assoc B.done (tile ∷ []) B.rest)

      wide : e ≡ s.t + width p
      wide = let w = width-++ B.done (tile ∷ []) in omega (arith, B.starts, B.ends)

      go : (l : List Tile) → p ≡ l → Outcome F base acc past s.t (tiles ++ extra) e
      go [] q = let z : width p ≡ 0 = ap width q in absurd (omega (arith, wide, L.begun))
      go (c ∷ l) q = record {
        n = n;
        tile = tile;
        boundary = B;
        front = [];
        clearing = L.clearing;
        counted = l;
        rest = B.rest;
        cut = whole ∙ ap (λ (z : List Tile). z ++ B.rest) is_p;
        ends = let z = ap width is_p in omega (arith, wide);
        told = told;
        tails = tails;
        kept = L.sure ++ Y.found;
        dropped = Y.missed;
        split = acc_split;
        unsafe = all_right (λ x. x.safe ≡ false) Y.found Y.missed (subst (λ (z : List Entry). AllByRecursion (λ x. x.safe ≡ false) z) Y.split L.unsafe);
        whole = whole_kept;
        older = L.older;
        youngest = young;
        claim = claim;
        closed = L.closed;
        sound = sounds;
        passes = passing;
      }
        where
          eq1 : (L.clearing ∷ L.counted) ++ extra ≡ (c ∷ l) ++ B.rest
          eq1 = whole ∙ ap (λ (z : List Tile). z ++ B.rest) q

          head : L.clearing ≡ c
          head = let e1 = eq1 in cc

          is_p : p ≡ L.clearing ∷ l
          is_p = q ∙ ap (λ (z : Tile). z ∷ l) (sym head)

          eq2 : L.counted ++ extra ≡ l ++ B.rest
          eq2 = let e1 = eq1 in cc

          wp : width p ≡ size L.clearing.body + width l
          wp = ap width is_p

          -- l is a front of the records that stand
          U : (y : List Tile) × (L.counted ≡ l ++ y) × (B.rest ≡ y ++ extra)
          U = front_of l B.rest L.counted extra (sym eq2) (omega (arith, wide, wp, L.ends))

          -- and has the firm ones as its front
          V : (y : List Tile) × (l ≡ L.firm ++ y) × (L.loose ≡ y ++ U.0)
          V = front_of L.firm L.loose l U.0 (sym L.apart ∙ U.1) (omega (arith, wide, wp, L.at_a))

          Y : Front F L.clearing L.firm V.0 U.0 L.open_end
          Y = L.open_is V.0 U.0 V.2

          nothing : (l : List Tile) → width l ≡ 0 → l ≡ []
          nothing [] z = refl
          nothing (x ∷ l) z = absurd (omega arith)

          whole_kept : e ≡ s.t + width (tiles ++ extra) → Y.missed ≡ []
          whole_kept z =
              let w1 = width-++ tiles extra in
              let w2 = width-++ l U.0 in
              let w3 : width L.counted ≡ width (l ++ U.0) = ap width U.1 in
              let w4 : width U.0 ≡ 0 = omega (arith, wide, wp, L.ends) in
              Y.whole (nothing U.0 w4)

          acc_split : acc ≡ (L.sure ++ Y.found) ++ Y.missed
          acc_split = L.split ∙ ap (λ (z : List Entry). L.sure ++ z) Y.split ∙ sym (append_assoc L.sure Y.found Y.missed)

          young : transactions (L.sure ++ Y.found) ≡ L.older ++ F.reads (tile_bodies (L.clearing ∷ l))
          young =
              transactions-++ L.sure Y.found ∙ ap (λ (z : List Transaction). z ++ transactions Y.found) L.sure_is
              ∙ append_assoc L.older (F.reads (tile_bodies (L.clearing ∷ L.firm))) (transactions Y.found)
              ∙ ap (λ (z : List Transaction). L.older ++ z) (sym Y.reads ∙ ap (λ (z : List Tile). F.reads (tile_bodies (L.clearing ∷ z))) (sym V.1))

          in_all_tails : AllByRecursion (λ r. r.tail ≡ s.t) p
          in_all_tails = subst (λ (z : List Tile). AllByRecursion (λ r. r.tail ≡ s.t) z) (sym is_p)
              (L.tails.0, all_left (λ r. r.tail ≡ s.t) l U.0 (subst (λ (z : List Tile). AllByRecursion (λ r. r.tail ≡ s.t) z) U.1 L.tails.1))

          told : tile.tail ≡ s.t + 0
          told = (all_right (λ r. r.tail ≡ s.t) B.done (tile ∷ []) in_all_tails).0 ∙ sym (add-zero s.t)

          tails : AllByRecursion (λ r. r.tail ≡ s.t + 0) (L.clearing ∷ l)
          tails = all_map (λ r. r.tail ≡ s.t) (λ r. r.tail ≡ s.t + 0) (L.clearing ∷ l) (λ r h. h ∙ sym (add-zero s.t))
              (subst (λ (z : List Tile). AllByRecursion (λ r. r.tail ≡ s.t) z) is_p in_all_tails)

          -- the chain found goes on from the records whose patches were laid
          l_is : tile_bodies (L.clearing ∷ l) ≡ tile_bodies (L.clearing ∷ L.laid) ++ tile_bodies (L.later ++ V.0)
          l_is = ap (λ (z : List Tile). tile_bodies (L.clearing ∷ z)) (V.1 ∙ ap (λ (z : List Tile). z ++ V.0) L.laid_is ∙ append_assoc L.laid L.later V.0)
              ∙ tile_bodies-++ (L.clearing ∷ L.laid) (L.later ++ V.0)

          laid_reads : List Transaction
          laid_reads = F.reads (tile_bodies (L.clearing ∷ L.laid))

          M : (w : List Transaction) × (F.reads (tile_bodies (L.clearing ∷ L.laid) ++ tile_bodies (L.later ++ V.0)) ≡ F.reads (tile_bodies (L.clearing ∷ L.laid)) ++ w)
          M = F.reads_more (tile_bodies (L.clearing ∷ L.laid)) (tile_bodies (L.later ++ V.0))

          more : List Item
          more = all_items F M.0

          read_is : F.reads (tile_bodies (L.clearing ∷ l)) ≡ laid_reads ++ M.0
          read_is = ap F.reads l_is ∙ M.1

          kept_is : all_items F (transactions (L.sure ++ Y.found)) ≡ all_items F (L.older ++ laid_reads) ++ more
          kept_is = ap (all_items F) (young ∙ ap (λ (z : List Transaction). L.older ++ z) read_is ∙ sym (append_assoc L.older laid_reads M.0))
              ∙ all_items-++ F (L.older ++ laid_reads) M.0

          chain_is : chain_items F (tile_bodies (L.clearing ∷ l)) ≡ all_items F laid_reads ++ more
          chain_is = ap (all_items F) read_is ∙ all_items-++ F laid_reads M.0

          claim : (x : ℕ) → Home F (x / 512) → (Applied (chain_items F (tile_bodies (L.clearing ∷ l))) x → ⊥) →
              AllByRecursion (λ z. Holds (all_items F (transactions (L.sure ++ Y.found))) x (byte_at base x) (byte z (x % 512))) (past (x / 512))
          claim x hm na = all_map _ _ (past (x / 512)) each (holds x hm)
            where
              none : Applied more x → ⊥
              none a = na (subst (λ (z : List Item). Applied z x) (sym chain_is)
                  (applied_last (all_items F laid_reads) more x a))

              each : (z : Sector) → Holds (all_items F (L.older ++ F.reads (tile_bodies (L.clearing ∷ L.laid)))) x (byte_at base x) (byte z (x % 512)) →
                  Holds (all_items F (transactions (L.sure ++ Y.found))) x (byte_at base x) (byte z (x % 512))
              each z h = subst (λ (k : List Item). Holds k x (byte_at base x) (byte z (x % 512))) (sym kept_is)
                  (after_more (all_items F (L.older ++ F.reads (tile_bodies (L.clearing ∷ L.laid)))) more x (λ k. k ≡ byte_at base x) (byte z (x % 512)) none h)

          all_is : tile_bodies (L.clearing ∷ L.counted) ≡ tile_bodies (L.clearing ∷ l) ++ tile_bodies U.0
          all_is = ap (λ (z : List Tile). tile_bodies (L.clearing ∷ z)) U.1 ∙ tile_bodies-++ (L.clearing ∷ l) U.0

          more_reads : (w : List Transaction) × (F.reads (tile_bodies (L.clearing ∷ l) ++ tile_bodies U.0) ≡ F.reads (tile_bodies (L.clearing ∷ l)) ++ w)
          more_reads = F.reads_more (tile_bodies (L.clearing ∷ l)) (tile_bodies U.0)

          sounds : AllByRecursion (Sound F) (chain_items F (tile_bodies (L.clearing ∷ l)))
          sounds = all_left (Sound F) (chain_items F (tile_bodies (L.clearing ∷ l))) (all_items F more_reads.0)
              (subst (λ (z : List Item). AllByRecursion (Sound F) z)
              (ap (all_items F) (ap F.reads all_is ∙ more_reads.1) ∙ all_items-++ F (F.reads (tile_bodies (L.clearing ∷ l))) more_reads.0) L.sound)

          passing : F.pass (tile_bodies (L.clearing ∷ l)) ≡ true
          passing = F.pass_front (tile_bodies (L.clearing ∷ l)) (tile_bodies U.0) (ap F.pass (sym all_is) ∙ L.passes)

  -- all records of the session read
  pub live_reads : F.reads (tile_bodies (L.clearing ∷ L.counted)) ≡ F.reads (tile_bodies (L.clearing ∷ L.firm)) ++ transactions L.open_end
  live_reads =
      let W = L.open_is L.loose [] (sym (append-nil L.loose)) in
      let all : W.found ≡ L.open_end = sym (append-nil W.found) ∙ ap (λ (z : List Entry). W.found ++ z) (sym (W.whole refl)) ∙ sym W.split in
      ap (λ (z : List Tile). F.reads (tile_bodies (L.clearing ∷ z))) L.apart ∙ W.reads
      ∙ ap (λ (z : List Entry). F.reads (tile_bodies (L.clearing ∷ L.firm)) ++ transactions z) all

  -- the last of some records
  last_of : (c : Tile) (l : List Tile) → (x : List Tile) × (y : Tile) × (c ∷ l ≡ x ++ (y ∷ []))
  last_of c [] = ([], c, refl)
  last_of c (r ∷ l) = let h = last_of r l in (c ∷ h.0, h.1, ap (λ (z : List Tile). c ∷ z) h.2)

  -- where the records that were forced end
  pub firm_end : (extra : List Tile) → (n : ℕ) × (tile : Tile) × Boundary s.t (tiles ++ extra) n s.a tile
  firm_end extra =
      let h = last_of L.clearing L.firm in
      let w = width-++ h.0 (h.1 ∷ []) in
      let w2 : width (L.clearing ∷ L.firm) ≡ width (h.0 ++ (h.1 ∷ [])) = ap width h.2 in (
        s.t + width h.0,
        h.1,
        record {
          done = h.0;
          rest = L.loose ++ extra;
          split = ap (λ (z : List Tile). (L.clearing ∷ z) ++ extra) L.apart ∙ append_assoc (L.clearing ∷ L.firm) L.loose extra
              ∙ ap (λ (z : List Tile). z ++ (L.loose ++ extra)) h.2 ∙ append_assoc h.0 (h.1 ∷ []) (L.loose ++ extra);
          starts = refl;
          ends = omega (arith, L.at_a);
        },
      )

  -- a session's volume is one that a cut may fall on
  unfoldable pub live_dead : Dead F base acc d
  live_dead = record {
    t = s.t;
    tiles = tiles ++ [];
    a = s.a;
    u = s.e;
    b = s.e;
    last = (firm_end []).0;
    last_tile = (firm_end []).1;
    at_a = (firm_end []).2;
    current = L.current;
    log = record {
      begun = L.begun;
      low = L.low;
      high = omega arith;
      window = L.window;
      turn = L.turn;
      room = L.room;
      long = let w = width-++ tiles [] in omega (arith, L.ends);
    };
    okay = λ x p q. all_map (Okay F s.t tiles s.a x) (Okay F s.t (tiles ++ []) s.a x) (d.past (slot F x))
        (λ z o. subst (λ (l : List Tile). Okay F s.t l s.a x z) (sym (append-nil tiles)) o) (L.okay x p q);
    free = λ l. absurd (omega arith);
    outcomes = live_outcomes [] d.past L.holds;
  }
