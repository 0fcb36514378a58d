-- The ops that commit writes are read back. Assumes nothing.
use Rattle.std.proofs.Common.{◌≡◌, ℕ, suc, ◌+◌, ◌<◌, ◌≤◌, Bool, true, false, cond, ◌&&◌, leb, List, [], ◌∷◌, ◌++◌, map, length, get_or, take, drop, Some, None, Ok, Err, sym, refl, ap, ◌∙◌, add_assoc, arith, lit<}
use Rattle.std.proofs.lemmas.List.{length-append, length-drop, take_at, drop_at, drop-drop, get_or-drop, append_assoc, append-nil}
use Rattle.std.proofs.lemmas.Bool.{eq-eqb, le-leb, and_from}
use Rattle.std.specs.List.{AllByRecursion}
use Rattle.model.specs.Refusals.{refusal, by_transaction, Outcome, ◌>>=◌, need}
use Rattle.codec.specs.Fields.{be32, le32, be32_bytes, le32_bytes, part, joined}
use Rattle.model.specs.Ops.{start, region, Op, sort_of, sorted, op_at, after_op, op_bytes}
use Rattle.device.specs.State.{DevState}
use Rattle.label.specs.declared.label.Label.{Label}
use Rattle.item.specs.Meaning.{Bank}
use Rattle.model.specs.Items.{Region, items_after, check_all, replay_order, reading}
use Rattle.model.specs.Reading.{Reading, later_parts, regions_of, joins, committed, brings, ends, step, read_ops}
use Rattle.model.specs.Calls.{first_region, commit_ops}
use Rattle.model.specs.Laws.{located, after_regions, region_ops, transaction_ops, commit_op, OpsRead}
use Rattle.codec.proofs.Numbers.{be_same, be_within, le_within}

be32_drop : (at k : ℕ) (b : List ℕ) → be32 b (at + k) ≡ be32 (drop at b) k
be32_drop at k b =
    be_same 4 b (drop at b) (at + k) k (λ j l. ap (λ i. get_or b i 0) (add_assoc at k j) ∙ sym (get_or-drop at b (k + j) 0))

be32_here : (at : ℕ) (b : List ℕ) → be32 b at ≡ be32 (drop at b) 0
be32_here at b = let e : at ≡ at + 0 = omega arith in ap (be32 b) e ∙ be32_drop at 0 b

-- an op that was written is found where it begins
pub op_found : (sector at number client flags : ℕ) (r rest b : List ℕ) → number < 4294967296 → length r < 4294967296 →
    drop at b ≡ op_bytes number client flags r ++ rest → op_at sector b at ≡ sorted (sort_of client flags r) number r sector at
op_found sector at number client flags r rest b n-low r-low e =
    let n : be32 b at ≡ number = be32_here at b ∙ ap (λ l. be32 l 0) e ∙ be_within 4 number [] (be32_bytes (length r) ++ (client ∷ flags ∷ 0 ∷ 0 ∷ (r ++ rest))) n-low in
    let m : be32 b (at + 4) ≡ length r = be32_drop at 4 b ∙ ap (λ l. be32 l 4) e ∙ be_within 4 (length r) (be32_bytes number) (client ∷ flags ∷ 0 ∷ 0 ∷ (r ++ rest)) r-low in
    let c : get_or b (at + 8) 0 ≡ client = sym (get_or-drop at b 8 0) ∙ ap (λ l. get_or l 8 0) e in
    let f : get_or b (at + 9) 0 ≡ flags = sym (get_or-drop at b 9 0) ∙ ap (λ l. get_or l 9 0) e in
    let p : part (at + 12) (length r) b ≡ r = ap (take (length r)) (sym (drop-drop 12 at b) ∙ ap (drop 12) e) ∙ take_at r rest (length r) refl in
    let l : at + 12 + length r ≤ length b = omega (arith, length-drop at b, ap length e, length-append r rest) in
    let t : (leb (at + 12) (length b) && leb (at + 12 + length r) (length b)) ≡ true =
    and_from _ _ (le-leb (at + 12) (length b) (omega arith)) (le-leb (at + 12 + length r) (length b) l) in
    let G : ℕ → ℕ → ℕ → ℕ → Outcome Op = λ n m c f.
    need (leb (at + 12) (length b) && leb (at + 12 + m) (length b)) (refusal 10 by_transaction sector at) >>= λ _.
    sorted (sort_of c f (part (at + 12) m b)) n (part (at + 12) m b) sector at in
    let H : Bool → List ℕ → Outcome Op = λ t q.
    need t (refusal 10 by_transaction sector at) >>= λ _. sorted (sort_of client flags q) number q sector at in
    ap (λ x. G x (be32 b (at + 4)) (get_or b (at + 8) 0) (get_or b (at + 9) 0)) n
    ∙ ap (λ x. G number x (get_or b (at + 8) 0) (get_or b (at + 9) 0)) m
    ∙ ap (λ x. G number (length r) x (get_or b (at + 9) 0)) c
    ∙ ap (λ x. G number (length r) client x) f
    ∙ ap (λ x. H x (part (at + 12) (length r) b)) t
    ∙ ap (H true) p

-- and the op after it
pub op_next : (at number client flags : ℕ) (r rest b : List ℕ) → drop at b ≡ op_bytes number client flags r ++ rest → drop (at + 12 + length r) b ≡ rest
op_next at number client flags r rest b e =
    sym (drop-drop (length r) (at + 12) b) ∙ ap (drop (length r)) (sym (drop-drop 12 at b) ∙ ap (drop 12) e) ∙ drop_at r rest (length r) refl

-- The reading of a transaction.

abbrev whole : ℕ → ℕ → ℕ → List ℕ → Op
whole number sector at r = record { number = number; sort = region true true; bytes = r; sector = sector; byte = at }

-- a reading with one open transaction, none of whose regions is in parts
abbrev opened : Reading → ℕ → ℕ → List Op → Reading
opened r number f S = record { records = r.records; seen = S; pending = record { number = number; from = f; parted = false } ∷ []; done = r.done; book = r.book }

later_none : (number sector at : ℕ) (rs : List (List ℕ)) → later_parts number (region_ops number sector at rs) ≡ []
later_none number sector at [] = refl
later_none number sector at (r ∷ rs) =
    ap (λ t. cond t [] (later_parts number (region_ops number sector (at + 12 + length r) rs))) (eq-eqb number number refl)

regions_found : (number sector at : ℕ) (rs : List (List ℕ)) → regions_of number (region_ops number sector at rs) ≡ located sector at rs
regions_found number sector at [] = refl
regions_found number sector at (r ∷ rs) =
    let os : List Op = region_ops number sector (at + 12 + length r) rs in
    let G : Bool → List ℕ → List Region → List Region = λ t l q. cond t (record { bytes = r ++ l; sector = sector; byte = at } ∷ []) [] ++ q in
    ap (λ t. G t (later_parts number os) (regions_of number os)) (eq-eqb number number refl)
    ∙ ap (λ l. G true l (regions_of number os)) (later_none number sector (at + 12 + length r) rs)
    ∙ ap (G true []) (regions_found number sector (at + 12 + length r) rs)
    ∙ ap (λ l. let x : Region = record { bytes = l; sector = sector; byte = at } in x ∷ located sector (at + 12 + length r) rs) (append-nil r)

module _ (d : DevState) (L : Label) (bank : Bank) (sector number : ℕ) (low : number < 4294967296) (r : Reading) (f : ℕ) where
  region_step : (at : ℕ) (x : List ℕ) (S : List Op) →
      step d L bank (whole number sector at x) (opened r number f S) ≡ Ok (opened r number f (S ++ (whole number sector at x ∷ [])))
  region_step at x S =
      ap (λ t. brings true true (whole number sector at x) (cond t (Some 0) None) (opened r number f S)) (eq-eqb number number refl)

  regions_read : (b : List ℕ) (rs : List (List ℕ)) (at n m : ℕ) (S : List Op) (rest : List ℕ) → n ≡ length rs + m → AllByRecursion (λ x. length x < 4294967296) rs →
      drop at b ≡ joined (map (λ x. op_bytes number 0x69 0x00 x) rs) ++ rest →
      (read_ops d L bank sector b at n (opened r number f S)
      ≡ read_ops d L bank sector b (after_regions at rs) m (opened r number f (S ++ region_ops number sector at rs)))
      × (drop (after_regions at rs) b ≡ rest)
  regions_read b [] at n m S rest c a e =
      let c' : n ≡ m = omega arith in (
        ap (λ k. read_ops d L bank sector b at k (opened r number f S)) c'
            ∙ ap (λ T. read_ops d L bank sector b at m (opened r number f T)) (sym (append-nil S)),
        e,
      )
  regions_read b (x ∷ rs) at n m S rest c a e =
      let c' : n ≡ suc (length rs + m) = omega arith in
      let o : Op = whole number sector at x in
      let k : ℕ = length rs + m in
      let R : Reading = opened r number f S in
      let e' : drop at b ≡ op_bytes number 0x69 0x00 x ++ (joined (map (λ y. op_bytes number 0x69 0x00 y) rs) ++ rest) =
      e ∙ append_assoc (op_bytes number 0x69 0x00 x) (joined (map (λ y. op_bytes number 0x69 0x00 y) rs)) rest in
      let next = op_next at number 0x69 0x00 x (joined (map (λ y. op_bytes number 0x69 0x00 y) rs) ++ rest) b e' in
      let found = op_found sector at number 0x69 0x00 x (joined (map (λ y. op_bytes number 0x69 0x00 y) rs) ++ rest) b low a.0 e' in
      let ih = regions_read b rs (at + 12 + length x) k m (S ++ (o ∷ [])) rest refl a.1 next in (
        ap (λ i. read_ops d L bank sector b at i R) c'
            ∙ ap (λ z. z >>= λ p. step d L bank p R >>= λ q. read_ops d L bank sector b (after_op p) k q) found
            ∙ ap (λ z. z >>= λ q. read_ops d L bank sector b (at + 12 + length x) k q) (region_step at x S)
            ∙ ih.0
            ∙ ap (λ T. read_ops d L bank sector b (after_regions (at + 12 + length x) rs) m (opened r number f T)) (append_assoc S (o ∷ []) (region_ops number sector (at + 12 + length x) rs)),
        ih.1,
      )

bind_ok : {A : Type 0} (x : Outcome A) → (x >>= λ v. Ok v) ≡ x
bind_ok (Ok v) = refl
bind_ok (Err e) = refl

-- a reading with nothing open
abbrev clean : Reading → Reading
clean r = record { records = r.records; seen = r.seen; pending = []; done = r.done; book = r.book }

is_clean : (r : Reading) → r.pending ≡ [] → r ≡ clean r
is_clean r e = ap (λ p. let x : Reading = record { records = r.records; seen = r.seen; pending = p; done = r.done; book = r.book } in x) e

-- the commit of a transaction whose regions were read
ended_read : (d : DevState) (L : Label) (bank : Bank) (sector number items : ℕ) (rs : List (List ℕ)) (r : Reading) → number < 4294967296 →
    committed d L bank (commit_op number sector rs) (located sector 12 (first_region number items ∷ rs)) r
    ≡ (items_after 0 (located sector 40 rs) >>= λ is.
    check_all reading d L bank (replay_order bank is) r.book >>= λ b.
    Ok (joins bank (located sector 40 rs) (replay_order bank is) b r))
ended_read d L bank sector number items rs r low =
    ap (λ t. need t (refusal 10 by_transaction sector (after_regions 40 rs)) >>= λ _.
    items_after 0 (located sector 40 rs) >>= λ is.
    check_all reading d L bank (replay_order bank is) r.book >>= λ b.
    Ok (joins bank (located sector 40 rs) (replay_order bank is) b r))
    (eq-eqb (le32 (first_region number items) 8) number (le_within 4 number (le32_bytes 0x5452414E ++ le32_bytes 40) (le32_bytes items) low))

pub ops_read : OpsRead
ops_read d L bank sector number items rs rest r low small e =
    let F : List ℕ = first_region number items in
    let C : List ℕ = op_bytes number 0x69 0x02 [] in
    let f : List ℕ → List ℕ = λ x. op_bytes number 0x69 0x00 x in
    let b : List ℕ = commit_ops number items rs ++ rest in
    let o : Op = record { number = number; sort = start; bytes = []; sector = sector; byte = 0 } in
    let c : Op = commit_op number sector rs in
    let n : ℕ = length r.seen in
    let S : List Op = r.seen ++ (o ∷ []) in
    let X : List Op = region_ops number sector 12 (F ∷ rs) in
    let e₀ : b ≡ op_bytes number 0x69 0x01 [] ++ (joined (map f (F ∷ rs)) ++ (C ++ rest)) =
    ap (λ t. op_bytes number 0x69 0x01 [] ++ (op_bytes number 0x69 0x00 F ++ t)) (append_assoc (joined (map f rs)) C rest) in
    let found = op_found sector 0 number 0x69 0x01 [] (joined (map f (F ∷ rs)) ++ (C ++ rest)) b low (lit< tt) e₀ in
    let next : drop 12 b ≡ joined (map f (F ∷ rs)) ++ (C ++ rest) = op_next 0 number 0x69 0x01 [] (joined (map f (F ∷ rs)) ++ (C ++ rest)) b e₀ in
    let k : 3 + length rs ≡ suc (length (F ∷ rs) + 1) = omega arith in
    let body = regions_read d L bank sector number low r n b (F ∷ rs) 12 (length (F ∷ rs) + 1) 1 S (C ++ rest) refl (lit< tt, small) next in
    let last = op_found sector (after_regions 40 rs) number 0x69 0x02 [] rest b low (lit< tt) body.1 in
    let R : Reading = opened r number n (S ++ X) in
    let D : Reading = record { records = r.records; seen = (S ++ X) ++ (c ∷ []); pending = []; done = r.done; book = r.book } in
    let q : drop n (S ++ X) ≡ o ∷ X = ap (drop n) (append_assoc r.seen (o ∷ []) X) ∙ drop_at r.seen (o ∷ X) n refl in
    let s : (S ++ X) ++ (c ∷ []) ≡ r.seen ++ (transaction_ops number items sector rs ++ (c ∷ [])) =
    ap (λ l. l ++ (c ∷ [])) (append_assoc r.seen (o ∷ []) X) ∙ append_assoc r.seen (o ∷ X) (c ∷ []) in
    ap (λ z. read_ops d L bank sector b 0 (3 + length rs) z) (is_clean r e)
    ∙ ap (λ i. read_ops d L bank sector b 0 i (clean r)) k
    ∙ ap (λ z. z >>= λ p. step d L bank p (clean r) >>= λ w. read_ops d L bank sector b (after_op p) (length (F ∷ rs) + 1) w) found
    ∙ body.0
    ∙ ap (λ z. z >>= λ p. step d L bank p R >>= λ w. read_ops d L bank sector b (after_op p) 0 w) last
    ∙ ap (λ t. ends d L bank c (cond t (Some 0) None) R >>= λ w. Ok w) (eq-eqb number number refl)
    ∙ bind_ok (committed d L bank c (regions_of number (drop n (S ++ X))) D)
    ∙ ap (λ l. committed d L bank c (regions_of number l) D) q
    ∙ ap (λ l. committed d L bank c l D) (regions_found number sector 12 (F ∷ rs))
    ∙ ended_read d L bank sector number items rs D low
    ∙ ap (λ l. items_after 0 (located sector 40 rs) >>= λ is.
    check_all reading d L bank (replay_order bank is) r.book >>= λ bk.
    Ok (joins bank (located sector 40 rs) (replay_order bank is) bk
    (record { records = r.records; seen = l; pending = []; done = r.done; book = r.book }))) s
