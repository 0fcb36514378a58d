-- Items that a commit accepts are accepted by a reading. Assumes nothing.
use Rattle.std.proofs.Common.{◌≡◌, ℕ, zero, suc, ◌+◌, ◌-◌, ◌<◌, ◌≤◌, Bool, true, false, cond, not, ◌&&◌, ◌||◌, eqb, ltb, leb, List, [], ◌∷◌, ◌++◌, map, length, take, ℤ, pos, negsuc, Some, None, Ok, Err, Option, sym, refl, ap, ◌∙◌, arith}
use Rattle.std.proofs.lemmas.List.{take-map, map-append, length-map}
use Rattle.std.proofs.lemmas.Bool.{and_parts, leb-true, lt-ltb}
use Rattle.std.proofs.ByRecursion.{All-append, All-map, All-weaker}
use Rattle.std.specs.List.{AllByRecursion}
use Rattle.model.specs.Refusals.{refusal, by_transaction, by_item, Outcome, ◌>>=◌, need, from_device}
use Rattle.codec.specs.Fields.{le16}
use Rattle.device.specs.State.{DevState, sector_at}
use Rattle.device.specs.Steps.{fault, readable}
use Rattle.device.specs.declared.fault.Cause.TheVariants.{Beyond}
use Rattle.label.specs.declared.label.Label.{Label}
use Rattle.keys.specs.declared.patch.PatchKey.{PatchKey}
use Rattle.item.specs.Meaning.{malformed, patch, cancel, opens, closes, Bank}
use Rattle.model.specs.Items.{Region, Item, item_of, framed, items_after, Verdict, unknown, too_large, means, verdict_of, verdict, group, in_group, replay_order, Book, present, key_place, intent_place, with_key, with_intent, in_bounds, gives_any, cover_of, covered_from, covered, first_sector, all_readable, reading, committing, readable_for, closed_for, check, check_all, meant}
use Rattle.model.specs.Calls.{placed}
use Rattle.model.specs.Laws.{AllReadable, located, meanings, ChecksAgain}

-- Each item.

below : (c : List (Option ℕ)) (k n : ℕ) → AllByRecursion (λ j. j < k + n) (covered_from c k n)
below c k zero = tt
below c k (suc n) =
    All-append (λ j. j < k + suc n) (cond (gives_any (cover_of c k)) (k ∷ []) []) (covered_from c (k + 1) n) (go (gives_any (cover_of c k)))
    (All-weaker (λ j. j < k + 1 + n) (λ j. j < k + suc n) (λ j h. omega arith) (covered_from c (k + 1) n) (below c (k + 1) n))
  where
    go : (t : Bool) → AllByRecursion (λ j. j < k + suc n) (cond t (k ∷ []) [])
    go true = (omega arith, tt)
    go false = tt

within : (L : Label) (size : ℕ) (z : ℤ) (n : ℕ) → in_bounds L size z n ≡ true → first_sector z + n ≤ size
within L size (pos m) n e = leb-true (m + n) size (and_parts (leb 1 m) (leb (m + n) size) (and_parts (leb 1 m && leb (m + n) size) (leb (m + n) L.start || leb (L.start + L.count) m) e).0).1
within L size (negsuc m) n e = let z : ◌≡◌ {A = ℕ} 0 1 = cc in omega arith

reads_all : (d : DevState) → AllReadable d → (is : List ℕ) → AllByRecursion (λ i. i < d.size) is → all_readable d is ≡ Ok tt
reads_all d f [] a = refl
reads_all d f (i ∷ is) a =
    ap (λ t. from_device (cond t (readable i (sector_at d i)) (Err (fault Beyond i))) >>= λ _. all_readable d is) (lt-ltb i d.size a.0)
    ∙ ap (λ x. from_device (readable i x) >>= λ _. all_readable d is) (f i a.0).1
    ∙ reads_all d f is a.1

abbrev cancel_in : PatchKey → Book → Bool → Bool → ℕ → ℕ → Outcome Book
cancel_in k b p q s y = need p (refusal 14 by_transaction s y) >>= λ _. need q (refusal 13 by_item s y) >>= λ _. Ok (with_key k b)

abbrev open_in : ℕ → Book → Bool → Bool → ℕ → ℕ → Outcome Book
open_in i b p q s y = need p (refusal 15 by_item s y) >>= λ _. need q (refusal 14 by_transaction s y) >>= λ _. Ok (with_intent i b)

module _ (d d' : DevState) (L : Label) (same : d.size ≡ d'.size) (f : AllReadable d') where
  check_one : (v : Verdict) (s y s' y' : ℕ) (b b' : Book) → check committing d L s y v b ≡ Ok b' → check reading d' L s' y' v b ≡ Ok b'
  check_one unknown s y s' y' b b' e = cc
  check_one too_large s y s' y' b b' e = cc
  check_one (means early malformed) s y s' y' b b' e = cc
  check_one (means early (patch k c)) s y s' y' b b' e = go (in_bounds L d.size k.sector k.length) refl e
    where
      go : (t : Bool) → in_bounds L d.size k.sector k.length ≡ t → (need t (refusal 13 by_item s y) >>= λ _. readable_for committing d (covered k c) >>= λ _. Ok b) ≡ Ok b' →
          check reading d' L s' y' (means early (patch k c)) b ≡ Ok b'
      go false q e = cc
      go true q e =
          let q' : in_bounds L d'.size k.sector k.length ≡ true = ap (λ n. in_bounds L n k.sector k.length) (sym same) ∙ q in
          let w : first_sector k.sector + k.length ≤ d'.size = within L d'.size k.sector k.length q' in
          let a : AllByRecursion (λ i. i < d'.size) (covered k c) =
          All-map (λ i. i < d'.size) (λ j. first_sector k.sector + j) (covered_from c 0 k.length)
          (All-weaker (λ j. j < 0 + k.length) (λ j. first_sector k.sector + j < d'.size) (λ j h. omega arith) (covered_from c 0 k.length) (below c 0 k.length)) in
          ap (λ t. need t (refusal 13 by_item s' y') >>= λ _. all_readable d' (covered k c) >>= λ _. Ok b) q'
          ∙ ap (λ x. x >>= λ _. Ok b) (reads_all d' f (covered k c) a) ∙ e
  check_one (means early (cancel k)) s y s' y' b b' e =
      ap (λ n. cancel_in k b (present (key_place k b) || ltb (length b.keys) 256) (in_bounds L n k.sector k.length) s' y') (sym same)
      ∙ go (present (key_place k b) || ltb (length b.keys) 256) (in_bounds L d.size k.sector k.length) e
    where
      go : (p q : Bool) → cancel_in k b p q s y ≡ Ok b' → cancel_in k b p q s' y' ≡ Ok b'
      go true true e = e
      go true false e = cc
      go false q e = cc
  check_one (means early (opens i)) s y s' y' b b' e = go (not (present (intent_place i b))) (ltb (length b.intents) 64) e
    where
      go : (p q : Bool) → open_in i b p q s y ≡ Ok b' → open_in i b p q s' y' ≡ Ok b'
      go true true e = e
      go true false e = cc
      go false q e = cc
  check_one (means early (closes i)) s y s' y' b b' e = go (intent_place i b) e
    where
      go : (p : Option ℕ) → closed_for committing (refusal 15 by_item s y) p b ≡ Ok b' → closed_for reading (refusal 15 by_item s' y') p b ≡ Ok b'
      go (Some j) e = e
      go None e = cc

  check_many : (bank : Bank) (is js : List Item) (b b' : Book) → map (verdict bank) is ≡ map (verdict bank) js →
      check_all committing d L bank is b ≡ Ok b' → check_all reading d' L bank js b ≡ Ok b'
  check_many bank [] [] b b' q e = e
  check_many bank [] (j ∷ js) b b' q e = let z : ◌≡◌ {A = ℕ} 0 1 = cc in let x : ⊥ = omega arith in elim x [ ]
  check_many bank (i ∷ is) [] b b' q e = let z : ◌≡◌ {A = ℕ} 0 1 = cc in let x : ⊥ = omega arith in elim x [ ]
  check_many bank (i ∷ is) (j ∷ js) b b' q e =
      let v : verdict bank i ≡ verdict bank j = cc in
      let t : map (verdict bank) is ≡ map (verdict bank) js = cc in
      ap (λ w. check reading d' L j.sector j.byte w b >>= λ c. check_all reading d' L bank js c) (sym v)
      ∙ go (check committing d L i.sector i.byte (verdict bank i) b) refl e (λ c. check_many bank is js c b' t)
    where
      go : (x : Outcome Book) → check committing d L i.sector i.byte (verdict bank i) b ≡ x → (x >>= λ c. check_all committing d L bank is c) ≡ Ok b' →
          ((c : Book) → check_all committing d L bank is c ≡ Ok b' → check_all reading d' L bank js c ≡ Ok b') →
          (check reading d' L j.sector j.byte (verdict bank i) b >>= λ c. check_all reading d' L bank js c) ≡ Ok b'
      go (Err r) p e ih = cc
      go (Ok c) p e ih =
          ap (λ x. x >>= λ c. check_all reading d' L bank js c) (check_one (verdict bank i) i.sector i.byte j.sector j.byte b c p) ∙ ih c e

-- The order.

in_group_same : (bank : Bank) (g : ℕ) (is js : List Item) → map (verdict bank) is ≡ map (verdict bank) js →
    map (verdict bank) (in_group bank g is) ≡ map (verdict bank) (in_group bank g js)
in_group_same bank g [] [] q = refl
in_group_same bank g [] (j ∷ js) q = let z : ◌≡◌ {A = ℕ} 0 1 = cc in let x : ⊥ = omega arith in elim x [ ]
in_group_same bank g (i ∷ is) [] q = let z : ◌≡◌ {A = ℕ} 0 1 = cc in let x : ⊥ = omega arith in elim x [ ]
in_group_same bank g (i ∷ is) (j ∷ js) q =
    let v : verdict bank i ≡ verdict bank j = cc in
    let t : map (verdict bank) is ≡ map (verdict bank) js = cc in
    let V : Verdict → List Verdict = λ w. cond (eqb (group w) g) (w ∷ []) [] in
    head i is ∙ ap (λ w. V w ++ map (verdict bank) (in_group bank g is)) v
    ∙ ap (λ l. V (verdict bank j) ++ l) (in_group_same bank g is js t) ∙ sym (head j js)
  where
    head : (i : Item) (is : List Item) → map (verdict bank) (in_group bank g (i ∷ is))
        ≡ cond (eqb (group (verdict bank i)) g) (verdict bank i ∷ []) [] ++ map (verdict bank) (in_group bank g is)
    head i is = go (eqb (group (verdict bank i)) g)
      where
        go : (t : Bool) → map (verdict bank) (cond t (i ∷ []) [] ++ in_group bank g is) ≡ cond t (verdict bank i ∷ []) [] ++ map (verdict bank) (in_group bank g is)
        go true = refl
        go false = refl

pub order_same : (bank : Bank) (is js : List Item) → map (verdict bank) is ≡ map (verdict bank) js →
    map (verdict bank) (replay_order bank is) ≡ map (verdict bank) (replay_order bank js)
order_same bank is js q =
    let V : List Item → List Verdict = map (verdict bank) in
    split is
    ∙ ap (λ l. (l ++ V (in_group bank 1 is)) ++ V (in_group bank 2 is)) (in_group_same bank 0 is js q)
    ∙ ap (λ l. (V (in_group bank 0 js) ++ l) ++ V (in_group bank 2 is)) (in_group_same bank 1 is js q)
    ∙ ap (λ l. (V (in_group bank 0 js) ++ V (in_group bank 1 js)) ++ l) (in_group_same bank 2 is js q)
    ∙ sym (split js)
  where
    split : (is : List Item) → map (verdict bank) (replay_order bank is)
        ≡ (map (verdict bank) (in_group bank 0 is) ++ map (verdict bank) (in_group bank 1 is)) ++ map (verdict bank) (in_group bank 2 is)
    split is = map-append (verdict bank) (in_group bank 0 is ++ in_group bank 1 is) (in_group bank 2 is)
        ∙ ap (λ l. l ++ map (verdict bank) (in_group bank 2 is)) (map-append (verdict bank) (in_group bank 0 is) (in_group bank 1 is))

pub meant_all : (bank : Bank) (is : List Item) → meanings bank is ≡ map meant (map (verdict bank) is)
meant_all bank [] = refl
meant_all bank (i ∷ is) = ap (λ l. meant (verdict bank i) ∷ l) (meant_all bank is)

-- The items of the same regions at other places.

pub same_bytes : (s k s' at : ℕ) (rs : List (List ℕ)) → (map (λ r. r.bytes) (placed s k rs) ≡ rs) × (map (λ r. r.bytes) (located s' at rs) ≡ rs)
same_bytes s k s' at [] = (refl, refl)
same_bytes s k s' at (r ∷ rs) =
    (ap (λ l. r ∷ l) (same_bytes s (suc k) s' (at + 12 + length r) rs).0, ap (λ l. r ∷ l) (same_bytes s (suc k) s' (at + 12 + length r) rs).1)

-- an item's type and regions are all that a bank looks at
abbrev pub plain : Item → ℕ × List (List ℕ)
plain i = (i.type, i.regions)

pub plain_verdict : (bank : Bank) (is js : List Item) → map plain is ≡ map plain js → map (verdict bank) is ≡ map (verdict bank) js
plain_verdict bank is js q = over is ∙ ap (map (λ (p : ℕ × List (List ℕ)). verdict_of (bank p.0) p.1)) q ∙ sym (over js)
  where
    over : (is : List Item) → map (verdict bank) is ≡ map (λ (p : ℕ × List (List ℕ)). verdict_of (bank p.0) p.1) (map plain is)
    over [] = refl
    over (i ∷ is) = ap (λ l. verdict bank i ∷ l) (over is)

-- the items found among regions are those of `is` but for their places
abbrev pub Alike : ℕ → List Region → List Item → Type 0
Alike skip qs is = (js : List Item) × (items_after skip qs ≡ Ok js) × (map plain is ≡ map plain js)

module _ (r : List ℕ) (A B : Region) (p : A.bytes ≡ r) (q : B.bytes ≡ r) (P Q : List Region) (rs : List (List ℕ))
    (same-P : map (λ x. x.bytes) P ≡ rs) (same-Q : map (λ x. x.bytes) Q ≡ rs) where
  lengths : length P ≡ length Q
  lengths = sym (length-map P (λ x. x.bytes)) ∙ ap length (same-P ∙ sym same-Q) ∙ length-map Q (λ x. x.bytes)

  abbrev frames : List ℕ → ℕ → Bool
  frames r n = leb 4 (length r) && leb 1 (le16 r 2) && leb (le16 r 2) (suc n)

  frames_same : framed A (A ∷ P) ≡ framed B (B ∷ Q)
  frames_same = ap (λ l. frames l (length P)) (p ∙ sym q) ∙ ap (frames B.bytes) lengths

  abbrev item_over : Region → List Region → Item
  item_over A P = item_of A (take (le16 A.bytes 2) (A ∷ P))

  plain_same : plain (item_over A P) ≡ plain (item_over B Q)
  plain_same =
      let f : Region → List ℕ = λ x. x.bytes in
      let k : ℕ → List ℕ → List (List ℕ) → ℕ × List (List ℕ) = λ n b l. (le16 b 0, take n l) in
      let a : map f (A ∷ P) ≡ map f (B ∷ Q) = ap (λ b. b ∷ map f P) (p ∙ sym q) ∙ ap (λ l. B.bytes ∷ l) (same-P ∙ sym same-Q) in
      ap (λ l. let x : ℕ × List (List ℕ) = (le16 A.bytes 0, l) in x) (sym (take-map f (le16 A.bytes 2) (A ∷ P)))
      ∙ ap (λ b. k (le16 b 2) b (map f (A ∷ P))) (p ∙ sym q)
      ∙ ap (k (le16 B.bytes 2) B.bytes) a
      ∙ ap (λ l. let x : ℕ × List (List ℕ) = (le16 B.bytes 0, l) in x) (take-map f (le16 B.bytes 2) (B ∷ Q))

  pub first_again : (is : List Item) → ((is' : List Item) → items_after (le16 A.bytes 2 - 1) P ≡ Ok is' → Alike (le16 A.bytes 2 - 1) Q is') →
      items_after 0 (A ∷ P) ≡ Ok is → Alike 0 (B ∷ Q) is
  first_again is ih e = go (framed A (A ∷ P)) refl (items_after (le16 A.bytes 2 - 1) P) refl e
    where
      go : (t : Bool) → framed A (A ∷ P) ≡ t → (x : Outcome (List Item)) → items_after (le16 A.bytes 2 - 1) P ≡ x →
          (need t (refusal 10 by_transaction A.sector A.byte) >>= λ _. x >>= λ js. Ok (item_over A P ∷ js)) ≡ Ok is → Alike 0 (B ∷ Q) is
      go false u x w e = let z : ◌≡◌ {A = ℕ} 0 1 = cc in let y : ⊥ = omega arith in elim y [ ]
      go true u (Err x) w e = let z : ◌≡◌ {A = ℕ} 0 1 = cc in let y : ⊥ = omega arith in elim y [ ]
      go true u (Ok is') w e =
          let h = ih is' w in
          let c : le16 A.bytes 2 - 1 ≡ le16 B.bytes 2 - 1 = ap (λ b. le16 b 2 - 1) (p ∙ sym q) in
          let m : item_over A P ∷ is' ≡ is = cc in (
            item_over B Q ∷ h.0,
            ap (λ t. need t (refusal 10 by_transaction B.sector B.byte) >>= λ _. items_after (le16 B.bytes 2 - 1) Q >>= λ js. Ok (item_over B Q ∷ js)) (sym frames_same ∙ u)
                ∙ ap (λ x. x >>= λ js. Ok (item_over B Q ∷ js)) (ap (λ n. items_after n Q) (sym c) ∙ h.1),
            ap (map plain) (sym m) ∙ ap (λ y. y ∷ map plain is') plain_same ∙ ap (λ l. plain (item_over B Q) ∷ l) h.2,
          )

items_again : (rs : List (List ℕ)) (skip s k s' at : ℕ) (is : List Item) → items_after skip (placed s k rs) ≡ Ok is → Alike skip (located s' at rs) is
items_again [] skip s k s' at is e = (is, e, refl)
items_again (r ∷ rs) (suc j) s k s' at is e = items_again rs j s (suc k) s' (at + 12 + length r) is e
items_again (r ∷ rs) zero s k s' at is e =
    first_again r (record { bytes = r; sector = s; byte = k }) (record { bytes = r; sector = s'; byte = at }) refl refl
    (placed s (suc k) rs) (located s' (at + 12 + length r) rs) rs
    (same_bytes s (suc k) s' (at + 12 + length r) rs).0 (same_bytes s (suc k) s' (at + 12 + length r) rs).1
    is (λ is' w. items_again rs (le16 r 2 - 1) s (suc k) s' (at + 12 + length r) is' w) e

pub checks_again : ChecksAgain
checks_again d d' L bank rs s s' byte' is b b' same f e c =
    let h = items_again rs 0 s 0 s' byte' is e in
    let v = order_same bank is h.0 (plain_verdict bank is h.0 h.2) in (
      h.0,
      h.1,
      check_many d d' L same f bank (replay_order bank is) (replay_order bank h.0) b b' v c,
      meant_all bank (replay_order bank h.0) ∙ ap (map meant) (sym v) ∙ sym (meant_all bank (replay_order bank is)),
    )
