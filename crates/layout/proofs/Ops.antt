-- A record's ops read at its place are those read at no place. Assumes nothing.
use Rattle.std.proofs.Common.{◌≡◌, ℕ, zero, suc, ◌+◌, Bool, true, false, cond, not, ◌&&◌, ◌||◌, eqb, ltb, leb, ◌⊎◌, List, [], ◌∷◌, ◌++◌, map, length, get_or, drop, set, Some, None, Ok, Err, Option, sym, refl, ap, ◌∙◌, subst, inl, inr, arith}
use mathlib.Core.Bool.{beq}
use Rattle.std.specs.List.{AllByRecursion}
use Rattle.std.proofs.lemmas.List.{map-append, length-map}
use Rattle.codec.specs.Fields.{be32, part, le32}
use Rattle.device.specs.State.{DevState, Sector, sector_at, holds, unreadable}
use Rattle.device.specs.Steps.{fault, readable, read}
use Rattle.device.specs.declared.fault.Cause.TheVariants.{Unreadable, Beyond}
use Rattle.keys.specs.Keys.{place_of}
use Rattle.label.specs.declared.label.Label.{Label}
use Rattle.item.specs.Meaning.{Meaning, malformed, patch, cancel, opens, closes, Bank}
use Rattle.model.specs.Refusals.{refusal, by_transaction, by_item, Outcome, ◌>>=◌, need, device_refusal, from_device}
use Rattle.model.specs.Items.{Region, Item, Book, items_after, replay_order, check, check_all, reading, without, Verdict, unknown, too_large, means, verdict, meant, in_bounds, covered, all_readable, present, key_place, intent_place, with_key, with_intent, closed_for}
use Rattle.model.specs.Ops.{Sort, start, commit, region, idle, Op, sort_of, sorted, op_at, after_op}
use Rattle.model.specs.Reading.{Open, Transaction, Reading, saw, begins, goes_on, later_parts, regions_of, heads, joins, committed, bad, pending_at, starts, brings, ends, by_sort, step, read_ops}
use Rattle.model.specs.Laws.{meanings}
use Rattle.model.proofs.Outcomes.{need_ok, bind_ok, device_ok}
use Rattle.model.proofs.Checked.{plain_verdict, order_same, meant_all}
use Rattle.life.specs.Disk.{Whole}
use Rattle.life.specs.Calls.{Readable}
use Rattle.life.proofs.Lists.{all_both}
use Rattle.layout.specs.Read.{clean, asked}
use Rattle.layout.specs.Chains.{Three, Full}
use Rattle.layout.proofs.Items.{items_on}
use Rattle.layout.proofs.More.{ok_same}

-- Ops but for their places.

-- an op without its place
pub record Bare : Type 0 where
  pub number : ℕ
  pub sort : Sort
  pub bytes : List ℕ

abbrev pub bare : Op → Bare
bare o = record { number = o.number; sort = o.sort; bytes = o.bytes }

-- a reading with other places for the ops that it has seen
abbrev pub dressed : Reading → List Op → Reading
dressed r os = record { records = r.records; seen = os; pending = r.pending; done = r.done; book = r.book }

-- m is the reading q, but for places
abbrev pub On : Outcome Reading → Reading → Type 0
On m q = (os : List Op) × (m ≡ Ok (dressed q os)) × (map bare os ≡ map bare q.seen)

-- the same op at another place
op_on : (s s' : ℕ) (b : List ℕ) (at : ℕ) (o' : Op) → op_at s' b at ≡ Ok o' → (o : Op) × (op_at s b at ≡ Ok o) × (bare o ≡ bare o') × (after_op o ≡ after_op o')
op_on s s' b at o' e =
    go (leb (at + 12) (length b) && leb (at + 12 + be32 b (at + 4)) (length b)) (sort_of (get_or b (at + 8) 0) (get_or b (at + 9) 0) (part (at + 12) (be32 b (at + 4)) b)) e
  where
    go : (t : Bool) (q : Option Sort) →
        (need t (refusal 10 by_transaction s' at) >>= λ _. sorted q (be32 b at) (part (at + 12) (be32 b (at + 4)) b) s' at) ≡ Ok o' →
        (o : Op) × ((need t (refusal 10 by_transaction s at) >>= λ _. sorted q (be32 b at) (part (at + 12) (be32 b (at + 4)) b) s at) ≡ Ok o) × (bare o ≡ bare o') × (after_op o ≡ after_op o')
    go false q e = let z : ◌≡◌ {A = ℕ} 0 1 = cc in let y : ⊥ = omega arith in elim y [ ]
    go true None e = let z : ◌≡◌ {A = ℕ} 0 1 = cc in let y : ⊥ = omega arith in elim y [ ]
    go true (Some k) e =
        let x : Op = record { number = be32 b at; sort = k; bytes = part (at + 12) (be32 b (at + 4)) b; sector = s'; byte = at } in
        let q : x ≡ o' = ok_same x o' e in
        (record { number = be32 b at; sort = k; bytes = part (at + 12) (be32 b (at + 4)) b; sector = s; byte = at }, refl, ap bare q, ap after_op q)

-- The regions of a transaction, from its ops without places.

abbrev parts_in : ℕ → List Bare → List ℕ
parts_in n [] = []
parts_in n (o ∷ os) = cond (goes_on o.sort && eqb o.number n) o.bytes [] ++ cond (begins o.sort && eqb o.number n) [] (parts_in n os)

abbrev regions_in : ℕ → List Bare → List (List ℕ)
regions_in n [] = []
regions_in n (o ∷ os) = cond (begins o.sort && eqb o.number n) ((o.bytes ++ parts_in n os) ∷ []) [] ++ regions_in n os

parts_bare : (n : ℕ) (os : List Op) → later_parts n os ≡ parts_in n (map bare os)
parts_bare n [] = refl
parts_bare n (o ∷ os) =
    ap (λ l. cond (goes_on o.sort && eqb o.number n) o.bytes [] ++ cond (begins o.sort && eqb o.number n) [] l) (parts_bare n os)

regions_bare : (n : ℕ) (os : List Op) → map (λ x. x.bytes) (regions_of n os) ≡ regions_in n (map bare os)
regions_bare n [] = refl
regions_bare n (o ∷ os) = go (begins o.sort && eqb o.number n) (parts_bare n os) (regions_bare n os)
  where
    go : (t : Bool) → later_parts n os ≡ parts_in n (map bare os) → map (λ (x : Region). x.bytes) (regions_of n os) ≡ regions_in n (map bare os) → map (λ (x : Region). x.bytes) (cond t (record { bytes = o.bytes ++ later_parts n os; sector = o.sector; byte = o.byte } ∷ []) [] ++ regions_of n os)
        ≡ cond t ((o.bytes ++ parts_in n (map bare os)) ∷ []) [] ++ regions_in n (map bare os)
    go true p q =
        ap (λ l. (o.bytes ++ l) ∷ map (λ (x : Region). x.bytes) (regions_of n os)) p
        ∙ ap (λ l. (o.bytes ++ parts_in n (map bare os)) ∷ l) q
    go false p q = q

drop_bare : (k : ℕ) (os os' : List Op) → map bare os ≡ map bare os' → map bare (drop k os) ≡ map bare (drop k os')
drop_bare zero os os' e = e
drop_bare (suc k) [] [] e = e
drop_bare (suc k) [] (o ∷ os) e = let z : ◌≡◌ {A = ℕ} 0 1 = cc in let y : ⊥ = omega arith in elim y [ ]
drop_bare (suc k) (o ∷ os) [] e = let z : ◌≡◌ {A = ℕ} 0 1 = cc in let y : ⊥ = omega arith in elim y [ ]
drop_bare (suc k) (o ∷ os) (p ∷ ps) e = drop_bare k os ps cc

regions_on : (n k : ℕ) (os os' : List Op) → map bare os ≡ map bare os' →
    map (λ (x : Region). x.bytes) (regions_of n (drop k os)) ≡ map (λ (x : Region). x.bytes) (regions_of n (drop k os'))
regions_on n k os os' e = regions_bare n (drop k os) ∙ ap (regions_in n) (drop_bare k os os' e) ∙ sym (regions_bare n (drop k os'))

-- The head of a transaction.

abbrev heads_in : ℕ → List (List ℕ) → Bool
heads_in n [] = false
heads_in n (b ∷ bs) = eqb (length b) 16 && eqb (le32 b 0) 0x5452414E && eqb (le32 b 8) n

heads_bare : (n : ℕ) (rs : List Region) → heads n rs ≡ heads_in n (map (λ x. x.bytes) rs)
heads_bare n [] = refl
heads_bare n (r ∷ rs) = refl

drop_one : (rs : List Region) → map (λ x. x.bytes) (drop 1 rs) ≡ drop 1 (map (λ x. x.bytes) rs)
drop_one [] = refl
drop_one (r ∷ rs) = refl

-- Checks on a volume of which some sectors cannot be read.

three_on : {A B : Type 0} (m : Outcome A) (f : A → Outcome B) → Three m → Three (m >>= f)
three_on m f t = (t.0, ap (λ x. x >>= f) t.1, t.2)

-- the same outcome
three_same : {A : Type 0} (m m' : Outcome A) → m ≡ m' → Three m' → Three m
three_same m m' e t = (t.0, e ∙ t.1, t.2)

reads_either : (d : DevState) (n : ℕ) → d.size ≡ n → Full d → (is : List ℕ) → all_readable (clean n) is ≡ Ok tt →
    ((all_readable d is ≡ Ok tt) × AllByRecursion (λ i. Whole (sector_at d i)) is) ⊎ Three (all_readable d is)
reads_either d n q full [] e = inl (refl, tt)
reads_either d n q full (i ∷ is) e =
    let x = bind_ok (from_device (read (clean n) i)) (λ _. all_readable (clean n) is) tt e in
    let t : ltb i n ≡ true = inside (ltb i n) x.0 (device_ok (read (clean n) i) x.0 x.1) in
    let r : read d i ≡ readable i (sector_at d i) =
    ap (λ z. cond (ltb i z) (readable i (sector_at d i)) (Err (fault Beyond i))) q ∙ ap (λ z. cond z (readable i (sector_at d i)) (Err (fault Beyond i))) t in
    go (sector_at d i) refl r (reads_either d n q full is x.2)
  where
    inside : (t : Bool) (b : List ℕ) → cond t (readable i (sector_at (clean n) i)) (Err (fault Beyond i)) ≡ Ok b → t ≡ true
    inside true b e = refl
    inside false b e = cc

    N : List ℕ → Outcome (Unit {0})
    N _ = all_readable d is

    next : (b : List ℕ) → sector_at d i ≡ holds b → read d i ≡ Ok b → ((all_readable d is ≡ Ok tt) × AllByRecursion (λ i. Whole (sector_at d i)) is) ⊎ Three (all_readable d is) →
        ((all_readable d (i ∷ is) ≡ Ok tt) × AllByRecursion (λ i. Whole (sector_at d i)) (i ∷ is)) ⊎ Three (all_readable d (i ∷ is))
    next b h r (inl a) = inl (ap (λ z. from_device z >>= λ _. all_readable d is) r ∙ a.0, ((b, h, full i b h), a.1))
    next b h r (inr a) = inr (a.0, ap (λ z. from_device z >>= λ _. all_readable d is) r ∙ a.1, a.2)

    go : (s : Sector) → sector_at d i ≡ s → read d i ≡ readable i (sector_at d i) → ((all_readable d is ≡ Ok tt) × AllByRecursion (λ i. Whole (sector_at d i)) is) ⊎ Three (all_readable d is) →
        ((all_readable d (i ∷ is) ≡ Ok tt) × AllByRecursion (λ i. Whole (sector_at d i)) (i ∷ is)) ⊎ Three (all_readable d (i ∷ is))
    go (holds b) h r a = next b h (r ∙ ap (readable i) h) a
    go unreadable h r a =
        inr (device_refusal (fault Unreadable i), ap (λ z. from_device z >>= λ _. all_readable d is) (r ∙ ap (readable i) h), refl)

module _ (d : DevState) (n : ℕ) (L : Label) (same : d.size ≡ n) (full : Full d) where
  -- an item that passes on a clean volume passes on this one, and what it covers can be read; or that is refused
  abbrev Checks : Verdict → Outcome Book → Book → Type 0
  Checks v m b = ((m ≡ Ok b) × Readable (sector_at d) (asked (meant v ∷ []))) ⊎ Three m

  check_on : (v : Verdict) (s y s' y' : ℕ) (b b' : Book) → check reading (clean n) L s' y' v b ≡ Ok b' → Checks v (check reading d L s y v b) b'
  check_on unknown s y s' y' b b' e = let z : ◌≡◌ {A = ℕ} 0 1 = cc in let y : ⊥ = omega arith in elim y [ ]
  check_on too_large s y s' y' b b' e = let z : ◌≡◌ {A = ℕ} 0 1 = cc in let y : ⊥ = omega arith in elim y [ ]
  check_on (means early malformed) s y s' y' b b' e = let z : ◌≡◌ {A = ℕ} 0 1 = cc in let y : ⊥ = omega arith in elim y [ ]
  check_on (means early (patch k c)) s y s' y' b b' e =
      let p = need_ok (in_bounds L n k.sector k.length) (refusal 13 by_item s' y') (λ _. all_readable (clean n) (covered k c) >>= λ _. Ok b) b' e in
      let x = bind_ok (all_readable (clean n) (covered k c)) (λ _. Ok b) b' p.1 in
      let f : check reading d L s y (means early (patch k c)) b ≡ (all_readable d (covered k c) >>= λ _. Ok b) =
      ap (λ z. need (in_bounds L z k.sector k.length) (refusal 13 by_item s y) >>= λ _. all_readable d (covered k c) >>= λ _. Ok b) same
      ∙ ap (λ z. need z (refusal 13 by_item s y) >>= λ _. all_readable d (covered k c) >>= λ _. Ok b) p.0 in
      go f x.2 (reads_either d n same full (covered k c) x.1)
    where
      go : check reading d L s y (means early (patch k c)) b ≡ (all_readable d (covered k c) >>= λ _. Ok b) → ◌≡◌ {A = Outcome Book} (Ok b) (Ok b') →
          ((all_readable d (covered k c) ≡ Ok tt) × AllByRecursion (λ i. Whole (sector_at d i)) (covered k c)) ⊎ Three (all_readable d (covered k c)) →
          Checks (means early (patch k c)) (check reading d L s y (means early (patch k c)) b) b'
      go f g (inl a) = inl (f ∙ ap (λ z. z >>= λ _. Ok b) a.0 ∙ g, (a.1, tt))
      go f g (inr a) = inr (three_same (check reading d L s y (means early (patch k c)) b) (all_readable d (covered k c) >>= λ _. Ok b) f
          (three_on (all_readable d (covered k c)) (λ _. Ok b) a))
  check_on (means early (cancel k)) s y s' y' b b' e =
      let p = need_ok (present (key_place k b) || ltb (length b.keys) 256) (refusal 14 by_transaction s' y')
      (λ _. need (in_bounds L n k.sector k.length) (refusal 13 by_item s' y') >>= λ _. Ok (with_key k b)) b' e in
      let x = need_ok (in_bounds L n k.sector k.length) (refusal 13 by_item s' y') (λ _. Ok (with_key k b)) b' p.1 in
      inl (
        ap (λ z. need (present (key_place k b) || ltb (length b.keys) 256) (refusal 14 by_transaction s y) >>= λ _. need (in_bounds L z k.sector k.length) (refusal 13 by_item s y) >>= λ _. Ok (with_key k b)) same
            ∙ ap (λ z. need z (refusal 14 by_transaction s y) >>= λ _. need (in_bounds L n k.sector k.length) (refusal 13 by_item s y) >>= λ _. Ok (with_key k b)) p.0
            ∙ ap (λ z. need z (refusal 13 by_item s y) >>= λ _. Ok (with_key k b)) x.0
            ∙ x.1,
        (tt, tt),
      )
  check_on (means early (opens i)) s y s' y' b b' e =
      let p = need_ok (not (present (intent_place i b))) (refusal 15 by_item s' y') (λ _. need (ltb (length b.intents) 64) (refusal 14 by_transaction s' y') >>= λ _. Ok (with_intent i b)) b' e in
      let x = need_ok (ltb (length b.intents) 64) (refusal 14 by_transaction s' y') (λ _. Ok (with_intent i b)) b' p.1 in
      inl (
        ap (λ z. need z (refusal 15 by_item s y) >>= λ _. need (ltb (length b.intents) 64) (refusal 14 by_transaction s y) >>= λ _. Ok (with_intent i b)) p.0
            ∙ ap (λ z. need z (refusal 14 by_transaction s y) >>= λ _. Ok (with_intent i b)) x.0
            ∙ x.1,
        (tt, tt),
      )
  check_on (means early (closes i)) s y s' y' b b' e = inl (go (intent_place i b) e, (tt, tt))
    where
      go : (p : Option ℕ) → closed_for reading (refusal 15 by_item s' y') p b ≡ Ok b' → closed_for reading (refusal 15 by_item s y) p b ≡ Ok b'
      go (Some j) e = e
      go None e = e

  -- the first of meanings, and the rest
  asked_joined : (m : Meaning) (ms : List Meaning) → Readable (sector_at d) (asked (m ∷ [])) → Readable (sector_at d) (asked ms) → Readable (sector_at d) (asked (m ∷ ms))
  asked_joined malformed ms a b = b
  asked_joined (patch k c) ms a b = (a.0, b)
  asked_joined (cancel k) ms a b = (a.0, b)
  asked_joined (opens i) ms a b = (a.0, b)
  asked_joined (closes i) ms a b = (a.0, b)

  checks_on : (bank : Bank) (is js : List Item) (b b' : Book) → map (verdict bank) js ≡ map (verdict bank) is → check_all reading (clean n) L bank js b ≡ Ok b' →
      ((check_all reading d L bank is b ≡ Ok b') × Readable (sector_at d) (asked (meanings bank js))) ⊎ Three (check_all reading d L bank is b)
  checks_on bank [] [] b b' q e = inl (e, tt)
  checks_on bank [] (j ∷ js) b b' q e = let z : ◌≡◌ {A = ℕ} 0 1 = cc in let y : ⊥ = omega arith in elim y [ ]
  checks_on bank (i ∷ is) [] b b' q e = let z : ◌≡◌ {A = ℕ} 0 1 = cc in let y : ⊥ = omega arith in elim y [ ]
  checks_on bank (i ∷ is) (j ∷ js) b b' q e =
      let v : verdict bank j ≡ verdict bank i = cc in
      let t : map (verdict bank) js ≡ map (verdict bank) is = cc in
      let x = bind_ok (check reading (clean n) L j.sector j.byte (verdict bank j) b) (λ c. check_all reading (clean n) L bank js c) b' e in
      let w : check_all reading d L bank (i ∷ is) b ≡ (check reading d L i.sector i.byte (verdict bank j) b >>= λ c. check_all reading d L bank is c) =
      ap (λ w. check reading d L i.sector i.byte w b >>= λ c. check_all reading d L bank is c) (sym v) in
      go x.0 w (check_on (verdict bank j) i.sector i.byte j.sector j.byte b x.0 x.1) (checks_on bank is js x.0 b' t x.2)
    where
      N : Book → Outcome Book
      N c = check_all reading d L bank is c

      M : Outcome Book
      M = check reading d L i.sector i.byte (verdict bank j) b

      go : (c : Book) → check_all reading d L bank (i ∷ is) b ≡ (check reading d L i.sector i.byte (verdict bank j) b >>= λ c. check_all reading d L bank is c) →
          Checks (verdict bank j) (check reading d L i.sector i.byte (verdict bank j) b) c →
          ((check_all reading d L bank is c ≡ Ok b') × Readable (sector_at d) (asked (meanings bank js))) ⊎ Three (check_all reading d L bank is c) →
          ((check_all reading d L bank (i ∷ is) b ≡ Ok b') × Readable (sector_at d) (asked (meanings bank (j ∷ js)))) ⊎ Three (check_all reading d L bank (i ∷ is) b)
      go c w (inl a) (inl k) = inl (w ∙ ap (λ z. z >>= λ c. check_all reading d L bank is c) a.0 ∙ k.0, asked_joined (meant (verdict bank j)) (meanings bank js) a.1 k.1)
      go c w (inl a) (inr k) = inr (k.0, w ∙ ap (λ z. z >>= λ c. check_all reading d L bank is c) a.0 ∙ k.1, k.2)
      go c w (inr a) k = inr (a.0, w ∙ ap (λ z. z >>= λ c. check_all reading d L bank is c) a.1, a.2)

  -- Steps.

  module _ (bank : Bank) where
    -- what a transaction covers can be read
    abbrev pub Clear : Transaction → Type 0
    Clear x = Readable (sector_at d) (asked x.items)

    -- where r has become q on a clean volume, m is q but for places, and what its transactions cover can be read if that is so of r; or m is refused because a
    -- covered sector cannot be read
    abbrev pub Comes : Outcome Reading → Reading → Reading → Type 0
    Comes m r q = (On m q × (AllByRecursion Clear r.done → AllByRecursion Clear q.done)) ⊎ Three m

    saw_on : (o o' : Op) (p : List Open) (r : Reading) (os : List Op) (q : Reading) → bare o ≡ bare o' → map bare os ≡ map bare r.seen →
        ◌≡◌ {A = Outcome Reading} (Ok (saw o' p r)) (Ok q) → On (Ok (saw o p (dressed r os))) q × (AllByRecursion Clear r.done → AllByRecursion Clear q.done)
    saw_on o o' p r os q f g e =
        let w : saw o' p r ≡ q = ok_same (saw o' p r) q e in (
          subst (λ (z : Reading). On (Ok (saw o p (dressed r os))) z) w
              (os ++ (o ∷ []), refl, map-append bare os (o ∷ []) ∙ ap (λ l. l ++ (bare o ∷ [])) g ∙ ap (λ x. map bare r.seen ++ (x ∷ [])) f ∙ sym (map-append bare r.seen (o' ∷ []))),
          λ a. subst (λ (z : Reading). AllByRecursion Clear z.done) w a,
        )

    committed_on : (o o' : Op) (rs rs' : List Region) (r : Reading) (os : List Op) (q : Reading) → bare o ≡ bare o' → map (λ x. x.bytes) rs ≡ map (λ x. x.bytes) rs' →
        map bare os ≡ map bare r.seen → committed (clean n) L bank o' rs' r ≡ Ok q → Comes (committed d L bank o rs (dressed r os)) r q
    committed_on o o' rs rs' r os q f g h e =
        let B : List Item → Book → Outcome Reading = λ is b. Ok (joins bank (drop 1 rs') (replay_order bank is) b r) in
        let A : List Item → Outcome Reading = λ is. check_all reading (clean n) L bank (replay_order bank is) r.book >>= λ b. B is b in
        let x = need_ok (heads o'.number rs') (refusal 10 by_transaction o'.sector o'.byte) (λ _. items_after 0 (drop 1 rs') >>= A) q e in
        let y = bind_ok (items_after 0 (drop 1 rs')) A q x.1 in
        let js : List Item = y.0 in
        let z = bind_ok (check_all reading (clean n) L bank (replay_order bank js) r.book) (B js) q y.2 in
        let b : Book = z.0 in
        let J : Reading = joins bank (drop 1 rs') (replay_order bank js) b r in
        let w : J ≡ q = ok_same J q z.2 in
        let g' : map (λ (x : Region). x.bytes) (drop 1 rs) ≡ map (λ (x : Region). x.bytes) (drop 1 rs') = drop_one rs ∙ ap (drop 1) g ∙ sym (drop_one rs') in
        let i = items_on (drop 1 rs') (drop 1 rs) 0 js (sym g') y.1 in
        let is : List Item = i.0 in
        let v : map (verdict bank) (replay_order bank js) ≡ map (verdict bank) (replay_order bank is) = order_same bank js is (plain_verdict bank js is i.2) in
        let m : meanings bank (replay_order bank is) ≡ meanings bank (replay_order bank js) =
        meant_all bank (replay_order bank is) ∙ ap (map meant) (sym v) ∙ sym (meant_all bank (replay_order bank js)) in
        let hd : heads o.number rs ≡ true =
        ap (λ (u : Bare). heads u.number rs) f ∙ heads_bare o'.number rs ∙ ap (heads_in o'.number) g ∙ sym (heads_bare o'.number rs') ∙ x.0 in
        let K : committed d L bank o rs (dressed r os) ≡ (check_all reading d L bank (replay_order bank is) r.book >>= λ b. Ok (joins bank (drop 1 rs) (replay_order bank is) b (dressed r os))) =
        ap (λ t. need t (refusal 10 by_transaction o.sector o.byte) >>= λ _. items_after 0 (drop 1 rs) >>= λ is.
        check_all reading d L bank (replay_order bank is) r.book >>= λ b. Ok (joins bank (drop 1 rs) (replay_order bank is) b (dressed r os))) hd
        ∙ ap (λ t. t >>= λ is. check_all reading d L bank (replay_order bank is) r.book >>= λ b. Ok (joins bank (drop 1 rs) (replay_order bank is) b (dressed r os))) i.1 in
        go js is b w g' m K (checks_on bank (replay_order bank is) (replay_order bank js) r.book b v z.1)
      where
        go : (js is : List Item) (b : Book) → joins bank (drop 1 rs') (replay_order bank js) b r ≡ q →
            map (λ (x : Region). x.bytes) (drop 1 rs) ≡ map (λ (x : Region). x.bytes) (drop 1 rs') →
            meanings bank (replay_order bank is) ≡ meanings bank (replay_order bank js) →
            committed d L bank o rs (dressed r os) ≡ (check_all reading d L bank (replay_order bank is) r.book >>= λ b. Ok (joins bank (drop 1 rs) (replay_order bank is) b (dressed r os))) →
            ((check_all reading d L bank (replay_order bank is) r.book ≡ Ok b) × Readable (sector_at d) (asked (meanings bank (replay_order bank js)))) ⊎ Three (check_all reading d L bank (replay_order bank is) r.book) →
            Comes (committed d L bank o rs (dressed r os)) r q
        go js is b w g' m K (inl k) =
            let D : List (List ℕ) → List Meaning → List Op → Reading = λ l ms os. record {
              records = r.records;
              seen = os;
              pending = r.pending;
              book = b;
              done = r.done ++ (record { regions = l; items = ms } ∷ []);
            } in
            let X : List Transaction = record { regions = map (λ (x : Region). x.bytes) (drop 1 rs'); items = meanings bank (replay_order bank js) } ∷ [] in
            inl (
              subst (λ (z : Reading). On (committed d L bank o rs (dressed r os)) z) w (
                os,
                K ∙ ap (λ t. t >>= λ b. Ok (joins bank (drop 1 rs) (replay_order bank is) b (dressed r os))) k.0
                    ∙ ap (λ l. Ok (D l (meanings bank (replay_order bank is)) os)) g'
                    ∙ ap (λ l. Ok (D (map (λ (x : Region). x.bytes) (drop 1 rs')) l os)) m,
                h,
              ),
              λ a. subst (λ (z : Reading). AllByRecursion Clear z.done) w (all_both Clear r.done X a (k.1, tt)),
            )
        go js is b w g' m K (inr k) =
            inr (three_same (committed d L bank o rs (dressed r os)) (check_all reading d L bank (replay_order bank is) r.book >>= λ b. Ok (joins bank (drop 1 rs) (replay_order bank is) b (dressed r os))) K
            (three_on (check_all reading d L bank (replay_order bank is) r.book) (λ b. Ok (joins bank (drop 1 rs) (replay_order bank is) b (dressed r os))) k))

    starts_on : (o o' : Op) (j : Option ℕ) (r : Reading) (os : List Op) (q : Reading) → bare o ≡ bare o' → map bare os ≡ map bare r.seen →
        starts o' j r ≡ Ok q → Comes (starts o j (dressed r os)) r q
    starts_on o o' (Some j) r os q f g e = let z : ◌≡◌ {A = ℕ} 0 1 = cc in let y : ⊥ = omega arith in elim y [ ]
    starts_on o o' None r os q f g e =
        let P : ℕ → ℕ → List Open = λ x l. r.pending ++ (record { number = x; from = l; parted = false } ∷ []) in
        let s : length os ≡ length r.seen = sym (length-map os bare) ∙ ap length g ∙ length-map r.seen bare in
        let p : P o.number (length os) ≡ P o'.number (length r.seen) = ap (λ (u : Bare). P u.number (length os)) f ∙ ap (P o'.number) s in
        let x = need_ok (ltb (length r.pending) 32) (refusal 14 by_transaction o'.sector o'.byte) (λ _. Ok (saw o' (P o'.number (length r.seen)) r)) q e in
        let k = saw_on o o' (P o'.number (length r.seen)) r os q f g x.1 in
        inl (
          (
            k.0.0,
            ap (λ t. need t (refusal 14 by_transaction o.sector o.byte) >>= λ _. Ok (saw o (P o.number (length os)) (dressed r os))) x.0
                ∙ ap (λ l. Ok (saw o l (dressed r os))) p ∙ k.0.1,
            k.0.2,
          ),
          k.1,
        )

    brings_on : (b c : Bool) (o o' : Op) (j : Option ℕ) (r : Reading) (os : List Op) (q : Reading) → bare o ≡ bare o' → map bare os ≡ map bare r.seen →
        brings b c o' j r ≡ Ok q → Comes (brings b c o j (dressed r os)) r q
    brings_on b c o o' None r os q f g e = inl (saw_on o o' r.pending r os q f g e)
    brings_on b c o o' (Some j) r os q f g e =
        let P : ℕ → List Open = λ x. set r.pending j (record { number = x; from = (pending_at j r).from; parted = not c }) in
        let p : P o.number ≡ P o'.number = ap (λ (u : Bare). P u.number) f in
        let x = need_ok (beq (pending_at j r).parted (not b)) (bad o') (λ _. Ok (saw o' (P o'.number) r)) q e in
        let k = saw_on o o' (P o'.number) r os q f g x.1 in
        inl (
          (
            k.0.0,
            ap (λ t. need t (bad o) >>= λ _. Ok (saw o (P o.number) (dressed r os))) x.0 ∙ ap (λ l. Ok (saw o l (dressed r os))) p ∙ k.0.1,
            k.0.2,
          ),
          k.1,
        )

    -- the same outcome
    pub comes_same : (m m' : Outcome Reading) (r q : Reading) → m ≡ m' → Comes m' r q → Comes m r q
    comes_same m m' r q e (inl k) = inl ((k.0.0, e ∙ k.0.1, k.0.2), k.1)
    comes_same m m' r q e (inr k) = inr (three_same m m' e k)

    ends_on : (o o' : Op) (j : Option ℕ) (r : Reading) (os : List Op) (q : Reading) → bare o ≡ bare o' → map bare os ≡ map bare r.seen →
        ends (clean n) L bank o' j r ≡ Ok q → Comes (ends d L bank o j (dressed r os)) r q
    ends_on o o' None r os q f g e = inl (saw_on o o' r.pending r os q f g e)
    ends_on o o' (Some j) r os q f g e =
        let l : ℕ = (pending_at j r).from in
        let w : List Open = without j r.pending in
        let rs : List Region = regions_of o.number (drop l os) in
        let rs' : List Region = regions_of o'.number (drop l r.seen) in
        let same-rs : map (λ (x : Region). x.bytes) rs ≡ map (λ (x : Region). x.bytes) rs' =
        ap (λ (u : Bare). map (λ (x : Region). x.bytes) (regions_of u.number (drop l os))) f ∙ regions_on o'.number l os r.seen g in
        let x = need_ok (not (pending_at j r).parted) (bad o') (λ _. committed (clean n) L bank o' rs' (saw o' w r)) q e in
        let g' : map bare (os ++ (o ∷ [])) ≡ map bare (r.seen ++ (o' ∷ [])) =
        map-append bare os (o ∷ []) ∙ ap (λ l. l ++ (bare o ∷ [])) g ∙ ap (λ x. map bare r.seen ++ (x ∷ [])) f ∙ sym (map-append bare r.seen (o' ∷ [])) in
        comes_same (ends d L bank o (Some j) (dressed r os)) (committed d L bank o rs (saw o w (dressed r os))) r q
        (ap (λ t. need t (bad o) >>= λ _. committed d L bank o rs (saw o w (dressed r os))) x.0)
        (committed_on o o' rs rs' (saw o' w r) (os ++ (o ∷ [])) q f same-rs g' x.1)

    sort_on : (s : Sort) (o o' : Op) (j : Option ℕ) (r : Reading) (os : List Op) (q : Reading) → bare o ≡ bare o' → map bare os ≡ map bare r.seen →
        by_sort (clean n) L bank o' s j r ≡ Ok q → Comes (by_sort d L bank o s j (dressed r os)) r q
    sort_on start o o' j r os q f g e = starts_on o o' j r os q f g e
    sort_on commit o o' j r os q f g e = ends_on o o' j r os q f g e
    sort_on (region b c) o o' j r os q f g e = brings_on b c o o' j r os q f g e
    sort_on idle o o' j r os q f g e = inl (saw_on o o' r.pending r os q f g e)

    step_on : (o o' : Op) (r : Reading) (os : List Op) (q : Reading) → bare o ≡ bare o' → map bare os ≡ map bare r.seen →
        step (clean n) L bank o' r ≡ Ok q → Comes (step d L bank o (dressed r os)) r q
    step_on o o' r os q f g e =
        comes_same (step d L bank o (dressed r os)) (by_sort d L bank o o'.sort (place_of (λ x. eqb x.number o'.number) r.pending) (dressed r os)) r q
        (ap (λ (u : Bare). by_sort d L bank o u.sort (place_of (λ (x : Open). eqb x.number u.number) r.pending) (dressed r os)) f)
        (sort_on o'.sort o o' (place_of (λ x. eqb x.number o'.number) r.pending) r os q f g e)

    -- ops that pass on a clean volume pass on this one, with the same outcome, or a covered sector cannot be read
    pub ops_on : (s : ℕ) (b : List ℕ) (from k : ℕ) (r : Reading) (os : List Op) (q : Reading) → map bare os ≡ map bare r.seen →
        read_ops (clean n) L bank 0 b from k r ≡ Ok q → Comes (read_ops d L bank s b from k (dressed r os)) r q
    ops_on s b from zero r os q g e =
        let w : r ≡ q = ok_same r q e in
        inl (subst (λ (z : Reading). On (Ok (dressed r os)) z) w (os, refl, g), λ a. subst (λ (z : Reading). AllByRecursion Clear z.done) w a)
    ops_on s b from (suc k) r os q g e =
        let B : Op → Reading → Outcome Reading = λ o z. read_ops (clean n) L bank 0 b (after_op o) k z in
        let x = bind_ok (op_at 0 b from) (λ o. step (clean n) L bank o r >>= B o) q e in
        let o' : Op = x.0 in
        let y = bind_ok (step (clean n) L bank o' r) (B o') q x.2 in
        let z : Reading = y.0 in
        let o = op_on s 0 b from o' x.1 in
        let K : read_ops d L bank s b from (suc k) (dressed r os) ≡ (step d L bank o.0 (dressed r os) >>= λ z. read_ops d L bank s b (after_op o') k z) =
        ap (λ u. u >>= λ o. step d L bank o (dressed r os) >>= λ z. read_ops d L bank s b (after_op o) k z) o.1
        ∙ ap (λ m. step d L bank o.0 (dressed r os) >>= λ z. read_ops d L bank s b m k z) o.3 in
        go o.0 o' z K (step_on o.0 o' r os z o.2 g y.1) (λ os h. ops_on s b (after_op o') k z os q h y.2)
      where
        go : (o o' : Op) (z : Reading) → read_ops d L bank s b from (suc k) (dressed r os) ≡ (step d L bank o (dressed r os) >>= λ z. read_ops d L bank s b (after_op o') k z) →
            Comes (step d L bank o (dressed r os)) r z →
            ((os : List Op) → map bare os ≡ map bare z.seen → Comes (read_ops d L bank s b (after_op o') k (dressed z os)) z q) →
            Comes (read_ops d L bank s b from (suc k) (dressed r os)) r q
        go o o' z K (inl t) ih = then (ih t.0.0 t.0.2)
          where
            then : Comes (read_ops d L bank s b (after_op o') k (dressed z t.0.0)) z q → Comes (read_ops d L bank s b from (suc k) (dressed r os)) r q
            then (inl i) = inl ((i.0.0, K ∙ ap (λ u. u >>= λ z. read_ops d L bank s b (after_op o') k z) t.0.1 ∙ i.0.1, i.0.2), λ a. i.1 (t.1 a))
            then (inr i) = inr (i.0, K ∙ ap (λ u. u >>= λ z. read_ops d L bank s b (after_op o') k z) t.0.1 ∙ i.1, i.2)
        go o o' z K (inr t) ih = inr (three_same (read_ops d L bank s b from (suc k) (dressed r os)) (step d L bank o (dressed r os) >>= λ z. read_ops d L bank s b (after_op o') k z) K
            (three_on (step d L bank o (dressed r os)) (λ z. read_ops d L bank s b (after_op o') k z) t))
