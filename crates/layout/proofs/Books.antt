-- The book of a reading lists just the intents that its items leave open. Assumes nothing.
use Rattle.std.proofs.Common.{◌≡◌, ℕ, suc, Bool, true, false, cond, not, ◌||◌, eqb, ltb, List, [], ◌∷◌, ◌++◌, map, length, drop, Some, None, Ok, Err, Option, sym, refl, ap, ◌∙◌, subst, inl, inr, arith}
use Rattle.std.proofs.lemmas.List.{append-nil, append_assoc}
use Rattle.std.proofs.lemmas.Bool.{eqb-true}
use Rattle.device.specs.State.{DevState}
use Rattle.keys.specs.Keys.{further, place_of}
use Rattle.label.specs.declared.label.Label.{Label}
use Rattle.item.specs.Meaning.{Meaning, malformed, patch, cancel, opens, closes, Bank}
use Rattle.model.specs.Refusals.{refusal, by_transaction, by_item, Outcome, ◌>>=◌, need}
use Rattle.model.specs.Items.{Region, Item, Book, items_after, replay_order, check, check_all, reading, without, Verdict, unknown, too_large, means, verdict, meant, in_bounds, covered, all_readable, present, key_place, intent_place, with_key, with_intent, closed_at, closed_for}
use Rattle.model.specs.Ops.{Op}
use Rattle.model.specs.Reading.{Transaction, Reading, counted, heads, joins, committed, read_ops, all_items}
use Rattle.model.specs.Laws.{meanings}
use Rattle.model.proofs.Outcomes.{need_ok, bind_ok}
use Rattle.life.specs.Disk.{In}
use Rattle.life.specs.Items.{open_after, open_ids, Distinct}
use Rattle.life.specs.Items as life
use Rattle.life.specs.Format.{Rec}
use Rattle.life.proofs.Intents.{open-++, open_distinct}
use Rattle.layout.specs.Read.{clean, Progress, taken, read_rec, goes, progress, asked}
use Rattle.layout.proofs.Items.{asked_joins}
use Rattle.layout.proofs.More.{ops_keep}

-- Lists of ids.

-- an id that is not listed is not taken out
absent : (i : ℕ) (ids : List ℕ) → (In i ids → ⊥) → life.without i ids ≡ ids
absent i [] h = refl
absent i (j ∷ ids) h = go (eqb i j) refl (absent i ids (λ k. h (inr k)))
  where
    go : (t : Bool) → eqb i j ≡ t → life.without i ids ≡ ids → cond t [] (j ∷ []) ++ life.without i ids ≡ j ∷ ids
    go true e r = let z : ⊥ = h (inl (eqb-true i j e)) in elim z [ ]
    go false e r = ap (λ l. j ∷ l) r

-- an id that is not found is not listed
further_none : (p : Option ℕ) → further p ≡ None → p ≡ None
further_none None e = refl
further_none (Some k) e = let z : ◌≡◌ {A = ℕ} 0 1 = cc in let y : ⊥ = omega arith in elim y [ ]

unfound : (i : ℕ) (ids : List ℕ) → place_of (eqb i) ids ≡ None → life.without i ids ≡ ids
unfound i [] e = refl
unfound i (j ∷ ids) e = go (eqb i j) e (unfound i ids)
  where
    go : (t : Bool) → cond t (Some 0) (further (place_of (eqb i) ids)) ≡ None → (place_of (eqb i) ids ≡ None → life.without i ids ≡ ids) →
        cond t [] (j ∷ []) ++ life.without i ids ≡ j ∷ ids
    go true e r = let z : ◌≡◌ {A = ℕ} 0 1 = cc in let y : ⊥ = omega arith in elim y [ ]
    go false e r = ap (λ l. j ∷ l) (r (further_none (place_of (eqb i) ids) e))

-- taking out at the place where it is found takes out the id
further_some : (p : Option ℕ) (k : ℕ) → further p ≡ Some k → (m : ℕ) × (p ≡ Some m) × (k ≡ suc m)
further_some None k e = let z : ◌≡◌ {A = ℕ} 0 1 = cc in let y : ⊥ = omega arith in elim y [ ]
further_some (Some m) k e = let q : suc m ≡ k = cc in (m, refl, sym q)

taken_out : (i : ℕ) (ids : List ℕ) (k : ℕ) → Distinct ids → place_of (eqb i) ids ≡ Some k → without k ids ≡ life.without i ids
taken_out i [] k u e = let z : ◌≡◌ {A = ℕ} 0 1 = cc in let y : ⊥ = omega arith in elim y [ ]
taken_out i (j ∷ ids) k u e = go (eqb i j) refl e (λ m. taken_out i ids m u.1)
  where
    go : (t : Bool) → eqb i j ≡ t → cond t (Some 0) (further (place_of (eqb i) ids)) ≡ Some k →
        ((m : ℕ) → place_of (eqb i) ids ≡ Some m → without m ids ≡ life.without i ids) → without k (j ∷ ids) ≡ cond t [] (j ∷ []) ++ life.without i ids
    go true q e r =
        let z : 0 ≡ k = cc in
        let h : i ≡ j = eqb-true i j q in
        ap (λ x. without x (j ∷ ids)) (sym z) ∙ sym (absent i ids (λ a. u.0 (subst (λ (x : ℕ). In x ids) h a)))
    go false q e r =
        let m = further_some (place_of (eqb i) ids) k e in
        ap (λ x. without x (j ∷ ids)) m.2 ∙ ap (λ l. j ∷ l) (r m.0 m.1)

not_present : (p : Option ℕ) → not (present p) ≡ true → p ≡ None
not_present None e = refl
not_present (Some j) e = let z : ◌≡◌ {A = ℕ} 0 1 = cc in let y : ⊥ = omega arith in elim y [ ]

-- Checks.

module _ (d : DevState) (L : Label) where
  ok_book : (b b' : Book) → ◌≡◌ {A = Outcome Book} (Ok b) (Ok b') → b'.intents ≡ b.intents
  ok_book b b' e = let q : b ≡ b' = cc in ap (λ (x : Book). x.intents) (sym q)

  check_booked : (v : Verdict) (s y : ℕ) (b b' : Book) → Distinct b.intents → check reading d L s y v b ≡ Ok b' →
      b'.intents ≡ open_after b.intents (asked (meant v ∷ []))
  check_booked unknown s y b b' u e = let z : ◌≡◌ {A = ℕ} 0 1 = cc in let y : ⊥ = omega arith in elim y [ ]
  check_booked too_large s y b b' u e = let z : ◌≡◌ {A = ℕ} 0 1 = cc in let y : ⊥ = omega arith in elim y [ ]
  check_booked (means early malformed) s y b b' u e = let z : ◌≡◌ {A = ℕ} 0 1 = cc in let y : ⊥ = omega arith in elim y [ ]
  check_booked (means early (patch k c)) s y b b' u e =
      let p = need_ok (in_bounds L d.size k.sector k.length) (refusal 13 by_item s y) (λ _. all_readable d (covered k c) >>= λ _. Ok b) b' e in
      let x = bind_ok (all_readable d (covered k c)) (λ _. Ok b) b' p.1 in
      ok_book b b' x.2
  check_booked (means early (cancel k)) s y b b' u e =
      let p = need_ok (present (key_place k b) || ltb (length b.keys) 256) (refusal 14 by_transaction s y)
      (λ _. need (in_bounds L d.size k.sector k.length) (refusal 13 by_item s y) >>= λ _. Ok (with_key k b)) b' e in
      ok_book (with_key k b) b' (need_ok (in_bounds L d.size k.sector k.length) (refusal 13 by_item s y) (λ _. Ok (with_key k b)) b' p.1).1
  check_booked (means early (opens i)) s y b b' u e =
      let p = need_ok (not (present (intent_place i b))) (refusal 15 by_item s y) (λ _. need (ltb (length b.intents) 64) (refusal 14 by_transaction s y) >>= λ _. Ok (with_intent i b)) b' e in
      let x = need_ok (ltb (length b.intents) 64) (refusal 14 by_transaction s y) (λ _. Ok (with_intent i b)) b' p.1 in
      ok_book (with_intent i b) b' x.1 ∙ ap (λ l. l ++ (i ∷ [])) (sym (unfound i b.intents (not_present (intent_place i b) p.0)))
  check_booked (means early (closes i)) s y b b' u e = go (intent_place i b) refl e
    where
      go : (p : Option ℕ) → intent_place i b ≡ p → closed_for reading (refusal 15 by_item s y) p b ≡ Ok b' → b'.intents ≡ life.without i b.intents
      go (Some j) q e = ok_book (closed_at (Some j) b) b' e ∙ taken_out i b.intents j u q
      go None q e = ok_book b b' e ∙ sym (unfound i b.intents q)

  asked_first : (m : Meaning) (ms : List Meaning) → asked (m ∷ ms) ≡ asked (m ∷ []) ++ asked ms
  asked_first m ms = asked_joins (m ∷ []) ms

  checks_booked : (bank : Bank) (is : List Item) (b b' : Book) → Distinct b.intents → check_all reading d L bank is b ≡ Ok b' →
      b'.intents ≡ open_after b.intents (asked (meanings bank is))
  checks_booked bank [] b b' u e = ok_book b b' e
  checks_booked bank (i ∷ is) b b' u e =
      let x = bind_ok (check reading d L i.sector i.byte (verdict bank i) b) (λ c. check_all reading d L bank is c) b' e in
      let m : Meaning = meant (verdict bank i) in
      let h : x.0.intents ≡ open_after b.intents (asked (m ∷ [])) = check_booked (verdict bank i) i.sector i.byte b x.0 u x.1 in
      let w : Distinct x.0.intents = subst (λ (l : List ℕ). Distinct l) (sym h) (open_distinct b.intents (asked (m ∷ [])) u) in
      checks_booked bank is x.0 b' w x.2
      ∙ ap (λ l. open_after l (asked (meanings bank is))) h
      ∙ sym (open-++ b.intents (asked (m ∷ [])) (asked (meanings bank is)))
      ∙ ap (open_after b.intents) (sym (asked_first m (meanings bank is)))

-- Readings.

-- the book lists just the intents that the items leave open
abbrev pub Booked : Reading → Type 0
Booked r = r.book.intents ≡ open_ids (asked (all_items r.done))

all_joins : (xs ys : List Transaction) → all_items (xs ++ ys) ≡ all_items xs ++ all_items ys
all_joins [] ys = refl
all_joins (x ∷ xs) ys = ap (λ l. x.items ++ l) (all_joins xs ys) ∙ sym (append_assoc x.items (all_items xs) (all_items ys))

module _ (d : DevState) (L : Label) (bank : Bank) where
  committed_booked : (o : Op) (rs : List Region) (r q : Reading) → Booked r → committed d L bank o rs r ≡ Ok q → Booked q
  committed_booked o rs r q k e =
      let B : List Item → Book → Outcome Reading = λ is b. Ok (joins bank (drop 1 rs) (replay_order bank is) b r) in
      let A : List Item → Outcome Reading = λ is. check_all reading d L bank (replay_order bank is) r.book >>= λ b. B is b in
      let a = need_ok (heads o.number rs) (refusal 10 by_transaction o.sector o.byte) (λ _. items_after 0 (drop 1 rs) >>= A) q e in
      let b = bind_ok (items_after 0 (drop 1 rs)) A q a.1 in
      let c = bind_ok (check_all reading d L bank (replay_order bank b.0) r.book) (B b.0) q b.2 in
      let ms : List Meaning = meanings bank (replay_order bank b.0) in
      let j : Reading = joins bank (drop 1 rs) (replay_order bank b.0) c.0 r in
      let u : Distinct r.book.intents = subst (λ (l : List ℕ). Distinct l) (sym k) (open_distinct [] (asked (all_items r.done)) tt) in
      let h : Booked j =
      checks_booked d L bank (replay_order bank b.0) r.book c.0 u c.1
      ∙ ap (λ l. open_after l (asked ms)) k
      ∙ sym (open-++ [] (asked (all_items r.done)) (asked ms))
      ∙ ap open_ids (sym (asked_joins (all_items r.done) ms)
      ∙ ap (λ l. asked (all_items r.done ++ l)) (sym (append-nil ms))
      ∙ ap asked (sym (all_joins r.done (record { regions = map (λ (x : Region). x.bytes) (drop 1 rs); items = ms } ∷ [])))) in
      let w : j ≡ q = cc in
      subst (λ (x : Reading). Booked x) w h

  committed_count : (o : Op) (rs : List Region) (r q : Reading) → committed d L bank o rs r ≡ Ok q → q.records ≡ r.records
  committed_count o rs r q e =
      let B : List Item → Book → Outcome Reading = λ is b. Ok (joins bank (drop 1 rs) (replay_order bank is) b r) in
      let A : List Item → Outcome Reading = λ is. check_all reading d L bank (replay_order bank is) r.book >>= λ b. B is b in
      let a = need_ok (heads o.number rs) (refusal 10 by_transaction o.sector o.byte) (λ _. items_after 0 (drop 1 rs) >>= A) q e in
      let b = bind_ok (items_after 0 (drop 1 rs)) A q a.1 in
      let c = bind_ok (check_all reading d L bank (replay_order bank b.0) r.book) (B b.0) q b.2 in
      let j : Reading = joins bank (drop 1 rs) (replay_order bank b.0) c.0 r in
      let w : j ≡ q = cc in
      ap (λ (x : Reading). x.records) (sym w)

  pub ops_booked : (sector : ℕ) (b : List ℕ) (from n : ℕ) (r q : Reading) → Booked r → read_ops d L bank sector b from n r ≡ Ok q → Booked q
  ops_booked sector b from n r q k e = ops_keep d L bank Booked (λ o p r k. k) committed_booked sector b from n r q k e

  -- ops count no record
  pub ops_count : (sector : ℕ) (b : List ℕ) (from n : ℕ) (r q : Reading) → read_ops d L bank sector b from n r ≡ Ok q → q.records ≡ r.records
  ops_count sector b from n r q e =
      ops_keep d L bank (λ x. x.records ≡ r.records) (λ o p x k. k) (λ o rs x z k c. committed_count o rs x z c ∙ k) sector b from n r q refl e

module _ (n : ℕ) (L : Label) (bank : Bank) where
  goes_booked : (q : Rec) (s : Progress) → Booked s.reading → Booked (goes n L bank q s).reading
  goes_booked q s k = go s.passed (read_rec n L bank q s.reading) refl
    where
      go : (t : Bool) (x : Outcome Reading) → read_rec n L bank q s.reading ≡ x → Booked (cond t (taken x s.reading) s).reading
      go true (Ok r) e = ops_booked (clean n) L bank 0 q.payload 0 q.ops (counted s.reading) r k e
      go true (Err r) e = k
      go false x e = k

  pub progress_booked : (qs : List Rec) (s : Progress) → Booked s.reading → Booked (progress n L bank qs s).reading
  progress_booked [] s k = k
  progress_booked (q ∷ qs) s k = progress_booked qs (goes n L bank q s) (goes_booked q s k)
