-- What the search finds. Assumes nothing.
use Rattle.std.proofs.Common.{◌≡◌, ℕ, zero, suc, ◌+◌, ◌-◌, ◌*◌, ◌/◌, ◌%◌, ◌<◌, ◌≤◌, max, Bool, true, false, cond, not, ◌&&◌, ◌||◌, eqb, ltb, leb, ◌⊎◌, List, [], get_or, Ok, sym, refl, ap, ◌∙◌, subst, inl, inr, zero-le, mod-lt, mul_comm, add_comm, div-add-mod', arith}
use lib.Arith.{digits_div, digits_mod}
use Rattle.std.proofs.lemmas.Bool.{cases_lt, cases_eq, both_ways, eq-eqb, eqb-true, ltb-true, leb-true, leb-false, and_parts, and_cases, or_cases, or_parts, not-true, not-false}
use Rattle.model.specs.Refusals.{refusal, by_record, ◌>>=◌, need}
use Rattle.label.specs.declared.label.Label.{Label}
use Rattle.label.specs.Position.{log_sector, volume_sector}
use Rattle.record.specs.declared.header.RecordHeader.{RecordHeader}
use Rattle.record.specs.Record.{is_header, held_cycle, sound, end_of}
use Rattle.model.specs.View.{at, log_header, tail_of, held_by, held, greatest_of, greatest, due, in_order, coherent_from, coherent, first_free, head, stops, newest_of, newest, tail_stands, Found, ended}
use Rattle.model.specs.Laws.{Searched, SearchSays}
use Rattle.model.proofs.Outcomes.{need_ok, bind_ok}

module _ (L : Label) (log : List (List ℕ)) (some : 1 ≤ L.count) where
  on_sector : (x : ℕ) → log_sector L x < L.count
  on_sector x = mod-lt x some

  -- a log sector holds a position on it
  own : (i : ℕ) → i < L.count → log_sector L (held_by L log i) ≡ i
  own i h = digits_mod (held_cycle (get_or log i [])) h

  below : (n i : ℕ) → i < n → held_by L log i ≤ greatest_of L log n
  below zero i h = omega arith
  below (suc n) i h = go (cases_lt i n) (λ l. below n i l)
    where
      go : (i < n) ⊎ (n ≤ i) → (i < n → held_by L log i ≤ greatest_of L log n) → held_by L log i ≤ max (greatest_of L log n) (held_by L log n)
      go (inl l) ih = let u = ih l in omega arith
      go (inr l) ih = let e : i ≡ n = omega arith in let u : held_by L log i ≡ held_by L log n = ap (held_by L log) e in omega arith

  reached : (n : ℕ) → (i : ℕ) × (i < suc n) × (greatest_of L log (suc n) ≡ held_by L log i)
  reached zero = (0, omega arith, omega arith)
  reached (suc n) = go (reached n) (cases_lt (greatest_of L log (suc n)) (held_by L log (suc n)))
    where
      go : (i : ℕ) × (i < suc n) × (greatest_of L log (suc n) ≡ held_by L log i) →
          (greatest_of L log (suc n) < held_by L log (suc n)) ⊎ (held_by L log (suc n) ≤ greatest_of L log (suc n)) →
          (i : ℕ) × (i < suc (suc n)) × (max (greatest_of L log (suc n)) (held_by L log (suc n)) ≡ held_by L log i)
      go r (inl l) = (suc n, omega arith, omega arith)
      go r (inr l) = (r.0, omega (arith, r.1), omega (arith, r.2))

  -- the greatest position is held, and is the greatest
  pub most : (x : ℕ) → held L log x ≡ true → x ≤ greatest L log
  most x e = omega (arith, eqb-true (held_by L log (log_sector L x)) x e, below L.count (log_sector L x) (on_sector x))

  pub top : held L log (greatest L log) ≡ true
  top =
      let r = reached (L.count - 1) in
      let n : suc (L.count - 1) ≡ L.count = omega arith in
      let g : greatest L log ≡ held_by L log r.0 = ap (greatest_of L log) (sym n) ∙ r.2 in
      let o : log_sector L (greatest L log) ≡ r.0 = ap (log_sector L) g ∙ own r.0 (omega (arith, r.1)) in
      eq-eqb (held_by L log (log_sector L (greatest L log))) (greatest L log) (ap (held_by L log) o ∙ sym g)

  -- it is at least N - 1
  pub long : L.count ≤ greatest L log + 1
  long =
      let b = below L.count (L.count - 1) (omega arith) in
      omega (arith, b)

  beyond : held L log (greatest L log + 1) ≡ false
  beyond = go (held L log (greatest L log + 1)) refl
    where
      go : (t : Bool) → held L log (greatest L log + 1) ≡ t → held L log (greatest L log + 1) ≡ false
      go false e = e
      go true e = let h = most (greatest L log + 1) e in let x : ⊥ = omega arith in elim x [ ]

  -- Coherence.

  each : (M i n : ℕ) → coherent_from L log M i n ≡ Ok tt → (j : ℕ) → i ≤ j → j < i + n → in_order L log M j ≡ true
  each M i zero e j l h = let x : ⊥ = omega arith in elim x [ ]
  each M i (suc n) e j l h =
      let p = need_ok (in_order L log M i) (refusal 5 by_record (L.start + i) 0) (λ _. coherent_from L log M (i + 1) n) tt e in
      go (cases_eq i j) p.0 (λ u. each M (i + 1) n p.1 j u (omega arith))
    where
      go : (i ≡ j) ⊎ (i ≡ j → ⊥) → in_order L log M i ≡ true → (i + 1 ≤ j → in_order L log M j ≡ true) → in_order L log M j ≡ true
      go (inl q) o ih = ap (in_order L log M) (sym q) ∙ o
      go (inr q) o ih = ih (le (cases_lt i j))
        where
          le : (i < j) ⊎ (j ≤ i) → i + 1 ≤ j
          le (inl a) = omega arith
          le (inr a) = let e : i ≡ j = omega arith in let x : ⊥ = q e in elim x [ ]

  due_is : (M x : ℕ) → M < x + L.count → x ≤ M → due L M (log_sector L x) ≡ x
  due_is M x h l =
      let e : x / L.count * L.count + x % L.count ≡ x = div-add-mod' x L.count in
      let m : M - x % L.count ≡ x / L.count * L.count + (M - x) = omega arith in
      let q : (M - x % L.count) / L.count ≡ x / L.count = ap (λ k. k / L.count) m ∙ digits_div (x / L.count) (omega arith) in
      ap (λ k. x % L.count + L.count * k) q ∙ ap (λ k. x % L.count + k) (mul_comm L.count (x / L.count)) ∙ add_comm (x % L.count) (x / L.count * L.count) ∙ e

  cohere : coherent L log ≡ Ok tt → (x : ℕ) → greatest L log < x + L.count → x ≤ greatest L log →
      (held L log x ≡ true) ⊎ ((held_by L log (log_sector L x) + L.count ≡ x) × (greatest L log < x + L.window))
  cohere e x h l =
      let M : ℕ = greatest L log in
      let i : ℕ = log_sector L x in
      let d : due L M i ≡ x = due_is M x h l in
      let o = each M 0 L.count e i (zero-le) (omega (arith, on_sector x)) in
      let A : Bool = eqb (held_by L log i) (due L M i) in
      let B : Bool = eqb (held_by L log i + L.count) (due L M i) && ltb M (due L M i + L.window) in
      go d (or_cases A B (and_parts (A || B) (ltb (held_cycle (get_or log i [])) 2147483648) o).0)
    where
      go : due L (greatest L log) (log_sector L x) ≡ x →
          (eqb (held_by L log (log_sector L x)) (due L (greatest L log) (log_sector L x)) ≡ true)
          ⊎ ((eqb (held_by L log (log_sector L x) + L.count) (due L (greatest L log) (log_sector L x)) && ltb (greatest L log) (due L (greatest L log) (log_sector L x) + L.window)) ≡ true) →
          (held L log x ≡ true) ⊎ ((held_by L log (log_sector L x) + L.count ≡ x) × (greatest L log < x + L.window))
      go d (inl a) = inl (eq-eqb (held_by L log (log_sector L x)) x (eqb-true (held_by L log (log_sector L x)) (due L (greatest L log) (log_sector L x)) a ∙ d))
      go d (inr b) =
          let p = and_parts (eqb (held_by L log (log_sector L x) + L.count) (due L (greatest L log) (log_sector L x))) (ltb (greatest L log) (due L (greatest L log) (log_sector L x) + L.window)) b in
          inr (
            eqb-true (held_by L log (log_sector L x) + L.count) (due L (greatest L log) (log_sector L x)) p.0 ∙ d,
            omega (arith, ltb-true (greatest L log) (due L (greatest L log) (log_sector L x) + L.window) p.1, d),
          )

  -- The head.

  free_low : (x n : ℕ) → x ≤ first_free L log x n
  free_low x zero = omega arith
  free_low x (suc n) = go (held L log x) (free_low (x + 1) n)
    where
      go : (t : Bool) → x + 1 ≤ first_free L log (x + 1) n → x ≤ cond t (first_free L log (x + 1) n) x
      go true h = omega arith
      go false h = omega arith

  free_free : (x n : ℕ) → held L log (x + n) ≡ false → held L log (first_free L log x n) ≡ false
  free_free x zero h = let e : x ≡ x + 0 = omega arith in ap (held L log) e ∙ h
  free_free x (suc n) h =
      let e : x + 1 + n ≡ x + suc n = omega arith in
      go (held L log x) refl (free_free (x + 1) n (ap (held L log) e ∙ h))
    where
      go : (t : Bool) → held L log x ≡ t → held L log (first_free L log (x + 1) n) ≡ false → held L log (cond t (first_free L log (x + 1) n) x) ≡ false
      go true e h = h
      go false e h = e

  free_full : (x n y : ℕ) → x ≤ y → y < first_free L log x n → held L log y ≡ true
  free_full x zero y l h = let z : ⊥ = omega arith in elim z [ ]
  free_full x (suc n) y l h = go (held L log x) refl h (λ u v. free_full (x + 1) n y u v)
    where
      go : (t : Bool) → held L log x ≡ t → y < cond t (first_free L log (x + 1) n) x →
          (x + 1 ≤ y → y < first_free L log (x + 1) n → held L log y ≡ true) → held L log y ≡ true
      go false e h ih = let z : ⊥ = omega arith in elim z [ ]
      go true e h ih = at_x (cases_eq x y)
        where
          at_x : (x ≡ y) ⊎ (x ≡ y → ⊥) → held L log y ≡ true
          at_x (inl q) = ap (held L log) (sym q) ∙ e
          at_x (inr q) = ih (le (cases_lt x y)) h
            where
              le : (x < y) ⊎ (y ≤ x) → x + 1 ≤ y
              le (inl a) = omega arith
              le (inr a) = let e : x ≡ y = omega arith in let z : ⊥ = q e in elim z [ ]

  -- The newest record.

  newest_at : (h low n y : ℕ) → newest_of L log h low n ≡ Ok y →
      (low ≤ y) × (y < low + n) × (stops L log h y ≡ true) × (sound L (log_header L log y) y ≡ true) × ((z : ℕ) → y < z → z < low + n → stops L log h z ≡ false)
  newest_at h low zero y e = let z : ◌≡◌ {A = ℕ} 0 1 = cc in let x : ⊥ = omega arith in elim x [ ]
  newest_at h low (suc n) y e = go (stops L log h (low + n)) refl e (λ u. newest_at h low n y u)
    where
      go : (t : Bool) → stops L log h (low + n) ≡ t →
          cond t (need (sound L (log_header L log (low + n)) (low + n)) (refusal 7 by_record (volume_sector L (low + n)) 0) >>= λ _. Ok (low + n)) (newest_of L log h low n) ≡ Ok y →
          (newest_of L log h low n ≡ Ok y → (low ≤ y) × (y < low + n) × (stops L log h y ≡ true) × (sound L (log_header L log y) y ≡ true) × ((z : ℕ) → y < z → z < low + n → stops L log h z ≡ false)) →
          (low ≤ y) × (y < low + suc n) × (stops L log h y ≡ true) × (sound L (log_header L log y) y ≡ true) × ((z : ℕ) → y < z → z < low + suc n → stops L log h z ≡ false)
      go true s e ih =
          let p = need_ok (sound L (log_header L log (low + n)) (low + n)) (refusal 7 by_record (volume_sector L (low + n)) 0) (λ _. Ok (low + n)) y e in
          let q : Ok (low + n) ≡ Ok y = p.1 in
          let m : low + n ≡ y = cc in
          (omega arith, omega arith, ap (stops L log h) (sym m) ∙ s, ap (λ v. sound L (log_header L log v) v) (sym m) ∙ p.0, λ z a b. let x : ⊥ = omega arith in elim x [ ])
      go false s e ih =
          let p = ih e in
          (p.0, omega (arith, p.1), p.2, p.3, λ z a b. at_z z (cases_eq z (low + n)) (p.4 z a) b)
        where
          at_z : (z : ℕ) → (z ≡ low + n) ⊎ (z ≡ low + n → ⊥) → (z < low + n → stops L log h z ≡ false) → z < low + suc n → stops L log h z ≡ false
          at_z z (inl q) f b = ap (stops L log h) q ∙ s
          at_z z (inr q) f b = f (lt (cases_lt z (low + n)))
            where
              lt : (z < low + n) ⊎ (low + n ≤ z) → z < low + n
              lt (inl a) = a
              lt (inr a) = let e : z ≡ low + n = omega arith in let x : ⊥ = q e in elim x [ ]

  passed_over : (h z : ℕ) → stops L log h z ≡ false → (is_header (at L log z) ≡ false) ⊎ ((sound L (log_header L log z) z ≡ true) × (h < end_of (log_header L log z) z))
  passed_over h z e = go (and_cases (is_header (at L log z)) (not (sound L (log_header L log z) z) || leb (end_of (log_header L log z) z) h) e)
    where
      go : (is_header (at L log z) ≡ false) ⊎ ((not (sound L (log_header L log z) z) || leb (end_of (log_header L log z) z) h) ≡ false) →
          (is_header (at L log z) ≡ false) ⊎ ((sound L (log_header L log z) z ≡ true) × (h < end_of (log_header L log z) z))
      go (inl a) = inl a
      go (inr b) =
          let p = or_parts (not (sound L (log_header L log z) z)) (leb (end_of (log_header L log z) z) h) b in
          inr (not-false (sound L (log_header L log z) z) p.0, leb-false (end_of (log_header L log z) z) h p.1)

  ends_by : (h y : ℕ) → stops L log h y ≡ true → sound L (log_header L log y) y ≡ true → (is_header (at L log y) ≡ true) × (end_of (log_header L log y) y ≤ h)
  ends_by h y e s =
      let p = and_parts (is_header (at L log y)) (not (sound L (log_header L log y) y) || leb (end_of (log_header L log y) y) h) e in
      (p.0, go (or_cases (not (sound L (log_header L log y) y)) (leb (end_of (log_header L log y) y) h) p.1))
    where
      go : (not (sound L (log_header L log y) y) ≡ true) ⊎ (leb (end_of (log_header L log y) y) h ≡ true) → end_of (log_header L log y) y ≤ h
      go (inl a) = let x : ⊥ = both_ways (sound L (log_header L log y) y) (not-true (sound L (log_header L log y) y) a) s in elim x [ ]
      go (inr b) = leb-true (end_of (log_header L log y) y) h b

pub search_says : SearchSays
search_says L log f w two e =
    let some : 1 ≤ L.count = omega arith in
    let M : ℕ = greatest L log in
    let h : ℕ = head L log M in
    let c = bind_ok (coherent L log) (λ _. newest L log M h >>= λ n. ended L log M h n) f e in
    let n = bind_ok (newest L log M h) (λ n. ended L log M h n) f c.2 in
    let b : RecordHeader = log_header L log n.0 in
    let t : ℕ = tail_of L b in
    let F : Found = record { log = log; M = M; h = h; n = n.0; e = end_of b n.0; t = t } in
    let k = need_ok (tail_stands L b M (end_of b n.0)) (refusal 8 by_record (volume_sector L n.0) 0) (λ _. Ok F) f n.2 in
    let q : Ok F ≡ Ok f = k.1 in
    let same : F ≡ f = cc in
    let g = long L log some in
    let low : M + 1 - L.window ≤ h = free_low L log some (M + 1 - L.window) L.window in
    let v = newest_at L log some h (M + 1 - L.count) (h - (M + 1 - L.count)) n.0 n.1 in
    let x = ends_by L log some h n.0 v.2 v.3 in
    let end : M + 1 - L.window + L.window ≡ M + 1 = omega arith in
    let p = and_parts (ltb b.tail.1 L.count && leb (M + 1) (t + L.count)) (ltb t (end_of b n.0)) k.0 in
    let p' = and_parts (ltb b.tail.1 L.count) (leb (M + 1) (t + L.count)) p.0 in
    let S : Searched L F = record {
      top = top L log some;
      most = most L log some;
      coherent = cohere L log some c.1;
      near = omega arith;
      free = free_free L log some (M + 1 - L.window) L.window (ap (held L log) end ∙ beyond L log some);
      full = λ y a z. free_full L log some (M + 1 - L.window) L.window y (omega arith) z;
      header = x.0;
      sound_one = v.3;
      within = omega (arith, v.0);
      by_head = x.1;
      later = λ y a z. passed_over L log some h y (v.4 y a (omega arith));
      end = refl;
      tail = refl;
      range = leb-true (M + 1) (t + L.count) p'.1;
      before = ltb-true t (end_of b n.0) p.1;
    } in
    subst (λ (y : Found). (y.log ≡ log) × Searched L y) same (refl, S)
