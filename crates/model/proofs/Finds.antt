-- The search finds what stands in the log. Assumes nothing.
use Rattle.std.proofs.Common.{◌≡◌, ℕ, zero, suc, ◌+◌, ◌-◌, ◌*◌, ◌/◌, ◌%◌, ◌<◌, ◌≤◌, Bool, true, false, cond, not, ◌&&◌, ◌||◌, eqb, ltb, leb, ◌⊎◌, List, [], get_or, Ok, sym, refl, ap, ◌∙◌, inl, inr, mod-lt, mul_comm, div-add-mod', arith}
use lib.Arith.{digits_mod}
use Rattle.std.proofs.lemmas.Bool.{cases_lt, eq-eqb, lt-ltb, le-leb, lt-leb, and_from, and_left, and_right, or_left, or_right, or_from, not_from_true, cond-true, cond-false}
use Rattle.model.specs.Refusals.{refusal, by_record, Outcome, ◌>>=◌, need}
use Rattle.label.specs.declared.label.Label.{Label}
use Rattle.label.specs.Position.{log_sector, volume_sector}
use Rattle.record.specs.declared.header.RecordHeader.{RecordHeader}
use Rattle.record.specs.Record.{is_header, held_cycle, sound, end_of}
use Rattle.model.specs.View.{at, log_header, tail_of, held_by, held, greatest, due, in_order, coherent_from, first_free, head, stops, newest_of, newest, tail_stands, Found, ended, search_log}
use Rattle.model.specs.Laws.{Searched, SearchFinds}
use Rattle.model.proofs.Found.{top, most, long}

coherent_ok : (L : Label) (log : List (List ℕ)) (M i n : ℕ) → ((j : ℕ) → i ≤ j → j < i + n → in_order L log M j ≡ true) → coherent_from L log M i n ≡ Ok tt
coherent_ok L log M i zero h = refl
coherent_ok L log M i (suc n) h =
    ap (λ t. need t (refusal 5 by_record (L.start + i) 0) >>= λ _. coherent_from L log M (i + 1) n) (h i (omega arith) (omega arith))
    ∙ coherent_ok L log M (i + 1) n (λ j a b. h j (omega arith) (omega arith))

free_is : (L : Label) (log : List (List ℕ)) (x n h : ℕ) → x ≤ h → h ≤ x + n → ((y : ℕ) → x ≤ y → y < h → held L log y ≡ true) → held L log h ≡ false →
    first_free L log x n ≡ h
free_is L log x zero h a b f g = omega arith
free_is L log x (suc n) h a b f g = go (cases_lt x h) (λ l. free_is L log (x + 1) n h l (omega arith) (λ y p q. f y (omega arith) q) g)
  where
    go : (x < h) ⊎ (h ≤ x) → (x + 1 ≤ h → first_free L log (x + 1) n ≡ h) → cond (held L log x) (first_free L log (x + 1) n) x ≡ h
    go (inl l) ih = cond-true (held L log x) (first_free L log (x + 1) n) x (f x (omega arith) l) ∙ ih (omega arith)
    go (inr l) ih =
        let e : x ≡ h = omega arith in
        cond-false (held L log x) (first_free L log (x + 1) n) x (ap (held L log) e ∙ g) ∙ e

newest_is : (L : Label) (log : List (List ℕ)) (h low n y : ℕ) → low ≤ y → y < low + n → stops L log h y ≡ true → sound L (log_header L log y) y ≡ true →
    ((z : ℕ) → y < z → z < low + n → stops L log h z ≡ false) → newest_of L log h low n ≡ Ok y
newest_is L log h low zero y a b s t f = let x : ⊥ = omega arith in elim x [ ]
newest_is L log h low (suc n) y a b s t f = go (cases_lt y (low + n)) (λ l. newest_is L log h low n y a l s t (λ z p q. f z p (omega arith)))
  where
    go : (y < low + n) ⊎ (low + n ≤ y) → (y < low + n → newest_of L log h low n ≡ Ok y) →
        cond (stops L log h (low + n)) (need (sound L (log_header L log (low + n)) (low + n)) (refusal 7 by_record (volume_sector L (low + n)) 0) >>= λ _. Ok (low + n)) (newest_of L log h low n) ≡ Ok y
    go (inl l) ih =
        cond-false (stops L log h (low + n)) (need (sound L (log_header L log (low + n)) (low + n)) (refusal 7 by_record (volume_sector L (low + n)) 0) >>= λ _. Ok (low + n)) (newest_of L log h low n) (f (low + n) l (omega arith))
        ∙ ih l
    go (inr l) ih =
        let e : low + n ≡ y = omega arith in
        cond-true (stops L log h (low + n)) (need (sound L (log_header L log (low + n)) (low + n)) (refusal 7 by_record (volume_sector L (low + n)) 0) >>= λ _. Ok (low + n)) (newest_of L log h low n) (ap (stops L log h) e ∙ s)
        ∙ ap (λ v. need v (refusal 7 by_record (volume_sector L (low + n)) 0) >>= λ _. Ok (low + n)) (ap (λ v. sound L (log_header L log v) v) e ∙ t)
        ∙ ap (λ v. Ok v) e

-- the position due on a sector
due_facts : (L : Label) (M i : ℕ) → 1 ≤ L.count → i < L.count → L.count ≤ M + 1 → (due L M i ≤ M) × (M < due L M i + L.count) × (log_sector L (due L M i) ≡ i)
due_facts L M i p h l =
    let q : ℕ = (M - i) / L.count in
    let e : q * L.count + (M - i) % L.count ≡ M - i = div-add-mod' (M - i) L.count in
    let r : (M - i) % L.count < L.count = mod-lt (M - i) p in
    let c : L.count * q ≡ q * L.count = mul_comm L.count q in
    let x : due L M i ≡ q * L.count + i = omega (arith, c) in
    (omega (arith, x, e, r), omega (arith, x, e, r), ap (log_sector L) x ∙ digits_mod q h)

module _ (L : Label) (f : Found) (w : 1 ≤ L.window) (two : 2 * L.window ≤ L.count) (S : Searched L f)
    (low : (i : ℕ) → i < L.count → held_cycle (get_or f.log i []) < 2147483648) (tail-low : (log_header L f.log f.n).tail.1 < L.count) where
  some : 1 ≤ L.count
  some = omega arith

  same_top : greatest L f.log ≡ f.M
  same_top = omega (arith, S.most (greatest L f.log) (top L f.log some), most L f.log some f.M S.top)

  far : L.count ≤ f.M + 1
  far = omega (arith, long L f.log some, same_top)

  orders : (i : ℕ) → i < L.count → in_order L f.log f.M i ≡ true
  orders i h =
      let d = due_facts L f.M i some h far in
      let A : Bool = eqb (held_by L f.log i) (due L f.M i) in
      let B : Bool = eqb (held_by L f.log i + L.count) (due L f.M i) && ltb f.M (due L f.M i + L.window) in
      and_from (A || B) (ltb (held_cycle (get_or f.log i [])) 2147483648) (go d (S.coherent (due L f.M i) d.1 d.0)) (lt-ltb (held_cycle (get_or f.log i [])) 2147483648 (low i h))
    where
      go : (due L f.M i ≤ f.M) × (f.M < due L f.M i + L.count) × (log_sector L (due L f.M i) ≡ i) →
          (held L f.log (due L f.M i) ≡ true) ⊎ ((held_by L f.log (log_sector L (due L f.M i)) + L.count ≡ due L f.M i) × (f.M < due L f.M i + L.window)) →
          (eqb (held_by L f.log i) (due L f.M i) || (eqb (held_by L f.log i + L.count) (due L f.M i) && ltb f.M (due L f.M i + L.window))) ≡ true
      go d (inl a) =
          or_left (eqb (held_by L f.log i) (due L f.M i)) (eqb (held_by L f.log i + L.count) (due L f.M i) && ltb f.M (due L f.M i + L.window))
          (ap (λ k. eqb (held_by L f.log k) (due L f.M i)) (sym d.2) ∙ a)
      go d (inr b) =
          or_right (eqb (held_by L f.log i) (due L f.M i)) (eqb (held_by L f.log i + L.count) (due L f.M i) && ltb f.M (due L f.M i + L.window))
          (and_from (eqb (held_by L f.log i + L.count) (due L f.M i)) (ltb f.M (due L f.M i + L.window))
          (eq-eqb (held_by L f.log i + L.count) (due L f.M i) (ap (λ k. held_by L f.log k + L.count) (sym d.2) ∙ b.0))
          (lt-ltb f.M (due L f.M i + L.window) b.1))

  near_top : f.h ≤ f.M + 1
  near_top = go (cases_lt (f.M + 1) f.h)
    where
      go : (f.M + 1 < f.h) ⊎ (f.h ≤ f.M + 1) → f.h ≤ f.M + 1
      go (inl a) = let b = S.most (f.M + 1) (S.full (f.M + 1) (omega arith) a) in let x : ⊥ = omega arith in elim x [ ]
      go (inr a) = a

  same_head : head L f.log f.M ≡ f.h
  same_head = free_is L f.log (f.M + 1 - L.window) L.window f.h (omega (arith, S.near)) (omega (arith, near_top, far)) (λ y a b. S.full y (omega arith) b) S.free

  stop_here : stops L f.log f.h f.n ≡ true
  stop_here =
      and_from (is_header (at L f.log f.n)) (not (sound L (log_header L f.log f.n) f.n) || leb (end_of (log_header L f.log f.n) f.n) f.h) S.header
      (or_right (not (sound L (log_header L f.log f.n) f.n)) (leb (end_of (log_header L f.log f.n) f.n) f.h) (le-leb (end_of (log_header L f.log f.n) f.n) f.h (omega (arith, S.by_head, S.end))))

  go_past : (z : ℕ) → f.n < z → z < f.h → stops L f.log f.h z ≡ false
  go_past z a b = go (S.later z a b)
    where
      go : (is_header (at L f.log z) ≡ false) ⊎ ((sound L (log_header L f.log z) z ≡ true) × (f.h < end_of (log_header L f.log z) z)) → stops L f.log f.h z ≡ false
      go (inl c) = and_left (is_header (at L f.log z)) (not (sound L (log_header L f.log z) z) || leb (end_of (log_header L f.log z) z) f.h) c
      go (inr c) =
          and_right (is_header (at L f.log z)) (not (sound L (log_header L f.log z) z) || leb (end_of (log_header L f.log z) z) f.h)
          (or_from (not (sound L (log_header L f.log z) z)) (leb (end_of (log_header L f.log z) z) f.h) (not_from_true (sound L (log_header L f.log z) z) c.0) (lt-leb (end_of (log_header L f.log z) z) f.h c.1))

  same_newest : newest L f.log f.M f.h ≡ Ok f.n
  same_newest =
      newest_is L f.log f.h (f.M + 1 - L.count) (f.h - (f.M + 1 - L.count)) f.n (omega (arith, S.within)) (omega (arith, S.by_head, S.end, S.near))
      stop_here S.sound_one (λ z a b. go_past z a (omega (arith, b, S.near)))

  same_end : ended L f.log f.M f.h f.n ≡ Ok f
  same_end =
      let b : RecordHeader = log_header L f.log f.n in
      let t : ℕ = tail_of L b in
      let G : ℕ → ℕ → Found = λ e t. record { log = f.log; M = f.M; h = f.h; n = f.n; e = e; t = t } in
      let k : tail_stands L b f.M (end_of b f.n) ≡ true =
      and_from (ltb b.tail.1 L.count && leb (f.M + 1) (t + L.count)) (ltb t (end_of b f.n))
      (and_from (ltb b.tail.1 L.count) (leb (f.M + 1) (t + L.count)) (lt-ltb b.tail.1 L.count tail-low)
      (le-leb (f.M + 1) (t + L.count) (omega (arith, S.range, S.tail))))
      (lt-ltb t (end_of b f.n) (omega (arith, S.before, S.tail, S.end))) in
      ap (λ v. need v (refusal 8 by_record (volume_sector L f.n) 0) >>= λ _. Ok (G (end_of b f.n) t)) k
      ∙ ap (λ e. Ok (G e t)) (sym S.end) ∙ ap (λ t. Ok (G f.e t)) (sym S.tail)

  finds : search_log L f.log ≡ Ok f
  finds =
      let T : ℕ → ℕ → ℕ → Outcome Found = λ m k j. coherent_from L f.log m 0 L.count >>= λ _. newest L f.log k j >>= λ n. ended L f.log k j n in
      ap (λ m. T m m (head L f.log m)) same_top
      ∙ ap (T f.M f.M) same_head
      ∙ ap (λ x. x >>= λ _. newest L f.log f.M f.h >>= λ n. ended L f.log f.M f.h n) (coherent_ok L f.log f.M 0 L.count (λ j a b. orders j (omega arith)))
      ∙ ap (λ x. x >>= λ n. ended L f.log f.M f.h n) same_newest
      ∙ same_end

pub search_finds : SearchFinds
search_finds L f w two S low tail-low = finds L f w two S low tail-low
