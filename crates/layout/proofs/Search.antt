-- What a plan of a life says is what the search finds. Assumes nothing.
use Rattle.std.proofs.Common.{◌≡◌, ℕ, suc, ◌+◌, ◌-◌, ◌/◌, ◌<◌, ◌≤◌, Bool, true, false, cond, ◌⊎◌, List, [], ◌∷◌, get_or, Ok, sym, refl, ap, ◌∙◌, subst, inl, inr, mod-lt, arith}
use lib.Arith.{digits_div, digits_mod}
use Rattle.std.proofs.lemmas.Bool.{cases_order, cond-true, cond-false, eq-eqb, eqb-true, ne_eqb}
use Rattle.label.specs.declared.label.Label.{Label}
use Rattle.label.specs.Position.{log_sector, volume_sector}
use Rattle.record.specs.Record.{is_header, held_cycle, held_position, header_of, end_of}
use Rattle.record.specs.Record as records
use Rattle.item.specs.Meaning.{Bank}
use Rattle.model.specs.View.{at, log_header, tail_of, held, held_by, Found, search_log}
use Rattle.model.specs.Laws.{Searched}
use Rattle.model.proofs.Stamped.{cycle_low}
use Rattle.model.proofs.Finds.{search_finds}
use Rattle.life.specs.Disk.{Sector, holds}
use Rattle.life.specs.Log.{Held, Greatest, Coherent, Head, Newest}
use Rattle.life.specs.Log as log
use Rattle.life.specs.Format.{Rec, size, Fits, Format}
use Rattle.life.specs.Calls.{bytes_of, Stands, Chain, Plan}
use Rattle.layout.specs.Real.{Usable, len}
use Rattle.layout.specs.Plans.{HasLog, SeekPlans}
use Rattle.layout.proofs.Ring.{ring, limited, sane}
use Rattle.layout.proofs.Secs.{head_of, back, first_is}
use Rattle.layout.proofs.Real.{real}

-- The newest record is the last of the chain.

-- a record that ends where the newest one does is the newest one
last_one : (F : Format) (c : ℕ → Sector) (h n e p : ℕ) (r : Rec) → Newest F.ring c h n → e ≡ n + F.ring.len (c (F.ring.slot n)) → Stands F c p r → p + size r ≡ e → p ≡ n
last_one F c h n e p r N q s z = go (cases_order p n)
  where
    f : Fits F.ring r s.0 p
    f = s.1

    stands : (j : ℕ) → j < size r → c (F.ring.slot (p + j)) ≡ holds (F.sec r s.0 p j)
    stands = s.2

    go : (p ≡ n) ⊎ ((p < n) ⊎ (n < p)) → p ≡ n
    go (inl a) = a
    go (inr (inl a)) =
        let j : ℕ = n - suc p in
        let i : p + suc j ≡ n = omega arith in
        let l : suc j < size r = omega (arith, i, q, z, N.header) in
        let w : F.ring.len (c (F.ring.slot n)) ≡ 0 =
        ap (λ x. F.ring.len (c (F.ring.slot x))) (sym i) ∙ ap F.ring.len (stands (suc j) l) ∙ F.sec_data r s.0 p j f l in
        omega (arith, w, N.header)
    go (inr (inr a)) =
        let i : p + 0 ≡ p = omega arith in
        let w : F.ring.len (c (F.ring.slot p)) ≡ size r =
        ap (λ x. F.ring.len (c (F.ring.slot x))) (sym i) ∙ ap F.ring.len (stands 0 (omega arith)) ∙ F.sec_len r s.0 p f in
        let b : (F.ring.len (c (F.ring.slot p)) ≡ 0) ⊎ ((F.ring.sound p (c (F.ring.slot p)) ≡ true) × (h < p + F.ring.len (c (F.ring.slot p)))) =
        N.first p a (omega (arith, N.ends, q, z)) in
        by w b
      where
        by : F.ring.len (c (F.ring.slot p)) ≡ size r →
            (F.ring.len (c (F.ring.slot p)) ≡ 0) ⊎ ((F.ring.sound p (c (F.ring.slot p)) ≡ true) × (h < p + F.ring.len (c (F.ring.slot p)))) → p ≡ n
        by w (inl b) = omega (arith, w, b)
        by w (inr b) = omega (arith, w, b.1, N.ends, q, z)

-- the newest record stands
pub newest_stands : (F : Format) (c : ℕ → Sector) (h n e p : ℕ) (chain : List Rec) → Newest F.ring c h n → e ≡ n + F.ring.len (c (F.ring.slot n)) →
    Chain F c p e chain → p < e → (r : Rec) × Stands F c n r
newest_stands F c h n e p [] N q k l = let x : ⊥ = omega (arith, k) in elim x [ ]
newest_stands F c h n e p (r ∷ []) N q k l = (r, subst (λ (x : ℕ). Stands F c x r) (last_one F c h n e p r N q k.1 k.2) k.1)
newest_stands F c h n e p (r ∷ (r' ∷ rs)) N q k l = newest_stands F c h n e (p + size r) (r' ∷ rs) N q k.2 k.2.0

module _ (L : Label) (n : ℕ) (bank : Bank) (u : Usable L n) (c : ℕ → Sector) (logs : List (List ℕ)) (has : HasLog L c logs) where
  -- the sector of a position is the log's
  pub here : (x : ℕ) → bytes_of (c (volume_sector L x)) ≡ at L logs x
  here x = ap bytes_of (has (log_sector L x) (mod-lt x (sane L n u).some))

  pub at_here : (x : ℕ) → log.at (ring L n u) c x ≡ held_by L logs (log_sector L x)
  at_here x =
      let i : volume_sector L x - L.start ≡ log_sector L x = omega arith in
      ap (λ k. held_position L k (bytes_of (c (volume_sector L x)))) i ∙ ap (held_position L (log_sector L x)) (here x)

  pub held_here : (x : ℕ) → Held (ring L n u) c x → held L logs x ≡ true
  held_here x h = eq-eqb (held_by L logs (log_sector L x)) x (sym (at_here x) ∙ h)

  pub here_held : (x : ℕ) → held L logs x ≡ true → Held (ring L n u) c x
  here_held x h = at_here x ∙ eqb-true (held_by L logs (log_sector L x)) x h

  pub free_here : (x : ℕ) → (Held (ring L n u) c x → ⊥) → held L logs x ≡ false
  free_here x h = ne_eqb (held_by L logs (log_sector L x)) x (λ e. h (at_here x ∙ e))

  -- the length of the record at a position
  pub len_here : (x : ℕ) → len (c (volume_sector L x)) ≡ cond (is_header (at L logs x)) (1 + (log_header L logs x).length / 512) 0
  len_here x = ap (λ b. cond (is_header b) (1 + (header_of b).length / 512) 0) (here x)

  header_here : (x : ℕ) → 1 ≤ len (c (volume_sector L x)) → (is_header (at L logs x) ≡ true) × (x + len (c (volume_sector L x)) ≡ end_of (log_header L logs x) x)
  header_here x h = go (is_header (at L logs x)) refl
    where
      go : (b : Bool) → is_header (at L logs x) ≡ b → (is_header (at L logs x) ≡ true) × (x + len (c (volume_sector L x)) ≡ end_of (log_header L logs x) x)
      go true e =
          let w : len (c (volume_sector L x)) ≡ 1 + (log_header L logs x).length / 512 = len_here x ∙ cond-true (is_header (at L logs x)) (1 + (log_header L logs x).length / 512) 0 e in
          (e, omega (arith, w))
      go false e =
          let w : len (c (volume_sector L x)) ≡ 0 = len_here x ∙ cond-false (is_header (at L logs x)) (1 + (log_header L logs x).length / 512) 0 e in
          let z : ⊥ = omega (arith, w, h) in elim z [ ]

  sound_here : (x : ℕ) → (ring L n u).sound x (c (volume_sector L x)) ≡ true → records.sound L (log_header L logs x) x ≡ true
  sound_here x e = ap (λ b. records.sound L (header_of b) x) (sym (here x)) ∙ e

  later_here : (h x : ℕ) → (len (c (volume_sector L x)) ≡ 0) ⊎ (((ring L n u).sound x (c (volume_sector L x)) ≡ true) × (h < x + len (c (volume_sector L x)))) →
      (is_header (at L logs x) ≡ false) ⊎ ((records.sound L (log_header L logs x) x ≡ true) × (h < end_of (log_header L logs x) x))
  later_here h x (inl e) = go (is_header (at L logs x)) refl
    where
      go : (b : Bool) → is_header (at L logs x) ≡ b → (is_header (at L logs x) ≡ false) ⊎ ((records.sound L (log_header L logs x) x ≡ true) × (h < end_of (log_header L logs x) x))
      go false q = inl q
      go true q =
          let w : len (c (volume_sector L x)) ≡ 1 + (log_header L logs x).length / 512 = len_here x ∙ cond-true (is_header (at L logs x)) (1 + (log_header L logs x).length / 512) 0 q in
          let z : ⊥ = omega (arith, w, e) in elim z [ ]
  later_here h x (inr e) = go (is_header (at L logs x)) refl
    where
      go : (b : Bool) → is_header (at L logs x) ≡ b → (is_header (at L logs x) ≡ false) ⊎ ((records.sound L (log_header L logs x) x ≡ true) × (h < end_of (log_header L logs x) x))
      go false q = inl q
      go true q =
          let w : len (c (volume_sector L x)) ≡ 1 + (log_header L logs x).length / 512 = len_here x ∙ cond-true (is_header (at L logs x)) (1 + (log_header L logs x).length / 512) 0 q in
          inr (sound_here x e.0, omega (arith, w, e.1))

  module _ (m h k e t : ℕ) (chain : List Rec) (P : Plan (real L n bank u) c m h k e t chain) where
    -- no cycle is too high
    low_here : (i : ℕ) → i < L.count → held_cycle (get_or logs i []) < 2147483648
    low_here i l =
        let x : ℕ = held_by L logs i in
        let own : log_sector L x ≡ i = digits_mod (held_cycle (get_or logs i [])) l in
        let o : held L logs x ≡ true = eq-eqb (held_by L logs (log_sector L x)) x (ap (held_by L logs) own) in
        let b : x ≤ m = P.greatest.most x (here_held x o) in
        let q : x / L.count ≡ held_cycle (get_or logs i []) = digits_div (held_cycle (get_or logs i [])) l in
        omega (arith, q, cycle_low L x (sane L n u).some (omega (arith, b, P.greatest.low)))

    -- the tail's sector is on the log
    tail_here : (log_header L logs k).tail.1 < L.count
    tail_here =
        let s = newest_stands (real L n bank u) c h k e t chain P.newest P.ends P.chained P.before in
        let r : Rec = s.0 in
        let i : k + 0 ≡ k = omega arith in
        let w : at L logs k ≡ head_of L n u r s.1.0 k s.1.1 =
        sym (here k) ∙ ap (λ x. bytes_of (c (volume_sector L x))) (sym i) ∙ ap bytes_of (s.1.2 0 (omega arith)) ∙ first_is L n u r s.1.0 k s.1.1 in
        subst (λ (b : List ℕ). (header_of b).tail.1 < L.count) (sym w) (back L n u r s.1.0 k s.1.1).tells_low

    abbrev found : Found
    found = record { log = logs; M = m; h = h; n = k; e = e; t = t }

    cohere_here : (x : ℕ) → m < x + L.count → x ≤ m → Held (ring L n u) c x ⊎ ((log.at (ring L n u) c x + L.count ≡ x) × (m < x + L.window)) →
        (held L logs x ≡ true) ⊎ ((held_by L logs (log_sector L x) + L.count ≡ x) × (m < x + L.window))
    cohere_here x a b (inl o) = inl (held_here x o)
    cohere_here x a b (inr o) = inr (ap (λ y. y + L.count) (sym (at_here x)) ∙ o.0, o.1)

    words : Searched L found
    words =
        let w = header_here k P.newest.header in
        record {
          top = held_here m P.greatest.held;
          most = λ x o. P.greatest.most x (here_held x o);
          coherent = λ x a b. cohere_here x a b (P.coherent x a b);
          near = P.head.near;
          free = free_here h P.head.free;
          full = λ x a b. held_here x (P.head.full x a b);
          header = w.0;
          sound_one = sound_here k P.newest.sound;
          within = P.within;
          by_head = omega (arith, P.ends, P.newest.ends);
          later = λ x a b. later_here h x (P.newest.first x a b);
          end = P.ends ∙ w.1;
          tail = P.told ∙ ap (λ b. tail_of L (header_of b)) (here k);
          range = P.range;
          before = P.before;
        }

    searched : search_log L logs ≡ Ok found
    searched = search_finds L found (omega (arith, (limited L n u).room)) (limited L n u).half words low_here tail_here

pub seek_plans : (L : Label) (n : ℕ) (bank : Bank) (u : Usable L n) → SeekPlans L (real L n bank u)
seek_plans L n bank u c logs m h k e t chain has P = searched L n bank u c logs has m h k e t chain P
