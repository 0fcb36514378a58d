-- Laying, byte by byte. Assumes nothing.
use Rattle.std.proofs.Common.{◌≡◌, ℕ, zero, suc, ◌+◌, ◌-◌, ◌*◌, ◌/◌, ◌%◌, ◌<◌, ◌≤◌, Bool, true, false, cond, leb, ◌⊎◌, List, [], ◌∷◌, ◌++◌, map, length, get_or, take, drop, set, Some, None, Option, sym, refl, ap, ◌∙◌, subst, inl, inr, zero-le, arith}
use Rattle.std.proofs.lemmas.List.{get_or-take, get_or-drop, get_or-set_same, get_or-set_other, get_or_past, length-set, drop_all}
use Rattle.std.proofs.lemmas.Bool.{both_ways, cases_lt, cases_eq, le-leb, lt-leb, cond-true, cond-false}
use Rattle.std.specs.List.{AllByRecursion}
use Rattle.device.specs.State.{Sector, holds, unreadable, bytes_of}
use Rattle.device.specs.Actions.{Action, write, force, effect}
use Rattle.model.specs.Items.{Patch, covered_from, cover_of, gives_any}
use Rattle.model.specs.Lay.{give, overlay, patch_write, patch_writes, lays}
use Rattle.model.specs.Laws.{byte_at, start_of, given, laid, Ready, LaysBytes, LaidSays}

length_overlay : (os : List (Option ℕ)) (b : List ℕ) → length (overlay os b) ≡ length b
length_overlay os [] = refl
length_overlay [] (b ∷ bs) = refl
length_overlay (o ∷ os) (b ∷ bs) = ap suc (length_overlay os bs)

overlay_at : (os : List (Option ℕ)) (b : List ℕ) (o : ℕ) → o < length b → get_or (overlay os b) o 0 ≡ give (get_or os o None) (get_or b o 0)
overlay_at os [] o h = omega arith
overlay_at [] (b ∷ bs) o h = refl
overlay_at (v ∷ os) (b ∷ bs) zero h = refl
overlay_at (v ∷ os) (b ∷ bs) (suc o) h = overlay_at os bs o (omega arith)

none_there : (os : List (Option ℕ)) (o : ℕ) → gives_any os ≡ false → get_or os o None ≡ None
none_there [] o e = refl
none_there (None ∷ os) zero e = refl
none_there (None ∷ os) (suc o) e = none_there os o e
none_there (Some v ∷ os) o e = let z : get_or (Some v ∷ os) o None ≡ None = cc in z

in_reach : (c : List Sector) (i : ℕ) (b : List ℕ) → get_or c i unreadable ≡ holds b → i < length c
in_reach c i b e = go (cases_lt i (length c))
  where
    go : (i < length c) ⊎ (length c ≤ i) → i < length c
    go (inl h) = h
    go (inr h) = let p : get_or c i unreadable ≡ unreadable = get_or_past c i unreadable h in
        let z : ◌≡◌ {A = ℕ} 0 1 = cc in omega arith

effect-++ : (a b : List Action) (c : List Sector) → effect (a ++ b) c ≡ effect b (effect a c)
effect-++ [] b c = refl
effect-++ (write i s ∷ a) b c = effect-++ a b (set c i (holds s))
effect-++ (force ∷ a) b c = effect-++ a b c

-- The writes of one patch, those of n sectors of its range from k on, over contents e; what is written is made from c.
module _ (p : Patch) (c : List Sector) where
  abbrev new : ℕ → Sector
  new j = holds (overlay (cover_of p.cover j) (bytes_of (get_or c (start_of p + j) unreadable)))

  abbrev put : List Sector → ℕ → ℕ → List Sector
  put e k n = effect (map (patch_write p c) (covered_from p.cover k n)) e

  put_step : (e : List Sector) (k n : ℕ) → put e k (suc n) ≡ put (cond (gives_any (cover_of p.cover k)) (set e (start_of p + k) (new k)) e) (k + 1) n
  put_step e k n = go (gives_any (cover_of p.cover k))
    where
      go : (t : Bool) → effect (map (patch_write p c) (cond t (k ∷ []) [] ++ covered_from p.cover (k + 1) n)) e ≡ put (cond t (set e (start_of p + k) (new k)) e) (k + 1) n
      go true = refl
      go false = refl

  -- below the sectors that are written
  put_below : (e : List Sector) (k n i : ℕ) → i < start_of p + k → get_or (put e k n) i unreadable ≡ get_or e i unreadable
  put_below e k zero i h = refl
  put_below e k (suc n) i h =
      ap (λ x. get_or x i unreadable) (put_step e k n)
      ∙ put_below (cond (gives_any (cover_of p.cover k)) (set e (start_of p + k) (new k)) e) (k + 1) n i (omega arith)
      ∙ go (gives_any (cover_of p.cover k))
    where
      go : (t : Bool) → get_or (cond t (set e (start_of p + k) (new k)) e) i unreadable ≡ get_or e i unreadable
      go true = get_or-set_other e (start_of p + k) i (new k) unreadable (λ z. omega arith)
      go false = refl

  abbrev at : ℕ → Bool
  at j = gives_any (cover_of p.cover j)

  abbrev one : List Sector → ℕ → List Sector
  one e k = cond (at k) (set e (start_of p + k) (new k)) e

  one_length : (e : List Sector) (k : ℕ) → length (one e k) ≡ length e
  one_length e k = go (at k)
    where
      go : (t : Bool) → length (cond t (set e (start_of p + k) (new k)) e) ≡ length e
      go true = length-set e (start_of p + k) (new k)
      go false = refl

  one_other : (e : List Sector) (k i : ℕ) → (i ≡ start_of p + k → ⊥) → get_or (one e k) i unreadable ≡ get_or e i unreadable
  one_other e k i h = go (at k)
    where
      go : (t : Bool) → get_or (cond t (set e (start_of p + k) (new k)) e) i unreadable ≡ get_or e i unreadable
      go true = get_or-set_other e (start_of p + k) i (new k) unreadable h
      go false = refl

  one_same : (e : List Sector) (k : ℕ) → (at k ≡ true → start_of p + k < length e) →
      get_or (one e k) (start_of p + k) unreadable ≡ cond (at k) (new k) (get_or e (start_of p + k) unreadable)
  one_same e k h = go (at k) h
    where
      go : (t : Bool) → (t ≡ true → start_of p + k < length e) →
          get_or (cond t (set e (start_of p + k) (new k)) e) (start_of p + k) unreadable ≡ cond t (new k) (get_or e (start_of p + k) unreadable)
      go true r = get_or-set_same e (start_of p + k) (new k) unreadable (r refl)
      go false r = refl

  -- each sector from the first of them on
  put_at : (e : List Sector) (k n m : ℕ) → k ≤ m → (at m ≡ true → (m < k + n) × (start_of p + m < length e)) →
      get_or (put e k n) (start_of p + m) unreadable ≡ cond (at m) (new m) (get_or e (start_of p + m) unreadable)
  put_at e k zero m h r = go (at m) r
    where
      go : (t : Bool) → (t ≡ true → (m < k + 0) × (start_of p + m < length e)) →
          get_or e (start_of p + m) unreadable ≡ cond t (new m) (get_or e (start_of p + m) unreadable)
      go true r = let l = (r refl).0 in let x : ⊥ = omega arith in elim x [ ]
      go false r = refl
  put_at e k (suc n) m h r =
      ap (λ x. get_or x (start_of p + m) unreadable) (put_step e k n) ∙ go (cases_eq k m) (λ l. put_at (one e k) (k + 1) n m l)
    where
      go : (k ≡ m) ⊎ (k ≡ m → ⊥) →
          (k + 1 ≤ m → (at m ≡ true → (m < k + 1 + n) × (start_of p + m < length (one e k))) →
          get_or (put (one e k) (k + 1) n) (start_of p + m) unreadable ≡ cond (at m) (new m) (get_or (one e k) (start_of p + m) unreadable)) →
          get_or (put (one e k) (k + 1) n) (start_of p + m) unreadable ≡ cond (at m) (new m) (get_or e (start_of p + m) unreadable)
      go (inl q) ih =
          let P : ℕ → Type 0 = λ m. (at m ≡ true → start_of p + m < length e) →
          get_or (put (one e k) (k + 1) n) (start_of p + m) unreadable ≡ cond (at m) (new m) (get_or e (start_of p + m) unreadable) in
          subst P q (λ s. put_below (one e k) (k + 1) n (start_of p + k) (omega arith) ∙ one_same e k s) (λ s. (r s).1)
      go (inr q) ih =
          let l : k + 1 ≤ m = go_le (cases_lt k m) in
          let w : (at m ≡ true → (m < k + 1 + n) × (start_of p + m < length (one e k))) =
          λ s. (let u = (r s).0 in omega arith, let v = (r s).1 in omega (arith, one_length e k)) in
          ih l w ∙ ap (cond (at m) (new m)) (one_other e k (start_of p + m) (λ z. q (omega arith)))
        where
          go_le : (k < m) ⊎ (m ≤ k) → k + 1 ≤ m
          go_le (inl a) = omega arith
          go_le (inr a) = let e : k ≡ m = omega arith in let x : ⊥ = q e in elim x [ ]

module _ (p : Patch) (c : List Sector) (w : Ready c p) where
  abbrev len : ℕ
  len = p.key.length

  -- a sector of the range that is covered
  covered_low : (m : ℕ) → at p c m ≡ true → m < len
  covered_low m t = go (cases_lt (512 * m) (length p.cover))
    where
      go : (512 * m < length p.cover) ⊎ (length p.cover ≤ 512 * m) → m < len
      go (inl h) = omega (arith, w.whole)
      go (inr h) =
          let e : at p c m ≡ false = ap (λ l. gives_any (take 512 l)) (drop_all (512 * m) p.cover h) in
          let x : ⊥ = both_ways (at p c m) e t in elim x [ ]

  -- what the patch leaves of a byte of its sector m
  in_sector : (m o : ℕ) → o < 512 →
      get_or (bytes_of (get_or (put p c c 0 len) (start_of p + m) unreadable)) o 0
      ≡ give (get_or p.cover (512 * m + o) None) (get_or (bytes_of (get_or c (start_of p + m) unreadable)) o 0)
  in_sector m o h =
      ap (λ s. get_or (bytes_of s) o 0)
      (put_at p c c 0 len m zero-le (λ t. (let l = covered_low m t in omega arith, in_reach c (start_of p + m) (w.readable m t).0 (w.readable m t).1)))
      ∙ go (at p c m) refl
      ∙ ap (λ v. give v (get_or (bytes_of (get_or c (start_of p + m) unreadable)) o 0)) (get_or-take 512 (drop (512 * m) p.cover) o None h ∙ get_or-drop (512 * m) p.cover o None)
    where
      go : (t : Bool) → at p c m ≡ t →
          get_or (bytes_of (cond t (new p c m) (get_or c (start_of p + m) unreadable))) o 0
          ≡ give (get_or (cover_of p.cover m) o None) (get_or (bytes_of (get_or c (start_of p + m) unreadable)) o 0)
      go true e =
          let l : length (bytes_of (get_or c (start_of p + m) unreadable)) ≡ 512 = ap (λ s. length (bytes_of s)) (w.readable m e).1 ∙ (w.readable m e).2 in
          overlay_at (cover_of p.cover m) (bytes_of (get_or c (start_of p + m) unreadable)) o (omega arith)
      go false e = ap (λ v. give v (get_or (bytes_of (get_or c (start_of p + m) unreadable)) o 0)) (sym (none_there (cover_of p.cover m) o e))

  patch_byte : (x : ℕ) → byte_at (effect (patch_writes p c) c) x ≡ give (given p x) (byte_at c x)
  patch_byte x = go (cases_lt (x / 512) (start_of p))
    where
      go : (x / 512 < start_of p) ⊎ (start_of p ≤ x / 512) → byte_at (put p c c 0 len) x ≡ give (given p x) (byte_at c x)
      go (inl h) =
          let l : x < 512 * start_of p = omega arith in
          ap (λ s. get_or (bytes_of s) (x % 512) 0) (put_below p c c 0 len (x / 512) (omega arith))
          ∙ ap (λ v. give v (byte_at c x)) (sym (cond-false (leb (512 * start_of p) x) (get_or p.cover (x - 512 * start_of p) None) None (lt-leb (512 * start_of p) x l)))
      go (inr h) =
          let m : ℕ = x / 512 - start_of p in
          let i : x / 512 ≡ start_of p + m = omega arith in
          let l : 512 * start_of p ≤ x = omega arith in
          let q : 512 * m + x % 512 ≡ x - 512 * start_of p = omega arith in
          ap (λ k. get_or (bytes_of (get_or (put p c c 0 len) k unreadable)) (x % 512) 0) i
          ∙ in_sector m (x % 512) (omega arith)
          ∙ ap (λ k. give (get_or p.cover k None) (get_or (bytes_of (get_or c (start_of p + m) unreadable)) (x % 512) 0)) q
          ∙ ap (λ k. give (get_or p.cover (x - 512 * start_of p) None) (get_or (bytes_of (get_or c k unreadable)) (x % 512) 0)) (sym i)
          ∙ ap (λ v. give v (byte_at c x)) (sym (cond-true (leb (512 * start_of p) x) (get_or p.cover (x - 512 * start_of p) None) None (le-leb (512 * start_of p) x l)))

-- a sector of 512 bytes stays one
abbrev Full : List Sector → ℕ → Type 0
Full c i = (b : List ℕ) × (get_or c i unreadable ≡ holds b) × (length b ≡ 512)

full_writes : (p : Patch) (c e : List Sector) (k n i : ℕ) → Full c i → Full e i → Full (put p c e k n) i
full_writes p c e k zero i f g = g
full_writes p c e k (suc n) i f g =
    subst (λ (x : List Sector). Full x i) (sym (put_step p c e k n)) (full_writes p c (one p c e k) (k + 1) n i f (go (at p c k) (cases_eq i (start_of p + k))))
  where
    go : (t : Bool) → (i ≡ start_of p + k) ⊎ (i ≡ start_of p + k → ⊥) → Full (cond t (set e (start_of p + k) (new p c k)) e) i
    go false q = g
    go true (inr q) = (g.0, get_or-set_other e (start_of p + k) i (new p c k) unreadable q ∙ g.1, g.2)
    go true (inl q) =
        let s : start_of p + k < length e = in_reach e (start_of p + k) g.0 (ap (λ j. get_or e j unreadable) (sym q) ∙ g.1) in
        let b : List ℕ = bytes_of (get_or c (start_of p + k) unreadable) in
        let l : length b ≡ 512 = ap (λ j. length (bytes_of (get_or c j unreadable))) (sym q) ∙ ap (λ x. length (bytes_of x)) f.1 ∙ f.2 in (
          overlay (cover_of p.cover k) b,
          ap (λ j. get_or (set e (start_of p + k) (new p c k)) j unreadable) q ∙ get_or-set_same e (start_of p + k) (new p c k) unreadable s,
          length_overlay (cover_of p.cover k) b ∙ l,
        )

ready_after : (p : Patch) (c : List Sector) (ps : List Patch) → AllByRecursion (Ready c) ps → AllByRecursion (Ready (effect (patch_writes p c) c)) ps
ready_after p c [] a = tt
ready_after p c (q ∷ ps) a =
    (record { whole = a.0.whole; readable = λ j t. full_writes p c c 0 p.key.length (start_of q + j) (a.0.readable j t) (a.0.readable j t) }, ready_after p c ps a.1)

pub lays_bytes : LaysBytes
lays_bytes [] c a x = refl
lays_bytes (p ∷ ps) c a x =
    ap (λ e. byte_at e x) (effect-++ (patch_writes p c) (lays ps (effect (patch_writes p c) c)) c)
    ∙ lays_bytes ps (effect (patch_writes p c) c) (ready_after p c ps a.1) x
    ∙ ap (laid ps x) (patch_byte p c a.0 x)

laid_bare : (ps : List Patch) (x v : ℕ) → AllByRecursion (λ p. given p x ≡ None) ps → laid ps x v ≡ v
laid_bare [] x v a = refl
laid_bare (p ∷ ps) x v a = ap (λ o. laid ps x (give o v)) a.0 ∙ laid_bare ps x v a.1

laid_last : (front rest : List Patch) (p : Patch) (x v w : ℕ) → given p x ≡ Some w → AllByRecursion (λ q. given q x ≡ None) rest → laid (front ++ (p ∷ rest)) x v ≡ w
laid_last [] rest p x v w e a = ap (λ o. laid rest x (give o v)) e ∙ laid_bare rest x w a
laid_last (q ∷ front) rest p x v w e a = laid_last front rest p x (give (given q x) v) w e a

pub laid_says : LaidSays
laid_says ps x v = record { bare = laid_bare ps x v; last = λ front rest p w q e a. ap (λ l. laid l x v) q ∙ laid_last front rest p x v w e a }
