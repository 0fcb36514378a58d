-- The search of a log that a life has left finds a greatest position and a head, and a coherent log.
use Rattle.std.proofs.Common.{◌≡◌, ℕ, zero, suc, ◌+◌, ◌-◌, ◌<◌, ◌≤◌, ◌⊎◌, sym, refl, ap, ◌∙◌, subst, inl, inr, ⊎_elim, arith}
use native.Mathlib.Decide.{ℕ_discrete, dec_le, dec_lt}
use Rattle.life.specs.Disk.{Sector}
use Rattle.life.specs.Log.{Ring, limit, at, Held, Greatest, Coherent, Head}

-- contents of a log in a life: all below a are held, from a to b each is held or its sector still has the turn before; u is not held
pub record Marks (g : Ring) (a u b : ℕ) (c : ℕ → Sector) : Type 0 where
  pub begun : 1 ≤ a
  pub low : a ≤ u
  pub high : u ≤ b
  pub window : b ≤ a + g.W
  pub turn : g.N ≤ b
  pub old : (x : ℕ) → b ≤ x + g.N → x < a → Held g c x
  pub new : (x : ℕ) → a ≤ x → x < b → Held g c x ⊎ (at g c x + g.N ≡ x)
  pub free : Held g c u → ⊥
  pub limited : (x : ℕ) → a ≤ x + 1 → x < b → Held g c x → x < limit g

-- what the search finds
pub record Found (g : Ring) (a u b : ℕ) (c : ℕ → Sector) (m h : ℕ) : Type 0 where
  pub greatest : Greatest g c m
  pub coherent : Coherent g c m
  pub head : Head g c m h
  pub from : a ≤ h
  pub upto : h ≤ u
  pub top : m < b
  pub least : a ≤ m + 1

-- one turn on: the same sector
pub same_at : (g : Ring) (c : ℕ → Sector) (x : ℕ) → at g c (x + g.N) ≡ at g c x
same_at g c x = ap (λ (i : ℕ). g.pos i (c i)) (g.period x)

-- each position's sector has a position among the N below b
up : (g : Ring) (b f x : ℕ) → b ≤ x + f → x < b → (y : ℕ) × (b ≤ y + g.N) × (y < b) × (g.slot y ≡ g.slot x)
up g b zero x h k = absurd (omega arith)
up g b (suc f) x h k = go (dec_le b (x + g.N)) (up g b f (x + g.N))
  where
    narrow : g.W < g.N
    narrow = g.narrow

    go : Dec (b ≤ x + g.N) → (b ≤ x + g.N + f → x + g.N < b → (y : ℕ) × (b ≤ y + g.N) × (y < b) × (g.slot y ≡ g.slot (x + g.N))) →
        (y : ℕ) × (b ≤ y + g.N) × (y < b) × (g.slot y ≡ g.slot x)
    go (yes p) ih = (x, p, k, refl)
    go (no p) ih =
        let q : x + g.N < b = omega arith in
        let r : b ≤ x + g.N + f = omega arith in
        let z = ih r q in
        (z.0, z.1, z.2, z.3 ∙ g.period x)

-- any position's sector has one there
pub rep : (g : Ring) (b f x : ℕ) → g.N ≤ b → x < b + f → (y : ℕ) × (b ≤ y + g.N) × (y < b) × (g.slot y ≡ g.slot x)
rep g b zero x h k = up g b b x (omega arith) (omega arith)
rep g b (suc f) x h k = go (dec_lt x b) (rep g b f (x - g.N) h)
  where
    narrow : g.W < g.N
    narrow = g.narrow

    go : Dec (x < b) → (x - g.N < b + f → (y : ℕ) × (b ≤ y + g.N) × (y < b) × (g.slot y ≡ g.slot (x - g.N))) →
        (y : ℕ) × (b ≤ y + g.N) × (y < b) × (g.slot y ≡ g.slot x)
    go (yes p) ih = up g b b x (omega arith) p
    go (no p) ih =
        let q : x - g.N < b + f = omega arith in
        let z = ih q in
        let e : x - g.N + g.N ≡ x = omega arith in
        (z.0, z.1, z.2, z.3 ∙ sym (g.period (x - g.N)) ∙ ap g.slot e)

module _ (g : Ring) (a u b : ℕ) (c : ℕ → Sector) (k : Marks g a u b c) where
  -- the greatest position held among those below a + i
  top : (i : ℕ) → a + i ≤ b → (m : ℕ) × (a ≤ m + 1) × (m < a + i) × Held g c m × ((x : ℕ) → m < x → x < a + i → Held g c x → ⊥)
  top zero h =
      let w : b ≤ a + g.W = k.window in
      let w2 : g.W < g.N = g.narrow in
      let w3 : 1 ≤ a = k.begun in
      let m : ℕ = a - 1 in
      let q : b ≤ a - 1 + g.N = omega arith in
      let r : a - 1 < a = omega arith in
      (a - 1, omega arith, omega arith, k.old (a - 1) q r, λ x p o e. omega arith)
  top (suc i) h = go (ℕ_discrete (at g c (a + i)) (a + i)) (top i (omega arith))
    where
      go : Dec (Held g c (a + i)) → ((m : ℕ) × (a ≤ m + 1) × (m < a + i) × Held g c m × ((x : ℕ) → m < x → x < a + i → Held g c x → ⊥)) →
          (m : ℕ) × (a ≤ m + 1) × (m < a + suc i) × Held g c m × ((x : ℕ) → m < x → x < a + suc i → Held g c x → ⊥)
      go (yes e) ih = (a + i, omega arith, omega arith, e, λ x p o e. absurd (omega arith))
      go (no n) ih = (ih.0, ih.1, omega (arith, ih.2), ih.3, λ x p o e. other x p o e (ℕ_discrete x (a + i)))
        where
          other : (x : ℕ) → ih.0 < x → x < a + suc i → Held g c x → Dec (x ≡ a + i) → ⊥
          other x p o e (yes q) = n (subst (λ (y : ℕ). Held g c y) q e)
          other x p o e (no q) = let r : x < a + i = omega arith in ih.4 x p r e

  -- the least position from a on that is not held
  gap : (i y : ℕ) → u ≡ y + i → a ≤ y → ((x : ℕ) → a ≤ x → x < y → Held g c x) →
      (h : ℕ) × (a ≤ h) × (h ≤ u) × (Held g c h → ⊥) × ((x : ℕ) → a ≤ x → x < h → Held g c x)
  gap zero y e l f = (u, omega arith, omega arith, k.free, λ x p q. let r : x < y = omega arith in f x p r)
  gap (suc i) y e l f = go (ℕ_discrete (at g c y) y) (gap i (y + 1) (omega arith) (omega arith))
    where
      go : Dec (Held g c y) →
          (((x : ℕ) → a ≤ x → x < y + 1 → Held g c x) → (h : ℕ) × (a ≤ h) × (h ≤ u) × (Held g c h → ⊥) × ((x : ℕ) → a ≤ x → x < h → Held g c x)) →
          (h : ℕ) × (a ≤ h) × (h ≤ u) × (Held g c h → ⊥) × ((x : ℕ) → a ≤ x → x < h → Held g c x)
      go (no n) ih = (y, l, omega arith, n, f)
      go (yes p) ih = ih (λ x q r. more x q r (ℕ_discrete x y))
        where
          more : (x : ℕ) → a ≤ x → x < y + 1 → Dec (x ≡ y) → Held g c x
          more x q r (yes s) = subst (λ (z : ℕ). Held g c z) (sym s) p
          more x q r (no s) = let v : x < y = omega arith in f x q v

  -- the sector of a position above the greatest still has the turn before
  module _ (m : ℕ) (least : a ≤ m + 1) (mb : m < b) (none : (x : ℕ) → m < x → x < b → Held g c x → ⊥) where
    before : (x : ℕ) → m < x → x < b → at g c x + g.N ≡ x
    before x p q = go (k.new x (omega arith) q)
      where
        go : Held g c x ⊎ (at g c x + g.N ≡ x) → at g c x + g.N ≡ x
        go (inl e) = absurd (none x p q e)
        go (inr e) = e

    -- all positions up to m that are near enough are held or one turn behind
    near : (x : ℕ) → m < x + g.N → x ≤ m → Held g c x ⊎ ((a ≤ x) × (at g c x + g.N ≡ x))
    near x p q = go (dec_le b (x + g.N)) (dec_lt x a)
      where
        go : Dec (b ≤ x + g.N) → Dec (x < a) → Held g c x ⊎ ((a ≤ x) × (at g c x + g.N ≡ x))
        go (yes r) (yes s) = inl (k.old x r s)
        go (yes r) (no s) = let t : a ≤ x = omega arith in ⊎_elim inl (λ e. inr (t, e)) (k.new x t (omega arith))
        go (no r) d = inl (let e = before (x + g.N) p (omega arith) in let f = same_at g c x in omega arith)

    -- it is the greatest of all
    greatest : Held g c m → Greatest g c m
    greatest e = record { held = e; most = most; low = k.limited m least mb e }
      where
        most : (x : ℕ) → Held g c x → x ≤ m
        most x e = go (rep g b (x + 1) x k.turn (omega arith))
          where
            go : ((y : ℕ) × (b ≤ y + g.N) × (y < b) × (g.slot y ≡ g.slot x)) → x ≤ m
            go (y, p, q, s) = by (dec_le y m)
              where
                is : at g c y ≡ x
                is = ap (λ (i : ℕ). g.pos i (c i)) s ∙ e

                by : Dec (y ≤ m) → x ≤ m
                by (yes r) = ⊎_elim (λ (h : Held g c y). let i = is in omega arith) (λ h. let i = is in omega (arith, h.1)) (near y (omega arith) r)
                by (no r) =
                    let f : at g c y + g.N ≡ y = before y (omega arith) q in
                    let i = is in
                    let w : b ≤ a + g.W = k.window in
                    let w2 : g.W < g.N = g.narrow in
                    omega arith

    -- and the log is coherent
    coherent : Coherent g c m
    coherent x p q = ⊎_elim inl (λ e. inr (e.1, let w : b ≤ a + g.W = k.window in let l : a ≤ x = e.0 in omega arith)) (near x p q)

  -- the search succeeds, with the head between a and u
  pub search_finds : (m : ℕ) × (h : ℕ) × Found g a u b c m h
  search_finds = go (top (b - a) (omega (arith, k.low, k.high))) (gap (u - a) a (omega (arith, k.low)) (omega arith) (λ x p q. absurd (omega arith)))
    where
      go : ((m : ℕ) × (a ≤ m + 1) × (m < a + (b - a)) × Held g c m × ((x : ℕ) → m < x → x < a + (b - a) → Held g c x → ⊥)) →
          ((h : ℕ) × (a ≤ h) × (h ≤ u) × (Held g c h → ⊥) × ((x : ℕ) → a ≤ x → x < h → Held g c x)) →
          (m : ℕ) × (h : ℕ) × Found g a u b c m h
      go (m, least, mb, held, none) (h, from, upto, free, full) = (
        m,
        h,
        record {
          greatest = greatest m least below none' held;
          coherent = coherent m least below none';
          head = record { near = near'; free = free; full = full' };
          from = from;
          upto = upto;
          top = below;
          least = least;
        },
      )
        where
          ab : a ≤ b
          ab = omega (arith, k.low, k.high)

          below : m < b
          below = let e = ab in omega arith

          none' : (x : ℕ) → m < x → x < b → Held g c x → ⊥
          none' x p q = let e = ab in none x p (omega arith)

          near' : m + 1 ≤ h + g.W
          near' = let e = below in omega (arith, k.window)

          full' : (x : ℕ) → m + 1 ≤ x + g.W → x < h → Held g c x
          full' x p q = by (dec_le a x)
            where
              by : Dec (a ≤ x) → Held g c x
              by (yes r) = full x r q
              by (no r) = ⊎_elim (λ e. e) (λ e. absurd (r e.0)) (near m least below none' x (omega (arith, g.narrow)) (omega arith))
