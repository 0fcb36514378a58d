-- Records written one after the other, the sectors that they stand in, and the newest that the search finds.
use Rattle.std.proofs.Common.{◌≡◌, ℕ, suc, ◌+◌, ◌-◌, ◌<◌, ◌≤◌, true, ◌⊎◌, List, [], ◌∷◌, ◌++◌, sym, refl, ap, ◌∙◌, subst, inl, inr, append_assoc, add-zero, arith}
use native.Mathlib.Decide.{ℕ_discrete, dec_le, dec_lt}
use Rattle.life.specs.Disk.{Sector, Whole}
use Rattle.life.specs.Log.{limit, Newest}
use Rattle.life.specs.Format.{Rec, size, Fits, Format, sector, slot}

-- records that were written one after the other, each with the tail that it tells
pub record Tile : Type 0 where
  pub body : Rec
  pub tail : ℕ

-- the sectors of such records
abbrev pub width : List Tile → ℕ
width [] = 0
width (r ∷ rs) = size r.body + width rs

-- s is the sector at position x of the records that stand from p on
abbrev pub Part : Format → ℕ → List Tile → ℕ → Sector → Type 0
Part F p [] x s = ⊥
Part F p (r ∷ rs) x s =
    ((j : ℕ) × (j < size r.body) × (x ≡ p + j) × (s ≡ sector F r.body r.tail p j) × Fits F.ring r.body r.tail p) ⊎ Part F (p + size r.body) rs x s

-- what the sector of position x may have held: below a only what holds x, and from t on only the records' own; from a on that, or what holds the
-- position a turn before
pub record Okay (F : Format) (t : ℕ) (tiles : List Tile) (a x : ℕ) (s : Sector) : Type 0 where
  pub whole : Whole s
  pub held : x < a → F.ring.pos (slot F x) s ≡ x
  pub part : t ≤ x → x < a → Part F t tiles x s
  pub new : a ≤ x → Part F t tiles x s ⊎ (F.ring.pos (slot F x) s + F.ring.N ≡ x)

-- the numbers of a log in a life: all below a is settled, nothing from b on was written, u cannot come to be held
pub record Numbers (F : Format) (t : ℕ) (tiles : List Tile) (a u b : ℕ) : Type 0 where
  pub begun : t < a
  pub low : a ≤ u
  pub high : u ≤ b
  pub window : b ≤ a + F.ring.W
  pub turn : F.ring.N ≤ t
  pub room : b ≤ t + F.ring.N
  pub long : b ≤ t + width tiles

-- the records alone
abbrev pub tile_bodies : List Tile → List Rec
tile_bodies [] = []
tile_bodies (r ∷ l) = r.body ∷ tile_bodies l

-- of two lists
pub width-++ : (l m : List Tile) → width (l ++ m) ≡ width l + width m
width-++ [] m = omega arith
width-++ (r ∷ l) m = let e = width-++ l m in omega arith

-- they stand from p on
pub part_low : (F : Format) (p : ℕ) (l : List Tile) (x : ℕ) (s : Sector) → Part F p l x s → p ≤ x
part_low F p [] x s h = absurd h
part_low F p (r ∷ l) x s (inl h) = let e = h.2 in omega arith
part_low F p (r ∷ l) x s (inr h) = let e = part_low F (p + size r.body) l x s h in omega arith

-- each holds its position
pub part_pos : (F : Format) (p : ℕ) (l : List Tile) (x : ℕ) (s : Sector) → Part F p l x s → F.ring.pos (slot F x) s ≡ x
part_pos F p [] x s h = absurd h
part_pos F p (r ∷ l) x s (inl (j, lt, e, q, fit)) =
    ap (λ (z : Sector). F.ring.pos (slot F x) z) q ∙ ap (λ (y : ℕ). F.ring.pos (slot F y) (sector F r.body r.tail p j)) e
    ∙ F.sec_pos r.body r.tail p j fit lt ∙ sym e
part_pos F p (r ∷ l) x s (inr h) = part_pos F (p + size r.body) l x s h

-- its sectors can be read, and lie below cycle 2^31
pub part_whole : (F : Format) (p : ℕ) (l : List Tile) (x : ℕ) (s : Sector) → Part F p l x s → Whole s × (x < limit F.ring)
part_whole F p [] x s h = absurd h
part_whole F p (r ∷ l) x s (inl (j, lt, e, q, fit)) =
    (subst (λ (z : Sector). Whole z) (sym q) (F.sec r.body r.tail p j, refl, F.sec_whole r.body r.tail p j fit lt), omega (arith, fit.last))
part_whole F p (r ∷ l) x s (inr h) = part_whole F (p + size r.body) l x s h

-- the sector j of the record that follows those in `done`
pub part_at : (F : Format) (p : ℕ) (done : List Tile) (r : Tile) (rs : List Tile) (n j : ℕ) (s : Sector) →
    n ≡ p + width done → j < size r.body → Part F p (done ++ (r ∷ rs)) (n + j) s → (s ≡ sector F r.body r.tail n j) × Fits F.ring r.body r.tail n
part_at F p [] r rs n j s e lt (inl (i, li, q, w, fit)) =
    let f : n ≡ p = omega arith in
    let k : j ≡ i = omega arith in (
      w ∙ ap (λ (z : ℕ). sector F r.body r.tail z i) (sym f) ∙ ap (λ (z : ℕ). sector F r.body r.tail n z) (sym k),
      subst (λ (z : ℕ). Fits F.ring r.body r.tail z) (sym f) fit,
    )
part_at F p [] r rs n j s e lt (inr h) = let l = part_low F (p + size r.body) rs (n + j) s h in absurd (omega arith)
part_at F p (d ∷ done) r rs n j s e lt (inl (i, li, q, w, fit)) = absurd (omega arith)
part_at F p (d ∷ done) r rs n j s e lt (inr h) = part_at F (p + size d.body) done r rs n j s (omega arith) lt h

-- sectors of some of the records
pub part_drop : (F : Format) (t p : ℕ) (front l : List Tile) (x : ℕ) (s : Sector) → p ≡ t + width front → Part F t (front ++ l) x s → p ≤ x → Part F p l x s
part_drop F t p [] l x s e h k = subst (λ (q : ℕ). Part F q l x s) (let z : t ≡ p = omega arith in z) h
part_drop F t p (r ∷ front) l x s e (inl h) k = absurd (omega (arith, h.1, h.2))
part_drop F t p (r ∷ front) l x s e (inr h) k = part_drop F (t + size r.body) p front l x s (omega arith) h k

-- of a front
pub part_take : (F : Format) (p : ℕ) (l m : List Tile) (x : ℕ) (s : Sector) → Part F p (l ++ m) x s → x < p + width l → Part F p l x s
part_take F p [] m x s h k = absurd (omega (arith, part_low F p m x s h))
part_take F p (r ∷ l) m x s (inl h) k = inl h
part_take F p (r ∷ l) m x s (inr h) k = inr (part_take F (p + size r.body) l m x s h (omega arith))

-- of more records
pub part_more : (F : Format) (p : ℕ) (l m : List Tile) (x : ℕ) (s : Sector) → Part F p l x s → Part F p (l ++ m) x s
part_more F p [] m x s h = absurd h
part_more F p (r ∷ l) m x s (inl h) = inl h
part_more F p (r ∷ l) m x s (inr h) = inr (part_more F (p + size r.body) l m x s h)

-- the sector at the end of the records
pub part_end : (F : Format) (p : ℕ) (l : List Tile) (r : Tile) (n j : ℕ) → Fits F.ring r.body r.tail n → n ≡ p + width l → j < size r.body → Part F p (l ++ (r ∷ [])) (n + j) (sector F r.body r.tail n j)
part_end F p [] r n j fit e lt =
    let q : n ≡ p = omega arith in
    inl (j, lt, ap (λ (z : ℕ). z + j) q, ap (λ (z : ℕ). sector F r.body r.tail z j) q, subst (λ (z : ℕ). Fits F.ring r.body r.tail z) q fit)
part_end F p (x ∷ l) r n j fit e lt = inr (part_end F (p + size x.body) l r n j fit (omega arith) lt)

-- the shorter of two fronts of one list is a front of the longer
pub front_of : (f l p q : List Tile) → f ++ l ≡ p ++ q → width f ≤ width p → (y : List Tile) × (p ≡ f ++ y) × (l ≡ y ++ q)
front_of [] l p q e w = (p, refl, e)
front_of (r ∷ f) l [] q e w = absurd (omega arith)
front_of (r ∷ f) l (s ∷ p) q e w =
    let same : r ≡ s = cc in
    let tail : f ++ l ≡ p ++ q = cc in
    let sz : size r.body ≡ size s.body = ap (λ (z : Tile). size z.body) same in
    let ih = front_of f l p q tail (omega arith) in
    (ih.0, ap (λ (z : Tile). z ∷ p) (sym same) ∙ ap (λ (z : List Tile). r ∷ z) ih.1, ih.2)

-- of two lists
pub tile_bodies-++ : (l m : List Tile) → tile_bodies (l ++ m) ≡ tile_bodies l ++ tile_bodies m
tile_bodies-++ [] m = refl
tile_bodies-++ (r ∷ l) m = ap (λ (z : List Rec). r.body ∷ z) (tile_bodies-++ l m)

-- the newest record by h, among the tiles from t on, of contents that show the tiles below h
pub record Last (F : Format) (t : ℕ) (tiles : List Tile) (h least : ℕ) (c : ℕ → Sector) : Type 0 where
  pub done : List Tile
  pub tile : Tile
  pub rest : List Tile
  pub split : tiles ≡ done ++ (tile ∷ rest)
  pub newest : Newest F.ring c h (t + width done)
  pub ends : t + width done + size tile.body ≤ h
  pub later : least ≤ t + width done + size tile.body

module _ (F : Format) (t : ℕ) (tiles : List Tile) (h : ℕ) (c : ℕ → Sector) (shows : (x : ℕ) → t ≤ x → x < h → Part F t tiles x (c (slot F x))) where
  -- each sector of a record below h stands, and the record fits
  pub stand : (done : List Tile) (r : Tile) (rs : List Tile) → tiles ≡ done ++ (r ∷ rs) → (j : ℕ) → j < size r.body → t + width done + j < h →
      (c (slot F (t + width done + j)) ≡ sector F r.body r.tail (t + width done) j) × Fits F.ring r.body r.tail (t + width done)
  stand done r rs e j lt lh =
      part_at F t done r rs (t + width done) j (c (slot F (t + width done + j))) refl lt
      (subst (λ (l : List Tile). Part F t l (t + width done + j) (c (slot F (t + width done + j)))) e (shows (t + width done + j) (omega arith) lh))

  -- below the end of a record its sectors but the first are no headers
  pub inner : (done : List Tile) (r : Tile) (rs : List Tile) → tiles ≡ done ++ (r ∷ rs) → (y : ℕ) → t + width done < y → y < t + width done + size r.body → y < h →
      F.ring.len (c (slot F y)) ≡ 0
  inner done r rs e y lo hi lh = go (y - suc (t + width done)) (omega arith)
    where
      go : (j : ℕ) → y ≡ t + width done + suc j → F.ring.len (c (slot F y)) ≡ 0
      go j q =
          let l1 : suc j < size r.body = omega arith in
          let l2 : t + width done + suc j < h = omega arith in
          ap (λ (z : ℕ). F.ring.len (c (slot F z))) q ∙ ap F.ring.len (stand done r rs e (suc j) l1 l2).0 ∙ F.sec_data r.body r.tail (t + width done) j (stand done r rs e (suc j) l1 l2).1 l1

  -- the first one is a header
  pub first : (done : List Tile) (r : Tile) (rs : List Tile) → tiles ≡ done ++ (r ∷ rs) → t + width done < h → F.ring.len (c (slot F (t + width done))) ≡ size r.body
  first done r rs e lh =
      let z : t + width done + 0 ≡ t + width done = add-zero (t + width done) in
      let l2 : t + width done + 0 < h = omega arith in
      ap (λ (y : ℕ). F.ring.len (c (slot F y))) (sym z) ∙ ap F.ring.len (stand done r rs e 0 (omega arith) l2).0 ∙ F.sec_len r.body r.tail (t + width done) (stand done r rs e 0 (omega arith) l2).1

  -- and a sound one
  pub first_sound : (done : List Tile) (r : Tile) (rs : List Tile) → tiles ≡ done ++ (r ∷ rs) → t + width done < h → F.ring.sound (t + width done) (c (slot F (t + width done))) ≡ true
  first_sound done r rs e lh =
      let z : t + width done + 0 ≡ t + width done = add-zero (t + width done) in
      let l2 : t + width done + 0 < h = omega arith in
      ap (λ (y : ℕ). F.ring.sound (t + width done) (c (slot F y))) (sym z) ∙ ap (F.ring.sound (t + width done)) (stand done r rs e 0 (omega arith) l2).0
      ∙ F.sec_sound r.body r.tail (t + width done) (stand done r rs e 0 (omega arith) l2).1

  -- the last record that ends by h is the newest
  pub newest_from : (rs done : List Tile) (r : Tile) (least : ℕ) → tiles ≡ done ++ (r ∷ rs) → t + width done + size r.body ≤ h →
      h ≤ t + width done + size r.body + width rs → least ≤ t + width done + size r.body → Last F t tiles h least c
  newest_from [] done r least e lo hi le = record {
    done = done;
    tile = r;
    rest = [];
    split = e;
    ends = lo;
    later = le;
    newest = record {
      header = omega (arith, first done r [] e (omega arith));
      sound = first_sound done r [] e (omega arith);
      ends = omega (arith, first done r [] e (omega arith));
      first = λ y p q. inl (inner done r [] e y p (omega arith) q);
    };
  }
  newest_from (s ∷ rs) done r least e lo hi le = go (dec_le (t + width done + size r.body + size s.body) h)
      (λ m. newest_from rs (done ++ (r ∷ [])) s least eq (omega (arith, wide, m)) (omega (arith, wide)) (omega (arith, wide)))
    where
      eq : tiles ≡ (done ++ (r ∷ [])) ++ (s ∷ rs)
      eq = e ∙ sym (append_assoc done (r ∷ []) (s ∷ rs))

      wide : width (done ++ (r ∷ [])) ≡ width done + size r.body
      wide = let w = width-++ done (r ∷ []) in omega arith

      go : Dec (t + width done + size r.body + size s.body ≤ h) →
          (t + width done + size r.body + size s.body ≤ h → Last F t tiles h least c) → Last F t tiles h least c
      go (yes m) ih = ih m
      go (no m) ih = record {
        done = done;
        tile = r;
        rest = s ∷ rs;
        split = e;
        ends = lo;
        later = le;
        newest = record { header = omega (arith, len_r); sound = first_sound done r (s ∷ rs) e (omega arith); ends = omega (arith, len_r); first = each };
      }
        where
          len_r : F.ring.len (c (slot F (t + width done))) ≡ size r.body
          len_r = first done r (s ∷ rs) e (omega arith)

          start : t + width (done ++ (r ∷ [])) ≡ t + width done + size r.body
          start = let w = wide in omega arith

          each : (y : ℕ) → t + width done < y → y < h → (F.ring.len (c (slot F y)) ≡ 0) ⊎ ((F.ring.sound y (c (slot F y)) ≡ true) × (h < y + F.ring.len (c (slot F y))))
          each y p q = by (dec_lt y (t + width done + size r.body)) (ℕ_discrete y (t + width done + size r.body))
            where
              by : Dec (y < t + width done + size r.body) → Dec (y ≡ t + width done + size r.body) →
                  (F.ring.len (c (slot F y)) ≡ 0) ⊎ ((F.ring.sound y (c (slot F y)) ≡ true) × (h < y + F.ring.len (c (slot F y))))
              by (yes z) w = inl (inner done r (s ∷ rs) e y p z q)
              by (no z) (yes w) =
                  let l1 : t + width (done ++ (r ∷ [])) < h = omega (arith, start) in
                  let f = first (done ++ (r ∷ [])) s rs eq l1 in
                  let same : y ≡ t + width (done ++ (r ∷ [])) = omega (arith, start) in
                  let f2 : F.ring.len (c (slot F y)) ≡ size s.body = ap (λ (z : ℕ). F.ring.len (c (slot F z))) same ∙ f in
                  inr (ap (λ (z : ℕ). F.ring.sound z (c (slot F z))) same ∙ first_sound (done ++ (r ∷ [])) s rs eq l1, omega arith)
              by (no z) (no w) = inl (inner (done ++ (r ∷ [])) s rs eq y (omega (arith, start)) (omega (arith, start)) q)
