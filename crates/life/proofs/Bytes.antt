-- What the writes of replay, clear and commit do to the sectors, byte by byte.
use Rattle.std.proofs.Common.{◌≡◌, ℕ, zero, suc, ◌+◌, ◌*◌, ◌/◌, ◌%◌, ◌<◌, ◌≤◌, Bool, true, false, cond, eqb, ◌⊎◌, List, [], ◌∷◌, ◌++◌, length, get_or, Some, None, Option, sym, refl, ap, ◌∙◌, subst, inl, inr, ⊎_elim, add-zero, arith}
use native.Mathlib.Decide.{ℕ_discrete}
use Rattle.life.specs.Disk.{Sector, holds, write, Whole, In, AllByRecursion, put, Writes}
use Rattle.life.specs.Items.{Item, patch, cancel, opens, closes, covered, cancelled, applied}
use Rattle.life.specs.Log.{Ring, limit, at, Held}
use Rattle.life.specs.Format.{Rec, Format, sector, slot}
use Rattle.life.specs.Calls.{byte, byte_at, Home, Sound, Readable, over, overlay, mended, effect, patch_writes, lays, blanks}
use Rattle.life.specs.Calls.{all_writes, puts}
use Rattle.life.proofs.Lists.{false_true, eqb_same, all_map}
use Rattle.life.proofs.Disk.{put_case, writes-++, writes_map, effect-++, effect_other}
use Rattle.life.proofs.Lay.{give, gives, lay, Applied}

-- One sector.

-- laying values over bytes keeps their number
pub overlay_length : (f : ℕ → Option ℕ) (o : ℕ) (b : List ℕ) → length (overlay f o b) ≡ length b
overlay_length f o [] = refl
overlay_length f o (v ∷ b) = ap suc (overlay_length f (o + 1) b)

-- and gives each byte its value, if there is one
overlay_at : (f : ℕ → Option ℕ) (p : ℕ) (b : List ℕ) (o : ℕ) → o < length b → get_or (overlay f p b) o 0 ≡ over (f (p + o)) (get_or b o 0)
overlay_at f p [] o l = absurd (omega arith)
overlay_at f p (v ∷ b) zero l = ap (λ (k : ℕ). over (f k) v) (sym (add-zero p))
overlay_at f p (v ∷ b) (suc o) l =
    let e : p + 1 + o ≡ p + suc o = omega arith in
    overlay_at f (p + 1) b o (omega arith) ∙ ap (λ (k : ℕ). over (f k) (get_or b o 0)) e

-- the same for a byte that may be unreadable
over_give : (o : Option ℕ) (v : ℕ) → Some (over o v) ≡ give o (Some v)
over_give None v = refl
over_give (Some w) v = refl

-- a sector that was mended can be read
pub mended_whole : (f : ℕ → Option ℕ) (i : ℕ) (s : Sector) → Whole s → Whole (holds (mended f i s))
mended_whole f i s (b, e, n) =
    subst (λ (z : Sector). Whole (holds (mended f i z))) (sym e) (overlay (λ o. f (i * 512 + o)) 0 b, refl, overlay_length (λ o. f (i * 512 + o)) 0 b ∙ n)

-- its bytes
mended_at : (f : ℕ → Option ℕ) (i : ℕ) (s : Sector) (x : ℕ) → Whole s → x / 512 ≡ i → byte (holds (mended f i s)) (x % 512) ≡ give (f x) (byte s (x % 512))
mended_at f i s x (b, e, n) q =
    let here : i * 512 + (0 + x % 512) ≡ x = omega arith in
    let low : x % 512 < length b = omega arith in
    subst (λ (z : Sector). byte (holds (mended f i z)) (x % 512) ≡ give (f x) (byte z (x % 512))) (sym e)
    (ap Some (overlay_at (λ o. f (i * 512 + o)) 0 b (x % 512) low ∙ ap (λ (y : ℕ). over (f y) (get_or b (x % 512) 0)) here) ∙ over_give (f x) (get_or b (x % 512) 0))

-- no value given
give_none : (o : Option ℕ) (v : Option ℕ) → (gives o → ⊥) → give o v ≡ v
give_none None v h = refl
give_none (Some w) v h = absurd (h tt)

-- a value that is given
covers : (o : Option ℕ) → gives o → (w : ℕ) × (o ≡ Some w)
covers None g = absurd g
covers (Some w) g = (w, refl)

-- The sectors of a patch.

-- what can be read still can
put_whole : (c : ℕ → Sector) (i : ℕ) (s : Sector) (j : ℕ) → Whole s → Whole (c j) → Whole (put c i s j)
put_whole c i s j w h = put_case (λ z. Whole z) c i s j (λ _. w) (λ _. h)

-- after the writes of a patch
pub secs_whole : (f : ℕ → Option ℕ) (l : List ℕ) (c b : ℕ → Sector) (j : ℕ) → AllByRecursion (λ n. Whole (c n)) l → Whole (b j) → Whole (effect (patch_writes f l c) b j)
secs_whole f [] c b j a h = h
secs_whole f (i ∷ l) c b j a h =
    secs_whole f l c (put b i (holds (mended f i (c i)))) j a.1 (put_whole b i (holds (mended f i (c i))) j (mended_whole f i (c i) a.0) h)

-- more sectors that can be read
pub readable_map : (c c' : ℕ → Sector) (l : List Item) → ((j : ℕ) → Whole (c j) → Whole (c' j)) → Readable c l → Readable c' l
readable_map c c' l h r =
    all_map (λ i. AllByRecursion (λ n. Whole (c n)) (covered i)) (λ i. AllByRecursion (λ n. Whole (c' n)) (covered i)) l
    (λ i a. all_map (λ n. Whole (c n)) (λ n. Whole (c' n)) (covered i) h a) r

-- the writes of a patch, byte by byte of the volume: given its value, or outside the sectors written and as it was
secs_vol : (f : ℕ → Option ℕ) (l : List ℕ) (c b : ℕ → Sector) (x : ℕ) → AllByRecursion (λ n. Whole (c n)) l →
    (byte_at (effect (patch_writes f l c) b) x ≡ give (f x) (byte_at c x)) ⊎ ((In (x / 512) l → ⊥) × (byte_at (effect (patch_writes f l c) b) x ≡ byte_at b x))
secs_vol f [] c b x a = inr (λ m. m, refl)
secs_vol f (i ∷ l) c b x a = go (ℕ_discrete (x / 512) i) (secs_vol f l c (put b i (holds (mended f i (c i)))) x a.1)
  where
    b' : ℕ → Sector
    b' = put b i (holds (mended f i (c i)))

    v : Option ℕ
    v = byte_at (effect (patch_writes f l c) b') x

    go : Dec (x / 512 ≡ i) → ((v ≡ give (f x) (byte_at c x)) ⊎ ((In (x / 512) l → ⊥) × (v ≡ byte_at b' x))) →
        (v ≡ give (f x) (byte_at c x)) ⊎ ((In (x / 512) (i ∷ l) → ⊥) × (v ≡ byte_at b x))
    go d (inl q) = inl q
    go (yes e) (inr q) = inl (q.1 ∙ put_case (λ z. byte z (x % 512) ≡ give (f x) (byte_at c x)) b i (holds (mended f i (c i))) (x / 512)
        (λ _. mended_at f i (c i) x a.0 e ∙ ap (λ (j : ℕ). give (f x) (byte (c j) (x % 512))) (sym e)) (λ n. absurd (n e)))
    go (no n) (inr q) = inr (⊎_elim n q.0, q.1 ∙ put_case (λ z. byte z (x % 512) ≡ byte_at b x) b i (holds (mended f i (c i))) (x / 512) (λ e. absurd (n e)) (λ _. refl))

-- where the patch covers only bytes of its sectors
secs_bytes : (f : ℕ → Option ℕ) (l : List ℕ) (c : ℕ → Sector) (x : ℕ) → AllByRecursion (λ n. Whole (c n)) l → (gives (f x) → In (x / 512) l) →
    byte_at (effect (patch_writes f l c) c) x ≡ give (f x) (byte_at c x)
secs_bytes f l c x a s = ⊎_elim (λ e. e) (λ e. e.1 ∙ sym (give_none (f x) (byte_at c x) (λ g. e.0 (s g)))) (secs_vol f l c c x a)

-- AllByRecursion patches.

-- after all of replay's writes outside the log each byte is as the patches laid it
pub lays_bytes : (F : Format) (l : List Item) (c : ℕ → Sector) (x : ℕ) → AllByRecursion (Sound F) l → Readable c l → byte_at (effect (lays l c) c) x ≡ lay l x (byte_at c x)
lays_bytes F [] c x s r = refl
lays_bytes F (patch k q f ∷ rest) c x s r =
    go (cancelled k rest) (lays_bytes F rest c x s.1 r.1)
    (lays_bytes F rest (effect (patch_writes f q c) c) x s.1 (readable_map c (effect (patch_writes f q c) c) rest (λ j h. secs_whole f q c c j r.0 h) r.1))
  where
    c' : ℕ → Sector
    c' = effect (patch_writes f q c) c

    go : (b : Bool) → byte_at (effect (lays rest c) c) x ≡ lay rest x (byte_at c x) → byte_at (effect (lays rest c') c') x ≡ lay rest x (byte_at c' x) →
        byte_at (effect (all_writes (cond b [] (patch k q f ∷ []) ++ applied rest) c) c) x ≡ lay rest x (cond b (byte_at c x) (give (f x) (byte_at c x)))
    go true h h2 = h
    go false h h2 =
        ap (λ (d : ℕ → Sector). byte_at d x) (effect-++ (patch_writes f q c) (lays rest c') c)
        ∙ h2 ∙ ap (lay rest x) (secs_bytes f q c x r.0 (λ g. s.0.within x (covers (f x) g)))
lays_bytes F (cancel k ∷ rest) c x s r = lays_bytes F rest c x s.1 r.1
lays_bytes F (opens k ∷ rest) c x s r = lays_bytes F rest c x s.1 r.1
lays_bytes F (closes k ∷ rest) c x s r = lays_bytes F rest c x s.1 r.1

-- a write outside the log that leaves the bytes outside Q as `base` has them
pub record Within (F : Format) (Q : ℕ → Type 0) (base : ℕ → Option ℕ) (i : ℕ) (s : Sector) : Type 0 where
  pub home : Home F i
  pub same : (x : ℕ) → x / 512 ≡ i → (Q x → ⊥) → byte s (x % 512) ≡ base x

-- the writes of a patch change only what the patch covers
secs_within : (F : Format) (Q : ℕ → Type 0) (base : ℕ → Option ℕ) (f : ℕ → Option ℕ) (l : List ℕ) (c : ℕ → Sector) → AllByRecursion (Home F) l → AllByRecursion (λ n. Whole (c n)) l →
    ((x : ℕ) → gives (f x) → Q x) → ((x : ℕ) → (Q x → ⊥) → byte_at c x ≡ base x) → Writes (Within F Q base) (patch_writes f l c)
secs_within F Q base f [] c a r g h = tt
secs_within F Q base f (i ∷ l) c a r g h = (record { home = a.0; same = same }, secs_within F Q base f l c a.1 r.1 g h)
  where
    same : (x : ℕ) → x / 512 ≡ i → (Q x → ⊥) → byte (holds (mended f i (c i))) (x % 512) ≡ base x
    same x e n =
        mended_at f i (c i) x r.0 e ∙ give_none (f x) (byte (c i) (x % 512)) (λ z. n (g x z))
        ∙ ap (λ (j : ℕ). byte (c j) (x % 512)) (sym e) ∙ h x n

-- replay's writes outside the log change only bytes that applied patches cover
pub lays_within : (F : Format) (Q : ℕ → Type 0) (base : ℕ → Option ℕ) (l : List Item) (c : ℕ → Sector) → AllByRecursion (Sound F) l → Readable c l →
    ((x : ℕ) → Applied l x → Q x) → ((x : ℕ) → (Q x → ⊥) → byte_at c x ≡ base x) → Writes (Within F Q base) (lays l c)
lays_within F Q base [] c s r g h = tt
lays_within F Q base (patch k q f ∷ rest) c s r g h =
    go (cancelled k rest) refl (lays_within F Q base rest c s.1 r.1 (λ x a. g x (inr a)) h)
    (lays_within F Q base rest (effect (patch_writes f q c) c) s.1
    (readable_map c (effect (patch_writes f q c) c) rest (λ j z. secs_whole f q c c j r.0 z) r.1) (λ x a. g x (inr a)))
  where
    c' : ℕ → Sector
    c' = effect (patch_writes f q c) c

    go : (b : Bool) → cancelled k rest ≡ b → Writes (Within F Q base) (lays rest c) →
        (((x : ℕ) → (Q x → ⊥) → byte_at c' x ≡ base x) → Writes (Within F Q base) (lays rest c')) →
        Writes (Within F Q base) (all_writes (cond b [] (patch k q f ∷ []) ++ applied rest) c)
    go true e w v = w
    go false e w v = writes-++ (Within F Q base) (patch_writes f q c) (lays rest c')
        (secs_within F Q base f q c s.0.home r.0 cover h)
        (v (λ x n. secs_bytes f q c x r.0 (λ z. s.0.within x (covers (f x) z)) ∙ give_none (f x) (byte_at c x) (λ z. n (cover x z)) ∙ h x n))
      where
        cover : (x : ℕ) → gives (f x) → Q x
        cover x z = g x (inl (e, z))
lays_within F Q base (cancel k ∷ rest) c s r g h = lays_within F Q base rest c s.1 r.1 g h
lays_within F Q base (opens k ∷ rest) c s r g h = lays_within F Q base rest c s.1 r.1 g h
lays_within F Q base (closes k ∷ rest) c s r g h = lays_within F Q base rest c s.1 r.1 g h

-- they are all to the volume's own sectors
pub lays_home : (F : Format) (l : List Item) (c : ℕ → Sector) → AllByRecursion (Sound F) l → Readable c l → Writes (λ i s. Home F i) (lays l c)
lays_home F l c s r = writes_map (Within F (Applied l) (byte_at c)) (λ i s. Home F i) (lays l c) (λ i z w. w.home)
    (lays_within F (Applied l) (byte_at c) l c s r (λ y a. a) (λ y n. refl))

-- the log's sectors stay
pub lays_log : (F : Format) (l : List Item) (c : ℕ → Sector) (x : ℕ) → AllByRecursion (Sound F) l → Readable c l → effect (lays l c) c (slot F x) ≡ c (slot F x)
lays_log F l c x s r = effect_other (lays l c) c (slot F x)
    (writes_map (λ i s. Home F i) (λ i s. slot F x ≡ i → ⊥) (lays l c) (λ i z w e. w.free x e) (lays_home F l c s r))

-- positions given up
pub blanks_writes : (F : Format) (P : ℕ → Sector → Type 0) (c : ℕ → Sector) (k x : ℕ) → ((y : ℕ) → x ≤ y → y < x + k → P (slot F y) (holds (F.blank y))) → Writes P (blanks F c x k)
blanks_writes F P c zero x h = tt
blanks_writes F P c (suc k) x h = go (eqb (at F.ring c x) x) (blanks_writes F P c k (x + 1) (λ y p q. h y (omega arith) (omega arith)))
  where
    go : (b : Bool) → Writes P (blanks F c (x + 1) k) → Writes P (cond b (write (slot F x) (F.blank x) ∷ []) [] ++ blanks F c (x + 1) k)
    go true w = (h x (omega arith) (omega arith), w)
    go false w = w

-- after blanking no position from x on is held
pub blanks_done : (F : Format) (c : ℕ → Sector) (k x : ℕ) (b : ℕ → Sector) → k ≤ F.ring.N → F.ring.N ≤ x → x + k ≤ limit F.ring →
    ((y : ℕ) → x ≤ y → y < x + k → b (slot F y) ≡ c (slot F y)) →
    ((y : ℕ) → x ≤ y → y < x + k → Held F.ring c y ⊎ (at F.ring c y + F.ring.N ≡ y)) →
    (y : ℕ) → x ≤ y → y < x + k → at F.ring (effect (blanks F c x k) b) y + F.ring.N ≡ y
blanks_done F c zero x b small big lim same state y p q = absurd (omega arith)
blanks_done F c (suc k) x b small big lim same state y p q =
    go (eqb (at F.ring c x) x) refl (ℕ_discrete y x)
    (λ b' same'. blanks_done F c k (x + 1) b' (omega arith) (omega arith) (omega arith) same' (λ y p q. state y (omega arith) (omega arith)) y)
  where
    g : Ring
    g = F.ring

    Goal : Bool → Type 0
    Goal v = at g (effect (cond v (write (slot F x) (F.blank x) ∷ []) [] ++ blanks F c (x + 1) k) b) y + g.N ≡ y

    apart : (z : ℕ) → x + 1 ≤ z → z < x + suc k → slot F x ≡ slot F z → ⊥
    apart z lo hi e = let f : x ≡ z = g.apart x z e (omega arith) (omega arith) in omega arith

    -- the writes after the first leave the sector of x
    rest : (b' : ℕ → Sector) → effect (blanks F c (x + 1) k) b' (slot F x) ≡ b' (slot F x)
    rest b' = effect_other (blanks F c (x + 1) k) b' (slot F x)
        (blanks_writes F (λ i s. slot F x ≡ i → ⊥) c k (x + 1) (λ z lo hi. apart z lo (omega arith)))

    go : (v : Bool) → eqb (at g c x) x ≡ v → Dec (y ≡ x) →
        ((b' : ℕ → Sector) → ((z : ℕ) → x + 1 ≤ z → z < x + 1 + k → b' (slot F z) ≡ c (slot F z)) → x + 1 ≤ y → y < x + 1 + k → at g (effect (blanks F c (x + 1) k) b') y + g.N ≡ y) →
        Goal v
    go true e (yes w) ih =
        let b' : ℕ → Sector = put b (slot F x) (holds (F.blank x)) in
        let here : b' (slot F x) ≡ holds (F.blank x) = put_case (λ z. z ≡ holds (F.blank x)) b (slot F x) (holds (F.blank x)) (slot F x) (λ _. refl) (λ n. absurd (n refl)) in
        let val : at g (effect (blanks F c (x + 1) k) b') x ≡ g.pos (slot F x) (holds (F.blank x)) = ap (g.pos (slot F x)) (rest b' ∙ here) in
        let bp = F.blank_pos x big (omega arith) in
        let mv : at g (effect (blanks F c (x + 1) k) b') y ≡ at g (effect (blanks F c (x + 1) k) b') x = ap (λ (z : ℕ). at g (effect (blanks F c (x + 1) k) b') z) w in
        ap (λ (z : ℕ). z + g.N) (mv ∙ val) ∙ bp ∙ sym w
    go true e (no n) ih = ih (put b (slot F x) (holds (F.blank x)))
        (λ z lo hi. put_case (λ s. s ≡ c (slot F z)) b (slot F x) (holds (F.blank x)) (slot F z) (λ q. absurd (apart z lo (omega arith) (sym q))) (λ _. same z (omega arith) (omega arith)))
        (omega arith) (omega arith)
    go false e (yes w) ih =
        let mv : at g (effect (blanks F c (x + 1) k) b) y ≡ at g (effect (blanks F c (x + 1) k) b) x = ap (λ (z : ℕ). at g (effect (blanks F c (x + 1) k) b) z) w in
        let val : at g (effect (blanks F c (x + 1) k) b) x ≡ at g c x = ap (g.pos (slot F x)) (rest b ∙ same x (omega arith) (omega arith)) in
        ⊎_elim (λ (h : Held g c x). false_true (sym e ∙ eqb_same (at g c x) x h)) (λ h. ap (λ (z : ℕ). z + g.N) (mv ∙ val) ∙ h ∙ sym w) (state x (omega arith) (omega arith))
    go false e (no n) ih = ih b (λ z lo hi. same z (omega arith) (omega arith)) (omega arith) (omega arith)

-- the sectors of a record, as they are written
pub puts_writes : (F : Format) (P : ℕ → Sector → Type 0) (r : Rec) (t p k j : ℕ) → ((i : ℕ) → j ≤ i → i < j + k → P (slot F (p + i)) (sector F r t p i)) → Writes P (puts F r t p j k)
puts_writes F P r t p zero j h = tt
puts_writes F P r t p (suc k) j h = (h j (omega arith) (omega arith), puts_writes F P r t p k (j + 1) (λ i lo hi. h i (omega arith) (omega arith)))

-- sectors of a record that is no longer than the log are apart
pub puts_apart : (F : Format) (p i j : ℕ) → i < j → j < i + F.ring.N → slot F (p + i) ≡ slot F (p + j) → ⊥
puts_apart F p i j l h e = let z : p + i ≡ p + j = F.ring.apart (p + i) (p + j) e (omega arith) (omega arith) in omega arith

-- each stands where it was written
pub puts_at : (F : Format) (r : Rec) (t p k j : ℕ) (c : ℕ → Sector) → k ≤ F.ring.N → (i : ℕ) → j ≤ i → i < j + k →
    effect (puts F r t p j k) c (slot F (p + i)) ≡ sector F r t p i
puts_at F r t p zero j c small i lo hi = absurd (omega arith)
puts_at F r t p (suc k) j c small i lo hi = go (ℕ_discrete i j) (puts_at F r t p k (j + 1) (put c (slot F (p + j)) (sector F r t p j)) (omega arith) i)
  where
    c' : ℕ → Sector
    c' = put c (slot F (p + j)) (sector F r t p j)

    go : Dec (i ≡ j) → (j + 1 ≤ i → i < j + 1 + k → effect (puts F r t p (j + 1) k) c' (slot F (p + i)) ≡ sector F r t p i) →
        effect (puts F r t p (j + 1) k) c' (slot F (p + i)) ≡ sector F r t p i
    go (yes e) ih =
        effect_other (puts F r t p (j + 1) k) c' (slot F (p + i))
        (puts_writes F (λ n s. slot F (p + i) ≡ n → ⊥) r t p k (j + 1) (λ n a b. puts_apart F p i n (omega arith) (omega arith)))
        ∙ put_case (λ z. z ≡ sector F r t p i) c (slot F (p + j)) (sector F r t p j) (slot F (p + i)) (λ _. ap (sector F r t p) (sym e)) (λ n. absurd (n (ap (λ (z : ℕ). slot F (p + z)) e)))
    go (no n) ih = ih (omega arith) (omega arith)
