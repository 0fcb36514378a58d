-- What a chunk of a patch's range is given: the bytes that a walk over the map stands at. Assumes nothing.
use Rattle.std.proofs.Common.{◌≡◌, ℕ, zero, suc, ◌+◌, ◌-◌, ◌*◌, ◌<◌, ◌≤◌, Bool, true, false, eqb, List, [], ◌∷◌, map, length, get_or, take, drop, replicate, Some, None, Option, sym, refl, ap, ◌∙◌, inl, inr, arith}
use Rattle.std.proofs.lemmas.List.{length-map, length-take, length-drop, drop-drop, drop_at, get_or-drop, get_or-take, get_or-map, get_or_append_left, get_or-replicate}
use Rattle.std.proofs.lemmas.Grind.{common_steps}
use Rattle.std.proofs.lemmas.Bool.Decides.{nat_tests}
use Rattle.std.proofs.lemmas.Bool.{cases_Bool, eq-eqb, ne_eqb}
use Rattle.codec.specs.Fields.{same, joined}
use Rattle.item.specs.Buffer.{map_bit, map_bits, runs, regions_fit, cover}
use Rattle.buffer.specs.Walk.{moved, cursor}
use Rattle.buffer.specs.declared.cursor.Cursor.{Cursor}

-- regions es fit the runs of bits bs, of which the first has m bits before
abbrev Fit : List (List ℕ) → ℕ → List Bool → Type 0
Fit es m bs = same (map length es) (map (λ (x : ℕ). 128 * x) (runs m bs)) ≡ true

-- the first region has room for what is before
first_room : (bs : List Bool) (m : ℕ) (es : List (List ℕ)) → Fit es (suc m) bs → 128 * suc m ≤ length (get_or es 0 [])
first_room [] m [] e = cc
first_room [] m (d ∷ es) e = grind (arith, nat_tests)
first_room (true ∷ bs) m es e = grind (arith, first_room bs (suc m) es e)
first_room (false ∷ bs) m [] e = cc
first_room (false ∷ bs) m (d ∷ es) e = grind (arith, nat_tests)

-- where a run ends, its region does
first_ends : (bs : List Bool) (m : ℕ) (es : List (List ℕ)) → Fit es (suc m) (false ∷ bs) → (length (get_or es 0 []) ≡ 128 * suc m) × Fit (drop 1 es) 0 bs
first_ends bs m [] e = cc
first_ends bs m (d ∷ es) e = grind (arith, nat_tests)

joined_past : (es : List (List ℕ)) (y : ℕ) → length (get_or es 0 []) ≡ y → drop y (joined es) ≡ joined (drop 1 es)
joined_past es y e = grind (arith, common_steps)

joined_first : (es : List (List ℕ)) (j : ℕ) → j < length (get_or es 0 []) → get_or (joined es) j 0 ≡ get_or (get_or es 0 []) j 0
joined_first es j l = grind (arith, common_steps)

joined_long : (es : List (List ℕ)) → length (get_or es 0 []) ≤ length (joined es)
joined_long es = grind (arith, common_steps)

-- the bytes of one chunk more
past_set : (bs : List Bool) (b : List ℕ) → 128 ≤ length b → drop 128 (cover (true ∷ bs) b) ≡ cover bs (drop 128 b)
past_set bs b l =
    let t : length (map Some (take 128 b)) ≡ 128 = let x = length-map (take 128 b) Some in let y = length-take 128 b in omega arith in
    drop_at (map Some (take 128 b)) (cover bs (drop 128 b)) 128 t

-- what a chunk that is not set is given
abbrev nothing : List (Option ℕ)
nothing = replicate 128 None

past_clear : (bs : List Bool) (b : List ℕ) → drop 128 (cover (false ∷ bs) b) ≡ cover bs b
past_clear bs b = drop_at nothing (cover bs b) 128 refl

at_set : (bs : List Bool) (b : List ℕ) (o : ℕ) → o < 128 → 128 ≤ length b → get_or (cover (true ∷ bs) b) o None ≡ Some (get_or b o 0)
at_set bs b o h l =
    let y : length (take 128 b) ≡ 128 = let x = length-take 128 b in omega arith in
    let t : length (map Some (take 128 b)) ≡ 128 = length-map (take 128 b) Some ∙ y in
    let k : o < length (map Some (take 128 b)) = omega arith in
    let k' : o < length (take 128 b) = omega arith in
    get_or_append_left (map Some (take 128 b)) (cover bs (drop 128 b)) None o k ∙ get_or-map Some (take 128 b) o 0 None k' ∙ ap Some (get_or-take 128 b o 0 h)

at_clear : (bs : List Bool) (b : List ℕ) (o : ℕ) → o < 128 → get_or (cover (false ∷ bs) b) o None ≡ None
at_clear bs b o h =
    get_or_append_left nothing (cover bs b) None o h ∙ get_or-replicate 128 o None None h

-- Of a map h of n bits and data regions ds that fit it, with the cover of both.
module _ (h : List ℕ) (n : ℕ) (ds : List (List ℕ)) (fit : regions_fit (map_bits h 0 n) ds ≡ true) where
  abbrev given : List (Option ℕ)
  given = cover (map_bits h 0 n) (joined ds)

  -- where the walk stands before chunk c: m set bits are just before, the regions from its own on fit what is left, and give the rest
  record Stands (c i y : ℕ) : Type 0 where
    before : ℕ
    size : y ≡ 128 * before
    fits : Fit (drop i ds) before (map_bits h c (n - c))
    gives : drop (128 * c) given ≡ cover (map_bits h c (n - c)) (drop y (joined (drop i ds)))

  stands_first : Stands 0 0 0
  stands_first = let e : n - 0 ≡ n = omega arith in record { before = 0; size = refl; fits = rw e fit; gives = rw e }

  -- bits from c on, with the first written out
  bits_at : (c : ℕ) → c < n → map_bits h c (n - c) ≡ map_bit h c ∷ map_bits h (c + 1) (n - (c + 1))
  bits_at c l = let e : n - c ≡ suc (n - (c + 1)) = omega arith in rw e

  -- what is left and what it is given, with the bit of chunk c first
  fits_at : (c i y : ℕ) (x : Bool) → c < n → map_bit h c ≡ x → (s : Stands c i y) → Fit (drop i ds) s.before (x ∷ map_bits h (c + 1) (n - (c + 1)))
  fits_at c i y x l t s = rw (bits_at c l, t) at s.fits

  gives_at : (c i y : ℕ) (x : Bool) → c < n → map_bit h c ≡ x → Stands c i y → drop (128 * c) given ≡ cover (x ∷ map_bits h (c + 1) (n - (c + 1))) (drop y (joined (drop i ds)))
  gives_at c i y x l t s = rw (bits_at c l, t) at s.gives

  -- the region that the walk stands in
  front_is : (i : ℕ) → get_or (drop i ds) 0 [] ≡ get_or ds i []
  front_is i = grind (arith, common_steps)

  room_at : (c i y : ℕ) → c < n → map_bit h c ≡ true → Stands c i y → y + 128 ≤ length (get_or (drop i ds) 0 [])
  room_at c i y l t s =
      let r = first_room (map_bits h (c + 1) (n - (c + 1))) s.before (drop i ds) (fits_at c i y true l t s) in
      omega (arith, s.size)

  data_long : (c i y : ℕ) → c < n → map_bit h c ≡ true → Stands c i y → 128 ≤ length (drop y (joined (drop i ds)))
  data_long c i y l t s = omega (arith, room_at c i y l t s, joined_long (drop i ds), length-drop y (joined (drop i ds)))

  -- the rest, one chunk on
  rest_on : (c : ℕ) (os : List (Option ℕ)) → drop (128 * c) given ≡ os → drop (128 * (c + 1)) given ≡ drop 128 os
  rest_on c os e =
      grind (arith, drop-drop 128 (128 * c) given)

  stands_set : (c i y : ℕ) → c < n → map_bit h c ≡ true → Stands c i y → Stands (c + 1) i (y + 128)
  stands_set c i y l t s =
      let bs = map_bits h (c + 1) (n - (c + 1)) in
      let d = drop y (joined (drop i ds)) in
      record {
        before = suc s.before;
        size = omega (arith, s.size);
        fits = fits_at c i y true l t s;
        gives = cc (rest_on c (cover (true ∷ bs) d) (gives_at c i y true l t s), past_set bs d (data_long c i y l t s), drop-drop 128 y (joined (drop i ds)));
      }

  abbrev StandsAt : ℕ → Cursor → Type 0
  StandsAt c at = Stands c at.region at.byte

  stands_clear : (c : ℕ) (at : Cursor) (m : ℕ) → c < n → at.byte ≡ 128 * m → Fit (drop at.region ds) m (false ∷ map_bits h (c + 1) (n - (c + 1)))
      → drop (128 * c) given ≡ cover (false ∷ map_bits h (c + 1) (n - (c + 1))) (drop at.byte (joined (drop at.region ds))) → StandsAt (c + 1) (moved false at)
  stands_clear c at zero l q f g =
      let bs = map_bits h (c + 1) (n - (c + 1)) in
      let d = drop at.byte (joined (drop at.region ds)) in
      let z : eqb at.byte 0 ≡ true = eq-eqb at.byte 0 (omega arith) in
      let s : StandsAt (c + 1) at = record { before = 0; size = q; fits = f; gives = rest_on c (cover (false ∷ bs) d) g ∙ past_clear bs d } in
      rw z s
  stands_clear c at (suc m) l q f g =
      let bs = map_bits h (c + 1) (n - (c + 1)) in
      let es = drop at.region ds in
      let d = drop at.byte (joined es) in
      let z : eqb at.byte 0 ≡ false = ne_eqb at.byte 0 (omega arith) in
      let w = first_ends bs m es f in
      let r : drop 1 es ≡ drop (at.region + 1) ds = drop-drop 1 at.region ds in
      let p : d ≡ joined (drop (at.region + 1) ds) = joined_past es at.byte (w.0 ∙ sym q) ∙ ap joined r in
      let s : Stands (c + 1) (at.region + 1) 0 = record {
        before = 0;
        size = refl;
        fits = rw r at w.1;
        gives = rest_on c (cover (false ∷ bs) d) g ∙ past_clear bs d ∙ ap (cover bs) p;
      } in
      rw z s

  stands : (c : ℕ) → c ≤ n → StandsAt c (cursor h c)
  stands zero l = stands_first
  stands (suc c) l =
      let k : c < n = omega arith in
      let at = cursor h c in
      let s = stands c (omega arith) in
      let e : c + 1 ≡ suc c = omega arith in
      let next : StandsAt (c + 1) (moved (map_bit h c) at) = elim (cases_Bool (map_bit h c)) [
        | inl t ↦ rw t (stands_set c at.region at.byte k t s)
        | inr t ↦ rw t (stands_clear c at s.before k s.size (fits_at c at.region at.byte false k t s) (gives_at c at.region at.byte false k t s))
      ] in
      rw e at next

  -- a set chunk has its bytes where the walk stands
  pub chunk_room : (c : ℕ) → c < n → map_bit h c ≡ true → (cursor h c).byte + 128 ≤ length (get_or ds (cursor h c).region [])
  chunk_room c l t =
      let i = (cursor h c).region in
      let r = room_at c i (cursor h c).byte l t (stands c (omega arith)) in
      rw (front_is i) at r

  pub chunk_set : (c : ℕ) → c < n → map_bit h c ≡ true → (o : ℕ) → o < 128 → get_or given (128 * c + o) None ≡ Some (get_or (get_or ds (cursor h c).region []) ((cursor h c).byte + o) 0)
  chunk_set c l t o k =
      let i = (cursor h c).region in
      let y = (cursor h c).byte in
      let s = stands c (omega arith) in
      let d = drop y (joined (drop i ds)) in
      let r = room_at c i y l t s in
      cc (get_or-drop (128 * c) given o None, gives_at c i y true l t s, at_set (map_bits h (c + 1) (n - (c + 1))) d o k (data_long c i y l t s), get_or-drop y (joined (drop i ds)) o 0, joined_first (drop i ds) (y + o) (omega arith), front_is i)

  pub chunk_clear : (c : ℕ) → c < n → map_bit h c ≡ false → (o : ℕ) → o < 128 → get_or given (128 * c + o) None ≡ None
  chunk_clear c l t o k =
      let at = cursor h c in
      cc (get_or-drop (128 * c) given o None, gives_at c at.region at.byte false l t (stands c (omega arith)), at_clear (map_bits h (c + 1) (n - (c + 1))) (drop at.byte (joined (drop at.region ds))) o k)
