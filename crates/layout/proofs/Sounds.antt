-- Items that commit accepts are sound. Assumes nothing.
use Rattle.std.proofs.Common.{◌≡◌, ℕ, zero, suc, ◌+◌, ◌-◌, ◌*◌, ◌/◌, ◌%◌, ◌<◌, ◌≤◌, Bool, true, false, cond, ◌&&◌, ◌||◌, leb, ◌⊎◌, List, [], ◌∷◌, ◌++◌, map, length, get_or, drop, ℤ, pos, negsuc, Some, None, Ok, Option, sym, refl, ap, ◌∙◌, subst, inl, inr, mod-lt, arith}
use Rattle.std.specs.List.{AllByRecursion}
use Rattle.std.proofs.lemmas.List.{get_or-take, get_or-drop, get_or_past}
use Rattle.std.proofs.lemmas.Bool.{and_parts, or_cases, leb-true, cases_lt}
use Rattle.device.specs.State.{DevState}
use Rattle.keys.specs.declared.patch.PatchKey.{PatchKey}
use Rattle.label.specs.declared.label.Label.{Label}
use Rattle.label.specs.Position.{volume_sector}
use Rattle.item.specs.Meaning.{Meaning, malformed, patch, cancel, opens, closes, Kind, Bank, WholeBank}
use Rattle.model.specs.Refusals.{refusal, by_item}
use Rattle.model.specs.Items.{Item, Book, Verdict, unknown, too_large, means, verdict_of, verdict, large, meant, committing, check, check_all, in_bounds, first_sector, cover_of, gives_any, covered_from, covered}
use Rattle.model.specs.Laws.{meanings, given}
use Rattle.model.proofs.Outcomes.{need_ok, bind_ok}
use Rattle.life.specs.Disk.{In}
use Rattle.life.specs.Items as life
use Rattle.life.specs.Calls.{Home, Sound}
use Rattle.life.proofs.Lists.{in_left, in_right}
use Rattle.layout.specs.Read.{key, asked}
use Rattle.layout.specs.Real.{Usable}
use Rattle.layout.proofs.Ring.{limited}
use Rattle.layout.proofs.Real.{real}

-- Where a range lies that is in bounds.

pub record Bounds (L : Label) (n first len : ℕ) : Type 0 where
  pub later : 1 ≤ first
  pub inside : first + len ≤ n
  pub off : (first + len ≤ L.start) ⊎ (L.start + L.count ≤ first)

bounds : (L : Label) (n : ℕ) (z : ℤ) (len : ℕ) → in_bounds L n z len ≡ true → Bounds L n (first_sector z) len
bounds L n (pos m) len e =
    let a = and_parts (leb 1 m && leb (m + len) n) (leb (m + len) L.start || leb (L.start + L.count) m) e in
    let b = and_parts (leb 1 m) (leb (m + len) n) a.0 in
    record { later = leb-true 1 m b.0; inside = leb-true (m + len) n b.1; off = go (or_cases (leb (m + len) L.start) (leb (L.start + L.count) m) a.1) }
  where
    go : (leb (m + len) L.start ≡ true) ⊎ (leb (L.start + L.count) m ≡ true) → (m + len ≤ L.start) ⊎ (L.start + L.count ≤ m)
    go (inl h) = inl (leb-true (m + len) L.start h)
    go (inr h) = inr (leb-true (L.start + L.count) m h)
bounds L n (negsuc m) len e = let z : ◌≡◌ {A = ℕ} 0 1 = cc in let y : ⊥ = omega arith in elim y [ ]

module _ (L : Label) (n : ℕ) (bank : Bank) (u : Usable L n) where
  -- its sectors are the volume's own
  home_one : (first len j : ℕ) → Bounds L n first len → j < len → Home (real L n bank u) (first + j)
  home_one first len j b l = record { later = omega (arith, b.later); inside = omega (arith, b.inside); free = λ x e. go x e b.off }
    where
      go : (x : ℕ) → volume_sector L x ≡ first + j → (first + len ≤ L.start) ⊎ (L.start + L.count ≤ first) → ⊥
      go x e (inl h) = omega (arith, e, h, l)
      go x e (inr h) = let some : 1 ≤ L.count = omega (arith, (limited L n u).some) in omega (arith, e, h, l, mod-lt x some)

  home_all : (c : List (Option ℕ)) (first len j k : ℕ) → Bounds L n first len → j + k ≤ len → AllByRecursion (Home (real L n bank u)) (map (λ i. first + i) (covered_from c j k))
  home_all c first len j zero b l = tt
  home_all c first len j (suc k) b l = go (gives_any (cover_of c j)) (home_one first len j b (omega (arith, l))) (home_all c first len (j + 1) k b (omega (arith, l)))
    where
      go : (t : Bool) → Home (real L n bank u) (first + j) → AllByRecursion (Home (real L n bank u)) (map (λ i. first + i) (covered_from c (j + 1) k)) →
          AllByRecursion (Home (real L n bank u)) (map (λ i. first + i) (cond t (j ∷ []) [] ++ covered_from c (j + 1) k))
      go true h a = (h, a)
      go false h a = a

-- A byte that is given a value lies in a covered sector.

-- some byte is given
some_given : (os : List (Option ℕ)) (o w : ℕ) → get_or os o None ≡ Some w → gives_any os ≡ true
some_given [] o w e = let z : ◌≡◌ {A = ℕ} 0 1 = cc in let y : ⊥ = omega arith in elim y [ ]
some_given (None ∷ os) zero w e = let z : ◌≡◌ {A = ℕ} 0 1 = cc in let y : ⊥ = omega arith in elim y [ ]
some_given (None ∷ os) (suc o) w e = some_given os o w e
some_given (Some v ∷ os) o w e = refl

-- by place, inside the list
some_inside : (os : List (Option ℕ)) (o w : ℕ) → get_or os o None ≡ Some w → o < length os
some_inside os o w e = go (cases_lt o (length os))
  where
    go : (o < length os) ⊎ (length os ≤ o) → o < length os
    go (inl h) = h
    go (inr h) =
        let p : get_or os o None ≡ None = get_or_past os o None h in
        let z : ◌≡◌ {A = ℕ} 0 1 = cc in let y : ⊥ = omega arith in elim y [ ]

in_map : (first j : ℕ) (l : List ℕ) → In j l → In (first + j) (map (λ i. first + i) l)
in_map first j [] h = h
in_map first j (i ∷ l) (inl h) = inl (ap (λ x. first + x) h)
in_map first j (i ∷ l) (inr h) = inr (in_map first j l h)

in_covered : (c : List (Option ℕ)) (j i k : ℕ) → gives_any (cover_of c j) ≡ true → i ≤ j → j < i + k → In j (covered_from c i k)
in_covered c j i zero g a b = let z : ⊥ = omega arith in elim z [ ]
in_covered c j i (suc k) g a b = go (cases_lt i j) (λ h. in_covered c j (i + 1) k g (omega (arith, h)) (omega (arith, b)))
  where
    go : (i < j) ⊎ (j ≤ i) → (i < j → In j (covered_from c (i + 1) k)) → In j (covered_from c i (suc k))
    go (inl h) next = in_right j (cond (gives_any (cover_of c i)) (i ∷ []) []) (covered_from c (i + 1) k) (next h)
    go (inr h) next =
        let e : j ≡ i = omega arith in
        let t : gives_any (cover_of c i) ≡ true = ap (λ x. gives_any (cover_of c x)) (sym e) ∙ g in
        in_left j (cond (gives_any (cover_of c i)) (i ∷ []) []) (covered_from c (i + 1) k)
        (subst (λ (b : Bool). In j (cond b (i ∷ []) [])) (sym t) (inl e))

-- the value that a patch gives a byte, by its sector and its place there
within_one : (k : PatchKey) (c : List (Option ℕ)) (x w : ℕ) → length c ≡ 512 * k.length → given (record { key = k; cover = c }) x ≡ Some w → In (x / 512) (covered k c)
within_one k c x w whole e = go (leb (512 * first) x) refl e
  where
    first : ℕ
    first = first_sector k.sector

    go : (t : Bool) → leb (512 * first) x ≡ t → cond t (get_or c (x - 512 * first) None) None ≡ Some w → In (x / 512) (covered k c)
    go false p e = let z : ◌≡◌ {A = ℕ} 0 1 = cc in let y : ⊥ = omega arith in elim y [ ]
    go true p e =
        let y : ℕ = x - 512 * first in
        let j : ℕ = y / 512 in
        let o : ℕ = y % 512 in
        let l : 512 * first ≤ x = leb-true (512 * first) x p in
        let low : y < length c = some_inside c y w e in
        let o-low : o < 512 = omega arith in
        let m : 512 * j + o ≡ y = omega arith in
        let q : get_or (cover_of c j) o None ≡ Some w =
        get_or-take 512 (drop (512 * j) c) o None o-low ∙ get_or-drop (512 * j) c o None ∙ ap (λ i. get_or c i None) m ∙ e in
        let g : gives_any (cover_of c j) ≡ true = some_given (cover_of c j) o w q in
        let few : j < 0 + k.length = omega (arith, whole, low) in
        let s : first + j ≡ x / 512 = omega (arith, l) in
        subst (λ (i : ℕ). In i (covered k c)) s (in_map first j (covered_from c 0 k.length) (in_covered c j 0 k.length g (omega arith) few))

-- a patch of a whole bank has a value or nothing for each byte of its range
whole_verdict : (bank : Bank) → WholeBank bank → (i : Item) (early : Bool) (k : PatchKey) (c : List (Option ℕ)) → verdict bank i ≡ means early (patch k c) → length c ≡ 512 * k.length
whole_verdict bank whole i early k c e = go (bank i.type) refl e
  where
    inner : (q : Kind) → bank i.type ≡ Some q → (t : Bool) → cond t too_large (means q.early (q.meaning i.regions)) ≡ means early (patch k c) → length c ≡ 512 * k.length
    inner q b true e = let z : ◌≡◌ {A = ℕ} 0 1 = cc in let y : ⊥ = omega arith in elim y [ ]
    inner q b false e = whole i.type q b i.regions k c (ap meant e)

    go : (o : Option Kind) → bank i.type ≡ o → verdict_of o i.regions ≡ means early (patch k c) → length c ≡ 512 * k.length
    go None b e = let z : ◌≡◌ {A = ℕ} 0 1 = cc in let y : ⊥ = omega arith in elim y [ ]
    go (Some q) b e = inner q b (large i.regions) e

module _ (L : Label) (n : ℕ) (bank : Bank) (u : Usable L n) where
  patch_sound : (k : PatchKey) (c : List (Option ℕ)) → length c ≡ 512 * k.length → in_bounds L n k.sector k.length ≡ true →
      Sound (real L n bank u) (life.patch (key k) (covered k c) (given (record { key = k; cover = c })))
  patch_sound k c whole e = record {
    home = home_all L n bank u c (first_sector k.sector) k.length 0 k.length (bounds L n k.sector k.length e) (omega arith);
    within = λ x h. within_one k c x h.0 whole h.1;
  }

  one_sound : (d : DevState) → d.size ≡ n → (v : Verdict) → ((early : Bool) (k : PatchKey) (c : List (Option ℕ)) → v ≡ means early (patch k c) → length c ≡ 512 * k.length) →
      (s y : ℕ) (b b' : Book) (ms : List Meaning) → check committing d L s y v b ≡ Ok b' → AllByRecursion (Sound (real L n bank u)) (asked ms) → AllByRecursion (Sound (real L n bank u)) (asked (meant v ∷ ms))
  one_sound d same unknown w s y b b' ms e a = a
  one_sound d same too_large w s y b b' ms e a = a
  one_sound d same (means early malformed) w s y b b' ms e a = a
  one_sound d same (means early (patch k c)) w s y b b' ms e a =
      let p = need_ok (in_bounds L d.size k.sector k.length) (refusal 13 by_item s y) (λ _. Ok b) b' e in
      let q : in_bounds L n k.sector k.length ≡ true = ap (λ z. in_bounds L z k.sector k.length) (sym same) ∙ p.0 in
      (patch_sound k c (w early k c refl) q, a)
  one_sound d same (means early (cancel k)) w s y b b' ms e a = (record { home = tt; within = λ x h. h }, a)
  one_sound d same (means early (opens i)) w s y b b' ms e a = (record { home = tt; within = λ x h. h }, a)
  one_sound d same (means early (closes i)) w s y b b' ms e a = (record { home = tt; within = λ x h. h }, a)

  -- what commit's checks accept is sound
  pub checked_sound : WholeBank bank → (d : DevState) → d.size ≡ n → (is : List Item) (b b' : Book) → check_all committing d L bank is b ≡ Ok b' →
      AllByRecursion (Sound (real L n bank u)) (asked (meanings bank is))
  checked_sound whole d same [] b b' e = tt
  checked_sound whole d same (i ∷ is) b b' e =
      let p = bind_ok (check committing d L i.sector i.byte (verdict bank i) b) (λ q. check_all committing d L bank is q) b' e in
      one_sound d same (verdict bank i) (λ early k c q. whole_verdict bank whole i early k c q) i.sector i.byte b p.0 (meanings bank is) p.1
      (checked_sound whole d same is p.0 b' p.2)
