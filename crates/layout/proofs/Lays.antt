-- What replay and clear write, in the words of lives. Assumes nothing.
use Rattle.std.proofs.Common.{◌≡◌, ℕ, suc, ◌+◌, ◌-◌, ◌*◌, ◌<◌, ◌≤◌, Bool, true, false, cond, ◌&&◌, ◌||◌, eqb, leb, List, [], ◌∷◌, ◌++◌, map, length, get_or, drop, ℤ, pos, negsuc, Some, None, Option, sym, refl, ap, ◌∙◌, arith}
use Rattle.std.specs.List.{AllByRecursion}
use Rattle.std.proofs.lemmas.List.{get_or-take, get_or-drop}
use Rattle.std.proofs.lemmas.Bool.{cond-true, le-leb}
use Rattle.device.specs.State.{Sector, holds, unreadable, bytes_of}
use Rattle.device.specs.Actions.{write}
use Rattle.keys.specs.Keys.{same_number, same_key}
use Rattle.keys.specs.declared.patch.PatchKey.{PatchKey}
use Rattle.item.specs.Meaning.{Meaning, malformed, patch, cancel, opens, closes}
use Rattle.model.specs.Items.{Patch, cancelled, applied, skipped, cover_of, covered}
use Rattle.model.specs.Lay.{give, overlay, patch_write}
use Rattle.model.specs.Laws.{start_of, given}
use Rattle.life.specs.Items as life
use Rattle.life.specs.Calls as calls
use Rattle.layout.specs.Read.{key, asked}

-- Which patches are applied.

-- a patch as an item of a life
abbrev pub laid_item : Patch → life.Item
laid_item p = life.patch (key p.key) (covered p.key p.cover) (given p)

number_same : (x y : ℤ) → life.same_number x y ≡ same_number x y
number_same (pos m) (pos n) = refl
number_same (pos m) (negsuc n) = refl
number_same (negsuc m) (pos n) = refl
number_same (negsuc m) (negsuc n) = refl

key_same : (k l : PatchKey) → life.same_key (key k) (key l) ≡ same_key k l
key_same k l = ap (λ b. b && eqb k.length l.length) (number_same k.sector l.sector)

-- a cancel in the list, as lives and as the model say it
cancelled_same : (k : PatchKey) (ms : List Meaning) → life.cancelled (key k) (asked ms) ≡ cancelled k ms
cancelled_same k [] = refl
cancelled_same k (malformed ∷ ms) = cancelled_same k ms
cancelled_same k (patch l c ∷ ms) = cancelled_same k ms
cancelled_same k (cancel l ∷ ms) =
    ap (λ b. cond b true (life.cancelled (key k) (asked ms))) (key_same k l) ∙ ap (λ x. cond (same_key k l) true x) (cancelled_same k ms) ∙ go (same_key k l) (cancelled k ms)
  where
    go : (a b : Bool) → cond a true b ≡ (a || b)
    go true b = refl
    go false b = refl
cancelled_same k (opens i ∷ ms) = cancelled_same k ms
cancelled_same k (closes i ∷ ms) = cancelled_same k ms

pub applied_same : (ms : List Meaning) → life.applied (asked ms) ≡ map laid_item (applied ms)
applied_same [] = refl
applied_same (malformed ∷ ms) = applied_same ms
applied_same (patch k c ∷ ms) =
    let p : Patch = record { key = k; cover = c } in
    ap (λ b. cond b [] (laid_item p ∷ []) ++ life.applied (asked ms)) (cancelled_same k ms) ∙ go (cancelled k ms) (applied_same ms)
  where
    go : (b : Bool) → life.applied (asked ms) ≡ map laid_item (applied ms) →
        cond b [] (laid_item (record { key = k; cover = c }) ∷ []) ++ life.applied (asked ms) ≡ map laid_item (cond b [] (record { key = k; cover = c } ∷ []) ++ applied ms)
    go true e = e
    go false e = ap (λ l. laid_item (record { key = k; cover = c }) ∷ l) e
applied_same (cancel k ∷ ms) = applied_same ms
applied_same (opens i ∷ ms) = applied_same ms
applied_same (closes i ∷ ms) = applied_same ms

pub skipped_same : (ms : List Meaning) → length (life.skipped (asked ms)) ≡ skipped ms
skipped_same [] = refl
skipped_same (malformed ∷ ms) = skipped_same ms
skipped_same (patch k c ∷ ms) =
    let p : Patch = record { key = k; cover = c } in
    ap (λ b. length (cond b (laid_item p ∷ []) [] ++ life.skipped (asked ms))) (cancelled_same k ms) ∙ go (cancelled k ms) (skipped_same ms)
  where
    go : (b : Bool) → length (life.skipped (asked ms)) ≡ skipped ms →
        length (cond b (laid_item (record { key = k; cover = c }) ∷ []) [] ++ life.skipped (asked ms)) ≡ cond b 1 0 + skipped ms
    go true e = omega (arith, e)
    go false e = omega (arith, e)
skipped_same (cancel k ∷ ms) = skipped_same ms
skipped_same (opens i ∷ ms) = skipped_same ms
skipped_same (closes i ∷ ms) = skipped_same ms

-- What a patch writes.

over_give : (q : Option ℕ) (b : ℕ) → calls.over q b ≡ give q b
over_give (Some v) b = refl
over_give None b = refl

overlay_none : (bs : List ℕ) → overlay [] bs ≡ bs
overlay_none [] = refl
overlay_none (b ∷ bs) = refl

overlay_same : (g : ℕ → Option ℕ) (o : ℕ) (os : List (Option ℕ)) (bs : List ℕ) → ((x : ℕ) → x < length bs → g (o + x) ≡ get_or os x None) → calls.overlay g o bs ≡ overlay os bs
overlay_same g o os [] f = refl
overlay_same g o [] (b ∷ bs) f =
    let z : o ≡ o + 0 = omega arith in
    let h : g o ≡ None = ap g z ∙ f 0 (omega arith) in
    ap (λ q. calls.over q b ∷ calls.overlay g (o + 1) bs) h
    ∙ ap (λ l. b ∷ l) (overlay_same g (o + 1) [] bs (λ x l. let y : o + 1 + x ≡ o + suc x = omega arith in ap g y ∙ f (suc x) (omega arith)) ∙ overlay_none bs)
overlay_same g o (q ∷ os) (b ∷ bs) f =
    let z : o ≡ o + 0 = omega arith in
    let h : g o ≡ q = ap g z ∙ f 0 (omega arith) in
    ap (λ q. calls.over q b ∷ calls.overlay g (o + 1) bs) h
    ∙ ap (λ y. y ∷ calls.overlay g (o + 1) bs) (over_give q b)
    ∙ ap (λ l. give q b ∷ l) (overlay_same g (o + 1) os bs (λ x l. let y : o + 1 + x ≡ o + suc x = omega arith in ap g y ∙ f (suc x) (omega arith)))

-- the value that a patch gives byte o of its sector j
given_at : (p : Patch) (j o : ℕ) → o < 512 → given p ((start_of p + j) * 512 + o) ≡ get_or (cover_of p.cover j) o None
given_at p j o h =
    let x : ℕ = (start_of p + j) * 512 + o in
    let m : x - 512 * start_of p ≡ 512 * j + o = omega arith in
    cond-true (leb (512 * start_of p) x) (get_or p.cover (x - 512 * start_of p) None) None (le-leb (512 * start_of p) x (omega arith))
    ∙ ap (λ y. get_or p.cover y None) m
    ∙ sym (get_or-take 512 (drop (512 * j) p.cover) o None h ∙ get_or-drop (512 * j) p.cover o None)

bytes_same : (s : Sector) → calls.bytes_of s ≡ bytes_of s
bytes_same (holds b) = refl
bytes_same unreadable = refl

pub patch_same : (p : Patch) (c : List Sector) (js : List ℕ) → AllByRecursion (λ j. length (bytes_of (get_or c (start_of p + j) unreadable)) ≤ 512) js →
    map (patch_write p c) js ≡ calls.patch_writes (given p) (map (λ j. start_of p + j) js) (λ i. get_or c i unreadable)
patch_same p c [] a = refl
patch_same p c (j ∷ js) a =
    let i : ℕ = start_of p + j in
    let s : Sector = get_or c (start_of p + j) unreadable in
    let short : length (bytes_of s) ≤ 512 = a.0 in
    let e : calls.overlay (λ o. given p (i * 512 + o)) 0 (bytes_of s) ≡ overlay (cover_of p.cover j) (bytes_of s) =
    overlay_same (λ o. given p (i * 512 + o)) 0 (cover_of p.cover j) (bytes_of s)
    (λ x l. let z : 0 + x ≡ x = omega arith in ap (λ o. given p (i * 512 + o)) z ∙ given_at p j x (omega (arith, l, short))) in
    ap (λ b. write i b ∷ map (patch_write p c) js) (sym (ap (calls.overlay (λ o. given p (i * 512 + o)) 0) (bytes_same s) ∙ e))
    ∙ ap (λ l. write i (calls.mended (given p) i s) ∷ l) (patch_same p c js a.1)
