-- What replay lays, in the words of lives. Assumes nothing.
use Rattle.std.proofs.Common.{◌≡◌, ℕ, ◌+◌, ◌<◌, ◌≤◌, Bool, true, false, cond, ◌⊎◌, List, [], ◌∷◌, ◌++◌, map, length, get_or, set, Option, sym, refl, ap, ◌∙◌, subst, inl, inr, arith}
use Rattle.std.specs.List.{AllByRecursion}
use Rattle.std.proofs.lemmas.List.{length-set, get_or_past}
use Rattle.std.proofs.lemmas.Bool.{cases_lt}
use Rattle.device.specs.State.{Sector, holds, unreadable, bytes_of}
use Rattle.device.specs.Actions.{Action, write, force, effect}
use Rattle.item.specs.Meaning.{Meaning}
use Rattle.model.specs.Items.{Patch, applied, covered_from, covered}
use Rattle.model.specs.Lay.{patch_writes, lays}
use Rattle.model.specs.Laws.{start_of, given}
use Rattle.life.specs.Disk.{Whole, Writes}
use Rattle.life.specs.Items as life
use Rattle.life.specs.Calls as calls
use Rattle.life.specs.Calls.{Readable}
use Rattle.life.proofs.Lists.{all_map}
use Rattle.life.proofs.Bytes.{readable_map, secs_whole}
use Rattle.layout.specs.Read.{asked}
use Rattle.layout.proofs.Lays.{laid_item, applied_same, patch_same}
use Rattle.layout.proofs.Runs.{set_put}

-- a list of sectors as lives see it
abbrev seen : List Sector → ℕ → Sector
seen c i = get_or c i unreadable

-- writes on the device do to a list of sectors what they do to the sectors seen
pub effect_seen : (xs : List Action) (c : List Sector) → Writes (λ i s. i < length c) xs → seen (effect xs c) ≡ calls.effect xs (seen c)
effect_seen [] c w = refl
effect_seen (write i b ∷ xs) c w =
    let l : length (set c i (holds b)) ≡ length c = length-set c i (holds b) in
    effect_seen xs (set c i (holds b)) (subst (λ (n : ℕ). Writes (λ i s. i < n) xs) (sym l) w.1) ∙ ap (calls.effect xs) (set_put c i (holds b) w.0)
effect_seen (force ∷ xs) c w = effect_seen xs c w

-- a sector that can be read is one of the list
whole_inside : (c : List Sector) (i : ℕ) → Whole (seen c i) → i < length c
whole_inside c i w = go (cases_lt i (length c))
  where
    never : (b : List ℕ) → holds b ≡ unreadable → ⊥
    never b e = let z : ◌≡◌ {A = ℕ} 0 1 = cc in omega arith

    go : (i < length c) ⊎ (length c ≤ i) → i < length c
    go (inl l) = l
    go (inr l) = absurd (never w.0 (sym w.1 ∙ get_or_past c i unreadable l))

whole_short : (s : Sector) → Whole s → length (bytes_of s) ≤ 512
whole_short s (b, e, n) = let m : length (bytes_of s) ≡ length b = ap (λ z. length (bytes_of z)) e in omega (arith, m, n)

-- what each of a mapped list has
all_back : (P : ℕ → Type 0) (f : ℕ → ℕ) (l : List ℕ) → AllByRecursion P (map f l) → AllByRecursion (λ j. P (f j)) l
all_back P f [] a = tt
all_back P f (j ∷ l) a = (a.0, all_back P f l a.1)

-- the writes of a patch lie on the device
secs_inside : (f : ℕ → Option ℕ) (l : List ℕ) (c : List Sector) → AllByRecursion (λ i. Whole (seen c i)) l → Writes (λ i s. i < length c) (calls.patch_writes f l (seen c))
secs_inside f [] c a = tt
secs_inside f (i ∷ l) c a = (whole_inside c i a.0, secs_inside f l c a.1)

-- patches one after the other
patches_same : (ps : List Patch) (c : List Sector) → Readable (seen c) (map laid_item ps) → lays ps c ≡ calls.all_writes (map laid_item ps) (seen c)
patches_same [] c r = refl
patches_same (p ∷ ps) c r =
    let js : List ℕ = covered_from p.cover 0 p.key.length in
    let l : List ℕ = covered p.key p.cover in
    let a : AllByRecursion (λ j. Whole (seen c (start_of p + j))) js = all_back (λ i. Whole (seen c i)) (λ j. start_of p + j) js r.0 in
    let same : patch_writes p c ≡ calls.patch_writes (given p) l (seen c) =
    patch_same p c js (all_map (λ j. Whole (seen c (start_of p + j))) (λ j. length (bytes_of (seen c (start_of p + j))) ≤ 512) js (λ j w. whole_short (seen c (start_of p + j)) w) a) in
    let ws : List Action = calls.patch_writes (given p) l (seen c) in
    let next : seen (effect ws c) ≡ calls.effect ws (seen c) = effect_seen ws c (secs_inside (given p) l c r.0) in
    let still : Readable (calls.effect ws (seen c)) (map laid_item ps) =
    readable_map (seen c) (calls.effect ws (seen c)) (map laid_item ps) (λ j h. secs_whole (given p) l (seen c) (seen c) j r.0 h) r.1 in
    ap (λ w. w ++ lays ps (effect w c)) same
    ∙ ap (λ x. ws ++ x) (patches_same ps (effect ws c) (subst (λ (d : ℕ → Sector). Readable d (map laid_item ps)) (sym next) still)
    ∙ ap (calls.all_writes (map laid_item ps)) next)

-- the items that are applied are some of them
pub applied_readable : (c : ℕ → Sector) (l : List life.Item) → Readable c l → Readable c (life.applied l)
applied_readable c [] r = tt
applied_readable c (life.patch k q f ∷ rest) r = go (life.cancelled k rest) (applied_readable c rest r.1)
  where
    go : (b : Bool) → Readable c (life.applied rest) → Readable c (cond b [] (life.patch k q f ∷ []) ++ life.applied rest)
    go true h = h
    go false h = (r.0, h)
applied_readable c (life.cancel k ∷ rest) r = applied_readable c rest r.1
applied_readable c (life.opens i ∷ rest) r = applied_readable c rest r.1
applied_readable c (life.closes i ∷ rest) r = applied_readable c rest r.1

-- what the items of a reading lay
pub lays_same : (ms : List Meaning) (c : List Sector) → Readable (λ i. get_or c i unreadable) (asked ms) →
    lays (applied ms) c ≡ calls.lays (asked ms) (λ i. get_or c i unreadable)
lays_same ms c r =
    patches_same (applied ms) c (subst (λ (l : List life.Item). Readable (seen c) l) (applied_same ms) (applied_readable (seen c) (asked ms) r))
    ∙ ap (λ l. calls.all_writes l (seen c)) (sym (applied_same ms))
