-- Patches of the built kinds say of each byte of their range what they give. Assumes nothing.
use Rattle.std.specs.Prelude.{◌≡◌, ℕ, zero, suc, ◌+◌, ◌-◌, ◌*◌, ◌≤◌, Bool, true, false, cond, ◌&&◌, ◌||◌, List, [], ◌∷◌, map, length, take, drop, sum, Some, None, Option, ◌==◌, nat_le, slice_index_or, refl}
use Rattle.std.proofs.Common.{sym, ap, subst, ◌∙◌, inl, inr, arith}
use Rattle.std.proofs.lemmas.List.{length-append, length-map, length-take, length-drop}
use Rattle.std.proofs.lemmas.List.Sums.{sum_by-append, sum_by-cons}
use Rattle.std.proofs.lemmas.Bool.{cases_Bool, cond_both, and_parts, leb-true}
use Rattle.std.proofs.lemmas.Slice.Eq.{bytes_eq-Decides}
use Rattle.codec.specs.Fields.{le16, le32, le64, joined}
use Rattle.keys.specs.declared.patch.PatchKey.{PatchKey}
use Rattle.item.specs.Meaning.{Meaning, malformed, patch, opens, closes, Kind, WholePatches, WholeBank}
use Rattle.item.specs.Buffer.{run_of, runs, regions_fit, cover, buffer_length, buffer_key, map_words, chunks, map_bits, none_set, buffer_fits, buffer_meaning, buffer}
use Rattle.item.specs.Intent.{intent_fits, intent_meaning, free_intent}
use Rattle.item.specs.Built.{built}
use Rattle.item.specs.Classes.{class_of}
use Rattle.item.specs.declared.class.Class.TheVariants.{Malformed, Patch, Cancel}

-- How long a cover is.

-- how many bits are set
abbrev ones : List Bool → ℕ
ones [] = 0
ones (true ∷ bs) = suc (ones bs)
ones (false ∷ bs) = ones bs

length_joined : (rs : List (List ℕ)) → length (joined rs) ≡ sum (map length rs)
length_joined [] = refl
length_joined (r ∷ rs) = length-append r (joined rs) ∙ ap (λ n. length r + n) (length_joined rs) ∙ sym (sum_by-cons (λ x. x) (length r) (map length rs))

sum_run : (n : ℕ) → sum (run_of n) ≡ n
sum_run zero = refl
sum_run (suc n) = omega arith

sum_runs : (m : ℕ) (bs : List Bool) → sum (runs m bs) ≡ m + ones bs
sum_runs m [] = sum_run m ∙ omega arith
sum_runs m (true ∷ bs) = sum_runs (suc m) bs ∙ omega arith
sum_runs m (false ∷ bs) = let h = sum_runs 0 bs in let g = sum_run m in sum_by-append (λ x. x) (run_of m) (runs 0 bs) ∙ omega arith

sum_scaled : (xs : List ℕ) → sum (map (λ n. 128 * n) xs) ≡ 128 * sum xs
sum_scaled [] = refl
sum_scaled (x ∷ xs) =
    let h = sum_scaled xs in
    let e = sum_by-cons (λ x. x) x xs in
    sum_by-cons (λ x. x) (128 * x) (map (λ n. 128 * n) xs) ∙ omega arith

length_fit : (bits : List Bool) (rs : List (List ℕ)) → regions_fit bits rs ≡ true → length (joined rs) ≡ 128 * ones bits
length_fit bits rs e =
    let h : map length rs ≡ map (λ n. 128 * n) (runs 0 bits) = (bytes_eq-Decides (map length rs) (map (λ n. 128 * n) (runs 0 bits))).0 e in
    let t = sum_runs 0 bits in
    length_joined rs ∙ ap sum h ∙ sum_scaled (runs 0 bits) ∙ omega arith

length_cover : (bits : List Bool) (b : List ℕ) → 128 * ones bits ≤ length b → length (cover bits b) ≡ 128 * length bits
length_cover [] b h = refl
length_cover (true ∷ bits) b h =
    let d : length (drop 128 b) ≡ length b - 128 = length-drop 128 b in
    let i : length (cover bits (drop 128 b)) ≡ 128 * length bits = length_cover bits (drop 128 b) (omega arith) in
    let t : length (map Some (take 128 b)) ≡ length (take 128 b) = length-map (take 128 b) Some in
    let l = length-take 128 b in
    length-append (map Some (take 128 b)) (cover bits (drop 128 b)) ∙ omega arith
length_cover (false ∷ bits) b h = let i = length_cover bits b h in omega arith

pub length_bits : (r : List ℕ) (b n : ℕ) → length (map_bits r b n) ≡ n
length_bits r b zero = refl
length_bits r b (suc n) = ap suc (length_bits r (b + 1) n)

-- What is known of a patch.

-- regions rs are a buffer's patch of key k: the first has the length and the map, and the data regions fit the map
pub record Patched (rs : List (List ℕ)) (k : PatchKey) : Type 0 where
  pub meaning : buffer_meaning rs ≡ patch k (cover (chunks (slice_index_or rs 0 [])) (joined (drop 1 rs)))
  pub key : buffer_key (slice_index_or rs 0 []) ≡ k
  pub few : k.length ≤ 64
  pub fitting : regions_fit (chunks (slice_index_or rs 0 [])) (drop 1 rs) ≡ true

-- the parts of a well-formed patch
abbrev patch_fits : List ℕ → List (List ℕ) → Bool
patch_fits r ds = le16 r 4 == 0 && buffer_fits r ds

abbrev head_fits : List ℕ → Bool
head_fits r = nat_le 20 (length r) && nat_le 1 (buffer_length r) && nat_le (buffer_length r) 64

patched_at : (rs : List (List ℕ)) → head_fits (slice_index_or rs 0 []) ≡ true → (le16 (slice_index_or rs 0 []) 4 == 2) ≡ false → patch_fits (slice_index_or rs 0 []) (drop 1 rs) ≡ true → Patched rs (buffer_key (slice_index_or rs 0 []))
patched_at rs a b d =
    let r = slice_index_or rs 0 [] in
    let ds = drop 1 rs in
    let m = le32 r 16 == map_words r && length r == 20 + 4 * map_words r && none_set (drop (4 * buffer_length r) (map_bits r 0 (32 * map_words r))) in
    let x = and_parts (le16 r 4 == 0) (buffer_fits r ds) d in
    let y = and_parts m (regions_fit (chunks r) ds) x.1 in
    let t = and_parts (nat_le 20 (length r) && nat_le 1 (buffer_length r)) (nat_le (buffer_length r) 64) a in
    record { meaning = rw (a, b, d); key = refl; few = leb-true (buffer_length r) 64 t.1; fitting = y.1 }

pub patched : (rs : List (List ℕ)) (k : PatchKey) → class_of (buffer_meaning rs) ≡ Patch k → Patched rs k
patched rs k e =
    let r = slice_index_or rs 0 [] in
    let ds = drop 1 rs in
    elim (cases_Bool (head_fits r)) [
      | inr a ↦ (let q : Malformed ≡ Patch k = rw a at e in cc)
      | inl a ↦ elim (cases_Bool (le16 r 4 == 2)) [
        | inl b ↦ elim (cases_Bool (length ds == 0)) [
          | inl d ↦ (let q : Cancel (buffer_key r) ≡ Patch k = rw (a, b, d) at e in cc)
          | inr d ↦ (let q : Malformed ≡ Patch k = rw (a, b, d) at e in cc)
        ]
        | inr b ↦ elim (cases_Bool (patch_fits r ds)) [
          | inl d ↦ (let q : Patch (buffer_key r) ≡ Patch k = rw (a, b, d) at e in let z : buffer_key r ≡ k = cc in subst (λ (x : PatchKey). Patched rs x) z (patched_at rs a b d))
          | inr d ↦ (let q : Malformed ≡ Patch k = rw (a, b, d) at e in cc)
        ]
      ]
    ]

-- a patch covers its whole range
pub length_patch : (rs : List (List ℕ)) (k : PatchKey) → Patched rs k → length (cover (chunks (slice_index_or rs 0 [])) (joined (drop 1 rs))) ≡ 512 * k.length
length_patch rs k w =
    let r = slice_index_or rs 0 [] in
    let f = length_fit (chunks r) (drop 1 rs) w.fitting in
    let l : buffer_length r ≡ k.length = ap (λ (x : PatchKey). x.length) w.key in
    let b = length_bits r 0 (4 * buffer_length r) in
    length_cover (chunks r) (joined (drop 1 rs)) (omega arith) ∙ omega arith

pub buffer_whole : WholePatches buffer
buffer_whole rs k c e =
    let w = patched rs k (ap class_of e) in
    let q : patch k (cover (chunks (slice_index_or rs 0 [])) (joined (drop 1 rs))) ≡ patch k c = sym w.meaning ∙ e in
    let z : cover (chunks (slice_index_or rs 0 [])) (joined (drop 1 rs)) ≡ c = cc in
    ap length (sym z) ∙ length_patch rs k w

-- an intent is malformed, an open or a close
pub intent_is : (P : Meaning → Type 0) → P malformed → ((i : ℕ) → P (opens i)) → ((i : ℕ) → P (closes i)) → (rs : List (List ℕ)) → P (intent_meaning rs)
intent_is P m o c rs =
    let r = slice_index_or rs 0 [] in
    let one = cond (le16 r 0 == 0x1236) (opens (le64 r 8)) (closes (le64 r 8)) in
    cond_both (length rs == 1 && intent_fits r) one malformed P
    (λ _. cond_both (le16 r 0 == 0x1236) (opens (le64 r 8)) (closes (le64 r 8)) P (λ _. o (le64 r 8)) (λ _. c (le64 r 8)))
    (λ _. m)

pub intent_whole : WholePatches free_intent
intent_whole rs k c =
    intent_is (λ m. m ≡ patch k c → length c ≡ 512 * k.length)
    (λ e. cc)
    (λ i e. cc)
    (λ i e. cc)
    rs

pub built_whole : WholeBank built
built_whole type kind =
    cond_both (type == 0x123C) (Some buffer) (cond (type == 0x1236 || type == 0x1237) (Some free_intent) None) (λ (o : Option Kind). o ≡ Some kind → WholePatches kind)
    (λ _ e. let z : buffer ≡ kind = cc in subst (λ (k : Kind). WholePatches k) z buffer_whole)
    (λ _. cond_both (type == 0x1236 || type == 0x1237) (Some free_intent) None (λ (o : Option Kind). o ≡ Some kind → WholePatches kind)
    (λ _ e. let z : free_intent ≡ kind = cc in subst (λ (k : Kind). WholePatches k) z intent_whole)
    (λ _ e. cc))
