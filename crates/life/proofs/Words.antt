-- What a byte holds, and which patches are applied, in words.
use Rattle.std.proofs.Common.{◌≡◌, ℕ, Bool, true, false, cond, ◌&&◌, eqb, ◌⊎◌, List, [], ◌∷◌, ◌++◌, ℤ, pos, negsuc, Some, None, Option, sym, refl, ap, ◌∙◌, subst, inl, inr, ⊎_elim, arith}
use Rattle.life.specs.Disk.{In}
use Rattle.life.specs.Items.{Key, same_number, same_key, Item, patch, cancel, opens, closes, cancelled, Uncovered}
use Rattle.life.specs.Items.{ByteHolds, Touched}
use Rattle.life.proofs.Lists.{false_true, eqb_same, same_eqb}
use Rattle.life.proofs.Lay.{gives, told, after, Holds, Applied}

-- both of two tests hold
both : (a b : Bool) → (a && b) ≡ true → (a ≡ true) × (b ≡ true)
both true b e = (refl, e)
both false b e = false_true e

-- signed numbers that are found the same are the same
number_same : (m n : ℤ) → same_number m n ≡ true → m ≡ n
number_same (pos m) (pos n) e = ap pos (same_eqb m n e)
number_same (pos m) (negsuc n) e = false_true e
number_same (negsuc m) (pos n) e = false_true e
number_same (negsuc m) (negsuc n) e = ap negsuc (same_eqb m n e)

-- and each is the same as itself
same_number_refl : (m : ℤ) → same_number m m ≡ true
same_number_refl (pos m) = eqb_same m m refl
same_number_refl (negsuc m) = eqb_same m m refl

-- keys that are found the same are the same
pub key_same : (k l : Key) → same_key k l ≡ true → k ≡ l
key_same k l e =
    let h = both (same_number k.sector l.sector) (eqb k.length l.length) e in
    let p : k.sector ≡ l.sector = number_same k.sector l.sector h.0 in
    let q : k.length ≡ l.length = same_eqb k.length l.length h.1 in
    λ i. record { sector = p i; length = q i }

-- and each is the same as itself
pub same_key_refl : (k : Key) → same_key k k ≡ true
same_key_refl k = ap (λ (b : Bool). b && eqb k.length k.length) (same_number_refl k.sector) ∙ eqb_same k.length k.length refl

-- a cancel of the key is in the list, or none is
cancel_in : (k : Key) (l : List Item) → cancelled k l ≡ true → In (cancel k) l
cancel_in k [] e = false_true e
cancel_in k (patch j q f ∷ rest) e = inr (cancel_in k rest e)
cancel_in k (cancel j ∷ rest) e = go (same_key k j) refl e (cancel_in k rest)
  where
    go : (b : Bool) → same_key k j ≡ b → cond b true (cancelled k rest) ≡ true → (cancelled k rest ≡ true → In (cancel k) rest) → In (cancel k) (cancel j ∷ rest)
    go true q e ih = inl (ap cancel (key_same k j q))
    go false q e ih = inr (ih e)
cancel_in k (opens j ∷ rest) e = inr (cancel_in k rest e)
cancel_in k (closes j ∷ rest) e = inr (cancel_in k rest e)

-- a cancel in the list is found
in_cancel : (k : Key) (l : List Item) → In (cancel k) l → cancelled k l ≡ true
in_cancel k [] i = absurd i
in_cancel k (patch j q f ∷ rest) (inl e) = let z : ◌≡◌ {A = ℕ} 0 1 = cc in absurd (omega arith)
in_cancel k (patch j q f ∷ rest) (inr i) = in_cancel k rest i
in_cancel k (cancel j ∷ rest) (inl e) =
    let same : k ≡ j = cc in
    ap (λ (b : Bool). cond b true (cancelled k rest)) (subst (λ (l : Key). same_key k l ≡ true) same (same_key_refl k))
in_cancel k (cancel j ∷ rest) (inr i) = go (same_key k j) (in_cancel k rest i)
  where
    go : (b : Bool) → cancelled k rest ≡ true → cond b true (cancelled k rest) ≡ true
    go true ih = refl
    go false ih = ih
in_cancel k (opens j ∷ rest) (inl e) = let z : ◌≡◌ {A = ℕ} 0 1 = cc in absurd (omega arith)
in_cancel k (opens j ∷ rest) (inr i) = in_cancel k rest i
in_cancel k (closes j ∷ rest) (inl e) = let z : ◌≡◌ {A = ℕ} 0 1 = cc in absurd (omega arith)
in_cancel k (closes j ∷ rest) (inr i) = in_cancel k rest i

-- no cancel of the key is in the list
pub uncancelled : (k : Key) (l : List Item) → (In (cancel k) l → ⊥) → cancelled k l ≡ false
uncancelled k l n = go (cancelled k l) refl
  where
    go : (b : Bool) → cancelled k l ≡ b → b ≡ false
    go true e = absurd (n (cancel_in k l e))
    go false e = refl

-- a patch that gives a byte a value, or gives it none
given : (o : Option ℕ) → (o ≡ None) ⊎ ((w : ℕ) × (o ≡ Some w))
given None = inl refl
given (Some w) = inr (w, refl)

-- where no item covers the byte, what was asked before them is asked
bare_after : (l : List Item) (x : ℕ) (E : Option ℕ → Type 0) (v : Option ℕ) → Uncovered l x → after l x E v → E v
bare_after [] x E v b h = h
bare_after (patch k q f ∷ rest) x E v b h =
    ⊎_elim (λ e. subst (λ (o : Option ℕ). told o k rest E v) e (bare_after rest x (told (f x) k rest E) v (λ i m. b i (inr m)) h))
    (λ e. absurd (b (patch k q f) (inl refl) e)) (given (f x))
bare_after (cancel k ∷ rest) x E v b h = bare_after rest x E v (λ i m. b i (inr m)) h
bare_after (opens k ∷ rest) x E v b h = bare_after rest x E v (λ i m. b i (inr m)) h
bare_after (closes k ∷ rest) x E v b h = bare_after rest x E v (λ i m. b i (inr m)) h

-- else what the last that covers it gives is asked, if no later cancel has its key
last_after : (pre post : List Item) (k : Key) (l : List ℕ) (f : ℕ → Option ℕ) (x w : ℕ) (E : Option ℕ → Type 0) (v : Option ℕ) →
    f x ≡ Some w → Uncovered post x → cancelled k post ≡ false → after (pre ++ (patch k l f ∷ post)) x E v → v ≡ Some w
last_after [] post k l f x w E v g b c h =
    ⊎_elim (λ t. false_true (sym c ∙ t)) (λ e. e)
    (subst (λ (o : Option ℕ). told o k post E v) g (bare_after post x (told (f x) k post E) v b h))
last_after (patch j m e ∷ pre) post k l f x w E v g b c h = last_after pre post k l f x w (told (e x) j (pre ++ (patch k l f ∷ post)) E) v g b c h
last_after (cancel j ∷ pre) post k l f x w E v g b c h = last_after pre post k l f x w E v g b c h
last_after (opens j ∷ pre) post k l f x w E v g b c h = last_after pre post k l f x w E v g b c h
last_after (closes j ∷ pre) post k l f x w E v g b c h = last_after pre post k l f x w E v g b c h

-- what a byte holds, in words
pub in_words : (items : List Item) (x : ℕ) (before v : Option ℕ) → Holds items x before v → ByteHolds items x before v
in_words items x before v h = record {
  uncovered = λ b. bare_after items x (λ n. n ≡ before) v b h;
  last = λ pre post k l f w e g b c. last_after pre post k l f x w (λ n. n ≡ before) v g b (uncancelled k post c)
      (subst (λ (i : List Item). Holds i x before v) e h);
}

-- one more item before those among which a patch is applied
touched_more : (i : Item) (l : List Item) (x : ℕ) → Touched l x → Touched (i ∷ l) x
touched_more i l x t = record {
  earlier = i ∷ t.earlier;
  later = t.later;
  key = t.key;
  sectors = t.sectors;
  values = t.values;
  split = ap (λ (z : List Item). i ∷ z) t.split;
  covers = t.covers;
  uncancelled = t.uncancelled;
}

-- an applied patch covers the byte, in words
pub touched : (l : List Item) (x : ℕ) → Applied l x → Touched l x
touched [] x a = absurd a
touched (patch k q f ∷ rest) x (inl (n, g)) = record {
  earlier = [];
  later = rest;
  key = k;
  sectors = q;
  values = f;
  split = refl;
  covers = value (f x) refl g;
  uncancelled = λ i. false_true (sym n ∙ in_cancel k rest i);
}
  where
    value : (o : Option ℕ) → f x ≡ o → gives o → (w : ℕ) × (f x ≡ Some w)
    value None e z = absurd z
    value (Some w) e z = (w, e)
touched (patch k q f ∷ rest) x (inr a) = touched_more (patch k q f) rest x (touched rest x a)
touched (cancel k ∷ rest) x a = touched_more (cancel k) rest x (touched rest x a)
touched (opens k ∷ rest) x a = touched_more (opens k) rest x (touched rest x a)
touched (closes k ∷ rest) x a = touched_more (closes k) rest x (touched rest x a)
