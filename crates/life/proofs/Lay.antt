-- What laying patches does to a byte, step by step: laid again, or over a volume where some were laid, they give the same.
use Rattle.std.proofs.Common.{◌≡◌, ℕ, Bool, true, false, cond, ◌⊎◌, List, [], ◌∷◌, ◌++◌, Some, None, Option, sym, refl, ◌∙◌, subst, inl, inr, ⊎_elim}
use Rattle.life.specs.Items.{Key, same_key, Item, patch, cancel, opens, closes, cancelled}
use Rattle.life.proofs.Lists.{false_true}

-- what a byte holds after a value or nothing is given
abbrev pub give : Option ℕ → Option ℕ → Option ℕ
give (Some v) old = Some v
give None old = old

-- a value is given
abbrev pub gives : Option ℕ → Type 0
gives None = ⊥
gives (Some w) = Unit {0}

-- the applied patches laid in order over a byte
abbrev pub lay : List Item → ℕ → Option ℕ → Option ℕ
lay [] x v = v
lay (patch k q f ∷ rest) x v = lay rest x (cond (cancelled k rest) v (give (f x) v))
lay (cancel k ∷ rest) x v = lay rest x v
lay (opens k ∷ rest) x v = lay rest x v
lay (closes k ∷ rest) x v = lay rest x v

-- an applied patch covers the byte
abbrev pub Applied : List Item → ℕ → Type 0
Applied [] x = ⊥
Applied (patch k q f ∷ rest) x = ((cancelled k rest ≡ false) × gives (f x)) ⊎ Applied rest x
Applied (cancel k ∷ rest) x = Applied rest x
Applied (opens k ∷ rest) x = Applied rest x
Applied (closes k ∷ rest) x = Applied rest x

-- what a patch asks of a byte, before the items after it: the value that it gives, unless a later cancel has its key, or E where it gives none
abbrev pub told : Option ℕ → Key → List Item → (Option ℕ → Type 0) → Option ℕ → Type 0
told None k rest E v = E v
told (Some w) k rest E v = (cancelled k rest ≡ true) ⊎ (v ≡ Some w)

-- what items ask of a byte, where E was asked before them
abbrev pub after : List Item → ℕ → (Option ℕ → Type 0) → Option ℕ → Type 0
after [] x E v = E v
after (patch k q f ∷ rest) x E v = after rest x (told (f x) k rest E) v
after (cancel k ∷ rest) x E v = after rest x E v
after (opens k ∷ rest) x E v = after rest x E v
after (closes k ∷ rest) x E v = after rest x E v

-- the byte x may hold v when the items are kept, oldest first, in a volume where it held b
abbrev pub Holds : List Item → ℕ → Option ℕ → Option ℕ → Type 0
Holds items x b v = after items x (λ n. n ≡ b) v

-- a byte that no applied patch covers stays
pub lay_outside : (l : List Item) (x : ℕ) (v : Option ℕ) → (Applied l x → ⊥) → lay l x v ≡ v
lay_outside [] x v h = refl
lay_outside (patch k q f ∷ rest) x v h = lay_outside rest x _ (λ a. h (inr a)) ∙ go (cancelled k rest) refl (f x) refl
  where
    go : (b : Bool) → cancelled k rest ≡ b → (o : Option ℕ) → f x ≡ o → cond b v (give o v) ≡ v
    go true e o q = refl
    go false e None q = refl
    go false e (Some w) q = absurd (h (inl (e, subst gives (sym q) tt)))
lay_outside (cancel k ∷ rest) x v h = lay_outside rest x v h
lay_outside (opens k ∷ rest) x v h = lay_outside rest x v h
lay_outside (closes k ∷ rest) x v h = lay_outside rest x v h

-- two bytes that agree unless an applied patch covers them are the same after laying
pub lay_agree : (l : List Item) (x : ℕ) (u v : Option ℕ) → ((Applied l x → ⊥) → u ≡ v) → lay l x u ≡ lay l x v
lay_agree [] x u v h = h (λ a. a)
lay_agree (patch k q f ∷ rest) x u v h = lay_agree rest x _ _ (λ n. go n (cancelled k rest) refl (f x) refl)
  where
    go : (Applied rest x → ⊥) → (b : Bool) → cancelled k rest ≡ b → (o : Option ℕ) → f x ≡ o → cond b u (give o u) ≡ cond b v (give o v)
    go n true e o q = h (⊎_elim (λ p. false_true (sym p.0 ∙ e)) n)
    go n false e None q = h (⊎_elim (λ p. subst gives q p.1) n)
    go n false e (Some w) q = refl
lay_agree (cancel k ∷ rest) x u v h = lay_agree rest x u v h
lay_agree (opens k ∷ rest) x u v h = lay_agree rest x u v h
lay_agree (closes k ∷ rest) x u v h = lay_agree rest x u v h

-- laid twice is laid once
pub lay_twice : (l : List Item) (x : ℕ) (v : Option ℕ) → lay l x (lay l x v) ≡ lay l x v
lay_twice l x v = lay_agree l x (lay l x v) v (lay_outside l x v)

-- some front of the patches was laid: laying them all over it gives the same
pub after_keeps : (l : List Item) (x : ℕ) (E : Option ℕ → Type 0) (v : Option ℕ) → (Applied l x → ⊥) → E v → after l x E v
after_keeps [] x E v h e = e
after_keeps (patch k q f ∷ rest) x E v h e = after_keeps rest x _ v (λ a. h (inr a)) (go (cancelled k rest) refl (f x) refl)
  where
    go : (b : Bool) → cancelled k rest ≡ b → (o : Option ℕ) → f x ≡ o → told o k rest E v
    go b q None r = e
    go true q (Some w) r = inl q
    go false q (Some w) r = absurd (h (inl (q, subst gives (sym r) tt)))
after_keeps (cancel k ∷ rest) x E v h e = after_keeps rest x E v h e
after_keeps (opens k ∷ rest) x E v h e = after_keeps rest x E v h e
after_keeps (closes k ∷ rest) x E v h e = after_keeps rest x E v h e

-- what is asked may be weakened
pub after_mono : (l : List Item) (x : ℕ) (E F : Option ℕ → Type 0) (v : Option ℕ) → ((n : Option ℕ) → E n → F n) → after l x E v → after l x F v
after_mono [] x E F v g h = g v h
after_mono (patch k q f ∷ rest) x E F v g h = after_mono rest x _ _ v (go (f x)) h
  where
    go : (o : Option ℕ) → (n : Option ℕ) → told o k rest E n → told o k rest F n
    go None n t = g n t
    go (Some w) n t = t
after_mono (cancel k ∷ rest) x E F v g h = after_mono rest x E F v g h
after_mono (opens k ∷ rest) x E F v g h = after_mono rest x E F v g h
after_mono (closes k ∷ rest) x E F v g h = after_mono rest x E F v g h

-- laying the applied patches of the youngest items gives what all the items ask for
pub after_laid : (l : List Item) (x : ℕ) (E : Option ℕ → Type 0) (v : Option ℕ) → ((Applied l x → ⊥) → after l x E v) → after l x E (lay l x v)
after_laid [] x E v h = h (λ a. a)
after_laid (patch k q f ∷ rest) x E v h = after_laid rest x _ _ (λ n. go n (cancelled k rest) refl (f x) refl)
  where
    go : (Applied rest x → ⊥) → (b : Bool) → cancelled k rest ≡ b → (o : Option ℕ) → f x ≡ o → after rest x (told (f x) k rest E) (cond b v (give o v))
    go n true e o q = h (⊎_elim (λ p. false_true (sym p.0 ∙ e)) n)
    go n false e None q = h (⊎_elim (λ p. subst gives q p.1) n)
    go n false e (Some w) q = after_keeps rest x (told (f x) k rest E) (Some w) n (subst (λ (o : Option ℕ). told o k rest E (Some w)) (sym q) (inr refl))
after_laid (cancel k ∷ rest) x E v h = after_laid rest x E v h
after_laid (opens k ∷ rest) x E v h = after_laid rest x E v h
after_laid (closes k ∷ rest) x E v h = after_laid rest x E v h

-- a cancel in a front of the items is one of them
cancelled_more : (k : Key) (l m : List Item) → cancelled k l ≡ true → cancelled k (l ++ m) ≡ true
cancelled_more k [] m e = false_true e
cancelled_more k (patch j q f ∷ rest) m e = cancelled_more k rest m e
cancelled_more k (cancel j ∷ rest) m e = go (same_key k j) e (cancelled_more k rest m)
  where
    go : (b : Bool) → cond b true (cancelled k rest) ≡ true → (cancelled k rest ≡ true → cancelled k (rest ++ m) ≡ true) → cond b true (cancelled k (rest ++ m)) ≡ true
    go true e ih = refl
    go false e ih = ih e
cancelled_more k (opens j ∷ rest) m e = cancelled_more k rest m e
cancelled_more k (closes j ∷ rest) m e = cancelled_more k rest m e

-- more items are kept, and none of their applied patches covers the byte: it holds what it should still
pub after_more : (l m : List Item) (x : ℕ) (E : Option ℕ → Type 0) (v : Option ℕ) → (Applied m x → ⊥) → after l x E v → after (l ++ m) x E v
after_more [] m x E v h a = after_keeps m x E v h a
after_more (patch k q f ∷ rest) m x E v h a =
    after_mono (rest ++ m) x _ _ v (go (f x)) (after_more rest m x (told (f x) k rest E) v h a)
  where
    go : (o : Option ℕ) → (n : Option ℕ) → told o k rest E n → told o k (rest ++ m) E n
    go None n t = t
    go (Some w) n (inl e) = inl (cancelled_more k rest m e)
    go (Some w) n (inr e) = inr e
after_more (cancel k ∷ rest) m x E v h a = after_more rest m x E v h a
after_more (opens k ∷ rest) m x E v h a = after_more rest m x E v h a
after_more (closes k ∷ rest) m x E v h a = after_more rest m x E v h a

-- the whole: `old ++ chain` are the items kept; v is what the byte holds before replay, right unless an applied patch of the chain covers it
pub holds_laid : (old chain : List Item) (x : ℕ) (b v : Option ℕ) → ((Applied chain x → ⊥) → Holds (old ++ chain) x b v) → Holds (old ++ chain) x b (lay chain x v)
holds_laid old chain x b v = go old (λ n. n ≡ b)
  where
    go : (l : List Item) (E : Option ℕ → Type 0) → ((Applied chain x → ⊥) → after (l ++ chain) x E v) → after (l ++ chain) x E (lay chain x v)
    go [] E h = after_laid chain x E v h
    go (patch k q f ∷ rest) E h = go rest (told (f x) k (rest ++ chain) E) h
    go (cancel k ∷ rest) E h = go rest E h
    go (opens k ∷ rest) E h = go rest E h
    go (closes k ∷ rest) E h = go rest E h

-- an applied patch among the last items
pub applied_last : (l m : List Item) (x : ℕ) → Applied m x → Applied (l ++ m) x
applied_last [] m x a = a
applied_last (patch k q f ∷ l) m x a = inr (applied_last l m x a)
applied_last (cancel k ∷ l) m x a = applied_last l m x a
applied_last (opens k ∷ l) m x a = applied_last l m x a
applied_last (closes k ∷ l) m x a = applied_last l m x a
