-- Which intents items leave open, in words.
use Rattle.std.proofs.Common.{◌≡◌, ℕ, Bool, true, false, cond, eqb, ◌⊎◌, List, [], ◌∷◌, ◌++◌, sym, refl, ap, ◌∙◌, subst, inl, inr, ⊎_elim, arith}
use native.Mathlib.Decide.{ℕ_discrete}
use Rattle.life.specs.Disk.{In}
use Rattle.life.specs.Items.{Item, patch, cancel, opens, closes, without, open_after, Open, Distinct}
use Rattle.life.proofs.Lists.{false_true, eqb_same, same_eqb, in_left, in_right, in_either, in_one}

-- items one after the other
pub open-++ : (ids : List ℕ) (l m : List Item) → open_after ids (l ++ m) ≡ open_after (open_after ids l) m
open-++ ids [] m = refl
open-++ ids (patch k q f ∷ l) m = open-++ ids l m
open-++ ids (cancel k ∷ l) m = open-++ ids l m
open-++ ids (opens k ∷ l) m = open-++ (without k ids ++ (k ∷ [])) l m
open-++ ids (closes k ∷ l) m = open-++ (without k ids) l m

-- the ids but k
stays : (i k : ℕ) (ids : List ℕ) → In i ids → (i ≡ k → ⊥) → In i (without k ids)
stays i k [] m n = absurd m
stays i k (j ∷ ids) (inl e) n = go (eqb k j) refl
  where
    go : (b : Bool) → eqb k j ≡ b → In i (cond b [] (j ∷ []) ++ without k ids)
    go true q = absurd (n (e ∙ sym (same_eqb k j q)))
    go false q = inl e
stays i k (j ∷ ids) (inr m) n = in_right i (cond (eqb k j) [] (j ∷ [])) (without k ids) (stays i k ids m n)

-- and only they
stayed : (i k : ℕ) (ids : List ℕ) → In i (without k ids) → In i ids × (i ≡ k → ⊥)
stayed i k [] m = absurd m
stayed i k (j ∷ ids) m = go (eqb k j) refl m (stayed i k ids)
  where
    go : (b : Bool) → eqb k j ≡ b → In i (cond b [] (j ∷ []) ++ without k ids) → (In i (without k ids) → In i ids × (i ≡ k → ⊥)) → In i (j ∷ ids) × (i ≡ k → ⊥)
    go true q m ih = let h = ih m in (inr h.0, h.1)
    go false q (inl e) ih = (inl e, λ z. false_true (sym q ∙ eqb_same k j (sym z ∙ e)))
    go false q (inr m) ih = let h = ih m in (inr h.0, h.1)

-- one more item before those that leave an intent open
open_more : (k : Item) (l : List Item) (i : ℕ) → Open l i → Open (k ∷ l) i
open_more k l i o = record { earlier = k ∷ o.earlier; later = o.later; split = ap (λ (z : List Item). k ∷ z) o.split; unclosed = o.unclosed }

-- an item that closes i closes none else
closes_other : (i k : ℕ) (l : List Item) → (i ≡ k → ⊥) → (In (closes i) l → ⊥) → In (closes i) (closes k ∷ l) → ⊥
closes_other i k l n m (inl e) = n (cc)
closes_other i k l n m (inr z) = m z

-- an id that is open after items was open before and none of them closes it, or one opens it and no later one closes it
pub ids_open : (i : ℕ) (ids : List ℕ) (l : List Item) → In i (open_after ids l) → Open l i ⊎ (In i ids × (In (closes i) l → ⊥))
ids_open i ids [] m = inr (m, λ z. z)
ids_open i ids (patch k q f ∷ l) m =
    ⊎_elim (λ o. inl (open_more (patch k q f) l i o)) (λ h. inr (h.0, ⊎_elim (λ e. let z : ◌≡◌ {A = ℕ} 0 1 = cc in absurd (omega arith)) h.1)) (ids_open i ids l m)
ids_open i ids (cancel k ∷ l) m =
    ⊎_elim (λ o. inl (open_more (cancel k) l i o)) (λ h. inr (h.0, ⊎_elim (λ e. let z : ◌≡◌ {A = ℕ} 0 1 = cc in absurd (omega arith)) h.1)) (ids_open i ids l m)
ids_open i ids (opens k ∷ l) m = ⊎_elim (λ o. inl (open_more (opens k) l i o)) own (ids_open i (without k ids ++ (k ∷ [])) l m)
  where
    own : In i (without k ids ++ (k ∷ [])) × (In (closes i) l → ⊥) → Open (opens k ∷ l) i ⊎ (In i ids × (In (closes i) (opens k ∷ l) → ⊥))
    own (h, n) = ⊎_elim
        (λ z. inr ((stayed i k ids z).0, ⊎_elim (λ e. let z : ◌≡◌ {A = ℕ} 0 1 = cc in absurd (omega arith)) n))
        (λ z. inl (record { earlier = []; later = l; split = ap (λ (j : ℕ). opens j ∷ l) (sym (in_one i k z)); unclosed = n }))
        (in_either i (without k ids) (k ∷ []) h)
ids_open i ids (closes k ∷ l) m = ⊎_elim (λ o. inl (open_more (closes k) l i o))
    (λ h. let w = stayed i k ids h.0 in inr (w.0, closes_other i k l w.1 h.1))
    (ids_open i (without k ids) l m)

-- an id that was open before and that no item closes is open
kept_open : (i : ℕ) (ids : List ℕ) (l : List Item) → In i ids → (In (closes i) l → ⊥) → In i (open_after ids l)
kept_open i ids [] m n = m
kept_open i ids (patch k q f ∷ l) m n = kept_open i ids l m (λ z. n (inr z))
kept_open i ids (cancel k ∷ l) m n = kept_open i ids l m (λ z. n (inr z))
kept_open i ids (opens k ∷ l) m n = kept_open i (without k ids ++ (k ∷ [])) l (go (ℕ_discrete i k)) (λ z. n (inr z))
  where
    go : Dec (i ≡ k) → In i (without k ids ++ (k ∷ []))
    go (yes e) = in_right i (without k ids) (k ∷ []) (inl e)
    go (no d) = in_left i (without k ids) (k ∷ []) (stays i k ids m d)
kept_open i ids (closes k ∷ l) m n = kept_open i (without k ids) l (stays i k ids m (λ e. n (inl (ap closes e)))) (λ z. n (inr z))

-- an id that an item opens and no later one closes is open
pub open_in : (i : ℕ) (ids : List ℕ) (l : List Item) → Open l i → In i (open_after ids l)
open_in i ids l o =
    subst (λ (z : List Item). In i (open_after ids z)) (sym o.split)
    (subst (λ (z : List ℕ). In i z) (sym (open-++ ids o.earlier (opens i ∷ o.later)))
    (kept_open i (without i (open_after ids o.earlier) ++ (i ∷ [])) o.later
    (in_right i (without i (open_after ids o.earlier)) (i ∷ []) (inl refl)) o.unclosed))

-- ids that stand once stand once still
without_distinct : (k : ℕ) (ids : List ℕ) → Distinct ids → Distinct (without k ids)
without_distinct k [] d = tt
without_distinct k (j ∷ ids) d = go (eqb k j) (without_distinct k ids d.1)
  where
    go : (b : Bool) → Distinct (without k ids) → Distinct (cond b [] (j ∷ []) ++ without k ids)
    go true ih = ih
    go false ih = ((λ m. d.0 (stayed j k ids m).0), ih)

-- one more that is not among them
added_distinct : (k : ℕ) (ids : List ℕ) → (In k ids → ⊥) → Distinct ids → Distinct (ids ++ (k ∷ []))
added_distinct k [] n d = ((λ z. z), tt)
added_distinct k (j ∷ ids) n d =
    ((λ m. ⊎_elim d.0 (λ z. n (inl (sym (in_one j k z)))) (in_either j ids (k ∷ []) m)), added_distinct k ids (λ z. n (inr z)) d.1)

-- no open id is listed twice
pub open_distinct : (ids : List ℕ) (l : List Item) → Distinct ids → Distinct (open_after ids l)
open_distinct ids [] d = d
open_distinct ids (patch k q f ∷ l) d = open_distinct ids l d
open_distinct ids (cancel k ∷ l) d = open_distinct ids l d
open_distinct ids (opens k ∷ l) d =
    open_distinct (without k ids ++ (k ∷ [])) l (added_distinct k (without k ids) (λ m. (stayed k k ids m).1 refl) (without_distinct k ids d))
open_distinct ids (closes k ∷ l) d = open_distinct (without k ids) l (without_distinct k ids d)
