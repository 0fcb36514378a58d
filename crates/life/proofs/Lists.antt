-- Members of lists, and fronts of lists.
use Rattle.std.proofs.Common.{◌≡◌, ℕ, Bool, true, false, T, eqb, ◌⊎◌, List, [], ◌∷◌, ◌++◌, sym, refl, ap, ◌∙◌, subst, inl, inr, ⊎_elim, arith, eqb→eq}
use lib.Dec.{eqb_refl}
use Rattle.life.specs.Disk.{In, AllByRecursion}

-- nothing is both
pub false_true : {A : Type 0} → false ≡ true → A
false_true e = absurd (subst (λ (b : Bool). T b) (sym e) tt)

-- a test that holds
pub T_true : (b : Bool) → T b → b ≡ true
T_true true t = refl
T_true false t = absurd t

-- a number is itself
pub eqb_same : (m n : ℕ) → m ≡ n → eqb m n ≡ true
eqb_same m n e = T_true (eqb m n) (subst (λ (k : ℕ). T (eqb m k)) e (eqb_refl m))

-- and no other
pub same_eqb : (m n : ℕ) → eqb m n ≡ true → m ≡ n
same_eqb m n e = eqb→eq m n (subst T (sym e) tt)

-- what each has, one of them has
pub in_all : {S : Type 0} (P : S → Type 0) (x : S) (l : List S) → AllByRecursion P l → In x l → P x
in_all P x [] a m = absurd m
in_all P x (y ∷ ys) a (inl e) = subst P (sym e) a.0
in_all P x (y ∷ ys) a (inr m) = in_all P x ys a.1 m

-- what every member has, each has
pub all_of : {S : Type 0} (P : S → Type 0) (l : List S) → ((z : S) → In z l → P z) → AllByRecursion P l
all_of P [] f = tt
all_of P (x ∷ l) f = (f x (inl refl), all_of P l (λ z m. f z (inr m)))

-- one property for another
pub all_map : {S : Type 0} (P Q : S → Type 0) (l : List S) → ((s : S) → P s → Q s) → AllByRecursion P l → AllByRecursion Q l
all_map P Q [] f a = tt
all_map P Q (y ∷ ys) f a = (f y a.0, all_map P Q ys f a.1)

-- the front of a list
pub all_left : {S : Type 0} (P : S → Type 0) (l m : List S) → AllByRecursion P (l ++ m) → AllByRecursion P l
all_left P [] m a = tt
all_left P (x ∷ l) m a = (a.0, all_left P l m a.1)

-- and the rest of it
pub all_right : {S : Type 0} (P : S → Type 0) (l m : List S) → AllByRecursion P (l ++ m) → AllByRecursion P m
all_right P [] m a = a
all_right P (x ∷ l) m a = all_right P l m a.1

-- both together
pub all_both : {S : Type 0} (P : S → Type 0) (l m : List S) → AllByRecursion P l → AllByRecursion P m → AllByRecursion P (l ++ m)
all_both P [] m a b = b
all_both P (x ∷ l) m a b = (a.0, all_both P l m a.1 b)

-- a member of the front
pub in_left : {S : Type 0} (x : S) (l m : List S) → In x l → In x (l ++ m)
in_left x [] m i = absurd i
in_left x (y ∷ l) m (inl e) = inl e
in_left x (y ∷ l) m (inr i) = inr (in_left x l m i)

-- a member of the rest
pub in_right : {S : Type 0} (x : S) (l m : List S) → In x m → In x (l ++ m)
in_right x [] m i = i
in_right x (y ∷ l) m i = inr (in_right x l m i)

-- a member of either
pub in_either : {S : Type 0} (x : S) (l m : List S) → In x (l ++ m) → In x l ⊎ In x m
in_either x [] m i = inr i
in_either x (y ∷ l) m (inl e) = inl (inl e)
in_either x (y ∷ l) m (inr i) = ⊎_elim (λ k. inl (inr k)) (λ k. inr k) (in_either x l m i)

-- the one member of a list of one
pub in_one : {S : Type 0} (x y : S) → In x (y ∷ []) → x ≡ y
in_one x y (inl e) = e
in_one x y (inr m) = absurd m

-- a list and one more, cut in two: all of it and nothing, or a front of the list and the rest with the one more
pub snoc_split : {S : Type 0} (l : List S) (r : S) (y z : List S) → l ++ (r ∷ []) ≡ y ++ z →
    ((z ≡ []) × (y ≡ l ++ (r ∷ []))) ⊎ ((w : List S) × (z ≡ w ++ (r ∷ [])) × (l ≡ y ++ w))
snoc_split l r [] z e = inr (l, sym e, refl)
snoc_split [] r (c ∷ y) z e = inl (empty y z (cc))
  where
    empty : (y z : List _) → [] ≡ y ++ z → (z ≡ []) × (c ∷ y ≡ r ∷ [])
    empty [] z q = (sym q, ap (λ k. k ∷ []) (cc))
    empty (k ∷ y) z q = let n : ◌≡◌ {A = ℕ} 0 1 = cc in absurd (omega arith)
snoc_split (d ∷ l) r (c ∷ y) z e =
    let same : d ≡ c = cc in
    ⊎_elim (λ p. inl (p.0, ap (λ k. c ∷ k) p.1 ∙ ap (λ k. k ∷ (l ++ (r ∷ []))) (sym same)))
    (λ p. inr (p.0, p.1, ap (λ k. k ∷ l) same ∙ ap (λ k. c ∷ k) p.2))
    (snoc_split l r y z (cc))
