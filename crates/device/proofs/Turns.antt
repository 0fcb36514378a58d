-- One more turn of a run of writes. Assumes nothing.
use Rattle.std.proofs.Common.{◌≡◌, ℕ, ◌+◌, ◌<◌, List, [], ◌∷◌, map, replicate, Option, Some, None, Ok, Err, Bor, sym, refl, ap, ◌∙◌, subst, ⊎_elim, suc, zero, arith}
use Rattle.std.proofs.lemmas.Bool.{le-ltb, cases_lt}
use Rattle.std.proofs.lemmas.Iterator.{YieldsList-from_slice}
use Rattle.std.proofs.lemmas.Iterator.Adapters.{YieldsList-from_repeat_n}
use Rattle.std.specs.declared.slice.Iter.{Iter}
use Rattle.std.specs.Slice.Iter.{iter_rest, iter_steps}
use Rattle.std.specs.Iterator.{AlwaysYields}
use Rattle.std.specs.Iterator.Adapters.{repeat_n_item, repeat_n_count, repeat_n_steps}
use Rattle.std.specs.declared.iter.RepeatN.{RepeatN}
use Rattle.device.specs.State.{DevState}
use Rattle.device.specs.Steps.{Answer, fault, write_answer, write_step}
use Rattle.device.specs.Actions.{Ran, then, run, writes}
use Rattle.device.specs.declared.fault.Cause.TheVariants.{Beyond}
use Rattle.device.specs.declared.fault.DeviceFault.{DeviceFault}

-- the exit of a `?`: r is what the call answered, q what is returned
stopped : (r q : Answer) (f y : DeviceFault) (s : DevState) (x : Ran) → r ≡ Err f → q ≡ Err y → y ≡ f → then r s x ≡ record { answer = q; after = s }
stopped r q f y s x a b e = rw (a, b, e)

module _ {S : Type 0} (steps : S → Option (Bor (List ℕ)) → S → Type 0) where
  -- from s the iterator gives sectors whose writes from sector `at` on, run at d, come to `whole`
  abbrev pub Owed : ℕ → S → DevState → Ran → Type 0
  Owed at s d whole = (rest : List (List ℕ)) × AlwaysYields steps (λ b. b.now) s rest × (run (writes at rest) d ≡ whole)

  -- once the first of them is written to that sector, the others are owed where it was accepted
  turn : (at i : ℕ) (s t : S) (b : Bor (List ℕ)) (d e : DevState) (r : Answer) (whole : Ran) → Owed at s d whole → steps s (Some b) t → i ≡ at
      → r ≡ write_answer d i → e ≡ write_step d i b.now
      → (rest : List (List ℕ)) × AlwaysYields steps (λ c. c.now) t rest × (then r e (run (writes (at + 1) rest) e) ≡ whole)
  turn at i s t b d e r whole ([], y, h) step p a w = absurd (y b t step)
  turn at i s t b d e r whole (c ∷ cs, y, h) step p a w = let n = y.1 b t step in (cs, n.1, rw (a, w, p, n.0) h)

  pub accepted : (at i next : ℕ) (s t : S) (b : Bor (List ℕ)) (d e : DevState) (r : Answer) (whole : Ran) → Owed at s d whole → steps s (Some b) t → i ≡ at → next ≡ at + 1
      → r ≡ write_answer d i → e ≡ write_step d i b.now → r ≡ Ok tt → Owed next t e whole
  accepted at i next s t b d e r whole o step p q a w ok =
      let n = turn at i s t b d e r whole o step p a w in
      (n.0, n.1, ap (λ k. run (writes k n.0) e) q ∙ sym (ap (λ x. then x e (run (writes (at + 1) n.0) e)) ok) ∙ n.2)

  -- and nothing where it was refused: x is what is returned for the answer r
  pub refused : (at i : ℕ) (s t : S) (b : Bor (List ℕ)) (d e : DevState) (r x : Answer) (f y : DeviceFault) (whole : Ran) → Owed at s d whole → steps s (Some b) t → i ≡ at
      → r ≡ write_answer d i → e ≡ write_step d i b.now → r ≡ Err f → x ≡ Err y → y ≡ f → whole ≡ record { answer = x; after = e }
  refused at i s t b d e r x f y whole o step p a w stop back same =
      let n = turn at i s t b d e r whole o step p a w in
      sym n.2 ∙ stopped r x f y e (run (writes (at + 1) n.0) e) stop back same

  -- the end of the run: the iterator gives no more
  pub ended : (at : ℕ) (s t : S) (d : DevState) (whole : Ran) → Owed at s d whole → steps s None t → whole ≡ record { answer = Ok tt; after = d }
  ended at s t d whole ([], y, h) step = sym h
  ended at s t d whole (c ∷ cs, y, h) step = absurd (y.0 t step)

-- an accepted write lies on the device
pub on_device : (d : DevState) (i : ℕ) (r : Answer) → r ≡ write_answer d i → r ≡ Ok tt → i < d.size
on_device d i r a ok = ⊎_elim (λ l. l) (λ l. never (sym ok ∙ a ∙ rw (le-ltb i d.size l) refl)) (cases_lt i d.size)
  where
    never : ◌≡◌ {A = Answer} (Ok tt) (Err (fault Beyond i)) → i < d.size
    never h = let z : ◌≡◌ {A = ℕ} 0 1 = cc in let y : ⊥ = omega arith in absurd y

-- what an iterator gives, seen through f
seen : {S A B : Type 0} (steps : S → Option A → S → Type 0) (f : A → B) (s : S) (xs : List A) → AlwaysYields steps (λ x. x) s xs → AlwaysYields steps f s (map f xs)
seen steps f s [] h = h
seen steps f s (x ∷ xs) h = (h.0, λ y j k. let n = h.1 y j k in (ap f n.0, seen steps f j xs n.1))

map-replicate : {A B : Type 0} (f : A → B) (n : ℕ) (x : A) → map f (replicate n x) ≡ replicate n (f x)
map-replicate f zero x = refl
map-replicate f (suc n) x = ap (λ ys. f x ∷ ys) (map-replicate f n x)

-- the same sector n times
pub repeated : (n : ℕ) (b : Bor (List ℕ)) (s : RepeatN (Bor (List ℕ))) → repeat_n_count s ≡ n → repeat_n_item s ≡ b
    → AlwaysYields (repeat_n_steps (λ x y. y ≡ x)) (λ x. x.now) s (replicate n b.now)
repeated n b s p q =
    let y = YieldsList-from_repeat_n {s = s} (λ x y. y ≡ x) n b p q (λ y k. k) in
    subst (AlwaysYields (repeat_n_steps (λ x y. y ≡ x)) (λ x. x.now) s) (map-replicate (λ x. x.now) n b) (seen (repeat_n_steps (λ x y. y ≡ x)) (λ x. x.now) s (replicate n b) y.runs)

-- a walk over sectors gives each of them
pub slice_yields : (bs : List (List ℕ)) (s : Iter (List ℕ)) → iter_rest s ≡ bs → AlwaysYields iter_steps (λ b. b.now) s bs
slice_yields bs s e = (YieldsList-from_slice bs e).runs
