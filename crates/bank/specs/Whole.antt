-- Banks of kinds whose patches are whole. Assumes nothing.
use Rattle.std.specs.Prelude.{◌≡◌, ℕ, Bool, is_some, Some, None, Option}
use Rattle.std.proofs.Common.{subst, arith}
use Rattle.std.proofs.lemmas.Bool.{cond_both}
use Rattle.item.specs.Meaning.{Kind, Bank, WholePatches, WholeBank}
use Rattle.bank.specs.Banks.{one_kind, first_of}

pub one_whole : (has : ℕ → Bool) (kind : Kind) → WholePatches kind → WholeBank (one_kind has kind)
one_whole has kind w type k =
    cond_both (has type) (Some kind) None (λ (o : Option Kind). o ≡ Some k → WholePatches k)
    (λ _ e. let z : kind ≡ k = cc in subst (λ (x : Kind). WholePatches x) z w)
    (λ _ e. let z : ◌≡◌ {A = ℕ} 0 1 = cc in absurd (let f : ⊥ = omega arith in f))

pub first_whole : (a b : Bank) → WholeBank a → WholeBank b → WholeBank (first_of a b)
first_whole a b v w type k =
    cond_both (is_some (a type)) (a type) (b type) (λ (o : Option Kind). o ≡ Some k → WholePatches k) (λ _ e. v type k e) (λ _ e. w type k e)
