-- Log sectors in order, one after the other. Assumes nothing.
use Rattle.std.proofs.Common.{◌≡◌, ℕ, suc, ◌+◌, ◌-◌, ◌<◌, true, false, List, [], Err, slice_index_or, sym, ap, ◌∙◌, arith}
use Rattle.std.proofs.Math.Nat.{mod-eq_of_lt}
use Rattle.label.specs.declared.label.Label.{Label}
use Rattle.model.specs.Refusals.{refusal, by_record, ◌>>=◌, need}
use Rattle.model.specs.View.{at, in_order, coherent_from}
use Rattle.volume_log.specs.Sectors.{sector_in_order}

order_step : (L : Label) (log : List (List ℕ)) (m n i : ℕ) → i < n
    → coherent_from L log m i (n - i) ≡ (need (in_order L log m i) (refusal 5 by_record (L.start + i) 0) >>= λ _. coherent_from L log m (i + 1) (n - (i + 1)))
order_step L log m n i l = let e : n - i ≡ suc (n - (i + 1)) = omega arith in ap (coherent_from L log m i) e

pub order_goes : (L : Label) (log : List (List ℕ)) (m n i : ℕ) → i < n → in_order L log m i ≡ true → coherent_from L log m (i + 1) (n - (i + 1)) ≡ coherent_from L log m i (n - i)
order_goes L log m n i l h = sym (order_step L log m n i l ∙ ap (λ t. need t (refusal 5 by_record (L.start + i) 0) >>= λ _. coherent_from L log m (i + 1) (n - (i + 1))) h)

pub order_stops : (L : Label) (log : List (List ℕ)) (m n i : ℕ) → i < n → in_order L log m i ≡ false → coherent_from L log m i (n - i) ≡ Err (refusal 5 by_record (L.start + i) 0)
order_stops L log m n i l h = order_step L log m n i l ∙ ap (λ t. need t (refusal 5 by_record (L.start + i) 0) >>= λ _. coherent_from L log m (i + 1) (n - (i + 1))) h

-- log sector i is that of position i
pub own_order : (L : Label) (log : List (List ℕ)) (m i : ℕ) → i < L.count → sector_in_order L m i (at L log i) ≡ in_order L log m i
own_order L log m i l = ap (λ k. sector_in_order L m i (slice_index_or log k [])) (mod-eq_of_lt l)
