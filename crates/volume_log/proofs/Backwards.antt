-- The way back from the head. Assumes nothing.
use Rattle.std.proofs.Common.{◌≡◌, ℕ, zero, suc, ◌+◌, ◌-◌, ◌<◌, Bool, true, false, cond, not, ◌&&◌, ◌||◌, leb, List, Some, None, Ok, Err, sym, refl, ap, ◌∙◌, arith}
use Rattle.label.specs.declared.label.Label.{Label}
use Rattle.label.specs.Position.{volume_sector}
use Rattle.record.specs.declared.header.RecordHeader.{RecordHeader}
use Rattle.record.specs.Record.{is_header, header_of, sound, end_of}
use Rattle.model.specs.Refusals.{refusal, by_record, Outcome, ◌>>=◌, need}
use Rattle.model.specs.View.{at, newest_of}
use Rattle.volume_log.specs.Seeking.{ends_in, look_at}

-- what follows from a look at x
abbrev pub after_look : Outcome Bool → ℕ → Outcome ℕ → Outcome ℕ
after_look (Ok true) x older = Ok x
after_look (Ok false) x older = older
after_look (Err f) x older = Err f

looked : (a b c : Bool) (L : Label) (x : ℕ) (older : Outcome ℕ)
    → cond (a && (not b || c)) (need b (refusal 7 by_record (volume_sector L x) 0) >>= λ _. Ok x) older
    ≡ after_look (cond a (need b (refusal 7 by_record (volume_sector L x) 0) >>= λ _. Ok c) (Ok false)) x older
looked true true true L x older = refl
looked true true false L x older = refl
looked true false c L x older = refl
looked false b c L x older = refl

-- the look, by what the sector tells
told : (a b : Bool) (L : Label) (h x : ℕ) (r : RecordHeader)
    → cond a (need b (refusal 7 by_record (volume_sector L x) 0) >>= λ _. Ok (leb (end_of r x) h)) (Ok false)
    ≡ (cond a (need b (refusal 7 by_record (volume_sector L x) 0) >>= λ _. Ok (Some r)) (Ok None) >>= λ o. Ok (ends_in h x o))
told true true L h x r = refl
told true false L h x r = refl
told false b L h x r = refl

back_at : (L : Label) (log : List (List ℕ)) (h low n : ℕ) → newest_of L log h low (suc n) ≡ after_look (look_at L h (low + n) (at L log (low + n))) (low + n) (newest_of L log h low n)
back_at L log h low n =
    let b = at L log (low + n) in
    let s = sound L (header_of b) (low + n) in
    looked (is_header b) s (leb (end_of (header_of b) (low + n)) h) L (low + n) (newest_of L log h low n)
    ∙ ap (λ v. after_look v (low + n) (newest_of L log h low n)) (told (is_header b) s L h (low + n) (header_of b))

-- one step back, with what a look says there
pub back_step : (L : Label) (log : List (List ℕ)) (h low x : ℕ) (v : Outcome Bool) → low < x → look_at L h (x - 1) (at L log (x - 1)) ≡ v
    → newest_of L log h low (x - low) ≡ after_look v (x - 1) (newest_of L log h low (x - 1 - low))
back_step L log h low x v l e =
    let n : x - low ≡ suc (x - 1 - low) = omega arith in
    let p : low + (x - 1 - low) ≡ x - 1 = omega arith in
    let older = newest_of L log h low (x - 1 - low) in
    ap (newest_of L log h low) n ∙ back_at L log h low (x - 1 - low) ∙ ap (λ y. after_look (look_at L h y (at L log y)) y older) p ∙ ap (λ w. after_look w (x - 1) older) e

below : (v : Outcome Bool) (x n : ℕ) (older : Outcome ℕ) → (older ≡ Ok n → n < x) → after_look v x older ≡ Ok n → n < suc x
below (Ok false) x n older k e = omega (arith, k e)
below (Err f) x n older k e = let z : ◌≡◌ {A = ℕ} 0 1 = cc in absurd (omega arith)
below (Ok true) x n older k e = let z : x ≡ n = cc in omega arith

-- what is found lies below
pub back_below : (L : Label) (log : List (List ℕ)) (h low k n : ℕ) → newest_of L log h low k ≡ Ok n → n < low + k
back_below L log h low zero n e = let z : ◌≡◌ {A = ℕ} 0 1 = cc in absurd (omega arith)
back_below L log h low (suc k) n e =
    omega (arith, below (look_at L h (low + k) (at L log (low + k))) (low + k) n (newest_of L log h low k) (back_below L log h low k n) (sym (back_at L log h low k) ∙ e))
