-- A commit that is accepted. Assumes nothing.
use Rattle.std.proofs.Common.{◌≡◌, ℕ, ◌+◌, ◌*◌, ◌%◌, ◌<◌, ◌≤◌, not, leb, List, [], ◌∷◌, ◌++◌, map, length, drop, Ok, sym, div-lt_iff_lt-mul, arith, lit<}
use Rattle.std.proofs.lemmas.List.{length-append}
use Rattle.std.proofs.ByRecursion.{All-weaker}
use Rattle.std.proofs.lemmas.Bool.{not-true, ltb-false, leb-true, leb-false}
use Rattle.std.specs.List.{AllByRecursion}
use Rattle.model.specs.Refusals.{refusal, by_transaction, by_session, Outcome, ◌>>=◌, need}
use Rattle.codec.specs.Fields.{Bytes, le32_bytes, joined}
use Rattle.codec.proofs.Allbytes.{bytes_append, bytes_take, bytes_drop, bytes_le}
use Rattle.label.specs.declared.label.Label.{Label}
use Rattle.label.specs.Position.{cycle, volume_sector}
use Rattle.record.specs.Record.{packed, sectors_for}
use Rattle.model.specs.Items.{Item, items_after, Book, committing, check_all, replay_order}
use Rattle.model.specs.Ops.{op_bytes}
use Rattle.model.specs.Lay.{record_writes}
use Rattle.model.specs.Calls.{Session, Plan, regions_in, region_bytes, placed, number_of, first_region, commit_ops, too_long, last_of, end_after, worn_out, window_full, log_full, lengthened}
use Rattle.model.specs.Laws.{CommitSays}
use Rattle.model.proofs.Sums.{bytes_op}
use Rattle.model.proofs.Outcomes.{need_ok, bind_ok}

-- The bytes and lengths of ops.

abbrev regions : ℕ → List (List ℕ) → List ℕ
regions number rs = joined (map (λ r. op_bytes number 0x69 0x00 r) rs)

bytes_regions : (number : ℕ) (rs : List (List ℕ)) → AllByRecursion Bytes rs → Bytes (regions number rs)
bytes_regions number [] a = tt
bytes_regions number (r ∷ rs) a = bytes_append (op_bytes number 0x69 0x00 r) (regions number rs) (bytes_op number 0x69 0x00 r (lit< tt) (lit< tt) a.0) (bytes_regions number rs a.1)

bytes_first : (number items : ℕ) → Bytes (first_region number items)
bytes_first number items =
    bytes_append (le32_bytes 0x5452414E ++ le32_bytes 40 ++ le32_bytes number) (le32_bytes items)
    (bytes_append (le32_bytes 0x5452414E ++ le32_bytes 40) (le32_bytes number)
    (bytes_append (le32_bytes 0x5452414E) (le32_bytes 40) (bytes_le 4 0x5452414E) (bytes_le 4 40)) (bytes_le 4 number)) (bytes_le 4 items)

bytes_commit : (number items : ℕ) (rs : List (List ℕ)) → AllByRecursion Bytes rs → Bytes (commit_ops number items rs)
bytes_commit number items rs a =
    let S : List ℕ = op_bytes number 0x69 0x01 [] in
    let F : List ℕ = op_bytes number 0x69 0x00 (first_region number items) in
    bytes_append (S ++ F ++ regions number rs) (op_bytes number 0x69 0x02 [])
    (bytes_append (S ++ F) (regions number rs)
    (bytes_append S F (bytes_op number 0x69 0x01 [] (lit< tt) (lit< tt) tt) (bytes_op number 0x69 0x00 (first_region number items) (lit< tt) (lit< tt) (bytes_first number items)))
    (bytes_regions number rs a))
    (bytes_op number 0x69 0x02 [] (lit< tt) (lit< tt) tt)

bytes_given : (b : List ℕ) (qs : List (ℕ × ℕ)) → Bytes b → AllByRecursion Bytes (region_bytes b qs)
bytes_given b [] a = tt
bytes_given b (q ∷ qs) a = (bytes_take q.1 (drop q.0 b) (bytes_drop q.0 b a), bytes_given b qs a)

-- no region is longer than all ops together, nor are there more regions than bytes
long_regions : (number : ℕ) (rs : List (List ℕ)) → (AllByRecursion (λ b. length b ≤ length (regions number rs)) rs) × (length rs ≤ length (regions number rs))
long_regions number [] = (tt, omega arith)
long_regions number (r ∷ rs) =
    let l = length-append (op_bytes number 0x69 0x00 r) (regions number rs) in
    let i = long_regions number rs in (
      (omega (arith, l), All-weaker (λ b. length b ≤ length (regions number rs)) (λ b. length b ≤ length (regions number (r ∷ rs))) (λ b h. omega (arith, l, h)) rs i.0),
      omega (arith, l, i.1),
    )

long_commit : (number items : ℕ) (rs : List (List ℕ)) → length (regions number rs) + 52 ≡ length (commit_ops number items rs)
long_commit number items rs = omega (arith, length-append (regions number rs) (op_bytes number 0x69 0x02 []))

short : (a g n r : ℕ) → a ≤ g → g + 52 ≡ n → n ≤ r → r ≤ 32768 → a < 4294967296
short a g n r h e l t = omega arith

few : (a g n r : ℕ) → a ≤ g → g + 52 ≡ n → n ≤ r → r ≤ 32768 → 3 + a < 4294967296
few a g n r h e l t = omega arith

whole : (n r : ℕ) → n ≤ r → r % 512 ≡ 0 → 512 * sectors_for n ≤ r
whole n r h e = omega arith

some : (g n : ℕ) → g + 52 ≡ n → 1 ≤ n
some g n e = omega arith

low : (a n : ℕ) → a < n → n ≤ 2097152 → a < 4294967296
low a n h l = omega arith

pub commit_says : CommitSays
commit_says d s bank bytes qs p w small e =
    let L : Label = s.label in
    let at : ℕ = volume_sector L s.e in
    let rs : List (List ℕ) = region_bytes bytes qs in
    let number : ℕ = number_of s.e in
    let ops : List Item → List ℕ = λ is. commit_ops number (length is) rs in
    let b : List Item → ℕ = λ is. end_after s.e (ops is) in
    let P : List Item → Book → Plan ℕ Session = λ is book. record {
      actions = record_writes L s.e (packed L s.e s.t s.newest (3 + length rs) (ops is));
      answer = number;
      session = lengthened s (b is) book;
    } in
    let K₅ : List Item → Book → Unit {0} → Outcome (Plan ℕ Session) = λ is book _. Ok (P is book) in
    let K₄ : List Item → Book → Unit {0} → Outcome (Plan ℕ Session) = λ is book _. need (not (log_full s (b is) (length book.intents))) (refusal 17 by_session 0 0) >>= K₅ is book in
    let K₃ : List Item → Book → Unit {0} → Outcome (Plan ℕ Session) = λ is book _. need (not (window_full s (b is))) (refusal 16 by_session 0 0) >>= K₄ is book in
    let K₂ : List Item → Book → Outcome (Plan ℕ Session) = λ is book. need (not (worn_out L (last_of s.e (ops is)))) (refusal 19 by_session 0 0) >>= K₃ is book in
    let K₁ : List Item → Unit {0} → Outcome (Plan ℕ Session) = λ is _. check_all committing d L bank (replay_order bank is) s.book >>= K₂ is in
    let K₀ : List Item → Outcome (Plan ℕ Session) = λ is. need (not (too_long L (ops is))) (refusal 14 by_transaction at 0) >>= K₁ is in
    let I : Unit {0} → Outcome (Plan ℕ Session) = λ _. items_after 0 (placed at 0 rs) >>= K₀ in
    let e₁ = need_ok (leb (L.start + L.count) d.size) (refusal 1 by_session 0 0) (λ _. need (regions_in (length bytes) 0 qs) (refusal 20 by_session 0 0) >>= I) p e in
    let e₂ = need_ok (regions_in (length bytes) 0 qs) (refusal 20 by_session 0 0) I p e₁.1 in
    let i = bind_ok (items_after 0 (placed at 0 rs)) K₀ p e₂.1 in
    let e₃ = need_ok (not (too_long L (ops i.0))) (refusal 14 by_transaction at 0) (K₁ i.0) p i.2 in
    let c = bind_ok (check_all committing d L bank (replay_order bank i.0) s.book) (K₂ i.0) p e₃.1 in
    let e₄ = need_ok (not (worn_out L (last_of s.e (ops i.0)))) (refusal 19 by_session 0 0) (K₃ i.0 c.0) p c.2 in
    let e₅ = need_ok (not (window_full s (b i.0))) (refusal 16 by_session 0 0) (K₄ i.0 c.0) p e₄.1 in
    let e₆ = need_ok (not (log_full s (b i.0) (length c.0.intents))) (refusal 17 by_session 0 0) (K₅ i.0 c.0) p e₅.1 in
    let q : Ok (P i.0 c.0) ≡ Ok p = e₆.1 in
    let same : P i.0 c.0 ≡ p = cc in
    let long = ltb-false L.most (length (ops i.0)) (not-true (too_long L (ops i.0)) e₃.0) in
    let worn = leb-false 2147483648 (cycle L (last_of s.e (ops i.0))) (not-true (worn_out L (last_of s.e (ops i.0))) e₄.0) in
    let wide = ltb-false (s.a + L.window) (b i.0) (not-true (window_full s (b i.0)) e₅.0) in
    let full = ltb-false (s.t + L.count) (b i.0 + 2 + 2 * length c.0.intents) (not-true (log_full s (b i.0) (length c.0.intents)) e₆.0) in
    let n = long_commit number (length i.0) rs in
    let g = long_regions number rs in (
      i.0,
      c.0,
      record {
        there = leb-true (L.start + L.count) d.size e₁.0;
        framed = i.1;
        checked = c.1;
        fits = record {
          begun = w.begun;
          last = (div-lt_iff_lt-mul w.sane.some).0 worn;
          behind = w.behind;
          previous_low = low s.newest L.count w.low w.sane.few;
          ops_low = few (length rs) (length (regions number rs)) (length (ops i.0)) L.most g.1 n long w.sane.short;
          some = some (length (regions number rs)) (length (ops i.0)) n;
          most = whole (length (ops i.0)) L.most long w.even;
          bytes = bytes_commit number (length i.0) rs (bytes_given bytes qs small);
        };
        small = All-weaker (λ x. length x ≤ length (regions number rs)) (λ x. length x < 4294967296) (λ x h. short (length x) (length (regions number rs)) (length (ops i.0)) L.most h n long w.sane.short) rs g.0;
        window = wide;
        room = full;
        plan = sym same;
      },
    )
