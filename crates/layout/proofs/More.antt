-- A reading that goes on keeps what it has. Assumes nothing.
use Rattle.std.proofs.Common.{◌≡◌, ℕ, zero, suc, Bool, true, false, cond, not, eqb, ltb, List, [], ◌∷◌, ◌++◌, map, length, drop, set, Some, None, Ok, Err, Option, sym, refl, ap, ◌∙◌, subst, arith}
use mathlib.Core.Bool.{beq}
use Rattle.std.specs.List.{AllByRecursion}
use Rattle.std.proofs.lemmas.List.{append-nil, append_assoc, map-append}
use Rattle.std.proofs.ByRecursion.{All-append}
use Rattle.device.specs.State.{DevState}
use Rattle.keys.specs.Keys.{place_of}
use Rattle.label.specs.declared.label.Label.{Label}
use Rattle.item.specs.Meaning.{Bank}
use Rattle.model.specs.Refusals.{refusal, by_transaction, Outcome, ◌>>=◌}
use Rattle.model.specs.Items.{Region, Item, Book, items_after, replay_order, check_all, reading, without}
use Rattle.model.specs.Ops.{Sort, start, commit, region, idle, Op, op_at, after_op}
use Rattle.model.specs.Reading.{Open, Transaction, Reading, saw, counted, regions_of, heads, joins, committed, bad, pending_at, starts, brings, ends, by_sort, step, read_ops}
use Rattle.model.specs.Laws.{meanings}
use Rattle.model.proofs.Outcomes.{need_ok, bind_ok}
use Rattle.life.specs.Format.{Rec}
use Rattle.layout.specs.Read.{clean, Progress, unread, taken, read_rec, goes, progress, reads, pass}
use Rattle.layout.proofs.Items.{Told, told}

-- the transactions of r are the first ones of r', and the others ask what they were found to mean
abbrev pub Longer : Bank → Reading → Reading → Type 0
Longer bank r r' = (w : List Transaction) × (r'.done ≡ r.done ++ w) × AllByRecursion (Told bank) w

-- the same ones
same_long : (bank : Bank) (r r' : Reading) → r'.done ≡ r.done → Longer bank r r'
same_long bank r r' e = ([], e ∙ sym (append-nil r.done), tt)

-- a value is the one that was given
pub ok_same : {A : Type 0} (x y : A) → ◌≡◌ {A = Outcome A} (Ok x) (Ok y) → x ≡ y
ok_same x y e = cc

pub long_joins : (bank : Bank) (r s t : Reading) → Longer bank r s → Longer bank s t → Longer bank r t
long_joins bank r s t a b =
    (a.0 ++ b.0, b.1 ∙ ap (λ l. l ++ b.0) a.1 ∙ append_assoc r.done a.0 b.0, All-append (Told bank) a.0 b.0 a.2 b.2)

module _ (d : DevState) (L : Label) (bank : Bank) where
  committed_long : (o : Op) (rs : List Region) (r r' : Reading) → committed d L bank o rs r ≡ Ok r' → Longer bank r r'
  committed_long o rs r r' e =
      let B : List Item → Book → Outcome Reading = λ is b. Ok (joins bank (drop 1 rs) (replay_order bank is) b r) in
      let A : List Item → Outcome Reading = λ is. check_all reading d L bank (replay_order bank is) r.book >>= λ b. B is b in
      let a = need_ok (heads o.number rs) (refusal 10 by_transaction o.sector o.byte) (λ _. items_after 0 (drop 1 rs) >>= A) r' e in
      let b = bind_ok (items_after 0 (drop 1 rs)) A r' a.1 in
      let c = bind_ok (check_all reading d L bank (replay_order bank b.0) r.book) (B b.0) r' b.2 in
      let j : Reading = joins bank (drop 1 rs) (replay_order bank b.0) c.0 r in
      let q : j ≡ r' = ok_same j r' c.2 in
      (record { regions = map (λ (x : Region). x.bytes) (drop 1 rs); items = meanings bank (replay_order bank b.0) } ∷ [], ap (λ x. x.done) (sym q), (told bank (drop 1 rs) b.0 b.1, tt))

  -- what each op keeps that is seen, and each commit, all ops keep
  module _ (P : Reading → Type 0) (sees : (o : Op) (p : List Open) (r : Reading) → P r → P (saw o p r))
      (commits : (o : Op) (rs : List Region) (r q : Reading) → P r → committed d L bank o rs r ≡ Ok q → P q) where
    saw_keep : (o : Op) (p : List Open) (r q : Reading) → P r → ◌≡◌ {A = Outcome Reading} (Ok (saw o p r)) (Ok q) → P q
    saw_keep o p r q k e = subst P (ok_same (saw o p r) q e) (sees o p r k)

    starts_keep : (o : Op) (j : Option ℕ) (r q : Reading) → P r → starts o j r ≡ Ok q → P q
    starts_keep o (Some j) r q k e = let z : ◌≡◌ {A = ℕ} 0 1 = cc in let y : ⊥ = omega arith in elim y [ ]
    starts_keep o None r q k e =
        let p : List Open = r.pending ++ (record { number = o.number; from = length r.seen; parted = false } ∷ []) in
        saw_keep o p r q k (need_ok (ltb (length r.pending) 32) (refusal 14 by_transaction o.sector o.byte) (λ _. Ok (saw o p r)) q e).1

    brings_keep : (b f : Bool) (o : Op) (j : Option ℕ) (r q : Reading) → P r → brings b f o j r ≡ Ok q → P q
    brings_keep b f o None r q k e = saw_keep o r.pending r q k e
    brings_keep b f o (Some j) r q k e =
        let p : List Open = set r.pending j (record { number = o.number; from = (pending_at j r).from; parted = not f }) in
        saw_keep o p r q k (need_ok (beq (pending_at j r).parted (not b)) (bad o) (λ _. Ok (saw o p r)) q e).1

    ends_keep : (o : Op) (j : Option ℕ) (r q : Reading) → P r → ends d L bank o j r ≡ Ok q → P q
    ends_keep o None r q k e = saw_keep o r.pending r q k e
    ends_keep o (Some j) r q k e =
        let rs : List Region = regions_of o.number (drop (pending_at j r).from r.seen) in
        let x : Reading = saw o (without j r.pending) r in
        commits o rs x q (sees o (without j r.pending) r k) (need_ok (not (pending_at j r).parted) (bad o) (λ _. committed d L bank o rs x) q e).1

    sort_keep : (o : Op) (s : Sort) (j : Option ℕ) (r q : Reading) → P r → by_sort d L bank o s j r ≡ Ok q → P q
    sort_keep o start j r q k e = starts_keep o j r q k e
    sort_keep o commit j r q k e = ends_keep o j r q k e
    sort_keep o (region b f) j r q k e = brings_keep b f o j r q k e
    sort_keep o idle j r q k e = saw_keep o r.pending r q k e

    pub ops_keep : (sector : ℕ) (b : List ℕ) (from n : ℕ) (r q : Reading) → P r → read_ops d L bank sector b from n r ≡ Ok q → P q
    ops_keep sector b from zero r q k e = subst P (ok_same r q e) k
    ops_keep sector b from (suc n) r q k e =
        let B : Op → Reading → Outcome Reading = λ o q. read_ops d L bank sector b (after_op o) n q in
        let x = bind_ok (op_at sector b from) (λ o. step d L bank o r >>= B o) q e in
        let o : Op = x.0 in
        let y = bind_ok (step d L bank o r) (B o) q x.2 in
        ops_keep sector b (after_op o) n y.0 q (sort_keep o o.sort (place_of (λ z. eqb z.number o.number) r.pending) r y.0 k y.1) y.2

  pub ops_long : (sector : ℕ) (b : List ℕ) (from n : ℕ) (r r' : Reading) → read_ops d L bank sector b from n r ≡ Ok r' → Longer bank r r'
  ops_long sector b from n r r' e =
      ops_keep (Longer bank r) (λ o p q k. k) (λ o rs q z k c. long_joins bank r q z k (committed_long o rs q z c)) sector b from n r r' (same_long bank r r refl) e

module _ (n : ℕ) (L : Label) (bank : Bank) where
  taken_long : (x : Outcome Reading) (r : Reading) → ((r' : Reading) → x ≡ Ok r' → Longer bank r r') → Longer bank r (taken x r).reading
  taken_long (Ok r') r f = f r' refl
  taken_long (Err e) r f = same_long bank r r refl

  goes_long : (q : Rec) (s : Progress) → Longer bank s.reading (goes n L bank q s).reading
  goes_long q s = go s.passed
    where
      go : (t : Bool) → Longer bank s.reading (cond t (taken (read_rec n L bank q s.reading) s.reading) s).reading
      go true = taken_long (read_rec n L bank q s.reading) s.reading (λ r' e. ops_long (clean n) L bank 0 q.payload 0 q.ops (counted s.reading) r' e)
      go false = same_long bank s.reading s.reading refl

  -- more records read commit no fewer transactions
  pub progress_long : (qs : List Rec) (s : Progress) → Longer bank s.reading (progress n L bank qs s).reading
  progress_long [] s = same_long bank s.reading s.reading refl
  progress_long (q ∷ qs) s =
      long_joins bank s.reading (goes n L bank q s).reading (progress n L bank qs (goes n L bank q s)).reading (goes_long q s) (progress_long qs (goes n L bank q s))

  -- a refusal stays
  goes_passed : (q : Rec) (s : Progress) → (goes n L bank q s).passed ≡ true → s.passed ≡ true
  goes_passed q s e = go s.passed refl e
    where
      go : (t : Bool) → s.passed ≡ t → (cond t (taken (read_rec n L bank q s.reading) s.reading) s).passed ≡ true → s.passed ≡ true
      go true p e = p
      go false p e = e

  pub progress_passed : (qs : List Rec) (s : Progress) → (progress n L bank qs s).passed ≡ true → s.passed ≡ true
  progress_passed [] s e = e
  progress_passed (q ∷ qs) s e = goes_passed q s (progress_passed qs (goes n L bank q s) e)

  -- records read in two goes
  pub progress_joins : (l m : List Rec) (s : Progress) → progress n L bank (l ++ m) s ≡ progress n L bank m (progress n L bank l s)
  progress_joins [] m s = refl
  progress_joins (q ∷ l) m s = progress_joins l m (goes n L bank q s)

  pub reads_more : (l m : List Rec) → (w : List (List (List ℕ))) × (reads n L bank (l ++ m) ≡ reads n L bank l ++ w)
  reads_more l m =
      let f : Transaction → List (List ℕ) = λ x. x.regions in
      let k = progress_long m (progress n L bank l unread) in
      (map f k.0, ap (λ s. map f s.reading.done) (progress_joins l m unread) ∙ ap (map f) k.1 ∙ map-append f (progress n L bank l unread).reading.done k.0)

  pub pass_front : (l m : List Rec) → pass n L bank (l ++ m) ≡ true → pass n L bank l ≡ true
  pass_front l m e = progress_passed m (progress n L bank l unread) (ap (λ s. s.passed) (sym (progress_joins l m unread)) ∙ e)
