-- A chain that stands is read. Assumes nothing.
use Rattle.std.proofs.Common.{◌≡◌, ℕ, zero, suc, ◌+◌, ◌-◌, ◌<◌, ◌≤◌, Bool, true, false, cond, leb, ◌⊎◌, List, [], ◌∷◌, ◌++◌, map, length, get_or, Ok, Err, sym, refl, ap, ◌∙◌, subst, inl, inr, arith}
use Rattle.std.specs.List.{AllByRecursion}
use Rattle.std.proofs.lemmas.Bool.{cond-true, cond-false, le-leb, lt-leb, eqb-true}
use Rattle.std.proofs.lemmas.List.{nil_from_length}
use Rattle.device.specs.State.{DevState, sector_at}
use Rattle.label.specs.declared.label.Label.{Label}
use Rattle.label.specs.Position.{volume_sector}
use Rattle.record.specs.Record.{header_of, end_of}
use Rattle.item.specs.Meaning.{Bank}
use Rattle.model.specs.Refusals.{Outcome, ◌>>=◌}
use Rattle.model.specs.View.{at, log_header}
use Rattle.model.specs.Ops.{Op}
use Rattle.model.specs.Reading.{Transaction, Reading, begun, counted, read_ops, read_record, read_records, read_chain, all_items}
use Rattle.model.specs.Laws.{Stand}
use Rattle.model.proofs.Readback.{read_here}
use Rattle.life.specs.Disk.{holds, Whole}
use Rattle.life.specs.Items as life
use Rattle.life.specs.Items.{open_ids}
use Rattle.life.specs.Format.{Rec, size, Fits, Format, chain_items}
use Rattle.life.specs.Format as format
use Rattle.life.specs.Calls.{bytes_of, Chain, Readable}
use Rattle.life.proofs.Lists.{all_both}
use Rattle.layout.specs.Read.{clean, Progress, unread, taken, read_rec, goes, progress, asked, items}
use Rattle.layout.specs.Real.{Usable, sec}
use Rattle.layout.specs.Plans.{HasLog}
use Rattle.layout.specs.Chains.{Three, Full, ChainRead, ChainReads}
use Rattle.layout.proofs.Ring.{ring}
use Rattle.layout.proofs.Secs.{padded_whole, sectors_whole, head_of, rest_of, packed_is, back, rest_many}
use Rattle.layout.proofs.Items.{asked_joins, Told}
use Rattle.layout.proofs.More.{progress_long, progress_passed}
use Rattle.layout.proofs.Ops.{bare, dressed, Clear, Comes, comes_same, ops_on}
use Rattle.layout.proofs.Books.{ops_count, progress_booked}
use Rattle.layout.proofs.Search.{here}
use Rattle.layout.proofs.Real.{real}

-- a record whose ops passed was read
goes_ok : (n : ℕ) (L : Label) (bank : Bank) (q : Rec) (s : Progress) → s.passed ≡ true → (goes n L bank q s).passed ≡ true → read_rec n L bank q s.reading ≡ Ok (goes n L bank q s).reading
goes_ok n L bank q s h e = go s.passed (read_rec n L bank q s.reading) h e
  where
    go : (t : Bool) (x : Outcome Reading) → t ≡ true → (cond t (taken x s.reading) s).passed ≡ true → x ≡ Ok (cond t (taken x s.reading) s).reading
    go true (Ok q) h e = refl
    go true (Err r) h e = let z : ◌≡◌ {A = ℕ} 0 1 = cc in let y : ⊥ = omega arith in elim y [ ]
    go false x h e = let z : ◌≡◌ {A = ℕ} 0 1 = cc in let y : ⊥ = omega arith in elim y [ ]

-- and left no transaction open
goes_closed : (n : ℕ) (L : Label) (bank : Bank) (q : Rec) (s : Progress) → s.passed ≡ true → (goes n L bank q s).passed ≡ true → (goes n L bank q s).reading.pending ≡ []
goes_closed n L bank q s h e = go s.passed (read_rec n L bank q s.reading) h e
  where
    go : (t : Bool) (x : Outcome Reading) → t ≡ true → (cond t (taken x s.reading) s).passed ≡ true → (cond t (taken x s.reading) s).reading.pending ≡ []
    go true (Ok q) h e = nil_from_length q.pending (eqb-true (length q.pending) 0 e)
    go true (Err r) h e = let z : ◌≡◌ {A = ℕ} 0 1 = cc in let y : ⊥ = omega arith in elim y [ ]
    go false x h e = let z : ◌≡◌ {A = ℕ} 0 1 = cc in let y : ⊥ = omega arith in elim y [ ]

pub progress_closed : (n : ℕ) (L : Label) (bank : Bank) (qs : List Rec) (s : Progress) → s.passed ≡ true → s.reading.pending ≡ [] → (progress n L bank qs s).passed ≡ true →
    (progress n L bank qs s).reading.pending ≡ []
progress_closed n L bank [] s h c e = c
progress_closed n L bank (q ∷ qs) s h c e =
    let h' : (goes n L bank q s).passed ≡ true = progress_passed n L bank qs (goes n L bank q s) e in
    progress_closed n L bank qs (goes n L bank q s) h' (goes_closed n L bank q s h h') e

-- each record that passed was counted
goes_counts : (n : ℕ) (L : Label) (bank : Bank) (q : Rec) (s : Progress) → s.passed ≡ true → (goes n L bank q s).passed ≡ true → (goes n L bank q s).reading.records ≡ s.reading.records + 1
goes_counts n L bank q s h e =
    ops_count (clean n) L bank 0 q.payload 0 q.ops (counted s.reading) (goes n L bank q s).reading (goes_ok n L bank q s h e)

progress_counts : (n : ℕ) (L : Label) (bank : Bank) (qs : List Rec) (s : Progress) → s.passed ≡ true → (progress n L bank qs s).passed ≡ true →
    (progress n L bank qs s).reading.records ≡ s.reading.records + length qs
progress_counts n L bank [] s h e = omega arith
progress_counts n L bank (q ∷ qs) s h e =
    let h' : (goes n L bank q s).passed ≡ true = progress_passed n L bank qs (goes n L bank q s) e in
    omega (arith, progress_counts n L bank qs (goes n L bank q s) h' e, goes_counts n L bank q s h h')

module _ (L : Label) (n : ℕ) (bank : Bank) (u : Usable L n) (d : DevState) (logs : List (List ℕ)) (same : d.size ≡ n) (full : Full d) (has : HasLog L (sector_at d) logs) where
  module _ (r : Rec) (t p e : ℕ) (f : Fits (ring L n u) r t p) (stands : (j : ℕ) → j < size r → sector_at d (volume_sector L (p + j)) ≡ holds (sec L r t p j)) where
    -- its sectors stand in the log
    stand : Stand L logs p (head_of L n u r t p f ∷ rest_of L n u r t p f)
    stand j l =
        sym (here L n bank u (sector_at d) logs has (p + j))
        ∙ ap bytes_of (stands j (omega (arith, l, rest_many L n u r t p f)))
        ∙ ap (λ x. get_or x j []) (packed_is L n u r t p f)

    end_here : end_of (log_header L logs p) p ≡ p + size r
    end_here =
        let z : p ≡ p + 0 = omega arith in
        let w : at L logs p ≡ head_of L n u r t p f = ap (at L logs) z ∙ stand 0 (omega arith) in
        let m : end_of (header_of (head_of L n u r t p f)) p ≡ p + size r =
        omega (arith, (back L n u r t p f).ends, sectors_whole r.payload r.more f.small.whole) in
        ap (λ b. end_of (header_of b) p) w ∙ m

    record_on : p + size r ≤ e → (z : Reading) (os : List Op) (q : Reading) → map bare os ≡ map bare z.seen →
        read_rec n L bank r z ≡ Ok q → Comes d n L same full bank (read_record d L bank logs e p (dressed z os)) z q
    record_on l z os q g x =
        comes_same d n L same full bank (read_record d L bank logs e p (dressed z os)) (read_ops d L bank (volume_sector L p) r.payload 0 r.ops (counted (dressed z os))) z q
        (read_here L logs e p t r.previous r.ops r.payload (head_of L n u r t p f) (rest_of L n u r t p f) (back L n u r t p f) stand
        (omega (arith, l, sectors_whole r.payload r.more f.small.whole)) d bank (dressed z os)
        ∙ ap (λ b. read_ops d L bank (volume_sector L p) b 0 r.ops (counted (dressed z os))) (padded_whole r.payload r.more f.small.whole))
        (ops_on d n L same full bank (volume_sector L p) r.payload 0 r.ops (counted z) os q g x)

  chain_on : (chain : List Rec) (p e fuel : ℕ) (s : Progress) (os : List Op) → Chain (real L n bank u) (sector_at d) p e chain → e ≤ p + fuel → s.passed ≡ true →
      (progress n L bank chain s).passed ≡ true → map bare os ≡ map bare s.reading.seen →
      Comes d n L same full bank (read_records d L bank logs e p fuel (dressed s.reading os)) s.reading (progress n L bank chain s).reading
  chain_on [] p e zero s os k l h w g = inl ((os, refl, g), λ a. a)
  chain_on [] p e (suc m) s os k l h w g =
      inl (
        (
          os,
          cond-true (leb e p) (Ok (dressed s.reading os))
              (read_record d L bank logs e p (dressed s.reading os) >>= λ q. read_records d L bank logs e (end_of (log_header L logs p) p) m q) (le-leb e p (omega (arith, k))),
          g,
        ),
        λ a. a,
      )
  chain_on (r ∷ rs) p e zero s os k l h w g = let z : ⊥ = omega (arith, k.0, l) in elim z [ ]
  chain_on (r ∷ rs) p e (suc m) s os k l h w g =
      let s' : Progress = goes n L bank r s in
      let h' : s'.passed ≡ true = progress_passed n L bank rs s' w in
      let f : Fits (ring L n u) r k.1.0 p = k.1.1 in
      let b : p + size r ≤ e = chain_ends rs (p + size r) e k.2 in
      let N : Reading → Outcome Reading = λ q. read_records d L bank logs e (end_of (log_header L logs p) p) m q in
      let K : read_records d L bank logs e p (suc m) (dressed s.reading os) ≡ (read_record d L bank logs e p (dressed s.reading os) >>= λ q. read_records d L bank logs e (p + size r) m q) =
      cond-false (leb e p) (Ok (dressed s.reading os)) (read_record d L bank logs e p (dressed s.reading os) >>= N) (lt-leb e p (omega (arith, k.0)))
      ∙ ap (λ y. read_record d L bank logs e p (dressed s.reading os) >>= λ q. read_records d L bank logs e y m q) (end_here r k.1.0 p e f k.1.2) in
      go K (record_on r k.1.0 p e f k.1.2 b s.reading os s'.reading g (goes_ok n L bank r s h h')) (λ os i. chain_on rs (p + size r) e m s' os k.2 (omega (arith, l)) h' w i)
    where
      chain_ends : (rs : List Rec) (p e : ℕ) → Chain (real L n bank u) (sector_at d) p e rs → p ≤ e
      chain_ends [] p e k = omega (arith, k)
      chain_ends (r ∷ rs) p e k = omega (arith, k.0)

      go : read_records d L bank logs e p (suc m) (dressed s.reading os) ≡ (read_record d L bank logs e p (dressed s.reading os) >>= λ q. read_records d L bank logs e (p + size r) m q) →
          Comes d n L same full bank (read_record d L bank logs e p (dressed s.reading os)) s.reading (goes n L bank r s).reading →
          ((os : List Op) → map bare os ≡ map bare (goes n L bank r s).reading.seen →
          Comes d n L same full bank (read_records d L bank logs e (p + size r) m (dressed (goes n L bank r s).reading os)) (goes n L bank r s).reading (progress n L bank rs (goes n L bank r s)).reading) →
          Comes d n L same full bank (read_records d L bank logs e p (suc m) (dressed s.reading os)) s.reading (progress n L bank rs (goes n L bank r s)).reading
      go K (inl t) ih = then (ih t.0.0 t.0.2)
        where
          then : Comes d n L same full bank (read_records d L bank logs e (p + size r) m (dressed (goes n L bank r s).reading t.0.0)) (goes n L bank r s).reading (progress n L bank rs (goes n L bank r s)).reading →
              Comes d n L same full bank (read_records d L bank logs e p (suc m) (dressed s.reading os)) s.reading (progress n L bank rs (goes n L bank r s)).reading
          then (inl i) = inl ((i.0.0, K ∙ ap (λ x. x >>= λ q. read_records d L bank logs e (p + size r) m q) t.0.1 ∙ i.0.1, i.0.2), λ a. i.1 (t.1 a))
          then (inr i) = inr (i.0, K ∙ ap (λ x. x >>= λ q. read_records d L bank logs e (p + size r) m q) t.0.1 ∙ i.1, i.2)
      go K (inr t) ih = inr (t.0, K ∙ ap (λ x. x >>= λ q. read_records d L bank logs e (p + size r) m q) t.1, t.2)

module _ (L : Label) (n : ℕ) (bank : Bank) (u : Usable L n) where
  -- what transactions ask, from their regions and from what was found
  pub asked_all : (xs : List Transaction) → AllByRecursion (Told bank) xs → asked (all_items xs) ≡ format.all_items (real L n bank u) (map (λ x. x.regions) xs)
  asked_all [] t = refl
  asked_all (x ∷ xs) t =
      asked_joins x.items (all_items xs) ∙ ap (λ l. l ++ asked (all_items xs)) (sym t.0) ∙ ap (λ l. items bank x.regions ++ l) (asked_all xs t.1)

  cleared_all : (d : DevState) (same : d.size ≡ n) (full : Full d) (xs : List Transaction) → AllByRecursion (Told bank) xs → AllByRecursion (Clear d n L same full bank) xs →
      Readable (sector_at d) (format.all_items (real L n bank u) (map (λ x. x.regions) xs))
  cleared_all d same full [] t a = tt
  cleared_all d same full (x ∷ xs) t a =
      let P : life.Item → Type 0 = λ i. AllByRecursion (λ k. Whole (sector_at d k)) (life.covered i) in
      let rest : List life.Item = format.all_items (real L n bank u) (map (λ (y : Transaction). y.regions) xs) in
      all_both P (items bank x.regions) rest (subst (λ (l : List life.Item). Readable (sector_at d) l) (sym t.0) a.0) (cleared_all d same full xs t.1 a.1)

  pub chain_reads : ChainReads L n bank (real L n bank u)
  chain_reads d f chain same full has P w =
      let s : Progress = progress n L bank chain unread in
      let v = progress_long n L bank chain unread in
      let t : AllByRecursion (Told bank) s.reading.done = subst (λ (x : List Transaction). AllByRecursion (Told bank) x) (sym v.1) v.2 in
      go t (chain_on L n bank u d f.log same full has chain f.t f.e (f.e - f.t) unread [] P.chained (omega (arith, P.before)) refl w refl)
    where
      go : AllByRecursion (Told bank) (progress n L bank chain unread).reading.done →
          Comes d n L same full bank (read_chain d L bank f) begun (progress n L bank chain unread).reading →
          ((r : Reading) × (read_chain d L bank f ≡ Ok r) × ChainRead L n bank (real L n bank u) chain r × Readable (sector_at d) (chain_items (real L n bank u) chain)) ⊎ Three (read_chain d L bank f)
      go t (inl k) =
          let q : Reading = (progress n L bank chain unread).reading in
          let x : asked (all_items q.done) ≡ chain_items (real L n bank u) chain = asked_all q.done t in
          inl (
            dressed q k.0.0,
            k.0.1,
            record {
              closed = progress_closed n L bank chain unread refl refl w;
              records = omega (arith, progress_counts n L bank chain unread refl w);
              transactions = refl;
              items = x;
              book = refl;
              intents = progress_booked n L bank chain unread refl ∙ ap open_ids x;
            },
            cleared_all d same full q.done t (k.1 tt),
          )
      go t (inr k) = inr k
