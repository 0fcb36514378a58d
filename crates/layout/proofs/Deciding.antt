-- What a replay decides on a volume that has a plan. Assumes nothing.
use Rattle.std.proofs.Common.{◌≡◌, ℕ, zero, suc, ◌+◌, ◌-◌, ◌<◌, ◌≤◌, Bool, true, false, ltb, leb, ◌⊎◌, List, [], ◌∷◌, ◌++◌, length, get_or, Some, Ok, Err, Option, sym, refl, ap, ◌∙◌, subst, inl, inr, mod-eq_of_lt, arith}
use Rattle.std.proofs.lemmas.Bool.{cond-true, lt-ltb}
use Rattle.std.proofs.lemmas.List.{length-map}
use Rattle.device.specs.State.{DevState, sector_at, holds}
use Rattle.device.specs.Steps.{fault, readable, read, reads, then_rest, then_read}
use Rattle.device.specs.Actions.{Action, force}
use Rattle.device.specs.declared.fault.Cause.TheVariants.{Beyond}
use Rattle.label.specs.declared.label.Label.{Label}
use Rattle.label.specs.Label.{label_of, label_bytes, limits}
use Rattle.label.specs.Position.{log_sector, volume_sector}
use Rattle.label.proofs.Back.{label_laws}
use Rattle.item.specs.Meaning.{Meaning, Bank}
use Rattle.model.specs.Refusals.{Refusal, refusal, by_session, Outcome, ◌>>=◌, need, from_device}
use Rattle.model.specs.View.{read_label, read_log, search_log, Found}
use Rattle.model.specs.Items.{applied}
use Rattle.model.specs.Reading.{Transaction, Reading, read_chain, all_items}
use Rattle.model.specs.Lay.{blanks}
use Rattle.model.specs.Calls.{Session, Plan, Counts, Passed, searched, pass_one, counts, patches, replay_plan}
use Rattle.life.specs.Disk.{Whole}
use Rattle.life.specs.Items.{open_ids}
use Rattle.life.specs.Items as life
use Rattle.life.specs.Format.{chain_items}
use Rattle.life.specs.Calls.{Readable}
use Rattle.life.specs.Calls as calls
use Rattle.life.specs.Life.{Finds}
use Rattle.layout.specs.Real.{Usable}
use Rattle.layout.specs.Plans.{HasLog}
use Rattle.layout.specs.Chains.{Three, Full, ChainRead}
use Rattle.layout.proofs.Ring.{limited}
use Rattle.layout.proofs.Real.{real}
use Rattle.layout.proofs.Search.{seek_plans}
use Rattle.layout.proofs.Chains.{chain_reads}
use Rattle.layout.proofs.Lays.{laid_item, applied_same, skipped_same}
use Rattle.layout.proofs.Laying.{lays_same}
use Rattle.layout.proofs.Writes.{blanks_same}
use Rattle.layout.proofs.Matches.{Matches}

-- sectors that can be read are read
reads_all : (d : DevState) (i k : ℕ) → i + k ≤ d.size → ((j : ℕ) → j < k → (b : List ℕ) × (sector_at d (i + j) ≡ holds b)) →
    (bs : List (List ℕ)) × (reads d i k ≡ Ok bs) × ((j : ℕ) → j < k → sector_at d (i + j) ≡ holds (get_or bs j []))
reads_all d i zero l h = ([], refl, λ j a. let z : ⊥ = omega arith in elim z [ ])
reads_all d i (suc k) l h =
    let z : i + 0 ≡ i = omega arith in
    let a = h 0 (omega arith) in
    let s : sector_at d i ≡ holds a.0 = ap (sector_at d) (sym z) ∙ a.1 in
    let r : read d i ≡ Ok a.0 =
    cond-true (ltb i d.size) (readable i (sector_at d i)) (Err (fault Beyond i)) (lt-ltb i d.size (omega arith)) ∙ ap (readable i) s in
    let ih = reads_all d (i + 1) k (omega arith) (λ j q. let y : i + suc j ≡ i + 1 + j = omega arith in let b = h (suc j) (omega arith) in (b.0, ap (sector_at d) (sym y) ∙ b.1)) in
    (a.0 ∷ ih.0, ap (λ x. then_read x (reads d (i + 1) k)) r ∙ ap (then_rest a.0) ih.1, go a.0 ih.0 s ih.2)
  where
    go : (b : List ℕ) (bs : List (List ℕ)) → sector_at d i ≡ holds b → ((j : ℕ) → j < k → sector_at d (i + 1 + j) ≡ holds (get_or bs j [])) →
        (j : ℕ) → j < suc k → sector_at d (i + j) ≡ holds (get_or (b ∷ bs) j [])
    go b bs s f zero q = let z : i + 0 ≡ i = omega arith in ap (sector_at d) z ∙ s
    go b bs s f (suc j) q = let y : i + suc j ≡ i + 1 + j = omega arith in ap (sector_at d) y ∙ f j (omega arith)

module _ (L : Label) (n : ℕ) (bank : Bank) (u : Usable L n) (d : DevState) (same : d.size ≡ n) (full : Full d)
    (label : sector_at d 0 ≡ holds (label_bytes L)) (whole : (x : ℕ) → Whole (sector_at d (volume_sector L x))) (found : Finds (real L n bank u) (sector_at d)) where
  label_read : read_label d ≡ Ok L
  label_read =
      let g = limited L n u in
      let t : ltb 0 d.size ≡ true = lt-ltb 0 d.size (omega (arith, same, g.inside, g.some)) in
      let r : read d 0 ≡ Ok (label_bytes L) = cond-true (ltb 0 d.size) (readable 0 (sector_at d 0)) (Err (fault Beyond 0)) t ∙ ap (readable 0) label in
      let b : label_of (label_bytes L) ≡ L = label_laws.label L (record {
        start = omega (arith, u.small, g.inside);
        count = omega (arith, g.few);
        window = omega (arith, g.half, g.few);
        most = omega (arith, g.short);
        uuid = u.uuid;
      }) in
      let k : limits L d.size ≡ true = ap (limits L) same ∙ u.kept in
      let one : Refusal = refusal 1 by_session 0 0 in
      ap (λ z. need z one >>= λ _. from_device (read d 0) >>= λ b. need (limits (label_of b) d.size) one >>= λ _. Ok (label_of b)) t
      ∙ ap (λ z. from_device z >>= λ b. need (limits (label_of b) d.size) one >>= λ _. Ok (label_of b)) r
      ∙ ap (λ (K : Label). need (limits K d.size) one >>= λ _. Ok K) b
      ∙ ap (λ z. need z one >>= λ _. Ok L) k

  pub log_read : (logs : List (List ℕ)) × (read_log d L ≡ Ok logs) × HasLog L (sector_at d) logs
  log_read =
      let g = limited L n u in
      let r = reads_all d L.start L.count (omega (arith, same, g.inside))
      (λ j l. let w = whole j in let m : log_sector L j ≡ j = mod-eq_of_lt l in (w.0, ap (λ x. sector_at d (L.start + x)) (sym m) ∙ w.1)) in
      (r.0, ap from_device r.1, r.2)

  -- the plan, as the search finds it
  abbrev pub finding : Found
  finding = record { log = log_read.0; M = found.m; h = found.h; n = found.n; e = found.e; t = found.t }

  pub sought_here : searched d ≡ Ok (L, finding)
  sought_here =
      ap (λ x. x >>= λ K. read_log d K >>= λ log. search_log K log >>= λ f. Ok (K, f)) label_read
      ∙ ap (λ x. x >>= λ log. search_log L log >>= λ f. Ok (L, f)) log_read.1
      ∙ ap (λ x. x >>= λ f. Ok (L, f))
      (seek_plans L n bank u (sector_at d) log_read.0 found.m found.h found.n found.e found.t found.chain log_read.2 found.plan)

  -- its chain is read, and what its patches cover can be read; or that is refused
  pub chain_here : ((r : Reading) × (read_chain d L bank finding ≡ Ok r) × ChainRead L n bank (real L n bank u) found.chain r × Readable (sector_at d) (chain_items (real L n bank u) found.chain))
      ⊎ Three (read_chain d L bank finding)
  chain_here = chain_reads L n bank u d finding found.chain same full log_read.2 found.plan found.passes

  -- what is laid
  pub patches_same : (r : Reading) → ChainRead L n bank (real L n bank u) found.chain r → Readable (sector_at d) (chain_items (real L n bank u) found.chain) →
      patches d r ≡ calls.lays (chain_items (real L n bank u) found.chain) (sector_at d)
  patches_same r k a =
      lays_same (all_items r.done) d.contents (subst (λ (l : List life.Item). Readable (sector_at d) l) (sym k.items) a)
      ∙ ap (λ l. calls.lays l (sector_at d)) k.items

  -- what a replay that is not refused has decided
  pub record Decided (p : Plan Counts (Option Session)) : Type 0 where
    pub actions : p.actions ≡ calls.replays (real L n bank u) (sector_at d) found.m found.e found.chain
    pub reads : Readable (sector_at d) (chain_items (real L n bank u) found.chain)
    pub session : Session
    pub given : p.session ≡ Some session
    pub matches : Matches L n bank session (calls.replayed found.n found.e found.t found.chain)
    pub intents : session.book.intents ≡ open_ids (chain_items (real L n bank u) found.chain)
    pub transactions : p.answer.transactions ≡ length ((real L n bank u).reads found.chain)
    pub applies : p.answer.applied ≡ length (life.applied (chain_items (real L n bank u) found.chain))
    pub skips : p.answer.skipped ≡ length (life.skipped (chain_items (real L n bank u) found.chain))
    pub opens : p.answer.intents ≡ length session.book.intents
    pub records : p.answer.records ≡ length found.chain

  decided : (r : Reading) → ChainRead L n bank (real L n bank u) found.chain r → Readable (sector_at d) (chain_items (real L n bank u) found.chain) →
      Decided (record {
        actions = force ∷ patches d r ++ blanks L log_read.0 found.e (found.m + 1 - found.e) ++ (force ∷ []);
        answer = counts r;
        session = Some (record { label = L; e = found.e; t = found.t; a = found.e; newest = log_sector L found.n; book = r.book });
      })
  decided r k a =
      let ms : List Meaning = all_items r.done in
      let f : Transaction → List (List ℕ) = λ x. x.regions in
      record {
        actions =
            ap (λ (l : List Action). force ∷ l ++ blanks L log_read.0 found.e (found.m + 1 - found.e) ++ (force ∷ [])) (patches_same r k a)
            ∙ ap (λ (l : List Action). (force ∷ (calls.lays (chain_items (real L n bank u) found.chain) (sector_at d) ++ l)) ++ (force ∷ []))
            (blanks_same L n bank u (sector_at d) log_read.0 log_read.2 found.e (found.m + 1 - found.e));
        reads = a;
        session = record { label = L; e = found.e; t = found.t; a = found.e; newest = log_sector L found.n; book = r.book };
        given = refl;
        matches = record { label = refl; e = refl; t = refl; a = refl; newest = refl; book = k.book };
        intents = k.intents;
        transactions = sym (length-map r.done f) ∙ ap length k.transactions;
        applies = sym (length-map (applied ms) laid_item) ∙ ap length (sym (applied_same ms)) ∙ ap (λ l. length (life.applied l)) k.items;
        skips = sym (skipped_same ms) ∙ ap (λ l. length (life.skipped l)) k.items;
        opens = refl;
        records = k.records;
      }

  -- a replay is refused by 3 or 4, or so decided
  pub replay_decides : (work : ℕ) →
      ((r : Refusal) × (replay_plan d bank work ≡ Err r) × ((r.number ≡ 3) ⊎ (r.number ≡ 4))) ⊎ ((p : Plan Counts (Option Session)) × (replay_plan d bank work ≡ Ok p) × Decided p)
  replay_decides work = go (leb 65536 work) chain_here
    where
      P : Passed → Outcome (Plan Counts (Option Session))
      P p = Ok (record {
        actions = force ∷ patches d p.read ++ blanks p.label p.found.log p.found.e (p.found.M + 1 - p.found.e) ++ (force ∷ []);
        answer = counts p.read;
        session = Some (record { label = p.label; e = p.found.e; t = p.found.t; a = p.found.e; newest = log_sector p.label p.found.n; book = p.read.book });
      })

      reading : Outcome Reading → Outcome (Plan Counts (Option Session))
      reading x = x >>= λ r. P (record { label = L; found = finding; read = r })

      K : (pass_one d bank >>= P) ≡ reading (read_chain d L bank finding)
      K = ap (λ x. (x >>= λ x. read_chain d x.0 bank x.1 >>= λ r. Ok (record { label = x.0; found = x.1; read = r })) >>= P) sought_here ∙ assoc (read_chain d L bank finding)
        where
          assoc : (x : Outcome Reading) → ((x >>= λ r. Ok (record { label = L; found = finding; read = r })) >>= P) ≡ (x >>= λ r. P (record { label = L; found = finding; read = r }))
          assoc (Ok r) = refl
          assoc (Err r) = refl

      go : (t : Bool) →
          ((r : Reading) × (read_chain d L bank finding ≡ Ok r) × ChainRead L n bank (real L n bank u) found.chain r × Readable (sector_at d) (chain_items (real L n bank u) found.chain))
          ⊎ Three (read_chain d L bank finding) →
          ((r : Refusal) × ((need t (refusal 4 by_session 0 0) >>= λ _. pass_one d bank >>= P) ≡ Err r) × ((r.number ≡ 3) ⊎ (r.number ≡ 4)))
          ⊎ ((p : Plan Counts (Option Session)) × ((need t (refusal 4 by_session 0 0) >>= λ _. pass_one d bank >>= P) ≡ Ok p) × Decided p)
      go false c = inl (refusal 4 by_session 0 0, refl, inr refl)
      go true (inl c) = inr (
        record {
          actions = force ∷ patches d c.0 ++ blanks L log_read.0 found.e (found.m + 1 - found.e) ++ (force ∷ []);
          answer = counts c.0;
          session = Some (record { label = L; e = found.e; t = found.t; a = found.e; newest = log_sector L found.n; book = c.0.book });
        },
        K ∙ ap reading c.1,
        decided c.0 c.2 c.3,
      )
      go true (inr c) = inl (c.0, K ∙ ap reading c.1, inl c.2)
